-- The lines after the declarations: whole blocks, and then the lines of the schedule.
use Rattle.std.proofs.Common.{◌≡◌, ◌==◌, ℕ, ◌+◌, ◌<◌, ◌≤◌, List, [], ◌∷◌, ◌++◌, length, map, true, false, cond, eqb, nat_le, nat_lt, Option, Some, None, option_map, refl, sym, ap, ap₂, ◌∙◌, subst, arith, codes, append_assoc, append-nil, length-append, slice_set, get_or, eqb-true, ne_eqb}
use Rattle.std.specs.List.{AllByRecursion, flat_map, join_with_byte, list_any}
use Rattle.std.proofs.lemmas.Bool.{leb-false, or_parts, or_from, leb-true, ltb-false, eqb-false, and_left, and_right}
use Rattle.ec_count.specs.Members.{is_member, has_repeat}
use Rattle.ec_text.specs.Words.{words_of}
use Rattle.ec_text.proofs.shared.WordLemmas.{split_join}
use Rattle.ec_heading.specs.HeadingModel.{HeadingModel}
use Rattle.ec_heading.specs.Heading.{is_no_line}
use Rattle.ec_heading.specs.Lists.{worker_in, ids_in, has_unknown}
use Rattle.ec_heading.specs.Spelling.{list_words}
use Rattle.ec_heading.proofs.shared.Declarable.{Heads}
use Rattle.ec_heading.proofs.shared.Listed.{IsAt, AreBelow, with_others, worker_found, ids_spelled, ids_below}
use Rattle.ec_heading.proofs.shared.LineWords.{listed_length}
use Rattle.ec_script.specs.declared.verb.LineWord.{LineWord}
use Rattle.ec_script.specs.declared.verb.LineWord.TheVariants as verbs
use Rattle.ec_script.specs.declared.object.Object.{Object}
use Rattle.ec_script.specs.declared.object.Object.TheVariants.{Nothing, Worker}
use Rattle.ec_script.specs.declared.block_item.BlockItem.{BlockItem}
use Rattle.ec_script.specs.declared.block_item.BlockItem.TheVariants.{Begin, End}
use Rattle.ec_script.specs.declared.script.OpenBlock.{OpenBlock as Open}
use Rattle.ec_script.specs.declared.stage.Stage.{Stage}
use Rattle.ec_script.specs.declared.stage.Stage.TheVariants.{Reading}
use Rattle.ec_script.specs.Forms.{Phrase, phrase_in, Worded}
use Rattle.ec_script.specs.Objects.{object_for, object_in}
use Rattle.ec_script.specs.Kinds.{or_nothing, is_named_again}
use Rattle.ec_script.specs.BlockItems.{size_in, command_in}
use Rattle.ec_script.specs.Verbs.{is_update, is_outer}
use Rattle.ec_script.specs.DraftModel.{empty_draft, draft_with_item}
use Rattle.ec_script.specs.ScriptModel.{ScriptModel, PlanModel}
use Rattle.ec_script.specs.Reading.{view_of_block, context_of_script, after, after_verb, after_command, block_with_item, is_declaring, script_step, step}
use Rattle.ec_script.specs.Outcome.{plan_in}
use Rattle.ec_script.specs.Grammar.{Leads}
use Rattle.ec_script.specs.Layout.{item_by, IsLineOfItem, Block, IsBlock, texts_of, items_of, AreNested, commands_in, worker_line, block_lines, schedule_line, IsRow, concat_rows, workers_of, blocks_of_items, blocks_of_items}
use Rattle.ec_script.proofs.PhraseWords.{made, worded}
use Rattle.ec_script.proofs.Passing.{IsAcceptedAs, IsNoDeclaration, taken_back, read_back}
use Rattle.ec_script.proofs.Said.{IsCommand, Ordered, ordered_of, some_object, said, MayNest, step_may, nested_more, few_more, room_more}
use Rattle.ec_script.proofs.Room.{Passes, end_deep as end_inner}
use Rattle.ec_script.proofs.shared.Keeping.{with_item_adds as orders_more}

abbrev pub state : HeadingModel → List ℕ → List (List BlockItem) → Option Open → List ℕ
    → ScriptModel
state h named ps b sc = record { heading = h; named = named; programs = ps; block = b; schedule = sc }

-- the programs after these blocks
abbrev pub set_all : List (List BlockItem) → List Block → List (List BlockItem)
set_all ps [] = ps
set_all ps (b ∷ bs) = set_all (slice_set ps b.worker (items_of b.lines)) bs

abbrev pub planned : HeadingModel → List (List BlockItem) → List ℕ → PlanModel
planned h ps sc = record { heading = h; programs = ps; schedule = sc }

-- OUTSIDE A BLOCK, AND IN ONE

pub record Closed (h : HeadingModel) (ws : List (List ℕ)) (named : List ℕ) (ps : List (List BlockItem)) (sc : List ℕ) (lines : List (List ℕ)) (p : PlanModel) : Type 0 where
  pub blocks : List Block
  pub rows : List (List ℕ)
  pub are : lines ≡ flat_map (block_lines ws) blocks ++ map (schedule_line ws) rows
  pub each : AllByRecursion (IsBlock h) blocks
  pub new : AllByRecursion (λ (b : Block). is_member b.worker named ≡ false) blocks
  pub differ : has_repeat (workers_of (blocks_of_items blocks)) ≡ false
  pub rows_are : AllByRecursion (IsRow ws) rows
  pub few : length (sc ++ concat_rows rows) ≤ 65536
  pub late : 0 < length sc → blocks ≡ []
  pub plan : p ≡ planned h (set_all ps blocks) (sc ++ concat_rows rows)

pub record Opened (h : HeadingModel) (ws : List (List ℕ)) (named : List ℕ) (ps : List (List BlockItem)) (b : Open) (sc : List ℕ) (lines : List (List ℕ)) (p : PlanModel) : Type 0 where
  pub inside : List (List ℕ × BlockItem)
  pub more : List (List ℕ)
  pub are : lines ≡ texts_of inside ++ codes "end" ∷ more
  pub each : AllByRecursion (λ (l : List ℕ × BlockItem). IsLineOfItem h b.worker l.0 l.1) inside
  pub nested : AreNested b.draft.depth b.draft.is_empty (items_of inside)
  pub few : b.draft.commands + commands_in (items_of inside) ≤ 4096
  pub behind : Closed h ws named (slice_set ps b.worker (b.draft.block_items ++ items_of inside)) sc more p

abbrev pub Rests : HeadingModel → List (List ℕ) → List ℕ → List (List BlockItem) → Option Open → List ℕ → List (List ℕ) → PlanModel → Type 0
Rests h ws named ps None sc lines p = Closed h ws named ps sc lines p
Rests h ws named ps (Some b) sc lines p = Opened h ws named ps b sc lines p

-- the numbers are within their bounds, and a block that is open began
abbrev pub IsWithin : List ℕ → Option Open → List ℕ → Type 0
IsWithin named None sc = length sc ≤ 65536
IsWithin named (Some b) sc = (length sc ≤ 65536) × (b.draft.commands ≤ 4096) × (0 < length named)

-- what is known of the lines that follow
abbrev Others : HeadingModel → List (List ℕ) → List (List ℕ) → PlanModel → ScriptModel → Type 0
Others h ws lines p s =
    (named : List ℕ) (ps : List (List BlockItem)) (b : Option Open) (sc : List ℕ) → IsWithin named b sc → is_declaring (state h named ps b sc) ≡ false → s ≡ state h named ps b sc → Rests h ws named ps b sc lines p

-- LISTS

pub joins : {A : Type 0} (xs : List A) (e : A) (fs rs : List A) → xs ++ e ∷ (fs ++ rs) ≡ ((xs ++ e ∷ []) ++ fs) ++ rs
joins xs e fs rs = sym (append_assoc xs (e ∷ []) (fs ++ rs)) ∙ sym (append_assoc (xs ++ e ∷ []) fs rs)

member_push : (w i : ℕ) (named : List ℕ) → is_member w (named ++ i ∷ []) ≡ false → (is_member w named ≡ false) × ((i == w) ≡ false)
member_push w i [] is = (refl, (or_parts (eqb i w) false is).0)
member_push w i (v ∷ named) is =
    let p = or_parts (eqb v w) (is_member w (named ++ i ∷ [])) is in
    let q = member_push w i named p.1 in
    (or_from _ _ p.0 q.0, q.1)

none_new : (i : ℕ) (named : List ℕ) (bs : List Block) → AllByRecursion (λ (b : Block). is_member b.worker (named ++ i ∷ []) ≡ false) bs
    → AllByRecursion (λ (b : Block). is_member b.worker named ≡ false) bs × (is_member i (workers_of (blocks_of_items bs)) ≡ false)
none_new i named [] all = (tt, refl)
none_new i named (b ∷ bs) all =
    let p = member_push b.worker i named all.0 in
    let q = none_new i named bs all.1 in
    let other : eqb b.worker i ≡ false = ne_eqb _ _ (λ e. eqb-false i b.worker p.1 (sym e)) in
    ((p.0, q.0), or_from _ _ other q.1)

each_below : (n : ℕ) (ids : List ℕ) → AreBelow n ids → AllByRecursion (λ w. w < n) ids
each_below n [] h = tt
each_below n (i ∷ ids) h = (h.0, each_below n ids h.1)

pub no_words : (us : List (List ℕ)) → eqb (length us) 0 ≡ true → us ≡ []
no_words [] is = refl
no_words (u ∷ us) is = absurd (omega (arith, eqb-true (length (u ∷ us)) 0 is))

pub line_of : (line : List ℕ) (words : List (List ℕ)) → words_of line ≡ words → line ≡ join_with_byte 32 words
line_of line words is = sym (split_join line) ∙ ap (join_with_byte 32) is

some_named : (named : List ℕ) (i : ℕ) → eqb (length (named ++ i ∷ [])) 0 ≡ false
some_named named i = ne_eqb (length (named ++ i ∷ [])) 0 (λ e. omega (arith, e, length-append named (i ∷ [])))

-- A LINE OUTSIDE A BLOCK

abbrev Form : List ℕ → LineWord → List ℕ → List (List ℕ) → Type 0
Form line v w us = (is_no_line line ≡ false) × (phrase_in (words_of line) ≡ Some (made v w us))

abbrev PassesIn : ScriptModel → LineWord → List ℕ → List (List ℕ) → Type 0
PassesIn s v w us = Passes (context_of_script s) (made v w us) (object_for s.heading v w us)

-- a `worker` line, and the rest of its block and what follows
begins : (h : HeadingModel) (ws : List (List ℕ)) (p : PlanModel) (line : List ℕ) (lines : List (List ℕ)) (named : List ℕ) (ps : List (List BlockItem)) (sc : List ℕ) (i : ℕ)
    → line ≡ worker_line ws i → i < h.setup.workers → is_member i named ≡ false → length sc ≡ 0
    → Opened h ws (named ++ i ∷ []) ps (record { worker = i; draft = empty_draft }) sc lines p → Closed h ws named ps sc (line ∷ lines) p
begins h ws p line lines named ps sc i is declared new none r =
    let b : Block = record { worker = i; lines = r.inside } in
    let news = none_new i named r.behind.blocks r.behind.new in
    record {
      blocks = b ∷ r.behind.blocks;
      rows = r.behind.rows;
      are = ap₂ (λ (l : List ℕ) (ls : List (List ℕ)). l ∷ ls) is
          (r.are ∙ ap (λ (ls : List (List ℕ)). texts_of r.inside ++ codes "end" ∷ ls) r.behind.are
          ∙ joins (texts_of r.inside) (codes "end") (flat_map (block_lines ws) r.behind.blocks) (map (schedule_line ws) r.behind.rows));
      each = (record { worker = declared; each = r.each; nested = r.nested; few = omega (arith, r.few) }, r.behind.each);
      new = (new, news.0);
      differ = or_from _ _ news.1 r.behind.differ;
      rows_are = r.behind.rows_are;
      few = r.behind.few;
      late = λ some. absurd (omega (arith, some, none));
      plan = r.behind.plan;
    }

-- a line of the schedule, and what follows it
schedules : (h : HeadingModel) (ws : List (List ℕ)) (p : PlanModel) (line : List ℕ) (lines : List (List ℕ)) (named : List ℕ) (ps : List (List BlockItem)) (sc ids : List ℕ)
    → line ≡ schedule_line ws ids → IsRow ws ids
    → Closed h ws named ps (sc ++ ids) lines p → Closed h ws named ps sc (line ∷ lines) p
schedules h ws p line lines named ps sc ids is row r =
    let none : r.blocks ≡ [] = r.late (omega (arith, row.some, length-append sc ids)) in
    let all : (sc ++ ids) ++ concat_rows r.rows ≡ sc ++ concat_rows (ids ∷ r.rows) = append_assoc sc ids (concat_rows r.rows) in
    record {
      blocks = [];
      rows = ids ∷ r.rows;
      are = ap₂ (λ (l : List ℕ) (ls : List (List ℕ)). l ∷ ls) is (r.are ∙ ap (λ (bs : List Block). flat_map (block_lines ws) bs ++ map (schedule_line ws) r.rows) none);
      each = tt;
      new = tt;
      differ = refl;
      rows_are = (row, r.rows_are);
      few = subst (λ (xs : List ℕ). length xs ≤ 65536) all r.few;
      late = λ some. refl;
      plan = r.plan ∙ ap₂ (λ (bs : List Block) (xs : List ℕ). planned h (set_all ps bs) xs) none all;
    }

some_worker : (h : HeadingModel) (v : LineWord) (us : List (List ℕ)) (x : Option ℕ) → (o : Object) → option_map Worker x ≡ Some o → (i : ℕ) × (x ≡ Some i)
some_worker h v us None o is = cc
some_worker h v us (Some i) o is = (i, refl)

worker_begins : (h : HeadingModel) (ws : List (List ℕ)) → Heads ws h → (p : PlanModel) (line : List ℕ) (lines : List (List ℕ)) (named : List ℕ) (ps : List (List BlockItem)) (sc : List ℕ) (w : List ℕ) (us : List (List ℕ))
    → IsWithin named None sc → Form line verbs.Worker w us → PassesIn (state h named ps None sc) verbs.Worker w us
    → Others h ws lines p (after (state h named ps None sc) (made verbs.Worker w us)) → Closed h ws named ps sc (line ∷ lines) p
worker_begins h ws heads p line lines named ps sc w us within form passes others =
    let words : Worded (words_of line) (made verbs.Worker w us) = worded (words_of line) (made verbs.Worker w us) form.1 in
    let o = some_object (object_for h verbs.Worker w us) passes.found in
    let x = some_worker h verbs.Worker us (worker_in h.words w) o.0 o.1 in
    let at : IsAt ws 0 w x.0 = worker_found ws 0 heads.others w x.0 heads.none (ap (λ es. worker_in es w) (sym heads.words) ∙ x.1) in
    let place : x.0 ≡ at.place = omega (arith, at.number) in
    let name : get_or ws x.0 [] ≡ w = ap (λ k. get_or ws k []) place ∙ at.name in
    let is : line ≡ worker_line ws x.0 = line_of line (codes "worker" ∷ w ∷ us) words.are ∙ ap₂ (λ (v : List ℕ) (vs : List (List ℕ)). join_with_byte 32 (codes "worker" ∷ v ∷ vs)) (sym name) (no_words us words.tail) in
    begins h ws p line lines named ps sc x.0 is (omega (arith, place, at.within, heads.count))
    (ap (λ y. is_named_again named (or_nothing (option_map Worker y))) (sym x.1) ∙ passes.new)
    (eqb-true _ _ passes.allowed)
    (others (named ++ x.0 ∷ []) ps (Some (record { worker = x.0; draft = empty_draft })) sc (within, omega arith, omega (arith, length-append named (x.0 ∷ [])))
    (and_left _ _ (some_named named x.0))
    (ap (λ y. after_verb verbs.Worker (state h named ps None sc) (or_nothing (option_map Worker y)) us) x.1))

row_goes : (h : HeadingModel) (ws : List (List ℕ)) → Heads ws h → (p : PlanModel) (line : List ℕ) (lines : List (List ℕ)) (named : List ℕ) (ps : List (List BlockItem)) (sc : List ℕ) (w : List ℕ) (us : List (List ℕ))
    → Form line verbs.Schedule w us → PassesIn (state h named ps None sc) verbs.Schedule w us
    → Others h ws lines p (after (state h named ps None sc) (made verbs.Schedule w us)) → Closed h ws named ps sc (line ∷ lines) p
row_goes h ws heads p line lines named ps sc w us form passes others =
    let words : Worded (words_of line) (made verbs.Schedule w us) = worded (words_of line) (made verbs.Schedule w us) form.1 in
    let known : has_unknown (with_others ws heads.others) us ≡ false = ap (λ es. has_unknown es us) (sym heads.words) ∙ passes.known in
    let spelled : list_words ws (ids_in h.words us) ≡ us = ap (λ es. list_words ws (ids_in es us)) heads.words ∙ ids_spelled ws heads.others us heads.none known in
    let many : length (ids_in h.words us) ≡ length us = sym (listed_length ws (ids_in h.words us)) ∙ ap length spelled in
    let is : line ≡ schedule_line ws (ids_in h.words us) = line_of line (codes "schedule" ∷ us) words.are ∙ ap (λ (vs : List (List ℕ)). join_with_byte 32 (codes "schedule" ∷ vs)) (sym spelled) in
    let some : 1 ≤ length us = leb-true _ _ words.tail in
    let few : length sc + length us ≤ 65536 = ltb-false _ _ passes.few in
    let long = or_parts (nat_lt 8192 (length line)) (list_any (λ w. length w == 0) (words_of line)) form.0 in
    let row : IsRow ws (ids_in h.words us) = record {
      some = omega (arith, some, many);
      declared = each_below (length ws) (ids_in h.words us) (subst (λ es. AreBelow (length ws) (ids_in es us)) (sym heads.words) (ids_below ws heads.others us heads.none));
      short = subst (λ (l : List ℕ). length l ≤ 8192) is (ltb-false _ _ long.0);
    } in
    schedules h ws p line lines named ps sc (ids_in h.words us) is row
    (others named ps None (sc ++ ids_in h.words us) (omega (arith, few, many, length-append sc (ids_in h.words us)))
    (and_right _ _ (ne_eqb (length (sc ++ ids_in h.words us)) 0 (λ e. omega (arith, e, some, many, length-append sc (ids_in h.words us))))) refl)

outside : (h : HeadingModel) (ws : List (List ℕ)) → Heads ws h → (p : PlanModel) (line : List ℕ) (lines : List (List ℕ)) (named : List ℕ) (ps : List (List BlockItem)) (sc : List ℕ) (v : LineWord) (w : List ℕ) (us : List (List ℕ))
    → IsWithin named None sc → Form line v w us → PassesIn (state h named ps None sc) v w us
    → Others h ws lines p (after (state h named ps None sc) (made v w us)) → Closed h ws named ps sc (line ∷ lines) p
outside h ws heads p line lines named ps sc verbs.Worker w us within form passes others = worker_begins h ws heads p line lines named ps sc w us within form passes others
outside h ws heads p line lines named ps sc verbs.Schedule w us within form passes others = row_goes h ws heads p line lines named ps sc w us form passes others
outside h ws heads p line lines named ps sc v w us within form passes others = (let no = passes.allowed in cc)

-- A LINE OF A BLOCK

-- one more line before those of a block
goes_before : (h : HeadingModel) (ws : List (List ℕ)) (p : PlanModel) (line : List ℕ) (lines : List (List ℕ)) (named : List ℕ) (ps : List (List BlockItem)) (b : Open) (sc : List ℕ) (o : BlockItem)
    → IsLineOfItem h b.worker line o → MayNest b.draft o
    → Opened h ws named ps (record { worker = b.worker; draft = draft_with_item b.draft o }) sc lines p → Opened h ws named ps b sc (line ∷ lines) p
goes_before h ws p line lines named ps b sc o says may r =
    let all : (draft_with_item b.draft o).block_items ++ items_of r.inside ≡ b.draft.block_items ++ o ∷ items_of r.inside =
    ap (λ (os : List BlockItem). os ++ items_of r.inside) (orders_more b.draft o) ∙ append_assoc b.draft.block_items (o ∷ []) (items_of r.inside) in
    record {
      inside = (line, o) ∷ r.inside;
      more = r.more;
      are = ap (λ (ls : List (List ℕ)). line ∷ ls) r.are;
      each = (says, r.each);
      nested = nested_more b.draft o (items_of r.inside) may r.nested;
      few = few_more b.draft o (items_of r.inside) r.few;
      behind = subst (λ (os : List BlockItem). Closed h ws named (slice_set ps b.worker os) sc r.more p) all r.behind;
    }

-- an item that a line says comes next in the block
item_goes : (h : HeadingModel) (ws : List (List ℕ)) (p : PlanModel) (line : List ℕ) (lines : List (List ℕ)) (named : List ℕ) (ps : List (List BlockItem)) (b : Open) (sc : List ℕ) (o : BlockItem) (s : ScriptModel)
    → IsWithin named (Some b) sc → IsLineOfItem h b.worker line o → MayNest b.draft o → s ≡ block_with_item (state h named ps (Some b) sc) (Some b) o → Others h ws lines p s → Opened h ws named ps b sc (line ∷ lines) p
item_goes h ws p line lines named ps b sc o s within says may is others =
    goes_before h ws p line lines named ps b sc o says may
    (others named ps (Some (record { worker = b.worker; draft = draft_with_item b.draft o })) sc (within.0, room_more b.draft o may within.1, within.2)
    (and_left _ _ (ne_eqb (length named) 0 (λ e. (let some : 0 < length named = within.2 in omega (arith, e, some))))) is)

-- the `end` of the block
block_ends : (h : HeadingModel) (ws : List (List ℕ)) (p : PlanModel) (line : List ℕ) (lines : List (List ℕ)) (named : List ℕ) (ps : List (List BlockItem)) (b : Open) (sc : List ℕ)
    → IsWithin named (Some b) sc → line ≡ codes "end" → b.draft.depth ≡ 0 → Closed h ws named (slice_set ps b.worker b.draft.block_items) sc lines p → Opened h ws named ps b sc (line ∷ lines) p
block_ends h ws p line lines named ps b sc within is closed r = record {
  inside = [];
  more = lines;
  are = ap (λ (l : List ℕ). l ∷ lines) is;
  each = tt;
  nested = closed;
  few = omega (arith, within.1);
  behind = subst (λ (os : List BlockItem). Closed h ws named (slice_set ps b.worker os) sc lines p) (sym (append-nil b.draft.block_items)) r;
}

command_goes : (h : HeadingModel) (ws : List (List ℕ)) (p : PlanModel) (line : List ℕ) (lines : List (List ℕ)) (named : List ℕ) (ps : List (List BlockItem)) (b : Open) (sc : List ℕ) (v : LineWord) (w : List ℕ) (us : List (List ℕ))
    → IsCommand v → IsWithin named (Some b) sc → Form line v w us → PassesIn (state h named ps (Some b) sc) v w us → is_outer v ≡ false → ((o : Object) → item_by v o us ≡ command_in v (is_update v) o us) → nat_le 4096 b.draft.commands ≡ false
    → after (state h named ps (Some b) sc) (made v w us) ≡ after_command (state h named ps (Some b) sc) (command_in v (is_update v) (or_nothing (object_for h v w us)) us)
    → Others h ws lines p (after (state h named ps (Some b) sc) (made v w us)) → Opened h ws named ps b sc (line ∷ lines) p
command_goes h ws p line lines named ps b sc v w us command within form passes inner by room leads others =
    let x = some_object (object_for h v w us) passes.found in
    let d : Ordered v x.0 us = ordered_of h v w us x.0 command x.1 in
    let says : IsLineOfItem h b.worker line d.item = said (context_of_script (state h named ps (Some b) sc)) (view_of_block b) line v w us x.0 d.item form.0 form.1 inner refl x.1 passes (by x.0 ∙ d.is) in
    item_goes h ws p line lines named ps b sc d.item (after (state h named ps (Some b) sc) (made v w us)) within says (step_may b.draft d.item d.step (leb-false 4096 b.draft.commands room))
    (leads ∙ ap (λ y. after_command (state h named ps (Some b) sc) (command_in v (is_update v) (or_nothing y) us)) x.1 ∙ ap (after_command (state h named ps (Some b) sc)) d.is) others

repeat_goes : (h : HeadingModel) (ws : List (List ℕ)) (p : PlanModel) (line : List ℕ) (lines : List (List ℕ)) (named : List ℕ) (ps : List (List BlockItem)) (b : Open) (sc : List ℕ) (w : List ℕ) (us : List (List ℕ))
    → IsWithin named (Some b) sc → Form line verbs.Repeat w us → PassesIn (state h named ps (Some b) sc) verbs.Repeat w us
    → Others h ws lines p (after (state h named ps (Some b) sc) (made verbs.Repeat w us)) → Opened h ws named ps b sc (line ∷ lines) p
repeat_goes h ws p line lines named ps b sc w us within form passes others =
    let says : IsLineOfItem h b.worker line (Begin (size_in us)) = said (context_of_script (state h named ps (Some b) sc)) (view_of_block b) line verbs.Repeat w us Nothing (Begin (size_in us)) form.0 form.1 refl refl refl passes refl in
    item_goes h ws p line lines named ps b sc (Begin (size_in us)) (after (state h named ps (Some b) sc) (made verbs.Repeat w us)) within says (leb-false 4 b.draft.depth passes.nested, leb-false 4096 b.draft.commands passes.few) refl others

end_goes : (h : HeadingModel) (ws : List (List ℕ)) (p : PlanModel) (line : List ℕ) (lines : List (List ℕ)) (named : List ℕ) (ps : List (List BlockItem)) (b : Open) (sc : List ℕ) (w : List ℕ) (us : List (List ℕ))
    → IsWithin named (Some b) sc → Form line verbs.End w us → PassesIn (state h named ps (Some b) sc) verbs.End w us
    → Others h ws lines p (after (state h named ps (Some b) sc) (made verbs.End w us)) → Opened h ws named ps b sc (line ∷ lines) p
end_goes h ws p line lines named ps b sc w us within form passes others =
    let words : Worded (words_of line) (made verbs.End w us) = worded (words_of line) (made verbs.End w us) form.1 in
    let is : line ≡ codes "end" = line_of line (codes "end" ∷ us) words.are ∙ ap (λ (vs : List (List ℕ)). join_with_byte 32 (codes "end" ∷ vs)) (no_words us words.tail) in
    let done : ScriptModel = state h named (slice_set ps b.worker b.draft.block_items) None sc in
    let inner : ScriptModel = block_with_item (state h named ps (Some b) sc) (Some b) End in
    let past : eqb (length named) 0 ≡ false = ne_eqb (length named) 0 (λ e. (let some : 0 < length named = within.2 in omega (arith, e, some))) in
    (elim (eqb b.draft.depth 0) as (λ t. eqb b.draft.depth 0 ≡ t → Opened h ws named ps b sc (line ∷ lines) p) [
      | true ↦ λ e.
          block_ends h ws p line lines named ps b sc within is (eqb-true _ _ e)
          (others named (slice_set ps b.worker b.draft.block_items) None sc within.0 (and_left _ _ past) (ap (λ t. cond t done inner) e))
      | false ↦ λ e.
          (let deep : 0 < b.draft.depth = omega (arith, eqb-false _ _ e) in
          let says : IsLineOfItem h b.worker line End = said (context_of_script (state h named ps (Some b) sc)) (view_of_block b) line verbs.End w us Nothing End form.0 form.1 refl refl refl passes refl in
          item_goes h ws p line lines named ps b sc End (after (state h named ps (Some b) sc) (made verbs.End w us)) within says (deep, end_inner b.draft.depth b.draft.is_empty passes.nested deep) (ap (λ t. cond t done inner) e) others)
    ]) refl

inside : (h : HeadingModel) (ws : List (List ℕ)) (p : PlanModel) (line : List ℕ) (lines : List (List ℕ)) (named : List ℕ) (ps : List (List BlockItem)) (b : Open) (sc : List ℕ) (v : LineWord) (w : List ℕ) (us : List (List ℕ))
    → IsWithin named (Some b) sc → Form line v w us → PassesIn (state h named ps (Some b) sc) v w us
    → Others h ws lines p (after (state h named ps (Some b) sc) (made v w us)) → Opened h ws named ps b sc (line ∷ lines) p
inside h ws p line lines named ps b sc verbs.Worker w us within form passes others = (let no = passes.nested in cc)
inside h ws p line lines named ps b sc verbs.Schedule w us within form passes others = (let no = passes.nested in cc)
inside h ws p line lines named ps b sc verbs.Repeat w us within form passes others = repeat_goes h ws p line lines named ps b sc w us within form passes others
inside h ws p line lines named ps b sc verbs.End w us within form passes others = end_goes h ws p line lines named ps b sc w us within form passes others
inside h ws p line lines named ps b sc v w us within form passes others = command_goes h ws p line lines named ps b sc v w us tt within form passes refl (λ o. refl) passes.few refl others

-- ALL LINES

-- none is read as a declaration
abbrev pub AreNoDeclarations : ScriptModel → List (List ℕ) → Type 0
AreNoDeclarations s [] = Unit {0}
AreNoDeclarations s (line ∷ lines) = IsNoDeclaration s line

none_declares : (s : ScriptModel) (lines : List (List ℕ)) → is_declaring s ≡ false
    → AreNoDeclarations s lines
none_declares s [] is = tt
none_declares s (line ∷ lines) is = and_left _ _ is

no_more : (h : HeadingModel) (ws : List (List ℕ)) (p : PlanModel) (named : List ℕ) (ps : List (List BlockItem)) (b : Option Open) (sc : List ℕ) (t : Stage)
    → IsWithin named b sc → Reading (state h named ps b sc) ≡ t → plan_in t ≡ Some p → Rests h ws named ps b sc [] p
no_more h ws p named ps None sc t within leads plan =
    let e : Some (planned h ps sc) ≡ Some p = ap plan_in leads ∙ plan in
    let f : planned h ps sc ≡ p = cc in
    let nil : sc ++ [] ≡ sc = append-nil sc in
    record {
      blocks = [];
      rows = [];
      are = refl;
      each = tt;
      new = tt;
      differ = refl;
      rows_are = tt;
      few = subst (λ (xs : List ℕ). length xs ≤ 65536) (sym nil) within;
      late = λ some. refl;
      plan = sym f ∙ ap (planned h ps) (sym nil);
    }
no_more h ws p named ps (Some b) sc t within leads plan = (let e : None ≡ Some p = ap plan_in leads ∙ plan in cc)

one_more : (h : HeadingModel) (ws : List (List ℕ)) → Heads ws h → (p : PlanModel) (line : List ℕ) (lines : List (List ℕ)) (named : List ℕ) (ps : List (List BlockItem)) (b : Option Open) (sc : List ℕ) (q : Phrase)
    → IsWithin named b sc → is_no_line line ≡ false → phrase_in (words_of line) ≡ Some q → Passes (context_of_script (state h named ps b sc)) q (object_in h q)
    → Others h ws lines p (after (state h named ps b sc) q) → Rests h ws named ps b sc (line ∷ lines) p
one_more h ws heads p line lines named ps None sc q within whole form passes others = outside h ws heads p line lines named ps sc q.verb q.object q.rest within (whole, form) passes others
one_more h ws heads p line lines named ps (Some b) sc q within whole form passes others = inside h ws p line lines named ps b sc q.verb q.object q.rest within (whole, form) passes others

pub rests : (h : HeadingModel) (ws : List (List ℕ)) → Heads ws h → (p : PlanModel) (t : Stage) (lines : List (List ℕ)) (named : List ℕ) (ps : List (List BlockItem)) (b : Option Open) (sc : List ℕ)
    → IsWithin named b sc → AreNoDeclarations (state h named ps b sc) lines → Leads (Reading (state h named ps b sc)) lines t → plan_in t ≡ Some p → Rests h ws named ps b sc lines p
unfolding step
rests h ws heads p t [] named ps b sc within behind leads plan = no_more h ws p named ps b sc t within leads plan
rests h ws heads p t (line ∷ lines) named ps b sc within behind leads plan =
    let r = read_back (script_step (state h named ps b sc) line) leads.0 leads.1 in
    let taken : IsAcceptedAs (state h named ps b sc) line r.0 = taken_back (state h named ps b sc) r.0 line behind r.1 in
    one_more h ws heads p line lines named ps b sc taken.phrase within taken.whole taken.form taken.passes
    (λ named' ps' b' sc' within' past is.
    rests h ws heads p t lines named' ps' b' sc' within' (none_declares (state h named' ps' b' sc') lines past)
    (subst (λ (u : Stage). Leads u lines t) (r.2 ∙ ap Reading (sym taken.leads ∙ is)) leads.2) plan)
