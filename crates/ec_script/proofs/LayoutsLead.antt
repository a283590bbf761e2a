-- The lines of a layout lead to its plan.
use Rattle.std.proofs.Common.{◌≡◌, ◌==◌, ◌⊎◌, inl, inr, ℕ, ◌+◌, ◌<◌, ◌≤◌, ◌^◌, List, [], ◌∷◌, ◌++◌, length, map, replicate, Bool, true, false, not, cond, eqb, nat_le, nat_lt, Option, Some, None, option_map, Result, Ok, Err, refl, sym, ap, ◌∙◌, subst, arith, codes, decimal, slice_set, get_or, ne_eqb, length-append, append-nil, append_assoc, zero-le, zero-add}
use Rattle.std.specs.List.{AllByRecursion, flat_map, join_with_byte, range_with_len, list_any}
use Rattle.std.specs.Option.{option_map_or}
use Rattle.std.proofs.lemmas.Bool.{and_left, and_right, or_parts, or_from, not_from_true, not_from_false, le-ltb, le-leb, lt-leb, eqb-false, false_from_ne_true}
use Rattle.ec_count.specs.Members.{is_member, has_repeat}
use Rattle.ec_text.specs.Words.{words_of, number_in_word, is_number_form, AreWords}
use Rattle.ec_text.proofs.shared.WordLemmas.{words_join, literal_word}
use Rattle.ec_text.proofs.shared.NumberLemmas.{number_again, number_is_form, number_word}
use Rattle.ec_text.proofs.shared.DecimalLemmas.{at_most_20}
use Rattle.ec_heading.specs.Versions.{greatest_limit, is_limit}
use Rattle.ec_script.specs.Headers.{script_header, version_limit}
use Rattle.ec_heading.specs.declared.version.Version.{Version}
use Rattle.ec_heading.specs.declared.version.Version.TheVariants.{One, Two}
use Rattle.ec_heading.proofs.shared.VersionFacts.{limit_low, limit_from}
use Rattle.ec_heading.specs.declared.group.Group.{Group}
use Rattle.ec_heading.specs.HeadingModel.{HeadingModel}
use Rattle.ec_heading.specs.HeaderTree.{HeaderTree, IsHeaderTree, AreWorkers, empty_heading, heading_of_tree}
use Rattle.ec_heading.specs.Form.{parts_in}
use Rattle.ec_heading.specs.Heading.{head_step, words_step, workers_in, opened_by, declared_or, is_no_line}
use Rattle.ec_heading.specs.HeadingLaws.{LinesLead, outline_lines}
use Rattle.ec_heading.specs.Lists.{worker_in, ids_in, has_unknown}
use Rattle.ec_heading.specs.Spelling.{limit_line, heading_lines, list_words}
use Rattle.ec_heading.specs.declared.heading.HeadFault.TheVariants as faults
use Rattle.ec_heading.proofs.shared.Declarable.{Heads, heads_opened, heads_all}
use Rattle.ec_heading.proofs.shared.LeadLines.{outline_leads}
use Rattle.ec_heading.proofs.shared.Listed.{AreBelow, finds_worker, ids_again, ids_known}
use Rattle.ec_heading.proofs.shared.LineWords.{none_empty, fit_words, join_length, AreFit, letters, AreNamed, names_fit, names_letters, listed_named, listed_length}
use Rattle.ec_script.specs.declared.fault.Kind.TheVariants as kinds
use Rattle.ec_script.specs.declared.verb.LineWord.{LineWord}
use Rattle.ec_script.specs.declared.verb.LineWord.TheVariants as verbs
use Rattle.ec_script.specs.declared.object.Object.{Object}
use Rattle.ec_script.specs.declared.object.Object.TheVariants.{Nothing, Worker}
use Rattle.ec_script.specs.declared.block_item.BlockItem.{BlockItem}
use Rattle.ec_script.specs.declared.block_item.BlockItem.TheVariants.{Do, Write, Begin, End}
use Rattle.ec_script.specs.declared.script.OpenBlock.{OpenBlock as Open}
use Rattle.ec_script.specs.declared.stage.Stage.{Stage}
use Rattle.ec_script.specs.declared.stage.Stage.TheVariants.{Opening, Limiting, Naming, Reading}
use Rattle.ec_script.specs.Verbs.{parse_line_word, is_update, is_outer}
use Rattle.ec_script.specs.Forms.{phrase_in, verb_word}
use Rattle.ec_script.specs.Objects.{object_for, owns, is_owned}
use Rattle.ec_script.specs.Kinds.{or_nothing, is_allowed, is_named_again, has_unknown_name, is_too_many, is_badly_nested}
use Rattle.ec_script.specs.BlockItems.{size_in, command_in}
use Rattle.ec_script.specs.DraftModel.{DraftModel, empty_draft, draft_with_item}
use Rattle.ec_script.specs.ScriptModel.{ScriptModel, PlanModel}
use Rattle.ec_script.specs.Reading.{view_of_block, context_of_script, after_verb, after_command, block_with_item, map_heading, after_phrase, opens_outer, script_step, limit_digits, limit_or, after_limit, limit_step, script_of, stage_of_heading, read_on, step}
use Rattle.ec_script.specs.Grammar.{Leads, IsScript, IsLine}
use Rattle.ec_script.specs.Layout.{item_by, IsLineOfItem, Block, IsBlock, texts_of, items_of, AreNested, commands_in, worker_line, block_lines, schedule_line, IsRow, concat_rows, workers_of, blocks_of_items, layout_lines, items_of_worker, IsLaidOut}
use Rattle.ec_script.proofs.Declaring.{not_refused, HeadKeeps, Grows, first_keeps, head_grows}
use Rattle.ec_script.proofs.PhraseWords.{made, verb_back}
use Rattle.ec_script.proofs.Passing.{taken_so}
use Rattle.ec_script.proofs.Room.{Passes}
use Rattle.ec_script.proofs.Said.{IsCommand, IsStep, Ordered, ordered_of, MayNest}
use Rattle.ec_script.proofs.shared.Keeping.{with_item_adds as orders_more}
use Rattle.ec_script.proofs.Blocks.{state, set_all, planned, joins}
use Rattle.ec_script.proofs.Layouts.{programs_are}

-- LINES OF FIT WORDS

pub fit_line : (w : List ℕ) (ws : List (List ℕ)) → AreFit (w ∷ ws) → length (join_with_byte 32 (w ∷ ws)) ≤ 8192 → (words_of (join_with_byte 32 (w ∷ ws)) ≡ w ∷ ws) × (is_no_line (join_with_byte 32 (w ∷ ws)) ≡ false)
fit_line w ws fit short =
    let words : words_of (join_with_byte 32 (w ∷ ws)) ≡ w ∷ ws = words_join w ws (fit_words (w ∷ ws) fit) in
    (words, or_from _ _ (le-ltb 8192 (length (join_with_byte 32 (w ∷ ws))) short) (ap (list_any (λ v. eqb (length v) 0)) words ∙ none_empty (w ∷ ws) fit))

-- OBJECTS OF NO GROUP

pub none_owned : (gs : List Group) (o : Object) → ((g : Group) → owns o g ≡ false) → is_owned gs o ≡ false
none_owned [] o none = refl
none_owned (g ∷ gs) o none = or_from _ _ (none g) (none_owned gs o none)

-- THE LINE OF A WORKER

reads : (s t : ScriptModel) (line : List ℕ) → script_step s line ≡ Ok t → step (Reading s) line ≡ Ok (Reading t)
unfolding step
reads s t line is = ap read_on is

worker_leads : (h : HeadingModel) (ws : List (List ℕ)) → Heads ws h → AreWorkers ws → (named : List ℕ) (ps : List (List BlockItem)) (i : ℕ) → i < length ws → is_member i named ≡ false
    → step (Reading (state h named ps None [])) (worker_line ws i) ≡ Ok (Reading (state h (named ++ i ∷ []) ps (Some (record { worker = i; draft = empty_draft })) []))
unfolding phrase_in
worker_leads h ws heads are named ps i within new =
    let called : AreNamed (list_words ws (i ∷ [])) = listed_named ws (i ∷ []) are.each (within, tt) in
    let fit : AreFit (codes "worker" ∷ list_words ws (i ∷ [])) = (record { word = literal_word (codes "worker") refl; some = refl }, names_fit (list_words ws (i ∷ [])) called) in
    let short : length (worker_line ws i) ≤ 8192 = omega (arith, join_length (codes "worker" ∷ list_words ws (i ∷ [])), names_letters (list_words ws (i ∷ [])) called) in
    let l = fit_line (codes "worker") (list_words ws (i ∷ [])) fit short in
    let found : worker_in h.words (get_or ws i []) ≡ Some i = ap (λ es. worker_in es (get_or ws i [])) heads.words ∙ finds_worker ws 0 heads.others i are.differ within ∙ ap Some (zero-add i) in
    let object : object_for h verbs.Worker (get_or ws i []) [] ≡ Some (Worker i) = ap (option_map Worker) found in
    let form : phrase_in (words_of (worker_line ws i)) ≡ Some (made verbs.Worker (get_or ws i []) []) = ap phrase_in l.0 in
    let passes : Passes (context_of_script (state h named ps None [])) (made verbs.Worker (get_or ws i []) []) (Some (Worker i)) = record {
      version = refl;
      allowed = refl;
      new = new;
      found = refl;
      known = refl;
      range = refl;
      few = refl;
      apart = none_owned h.groups (Worker i) (λ g. refl);
      differ = refl;
      right = refl;
      nested = refl;
    } in
    reads (state h named ps None []) (state h (named ++ i ∷ []) ps (Some (record { worker = i; draft = empty_draft })) []) (worker_line ws i)
    (taken_so (state h named ps None []) (worker_line ws i) (made verbs.Worker (get_or ws i []) []) (and_right _ _ (ap (λ us. not (opens_outer us)) l.0)) l.1 form
    (subst (Passes (context_of_script (state h named ps None [])) (made verbs.Worker (get_or ws i []) [])) (sym object) passes)
    ∙ ap (λ o. Ok (after_verb verbs.Worker (state h named ps None []) (or_nothing o) [])) object)

-- A LINE OF THE SCHEDULE

below_each : (n : ℕ) (ids : List ℕ) → AllByRecursion (λ w. w < n) ids → AreBelow n ids
below_each n [] h = tt
below_each n (i ∷ ids) h = (h.0, below_each n ids h.1)

row_form : (us : List (List ℕ)) → 1 ≤ length us → phrase_in (codes "schedule" ∷ us) ≡ Some (made verbs.Schedule [] us)
unfolding phrase_in
row_form us some = ap (λ b. cond b (Some (made verbs.Schedule [] us)) None) (le-leb 1 (length us) some)

row_leads : (h : HeadingModel) (ws : List (List ℕ)) → Heads ws h → AreWorkers ws → (named : List ℕ) (ps : List (List BlockItem)) (sc ids : List ℕ) → IsRow ws ids → length sc + length ids ≤ 65536
    → step (Reading (state h named ps None sc)) (schedule_line ws ids) ≡ Ok (Reading (state h named ps None (sc ++ ids)))
row_leads h ws heads are named ps sc ids row few =
    let low : AreBelow (length ws) ids = below_each (length ws) ids row.declared in
    let called : AreNamed (list_words ws ids) = listed_named ws ids are.each low in
    let fit : AreFit (codes "schedule" ∷ list_words ws ids) = (record { word = literal_word (codes "schedule") refl; some = refl }, names_fit (list_words ws ids) called) in
    let l = fit_line (codes "schedule") (list_words ws ids) fit row.short in
    let many : length (list_words ws ids) ≡ length ids = listed_length ws ids in
    let form : phrase_in (words_of (schedule_line ws ids)) ≡ Some (made verbs.Schedule [] (list_words ws ids)) = ap phrase_in l.0 ∙ row_form (list_words ws ids) (omega (arith, many, row.some)) in
    let again : ids_in h.words (list_words ws ids) ≡ ids = ap (λ es. ids_in es (list_words ws ids)) heads.words ∙ ids_again ws heads.others ids are.differ low in
    let passes : Passes (context_of_script (state h named ps None sc)) (made verbs.Schedule [] (list_words ws ids)) (Some Nothing) = record {
      version = refl;
      allowed = refl;
      new = refl;
      found = refl;
      known = ap (λ es. has_unknown es (list_words ws ids)) heads.words ∙ ids_known ws heads.others ids are.differ low;
      range = refl;
      few = le-ltb 65536 (length sc + length (list_words ws ids)) (omega (arith, many, few));
      apart = none_owned h.groups Nothing (λ g. refl);
      differ = refl;
      right = refl;
      nested = refl;
    } in
    reads (state h named ps None sc) (state h named ps None (sc ++ ids)) (schedule_line ws ids)
    (taken_so (state h named ps None sc) (schedule_line ws ids) (made verbs.Schedule [] (list_words ws ids)) (and_right _ _ (ap (λ vs. not (opens_outer vs)) l.0)) l.1 form passes
    ∙ ap (λ js. Ok (state h named ps None (sc ++ js))) again)

rows_lead : (h : HeadingModel) (ws : List (List ℕ)) → Heads ws h → AreWorkers ws → (named : List ℕ) (ps : List (List BlockItem)) (sc : List ℕ) (rows : List (List ℕ)) → AllByRecursion (IsRow ws) rows → length (sc ++ concat_rows rows) ≤ 65536
    → Leads (Reading (state h named ps None sc)) (map (schedule_line ws) rows) (Reading (state h named ps None (sc ++ concat_rows rows)))
rows_lead h ws heads are named ps sc [] all few = ap (λ xs. Reading (state h named ps None xs)) (sym (append-nil sc))
rows_lead h ws heads are named ps sc (ids ∷ rows) all few =
    let e : (sc ++ ids) ++ concat_rows rows ≡ sc ++ concat_rows (ids ∷ rows) = append_assoc sc ids (concat_rows rows) in
    let short : length sc + length ids ≤ 65536 = omega (arith, few, length-append sc (ids ++ concat_rows rows), length-append ids (concat_rows rows)) in (
      Reading (state h named ps None (sc ++ ids)),
      row_leads h ws heads are named ps sc ids all.0 short,
      subst (λ xs. Leads (Reading (state h named ps None (sc ++ ids))) (map (schedule_line ws) rows) (Reading (state h named ps None xs))) e
          (rows_lead h ws heads are named ps (sc ++ ids) rows all.1 (subst (λ (xs : List ℕ). length xs ≤ 65536) (sym e) few)),
    )

-- A LINE OF A BLOCK

allowed_in : (v : LineWord) (n : ℕ) → is_allowed v true n ≡ true
allowed_in verbs.Schedule n = refl
allowed_in verbs.Worker n = refl
allowed_in v n = refl

known_in : (h : HeadingModel) (v : LineWord) (us : List (List ℕ)) → is_outer v ≡ false → has_unknown_name h v us ≡ false
known_in h verbs.Schedule us inner = cc
known_in h v us inner = refl

no_worker : (v : LineWord) (o : Object) (us : List (List ℕ)) (item : BlockItem) (named : List ℕ) → command_in v (is_update v) o us ≡ Some item → is_named_again named o ≡ false
no_worker v (Worker w) us item named is = cc
no_worker v _ us item named is = refl

not_named : (h : HeadingModel) (v : LineWord) (w : List ℕ) (us : List (List ℕ)) (o : Object) (item : BlockItem) (named : List ℕ) → is_outer v ≡ false → object_for h v w us ≡ Some o → item_by v o us ≡ Some item → is_named_again named o ≡ false
not_named h verbs.Worker w us o item named inner is says = cc
not_named h verbs.Schedule w us o item named inner is says = cc
not_named h verbs.Repeat w us o item named inner is says = (let e : Nothing ≡ o = cc in subst (λ x. is_named_again named x ≡ false) e refl)
not_named h verbs.End w us o item named inner is says = (let e : Nothing ≡ o = cc in subst (λ x. is_named_again named x ≡ false) e refl)
not_named h v w us o item named inner is says = no_worker v o us item named says

step_room : (d : DraftModel) (o : BlockItem) → IsStep o → MayNest d o → d.commands < 4096
step_room d (Do c) step may = may
step_room d (Write b vs) step may = may
step_room d (Begin n) step may = absurd step
step_room d End step may = absurd step

room_for : (d : DraftModel) (h : HeadingModel) (v : LineWord) (w : List ℕ) (us : List (List ℕ)) (o : Object) (item : BlockItem) → IsCommand v → object_for h v w us ≡ Some o → command_in v (is_update v) o us ≡ Some item → MayNest d item → nat_le 4096 d.commands ≡ false
room_for d h v w us o item command is says may =
    let r : Ordered v o us = ordered_of h v w us o command is in
    let same : Some r.item ≡ Some item = sym r.is ∙ says in
    let e : r.item ≡ item = cc in
    lt-leb 4096 d.commands (step_room d item (subst IsStep e r.step) may)

few_in : (h : HeadingModel) (b : Open) (v : LineWord) (w : List ℕ) (us : List (List ℕ)) (o : Object) (item : BlockItem) (n : ℕ) → is_outer v ≡ false → object_for h v w us ≡ Some o → item_by v o us ≡ Some item → MayNest b.draft item
    → is_too_many v us (Some (view_of_block b)) n ≡ false
few_in h b verbs.Worker w us o item n inner is says may = cc
few_in h b verbs.Schedule w us o item n inner is says may = cc
few_in h b verbs.Repeat w us o item n inner is says may = (let e : Begin (size_in us) ≡ item = cc in lt-leb 4096 b.draft.commands (subst (MayNest b.draft) (sym e) may).1)
few_in h b verbs.End w us o item n inner is says may = refl
few_in h b v w us o item n inner is says may = room_for b.draft h v w us o item tt is says may

nested_in : (h : HeadingModel) (b : Open) (v : LineWord) (w : List ℕ) (us : List (List ℕ)) (o : Object) (item : BlockItem) → is_outer v ≡ false → item_by v o us ≡ Some item → MayNest b.draft item
    → is_badly_nested v (Some (view_of_block b)) ≡ false
nested_in h b verbs.Worker w us o item inner says may = cc
nested_in h b verbs.Schedule w us o item inner says may = cc
nested_in h b verbs.Repeat w us o item inner says may = (let e : Begin (size_in us) ≡ item = cc in lt-leb 4 b.draft.depth (subst (MayNest b.draft) (sym e) may).0)
nested_in h b verbs.End w us o item inner says may = (let e : End ≡ item = cc in and_right (nat_lt 0 b.draft.depth) b.draft.is_empty (subst (MayNest b.draft) (sym e) may).1)
nested_in h b v w us o item inner says may = refl

after_in : (h : HeadingModel) (named : List ℕ) (ps : List (List BlockItem)) (b : Open) (sc : List ℕ) (v : LineWord) (us : List (List ℕ)) (o : Object) (item : BlockItem) → is_outer v ≡ false → item_by v o us ≡ Some item → MayNest b.draft item
    → after_verb v (state h named ps (Some b) sc) o us ≡ state h named ps (Some (record { worker = b.worker; draft = draft_with_item b.draft item })) sc
after_in h named ps b sc verbs.Worker us o item inner says may = cc
after_in h named ps b sc verbs.Schedule us o item inner says may = cc
after_in h named ps b sc verbs.Repeat us o item inner says may = (let e : Begin (size_in us) ≡ item = cc in ap (λ x. state h named ps (Some (record { worker = b.worker; draft = draft_with_item b.draft x })) sc) e)
after_in h named ps b sc verbs.End us o item inner says may =
    let e : End ≡ item = cc in
    let deep : 0 < b.draft.depth = (subst (MayNest b.draft) (sym e) may).0 in
    let inner_one : eqb b.draft.depth 0 ≡ false = ne_eqb b.draft.depth 0 (λ none. omega (arith, none, deep)) in
    ap (λ t. cond t (state h named (slice_set ps b.worker b.draft.block_items) None sc) (block_with_item (state h named ps (Some b) sc) (Some b) End)) inner_one
    ∙ ap (λ x. state h named ps (Some (record { worker = b.worker; draft = draft_with_item b.draft x })) sc) e
after_in h named ps b sc v us o item inner says may = ap (after_command (state h named ps (Some b) sc)) says

item_leads : (h : HeadingModel) (named : List ℕ) (ps : List (List BlockItem)) (b : Open) (sc : List ℕ) (line : List ℕ) (item : BlockItem) → 0 < length named → IsLineOfItem h b.worker line item → MayNest b.draft item
    → step (Reading (state h named ps (Some b) sc)) line ≡ Ok (Reading (state h named ps (Some (record { worker = b.worker; draft = draft_with_item b.draft item })) sc))
item_leads h named ps b sc line item some says may =
    let passes : Passes (context_of_script (state h named ps (Some b) sc)) says.phrase (Some says.object) = record {
      version = says.version;
      allowed = allowed_in says.phrase.verb (length sc);
      new = not_named h says.phrase.verb says.phrase.object says.phrase.rest says.object item named says.inner says.declared says.says;
      found = refl;
      known = known_in h says.phrase.verb says.phrase.rest says.inner;
      range = says.range;
      few = few_in h b says.phrase.verb says.phrase.object says.phrase.rest says.object item (length sc) says.inner says.declared says.says may;
      apart = says.apart;
      differ = says.differ;
      right = not_from_true _ says.right;
      nested = nested_in h b says.phrase.verb says.phrase.object says.phrase.rest says.object item says.inner says.says may;
    } in
    let past : eqb (length named) 0 ≡ false = ne_eqb (length named) 0 (λ e. omega (arith, e, some)) in
    reads (state h named ps (Some b) sc) (state h named ps (Some (record { worker = b.worker; draft = draft_with_item b.draft item })) sc) line
    (taken_so (state h named ps (Some b) sc) line says.phrase (and_left _ _ (and_left _ _ past)) says.whole says.form (subst (Passes (context_of_script (state h named ps (Some b) sc)) says.phrase) (sym says.declared) passes)
    ∙ ap (λ o. Ok (after_verb says.phrase.verb (state h named ps (Some b) sc) (or_nothing o) says.phrase.rest)) says.declared
    ∙ ap Ok (after_in h named ps b sc says.phrase.verb says.phrase.rest says.object item says.inner says.says may))

-- the `end` of a block
end_leads : (h : HeadingModel) (named : List ℕ) (ps : List (List BlockItem)) (b : Open) (sc : List ℕ) → 0 < length named → b.draft.depth ≡ 0
    → step (Reading (state h named ps (Some b) sc)) (codes "end") ≡ Ok (Reading (state h named (slice_set ps b.worker b.draft.block_items) None sc))
unfolding phrase_in
end_leads h named ps b sc some closed =
    let fit : AreFit (codes "end" ∷ []) = (record { word = literal_word (codes "end") refl; some = refl }, tt) in
    let l = fit_line (codes "end") [] fit (omega arith) in
    let past : eqb (length named) 0 ≡ false = ne_eqb (length named) 0 (λ e. omega (arith, e, some)) in
    let passes : Passes (context_of_script (state h named ps (Some b) sc)) (made verbs.End [] []) (Some Nothing) = record {
      version = refl;
      allowed = refl;
      new = refl;
      found = refl;
      known = refl;
      range = refl;
      few = refl;
      apart = none_owned h.groups Nothing (λ g. refl);
      differ = refl;
      right = refl;
      nested = and_left (nat_lt 0 b.draft.depth) b.draft.is_empty (le-ltb 0 b.draft.depth (omega (arith, closed)));
    } in
    let done : eqb b.draft.depth 0 ≡ true = ap (λ d. eqb d 0) closed in
    reads (state h named ps (Some b) sc) (state h named (slice_set ps b.worker b.draft.block_items) None sc) (codes "end")
    (taken_so (state h named ps (Some b) sc) (codes "end") (made verbs.End [] []) (and_left _ _ (and_left _ _ past)) l.1 (ap phrase_in l.0) passes
    ∙ ap (λ t. Ok (cond t (state h named (slice_set ps b.worker b.draft.block_items) None sc) (block_with_item (state h named ps (Some b) sc) (Some b) End))) done)

record Follows (d : DraftModel) (o : BlockItem) (os : List BlockItem) : Type 0 where
  may : MayNest d o
  nested : AreNested (draft_with_item d o).depth (draft_with_item d o).is_empty os
  few : (draft_with_item d o).commands + commands_in os ≤ 4096

follows : (d : DraftModel) (o : BlockItem) (os : List BlockItem) → AreNested d.depth d.is_empty (o ∷ os) → d.commands + commands_in (o ∷ os) ≤ 4096 → Follows d o os
follows d (Do c) os nested few = record { may = omega (arith, few); nested = nested; few = omega (arith, few) }
follows d (Write b vs) os nested few = record { may = omega (arith, few); nested = nested; few = omega (arith, few) }
follows d (Begin n) os nested few = record { may = (nested.0, omega (arith, few)); nested = nested.1; few = omega (arith, few) }
follows d End os nested few = record { may = (nested.0, nested.1); nested = nested.2; few = few }

inside_leads : (h : HeadingModel) (named : List ℕ) (ps : List (List BlockItem)) (b : Open) (sc : List ℕ) (inside : List (List ℕ × BlockItem)) (more : List (List ℕ)) (t : Stage)
    → 0 < length named → AllByRecursion (λ (l : List ℕ × BlockItem). IsLineOfItem h b.worker l.0 l.1) inside → AreNested b.draft.depth b.draft.is_empty (items_of inside) → b.draft.commands + commands_in (items_of inside) ≤ 4096
    → Leads (Reading (state h named (slice_set ps b.worker (b.draft.block_items ++ items_of inside)) None sc)) more t
    → Leads (Reading (state h named ps (Some b) sc)) (texts_of inside ++ codes "end" ∷ more) t
inside_leads h named ps b sc [] more t some all nested few leads = (
  Reading (state h named (slice_set ps b.worker b.draft.block_items) None sc),
  end_leads h named ps b sc some nested,
  subst (λ (os : List BlockItem). Leads (Reading (state h named (slice_set ps b.worker os) None sc)) more t) (append-nil b.draft.block_items) leads,
)
inside_leads h named ps b sc (l ∷ inside) more t some all nested few leads =
    let f : Follows b.draft l.1 (items_of inside) = follows b.draft l.1 (items_of inside) nested few in
    let e : b.draft.block_items ++ items_of (l ∷ inside) ≡ (draft_with_item b.draft l.1).block_items ++ items_of inside =
    sym (ap (λ (os : List BlockItem). os ++ items_of inside) (orders_more b.draft l.1) ∙ append_assoc b.draft.block_items (l.1 ∷ []) (items_of inside)) in (
      Reading (state h named ps (Some (record { worker = b.worker; draft = draft_with_item b.draft l.1 })) sc),
      item_leads h named ps b sc l.0 l.1 some all.0 f.may,
      inside_leads h named ps (record { worker = b.worker; draft = draft_with_item b.draft l.1 }) sc inside more t some all.1 f.nested f.few
          (subst (λ (os : List BlockItem). Leads (Reading (state h named (slice_set ps b.worker os) None sc)) more t) e leads),
    )

-- BLOCKS

abbrev named_all : List ℕ → List Block → List ℕ
named_all named [] = named
named_all named (b ∷ bs) = named_all (named ++ b.worker ∷ []) bs

push_member : (w i : ℕ) (named : List ℕ) → is_member w named ≡ false → (i == w) ≡ false → is_member w (named ++ i ∷ []) ≡ false
push_member w i [] is other = or_from _ _ other refl
push_member w i (v ∷ named) is other = (let p = or_parts (eqb v w) (is_member w named) is in or_from _ _ p.0 (push_member w i named p.1 other))

still_new : (i : ℕ) (named : List ℕ) (bs : List Block) → is_member i (workers_of (blocks_of_items bs)) ≡ false → AllByRecursion (λ (b : Block). is_member b.worker named ≡ false) bs → AllByRecursion (λ (b : Block). is_member b.worker (named ++ i ∷ []) ≡ false) bs
still_new i named [] none all = tt
still_new i named (b ∷ bs) none all =
    let p = or_parts (eqb b.worker i) (is_member i (workers_of (blocks_of_items bs))) none in
    (push_member b.worker i named all.0 (ne_eqb i b.worker (λ e. eqb-false b.worker i p.0 (sym e))), still_new i named bs p.1 all.1)

all_new : (bs : List Block) → AllByRecursion (λ (b : Block). is_member b.worker [] ≡ false) bs
all_new [] = tt
all_new (b ∷ bs) = (refl, all_new bs)

blocks_lead : (h : HeadingModel) (ws : List (List ℕ)) → Heads ws h → AreWorkers ws → (named : List ℕ) (ps : List (List BlockItem)) (bs : List Block) (rest : List (List ℕ)) (t : Stage)
    → AllByRecursion (IsBlock h) bs → AllByRecursion (λ (b : Block). is_member b.worker named ≡ false) bs → has_repeat (workers_of (blocks_of_items bs)) ≡ false
    → Leads (Reading (state h (named_all named bs) (set_all ps bs) None [])) rest t → Leads (Reading (state h named ps None [])) (flat_map (block_lines ws) bs ++ rest) t
blocks_lead h ws heads are named ps [] rest t all new differ leads = leads
blocks_lead h ws heads are named ps (b ∷ bs) rest t all new differ leads =
    let p = or_parts (is_member b.worker (workers_of (blocks_of_items bs))) (has_repeat (workers_of (blocks_of_items bs))) differ in
    let within : b.worker < length ws = omega (arith, all.0.worker, heads.count) in (
      Reading (state h (named ++ b.worker ∷ []) ps (Some (record { worker = b.worker; draft = empty_draft })) []),
      worker_leads h ws heads are named ps b.worker within new.0,
      subst (λ ls. Leads (Reading (state h (named ++ b.worker ∷ []) ps (Some (record { worker = b.worker; draft = empty_draft })) [])) ls t) (joins (texts_of b.lines) (codes "end") (flat_map (block_lines ws) bs) rest)
          (inside_leads h (named ++ b.worker ∷ []) ps (record { worker = b.worker; draft = empty_draft }) [] b.lines (flat_map (block_lines ws) bs ++ rest) t
          (omega (arith, length-append named (b.worker ∷ []))) all.0.each all.0.nested (omega (arith, all.0.few))
          (blocks_lead h ws heads are (named ++ b.worker ∷ []) (slice_set ps b.worker (items_of b.lines)) bs rest t all.1 (still_new b.worker named bs p.0 new.1) p.1 leads)),
    )

-- THE HEADER

outer_verb : (v : LineWord) → is_outer v ≡ true → (v ≡ verbs.Worker) ⊎ (v ≡ verbs.Schedule)
outer_verb verbs.Worker is = inl refl
outer_verb verbs.Schedule is = inr refl
outer_verb v is = cc

outer_word : (w : List ℕ) (o : Option LineWord) → parse_line_word w ≡ o → option_map_or is_outer o false ≡ true → (w ≡ codes "worker") ⊎ (w ≡ codes "schedule")
outer_word w None e is = cc
outer_word w (Some v) e is =
    elim (outer_verb v is) [
      | inl f ↦ inl (verb_back w v e ∙ ap verb_word f)
      | inr f ↦ inr (verb_back w v e ∙ ap verb_word f)
    ]

refused_words : (h next : HeadingModel) (words ws : List (List ℕ)) → eqb h.setup.workers 0 ≡ false → parts_in words ≡ None → words_step h words ≡ Ok next → ⊥
refused_words h next words ws some none is =
    let e : Err faults.BadLine ≡ Ok next =
    sym (ap (λ b. cond b (opened_by h.version h.setup.limit (workers_in words)) (declared_or h (parts_in words))) some ∙ ap (declared_or h) none) ∙ is in
    cc

no_sort : (w : List ℕ) (ws : List (List ℕ)) → (w ≡ codes "worker") ⊎ (w ≡ codes "schedule") → parts_in (w ∷ ws) ≡ None
unfolding parts_in
no_sort w ws is = elim is [ inl f ↦ ap (λ (x : List ℕ). parts_in (x ∷ ws)) f | inr f ↦ ap (λ (x : List ℕ). parts_in (x ∷ ws)) f ]

declaring_words : (h next : HeadingModel) (words : List (List ℕ)) → eqb h.setup.workers 0 ≡ false → words_step h words ≡ Ok next → opens_outer words ≡ false
declaring_words h next [] some is = refl
declaring_words h next (w ∷ ws) some is = false_from_ne_true _ (λ outer. refused_words h next (w ∷ ws) ws some (no_sort w ws (outer_word w (parse_line_word w) refl outer)) is)

declaring_line : (h next : HeadingModel) (line : List ℕ) → HeadKeeps h → head_step h line ≡ Ok next → opens_outer (words_of line) ≡ false
unfolding head_step
declaring_line h next line keeps is =
    let some : eqb h.setup.workers 0 ≡ false = ne_eqb h.setup.workers 0 (λ e. (let k : 1 ≤ h.setup.workers = keeps.some in omega (arith, k, e))) in
    declaring_words h next (words_of line) some (not_refused (is_no_line line) faults.BadLine (words_step h (words_of line)) next is)

declaration_leads : (h next : HeadingModel) (line : List ℕ) → HeadKeeps h → head_step h line ≡ Ok next → script_step (script_of h) line ≡ Ok (script_of next)
unfolding script_step
declaration_leads h next line keeps is =
    let declaring : not (opens_outer (words_of line)) ≡ true = not_from_false _ (declaring_line h next line keeps is) in
    let grows : Grows h next = head_grows h line next keeps is in
    let none : List BlockItem = [] in
    ap (λ b. cond b (map_heading (script_of h) (head_step h line)) (cond (is_no_line line) (Err kinds.BadLine) (after_phrase (script_of h) (phrase_in (words_of line))))) declaring
    ∙ ap (map_heading (script_of h)) is
    ∙ ap (λ n. Ok (state next [] (replicate n none) None [])) (sym grows.workers)

declarations_lead : (h end : HeadingModel) (lines more : List (List ℕ)) (t : Stage) → HeadKeeps h → LinesLead h lines end → Leads (Reading (script_of end)) more t → Leads (Reading (script_of h)) (lines ++ more) t
declarations_lead h end [] more t keeps heads leads = subst (λ (g : HeadingModel). Leads (Reading (script_of g)) more t) (sym heads) leads
declarations_lead h end (line ∷ lines) more t keeps heads leads =
    let grows : Grows h heads.0 = head_grows h line heads.0 keeps heads.1 in (
      Reading (script_of heads.0),
      reads (script_of h) (script_of heads.0) line (declaration_leads h heads.0 line keeps heads.1),
      declarations_lead heads.0 end lines more t grows.keeps heads.2 leads,
    )

header_leads : (v : Version) → step Opening (script_header v) ≡ Ok (Limiting v)
unfolding step
header_leads One = refl
header_leads Two = refl

limit_leads : (v : Version) (n : ℕ) → 1 ≤ n → n ≤ greatest_limit v → step (Limiting v) (limit_line n) ≡ Ok (Naming (version_limit v n))
unfolding step limit_step
limit_leads v n low high =
    let small : n < 2 ^ 48 = limit_low v n high in
    let words : words_of (limit_line n) ≡ codes "limit" ∷ decimal n ∷ [] = words_join (codes "limit") (decimal n ∷ []) (literal_word (codes "limit") refl, (number_word n (omega arith), tt)) in
    let number : number_in_word (decimal n) ≡ Some n = number_again n (omega arith) in
    let form : is_number_form (decimal n) ≡ true = (number_is_form (decimal n) n number).0 in
    let range : is_limit v n ≡ true = limit_from v n low high in
    let short : nat_lt 8192 (length (limit_line n)) ≡ false = le-ltb 8192 (length (limit_line n)) (omega (arith, at_most_20 n (omega arith), length-append (codes "limit ") (decimal n))) in
    ap (λ b. cond b (Err kinds.BadLine) (limit_or v (limit_digits (words_of (limit_line n))))) short
    ∙ ap (λ ws. limit_or v (limit_digits ws)) words
    ∙ ap (λ b. limit_or v (cond b (Some (decimal n)) None)) form
    ∙ ap (after_limit v) number
    ∙ ap (λ b. cond b (Ok (Naming (version_limit v n))) (Err kinds.BadNumber)) range

workers_lead : (v : Version) (n : ℕ) (line : List ℕ) (h : HeadingModel) → head_step (empty_heading v n []) line ≡ Ok h → step (Naming (version_limit v n)) line ≡ Ok (Reading (script_of h))
unfolding step
workers_lead v n line h is = ap stage_of_heading is

heading_leads : (o : HeaderTree) → IsHeaderTree o → (more : List (List ℕ)) (t : Stage) → Leads (Reading (script_of (heading_of_tree o))) more t → Leads Opening (script_header o.version ∷ heading_lines o ++ more) t
heading_leads o is more t leads =
    let heads : LinesLead (empty_heading o.version o.limit []) (outline_lines o) (heading_of_tree o) = outline_leads o is in (
      Limiting o.version,
      header_leads o.version,
      (
        Naming (version_limit o.version o.limit),
        limit_leads o.version o.limit is.low is.high,
        (
          Reading (script_of heads.0),
          workers_lead o.version o.limit _ heads.0 heads.1,
          declarations_lead heads.0 (heading_of_tree o) _ more t (first_keeps o.version o.limit _ heads.0 heads.1) heads.2 leads,
        ),
      ),
    )

-- WHOLE SCRIPTS

pub layout_leads : (bytes : List ℕ) (p : PlanModel) → (is : IsLaidOut bytes p) → AllByRecursion IsLine (layout_lines is.layout) → IsScript bytes p
layout_leads bytes p is each =
    let none : List BlockItem = [] in
    let heads : Heads is.layout.outline.workers (heading_of_tree is.layout.outline) =
    heads_all is.layout.outline.workers (empty_heading is.layout.outline.version is.layout.outline.limit is.layout.outline.workers) is.layout.outline.declarations (heads_opened is.layout.outline.version is.layout.outline.limit is.layout.outline.workers) in
    let programs : set_all (replicate (heading_of_tree is.layout.outline).setup.workers none) is.layout.blocks ≡ map (items_of_worker (blocks_of_items is.layout.blocks)) (range_with_len 0 (length is.layout.outline.workers)) =
    ap (λ n. set_all (replicate n none) is.layout.blocks) heads.count ∙ programs_are is.layout.blocks (length is.layout.outline.workers) is.is.differ in
    record {
      lines = layout_lines is.layout;
      stage = Reading (state (heading_of_tree is.layout.outline) (named_all [] is.layout.blocks) (set_all (replicate (heading_of_tree is.layout.outline).setup.workers none) is.layout.blocks) None (concat_rows is.layout.rows));
      text = is.text;
      each = each;
      leads = heading_leads is.layout.outline is.is.heading _ _
          (blocks_lead (heading_of_tree is.layout.outline) is.layout.outline.workers heads is.is.heading.workers [] (replicate (heading_of_tree is.layout.outline).setup.workers none) is.layout.blocks _ _ is.is.blocks (all_new is.layout.blocks) is.is.differ
          (rows_lead (heading_of_tree is.layout.outline) is.layout.outline.workers heads is.is.heading.workers (named_all [] is.layout.blocks) (set_all (replicate (heading_of_tree is.layout.outline).setup.workers none) is.layout.blocks) [] is.layout.rows is.is.rows is.is.few));
      plan = ap (λ (qs : List (List BlockItem)). Some (planned (heading_of_tree is.layout.outline) qs (concat_rows is.layout.rows))) programs ∙ ap Some (sym is.plan);
      within = is.within;
    }
