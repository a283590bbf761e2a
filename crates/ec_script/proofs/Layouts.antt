-- Every script consists of a header, whole blocks and a schedule.
use Rattle.std.proofs.Common.{◌≡◌, ℕ, ◌<◌, ◌≤◌, List, [], ◌∷◌, ◌++◌, length, map, replicate, true, false, not, ◌&&◌, cond, eqb, nat_lt, Option, Some, None, Result, Ok, Err, refl, sym, ap, ap₂, ◌∙◌, subst, arith, bytes_eq, codes, decimal, slice_set, get_or, eqb-true, length-set}
use Rattle.std.specs.List.{range_with_len}
use Rattle.std.proofs.lemmas.Bool.{and_parts, or_parts, eqb-false}
use Rattle.std.proofs.lemmas.Slice.Eq.{bytes_eq-Decides}
use Rattle.std.proofs.lemmas.List.{ext_get_or, get_or-set_same, get_or-set_other, get_or-replicate, length-replicate}
use Rattle.std.proofs.lemmas.List.FromFn.{get_or-map-range_with_len, length-map-range_with_len}
use Rattle.ec_count.specs.Members.{is_member, has_repeat}
use Rattle.ec_text.specs.Words.{words_of, number_in_word, is_number_form}
use Rattle.ec_text.proofs.shared.NumberLemmas.{number_takes}
use Rattle.ec_heading.specs.Versions.{greatest_limit, is_limit, version_of}
use Rattle.ec_script.specs.Headers.{script_header, version_limit}
use Rattle.ec_heading.specs.declared.version.Version.{Version}
use Rattle.ec_heading.proofs.shared.VersionFacts.{limit_parts, version_back}
use Rattle.ec_heading.specs.HeadingModel.{HeadingModel}
use Rattle.ec_heading.specs.HeaderTree.{HeaderTree, IsHeaderTree, empty_heading, heading_of_tree}
use Rattle.ec_heading.specs.Heading.{head_step, is_no_line}
use Rattle.ec_heading.specs.HeadingLaws.{LinesLead, Outlines, outline_lines}
use Rattle.ec_heading.specs.Spelling.{limit_line, heading_lines, lines_text}
use Rattle.ec_heading.specs.declared.heading.HeadFault.{HeadFault}
use Rattle.ec_heading.proofs.shared.Declarable.{Heads, heads_opened, heads_all}
use Rattle.ec_heading.proofs.shared.LeadLines.{leads_outline}
use Rattle.ec_script.specs.declared.fault.Kind.TheVariants as kinds
use Rattle.ec_script.specs.declared.block_item.BlockItem.{BlockItem}
use Rattle.ec_script.specs.declared.stage.Stage.{Stage}
use Rattle.ec_script.specs.declared.stage.Stage.TheVariants.{Opening, Limiting, Naming, Reading}
use Rattle.ec_script.specs.Forms.{phrase_in}
use Rattle.ec_script.specs.ScriptModel.{ScriptModel, PlanModel}
use Rattle.ec_script.specs.Reading.{map_heading, after_phrase, opens_outer, script_step, stage_of_version, after_limit, limit_digits, limit_or, limit_step, script_of, stage_of_heading, step}
use Rattle.ec_script.specs.Outcome.{plan_in}
use Rattle.ec_script.specs.Grammar.{Leads}
use Rattle.ec_script.specs.Layout.{Block, items_of, workers_of, blocks_of_items, concat_rows, layout_lines, items_of_worker, ScriptsAreLaidOut}
use Rattle.ec_script.proofs.Declaring.{HeadKeeps, Grows, first_keeps, head_grows}
use Rattle.ec_script.proofs.Passing.{read_back}
use Rattle.ec_script.proofs.Blocks.{state, set_all, planned, Closed, AreNoDeclarations, line_of, rests}

-- THE PROGRAMS

set_all_length : (bs : List Block) (ps : List (List BlockItem)) → length (set_all ps bs) ≡ length ps
set_all_length [] ps = refl
set_all_length (b ∷ bs) ps = set_all_length bs (slice_set ps b.worker (items_of b.lines)) ∙ length-set ps b.worker (items_of b.lines)

untouched : (bs : List Block) (ps : List (List BlockItem)) (w : ℕ) → is_member w (workers_of (blocks_of_items bs)) ≡ false → get_or (set_all ps bs) w [] ≡ get_or ps w []
untouched [] ps w none = refl
untouched (b ∷ bs) ps w none =
    let p = or_parts (eqb b.worker w) (is_member w (workers_of (blocks_of_items bs))) none in
    untouched bs (slice_set ps b.worker (items_of b.lines)) w p.1
    ∙ get_or-set_other ps b.worker w (items_of b.lines) [] (λ e. eqb-false b.worker w p.0 (sym e))

program_is : (bs : List Block) (ps : List (List BlockItem)) (w : ℕ) → has_repeat (workers_of (blocks_of_items bs)) ≡ false → w < length ps → get_or ps w [] ≡ [] → get_or (set_all ps bs) w [] ≡ items_of_worker (blocks_of_items bs) w
program_is [] ps w differ within none = none
program_is (b ∷ bs) ps w differ within none =
    let p = or_parts (is_member b.worker (workers_of (blocks_of_items bs))) (has_repeat (workers_of (blocks_of_items bs))) differ in
    (elim (eqb b.worker w) as (λ t. eqb b.worker w ≡ t → get_or (set_all (slice_set ps b.worker (items_of b.lines)) bs) w [] ≡ cond t (items_of b.lines) (items_of_worker (blocks_of_items bs) w)) [
      | true ↦ λ e.
          (let same : b.worker ≡ w = eqb-true b.worker w e in
          untouched bs (slice_set ps b.worker (items_of b.lines)) w (ap (λ i. is_member i (workers_of (blocks_of_items bs))) (sym same) ∙ p.0)
          ∙ ap (λ i. get_or (slice_set ps i (items_of b.lines)) w []) same
          ∙ get_or-set_same ps w (items_of b.lines) [] within)
      | false ↦ λ e.
          program_is bs (slice_set ps b.worker (items_of b.lines)) w p.1 (omega (arith, within, length-set ps b.worker (items_of b.lines)))
          (get_or-set_other ps b.worker w (items_of b.lines) [] (λ same. eqb-false b.worker w e (sym same)) ∙ none)
    ]) refl

pub programs_are : (bs : List Block) (n : ℕ) → has_repeat (workers_of (blocks_of_items bs)) ≡ false → set_all (replicate n []) bs ≡ map (items_of_worker (blocks_of_items bs)) (range_with_len 0 n)
programs_are bs n differ =
    let none : List BlockItem = [] in
    let long : length (set_all (replicate n none) bs) ≡ n = set_all_length bs (replicate n none) ∙ length-replicate n none in
    ext_get_or [] (set_all (replicate n none) bs) (map (items_of_worker (blocks_of_items bs)) (range_with_len 0 n)) (long ∙ sym (length-map-range_with_len (items_of_worker (blocks_of_items bs)) 0 n))
    (λ i within.
    program_is bs (replicate n none) i differ (omega (arith, within, long, length-replicate n none)) (get_or-replicate n i none [] (omega (arith, within, long)))
    ∙ sym (get_or-map-range_with_len (items_of_worker (blocks_of_items bs)) 0 n i i [] (omega (arith, within, long)) (omega arith)))

-- THE FIRST LINES

limiting_back : (o : Option Version) (t : Stage) → stage_of_version o ≡ Ok t → (v : Version) × (o ≡ Some v) × (t ≡ Limiting v)
limiting_back None t is = cc
limiting_back (Some v) t is = (v, refl, cc)

header_back : (line : List ℕ) (t : Stage) → step Opening line ≡ Ok t → (v : Version) × (line ≡ script_header v) × (t ≡ Limiting v)
unfolding step
header_back line t is = (let l = limiting_back (version_of script_header line) t is in (l.0, version_back script_header line l.0 l.1, l.2))

-- a line that says a limit
record Limits (v : Version) (words : List (List ℕ)) (t : Stage) : Type 0 where
  limit : ℕ
  are : words ≡ codes "limit" ∷ decimal limit ∷ []
  low : 1 ≤ limit
  high : limit ≤ greatest_limit v
  leads : t ≡ Naming (version_limit v limit)

range_back : (v : Version) (w : List ℕ) (n : ℕ) (t : Stage) → number_in_word w ≡ Some n → cond (is_limit v n) (Ok (Naming (version_limit v n))) (Err kinds.BadNumber) ≡ Ok t → Limits v (codes "limit" ∷ w ∷ []) t
range_back v w n t number is =
    (elim (is_limit v n) as (λ b. is_limit v n ≡ b → cond b (Ok (Naming (version_limit v n))) (Err kinds.BadNumber) ≡ Ok t → Limits v (codes "limit" ∷ w ∷ []) t) [
      | true ↦ λ e h.
          (let p = limit_parts v n e in
          record {
            limit = n;
            are = ap (λ (x : List ℕ). codes "limit" ∷ x ∷ []) (number_takes w n number).0;
            low = p.0;
            high = p.1;
            leads = cc;
          })
      | false ↦ λ e h. cc
    ]) refl is

number_back : (v : Version) (w : List ℕ) (o : Option ℕ) (t : Stage) → number_in_word w ≡ o → after_limit v o ≡ Ok t → Limits v (codes "limit" ∷ w ∷ []) t
number_back v w None t number is = cc
number_back v w (Some n) t number is = range_back v w n t number is

digits_back : (v : Version) (words : List (List ℕ)) (t : Stage) → limit_or v (limit_digits words) ≡ Ok t → Limits v words t
digits_back v [] t is = cc
digits_back v (w ∷ []) t is = cc
digits_back v (w ∷ n ∷ []) t is =
    (elim (bytes_eq w (codes "limit") && is_number_form n) as (λ b. (bytes_eq w (codes "limit") && is_number_form n) ≡ b → limit_or v (cond b (Some n) None) ≡ Ok t → Limits v (w ∷ n ∷ []) t) [
      | true ↦ λ e h.
          (let word : w ≡ codes "limit" = (bytes_eq-Decides w (codes "limit")).0 (and_parts (bytes_eq w (codes "limit")) (is_number_form n) e).0 in
          subst (λ (x : List ℕ). Limits v (x ∷ n ∷ []) t) (sym word) (number_back v n (number_in_word n) t refl h))
      | false ↦ λ e h. cc
    ]) refl is
digits_back v (w ∷ n ∷ x ∷ words) t is = cc

limit_back : (v : Version) (line : List ℕ) (t : Stage) → step (Limiting v) line ≡ Ok t → Limits v (words_of line) t
unfolding step limit_step
limit_back v line t is =
    (elim (nat_lt 8192 (length line)) as (λ b. cond b (Err kinds.BadLine) (limit_or v (limit_digits (words_of line))) ≡ Ok t → Limits v (words_of line) t) [
      | true ↦ λ h. cc
      | false ↦ λ h. digits_back v (words_of line) t h
    ]) is

named_back : (r : Result HeadingModel HeadFault) (t : Stage) → stage_of_heading r ≡ Ok t → (h : HeadingModel) × (r ≡ Ok h) × (t ≡ Reading (script_of h))
named_back (Ok h) t is = (h, refl, cc)
named_back (Err f) t is = cc

-- THE DECLARATIONS

-- lines of declarations, and what follows them
record Declares (h : HeadingModel) (lines : List (List ℕ)) (t : Stage) : Type 0 where
  prefix : List (List ℕ)
  rest : List (List ℕ)
  end : HeadingModel
  are : lines ≡ prefix ++ rest
  heads : LinesLead h prefix end
  behind : AreNoDeclarations (script_of end) rest
  leads : Leads (Reading (script_of end)) rest t

headed_back : (s t : ScriptModel) (r : Result HeadingModel HeadFault) → map_heading s r ≡ Ok t → (h : HeadingModel) × (r ≡ Ok h) × (t ≡ record s { heading = h })
headed_back s t (Ok h) is = (h, refl, cc)
headed_back s t (Err f) is = cc

declares_along : (h next : HeadingModel) (line : List ℕ) (lines : List (List ℕ)) (t : Stage) → head_step h line ≡ Ok next → Declares next lines t → Declares h (line ∷ lines) t
declares_along h next line lines t is d = record {
  prefix = line ∷ d.prefix;
  rest = d.rest;
  end = d.end;
  are = ap (λ (ls : List (List ℕ)). line ∷ ls) d.are;
  heads = (next, is, d.heads);
  behind = d.behind;
  leads = d.leads;
}

-- a line that is a declaration
declared_line : (h : HeadingModel) (line : List ℕ) (s : ScriptModel) → HeadKeeps h → not (opens_outer (words_of line)) ≡ true → script_step (script_of h) line ≡ Ok s → (next : HeadingModel) × (head_step h line ≡ Ok next) × (s ≡ script_of next) × HeadKeeps next
unfolding script_step
declared_line h line s keeps declaring is =
    let r = headed_back (script_of h) s (head_step h line) (ap (λ b. cond b (map_heading (script_of h) (head_step h line)) (cond (is_no_line line) (Err kinds.BadLine) (after_phrase (script_of h) (phrase_in (words_of line))))) (sym declaring) ∙ is) in
    let grows : Grows h r.0 = head_grows h line r.0 keeps r.1 in
    let none : List BlockItem = [] in
    (r.0, r.1, r.2 ∙ ap (λ n. state r.0 [] (replicate n none) None []) (sym grows.workers), grows.keeps)

declares : (h : HeadingModel) (lines : List (List ℕ)) (t : Stage) → HeadKeeps h → Leads (Reading (script_of h)) lines t → Declares h lines t
unfolding step
declares h [] t keeps leads = record { prefix = []; rest = []; end = h; are = refl; heads = refl; behind = tt; leads = leads }
declares h (line ∷ lines) t keeps leads =
    let r = read_back (script_step (script_of h) line) leads.0 leads.1 in
    (elim (not (opens_outer (words_of line))) as (λ b. not (opens_outer (words_of line)) ≡ b → Declares h (line ∷ lines) t) [
      | true ↦ λ e.
          (let d = declared_line h line r.0 keeps e r.1 in
          declares_along h d.0 line lines t d.1 (declares d.0 lines t d.3 (subst (λ (u : Stage). Leads u lines t) (r.2 ∙ ap Reading d.2) leads.2)))
      | false ↦ λ e. record { prefix = []; rest = line ∷ lines; end = h; are = refl; heads = refl; behind = e; leads = leads }
    ]) refl

-- ALL LINES

record Headings (lines : List (List ℕ)) (t : Stage) : Type 0 where
  outline : HeaderTree
  rest : List (List ℕ)
  is : IsHeaderTree outline
  are : lines ≡ script_header outline.version ∷ heading_lines outline ++ rest
  behind : AreNoDeclarations (script_of (heading_of_tree outline)) rest
  leads : Leads (Reading (script_of (heading_of_tree outline))) rest t

heading_of : (v : Version) (limit line : List ℕ) (lines : List (List ℕ)) (n : ℕ) (t : Stage) (h : HeadingModel) → limit ≡ limit_line n → 1 ≤ n → n ≤ greatest_limit v → head_step (empty_heading v n []) line ≡ Ok h → Declares h lines t
    → Headings (script_header v ∷ limit ∷ line ∷ lines) t
heading_of v limit line lines n t h is low high opens d =
    let o : Outlines v n (line ∷ d.prefix) d.end = leads_outline v n line d.prefix d.end low high (h, opens, d.heads) in
    let all : line ∷ lines ≡ outline_lines o.outline ++ d.rest = ap (λ (ls : List (List ℕ)). line ∷ ls) d.are ∙ ap (λ (ls : List (List ℕ)). ls ++ d.rest) o.lines_are in
    let first : limit ≡ limit_line o.outline.limit = is ∙ ap limit_line (sym o.limit_is) in
    record {
      outline = o.outline;
      rest = d.rest;
      is = o.is;
      are =
          ap (λ (w : Version). script_header w ∷ limit ∷ line ∷ lines) (sym o.version_is)
          ∙ ap₂ (λ (l : List ℕ) (ls : List (List ℕ)). script_header o.outline.version ∷ l ∷ ls) first all;
      behind = subst (λ (g : HeadingModel). AreNoDeclarations (script_of g) d.rest) o.end_is d.behind;
      leads = subst (λ (g : HeadingModel). Leads (Reading (script_of g)) d.rest t) o.end_is d.leads;
    }

no_plan : (s t : Stage) (p : PlanModel) → plan_in s ≡ None → s ≡ t → plan_in t ≡ Some p → ⊥
no_plan s t p none is plan = (let e : None ≡ Some p = sym none ∙ ap plan_in is ∙ plan in cc)

named_leads : (v : Version) (n : ℕ) (limit : List ℕ) (lines : List (List ℕ)) (t : Stage) (p : PlanModel) → limit ≡ limit_line n → 1 ≤ n → n ≤ greatest_limit v → Leads (Naming (version_limit v n)) lines t → plan_in t ≡ Some p → Headings (script_header v ∷ limit ∷ lines) t
unfolding step
named_leads v n limit [] t p is low high leads plan = absurd (no_plan (Naming (version_limit v n)) t p refl leads plan)
named_leads v n limit (line ∷ lines) t p is low high leads plan =
    let r = named_back (head_step (empty_heading v n []) line) leads.0 leads.1 in
    heading_of v limit line lines n t r.0 is low high r.1 (declares r.0 lines t (first_keeps v n line r.0 r.1) (subst (λ (u : Stage). Leads u lines t) r.2 leads.2))

limit_leads : (v : Version) (lines : List (List ℕ)) (t : Stage) (p : PlanModel) → Leads (Limiting v) lines t → plan_in t ≡ Some p → Headings (script_header v ∷ lines) t
limit_leads v [] t p leads plan = absurd (no_plan (Limiting v) t p refl leads plan)
limit_leads v (line ∷ lines) t p leads plan =
    let l : Limits v (words_of line) leads.0 = limit_back v line leads.0 leads.1 in
    named_leads v l.limit line lines t p (line_of line (codes "limit" ∷ decimal l.limit ∷ []) l.are) l.low l.high (subst (λ (u : Stage). Leads u lines t) l.leads leads.2) plan

headings : (lines : List (List ℕ)) (t : Stage) (p : PlanModel) → Leads Opening lines t → plan_in t ≡ Some p → Headings lines t
headings [] t p leads plan = absurd (no_plan Opening t p refl leads plan)
headings (line ∷ lines) t p leads plan =
    let q = header_back line leads.0 leads.1 in
    subst (λ (l : List ℕ). Headings (l ∷ lines) t) (sym q.1) (limit_leads q.0 lines t p (subst (λ (u : Stage). Leads u lines t) q.2 leads.2) plan)

-- SCRIPTS

pub laid_out : ScriptsAreLaidOut
laid_out bytes p is =
    let g : Headings is.lines is.stage = headings is.lines is.stage p is.leads is.plan in
    let heads : Heads g.outline.workers (heading_of_tree g.outline) = heads_all g.outline.workers (empty_heading g.outline.version g.outline.limit g.outline.workers) g.outline.declarations (heads_opened g.outline.version g.outline.limit g.outline.workers) in
    let none : List BlockItem = [] in
    let c : Closed (heading_of_tree g.outline) g.outline.workers [] (replicate (heading_of_tree g.outline).setup.workers none) [] g.rest p =
    rests (heading_of_tree g.outline) g.outline.workers heads p is.stage g.rest [] (replicate (heading_of_tree g.outline).setup.workers none) None [] (omega arith) g.behind g.leads is.plan in
    let all : is.lines ≡ layout_lines (record { outline = g.outline; blocks = c.blocks; rows = c.rows }) = g.are ∙ ap (λ (ls : List (List ℕ)). script_header g.outline.version ∷ heading_lines g.outline ++ ls) c.are in
    let programs : set_all (replicate (heading_of_tree g.outline).setup.workers none) c.blocks ≡ map (items_of_worker (blocks_of_items c.blocks)) (range_with_len 0 (length g.outline.workers)) =
    ap (λ n. set_all (replicate n none) c.blocks) heads.count ∙ programs_are c.blocks (length g.outline.workers) c.differ in
    record {
      layout = record { outline = g.outline; blocks = c.blocks; rows = c.rows };
      is = record { heading = g.is; blocks = c.each; differ = c.differ; rows = c.rows_are; few = c.few };
      text = is.text ∙ ap lines_text all;
      within = is.within;
      plan = c.plan ∙ ap (λ (ps : List (List BlockItem)). planned (heading_of_tree g.outline) ps (concat_rows c.rows)) programs;
    }
