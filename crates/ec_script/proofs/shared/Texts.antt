-- A text and its lines: what is parsed is a script, a script is parsed, and a fault is that of the
-- first faulty line.
use Rattle.std.proofs.Common.{◌≡◌, ◌⊎◌, inl, inr, ℕ, ◌+◌, ◌<◌, ◌≤◌, List, [], ◌∷◌, ◌++◌, length, Bool, true, false, cond, eqb, Option, Some, None, Result, Ok, Err, refl, sym, ap, ◌∙◌, subst, arith, append_assoc, append-nil, nat_lt, le-ltb, lt-ltb}
use Rattle.std.specs.List.{AllByRecursion, join_with_byte, onto_first}
use Rattle.std.proofs.lemmas.List.Splits.{join_with_byte-slice_split}
use Rattle.std.proofs.lemmas.List.Elements.{All-nil, All-cons}
use Rattle.std.proofs.lemmas.Bool.{ltb-false}
use Rattle.ec_script.specs.declared.fault.Kind.{Kind}
use Rattle.ec_script.specs.declared.fault.Kind.TheVariants as kinds
use Rattle.ec_script.specs.declared.parsing.TheConstants.{SCRIPT_MAX}
use Rattle.ec_script.specs.declared.stage.Stage.{Stage}
use Rattle.ec_script.specs.declared.stage.Stage.TheVariants.{Opening}
use Rattle.ec_script.specs.ScriptModel.{PlanModel}
use Rattle.ec_script.specs.Reading.{step}
use Rattle.ec_script.specs.Outcome.{ParseResult, lines_of_text, plan_in, plan_or_fault, after_line, parse_from, parse_result, first_or_empty, long_kind}
use Rattle.ec_script.specs.Grammar.{IsLine, Leads, IsScript, IsRefused, IsCutOff, IsFirstFault}
use Rattle.ec_heading.specs.Spelling.{lines_text}
use Rattle.ec_script.proofs.Lines.{has_first, goes_line, goes_rest}

-- A SCRIPT IS PARSED

lines_go : (n : ℕ) (s t : Stage) (lines : List (List ℕ)) (p : PlanModel) → AllByRecursion IsLine lines → Leads s lines t → plan_in t ≡ Some p
    → parse_from n s (lines_of_text (lines_text lines)) ≡ Ok p
lines_go n s t [] p each leads plan =
    goes_rest n s [] (All-nil (λ b. eqb b 10 ≡ false))
    ∙ ap (plan_or_fault n) (ap plan_in leads ∙ plan)
lines_go n s t (line ∷ lines) p each leads plan =
    let e : lines_text (line ∷ lines) ≡ line ++ 10 ∷ lines_text lines = append_assoc line (10 ∷ []) (lines_text lines) in
    ap (λ (bs : List ℕ). parse_from n s (lines_of_text bs)) e
    ∙ goes_line n s line (lines_text lines) each.0
    ∙ ap (λ r. after_line n r (λ u. parse_from (n + 1) u (lines_of_text (lines_text lines)))) leads.1
    ∙ lines_go (n + 1) leads.0 t lines p each.1 leads.2 plan

pub within_goes : (bytes : List ℕ) → length bytes ≤ SCRIPT_MAX → parse_result bytes ≡ parse_from 1 Opening (lines_of_text bytes)
unfolding parse_result
within_goes bytes within = let e : nat_lt SCRIPT_MAX (length bytes) ≡ false = le-ltb _ _ within in rw e refl

pub long_goes : (bytes : List ℕ) → SCRIPT_MAX < length bytes → parse_result bytes ≡ Err (1, long_kind (first_or_empty (lines_of_text bytes)))
unfolding parse_result
long_goes bytes long = let e : nat_lt SCRIPT_MAX (length bytes) ≡ true = lt-ltb _ _ long in rw e refl

-- a script of a plan is parsed to that plan
pub script_is_read : (bytes : List ℕ) (p : PlanModel) → IsScript bytes p → parse_result bytes ≡ Ok p
script_is_read bytes p is =
    within_goes bytes is.within ∙ ap (λ (bs : List ℕ). parse_from 1 Opening (lines_of_text bs)) is.text ∙ lines_go 1 Opening is.stage is.lines p is.each is.leads is.plan

-- THE PARTS OF A TEXT

onto_lines : (b : ℕ) (ws : List (List ℕ)) → eqb b 10 ≡ false → AllByRecursion IsLine ws → AllByRecursion IsLine (onto_first b ws)
onto_lines b [] apart all = (All-cons (λ x. eqb x 10 ≡ false) b [] apart (All-nil (λ x. eqb x 10 ≡ false)), tt)
onto_lines b (w ∷ ws) apart all = (All-cons (λ x. eqb x 10 ≡ false) b w apart all.0, all.1)

line_step : (t : Bool) (b : ℕ) (ws : List (List ℕ)) → eqb b 10 ≡ t → AllByRecursion IsLine ws → AllByRecursion IsLine (cond t ([] ∷ ws) (onto_first b ws))
line_step true b ws is all = (All-nil (λ x. eqb x 10 ≡ false), all)
line_step false b ws is all = onto_lines b ws is all

pub are_lines : (bytes : List ℕ) → AllByRecursion IsLine (lines_of_text bytes)
are_lines [] = (All-nil (λ x. eqb x 10 ≡ false), tt)
are_lines (b ∷ bytes) = line_step (eqb b 10) b (lines_of_text bytes) refl (are_lines bytes)

lines_before : (lines others : List (List ℕ)) → AllByRecursion IsLine (lines ++ others) → AllByRecursion IsLine lines
lines_before [] others all = tt
lines_before (l ∷ lines) others all = (all.0, lines_before lines others all.1)

pub line_at : (lines : List (List ℕ)) (line : List ℕ) (others : List (List ℕ)) → AllByRecursion IsLine (lines ++ line ∷ others) → IsLine line
line_at [] line others all = all.0
line_at (l ∷ lines) line others all = line_at lines line others all.1

-- what follows a part
abbrev pub behind_of : List (List ℕ) → List ℕ
behind_of [] = []
behind_of (p ∷ ps) = 10 ∷ join_with_byte 10 (p ∷ ps)

join_part : (line : List ℕ) (after : List (List ℕ)) → join_with_byte 10 (line ∷ after) ≡ line ++ behind_of after
join_part line [] = sym (append-nil line)
join_part line (p ∷ ps) = refl

join_lines : (lines : List (List ℕ)) (line : List ℕ) (after : List (List ℕ)) → join_with_byte 10 (lines ++ line ∷ after) ≡ lines_text lines ++ (line ++ behind_of after)
join_lines [] line after = join_part line after
join_lines (l ∷ []) line after =
    ap (λ (r : List ℕ). l ++ 10 ∷ r) (join_part line after) ∙ sym (append_assoc l (10 ∷ []) (line ++ behind_of after))
    ∙ ap (λ (r : List ℕ). r ++ (line ++ behind_of after)) (sym (append-nil (l ++ 10 ∷ [])))
join_lines (l ∷ m ∷ ms) line after =
    ap (λ (r : List ℕ). l ++ 10 ∷ r) (join_lines (m ∷ ms) line after)
    ∙ sym (append_assoc l (10 ∷ []) (lines_text (m ∷ ms) ++ (line ++ behind_of after)))
    ∙ sym (append_assoc (l ++ 10 ∷ []) (lines_text (m ∷ ms)) (line ++ behind_of after))

pub whole : (bytes : List ℕ) (lines : List (List ℕ)) (line : List ℕ) (after : List (List ℕ)) → lines_of_text bytes ≡ lines ++ line ∷ after → bytes ≡ lines_text lines ++ (line ++ behind_of after)
whole bytes lines line after is = sym (join_with_byte-slice_split 10 bytes) ∙ ap (join_with_byte 10) is ∙ join_lines lines line after

-- WHAT IS PARSED IS A SCRIPT

record Reads (s : Stage) (parts : List (List ℕ)) (p : PlanModel) : Type 0 where
  pub lines : List (List ℕ)
  pub stage : Stage
  pub is : parts ≡ lines ++ [] ∷ []
  pub leads : Leads s lines stage
  pub plan : plan_in stage ≡ Some p

finished_plan : (n : ℕ) (o : Option PlanModel) (p : PlanModel) → plan_or_fault n o ≡ Ok p
    → o ≡ Some p
finished_plan n None p is = cc
finished_plan n (Some q) p is = cc

cut_plan : (n : ℕ) (r : Result Stage Kind) (p : PlanModel) → after_line n r (λ t. Err (n, kinds.Unfinished)) ≡ Ok p → ⊥
cut_plan n (Ok t) p is = cc
cut_plan n (Err k) p is = cc

read_parts : (n : ℕ) (s : Stage) (first : List ℕ) (others : List (List ℕ)) (p : PlanModel) → parse_from n s (first ∷ others) ≡ Ok p → Reads s (first ∷ others) p
unfolding parse_from
read_parts n s [] [] p is = record { lines = []; stage = s; is = refl; leads = refl; plan = finished_plan n (plan_in s) p is }
read_parts n s (b ∷ bs) [] p is = absurd (cut_plan n (step s (b ∷ bs)) p is)
read_parts n s first (next ∷ others) p is =
    (elim (step s first) as (λ r. step s first ≡ r → after_line n r (λ t. parse_from (n + 1) t (next ∷ others)) ≡ Ok p → Reads s (first ∷ next ∷ others) p) [
      | Ok t ↦ λ e h. let m = read_parts (n + 1) t next others p h in
          record { lines = first ∷ m.lines; stage = m.stage; is = ap (λ (ps : List (List ℕ)). first ∷ ps) m.is; leads = (t, e, m.leads); plan = m.plan }
      | Err k ↦ λ e h. cc
    ]) refl is

-- what is parsed is within the bound
within_of : (bytes : List ℕ) (p : PlanModel) → parse_result bytes ≡ Ok p → length bytes ≤ SCRIPT_MAX
unfolding parse_result
within_of bytes p is =
    (elim (nat_lt SCRIPT_MAX (length bytes)) as (λ t. nat_lt SCRIPT_MAX (length bytes) ≡ t → cond t (Err (1, long_kind (first_or_empty (lines_of_text bytes)))) (parse_from 1 Opening (lines_of_text bytes)) ≡ Ok p → length bytes ≤ SCRIPT_MAX) [
      | true ↦ λ e h. cc
      | false ↦ λ e h. ltb-false SCRIPT_MAX (length bytes) e
    ]) refl is

-- a text that is parsed to a plan is a script of it
pub read_is_script : (bytes : List ℕ) (p : PlanModel) → parse_result bytes ≡ Ok p → IsScript bytes p
read_is_script bytes p is =
    let within = within_of bytes p is in
    let f = has_first bytes in
    let r = read_parts 1 Opening f.first f.others p (ap (parse_from 1 Opening) (sym f.is) ∙ sym (within_goes bytes within) ∙ is) in
    let e = f.is ∙ r.is in
    record {
      lines = r.lines;
      stage = r.stage;
      text = whole bytes r.lines [] [] e ∙ append-nil (lines_text r.lines);
      each = lines_before r.lines ([] ∷ []) (subst (AllByRecursion IsLine) e (are_lines bytes));
      leads = r.leads;
      plan = r.plan;
      within = within;
    }

-- THE FIRST FAULTY LINE

record Faulty (n : ℕ) (s : Stage) (parts : List (List ℕ)) (m : ℕ) (kind : Kind) : Type 0 where
  pub before : List (List ℕ)
  pub stage : Stage
  pub line : List ℕ
  pub after : List (List ℕ)
  pub is : parts ≡ before ++ line ∷ after
  pub number : m ≡ n + length before
  pub leads : Leads s before stage
  pub why : IsRefused stage line (behind_of after) kind ⊎ IsCutOff stage line (behind_of after) kind

here : (n : ℕ) (s : Stage) (line : List ℕ) (after : List (List ℕ)) (m : ℕ) (kind : Kind) → m ≡ n → IsRefused s line (behind_of after) kind ⊎ IsCutOff s line (behind_of after) kind → Faulty n s (line ∷ after) m kind
here n s line after m kind number why = record { before = []; stage = s; line = line; after = after; is = refl; number = omega (arith, number); leads = refl; why = why }

same_fault : (n m : ℕ) (k l : Kind) → (let r : ParseResult = Err (n, k) in r) ≡ Err (m, l) → (m ≡ n) × (l ≡ k)
same_fault n m k l is =
    let q : (n, k) ≡ (m, l) = cc in
    (sym (ap (λ (x : ℕ × Kind). x.0) q), sym (ap (λ (x : ℕ × Kind). x.1) q))

no_plan : (n : ℕ) (o : Option PlanModel) (m : ℕ) (kind : Kind) → plan_or_fault n o ≡ Err (m, kind) → (m ≡ n) × (kind ≡ kinds.Unfinished) × (o ≡ None)
no_plan n None m kind is =
    let q = same_fault n m kinds.Unfinished kind is in (q.0, q.1, refl)
no_plan n (Some q) m kind is = cc

fault_parts : (n : ℕ) (s : Stage) (first : List ℕ) (others : List (List ℕ)) (m : ℕ) (kind : Kind) → parse_from n s (first ∷ others) ≡ Err (m, kind) → Faulty n s (first ∷ others) m kind
unfolding parse_from
fault_parts n s [] [] m kind is =
    let q = no_plan n (plan_in s) m kind is in
    here n s [] [] m kind q.0 (inr (refl, q.1, inr (refl, q.2)))
fault_parts n s (b ∷ bs) [] m kind is =
    (elim (step s (b ∷ bs)) as (λ r. step s (b ∷ bs) ≡ r → after_line n r (λ t. Err (n, kinds.Unfinished)) ≡ Err (m, kind) → Faulty n s ((b ∷ bs) ∷ []) m kind) [
      | Ok t ↦ λ e h. let q = same_fault n m kinds.Unfinished kind h in here n s (b ∷ bs) [] m kind q.0 (inr (refl, q.1, inl (omega arith, (t, e))))
      | Err k ↦ λ e h. let q = same_fault n m k kind h in here n s (b ∷ bs) [] m kind q.0 (inl (inr (refl, omega arith), e ∙ ap Err (sym q.1)))
    ]) refl is
fault_parts n s first (next ∷ others) m kind is =
    (elim (step s first) as (λ r. step s first ≡ r → after_line n r (λ t. parse_from (n + 1) t (next ∷ others)) ≡ Err (m, kind) → Faulty n s (first ∷ next ∷ others) m kind) [
      | Ok t ↦ λ e h. let f = fault_parts (n + 1) t next others m kind h in
          record { before = first ∷ f.before; stage = f.stage; line = f.line; after = f.after; is = ap (λ (ps : List (List ℕ)). first ∷ ps) f.is; number = omega (arith, f.number); leads = (t, e, f.leads); why = f.why }
      | Err k ↦ λ e h. let q = same_fault n m k kind h in here n s first (next ∷ others) m kind q.0 (inl (inl (join_with_byte 10 (next ∷ others), refl), e ∙ ap Err (sym q.1)))
    ]) refl is

pub fault_is_first : (text : List ℕ) (n : ℕ) (kind : Kind) → length text ≤ SCRIPT_MAX → parse_result text ≡ Err (n, kind) → IsFirstFault text n kind
fault_is_first text n kind within is =
    let f = has_first text in
    let r = fault_parts 1 Opening f.first f.others n kind (ap (parse_from 1 Opening) (sym f.is) ∙ sym (within_goes text within) ∙ is) in
    let e = f.is ∙ r.is in
    let all = subst (AllByRecursion IsLine) e (are_lines text) in
    record {
      before = r.before;
      stage = r.stage;
      line = r.line;
      behind = behind_of r.after;
      whole = whole text r.before r.line r.after e;
      number = omega (arith, r.number);
      each = lines_before r.before (r.line ∷ r.after) all;
      plain = line_at r.before r.line r.after all;
      leads = r.leads;
      why = r.why;
    }

pub long_is_line_1 : (text : List ℕ) (n : ℕ) (kind : Kind) → SCRIPT_MAX < length text → parse_result text ≡ Err (n, kind) → (n ≡ 1) × (kind ≡ long_kind (first_or_empty (lines_of_text text)))
long_is_line_1 text n kind long is =
    let e = long_goes text long in
    let q : (1, long_kind (first_or_empty (lines_of_text text))) ≡ (n, kind) = cc in
    (sym (ap (λ (x : ℕ × Kind). x.0) q), sym (ap (λ (x : ℕ × Kind). x.1) q))
