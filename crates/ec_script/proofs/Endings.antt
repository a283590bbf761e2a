-- A text is reported as unfinished exactly if it ends too early.
use Rattle.std.proofs.Common.{◌≡◌, ◌≢◌, ◌⊎◌, inl, inr, ℕ, ◌+◌, ◌<◌, ◌≤◌, List, [], ◌∷◌, ◌++◌, length, Bool, true, false, cond, Option, Some, None, Result, Ok, Err, refl, sym, ap, ◌∙◌, subst, arith, append-nil, nat_lt}
use Rattle.ec_text.specs.Words.{words_of, number_in_word}
use Rattle.ec_heading.specs.Versions.{is_limit, version_of}
use Rattle.ec_script.specs.Headers.{script_header, version_limit}
use Rattle.ec_heading.specs.declared.version.Version.{Version}
use Rattle.ec_heading.specs.declared.heading.HeadFault.{HeadFault}
use Rattle.ec_heading.specs.HeadingModel.{HeadingModel}
use Rattle.ec_heading.specs.Heading.{head_step}
use Rattle.ec_heading.specs.HeaderTree.{empty_heading}
use Rattle.ec_script.specs.declared.fault.Kind.{Kind}
use Rattle.ec_script.specs.declared.fault.Kind.TheVariants as kinds
use Rattle.ec_script.specs.declared.parsing.TheConstants.{SCRIPT_MAX}
use Rattle.ec_script.specs.declared.script.OpenBlock.{OpenBlock}
use Rattle.ec_script.specs.declared.stage.Stage.{Stage}
use Rattle.ec_script.specs.declared.stage.Stage.TheVariants.{Opening, Limiting, Naming, Reading}
use Rattle.ec_script.specs.Endings.{IsFaultless, IsInside, EndsEarly, UnfinishedIsReported}
use Rattle.ec_script.specs.Grammar.{Leads, IsCutOff, IsFirstFault, IsLongFault, IsFault}
use Rattle.ec_heading.specs.Spelling.{lines_text}
use Rattle.ec_script.specs.Holding.{HasKind}
use Rattle.ec_script.specs.Outcome.{plan_or, plan_in}
use Rattle.ec_script.specs.Reading.{after_limit, limit_digits, limit_or, limit_step, stage_of_version, script_of, stage_of_heading, read_on, script_step, step}
use Rattle.ec_script.specs.ScriptModel.{ScriptModel}
use Rattle.ec_script.proofs.ReportedFaults.{faults_are_reported}
use Rattle.ec_script.proofs.ReportedKinds.{least_is_told, faultless_taken}

-- HOW MANY LINES CAME

-- a stage after this many lines
abbrev HasReadLines : Stage → ℕ → Type 0
HasReadLines Opening n = n ≡ 0
HasReadLines (Limiting v) n = n ≡ 1
HasReadLines (Naming b) n = n ≡ 2
HasReadLines (Reading s) n = 3 ≤ n

opening_on : (o : Option Version) (t : Stage) (n : ℕ) → n ≡ 0 → stage_of_version o ≡ Ok t → HasReadLines t (n + 1)
opening_on (Some v) t n at is = (let same : Limiting v ≡ t = cc in subst (λ u. HasReadLines u (n + 1)) same (omega (arith, at)))
opening_on None t n at is = cc

range_on : (b : Bool) (v : Version) (m : ℕ) (t : Stage) (n : ℕ) → n ≡ 1 → cond b (Ok (Naming (version_limit v m))) (Err kinds.BadNumber) ≡ Ok t → HasReadLines t (n + 1)
range_on true v m t n at is = (let same : Naming (version_limit v m) ≡ t = cc in subst (λ u. HasReadLines u (n + 1)) same (omega (arith, at)))
range_on false v m t n at is = cc

limited_on : (v : Version) (o : Option ℕ) (t : Stage) (n : ℕ) → n ≡ 1 → after_limit v o ≡ Ok t → HasReadLines t (n + 1)
limited_on v None t n at is = cc
limited_on v (Some m) t n at is = range_on (is_limit v m) v m t n at is

limit_on : (v : Version) (o : Option (List ℕ)) (t : Stage) (n : ℕ) → n ≡ 1 → limit_or v o ≡ Ok t → HasReadLines t (n + 1)
limit_on v None t n at is = cc
limit_on v (Some digits) t n at is = limited_on v (number_in_word digits) t n at is

long_on : (v : Version) (b : Bool) (o : Option (List ℕ)) (t : Stage) (n : ℕ) → n ≡ 1 → cond b (Err kinds.BadLine) (limit_or v o) ≡ Ok t → HasReadLines t (n + 1)
long_on v true o t n at is = cc
long_on v false o t n at is = limit_on v o t n at is

limiting_on : (v : Version) (line : List ℕ) (t : Stage) (n : ℕ) → n ≡ 1 → limit_step v line ≡ Ok t → HasReadLines t (n + 1)
unfolding limit_step
limiting_on v line t n at is = long_on v (nat_lt 8192 (length line)) (limit_digits (words_of line)) t n at is

naming_on : (r : Result HeadingModel HeadFault) (t : Stage) (n : ℕ) → n ≡ 2 → stage_of_heading r ≡ Ok t → HasReadLines t (n + 1)
naming_on (Ok h) t n at is = (let same : Reading (script_of h) ≡ t = cc in subst (λ u. HasReadLines u (n + 1)) same (omega (arith, at)))
naming_on (Err f) t n at is = cc

reading_on : (r : Result ScriptModel Kind) (t : Stage) (n : ℕ) → 3 ≤ n → read_on r ≡ Ok t → HasReadLines t (n + 1)
reading_on (Ok s) t n at is = (let same : Reading s ≡ t = cc in subst (λ u. HasReadLines u (n + 1)) same (omega (arith, at)))
reading_on (Err k) t n at is = cc

step_on : (s t : Stage) (line : List ℕ) (n : ℕ) → HasReadLines s n → step s line ≡ Ok t → HasReadLines t (n + 1)
unfolding step
step_on Opening t line n at is = opening_on (version_of script_header line) t n at is
step_on (Limiting v) t line n at is = limiting_on v line t n at is
step_on (Naming b) t line n at is = naming_on (head_step (empty_heading b.version b.limit []) line) t n at is
step_on (Reading s) t line n at is = reading_on (script_step s line) t n at is

leads_on : (s : Stage) (lines : List (List ℕ)) (t : Stage) (n : ℕ) → HasReadLines s n → Leads s lines t → HasReadLines t (n + length lines)
leads_on s [] t n at leads = subst (λ (m : ℕ). HasReadLines t m) (let e : n ≡ n + 0 = omega arith in e) (subst (λ u. HasReadLines u n) leads at)
leads_on s (line ∷ lines) t n at leads =
    subst (λ (m : ℕ). HasReadLines t m) (let e : (n + 1) + length lines ≡ n + length (line ∷ lines) = omega arith in e) (leads_on leads.0 lines t (n + 1) (step_on s leads.0 line n at leads.1) leads.2)

behind : (before : List (List ℕ)) (stage : Stage) → Leads Opening before stage → HasReadLines stage (length before)
behind before stage leads = subst (λ (m : ℕ). HasReadLines stage m) (let e : 0 + length before ≡ length before = omega arith in e) (leads_on Opening before stage 0 refl leads)

-- WHEN THERE IS NO PLAN

open_block : (s : ScriptModel) (b : Option OpenBlock) → plan_or s b ≡ None → b ≢ None
open_block s None is none = cc
open_block s (Some b) is none = cc

no_plan_or : (s : ScriptModel) (b : Option OpenBlock) → b ≢ None → plan_or s b ≡ None
no_plan_or s None some = absurd (some refl)
no_plan_or s (Some b) some = refl

early_of : (stage : Stage) (n : ℕ) → HasReadLines stage n → plan_in stage ≡ None → (n < 3) ⊎ IsInside stage
early_of Opening n at is = inl (omega (arith, at))
early_of (Limiting v) n at is = inl (omega (arith, at))
early_of (Naming b) n at is = inl (omega (arith, at))
early_of (Reading s) n at is = inr (open_block s s.block is)

of_early : (stage : Stage) (n : ℕ) → HasReadLines stage n → (n < 3) ⊎ IsInside stage → plan_in stage ≡ None
of_early (Reading s) n at (inl few) = absurd (omega (arith, at, few))
of_early (Reading s) n at (inr inside) = no_plan_or s s.block inside
of_early _ n at early = refl

-- A TEXT

no_line_unfinished : (stage : Stage) (line : List ℕ) → HasKind stage line kinds.Unfinished → ⊥
no_line_unfinished Opening line h = h
no_line_unfinished (Limiting v) line h = h.2
no_line_unfinished (Naming b) line h = h.2
no_line_unfinished (Reading s) line (inl h) = h.2
no_line_unfinished (Reading s) line (inr h) = h.2

some_bytes : (line : List ℕ) → 0 < length line → line ≢ []
some_bytes [] some none = omega arith
some_bytes (b ∷ bs) some none = cc

bytes_some : (line : List ℕ) → line ≢ [] → 0 < length line
bytes_some [] some = absurd (some refl)
bytes_some (b ∷ bs) some = omega arith

cut_early : (before : List (List ℕ)) (stage : Stage) (line behind' : List ℕ) → Leads Opening before stage → IsCutOff stage line behind' kinds.Unfinished → ((line ≢ []) × IsFaultless stage line) ⊎ ((line ≡ []) × ((length before < 3) ⊎ IsInside stage))
cut_early before stage line rest leads (none, is, inl (some, next)) = inl (some_bytes line some, (faultless_taken before stage line leads).0 next)
cut_early before stage line rest leads (none, is, inr (empty, no_plan)) = inr (empty, early_of stage (length before) (behind before stage leads) no_plan)

first_early : (text : List ℕ) (n : ℕ) → IsFirstFault text n kinds.Unfinished → EndsEarly text n
first_early text n f = elim f.why [
  | inl refused ↦ absurd (no_line_unfinished f.stage f.line ((least_is_told f.before f.stage f.line kinds.Unfinished f.leads).0 refused.1).0)
  | inr cut ↦ record {
    before = f.before;
    stage = f.stage;
    line = f.line;
    whole = f.whole ∙ ap (λ (r : List ℕ). lines_text f.before ++ (f.line ++ r)) cut.0 ∙ ap (λ (r : List ℕ). lines_text f.before ++ r) (append-nil f.line);
    number = f.number;
    each = f.each;
    plain = f.plain;
    leads = f.leads;
    early = cut_early f.before f.stage f.line f.behind f.leads cut;
  }
]

no_long : (text : List ℕ) (n : ℕ) → IsLongFault text n kinds.Unfinished → ⊥
no_long text n f = elim f.why [ inl h ↦ (let e : kinds.Unfinished ≡ kinds.TooMany = h.2 in cc) | inr h ↦ (let e : kinds.Unfinished ≡ kinds.BadHeader = h.1 in cc) ]

ends_early : (text : List ℕ) (n : ℕ) → IsFault text n kinds.Unfinished → (length text ≤ SCRIPT_MAX) × EndsEarly text n
ends_early text n (inl (within, f)) = (within, first_early text n f)
ends_early text n (inr (long, f)) = absurd (no_long text n f)

early_cut : (text : List ℕ) (n : ℕ) (e : EndsEarly text n) → IsCutOff e.stage e.line [] kinds.Unfinished
early_cut text n e = elim e.early as (λ x. IsCutOff e.stage e.line [] kinds.Unfinished) [
  | inl h ↦ (refl, refl, inl (bytes_some e.line h.0, (faultless_taken e.before e.stage e.line e.leads).1 h.1))
  | inr h ↦ (refl, refl, inr (h.0, of_early e.stage (length e.before) (behind e.before e.stage e.leads) h.1))
]

early_first : (text : List ℕ) (n : ℕ) → EndsEarly text n → IsFirstFault text n kinds.Unfinished
early_first text n e = record {
  before = e.before;
  stage = e.stage;
  line = e.line;
  behind = [];
  whole = e.whole ∙ ap (λ (r : List ℕ). lines_text e.before ++ r) (sym (append-nil e.line));
  number = e.number;
  each = e.each;
  plain = e.plain;
  leads = e.leads;
  why = inr (early_cut text n e);
}

pub unfinished_told : UnfinishedIsReported
unfinished_told text n = (
  (λ is. ends_early text n ((faults_are_reported text n kinds.Unfinished).0 is)),
  λ e. (faults_are_reported text n kinds.Unfinished).1 (inl (e.0, early_first text n e.1)),
)
