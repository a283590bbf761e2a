-- What stage of a trace its lines lead to, by how many they are.
use Rattle.std.proofs.Common.{◌≡◌, ◌⊎◌, inl, inr, ℕ, ◌+◌, ◌<◌, ◌≤◌, List, [], ◌∷◌, ◌++◌, length}
use Rattle.std.proofs.Common.{cond, true, false, ◌&&◌, nat_lt}
use Rattle.std.proofs.Common.{Ok, refl, sym, ap, subst, ◌∙◌, arith, codes}
use Rattle.std.specs.Prelude.{bytes_eq}
use Rattle.ec_text.specs.Words.{words_of}
use Rattle.ec_heading.specs.declared.version.Version.{Version}
use Rattle.ec_heading.specs.Versions.{greatest_limit}
use Rattle.ec_heading.specs.HeadingModel.{HeadingModel}
use Rattle.ec_heading.specs.Heading.{head_step}
use Rattle.ec_heading.specs.HeaderTree.{empty_heading}
use Rattle.ec_heading.specs.HeadingInvariant.{HasHeaderTree}
use Rattle.ec_heading.proofs.shared.LeadLines.{named_outlined, declared_outlined}
use Rattle.ec_heading.proofs.shared.Phrases.{same_word}
use Rattle.ec_trace.specs.Stages.{Stage, Opening, Limiting, Declaring, Running, Ended}
use Rattle.ec_trace.specs.FirstFault.{Leads}
use Rattle.ec_trace.specs.TraceModel.{TraceModel}
use Rattle.ec_trace.specs.Step.{step, limit_of, after_declaration, entry_step, map_running}
use Rattle.ec_trace.proofs.ReadRuns.{ran_back}
use Rattle.ec_trace.proofs.shared.ReadTraces.{limit_back, limited_back, declared_back, first_back}
use Rattle.ec_trace.proofs.LinesToTrees.{entry_heading}

-- a header after its second line, before the third
pub record IsEmpty (h : HeadingModel) : Type 0 where
  pub version : Version
  pub limit : ℕ
  pub low : 1 ≤ limit
  pub high : limit ≤ greatest_limit version
  pub is : h ≡ empty_heading version limit []

-- the stage before line n
abbrev pub Counted : ℕ → Stage → Type 0
Counted n Opening = n ≡ 1
Counted n (Limiting v) = n ≡ 2
Counted n (Declaring h) = ((n ≡ 3) × IsEmpty h) ⊎ ((3 < n) × HasHeaderTree h)
Counted n (Running t) = Unit {0}
Counted n (Ended t) = Unit {0}

started : (h : HeadingModel) → Stage
started h = Running (record { heading = h; entries = [] })

line_outlined : (n : ℕ) (h next : HeadingModel) (line : List ℕ) → Counted n (Declaring h)
    → head_step h line ≡ Ok next → HasHeaderTree next
line_outlined n h next line (inl (at, e)) is =
    named_outlined e.version e.limit line next e.low e.high
    (ap (λ g. head_step g line) (sym e.is) ∙ is)
line_outlined n h next line (inr (at, has)) is = declared_outlined h line next has is

later : (n : ℕ) (h : HeadingModel) → Counted n (Declaring h) → 3 < n + 1
later n h (inl (at, e)) = omega (arith, at)
later n h (inr (at, has)) = omega (arith, at)

step_counted : (n : ℕ) (s t : Stage) (line : List ℕ) → Counted n s → step s line ≡ Ok t
    → Counted (n + 1) t
unfolding step limit_of
step_counted n Opening t line c is =
    let at : n + 1 ≡ 2 = omega (arith, c) in
    subst (Counted (n + 1)) (sym (first_back line t is).2) at
step_counted n (Limiting v) t line c is =
    let l = limited_back v (limit_of v line) t is in
    let k = limit_back v (words_of line) l.0 l.1 in
    let at : n + 1 ≡ 3 = omega (arith, c) in
    subst (Counted (n + 1)) (sym l.2)
    (inl (at, record { version = v; limit = l.0; low = k.low; high = k.high; is = refl }))
step_counted n (Declaring h) t line c is =
    elim (bytes_eq line (codes "run") && nat_lt 0 h.setup.workers)
    as (λ b. cond b (Ok (Running (record { heading = h; entries = [] })))
    (after_declaration (head_step h line)) ≡ Ok t → Counted (n + 1) t) [
      | true ↦ λ g.
          (let same : Running (record { heading = h; entries = [] }) ≡ t = cc in
          subst (Counted (n + 1)) same tt)
      | false ↦ λ g.
          (let d = declared_back (head_step h line) t g in
          subst (Counted (n + 1)) (sym d.2)
          (inr (later n h c, line_outlined n h d.0 line c d.1)))
    ] is
step_counted n (Running u) t line c is =
    elim (bytes_eq line (codes "end"))
    as (λ b. cond b (Ok (Ended u)) (map_running (entry_step u line)) ≡ Ok t → Counted (n + 1) t) [
      | true ↦ λ g. (let same : Ended u ≡ t = cc in subst (Counted (n + 1)) same tt)
      | false ↦ λ g.
          (let r = ran_back (entry_step u line) t g in subst (Counted (n + 1)) (sym r.2) tt)
    ] is
step_counted n (Ended u) t line c is = cc

-- the lines so far, by their number
pub leads_counted : (n m : ℕ) (s : Stage) (lines : List (List ℕ)) (t : Stage) → Counted n s
    → n + length lines ≡ m → Leads s lines t → Counted m t
leads_counted n m s [] t c count same =
    let at : n ≡ m = omega (arith, count) in
    subst (λ (k : ℕ). Counted k t) at (subst (Counted n) same c)
leads_counted n m s (line ∷ lines) t c count (next, taken, leads) =
    leads_counted (n + 1) m next lines t (step_counted n s next line c taken)
    (omega (arith, count)) leads

-- ONLY `end` ENDS A TRACE

ended_line_is : (s : Stage) (u : TraceModel) (line : List ℕ) → step s line ≡ Ok (Ended u)
    → line ≡ codes "end"
unfolding step limit_of
ended_line_is Opening u line is = (let other = (first_back line (Ended u) is).2 in cc)
ended_line_is (Limiting v) u line is =
    (let other = (limited_back v (limit_of v line) (Ended u) is).2 in cc)
ended_line_is (Declaring h) u line is =
    elim (bytes_eq line (codes "run") && nat_lt 0 h.setup.workers)
    as (λ b. cond b (Ok (Running (record { heading = h; entries = [] })))
    (after_declaration (head_step h line)) ≡ Ok (Ended u) → line ≡ codes "end") [
      | true ↦ λ g. cc
      | false ↦ λ g. (let other = (declared_back (head_step h line) (Ended u) g).2 in cc)
    ] is
ended_line_is (Running t) u line is =
    elim (bytes_eq line (codes "end")) as (λ b. bytes_eq line (codes "end") ≡ b
    → cond b (Ok (Ended t)) (map_running (entry_step t line)) ≡ Ok (Ended u) → line ≡ codes "end") [
      | true ↦ λ q g. same_word line (codes "end") q
      | false ↦ λ q g. (let other = (ran_back (entry_step t line) (Ended u) g).2 in cc)
    ] refl is
ended_line_is (Ended t) u line is = cc

pub record EndsSo (lines : List (List ℕ)) : Type 0 where
  pub before : List (List ℕ)
  pub is : lines ≡ before ++ codes "end" ∷ []

last_end : (s : Stage) (line : List ℕ) (lines : List (List ℕ)) (t : TraceModel)
    → Leads s (line ∷ lines) (Ended t) → EndsSo (line ∷ lines)
last_end s line [] t (next, taken, same) =
    let is : line ≡ codes "end" = ended_line_is s t line (taken ∙ ap Ok same) in
    record { before = []; is = ap (λ (l : List ℕ). l ∷ []) is }
last_end s line (l ∷ ls) t (next, taken, rest) =
    let r = last_end next l ls t rest in
    record { before = line ∷ r.before; is = ap (λ (q : List (List ℕ)). line ∷ q) r.is }

-- lines that lead to the end have `end` as their last
pub lines_end : (lines : List (List ℕ)) (t : TraceModel) → Leads Opening lines (Ended t)
    → EndsSo lines
lines_end [] t leads = cc
lines_end (line ∷ lines) t leads = last_end Opening line lines t leads

-- THE HEADER STAYS THE SAME AFTER `run`

-- entries may come, or the last line came, under this heading
abbrev pub IsUnder : HeadingModel → Stage → Type 0
IsUnder g (Running t) = t.heading ≡ g
IsUnder g (Ended t) = t.heading ≡ g
IsUnder g _ = ⊥

pub step_under : (g : HeadingModel) (s t : Stage) (line : List ℕ) → IsUnder g s → step s line ≡ Ok t
    → IsUnder g t
unfolding step
step_under g (Running u) t line under is =
    elim (bytes_eq line (codes "end"))
    as (λ b. cond b (Ok (Ended u)) (map_running (entry_step u line)) ≡ Ok t → IsUnder g t) [
      | true ↦ λ e. (let same : Ended u ≡ t = cc in subst (IsUnder g) same under)
      | false ↦ λ e.
          (let r = ran_back (entry_step u line) t e in
          subst (IsUnder g) (sym r.2) (entry_heading u r.0 line r.1 ∙ under))
    ] is
step_under g (Ended u) t line under is = cc
step_under g Opening t line under is = absurd under
step_under g (Limiting v) t line under is = absurd under
step_under g (Declaring h) t line under is = absurd under
