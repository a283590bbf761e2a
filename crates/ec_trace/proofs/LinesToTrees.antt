-- At `run` the header of a trace is what a syntax tree declares.
use Rattle.std.proofs.Common.{◌≡◌, ◌⊎◌, inl, inr, ℕ, ◌<◌, ◌≤◌, List, [], ◌∷◌, cond, true, false, ◌&&◌, nat_lt, Ok, refl, sym, ap, subst, ◌∙◌, arith, codes, reverse}
use Rattle.std.specs.Prelude.{bytes_eq}
use Rattle.std.proofs.lemmas.Bool.{and_parts, ltb-true}
use Rattle.ec_core.specs.Acceptance.{answer_of}
use Rattle.ec_text.specs.Words.{words_of}
use Rattle.ec_heading.specs.declared.version.Version.{Version}
use Rattle.ec_heading.specs.Versions.{greatest_limit}
use Rattle.ec_heading.specs.HeadingModel.{HeadingModel}
use Rattle.ec_heading.specs.Heading.{head_step}
use Rattle.ec_heading.specs.HeaderTree.{empty_heading}
use Rattle.ec_heading.specs.HeadingInvariant.{HasHeaderTree}
use Rattle.ec_heading.proofs.shared.LeadLines.{named_outlined, declared_outlined}
use Rattle.ec_trace.specs.Stages.{Stage, Opening, Limiting, Declaring, Running, Ended}
use Rattle.ec_trace.specs.Entries.{entry_of}
use Rattle.ec_trace.specs.EntryLines.{LinesLeadToOutlines}
use Rattle.ec_trace.specs.FirstFault.{Leads}
use Rattle.ec_trace.specs.TraceModel.{TraceModel}
use Rattle.ec_trace.specs.Step.{step, limit_of, after_declaration, entry_step, map_running}
use Rattle.ec_trace.proofs.ReadRuns.{ran_back, entered_back, answered_back}
use Rattle.ec_trace.proofs.shared.ReadTraces.{limit_back, limited_back, declared_back, first_back}

-- only the limit was read, or a syntax tree declares the header
abbrev IsBegun : HeadingModel → Type 0
IsBegun h = ((v : Version) × (n : ℕ) × (1 ≤ n) × (n ≤ greatest_limit v) × (h ≡ empty_heading v n [])) ⊎ HasHeaderTree h

abbrev StageHeads : Stage → Type 0
StageHeads Opening = Unit {0}
StageHeads (Limiting v) = Unit {0}
StageHeads (Declaring h) = IsBegun h
StageHeads (Running t) = HasHeaderTree t.heading
StageHeads (Ended t) = HasHeaderTree t.heading

line_outlined : (h next : HeadingModel) (line : List ℕ) → IsBegun h → head_step h line ≡ Ok next → HasHeaderTree next
line_outlined h next line (inl n) is = named_outlined n.0 n.1 line next n.2 n.3 (ap (λ g. head_step g line) (sym n.4) ∙ is)
line_outlined h next line (inr has) is = declared_outlined h line next has is

run_outlined : (h : HeadingModel) → IsBegun h → 0 < h.setup.workers → HasHeaderTree h
run_outlined h (inl n) some = absurd (let none : h.setup.workers ≡ 0 = ap (λ (g : HeadingModel). g.setup.workers) n.4 in omega arith)
run_outlined h (inr has) some = has

pub entry_heading : (t u : TraceModel) (line : List ℕ) → entry_step t line ≡ Ok u → u.heading ≡ t.heading
unfolding entry_step
entry_heading t u line is =
    let o = entered_back t u (entry_of t.heading.words line) is in
    ap (λ (x : TraceModel). x.heading) (answered_back t u o.0 (answer_of t.heading.setup (reverse t.entries) o.0.worker o.0.act) o.2).1

step_heads : (s t : Stage) (line : List ℕ) → StageHeads s → step s line ≡ Ok t → StageHeads t
unfolding step limit_of
step_heads Opening t line heads is = subst StageHeads (sym (first_back line t is).2) tt
step_heads (Limiting v) t line heads is =
    let l = limited_back v (limit_of v line) t is in
    let k = limit_back v (words_of line) l.0 l.1 in
    subst StageHeads (sym l.2) (inl (v, l.0, k.low, k.high, refl))
step_heads (Declaring h) t line heads is =
    elim (bytes_eq line (codes "run") && nat_lt 0 h.setup.workers) as (λ b. (bytes_eq line (codes "run") && nat_lt 0 h.setup.workers) ≡ b → cond b (Ok (Running (record { heading = h; entries = [] }))) (after_declaration (head_step h line)) ≡ Ok t → StageHeads t) [
      | true ↦ λ q g.
          (let some : 0 < h.setup.workers = ltb-true _ _ (and_parts (bytes_eq line (codes "run")) (nat_lt 0 h.setup.workers) q).1 in
          let same : Running (record { heading = h; entries = [] }) ≡ t = cc in
          subst StageHeads same (run_outlined h heads some))
      | false ↦ λ q g.
          (let d = declared_back (head_step h line) t g in
          subst StageHeads (sym d.2) (inr (line_outlined h d.0 line heads d.1)))
    ] refl is
step_heads (Running u) t line heads is =
    elim (bytes_eq line (codes "end")) as (λ b. cond b (Ok (Ended u)) (map_running (entry_step u line)) ≡ Ok t → StageHeads t) [
      | true ↦ λ g. (let same : Ended u ≡ t = cc in subst StageHeads same heads)
      | false ↦ λ g.
          (let r = ran_back (entry_step u line) t g in
          subst StageHeads (sym r.2) (subst HasHeaderTree (sym (entry_heading u r.0 line r.1)) heads))
    ] is
step_heads (Ended u) t line heads is = cc

leads_heads : (s : Stage) (lines : List (List ℕ)) (t : Stage) → StageHeads s → Leads s lines t → StageHeads t
leads_heads s [] t heads leads = subst StageHeads leads heads
leads_heads s (line ∷ lines) t heads (next, taken, leads) = leads_heads next lines t (step_heads s next line heads taken) leads

pub lines_lead : LinesLeadToOutlines
lines_lead before t leads = leads_heads Opening before (Running t) tt leads
