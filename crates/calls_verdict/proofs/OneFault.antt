-- There is only one first faulty event.
use Rattle.std.proofs.Common.{◌≡◌, ◌+◌, ◌≤◌, inl, inr, List, [], ◌∷◌, ◌++◌, cond}
use Rattle.std.proofs.Common.{ap, sym, ◌∙◌, arith, subst}
use Rattle.std.proofs.lemmas.Bool.{cases_lt, le-ltb}
use Rattle.calls_core.specs.declared.history.Kind.{Kind}
use Rattle.calls_core.specs.declared.history.Event.{Event}
use Rattle.calls_core.specs.Histories.{clock, part, IsHistory}
use Rattle.calls_core.specs.Beginnings.{until}
use Rattle.calls_core.specs.Completions.{IsLinearizable}
use Rattle.calls_core.proofs.Beginnings.{history_earlier}
use Rattle.calls_local.proofs.Responding.{answers_become_responses}
use Rattle.calls_verdict.specs.Faults.{IsDecided}
use Rattle.calls_verdict.specs.Verdicts.{AreDecided, AreSettled}
use Rattle.calls_verdict.specs.Laws.{TheFirstFaultIsOne}
use Rattle.calls_verdict.proofs.Alternatives.{a_refusal_is_final}
use Rattle.calls_verdict.proofs.Untils.{until_all}
use Rattle.calls_verdict.proofs.Clearing.{decided_settled}

-- a history ends no earlier than a beginning of it, and what follows is no earlier than its end
pub ends_later : (kinds : List Kind) (late past : List Event) → IsHistory kinds (late ++ past)
    → clock past ≤ clock (late ++ past)
ends_later kinds [] past h = omega arith
ends_later kinds (y ∷ late) past h =
    (let before : clock past ≤ clock (late ++ past) = ends_later kinds late past h.2 in
    let next : clock (late ++ past) ≤ y.at = h.0 in
    omega arith)

-- the events before the end of a past, in a longer one
pub until_past : (kinds : List Kind) (late past : List Event) → IsHistory kinds (late ++ past)
    → until (clock past) (late ++ past) ≡ past
until_past kinds [] past h = until_all (clock past) past (omega arith)
until_past kinds (y ∷ late) past h =
    (let before : clock past ≤ clock (late ++ past) = ends_later kinds late past h.2 in
    let next : clock (late ++ past) ≤ y.at = h.0 in
    ap (λ b. cond b (y ∷ (late ++ past)) (until (clock past) (late ++ past)))
    (le-ltb y.at (clock past) (omega arith))
    ∙ until_past kinds late past h.2)

-- the events before x
pub before_x : (kinds : List Kind) (late past : List Event) (x : Event)
    → IsHistory kinds (late ++ x ∷ past) → until x.at (late ++ x ∷ past) ≡ past
before_x kinds [] past x h =
    ap (λ b. cond b (x ∷ past) (until x.at past)) (le-ltb x.at x.at (omega arith))
    ∙ until_all x.at past h.0
before_x kinds (y ∷ late) past x h =
    (let before : x.at + 1 ≤ clock (late ++ x ∷ past) = ends_later kinds late (x ∷ past) h.2 in
    let next : clock (late ++ x ∷ past) ≤ y.at = h.0 in
    ap (λ b. cond b (y ∷ (late ++ x ∷ past)) (until x.at (late ++ x ∷ past)))
    (le-ltb y.at x.at (omega arith))
    ∙ before_x kinds late past x h.2)

-- what is decided up to x is settled there
pub decided_are_settled : (kinds : List Kind) (late past : List Event) (x : Event)
    → IsHistory kinds (late ++ x ∷ past) → AreDecided kinds (x ∷ past)
    → AreSettled kinds (late ++ x ∷ past) (x.at + 1)
decided_are_settled kinds late past x h d = λ k kind is.
    decided_settled kind (late ++ x ∷ past) k (x.at + 1)
    (subst (λ (es : List Event). IsDecided kind (part k es))
    (sym (until_past kinds late (x ∷ past) h)) (d k kind is))

pub the_first_fault_is_one : TheFirstFaultIsOne
the_first_fault_is_one = λ kinds late past x at k f h d good bad r.
    (let whole = late ++ x ∷ past in
    let up_to : until (x.at + 1) whole ≡ x ∷ past = until_past kinds late (x ∷ past) h in
    let before : until x.at whole ≡ past = before_x kinds late past x h in
    elim (cases_lt x.at at) [
      | inl early ↦ absurd (bad
          (let clean = (r.before (x.at + 1) (omega arith)).1 d in
          let longer = subst (IsHistory kinds) (sym up_to) (history_earlier kinds late (x ∷ past) h)
          in
          let answered = answers_become_responses kinds (until (x.at + 1) whole) clean.0 longer
          clean.1
          in
          subst (IsLinearizable kinds) up_to (answered.0, answered.1)))
      | inr ge ↦ elim (cases_lt at x.at) [
        | inl late_fault ↦ absurd (a_refusal_is_final kinds whole at k f x.at h r late_fault
            (subst (IsLinearizable kinds) (sym before) good))
        | inr le ↦ omega arith
      ]
    ])
