-- A fault and a linearization: not both, and one of them if all objects are decided.
use Rattle.std.proofs.Common.{◌≡◌, ℕ, zero, suc, ◌+◌, ◌<◌, ◌≤◌, ◌⊎◌, inl, inr}
use Rattle.std.proofs.Common.{List, [], ◌∷◌, ◌++◌, length, cond, refl}
use Rattle.std.proofs.Common.{Option, Some, ap, sym, ◌∙◌, arith, subst, slice_get, map}
use Rattle.std.proofs.lemmas.Bool.{cases_lt, lt-ltb, le-ltb}
use Rattle.std.proofs.lemmas.Option.{slice_get_within, same_Some}
use Rattle.calls_core.specs.declared.history.Kind.{Kind}
use Rattle.calls_core.specs.declared.history.Event.{Event}
use Rattle.calls_core.specs.Histories.{clock, part, pending_calls, completed_calls, IsHistory}
use Rattle.calls_core.specs.Linearizations.{IsLegalHistory, initial, IsLinearOrder, calls_on}
use Rattle.calls_core.specs.Beginnings.{until}
use Rattle.calls_core.specs.Completions.{IsLinearizable, known_at}
use Rattle.calls_core.specs.Outcomes.{IsOrderOf, HasOrderOf}
use Rattle.calls_core.proofs.Beginnings.{history_earlier, whole_of_earlier, until_split}
use Rattle.calls_local.proofs.Completing.{responses_become_answers}
use Rattle.calls_local.proofs.Responding.{answers_become_responses}
use Rattle.calls_local.proofs.Parts.{part_history_of, part_clock, order_of_part}
use Rattle.calls_local.proofs.Points.{parts_are_linearized}
use Rattle.calls_verdict.specs.Verdicts.{IsFaultyOn, AreDecided}
use Rattle.calls_verdict.specs.Laws.{AFaultLeavesNoLinearization, EveryHistoryIsDecided}
use Rattle.calls_verdict.specs.Laws.{WhatIsShownIsAFault, ARefusalIsFinal}
use Rattle.calls_verdict.proofs.OfKinds.{shown, fault_leaves_no_order, every_kind_is_decided}
use Rattle.calls_verdict.proofs.OfKinds.{decided_order}
use Rattle.calls_verdict.proofs.Gathering.{kind_at, whole_from_parts}

pub a_fault_leaves_no_linearization : AFaultLeavesNoLinearization
a_fault_leaves_no_linearization = λ kinds late past k h fault l.
    (let t = clock past in
    let before = history_earlier kinds late past h in
    let whole = whole_of_earlier kinds late past h (
      map (known_at (clock (late ++ past))) l.0,
      responses_become_answers kinds
          (late ++ past) l.0 h l.1,
    ) in
    let there = order_of_part (IsLegalHistory (initial (slice_get kinds k))) kinds k t past
    (calls_on k whole.0) before
    (parts_are_linearized kinds past whole.0 whole.1 k) in
    let order : IsOrderOf fault.kind (part k past) t (calls_on k whole.0) =
    subst (λ (z : Option Kind). IsLinearOrder (IsLegalHistory (initial z))
    (completed_calls (part k past))
    (pending_calls (part k past)) t (calls_on k whole.0)) fault.is there in
    fault_leaves_no_order fault.kind (part k past) t (calls_on k whole.0)
    (part_history_of kinds k fault.kind past before fault.is) (part_clock kinds k past before)
    fault.faulty order)

module _ (kinds : List Kind) (past : List Event) (h : IsHistory kinds past)
    (d : AreDecided kinds past) where
  abbrev AllOrdered : ℕ → Type 0
  AllOrdered n = (k : ℕ) (kind : Kind) → k < n → slice_get kinds k ≡ Some kind
      → HasOrderOf kind (part k past)

  abbrev SomeFault : Type 0
  SomeFault = (k : ℕ) × IsFaultyOn kinds past k

  one_decided : (n : ℕ) (kind : Kind) → slice_get kinds n ≡ Some kind
      → HasOrderOf kind (part n past) ⊎ SomeFault
  one_decided n kind is =
      elim (every_kind_is_decided kind (part n past) (part_history_of kinds n kind past h is)) [
        | inl l ↦ inl l
        | inr other ↦ elim other [
          | inl w ↦ inr (n, record { kind = kind; is = is; faulty = w })
          | inr w ↦ inl (decided_order kind (part n past) w.0 (d n kind is) w.1)
        ]
      ]

  ordered_more : (n : ℕ) (kind : Kind) → slice_get kinds n ≡ Some kind
      → HasOrderOf kind (part n past)
      → AllOrdered n → AllOrdered (suc n)
  ordered_more n kind is l all k other lt e =
      elim (cases_lt k n) [
        | inl less ↦ all k other less e
        | inr ge ↦
            (let same : n ≡ k = omega arith in
            let one : kind ≡ other = same_Some kind other (sym is ∙ ap (slice_get kinds) same ∙ e)
            in
            subst (λ j. HasOrderOf other (part j past)) same
            (subst (λ z. HasOrderOf z (part n past)) one l))
      ]

  searched : (n : ℕ) → n ≤ length kinds → AllOrdered n ⊎ SomeFault
  searched zero le = inl (λ k kind lt e. absurd (omega arith))
  searched (suc n) le =
      (let k = kind_at kinds past h n (omega arith) in
      elim (searched n (omega arith)) [
        | inr w ↦ inr w
        | inl all ↦ elim (one_decided n k.0 k.1) [
          | inr w ↦ inr w
          | inl l ↦ inl (ordered_more n k.0 k.1 l all)
        ]
      ])

  decided : IsLinearizable kinds past ⊎ SomeFault
  decided =
      elim (searched (length kinds) (omega arith)) [
        | inr w ↦ inr w
        | inl all ↦
            (let whole = whole_from_parts kinds past h (λ k kind e.
            all k kind (slice_get_within kinds k kind e) e) in
            let answered = answers_become_responses kinds past whole.0 h whole.1 in
            inl (answered.0, answered.1))
      ]

pub every_history_is_decided : EveryHistoryIsDecided
every_history_is_decided = λ kinds past h d. decided kinds past h d

pub what_is_shown_is_a_fault : WhatIsShownIsAFault
what_is_shown_is_a_fault = λ kinds past k f h.
    record { kind = h.kind; is = h.is; faulty = shown h.kind (part k past) f h.shows }

-- the events before an earlier position are among those before a later one
until_twice : (n m : ℕ) (past : List Event) → n ≤ m → until n (until m past) ≡ until n past
until_twice n m [] le = refl
until_twice n m (x ∷ past) le =
    elim (cases_lt x.at m) [
      | inl lt ↦ ap (until n) (until_keeps m x past lt)
      | inr ge ↦ ap (until n) (until_drops m x past ge)
          ∙ until_twice n m past le ∙ sym (until_drops n x past (omega arith))
    ]
  where
    until_keeps : (m : ℕ) (x : Event) (past : List Event) → x.at < m → until m (x ∷ past) ≡ x ∷ past
    until_keeps m x past lt = ap (λ b. cond b (x ∷ past) (until m past)) (lt-ltb x.at m lt)

    until_drops : (m : ℕ) (x : Event) (past : List Event) → m ≤ x.at
        → until m (x ∷ past) ≡ until m past
    until_drops m x past ge = ap (λ b. cond b (x ∷ past) (until m past)) (le-ltb x.at m ge)

pub a_refusal_is_final : ARefusalIsFinal
a_refusal_is_final = λ kinds past at k f m h r lt l.
    (let whole = until_split m past in
    let longer = history_earlier kinds whole.0 (until m past) (subst (IsHistory kinds) whole.1 h) in
    let split = until_split (at + 1) (until m past) in
    let is : until m past ≡ split.0 ++ until (at + 1) past =
    split.1 ∙ ap (λ zs. split.0 ++ zs) (until_twice (at + 1) m past (omega arith)) in
    a_fault_leaves_no_linearization kinds split.0 (until (at + 1) past) k
    (subst (IsHistory kinds) is longer)
    (what_is_shown_is_a_fault kinds (until (at + 1) past) k f r.shows)
    (subst (IsLinearizable kinds) is l))
