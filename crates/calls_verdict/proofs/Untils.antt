-- The events before a position.
use Rattle.std.proofs.Common.{◌≡◌, ℕ, ◌<◌, ◌≤◌, ◌⊎◌, inl, inr, true, false, cond}
use Rattle.std.proofs.Common.{List, [], ◌∷◌, ◌++◌, length, refl, ap, sym, ◌∙◌, arith, subst}
use Rattle.std.proofs.lemmas.Bool.{lt-ltb, le-ltb, cases_lt}
use Rattle.calls_core.specs.declared.history.Kind.{Kind}
use Rattle.calls_core.specs.declared.history.Event.{Event}
use Rattle.calls_core.specs.Histories.{clock, pending_of, pending_calls, is_on, part, IsHistory}
use Rattle.calls_core.specs.Histories.{IsHistoryOf}
use Rattle.calls_core.specs.Beginnings.{until}
use Rattle.calls_local.proofs.Parts.{part_clock}

pub until_in : (m : ℕ) (x : Event) (past : List Event) → x.at < m → until m (x ∷ past) ≡ x ∷ past
until_in m x past lt = ap (λ b. cond b (x ∷ past) (until m past)) (lt-ltb x.at m lt)

pub until_out : (m : ℕ) (x : Event) (past : List Event) → m ≤ x.at
    → until m (x ∷ past) ≡ until m past
until_out m x past le = ap (λ b. cond b (x ∷ past) (until m past)) (le-ltb x.at m le)

pub until_all : (m : ℕ) (past : List Event) → clock past ≤ m → until m past ≡ past
until_all m [] le = refl
until_all m (x ∷ past) le = until_in m x past (omega arith)

pub clock_until : (m : ℕ) (past : List Event) → clock (until m past) ≤ m
clock_until m [] = omega arith
clock_until m (x ∷ past) =
    elim (cases_lt x.at m) [
      | inl lt ↦ subst (λ q. clock q ≤ m) (sym (until_in m x past lt)) (omega arith)
      | inr le ↦ subst (λ q. clock q ≤ m) (sym (until_out m x past le)) (clock_until m past)
    ]

pub clock_later : (kind : Kind) (late past : List Event) → IsHistoryOf kind (late ++ past)
    → clock past ≤ clock (late ++ past)
clock_later kind [] past h = omega arith
clock_later kind (x ∷ late) past h =
    (let le : clock (late ++ past) ≤ x.at = h.0 in omega (arith, clock_later kind late past h.2))

-- the events before the first position after a prefix are that prefix
pub until_at : (kind : Kind) (late past : List Event) → IsHistoryOf kind (late ++ past)
    → until (clock past) (late ++ past) ≡ past
until_at kind [] past h = until_all (clock past) past (omega arith)
until_at kind (x ∷ late) past h =
    (let le : clock (late ++ past) ≤ x.at = h.0 in
    until_out (clock past) x (late ++ past) (omega (arith, clock_later kind late past h.2))
    ∙ until_at kind late past h.2)

-- the events before a position contain the whole prefix, or are in it
pub until_of : (m : ℕ) (late past : List Event)
    → ((more : List Event) × (until m (late ++ past) ≡ more ++ past))
    ⊎ (until m (late ++ past) ≡ until m past)
until_of m [] past = inr refl
until_of m (x ∷ late) past =
    elim (cases_lt x.at m) [
      | inl lt ↦ inl (x ∷ late, until_in m x (late ++ past) lt)
      | inr le ↦ elim (until_of m late past) [
        | inl w ↦ inl (w.0, until_out m x (late ++ past) le ∙ w.1)
        | inr e ↦ inr (until_out m x (late ++ past) le ∙ e)
      ]
    ]

-- PARTS

module _ (kinds : List Kind) (k m : ℕ) where
  part_in : (x : Event) (past : List Event) → IsHistory kinds (x ∷ past) → x.at < m
      → until m (part k (x ∷ past)) ≡ part k (x ∷ past)
  part_in x past h lt = until_all m (part k (x ∷ past))
      (omega (arith, part_clock kinds k (x ∷ past) h))

  part_out : (x : Event) (past : List Event) → m ≤ x.at
      → until m (part k (x ∷ past)) ≡ until m (part k past)
  part_out x past le =
      elim (is_on k x.action (pending_of x.worker (pending_calls past)))
      as (λ b. until m (cond b (x ∷ part k past) (part k past)) ≡ until m (part k past)) [
        | true ↦ until_out m x (part k past) le
        | false ↦ refl
      ]

  -- the events of an object before a position
  pub part_until : (past : List Event) → IsHistory kinds past
      → part k (until m past) ≡ until m (part k past)
  part_until [] h = refl
  part_until (x ∷ past) h =
      elim (cases_lt x.at m) [
        | inl lt ↦ ap (part k) (until_in m x past lt) ∙ sym (part_in x past h lt)
        | inr le ↦
            ap (part k) (until_out m x past le) ∙ part_until past h.2 ∙ sym (part_out x past le)
      ]

-- LENGTHS

pub history_length : (kind : Kind) (past : List Event) → IsHistoryOf kind past
    → length past ≤ clock past
history_length kind [] h = omega arith
history_length kind (x ∷ past) h =
    (let le : clock past ≤ x.at = h.0 in
    omega (arith, history_length kind past h.2))
