-- The calls of a buffer with one producer and one consumer are of the class that is always decided.
use Rattle.std.proofs.Common.{◌≡◌, ℕ, zero, suc, ◌<◌, ◌⊎◌, inl, inr, true, false, List, [], ◌∷◌}
use Rattle.std.proofs.Common.{length, arith, sym, ◌∙◌, subst, ap, refl}
use Rattle.std.specs.Prelude.{IsTrue}
use Rattle.std.specs.List.{Contains}
use Rattle.calls_core.specs.declared.history.Kind.TheVariants.{Buffer}
use Rattle.calls_core.specs.declared.history.Op.{Op}
use Rattle.calls_core.specs.declared.history.Op.TheVariants.{Produce}
use Rattle.calls_core.specs.declared.history.Reply.{Reply}
use Rattle.calls_core.specs.declared.history.Event.{Event}
use Rattle.calls_core.specs.declared.history.PendingCall.{PendingCall}
use Rattle.calls_core.specs.declared.history.Call.{Call}
use Rattle.calls_core.specs.Lists.{Each, EachPair}
use Rattle.calls_core.specs.Calls.{IsCallOf}
use Rattle.calls_core.specs.Histories.{clock, pending_calls, completed_calls, IsHistoryOf}
use Rattle.calls_core.proofs.Positions.{are_calls_of}
use Rattle.calls_buffers.specs.Counts.{any_item, produces, put_one, is_put}
use Rattle.calls_buffers.specs.Outcomes.{IsSimple}
use Rattle.calls_buffers.proofs.AreWindows.{one_of}
use Rattle.calls_spsc.specs.Flows.{IsSpsc}
use Rattle.calls_spsc.proofs.Turns as turn_by
use Rattle.calls_spsc.proofs.Turns.{TakeTurns, InTurn, Awaits, all_in_turn, now}

-- TWO ELEMENTS OF A LIST

in_rest : {X : Type 0} (z : X) (xs : List X) (x : X) (k : ℕ) → suc k < length (z ∷ xs)
    → k < length xs
in_rest z xs x k lt = omega (arith, lt)

-- what holds of each element and each later one holds of any two, in one order, unless they are one
two_of : {X : Type 0} (R : X → X → Type 0) (xs : List X) (x y : X) → EachPair R xs → Contains xs x
    → Contains xs y → (x ≡ y) ⊎ (R x y ⊎ R y x)
two_of R [] x y each (k, lt, e) at = absurd (omega (arith, lt))
two_of R (z ∷ xs) x y each (zero, lt, e) (zero, le, f) = inl (sym e ∙ f)
two_of R (z ∷ xs) x y each (zero, lt, e) (suc k, le, f) =
    inr (inl (subst (λ w. R w y) e (one_of (R z) xs y each.0 (k, in_rest z xs y k le, f))))
two_of R (z ∷ xs) x y each (suc k, lt, e) (zero, le, f) =
    inr (inr (subst (λ w. R w x) f (one_of (R z) xs x each.0 (k, in_rest z xs x k lt, e))))
two_of R (z ∷ xs) x y each (suc k, lt, e) (suc j, le, f) =
    two_of R xs x y each.1 (k, in_rest z xs x k lt, e) (j, in_rest z xs y j le, f)

-- PRODUCES THAT TAKE TURNS

is_produce : (op : Op) (r : Reply) → IsTrue (put_one any_item op r) → produces any_item op ≡ true
is_produce (Produce v) r put = refl
is_produce op r put = absurd (let never : false ≡ true = put in cc)

one_producer : (past : List Event) → IsSpsc past → TakeTurns (produces any_item) past
one_producer [] spsc = tt
one_producer (x ∷ past) spsc = (spsc.0, one_producer past spsc.2)

module _ (n : ℕ) (past : List Event) (h : IsHistoryOf (Buffer n) past) (spsc : IsSpsc past) where
  abbrev done : List Call
  done = completed_calls past

  abbrev pending : List PendingCall
  pending = pending_calls past

  turns : TakeTurns (produces any_item) past
  turns = one_producer past spsc

  in_turn : turn_by.AreInTurn (produces any_item) done pending
  in_turn = all_in_turn (produces any_item) (Buffer n) past h turns

  lasts : (c : Call) → Contains done c → c.first < c.last
  lasts c at =
      (one_of (IsCallOf (Buffer n) (clock past)) done c (are_calls_of (Buffer n) past h).completed
      at).lasts

  one_before : (c d : Call) → Contains done c → Contains done d → IsTrue (is_put any_item c)
      → IsTrue (is_put any_item d) → c.first < d.first → c.last < d.first
  one_before c d at there p q before =
      let i : produces any_item c.op ≡ true = is_produce c.op c.reply p in
      let j : produces any_item d.op ≡ true = is_produce d.op d.reply q in
      elim (two_of (λ (x y : Call). InTurn (produces any_item) y x) done c d in_turn.calls at
      there) [
        | inl same ↦ absurd (omega (arith, before, ap (λ (x : Call). x.first) same))
        | inr (inl late) ↦ absurd (omega (arith, before, lasts d there, late j i))
        | inr (inr early) ↦ early i j
      ]

  one_awaits : (c : Call) (o : PendingCall) → Contains done c → Contains pending o
      → IsTrue (is_put any_item c) → IsTrue (produces any_item o.op) → c.last < o.first
  one_awaits c o at there p q =
      one_of (Awaits (produces any_item) o) done c
      (one_of (λ (x : PendingCall). Each (Awaits (produces any_item) x) done) pending o
      in_turn.waits there) at (is_produce c.op c.reply p) q

-- the calls of a buffer with one producer and one consumer are of that class
pub spsc_is_simple : (n : ℕ) (past : List Event) → 0 < n → IsHistoryOf (Buffer n) past
    → IsSpsc past → IsSimple n past
spsc_is_simple n past some h spsc = record {
  room = some;
  items = inr (inl (record {
    apart = one_before n past h spsc;
    last = one_awaits n past h spsc;
    few = now (produces any_item) past (one_producer past spsc);
  }));
}
