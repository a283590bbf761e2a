-- The calls of a snapshot are tries.
use Rattle.std.proofs.Common.{◌≡◌, ℕ, suc, ◌+◌, ◌-◌, ◌<◌, ◌≤◌, Bool, true, false, not, ◌&&◌, List, [], ◌∷◌, ◌++◌, append_assoc, length, take, Some, is_some, nat_lt, refl, ap, sym, ◌∙◌, arith, subst, cond, inl, inr, slice_get}
use Rattle.std.specs.Prelude.{All}
use Rattle.std.specs.List.{flat_map}
use Rattle.std.proofs.lemmas.Bool.{ltb-true, ltb-false}
use Rattle.std.proofs.lemmas.List.{append-nil, take-append-le}
use Rattle.std.proofs.lemmas.List.Elements.{All-nil, All-cons}
use Rattle.std.proofs.Math.Seq.{take-append_seam}
use Rattle.ec_core.specs.Following.{CompletedCall}
use Rattle.ec_core.specs.Procedures.{IsWritten}
use Rattle.ec_database.specs.Shapes.{Database}
use Rattle.ec_database.specs.Calls.{try_call}
use Rattle.ec_database.specs.Snapshots.{is_whole, agrees, TryState, try_again, after_call, trying_after, end_of_calls, IsDisturbed}
use Rattle.ec_database.specs.Laws.{SnapshotsAreTries}
use Rattle.ec_core.proofs.shared.Joining.{last_get}

abbrev state : ℕ → List CompletedCall → TryState
state left calls = record { left = left; calls = calls }

-- one more call of a try
asked_more : (d : Database) (calls : List CompletedCall) (c : CompletedCall) → IsWritten (try_call d) calls → try_call d calls ≡ Some c.op → IsWritten (try_call d) (calls ++ c ∷ [])
asked_more d calls c h next k z at =
    elim (last_get calls c z k at) [
      | inl m ↦ (let lt : k < length calls = m.1 in ap (try_call d) (take-append-le k calls (c ∷ []) (omega arith)) ∙ h k z m.0)
      | inr m ↦ ap (try_call d) (ap (λ n. take n (calls ++ c ∷ [])) m.0 ∙ take-append_seam calls (c ∷ [])) ∙ next ∙ ap (λ (y : CompletedCall). Some y.op) m.1
    ]

none_asked : (d : Database) → IsWritten (try_call d) []
none_asked d k c at = cc

-- the tries of a snapshot from its current state on
record TriesFrom (d : Database) (left : ℕ) (begun calls : List CompletedCall) : Type 0 where
  disturbed : List (List CompletedCall)
  last : List CompletedCall
  now : ℕ
  order : begun ++ calls ≡ flat_map (λ b. b) disturbed ++ last
  each : All (IsDisturbed d) disturbed
  asked : IsWritten (try_call d) last
  state_is : trying_after d (record { left = left; calls = begun }) calls ≡ record { left = now; calls = last }
  count : now + length disturbed ≡ left
  some : 1 ≤ now
  stops : is_whole d last ≡ true → agrees d last ≡ false → now ≤ 1

tests_of : (a b c : Bool) → (a && b && c) ≡ true → (a ≡ true) × (b ≡ true) × (c ≡ true)
tests_of true true true h = (refl, refl, refl)
tests_of true true false h = cc
tests_of true false c h = cc
tests_of false b c h = cc

not_both : (a b c : Bool) → (a && not b && c) ≡ false → a ≡ true → b ≡ false → c ≡ false
not_both true true c h p q = cc
not_both true false c h p q = h
not_both false b c h p q = cc

of_not : (b : Bool) → not b ≡ true → b ≡ false
of_not true h = cc
of_not false h = refl

tries_from : (d : Database) (left : ℕ) (begun calls : List CompletedCall) → 1 ≤ left → IsWritten (try_call d) begun → (is_whole d begun ≡ true → agrees d begun ≡ false → left ≤ 1)
    → ((k : ℕ) (c : CompletedCall) → slice_get calls k ≡ Some c → try_call d (trying_after d (record { left = left; calls = begun }) (take k calls)).calls ≡ Some c.op)
    → TriesFrom d left begun calls
tries_from d left begun [] some asked stable h = record {
  disturbed = [];
  last = begun;
  now = left;
  order = append-nil begun;
  each = All-nil (IsDisturbed d);
  asked = asked;
  state_is = refl;
  count = omega arith;
  some = some;
  stops = stable;
}
tries_from d left begun (c ∷ calls) some asked stable h =
    let next : try_call d begun ≡ Some c.op = h 0 c refl in
    let going : is_whole d begun ≡ false = ap (λ o. not (is_some o)) next in
    let now : List CompletedCall = begun ++ c ∷ [] in
    let asked_now = asked_more d begun c asked next in
    let test : Bool = is_whole d now && not (agrees d now) && nat_lt 1 left in
    let after : after_call d (state left begun) c ≡ cond test (state (left - 1) []) (state left now) =
    ap (λ b. cond b (state left begun) (try_again d (state left now))) going in
    let P : TryState → Type 0 = λ s. (k : ℕ) (z : CompletedCall) → slice_get calls k ≡ Some z → try_call d (trying_after d s (take k calls)).calls ≡ Some z.op in
    let rest : P (cond test (state (left - 1) []) (state left now)) = subst P after (λ k z at. h (suc k) z at) in
    let whole_order : begun ++ c ∷ calls ≡ now ++ calls = sym (append_assoc begun (c ∷ []) calls) in
    elim test as (λ b. test ≡ b → after_call d (state left begun) c ≡ cond b (state (left - 1) []) (state left now) → P (cond b (state (left - 1) []) (state left now)) → TriesFrom d left begun (c ∷ calls)) [
      | true ↦ λ e is more.
          (let t = tests_of (is_whole d now) (not (agrees d now)) (nat_lt 1 left) e in
          let room : 1 < left = ltb-true 1 left t.2 in
          let r = tries_from d (left - 1) [] calls (omega arith) (none_asked d) (λ p q. cc) more in
          let count : r.now + length r.disturbed ≡ left - 1 = r.count in
          record {
            disturbed = now ∷ r.disturbed;
            last = r.last;
            now = r.now;
            order = whole_order ∙ ap (λ l. now ++ l) r.order ∙ sym (append_assoc now (flat_map (λ b. b) r.disturbed) r.last);
            each = All-cons (IsDisturbed d) now r.disturbed (record { asked = asked_now; whole = t.0; differ = of_not (agrees d now) t.1 }) r.each;
            asked = r.asked;
            state_is = ap (λ s. trying_after d s calls) is ∙ r.state_is;
            count = omega arith;
            some = r.some;
            stops = r.stops;
          })
      | false ↦ λ e is more.
          (let r = tries_from d left now calls some asked_now (λ p q. ltb-false 1 left (not_both (is_whole d now) (agrees d now) (nat_lt 1 left) e p q)) more in
          record {
            disturbed = r.disturbed;
            last = r.last;
            now = r.now;
            order = whole_order ∙ r.order;
            each = r.each;
            asked = r.asked;
            state_is = ap (λ s. trying_after d s calls) is ∙ r.state_is;
            count = r.count;
            some = r.some;
            stops = r.stops;
          })
    ] refl after rest

pub are_tries : SnapshotsAreTries
are_tries d tries calls some h =
    let r = tries_from d tries [] calls some (none_asked d) (λ p q. cc) h in
    let count : r.now + length r.disturbed ≡ tries = r.count in
    let left : 1 ≤ r.now = r.some in
    record {
      disturbed = r.disturbed;
      last = r.last;
      order = r.order;
      each = r.each;
      asked = r.asked;
      few = omega arith;
      next = ap (λ (s : TryState). try_call d s.calls) r.state_is;
      ends = ap (λ (s : TryState). end_of_calls d s.calls) r.state_is;
      stops = λ p q. (let one : r.now ≤ 1 = r.stops p q in omega arith);
    }
