-- A read-only worker has no right to change anything.
use Rattle.std.proofs.Common.{◌≡◌, ℕ, zero, suc, ◌+◌, ◌<◌, ◌==◌, nat_lt, Bool, true, false, not, ◌||◌, ◌&&◌, List, [], ◌∷◌, slice_get, Some, None, refl, ap, sym, ◌∙◌, cond}
use Rattle.std.specs.List.{list_any, position_from}
use Rattle.std.specs.Option.{option_map_or}
use Rattle.std.proofs.lemmas.Bool.{or_parts, or_from, and_parts, and_from, not-true, not_from_false, ltb-true, lt-ltb}
use Rattle.ec_count.specs.declared.setup.Rights.{Rights}
use Rattle.ec_count.specs.declared.setup.Access.{Access}
use Rattle.ec_count.specs.Members.{is_member, index_of}
use Rattle.ec_count.specs.Tables.{Tables, component_of, is_silent, signals_any, takes_any, writes_any, may_take, may_write}
use Rattle.ec_count.specs.Laws.{SilenceIsNoRight, HasNoRight}

none_at : {X : Type 0} (p : X → Bool) (xs : List X) (i : ℕ) (x : X) → list_any p xs ≡ false → slice_get xs i ≡ Some x → p x ≡ false
none_at p [] i x h at = cc
none_at p (y ∷ ys) zero x h at = (let same : y ≡ x = cc in ap p (sym same) ∙ (or_parts (p y) (list_any p ys) h).0)
none_at p (y ∷ ys) (suc i) x h at = none_at p ys i x (or_parts (p y) (list_any p ys) h).1 at

none_from : {X : Type 0} (p : X → Bool) (xs : List X) → ((i : ℕ) (x : X) → slice_get xs i ≡ Some x → p x ≡ false) → list_any p xs ≡ false
none_from p [] h = refl
none_from p (x ∷ xs) h = or_from (p x) (list_any p xs) (h zero x refl) (none_from p xs (λ i y at. h (suc i) y at))

no_place : (p : ℕ → Bool) (i : ℕ) (xs : List ℕ) → list_any p xs ≡ false → position_from p i xs ≡ None
no_place p i [] h = refl
no_place p i (x ∷ xs) h =
    let q = or_parts (p x) (list_any p xs) h in
    ap (λ b. cond b (Some i) (position_from p (i + 1) xs)) q.0 ∙ no_place p (i + 1) xs q.1

no_member : (p : ℕ → Bool) (i : ℕ) (xs : List ℕ) → position_from p i xs ≡ None → list_any p xs ≡ false
no_member p i [] h = refl
no_member p i (x ∷ xs) h =
    elim (p x) as (λ b. cond b (Some i) (position_from p (i + 1) xs) ≡ None → (b || list_any p xs) ≡ false) [
      | true ↦ λ g. (cc)
      | false ↦ λ g. no_member p (i + 1) xs g
    ] h

component_none : (t : Tables) (w e : ℕ) → signals_any t w ≡ false → component_of t e w ≡ None
component_none t w e h =
    elim (slice_get t.events e) as (λ o. slice_get t.events e ≡ o → index_of w (option_map_or (λ (r : Rights). r.signal) o []) ≡ None) [
      | None ↦ λ at. refl
      | Some r ↦ λ at. no_place (λ v. v == w) 0 r.signal (none_at (λ (x : Rights). is_member w x.signal) t.events e r h at)
    ] refl

take_none : (t : Tables) (w q : ℕ) → takes_any t w ≡ false → may_take t q w ≡ false
take_none t w q h =
    elim (slice_get t.takers q) as (λ o. slice_get t.takers q ≡ o → option_map_or (is_member w) o false ≡ false) [
      | None ↦ λ at. refl
      | Some ws ↦ λ at. none_at (λ x. is_member w x) t.takers q ws h at
    ] refl

write_none : (t : Tables) (w x : ℕ) → writes_any t w ≡ false → may_write t x w ≡ false
write_none t w x h =
    elim (slice_get t.cells x) as (λ o. slice_get t.cells x ≡ o → option_map_or (λ (a : Access). is_member w a.write) o false ≡ false) [
      | None ↦ λ at. refl
      | Some a ↦ λ at. none_at (λ (b : Access). is_member w b.write) t.cells x a h at
    ] refl

-- a read-only worker is declared, and has no right to change anything
pub silent_has_none : (t : Tables) (w : ℕ) → is_silent t w ≡ true → (w < t.workers) × HasNoRight t w
silent_has_none t w h =
    let p = and_parts (nat_lt w t.workers && not (signals_any t w) && not (takes_any t w)) (not (writes_any t w)) h in
    let q = and_parts (nat_lt w t.workers && not (signals_any t w)) (not (takes_any t w)) p.0 in
    let r = and_parts (nat_lt w t.workers) (not (signals_any t w)) q.0 in (
      ltb-true w t.workers r.0,
      record {
        signals = λ e. component_none t w e (not-true (signals_any t w) r.1);
        takes = λ x. take_none t w x (not-true (takes_any t w) q.1);
        writes = λ x. write_none t w x (not-true (writes_any t w) p.1);
      },
    )

-- a declared worker that has no right to change anything is read-only
pub silent_from_none : (t : Tables) (w : ℕ) → w < t.workers → HasNoRight t w → is_silent t w ≡ true
silent_from_none t w lt h =
    let signals : signals_any t w ≡ false = none_from (λ (r : Rights). is_member w r.signal) t.events (λ e r at. no_member (λ v. v == w) 0 r.signal (ap (λ o. index_of w (option_map_or (λ (x : Rights). x.signal) o [])) (sym at) ∙ h.signals e)) in
    let takes : takes_any t w ≡ false = none_from (λ x. is_member w x) t.takers (λ q ws at. ap (λ o. option_map_or (is_member w) o false) (sym at) ∙ h.takes q) in
    let writes : writes_any t w ≡ false = none_from (λ (a : Access). is_member w a.write) t.cells (λ x a at. ap (λ o. option_map_or (λ (b : Access). is_member w b.write) o false) (sym at) ∙ h.writes x) in
    and_from (nat_lt w t.workers && not (signals_any t w) && not (takes_any t w)) (not (writes_any t w))
    (and_from (nat_lt w t.workers && not (signals_any t w)) (not (takes_any t w))
    (and_from (nat_lt w t.workers) (not (signals_any t w)) (lt-ltb w t.workers lt) (not_from_false (signals_any t w) signals))
    (not_from_false (takes_any t w) takes))
    (not_from_false (writes_any t w) writes)

pub silence_is : SilenceIsNoRight
silence_is t w = (silent_has_none t w, λ h. silent_from_none t w h.0 h.1)
