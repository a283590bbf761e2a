-- If no fault applies, an object is added.
use Rattle.std.proofs.Common.{◌≡◌, ℕ, ◌+◌, ◌<◌, ◌≤◌, ◌==◌, nat_le, nat_lt, Bool, false, ◌||◌, List, [], ◌∷◌, length, None, refl}
use Rattle.std.specs.Prelude.{IsOk, Result, Ok, Err}
use Rattle.std.specs.Result.{result_err}
use Rattle.std.proofs.lemmas.Bool.{or_parts, or_from, lt-leb, le-ltb}
use Rattle.ec_count.specs.declared.setup.SetupFault.TheVariants.{TooMany, UnknownWorker, Repeated, Empty}
use Rattle.ec_count.specs.Members.{has_repeat, is_faulty}
use Rattle.ec_count.specs.Tables.{Tables, first_that, names_unknown, event_fault, list_fault, cells_fault}

-- a call that returns no fault has a result
pub ok_of : {T E : Type 0} (r : Result T E) → result_err r ≡ None → IsOk r
ok_of (Ok x) h = refl
ok_of (Err e) h = cc

-- if no test holds there is no fault
none_holds : (a b c d : Bool) → a ≡ false → b ≡ false → c ≡ false → d ≡ false → first_that ((a, TooMany) ∷ (b, UnknownWorker) ∷ (c, Repeated) ∷ (d, Empty) ∷ []) ≡ None
none_holds a b c d p q r s = rw (p, q, r, s) refl

record IsSound (t : Tables) (ws : List ℕ) : Type 0 where
  known : names_unknown t ws ≡ false
  different : has_repeat ws ≡ false
  few : nat_lt 16 (length ws) ≡ false

sound_of : (t : Tables) (ws : List ℕ) → is_faulty t.workers ws ≡ false → IsSound t ws
sound_of t ws h =
    let p = or_parts (names_unknown t ws || has_repeat ws) (nat_lt 16 (length ws)) h in
    let q = or_parts (names_unknown t ws) (has_repeat ws) p.0 in
    record { known = q.0; different = q.1; few = p.1 }

-- if there is room, and the lists are sound and someone signals, a new eventcount has no fault
pub event_free : (t : Tables) (signal observe : List ℕ) → length t.events < 32 → is_faulty t.workers signal ≡ false → is_faulty t.workers observe ≡ false → (length signal == 0) ≡ false → event_fault t signal observe ≡ None
event_free t signal observe room p q some =
    let s = sound_of t signal p in
    let o = sound_of t observe q in
    none_holds _ _ _ _ (or_from (nat_le 32 (length t.events) || nat_lt 16 (length signal)) (nat_lt 16 (length observe)) (or_from (nat_le 32 (length t.events)) (nat_lt 16 (length signal)) (lt-leb 32 (length t.events) room) s.few) o.few)
    (or_from (names_unknown t signal) (names_unknown t observe) s.known o.known)
    (or_from (has_repeat signal) (has_repeat observe) s.different o.different)
    some

-- if there is room for some cells, and the lists are sound and someone writes, they have no fault
pub cells_free : (t : Tables) (n : ℕ) (write read : List ℕ) → length t.cells + n ≤ 256 → is_faulty t.workers write ≡ false → is_faulty t.workers read ≡ false → (length write == 0) ≡ false → (n == 0) ≡ false → cells_fault t n write read ≡ None
cells_free t n write read room p q some more =
    let s = sound_of t write p in
    let o = sound_of t read q in
    none_holds _ _ _ _ (or_from (nat_lt 256 (length t.cells + n) || nat_lt 16 (length write)) (nat_lt 16 (length read)) (or_from (nat_lt 256 (length t.cells + n)) (nat_lt 16 (length write)) (le-ltb 256 (length t.cells + n) room) s.few) o.few)
    (or_from (names_unknown t write) (names_unknown t read) s.known o.known)
    (or_from (has_repeat write) (has_repeat read) s.different o.different)
    (or_from (n == 0) (length write == 0) more some)
