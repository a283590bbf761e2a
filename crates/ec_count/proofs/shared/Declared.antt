-- The invariant of the tables, list by list, and the position of a signaller.
use Rattle.std.proofs.Common.{◌≡◌, ℕ, zero, suc, ◌+◌, ◌<◌, ◌≤◌, ◌==◌, subst, nat_le, nat_lt, Bool, true, false, ◌||◌, List, [], ◌∷◌, length, slice_get, Some, None, refl, ap, sym, ◌∙◌, arith, cond, add-zero, zero-add, replicate, ◌++◌}
use Rattle.std.specs.Prelude.{◌↔◌}
use Rattle.std.specs.List.{All, list_any, position_from}
use Rattle.std.specs.Option.{option_and_then, option_map_or}
use Rattle.std.proofs.lemmas.Bool.{or_parts, or_from, ltb-false, leb-false, lt-leb, eqb-true, eq-eqb, ne_eqb, eqb-false}
use Rattle.std.proofs.lemmas.List.Elements.{All-nil, All-cons}
use Rattle.ec_count.specs.declared.setup.Rights.{Rights}
use Rattle.ec_count.specs.declared.setup.Access.{Access}
use Rattle.ec_count.specs.Members.{AreWorkers, AreTwoLists, is_faulty, is_faulty_pair, is_member, has_repeat, index_of}
use Rattle.ec_count.specs.Tables.{Tables, IsDeclared, KeepsTables, signallers, has_faulty_rights, has_faulty_takers, has_faulty_access, cells_fault, names_unknown}
use Rattle.ec_count.specs.Lists.{observers}
use Rattle.ec_count.specs.Laws.{OneSignaller}
use Rattle.ec_count.proofs.First.{none_is}
use Rattle.ec_count.specs.declared.setup.SetupFault.{SetupFault}
use Rattle.ec_count.specs.declared.setup.SetupFault.TheVariants.{TooMany, UnknownWorker, Repeated, Empty}
use Rattle.std.proofs.lemmas.Option.{slice_get_within, slice_get-get_or, get_or_from_slice_get}

-- if no element passes a test, each has the property that failing the test implies
pub all_from_none : {X : Type 0} (bad : X → Bool) (P : X → Type 0) → ((x : X) → bad x ≡ false → P x) → (xs : List X) → list_any bad xs ≡ false → All P xs
all_from_none bad P each [] h = All-nil P
all_from_none bad P each (x ∷ xs) h = let p = or_parts (bad x) (list_any bad xs) h in All-cons P x xs (each x p.0) (all_from_none bad P each xs p.1)

-- no element passes a test that is stricter
none_stricter : {X : Type 0} (bad worse : X → Bool) → ((x : X) → bad x ≡ false → worse x ≡ false) → (xs : List X) → list_any bad xs ≡ false → list_any worse xs ≡ false
none_stricter bad worse each [] h = refl
none_stricter bad worse each (x ∷ xs) h =
    let p = or_parts (bad x) (list_any bad xs) h in or_from (worse x) (list_any worse xs) (each x p.0) (none_stricter bad worse each xs p.1)

pub workers_of : (n : ℕ) (ws : List ℕ) → is_faulty n ws ≡ false → AreWorkers n ws
workers_of n ws h =
    let p = or_parts (list_any (λ w. nat_le n w) ws || has_repeat ws) (nat_lt 16 (length ws)) h in
    let q = or_parts (list_any (λ w. nat_le n w) ws) (has_repeat ws) p.0 in
    record {
      declared = all_from_none (λ w. nat_le n w) (λ w. w < n) (λ w. leb-false n w) ws q.0;
      different = q.1;
      few = ltb-false 16 (length ws) p.1;
    }

-- one more worker makes no list faulty
more_workers : (n : ℕ) (ws : List ℕ) → is_faulty n ws ≡ false → is_faulty (n + 1) ws ≡ false
more_workers n ws h =
    let p = or_parts (list_any (λ w. nat_le n w) ws || has_repeat ws) (nat_lt 16 (length ws)) h in
    let q = or_parts (list_any (λ w. nat_le n w) ws) (has_repeat ws) p.0 in
    or_from (list_any (λ w. nat_le (n + 1) w) ws || has_repeat ws) (nat_lt 16 (length ws))
    (or_from (list_any (λ w. nat_le (n + 1) w) ws) (has_repeat ws) (none_stricter (λ w. nat_le n w) (λ w. nat_le (n + 1) w) (λ w e. lt-leb (n + 1) w (let l = leb-false n w e in omega arith)) ws q.0) q.1)
    p.1

more_workers_of_two : (n : ℕ) (first second : List ℕ) → is_faulty_pair n first second ≡ false → is_faulty_pair (n + 1) first second ≡ false
more_workers_of_two n first second h =
    let p = or_parts (is_faulty n first || is_faulty n second) (length first == 0) h in
    let q = or_parts (is_faulty n first) (is_faulty n second) p.0 in
    or_from (is_faulty (n + 1) first || is_faulty (n + 1) second) (length first == 0)
    (or_from (is_faulty (n + 1) first) (is_faulty (n + 1) second) (more_workers n first q.0) (more_workers n second q.1)) p.1

more_takers : (n : ℕ) (ws : List ℕ) → (is_faulty n ws || length ws == 0) ≡ false → (is_faulty (n + 1) ws || length ws == 0) ≡ false
more_takers n ws h = let p = or_parts (is_faulty n ws) (length ws == 0) h in or_from (is_faulty (n + 1) ws) (length ws == 0) (more_workers n ws p.0) p.1

pub more_kept : (n : ℕ) (events : List Rights) (takers : List (List ℕ)) (cells : List Access) → n < 16 → KeepsTables n events takers cells → KeepsTables (n + 1) events takers cells
more_kept n events takers cells lt h = record {
  few_workers = omega arith;
  rights_fit = none_stricter (λ (r : Rights). is_faulty_pair n r.signal r.observe) (λ (r : Rights). is_faulty_pair (n + 1) r.signal r.observe) (λ r. more_workers_of_two n r.signal r.observe) events h.rights_fit;
  takers_fit = none_stricter (λ ws. is_faulty n ws || length ws == 0) (λ ws. is_faulty (n + 1) ws || length ws == 0) (λ ws. more_takers n ws) takers h.takers_fit;
  access_fits = none_stricter (λ (a : Access). is_faulty_pair n a.write a.read) (λ (a : Access). is_faulty_pair (n + 1) a.write a.read) (λ a. more_workers_of_two n a.write a.read) cells h.access_fits;
}

some_length : {X : Type 0} (xs : List X) → (length xs == 0) ≡ false → 0 < length xs
some_length xs e = let ne = eqb-false (length xs) 0 e in omega arith

two_lists_of : (n : ℕ) (first second : List ℕ) → is_faulty_pair n first second ≡ false → AreTwoLists n first second
two_lists_of n first second h =
    let p = or_parts (is_faulty n first || is_faulty n second) (length first == 0) h in
    let q = or_parts (is_faulty n first) (is_faulty n second) p.0 in
    (workers_of n first q.0, some_length first p.1, workers_of n second q.1)

-- if no eventcount has a faulty list, each has sound signallers, at least one, and sound observers
pub rights_of : (n : ℕ) (rows : List Rights) → has_faulty_rights n rows ≡ false → All (λ (r : Rights). AreTwoLists n r.signal r.observe) rows
rights_of n rows h =
    all_from_none (λ (r : Rights). is_faulty_pair n r.signal r.observe) (λ (r : Rights). AreTwoLists n r.signal r.observe) (λ r. two_lists_of n r.signal r.observe) rows h

-- if no sequencer has a faulty or an empty list, each has sound takers, at least one
pub takers_of : (n : ℕ) (lists : List (List ℕ)) → has_faulty_takers n lists ≡ false → All (λ ws. AreWorkers n ws × (0 < length ws)) lists
takers_of n lists h =
    all_from_none (λ ws. is_faulty n ws || length ws == 0) (λ ws. AreWorkers n ws × (0 < length ws)) (λ ws e. (let p = or_parts (is_faulty n ws) (length ws == 0) e in (workers_of n ws p.0, some_length ws p.1))) lists h

-- if no cell has a faulty list, each has sound writers, at least one, and sound readers
pub access_of : (n : ℕ) (rows : List Access) → has_faulty_access n rows ≡ false → All (λ (a : Access). AreTwoLists n a.write a.read) rows
access_of n rows h =
    all_from_none (λ (a : Access). is_faulty_pair n a.write a.read) (λ (a : Access). AreTwoLists n a.write a.read) (λ a. two_lists_of n a.write a.read) rows h

-- the worker at the position that was found
pub found_there : (w i c : ℕ) (ws : List ℕ) → position_from (λ v. v == w) i ws ≡ Some c → (k : ℕ) × (c ≡ i + k) × (slice_get ws k ≡ Some w)
found_there w i c [] h = cc
found_there w i c (x ∷ ws) h =
    elim (x == w) as (λ b. (x == w) ≡ b → cond b (Some i) (position_from (λ v. v == w) (i + 1) ws) ≡ Some c → (k : ℕ) × (c ≡ i + k) × (slice_get (x ∷ ws) k ≡ Some w)) [
      | true ↦ λ e g. (let same : i ≡ c = cc in (zero, omega arith, ap Some (eqb-true x w e)))
      | false ↦ λ e g. (let r = found_there w (i + 1) c ws g in let at : c ≡ i + 1 + r.0 = r.1 in (suc r.0, omega arith, r.2))
    ] refl h

-- who is not a member is at no position
pub member_at : (w : ℕ) (ws : List ℕ) (k v : ℕ) → is_member w ws ≡ false → slice_get ws k ≡ Some v → (w == v) ≡ false
member_at w [] k v h at = cc
member_at w (x ∷ ws) zero v h at =
    let p = or_parts (x == w) (is_member w ws) h in
    let same : x ≡ v = cc in
    let off = eqb-false x w p.0 in
    ne_eqb w v (λ e. off (omega arith))
member_at w (x ∷ ws) (suc k) v h at = member_at w ws k v (or_parts (x == w) (is_member w ws) h).1 at

-- the position of the worker that is there
place_there : (w i c : ℕ) (ws : List ℕ) → has_repeat ws ≡ false → slice_get ws c ≡ Some w → position_from (λ v. v == w) i ws ≡ Some (i + c)
place_there w i c [] h at = cc
place_there w i zero (x ∷ ws) h at =
    let same : x ≡ w = cc in
    ap (λ b. cond b (Some i) (position_from (λ v. v == w) (i + 1) ws)) (eq-eqb x w same) ∙ ap Some (sym (add-zero i))
place_there w i (suc c) (x ∷ ws) h at =
    let p = or_parts (is_member x ws) (has_repeat ws) h in
    let next : i + 1 + c ≡ i + suc c = omega arith in
    ap (λ b. cond b (Some i) (position_from (λ v. v == w) (i + 1) ws)) (member_at x ws c w p.0 at) ∙ place_there w (i + 1) c ws p.1 at ∙ ap Some next

-- what holds of each element holds of the one at a position
pub at_place : {X : Type 0} (P : X → Type 0) (xs : List X) (i : ℕ) (x : X) → All P xs → slice_get xs i ≡ Some x → P x
at_place P xs i x all at = subst P (get_or_from_slice_get xs i x x at) (all i x (slice_get_within xs i x at))

-- a declared eventcount has sound signallers, at least one, and sound observers
pub rights_at : (t : Tables) (e : ℕ) (r : Rights) → IsDeclared t → slice_get t.events e ≡ Some r → AreTwoLists t.workers r.signal r.observe
rights_at t e r d at = at_place (λ (x : Rights). AreTwoLists t.workers x.signal x.observe) t.events e r d.rights at

-- an eventcount has at most 16 signallers
pub few_signallers : (t : Tables) (e : ℕ) → IsDeclared t → length (signallers t e) ≤ 16
few_signallers t e d =
    elim (slice_get t.events e) as (λ o. slice_get t.events e ≡ o → length (option_map_or (λ (r : Rights). r.signal) o []) ≤ 16) [
      | None ↦ λ at. omega arith
      | Some r ↦ λ at. (rights_at t e r d at).0.few
    ] refl

-- a declared eventcount has at least one signaller
pub some_signaller : (t : Tables) (e : ℕ) → IsDeclared t → e < length t.events → 0 < length (signallers t e)
some_signaller t e d lt =
    elim (slice_get t.events e) as (λ o. slice_get t.events e ≡ o → 0 < length (option_map_or (λ (r : Rights). r.signal) o [])) [
      | None ↦ λ at. (let none : Rights = record { signal = []; observe = []; fixed = false } in let there = slice_get-get_or t.events e none lt in cc)
      | Some r ↦ λ at. (rights_at t e r d at).1
    ] refl

pub one_signaller : OneSignaller
one_signaller t d e c w =
    elim (slice_get t.events e) as (λ o. slice_get t.events e ≡ o → (index_of w (option_map_or (λ (r : Rights). r.signal) o []) ≡ Some c) ↔ (option_and_then (λ (r : Rights). slice_get r.signal c) o ≡ Some w)) [
      | None ↦ λ at. (λ h. (cc), λ h. (cc))
      | Some r ↦ λ at. (
        λ h. (let k = found_there w 0 c r.signal h in let same : c ≡ k.0 = omega arith in ap (slice_get r.signal) same ∙ k.2),
        λ h. place_there w 0 c r.signal (rights_at t e r d at).0.different h ∙ ap Some (zero-add c),
      )
    ] refl

abbrev cells_tests : Tables → ℕ → List ℕ → List ℕ → List (Bool × SetupFault)
cells_tests t n write read =
    (nat_lt 256 (length t.cells + n) || nat_lt 16 (length write) || nat_lt 16 (length read), TooMany)
    ∷ (names_unknown t write || names_unknown t read, UnknownWorker)
    ∷ (has_repeat write || has_repeat read, Repeated)
    ∷ (n == 0 || length write == 0, Empty)
    ∷ []

-- new cells without a fault have sound writers, at least one, and sound readers
pub fresh_cells : (t : Tables) (n : ℕ) (write read : List ℕ) → cells_fault t n write read ≡ None → (is_faulty t.workers write ≡ false) × (is_faulty t.workers read ≡ false) × ((length write == 0) ≡ false)
fresh_cells t n write read h =
    let tests = none_is (cells_tests t n write read) h in
    let d : Bool × SetupFault = (true, Empty) in
    let large = or_parts (nat_lt 256 (length t.cells + n) || nat_lt 16 (length write)) (nat_lt 16 (length read)) (tests 0 d (omega arith)) in
    let unknown = or_parts (names_unknown t write) (names_unknown t read) (tests 1 d (omega arith)) in
    let twice = or_parts (has_repeat write) (has_repeat read) (tests 2 d (omega arith)) in
    let none = or_parts (n == 0) (length write == 0) (tests 3 d (omega arith)) in
    let written = or_parts (nat_lt 256 (length t.cells + n)) (nat_lt 16 (length write)) large.0 in (
      or_from (names_unknown t write || has_repeat write) (nat_lt 16 (length write)) (or_from (names_unknown t write) (has_repeat write) unknown.0 twice.0) written.1,
      or_from (names_unknown t read || has_repeat read) (nat_lt 16 (length read)) (or_from (names_unknown t read) (has_repeat read) unknown.1 twice.1) large.1,
      none.1,
    )

repeated : (n k : ℕ) (a : Access) → is_faulty_pair n a.write a.read ≡ false → has_faulty_access n (replicate k a) ≡ false
repeated n zero a h = refl
repeated n (suc k) a h = or_from (is_faulty_pair n a.write a.read) (has_faulty_access n (replicate k a)) h (repeated n k a h)

-- if no cell has a faulty list, none has one after cells with sound lists and a writer are added
pub more_cells : (n k : ℕ) (cells : List Access) (a : Access) → has_faulty_access n cells ≡ false
    → (is_faulty n a.write ≡ false) × (is_faulty n a.read ≡ false) × ((length a.write == 0) ≡ false)
    → has_faulty_access n (cells ++ replicate k a) ≡ false
more_cells n k [] a h new =
    repeated n k a (or_from (is_faulty n a.write || is_faulty n a.read) (length a.write == 0) (or_from (is_faulty n a.write) (is_faulty n a.read) new.0 new.1) new.2)
more_cells n k (x ∷ cells) a h new =
    let p = or_parts (is_faulty_pair n x.write x.read) (has_faulty_access n cells) h in
    or_from (is_faulty_pair n x.write x.read) (has_faulty_access n (cells ++ replicate k a)) p.0 (more_cells n k cells a p.1 new)
