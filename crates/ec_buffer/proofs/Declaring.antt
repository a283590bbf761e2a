-- If a buffer has no fault, each of its objects is added.
use Rattle.std.proofs.Common.{◌≡◌, ℕ, ◌+◌, ◌≤◌, ◌==◌, nat_lt, true, false, ◌||◌, List, [], ◌∷◌, ◌++◌, length, None, sym, subst, arith, length-append}
use Rattle.std.specs.Prelude.{Result, Ok, OnOk}
use Rattle.std.proofs.lemmas.Bool.{or_parts, ltb-false}
use Rattle.ec_count.specs.Members.{is_faulty}
use Rattle.ec_count.specs.Tables.{Tables, IsDeclared, event_fault, cells_fault, with_fixed_event}
use Rattle.ec_count.proofs.shared.Adding.{event_free, cells_free}
use Rattle.ec_count.proofs.shared.Disjoint.{roles_of, joined_sound}
use Rattle.ec_buffer.specs.Shapes.{lacks_room, buffer_fault}

-- no object of the buffer has a fault, once those before it are added
pub record IsFree (t : Tables) (n : ℕ) (produce consume : List ℕ) : Type 0 where
  pub in_count : event_fault t produce (produce ++ consume) ≡ None
  pub out_count : event_fault (with_fixed_event t produce (produce ++ consume)) consume (produce ++ consume) ≡ None
  pub cells : (u : Tables) → u.workers ≡ t.workers → u.cells ≡ t.cells → cells_fault u n produce consume ≡ None

pub free_of : (t : Tables) (n : ℕ) (produce consume : List ℕ) → IsDeclared t → buffer_fault t n produce consume ≡ None → IsFree t n produce consume
free_of t n produce consume d h =
    let p = roles_of t (lacks_room t n) produce consume (n == 0) h in
    let r = p.2 in
    let rooms = or_parts (nat_lt 32 (length t.events + 2) || nat_lt 32 (length t.takers + 2)) (nat_lt 256 (length t.cells + n)) p.0 in
    let tables = or_parts (nat_lt 32 (length t.events + 2)) (nat_lt 32 (length t.takers + 2)) rooms.0 in
    let few_events = ltb-false 32 (length t.events + 2) tables.0 in
    let few_cells = ltb-false 256 (length t.cells + n) rooms.1 in
    let both = joined_sound t.workers produce consume d.few_workers r.first_sound r.second_sound r.apart in
    record {
      in_count = event_free t produce (produce ++ consume) (omega arith) r.first_sound both r.first_some;
      out_count = event_free (with_fixed_event t produce (produce ++ consume)) consume (produce ++ consume) (omega (arith, length-append t.events (record { signal = produce; observe = produce ++ consume; fixed = true } ∷ []))) r.second_sound both r.second_some;
      cells = λ u e c. cells_free u n produce consume (subst (λ xs. length xs + n ≤ 256) (sym c) few_cells) (subst (λ k. is_faulty k produce ≡ false) (sym e) r.first_sound) (subst (λ k. is_faulty k consume ≡ false) (sym e) r.second_sound) r.first_some p.1;
    }

-- what a call with a result ensures of it
pub result_of : {T E P : Type 0} (r : Result T E) (x : T) → r ≡ Ok x → OnOk r P → P
result_of {T} {E} {P} r x e h = subst (λ (q : Result T E). OnOk q P) e h
