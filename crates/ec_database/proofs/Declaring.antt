-- If a database has no fault, each of its objects is added.
use Rattle.std.proofs.Common.{◌≡◌, ◌≢◌, ℕ, ◌+◌, ◌≤◌, ◌<◌, ◌==◌, nat_lt, true, false, ◌||◌, List, [], ◌∷◌, ◌++◌, length, replicate, slice_get, Some, None, Ok, ap, sym, ◌∙◌, subst, arith, length-append}
use Rattle.std.specs.Prelude.{Result, OnOk}
use Rattle.std.proofs.lemmas.Bool.{or_parts, ltb-false, eqb-false}
use Rattle.std.proofs.lemmas.List.{get_or-replicate, length-replicate}
use Rattle.std.proofs.lemmas.Option.{slice_get-get_or}
use Rattle.ec_count.specs.declared.setup.Rights.{Rights}
use Rattle.ec_count.specs.declared.setup.Access.{Access}
use Rattle.ec_count.specs.Members.{is_faulty}
use Rattle.ec_count.specs.Tables.{Tables, IsDeclared, event_fault, cells_fault, with_fixed_event}
use Rattle.ec_count.proofs.shared.Adding.{event_free, cells_free}
use Rattle.ec_count.proofs.shared.Disjoint.{roles_of, joined_sound}
use Rattle.ec_count.proofs.shared.Keeping.{still_there}
use Rattle.ec_core.proofs.shared.Joining.{get_back}
use Rattle.ec_database.specs.Shapes.{DeclaresDatabase, lacks_room, database_fault, with_database, next_database}

-- no object of the database has a fault, once those before it are added
pub record IsFree (t : Tables) (n : ℕ) (write read : List ℕ) : Type 0 where
  pub start : event_fault t write read ≡ None
  pub done : event_fault (with_fixed_event t write read) write (write ++ read) ≡ None
  pub cells : (u : Tables) → u.workers ≡ t.workers → u.cells ≡ t.cells → cells_fault u n write read ≡ None

pub free_of : (t : Tables) (n : ℕ) (write read : List ℕ) → IsDeclared t → database_fault t n write read ≡ None → IsFree t n write read
free_of t n write read d h =
    let p = roles_of t (lacks_room t n) write read (n == 0) h in
    let r = p.2 in
    let rooms = or_parts (nat_lt 32 (length t.events + 2) || nat_lt 32 (length t.takers + 1)) (nat_lt 256 (length t.cells + n)) p.0 in
    let tables = or_parts (nat_lt 32 (length t.events + 2)) (nat_lt 32 (length t.takers + 1)) rooms.0 in
    let few_events = ltb-false 32 (length t.events + 2) tables.0 in
    let few_cells = ltb-false 256 (length t.cells + n) rooms.1 in
    let both = joined_sound t.workers write read d.few_workers r.first_sound r.second_sound r.apart in
    record {
      start = event_free t write read (omega arith) r.first_sound r.second_sound r.first_some;
      done = event_free (with_fixed_event t write read) write (write ++ read) (omega (arith, length-append t.events (record { signal = write; observe = read; fixed = true } ∷ []))) r.first_sound both r.first_some;
      cells = λ u e c. cells_free u n write read (subst (λ xs. length xs + n ≤ 256) (sym c) few_cells) (subst (λ k. is_faulty k write ≡ false) (sym e) r.first_sound) (subst (λ k. is_faulty k read ≡ false) (sym e) r.second_sound) r.first_some p.1;
    }

replicated : {X : Type 0} (n k : ℕ) (x : X) → k < n → slice_get (replicate n x) k ≡ Some x
replicated n k x lt = slice_get-get_or (replicate n x) k x (omega (arith, length-replicate n x)) ∙ ap Some (get_or-replicate n k x x lt)

-- the database that was added is declared
pub declares_next : (t : Tables) (n : ℕ) (write read : List ℕ) → database_fault t n write read ≡ None → DeclaresDatabase (next_database t n) (with_database t n write read) write read
declares_next t n write read h =
    let r = (roles_of t (lacks_room t n) write read (n == 0) h).2 in
    let row : Rights = record { signal = write; observe = read; fixed = true } in
    let access : Access = record { write = write; read = read } in
    let all : Rights = record { signal = write; observe = write ++ read; fixed = true } in
    record {
      start = still_there (t.events ++ row ∷ []) (all ∷ []) (length t.events) row (get_back t.events (row ∷ []) (length t.events) 0 (omega arith));
      done = get_back (t.events ++ row ∷ []) (all ∷ []) (length t.events + 1) 0 (omega (arith, length-append t.events (row ∷ [])));
      turn = get_back t.takers (write ∷ []) (length t.takers) 0 (omega arith);
      cells = λ k lt. get_back t.cells (replicate n access) (length t.cells + k) k (omega arith) ∙ replicated n k access lt;
      readers = (let some : length read ≢ 0 = eqb-false (length read) 0 r.second_some in omega arith);
      apart = r.apart;
    }

-- what a call with a result ensures of it
pub result_of : {T E P : Type 0} (r : Result T E) (x : T) → r ≡ Ok x → OnOk r P → P
result_of {T} {E} {P} r x e h = subst (λ (q : Result T E). OnOk q P) e h
