-- The call lists are those written out.
use Rattle.std.proofs.Common.{◌≡◌, ◌≢◌, ℕ, zero, suc, ◌+◌, ◌<◌, ◌≤◌, true, false, List, [], ◌∷◌, ◌++◌, length, Some, None, nat_lt, get_or, refl, ap, sym, ◌∙◌, arith, cond, ◌==◌, slice_get}
use Rattle.std.proofs.lemmas.Bool.{eqb-true, eqb-false, ltb-true, ltb-false}
use Rattle.std.proofs.lemmas.List.{length-append}
use Rattle.std.proofs.lemmas.Option.{slice_get_past}
use Rattle.ec_core.specs.declared.act.Act.{Act}
use Rattle.ec_core.specs.declared.act.Act.TheVariants.{Advance, Read, Put, Get}
use Rattle.ec_core.specs.Following.{CompletedCall}
use Rattle.ec_core.proofs.shared.Joining.{get_back}
use Rattle.ec_database.specs.Shapes.{Database}
use Rattle.ec_database.specs.Calls.{first_number, drawn_turn, write_call, try_call, puts_from, gets_from, write_list, try_list}
use Rattle.ec_database.specs.Laws.{CallListsAreWritten}

puts_long : (d : Database) (j : ℕ) (values : List ℕ) → length (puts_from d j values) ≡ length values
puts_long d j [] = refl
puts_long d j (v ∷ values) = ap suc (puts_long d (j + 1) values)

gets_long : (d : Database) (j n : ℕ) → length (gets_from d j n) ≡ n
gets_long d j zero = refl
gets_long d j (suc n) = ap suc (gets_long d (j + 1) n)

put_at : (d : Database) (j : ℕ) (values : List ℕ) (n : ℕ) → n < length values → slice_get (puts_from d j values) n ≡ Some (Put (d.first_cell + (j + n)) (get_or values n 0))
put_at d j [] n lt = absurd (omega arith)
put_at d j (v ∷ values) zero lt = ap (λ k. Some (Put (d.first_cell + k) v)) (let z : j ≡ j + 0 = omega arith in z)
put_at d j (v ∷ values) (suc n) lt = put_at d (j + 1) values n (omega arith) ∙ ap (λ k. Some (Put (d.first_cell + k) (get_or values n 0))) (let z : j + 1 + n ≡ j + suc n = omega arith in z)

get_at : (d : Database) (j m n : ℕ) → n < m → slice_get (gets_from d j m) n ≡ Some (Get (d.first_cell + (j + n)))
get_at d j zero n lt = absurd (omega arith)
get_at d j (suc m) zero lt = ap (λ k. Some (Get (d.first_cell + k))) (let z : j ≡ j + 0 = omega arith in z)
get_at d j (suc m) (suc n) lt = get_at d (j + 1) m n (omega arith) ∙ ap (λ k. Some (Get (d.first_cell + k))) (let z : j + 1 + n ≡ j + suc n = omega arith in z)

front_at : {X : Type 0} (xs ys : List X) (n : ℕ) (x : X) → slice_get xs n ≡ Some x → slice_get (xs ++ ys) n ≡ Some x
front_at [] ys n x h = cc
front_at (y ∷ xs) ys zero x h = h
front_at (y ∷ xs) ys (suc n) x h = front_at xs ys n x h

-- an act at an index of a list of m acts and one more
at_place : (acts : List Act) (last here : Act) (m n : ℕ) → length acts ≡ m → (n < m → slice_get acts n ≡ Some here)
    → cond (nat_lt n m) (Some here) (cond (n == m) (Some last) None) ≡ slice_get (acts ++ last ∷ []) n
at_place acts last here m n long at =
    elim (nat_lt n m) as (λ b. nat_lt n m ≡ b → cond b (Some here) (cond (n == m) (Some last) None) ≡ slice_get (acts ++ last ∷ []) n) [
      | true ↦ λ e. sym (front_at acts (last ∷ []) n here (at (ltb-true n m e)))
      | false ↦ λ e.
          (let ge : m ≤ n = ltb-false n m e in
          elim (n == m) as (λ b. (n == m) ≡ b → cond b (Some last) None ≡ slice_get (acts ++ last ∷ []) n) [
            | true ↦ λ same. (let is : n ≡ m = eqb-true n m same in sym (get_back acts (last ∷ []) n 0 (omega arith)))
            | false ↦ λ other. (let off : n ≢ m = eqb-false n m other in sym (slice_get_past (acts ++ last ∷ []) n (omega (arith, length-append acts (last ∷ [])))))
          ] refl)
    ] refl

pub writing : (d : Database) (values : List ℕ) (calls : List CompletedCall) → length values ≡ d.cells → write_call d values calls ≡ slice_get (write_list d values (drawn_turn calls)) (length calls)
writing d values [] long = refl
writing d values (a ∷ []) long = refl
writing d values (a ∷ t ∷ []) long = refl
writing d values (a ∷ t ∷ i ∷ puts) long =
    at_place (puts_from d 0 values) (Advance d.done) (Put (d.first_cell + length puts) (get_or values (length puts) 0)) d.cells (length puts) (puts_long d 0 values ∙ long)
    (λ lt. put_at d 0 values (length puts) (omega arith) ∙ ap (λ k. Some (Put (d.first_cell + k) (get_or values (length puts) 0))) (let z : 0 + length puts ≡ length puts = omega arith in z))

pub a_try : (d : Database) (calls : List CompletedCall) → try_call d calls ≡ slice_get (try_list d (first_number calls)) (length calls)
a_try d [] = refl
a_try d (w ∷ []) = refl
a_try d (w ∷ a ∷ gets) =
    at_place (gets_from d 0 d.cells) (Read d.start) (Get (d.first_cell + length gets)) d.cells (length gets) (gets_long d 0 d.cells)
    (λ lt. get_at d 0 d.cells (length gets) lt ∙ ap (λ k. Some (Get (d.first_cell + k))) (let z : 0 + length gets ≡ length gets = omega arith in z))

pub written_out : CallListsAreWritten
written_out d = record { writings = writing d; tries = a_try d }
