-- There is one list of accepted tries.
use Rattle.std.proofs.Common.{◌≡◌, ℕ, suc, List, [], ◌∷◌, Some, refl, subst, slice_get}
use Rattle.ec_core.specs.declared.act.Entry.{Entry}
use Rattle.ec_count.specs.Tables.{Tables}
use Rattle.ec_database.specs.Shapes.{Database}
use Rattle.ec_database.specs.Tries.{AcceptedTry, ListsTries}
use Rattle.ec_database.specs.Laws.{TriesAreDetermined}

-- two lists with the same elements at the same indices are one
same_list : {X : Type 0} (xs ys : List X) → ((i : ℕ) (x : X) → slice_get xs i ≡ Some x → slice_get ys i ≡ Some x) → ((i : ℕ) (x : X) → slice_get ys i ≡ Some x → slice_get xs i ≡ Some x) → xs ≡ ys
same_list [] [] there back = refl
same_list [] (y ∷ ys) there back = (let none = back 0 y refl in cc)
same_list (x ∷ xs) [] there back = (let none = there 0 x refl in cc)
same_list (x ∷ xs) (y ∷ ys) there back =
    let first : Some y ≡ Some x = there 0 x refl in
    let others : xs ≡ ys = same_list xs ys (λ i z at. there (suc i) z at) (λ i z at. back (suc i) z at) in
    (cc)

-- what is at an index of one list is there in every other
there : (t : Tables) (d : Database) (h : List Entry) (xs ys : List AcceptedTry) → ListsTries t d h xs → ListsTries t d h ys → (i : ℕ) (a : AcceptedTry) → slice_get xs i ≡ Some a → slice_get ys i ≡ Some a
there t d h xs ys p q i a at =
    let ends = p.each i a at in
    subst (λ n. slice_get ys n ≡ Some a) ends.1 (q.every ends.0 a ends.2)

-- two lists of the accepted tries of a history are the same
pub determined : TriesAreDetermined
determined t d h xs ys p q = same_list xs ys (there t d h xs ys p q) (there t d h ys xs q p)
