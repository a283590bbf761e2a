-- Accepted tries as rows of numbers, one after another.
use Rattle.std.proofs.Common.{◌≡◌, ℕ, zero, suc, ◌+◌, ◌*◌, ◌<◌, ◌≤◌, List, [], ◌∷◌, ◌++◌, length, length-append, map, take, drop, slice_index, slice_get, Option, Some, refl, ap, sym, ◌∙◌, subst, ◌⊎◌, inl, inr, arith, length-drop}
use Rattle.std.specs.Prelude.{option_to_list}
use Rattle.std.specs.List.{range_with_len}
use Rattle.std.proofs.lemmas.List.{take-append-le, take_all, drop-append-le}
use Rattle.std.proofs.lemmas.List.FromFn.{map-range_with_len_more}
use Rattle.ec_database.specs.Tries.{AcceptedTry}
use Rattle.ec_database.specs.kept.Rows.{try_of, try_at, tries_in, AreRows}

-- LISTS BY A FUNCTION OF THE INDEX

range_get : {X : Type 0} (f : ℕ → X) (a n i j : ℕ) → i < n → a + i ≡ j → slice_get (map f (range_with_len a n)) i ≡ Some (f j)
range_get f a zero i j lt at = absurd (omega arith)
range_get f a (suc n) zero j lt at = (let same : a ≡ j = omega arith in ap (λ k. Some (f k)) same)
range_get f a (suc n) (suc i) j lt at = range_get f (a + 1) n i j (omega arith) (omega arith)

range_same : {X : Type 0} (f g : ℕ → X) (a n : ℕ) → ((i : ℕ) → i < a + n → f i ≡ g i) → map f (range_with_len a n) ≡ map g (range_with_len a n)
range_same f g a zero h = refl
range_same f g a (suc n) h = ap (λ y. y ∷ map f (range_with_len (a + 1) n)) (h a (omega arith)) ∙ ap (λ ys. g a ∷ ys) (range_same f g (a + 1) n (λ i lt. h i (omega arith)))

end_is : {X : Type 0} (xs ys : List X) (n : ℕ) → n ≡ length xs → drop n (xs ++ ys) ≡ ys
end_is [] ys zero h = refl
end_is [] ys (suc n) h = absurd (omega arith)
end_is (x ∷ xs) ys zero h = absurd (omega arith)
end_is (x ∷ xs) ys (suc n) h = end_is xs ys n (omega arith)

-- ROWS

room_for : (i n m : ℕ) → i < n → i * m + m ≤ n * m
room_for i zero m lt = absurd (omega arith)
room_for zero (suc n) m lt = omega arith
room_for (suc i) (suc n) m lt = (let less : i * m + m ≤ n * m = room_for i n m (omega arith) in omega arith)

-- row i is among the numbers
pub row_within : (cells : ℕ) (numbers : List ℕ) (count i : ℕ) → AreRows cells numbers count → i < count → i * (cells + 2) + (cells + 2) ≤ length numbers
row_within cells numbers count i h lt = (let room : i * (cells + 2) + (cells + 2) ≤ count * (cells + 2) = room_for i count (cells + 2) lt in let all : length numbers ≡ count * (cells + 2) = h.all in omega arith)

-- what is read of a row
pub row_read : (cells : ℕ) (numbers : List ℕ) (first next values : ℕ) → first + cells + 2 ≤ length numbers → next ≡ first + 1 → values ≡ first + 2
    → try_of cells (drop first numbers) ≡ record { worker = slice_index numbers first; version = slice_index numbers next; values = take cells (drop values numbers) }
row_read cells [] first next values room n v = absurd (omega arith)
row_read cells (w ∷ []) zero next values room n v = absurd (omega arith)
row_read cells (w ∷ x ∷ rest) zero next values room n v =
    subst (λ k. try_of cells (w ∷ x ∷ rest) ≡ record { worker = w; version = slice_index (w ∷ x ∷ rest) k; values = take cells (drop values (w ∷ x ∷ rest)) }) (sym n)
    (subst (λ k. try_of cells (w ∷ x ∷ rest) ≡ record { worker = w; version = x; values = take cells (drop k (w ∷ x ∷ rest)) }) (sym v) refl)
row_read cells (y ∷ numbers) (suc first) zero values room n v = absurd (omega arith)
row_read cells (y ∷ numbers) (suc first) (suc next) zero room n v = absurd (omega arith)
row_read cells (y ∷ numbers) (suc first) (suc next) (suc values) room n v = row_read cells numbers first next values (omega arith) (omega arith) (omega arith)

-- the try at an index
pub try_got : (cells : ℕ) (numbers : List ℕ) (count i : ℕ) → i < count → slice_get (tries_in cells numbers count) i ≡ Some (try_at cells numbers i)
try_got cells numbers count i lt = range_get (try_at cells numbers) 0 count i i lt (omega arith)

-- MORE ROWS

try_stays : (cells : ℕ) (row more : List ℕ) → cells + 2 ≤ length row → try_of cells (row ++ more) ≡ try_of cells row
try_stays cells [] more room = absurd (omega arith)
try_stays cells (w ∷ []) more room = absurd (omega arith)
try_stays cells (w ∷ v ∷ rest) more room = ap (λ vs. record { worker = w; version = v; values = vs }) (take-append-le cells rest more (omega arith))

rows_stay : (cells : ℕ) (numbers more : List ℕ) (count i : ℕ) → AreRows cells numbers count → i < count → try_at cells (numbers ++ more) i ≡ try_at cells numbers i
rows_stay cells numbers more count i h lt =
    let room : i * (cells + 2) + (cells + 2) ≤ length numbers = row_within cells numbers count i h lt in
    let row = drop (i * (cells + 2)) numbers in
    let long : cells + 2 ≤ length row = omega (arith, length-drop (i * (cells + 2)) numbers) in
    ap (try_of cells) (drop-append-le (i * (cells + 2)) numbers more (omega arith)) ∙ try_stays cells row more long

row_new : (cells : ℕ) (numbers : List ℕ) (count w v : ℕ) (values : List ℕ) → AreRows cells numbers count → length values ≡ cells
    → try_at cells (numbers ++ w ∷ v ∷ values) count ≡ record { worker = w; version = v; values = values }
row_new cells numbers count w v values h long =
    ap (try_of cells) (end_is numbers (w ∷ v ∷ values) (count * (cells + 2)) (sym h.all)) ∙ ap (λ vs. record { worker = w; version = v; values = vs }) (take_all cells values (omega arith))

-- one more try at the end
pub tries_more : (cells : ℕ) (numbers : List ℕ) (count w v : ℕ) (values : List ℕ) → AreRows cells numbers count → length values ≡ cells
    → tries_in cells (numbers ++ w ∷ v ∷ values) (count + 1) ≡ tries_in cells numbers count ++ record { worker = w; version = v; values = values } ∷ []
tries_more cells numbers count w v values h long =
    let now = try_at cells (numbers ++ w ∷ v ∷ values) in
    let old = tries_in cells numbers count in
    map-range_with_len_more now 0 count count (omega arith)
    ∙ ap (λ ts. ts ++ now count ∷ []) (range_same now (try_at cells numbers) 0 count (λ i lt. rows_stay cells numbers (w ∷ v ∷ values) count i h (omega arith)))
    ∙ ap (λ t. old ++ t ∷ []) (row_new cells numbers count w v values h long)

one_more : (n m : ℕ) → (n + 1) * m ≡ n * m + m
one_more zero m = omega arith
one_more (suc n) m = (let less : (n + 1) * m ≡ n * m + m = one_more n m in omega arith)

last_or_before : (i n : ℕ) → i < n + 1 → (i ≡ n) ⊎ (i < n)
last_or_before zero zero lt = inl refl
last_or_before zero (suc n) lt = inr (omega arith)
last_or_before (suc i) zero lt = absurd (omega arith)
last_or_before (suc i) (suc n) lt = elim (last_or_before i n (omega arith)) [ inl e ↦ inl (omega arith) | inr less ↦ inr (omega arith) ]

pub rows_more : (cells : ℕ) (numbers : List ℕ) (count w v : ℕ) (values : List ℕ) → AreRows cells numbers count → length values ≡ cells → w < 16 → AreRows cells (numbers ++ w ∷ v ∷ values) (count + 1)
rows_more cells numbers count w v values h long small = record {
  few = h.few;
  all = (let more : length (numbers ++ w ∷ v ∷ values) ≡ length numbers + length (w ∷ v ∷ values) = length-append numbers (w ∷ v ∷ values) in
      let all : length numbers ≡ count * (cells + 2) = h.all in
      let next : (count + 1) * (cells + 2) ≡ count * (cells + 2) + (cells + 2) = one_more count (cells + 2) in omega arith);
  workers = λ i lt. elim (last_or_before i count lt) [
    | inl e ↦ subst (λ k. (try_at cells (numbers ++ w ∷ v ∷ values) k).worker < 16) (sym e) (subst (λ (t : AcceptedTry). t.worker < 16) (sym (row_new cells numbers count w v values h long)) small)
    | inr less ↦ subst (λ (t : AcceptedTry). t.worker < 16) (sym (rows_stay cells numbers (w ∷ v ∷ values) count i h less)) (h.workers i less)
  ];
}

-- ONE AFTER ANOTHER

next_taken : {X : Type 0} (xs : List X) (k j : ℕ) → j ≡ k + 1 → take j xs ≡ take k xs ++ option_to_list (slice_get xs k)
next_taken [] zero zero e = absurd (omega arith)
next_taken [] zero (suc j) e = refl
next_taken [] (suc k) zero e = absurd (omega arith)
next_taken [] (suc k) (suc j) e = refl
next_taken (x ∷ xs) zero zero e = absurd (omega arith)
next_taken (x ∷ xs) zero (suc zero) e = refl
next_taken (x ∷ xs) zero (suc (suc j)) e = absurd (omega arith)
next_taken (x ∷ xs) (suc k) zero e = absurd (omega arith)
next_taken (x ∷ xs) (suc k) (suc j) e = ap (λ ys. x ∷ ys) (next_taken xs k j (omega arith))

-- one more of those that are read
pub take_next : {X : Type 0} (xs : List X) (k : ℕ) (o : Option X) → o ≡ slice_get xs k → take (k + 1) xs ≡ take k xs ++ option_to_list o
take_next xs k o at = next_taken xs k (k + 1) refl ∙ ap (λ z. take k xs ++ option_to_list z) (sym at)
