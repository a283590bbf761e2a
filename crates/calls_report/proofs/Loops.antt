-- What a loop over a list has put.
use Rattle.std.proofs.Common.{◌≡◌, ℕ, ◌+◌, ◌<◌, List, [], ◌∷◌, ◌++◌, length, get_or, take}
use Rattle.std.proofs.Common.{replicate, ap, ◌∙◌, sym, subst, append-nil, refl, zero, suc, add-one}
use Rattle.std.proofs.Common.{decimal, None, slice_get, slice_index_or}
use Rattle.std.specs.List.{flat_map}
use Rattle.std.proofs.lemmas.List.{take_more}
use Rattle.std.proofs.lemmas.List.Concat.{flat_map-append}
use Rattle.ec_text.specs.Puts.{OutputModel, Puts, Holds}
use Rattle.ec_text.proofs.shared.PutLemmas.{puts_then}
use Rattle.calls_text.specs.Spelling.{numbers_after_spaces}

pub flat_more : {A : Type 0} (f : A → List ℕ) (xs : List A) (i : ℕ) (d : A) → i < length xs
    → flat_map f (take (i + 1) xs) ≡ flat_map f (take i xs) ++ f (get_or xs i d)
flat_more f xs i d lt =
    ap (flat_map f) (take_more xs i d lt)
    ∙ flat_map-append f (take i xs) (get_or xs i d ∷ [])
    ∙ ap (λ (r : List ℕ). flat_map f (take i xs) ++ r) (append-nil (f (get_or xs i d)))

pub puts_more : {A : Type 0} (f : A → List ℕ) (xs : List A) (i : ℕ) (d : A) (a b c : OutputModel)
    → i < length xs → Puts a b (flat_map f (take i xs)) → Puts b c (f (get_or xs i d))
    → Puts a c (flat_map f (take (i + 1) xs))
puts_more f xs i d a b c lt before now =
    subst (Puts a c) (sym (flat_more f xs i d lt))
    (puts_then a b c (flat_map f (take i xs)) (f (get_or xs i d)) before now)

-- the same, with the element that an index gives
pub puts_read : {A : Type 0} (f : A → List ℕ) (xs : List A) (i : ℕ) (x : A) (a b c : OutputModel)
    → i < length xs → x ≡ get_or xs i x → Puts a b (flat_map f (take i xs)) → Puts b c (f x)
    → Puts a c (flat_map f (take (i + 1) xs))
puts_read f xs i x a b c lt read before now =
    puts_more f xs i x a b c lt before (subst (λ y. Puts b c (f y)) read now)

-- ZEROS

zeros_end : (n : ℕ) → replicate {A = ℕ} (suc n) 0 ≡ replicate {A = ℕ} n 0 ++ 0 ∷ []
zeros_end zero = refl
zeros_end (suc n) = ap (λ (ns : List ℕ). 0 ∷ ns) (zeros_end n)

zeros_next : (n : ℕ) → numbers_after_spaces (replicate (suc n) 0)
    ≡ numbers_after_spaces (replicate n 0) ++ numbers_after_spaces (0 ∷ [])
zeros_next n =
    ap (λ (ns : List ℕ). numbers_after_spaces ns) (zeros_end n)
    ∙ flat_map-append (λ n. 32 ∷ decimal n) (replicate n 0) (0 ∷ [])

pub zeros_more : (n : ℕ) (a b c : OutputModel) → Puts a b (numbers_after_spaces (replicate n 0))
    → Puts b c (numbers_after_spaces (0 ∷ []))
    → Puts a c (numbers_after_spaces (replicate (n + 1) 0))
zeros_more n a b c before now =
    rw add-one
    (subst (Puts a c) (sym (zeros_next n))
    (puts_then a b c (numbers_after_spaces (replicate n 0)) (numbers_after_spaces (0 ∷ [])) before now))

-- NOTHING

pub none_put : (a : OutputModel) (xs : List (List ℕ)) (i : ℕ) → None ≡ slice_get xs i
    → Puts a a (numbers_after_spaces (slice_index_or xs i []))
none_put a xs i is =
    subst (λ (ns : List ℕ). Puts a a (numbers_after_spaces ns)) (sym (missing xs i is))
    (puts_nothing a)
  where
    missing : (ys : List (List ℕ)) (k : ℕ) → None ≡ slice_get ys k → slice_index_or ys k [] ≡ []
    missing [] k e = refl
    missing (y ∷ ys) zero e = cc
    missing (y ∷ ys) (suc k) e = missing ys k e

    puts_nothing : (o : OutputModel) → Puts o o []
    puts_nothing o = λ first all h. subst (Holds first o) (sym (append-nil all)) h
