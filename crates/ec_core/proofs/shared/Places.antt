-- Elements by position, after a write at one position.
use Rattle.std.proofs.Common.{◌≡◌, ℕ, true, false, ◌&&◌, List, [], Option, Some, None, refl, ap, sym, ◌∙◌, cond, slice_get, slice_set, unwrap_or, ◌==◌}
use Rattle.std.specs.Option.{option_map, option_map_or, option_and_then}
use Rattle.std.proofs.lemmas.Bool.{eqb-true}
use Rattle.std.proofs.Math.ListN.{get_or}
use Rattle.std.proofs.lemmas.Option.{slice_get_within, unwrap_or-slice_get}
use Rattle.ec_count.specs.CountModel.{CountModel}
pub use Rattle.ec_count.proofs.Membership.{get_set}
use Rattle.ec_core.specs.kept.Fields.{map_at}
use Rattle.ec_core.specs.Standing.{count_at}

-- the element at a position of a list after one element was changed
pub get_changed : {X : Type 0} (f : X → X) (xs : List X) (i j : ℕ) → slice_get (map_at f xs i) j ≡ cond (i == j) (option_map f (slice_get xs j)) (slice_get xs j)
get_changed {X} f xs i j =
    elim (slice_get xs i) as (λ o. slice_get xs i ≡ o → slice_get (option_map_or (λ x. slice_set xs i (f x)) o xs) j ≡ cond (i == j) (option_map f (slice_get xs j)) (slice_get xs j)) [
      | None ↦ λ e.
          (elim (i == j) as (λ b. (i == j) ≡ b → slice_get xs j ≡ cond b (option_map f (slice_get xs j)) (slice_get xs j)) [
            | true ↦ λ t. (let same : i ≡ j = eqb-true i j t in
                let none : slice_get xs j ≡ None = ap (slice_get xs) (sym same) ∙ e in
                none ∙ sym (ap (option_map f) none))
            | false ↦ λ t. refl
          ] refl)
      | Some x ↦ λ e.
          (get_set xs i j (f x) (slice_get_within xs i x e)
          ∙ (elim (i == j) as (λ b. (i == j) ≡ b → cond b (Some (f x)) (slice_get xs j) ≡ cond b (option_map f (slice_get xs j)) (slice_get xs j)) [
            | true ↦ λ t. (let same : i ≡ j = eqb-true i j t in
                let some : slice_get xs j ≡ Some x = ap (slice_get xs) (sym same) ∙ e in
                sym (ap (option_map f) some))
            | false ↦ λ t. refl
          ] refl))
    ] refl

inner : (f : CountModel → CountModel) (o : Option (List CountModel)) (c d : ℕ)
    → option_and_then (λ (row : List CountModel). slice_get row d) (option_map (λ row. map_at f row c) o)
    ≡ cond (c == d) (option_map f (option_and_then (λ (row : List CountModel). slice_get row d) o)) (option_and_then (λ (row : List CountModel). slice_get row d) o)
inner f None c d =
    let none : Option CountModel = None in
    elim (c == d) as (λ b. none ≡ cond b none none) [ true ↦ refl | false ↦ refl ]
inner f (Some row) c d = get_changed f row c d

-- a count is that at a position of its row
pub row_read : (counts : List (List CountModel)) (e c : ℕ) → slice_get (get_or counts e []) c ≡ count_at counts e c
row_read counts e c =
    ap (λ row. slice_get row c) (sym (unwrap_or-slice_get counts e []))
    ∙ (elim (slice_get counts e) as (λ o. slice_get (unwrap_or o []) c ≡ option_and_then (λ (row : List CountModel). slice_get row c) o) [ None ↦ refl | Some row ↦ refl ])

-- a count in a table after one of them was changed
pub count_changed : (f : CountModel → CountModel) (counts : List (List CountModel)) (e c p q : ℕ)
    → count_at (map_at (λ row. map_at f row c) counts e) p q
    ≡ cond ((e == p) && (c == q)) (option_map f (count_at counts p q)) (count_at counts p q)
count_changed f counts e c p q =
    ap (option_and_then (λ (row : List CountModel). slice_get row q)) (get_changed (λ row. map_at f row c) counts e p)
    ∙ (elim (e == p) as (λ b. option_and_then (λ (row : List CountModel). slice_get row q) (cond b (option_map (λ row. map_at f row c) (slice_get counts p)) (slice_get counts p))
    ≡ cond (b && (c == q)) (option_map f (count_at counts p q)) (count_at counts p q)) [
      | true ↦ inner f (slice_get counts p) c q
      | false ↦ refl
    ])
