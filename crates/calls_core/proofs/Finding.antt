-- The search for the pending call of a worker.
use Rattle.std.proofs.Common.{◌≡◌, ℕ, zero, suc, ◌<◌, ◌==◌, true, false, List, [], ◌∷◌}
use Rattle.std.proofs.Common.{length, map, get_or, Some, None, refl, ap, sym, ◌∙◌, arith}
use Rattle.std.proofs.Common.{cond, slice_get, slice_index_or}
use Rattle.std.specs.List.{remove}
use Rattle.std.proofs.lemmas.Bool.{eq-eqb, ne_eqb}
use Rattle.std.proofs.lemmas.Option.{get_or_from_slice_get}
use Rattle.calls_core.specs.declared.history.PendingCall.{PendingCall}
use Rattle.calls_core.specs.declared.pending.NotedCall.{NotedCall}
use Rattle.calls_core.specs.Histories.{pending_of, without}
use Rattle.calls_core.specs.Pending.{IsPendingOf, IsNotedOf}

abbrev pub NotHis : {X : Type 0} → (X → PendingCall) → ℕ → List X → ℕ → Type 0
NotHis {X} g w xs k = (x : X) → slice_get xs k ≡ Some x → ((g x).worker == w) ≡ false

module _ {X : Type 0} (g : X → PendingCall) (w : ℕ) where
  pub not_his : (xs : List X) (k : ℕ) (d : X) → ((g (get_or xs k d)).worker ≡ w → ⊥)
      → NotHis g w xs k
  not_his xs k d h = λ x at. ne_eqb (g x).worker w (λ e.
      h (ap (λ z. (g z).worker) (get_or_from_slice_get xs k x d at) ∙ e))

  pub none_by : (xs : List X) → ((k : ℕ) → k < length xs → NotHis g w xs k)
      → pending_of w (map g xs) ≡ None
  none_by [] h = refl
  none_by (x ∷ xs) h =
      ap (λ b. cond b (Some (g x)) (pending_of w (map g xs))) (h zero (omega arith) x refl)
      ∙ none_by xs (λ k lt z at. h (suc k) (omega arith) z at)

  record IsAt (xs : List X) (k : ℕ) (x : X) : Type 0 where
    item : slice_get xs k ≡ Some x
    his : pending_of w (map g xs) ≡ Some (g x)
    rest : without w (map g xs) ≡ map g (remove xs k)

  found_at : (xs : List X) (k : ℕ) (d : X) → k < length xs → (g (get_or xs k d)).worker ≡ w
      → ((j : ℕ) → j < k → NotHis g w xs j) → IsAt xs k (get_or xs k d)
  found_at [] k d lt own others = absurd (omega arith)
  found_at (x ∷ xs) zero d lt own others = record {
    item = refl;
    his = ap (λ b. cond b (Some (g x)) (pending_of w (map g xs))) (eq-eqb (g x).worker w own);
    rest = ap (λ b. cond b (map g xs) (g x ∷ without w (map g xs))) (eq-eqb (g x).worker w own);
  }
  found_at (x ∷ xs) (suc k) d lt own others =
      let r = found_at xs k d (omega arith) own (λ j below. others (suc j) (omega arith)) in
      let skip = others zero (omega arith) x refl in
      record {
        item = r.item;
        his = ap (λ b. cond b (Some (g x)) (pending_of w (map g xs))) skip ∙ r.his;
        rest = ap (λ b. cond b (map g xs) (g x ∷ without w (map g xs))) skip ∙ ap (λ zs.
            g x ∷ zs) r.rest;
      }

pub noted_found : (us : List NotedCall) (w k : ℕ) (d : NotedCall) → k < length us
    → (get_or us k d).call.worker ≡ w
    → ((j : ℕ) → j < k → NotHis (λ (u : NotedCall). u.call) w us j) → IsNotedOf us w k
noted_found us w k d lt own others =
    let at = found_at (λ (u : NotedCall). u.call) w us k d lt own others in
    record { call = get_or us k d; at = at.item; first = at.his; others = at.rest }

pub map_same : {X : Type 0} (xs : List X) → map (λ x. x) xs ≡ xs
map_same [] = refl
map_same (x ∷ xs) = ap (λ ys. x ∷ ys) (map_same xs)

index_of_get : {X : Type 0} (xs : List X) (k : ℕ) (x d : X) → slice_get xs k ≡ Some x
    → x ≡ slice_index_or xs k d
index_of_get [] k x d e = absurd (cc)
index_of_get (y ∷ xs) zero x d e = cc
index_of_get (y ∷ xs) (suc k) x d e = index_of_get xs k x d e

pub found : (os : List PendingCall) (w k : ℕ) (d : PendingCall) → k < length os
    → (get_or os k d).worker ≡ w
    → ((j : ℕ) → j < k → NotHis (λ (o : PendingCall). o) w os j) → IsPendingOf os w k
found os w k d lt own others =
    let at = found_at (λ (o : PendingCall). o) w os k d lt own others in
    record {
      inside = lt;
      first = λ e. ap (pending_of w) (sym (map_same os)) ∙ at.his ∙ ap (λ z. Some z)
          (index_of_get os k (get_or os k d) e at.item);
      others = ap (without w) (sym (map_same os)) ∙ at.rest ∙ map_same (remove os k);
    }

pub without_none : (os : List PendingCall) (w : ℕ) → pending_of w os ≡ None → os ≡ without w os
without_none [] w e = refl
without_none (o ∷ os) w e =
    elim (o.worker == w) as (λ b. cond b (Some o) (pending_of w os) ≡ None
    → o ∷ os ≡ cond b os (o ∷ without w os)) [
      | true ↦ λ is. cc
      | false ↦ λ is. ap (λ zs. o ∷ zs) (without_none os w is)
    ] e
