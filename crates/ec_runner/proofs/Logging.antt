-- The logs of workers.
use Rattle.std.proofs.Common.{◌≡◌, ◌<◌, ◌+◌, ℕ, ⊎_elim, List, [], ◌∷◌, ◌++◌, length, map, Some, Vec, Global, sym, ◌∙◌, ap, subst, arith}
use Rattle.std.specs.Prelude.{slice_get}
use Rattle.std.proofs.lemmas.List.{get_or_append_left, get_or_push, length_push, map_push}
use Rattle.std.proofs.lemmas.Option.{slice_get-get_or}
use Rattle.std.proofs.lemmas.Bool.{cases_lt}
use Rattle.ec_core.specs.declared.act.Entry.{Entry}
use Rattle.ec_machine.specs.Steps.{own}
use Rattle.ec_runner.specs.Reported.{AreLogs}

get_before : {X : Type 0} (xs : List X) (y : X) (i : ℕ) → i < length xs → slice_get (xs ++ y ∷ []) i ≡ slice_get xs i
get_before xs y i within =
    slice_get-get_or (xs ++ y ∷ []) i y (omega (arith, length_push xs y))
    ∙ ap (λ x. Some x) (get_or_append_left xs (y ∷ []) y i within) ∙ sym (slice_get-get_or xs i y within)

get_last : {X : Type 0} (xs : List X) (y : X) (i : ℕ) → length xs ≡ i → slice_get (xs ++ y ∷ []) i ≡ Some y
get_last xs y i is =
    slice_get-get_or (xs ++ y ∷ []) i y (omega (arith, length_push xs y)) ∙ ap (λ x. Some x) (get_or_push xs y y i is)

logged : (h : List Entry) (k : ℕ) (logs : List (List Entry)) (log : List Entry) → AreLogs k h logs → log ≡ own k h → AreLogs (k + 1) h (logs ++ log ∷ [])
logged h k logs log so_far is = record {
  each = length_push logs log ∙ ap (λ n. n + 1) so_far.each;
  entries = λ w within. ⊎_elim
      (λ before. get_before logs log w (omega (arith, so_far.each)) ∙ so_far.entries w before)
      (λ last. let here : w ≡ k = omega arith in
      get_last logs log w (so_far.each ∙ sym here) ∙ ap (λ l. Some l) (is ∙ ap (λ v. own v h) (sym here)))
      (cases_lt w k);
}

-- the log of one more worker
pub logs_more : (h : List Entry) (k w : ℕ) (logs : List (Vec Entry Global)) (log : Vec Entry Global) → AreLogs k h (map (λ (l : Vec Entry Global). l.items) logs) → w ≡ k
    → log.items ≡ own w h → AreLogs (k + 1) h (map (λ (l : Vec Entry Global). l.items) (logs ++ log ∷ []))
logs_more h k w logs log so_far same is =
    subst (AreLogs (k + 1) h) (sym (map_push (λ (l : Vec Entry Global). l.items) logs log)) (logged h k _ log.items so_far (is ∙ ap (λ v. own v h) same))
