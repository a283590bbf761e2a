-- Interpreters at the start of programs.
use Rattle.std.proofs.Common.{◌≡◌, ◌<◌, ◌⊎◌, inl, inr, ⊎_elim, ℕ, zero, suc, false, List, [], ◌∷◌, ◌++◌, length, get_or, Some, refl, sym, ◌∙◌, ap, subst}
use Rattle.std.specs.Prelude.{slice_get}
use Rattle.std.proofs.lemmas.List.{get_or_default}
use Rattle.ec_machine.specs.declared.command.Command.{Command}
use Rattle.ec_machine.specs.declared.machine.Machine.{Machine}
use Rattle.ec_machine.specs.Follows.{program_at}
use Rattle.ec_machine.specs.Standing.{StandsFor, is_refused}
use Rattle.ec_runner.specs.kept.Machines.{IsMachineOf, AreMachines}

-- an element of a list with one more at its end
pub get_push : {X : Type 0} (xs : List X) (y : X) (i : ℕ) (x : X) → slice_get (xs ++ y ∷ []) i ≡ Some x → (slice_get xs i ≡ Some x) ⊎ ((i ≡ length xs) × (y ≡ x))
get_push [] y zero x is = inr (refl, cc)
get_push [] y (suc i) x is = cc
get_push (z ∷ xs) y zero x is = inl is
get_push (z ∷ xs) y (suc i) x is = ⊎_elim (λ at. inl at) (λ last. inr (ap (λ n. suc n) last.0, last.1)) (get_push xs y i x is)

machine_new : (programs : List (List Command)) (w : ℕ) (m : Machine) → StandsFor (program_at programs w) m [] → is_refused m ≡ false → IsMachineOf programs [] w m
machine_new programs w m represents unset =
    record { represents = represents; outcome = represents.outcome unset }

-- one more interpreter
pub machines_more : (programs : List (List Command)) (machines : List Machine) (k : ℕ) (program : List Command) (new : Machine)
    → length machines ≡ k → AreMachines programs [] machines → k < length programs → program ≡ get_or programs k program
    → StandsFor program new [] → is_refused new ≡ false → AreMachines programs [] (machines ++ new ∷ [])
machines_more programs machines k program new count each within at represents unset = λ w m found.
    ⊎_elim (λ old. each w m old)
    (λ last.
    let place : w ≡ k = last.0 ∙ count in
    let is : program ≡ program_at programs w = at ∙ get_or_default programs k program [] within ∙ ap (program_at programs) (sym place) in
    machine_new programs w m (subst (λ n. StandsFor (program_at programs w) n []) last.1 (subst (λ cs. StandsFor cs new []) is represents))
    (subst (λ n. is_refused n ≡ false) last.1 unset))
    (get_push machines new w m found)
