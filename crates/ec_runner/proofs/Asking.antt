-- The refusals of workers, checked in one pass over the run.
use Rattle.std.proofs.Common.{◌≡◌, ◌<◌, ◌≤◌, ℕ, List, length, Option, Some, None, slice_get, inl, inr, refl, sym, subst, arith}
use Rattle.std.proofs.lemmas.Bool.{cases_eq}
use Rattle.ec_core.specs.RunModel.{RunModel}
use Rattle.ec_machine.specs.declared.outcome.Outcome.{Outcome}
use Rattle.ec_machine.specs.declared.outcome.Outcome.TheVariants as outcomes
use Rattle.ec_runner.specs.declared.summary.LastRequest.{LastRequest}
use Rattle.ec_runner.specs.declared.summary.Summary.{Summary}
use Rattle.ec_runner.specs.Fits.{IsBorneOut, MayBeBorneOut, IsRightAt, moment_of_summary}

pub then_likely : (o : Outcome) (asked : Option LastRequest) (run : RunModel) (w : ℕ) → IsBorneOut o run w asked → MayBeBorneOut o run w asked
then_likely outcomes.Running asked run w b = tt
then_likely outcomes.Finished asked run w b = tt
then_likely (outcomes.Refused r) None run w b = b
then_likely (outcomes.Refused r) (Some a) run w b = b.done.within
then_likely outcomes.ValueTooLarge asked run w b = tt
then_likely outcomes.Stopped asked run w b = b
then_likely outcomes.OutOfTurns asked run w b = tt
then_likely outcomes.Memory asked run w b = tt

pub then_right : (o : Outcome) (asked : Option LastRequest) (run : RunModel) (k w : ℕ) → IsBorneOut o run w asked → IsRightAt o asked run k w
then_right outcomes.Running asked run k w b = tt
then_right outcomes.Finished asked run k w b = tt
then_right (outcomes.Refused r) None run k w b = tt
then_right (outcomes.Refused r) (Some a) run k w b = λ at. b
then_right outcomes.ValueTooLarge asked run k w b = tt
then_right outcomes.Stopped asked run k w b = tt
then_right outcomes.OutOfTurns asked run k w b = tt
then_right outcomes.Memory asked run k w b = tt

-- a worker whose refusal is right at each moment up to the last one is borne out
pub both_bear_out : (o : Outcome) (asked : Option LastRequest) (run : RunModel) (w last : ℕ) → MayBeBorneOut o run w asked
    → (moment_of_summary o asked ≤ length run.entries → moment_of_summary o asked ≤ last) → ((k : ℕ) → k ≤ last → IsRightAt o asked run k w) → IsBorneOut o run w asked
both_bear_out outcomes.Running asked run w last may up right = tt
both_bear_out outcomes.Finished asked run w last may up right = tt
both_bear_out (outcomes.Refused r) None run w last may up right = absurd may
both_bear_out (outcomes.Refused r) (Some a) run w last may up right = right a.moment (up may) refl
both_bear_out outcomes.ValueTooLarge asked run w last may up right = tt
both_bear_out outcomes.Stopped asked run w last may up right = may
both_bear_out outcomes.OutOfTurns asked run w last may up right = tt
both_bear_out outcomes.Memory asked run w last may up right = tt

-- what holds before a moment, and at it, holds up to it
pub right_more : (run : RunModel) (summaries : List Summary) (m k w : ℕ) (summary : Summary)
    → ((j v : ℕ) (one : Summary) → j < m → slice_get summaries v ≡ Some one → IsRightAt one.outcome one.asked run j v)
    → ((v : ℕ) (one : Summary) → slice_get summaries v ≡ Some one → IsRightAt one.outcome one.asked run m v)
    → k ≤ m → slice_get summaries w ≡ Some summary → IsRightAt summary.outcome summary.asked run k w
right_more run summaries m k w summary before here up is =
    elim (cases_eq k m) [
      | inl same ↦ subst (λ (j : ℕ). IsRightAt summary.outcome summary.asked run j w) (sym same) (here w summary is)
      | inr not ↦ before k w summary (omega arith) is
    ]
