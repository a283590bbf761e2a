-- What the outcome of a decision says.
use Rattle.std.specs.Prelude.{ℕ, List, reverse}
use Rattle.calls_core.specs.declared.history.Kind.TheVariants.{Sequencer}
use Rattle.calls_core.specs.declared.history.Event.{Event}
use Rattle.calls_core.specs.Outcomes.{IsOrderOf, IsFirstFault}
use Rattle.calls_tickets.specs.declared.deciding.Outcome.{Outcome}
use Rattle.calls_tickets.specs.declared.deciding.Outcome.TheVariants.{Ordered, Refused}
use Rattle.calls_tickets.specs.Faults.{Shows}

abbrev pub IsOutcome : List Event → ℕ → Outcome → Type 0
IsOutcome events t (Ordered cs) = IsOrderOf Sequencer (reverse events) t cs
IsOutcome events t (Refused i f) = IsFirstFault (λ past. Shows past f) Sequencer events i
