-- What the outcome of a decision says.
use Rattle.std.specs.Prelude.{ℕ, List, reverse}
use Rattle.calls_core.specs.declared.history.Kind.TheVariants.{Eventcount}
use Rattle.calls_core.specs.declared.history.Event.{Event}
use Rattle.calls_core.specs.Outcomes.{IsOrderOf, IsFirstFault}
use Rattle.calls_counts.specs.declared.outcome.Outcome.{Outcome}
use Rattle.calls_counts.specs.declared.outcome.Outcome.TheVariants.{Ordered, Refused}
use Rattle.calls_counts.specs.Faults.{Shows}

-- for an eventcount that is start at first; a pending call that took effect has its response at end
abbrev pub IsOutcome : ℕ → List Event → ℕ → Outcome → Type 0
IsOutcome start events end (Ordered v) =
    IsOrderOf (Eventcount start) (reverse events) end v
IsOutcome start events end (Refused i f) =
    IsFirstFault (λ past. Shows start past f) (Eventcount start) events i
