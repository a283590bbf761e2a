-- What the two classes say of a prefix of the events.
use Rattle.std.specs.Prelude.{ℕ, List, reverse}
use Rattle.calls_core.specs.declared.history.Kind.TheVariants.{Cell}
use Rattle.calls_core.specs.declared.history.Event.{Event}
use Rattle.calls_core.specs.Outcomes.{IsOrderOf, IsFirstFault}
use Rattle.calls_cells.specs.declared.deciding.Try.{Try}
use Rattle.calls_cells.specs.declared.deciding.Try.TheVariants.{Ordered, Refused, Open}
use Rattle.calls_cells.specs.Faults.{Shows, IsOutside}

abbrev pub IsTry : List Event → ℕ → Try → Type 0
IsTry events end (Ordered cs) = IsOrderOf Cell (reverse events) end cs
IsTry events end (Refused i f) = IsFirstFault (λ past. Shows past f) Cell events i
IsTry events end (Open u) = IsOutside (reverse events) u
