-- What the outcome of a decision about the calls of a bank says.
use Rattle.std.specs.Prelude.{ℕ, List, reverse}
use Rattle.calls_core.specs.declared.history.Kind.{Kind}
use Rattle.calls_core.specs.declared.history.Event.{Event}
use Rattle.calls_core.specs.Outcomes.{IsOrderOf, IsFirstFault}
use Rattle.calls_semaphores.specs.declared.fault.Outcome.{Outcome}
use Rattle.calls_semaphores.specs.declared.fault.Outcome.TheVariants.{Ordered, Refused}
use Rattle.calls_semaphores.specs.Faults.{Shows}

-- the calls have this linearization, in which a pending call that took effect has its response at
-- t; or this event is the first faulty one, and the events up to it show the fault
abbrev pub IsOutcome : Kind → List Event → ℕ → Outcome → Type 0
IsOutcome kind events t (Ordered cs) = IsOrderOf kind (reverse events) t cs
IsOutcome kind events t (Refused i f) = IsFirstFault (λ past. Shows kind past f) kind events i
