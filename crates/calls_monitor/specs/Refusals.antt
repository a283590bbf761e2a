-- Why the calls of one object have no linearization.
use Rattle.std.specs.Prelude.{List}
use Rattle.calls_core.specs.declared.history.Kind.{Kind}
use Rattle.calls_core.specs.declared.history.Kind.TheVariants.{Eventcount, Sequencer, Semaphores}
use Rattle.calls_core.specs.declared.history.Kind.TheVariants.{Buffer}
use Rattle.calls_core.specs.declared.history.Event.{Event}
use Rattle.calls_counts.specs.Monitors.{IsRefusedAt as IsCountRefused}
use Rattle.calls_tickets.specs.Monitors.{IsRefused as IsTicketRefused}
use Rattle.calls_semaphores.specs.Monitors.{IsRefusedAt as IsUnitRefused}
use Rattle.calls_spsc.specs.Monitors.{IsRefused as IsItemRefused}
use Rattle.calls_monitor.specs.declared.object.Refusal.{Refusal}
use Rattle.calls_monitor.specs.declared.object.Refusal.TheVariants.{Count, Ticket, Units, Items}

-- what the monitor of an object of this kind reports of the event x, after the events of its calls:
-- with x these calls have no linearization
abbrev pub Explains : Kind → List Event → Event → Refusal → Type 0
Explains (Eventcount n) past x (Count f) = IsCountRefused n past x f
Explains Sequencer past x (Ticket f) = IsTicketRefused past x f.call
Explains (Semaphores units) past x (Units f) = IsUnitRefused units past x f
Explains (Buffer n) past x (Items f) = IsItemRefused n past x f
Explains _ _ _ _ = ⊥
