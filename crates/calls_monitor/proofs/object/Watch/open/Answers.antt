use Rattle.std.proofs.Common.{[], subst, sym}
use Rattle.calls_core.specs.declared.history.Kind.{Kind}
use Rattle.calls_monitor.specs.declared.object.Watch.TheVariants.{Count, Ticket, Items}
use Rattle.calls_monitor.specs.kept.Watching.{WatchesOf}
use Rattle.calls_monitor.proofs.Objects.{count_opened, ticket_opened, items_opened}
use Rattle.calls_monitor.proofs.object.Watch.open.Goals as goal

pub returns-in-Eventcount-clause-watches : goal.returns-in-Eventcount-clause-watches
returns-in-Eventcount-clause-watches c =
    subst (λ (k : Kind). WatchesOf k [] (Count c.new.result)) (sym c.in-Eventcount.is)
    (count_opened _ c.new.result c.new.ensures)

pub returns-in-Sequencer-clause-watches : goal.returns-in-Sequencer-clause-watches
returns-in-Sequencer-clause-watches c =
    subst (λ (k : Kind). WatchesOf k [] (Ticket c.new-in-Sequencer.result)) (sym c.in-Sequencer.is)
    (ticket_opened c.new-in-Sequencer.result c.new-in-Sequencer.ensures)

pub returns-in-Buffer-clause-watches : goal.returns-in-Buffer-clause-watches
returns-in-Buffer-clause-watches c =
    subst (λ (k : Kind). WatchesOf k [] (Items c.new-in-Buffer.result)) (sym c.in-Buffer.is)
    (items_opened _ c.new-in-Buffer.result c.new-in-Buffer.ensures)
