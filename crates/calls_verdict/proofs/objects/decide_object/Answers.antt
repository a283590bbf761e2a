use Rattle.std.proofs.Common.{reverse, subst, sym, IfOk, arith}
use Rattle.std.proofs.lemmas.List.{length-reverse}
use Rattle.calls_core.specs.declared.history.Kind.{Kind}
use Rattle.calls_core.specs.Histories.{IsHistoryOf}
use Rattle.calls_core.specs.declared.history.Kind.TheVariants.{Eventcount, Sequencer, Semaphores}
use Rattle.calls_counts.specs.Outcomes as counts
use Rattle.calls_tickets.specs.Outcomes as tickets
use Rattle.calls_semaphores.specs.Outcomes as semaphores
use Rattle.calls_verdict.specs.declared.verdict.Fault.TheVariants.{Count, Ticket, Units}
use Rattle.calls_verdict.specs.declared.verdict.Decision.TheVariants.{Refused}
use Rattle.calls_verdict.specs.Verdicts.{IsDecision}
use Rattle.calls_verdict.proofs.Clearing.{refused_first}
use Rattle.calls_verdict.proofs.Databases.{database_decision}
use Rattle.calls_verdict.proofs.Untils.{history_length}
use Rattle.calls_serial.proofs.Databases.{history as cell_history}
use Rattle.calls_verdict.proofs.objects.decide_object.Goals as goal

pub decide_cell-requires-in-Database-clause-history :
    goal.decide_cell-requires-in-Database-clause-history
decide_cell-requires-in-Database-clause-history c =
    cell_history c.in-Database.field-0 (reverse c.args.events.now)
    (subst (λ (k : Kind). IsHistoryOf k (reverse c.args.events.now)) c.in-Database.is
    c.requires.history)

pub returns-in-Database : goal.returns-in-Database
returns-in-Database c =
    subst (λ (k : Kind). IfOk c.decide_cell-in-Database.result
    (IsDecision k c.args.events.now c.args.end)) (sym c.in-Database.is)
    (database_decision c.in-Database.field-0 c.args.events.now c.args.end
    c.decide_cell-in-Database.result c.decide_cell-in-Database.ensures)

pub decide-requires-in-Semaphores-clause-room : goal.decide-requires-in-Semaphores-clause-room
decide-requires-in-Semaphores-clause-room c =
    omega (
      arith,
      length-reverse c.args.events.now,
      history_length c.args.kind.now (reverse c.args.events.now) c.requires.history,
      c.requires.end,
    )

pub returns-in-Refused : goal.returns-in-Refused
returns-in-Refused c =
    subst (λ (k : Kind). IsDecision k c.args.events.now c.args.end
    (Refused c.in-Refused.i (Count c.in-Refused.fault))) (sym c.in-Eventcount.is)
    (refused_first (Eventcount c.in-Eventcount.start) c.args.events.now c.args.end c.in-Refused.i
    (Count c.in-Refused.fault) (λ past more l. l)
    (subst (counts.IsOutcome c.in-Eventcount.start c.args.events.now c.args.end) c.in-Refused.is
    c.in_ok-calls-in-Eventcount.ensures))

pub returns-in-Refused-2 : goal.returns-in-Refused-2
returns-in-Refused-2 c =
    subst (λ (k : Kind). IsDecision k c.args.events.now c.args.end
    (Refused c.in-Refused-2.i (Ticket c.in-Refused-2.fault))) (sym c.in-Sequencer.is)
    (refused_first Sequencer c.args.events.now c.args.end c.in-Refused-2.i
    (Ticket c.in-Refused-2.fault) (λ past more l. l)
    (subst (tickets.IsOutcome c.args.events.now c.args.end) c.in-Refused-2.is
    c.in_ok-calls-in-Sequencer.ensures))

pub returns-in-Refused-3 : goal.returns-in-Refused-3
returns-in-Refused-3 c =
    subst (λ (k : Kind). IsDecision k c.args.events.now c.args.end
    (Refused c.in-Refused-3.i (Units c.in-Refused-3.fault))) (sym c.in-Semaphores.is)
    (refused_first (Semaphores c.in-Semaphores.units) c.args.events.now c.args.end c.in-Refused-3.i
    (Units c.in-Refused-3.fault) (λ past more l. l)
    (subst (semaphores.IsOutcome (Semaphores c.in-Semaphores.units) c.args.events.now c.args.end)
    c.in-Refused-3.is c.in_ok-calls-in-Semaphores.ensures))
