use Rattle.ec_semaphore.proofs.Latest.{completed_is}
use Rattle.ec_semaphore.proofs.pairing.complete_pair.Goals as goal

pub returns-in-Ticket : goal.returns-in-Ticket
returns-in-Ticket c = λ calls is drawn.
    completed_is calls c.args.kept.now c.args.latest c.args.entry.now c.in-Ticket.line c.number.result is c.if-kept-eq3.true drawn c.in-Ticket.is c.number.ensures
