use Rattle.std.proofs.Common.{length, refl}
use Rattle.calls_text.proofs.Adding.{units_push}
use Rattle.calls_text.proofs.recording.add_semaphores.Goals as goal

pub returns-clause-are : goal.returns-clause-are
returns-clause-are c =
    rw c.in_ok-push.ensures.items
    (units_push c.args.kinds.now.items (length c.args.kinds.now.items) c.args.groups.now
    c.in_ok-units.units refl c.in_ok-units.ensures)
