use Rattle.calls_counts.proofs.Observing.{fewer_by}
use Rattle.calls_counts.proofs.observe.is_fewer.Goals as goal

pub returns-else-n-number : goal.returns-else-n-number
returns-else-n-number c = λ slots invocations.
    fewer_by slots c.args.firsts.now c.args.earlier.now c.args.call.now c.args.number
    c.least-n.result c.count_from.result invocations c.if-earlier-call.false c.least-n.ensures
    c.if-n-number.false c.count_from.ensures
