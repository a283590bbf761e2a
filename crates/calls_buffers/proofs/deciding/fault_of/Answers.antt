use Rattle.std.proofs.lemmas.Result.{IfOk-weaker}
use Rattle.calls_buffers.proofs.deciding.fault_of.Goals as goal

pub returns-in-None : goal.returns-in-None
returns-in-None c = IfOk-weaker c.overdue.result _ _ (λ fault shown t are refute.
    shown c.args.calls.now.done.items c.args.calls.now.pending.items t are refute) c.overdue.ensures
