use Rattle.calls_replay.proofs.Traces as traces
use Rattle.calls_replay.proofs.laws.traces_of_orders_are_read.Goals as goal

pub returns : goal.returns
returns c = traces.traces_of_orders_are_read
