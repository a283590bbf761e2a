use Rattle.calls_spsc.proofs.Necessity.{flows_always}
use Rattle.calls_spsc.proofs.Sufficiency.{flows_order}
use Rattle.calls_spsc.proofs.laws.what_flows_has_an_order.Goals as goal

pub returns : goal.returns
returns c = λ n past some h spsc. (flows_always n past h spsc, flows_order n past some h spsc)
