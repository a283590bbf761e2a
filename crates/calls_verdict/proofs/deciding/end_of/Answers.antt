use Rattle.std.proofs.Common.{◌≡◌, ◌+◌, reverse, sym, arith}
use Rattle.calls_core.specs.Histories.{clock}
use Rattle.calls_verdict.proofs.Ends.{last_clock}
use Rattle.calls_verdict.proofs.deciding.end_of.Goals as goal

pub overflow_add-result : goal.overflow_add-result
overflow_add-result c =
    let x = c.at.result in
    let is : clock (reverse c.args.events.now) ≡ x.at + 1 =
    last_clock c.args.events.now c.len-n.result x c.len-n.ensures
    (omega (arith, c.if-n-eq0.false)) (c.at.ensures x) in
    omega (arith, is, c.requires)

pub returns : goal.returns
returns c =
    let x = c.at.result in
    sym (last_clock c.args.events.now c.len-n.result x c.len-n.ensures
    (omega (arith, c.if-n-eq0.false)) (c.at.ensures x))
