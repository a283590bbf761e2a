use Rattle.std.proofs.Common.{◌≡◌, ◌+◌, reverse, arith}
use Rattle.std.proofs.lemmas.Bool.{lt-ltb, ltb-true}
use Rattle.calls_core.specs.Histories.{clock}
use Rattle.calls_verdict.proofs.Ends.{last_clock}
use Rattle.calls_verdict.proofs.deciding.has_room.Goals as goal

pub returns : goal.returns
returns c =
    let x = c.at.result in
    let is : clock (reverse c.args.events.now) ≡ x.at + 1 =
    last_clock c.args.events.now c.len-n.result x c.len-n.ensures
    (omega (arith, c.if-n-eq0.false)) (c.at.ensures x) in (
      λ on. (let lt = ltb-true x.at 18446744073709551615 on in omega (arith, is, lt)),
      λ less. lt-ltb x.at 18446744073709551615 (omega (arith, is, less)),
    )
