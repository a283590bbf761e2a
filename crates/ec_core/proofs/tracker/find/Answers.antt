use Rattle.std.proofs.Common.{sym, ◌∙◌}
use Rattle.ec_core.specs.Following.{block}
use Rattle.ec_core.proofs.shared.Tracking.{found_before, none_before, found_break}
use Rattle.ec_core.proofs.tracker.find.Goals as goal

pub returns-then-is_some : goal.returns-then-is_some
returns-then-is_some g c = λ past at kept finding.
    found_before (g.P.Protocol.rules c.args.protocol.now) c.args.fault.now c.args.entry.now past (sym c.is_some.ensures ∙ c.if-is_some.true) finding

pub returns-then-not-is_right : goal.returns-then-not-is_right
returns-then-not-is_right g c = λ past at kept finding.
    (let rules = g.P.Protocol.rules c.args.protocol.now in
    let x = c.args.entry.now in
    found_break rules x past c.args.place c.is_right.result at (none_before rules c.args.fault.now past (sym c.is_some.ensures ∙ c.if-is_some.false) finding)
    (c.is_right.ensures (block (rules x.worker) x.worker past) kept) c.if-not-is_right.true)
