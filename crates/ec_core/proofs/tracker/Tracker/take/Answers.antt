use Rattle.std.proofs.Common.{subst, sym, ◌∙◌}
use Rattle.ec_core.specs.Scanning.{TrackerModel, IsTrackerModel}
use Rattle.ec_core.proofs.shared.Tracking.{tracked_take, tracked_pending}
use Rattle.ec_core.proofs.tracker.Tracker.take.Goals as goal

pub returns : goal.returns
returns g c = λ past at op s.
    (let rules = g.P.Protocol.rules c.args.protocol.now in
    let keeps = g.P.Protocol.keeps c.args.protocol.now in
    let P : TrackerModel → Type 0 = λ z. IsTrackerModel rules keeps z past in
    let inside = subst P (sym c.self.view_is) s in
    tracked_take rules keeps c.self.inside.kept c.self.inside.fault c.find.new.fault c.args.entry.now past
    c.get.result c.list_progress-kept.result c.after.result c.args.op.now inside c.get.ensures.value c.get.ensures.small
    (c.list_progress-kept.ensures rules keeps past s) op c.after.ensures
    (c.find.ensures past at (c.list_progress-kept.ensures rules keeps past s) inside.finding))

-- its call stays pending
pub returns-then-is_pending : goal.returns-then-is_pending
returns-then-is_pending g c = λ past at op s.
    (let rules = g.P.Protocol.rules c.args.protocol.now in
    let keeps = g.P.Protocol.keeps c.args.protocol.now in
    let P : TrackerModel → Type 0 = λ z. IsTrackerModel rules keeps z past in
    let inside = subst P (sym c.self.view_is) s in
    tracked_pending rules keeps c.self.inside.kept c.self.inside.fault c.find.new.fault c.args.entry.now past inside (sym c.is_pending.ensures ∙ c.if-is_pending.true)
    (c.find.ensures past at (c.list_progress-kept.ensures rules keeps past s) inside.finding))
