use Rattle.std.proofs.Common.{◌≡◌, ◌+◌, ◌∙◌, ap}
use Rattle.ec_core.specs.Rounds.{event_or, component_count}
use Rattle.ec_core.specs.Standing.{State, count_at}
use Rattle.ec_core.specs.kept.Fields.{count_value, read_component}
use Rattle.ec_core.proofs.shared.Places.{row_read}
use Rattle.ec_core.proofs.world.World.read.Goals as goal

pub returns : goal.returns
returns c =
    let s = c.args.self.now in
    let u = c.args.call.now in
    let event : c.get.result ≡ event_or u.op = c.get.ensures.value ∙ c.event-event.ensures in
    let wide : c.component_count-width.result ≡ component_count s.setup (event_or u.op) =
    c.component_count-width.ensures.value ∙ ap (λ (s : State). component_count s.setup c.event-event.result) c.self.view_is ∙ ap (component_count s.setup) c.event-event.ensures in
    c.read.ensures
    ∙ ap (λ o. read_component u.op c.component_count-width.result u.index (count_value o + u.sum))
    (row_read c.self.inside.counts c.get.result u.index ∙ ap (λ (s : State). count_at s.counts c.get.result u.index) c.self.view_is
    ∙ ap (λ e. count_at s.counts e u.index) event)
    ∙ ap (λ n. read_component u.op n u.index (count_value (count_at s.counts (event_or u.op) u.index) + u.sum)) wide
