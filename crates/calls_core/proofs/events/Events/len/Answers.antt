use Rattle.std.proofs.Common.{◌≡◌, length, ap, sym, ◌∙◌, arith}
use Rattle.calls_core.specs.kept.Packed.{events_in}
use Rattle.calls_core.proofs.Packing.{length_unpacked}
use Rattle.calls_core.proofs.events.Events.len.Goals as goal

pub returns-in-Narrow : goal.returns-in-Narrow
returns-in-Narrow c =
    let long : length c.args.self.now ≡ length c.in-Narrow.list.items =
    ap length (sym c.self.view_is ∙ ap events_in c.in-Narrow.is)
    ∙ length_unpacked 0 c.in-Narrow.list.items in
    omega arith
