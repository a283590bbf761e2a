use Rattle.std.proofs.Common.{◌≡◌, length, get_or, ap, sym, ◌∙◌, arith}
use Rattle.calls_core.specs.kept.Packed.{events_in, unpack_from}
use Rattle.calls_core.proofs.Packing.{length_unpacked, unpacked_first}
use Rattle.calls_core.proofs.events.Events.at.Goals as goal

pub index-requires : goal.index-requires
index-requires c =
    let ps = c.in-Narrow.list.items in
    let many : length c.args.self.now ≡ length (unpack_from 0 ps) =
    ap length (sym c.self.view_is ∙ ap events_in c.in-Narrow.is) in
    omega (arith, length_unpacked 0 ps)

pub returns-in-Narrow : goal.returns-in-Narrow
returns-in-Narrow c =
    let ps = c.in-Narrow.list.items in
    let many : length c.args.self.now ≡ length (unpack_from 0 ps) =
    ap length (sym c.self.view_is ∙ ap events_in c.in-Narrow.is) in
    λ d. c.unpack.ensures ∙ unpacked_first ps c.args.i c.index.result.now d
    (omega (arith, length_unpacked 0 ps)) c.index.ensures
    ∙ ap (λ xs. get_or xs c.args.i d) (ap events_in (sym c.in-Narrow.is) ∙ c.self.view_is)
