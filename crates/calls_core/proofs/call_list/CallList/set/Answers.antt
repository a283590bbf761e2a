use Rattle.std.proofs.Common.{set, ap, sym, ◌∙◌, map}
use Rattle.std.proofs.lemmas.List.{map-set}
use Rattle.calls_core.specs.kept.Packed.{calls_in, unpack_call}
use Rattle.calls_core.proofs.call_list.CallList.set.Goals as goal

pub returns-in-Some : goal.returns-in-Some
returns-in-Some c =
    let ps = c.in-Narrow.list.items in
    map-set unpack_call ps c.args.i c.in-Some.packed
    ∙ ap (set (map unpack_call ps) c.args.i) c.in-Some.ensures
    ∙ ap (λ xs. set xs c.args.i c.args.call) (ap calls_in (sym c.in-Narrow.is) ∙ c.self.view_is)
