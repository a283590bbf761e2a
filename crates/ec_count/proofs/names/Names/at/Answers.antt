use Rattle.std.proofs.Common.{◌≡◌, ◌∙◌, Some, slice_get, sym, ap}
use Rattle.ec_count.specs.Names.{by_bytes}
use Rattle.ec_count.specs.Reserved.{is_name}
use Rattle.ec_count.proofs.shared.Named.{name_at, by_bytes_at}
use Rattle.ec_count.proofs.names.Names.at.Goals as goal

pub name_text-requires : goal.name_text-requires
name_text-requires c =
    let at : slice_get (by_bytes c.self.inside.table.entries) c.args.place ≡ Some (c.in-Some.name.now.items, c.in-Some.target.now) = by_bytes_at c.self.inside.table.entries c.args.place (c.in-Some.name.now, c.in-Some.target.now) (sym c.in-Some.ensures.entry) in
    ap is_name c.as_slice.ensures.value ∙ name_at (by_bytes c.self.inside.table.entries) c.args.place (c.in-Some.name.now.items, c.in-Some.target.now) c.self.invariant.hold at
