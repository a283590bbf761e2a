use Rattle.ec_count.proofs.shared.Named.{name_utf8}
use Rattle.ec_count.proofs.names.name_text.Goals as goal

pub unreachable-requires : goal.unreachable-requires
unreachable-requires c = c.in-Err.ensures.cases.0 (name_utf8 c.args.name.now c.requires)
