use Rattle.std.proofs.Common.{sym, ap, ◌∙◌}
use Rattle.ec_count.specs.Names.{find_name}
use Rattle.ec_count.proofs.shared.Named.{find_lookup}
use Rattle.ec_count.proofs.names.Names.find_bytes.Goals as goal

pub returns : goal.returns
returns c =
    c.copied.ensures ∙ c.get.ensures.value ∙ sym (find_lookup c.args.name.now c.self.inside.table.entries) ∙ ap (find_name c.args.name.now) c.self.view_is
