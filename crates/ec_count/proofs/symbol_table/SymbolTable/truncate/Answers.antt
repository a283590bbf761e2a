use Rattle.std.proofs.Common.{◌∙◌, sym, ap, subst, take}
use Rattle.ec_count.specs.kept.SymbolTable.{AreShort, by_word}
use Rattle.ec_count.proofs.Worded.{by_word-take, short-take}
use Rattle.ec_count.proofs.symbol_table.SymbolTable.truncate.Goals as goal

pub invariant_of-self : goal.invariant_of-self
invariant_of-self c =
    subst AreShort (sym (ap by_word c.truncate.ensures.entries ∙ by_word-take c.args.len c.self.inside.table.entries)) (short-take c.args.len _ c.self.invariant)

pub returns : goal.returns
returns c = ap by_word c.truncate.ensures.entries ∙ by_word-take c.args.len c.self.inside.table.entries ∙ ap (take c.args.len) c.self.view_is
