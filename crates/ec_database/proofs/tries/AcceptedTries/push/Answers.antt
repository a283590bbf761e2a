use Rattle.std.proofs.Common.{◌+◌, ◌∷◌, [], ◌++◌, ap, sym, subst, ◌∙◌}
use Rattle.ec_database.specs.Tries.{TryTable}
use Rattle.ec_database.specs.kept.Rows.{AreRows, tries_in}
use Rattle.ec_database.proofs.Rows.{rows_more, tries_more}
use Rattle.ec_database.proofs.tries.AcceptedTries.push.Goals as goal

pub invariant_of-self-2 : goal.invariant_of-self-2
invariant_of-self-2 c =
    let s = c.self.inside in
    subst (λ ns. AreRows s.cells ns (s.count + 1)) (sym c.in_ok-add_row.ensures.ok)
    (rows_more s.cells s.numbers.list s.count c.get.result c.args.version c.args.values.now c.self.invariant (c.requires ∙ ap (λ (t : TryTable). t.cells) (sym c.self.view_is)) c.get.ensures.small)

pub returns-clause-ok : goal.returns-clause-ok
returns-clause-ok c =
    let s = c.self.inside in
    ap (λ ns. tries_in s.cells ns (s.count + 1)) c.in_ok-add_row.ensures.ok
    ∙ tries_more s.cells s.numbers.list s.count c.get.result c.args.version c.args.values.now c.self.invariant (c.requires ∙ ap (λ (t : TryTable). t.cells) (sym c.self.view_is))
    ∙ ap (λ w. tries_in s.cells s.numbers.list s.count ++ record { worker = w; version = c.args.version; values = c.args.values.now } ∷ []) c.get.ensures.value
    ∙ ap (λ (t : TryTable). t.list ++ record { worker = c.args.worker; version = c.args.version; values = c.args.values.now } ∷ []) c.self.view_is
