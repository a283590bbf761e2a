use Rattle.std.proofs.Common.{◌≡◌, None, subst, sym, ap, ◌∙◌}
use Rattle.ec_count.specs.Tables.{Tables, cells_fault, has_faulty_access}
use Rattle.ec_count.proofs.shared.Named.{none_left}
use Rattle.ec_count.proofs.shared.Declared.{fresh_cells, more_cells}
use Rattle.ec_count.proofs.setup.Setup.add_cells.Goals as goal

pub invariant_of-self : goal.invariant_of-self
invariant_of-self c =
    let none : cells_fault c.args.self.now c.args.n c.args.write.now c.args.read.now ≡ None = sym c.cells_fault.ensures ∙ none_left c.cells_fault.result c.in_default.not-Some in
    let new = fresh_cells (record { limit = c.self.inside.limit; workers = c.self.inside.workers; events = c.self.inside.events.items; takers = c.self.inside.takers.items; cells = c.self.inside.cells.items }) c.args.n c.args.write.now c.args.read.now (subst (λ (t : Tables). cells_fault t c.args.n c.args.write.now c.args.read.now ≡ None) (sym c.self.view_is) none) in
    let kept = c.self.invariant in
    record {
      few_workers = kept.few_workers;
      rights_fit = kept.rights_fit;
      takers_fit = kept.takers_fit;
      access_fits = ap (has_faulty_access c.self.inside.workers) c.push_cells.ensures ∙ more_cells c.self.inside.workers c.args.n c.self.inside.cells.items (record { write = c.args.write.now; read = c.args.read.now }) kept.access_fits new;
    }
