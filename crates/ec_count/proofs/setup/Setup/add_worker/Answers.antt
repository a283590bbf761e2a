use Rattle.std.proofs.Common.{sym, ap, ◌∙◌}
use Rattle.std.specs.Prelude.{is_ok}
use Rattle.ec_count.proofs.shared.Declared.{more_kept}
use Rattle.ec_count.proofs.setup.Setup.add_worker.Goals as goal

pub invariant_of-self : goal.invariant_of-self
invariant_of-self c =
    let few = c.new.ensures.variant.0 (sym c.ok_or.ensures.variant ∙ ap is_ok c.in_ok-id.was) in
    more_kept c.self.inside.workers c.self.inside.events.items c.self.inside.takers.items c.self.inside.cells.items few c.self.invariant
