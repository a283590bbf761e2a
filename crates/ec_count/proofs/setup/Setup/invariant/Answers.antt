use Rattle.std.proofs.Common.{ℕ, ◌≤◌, ◌<◌, ◌^◌, List, length, subst}
use Rattle.ec_count.specs.declared.setup.Rights.{Rights}
use Rattle.ec_count.specs.declared.setup.Access.{Access}
use Rattle.ec_count.specs.Tables.{IsDeclared}
use Rattle.ec_count.proofs.shared.Declared.{rights_of, takers_of, access_of}
use Rattle.ec_count.proofs.setup.Setup.invariant.Goals as goal

pub returns : goal.returns
returns c =
    let kept = c.self.invariant in
    let inside = c.self.inside in
    subst IsDeclared c.self.view_is (record {
      few = subst (λ (xs : List Rights). length xs ≤ 32) c.as_slice-events.ensures.value c.as_slice-events.ensures.fits;
      limit = subst (λ n. (1 ≤ n) × (n < 2 ^ 48)) c.get-limit.ensures.value c.get-limit.ensures.range;
      few_workers = kept.few_workers;
      few_sequencers = subst (λ (xs : List (List ℕ)). length xs ≤ 32) c.as_slice-takers.ensures.value c.as_slice-takers.ensures.fits;
      few_cells = subst (λ (xs : List Access). length xs ≤ 256) c.as_slice-cells.ensures.value c.as_slice-cells.ensures.fits;
      rights = rights_of inside.workers inside.events.items kept.rights_fit;
      takers = takers_of inside.workers inside.takers.items kept.takers_fit;
      access = access_of inside.workers inside.cells.items kept.access_fits;
    })
