use Rattle.std.proofs.Common.{◌≡◌, refl, ap, ◌∙◌, ℕ, []}
use Rattle.ec_heading.specs.HeaderTree.{empty_heading}
use Rattle.ec_heading.specs.declared.version.Version.TheVariants.{One}
use Rattle.evc_explain_engine.proofs.Places.{third_there, workers_fail}
use Rattle.evc_explain_engine.proofs.bad_lines.in_workers.Goals as goal

pub found_at-requires : goal.found_at-requires
found_at-requires c =
    let one : c.in-Some.limit ≡ 1 = cc in (
      refl,
      workers_fail c.args.text.now c.line_at.result.now _ c.in-Some-2.fault _
          (c.in_ok-heading.ensures
          ∙ ap (λ (n : ℕ). empty_heading One n []) one) c.line_at.ensures
          c.in-Some-2.is c.in_ok-fault.ensures.fault,
    )

pub found_at-requires-in-None : goal.found_at-requires-in-None
found_at-requires-in-None c =
    let one : c.in-Some.limit ≡ 1 = cc in
    third_there c.args.text.now c.line_at.result.now _ _ _
    (c.in_ok-heading.ensures ∙ ap (λ (n : ℕ). empty_heading One n []) one) c.line_at.ensures
    c.in-None.is c.in_ok-fault.ensures.fits c.requires
