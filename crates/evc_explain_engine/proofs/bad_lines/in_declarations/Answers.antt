use Rattle.std.proofs.Common.{◌∙◌}
use Rattle.evc_explain_engine.proofs.Places.{fits_there, heading_opens, line_fails, none_there}
use Rattle.evc_explain_engine.proofs.bad_lines.in_declarations.Goals as goal

pub found_at-requires : goal.found_at-requires
found_at-requires c =
    none_there c.args.text.now c.as_slice.result.now c.args.number _
    (c.as_slice.ensures.value ∙ c.in_ok-before.ensures) c.in_default.is c.in_ok-heading.ensures
    c.requires.heading c.requires.behind

pub found_at-requires-in-Some-2 : goal.found_at-requires-in-Some-2
found_at-requires-in-Some-2 c = (
  heading_opens c.args.text.now c.as_slice.result.now c.args.number c.in-Some.heading _
      c.in-Some-2.fault _ _ (c.as_slice.ensures.value ∙ c.in_ok-before.ensures) c.in-Some.is
      c.in_ok-heading.ensures c.in-Some-2.is c.in_ok-fault.ensures.same,
  line_fails c.args.text.now c.line_at.result.now c.args.number c.in-Some.heading _
      c.in-Some-2.fault _ c.line_at.ensures c.in-Some-2.is c.in_ok-fault.ensures.same
      c.in_ok-fault.ensures.fault,
)

pub found_at-requires-in-None : goal.found_at-requires-in-None
found_at-requires-in-None c =
    fits_there c.args.text.now c.as_slice.result.now c.line_at.result.now c.args.number
    c.in-Some.heading _ _ _ (c.as_slice.ensures.value ∙ c.in_ok-before.ensures) c.in-Some.is
    c.in_ok-heading.ensures c.line_at.ensures c.in-None.is c.in_ok-fault.ensures.fits
    c.requires.heading c.requires.behind
