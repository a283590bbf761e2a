use Rattle.std.proofs.Common.{sym, ◌∙◌, subst}
use Rattle.ec_heading.specs.HeadingModel.{HeadingModel}
use Rattle.calls_text.specs.kept.Runs.{Fits}
use Rattle.calls_text.proofs.Fitting.{object_fits}
use Rattle.calls_text.proofs.running.Running.take_call.Goals as goal

pub call-requires-clause-fits : goal.call-requires-clause-fits
call-requires-clause-fits c =
    subst (λ (h : HeadingModel). Fits h c.args.verb c.in-Some-Some.object) c.heading-heading.ensures
    (object_fits c.heading-heading.result.now c.args.verb c.args.word.now _ c.in-Some-Some.object
    (sym c.object_in-object.ensures ∙ c.in-Some-Some.is-1))
