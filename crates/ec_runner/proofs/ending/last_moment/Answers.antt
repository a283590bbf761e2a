use Rattle.std.proofs.Common.{◌≡◌, arith, inl, inr, sym, ◌∙◌, ap}
use Rattle.std.proofs.lemmas.Bool.{cases_eq}
use Rattle.std.proofs.lemmas.Option.{slice_get_within, get_or_from_slice_get}
use Rattle.ec_runner.specs.declared.summary.Summary.{Summary}
use Rattle.ec_runner.specs.Fits.{moment_of_summary}
use Rattle.ec_runner.proofs.ending.last_moment.Goals as goal

pub loop-w-preserved : goal.loop-w-preserved
loop-w-preserved c = λ w summary below is.
    elim (cases_eq w c.loop-w.w) [
      | inl same ↦
          let one = c.index-summaries-w.result in
          let here : one ≡ summary = c.index-summaries-w.is ∙ (rw same at (get_or_from_slice_get c.args.summaries.now w summary one is)) in
          let mine : moment_of_summary summary.outcome summary.asked ≡ c.moment_of_summary.result =
          ap (λ (t : Summary). moment_of_summary t.outcome t.asked) (sym here)
          ∙ sym c.moment_of_summary.ensures in
          omega arith
      | inr not ↦ let before = c.loop-w.invariant w summary (omega arith) is in omega arith
    ]

pub returns : goal.returns
returns c = λ w summary is. c.loop-w.invariant w summary (let h = slice_get_within c.args.summaries.now w summary is in omega arith) is
