use Rattle.std.proofs.Common.{◌≡◌, ◌≢◌, ◌<◌, ℕ, length, slice_get, slice_index, arith, inl, inr, sym, ◌∙◌, ap, subst}
use Rattle.std.proofs.lemmas.Bool.{cases_eq}
use Rattle.std.proofs.lemmas.Option.{slice_get_within, get_or_from_slice_get}
use Rattle.ec_runner.specs.declared.summary.Summary.{Summary}
use Rattle.ec_runner.proofs.Walking.{index_is}
use Rattle.ec_runner.proofs.log_comparison.first_unfinished.Goals as goal

pub returns-then-cursors-w : goal.returns-then-cursors-w
returns-then-cursors-w c =
    let summaries = c.args.summaries.now in
    let cursors = c.args.cursors.now in
    let one = c.index-summaries-w.result in
    let within : c.loop-w.w < length summaries = omega arith in
    let long : length c.as_slice.result.now ≡ length one.log.items = ap length c.as_slice.ensures.value ∙ ap (λ (t : Summary). length t.log.items) (sym c.index-summaries-w.is) in
    let far : slice_index cursors c.loop-w.w ≢ length one.log.items = λ e. c.if-cursors-w.true (e ∙ sym long) in
    record {
      summary = one;
      at = ap (slice_get summaries) c.nth_worker.ensures ∙ index_is summaries c.loop-w.w one c.index-summaries-w.is within;
      not = subst (λ (v : ℕ). slice_index cursors v ≢ length one.log.items) (sym c.nth_worker.ensures) far;
    }

pub loop-w-preserved : goal.loop-w-preserved
loop-w-preserved c = λ w summary below is.
    elim (cases_eq w c.loop-w.w) [
      | inl same ↦
          let cursors = c.args.cursors.now in
          let one = c.index-summaries-w.result in
          let here : one ≡ summary = c.index-summaries-w.is ∙ (rw same at (get_or_from_slice_get c.args.summaries.now w summary one is)) in
          let long : length c.as_slice.result.now ≡ length one.log.items = ap length c.as_slice.ensures.value ∙ ap (λ (t : Summary). length t.log.items) (sym c.index-summaries-w.is) in
          ap (slice_index cursors) same ∙ c.if-cursors-w.false ∙ long ∙ ap (λ (t : Summary). length t.log.items) here
      | inr not ↦ c.loop-w.invariant w summary (omega arith) is
    ]

pub returns : goal.returns
returns c = λ w summary is. c.loop-w.invariant w summary (let h = slice_get_within c.args.summaries.now w summary is in omega arith) is
