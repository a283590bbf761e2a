use Rattle.std.proofs.Common.{sym, ◌∙◌}
use Rattle.ec_heading.proofs.Stops.{stops_first, goes_to_end, goes_on, stops_later}
use Rattle.ec_heading.proofs.form.+stop_at.Goals as goal

pub returns-then-eq-clause-some : goal.returns-then-eq-clause-some
returns-then-eq-clause-some t c = stops_first _ _ _ _ c.cut_word.ensures.words c.cut_word.ensures.whole c.cut_word.ensures.only c.cut_word.ensures.word (sym c.eq.ensures ∙ c.if-eq.true)

pub returns-in_err-rest-clause-none : goal.returns-in_err-rest-clause-none
returns-in_err-rest-clause-none t c = rw c.from_residual.ensures (goes_to_end _ c.args.list.now _ (rw c.in_err-rest.was at c.cut_word.ensures.words) (sym c.eq.ensures ∙ c.if-eq.false))

pub returns-in_err-at-clause-none : goal.returns-in_err-at-clause-none
returns-in_err-at-clause-none t c = rw c.from_residual-in_err-at.ensures (goes_on _ c.args.list.now _ c.in_ok-rest.field-0.now (rw c.in_ok-rest.was at c.cut_word.ensures.words) (sym c.eq.ensures ∙ c.if-eq.false) c.in_err-at.ensures.none)

pub returns-clause-some : goal.returns-clause-some
returns-clause-some t c = stops_later _ _ _ _ _ (rw c.in_ok-rest.was at c.cut_word.ensures.whole) c.cut_word.ensures.word (sym c.eq.ensures ∙ c.if-eq.false) c.in_ok-at.ensures.some
