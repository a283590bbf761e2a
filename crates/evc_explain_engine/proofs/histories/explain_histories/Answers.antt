use Rattle.std.proofs.Common.{◌∙◌, ℕ, List, sym, refl, arith, subst}
use Rattle.calls_text.specs.Outcomes.{lines_of_text}
use Rattle.evc_explain_engine.specs.Histories.{Judges, ExplainsFrom, last, later, stopped}
use Rattle.evc_explain_engine.proofs.HistoryLemmas.{stops, no_rest, judged_none, one_read}
use Rattle.evc_explain_engine.proofs.histories.explain_histories.Goals as goal

pub loop-read-init : goal.loop-read-init
loop-read-init c = record {
  few = omega arith;
  follows = λ t there.
      subst (λ (b : List ℕ). ExplainsFrom c.args.text.now t b 1 (lines_of_text c.args.text.now))
      c.new-lines.ensures.items there;
}

pub returns-in-Err : goal.returns-in-Err
returns-in-Err c =
    stops c.args.text.now c.loop-read.lines.items c.loop-read.rest.now c.loop-read.number
    c.in-Err.fault c.explain_unread.result c.in-Err.ensures.tells c.explain_unread.ensures
    c.loop-read.invariant.follows

pub returns-in-Some : goal.returns-in-Some
returns-in-Some c =
    let read = c.in-Ok.read in
    let r = one_read read.recording read.number read.rest.now in
    c.loop-read.invariant.follows c.in-Some.explanation
    (stopped c.loop-read.lines.items c.loop-read.number (lines_of_text c.loop-read.rest.now) r
    c.in-Ok.ensures.tells
    (subst (Judges c.args.text.now read.number read.recording) c.in-Some.is c.in_ok-explanation.ensures))

pub returns-then-is_empty : goal.returns-then-is_empty
returns-then-is_empty c =
    let read = c.in-Ok.read in
    let r = one_read read.recording read.number read.rest.now in
    c.loop-read.invariant.follows _
    (last c.loop-read.lines.items c.loop-read.number (lines_of_text c.loop-read.rest.now) r
    c.in-Ok.ensures.tells
    (judged_none c.args.text.now read.number read.recording c.in_ok-explanation.field-0
    c.in_default.not-Some c.in_ok-explanation.ensures)
    (no_rest read.rest.now (sym c.is_empty.ensures ∙ c.if-is_empty.true)) (c.in_ok-add_ordered.ensures, refl))

pub loop-read-preserved : goal.loop-read-preserved
loop-read-preserved c =
    let read = c.in-Ok.read in
    let r = one_read read.recording read.number read.rest.now in
    record {
      few = omega (arith, c.in-Ok.ensures.numbers, c.loop-read.invariant.few);
      follows = λ t there.
          c.loop-read.invariant.follows t
          (later c.loop-read.lines.items c.loop-read.number (lines_of_text c.loop-read.rest.now) r
          c.in-Ok.ensures.tells
          (judged_none c.args.text.now read.number read.recording c.in_ok-explanation.field-0
          c.in_default.not-Some c.in_ok-explanation.ensures)
          (subst (λ (b : List ℕ).
          ExplainsFrom c.args.text.now t b read.number (lines_of_text read.rest.now))
          c.in_ok-add_ordered.ensures there));
    }
