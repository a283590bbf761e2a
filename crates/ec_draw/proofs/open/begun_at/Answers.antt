use Rattle.std.proofs.Common.{◌≡◌, ◌+◌, ◌-◌, ap, sym, ◌∙◌, arith}
use Rattle.ec_core.specs.Counts.{past_at}
use Rattle.ec_draw.specs.Open.{begun_at}
use Rattle.ec_draw.proofs.Stepping.{begun_before, begun_here, begun_none, none_here}
use Rattle.ec_draw.proofs.open.begun_at.Goals as goal

pub returns-then-begins : goal.returns-then-begins
returns-then-begins c =
    let w = c.args.worker in
    let h = c.args.run.now.entries in
    let k = c.loop-end.end - 1 in
    let next : k + 1 ≡ c.loop-end.end = omega arith in
    sym (begun_here w h k c.in-Some.entry (sym c.in-Some.ensures) (sym c.begins.ensures
    ∙ c.if-begins.true)) ∙ ap (λ m. begun_at w (past_at m h)) next ∙ c.loop-end.invariant.is

pub loop-end-preserved-else-begins : goal.loop-end-preserved-else-begins
loop-end-preserved-else-begins c =
    let w = c.args.worker in
    let h = c.args.run.now.entries in
    let k = c.loop-end.end - 1 in
    let next : k + 1 ≡ c.loop-end.end = omega arith in
    let low = c.loop-end.invariant.low in
    record {
      low = omega arith;
      is = sym (begun_before w h k c.in-Some.entry (sym c.in-Some.ensures) (sym c.begins.ensures
          ∙ c.if-begins.false)) ∙ ap (λ m. begun_at w (past_at m h)) next ∙ c.loop-end.invariant.is;
    }

pub loop-end-preserved : goal.loop-end-preserved
loop-end-preserved c =
    let low = c.loop-end.invariant.low in
    absurd (none_here c.args.run.now.entries (c.loop-end.end - 1) (sym c.entry.ensures
    ∙ c.in_default.is) (omega arith))

pub returns : goal.returns
returns c =
    let w = c.args.worker in
    let h = c.args.run.now.entries in
    let none : 0 ≡ c.loop-end.end = omega arith in
    sym (begun_none w h) ∙ ap (λ m. begun_at w (past_at m h)) none ∙ c.loop-end.invariant.is
