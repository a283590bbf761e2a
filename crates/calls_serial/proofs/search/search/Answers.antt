use Rattle.std.proofs.Common.{refl, arith, ◌-◌, false, true, ◌≡◌}
use Rattle.calls_serial.proofs.Finding.{early_found, late_found, passed_more}
use Rattle.calls_serial.proofs.search.search.Goals as goal

pub returns-then-is_over-clause-found : goal.returns-then-is_over-clause-found
returns-then-is_over-clause-found c b =
    early_found c.args.stages.now c.args.completed c.args.first c.args.value (c.loop-i.i - 1)
    c.index-stages-i.result c.index-stages-i.result (omega arith) c.requires c.loop-i.i
    (omega arith) (c.if-is_over.ensures.0 refl) c.loop-i.invariant.passed c.early.result
    c.early.ensures.found

pub returns-then-stages-i-clause-found : goal.returns-then-stages-i-clause-found
returns-then-stages-i-clause-found c b =
    late_found c.args.stages.now c.args.completed c.args.first c.args.value (c.loop-i.i - 1)
    c.index-stages-i.result c.index-stages-i-in-loop-i.result (omega arith) c.requires
    (λ o. absurd (let e : false ≡ true = c.if-is_over.ensures.1 o in cc)) c.if-stages-i.true

pub loop-i-preserved : goal.loop-i-preserved
loop-i-preserved c = record {
  within = omega arith;
  passed = passed_more c.args.stages.now c.args.completed c.args.first c.args.value
      (c.loop-i.i - 1) c.index-stages-i.result c.index-stages-i-in-loop-i.result (omega arith)
      c.requires c.loop-i.i (omega arith)
      (λ o. absurd (let e : false ≡ true = c.if-is_over.ensures.1 o in cc)) c.if-stages-i.false
      c.loop-i.invariant.passed;
}
