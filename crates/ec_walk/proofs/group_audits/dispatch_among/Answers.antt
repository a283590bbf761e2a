use Rattle.std.proofs.Common.{refl, sym, subst, ◌∙◌, inl, inr, arith}
use Rattle.ec_walk.specs.Walks.{DispatchesTo}
use Rattle.ec_walk.proofs.WalkLemmas.{hands_nowhere, hands_more, hands_all}
use Rattle.ec_walk.proofs.group_audits.dispatch_among.Goals as goal
use Rattle.ec_walk.proofs.group_audits.dispatch_among.Goals.{then-is_asked_at, else-is_asked_at}

pub loop-number-init : goal.loop-number-init
loop-number-init g c = record {
  handed = hands_nowhere g.A.Audit.represents c.args.place c.args.op.now c.args.entry.now c.args.groups.now c.args.wide c.args.span.first c.args.span.first c.args.audits.now (omega arith);
  none = λ behind. refl;
}

pub loop-number-preserved : goal.loop-number-preserved
loop-number-preserved g c = record {
  handed =
      hands_more g.A.Audit.represents c.args.place c.args.op.now c.args.entry.now c.args.groups.now c.args.wide c.args.span.first c.loop-number.number c.args.audits.now
      c.loop-number.audits c.if-is_asked_at.audits (omega arith) c.loop-number.invariant.handed
      (elim c.if-is_asked_at.branch [
        | then-is_asked_at w ↦ inl (sym c.is_asked_at.ensures ∙ w.if-is_asked_at.true, subst (DispatchesTo g.A.Audit.represents c.loop-number.number c.args.place c.args.op.now c.args.entry.now c.loop-number.audits) (sym w.audits-is) w.dispatch_to.ensures)
        | else-is_asked_at w ↦ inr (sym c.is_asked_at.ensures ∙ w.if-is_asked_at.false, w.audits-is)
      ]);
  none = λ behind. absurd (omega arith);
}

pub returns : goal.returns
returns g c =
    hands_all g.A.Audit.represents c.args.place c.args.op.now c.args.entry.now c.args.groups.now c.args.wide c.args.span.first c.args.span.end c.loop-number.number
    c.args.audits.now c.loop-number.audits (omega arith) c.loop-number.invariant.none c.loop-number.invariant.handed
