use Rattle.std.proofs.Common.{rules as the_rules, ◌+◌, ◌<◌, subst, sym, ap, ◌∙◌, List, length, arith}
use Rattle.std.specs.Vec.Iter.{into_iter_items}
use Rattle.ec_heading.specs.declared.group.Group.{Group}
use Rattle.evc_engine.specs.declared.walked.Auditing.{Auditing}
use Rattle.ec_walk.specs.kept.Each.{EachFrom}
use Rattle.ec_walk.proofs.shared.Each.{from_first, from_here, from_next}
use Rattle.evc_engine.specs.kept.Walks.{EndsFor}
use Rattle.evc_engine.proofs.Findings.{group_at}
use Rattle.evc_engine.proofs.shared.AuditLemmas.{EachIsAudited, none_audited, one_more_audited, stops, audited_length}
use Rattle.evc_engine.proofs.auditing.found_by.Goals as goal

pub loop-group-init : goal.loop-group-init
loop-group-init c = record {
  few = ap length (sym c.new-found.ensures.items);
  long = search the_rules;
  each = λ h entries same ends.
      (subst (EachIsAudited h entries) (sym c.new-found.ensures.items) (none_audited h entries), subst (λ (l : List Auditing). EachFrom (λ g a. EndsFor h entries g a) h.groups 0 l) (sym c.into_iter-rest.ensures.rest) (from_first (λ g a. EndsFor h entries g a) h.groups c.args.audits.items ends));
}

pub returns-in-Err-clause-err : goal.returns-in-Err-clause-err
returns-in-Err-clause-err c = λ h entries same ends.
    let was = c.loop-group.invariant.each h entries same ends in
    let at = group_at h.groups c.loop-group.group (subst (λ (gs : List Group). c.loop-group.group < length gs) same c.loop-group-test.true) in
    let rest = subst (λ (l : List Auditing). EachFrom (λ g a. EndsFor h entries g a) h.groups c.loop-group.group l) c.in-Some.ensures.cases.0 was.1 in
    stops h entries c.loop-group.found.items c.loop-group.group at.0 c.in-Err.fault c.loop-group.invariant.few at.1 was.0
    (c.in-Err.ensures h entries at.0 (from_here (λ g a. EndsFor h entries g a) h.groups c.loop-group.group c.in-Some.auditing (into_iter_items c.next.new.self) at.0 rest at.1))

pub loop-group-preserved : goal.loop-group-preserved
loop-group-preserved c =
    let was = c.loop-group.invariant in
    let taken = c.in-Some.ensures.cases in
    record {
      few = ap (λ n. n + 1) was.few ∙ sym (audited_length c.loop-group.found.items c.in-Ok.audited c.push.new.self.items c.in-Ok-push.ensures.items);
      long = (let shorter = taken.1 in let longer = ap length taken.0 in let long = was.long in omega arith);
      each = λ h entries same ends.
          let was = c.loop-group.invariant.each h entries same ends in
          let at = group_at h.groups c.loop-group.group (subst (λ (gs : List Group). c.loop-group.group < length gs) same c.loop-group-test.true) in
          let rest = subst (λ (l : List Auditing). EachFrom (λ g a. EndsFor h entries g a) h.groups c.loop-group.group l) taken.0 was.1 in (
            subst (EachIsAudited h entries) (sym c.in-Ok-push.ensures.items)
                (one_more_audited h entries c.loop-group.found.items c.loop-group.group at.0 c.in-Ok.audited c.loop-group.invariant.few at.1 was.0
                (c.in-Ok.ensures h entries at.0 (from_here (λ g a. EndsFor h entries g a) h.groups c.loop-group.group c.in-Some.auditing (into_iter_items c.next.new.self) at.0 rest at.1))),
            from_next (λ g a. EndsFor h entries g a) h.groups c.loop-group.group c.in-Some.auditing (into_iter_items c.next.new.self) rest,
          );
    }

pub returns-clause-ok : goal.returns-clause-ok
returns-clause-ok c = λ h entries same ends. record {
  all = omega (arith, c.loop-group.invariant.few, c.loop-group-test.false, c.loop-group.auto.group-end, ap length same);
  each = (c.loop-group.invariant.each h entries same ends).0;
}
