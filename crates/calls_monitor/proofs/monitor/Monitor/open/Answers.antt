use Rattle.std.proofs.Common.{◌≡◌, ℕ, Bool, [], ◌∙◌, ap, subst, sym, arith}
use Rattle.std.proofs.lemmas.Option.{slice_get_within}
use Rattle.calls_core.specs.declared.history.Kind.{Kind}
use Rattle.calls_monitor.specs.Watched.{is_made, is_listed}
use Rattle.calls_monitor.specs.kept.Watching.{WatchesOf, has_monitor}
use Rattle.calls_monitor.proofs.Wholes.{IsOpenedAt, opened_more}
use Rattle.calls_monitor.proofs.monitor.Monitor.open.Goals as goal

pub loop-kind-preserved : goal.loop-kind-preserved
loop-kind-preserved c = record {
  count = omega (arith, c.in_ok-push.ensures.len, c.loop-kind.invariant.count);
  each = λ k kind lt e. subst (λ ws. IsOpenedAt c.args.spsc.now ws k kind)
      (sym c.in_ok-push.ensures.items)
      (opened_more c.args.kinds.now c.args.spsc.now c.loop-kind.objects.items c.loop-kind.kind-index
      c.in_ok-open.field-0 c.kind-item.result c.loop-kind.invariant.count
      (c.in_ok-open.ensures.made
      ∙ ap (λ (b : Bool). is_made b c.kind-item.result) (c.contains-is_spsc.ensures.value
      ∙ ap (λ (n : ℕ). is_listed n c.args.spsc.now) (omega (
        arith,
        c.len.ensures,
        c.loop-kind.invariant.count,
      )))
      ∙ ap (is_made (is_listed c.loop-kind.kind-index c.args.spsc.now)) c.kind-item.is)
      (subst (λ (z : Kind). WatchesOf z [] c.in_ok-open.field-0) c.kind-item.is
      c.in_ok-open.ensures.watches)
      c.loop-kind.invariant.each k kind lt e);
}

pub returns : goal.returns
returns c = record {
  pending = c.new.ensures;
  each = λ k kind e.
      (let o = c.loop-kind.invariant.each k kind
      (omega (arith, slice_get_within c.args.kinds.now k kind e, c.loop-kind-test.false)) e in
      (o.0, record { is = o.1; made = o.2; watches = o.3 }));
}
