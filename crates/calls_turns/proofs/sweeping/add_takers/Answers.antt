use Rattle.std.proofs.Common.{◌+◌, subst, sym, refl, ◌∙◌, ap, ◌∷◌, []}
use Rattle.std.specs.List.{Contains}
use Rattle.std.proofs.lemmas.List.Elements.{Contains-append_left}
use Rattle.calls_core.specs.Lists.{Each}
use Rattle.calls_turns.specs.Swept.{IsDemand, HaveTakers, taker_demand}
use Rattle.calls_turns.proofs.Filling.{each_more, takers_more, takers_past}
use Rattle.calls_turns.proofs.sweeping.add_takers.Goals as goal
use Rattle.calls_turns.proofs.sweeping.add_takers.Goals.{then-by-end+in_ok-push, else-by-end}

pub loop-i-preserved : goal.loop-i-preserved
loop-i-preserved c =
    let takers = c.args.takers.now in
    let end = c.args.end in
    let i = c.loop-i.i in
    let ds = c.loop-i.demands.items in
    let h = c.loop-i.invariant in
    elim c.if-by-end.branch [
      | then-by-end+in_ok-push w ↦
          let is = sym (ap (λ v. v.items) w.demands-is ∙ w.in_ok-push.ensures.items) in
          record {
            each = λ turns old. subst (λ l. Each (IsDemand end turns takers) l) is
                (each_more (IsDemand end turns takers) ds (taker_demand takers i)
                (h.each turns old)
                (record { before = w.if-by-end.true; target = (c.loop-i-test.true, refl) }));
            kept = λ d old. subst (λ l. Contains l d) is
                (Contains-append_left ds (taker_demand takers i ∷ []) d (h.kept d old));
            all = subst (λ l. HaveTakers end takers (i + 1) l) is
                (takers_more end takers i ds h.all);
          }
      | else-by-end w ↦
          let is = sym (ap (λ v. v.items) w.demands-is) in
          record {
            each = λ turns old. subst (λ l. Each (IsDemand end turns takers) l) is
                (h.each turns old);
            kept = λ d old. subst (λ l. Contains l d) is (h.kept d old);
            all = subst (λ l. HaveTakers end takers (i + 1) l) is
                (takers_past end takers i ds h.all w.if-by-end.false);
          }
    ]
