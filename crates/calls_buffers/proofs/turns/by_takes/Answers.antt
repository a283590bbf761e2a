use Rattle.std.proofs.Common.{◌≡◌, ◌++◌, ◌≤◌, List, None, subst, sym, ap, ◌∙◌}
use Rattle.calls_core.specs.declared.history.Kind.TheVariants.{Buffer}
use Rattle.calls_core.specs.declared.history.PendingCall.{PendingCall}
use Rattle.calls_core.specs.Lists.{Each}
use Rattle.calls_core.proofs.Lists.{each_append}
use Rattle.calls_turns.specs.declared.turn.Turn.{Turn}
use Rattle.calls_turns.specs.declared.turn.Taker.{Taker}
use Rattle.calls_turns.specs.Turns.{IsTaking, SparesLast}
use Rattle.calls_turns.specs.Outcomes.{IsOutcome}
use Rattle.calls_buffers.specs.declared.accesses.Access.{Access}
use Rattle.calls_buffers.specs.declared.windows.Window.{Window}
use Rattle.calls_buffers.specs.Turns.{takers_of, askers_of, taking_turns, takes_of}
use Rattle.calls_buffers.specs.kept.Settling.{AreGiven}
use Rattle.calls_buffers.specs.kept.Takings.{taken_windows}
use Rattle.calls_buffers.proofs.JobsOf.{within_calls}
use Rattle.calls_buffers.proofs.Takings.{taken_given, takers_due, askers_due}
use Rattle.calls_buffers.proofs.Spares.{none_spare}
use Rattle.calls_buffers.proofs.turns.by_takes.Goals as goal

pub assign-requires : goal.assign-requires
assign-requires c =
    let end = c.args.end in
    let takes = c.args.takes.now in
    let pending = c.args.pending.now in
    record {
      others = subst (λ (xs : List Taker). Each (λ (x : Taker). x.item ≡ None → end ≤ x.by) xs)
          (sym (c.deref-2.ensures.value ∙ c.in_ok-all_takers.ensures))
          (each_append (λ (x : Taker). x.item ≡ None → end ≤ x.by) (takers_of 0 takes)
          (askers_of end 0 pending) (takers_due end 0 takes) (askers_due end 0 pending));
      spares = subst (SparesLast end) (sym (c.deref.ensures.value ∙ c.in_ok-turns.ensures))
          (none_spare c.args.room end c.args.puts.now);
    }

pub returns-in-Assigned : goal.returns-in-Assigned
returns-in-Assigned c = λ done asking calls different moved apart same asks.
    let n = c.args.room in
    let end = c.args.end in
    let puts = c.args.puts.now in
    let order = c.in-Assigned.order.items in
    let ts = c.deref.result.now in
    let xs = c.deref-2.result.now in
    let found : IsTaking end ts xs order =
    subst (IsOutcome end ts xs) c.in-Assigned.is c.in_ok-order.ensures in
    let taking : IsTaking end (taking_turns n end puts)
    (takers_of 0 (takes_of done) ++ askers_of end 0 asking) order =
    subst (λ (ys : List Taker). IsTaking end (taking_turns n end puts) ys order)
    (c.deref-2.ensures.value ∙ c.in_ok-all_takers.ensures
    ∙ ap (λ (zs : List Access). takers_of 0 zs ++ askers_of end 0 c.args.pending.now) same
    ∙ ap (λ (os : List PendingCall). takers_of 0 (takes_of done) ++ askers_of end 0 os) asks)
    (subst (λ (us : List Turn). IsTaking end us xs order)
    (c.deref.ensures.value ∙ c.in_ok-turns.ensures) found) in
    subst (λ (ws : List Window). AreGiven n done asking end ws)
    (sym (c.in_ok-windows-in-Assigned.ensures
    ∙ ap (λ (ys : List Taker). taken_windows end c.args.takes.now puts ys)
    c.deref-in-Assigned.ensures.value
    ∙ ap (λ (zs : List Access). taken_windows end zs puts order) same))
    (taken_given n end done asking puts order calls different moved apart taking)

pub returns : goal.returns
returns c = λ done asking calls different moved apart same asks.
    let end = c.args.end in
    let shown = subst (IsOutcome end c.deref.result.now c.deref-2.result.now)
    c.in-Refuted.is c.in_ok-order.ensures in
    record {
      end = end;
      within = within_calls (Buffer c.args.room) done asking end calls;
      turns = c.deref.result.now;
      takers = c.deref-2.result.now;
      are = record {
        puts = c.args.puts.now;
        all = moved;
        apart = apart;
        turns_are = c.deref.ensures.value ∙ c.in_ok-turns.ensures;
        takers_are = c.deref-2.ensures.value ∙ c.in_ok-all_takers.ensures
            ∙ ap (λ (zs : List Access). takers_of 0 zs ++ askers_of end 0 c.args.pending.now) same
            ∙ ap (λ (os : List PendingCall). takers_of 0 (takes_of done) ++ askers_of end 0 os)
            asks;
      };
      refuted = shown;
    }
