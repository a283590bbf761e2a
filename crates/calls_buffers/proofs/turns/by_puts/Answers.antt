use Rattle.std.proofs.Common.{◌≡◌, List, ◌++◌, None, ap, sym, ◌∙◌, length, subst, reverse, ◌≤◌}
use Rattle.calls_core.specs.Lists.{Each}
use Rattle.calls_turns.specs.declared.turn.Turn.{Turn}
use Rattle.calls_turns.specs.declared.turn.Taker.{Taker}
use Rattle.calls_turns.specs.Turns.{IsTaking, SparesLast}
use Rattle.calls_turns.specs.Steps.{Refute}
use Rattle.calls_turns.specs.Outcomes.{IsOutcome}
use Rattle.calls_buffers.specs.declared.accesses.Access.{Access}
use Rattle.calls_buffers.specs.declared.windows.Window.{Window}
use Rattle.calls_buffers.specs.Turns.{puts_of, takers_of, asking, turns_in, AreFewOrApart}
use Rattle.calls_buffers.specs.kept.Settling.{AreGiven}
use Rattle.calls_buffers.specs.kept.Puttings.{put_windows}
use Rattle.calls_buffers.proofs.Takings.{takers_due}
use Rattle.calls_buffers.proofs.Spares.{some_spare}
use Rattle.calls_buffers.proofs.PutTurns.{are_given, outrun}
use Rattle.calls_buffers.proofs.turns.by_puts.Goals as goal

pub assign-requires : goal.assign-requires
assign-requires c =
    let end = c.args.end in
    record {
      others = subst (λ (xs : List Taker). Each (λ (x : Taker). x.item ≡ None → end ≤ x.by) xs)
          (sym (c.deref-2.ensures.value ∙ c.in_ok-takers.ensures))
          (takers_due end 0 c.args.puts.now);
      spares = subst (SparesLast end) (sym (c.deref.ensures.value ∙ c.in_ok-turns.ensures))
          (some_spare c.args.room end c.args.takes.now c.args.all.now (length c.args.puts.now));
    }

pub returns-in-Assigned : goal.returns-in-Assigned
returns-in-Assigned c = λ done pending calls invoked is moved apart together rest.
    let n = c.args.room in
    let end = c.args.end in
    let takes = c.args.takes.now in
    let others = asking end 0 pending in
    let all : List Access = takes ++ others in
    let puts = puts_of end done pending in
    let order = c.in-Assigned.order.items in
    let turns : c.deref.result.now ≡ turns_in n end takes all (length puts) =
    c.deref.ensures.value ∙ c.in_ok-turns.ensures
    ∙ ap (λ (zs : List Access). turns_in n end takes zs (length c.args.puts.now)) together
    ∙ ap (λ (zs : List Access). turns_in n end takes all (length zs)) is in
    let takers : c.deref-2.result.now ≡ takers_of 0 puts =
    c.deref-2.ensures.value ∙ c.in_ok-takers.ensures ∙ ap (takers_of 0) is in
    let answer : IsTaking end c.deref.result.now c.deref-2.result.now order =
    subst (IsOutcome end c.deref.result.now c.deref-2.result.now) c.in-Assigned.is
    c.in_ok-order.ensures in
    let taking : IsTaking end (turns_in n end takes all (length puts)) (takers_of 0 puts) order =
    subst (λ (ts : List Turn). IsTaking end ts (takers_of 0 puts) order) turns
    (subst (λ (xs : List Taker). IsTaking end c.deref.result.now xs order) takers answer) in
    let windows : c.in_ok-windows-in-Assigned.windows.items ≡ put_windows end puts all 0 order =
    c.in_ok-windows-in-Assigned.ensures
    ∙ ap (λ (xs : List Taker). put_windows end c.args.puts.now c.args.all.now 0 xs)
    c.deref-in-Assigned.ensures.value
    ∙ ap (λ (zs : List Access). put_windows end c.args.puts.now zs 0 order) together
    ∙ ap (λ (zs : List Access). put_windows end zs all 0 order) is in
    subst (λ (ws : List Window). AreGiven n done pending end ws) (sym windows)
    (are_given n end done pending takes order calls invoked moved apart
    (subst (λ (zs : List Access). AreFewOrApart (length zs) takes others) is rest) taking)

pub returns : goal.returns
returns c = λ done pending calls invoked is moved apart together rest.
    let n = c.args.room in
    let end = c.args.end in
    let takes = c.args.takes.now in
    let others = asking end 0 pending in
    let all : List Access = takes ++ others in
    let puts = puts_of end done pending in
    let steps = c.in-Refuted.steps.items in
    let turns : c.deref.result.now ≡ turns_in n end takes all (length puts) =
    c.deref.ensures.value ∙ c.in_ok-turns.ensures
    ∙ ap (λ (zs : List Access). turns_in n end takes zs (length c.args.puts.now)) together
    ∙ ap (λ (zs : List Access). turns_in n end takes all (length zs)) is in
    let takers : c.deref-2.result.now ≡ takers_of 0 puts =
    c.deref-2.ensures.value ∙ c.in_ok-takers.ensures ∙ ap (takers_of 0) is in
    let xs = c.deref-2.result.now in
    let shown = subst (IsOutcome end c.deref.result.now xs) c.in-Refuted.is c.in_ok-order.ensures in
    let clash = c.in-Refuted.clash in
    outrun n end done pending takes steps clash calls moved apart
    (subst (λ (zs : List Access). AreFewOrApart (length zs) takes others) is rest)
    (subst (λ (ts : List Turn). Refute end ts (takers_of 0 puts) (reverse steps) clash) turns
    (subst (λ (xs : List Taker). Refute end c.deref.result.now xs (reverse steps) clash) takers
    shown))
