use Rattle.std.proofs.Common.{◌≡◌, ◌+◌, [], List, map, refl, sym, ◌∙◌, subst, IfSome}
use Rattle.calls_core.specs.declared.history.Kind.TheVariants.{Buffer}
use Rattle.calls_core.specs.declared.history.PendingCall.{PendingCall}
use Rattle.calls_core.specs.declared.history.Call.{Call}
use Rattle.calls_core.specs.Lists.{Each, EachPair}
use Rattle.calls_core.specs.Calls.{Earlier, IsCallOf}
use Rattle.calls_buffers.specs.declared.windows.Window.{Window}
use Rattle.calls_buffers.specs.kept.Orders.{IsFound}
use Rattle.calls_buffers.specs.kept.Spans.{AreInvokedApart, AreSpans}
use Rattle.calls_buffers.specs.kept.Windows.{AreRanked}
use Rattle.calls_buffers.specs.kept.Settling.{settled_calls, settled_window}
use Rattle.calls_buffers.proofs.Answering.{if_ok}
use Rattle.calls_buffers.proofs.Settled.{are_calls, are_apart, are_spans, are_ranked, is_found}
use Rattle.calls_buffers.proofs.Settled.{if_some}
use Rattle.calls_buffers.proofs.settling.settled_order.Goals as goal

pub returns-clause-sound : goal.returns-clause-sound
returns-clause-sound c =
    let n = c.args.room in
    let end = c.args.end in
    let done = c.args.calls.now.done.items in
    let pending = c.args.calls.now.pending.items in
    let all = c.in_ok-settled.settled.done.items in
    let os = c.in_ok-settled.settled.pending.items in
    if_ok (λ o. IfSome o (IsFound n all os (end + 1))) (λ o. IfSome o (IsFound n done pending end))
    (λ o h. if_some (IsFound n all os (end + 1)) (IsFound n done pending end) (λ cs f.
    is_found n end done pending c.args.windows.now all os cs c.in_ok-settled.ensures.done
    c.in_ok-settled.ensures.pending f) o h) c.order_of.result c.order_of.ensures.sound

pub returns-clause-found : goal.returns-clause-found
returns-clause-found c = λ calls apart given room fits.
    let n = c.args.room in
    let end = c.args.end in
    let done = c.args.calls.now.done.items in
    let pending = c.args.calls.now.pending.items in
    let ws = c.args.windows.now in
    let os = c.in_ok-settled.settled.pending.items in
    let order = c.deref.result.now in
    let all : List Call = settled_calls ws end done pending in
    let is = sym c.in_ok-settled.ensures.done in
    let none = sym c.in_ok-settled.ensures.pending in
    let listed : map (settled_window end) ws ≡ order =
    sym (c.deref.ensures.value ∙ c.in_ok-order.ensures) in
    c.order_of.ensures.spread
    (subst (Each (IsCallOf (Buffer n) (end + 1))) is
    (are_calls n end done pending ws calls apart given))
    (subst (EachPair Earlier) none tt)
    (subst (λ (zs : List Call). AreInvokedApart zs os) is (subst (AreInvokedApart all) none
    (are_apart n end done pending ws calls apart given)))
    (subst (λ (zs : List Call). AreSpans zs os (end + 1) order) is
    (subst (λ (ps : List PendingCall). AreSpans all ps (end + 1) order) none
    (subst (AreSpans all [] (end + 1)) listed
    (are_spans n end done pending ws calls apart given))))
    (subst (λ (zs : List Window). AreRanked n zs zs) listed
    (are_ranked n end done pending ws calls apart given)) room (λ i. refl)
