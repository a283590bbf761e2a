use Rattle.std.proofs.Common.{List, Option, ap, ◌∙◌, subst, sym}
use Rattle.std.proofs.lemmas.Option.{get_or_from_slice_get}
use Rattle.ec_core.specs.declared.pending_calls.PendingCall.{PendingCall}
use Rattle.ec_core.specs.PendingCalls.{call_after_act, AreCalls}
use Rattle.ec_core.proofs.shared.PendingCallLemmas.{takes}
use Rattle.ec_core.proofs.pending_calls.PendingCalls.take.Goals as goal

pub returns : goal.returns
returns c = λ past acc here s.
    (let t = c.args.setup.now in
    let P : List (Option PendingCall) → Type 0 = λ z. AreCalls t z past in
    takes t c.self.inside.calls past c.args.entry.now c.get-worker.result c.args.place c.go_on.new.call _ c.invariant.ensures acc here
    (subst P (sym c.self.view_is) s) c.get-worker.ensures.value c.get-worker.ensures.small
    (λ was at. c.go_on.ensures ∙ ap (λ o. call_after_act t c.args.entry.now.act o c.args.place) (get_or_from_slice_get c.self.inside.calls c.get-worker.result was c.index-self-worker.result at))
    c.end_by.ensures)
