use Rattle.std.proofs.Common.{◌≡◌, List, [], ◌∷◌, ◌++◌, reverse, length, length-append, append_assoc, arith, ap, sym, subst, ◌∙◌}
use Rattle.std.specs.Option.{option_map_or}
use Rattle.ec_core.specs.declared.act.Act.TheVariants.{Go}
use Rattle.ec_core.specs.declared.act.Entry.{Entry}
use Rattle.ec_core.specs.declared.pending_calls.PendingCall.{PendingCall}
use Rattle.ec_core.specs.Calls.{under_way}
use Rattle.ec_core.specs.PendingCalls.{AreCalls}
use Rattle.ec_core.proofs.shared.Moments.{accepted_until}
use Rattle.ec_core.proofs.shared.PendingCallLemmas.{Taking, opened_is}
use Rattle.ec_core.proofs.shared.Stepping.{past_after}
use Rattle.std.proofs.lemmas.List.{length-reverse}
use Rattle.ec_core.proofs.walking.walk.Goals as goal

pub loop-entry-preserved : goal.loop-entry-preserved
loop-entry-preserved g c =
    let t = c.args.run.now.setup in
    let done : List Entry = c.loop-entry.yielded in
    let x : Entry = c.in-Some.entry in
    let was = c.loop-entry.invariant in
    let order : done ++ x ∷ c.next.new.self ≡ c.args.run.now.entries = ap (λ (l : List Entry). done ++ l) (sym c.in-Some.ensures.steps) ∙ was.order in
    let at : c.loop-entry.place ≡ length (reverse done) = was.place ∙ sym (length-reverse done) in
    let taking : Taking c.loop-entry.calls c.loop-entry.place x c.take.result c.take.new.self t =
    subst (Taking c.loop-entry.calls c.loop-entry.place x c.take.result c.take.new.self) c.setup.ensures c.take.ensures in
    let taken = taking (reverse done) (accepted_until t c.args.run.now.entries done (x ∷ c.next.new.self) c.invariant.ensures.accepted order) at was.calls in
    let P : List Entry → Type 0 = λ p. AreCalls t c.take.new.self p in
    let Q : List Entry → Type 0 = λ p. g.A.Audit.represents c.args.audit.now c.take-in-loop-entry.new.self p in
    record {
      place = (let long = length-append done (x ∷ []) in let place = was.place in omega arith);
      order = append_assoc done (x ∷ []) c.next.new.self ∙ order;
      calls = subst P (sym (past_after done x)) taken.after;
      represents = subst Q (sym (past_after done x))
          (c.take-in-loop-entry.ensures c.args.audit.now (reverse done) at
          (c.op_of-op.ensures ∙ ap (λ o. option_map_or (λ (k : PendingCall). k.op) o Go) taken.call ∙ opened_is t x.act (reverse done) (under_way x.worker (reverse done))) was.represents);
    }
