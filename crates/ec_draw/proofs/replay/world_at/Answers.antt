use Rattle.std.proofs.Common.{◌≡◌, ◌<◌, List, [], ◌∷◌, ◌++◌, reverse, length, length-append}
use Rattle.std.proofs.Common.{append_assoc, arith, ap, sym, subst, ◌∙◌}
use Rattle.ec_core.specs.declared.act.Entry.{Entry}
use Rattle.ec_core.specs.Acceptance.{IsAccepted}
use Rattle.ec_core.proofs.shared.Moments.{accepted_until}
use Rattle.ec_core.proofs.shared.Stepping.{past_after}
use Rattle.ec_draw.proofs.Stepping.{stands_step}
use Rattle.ec_draw.proofs.replay.world_at.Goals as goal

pub loop-entry-preserved : goal.loop-entry-preserved
loop-entry-preserved c =
    let t = c.args.run.now.setup in
    let done : List Entry = c.loop-entry.yielded in
    let x : Entry = c.in-Some.entry in
    let rest : List Entry = c.next.new.self in
    let was = c.loop-entry.invariant in
    let place = was.place in
    let few : length done < c.args.moment = omega arith in
    let long = length-append done (x ∷ []) in
    let order : done ++ x ∷ [] ++ rest ≡ c.args.run.now.entries = append_assoc done (x ∷ []) rest
    ∙ ap (λ (l : List Entry). done ++ l) (sym c.in-Some.ensures.steps) ∙ was.order in
    let stood = was.represents in
    let accepted : IsAccepted t (x ∷ reverse done) =
    subst (IsAccepted t) (past_after done x)
    (accepted_until t c.args.run.now.entries (done ++ x ∷ []) rest c.invariant.ensures.accepted
    order) in
    record {
      place = omega arith;
      few = omega arith;
      order = order;
      setup = c.step-reply.ensures.setup ∙ was.setup;
      represents = stands_step t c.loop-entry.world c.step-reply.new.self done x
          c.step-reply.result accepted was.setup (c.step-reply.ensures.answer done stood)
          (c.step-reply.ensures.after done stood);
    }
