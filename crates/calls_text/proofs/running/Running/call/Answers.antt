use Rattle.std.proofs.Common.{◌∙◌, ap, sym, subst, ◌++◌, ◌∷◌, []}
use Rattle.std.specs.Global.{Vec}
use Rattle.calls_core.specs.declared.history.PendingCall.{PendingCall}
use Rattle.calls_core.specs.Histories.{invoked_by}
use Rattle.calls_text.specs.declared.tally.Tally.{Tally}
use Rattle.calls_text.specs.Recordings.{RecordingModel}
use Rattle.calls_text.specs.kept.Judging.{TallyAfter}
use Rattle.calls_text.specs.kept.Runs.{IsPlaced}
use Rattle.calls_text.proofs.Fitting.{fits_placed}
use Rattle.calls_text.proofs.Coming.{call_made, still_not_spent}
use Rattle.calls_text.proofs.running.Running.call.Goals as goal

pub index_of-index-requires : goal.index_of-index-requires
index_of-index-requires c =
    subst (λ (r : RecordingModel). IsPlaced r.heading c.args.object.now) (sym c.in_ok-n.ensures.after)
    (fits_placed c.args.self.now.recording.heading c.args.verb c.args.object.now c.requires.fits)

pub count-requires : goal.count-requires
count-requires c =
    still_not_spent c.args.self.now c.event.new.self c.number_in.new.recording c.args.worker
    c.args.verb c.args.object.now _ _ c.in_ok-n.ensures.after c.in_ok-event.ensures.recording
    c.in_ok-event.ensures.tally c.requires.none

pub returns : goal.returns
returns c =
    let index = c.index_of-index.result in
    let op = c.op_of_word-op.result in
    let began : PendingCall = invoked_by c.in_ok-event.event index op in
    call_made c.args.self.now c.args.worker c.args.verb c.args.object.now _
    c.number_in.new.recording c.count.new.self c.in_ok-n.n index op c.in_ok-event.event (record {
      mid_is = c.in_ok-n.ensures.after;
      number = c.in_ok-n.ensures.number;
      index = c.index_of-index.ensures;
      op_is = c.op_of_word-op.ensures;
      event = c.in_ok-event.ensures.at;
      recording = c.count.ensures.recording ∙ c.in_ok-event.ensures.recording;
      count = c.count.ensures.count ∙ c.in_ok-event.ensures.count;
      pending = ap (λ (v : Vec PendingCall). v.items) c.count.ensures.pending
          ∙ c.in_ok-push.ensures.items
          ∙ ap (λ (o : PendingCall). c.event.new.self.pending.items ++ o ∷ []) c.new.ensures
          ∙ ap (λ (v : Vec PendingCall). v.items ++ began ∷ []) c.in_ok-event.ensures.pending;
      tally = subst (λ (t : Tally). TallyAfter t c.count.new.self.tally.value c.args.worker c.args.verb
          c.args.object.now) c.in_ok-event.ensures.tally c.count.ensures.tally;
    }) c.requires.fits c.requires.none
