-- An event, judged by the pending calls and the tally of advances, without the events before it.
use Rattle.std.specs.Prelude.{◌≡◌, ℕ, ◌+◌, ◌<◌, Bool, false, nat_le, List, Option, Some, None, is_some}
use Rattle.std.specs.Prelude.{Result, Ok, Err, if◌then◌else◌}
use Rattle.ec_heading.specs.Lists.{worker_in}
use Rattle.calls_core.specs.declared.history.Kind as sorts
use Rattle.calls_core.specs.declared.history.Action.{Action}
use Rattle.calls_core.specs.declared.history.Action.TheVariants.{Invoke, Respond}
use Rattle.calls_core.specs.declared.history.Event.{Event}
use Rattle.calls_core.specs.declared.history.PendingCall.{PendingCall}
use Rattle.calls_core.specs.Histories.{pending_of, pending_after, IsNext}
use Rattle.calls_text.specs.declared.fault.FaultKind.{FaultKind}
use Rattle.calls_text.specs.declared.fault.FaultKind.TheVariants as kinds
use Rattle.calls_text.specs.declared.fault.LineFault.{LineFault}
use Rattle.calls_text.specs.declared.form.ReplyWord.{ReplyWord}
use Rattle.calls_text.specs.declared.object.Object.{Object}
use Rattle.calls_text.specs.declared.object.Object.TheVariants as objects
use Rattle.calls_text.specs.declared.running.Running.{Running}
use Rattle.calls_text.specs.declared.tally.Tally.{Tally}
use Rattle.calls_text.specs.declared.verb.OpWord.{OpWord}
use Rattle.calls_text.specs.declared.verb.OpWord.TheVariants as verbs
use Rattle.calls_text.specs.Forms.{Phrase, Calls, Returns}
use Rattle.calls_text.specs.Objects.{object_in}
use Rattle.calls_text.specs.Recordings.{AreKinds}
use Rattle.calls_text.specs.Tallies.{tally_at, is_advance_by, IsCountedFurther}
use Rattle.calls_text.specs.Reading.{call_fault_by, fault_or, index_of, op_of_word, number_in, lists_of}
use Rattle.calls_text.specs.Reading.{suit_fault, reply_of_word, lists_with, is_bad_reply, other_word}
use Rattle.calls_text.specs.Reading.{StepFails}
use Rattle.calls_text.specs.kept.Phrases.{phrase_of}

abbrev pub pending_by : Running → ℕ → Option PendingCall
pending_by r w = pending_of w r.pending.items

-- whether the worker has called as many advances of the eventcount as the limit allows
abbrev pub spent_at : ℕ → Tally → ℕ → OpWord → Object → Bool
spent_at limit t w verbs.Advance (objects.Event e) = nat_le limit (tally_at t w e)
spent_at limit t w _ _ = false

abbrev pub spent_by : Running → ℕ → OpWord → Object → Bool
spent_by r w v o = spent_at r.recording.heading.setup.limit r.tally.value w v o

-- the worker and the action of an event, and the lists after it
pub record NextEvent : Type 0 where
  pub worker : ℕ
  pub action : Action
  pub lists : List (List ℕ)

abbrev pub invocation : Running → ℕ → OpWord → Object → List (List ℕ) → NextEvent
invocation r w v o ws = record {
  worker = w;
  action = Invoke (index_of r.recording.heading o) (op_of_word v o (number_in r.recording.lists v ws));
  lists = lists_of r.recording.lists v ws;
}

abbrev pub fault_by : Running → ℕ → OpWord → Object → List (List ℕ) → Option FaultKind
fault_by r w v o ws =
    call_fault_by r.recording.heading w v o ws (is_some (pending_by r w)) (spent_by r w v o)

abbrev pub invocation_result : Running → Option ℕ → OpWord → Option Object → List (List ℕ)
    → Result NextEvent FaultKind
invocation_result r (Some w) v (Some o) ws = fault_or (fault_by r w v o ws) (invocation r w v o ws)
invocation_result r _ v _ ws = Err kinds.UnknownName

abbrev pub response : Running → ℕ → PendingCall → ReplyWord → List (List ℕ) → NextEvent
response r w o a ws = record {
  worker = w;
  action = Respond (reply_of_word r.recording o a ws);
  lists = lists_with r.recording o a ws;
}

abbrev pub reply_result : Running → ℕ → Option PendingCall → ReplyWord → List (List ℕ)
    → Result NextEvent FaultKind
reply_result r w None a ws = Err kinds.Idle
reply_result r w (Some o) a ws =
    fault_or (suit_fault r.recording.heading o a ws) (response r w o a ws)

abbrev pub response_result : Running → Option ℕ → ReplyWord → List (List ℕ)
    → Result NextEvent FaultKind
response_result r None a ws = Err kinds.UnknownName
response_result r (Some w) a ws =
    if is_bad_reply a ws then Err kinds.BadNumber else reply_result r w (pending_by r w) a ws

abbrev pub phrase_result : Running → Option Phrase → Result NextEvent FaultKind
phrase_result r None = Err kinds.BadLine
phrase_result r (Some (Calls w v o ws)) =
    invocation_result r (worker_in r.recording.heading.words w) v
    (object_in r.recording.heading v o (other_word v ws)) ws
phrase_result r (Some (Returns w a ws)) =
    response_result r (worker_in r.recording.heading.words w) a ws

abbrev pub event_by : Running → List ℕ → Result NextEvent FaultKind
event_by r line = phrase_result r (phrase_of line)

-- THE STATE AFTER AN EVENT

-- one more if the event is an advance
abbrev pub IsTallied : Tally → Tally → Event → Type 0
IsTallied old new x =
    (w e : ℕ) → w < 16 → e < 32
    → tally_at new w e ≡ (if is_advance_by w e x then tally_at old w e + 1 else tally_at old w e)

-- one more if this is an advance of an eventcount
abbrev pub TallyAfter : Tally → Tally → ℕ → OpWord → Object → Type 0
TallyAfter old new w verbs.Advance (objects.Event e) = IsCountedFurther old new w e
TallyAfter old new w _ _ = new ≡ old

-- this may be the next event
abbrev pub MayComeBy : Running → Event → Type 0
MayComeBy r x =
    (ks : List sorts.Kind) → AreKinds r.recording.heading r.recording.from ks
    → IsNext ks x.action (pending_by r x.worker)

-- the state after the event, which is not stored
pub record StateAfterEvent (old new : Running) (x : Event) : Type 0 where
  pub at : x.at ≡ old.count
  pub count : new.count ≡ old.count + 1
  pub pending : new.pending.items ≡ pending_after x x.action old.pending.items
  pub tally : IsTallied old.tally.value new.tally.value x
  pub recording : new.recording ≡ record old.recording { lists = new.recording.lists }
  pub next : MayComeBy old x

-- what was returned for a line, or for a part of it
abbrev pub Answers : Running → Running → Result Event LineFault → Result NextEvent FaultKind
    → Type 0
Answers old new (Ok x) happened =
    (happened ≡ Ok (record {
      worker = x.worker;
      action = x.action;
      lists = new.recording.lists;
    })) × StateAfterEvent old new x
Answers old new (Err fault) happened = StepFails fault happened
