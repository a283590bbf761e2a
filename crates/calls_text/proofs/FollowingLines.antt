-- A line that is followed, by the stage after it.
use Rattle.std.proofs.Common.{◌≡◌, ◌⊎◌, inl, inr, ℕ, true, false, cond, List, [], ◌∷◌, ◌++◌}
use Rattle.std.proofs.Common.{length, Option, Some, None, Result, Ok, Err, refl, ap, sym, ◌∙◌, subst, arith}
use Rattle.std.proofs.Common.{length-append, bytes_eq, codes}
use Rattle.ec_text.specs.Words.{words_of}
use Rattle.ec_heading.specs.HeadingModel.{HeadingModel}
use Rattle.ec_heading.specs.Heading.{is_no_line}
use Rattle.ec_heading.specs.Lists.{worker_in}
use Rattle.calls_core.specs.declared.history.Event.{Event}
use Rattle.calls_core.specs.declared.history.Action.{Action}
use Rattle.calls_core.specs.declared.history.PendingCall.{PendingCall}
use Rattle.calls_text.specs.declared.fault.FaultKind.{FaultKind}
use Rattle.calls_text.specs.declared.fault.FaultKind.TheVariants as kinds
use Rattle.calls_text.specs.declared.fault.LineFault.{LineFault}
use Rattle.calls_text.specs.declared.fault.LineFault.TheVariants as line_faults
use Rattle.calls_text.specs.declared.form.ReplyWord.{ReplyWord}
use Rattle.calls_text.specs.declared.object.Object.{Object}
use Rattle.calls_text.specs.declared.stage.Stage as held
use Rattle.calls_text.specs.declared.stage.Stage.TheVariants as holds
use Rattle.calls_text.specs.declared.verb.OpWord.{OpWord}
use Rattle.calls_text.specs.Forms.{Phrase, Calls, Returns, phrase_in}
use Rattle.calls_text.specs.Objects.{object_in}
use Rattle.calls_text.specs.Outcomes.{fault_at}
use Rattle.calls_text.specs.Recordings.{RecordingModel, AreKinds}
use Rattle.calls_text.specs.Reading.{Stage, Opening, Limiting, Declaring, Running, Ended, step, is_ended}
use Rattle.calls_text.specs.Reading.{Draft, limit_step, draft_step, is_run, event_step, map_running, map_draft}
use Rattle.calls_text.specs.Reading.{fault_or, call_fault, with_event, next_event, after_invocation, after_phrase}
use Rattle.calls_text.specs.Reading.{suit_fault, after_reply, after_response, is_bad_reply, pending_in}
use Rattle.calls_text.specs.Reading.{other_word, with_events, StepFails, recorded_of}
use Rattle.calls_text.specs.kept.Runs.{IsNextOf}
use Rattle.calls_text.specs.kept.Stages.{seen_with, IsFollowing, Adds, Follows}
use Rattle.calls_text.specs.Following.{IsEvent, IsRunLine, IsHeading, PassesIn, followed_in, IsFaulty}

-- AN EVENT IS ADDED

-- one event more, with the same header
pub record IsGrown (r q : RecordingModel) : Type 0 where
  pub heading : r.heading ≡ q.heading
  pub from : r.from ≡ q.from
  pub event : Event
  pub events : q.events ≡ r.events ++ event ∷ []

grown_event : (r : RecordingModel) (w : ℕ) (a : Action) (ls : List (List ℕ)) (q : RecordingModel)
    → with_event r w a ls ≡ q → IsGrown r q
grown_event r w a ls q is = subst (IsGrown r) is (record {
  heading = refl;
  from = refl;
  event = next_event r.events w a;
  events = refl;
})

ok_same : (x y : RecordingModel) → ◌≡◌ {A = Result RecordingModel FaultKind} (Ok x) (Ok y) → x ≡ y
ok_same x y is = cc

or_grown : (r : RecordingModel) (f : Option FaultKind) (w : ℕ) (a : Action) (ls : List (List ℕ)) (q : RecordingModel)
    → fault_or f (with_event r w a ls) ≡ Ok q → IsGrown r q
or_grown r None w a ls q is = grown_event r w a ls q (ok_same _ q is)
or_grown r (Some kind) w a ls q is = cc

called_grown : (r : RecordingModel) (w : Option ℕ) (v : OpWord) (o : Option Object) (ws : List (List ℕ))
    (q : RecordingModel) → after_invocation r w v o ws ≡ Ok q → IsGrown r q
called_grown r None v o ws q is = cc
called_grown r (Some w) v None ws q is = cc
called_grown r (Some w) v (Some o) ws q is = or_grown r (call_fault r w v o ws) w _ _ q is

answered_grown : (r : RecordingModel) (w : ℕ) (o : Option PendingCall) (a : ReplyWord) (ws : List (List ℕ))
    (q : RecordingModel) → after_reply r w o a ws ≡ Ok q → IsGrown r q
answered_grown r w None a ws q is = cc
answered_grown r w (Some o) a ws q is = or_grown r (suit_fault r.heading o a ws) w _ _ q is

returned_grown : (r : RecordingModel) (w : Option ℕ) (a : ReplyWord) (ws : List (List ℕ)) (q : RecordingModel)
    → after_response r w a ws ≡ Ok q → IsGrown r q
returned_grown r None a ws q is = cc
returned_grown r (Some w) a ws q is =
    elim (is_bad_reply a ws) as (λ b. cond b (Err kinds.BadNumber) (after_reply r w (pending_in r.events w) a ws)
    ≡ Ok q → IsGrown r q) [
      | true ↦ λ e. cc
      | false ↦ λ e. answered_grown r w (pending_in r.events w) a ws q e
    ] is

phrased_grown : (r : RecordingModel) (p : Option Phrase) (q : RecordingModel)
    → after_phrase r p ≡ Ok q → IsGrown r q
phrased_grown r None q is = cc
phrased_grown r (Some (Calls w v o ws)) q is =
    called_grown r (worker_in r.heading.words w) v (object_in r.heading v o (other_word v ws)) ws q is
phrased_grown r (Some (Returns w a ws)) q is =
    returned_grown r (worker_in r.heading.words w) a ws q is

pub event_grown : (r : RecordingModel) (line : List ℕ) (q : RecordingModel) → event_step r line ≡ Ok q → IsGrown r q
unfolding event_step
event_grown r line q is =
    elim (is_no_line line) as (λ b. cond b (Err kinds.BadLine) (after_phrase r (phrase_in (words_of line)))
    ≡ Ok q → IsGrown r q) [
      | true ↦ λ e. cc
      | false ↦ λ e. phrased_grown r (phrase_in (words_of line)) q e
    ] is

-- WHAT LED TO A STAGE

ran_from : (r : RecordingModel) (x : Result RecordingModel FaultKind) (q : RecordingModel)
    → map_running x ≡ Ok (Running q)
    → x ≡ Ok q
ran_from r (Ok t) q is = cc
ran_from r (Err kind) q is = cc

no_draft : {P : Type 0} (x : Result Draft FaultKind) (q : RecordingModel)
    → map_draft x ≡ Ok (Running q)
    → P
no_draft (Ok d) q is = absurd (let never : ⊥ = cc in never)
no_draft (Err kind) q is = absurd (let never : ⊥ = cc in never)

-- after `run` there are no events; later the stage before had one event fewer
abbrev pub IsFrom : Stage → RecordingModel → Type 0
IsFrom s q = (q.events ≡ []) ⊎ ((r : RecordingModel) × (s ≡ Running r) × IsGrown r q)

step_from : (s : Stage) (line : List ℕ) (q : RecordingModel) → step s line ≡ Ok (Running q)
    → IsFrom s q
unfolding step
step_from Opening line q is =
    elim (bytes_eq line (codes "evc-calls 1")) as (λ b. cond b (Ok Limiting) (Err kinds.BadHeader)
    ≡ Ok (Running q) → IsFrom Opening q) [ true ↦ λ e. cc | false ↦ λ e. cc ] is
step_from Limiting line q is = no_draft (limit_step line) q is
step_from (Declaring d) line q is =
    elim (is_run d line) as (λ b. cond b (Ok (Running (recorded_of d))) (map_draft (draft_step d line))
    ≡ Ok (Running q) → IsFrom (Declaring d) q) [
      | true ↦ λ e.
          inl (let same : recorded_of d ≡ q =
          cc in sym (ap (λ (r : RecordingModel). r.events) same))
      | false ↦ λ e. no_draft (draft_step d line) q e
    ] is
step_from (Running r) line q is =
    elim (bytes_eq line (codes "end")) as (λ b. cond b (Ok (Ended r)) (map_running (event_step r line))
    ≡ Ok (Running q) → IsFrom (Running r) q) [
      | true ↦ λ e. cc
      | false ↦ λ e. inr (r, refl, event_grown r line q (ran_from r (event_step r line) q e))
    ] is
step_from (Ended r) line q is = cc

no_end : {P : Type 0} (x : Result Draft FaultKind) (q : RecordingModel) → map_draft x ≡ Ok (Ended q)
    → P
no_end (Ok d) q is = absurd (let never : ⊥ = cc in never)
no_end (Err kind) q is = absurd (let never : ⊥ = cc in never)

ran_no_end : {P : Type 0} (x : Result RecordingModel FaultKind) (q : RecordingModel)
    → map_running x ≡ Ok (Ended q) → P
ran_no_end (Ok d) q is = absurd (let never : ⊥ = cc in never)
ran_no_end (Err kind) q is = absurd (let never : ⊥ = cc in never)

step_ends : (s : Stage) (line : List ℕ) (q : RecordingModel) → step s line ≡ Ok (Ended q)
    → s ≡ Running q
unfolding step
step_ends Opening line q is =
    elim (bytes_eq line (codes "evc-calls 1")) as (λ b. cond b (Ok Limiting) (Err kinds.BadHeader)
    ≡ Ok (Ended q) → Opening ≡ Running q) [ true ↦ λ e. cc | false ↦ λ e. cc ] is
step_ends Limiting line q is = no_end (limit_step line) q is
step_ends (Declaring d) line q is =
    elim (is_run d line) as (λ b. cond b (Ok (Running (recorded_of d))) (map_draft (draft_step d line))
    ≡ Ok (Ended q) → Declaring d ≡ Running q) [
      | true ↦ λ e. cc
      | false ↦ λ e. no_end (draft_step d line) q e
    ] is
step_ends (Running r) line q is =
    elim (bytes_eq line (codes "end")) as (λ b. cond b (Ok (Ended r)) (map_running (event_step r line))
    ≡ Ok (Ended q) → Running r ≡ Running q) [
      | true ↦ λ e. (cc)
      | false ↦ λ e. ran_no_end (event_step r line) q e
    ] is
step_ends (Ended r) line q is = cc

-- THE STAGES AS THE CODE REPRESENTS THEM

seen_events : (events : List Event) (s : held.Stage) (r : RecordingModel)
    → seen_with events s ≡ Running r → r.events ≡ events
seen_events events holds.Opening r is = cc
seen_events events holds.Limiting r is = cc
seen_events events (holds.Declaring d) r is = cc
seen_events events (holds.Running t) r is =
    let same : with_events t.recording events ≡ r = cc in
    sym (ap (λ (q : RecordingModel). q.events) same)
seen_events events (holds.Ended t) r is = cc

not_shorter : (xs : List Event) (x : Event) → xs ++ x ∷ [] ≡ xs → ⊥
not_shorter xs x is = omega (arith, ap length is, length-append xs (x ∷ []))

none_is_more : (xs : List Event) (x : Event) → xs ++ x ∷ [] ≡ [] → ⊥
none_is_more xs x is = omega (arith, ap length is, length-append xs (x ∷ []))

-- the line is an event
by_grown : (line : List ℕ) (events : List Event) (x : Event) (old : held.Stage)
    (rn : RecordingModel) (r : RecordingModel) → seen_with events old ≡ Running r
    → IsGrown r (with_events rn (events ++ x ∷ []))
    → step (seen_with events old) line ≡ Ok (Running (with_events rn (events ++ x ∷ [])))
    → IsNextOf (with_events rn events) x
    → (new : held.Stage) → seen_with (events ++ x ∷ []) new ≡ Running (with_events rn (events ++ x ∷ []))
    → IsFollowing (events ++ x ∷ []) new → IsEvent line events x old new
by_grown line events x old rn r was grown steps next new is seen = record {
  before = r;
  after = with_events rn (events ++ x ∷ []);
  was = was;
  steps = steps;
  is = is;
  heading = grown.heading;
  from = grown.from;
  events_were = seen_events events old r was;
  events_are = refl;
  at = next.0;
  next = λ ks are. next.1 ks (subst (λ (h : HeadingModel). AreKinds h rn.from ks) grown.heading
      (subst (λ (f : List (ℕ × ℕ)). AreKinds r.heading f ks) grown.from are));
  seen = seen;
}

from_event : (line : List ℕ) (events : List Event) (x : Event) (old : held.Stage) (rn : RecordingModel)
    → IsFrom (seen_with events old) (with_events rn (events ++ x ∷ []))
    → step (seen_with events old) line ≡ Ok (Running (with_events rn (events ++ x ∷ [])))
    → IsNextOf (with_events rn events) x
    → (new : held.Stage) → seen_with (events ++ x ∷ []) new ≡ Running (with_events rn (events ++ x ∷ []))
    → IsFollowing (events ++ x ∷ []) new → IsEvent line events x old new
from_event line events x old rn (inl none) steps next new is seen =
    absurd (none_is_more events x none)
from_event line events x old rn (inr (r, was, grown)) steps next new is seen =
    by_grown line events x old rn r was grown steps next new is seen

pub passes_event : (line : List ℕ) (events : List Event) (x : Event) (old new : held.Stage)
    → Adds x (step (seen_with events old) line) events new → IsEvent line events x old new
passes_event line events x old holds.Opening adds = absurd adds
passes_event line events x old holds.Limiting adds = absurd adds
passes_event line events x old (holds.Declaring d) adds = absurd adds
passes_event line events x old (holds.Running r) adds =
    from_event line events x old r.recording
    (step_from (seen_with events old) line (with_events r.recording (events ++ x ∷ [])) adds.0)
    adds.0 adds.1 (holds.Running r) refl adds.2
passes_event line events x old (holds.Ended r) adds = absurd adds

-- the line is no event
abbrev pub NoEvent : List ℕ → List Event → held.Stage → held.Stage → Type 0
NoEvent line events old new =
    (step (seen_with events old) line ≡ Ok (seen_with events new)) × IsFollowing events new

heading_at : (line : List ℕ) (events : List Event) (old new : held.Stage) → NoEvent line events old new
    → events ≡ [] → ((r : RecordingModel) → seen_with [] new ≡ Running r → ⊥)
    → is_ended (seen_with [] new) ≡ false → IsHeading line events old new
heading_at line events old new is none no_run going = record {
  none = none;
  steps = subst (λ (es : List Event). step (seen_with events old) line ≡ Ok (seen_with es new)) none is.0;
  no_run = no_run;
  going = going;
  seen = subst (λ (es : List Event). IsFollowing es new) none is.1;
}

run_at : (line : List ℕ) (events : List Event) (old new : held.Stage) (rn : RecordingModel)
    → seen_with events new ≡ Running (with_events rn events) → NoEvent line events old new
    → IsFrom (seen_with events old) (with_events rn events) → IsRunLine line events old new
run_at line events old new rn shown is (inl none) = record {
  begun = with_events rn events;
  none = none;
  steps = is.0 ∙ ap Ok shown;
  is = subst (λ (es : List Event). seen_with es new ≡ Running (with_events rn events)) none shown;
  none_recorded = none;
  seen = subst (λ (es : List Event). IsFollowing es new) none is.1;
}
run_at line events old new rn shown is (inr (r, was, grown)) =
    let same : r.events ≡ events = seen_events events old r was in
    absurd (not_shorter events grown.event
    (ap (λ (es : List Event). es ++ grown.event ∷ []) (sym same) ∙ sym grown.events))

pub passes_none : (line : List ℕ) (events : List Event) (old new : held.Stage)
    → NoEvent line events old new → PassesIn (followed_in new) line events old new
unfolding is_ended
passes_none line events old holds.Opening is =
    heading_at line events old holds.Opening is is.1 (λ r e. (cc)) refl
passes_none line events old holds.Limiting is =
    heading_at line events old holds.Limiting is is.1 (λ r e. (cc)) refl
passes_none line events old (holds.Declaring d) is =
    heading_at line events old (holds.Declaring d) is is.1 (λ r e. (cc)) refl
passes_none line events old (holds.Running r) is =
    run_at line events old (holds.Running r) r.recording refl is
    (step_from (seen_with events old) line (with_events r.recording events) is.0)
passes_none line events old (holds.Ended r) is = record {
  whole = with_events r events;
  was = step_ends (seen_with events old) line (with_events r events) is.0;
  events_are = refl;
  steps = is.0;
}

pub passes_fault : (n : ℕ) (line : List ℕ) (s : Stage) (fault : LineFault)
    → StepFails fault (step s line) → IsFaulty (fault_at n line fault) n line s
passes_fault n line s line_faults.Memory fails = tt
passes_fault n line s (line_faults.Of kind) fails = (refl, fails, refl)

-- an accepted line
pub took : (o : Option Event) (stepped : Result Stage FaultKind) (events : List Event) (new : held.Stage)
    → Follows (Ok o) stepped events new → (t : Stage) × (stepped ≡ Ok t)
took None stepped events new is = (seen_with events new, is.0)
took (Some x) stepped events holds.Opening is = absurd is
took (Some x) stepped events holds.Limiting is = absurd is
took (Some x) stepped events (holds.Declaring d) is = absurd is
took (Some x) stepped events (holds.Running r) is =
    (Running (with_events r.recording (events ++ x ∷ [])), is.0)
took (Some x) stepped events (holds.Ended r) is = absurd is
