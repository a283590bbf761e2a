-- Judging an event by the pending calls and the tally agrees with judging it by all events so far.
use Rattle.std.proofs.Common.{◌≡◌, ◌<◌, ◌≤◌, ◌==◌, ℕ, zero, suc, ◌+◌, Bool, true, false, not, cond}
use Rattle.std.proofs.Common.{List, [], ◌∷◌, ◌++◌, length, reverse, Option, Some, None, Result, Ok, Err}
use Rattle.std.proofs.Common.{slice_get, refl, ap, sym, ◌∙◌, subst, arith, length-append}
use Rattle.std.specs.Prelude.{is_some, nat_le, count_by, bytes_eq, codes}
use Rattle.std.specs.List.{All, position_from}
use Rattle.std.specs.Option.{option_map_or}
use Rattle.std.proofs.lemmas.Bool.{eqb-true}
use Rattle.std.proofs.lemmas.List.{reverse-append}
use Rattle.calls_core.proofs.Counting.{count_append, count_cons}
use Rattle.ec_count.specs.Tables.{IsDeclared, first_that}
use Rattle.ec_count.specs.Members.{AreTwoLists, index_of}
use Rattle.ec_count.specs.declared.setup.Rights.{Rights}
use Rattle.ec_text.specs.Words.{words_of}
use Rattle.ec_heading.specs.Heading.{is_no_line}
use Rattle.ec_heading.specs.Lists.{worker_in}
use Rattle.calls_core.specs.declared.history.Event.{Event}
use Rattle.calls_core.specs.declared.history.PendingCall.{PendingCall}
use Rattle.calls_core.specs.Histories.{pending_of, pending_after, pending_calls, IsNext}
use Rattle.calls_text.specs.declared.fault.FaultKind.{FaultKind}
use Rattle.calls_text.specs.declared.fault.FaultKind.TheVariants as faults
use Rattle.calls_text.specs.declared.form.ReplyWord.{ReplyWord}
use Rattle.calls_text.specs.declared.form.ReplyWord.TheVariants as answers
use Rattle.calls_text.specs.declared.object.Object.{Object}
use Rattle.calls_text.specs.declared.object.Object.TheVariants as objects
use Rattle.calls_text.specs.declared.running.Running.{Running}
use Rattle.calls_text.specs.declared.tally.Tally.{Tally}
use Rattle.calls_text.specs.declared.verb.OpWord.{OpWord}
use Rattle.calls_text.specs.declared.verb.OpWord.TheVariants as verbs
use Rattle.calls_text.specs.Forms.{Phrase, Calls, Returns, phrase_in}
use Rattle.calls_text.specs.Objects.{object_in, has_right, is_owned}
use Rattle.calls_text.specs.Recordings.{RecordingModel, AreKinds}
use Rattle.calls_text.specs.Tallies.{IsTallyOf, tally_at, advances_by, is_advance_by}
use Rattle.calls_text.specs.Verbs.{is_update, tail_of}
use Rattle.calls_text.specs.Reading.{call_fault_by, call_fault, is_spent, pending_in, is_bad_tail}
use Rattle.calls_text.specs.Reading.{has_two_roles, fault_or, with_call, with_event, with_events}
use Rattle.calls_text.specs.Reading.{after_invocation, after_reply, after_response, after_phrase, event_step, next_event}
use Rattle.calls_text.specs.Reading.{is_bad_reply, other_word, suit_fault, with_reply}
use Rattle.calls_text.specs.kept.Judging.{pending_by, spent_by, fault_by, NextEvent, invocation}
use Rattle.calls_text.specs.kept.Judging.{invocation_result, response, reply_result, response_result, phrase_result}
use Rattle.calls_text.specs.kept.Judging.{event_by, IsTallied, StateAfterEvent, Answers}
use Rattle.calls_text.specs.kept.Runs.{IsRunning, IsNextOf}
use Rattle.calls_text.specs.declared.fault.LineFault.{LineFault}
use Rattle.calls_text.specs.declared.fault.LineFault.TheVariants as lines
use Rattle.calls_text.specs.declared.stage.Stage as held
use Rattle.calls_text.specs.declared.stage.Stage.TheVariants as holds
use Rattle.calls_text.specs.Reading as reading
use Rattle.calls_text.specs.Reading.{Stage, StepFails, step, map_running}
use Rattle.calls_text.specs.kept.Stages.{stage_with_all, IsSound, kept_events, IsNextIn, Keeps, seen_with}
use Rattle.calls_text.specs.kept.Stages.{IsFollowing, Adds}
use Rattle.calls_text.proofs.Coming.{signs}

-- WHO MAY ADVANCE

member_below : (n w i : ℕ) (ws : List ℕ) → All (λ v. v < n) ws
    → is_some (position_from (λ v. v == w) i ws) ≡ true → w < n
member_below n w i [] all is = cc
member_below n w i (v ∷ vs) all is =
    elim (v == w) as (λ b. (v == w) ≡ b
    → is_some (cond b (Some i) (position_from (λ u. u == w) (i + 1) vs)) ≡ true → w < n) [
      | true ↦ λ e found. subst (λ u. u < n) (eqb-true v w e) (all 0 v (omega arith))
      | false ↦ λ e found. member_below n w (i + 1) vs (λ k d lt. all (suc k) d (omega arith)) found
    ] refl is

signer_below : (n w : ℕ) (rows : List Rights) (e : ℕ)
    → All (λ (r : Rights). AreTwoLists n r.signal r.observe) rows
    → is_some (index_of w (option_map_or (λ (r : Rights). r.signal) (slice_get rows e) [])) ≡ true
    → w < n
signer_below n w [] e all is = cc
signer_below n w (x ∷ xs) zero all is =
    member_below n w 0 x.signal (all 0 x (omega arith)).0.declared is
signer_below n w (x ∷ xs) (suc e) all is =
    signer_below n w xs e (λ k d lt. all (suc k) d (omega arith)) is

-- FAULTS

spent_agrees : (events : List Event) (run : Running) (w : ℕ) (v : OpWord) (o : Object)
    → IsRunning events run → has_right run.recording.heading.setup w (is_update v) o ≡ true
    → is_spent (with_events run.recording events) w v o ≡ spent_by run w v o
spent_agrees events run w verbs.Advance (objects.Event e) is right =
    let setup = run.recording.heading.setup in
    let worker : w < setup.workers =
    signer_below setup.workers w setup.events e is.declared.rights right in
    let event : e < length setup.events = signs w setup.events e right in
    let few : setup.workers ≤ 16 = is.declared.few_workers in
    let some : length setup.events ≤ 32 = is.declared.few in
    ap (nat_le setup.limit) (sym (is.counted w e (omega arith) (omega arith)))
spent_agrees events run w verbs.Advance (objects.Sequencer q) is right = refl
spent_agrees events run w verbs.Advance (objects.Cell x) is right = refl
spent_agrees events run w verbs.Advance (objects.Semaphore i s) is right = refl
spent_agrees events run w verbs.Advance (objects.Pair i s j t u) is right = refl
spent_agrees events run w verbs.Advance (objects.Database i d) is right = refl
spent_agrees events run w verbs.Advance (objects.Buffer i b) is right = refl
spent_agrees events run w verbs.Read o is right = refl
spent_agrees events run w verbs.Await o is right = refl
spent_agrees events run w verbs.Ticket o is right = refl
spent_agrees events run w verbs.Put o is right = refl
spent_agrees events run w verbs.Get o is right = refl
spent_agrees events run w verbs.P o is right = refl
spent_agrees events run w verbs.V o is right = refl
spent_agrees events run w verbs.PBoth o is right = refl
spent_agrees events run w verbs.Write o is right = refl
spent_agrees events run w verbs.Snapshot o is right = refl
spent_agrees events run w verbs.Produce o is right = refl
spent_agrees events run w verbs.Consume o is right = refl

-- a worker that lacks the right gets `NoRight`, whether it may call more or not
by_right : (a b c d busy s t : Bool) → (d ≡ true → s ≡ t) → first_that (
    (a, faults.BadNumber) ∷ (b, faults.Hidden) ∷ (c, faults.TwoRoles) ∷ (not d, faults.NoRight)
    ∷ (busy, faults.Busy) ∷ (s, faults.AtLimit) ∷ [])
    ≡ first_that (
    (a, faults.BadNumber) ∷ (b, faults.Hidden) ∷ (c, faults.TwoRoles) ∷ (not d, faults.NoRight)
    ∷ (busy, faults.Busy) ∷ (t, faults.AtLimit) ∷ [])
by_right a b c true busy s t same =
    ap (λ (x : Bool). first_that (
    (a, faults.BadNumber) ∷ (b, faults.Hidden) ∷ (c, faults.TwoRoles) ∷ (false, faults.NoRight)
    ∷ (busy, faults.Busy) ∷ (x, faults.AtLimit) ∷ [])) (same refl)
by_right a b c false busy s t same = refl

fault_agrees : (events : List Event) (run : Running) (w : ℕ) (v : OpWord) (o : Object)
    (ws : List (List ℕ)) → IsRunning events run
    → call_fault (with_events run.recording events) w v o ws ≡ fault_by run w v o ws
fault_agrees events run w v o ws is =
    let h = run.recording.heading in
    let spent : Bool = is_spent (with_events run.recording events) w v o in
    ap (λ (os : List PendingCall). call_fault_by h w v o ws (is_some (pending_of w os)) spent)
    (sym is.pending)
    ∙ by_right (is_bad_tail (tail_of v) ws o) (is_owned h.groups o) (has_two_roles o)
    (has_right h.setup w (is_update v) o) (is_some (pending_by run w)) spent (spent_by run w v o)
    (spent_agrees events run w v o is)

-- EVENTS

-- the history with the next event
abbrev pub lifted : RecordingModel → Result NextEvent FaultKind → Result RecordingModel FaultKind
lifted r (Ok x) = Ok (with_event r x.worker x.action x.lists)
lifted r (Err kind) = Err kind

on_fault : (r : RecordingModel) (f : Option FaultKind) (x : NextEvent)
    → fault_or f (with_event r x.worker x.action x.lists) ≡ lifted r (fault_or f x)
on_fault r None x = refl
on_fault r (Some kind) x = refl

called_agrees : (events : List Event) (run : Running) (w : Option ℕ) (v : OpWord) (o : Option Object)
    (ws : List (List ℕ)) → IsRunning events run
    → after_invocation (with_events run.recording events) w v o ws
    ≡ lifted (with_events run.recording events) (invocation_result run w v o ws)
called_agrees events run None v o ws is = refl
called_agrees events run (Some w) v None ws is = refl
called_agrees events run (Some w) v (Some o) ws is =
    let r : RecordingModel = with_events run.recording events in
    ap (λ (f : Option FaultKind). fault_or f (with_call r w v o ws)) (fault_agrees events run w v o ws is)
    ∙ on_fault r (fault_by run w v o ws) (invocation run w v o ws)

reply_agrees : (events : List Event) (run : Running) (w : ℕ) (o : PendingCall) (a : ReplyWord)
    (ws : List (List ℕ)) → fault_or (suit_fault run.recording.heading o a ws)
    (with_reply (with_events run.recording events) w o a ws)
    ≡ lifted (with_events run.recording events) (fault_or (suit_fault run.recording.heading o a ws)
    (response run w o a ws))
reply_agrees events run w o answers.Done ws =
    on_fault (with_events run.recording events) _ (response run w o answers.Done ws)
reply_agrees events run w o answers.Timeout ws =
    on_fault (with_events run.recording events) _ (response run w o answers.Timeout ws)
reply_agrees events run w o answers.Numbers ws =
    on_fault (with_events run.recording events) _ (response run w o answers.Numbers ws)

answer_agrees : (events : List Event) (run : Running) (w : ℕ) (p : Option PendingCall) (a : ReplyWord)
    (ws : List (List ℕ)) → after_reply (with_events run.recording events) w p a ws
    ≡ lifted (with_events run.recording events) (reply_result run w p a ws)
answer_agrees events run w None a ws = refl
answer_agrees events run w (Some o) a ws = reply_agrees events run w o a ws

returned_agrees : (events : List Event) (run : Running) (w : Option ℕ) (a : ReplyWord)
    (ws : List (List ℕ)) → IsRunning events run
    → after_response (with_events run.recording events) w a ws
    ≡ lifted (with_events run.recording events) (response_result run w a ws)
returned_agrees events run None a ws is = refl
returned_agrees events run (Some w) a ws is =
    let r : RecordingModel = with_events run.recording events in
    elim (is_bad_reply a ws) as (λ b. cond b (Err faults.BadNumber)
    (after_reply r w (pending_in events w) a ws)
    ≡ lifted r (cond b (Err faults.BadNumber) (reply_result run w (pending_by run w) a ws))) [
      | true ↦ refl
      | false ↦ ap (λ (os : List PendingCall). after_reply r w (pending_of w os) a ws) (sym is.pending)
          ∙ answer_agrees events run w (pending_by run w) a ws
    ]

phrase_agrees : (events : List Event) (run : Running) (p : Option Phrase) → IsRunning events run
    → after_phrase (with_events run.recording events) p
    ≡ lifted (with_events run.recording events) (phrase_result run p)
phrase_agrees events run None is = refl
phrase_agrees events run (Some (Calls w v o ws)) is =
    called_agrees events run (worker_in run.recording.heading.words w) v
    (object_in run.recording.heading v o (other_word v ws)) ws is
phrase_agrees events run (Some (Returns w a ws)) is =
    returned_agrees events run (worker_in run.recording.heading.words w) a ws is

pub event_agrees : (events : List Event) (run : Running) (line : List ℕ) → IsRunning events run
    → event_step (with_events run.recording events) line
    ≡ lifted (with_events run.recording events) (event_by run line)
unfolding event_step
event_agrees events run line is =
    let r : RecordingModel = with_events run.recording events in
    elim (is_no_line line) as (λ b. cond b (Err faults.BadLine) (after_phrase r (phrase_in (words_of line)))
    ≡ lifted r (phrase_result run (cond b None (phrase_in (words_of line))))) [
      | true ↦ refl
      | false ↦ phrase_agrees events run (phrase_in (words_of line)) is
    ]

-- THE STATE AFTER AN EVENT

pending_then : (events : List Event) (x : Event) → pending_calls (reverse (events ++ x ∷ []))
    ≡ pending_after x x.action (pending_calls (reverse events))
pending_then events x = ap pending_calls (reverse-append events (x ∷ []))

either_way : (b : Bool) (m n : ℕ) → m ≡ n → cond b (m + 1) m ≡ n + cond b 1 0
either_way true m n is = omega (arith, is)
either_way false m n is = omega (arith, is)

count_one : (p : Event → Bool) (x : Event) → count_by p (x ∷ []) ≡ cond (p x) 1 0
count_one p x = omega (arith, count_cons p x [])

counted_then : (events : List Event) (old new : Tally) (x : Event) → IsTallyOf old events
    → IsTallied old new x → IsTallyOf new (events ++ x ∷ [])
counted_then events old new x is then = λ w e few some.
    then w e few some
    ∙ either_way (is_advance_by w e x) (tally_at old w e) (advances_by w e events) (is w e few some)
    ∙ ap (λ k. advances_by w e events + k) (sym (count_one (is_advance_by w e) x))
    ∙ sym (count_append (is_advance_by w e) events (x ∷ []))

-- the event is the next of these
pub record IsAdded (events : List Event) (new : Running) (line : List ℕ) (x : Event) (r : RecordingModel)
    : Type 0 where
  pub stepped : event_step r line ≡ Ok (with_events new.recording (events ++ x ∷ []))
  pub next : IsNextOf (with_events new.recording events) x
  pub run : IsRunning (events ++ x ∷ []) new

pub event_added : (events : List Event) (old new : Running) (line : List ℕ) (x : Event)
    → IsRunning events old → Answers old new (Ok x) (event_by old line)
    → IsAdded events new line x (with_events old.recording events)
event_added events old new line x is given =
    let r : RecordingModel = with_events old.recording events in
    let on : StateAfterEvent old new x = given.1 in
    let moment : length events ≡ x.at = sym (on.at ∙ is.count) in
    let event : next_event events x.worker x.action ≡ x =
    ap (λ (n : ℕ). (let y : Event = record { at = n; worker = x.worker; action = x.action } in y))
    moment in
    let kept : with_event r x.worker x.action new.recording.lists
    ≡ with_events (record old.recording { lists = new.recording.lists }) (events ++ x ∷ []) =
    ap (λ (y : Event). with_events (record old.recording { lists = new.recording.lists })
    (events ++ y ∷ [])) event in
    record {
      stepped = event_agrees events old line is ∙ ap (lifted r) given.0
          ∙ ap Ok (kept ∙ ap (λ (s : RecordingModel). with_events s (events ++ x ∷ [])) (sym on.recording));
      next = (
        sym moment,
        λ ks are.
            subst (λ (os : List PendingCall). IsNext ks x.action (pending_of x.worker os)) is.pending
            (on.next ks (subst (λ (s : RecordingModel). AreKinds s.heading s.from ks) on.recording are)),
      );
      run = record {
        pending = on.pending ∙ ap (pending_after x x.action) is.pending
            ∙ sym (pending_then events x);
        counted = counted_then events old.tally.value new.tally.value x is.counted on.tally;
        count = on.count ∙ ap (λ n. n + 1) is.count ∙ sym (length-append events (x ∷ []));
        declared = subst (λ (s : RecordingModel). IsDeclared s.heading.setup) (sym on.recording)
            is.declared;
      };
    }

-- STAGES

by_event : (r : RecordingModel) (line : List ℕ) → bytes_eq line (codes "end") ≡ false
    → step (reading.Running r) line ≡ map_running (event_step r line)
unfolding step
by_event r line other =
    ap (λ b. cond b (Ok (reading.Ended r)) (map_running (event_step r line))) other

-- if these were the events, the step fails as the event does
pub event_failed : (events : List Event) (run : Running) (line : List ℕ) (fault : LineFault)
    → bytes_eq line (codes "end") ≡ false → IsRunning events run
    → StepFails fault (event_by run line)
    → StepFails fault (step (reading.Running (with_events run.recording events)) line)
event_failed events run line lines.Memory other is failed = tt
event_failed events run line (lines.Of kind) other is failed =
    let r : RecordingModel = with_events run.recording events in
    by_event r line other
    ∙ ap map_running (event_agrees events run line is ∙ ap (lifted r) failed)

-- or it adds this event
pub event_follows : (events : List Event) (old new : Running) (line : List ℕ) (x : Event)
    → bytes_eq line (codes "end") ≡ false → IsRunning events old
    → Answers old new (Ok x) (event_by old line)
    → Adds x (step (reading.Running (with_events old.recording events)) line) events
    (holds.Running new)
event_follows events old new line x other is given =
    let r : RecordingModel = with_events old.recording events in
    let added : IsAdded events new line x r = event_added events old new line x is given in
    (by_event r line other ∙ ap map_running added.stepped, added.next, added.run)

-- WITH THE EVENTS THAT ARE STORED

pub seen_kept : (s : held.Stage) → seen_with (kept_events s) s ≡ stage_with_all s
seen_kept holds.Opening = refl
seen_kept holds.Limiting = refl
seen_kept (holds.Declaring d) = refl
seen_kept (holds.Running r) = refl
seen_kept (holds.Ended r) = refl

pub following : (s : held.Stage) → IsSound s → IsFollowing (kept_events s) s
following holds.Opening sound = refl
following holds.Limiting sound = refl
following (holds.Declaring d) sound = refl
following (holds.Running r) sound = sound
following (holds.Ended r) sound = tt

sound : (s : held.Stage) → IsFollowing (kept_events s) s → IsSound s
sound holds.Opening is = tt
sound holds.Limiting is = tt
sound (holds.Declaring d) is = tt
sound (holds.Running r) is = is
sound (holds.Ended r) is = tt

-- the line was no event, and led to the stage as it now is
pub kept_none : (old new : held.Stage) (stepped : Result Stage FaultKind)
    → kept_events new ≡ kept_events old
    → (stepped ≡ Ok (seen_with (kept_events old) new)) × IsFollowing (kept_events old) new
    → (stepped ≡ Ok (stage_with_all new)) × IsSound new
kept_none old new stepped same is =
    let P : List Event → Type 0 =
    λ es. (stepped ≡ Ok (seen_with es new)) × IsFollowing es new in
    let now : P (kept_events new) = subst P (sym same) is in
    (now.0 ∙ ap Ok (seen_kept new), sound new now.1)

-- the line was this event, which may be stored
pub kept_next : (old mid : held.Stage) (stepped : Result Stage FaultKind) (x : Event)
    → kept_events mid ≡ kept_events old → Adds x stepped (kept_events old) mid → IsNextIn mid x
kept_next old (holds.Running r) stepped x same adds =
    subst (λ es. IsNextOf (with_events r.recording es) x) (sym same) adds.1
kept_next old holds.Opening stepped x same adds = absurd adds
kept_next old holds.Limiting stepped x same adds = absurd adds
kept_next old (holds.Declaring d) stepped x same adds = absurd adds
kept_next old (holds.Ended r) stepped x same adds = absurd adds

-- and the event is stored
pub kept_then : (old mid new : held.Stage) (stepped : Result Stage FaultKind) (x : Event)
    → kept_events mid ≡ kept_events old → Adds x stepped (kept_events old) mid → Keeps mid new x
    → (stepped ≡ Ok (stage_with_all new)) × IsSound new
kept_then old (holds.Running r) new stepped x same adds keeps =
    let P : List Event → Type 0 = λ es.
    (stepped ≡ Ok (reading.Running (with_events r.recording (es ++ x ∷ []))))
    × IsNextOf (with_events r.recording es) x × IsRunning (es ++ x ∷ []) r in
    let now : P r.recording.events = subst P (sym same) adds in
    let run : IsRunning (r.recording.events ++ x ∷ []) r = now.2 in
    subst (λ (s : held.Stage). (stepped ≡ Ok (stage_with_all s)) × IsSound s) (sym keeps) (
      now.0,
      record {
        pending = run.pending;
        counted = run.counted;
        count = run.count;
        declared = run.declared;
      },
    )
kept_then old holds.Opening new stepped x same adds keeps = absurd adds
kept_then old holds.Limiting new stepped x same adds keeps = absurd adds
kept_then old (holds.Declaring d) new stepped x same adds keeps = absurd adds
kept_then old (holds.Ended r) new stepped x same adds keeps = absurd adds
