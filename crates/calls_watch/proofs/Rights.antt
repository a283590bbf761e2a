-- In a history that is read, a worker that produces items of a buffer may draw from its sequencer
-- of the producers, and one that consumes items of it from that of the consumers.
-- The signatures leave out types that calls_text does not export: that of v, the word for an
-- operation, of o, an object, and of a, the form of a reply.
use Rattle.std.proofs.Common.{◌≡◌, ℕ, ◌+◌, Bool, true, false, cond, List, [], ◌∷◌, ◌++◌, Option}
use Rattle.std.proofs.Common.{Some, None, Result, Ok, Err, reverse, slice_get, refl, ap, sym, ◌∙◌}
use Rattle.std.proofs.Common.{subst, bytes_eq, codes, not, arith, ◌<◌, ◌≤◌, length, length-append}
use Rattle.std.specs.Prelude.{is_some, option_map}
use Rattle.std.specs.Option.{option_and_then}
use Rattle.std.proofs.lemmas.List.{reverse-append}
use Rattle.std.proofs.lemmas.Option.{same_Some}
use Rattle.ec_count.specs.Names.{find_name}
use Rattle.ec_count.specs.Tables.{first_that, may_take}
use Rattle.ec_buffer.specs.Shapes.{Buffer}
use Rattle.ec_text.specs.Words.{words_of}
use Rattle.ec_heading.specs.declared.group.Group.{Group}
use Rattle.ec_heading.specs.declared.group.Group.TheVariants as groups
use Rattle.ec_heading.specs.HeadingModel.{HeadingModel}
use Rattle.ec_heading.specs.Heading.{is_no_line}
use Rattle.ec_heading.specs.Lists.{worker_in}
use Rattle.calls_core.specs.declared.history.Op.{Op}
use Rattle.calls_core.specs.declared.history.Op.TheVariants as ops
use Rattle.calls_core.specs.declared.history.Action.{Action}
use Rattle.calls_core.specs.declared.history.Action.TheVariants.{Invoke, Respond}
use Rattle.calls_core.specs.declared.history.Event.{Event}
use Rattle.calls_core.specs.declared.history.PendingCall.{PendingCall}
use Rattle.calls_core.specs.Lists.{Each}
use Rattle.calls_text.specs.declared.fault.FaultKind.{FaultKind}
use Rattle.calls_text.specs.declared.fault.FaultKind.TheVariants as kinds
use Rattle.calls_text.specs.Forms.{Phrase, Calls, Returns, phrase_in}
use Rattle.calls_text.specs.Objects.{group_place, group_at, placed_buffer, buffer_in, as_buffer}
use Rattle.calls_text.specs.Objects.{object_in, is_owned, has_right}
use Rattle.calls_text.specs.Verbs.{tail_of, is_update}
use Rattle.calls_text.specs.Recordings.{RecordingModel, first_group}
use Rattle.calls_text.specs.Reading.{pending_in, is_bad_tail, has_two_roles, is_spent, call_fault}
use Rattle.calls_text.specs.Reading.{index_of, op_of_word, number_in, lists_of, other_word}
use Rattle.calls_text.specs.Reading.{next_event, with_event, fault_or, after_invocation}
use Rattle.calls_text.specs.Reading.{is_bad_reply, suit_fault, reply_of_word, lists_with}
use Rattle.calls_text.specs.Reading.{after_reply, after_response, after_phrase, event_step}
use Rattle.calls_text.specs.Reading.{Draft, Stage, Opening, Limiting, Declaring, Running, Ended}
use Rattle.calls_text.specs.Reading.{limit_step, draft_step, is_run, recorded_of, map_draft}
use Rattle.calls_text.specs.Reading.{map_running, step}
use Rattle.calls_text.specs.Following.{IsReached}
use Rattle.calls_text.specs.kept.Leading.{Leads}

-- WHO MAY CALL

-- object k is a buffer, and worker w may draw from this sequencer of it
pub record MayDraw (h : HeadingModel) (w k : ℕ) (sequencer : Buffer → ℕ) : Type 0 where
  pub place : ℕ
  pub shape : Buffer
  pub is : k ≡ first_group h + place
  pub there : slice_get h.groups place ≡ Some (groups.Buffer shape)
  pub may : may_take h.setup (sequencer shape) w ≡ true

-- a worker that invokes a produce may draw as a producer, and one that invokes a consume may draw
-- as a consumer
abbrev pub Allows : HeadingModel → ℕ → ℕ → Op → Type 0
Allows h w k (ops.Produce v) = MayDraw h w k (λ b. b.put_seq)
Allows h w k ops.Consume = MayDraw h w k (λ b. b.take_seq)
Allows h w k op = Unit {0}

abbrev pub IsAllowed : HeadingModel → ℕ → Action → Type 0
IsAllowed h w (Invoke k op) = Allows h w k op
IsAllowed h w (Respond r) = Unit {0}

abbrev pub AreAllowed : HeadingModel → List Event → Type 0
AreAllowed h past = Each (λ (x : Event). IsAllowed h x.worker x.action) past

-- THE BUFFER THAT A WORD NAMES

shape_back : (gs : List Group) (i : ℕ) (g : Group) (p : ℕ × Buffer) → slice_get gs i ≡ Some g
    → placed_buffer (i, g) ≡ Some p → slice_get gs p.0 ≡ Some (groups.Buffer p.1)
shape_back gs i (groups.Buffer b) p at is =
    let same : (let q : ℕ × Buffer = (i, b) in q) ≡ p = cc in
    subst (λ (q : ℕ × Buffer). slice_get gs q.0 ≡ Some (groups.Buffer q.1)) same at
shape_back gs i _ p at is = cc

group_back : (gs : List Group) (i : ℕ) (g : Option Group) (p : ℕ × Buffer) → slice_get gs i ≡ g
    → option_and_then placed_buffer
    (option_map (λ (x : Group). (let q : ℕ × Group = (i, x) in q)) g) ≡ Some p
    → slice_get gs p.0 ≡ Some (groups.Buffer p.1)
group_back gs i None p at is = cc
group_back gs i (Some g) p at is = shape_back gs i g p at is

place_back : (gs : List Group) (i : Option ℕ) (p : ℕ × Buffer)
    → option_and_then placed_buffer (option_and_then (group_at gs) i) ≡ Some p
    → slice_get gs p.0 ≡ Some (groups.Buffer p.1)
place_back gs None p is = cc
place_back gs (Some i) p is = group_back gs i (slice_get gs i) p refl is

buffer_back : (h : HeadingModel) (word : List ℕ) (p : ℕ × Buffer) → buffer_in h word ≡ Some p
    → slice_get h.groups p.0 ≡ Some (groups.Buffer p.1)
buffer_back h word p is =
    place_back h.groups (option_and_then group_place (find_name word h.names)) p is

-- INVOCATIONS

-- a produce is an update and a consume is not, and either names a buffer
produce_updates : (v o : _) (n item : ℕ) → op_of_word v o n ≡ ops.Produce item → is_update v ≡ true
produce_updates v o n item is = grind arith

consume_updates : (v o : _) (n : ℕ) → op_of_word v o n ≡ ops.Consume → is_update v ≡ false
consume_updates v o n is = grind arith

produce_names : (h : HeadingModel) (v o : _) (word : List ℕ) (other : Option (List ℕ)) (n item : ℕ)
    → op_of_word v o n ≡ ops.Produce item
    → object_in h v word other ≡ option_map as_buffer (buffer_in h word)
produce_names h v o word other n item is = grind arith

consume_names : (h : HeadingModel) (v o : _) (word : List ℕ) (other : Option (List ℕ)) (n : ℕ)
    → op_of_word v o n ≡ ops.Consume
    → object_in h v word other ≡ option_map as_buffer (buffer_in h word)
consume_names h v o word other n is = grind arith

-- the call needs the right to draw from the sequencer, and names the buffer by this word
buffer_allowed : (h : HeadingModel) (w : ℕ) (update : Bool) (sequencer : Buffer → ℕ)
    → ((p : ℕ × Buffer)
    → has_right h.setup w update (as_buffer p) ≡ may_take h.setup (sequencer p.1) w)
    → (word : List ℕ) (p : Option (ℕ × Buffer)) (o : _) → buffer_in h word ≡ p
    → option_map as_buffer p ≡ Some o → has_right h.setup w update o ≡ true
    → MayDraw h w (index_of h o) sequencer
buffer_allowed h w update sequencer needs word None o which named right = cc
buffer_allowed h w update sequencer needs word (Some p) o which named right =
    subst (λ y. has_right h.setup w update y ≡ true → MayDraw h w (index_of h y) sequencer)
    (same_Some (as_buffer p) o named) (λ may. record {
      place = p.0;
      shape = p.1;
      is = refl;
      there = buffer_back h word p which;
      may = sym (needs p) ∙ may;
    }) right

invocation_allowed : (h : HeadingModel) (w : ℕ) (v o : _) (word : List ℕ)
    (other : Option (List ℕ)) (n : ℕ) (op : Op) → op_of_word v o n ≡ op
    → object_in h v word other ≡ Some o → has_right h.setup w (is_update v) o ≡ true
    → Allows h w (index_of h o) op
invocation_allowed h w v o word other n (ops.Produce item) is named right =
    buffer_allowed h w true (λ b. b.put_seq) (λ p. refl) word (buffer_in h word) o refl
    (sym (produce_names h v o word other n item is) ∙ named)
    (ap (λ b. has_right h.setup w b o) (sym (produce_updates v o n item is)) ∙ right)
invocation_allowed h w v o word other n ops.Consume is named right =
    buffer_allowed h w false (λ b. b.take_seq) (λ p. refl) word (buffer_in h word) o refl
    (sym (consume_names h v o word other n is) ∙ named)
    (ap (λ b. has_right h.setup w b o) (sym (consume_updates v o n is)) ∙ right)
invocation_allowed h w v o word other n _ is named right = tt

-- a worker without the right would be at fault
right_back : (a b c d : Bool) (t u v w : FaultKind) (others : List (Bool × FaultKind))
    → first_that ((a, t) ∷ (b, u) ∷ (c, v) ∷ (not d, w) ∷ others) ≡ None → d ≡ true
right_back true b c d t u v w others none = cc
right_back false true c d t u v w others none = cc
right_back false false true d t u v w others none = cc
right_back false false false false t u v w others none = cc
right_back false false false true t u v w others none = refl

call_right : (r : RecordingModel) (w : ℕ) (v o : _) (ws : List (List ℕ))
    → call_fault r w v o ws ≡ None → has_right r.heading.setup w (is_update v) o ≡ true
call_right r w v o ws none =
    right_back (is_bad_tail (tail_of v) ws o) (is_owned r.heading.groups o) (has_two_roles o)
    (has_right r.heading.setup w (is_update v) o) kinds.BadNumber kinds.Hidden kinds.TwoRoles
    kinds.NoRight ((is_some (pending_in r.events w), kinds.Busy)
    ∷ (is_spent r w v o, kinds.AtLimit) ∷ []) none

-- AN EVENT

-- one event more, which is allowed
record AddsAllowed (r q : RecordingModel) : Type 0 where
  event : Event
  heading : q.heading ≡ r.heading
  events : q.events ≡ r.events ++ event ∷ []
  allowed : IsAllowed r.heading event.worker event.action

ok_is : (x y : RecordingModel) → ◌≡◌ {A = Result RecordingModel FaultKind} (Ok x) (Ok y) → x ≡ y
ok_is x y is = cc

or_adds : (r : RecordingModel) (fault : Option FaultKind) (w : ℕ) (a : Action) (ls : List (List ℕ))
    (q : RecordingModel) → (fault ≡ None → IsAllowed r.heading w a)
    → fault_or fault (with_event r w a ls) ≡ Ok q → AddsAllowed r q
or_adds r None w a ls q allowed is =
    subst (AddsAllowed r) (ok_is (with_event r w a ls) q is) (record {
      event = next_event r.events w a;
      heading = refl;
      events = refl;
      allowed = allowed refl;
    })
or_adds r (Some kind) w a ls q allowed is = cc

call_adds : (r : RecordingModel) (w : Option ℕ) (v : _) (word : List ℕ) (o : Option _)
    (ws : List (List ℕ)) (q : RecordingModel) → object_in r.heading v word (other_word v ws) ≡ o
    → after_invocation r w v o ws ≡ Ok q → AddsAllowed r q
call_adds r None v word o ws q named is = cc
call_adds r (Some w) v word None ws q named is = cc
call_adds r (Some w) v word (Some o) ws q named is =
    let n : ℕ = number_in r.lists v ws in
    or_adds r (call_fault r w v o ws) w (Invoke (index_of r.heading o) (op_of_word v o n))
    (lists_of r.lists v ws) q
    (λ none. invocation_allowed r.heading w v o word (other_word v ws) n (op_of_word v o n) refl
    named (call_right r w v o ws none)) is

reply_adds : (r : RecordingModel) (w : ℕ) (o : Option PendingCall) (a : _) (ws : List (List ℕ))
    (q : RecordingModel) → after_reply r w o a ws ≡ Ok q → AddsAllowed r q
reply_adds r w None a ws q is = cc
reply_adds r w (Some o) a ws q is =
    or_adds r (suit_fault r.heading o a ws) w (Respond (reply_of_word r o a ws))
    (lists_with r o a ws) q (λ none. tt) is

return_adds : (r : RecordingModel) (w : Option ℕ) (a : _) (ws : List (List ℕ)) (q : RecordingModel)
    → after_response r w a ws ≡ Ok q → AddsAllowed r q
return_adds r None a ws q is = cc
return_adds r (Some w) a ws q is =
    elim (is_bad_reply a ws) as (λ b.
    cond b (Err kinds.BadNumber) (after_reply r w (pending_in r.events w) a ws) ≡ Ok q
    → AddsAllowed r q) [
      | true ↦ λ bad. cc
      | false ↦ λ good. reply_adds r w (pending_in r.events w) a ws q good
    ] is

phrase_adds : (r : RecordingModel) (p : Option Phrase) (q : RecordingModel)
    → after_phrase r p ≡ Ok q → AddsAllowed r q
phrase_adds r None q is = cc
phrase_adds r (Some (Calls w v o ws)) q is =
    call_adds r (worker_in r.heading.words w) v o (object_in r.heading v o (other_word v ws)) ws q
    refl is
phrase_adds r (Some (Returns w a ws)) q is =
    return_adds r (worker_in r.heading.words w) a ws q is

event_adds : (r : RecordingModel) (line : List ℕ) (q : RecordingModel) → event_step r line ≡ Ok q
    → AddsAllowed r q
unfolding event_step
event_adds r line q is =
    elim (is_no_line line) as (λ b.
    cond b (Err kinds.BadLine) (after_phrase r (phrase_in (words_of line))) ≡ Ok q
    → AddsAllowed r q) [
      | true ↦ λ bad. cc
      | false ↦ λ good. phrase_adds r (phrase_in (words_of line)) q good
    ] is

added_allowed : (r q : RecordingModel) → AddsAllowed r q → AreAllowed r.heading (reverse r.events)
    → AreAllowed q.heading (reverse q.events)
added_allowed r q adds all =
    let newest : adds.event ∷ reverse r.events ≡ reverse q.events =
    sym (ap reverse adds.events ∙ reverse-append r.events (adds.event ∷ [])) in
    subst (λ (h : HeadingModel). AreAllowed h (reverse q.events)) (sym adds.heading)
    (subst (AreAllowed r.heading) newest (adds.allowed, all))

-- A LINE

-- after n lines the events so far are allowed, and there is a line for each, and for the end
abbrev StageAllowed : ℕ → Stage → Type 0
StageAllowed n (Running r) = (length r.events ≤ n) × AreAllowed r.heading (reverse r.events)
StageAllowed n (Ended r) = (length r.events < n) × AreAllowed r.heading (reverse r.events)
StageAllowed n s = Unit {0}

goes_to : (n : ℕ) (s t : Stage) → StageAllowed n s
    → ◌≡◌ {A = Result Stage FaultKind} (Ok s) (Ok t) → StageAllowed n t
goes_to n s t all is = let same : s ≡ t = cc in subst (StageAllowed n) same all

draft_allowed : (n : ℕ) (x : Result Draft FaultKind) (t : Stage) → map_draft x ≡ Ok t
    → StageAllowed n t
draft_allowed n (Ok d) t is = goes_to n (Declaring d) t tt is
draft_allowed n (Err kind) t is = cc

added_one : (r q : RecordingModel) → AddsAllowed r q → length q.events ≡ length r.events + 1
added_one r q adds =
    ap (λ (es : List Event). length es) adds.events ∙ length-append r.events (adds.event ∷ [])

run_allowed : (n : ℕ) (r : RecordingModel) (x : Result RecordingModel FaultKind) (t : Stage)
    → ((q : RecordingModel) → x ≡ Ok q → AddsAllowed r q) → StageAllowed n (Running r)
    → map_running x ≡ Ok t → StageAllowed (n + 1) t
run_allowed n r (Ok q) t adds all is =
    goes_to (n + 1) (Running q) t (
      omega (arith, all.0, added_one r q (adds q refl)),
      added_allowed r q (adds q refl) all.1,
    ) is
run_allowed n r (Err kind) t adds all is = cc

step_allowed : (n : ℕ) (s t : Stage) (line : List ℕ) → step s line ≡ Ok t → StageAllowed n s
    → StageAllowed (n + 1) t
unfolding step
step_allowed n Opening t line is all =
    elim (bytes_eq line (codes "evc-calls 1")) as (λ b.
    cond b (Ok Limiting) (Err kinds.BadHeader) ≡ Ok t → StageAllowed (n + 1) t) [
      | true ↦ λ e. goes_to (n + 1) Limiting t tt e
      | false ↦ λ e. cc
    ] is
step_allowed n Limiting t line is all = draft_allowed (n + 1) (limit_step line) t is
step_allowed n (Declaring d) t line is all =
    elim (is_run d line) as (λ b.
    cond b (Ok (Running (recorded_of d))) (map_draft (draft_step d line)) ≡ Ok t
    → StageAllowed (n + 1) t) [
      | true ↦ λ e. goes_to (n + 1) (Running (recorded_of d)) t (omega arith, tt) e
      | false ↦ λ e. draft_allowed (n + 1) (draft_step d line) t e
    ] is
step_allowed n (Running r) t line is all =
    elim (bytes_eq line (codes "end")) as (λ b.
    cond b (Ok (Ended r)) (map_running (event_step r line)) ≡ Ok t → StageAllowed (n + 1) t) [
      | true ↦ λ e. goes_to (n + 1) (Ended r) t (omega (arith, all.0), all.1) e
      | false ↦ λ e. run_allowed n r (event_step r line) t (event_adds r line) all e
    ] is
step_allowed n (Ended r) t line is all = cc

-- ALL LINES

lines_allowed : (n : ℕ) (s : Stage) (lines : List (List ℕ)) (t : Stage) → Leads s lines t
    → StageAllowed n s → StageAllowed (n + length lines) t
lines_allowed n s [] t leads all =
    let same : n ≡ n + 0 = omega arith in
    subst (λ (i : ℕ). StageAllowed i t) same (subst (StageAllowed n) leads all)
lines_allowed n s (line ∷ lines) t (next, steps, leads) all =
    let same : (n + 1) + length lines ≡ n + length (line ∷ lines) = omega arith in
    subst (λ (i : ℕ). StageAllowed i t) same
    (lines_allowed (n + 1) next lines t leads (step_allowed n s next line steps all))

-- the events of a history that is read are allowed
pub reached_allowed : (n : ℕ) (ps : List (List ℕ)) (r : RecordingModel) (m : ℕ)
    (qs : List (List ℕ)) → IsReached n ps (Running r) m qs
    → AreAllowed r.heading (reverse r.events)
reached_allowed n ps r m qs at =
    (lines_allowed 0 Opening at.lines (Running r) at.leads tt).1

-- so are those of a whole history, which has more lines than events
pub whole_allowed : (lines : List (List ℕ)) (r : RecordingModel) → Leads Opening lines (Ended r)
    → (length r.events < length lines) × AreAllowed r.heading (reverse r.events)
whole_allowed lines r leads =
    let all = lines_allowed 0 Opening lines (Ended r) leads tt in
    (omega (arith, all.0), all.1)
