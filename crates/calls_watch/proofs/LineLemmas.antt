-- The state of `watch` after a line.
use Rattle.std.proofs.Common.{◌≡◌, ◌<◌, ◌≤◌, ◌⊎◌, inl, inr, ℕ, ◌+◌, Bool, true, false, List, [], ◌∷◌, ◌++◌, length}
use Rattle.std.proofs.Common.{reverse, Option, Some, None, Result, Ok, Err, refl, ap, sym, ◌∙◌, subst, arith}
use Rattle.std.proofs.Common.{length-append, append_assoc, if◌then◌else◌}
use Rattle.std.proofs.lemmas.List.{reverse-append}
use Rattle.ec_heading.specs.HeadingModel.{HeadingModel}
use Rattle.calls_core.specs.declared.history.Kind.{Kind}
use Rattle.calls_core.specs.declared.history.Event.{Event}
use Rattle.calls_core.specs.Histories.{IsHistory, clock, pending_calls, part}
use Rattle.calls_core.specs.Completions.{IsLinearizable}
use Rattle.calls_verdict.specs.declared.verdict.Verdict.{Verdict}
use Rattle.calls_verdict.specs.declared.verdict.Verdict.TheVariants as verdicts
use Rattle.calls_monitor.specs.declared.monitor.Monitor.{Monitor}
use Rattle.calls_monitor.specs.declared.monitor.Refused.{Refused as Report}
use Rattle.calls_monitor.specs.declared.monitor.Rejection.TheVariants as rejections
use Rattle.calls_monitor.specs.Watched.{AreSpsc}
use Rattle.calls_monitor.specs.Monitors.{Judges, IsRefused}
use Rattle.calls_spsc.specs.Flows.{IsSpsc}
use Rattle.calls_monitor.specs.kept.Watching as monitors
use Rattle.calls_text.specs.declared.fault.TextFault.{TextFault}
use Rattle.calls_text.specs.declared.fault.TextFault.TheVariants as faults
use Rattle.calls_text.specs.declared.following.HistoryLine.{HistoryLine}
use Rattle.calls_text.specs.declared.following.HistoryLine.TheVariants as lines
use Rattle.calls_text.specs.declared.following.Follower.{Follower}
use Rattle.calls_text.specs.Recordings.{RecordingModel, AreKinds}
use Rattle.calls_text.specs.Reading.{Stage, Opening, Limiting, Declaring, Running, Ended, step, is_ended}
use Rattle.calls_text.specs.Reading.{with_events}
use Rattle.std.specs.Prelude.{OnOk, IfErr}
use Rattle.calls_text.specs.Outcomes.{OneRead, parse_from, parse_end, fault_in, ReturnsFault}
use Rattle.calls_text.specs.Following.{stage_with_events, HasEvents, IsReached, IsHeading, IsRunLine, IsEvent, IsEnd}
use Rattle.calls_text.specs.Following.{PassesIn, IsFaulty}
use Rattle.calls_text.proofs.ReachedLines.{reached_end, reached_cut}
use Rattle.calls_text.proofs.ReachedLines.{reached_fault, reached_opening, opening_none}
use Rattle.calls_text.specs.kept.Leading.{Leads}
use Rattle.calls_report.specs.Checks.{IsNoEnd}
use Rattle.calls_watch.specs.declared.kept.Kept.TheVariants.{TooLong}
use Rattle.calls_watch.specs.declared.load.Load.{Load}
use Rattle.calls_watch.specs.declared.stop.Stop.{Stop}
use Rattle.calls_watch.specs.declared.stop.Stop.TheVariants as stops
use Rattle.calls_watch.specs.declared.watcher.Watcher.{Watcher}
use Rattle.calls_watch.specs.Loads.{IsLoad, calls_of, others_of, others_at}
use Rattle.calls_watch.specs.Loads.{invocation_count}
use Rattle.calls_watch.specs.Spsc.{AreListed}
use Rattle.calls_watch.specs.Watches.{IsGood, AreGood, IsUpTo, IsReadAt, AreWatched, CallsUnwatched}
use Rattle.calls_watch.specs.kept.Texts.{HoldsText, DecidesText, HasVerdict, outcome_of}
use Rattle.calls_watch.specs.kept.Watching.{IsMonitoring, IsReading, IsMonitored, IsWatching, StopsAt, Stops, StateAfterLine}
use Rattle.calls_watch.specs.kept.Watching.{IsOver, IsOpened, IsLoadAfter, Begins, LoadGrows, JudgedBy, IsJudged}
use Rattle.calls_watch.specs.kept.Watching.{KeepsText, IsTaken, IsNext, IsBegunAgain, DecidesAs, Decides}
use Rattle.calls_watch.specs.kept.Watching.{NeedsText, IsPassedOver}
use Rattle.calls_watch.specs.kept.Watching.{IsDecided, EndsHistory, GoesOnBy, MayEnd, GoesOnAt}
use Rattle.calls_watch.proofs.Histories.{good_more, calls_more, others_more}
use Rattle.calls_watch.proofs.TextLemmas.{leads_more, kept_if, IsSame, read_again, good_by_order}
use Rattle.calls_watch.proofs.Uncalled.{none_linearizable}
use Rattle.calls_watch.proofs.Watched.{unwatched_called, refused_watched, taken_watched}
use Rattle.calls_watch.proofs.Pairs.{spsc_by_rights}

-- MONITORS

not_running : (s : Stage) (events : List Event) (o : Option Monitor)
    → ((r : RecordingModel) → s ≡ Running r → ⊥) → IsMonitored s events o
not_running Opening events o none = tt
not_running Limiting events o none = tt
not_running (Declaring d) events o none = tt
not_running (Running r) events o none = absurd (none r refl)
not_running (Ended r) events o none = tt

-- while events may come, they are judged or read
known_stage : (s : Stage) (r : RecordingModel) (events : List Event) (o : Option Monitor)
    → s ≡ Running r → IsMonitored s events o → IsMonitored (Running r) events o
known_stage s r events o is monitored =
    subst (λ (t : Stage). IsMonitored t events o) is monitored

-- A STATE

-- the parts of a state, if the stage is known
built_state : (ps qs : List (List ℕ)) (w : Watcher) (reads : List OneRead) (start : ℕ)
    (begun : List (List ℕ)) (events : List Event) (s : Stage) (n : ℕ) → AreGood 1 ps reads start begun
    → stage_with_events events w.follower ≡ s → w.number ≡ n
    → (reached : IsReached start begun s n qs) → is_ended s ≡ false → HasEvents events w.follower
    → IsMonitored s events w.monitor → IsLoad reads (reverse events) w.load → w.first ≡ start
    → HoldsText reached.lines w.kept → IsWatching ps qs w
built_state ps qs w reads start begun events s n good is number reached going seen monitored load first
    kept = record {
      reads = reads;
      start = start;
      begun = begun;
      good = good;
      events = events;
      reached = record {
        lines = reached.lines;
        are = reached.are;
        leads = subst (Leads Opening reached.lines) (sym is) reached.leads;
        number = number ∙ reached.number;
      };
      going = subst (λ (t : Stage). is_ended t ≡ false) (sym is) going;
      seen = seen;
      monitored = subst (λ (t : Stage). IsMonitored t events w.monitor) (sym is) monitored;
      load = load;
      first = first;
      kept = kept;
    }

no_lines : (n : ℕ) → n ≡ n + 0
no_lines n = omega arith

-- before the first line of a history
abbrev reached_first : (n : ℕ) (ps : List (List ℕ)) → IsReached n ps Opening n ps
reached_first n ps = record {
  lines = [];
  are = refl;
  leads = refl;
  number = no_lines n;
}

-- the load before the first event
none_loaded : (reads : List OneRead) (events : List Event) (l k : Load) → events ≡ [] → k ≡ l
    → IsLoad reads (reverse events) l → IsLoad reads [] k
none_loaded reads events l k none same load =
    subst (IsLoad reads []) (sym same)
    (subst (λ (es : List Event). IsLoad reads (reverse es) l) none load)

running_open : (r : RecordingModel) → is_ended (Running r) ≡ false
unfolding is_ended
running_open r = refl

opening_open : is_ended Opening ≡ false
unfolding is_ended
opening_open = refl

module _ (ps qs : List (List ℕ)) (q line : List ℕ) (old mid new : Watcher)
    (w : IsWatching ps (line ∷ q ∷ qs) old) (number : mid.number ≡ old.number + 1)
    (monitor : mid.monitor ≡ old.monitor) (load : mid.load ≡ old.load)
    (first : mid.first ≡ old.first) (kept : HoldsText (w.reached.lines ++ line ∷ []) mid.kept) where
  count_on : old.number + 1 ≡ w.start + length (w.reached.lines ++ line ∷ [])
  count_on =
      let before : old.number ≡ w.start + length w.reached.lines = w.reached.number in
      omega (arith, length-append w.reached.lines (line ∷ []))

  abbrev steps_on : (t : Stage) → step (stage_with_events w.events old.follower) line ≡ Ok t
      → IsReached w.start w.begun t (old.number + 1) (q ∷ qs)
  steps_on t steps = record {
    lines = w.reached.lines ++ line ∷ [];
    are = w.reached.are ∙ sym (append_assoc w.reached.lines (line ∷ []) (q ∷ qs));
    leads = leads_more Opening (stage_with_events w.events old.follower) t w.reached.lines line
        w.reached.leads steps;
    number = count_on;
  }

  stopped : (stop : Stop) → StopsAt stop w.start w.begun new → Stops stop ps new
  stopped stop at = record {
    reads = w.reads;
    start = w.start;
    begun = w.begun;
    good = w.good;
    stops = at;
  }

  memory_goes : (stop : Stop) → stop ≡ stops.Memory → Stops stop ps new
  memory_goes stop memory =
      subst (λ (k : Stop). Stops k ps new) (sym memory) (stopped stops.Memory tt)

  -- the lines so far are too many
  too_large : (s : Stage) (r : RecordingModel)
      → step (stage_with_events w.events old.follower) line ≡ Ok s → IsReadAt s r → CallsUnwatched r
      → mid.kept ≡ TooLong → Stops stops.TooLarge ps new
  too_large s r steps is calls long = stopped stops.TooLarge (
    record {
      stage = s;
      number = old.number + 1;
      next = q;
      left = qs;
      reached = steps_on s steps;
      recorded = r;
      is = is;
      calls = calls;
    },
    subst (HoldsText (w.reached.lines ++ line ∷ [])) long kept,
  )

  -- A LINE BEFORE THE EVENTS

  heading_goes : IsHeading line w.events old.follower.stage mid.follower.stage → new ≡ mid
      → IsWatching ps (q ∷ qs) new
  heading_goes h same =
      subst (IsWatching ps (q ∷ qs)) (sym same)
      (built_state ps (q ∷ qs) mid w.reads w.start w.begun [] (stage_with_events [] mid.follower) (old.number + 1)
      w.good refl number (steps_on (stage_with_events [] mid.follower) h.steps) h.going h.seen
      (not_running (stage_with_events [] mid.follower) [] mid.monitor h.no_run)
      (none_loaded w.reads w.events old.load mid.load h.none load w.load) (first ∙ w.first) kept)

  -- THE LINE RUN

  run_goes : (h : IsRunLine line w.events old.follower.stage mid.follower.stage)
      (result : Result (Unit {0}) Stop) → Begins h.begun mid new result
      → StateAfterLine result ps (q ∷ qs) new
  run_goes h (Ok u) b =
      let o : IsOpened h.begun b.0 = b.2 in
      built_state ps (q ∷ qs) new w.reads w.start w.begun [] (Running h.begun) (old.number + 1) w.good
      (ap (λ (f : Follower). stage_with_events [] f) b.3 ∙ h.is) (b.4 ∙ number)
      (steps_on (Running h.begun) h.steps) (running_open h.begun)
      (subst (HasEvents []) (sym b.3) h.seen)
      (subst (IsMonitored (Running h.begun) []) (sym b.1) (record {
        kinds = o.kinds;
        are = o.are;
        spsc = o.spsc;
        listed = o.listed;
        watched = tt;
        linearizable = none_linearizable o.kinds;
        history = tt;
        positions = refl;
        watches = o.watches;
      }))
      (none_loaded w.reads w.events old.load new.load h.none (b.5 ∙ load) w.load)
      (b.6 ∙ first ∙ w.first)
      (kept_if (w.reached.lines ++ line ∷ []) mid.kept new.kept b.7.0 b.7.1 kept)
  run_goes h (Err stops.RefusedAtEnd) b = absurd b
  run_goes h (Err stops.NotDecided) b = absurd b
  run_goes h (Err stops.TooLarge) b = absurd b
  run_goes h (Err stops.Memory) b = stopped stops.Memory tt
  run_goes h (Err (stops.Unread fault)) b = absurd b
  run_goes h (Err (stops.Refused x report)) b = absurd b

  -- AN EVENT

  module _ (x : Event) (e : IsEvent line w.events x old.follower.stage mid.follower.stage)
      (kinds : List Kind) (are : AreKinds e.before.heading e.before.from kinds)
      (history : IsHistory kinds (reverse w.events))
      (positions : clock (reverse w.events) ≡ length w.events) where
    abbrev past : List Event
    past = reverse w.events

    history_now : IsHistory kinds (x ∷ past)
    history_now = (
      (let b : x.at ≡ length w.events = e.at in
          let c : clock past ≤ x.at = omega (arith, positions) in c),
      e.next kinds are,
      history,
    )

    now_past : reverse (w.events ++ x ∷ []) ≡ x ∷ past
    now_past = reverse-append w.events (x ∷ [])

    are_now : AreKinds e.after.heading e.after.from kinds
    are_now =
        subst (λ (f : List (ℕ × ℕ)). AreKinds e.after.heading f kinds) e.from
        (subst (λ (h : HeadingModel). AreKinds h e.before.from kinds) e.heading are)

    history_more : IsHistory kinds (reverse (w.events ++ x ∷ []))
    history_more = subst (IsHistory kinds) (sym now_past) history_now

    positions_more : clock (reverse (w.events ++ x ∷ [])) ≡ length (w.events ++ x ∷ [])
    positions_more =
        let b : x.at ≡ length w.events = e.at in
        let c : x.at + 1 ≡ length (w.events ++ x ∷ []) =
        omega (arith, length-append w.events (x ∷ [])) in
        ap clock now_past ∙ c

    abbrev reached_now : IsReached w.start w.begun (Running e.after) (old.number + 1) (q ∷ qs)
    reached_now = steps_on (Running e.after) e.steps

    loaded : new.follower ≡ mid.follower → LoadGrows mid x new
        → IsLoad w.reads (reverse (w.events ++ x ∷ [])) new.load
    loaded same grows =
        let after : IsLoadAfter mid.load x (length (pending_calls (reverse (w.events ++ x ∷ []))))
        new.load = grows (w.events ++ x ∷ []) e.after e.seen e.is in
        let pending : others_at x.action (length (pending_calls (reverse (w.events ++ x ∷ []))))
        ≡ others_at x.action (length (pending_calls (x ∷ past))) =
        ap (λ (p : List Event). others_at x.action (length (pending_calls p))) now_past in
        let before : IsLoad w.reads past mid.load = subst (IsLoad w.reads past) (sym load) w.load in
        subst (λ (p : List Event). IsLoad w.reads p new.load) (sym now_past) (record {
          histories = after.histories ∙ before.histories;
          calls = omega (arith, after.calls, before.calls);
          others = omega (arith, after.others, before.others, pending);
        })

    -- the state, if the event was judged or read
    taken_so : KeepsText mid new → LoadGrows mid x new
        → IsMonitored (Running e.after) (w.events ++ x ∷ []) new.monitor
        → IsWatching ps (q ∷ qs) new
    taken_so keeps grows monitored =
        built_state ps (q ∷ qs) new w.reads w.start w.begun (w.events ++ x ∷ []) (Running e.after)
        (old.number + 1) w.good
        (ap (λ (f : Follower). stage_with_events (w.events ++ x ∷ []) f) keeps.follower ∙ e.is)
        (keeps.number ∙ number) reached_now (running_open e.after)
        (subst (HasEvents (w.events ++ x ∷ [])) (sym keeps.follower) e.seen)
        monitored (loaded keeps.follower grows) (keeps.first ∙ first ∙ w.first)
        (subst (HoldsText (w.reached.lines ++ line ∷ [])) (sym keeps.kept) kept)

    -- an event that is only read
    read_so : (AreWatched e.after.heading (x ∷ past) → ⊥) → KeepsText mid new → LoadGrows mid x new
        → new.monitor ≡ None → IsWatching ps (q ∷ qs) new
    read_so unwatched keeps grows none =
        taken_so keeps grows
        (subst (IsMonitored (Running e.after) (w.events ++ x ∷ [])) (sym none) (record {
          kinds = kinds;
          are = are_now;
          unwatched = λ watched.
              unwatched (subst (AreWatched e.after.heading) now_past watched);
          history = history_more;
          positions = positions_more;
        }))

    event_too_large : (AreWatched e.after.heading (x ∷ past) → ⊥) → mid.kept ≡ TooLong
        → Stops stops.TooLarge ps new
    event_too_large unwatched long =
        let are_events : reverse e.after.events ≡ x ∷ past = ap reverse e.events_are ∙ now_past in
        too_large (Running e.after) e.after e.steps refl
        (λ watched. unwatched (subst (AreWatched e.after.heading) are_events watched)) long

    left_stops : (AreWatched e.after.heading (x ∷ past) → ⊥) → (stop : Stop)
        → NeedsText mid.kept (Err stop) → Stops stop ps new
    left_stops unwatched stops.TooLarge needs = event_too_large unwatched needs
    left_stops unwatched stops.Memory needs = stopped stops.Memory tt
    left_stops unwatched stops.RefusedAtEnd needs = absurd needs
    left_stops unwatched stops.NotDecided needs = absurd needs
    left_stops unwatched (stops.Unread fault) needs = absurd needs
    left_stops unwatched (stops.Refused y report) needs = absurd needs

    left_goes : (AreWatched e.after.heading (x ∷ past) → ⊥) → (result : Result (Unit {0}) Stop)
        → IsTaken None x mid new result → StateAfterLine result ps (q ∷ qs) new
    left_goes unwatched (Ok u) t = read_so unwatched t.2 t.1 t.0.1
    left_goes unwatched (Err stop) (inl t) = left_stops unwatched stop t.0.0
    left_goes unwatched (Err stop) (inr memory) = memory_goes stop memory

  module _ (x : Event) (e : IsEvent line w.events x old.follower.stage mid.follower.stage)
      (m : Monitor) (is : IsMonitoring e.before w.events m) where
    abbrev before : List Event
    before = reverse w.events

    now : IsHistory is.kinds (x ∷ before)
    now = history_now x e is.kinds is.are is.history is.positions

    now_are : reverse (w.events ++ x ∷ []) ≡ x ∷ before
    now_are = now_past x e is.kinds is.are is.history is.positions

    are_events : reverse e.after.events ≡ x ∷ before
    are_events = ap reverse e.events_are ∙ now_are

    listed_now : AreListed e.after.heading is.spsc
    listed_now = subst (λ (h : HeadingModel). AreListed h is.spsc) e.heading is.listed

    watched_before : AreWatched e.after.heading before
    watched_before = subst (λ (h : HeadingModel). AreWatched h before) e.heading is.watched

    -- each listed buffer has one producer and one consumer
    one_each : AreSpsc is.spsc (x ∷ before)
    one_each = λ k listed. subst (λ (es : List Event). IsSpsc (part k es)) are_events
        (spsc_by_rights w.start w.begun e.after (old.number + 1) (q ∷ qs)
        (steps_on (Running e.after) e.steps) is.kinds
        (subst (IsHistory is.kinds) (sym are_events) now) k (sym (listed_now k) ∙ listed))

    up_to_now : new.number ≡ mid.number
        → IsUpTo w.start w.begun new.number e.after is.kinds before x
    up_to_now count = record {
      next = q;
      left = qs;
      reached = subst (λ (k : ℕ). IsReached w.start w.begun (Running e.after) k (q ∷ qs))
          (sym (count ∙ number)) (steps_on (Running e.after) e.steps);
      recording = record {
        objects = are_now x e is.kinds is.are is.history is.positions;
        history = subst (λ (es : List Event). IsHistory is.kinds (reverse es))
            (sym e.events_are) (history_more x e is.kinds is.are is.history is.positions);
        positions = subst (λ (es : List Event). clock (reverse es) ≡ length es)
            (sym e.events_are) (positions_more x e is.kinds is.are is.history is.positions);
      };
      last = are_events;
      watched = watched_before;
      before = is.linearizable;
    }

    abbrev are_after : AreKinds e.after.heading e.after.from is.kinds
    are_after = are_now x e is.kinds is.are is.history is.positions

    event_stops : (report : Report) (n : Monitor)
        → Judges m n x (Err (rejections.Refused report)) → KeepsText mid new
        → Stops (stops.Refused x report) ps new
    event_stops report n judges keeps =
        let refused : IsRefused is.kinds is.spsc before x report =
        judges is.kinds is.spsc before now one_each is.watches in
        stopped (stops.Refused x report) (
          e.after,
          w.events ++ x ∷ [],
          ap (λ (f : Follower). stage_with_events (w.events ++ x ∷ []) f) keeps.follower ∙ e.is,
          record {
            kinds = is.kinds;
            spsc = is.spsc;
            past = before;
            up_to = up_to_now keeps.number;
            watched = refused_watched e.after.heading e.after.from is.kinds is.spsc are_after
                listed_now before x now report refused;
            refused = refused;
          },
        )

    event_taken : (n : Monitor) → new.monitor ≡ Some n → Judges m n x (Ok tt)
        → LoadGrows mid x new → KeepsText mid new → IsWatching ps (q ∷ qs) new
    event_taken n at judges grows keeps =
        let verdict = judges is.kinds is.spsc before now one_each is.watches in
        let watched : AreWatched e.after.heading (x ∷ before) = (
          taken_watched e.after.heading e.after.from is.kinds is.spsc are_after listed_now before x
              now n verdict.1,
          watched_before,
        ) in
        taken_so x e is.kinds is.are is.history is.positions keeps grows
        (subst (IsMonitored (Running e.after) (w.events ++ x ∷ [])) (sym at) (record {
          kinds = is.kinds;
          are = are_after;
          spsc = is.spsc;
          listed = listed_now;
          watched = subst (AreWatched e.after.heading) (sym now_are) watched;
          linearizable = subst (IsLinearizable is.kinds) (sym now_are) verdict.0;
          history = history_more x e is.kinds is.are is.history is.positions;
          positions = positions_more x e is.kinds is.are is.history is.positions;
          watches = subst (λ (p : List Event). monitors.Watches is.kinds is.spsc p n) (sym now_are)
              verdict.1;
        }))

    -- an event that is not for the monitor
    passed_over : IsPassedOver m x → AreWatched e.after.heading (x ∷ before) → ⊥
    passed_over p =
        unwatched_called e.after.heading e.after.from is.kinds is.spsc are_after listed_now before x
        now (p.1 is.kinds is.spsc before now one_each is.watches)

    judged_stops : (stop : Stop) → IsJudged m x new.monitor (Err stop) → KeepsText mid new
        → Stops stop ps new
    judged_stops (stops.Refused y report) t keeps =
        subst (λ (z : Event). Stops (stops.Refused z report) ps new) (sym t.0)
        (event_stops report t.1.0 t.1.1 keeps)
    judged_stops stops.Memory t keeps = stopped stops.Memory tt
    judged_stops stops.RefusedAtEnd t keeps = absurd t
    judged_stops stops.NotDecided t keeps = absurd t
    judged_stops stops.TooLarge t keeps = absurd t
    judged_stops (stops.Unread fault) t keeps = absurd t

    judged_goes : (result : Result (Unit {0}) Stop) → IsTaken (Some m) x mid new result
        → StateAfterLine result ps (q ∷ qs) new
    judged_goes (Ok u) (inl j, grows, keeps) = event_taken j.0 j.1 j.2 grows keeps
    judged_goes (Ok u) (inr p, grows, keeps) =
        read_so x e is.kinds is.are is.history is.positions (passed_over p.0) keeps grows p.1.1
    judged_goes (Err stop) (inl (inl j, keeps)) = judged_stops stop j keeps
    judged_goes (Err stop) (inl (inr p, keeps)) =
        left_stops x e is.kinds is.are is.history is.positions (passed_over p.0) stop p.1.0
    judged_goes (Err stop) (inr memory) = memory_goes stop memory

  event_goes : (x : Event) (e : IsEvent line w.events x old.follower.stage mid.follower.stage)
      (o : Option Monitor) → IsMonitored (Running e.before) w.events o
      → (result : Result (Unit {0}) Stop) → IsTaken o x mid new result
      → StateAfterLine result ps (q ∷ qs) new
  event_goes x e (Some m) is result t = judged_goes x e m is result t
  event_goes x e None is result t =
      left_goes x e is.kinds is.are is.history is.positions
      (λ watched. is.unwatched (subst (λ (h : HeadingModel). AreWatched h (reverse w.events))
      (sym e.heading) watched.1)) result t

  -- THE LINE END

  module _ (e : IsEnd line w.events old.follower.stage) where
    abbrev read : OneRead
    read = record { recorded = e.whole; number = old.number + 1; rest = q ∷ qs }

    abbrev reached_whole : IsReached w.start w.begun (Ended e.whole) (old.number + 1) (q ∷ qs)
    reached_whole = steps_on (Ended e.whole) e.steps

    good_read : (m : Monitor) → IsMonitoring e.whole w.events m → IsGood e.whole
    good_read m is = record {
      kinds = is.kinds;
      recording = record {
        objects = is.are;
        history = subst (λ (es : List Event). IsHistory is.kinds (reverse es)) (sym e.events_are)
            is.history;
        positions = subst (λ (es : List Event). clock (reverse es) ≡ length es) (sym e.events_are)
            is.positions;
      };
      linearizable = subst (λ (es : List Event). IsLinearizable is.kinds (reverse es))
          (sym e.events_are) is.linearizable;
    }

    whole_watched : IsReading e.whole w.events → CallsUnwatched e.whole
    whole_watched reading = λ watched.
        reading.unwatched (subst (AreWatched e.whole.heading) (ap reverse e.events_are) watched)

    whole_read : parse_from w.start Opening w.begun ≡ Ok read
    whole_read = reached_end w.start w.begun e.whole (old.number + 1) q qs reached_whole

    good_now : IsGood e.whole → AreGood 1 ps (w.reads ++ read ∷ []) (old.number + 1) (q ∷ qs)
    good_now good = good_more 1 ps w.reads w.start w.begun read w.good whole_read good

    load_now : IsNext mid new → IsLoad (w.reads ++ read ∷ []) [] new.load
    load_now next =
        let before : IsLoad w.reads (reverse w.events) mid.load =
        subst (IsLoad w.reads (reverse w.events)) (sym load) w.load in
        let c : calls_of (reverse e.whole.events) ≡ calls_of (reverse w.events) =
        ap (λ (es : List Event). calls_of (reverse es)) e.events_are in
        let o : others_of (reverse e.whole.events) ≡ others_of (reverse w.events) =
        ap (λ (es : List Event). others_of (reverse es)) e.events_are in
        record {
          histories = omega (
            arith,
            next.histories,
            before.histories,
            length-append w.reads (read ∷ []),
          );
          calls = omega (arith, next.calls, before.calls, c, calls_more w.reads read);
          others = omega (arith, next.others, before.others, o, others_more w.reads read);
        }

    next_goes : IsGood e.whole → IsNext mid new → IsWatching ps (q ∷ qs) new
    next_goes good next =
        built_state ps (q ∷ qs) new (w.reads ++ read ∷ []) (old.number + 1) (q ∷ qs) [] Opening
        (old.number + 1) (good_now good) next.opening (next.number ∙ number)
        (reached_first (old.number + 1) (q ∷ qs)) opening_open next.seen tt (load_now next)
        (next.first ∙ next.number ∙ number) next.kept

    again_goes : IsGood e.whole → (result : Result (Unit {0}) Stop) → IsBegunAgain mid new result
        → StateAfterLine result ps (q ∷ qs) new
    again_goes good (Ok u) next = next_goes good next
    again_goes good (Err stop) memory = memory_goes stop memory

    -- the history was decided now
    same_whole : (later : Watcher) (result : Result (Unit {0}) Stop) (d : DecidesAs mid later result)
        → IsSame d.decided e.whole (old.number + 1)
    same_whole later result d =
        read_again w.start w.begun e.whole (old.number + 1) q qs reached_whole d.bytes d.decided
        (subst (HoldsText (w.reached.lines ++ line ∷ [])) d.was kept)
        (subst (λ (n : ℕ). DecidesText n d.bytes.items d.decided) (first ∙ w.first) d.decides)

    has_verdict : (later : Watcher) (result : Result (Unit {0}) Stop) (d : DecidesAs mid later result)
        (v : Verdict) → d.decided.verdict ≡ v → HasVerdict d.decided.read.recording v
    has_verdict later result d v is =
        subst (HasVerdict d.decided.read.recording) is d.decides.verdict

    good_decided : (later : Watcher) (u : Unit {0}) (d : DecidesAs mid later (Ok u)) (v : Verdict)
        → d.decided.verdict ≡ v → Ok u ≡ outcome_of v → IsGood e.whole
    good_decided later u d (verdicts.Linearizable order) is outcome =
        subst IsGood (same_whole later (Ok u) d).recorded
        (good_by_order d.decided.read.recording order
        (has_verdict later (Ok u) d (verdicts.Linearizable order) is))
    good_decided later u d (verdicts.Refused x) is outcome = absurd (let never : ⊥ = cc in never)
    good_decided later u d (verdicts.NotDecided x) is outcome = absurd (let never : ⊥ = cc in never)

    abbrev decided_now : IsReading e.whole w.events → (result : Result (Unit {0}) Stop)
        → DecidesAs mid new result → IsDecided w.start w.begun new
    decided_now reading result d =
        let same : IsSame d.decided e.whole (old.number + 1) = same_whole new result d in
        let found : OneRead =
        record { recorded = d.decided.read.recording; number = d.decided.read.number; rest = q ∷ qs }
        in
        let one : found ≡ read =
        ap (λ (r : RecordingModel).
        record { recorded = r; number = d.decided.read.number; rest = q ∷ qs }) same.recorded
        ∙ ap (λ (n : ℕ). record { recorded = e.whole; number = n; rest = q ∷ qs }) same.number in
        record {
          decided = d.decided;
          is = d.is;
          rest = q ∷ qs;
          reads = whole_read ∙ ap Ok (sym one);
          unwatched = λ watched. whole_watched reading
              (subst (λ (r : RecordingModel). AreWatched r.heading (reverse r.events)) same.recorded
              watched);
        }

    refused_now : IsReading e.whole w.events → (d : DecidesAs mid new (Err stops.RefusedAtEnd))
        (v : Verdict) → d.decided.verdict ≡ v → Err stops.RefusedAtEnd ≡ outcome_of v
        → Stops stops.RefusedAtEnd ps new
    refused_now reading d (verdicts.Refused x) is outcome = stopped stops.RefusedAtEnd (
      decided_now reading (Err stops.RefusedAtEnd) d,
      x,
      is,
      has_verdict new (Err stops.RefusedAtEnd) d (verdicts.Refused x) is,
    )
    refused_now reading d (verdicts.Linearizable order) is outcome =
        absurd (let never : ⊥ = cc in never)
    refused_now reading d (verdicts.NotDecided u) is outcome = absurd (let never : ⊥ = cc in never)

    open_now : IsReading e.whole w.events → (d : DecidesAs mid new (Err stops.NotDecided))
        (v : Verdict) → d.decided.verdict ≡ v → Err stops.NotDecided ≡ outcome_of v
        → Stops stops.NotDecided ps new
    open_now reading d (verdicts.NotDecided u) is outcome = stopped stops.NotDecided (
      decided_now reading (Err stops.NotDecided) d,
      u,
      is,
      has_verdict new (Err stops.NotDecided) d (verdicts.NotDecided u) is,
    )
    open_now reading d (verdicts.Linearizable order) is outcome =
        absurd (let never : ⊥ = cc in never)
    open_now reading d (verdicts.Refused x) is outcome = absurd (let never : ⊥ = cc in never)

    no_outcome : (stop : Stop) (v : Verdict) → Err stop ≡ outcome_of v
        → (stop ≡ stops.RefusedAtEnd) ⊎ (stop ≡ stops.NotDecided)
    no_outcome stop (verdicts.Refused x) outcome = inl cc
    no_outcome stop (verdicts.NotDecided u) outcome = inr cc
    no_outcome stop (verdicts.Linearizable order) outcome = absurd (let never : ⊥ = cc in never)

    end_stops : IsReading e.whole w.events → (stop : Stop) → Decides mid new (Err stop)
        → Stops stop ps new
    end_stops reading stops.Memory d = stopped stops.Memory tt
    end_stops reading stops.TooLarge long =
        too_large (Ended e.whole) e.whole e.steps refl (whole_watched reading) long
    end_stops reading stops.RefusedAtEnd d = refused_now reading d d.decided.verdict refl d.outcome
    end_stops reading stops.NotDecided d = open_now reading d d.decided.verdict refl d.outcome
    end_stops reading (stops.Unread fault) d =
        elim (no_outcome (stops.Unread fault) d.decided.verdict d.outcome) [
          | inl is ↦ absurd (let never : ⊥ = cc in never)
          | inr is ↦ absurd (let never : ⊥ = cc in never)
        ]
    end_stops reading (stops.Refused x report) d =
        elim (no_outcome (stops.Refused x report) d.decided.verdict d.outcome) [
          | inl is ↦ absurd (let never : ⊥ = cc in never)
          | inr is ↦ absurd (let never : ⊥ = cc in never)
        ]

    end_goes : (o : Option Monitor) → IsMonitored (Running e.whole) w.events o
        → (result : Result (Unit {0}) Stop) → EndsHistory o mid new result
        → StateAfterLine result ps (q ∷ qs) new
    end_goes (Some m) is result b = again_goes (good_read m is) result b
    end_goes None is (Ok u) b =
        next_goes (good_decided b.0.0 u b.0.1 b.0.1.decided.verdict refl b.0.1.outcome) b.1
    end_goes None is (Err stop) (inl d) = end_stops is stop d
    end_goes None is (Err stop) (inr memory) = memory_goes stop memory

  -- ANY LINE

  nothing_goes : (h : IsHeading line w.events old.follower.stage mid.follower.stage)
      (result : Result (Unit {0}) Stop) → GoesOnBy lines.Heading mid new result
      → StateAfterLine result ps (q ∷ qs) new
  nothing_goes h (Ok u) same = heading_goes h same
  nothing_goes h (Err stop) same = absurd same

  pub line_goes : (followed : HistoryLine) (result : Result (Unit {0}) Stop)
      → PassesIn followed line w.events old.follower.stage mid.follower.stage
      → GoesOnBy followed mid new result → StateAfterLine result ps (q ∷ qs) new
  line_goes lines.Heading result h by = nothing_goes h result by
  line_goes lines.Run result h by = run_goes h result (by h.begun h.is)
  line_goes (lines.Event x) result e by =
      event_goes x e mid.monitor
      (subst (IsMonitored (Running e.before) w.events) (sym monitor)
      (known_stage (stage_with_events w.events old.follower) e.before w.events old.monitor e.was
      w.monitored)) result by
  line_goes lines.End result e by =
      end_goes e mid.monitor
      (subst (IsMonitored (Running e.whole) w.events) (sym monitor)
      (known_stage (stage_with_events w.events old.follower) e.whole w.events old.monitor e.was
      w.monitored)) result by

-- A FAULTY LINE

-- if the parts are one empty part, that is all that is left
pub one_part : (n : ℕ) (ps : List (List ℕ)) (s : Stage) (m : ℕ) (line : List ℕ) (qs : List (List ℕ))
    → IsReached n ps s m (line ∷ qs) → ps ≡ [] ∷ [] → (Opening ≡ s) × (line ≡ []) × (qs ≡ [])
one_part n ps s m line qs at one = by_lines s line qs at.lines at.leads (sym at.are ∙ one)
  where
    by_lines : (s : Stage) (line : List ℕ) (qs lines : List (List ℕ)) → Leads Opening lines s
        → lines ++ line ∷ qs ≡ [] ∷ [] → (Opening ≡ s) × (line ≡ []) × (qs ≡ [])
    by_lines s line qs [] leads is = (leads, cc, cc)
    by_lines s line qs (l ∷ lines) leads is =
        absurd (omega (arith, length-append (l ∷ lines) (line ∷ qs), ap length is))

-- so a line that is not empty, or has an LF, is not the end
no_end : (n : ℕ) (ps : List (List ℕ)) (s : Stage) (m : ℕ) (line : List ℕ) (qs : List (List ℕ))
    → IsReached n ps s m (line ∷ qs) → (line ≡ [] → qs ≡ [] → ⊥) → IsNoEnd n ps
no_end n ps s m line qs at some = λ past one.
    (let is : (Opening ≡ s) × (line ≡ []) × (qs ≡ []) = one_part n ps s m line qs at one in
    some is.1 is.2)

pub fault_stops : (ps qs : List (List ℕ)) (line : List ℕ) (old new : Watcher)
    (w : IsWatching ps (line ∷ qs) old) (fault : TextFault) → (line ≡ [] → qs ≡ [] → ⊥)
    → IsFaulty fault old.number line (stage_with_events w.events old.follower)
    → Stops (stops.Unread fault) ps new
fault_stops ps qs line old new w (faults.At m kind cause) some faulty = record {
  reads = w.reads;
  start = w.start;
  begun = w.begun;
  good = w.good;
  stops = (
    (
      line,
      subst (λ (k : ℕ). parse_from w.start Opening w.begun ≡ fault_in k kind line) (sym faulty.0)
          (reached_fault w.start w.begun (stage_with_events w.events old.follower) old.number line qs kind
          w.reached some w.going faulty.1),
      faulty.2,
    ),
    no_end w.start w.begun (stage_with_events w.events old.follower) old.number line qs w.reached some,
  );
}
fault_stops ps qs line old new w faults.Memory some faulty = record {
  reads = w.reads;
  start = w.start;
  begun = w.begun;
  good = w.good;
  stops = (
    tt,
    no_end w.start w.begun (stage_with_events w.events old.follower) old.number line qs w.reached some,
  );
}

-- THE END

none_read : (ps : List (List ℕ)) (reads : List OneRead) (n : ℕ) (qs : List (List ℕ))
    → AreGood 1 ps reads n qs → length reads ≡ 0 → 1 < n → ⊥
none_read ps [] n qs good none past =
    let first : 1 ≡ n = good.0 in
    omega arith
none_read ps (r ∷ reads) n qs good none past = omega (arith, none)

cut_no_end : (ps : List (List ℕ)) (rest : List ℕ) (old : Watcher) (w : IsWatching ps (rest ∷ []) old)
    → GoesOnAt rest old → IsNoEnd w.start w.begun
cut_no_end ps rest old w (inl some) =
    no_end w.start w.begun (stage_with_events w.events old.follower) old.number rest [] w.reached
    (λ none more. some none)
cut_no_end ps rest old w (inr (inl none)) = λ past one.
    (let histories : old.load.histories ≡ length w.reads = w.load.histories in
    none_read ps w.reads w.start w.begun w.good (omega arith) past)
cut_no_end ps rest old w (inr (inr opened)) = λ past one.
    (let is = one_part w.start w.begun (stage_with_events w.events old.follower) old.number rest [] w.reached one in
    opened w.events (sym is.0))

pub cut_stops : (ps : List (List ℕ)) (rest : List ℕ) (old new : Watcher)
    (w : IsWatching ps (rest ∷ []) old) (fault : TextFault) → GoesOnAt rest old
    → ReturnsFault (parse_end old.number (stage_with_events w.events old.follower) rest) fault
    → Stops (stops.Unread fault) ps new
cut_stops ps rest old new w fault goes_on tells = record {
  reads = w.reads;
  start = w.start;
  begun = w.begun;
  good = w.good;
  stops = (
    subst (λ o. ReturnsFault o fault)
        (sym (reached_cut w.start w.begun (stage_with_events w.events old.follower) old.number rest w.reached
        w.going)) tells,
    cut_no_end ps rest old w goes_on,
  );
}

pub over_all : (ps : List (List ℕ)) (rest : List ℕ) (old : Watcher) → IsWatching ps (rest ∷ []) old
    → MayEnd rest old → IsOver ps old
over_all ps rest old w may =
    let at : IsReached w.start w.begun Opening old.number (rest ∷ []) =
    subst (λ (s : Stage). IsReached w.start w.begun s old.number (rest ∷ [])) (may.opening w.events)
    w.reached in
    let same = reached_opening w.start w.begun old.number (rest ∷ []) at in
    let none : w.events ≡ [] =
    opening_none w.events old.follower.stage (may.opening w.events) w.seen in
    record {
      reads = w.reads;
      number = w.start;
      rest = w.begun;
      good = w.good;
      some = let e : old.load.histories ≡ length w.reads = w.load.histories in omega (arith, may.some);
      none = same.1 ∙ ap (λ (r : List ℕ). r ∷ []) may.none;
      load = none_loaded w.reads w.events old.load old.load none refl w.load;
    }

-- before the first line of a text
pub begins : (ps : List (List ℕ)) (w : Watcher) → stage_with_events [] w.follower ≡ Opening
    → HasEvents [] w.follower → w.number ≡ 1 → w.load.histories ≡ 0
    → w.load.calls ≡ 0 → w.load.others ≡ 0 → w.first ≡ 1 → HoldsText [] w.kept
    → IsWatching ps ps w
begins ps w is seen number histories calls others first kept =
    built_state ps ps w [] 1 ps [] Opening 1 (refl, refl) is number (reached_first 1 ps) opening_open
    seen tt (record {
      histories = histories;
      calls = omega (arith, calls);
      others = omega (arith, others);
    }) first kept

-- OPENING A MONITOR

running_same : (q r : RecordingModel) → Running q ≡ Running r → q ≡ r
running_same q r is = cc

-- what is declared does not depend on the events
pub opened_same : (q r : RecordingModel) (m : Monitor) → Running (with_events q []) ≡ Running r
    → IsOpened q m → IsOpened r m
opened_same q r m same o =
    subst (λ (t : RecordingModel). IsOpened t m) (running_same (with_events q []) r same)
    (record {
      kinds = o.kinds;
      are = o.are;
      spsc = o.spsc;
      listed = o.listed;
      watches = o.watches;
    })

-- AN EVENT THAT WAS COUNTED

pub event_done : (m : Option Monitor) (x : Event) (old new : Watcher) (n : ℕ)
    (result : Result (Unit {0}) Stop)
    → JudgedBy m old.kept x new.monitor (Ok tt) → KeepsText old new
    → ((events : List Event) (r : RecordingModel) → HasEvents events old.follower
    → stage_with_events events old.follower ≡ Running r
    → n ≡ length (pending_calls (reverse events)))
    → OnOk result (new.load.calls ≡ old.load.calls + invocation_count x.action)
    → OnOk result (new.load.others ≡ old.load.others + others_at x.action n)
    → new.load.histories ≡ old.load.histories → IfErr result (λ stop. stop ≡ stops.Memory)
    → IsTaken m x old new result
event_done m x old new n (Ok u) judged keeps pending calls others histories memory = (
  judged,
  λ events r seen at. record {
    histories = histories;
    calls = calls;
    others = others
        ∙ ap (λ (k : ℕ). old.load.others + others_at x.action k) (pending events r seen at);
  },
  keeps,
)
event_done m x old new n (Err stop) judged keeps pending calls others histories memory = inr memory
