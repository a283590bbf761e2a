-- `watch` and `check` on one text.
use Rattle.std.proofs.Common.{◌≡◌, ◌⊎◌, inl, inr, ℕ, ◌+◌, ◌<◌, ◌≤◌, true, false, List, [], ◌∷◌, ◌++◌, length}
use Rattle.std.proofs.Common.{reverse, cond, slice_get, Some, refl, Ok, ap, sym, ◌∙◌, subst, arith, ◌^◌}
use Rattle.std.proofs.lemmas.Bool.{cases_lt}
use Rattle.std.proofs.lemmas.List.{reverse-append}
use Rattle.ec_text.specs.Puts.{OutputModel}
use Rattle.ec_heading.specs.HeadingModel.{HeadingModel}
use Rattle.ec_heading.specs.Spelling.{lines_text}
use Rattle.calls_core.specs.declared.history.Kind.{Kind}
use Rattle.calls_core.specs.declared.history.Kind.TheVariants.{Eventcount, Sequencer, Semaphores}
use Rattle.calls_core.specs.declared.history.Kind.TheVariants.{Cell, Database, Buffer}
use Rattle.calls_core.specs.declared.history.Event.{Event}
use Rattle.calls_core.specs.declared.history.Placed.{Placed}
use Rattle.calls_core.specs.Histories.{clock, part, IsHistory, IsHistoryOf}
use Rattle.calls_core.specs.Beginnings.{until}
use Rattle.calls_core.specs.Completions.{IsLinearizable}
use Rattle.calls_core.proofs.Beginnings.{history_earlier}
use Rattle.calls_local.proofs.Parts.{a_part_is_a_history}
use Rattle.calls_local.proofs.Wholes.{a_prefix_is_linearizable}
use Rattle.calls_cells.specs.declared.outcome.Undecided as cells
use Rattle.calls_cells.specs.Faults as undecided
use Rattle.calls_verdict.specs.declared.verdict.Cause.{Cause}
use Rattle.calls_verdict.specs.declared.verdict.Cause.TheVariants.{Values, Unfound}
use Rattle.calls_verdict.specs.declared.verdict.Refusal.{Refusal}
use Rattle.calls_verdict.specs.declared.verdict.Undecided.{Undecided}
use Rattle.calls_verdict.specs.Faults.{ShowsUndecided, IsDecided}
use Rattle.calls_verdict.specs.Verdicts.{AreDecided, IsSettled, AreSettled, IsFirstRefusal}
use Rattle.calls_verdict.proofs.Alternatives.{a_refusal_is_final}
use Rattle.calls_verdict.proofs.OneFault.{before_x as until_event, decided_are_settled}
use Rattle.calls_verdict.proofs.OneFault.{until_past, the_first_fault_is_one}
use Rattle.calls_verdict.proofs.Clearing.{decided_settled}
use Rattle.calls_verdict.proofs.Untils.{until_all}
use Rattle.calls_monitor.specs.declared.monitor.Refused.{Refused as Report}
use Rattle.calls_text.specs.Recordings.{RecordingModel, AreKinds, IsRecording}
use Rattle.calls_text.specs.Reading.{Opening, Running}
use Rattle.calls_text.specs.Outcomes.{OneRead, ParseResult, parse_from, fault_in, lines_of_text}
use Rattle.calls_text.proofs.ReachedLines.{reached_goes}
use Rattle.calls_text.proofs.FurtherLines.{GoesFurther, goes_further}
use Rattle.calls_report.specs.declared.status.Status.{Status}
use Rattle.calls_report.specs.declared.status.Status.TheVariants.{Done, Refused, Usage}
use Rattle.calls_report.specs.declared.status.Status.TheVariants.{InputOutput, Memory, NotDecided}
use Rattle.calls_report.specs.Checks.{Outputs, JudgedHistory, AreJudged, IsJudged, HasOrder}
use Rattle.calls_report.specs.Checks.{IsUndecided, IsUnread, IsNoEnd, SaysUnread, SaysRefused, SaysOpen}
use Rattle.calls_report.specs.Checks as checks
use Rattle.calls_report.specs.declared.checking.TheConstants.{TEXT_MAX}
use Rattle.calls_watch.specs.Spsc.{is_spsc}
use Rattle.calls_watch.specs.Watches.{no_object, CallNone, AreWatched, CallsCells, CallsUnwatched}
use Rattle.calls_watch.specs.Watches.{HasCalls}
use Rattle.calls_watch.specs.Watches.{IsGood, AreGood, IsUpTo, IsStopped}
use Rattle.calls_watch.specs.Watches.{IsWatchedTo, Rejects, SaysTooLarge}
use Rattle.calls_watch.specs.Watches as watches
use Rattle.calls_watch.specs.Laws.{AreRead, CallsCellsIn, Agree, WatchAgreesWithCheck, BothRefuseOneEvent}
use Rattle.calls_report.proofs.JudgingLemmas.{goes_past}
use Rattle.calls_watch.proofs.LineLemmas.{one_part}
use Rattle.calls_watch.proofs.TextLemmas.{ordered, good_by_order}
use Rattle.calls_watch.proofs.Rights.{AreAllowed}
use Rattle.calls_watch.proofs.Settled.{was_read, spsc_settled}
use Rattle.calls_watch.proofs.Called.{whole_has_calls, lines_within}
use Rattle.calls_watch.proofs.SameKinds.{all_alike, linearizable_alike, AllAlike}
use Rattle.calls_watch.proofs.Watched.{calls_more}
use Rattle.calls_watch.proofs.Uncalled.{part_calls_none, uncalled, cell_begins}
use Rattle.calls_watch.proofs.Uncalled.{database_begins, buffer_begins, uncalled_order}

-- HOW FAR BOTH HAVE READ

-- both are at the same line, or `check` went on by one history, or `watch` did
abbrev Meets : ℕ → List (List ℕ) → ℕ → List (List ℕ) → Type 0
Meets m qs k rs =
    ((m ≡ k) × (qs ≡ rs))
    ⊎ (((j : JudgedHistory) × (parse_from m Opening qs ≡ Ok j.read)
    × HasOrder j.read.recorded j.order)
    ⊎ ((r : OneRead) × (parse_from k Opening rs ≡ Ok r) × IsGood r.recorded))

one_read : (x y : OneRead) → ◌≡◌ {A = ParseResult} (Ok x) (Ok y) → x ≡ y
one_read x y same = cc

meets : (n : ℕ) (ps : List (List ℕ)) (reads : List OneRead) (m : ℕ) (qs : List (List ℕ))
    (js : List JudgedHistory) (k : ℕ) (rs : List (List ℕ)) → AreGood n ps reads m qs
    → AreJudged n ps js k rs → Meets m qs k rs
meets n ps [] m qs [] k rs good judged = inl (sym good.0 ∙ judged.0, sym good.1 ∙ judged.1)
meets n ps [] m qs (j ∷ js) k rs good judged = inr (inl (
  j,
  sym (ap (λ (i : ℕ). parse_from i Opening ps) good.0 ∙ ap (parse_from m Opening) good.1)
      ∙ judged.0,
  judged.1,
))
meets n ps (r ∷ reads) m qs [] k rs good judged = inr (inr (
  r,
  sym (ap (λ (i : ℕ). parse_from i Opening ps) judged.0 ∙ ap (parse_from k Opening) judged.1)
      ∙ good.0,
  good.1,
))
meets n ps (r ∷ reads) m qs (j ∷ js) k rs good judged =
    let same : r ≡ j.read = one_read r j.read (sym good.0 ∙ judged.0) in
    meets r.number r.rest reads m qs js k rs good.2
    (subst (λ (x : OneRead). AreJudged x.number x.rest js k rs) (sym same) judged.2)

-- there is no history after the last LF
end_none : (m : ℕ) (o : OneRead) → parse_from m Opening ([] ∷ []) ≡ Ok o → ⊥
unfolding parse_from
end_none m o is = cc

over_none : (m : ℕ) (qs : List (List ℕ)) (o : OneRead) → qs ≡ [] ∷ []
    → parse_from m Opening qs ≡ Ok o → ⊥
over_none m qs o none is = end_none m o (ap (parse_from m Opening) (sym none) ∙ is)

-- a text at fault is no history
fault_none : (m : ℕ) (qs : List (List ℕ)) (note : List ℕ) (o : OneRead) → IsUnread m qs note
    → parse_from m Opening qs ≡ Ok o → ⊥
fault_none m qs note o unread is =
    let fault : fault_in unread.0 unread.1 unread.2 ≡ Ok o = sym unread.3 ∙ is in
    cc

-- HISTORIES THAT ARE LINEARIZABLE

far : (i : ℕ) (past : List Event) → until (i + 1 + clock past) past ≡ past
far i past = until_all (i + 1 + clock past) past (omega arith)

good_not_refused : (r : RecordingModel) → IsGood r → (x : Refusal) → checks.IsRefused r x → ⊥
good_not_refused r g x refused =
    let past : List Event = reverse r.events in
    let same : AllAlike g.kinds refused.0 =
    all_alike r.heading r.from g.kinds refused.0 g.recording.objects refused.1.objects in
    a_refusal_is_final refused.0 past x.at x.object x.fault (x.at + 1 + clock past)
    refused.1.history refused.2 (omega arith)
    (subst (IsLinearizable refused.0) (sym (far x.at past))
    (linearizable_alike g.kinds refused.0 same past g.linearizable))

nothing_stored : (u : cells.Undecided) → undecided.ShowsUndecided [] u → ⊥
nothing_stored u shows =
    let never : false ≡ true = shows.outside.repeated.got in
    cc

nothing_undecided : (kind : Kind) (u : Cause) → ShowsUndecided kind [] u → ⊥
nothing_undecided (Eventcount n) u shows = shows
nothing_undecided Sequencer u shows = shows
nothing_undecided (Semaphores units) u shows = shows
nothing_undecided Cell (Values u) shows = nothing_stored u shows
nothing_undecided Cell (Unfound m) shows = shows
nothing_undecided (Database n) (Values u) shows = nothing_stored u shows
nothing_undecided (Database n) (Unfound m) shows = shows
nothing_undecided (Buffer n) (Values u) shows = shows
nothing_undecided (Buffer n) (Unfound m) shows =
    let never : m < 0 = shows.within in
    omega (arith, never)

kind_decided : (kind : Kind) (past : List Event) (u : Cause) → IsHistoryOf kind past
    → CallNone no_object past → ShowsUndecided kind past u → ⊥
kind_decided (Eventcount n) past u h w shows = shows
kind_decided Sequencer past u h w shows = shows
kind_decided (Semaphores units) past u h w shows = shows
kind_decided Cell past u h w shows =
    nothing_undecided Cell u (subst (λ (es : List Event). ShowsUndecided Cell es u)
    (uncalled Cell cell_begins past h w) shows)
kind_decided (Database n) past u h w shows =
    nothing_undecided (Database n) u (subst (λ (es : List Event). ShowsUndecided (Database n) es u)
    (uncalled (Database n) (database_begins n) past h w) shows)
kind_decided (Buffer n) past u h w shows =
    nothing_undecided (Buffer n) u (subst (λ (es : List Event). ShowsUndecided (Buffer n) es u)
    (uncalled (Buffer n) (buffer_begins n) past h w) shows)

is_decided : (kind : Kind) (past : List Event) → IsHistoryOf kind past → CallNone no_object past
    → IsDecided kind past
is_decided (Eventcount n) past h w = λ u shows. kind_decided (Eventcount n) past u h w shows
is_decided Sequencer past h w = λ u shows. kind_decided Sequencer past u h w shows
is_decided (Semaphores units) past h w = λ u shows.
    kind_decided (Semaphores units) past u h w shows
is_decided Cell past h w = λ u shows. kind_decided Cell past u h w shows
is_decided (Database n) past h w = λ u shows. kind_decided (Database n) past u h w shows
is_decided (Buffer n) past h w = uncalled_order (Buffer n) (buffer_begins n) past h w

are_decided : (ks : List Kind) (past : List Event) → IsHistory ks past → CallNone no_object past
    → AreDecided ks past
are_decided ks past h w = λ k kind is.
    is_decided kind (part k past) ((a_part_is_a_history ks k past h).4 kind is)
    (part_calls_none no_object k refl past w)

-- what is judged event by event up to x is settled there
module _ (h : HeadingModel) (from : List (ℕ × ℕ)) (ks : List Kind) (are : AreKinds h from ks)
    (late past : List Event) (x : Event) (history : IsHistory ks (late ++ x ∷ past)) where
  plain_settled : (k : ℕ) (kind : Kind) → slice_get ks k ≡ Some kind → is_spsc h k ≡ false
      → AreWatched h (x ∷ past) → IsSettled kind (late ++ x ∷ past) k (x.at + 1)
  plain_settled k kind at plain watched =
      decided_settled kind (late ++ x ∷ past) k (x.at + 1)
      (subst (λ (es : List Event). IsDecided kind (part k es))
      (sym (until_past ks late (x ∷ past) history))
      (is_decided kind (part k (x ∷ past))
      ((a_part_is_a_history ks k (x ∷ past) (history_earlier ks late (x ∷ past) history)).4 kind at)
      (part_calls_none (is_spsc h) k plain (x ∷ past) watched)))

  all_settled : AreAllowed h (late ++ x ∷ past) → clock (late ++ x ∷ past) + 1 < 2 ^ 64
      → AreWatched h (x ∷ past) → AreSettled ks (late ++ x ∷ past) (x.at + 1)
  all_settled allowed room watched = λ k kind at.
      elim (is_spsc h k) as (λ b. is_spsc h k ≡ b
      → IsSettled kind (late ++ x ∷ past) k (x.at + 1)) [
        | true ↦ λ is. spsc_settled h from ks are (late ++ x ∷ past) history allowed room k is
            (x.at + 1) kind at
        | false ↦ λ plain. plain_settled k kind at plain watched
      ] refl

-- a history that is not decided calls a cell, a database or a buffer
open_calls : (r : RecordingModel) (u : Undecided) → IsUndecided r u → CallsCells r
open_calls r u open_one = λ watched.
    (let shown = open_one.2.shows in
    let past : List Event = reverse r.events in
    kind_decided shown.kind (part u.object past) u.cause
    ((a_part_is_a_history open_one.0 u.object past open_one.1.history).4 shown.kind shown.is)
    (part_calls_none no_object u.object refl past watched) shown.shows)

-- HISTORIES THAT ARE REJECTED

-- a whole history, whose prefix are the events up to the one at which it is rejected
record IsLonger (past : List Event) (x : Event) (r t : RecordingModel) : Type 0 where
  late : List Event
  heading : r.heading ≡ t.heading
  from : r.from ≡ t.from
  are : reverse t.events ≡ late ++ x ∷ past

longer : (n : ℕ) (ps : List (List ℕ)) (m : ℕ) (r : RecordingModel) (kinds : List Kind)
    (past : List Event) (x : Event) → IsUpTo n ps m r kinds past x → (o : OneRead)
    → parse_from n Opening ps ≡ Ok o → IsLonger past x r o.recorded
longer n ps m r kinds past x u o is =
    let f : GoesFurther r o.recorded = goes_further (u.next ∷ u.left) m r o
    (sym (reached_goes n ps (Running r) m u.next u.left u.reached) ∙ is) in
    record {
      late = reverse f.late;
      heading = f.heading;
      from = f.from;
      are = ap reverse f.events ∙ reverse-append r.events f.late
          ∙ ap (λ (es : List Event). reverse f.late ++ es) u.last;
    }

module _ (n : ℕ) (ps : List (List ℕ)) (m : ℕ) (r : RecordingModel) (x : Event) (report : Report)
    (stop : IsStopped n ps m r x report) (o : OneRead) (is : parse_from n Opening ps ≡ Ok o)
    (ks : List Kind) (recording : IsRecording o.recorded ks) where
  more : IsLonger stop.past x r o.recorded
  more = longer n ps m r stop.kinds stop.past x stop.up_to o is

  objects : AreKinds r.heading r.from ks
  objects =
      subst (λ (f : List (ℕ × ℕ)). AreKinds r.heading f ks) (sym more.from)
      (subst (λ (h : HeadingModel). AreKinds h o.recorded.from ks) (sym more.heading) recording.objects)

  there : AllAlike stop.kinds ks
  there = all_alike r.heading r.from stop.kinds ks stop.up_to.recording.objects objects

  back : AllAlike ks stop.kinds
  back = all_alike r.heading r.from ks stop.kinds objects stop.up_to.recording.objects

  history : IsHistory ks (more.late ++ x ∷ stop.past)
  history = subst (IsHistory ks) more.are recording.history

  begun : IsHistory ks (x ∷ stop.past)
  begun = history_earlier ks more.late (x ∷ stop.past) history

  before_x : IsLinearizable ks stop.past
  before_x = linearizable_alike stop.kinds ks there stop.past stop.up_to.before

  none_with_x : IsLinearizable ks (x ∷ stop.past) → ⊥
  none_with_x l = stop.refused.none (linearizable_alike ks stop.kinds back (x ∷ stop.past) l)

  not_whole : IsLinearizable ks (reverse o.recorded.events) → ⊥
  not_whole l =
      none_with_x (a_prefix_is_linearizable ks more.late (x ∷ stop.past) history
      (subst (IsLinearizable ks) more.are l))

  abbrev IsFirst : Refusal → Type 0
  IsFirst f = IsFirstRefusal ks (more.late ++ x ∷ stop.past) f.at f.object f.fault

  is_first : (f : Refusal) → IsFirstRefusal ks (reverse o.recorded.events) f.at f.object f.fault
      → IsFirst f
  is_first f first =
      subst (λ (es : List Event). IsFirstRefusal ks es f.at f.object f.fault) more.are first

  not_later : (f : Refusal) → IsFirst f → x.at ≤ f.at
  not_later f first =
      elim (cases_lt f.at x.at) [
        | inl early ↦ absurd (a_refusal_is_final ks (more.late ++ x ∷ stop.past) f.at f.object f.fault
            x.at history first early
            (subst (IsLinearizable ks) (sym (until_event ks more.late stop.past x history)) before_x))
        | inr ge ↦ ge
      ]

  same_event : (f : Refusal) → IsFirst f → AreSettled ks (more.late ++ x ∷ stop.past) (x.at + 1)
      → x.at ≡ f.at
  same_event f first settled =
      sym (the_first_fault_is_one ks more.late stop.past x f.at f.object f.fault history settled
      before_x none_with_x first)

  same_uncalled : (f : Refusal) → IsFirst f → CallNone no_object (x ∷ stop.past) → x.at ≡ f.at
  same_uncalled f first none =
      same_event f first (decided_are_settled ks more.late stop.past x history
      (are_decided ks (x ∷ stop.past) begun none))

  same_short : (f : Refusal) → IsFirst f → length o.recorded.events + 1 < 2 ^ 64
      → AreAllowed o.recorded.heading (reverse o.recorded.events) → x.at ≡ f.at
  same_short f first short allowed =
      let same : clock (reverse o.recorded.events) ≡ clock (more.late ++ x ∷ stop.past) =
      ap clock more.are in
      let all : AreAllowed r.heading (more.late ++ x ∷ stop.past) =
      subst (λ (h : HeadingModel). AreAllowed h (more.late ++ x ∷ stop.past)) (sym more.heading)
      (subst (AreAllowed o.recorded.heading) more.are allowed) in
      same_event f first (all_settled r.heading r.from ks objects more.late stop.past x history all
      (omega (arith, short, same, recording.positions)) (stop.watched, stop.up_to.watched))

stopped_no_order : (n : ℕ) (ps : List (List ℕ)) (m : ℕ) (r : RecordingModel) (x : Event)
    (report : Report) → IsStopped n ps m r x report → (j : JudgedHistory)
    → parse_from n Opening ps ≡ Ok j.read → HasOrder j.read.recorded j.order → ⊥
stopped_no_order n ps m r x report stop j is has =
    not_whole n ps m r x report stop j.read is has.0 has.1
    (ordered has.0 j.read.recorded j.order has.1 has.2)

stopped_some : (n : ℕ) (ps : List (List ℕ)) (m : ℕ) (r : RecordingModel) (x : Event) (report : Report)
    → IsStopped n ps m r x report → ps ≡ [] ∷ [] → ⊥
stopped_some n ps m r x report stop one =
    let u = stop.up_to in
    let same : Opening ≡ Running r = (one_part n ps (Running r) m u.next u.left u.reached one).0 in
    cc

-- CALLS OF CELLS, DATABASES AND BUFFERS

-- a history that is not decided
open_in : (text : List ℕ) (reads : List OneRead) (m : ℕ) (qs : List (List ℕ)) (o : OneRead)
    (u : Undecided) → AreRead 1 (lines_of_text text) reads m qs → parse_from m Opening qs ≡ Ok o
    → IsUndecided o.recorded u → CallsCellsIn text
open_in text reads m qs o u are is open_one = record {
  reads = reads;
  number = m;
  rest = qs;
  are = are;
  cells = whole_has_calls CallsCells text reads m qs o are is (open_calls o.recorded u open_one);
}

all_calls : (m : ℕ) (qs : List (List ℕ)) → HasCalls CallsUnwatched m qs → HasCalls CallsCells m qs
all_calls m qs c = record {
  stage = c.stage;
  number = c.number;
  next = c.next;
  left = c.left;
  reached = c.reached;
  recorded = c.recorded;
  is = c.is;
  calls = λ none. c.calls
      (calls_more (is_spsc c.recorded.heading) (reverse c.recorded.events) none);
}

-- one that is too large
large_in : (text : List ℕ) (reads : List OneRead) (m : ℕ) (qs : List (List ℕ))
    (old new : OutputModel) → AreRead 1 (lines_of_text text) reads m qs
    → SaysTooLarge m qs old new → CallsCellsIn text × (TEXT_MAX < length text)
large_in text reads m qs old new are large = (
  record { reads = reads; number = m; rest = qs; are = are; cells = all_calls m qs large.0 },
  (let within : length (lines_text large.0.reached.lines) ≤ length text =
      lines_within text reads m qs large.0.stage large.0.number large.0.next large.0.left are
      large.0.reached in
      omega (arith, within, large.1)),
)

good_are_read : (n : ℕ) (ps : List (List ℕ)) (reads : List OneRead) (m : ℕ) (qs : List (List ℕ))
    → AreGood n ps reads m qs → AreRead n ps reads m qs
good_are_read n ps [] m qs good = good
good_are_read n ps (r ∷ reads) m qs good =
    (good.0, good_are_read r.number r.rest reads m qs good.2)

abbrev reads_of : List JudgedHistory → List OneRead
reads_of [] = []
reads_of (j ∷ js) = j.read ∷ reads_of js

judged_read : (n : ℕ) (ps : List (List ℕ)) (js : List JudgedHistory) (m : ℕ) (qs : List (List ℕ))
    → AreJudged n ps js m qs → AreRead n ps (reads_of js) m qs
judged_read n ps [] m qs judged = judged
judged_read n ps (j ∷ js) m qs judged =
    (judged.0, judged_read j.read.number j.read.rest js m qs judged.2)

-- BOTH

past_read : (ps : List (List ℕ)) (reads : List OneRead) (m : ℕ) (qs : List (List ℕ)) (n : ℕ)
    → AreGood n ps reads m qs → n ≤ m
past_read ps [] m qs n good =
    let same : n ≡ m = good.0 in
    omega arith
past_read ps (r ∷ reads) m qs n good =
    let more : n + 1 ≤ r.number = goes_past n ps r good.0 in
    let rest : r.number ≤ m = past_read r.rest reads m qs r.number good.2 in
    omega arith

some_read : (ps : List (List ℕ)) (reads : List OneRead) (m : ℕ) (qs : List (List ℕ))
    → AreGood 1 ps reads m qs → 0 < length reads → 1 < m
some_read ps [] m qs good some = absurd (omega (arith, some))
some_read ps (r ∷ reads) m qs good some =
    let more : 1 + 1 ≤ r.number = goes_past 1 ps r good.0 in
    let rest : r.number ≤ m = past_read r.rest reads m qs r.number good.2 in
    omega arith

moved : (m k : ℕ) (qs rs : List (List ℕ)) (o : OneRead) → m ≡ k → qs ≡ rs
    → parse_from k Opening rs ≡ Ok o → parse_from m Opening qs ≡ Ok o
moved m k qs rs o e f is = ap (λ (i : ℕ). parse_from i Opening qs) e ∙ ap (parse_from k Opening) f
    ∙ is

good_read : (k : ℕ) (rs : List (List ℕ)) (r o : OneRead) → parse_from k Opening rs ≡ Ok r
    → parse_from k Opening rs ≡ Ok o → IsGood r.recorded → IsGood o.recorded
good_read k rs r o one other good =
    subst (λ (x : OneRead). IsGood x.recorded) (one_read r o (sym one ∙ other)) good

done_refused : (m : ℕ) (qs : List (List ℕ)) (k : ℕ) (rs : List (List ℕ)) (b a : OutputModel) → 1 < m
    → qs ≡ [] ∷ [] → Meets m qs k rs → SaysUnread k rs b a ⊎ SaysRefused k rs b a → ⊥
done_refused m qs k rs b a past none (inl (e, f)) (inl u) =
    u.2 (subst (λ (i : ℕ). 1 < i) e past) (sym f ∙ none)
done_refused m qs k rs b a past none (inl (e, f)) (inr s) = over_none k rs s.0 (sym f ∙ none) s.2
done_refused m qs k rs b a past none (inr (inl j)) found = over_none m qs j.0.read none j.1
done_refused m qs k rs b a past none (inr (inr g)) (inl u) = fault_none k rs u.0 g.0 u.1 g.1
done_refused m qs k rs b a past none (inr (inr g)) (inr s) =
    good_not_refused s.0.recorded (good_read k rs g.0 s.0 g.1 s.2 g.2) s.1 s.3

ordered_not_refused : (r : RecordingModel) (order : List Placed) (x : Refusal) → HasOrder r order
    → checks.IsRefused r x → ⊥
ordered_not_refused r order x has refused = good_not_refused r (good_by_order r order has) x refused

-- a history that both have read
read_once : (m : ℕ) (qs : List (List ℕ)) (j : JudgedHistory) (o : OneRead) (x : Refusal)
    → parse_from m Opening qs ≡ Ok j.read → HasOrder j.read.recorded j.order
    → parse_from m Opening qs ≡ Ok o → checks.IsRefused o.recorded x → ⊥
read_once m qs j o x one has other refused =
    ordered_not_refused j.read.recorded j.order x has
    (subst (λ (k : OneRead). checks.IsRefused k.recorded x) (one_read o j.read (sym other ∙ one))
    refused)

-- `watch` rejects a text, and `check` does not: then it is too large
refused_done : (m : ℕ) (qs : List (List ℕ)) (k : ℕ) (rs : List (List ℕ)) (old new : OutputModel)
    → 1 < k → rs ≡ [] ∷ [] → Meets m qs k rs → Rejects m qs old new → SaysTooLarge m qs old new
refused_done m qs k rs old new past none at (inr (inr (inr large))) = large
refused_done m qs k rs old new past none (inl (e, f)) (inl u) =
    absurd (u.2 (subst (λ (i : ℕ). 1 < i) (sym e) past) (f ∙ none))
refused_done m qs k rs old new past none (inl (e, f)) (inr (inl s)) =
    absurd (stopped_some m qs s.0 s.1 s.2 s.3 s.4 (f ∙ none))
refused_done m qs k rs old new past none (inl (e, f)) (inr (inr (inl s))) =
    absurd (over_none m qs s.0.0 (f ∙ none) s.0.2)
refused_done m qs k rs old new past none (inr (inl j)) (inl u) =
    absurd (fault_none m qs u.0 j.0.read u.1 j.1)
refused_done m qs k rs old new past none (inr (inl j)) (inr (inl s)) =
    absurd (stopped_no_order m qs s.0 s.1 s.2 s.3 s.4 j.0 j.1 j.2)
refused_done m qs k rs old new past none (inr (inl j)) (inr (inr (inl s))) =
    absurd (read_once m qs j.0 s.0.0 s.0.1 j.1 j.2 s.0.2 s.0.3)
refused_done m qs k rs old new past none (inr (inr g)) found =
    absurd (over_none k rs g.0 none g.1)

agree : (text : List ℕ) (watched checked : Status) (reads : List OneRead) (m : ℕ)
    (qs : List (List ℕ)) (judged : List JudgedHistory) (k : ℕ) (rs : List (List ℕ))
    (old new : Outputs) (b a : OutputModel) → AreGood 1 (lines_of_text text) reads m qs
    → AreJudged 1 (lines_of_text text) judged k rs → Meets m qs k rs
    → watches.Ends watched reads m qs old new → checks.Ends checked k rs b a
    → Agree text watched checked
agree text Done Done reads m qs js k rs old new b a good judged at w c = tt
agree text Done Memory reads m qs js k rs old new b a good judged at w c = tt
agree text Done Refused reads m qs js k rs old new b a good judged at w c =
    done_refused m qs k rs b a (some_read (lines_of_text text) reads m qs good w.0) w.1 at c
agree text Done NotDecided reads m qs js k rs old new b a good judged at w c =
    open_in text (reads_of js) k rs c.0 c.1 (judged_read 1 (lines_of_text text) js k rs judged) c.2
    c.3
agree text Done Usage reads m qs js k rs old new b a good judged at w c = c
agree text Done InputOutput reads m qs js k rs old new b a good judged at w c = c
agree text InputOutput Done reads m qs js k rs old new b a good judged at w c = tt
agree text InputOutput Memory reads m qs js k rs old new b a good judged at w c = tt
agree text InputOutput Refused reads m qs js k rs old new b a good judged at w c =
    done_refused m qs k rs b a (some_read (lines_of_text text) reads m qs good w.0) w.1 at c
agree text InputOutput NotDecided reads m qs js k rs old new b a good judged at w c =
    open_in text (reads_of js) k rs c.0 c.1 (judged_read 1 (lines_of_text text) js k rs judged) c.2
    c.3
agree text InputOutput Usage reads m qs js k rs old new b a good judged at w c = c
agree text InputOutput InputOutput reads m qs js k rs old new b a good judged at w c = c
agree text Refused Refused reads m qs js k rs old new b a good judged at w c = tt
agree text Refused Memory reads m qs js k rs old new b a good judged at w c = tt
agree text Refused Done reads m qs js k rs old new b a good judged at w c =
    large_in text reads m qs old.notes new.notes (good_are_read 1 (lines_of_text text) reads m qs good)
    (refused_done m qs k rs old.notes new.notes c.0 c.1 at w.1)
agree text Refused NotDecided reads m qs js k rs old new b a good judged at w c =
    open_in text (reads_of js) k rs c.0 c.1 (judged_read 1 (lines_of_text text) js k rs judged) c.2
    c.3
agree text Refused Usage reads m qs js k rs old new b a good judged at w c = c
agree text Refused InputOutput reads m qs js k rs old new b a good judged at w c = c
agree text NotDecided checked reads m qs js k rs old new b a good judged at w c =
    open_in text reads m qs w.1.0 w.1.1 (good_are_read 1 (lines_of_text text) reads m qs good) w.1.2
    w.1.3
agree text Memory checked reads m qs js k rs old new b a good judged at w c = tt
agree text Usage checked reads m qs js k rs old new b a good judged at w c = absurd w

pub watch_agrees_with_check : WatchAgreesWithCheck
watch_agrees_with_check = λ text watched checked old new judged before after w c.
    agree text watched checked w.reads w.number w.rest judged c.number c.rest old new c.remarked
    after w.good c.judged_are
    (meets 1 (lines_of_text text) w.reads w.number w.rest judged c.number c.rest w.good c.judged_are)
    w.ends c.ends

one_event : (text : List ℕ) (reads : List OneRead) (n : ℕ) (ps : List (List ℕ)) (m : ℕ)
    (r : RecordingModel) (x : Event) (report : Report) (k : ℕ) (qs : List (List ℕ))
    (read : OneRead) (refusal : Refusal) → AreRead 1 (lines_of_text text) reads n ps
    → Meets n ps k qs → IsStopped n ps m r x report → parse_from k Opening qs ≡ Ok read
    → checks.IsRefused read.recorded refusal
    → (n ≡ k) × (x.at ≤ refusal.at)
    × (CallNone no_object (reverse r.events) ⊎ (length text < 2 ^ 64) → x.at ≡ refusal.at)
one_event text reads n ps m r x report k qs read refusal are (inl (e, f)) stop is refused =
    (let there = moved n k ps qs read e f is in
    let ks = refused.0 in
    let recording = refused.1 in
    let first = is_first n ps m r x report stop read there ks recording refusal refused.2 in
    let whole = was_read text reads n ps read are there in (
      e,
      not_later n ps m r x report stop read there ks recording refusal first,
      λ either. elim either [
        | inl none ↦ same_uncalled n ps m r x report stop read there ks recording refusal first
            (subst (CallNone no_object) stop.up_to.last none)
        | inr short ↦ same_short n ps m r x report stop read there ks recording refusal first
            (omega (arith, short, whole.0)) whole.1
      ],
    ))
one_event text reads n ps m r x report k qs read refusal are (inr (inl j)) stop is refused =
    absurd (stopped_no_order n ps m r x report stop j.0 j.1 j.2)
one_event text reads n ps m r x report k qs read refusal are (inr (inr g)) stop is refused =
    absurd (good_not_refused read.recorded (good_read k qs g.0 read g.1 is g.2) refusal refused)

pub both_refuse_one_event : BothRefuseOneEvent
both_refuse_one_event =
    λ text reads n ps m r x report judged k qs read refusal good stop judged_are is refused.
    one_event text reads n ps m r x report k qs read refusal
    (good_are_read 1 (lines_of_text text) reads n ps good)
    (meets 1 (lines_of_text text) reads n ps judged k qs good judged_are) stop is refused
