-- What the state of `watch` represents, after some lines of a text.
use Rattle.std.specs.Prelude.{◌≡◌, ◌≢◌, ◌<◌, ◌⊎◌, ℕ, ◌+◌, List, [], ◌∷◌, ◌++◌, length, reverse, Option, Some, None}
use Rattle.std.specs.Prelude.{Result, Ok, Err, Bool, false, if◌then◌else◌, ⊤}
use Rattle.std.specs.Global.{Vec}
use Rattle.std.specs.List.{All}
use Rattle.calls_core.specs.declared.history.Kind.{Kind}
use Rattle.calls_core.specs.declared.history.Event.{Event}
use Rattle.calls_core.specs.Histories.{IsHistory, clock, pending_calls}
use Rattle.calls_core.specs.Completions.{IsLinearizable}
use Rattle.ec_heading.specs.Spelling.{lines_text}
use Rattle.calls_verdict.specs.declared.verdict.Refusal.{Refusal}
use Rattle.calls_verdict.specs.declared.verdict.Undecided.{Undecided}
use Rattle.calls_verdict.specs.declared.verdict.Verdict.TheVariants as verdicts
use Rattle.calls_monitor.specs.declared.monitor.Monitor.{Monitor}
use Rattle.calls_monitor.specs.declared.monitor.Rejection.TheVariants as rejections
use Rattle.calls_monitor.specs.Monitors.{Judges}
use Rattle.calls_monitor.specs.kept.Watching as monitors
use Rattle.calls_text.specs.declared.following.HistoryLine.{HistoryLine}
use Rattle.calls_text.specs.declared.following.HistoryLine.TheVariants as lines
use Rattle.calls_text.specs.Recordings.{RecordingModel, AreKinds}
use Rattle.calls_text.specs.Reading.{Stage, Opening, Running, is_ended}
use Rattle.calls_text.specs.Outcomes.{OneRead, parse_from, lines_of_text, ReturnsFault}
use Rattle.calls_text.specs.Following.{stage_with_events, HasEvents, IsReached}
use Rattle.calls_report.specs.declared.checking.TheConstants.{TEXT_MAX}
use Rattle.calls_report.specs.Checks.{IsNoEnd}
use Rattle.calls_report.specs.Checks as checks
use Rattle.calls_watch.specs.declared.feeder.Feeder.{Feeder}
use Rattle.calls_watch.specs.declared.kept.Kept.{Kept}
use Rattle.calls_watch.specs.declared.kept.Kept.TheVariants.{Text, Unneeded, TooLong}
use Rattle.calls_watch.specs.declared.load.Load.{Load}
use Rattle.calls_watch.specs.declared.stop.Stop.{Stop}
use Rattle.calls_watch.specs.declared.stop.Stop.TheVariants as stops
use Rattle.calls_watch.specs.declared.watcher.Watcher.{Watcher}
use Rattle.calls_watch.specs.declared.whole.DecidedHistory.{DecidedHistory}
use Rattle.calls_watch.specs.Loads.{IsLoad, invocation_count, others_at}
use Rattle.calls_watch.specs.Spsc.{AreListed}
use Rattle.calls_watch.specs.Watches.{AreGood, IsStopped, HasCalls, AreWatched, CallsUnwatched}
use Rattle.calls_watch.specs.kept.Texts.{HoldsText, DecidesText, outcome_of}

-- ONE HISTORY

-- the monitor represents these events, which are a history of the objects that are declared
pub record IsMonitoring (r : RecordingModel) (events : List Event) (m : Monitor) : Type 0 where
  pub kinds : List Kind
  pub are : AreKinds r.heading r.from kinds
  pub spsc : List ℕ
  pub listed : AreListed r.heading spsc
  pub watched : AreWatched r.heading (reverse events)
  pub linearizable : IsLinearizable kinds (reverse events)
  pub history : IsHistory kinds (reverse events)
  pub positions : clock (reverse events) ≡ length events
  pub watches : monitors.Watches kinds spsc (reverse events) m

-- these events, among them a call of an object that is not watched, are a history of the objects that
-- are declared
pub record IsReading (r : RecordingModel) (events : List Event) : Type 0 where
  pub kinds : List Kind
  pub are : AreKinds r.heading r.from kinds
  pub unwatched : AreWatched r.heading (reverse events) → ⊥
  pub history : IsHistory kinds (reverse events)
  pub positions : clock (reverse events) ≡ length events

-- while events may come there is a monitor, or they are only read
abbrev pub IsMonitored : Stage → List Event → Option Monitor → Type 0
IsMonitored (Running r) events (Some m) = IsMonitoring r events m
IsMonitored (Running r) events None = IsReading r events
IsMonitored _ events m = Unit {0}

-- THE TEXT

-- ps are the parts of a text, and qs those that are left. Before them came linearizable histories,
-- and a prefix of one more, which is linearizable, or calls an object that is not watched
pub record IsWatching (ps qs : List (List ℕ)) (w : Watcher) : Type 0 where
  pub reads : List OneRead
  pub start : ℕ
  pub begun : List (List ℕ)
  pub good : AreGood 1 ps reads start begun
  pub events : List Event
  pub reached : IsReached start begun (stage_with_events events w.follower) w.number qs
  pub going : is_ended (stage_with_events events w.follower) ≡ false
  pub seen : HasEvents events w.follower
  pub monitored : IsMonitored (stage_with_events events w.follower) events w.monitor
  pub load : IsLoad reads (reverse events) w.load
  pub first : w.first ≡ start
  pub kept : HoldsText reached.lines w.kept

-- the history that was decided at its end, from line n on, calls an object that is not watched
pub record IsDecided (n : ℕ) (ps : List (List ℕ)) (w : Watcher) : Type 0 where
  pub decided : DecidedHistory
  pub is : w.decided ≡ Some decided
  pub rest : List (List ℕ)
  pub reads : parse_from n Opening ps
      ≡ Ok (record { recorded = decided.read.recording; number = decided.read.number; rest = rest })
  pub unwatched : CallsUnwatched decided.read.recording

-- why the text is not watched further, from line n on, if the parts are these
abbrev pub StopsAt : Stop → ℕ → List (List ℕ) → Watcher → Type 0
StopsAt (stops.Unread fault) n ps w = ReturnsFault (parse_from n Opening ps) fault × IsNoEnd n ps
StopsAt (stops.Refused x report) n ps w =
    (r : RecordingModel) × (events : List Event) × (stage_with_events events w.follower ≡ Running r)
    × IsStopped n ps w.number r x report
StopsAt stops.RefusedAtEnd n ps w =
    (d : IsDecided n ps w) × (x : Refusal) × (d.decided.verdict ≡ verdicts.Refused x)
    × checks.IsRefused d.decided.read.recording x
StopsAt stops.NotDecided n ps w =
    (d : IsDecided n ps w) × (u : Undecided) × (d.decided.verdict ≡ verdicts.NotDecided u)
    × checks.IsUndecided d.decided.read.recording u
StopsAt stops.TooLarge n ps w =
    (c : HasCalls CallsUnwatched n ps) × (TEXT_MAX < length (lines_text c.reached.lines))
StopsAt stops.Memory n ps w = Unit {0}

pub record Stops (stop : Stop) (ps : List (List ℕ)) (w : Watcher) : Type 0 where
  pub reads : List OneRead
  pub start : ℕ
  pub begun : List (List ℕ)
  pub good : AreGood 1 ps reads start begun
  pub stops : StopsAt stop start begun w

abbrev pub StateAfterLine : Result (Unit {0}) Stop → List (List ℕ) → List (List ℕ) → Watcher
    → Type 0
StateAfterLine (Ok u) ps qs w = IsWatching ps qs w
StateAfterLine (Err stop) ps qs w = Stops stop ps w

-- no byte is left, a history has ended, and the next has not begun
pub record MayEnd (rest : List ℕ) (w : Watcher) : Type 0 where
  pub none : rest ≡ []
  pub some : 0 < w.load.histories
  pub opening : (events : List Event) → stage_with_events events w.follower ≡ Opening

-- bytes are left, or no history has ended, or the next has begun
abbrev pub GoesOnAt : List ℕ → Watcher → Type 0
GoesOnAt rest w =
    (rest ≡ [] → ⊥) ⊎ ((w.load.histories ≡ 0)
    ⊎ ((events : List Event) → stage_with_events events w.follower ≡ Opening → ⊥))

-- the text has ended after a history
pub record IsOver (ps : List (List ℕ)) (w : Watcher) : Type 0 where
  pub reads : List OneRead
  pub number : ℕ
  pub rest : List (List ℕ)
  pub good : AreGood 1 ps reads number rest
  pub some : 0 < length reads
  pub none : rest ≡ [] ∷ []
  pub load : IsLoad reads [] w.load

abbrev pub EndsAs : Result (Unit {0}) Stop → List (List ℕ) → Watcher → Type 0
EndsAs (Ok u) ps w = IsOver ps w
EndsAs (Err stop) ps w = Stops stop ps w

-- PARTS OF A LINE

-- a monitor of what is declared
pub record IsOpened (r : RecordingModel) (m : Monitor) : Type 0 where
  pub kinds : List Kind
  pub are : AreKinds r.heading r.from kinds
  pub spsc : List ℕ
  pub listed : AreListed r.heading spsc
  pub watches : monitors.Watches kinds spsc [] m

-- the text has to be kept
abbrev pub NeedsText : Kept → Result (Unit {0}) Stop → Type 0
NeedsText k (Ok u) = Unit {0}
NeedsText k (Err stops.TooLarge) = k ≡ TooLong
NeedsText k (Err stops.Memory) = Unit {0}
NeedsText k (Err _) = ⊥

-- the event is not one for the monitor
abbrev pub IsPassedOver : Monitor → Event → Type 0
IsPassedOver m x = (n : Monitor) × Judges m n x (Err rejections.Unwatched)

-- the event was judged by a monitor
abbrev pub IsJudged : Monitor → Event → Option Monitor → Result (Unit {0}) Stop → Type 0
IsJudged m x new (Ok u) = (n : Monitor) × (new ≡ Some n) × Judges m n x (Ok u)
IsJudged m x new (Err (stops.Refused y report)) =
    (y ≡ x) × ((n : Monitor) × Judges m n x (Err (rejections.Refused report)))
IsJudged m x new (Err stops.Memory) = Unit {0}
IsJudged m x new (Err _) = ⊥

-- the event was not judged
abbrev pub IsUnjudged : Kept → Option Monitor → Result (Unit {0}) Stop → Type 0
IsUnjudged k new result = NeedsText k result × (new ≡ None)

abbrev pub JudgedBy : Option Monitor → Kept → Event → Option Monitor → Result (Unit {0}) Stop
    → Type 0
JudgedBy (Some m) k x new result =
    IsJudged m x new result ⊎ (IsPassedOver m x × IsUnjudged k new result)
JudgedBy None k x new result = IsUnjudged k new result

-- a load after an event, after which so many calls are pending
pub record IsLoadAfter (old : Load) (x : Event) (pending : ℕ) (new : Load) : Type 0 where
  pub histories : new.histories ≡ old.histories
  pub calls : new.calls ≡ old.calls + invocation_count x.action
  pub others : new.others ≡ old.others + others_at x.action pending

-- the monitor of a history was opened, and its text is kept if it is needed
abbrev pub Begins : RecordingModel → Watcher → Watcher → Result (Unit {0}) Stop → Type 0
Begins r old new (Ok u) =
    (m : Monitor) × (new.monitor ≡ Some m) × IsOpened r m × (new.follower ≡ old.follower)
    × (new.number ≡ old.number) × (new.load ≡ old.load) × (new.first ≡ old.first)
    × ((b : Bool) × (new.kept ≡ (if b then old.kept else Unneeded)))
Begins r old new (Err stops.Memory) = Unit {0}
Begins r old new (Err _) = ⊥

-- how the load grows by an event, if the follower has seen it
abbrev pub LoadGrows : Watcher → Event → Watcher → Type 0
LoadGrows old x new =
    (events : List Event) (r : RecordingModel) → HasEvents events old.follower
    → stage_with_events events old.follower ≡ Running r
    → IsLoadAfter old.load x (length (pending_calls (reverse events))) new.load

-- what an event leaves as it was
pub record KeepsText (old new : Watcher) : Type 0 where
  pub follower : new.follower ≡ old.follower
  pub number : new.number ≡ old.number
  pub first : new.first ≡ old.first
  pub kept : new.kept ≡ old.kept

-- an event was judged by this monitor, or only read without one, and counted
abbrev pub IsTaken : Option Monitor → Event → Watcher → Watcher → Result (Unit {0}) Stop → Type 0
IsTaken m x old new (Ok u) =
    JudgedBy m old.kept x new.monitor (Ok u) × LoadGrows old x new × KeepsText old new
IsTaken m x old new (Err stop) =
    (JudgedBy m old.kept x new.monitor (Err stop) × KeepsText old new) ⊎ (stop ≡ stops.Memory)

-- a history has ended, and the next may begin
pub record IsNext (old new : Watcher) : Type 0 where
  pub opening : stage_with_events [] new.follower ≡ Opening
  pub seen : HasEvents [] new.follower
  pub number : new.number ≡ old.number
  pub histories : new.load.histories ≡ old.load.histories + 1
  pub calls : new.load.calls ≡ old.load.calls
  pub others : new.load.others ≡ old.load.others
  pub first : new.first ≡ new.number
  pub kept : HoldsText [] new.kept

abbrev pub IsBegunAgain : Watcher → Watcher → Result (Unit {0}) Stop → Type 0
IsBegunAgain old new (Ok u) = IsNext old new
IsBegunAgain old new (Err stop) = stop ≡ stops.Memory

-- a history that was decided at its end has this outcome
pub record DecidesAs (old new : Watcher) (result : Result (Unit {0}) Stop) : Type 0 where
  pub decided : DecidedHistory
  pub is : new.decided ≡ Some decided
  pub bytes : Vec ℕ
  pub was : old.kept ≡ Text bytes
  pub decides : DecidesText old.first bytes.items decided
  pub outcome : result ≡ outcome_of decided.verdict

-- the history that has ended was decided
abbrev pub Decides : Watcher → Watcher → Result (Unit {0}) Stop → Type 0
Decides old new (Err stops.Memory) = Unit {0}
Decides old new (Err stops.TooLarge) = old.kept ≡ TooLong
Decides old new result = DecidesAs old new result

-- the history that has ended was decided, unless there is a monitor
abbrev pub DecidesUnjudged : Option Monitor → Watcher → Watcher → Result (Unit {0}) Stop → Type 0
DecidesUnjudged (Some m) old new result = result ≡ Ok tt
DecidesUnjudged None old new result = Decides old new result

-- a history has ended: it was judged event by event, or decided now
abbrev pub EndsHistory : Option Monitor → Watcher → Watcher → Result (Unit {0}) Stop → Type 0
EndsHistory (Some m) old new result = IsBegunAgain old new result
EndsHistory None old new (Ok u) = ((mid : Watcher) × Decides old mid (Ok u)) × IsNext old new
EndsHistory None old new (Err stop) = Decides old new (Err stop) ⊎ (stop ≡ stops.Memory)

abbrev pub GoesOnBy : HistoryLine → Watcher → Watcher → Result (Unit {0}) Stop → Type 0
GoesOnBy lines.Heading old new (Ok u) = new ≡ old
GoesOnBy lines.Heading old new (Err stop) = ⊥
GoesOnBy lines.Run old new result =
    (r : RecordingModel) → stage_with_events [] old.follower ≡ Running r → Begins r old new result
GoesOnBy (lines.Event x) old new result = IsTaken old.monitor x old new result
GoesOnBy lines.End old new result = EndsHistory old.monitor old new result

-- PIECES

-- ps are the parts of a text, and rest the bytes that are left. The last bytes before them are a
-- prefix of a line
pub record IsFed (ps : List (List ℕ)) (rest : List ℕ) (f : Feeder) : Type 0 where
  pub watching : IsWatching ps (lines_of_text (f.part.items ++ rest)) f.watcher
  pub plain : All (λ b. b ≢ 10) f.part.items

abbrev pub Feeds : Result (Unit {0}) Stop → List (List ℕ) → List ℕ → Feeder → Type 0
Feeds (Ok u) ps rest f = IsFed ps rest f
Feeds (Err stop) ps rest f = Stops stop ps f.watcher

-- bytes were appended to the prefix of a line, or the line is too long
abbrev pub GathersTo : Result (Unit {0}) Stop → List ℕ → Feeder → Feeder → Type 0
GathersTo (Ok u) bytes old new =
    (new.part.items ≡ old.part.items ++ bytes) × (new.watcher ≡ old.watcher)
GathersTo (Err stop) bytes old new =
    (8192 < length (old.part.items ++ bytes)) × (new.watcher ≡ old.watcher)
    × ((ps qs : List (List ℕ)) (line : List ℕ) → IsWatching ps (line ∷ qs) old.watcher
    → 8192 < length line → Stops stop ps new.watcher)

-- the same if the bytes of the input are known
abbrev pub FedFrom : Option (List ℕ) → Option (List ℕ) → Feeder → Type 0
FedFrom None now f = ⊤
FedFrom (Some bytes) None f = ⊥
FedFrom (Some bytes) (Some rest) f = IsFed (lines_of_text bytes) rest f
