-- How a text ends, and what is written then.
use Rattle.std.proofs.Common.{◌≡◌, ◌<◌, ℕ, List, [], ◌++◌, length, take, Option, Some, None}
use Rattle.std.proofs.Common.{Result, Ok, Err, inl, inr, IfSome, ap, ◌∙◌, subst, arith, codes}
use Rattle.std.specs.Io.KnownBytes.{Appends, Consumes, IsAtEnd}
use Rattle.ec_text.specs.Puts.{OutputModel, Puts, AppendsPrefix}
use Rattle.calls_core.specs.declared.history.Event.{Event}
use Rattle.calls_verdict.specs.declared.verdict.Verdict.{Verdict}
use Rattle.calls_verdict.specs.declared.verdict.Verdict.TheVariants as verdicts
use Rattle.calls_monitor.specs.declared.monitor.Refused.{Refused as Report}
use Rattle.calls_text.specs.Recordings.{RecordingModel}
use Rattle.calls_text.specs.Reading.{Running}
use Rattle.calls_text.specs.Following.{stage_with_events}
use Rattle.calls_text.specs.declared.fault.TextFault.{TextFault}
use Rattle.calls_text.specs.declared.fault.TextFault.TheVariants as faults
use Rattle.calls_text.specs.Outcomes.{OneRead, lines_of_text}
use Rattle.calls_report.specs.declared.status.Status.{Status}
use Rattle.calls_report.specs.declared.status.Status.TheVariants.{Done, Refused, Usage}
use Rattle.calls_report.specs.declared.status.Status.TheVariants.{InputOutput, Memory, NotDecided}
use Rattle.calls_report.specs.Notes.{fault_note}
use Rattle.calls_report.specs.Checks.{Outputs}
use Rattle.calls_watch.specs.declared.feeder.Feeder.{Feeder}
use Rattle.calls_watch.specs.declared.load.Load.{Load}
use Rattle.calls_watch.specs.declared.stop.Stop.{Stop}
use Rattle.calls_watch.specs.declared.stop.Stop.TheVariants as stops
use Rattle.calls_watch.specs.declared.watcher.Watcher.{Watcher}
use Rattle.calls_watch.specs.declared.whole.DecidedHistory.{DecidedHistory}
use Rattle.calls_watch.specs.declared.watching.EarlyEnd.{EarlyEnd}
use Rattle.calls_watch.specs.declared.watching.EarlyEnd.TheVariants as cuts
use Rattle.calls_watch.specs.Loads.{IsLoad, load_text, summary_of, calls_in, others_in}
use Rattle.calls_watch.specs.Watches.{Watches, refused_note}
use Rattle.calls_watch.specs.kept.Watching.{IsFed, EndsAs, FedFrom, Stops, IsOver}
use Rattle.calls_watch.specs.kept.Endings.{ReadsAll, WritesLoad, SaysStop, SaysNote, SaysVerdict}
use Rattle.calls_report.specs.kept.Judging.{fault_status}
use Rattle.calls_watch.proofs.PieceLemmas.{FedBy}

-- READING

pub fed_first : (o : Option (List ℕ)) (f : Feeder)
    → ((bytes : List ℕ) → IsFed (lines_of_text bytes) bytes f) → FedFrom o o f
fed_first None f fed = tt
fed_first (Some bytes) f fed = fed bytes

pub fed_stop : (o now : Option (List ℕ)) (stop : Stop) (f : Feeder) → FedBy (Err stop) o now f
    → ReadsAll o (Err (cuts.Stop stop)) f
fed_stop None now stop f fed = tt
fed_stop (Some bytes) now stop f fed = fed

-- what was returned at the end of the input
abbrev pub ends_as : Result (Unit {0}) Stop → Result (Unit {0}) EarlyEnd
ends_as (Ok u) = Ok u
ends_as (Err stop) = Err (cuts.Stop stop)

by_result : (bytes : List ℕ) (result : Result (Unit {0}) Stop) (g : Feeder)
    → EndsAs result (lines_of_text bytes) g.watcher → ReadsAll (Some bytes) (ends_as result) g
by_result bytes (Ok u) g ends = ends
by_result bytes (Err stop) g ends = ends

no_bytes : (rest buf left : List ℕ) → rest ≡ take 0 buf ++ left → left ≡ [] → rest ≡ []
no_bytes rest buf left is none = is ∙ none

pub end_read : (o now new : Option (List ℕ)) (buf : List ℕ) (f g : Feeder)
    (result : Result (Unit {0}) Stop) → FedFrom o now f → Consumes now new (take 0 buf)
    → IsAtEnd new → ((ps : List (List ℕ)) → IsFed ps [] f → EndsAs result ps g.watcher)
    → ReadsAll o (ends_as result) g
end_read None now new buf f g (Ok u) fed takes over ends = tt
end_read None now new buf f g (Err stop) fed takes over ends = tt
end_read (Some bytes) None new buf f g result fed takes over ends = absurd fed
end_read (Some bytes) (Some rest) None buf f g result fed takes over ends = absurd takes
end_read (Some bytes) (Some rest) (Some left) buf f g result fed takes over ends =
    let none : rest ≡ [] = no_bytes rest buf left takes over in
    by_result bytes result g (ends (lines_of_text bytes)
    (subst (λ (r : List ℕ). IsFed (lines_of_text bytes) r f) none fed))

-- a piece of no bytes
pub end_of : (o now new : Option (List ℕ)) (buf : List ℕ) (n : ℕ) (f g : Feeder)
    (result : Result (Unit {0}) Stop) → FedFrom o now f → n ≡ 0 → length buf ≡ 8192
    → Consumes now new (take n buf) → (n ≡ 0 → 0 < length buf → IsAtEnd new)
    → ((ps : List (List ℕ)) → IsFed ps [] f → EndsAs result ps g.watcher)
    → ReadsAll o (ends_as result) g
end_of o now new buf n f g result fed none len takes over ends =
    let some : 0 < length buf = omega (arith, len) in
    end_read o now new buf f g result fed
    (subst (λ (k : ℕ). Consumes now new (take k buf)) none takes) (over none some) ends

-- WRITING

summary : (reads : List OneRead) (l : Load) → IsLoad reads [] l
    → load_text l.histories l.calls l.others ≡ summary_of reads
summary reads l load =
    let c : l.calls ≡ calls_in reads = omega (arith, load.calls) in
    let o : l.others ≡ others_in reads = omega (arith, load.others) in
    ap (λ (n : ℕ). load_text n l.calls l.others) load.histories
    ∙ ap (λ (n : ℕ). load_text (length reads) n l.others) c
    ∙ ap (λ (n : ℕ). load_text (length reads) (calls_in reads) n) o

over : (bytes : List ℕ) (w : Watcher) (status : Status) (old new : Outputs)
    → IsOver (lines_of_text bytes) w
    → WritesLoad status (load_text w.load.histories w.load.calls w.load.others) old new
    → Watches bytes status old new
over bytes w Done old new o writes = inl (record {
  reads = o.reads;
  number = o.number;
  rest = o.rest;
  good = o.good;
  ends = (
    o.some,
    o.none,
    subst (Appends old.out new.out) (summary o.reads w.load o.load) writes.0,
    writes.1,
  );
})
over bytes w InputOutput old new o writes = inl (record {
  reads = o.reads;
  number = o.number;
  rest = o.rest;
  good = o.good;
  ends = (
    o.some,
    o.none,
    subst (AppendsPrefix old.out new.out) (summary o.reads w.load o.load) writes.0,
    writes.1,
  );
})
over bytes w Refused old new o writes = absurd writes
over bytes w Usage old new o writes = absurd writes
over bytes w Memory old new o writes = absurd writes
over bytes w NotDecided old new o writes = absurd writes

pub over_known : (o : Option (List ℕ)) (u : Unit {0}) (f : Feeder) (status : Status)
    (old new : Outputs) → ReadsAll o (Ok u) f
    → WritesLoad status (load_text f.watcher.load.histories f.watcher.load.calls
    f.watcher.load.others) old new
    → IfSome o (λ bytes. Watches bytes status old new)
over_known None u f status old new reads writes = tt
over_known (Some bytes) u f status old new reads writes =
    over bytes f.watcher status old new reads writes

stopped : (bytes : List ℕ) (status : Status) (old new : Outputs) → new.out ≡ old.out
    → SaysStop (lines_of_text bytes) status old.notes new.notes → Watches bytes status old new
stopped bytes Refused old new same s = inl (record {
  reads = s.reads;
  number = s.start;
  rest = s.begun;
  good = s.good;
  ends = (same, s.says);
})
stopped bytes NotDecided old new same s = inl (record {
  reads = s.reads;
  number = s.start;
  rest = s.begun;
  good = s.good;
  ends = (same, s.says);
})
stopped bytes Memory old new same s = inl (record {
  reads = s.reads;
  number = s.start;
  rest = s.begun;
  good = s.good;
  ends = (same, s.says);
})
stopped bytes Done old new same s = absurd s.says
stopped bytes Usage old new same s = absurd s.says
stopped bytes InputOutput old new same s = absurd s.says

pub stop_known : (o : Option (List ℕ)) (f : Feeder) (stop : Stop) (status : Status)
    (old new : Outputs) → new.out ≡ old.out → ReadsAll o (Err (cuts.Stop stop)) f
    → ((ps : List (List ℕ)) → Stops stop ps f.watcher → SaysStop ps status old.notes new.notes)
    → IfSome o (λ bytes. Watches bytes status old new)
stop_known None f stop status old new same reads says = tt
stop_known (Some bytes) f stop status old new same reads says =
    stopped bytes status old new same (says (lines_of_text bytes) reads)

pub read_fault : (o : Option (List ℕ)) (old new : Outputs) → new.out ≡ old.out
    → Puts old.notes new.notes (codes "read fault\n")
    → IfSome o (λ bytes. Watches bytes InputOutput old new)
read_fault None old new same puts = tt
read_fault (Some bytes) old new same puts = inr (same, puts)

-- NOTES

pub unread_says : (ps : List (List ℕ)) (w : Watcher) (fault : TextFault) (old new : OutputModel)
    → Stops (stops.Unread fault) ps w → Puts old new (fault_note fault)
    → SaysStop ps (fault_status fault) old new
unread_says ps w (faults.At n kind cause) old new s puts = record {
  reads = s.reads;
  start = s.start;
  begun = s.begun;
  good = s.good;
  says = inl (
    fault_note (faults.At n kind cause),
    (
      n,
      kind,
      s.stops.0.0,
      s.stops.0.1,
      ap (λ c. fault_note (faults.At n kind c)) s.stops.0.2,
    ),
    s.stops.1,
    puts,
  );
}
unread_says ps w faults.Memory old new s puts = record {
  reads = s.reads;
  start = s.start;
  begun = s.begun;
  good = s.good;
  says = puts;
}

refused_by : (ps : List (List ℕ)) (w : Watcher) (x : Event) (report : Report) (status : Status)
    (old new : OutputModel) (s : Stops (stops.Refused x report) ps w)
    → SaysNote status (refused_note w.number s.stops.0 x report) old new
    → SaysStop ps status old new
refused_by ps w x report Refused old new s puts = record {
  reads = s.reads;
  start = s.start;
  begun = s.begun;
  good = s.good;
  says = inr (inl (w.number, s.stops.0, x, report, s.stops.3, puts));
}
refused_by ps w x report Done old new s puts = absurd puts
refused_by ps w x report Usage old new s puts = absurd puts
refused_by ps w x report InputOutput old new s puts = absurd puts
refused_by ps w x report Memory old new s puts = absurd puts
refused_by ps w x report NotDecided old new s puts = absurd puts

pub refused_says : (ps : List (List ℕ)) (w : Watcher) (x : Event) (report : Report)
    (status : Status) (old new : OutputModel)
    → ((events : List Event) (r : RecordingModel) → stage_with_events events w.follower ≡ Running r
    → SaysNote status (refused_note w.number r x report) old new)
    → Stops (stops.Refused x report) ps w → SaysStop ps status old new
refused_says ps w x report status old new says s =
    refused_by ps w x report status old new s (says s.stops.1 s.stops.0 s.stops.2)

-- a history that was decided at its end
module _ (ps : List (List ℕ)) (w : Watcher) where
  refused_at_end : (status : Status) (old new : OutputModel) (s : Stops stops.RefusedAtEnd ps w)
      → SaysVerdict (verdicts.Refused s.stops.1) s.stops.0.decided.read.number
      s.stops.0.decided.read.recording status old new → SaysStop ps status old new
  refused_at_end Refused old new s says = record {
    reads = s.reads;
    start = s.start;
    begun = s.begun;
    good = s.good;
    says = inr (inr (inl (
      (
        record {
          recorded = s.stops.0.decided.read.recording;
          number = s.stops.0.decided.read.number;
          rest = s.stops.0.rest;
        },
        s.stops.1,
        s.stops.0.reads,
        s.stops.3,
        says,
      ),
      s.stops.0.unwatched,
    )));
  }
  refused_at_end Memory old new s says = record {
    reads = s.reads;
    start = s.start;
    begun = s.begun;
    good = s.good;
    says = says;
  }
  refused_at_end Done old new s says = absurd says
  refused_at_end Usage old new s says = absurd says
  refused_at_end InputOutput old new s says = absurd says
  refused_at_end NotDecided old new s says = absurd says

  open_at_end : (status : Status) (old new : OutputModel) (s : Stops stops.NotDecided ps w)
      → SaysVerdict (verdicts.NotDecided s.stops.1) s.stops.0.decided.read.number
      s.stops.0.decided.read.recording status old new → SaysStop ps status old new
  open_at_end NotDecided old new s says = record {
    reads = s.reads;
    start = s.start;
    begun = s.begun;
    good = s.good;
    says = (
      record {
        recorded = s.stops.0.decided.read.recording;
        number = s.stops.0.decided.read.number;
        rest = s.stops.0.rest;
      },
      s.stops.1,
      s.stops.0.reads,
      s.stops.3,
      says,
    );
  }
  open_at_end Memory old new s says = record {
    reads = s.reads;
    start = s.start;
    begun = s.begun;
    good = s.good;
    says = says;
  }
  open_at_end Done old new s says = absurd says
  open_at_end Usage old new s says = absurd says
  open_at_end InputOutput old new s says = absurd says
  open_at_end Refused old new s says = absurd says

  -- what is said of the history that was decided
  abbrev pub SaysOfDecided : Status → OutputModel → OutputModel → Type 0
  SaysOfDecided status old new =
      (history : DecidedHistory) → w.decided ≡ Some history
      → SaysVerdict history.verdict history.read.number history.read.recording status old new

  pub refused_end_says : (status : Status) (old new : OutputModel) → SaysOfDecided status old new
      → Stops stops.RefusedAtEnd ps w → SaysStop ps status old new
  refused_end_says status old new says s =
      refused_at_end status old new s
      (subst (λ (v : Verdict). SaysVerdict v s.stops.0.decided.read.number
      s.stops.0.decided.read.recording status old new) s.stops.2
      (says s.stops.0.decided s.stops.0.is))

  pub open_end_says : (status : Status) (old new : OutputModel) → SaysOfDecided status old new
      → Stops stops.NotDecided ps w → SaysStop ps status old new
  open_end_says status old new says s =
      open_at_end status old new s
      (subst (λ (v : Verdict). SaysVerdict v s.stops.0.decided.read.number
      s.stops.0.decided.read.recording status old new) s.stops.2
      (says s.stops.0.decided s.stops.0.is))

  pub too_large_says : (old new : OutputModel) → Puts old new (codes "too large\n")
      → Stops stops.TooLarge ps w → SaysStop ps Refused old new
  too_large_says old new puts s = record {
    reads = s.reads;
    start = s.start;
    begun = s.begun;
    good = s.good;
    says = inr (inr (inr (s.stops.0, s.stops.1, puts)));
  }

  pub memory_says : (stop : Stop) (old new : OutputModel) → Puts old new (codes "no memory\n")
      → Stops stop ps w → SaysStop ps Memory old new
  memory_says stop old new puts s = record {
    reads = s.reads;
    start = s.start;
    begun = s.begun;
    good = s.good;
    says = puts;
  }
