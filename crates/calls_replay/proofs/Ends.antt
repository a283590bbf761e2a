-- How the command ends, by how its parts ended.
use Rattle.std.proofs.Common.{◌≡◌, ◌≤◌, inl, inr, ℕ, List, length, Option, Some, None, Ok, IfSome}
use Rattle.std.proofs.Common.{refl, ap, subst}
use Rattle.std.specs.Io.KnownBytes.{Keeps}
use Rattle.ec_text.specs.Puts.{OutputModel, Puts}
use Rattle.ec_text.specs.Inputs.{looked_at, IsReadUp}
use Rattle.calls_core.specs.declared.history.Placed.{Placed}
use Rattle.calls_text.specs.declared.fault.TextFault.{TextFault}
use Rattle.calls_text.specs.declared.fault.TextFault.TheVariants as faults
use Rattle.calls_text.specs.Recordings.{RecordingModel}
use Rattle.calls_text.specs.Reading.{Opening}
use Rattle.calls_text.specs.Outcomes.{OneRead, parse_from, lines_of_text, ReturnsFault}
use Rattle.calls_text.specs.Laws.{IsSpelled, ReadIsSpelled}
use Rattle.calls_report.specs.declared.checking.TheConstants.{TEXT_MAX}
use Rattle.calls_report.specs.declared.status.Status.{Status}
use Rattle.calls_report.specs.declared.status.Status.TheVariants.{Done, Refused, Usage}
use Rattle.calls_report.specs.declared.status.Status.TheVariants.{InputOutput, Memory, NotDecided}
use Rattle.calls_report.specs.Notes.{fault_note}
use Rattle.calls_report.specs.Checks.{Outputs, HasOrder}
use Rattle.calls_report.specs.Stops.{StopsAs}
use Rattle.calls_report.specs.kept.Judging.{fault_status}
use Rattle.calls_report.proofs.JudgingChecks.{all_of_it, too_large}
use Rattle.calls_replay.specs.declared.obstacle.Obstacle.{Obstacle}
use Rattle.calls_replay.specs.Obstacles.{IsPlain, IsObstacle, obstacle_note}
use Rattle.calls_replay.specs.Replays.{Begins, ReplaysText, Replays}
use Rattle.calls_replay.specs.kept.Ends.{WritesSteps, WritesOrder, FindsNone, IsHindered}
use Rattle.calls_replay.specs.kept.Ends.{ReplaysRead, ReplaysWhole}

-- an output to which nothing was written
pub stays : (a : Option (List ℕ)) → Keeps a a
stays None = tt
stays (Some xs) = refl

-- A HISTORY THAT WAS READ

-- it has no trace
pub is_hindered : (n : ℕ) (r : RecordingModel) (rest : List ℕ) (out : Option (List ℕ))
    (old new : OutputModel) (why : Obstacle) → IsObstacle r n rest why
    → Puts old new (obstacle_note r n why)
    → ReplaysRead n r rest Usage (record { out = out; notes = old })
    (record { out = out; notes = new })
is_hindered n r rest out old new why is puts = inr (inr (why, is, stays out, puts))

-- it has no linearization
pub found_none : (n : ℕ) (r : RecordingModel) (rest : List ℕ) (out : Option (List ℕ))
    (old new : OutputModel) (status : Status) → StopsAs n r old new status
    → ReplaysRead n r rest status (record { out = out; notes = old })
    (record { out = out; notes = new })
found_none n r rest out old new status why = inr (inl (stays out, why))

-- the trace of a linearization was written, or not
pub order_written : (n : ℕ) (r : RecordingModel) (rest : List ℕ) (order : List Placed)
    (out : Option (List ℕ)) (old among : OutputModel) (status : Status) (new : Outputs)
    → IsPlain r rest → HasOrder r order → among ≡ old
    → WritesSteps r order status (record { out = out; notes = among }) new
    → ReplaysRead n r rest status (record { out = out; notes = old }) new
order_written n r rest order out old among status new plain has same writes = inl (
  plain,
  order,
  has,
  subst (λ (k : OutputModel). WritesSteps r order status (record { out = out; notes = k }) new) same
      writes,
)

-- A TEXT THAT WAS READ

module _ (text : List ℕ) (read : OneRead) (rest : List ℕ) (b : Begins text read)
    (same : rest ≡ b.spelled.rest) where
  written : (status : Status) (old new : Outputs)
      → WritesOrder read.recorded rest status old new → ReplaysText status text old new
  written Done old new w = (
    read,
    w.1,
    w.3.0,
    record {
      begins = b;
      plain = subst (IsPlain read.recorded) same w.0;
      order_is = w.2;
      trace_is = w.3.1;
    },
    w.3.2,
    w.3.3,
  )
  written InputOutput old new w = (
    read,
    w.1,
    w.3.0,
    record {
      begins = b;
      plain = subst (IsPlain read.recorded) same w.0;
      order_is = w.2;
      trace_is = w.3.1;
    },
    w.3.2,
    w.3.3,
  )
  written Refused old new w = (w.3.1, inr (inr (read, w.1, w.3.0, b, w.2, w.3.2)))
  written Memory old new w = w.3
  written Usage old new w = absurd w.3
  written NotDecided old new w = absurd w.3

  none : (status : Status) (old new : Outputs)
      → FindsNone read.number read.recorded status old new → ReplaysText status text old new
  none Refused old new f = (f.0, inr (inl (read, f.1.0, b.reads, f.1.1, f.1.2)))
  none NotDecided old new f = (f.0, (read, f.1.0, b.reads, f.1.1, f.1.2))
  none Memory old new f = f
  none Done old new f = absurd f.1
  none Usage old new f = absurd f.1
  none InputOutput old new f = absurd f.1

  hindered : (status : Status) (old new : Outputs)
      → IsHindered read.number read.recorded rest status old new → ReplaysText status text old new
  hindered Usage old new h = (
    read,
    h.0,
    record {
      begins = b;
      is = subst (λ (l : List ℕ). IsObstacle read.recorded read.number l h.0) same h.1;
    },
    h.2,
    h.3,
  )
  hindered Done old new h = absurd h
  hindered Refused old new h = absurd h
  hindered InputOutput old new h = absurd h
  hindered Memory old new h = absurd h
  hindered NotDecided old new h = absurd h

  by_part : (status : Status) (old new : Outputs)
      → ReplaysRead read.number read.recorded rest status old new → ReplaysText status text old new
  by_part status old new (inl w) = written status old new w
  by_part status old new (inr (inl f)) = none status old new f
  by_part status old new (inr (inr h)) = hindered status old new h

pub text_replayed : ReadIsSpelled
    → (text : List ℕ) (r : RecordingModel) (number : ℕ) (rest : List ℕ)
    (status : Status) (old new : Outputs)
    → parse_from 1 Opening (lines_of_text text)
    ≡ Ok (record { recorded = r; number = number; rest = lines_of_text rest })
    → ReplaysRead number r rest status old new → ReplaysText status text old new
text_replayed spelled text r number rest status old new reads ends =
    let read : OneRead = record { recorded = r; number = number; rest = lines_of_text rest } in
    let is : IsSpelled text 1 read = spelled text 1 read reads in
    by_part text read rest (record { reads = reads; spelled = is }) (is.same rest refl) status old
    new ends

-- no history was read
pub text_unread : (text : List ℕ) (out : Option (List ℕ)) (old new : OutputModel) (fault : TextFault)
    → ReturnsFault (parse_from 1 Opening (lines_of_text text)) fault
    → Puts old new (fault_note fault)
    → ReplaysText (fault_status fault) text (record { out = out; notes = old })
    (record { out = out; notes = new })
text_unread text out old new (faults.At n kind cause) why puts = (
  stays out,
  inl (
    fault_note (faults.At n kind cause),
    (n, kind, why.0, why.1, ap (λ c. fault_note (faults.At n kind c)) why.2),
    puts,
  ),
)
text_unread text out old new faults.Memory why puts = (stays out, puts)

-- A TEXT THAT MAY BE TOO LARGE

whole : (bytes : List ℕ) (left : Option (List ℕ)) (status : Status) (old new : Outputs)
    → ReplaysWhole status (looked_at TEXT_MAX bytes) old new → Replays bytes left status old new
whole bytes left status old new (inl c) =
    let same : looked_at TEXT_MAX bytes ≡ bytes = all_of_it TEXT_MAX bytes c.0 in
    inl (
      subst (λ (t : List ℕ). length t ≤ TEXT_MAX) same c.0,
      subst (λ (t : List ℕ). ReplaysText status t old new) same c.1,
    )
whole bytes left status old new (inr l) = inr (inl (too_large bytes status old new l))

pub text_known : (known left : Option (List ℕ)) (text : List ℕ) (status : Status)
    (old new : Outputs)
    → IfSome known (λ bytes. (text ≡ looked_at TEXT_MAX bytes) × IsReadUp TEXT_MAX bytes left)
    → ReplaysWhole status text old new → IfSome known (λ bytes. Replays bytes left status old new)
text_known None left text status old new is c = tt
text_known (Some bytes) left text status old new is c =
    whole bytes left status old new (subst (λ (t : List ℕ). ReplaysWhole status t old new) is.0 c)
