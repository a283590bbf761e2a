-- The text of a history that may have to be decided at its end.
use Rattle.std.specs.Prelude.{◌≡◌, ◌≢◌, ◌<◌, ◌||◌, ℕ, List, [], ◌∷◌, ◌++◌, length, not, slice_get}
use Rattle.std.specs.Prelude.{Bool, true, false}
use Rattle.std.specs.Prelude.{Result, Ok, Err}
use Rattle.std.specs.List.{All}
use Rattle.std.specs.Borrow.{Bor}
use Rattle.ec_heading.specs.Spelling.{lines_text}
use Rattle.std.specs.Option.{option_map_or}
use Rattle.ec_count.specs.Tables.{Tables}
use Rattle.ec_count.specs.declared.target.Target.{Target}
use Rattle.ec_count.specs.declared.target.Target.TheVariants.{Cells, Group as GroupTarget}
use Rattle.ec_heading.specs.HeadingModel.{HeadingModel}
use Rattle.ec_heading.specs.declared.group.Group.{Group}
use Rattle.ec_heading.specs.declared.group.Group.TheVariants as groups
use Rattle.calls_watch.specs.Spsc.{is_spsc_group}
use Rattle.calls_verdict.specs.declared.verdict.Verdict.{Verdict}
use Rattle.calls_verdict.specs.declared.verdict.Verdict.TheVariants as verdicts
use Rattle.calls_text.specs.Recordings.{RecordingModel}
use Rattle.calls_text.specs.Reading.{Opening}
use Rattle.calls_text.specs.Outcomes.{parse_from, lines_of_text}
use Rattle.calls_report.specs.declared.checking.TheConstants.{TEXT_MAX}
use Rattle.calls_report.specs.Checks.{HasOrder, IsRefused, IsUndecided}
use Rattle.calls_watch.specs.declared.kept.Kept.{Kept}
use Rattle.calls_watch.specs.declared.kept.Kept.TheVariants.{Text, Unneeded, TooLong}
use Rattle.calls_watch.specs.declared.stop.Stop.{Stop}
use Rattle.calls_watch.specs.declared.stop.Stop.TheVariants as stops
use Rattle.calls_watch.specs.declared.whole.DecidedHistory.{DecidedHistory}

-- WHETHER IT IS NEEDED

-- whether calls of a group are only decided at the end of the history
abbrev pub is_unwatched_group : Tables → Group → Bool
is_unwatched_group t (groups.Database d) = true
is_unwatched_group t (groups.Buffer b) = not (is_spsc_group t (groups.Buffer b))
is_unwatched_group t _ = false

-- whether those of what is declared are
abbrev pub is_unwatched : HeadingModel → Target → Bool
is_unwatched h (Cells x n) = true
is_unwatched h (GroupTarget i) =
    option_map_or (is_unwatched_group h.setup) (slice_get h.groups i) false
is_unwatched h _ = false

-- whether one of these declarations is so
abbrev pub declares_unwatched : HeadingModel → List Target → Bool
declares_unwatched h [] = false
declares_unwatched h (target ∷ targets) = is_unwatched h target || declares_unwatched h targets

-- ITS LINES

-- no line has an LF
abbrev pub ArePlain : List (List ℕ) → Type 0
ArePlain [] = Unit {0}
ArePlain (line ∷ lines) = All (λ b. b ≢ 10) line × ArePlain lines

-- the text of these lines is kept, or it is too long; if it is not needed, nothing is said
abbrev pub HoldsText : List (List ℕ) → Kept → Type 0
HoldsText lines (Text bytes) = (bytes.items ≡ lines_text lines) × ArePlain lines
HoldsText lines Unneeded = Unit {0}
HoldsText lines TooLong = TEXT_MAX < length (lines_text lines)

-- with this line the text is too long
abbrev pub Overflows : List ℕ → Kept → Type 0
Overflows line (Text bytes) = TEXT_MAX < length (bytes.items ++ line ++ 10 ∷ [])
Overflows line _ = ⊥

-- the text, or why there is none
abbrev pub ReturnsText : Kept → Result (Bor (List ℕ)) Stop → Type 0
ReturnsText (Text bytes) (Ok text) = text.now ≡ bytes.items
ReturnsText Unneeded (Err stops.Memory) = Unit {0}
ReturnsText TooLong (Err stops.TooLarge) = Unit {0}
ReturnsText _ _ = ⊥

-- ITS VERDICT

-- what a verdict says of a history
abbrev pub HasVerdict : RecordingModel → Verdict → Type 0
HasVerdict r (verdicts.Linearizable order) = HasOrder r order
HasVerdict r (verdicts.Refused x) = IsRefused r x
HasVerdict r (verdicts.NotDecided u) = IsUndecided r u

-- the text from line n on begins with this history, and the verdict is on it
pub record DecidesText (n : ℕ) (text : List ℕ) (d : DecidedHistory) : Type 0 where
  pub rest : List (List ℕ)
  pub reads : parse_from n Opening (lines_of_text text)
      ≡ Ok (record { recorded = d.read.recording; number = d.read.number; rest = rest })
  pub verdict : HasVerdict d.read.recording d.verdict

abbrev pub outcome_of : Verdict → Result (Unit {0}) Stop
outcome_of (verdicts.Linearizable order) = Ok tt
outcome_of (verdicts.Refused x) = Err stops.RefusedAtEnd
outcome_of (verdicts.NotDecided u) = Err stops.NotDecided
