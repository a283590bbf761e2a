-- What one line of a trace does to what the lines before it have built.
use Rattle.std.specs.Prelude.{◌≡◌, ℕ, Bool, true, false, ◌==◌, ◌&&◌, nat_lt, List, [], ◌∷◌, ◌++◌, Option, Some, None, option_and_then, Result, Ok, Err, if◌then◌else◌, bytes_eq, codes, reverse}
use Rattle.ec_core.specs.Acceptance.{answer_of}
use Rattle.ec_core.specs.declared.act.Reply.{Reply}
use Rattle.ec_core.specs.declared.act.Reply.TheVariants.{Done, Number, Pending}
use Rattle.ec_core.specs.declared.act.Entry.{Entry}
use Rattle.ec_core.specs.declared.act.Refusal.{Refusal}
use Rattle.ec_text.specs.Words.{words_of, number_in_word}
use Rattle.ec_heading.specs.declared.version.Version.{Version}
use Rattle.ec_heading.specs.Versions.{as_limit, can_spell, version_of}
use Rattle.ec_heading.specs.HeadingModel.{HeadingModel}
use Rattle.ec_heading.specs.HeaderTree.{empty_heading}
use Rattle.ec_heading.specs.Heading.{head_step}
use Rattle.ec_heading.specs.Spelling.{trace_header}
use Rattle.ec_trace.specs.Entries.{entry_of}
use Rattle.ec_trace.specs.TraceModel.{TraceModel}
use Rattle.ec_heading.specs.declared.heading.HeadFault.{HeadFault}
use Rattle.ec_trace.specs.declared.fault.LineFault.{LineFault}
use Rattle.ec_trace.specs.declared.fault.LineFault.TheVariants.{Bad, Refused, WrongReply}
use Rattle.ec_trace.specs.declared.fault.StageFault.{StageFault}
use Rattle.ec_trace.specs.declared.fault.StageFault.TheVariants as faults
use Rattle.ec_trace.specs.Stages.{Stage, Opening, Limiting, Declaring, Running, Ended}

-- THE VERSION

abbrev pub stage_of_version : Option Version → Result Stage LineFault
stage_of_version None = Err Bad
stage_of_version (Some v) = Ok (Limiting v)

-- THE LIMIT

abbrev pub limit_in : Version → List (List ℕ) → Option ℕ
limit_in v (w ∷ n ∷ []) = if bytes_eq w (codes "limit") then option_and_then (as_limit v) (number_in_word n) else None
limit_in v _ = None

-- the limit that a line gives, under a version
unfoldable pub limit_of : Version → List ℕ → Option ℕ
limit_of v line = limit_in v (words_of line)

abbrev pub after_limit : Version → Option ℕ → Result Stage LineFault
after_limit v None = Err Bad
after_limit v (Some n) = Ok (Declaring (empty_heading v n []))

-- A DECLARATION

abbrev pub after_declaration : Result HeadingModel HeadFault → Result Stage LineFault
after_declaration (Ok h) = Ok (Declaring h)
after_declaration (Err fault) = Err Bad

-- AN ENTRY

abbrev pub same_reply : Reply → Reply → Bool
same_reply Done Done = true
same_reply (Number m) (Number n) = m == n
same_reply Pending Pending = true
same_reply _ _ = false

-- the entry of a line is refused, or has the right reply or a wrong one
abbrev pub after_answer : TraceModel → Entry → Result Reply Refusal → Result TraceModel LineFault
after_answer t e (Err r) = Err (Refused r)
after_answer t e (Ok right) = if same_reply right e.reply then Ok (record { heading = t.heading; entries = t.entries ++ e ∷ [] }) else Err (WrongReply right)

-- a line is bad if it encodes no entry, or one that the version doesn't allow
abbrev pub after_entry : TraceModel → Option Entry → Result TraceModel LineFault
after_entry t None = Err Bad
after_entry t (Some e) = if can_spell t.heading.version e.act then after_answer t e (answer_of t.heading.setup (reverse t.entries) e.worker e.act) else Err Bad

-- one more entry, by its line
unfoldable pub entry_step : TraceModel → List ℕ → Result TraceModel LineFault
entry_step t line = after_entry t (entry_of t.heading.words line)

abbrev pub map_running : Result TraceModel LineFault → Result Stage LineFault
map_running (Ok t) = Ok (Running t)
map_running (Err fault) = Err fault

-- ANY LINE

-- the stage after a line, or why the line is rejected
unfoldable pub step : Stage → List ℕ → Result Stage LineFault
step Opening line = stage_of_version (version_of trace_header line)
step (Limiting v) line = after_limit v (limit_of v line)
step (Declaring h) line =
    if bytes_eq line (codes "run") && nat_lt 0 h.setup.workers then Ok (Running (record { heading = h; entries = [] })) else after_declaration (head_step h line)
step (Running t) line = if bytes_eq line (codes "end") then Ok (Ended t) else map_running (entry_step t line)
step (Ended t) line = Err Bad

unfoldable pub is_ended : Stage → Bool
is_ended (Ended t) = true
is_ended _ = false

-- the step of the line is made: the line is neither bad nor refused; its reply may still be wrong
abbrev pub IsAnswered : {S : Type 0} → Result S LineFault → Type 0
IsAnswered (Ok s) = Unit {0}
IsAnswered (Err Bad) = ⊥
IsAnswered (Err (Refused r)) = ⊥
IsAnswered (Err (WrongReply r)) = Unit {0}

-- why a line was not accepted is its fault in the step; out of memory is reported only of a line
-- whose step can be made
abbrev pub StepFails : {S : Type 0} → StageFault → Result S LineFault → Type 0
StepFails faults.Memory stepped = IsAnswered stepped
StepFails (faults.Line f) stepped = stepped ≡ Err f
