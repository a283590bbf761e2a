-- What is wrong with a script and with a history of calls, by the kind of the fault that their
-- readers report. Where the bytes of a line show no other cause, this one is shown at a word.
use Rattle.std.specs.Prelude.{ℕ, ◌+◌, List, bytes_eq, codes}
use Rattle.std.specs.Prelude.{Some, if◌then◌else◌}
use Rattle.ec_script.specs.declared.fault.Kind as scripts
use Rattle.ec_script.specs.declared.fault.Kind.TheVariants as script
use Rattle.calls_text.specs.declared.fault.FaultKind as histories
use Rattle.calls_text.specs.declared.fault.FaultKind.TheVariants as calls
use Rattle.ec_explain.specs.declared.cause.Cause.TheVariants as causes
use Rattle.ec_explain.specs.declared.finding.Finding.{Finding}
use Rattle.ec_explain.specs.Findings.{finding_by_bytes, finding_with_line, find_early_end}
use Rattle.ec_explain.specs.Causes.{first_cause, name_cause, new_name_place}
use Rattle.ec_explain.specs.HistoryLines.{form_finding, unknown_finding}
use Rattle.ec_explain.specs.HistoryLines.{range_cause, range_place, object_place, right_line_of}
use Rattle.ec_explain.specs.RelatedLine.{call_line, line_with, object_line}
use Rattle.ec_explain.specs.Places.{word_at, number_place}
use Rattle.ec_explain.specs.TextLines.{line_at}

-- a line of a header that has a word where a name should be
abbrev pub bad_name_at : ℕ → List ℕ → Finding
bad_name_at n line =
    finding_by_bytes (name_cause (word_at (new_name_place line) line)) n (new_name_place line) line

-- a line that names a semaphore twice, in a `pboth` that is the word at this index, or a worker in
-- both lists of a declaration
abbrev pub roles_at : ℕ → ℕ → List ℕ → Finding
roles_at verb n line =
    if bytes_eq (word_at verb line) (codes "pboth")
    then finding_by_bytes causes.TwoUses n (verb + 2) line
    else finding_by_bytes causes.TwoRoles n 0 line

-- A SCRIPT

abbrev pub script_finding : scripts.Kind → ℕ → List ℕ → Finding
script_finding script.BadHeader n text =
    finding_by_bytes (first_cause (line_at n text)) n 0 (line_at n text)
script_finding script.BadLine n text = finding_by_bytes causes.ScriptForm n 0 (line_at n text)
script_finding script.BadName n text = bad_name_at n (line_at n text)
script_finding script.NameTaken n text = finding_by_bytes causes.NameTaken n 1 (line_at n text)
script_finding script.UnknownName n text = finding_by_bytes causes.UnknownWord n 1 (line_at n text)
script_finding script.BadNumber n text =
    finding_by_bytes causes.OutOfRange n (number_place (line_at n text)) (line_at n text)
script_finding script.TooMany n text = finding_by_bytes causes.Full n 0 (line_at n text)
script_finding script.Hidden n text = finding_by_bytes causes.Hidden n 1 (line_at n text)
script_finding script.TwoRoles n text = roles_at 0 n (line_at n text)
script_finding script.NoRight n text = finding_by_bytes causes.NoRole n 0 (line_at n text)
script_finding script.BadNesting n text = finding_by_bytes causes.BadNesting n 0 (line_at n text)
script_finding script.Unfinished n text = find_early_end causes.StopsEarly text

-- A HISTORY OF CALLS

abbrev pub calls_line_finding : histories.FaultKind → ℕ → List ℕ → List ℕ → Finding
calls_line_finding calls.BadHeader n text line = finding_by_bytes (first_cause line) n 0 line
calls_line_finding calls.BadLine n text line = form_finding n text line
calls_line_finding calls.BadName n text line = bad_name_at n line
calls_line_finding calls.NameTaken n text line = finding_by_bytes causes.NameTaken n 1 line
calls_line_finding calls.UnknownName n text line = unknown_finding n text line
calls_line_finding calls.BadNumber n text line =
    finding_by_bytes (range_cause n text line) n (range_place n text line) line
calls_line_finding calls.TooMany n text line = finding_by_bytes causes.Full n 0 line
calls_line_finding calls.Hidden n text line =
    finding_with_line causes.Hidden (object_place n text)
    (object_line (word_at (object_place n text) line) n text) n line
calls_line_finding calls.TwoRoles n text line = roles_at 2 n line
calls_line_finding calls.NoRight n text line =
    finding_with_line causes.NoRole 0 (right_line_of n text line) n line
calls_line_finding calls.BadOrder n text line = finding_by_bytes causes.BadOrder n 1 line
calls_line_finding calls.Unfinished n text line = find_early_end causes.StopsEarly text
calls_line_finding calls.Busy n text line =
    finding_with_line causes.CallPending 0 (call_line n text) n line
calls_line_finding calls.Idle n text line = finding_by_bytes causes.NoPendingCall n 0 line
calls_line_finding calls.Unsuited n text line =
    finding_with_line causes.Unsuited 2 (call_line n text) n line
calls_line_finding calls.AtLimit n text line =
    finding_with_line causes.CallLimit 2 (Some (line_with (codes "limit") n text)) n line

abbrev pub calls_finding : histories.FaultKind → ℕ → List ℕ → Finding
calls_finding kind n text = calls_line_finding kind n text (line_at n text)
