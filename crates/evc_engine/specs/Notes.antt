-- The notes.
use Rattle.std.specs.Prelude.{ℕ, List, ◌++◌, codes, decimal}
use Rattle.ec_core.specs.declared.act.Refusal.{Refusal}
use Rattle.ec_core.specs.declared.act.Reply.{Reply}
use Rattle.ec_core.specs.Refusals.{refusal_number, refusal_name}
use Rattle.ec_heading.specs.Spelling.{reply_word}
use Rattle.ec_trace.specs.declared.fault.TraceFault.{TraceFault}
use Rattle.ec_trace.specs.declared.fault.TraceFault.TheVariants.{BadLine, Refused, WrongReply, Unfinished, TooLarge, Read, Memory}
use Rattle.evc_engine.specs.declared.status.Status.{Status}
use Rattle.evc_engine.specs.declared.status.Status.TheVariants as statuses

abbrev pub line_words : ℕ → List ℕ
line_words n = codes "line " ++ decimal n ++ codes ": "

abbrev pub refused_words : Refusal → List ℕ
refused_words r = codes "refused " ++ decimal (refusal_number r) ++ codes " " ++ refusal_name r

abbrev pub wrong_words : Reply → List ℕ
wrong_words right = codes "wrong reply, right is " ++ reply_word right

-- the note on a fault of a trace
abbrev pub fault_note : TraceFault → List ℕ
fault_note (BadLine n) = line_words n ++ codes "bad line\n"
fault_note (Refused n r) = line_words n ++ refused_words r ++ codes "\n"
fault_note (WrongReply n right) = line_words n ++ wrong_words right ++ codes "\n"
fault_note Unfinished = codes "unfinished\n"
fault_note TooLarge = codes "too large\n"
fault_note Read = codes "read fault\n"
fault_note Memory = codes "no memory\n"

-- the status of a command that could not read its trace
abbrev pub fault_status : TraceFault → Status
fault_status Read = statuses.InputOutput
fault_status Memory = statuses.Memory
fault_status fault = statuses.Refused

-- the note on a group whose rules are broken: the group, and the entry that breaks them, after its
-- worker
abbrev pub break_note : List ℕ → List ℕ → ℕ → List ℕ
break_note group worker k = group ++ codes " not followed: worker " ++ worker ++ codes " entry " ++ decimal k ++ codes "\n"
