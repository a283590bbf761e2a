-- What is drawn of a text that is refused for one of its lines: the trace of the lines before that
-- line, and of the line itself with the right reply if its reply alone is wrong.
use Rattle.std.specs.Prelude.{ℕ, ◌-◌, List, [], ◌++◌, take, Option, Some, None, Result, Ok, Err, codes}
use Rattle.ec_core.specs.declared.act.Reply.{Reply}
use Rattle.ec_explain.specs.TextLines.{text_before_line, line_at, position_or_end}
use Rattle.ec_heading.specs.Spelling.{reply_word}
use Rattle.ec_trace.specs.TraceModel.{TraceModel}
use Rattle.ec_trace.specs.Outcome.{parse_result}
use Rattle.ec_trace.specs.declared.fault.TraceFault.{TraceFault}
use Rattle.ec_trace.specs.declared.fault.TraceFault.TheVariants.{BadLine, Refused, WrongReply}
use Rattle.ec_trace.specs.declared.read.TheConstants.{TRACE_MAX}

-- WHAT IS READ

-- a line with another reply, which follows the equals sign
unfoldable pub with_reply : List ℕ → Reply → List ℕ
with_reply line r = take (position_or_end 61 line) line ++ codes "= " ++ reply_word r ++ codes "\n"

abbrev pub with_right : List ℕ → Option Reply → List ℕ
with_right line None = []
with_right line (Some r) = with_reply line r

-- a trace: the lines before a faulty one, that line with its right reply if there is one, and the
-- last line of a trace
unfoldable pub mended : List ℕ → List ℕ → Option Reply → List ℕ
mended before line right = before ++ with_right line right ++ codes "end\n"

abbrev pub read_back : Result TraceModel TraceFault → Option TraceModel
read_back (Ok t) = Some t
read_back (Err e) = None

-- the trace of that text; none if no run had begun before line n
abbrev pub history : ℕ → Option Reply → List ℕ → Option TraceModel
history n right xs =
    read_back (parse_result TRACE_MAX (mended (text_before_line n xs) (line_at n xs) right))

-- THE FAULT

-- the number of its line
abbrev pub fault_line : TraceFault → Option ℕ
fault_line (BadLine n) = Some n
fault_line (Refused n r) = Some n
fault_line (WrongReply n r) = Some n
fault_line _ = None

-- the right reply, if only the reply is wrong
abbrev pub right_of : TraceFault → Option Reply
right_of (WrongReply n r) = Some r
right_of _ = None

-- the position of the line's entry, if a history of k entries was read: after them, or that of the
-- last if it has a right reply
abbrev pub position_in : Option Reply → ℕ → ℕ
position_in None k = k
position_in (Some r) k = k - 1
