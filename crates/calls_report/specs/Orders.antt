-- A linearization of a history, as text.
use Rattle.std.specs.Prelude.{ℕ, ◌==◌, List, ◌++◌, codes, decimal, if◌then◌else◌}
use Rattle.std.specs.List.{flat_map}
use Rattle.ec_heading.specs.HeadingModel.{HeadingModel}
use Rattle.calls_core.specs.declared.history.Call.{Call}
use Rattle.calls_core.specs.declared.history.Placed.{Placed}
use Rattle.calls_text.specs.Spelling.{worker_word, call_text, spaced_reply}

-- what a call returned, after a space. The response of a pending call counts as one at position n,
-- the first after the events
abbrev pub shown_reply : HeadingModel → List (List ℕ) → ℕ → Call → List ℕ
shown_reply h lists n c =
    if c.last == n then codes " pending" else spaced_reply h lists c.object c.op c.reply

-- the point and the worker of a call
abbrev pub head_text : HeadingModel → Placed → List ℕ
head_text h p = decimal p.point ++ codes " " ++ worker_word h p.call.worker ++ codes " "

-- what it returned, and the end of its line
abbrev pub tail_text : HeadingModel → List (List ℕ) → ℕ → Call → List ℕ
tail_text h lists n c = codes " =" ++ shown_reply h lists n c ++ codes "\n"

-- the line of a call: its point, its worker, its operation, and what it returned
abbrev pub order_line : HeadingModel → List (List ℕ) → ℕ → Placed → List ℕ
order_line h lists n p =
    head_text h p ++ call_text h lists p.call.object p.call.op ++ tail_text h lists n p.call

abbrev pub order_lines : HeadingModel → List (List ℕ) → ℕ → List Placed → List ℕ
order_lines h lists n order = flat_map (λ p. order_line h lists n p) order
