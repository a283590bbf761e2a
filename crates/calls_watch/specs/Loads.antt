-- How many calls were watched, and how much they overlap.
use Rattle.std.specs.Prelude.{◌≡◌, ℕ, ◌+◌, ◌-◌, ◌*◌, ◌/◌, ◌%◌, ◌==◌, ◌||◌, nat_lt, List, [], ◌∷◌, ◌++◌, length}
use Rattle.std.specs.Prelude.{reverse, codes, decimal, if◌then◌else◌}
use Rattle.calls_core.specs.declared.history.Action.{Action}
use Rattle.calls_core.specs.declared.history.Action.TheVariants.{Invoke, Respond}
use Rattle.calls_core.specs.declared.history.Event.{Event}
use Rattle.calls_core.specs.Histories.{pending_calls}
use Rattle.calls_text.specs.Outcomes.{OneRead}
use Rattle.calls_watch.specs.declared.load.TheConstants.{CALLS_MAX}
use Rattle.calls_watch.specs.declared.load.Load.{Load}

-- COUNTING

-- how many calls an event invokes
abbrev pub invocation_count : Action → ℕ
invocation_count (Invoke k op) = 1
invocation_count (Respond r) = 0

-- how many other calls are pending after an invocation
abbrev pub others_at : Action → ℕ → ℕ
others_at (Invoke k op) n = n - 1
others_at (Respond r) n = 0

-- the calls that were invoked
abbrev pub calls_of : List Event → ℕ
calls_of [] = 0
calls_of (x ∷ past) = calls_of past + invocation_count x.action

-- the other pending calls, added up over all invocations
abbrev pub others_of : List Event → ℕ
others_of [] = 0
others_of (x ∷ past) = others_of past + others_at x.action (length (pending_calls (x ∷ past)))

-- the same of several histories
abbrev pub calls_in : List OneRead → ℕ
calls_in [] = 0
calls_in (r ∷ rs) = calls_of (reverse r.recorded.events) + calls_in rs

abbrev pub others_in : List OneRead → ℕ
others_in [] = 0
others_in (r ∷ rs) = others_of (reverse r.recorded.events) + others_in rs

-- the load of these histories, and of the events after them
pub record IsLoad (reads : List OneRead) (past : List Event) (l : Load) : Type 0 where
  pub histories : l.histories ≡ length reads
  pub calls : l.calls ≡ calls_in reads + calls_of past
  pub others : l.others ≡ others_in reads + others_of past

-- AS TEXT

-- the next digit of a fraction
abbrev pub digit_text : ℕ → ℕ → List ℕ
digit_text rest whole = decimal (rest * 10 / whole)

-- how many other calls are pending on average, with two decimals, cut off; for no calls, or more
-- than CALLS_MAX, it is 0.00
abbrev pub overlap_text : ℕ → ℕ → List ℕ
overlap_text calls others =
    if (calls == 0) || nat_lt CALLS_MAX calls then codes "0.00"
    else decimal (others / calls) ++ codes "." ++ digit_text (others % calls) calls
    ++ digit_text (others % calls * 10 % calls) calls

abbrev pub load_text : ℕ → ℕ → ℕ → List ℕ
load_text histories calls others =
    decimal histories ++ codes " histories, " ++ decimal calls ++ codes " calls, overlap "
    ++ overlap_text calls others ++ codes "\n"

-- the line that is written after these histories
abbrev pub summary_of : List OneRead → List ℕ
summary_of reads = load_text (length reads) (calls_in reads) (others_in reads)
