-- Linearizations as Herlihy and Wing define them: some pending calls are completed by later
-- responses (M. Herlihy and J. Wing, "Linearizability: A Correctness Condition for Concurrent
-- Objects", 1990).
use Rattle.std.specs.Prelude.{◌≡◌, ℕ, min, nat_lt, Bool, true, false, if◌then◌else◌, List, ◌++◌}
use Rattle.std.specs.List.{AllPairs}
use Rattle.std.specs.List.Sorted.{IsPermutation}
use Rattle.calls_core.specs.declared.history.Kind.{Kind}
use Rattle.calls_core.specs.declared.history.Action.{Action}
use Rattle.calls_core.specs.declared.history.Action.TheVariants.{Invoke, Respond}
use Rattle.calls_core.specs.declared.history.Event.{Event}
use Rattle.calls_core.specs.declared.history.Call.{Call}
use Rattle.calls_core.specs.Lists.{Each}
use Rattle.calls_core.specs.Histories.{IsHistory, completed_calls, part}
use Rattle.calls_core.specs.Linearizations.{KeepsOrder, IsLegalHistory, IsRun, start}

-- the completed calls, each once and no others, in an order that keeps the real-time order and is a
-- legal sequential history
pub record IsLegal (Run : List Call → Type 0) (past : List Event) (cs : List Call) : Type 0 where
  pub each_once : IsPermutation (completed_calls past) cs
  pub in_order : AllPairs KeepsOrder cs
  pub run : Run cs

abbrev pub is_response : Action → Bool
is_response (Invoke k op) = false
is_response (Respond r) = true

-- some pending calls get responses after the history; the calls then completed are in a legal
-- sequential order
pub record IsLinearizationIn (Run : List Call → Type 0) (kinds : List Kind) (past : List Event)
    (cs : List Call)
    : Type 0 where
  pub late : List Event
  pub responses : Each (λ (x : Event). is_response x.action ≡ true) late
  pub history : IsHistory kinds (late ++ past)
  pub legal : IsLegal Run (late ++ past) cs

-- a linearization of a history
abbrev pub IsLinearization : List Kind → List Event → List Call → Type 0
IsLinearization kinds past cs = IsLinearizationIn (IsRun (start kinds)) kinds past cs

-- a linearization of the events of the calls of object k
abbrev pub IsLinearizationOn : List Kind → ℕ → List Event → List Call → Type 0
IsLinearizationOn kinds k past cs = IsLinearizationIn (IsLegalHistory (start kinds k)) kinds
    (part k past) cs

-- whether a history has a linearization
abbrev pub IsLinearizable : List Kind → List Event → Type 0
IsLinearizable kinds past = (cs : List Call) × IsLinearization kinds past cs

abbrev pub IsLinearizableOn : List Kind → ℕ → List Event → Type 0
IsLinearizableOn kinds k past = (cs : List Call) × IsLinearizationOn kinds k past cs

abbrev pub with_last : Call → ℕ → Call
with_last c n =
    record {
      worker = c.worker;
      object = c.object;
      op = c.op;
      reply = c.reply;
      first = c.first;
      last = n;
    }

-- the call as it is known at position t: a later response counts as one at t
abbrev pub known_at : ℕ → Call → Call
known_at t c = with_last c (min c.last t)

abbrev pub settled_last : ℕ → ℕ → ℕ → ℕ
settled_last m t n = if nat_lt n m then n else t

-- the call; a response at position m or later counts as one at t
abbrev pub settle_call : ℕ → ℕ → Call → Call
settle_call m t c = with_last c (settled_last m t c.last)
