-- Other numbers for the values of cells and databases.
use Rattle.std.specs.Prelude.{◌≡◌, ◌↔◌, ℕ, List, [], ◌∷◌, Option, Some, None}
use Rattle.calls_core.specs.declared.history.Kind.{Kind}
use Rattle.calls_core.specs.declared.history.Op.{Op}
use Rattle.calls_core.specs.declared.history.Op.TheVariants.{Put, Get}
use Rattle.calls_core.specs.declared.history.Reply.{Reply}
use Rattle.calls_core.specs.declared.history.Reply.TheVariants.{Number}
use Rattle.calls_core.specs.declared.history.Action.{Action}
use Rattle.calls_core.specs.declared.history.Action.TheVariants.{Invoke, Respond}
use Rattle.calls_core.specs.declared.history.Event.{Event}
use Rattle.calls_core.specs.declared.history.PendingCall.{PendingCall}
use Rattle.calls_core.specs.Histories.{pending_of, pending_calls, IsHistory}
use Rattle.calls_core.specs.Completions.{IsLinearizable}

-- f k v is the new number of the value v of object k: equal only for equal values, and 0 for the
-- initial value
pub record IsNaming (f : ℕ → ℕ → ℕ) : Type 0 where
  pub first : (k : ℕ) → f k 0 ≡ 0
  pub one_to_one : (k u v : ℕ) → f k u ≡ f k v → u ≡ v

abbrev pub renamed_op : (ℕ → ℕ) → Op → Op
renamed_op f (Put v) = Put (f v)
renamed_op f op = op

abbrev pub renamed_reply : (ℕ → ℕ) → Op → Reply → Reply
renamed_reply f Get (Number n) = Number (f n)
renamed_reply f op r = r

-- the action of an event whose worker has this pending call
abbrev pub renamed_action : (ℕ → ℕ → ℕ) → Action → Option PendingCall → Action
renamed_action f (Invoke k op) o = Invoke k (renamed_op (f k) op)
renamed_action f (Respond r) None = Respond r
renamed_action f (Respond r) (Some o) = Respond (renamed_reply (f o.object) o.op r)

-- the same history, in which each value that is put or got has its new number
abbrev pub rename_values : (ℕ → ℕ → ℕ) → List Event → List Event
rename_values f [] = []
rename_values f (x ∷ past) =
    record {
      at = x.at;
      worker = x.worker;
      action = renamed_action f x.action
          (pending_of x.worker (pending_calls past));
    } ∷ rename_values f past

-- whether a history is linearizable does not depend on the numbers that the values of its cells and
-- databases have
abbrev pub NumbersAreNames : Type 0
NumbersAreNames = (kinds : List Kind) (f : ℕ → ℕ → ℕ) (past : List Event) → IsNaming f
    → IsHistory kinds past
    → IsHistory kinds (rename_values f past) × (IsLinearizable kinds past
    ↔ IsLinearizable kinds (rename_values f past))
