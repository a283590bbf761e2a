-- The models of groups and zones. Only the proofs and the private contracts use this.
use Rattle.std.specs.Prelude.{ℕ, Bool}
use Rattle.calls_core.specs.declared.history.Call.{Call}

-- a summary of all calls of one value
pub record Group : Type 0 where
  pub got : Bool
  pub puts : ℕ
  pub put : ℕ
  pub early : Call
  pub late : Call

-- a call, and the group of its value
pub record GroupedCall : Type 0 where
  pub call : Call
  pub group : Group

-- a call that takes effect, and two calls of its zone
pub record Zone : Type 0 where
  pub call : Call
  pub early : Call
  pub late : Call
