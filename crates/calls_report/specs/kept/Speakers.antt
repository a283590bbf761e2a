-- What the text of calls depends on, as the code represents it.
use Rattle.std.specs.Prelude.{ℕ, List}
use Rattle.ec_heading.specs.HeadingModel.{HeadingModel}
use Rattle.calls_core.specs.declared.history.Op.{Op}
use Rattle.calls_core.specs.declared.history.Op.TheVariants as ops

-- what is declared, and the lists of numbers
pub record SpeakerModel : Type 0 where
  pub heading : HeadingModel
  pub lists : List (List ℕ)

-- a put or a get
abbrev pub IsStoreOp : Op → Type 0
IsStoreOp (ops.Put n) = Unit {0}
IsStoreOp ops.Get = Unit {0}
IsStoreOp _ = ⊥

-- a produce or a consume
abbrev pub IsItemOp : Op → Type 0
IsItemOp (ops.Produce n) = Unit {0}
IsItemOp ops.Consume = Unit {0}
IsItemOp _ = ⊥
