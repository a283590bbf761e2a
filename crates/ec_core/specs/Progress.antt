-- Pending calls, as a world stores them.
use Rattle.std.specs.Prelude.{ℕ}
use Rattle.ec_core.specs.declared.act.Act.{Act}

-- the progress of a pending call: the act that began it, the component that is read next, and the
-- sum of the round so far
pub record Progress : Type 0 where
  pub op : Act
  pub index : ℕ
  pub sum : ℕ

-- the progress of its round
pub record RoundSoFar : Type 0 where
  pub index : ℕ
  pub sum : ℕ
