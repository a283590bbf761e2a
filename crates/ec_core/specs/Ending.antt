-- What an audit is after all entries of a history.
use Rattle.std.specs.Prelude.{List, reverse}
use Rattle.ec_count.specs.Tables.{Tables, IsDeclared}
use Rattle.ec_core.specs.declared.act.Entry.{Entry}
use Rattle.ec_core.specs.Acceptance.{IsAccepted}

-- h is an accepted history, and P holds after it
pub record EndsAt (t : Tables) (P : List Entry → Type 0) (h : List Entry) : Type 0 where
  pub declared : IsDeclared t
  pub accepted : IsAccepted t (reverse h)
  pub represents : P (reverse h)
