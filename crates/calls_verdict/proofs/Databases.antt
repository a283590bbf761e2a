-- A database is decided as a cell.
use Rattle.std.proofs.Common.{ℕ, List, Result, Ok, Err, IfOk}
use Rattle.calls_core.specs.declared.history.Kind.TheVariants.{Cell, Database}
use Rattle.calls_core.specs.declared.history.Event.{Event}
use Rattle.calls_verdict.specs.declared.verdict.Decision.{Decision}
use Rattle.calls_verdict.specs.declared.verdict.Decision.TheVariants.{Ordered, Refused, Open}
use Rattle.calls_verdict.specs.Verdicts.{IsDecision}

decision : (n : ℕ) (events : List Event) (t : ℕ) (d : Decision) → IsDecision Cell events t d
    → IsDecision (Database n) events t d
decision n events t (Ordered cs) h = h
decision n events t (Refused i f) h = record {
  within = h.within;
  shows = h.shows;
  before = h.before;
}
decision n events t (Open i u) h = record {
  within = h.within;
  shows = h.shows;
  before = h.before;
  hard = h.hard;
}

-- what is decided of the cell holds of the database
pub database_decision : {E : Type 0} (n : ℕ) (events : List Event) (t : ℕ) (r : Result Decision E)
    → IfOk r (IsDecision Cell events t) → IfOk r (IsDecision (Database n) events t)
database_decision n events t (Ok d) h = decision n events t d h
database_decision n events t (Err e) h = h
