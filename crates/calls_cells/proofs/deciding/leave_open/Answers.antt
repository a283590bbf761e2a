use Rattle.std.proofs.Common.{ℕ, Option, MatchOption, List, subst}
use Rattle.calls_core.specs.declared.history.Event.{Event}
use Rattle.calls_core.specs.declared.history.Call.{Call}
use Rattle.calls_core.specs.Beginnings.{past_at}
use Rattle.calls_distinct.specs.Outcomes.{AreAllPut, IsFirstNowhere}
use Rattle.calls_cells.proofs.Trying.{refused_nowhere, undecided_from}
use Rattle.calls_cells.proofs.deciding.leave_open.Goals as goal

abbrev IsFound : List Event → Option (ℕ × Call) → Type 0
IsFound events r =
    MatchOption r ((j : ℕ) → AreAllPut (past_at j events)) (λ w. IsFirstNowhere events w.0 w.1)

pub returns-in-Some : goal.returns-in-Some
returns-in-Some c = λ end. refused_nowhere c.args.events.now c.args.low c.args.undecided
    c.requires.history c.requires.ordered c.requires.outside c.in-Some.i c.in-Some.get
    (subst (IsFound c.args.events.now) c.in-Some.is c.in_ok-i.ensures)

pub returns-in-None : goal.returns-in-None
returns-in-None c = λ end. undecided_from c.args.events.now c.args.low c.args.undecided
    c.requires.history c.requires.ordered c.requires.outside c.requires.within
    (subst (IsFound c.args.events.now) c.in-None.is c.in_ok-i.ensures)
