-- A fault leaves no order.
use Rattle.std.proofs.Common.{ℕ, ◌≤◌, List, Some, inl, inr, refl, arith}
use Rattle.calls_core.specs.declared.history.Kind.TheVariants.{Cell}
use Rattle.calls_core.specs.declared.history.Event.{Event}
use Rattle.calls_core.specs.declared.history.Call.{Call}
use Rattle.calls_core.specs.Histories.{IsHistoryOf, clock, completed_calls, pending_calls}
use Rattle.calls_core.specs.Linearizations.{initial}
use Rattle.calls_core.specs.Outcomes.{IsOrderOf}
use Rattle.calls_core.proofs.Positions.{are_calls_of}
use Rattle.calls_distinct.proofs.Accesses.{zero_first, accesses_of}
use Rattle.calls_distinct.proofs.Faults as distinct
use Rattle.calls_serial.proofs.Sources as serial
use Rattle.calls_cells.specs.declared.outcome.Fault.{Fault}
use Rattle.calls_cells.specs.declared.outcome.Fault.TheVariants.{Distinct, Serial}
use Rattle.calls_cells.specs.Faults.{Shows, HasFault}

pub no_order : (past : List Event) (t : ℕ) (cs : List Call) → IsHistoryOf Cell past → clock past ≤ t
    → HasFault past → IsOrderOf Cell past t cs → ⊥
no_order past t cs h le (inl (f, s)) l =
    distinct.no_order (completed_calls past) (pending_calls past) t (clock past) f
    (initial (Some Cell)) cs
    (accesses_of Cell (completed_calls past) (pending_calls past) (clock past) (clock past) tt
    (omega arith) (are_calls_of Cell past h))
    (zero_first Cell tt) s l
no_order past t cs h le (inr (gets, s)) l =
    serial.no_order (completed_calls past) (pending_calls past) (clock past) t
    (are_calls_of Cell past h) le cs (λ i. 0) refl l gets s

pub shown : (past : List Event) (f : Fault) → Shows past f → HasFault past
shown past (Distinct f) s = inl (f, s)
shown past (Serial f) s = inr (f.gets.items, s)
