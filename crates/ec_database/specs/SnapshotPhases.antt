-- The call lists by index: the call at an index of the list, from the numbers that earlier calls
-- returned.
use Rattle.std.specs.Prelude.{ℕ, ◌+◌, ◌-◌, Bool, ◌==◌, ◌&&◌, not, nat_lt, List, [], ◌∷◌, ◌++◌, length, Option, Some, None, if◌then◌else◌, get_or}
use Rattle.ec_core.specs.declared.act.Act.{Act}
use Rattle.ec_core.specs.declared.act.Act.TheVariants.{Advance, Read, Await, Ticket, Put, Get}
use Rattle.ec_core.specs.declared.protocol.ListProgress.{ListProgress}
use Rattle.ec_core.specs.Following.{CompletedCall}
use Rattle.ec_core.specs.CallLists.{reply_number}
use Rattle.ec_database.specs.Shapes.{Database}
use Rattle.ec_database.specs.declared.ending.SnapshotEnd.{SnapshotEnd}
use Rattle.ec_database.specs.declared.ending.SnapshotEnd.TheVariants.{Accepted, Disturbed}
use Rattle.ec_database.specs.Calls.{first_number, drawn_turn}

-- of a write, from its turn
abbrev pub write_at : Database → List ℕ → ℕ → ℕ → Option Act
write_at d values at turn =
    if at == 0 then Some (Advance d.start)
    else (if at == 1 then Some (Ticket d.turn)
    else (if at == 2 then Some (Await d.done turn)
    else (if nat_lt at (d.cells + 3) then Some (Put (d.first_cell + (at - 3)) (get_or values (at - 3) 0))
    else (if at == d.cells + 3 then Some (Advance d.done)
    else None))))

-- the turn after further calls
abbrev pub turn_after : ℕ → ℕ → List CompletedCall → ℕ
turn_after at turn calls = if at == 0 then drawn_turn calls else (if at == 1 then first_number calls else turn)

-- what is left of a write at an index
abbrev pub write_rest : Database → List ℕ → ℕ → ℕ → List CompletedCall → Option Act
write_rest d values at turn calls = write_at d values (at + length calls) (turn_after at turn calls)

-- of a try, from the version that it read first
abbrev pub try_at : Database → ℕ → ℕ → Option Act
try_at d at version =
    if at == 0 then Some (Read d.start)
    else (if at == 1 then Some (Await d.done version)
    else (if nat_lt at (d.cells + 2) then Some (Get (d.first_cell + (at - 2)))
    else (if at == d.cells + 2 then Some (Read d.start)
    else None)))

-- the phase of a snapshot: the tries left, this one among them; the index in this try; what it read
-- so far; and at its end, whether its two reads agree
pub record SnapshotPhase : Type 0 where
  pub left : ℕ
  pub at : ℕ
  pub version : ℕ
  pub values : List ℕ
  pub agreed : Bool

-- once the try has read its last number: it ends there, or the next try begins
abbrev pub phase_at_end : SnapshotPhase → Bool → SnapshotPhase
phase_at_end p agreed =
    if not agreed && nat_lt 1 p.left
    then record p { left = p.left - 1; at = 0; values = [] }
    else record p { at = p.at + 1; agreed = agreed }

-- once a call has returned n
abbrev pub next_phase : Database → SnapshotPhase → ℕ → SnapshotPhase
next_phase d p n =
    if p.at == 0 then record p { at = 1; version = n }
    else (if p.at == 1 then record p { at = 2 }
    else (if nat_lt p.at (d.cells + 2) then record p { at = p.at + 1; values = p.values ++ n ∷ [] }
    else (if p.at == d.cells + 2 then phase_at_end p (n == p.version)
    else p)))

abbrev pub phase_after : Database → SnapshotPhase → List CompletedCall → SnapshotPhase
phase_after d p [] = p
phase_after d p (c ∷ calls) = phase_after d (next_phase d p (reply_number c.reply)) calls

-- what is left of a snapshot in a phase
abbrev pub snapshot_rest : Database → SnapshotPhase → List CompletedCall → Option Act
snapshot_rest d p calls = (let q = phase_after d p calls in try_at d q.at q.version)

abbrev pub end_at : Database → SnapshotPhase → Option SnapshotEnd
end_at d p = if p.at == d.cells + 3 then Some (if p.agreed then Accepted p.version (record { items = p.values }) else Disturbed) else None

-- the progress in a list of either kind: a write's turn is the second number, a try's version the
-- first
abbrev pub list_progress : List CompletedCall → ListProgress
list_progress calls =
    record { at = length calls; first = first_number calls; second = drawn_turn calls }
