-- What a procedure will still ask for, and how a snapshot will have ended, as functions of the calls to come.
use Rattle.std.specs.Prelude.{List, Option}
use Rattle.ec_core.specs.Following.{CompletedCall}
use Rattle.ec_database.specs.declared.ending.SnapshotEnd.{SnapshotEnd}
use Rattle.ec_database.specs.declared.snapshot.Snapshot.{Snapshot}
use Rattle.ec_database.specs.SnapshotPhases.{SnapshotPhase, phase_after, end_at}

abbrev pub try_place : Snapshot → SnapshotPhase
try_place s = record { left = s.left; at = s.at; version = s.version; values = s.values.items; agreed = s.agreed }

-- how the snapshot will have ended after these further calls, if it will
abbrev pub ending : Snapshot → List CompletedCall → Option SnapshotEnd
ending s calls = end_at s.shape (phase_after s.shape (try_place s) calls)
