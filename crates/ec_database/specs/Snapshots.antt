-- Snapshots: tries one after another, until one is accepted or none is left.
use Rattle.std.specs.List.{flat_map}
use Rattle.std.specs.Prelude.{◌≡◌, ℕ, ◌+◌, ◌-◌, ◌<◌, Bool, true, false, ◌==◌, ◌&&◌, not, nat_lt, List, [], ◌∷◌, ◌++◌, All, length, map, take, drop, Option, Some, None, is_some, if◌then◌else◌}
use Rattle.ec_core.specs.declared.act.Act.{Act}
use Rattle.ec_core.specs.Following.{CompletedCall}
use Rattle.ec_core.specs.Procedures.{IsWritten}
use Rattle.ec_core.specs.CallLists.{reply_number}
use Rattle.ec_database.specs.declared.ending.SnapshotEnd.{SnapshotEnd}
use Rattle.ec_database.specs.declared.ending.SnapshotEnd.TheVariants.{Accepted, Disturbed}
use Rattle.ec_database.specs.Shapes.{Database}
use Rattle.ec_database.specs.Calls.{first_number, try_call}

-- whether these are the calls of a whole try
abbrev pub is_whole : Database → List CompletedCall → Bool
is_whole d calls = not (is_some (try_call d calls))

-- of the calls of a try: the version that it read first, the one that it read last, and the values that it got
abbrev pub version_read : List CompletedCall → ℕ
version_read calls = first_number calls

abbrev pub version_again : Database → List CompletedCall → ℕ
version_again d (w ∷ a ∷ calls) = first_number (drop d.cells calls)
version_again d _ = 0

abbrev pub values_got : Database → List CompletedCall → List ℕ
values_got d (w ∷ a ∷ calls) = map (λ c. reply_number c.reply) (take d.cells calls)
values_got d _ = []

-- whether its two reads of the count of starts agree
abbrev pub agrees : Database → List CompletedCall → Bool
agrees d calls = version_again d calls == version_read calls

-- the progress of a snapshot: the tries left, this one among them, and the completed calls of this
-- try
pub record TryState : Type 0 where
  pub left : ℕ
  pub calls : List CompletedCall

-- the next try, if this one is whole, its reads differ and one is left
abbrev pub try_again : Database → TryState → TryState
try_again d s =
    if is_whole d s.calls && not (agrees d s.calls) && nat_lt 1 s.left
    then record { left = s.left - 1; calls = [] }
    else s

-- after one more call of a snapshot that is not at its end
abbrev pub after_call : Database → TryState → CompletedCall → TryState
after_call d s c = if is_whole d s.calls then s else try_again d (record { left = s.left; calls = s.calls ++ c ∷ [] })

abbrev pub trying_after : Database → TryState → List CompletedCall → TryState
trying_after d s [] = s
trying_after d s (c ∷ calls) = trying_after d (after_call d s c) calls

-- the progress of a snapshot of so many tries after these calls
abbrev pub trying : Database → ℕ → List CompletedCall → TryState
trying d tries calls = trying_after d (record { left = tries; calls = [] }) calls

-- the call that comes after these calls of it, or none
abbrev pub snapshot_call : Database → ℕ → List CompletedCall → Option Act
snapshot_call d tries calls = try_call d (trying d tries calls).calls

-- how a try ends whose calls are whole
abbrev pub end_of_try : Database → List CompletedCall → SnapshotEnd
end_of_try d calls = if agrees d calls then Accepted (version_read calls) (record { items = values_got d calls }) else Disturbed

abbrev pub end_of_calls : Database → List CompletedCall → Option SnapshotEnd
end_of_calls d calls = if is_whole d calls then Some (end_of_try d calls) else None

-- how it has ended after these calls, if it has
abbrev pub snapshot_end : Database → ℕ → List CompletedCall → Option SnapshotEnd
snapshot_end d tries calls = end_of_calls d (trying d tries calls).calls

-- THE SAME BY TRIES

-- a whole try whose two reads differ
pub record IsDisturbed (d : Database) (calls : List CompletedCall) : Type 0 where
  pub asked : IsWritten (try_call d) calls
  pub whole : is_whole d calls ≡ true
  pub differ : agrees d calls ≡ false

-- the calls are disturbed tries, fewer than the snapshot may make, and a prefix of one more, or the
-- whole of it: it is what the snapshot asks for and ends with, and is itself disturbed only if no
-- try is left
pub record AreTries (d : Database) (tries : ℕ) (calls : List CompletedCall) : Type 0 where
  pub disturbed : List (List CompletedCall)
  pub last : List CompletedCall
  pub order : calls ≡ flat_map (λ b. b) disturbed ++ last
  pub each : All (IsDisturbed d) disturbed
  pub asked : IsWritten (try_call d) last
  pub few : length disturbed < tries
  pub next : snapshot_call d tries calls ≡ try_call d last
  pub ends : snapshot_end d tries calls ≡ end_of_calls d last
  pub stops : is_whole d last ≡ true → agrees d last ≡ false → length disturbed + 1 ≡ tries
