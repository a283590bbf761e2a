-- The steps of one worker, the newest first. They are cut into calls as the entries of a history
-- are: a read or an await goes on with the goes after it, up to the first entry whose reply is not
-- Pending. Whose steps they are doesn't matter here.
use Rattle.std.specs.Prelude.{◌≡◌, ℕ, ◌==◌, List, [], ◌∷◌, ◌++◌, Option, Some, None, is_some, if◌then◌else◌}
use Rattle.std.specs.List.{filter}
use Rattle.ec_core.specs.declared.act.Act.{Act}
use Rattle.ec_core.specs.declared.act.Act.TheVariants.{Go}
use Rattle.ec_core.specs.declared.act.Entry.{Entry}
use Rattle.ec_core.specs.Calls.{is_pending}
use Rattle.ec_core.specs.Following.{CompletedCall}
use Rattle.ec_core.specs.Procedures.{next_of}

-- the act that began the call that an act is part of, if this one began the pending call
abbrev pub begun_by : Act → Option Act → Act
begun_by Go None = Go
begun_by Go (Some op) = op
begun_by act o = act

-- the act that began the pending call, if one is
unfoldable pub opening : List Entry → Option Act
opening [] = None
opening (x ∷ past) = if is_pending x.reply then Some (begun_by x.act (opening past)) else None

-- the completed calls, in order
unfoldable pub completed_calls : List Entry → List CompletedCall
completed_calls [] = []
completed_calls (x ∷ past) =
    if is_pending x.reply
    then completed_calls past
    else completed_calls past ++ record { op = begun_by x.act (opening past); reply = x.reply } ∷ []

-- the act that a written list of calls has next: Go if a call is pending
abbrev pub due_after : (List CompletedCall → Option Act) → List Entry → Option Act
due_after list past = next_of (is_some (opening past)) (list (completed_calls past))

-- each step is the one that the list has next after those before it: the calls are a prefix of the
-- list, and a pending call is the next one
unfoldable pub IsRun : (List CompletedCall → Option Act) → List Entry → Type 0
IsRun list [] = Unit {0}
IsRun list (x ∷ past) = (due_after list past ≡ Some x.act) × IsRun list past

-- the steps of a worker in a history
abbrev pub own : ℕ → List Entry → List Entry
own w past = filter (λ (x : Entry). x.worker == w) past
