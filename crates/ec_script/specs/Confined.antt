-- Which commands scripts of a version have, and which use the objects of groups only by the groups'
-- own procedures.
use Rattle.std.specs.Prelude.{◌≡◌, ◌≢◌, ℕ, ◌<◌, ◌≤◌, Bool, true, false, List, length, map, Some, Ok}
use Rattle.std.specs.List.{AllByRecursion, Contains}
use Rattle.ec_machine.specs.declared.command.Command.{Command}
use Rattle.ec_machine.specs.declared.command.Command.TheViews.{out-Command}
use Rattle.ec_machine.specs.declared.command.Command.TheOpen.{Command-F}
use Rattle.ec_machine.specs.declared.command.Command.TheOpen as layer
use Rattle.ec_machine.specs.Unrolled.{unroll}
use Rattle.ec_heading.specs.declared.version.Version.{Version}
use Rattle.ec_heading.specs.Versions.{has_transfer}
use Rattle.ec_heading.specs.declared.group.Group.{Group}
use Rattle.ec_heading.specs.declared.group.Group.TheVariants as groups
use Rattle.ec_script.specs.declared.object.Object.{Object}
use Rattle.ec_script.specs.declared.object.Object.TheVariants.{Event, Sequencer, Cell}
use Rattle.ec_script.specs.declared.block_item.BlockItem.{BlockItem}
use Rattle.ec_script.specs.declared.block_item.BlockItem.TheVariants.{Do, Write, Begin, End}
use Rattle.ec_script.specs.Objects.{owns, is_owned}
use Rattle.ec_heading.specs.Groups.{both_of}
use Rattle.ec_script.specs.Flat.{flat}
use Rattle.ec_script.specs.ScriptModel.{PlanModel}
use Rattle.ec_script.specs.Outcome.{parse_result}

-- OF A VERSION

-- whether scripts of the version have the command
abbrev pub has_command : Version → Command-F Command → Bool
has_command v (layer.Hand e b) = has_transfer v
has_command v _ = true

-- by their lines
abbrev pub has_item : Version → BlockItem → Bool
has_item v (Do c) = has_command v (out-Command c)
has_item v (Write d vs) = true
has_item v (Begin n) = true
has_item v End = true

abbrev pub HasItem : Version → BlockItem → Type 0
HasItem v o = has_item v o ≡ true

-- each line of each program
abbrev pub HasItems : Version → List (List BlockItem) → Type 0
HasItems v programs = AllByRecursion (AllByRecursion (HasItem v)) programs

-- each command of a program with its repeats unrolled
abbrev pub HasProgram : Version → List Command → Type 0
HasProgram v cs = AllByRecursion (λ c. has_command v (out-Command c) ≡ true) (unroll cs)

abbrev pub HasPrograms : Version → List (List Command) → Type 0
HasPrograms v programs = AllByRecursion (HasProgram v) programs

-- ONE COMMAND

-- a raw command names no object of a group; a procedure is one of a declared group of its kind; P
-- on two semaphores uses the common one and two declared ones that differ (a semaphore is
-- identified by its sequencer)
abbrev pub UsesGroups : List Group → Command-F Command → Type 0
UsesGroups gs (layer.Advance e) = is_owned gs (Event e) ≡ false
UsesGroups gs (layer.Read e) = is_owned gs (Event e) ≡ false
UsesGroups gs (layer.Await e v) = is_owned gs (Event e) ≡ false
UsesGroups gs (layer.Ticket q) = is_owned gs (Sequencer q) ≡ false
UsesGroups gs (layer.Put x v) = is_owned gs (Cell x) ≡ false
UsesGroups gs (layer.Get x) = is_owned gs (Cell x) ≡ false
UsesGroups gs (layer.Hand e b) = is_owned gs (Event e) ≡ false
UsesGroups gs (layer.Produce b v) = Contains gs (groups.Buffer b)
UsesGroups gs (layer.Consume b) = Contains gs (groups.Buffer b)
UsesGroups gs (layer.WriteAll d vs) = Contains gs (groups.Database d)
UsesGroups gs (layer.Snapshot d n) = Contains gs (groups.Database d)
UsesGroups gs (layer.Down s) = Contains gs (groups.Semaphore s)
UsesGroups gs (layer.Up s) = Contains gs (groups.Semaphore s)
UsesGroups gs (layer.DownBoth common one other) =
    (both_of gs ≡ Some common) × Contains gs (groups.Semaphore one) × Contains gs (groups.Semaphore other) × (one.line ≢ other.line)
UsesGroups gs (layer.Repeat n block) = Unit {0}

-- BY THEIR LINES

abbrev pub IsConfined : List Group → BlockItem → Type 0
IsConfined gs (Do c) = UsesGroups gs (out-Command c)
IsConfined gs (Write d vs) = Contains gs (groups.Database d)
IsConfined gs (Begin n) = Unit {0}
IsConfined gs End = Unit {0}

-- each line of each program
abbrev pub AreConfined : List Group → List (List BlockItem) → Type 0
AreConfined gs programs = AllByRecursion (AllByRecursion (IsConfined gs)) programs

-- no object belongs to two groups
abbrev pub AreApart : List Group → Type 0
AreApart gs = (o : Object) (g k : Group) → Contains gs g → Contains gs k → owns o g ≡ true → owns o k ≡ true → g ≡ k

-- some worker is declared, the groups are apart, there is a program for each declared worker, each confined and of commands that the
-- version of the header has, and a schedule of declared workers
pub record IsPlan (p : PlanModel) : Type 0 where
  pub some : 1 ≤ p.heading.setup.workers
  pub apart : AreApart p.heading.groups
  pub programs : length p.programs ≡ p.heading.setup.workers
  pub confined : AreConfined p.heading.groups p.programs
  pub version : HasItems p.heading.version p.programs
  pub schedule : AllByRecursion (λ w. w < p.heading.setup.workers) p.schedule

-- every script is such a plan
abbrev pub PlansAreConfined : Type 0
PlansAreConfined = (bytes : List ℕ) (p : PlanModel) → parse_result bytes ≡ Ok p → IsPlan p

-- UNROLLED

-- each command of a program with its repeats unrolled
abbrev pub IsConfinedProgram : List Group → List Command → Type 0
IsConfinedProgram gs cs = AllByRecursion (λ c. UsesGroups gs (out-Command c)) (unroll cs)

abbrev pub AreConfinedPrograms : List Group → List (List Command) → Type 0
AreConfinedPrograms gs programs = AllByRecursion (IsConfinedProgram gs) programs

-- programs whose lines are confined have only confined commands
abbrev pub ConfinedLinesAreConfinedCommands : Type 0
ConfinedLinesAreConfinedCommands = (gs : List Group) (programs : List (List Command)) → AreConfined gs (map flat programs) → AreConfinedPrograms gs programs
