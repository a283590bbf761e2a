-- What the words of a command line ask for. The first word is the program's name.
use Rattle.std.specs.Prelude.{◌≡◌, ◌⊎◌, ℕ, List, [], ◌∷◌, ◌++◌, Option, Some, None, String, true, codes, map, option_and_then, option_map}
use Rattle.std.specs.Global.{Global}
use Rattle.clap.specs.Words.{App, Kinds, Rule, Shape, Text, fault_of, first_of, new_app, new_rule, subcommand_of, with_rule, with_subcommand}
use Rattle.clap.specs.declared.builder.action.ArgAction.TheVariants.{Set}
use Rattle.clap.specs.declared.error.kind.ErrorKind.{ErrorKind}
use Rattle.clap.specs.declared.error.kind.ErrorKind.TheVariants as kinds
use Rattle.evc_cli.specs.declared.choice.Task.{Task}
use Rattle.evc_cli.specs.declared.choice.Task.TheVariants as tasks
use Rattle.evc_cli.specs.Turns.{HasTurnsOf, IsInRange, Writes, turns_rule}

-- the words as texts
abbrev pub texts_of : List (String Global) → List Text
texts_of = map (λ word. word.bytes.items)

-- `evc` as clap knows it, without its commands: one of them has to be given, and it has a version
abbrev pub bare_app : App
bare_app = let new : App = new_app (codes "evc") in record new { top = record new.top { subcommand_required = true; has_version = true } }

-- `FILE` as clap knows it
abbrev pub file_rule : Rule
file_rule = record (new_rule (codes "file")) { action = Some Set; value_names = 1 }

-- a command that takes a file
abbrev pub command_app : Text → App
command_app name = with_rule (new_app name) file_rule

-- `evc run` as clap knows it
abbrev pub run_app : App
run_app = with_rule (command_app (codes "run")) turns_rule

-- `evc` as clap knows it, with the commands that read traces
abbrev pub trace_app : App
trace_app =
    with_subcommand
    (with_subcommand
    (with_subcommand bare_app (command_app (codes "check")).top)
    (command_app (codes "audit")).top)
    (command_app (codes "upgrade")).top

-- `evc` as clap knows it
abbrev pub evc_app : App
evc_app = with_subcommand (with_subcommand trace_app (command_app (codes "sim")).top) run_app.top

-- the names of its commands
abbrev pub command_names : List Text
command_names = map (λ (s : Shape). s.name) evc_app.subs

-- the name is one of these
abbrev pub IsOneOf : List Text → Text → Type 0
IsOneOf [] name = ⊥
IsOneOf (x ∷ xs) name = (name ≡ x) ⊎ IsOneOf xs name

-- the name of the task's command
abbrev pub name_of : Task → Text
name_of tasks.Check = codes "check"
name_of tasks.Audit = codes "audit"
name_of tasks.Upgrade = codes "upgrade"
name_of tasks.Sim = codes "sim"
name_of (tasks.Run turns) = codes "run"

-- the words name the task: its command is the one that clap finds in them
abbrev pub NamesTask : List Text → Task → Type 0
NamesTask words t = option_map (λ found. found.0) (subcommand_of evc_app words) ≡ Some (name_of t)

-- the text that clap finds in the words for `--turns`, if there is one
abbrev pub turns_text : List Text → Option Text
turns_text words = option_and_then (λ found. first_of (codes "turns") found.1) (subcommand_of evc_app words)

-- the file that they name, if they name one
abbrev pub file_in : List Text → Option Text
file_in words = option_and_then (λ found. first_of (codes "file") found.1) (subcommand_of evc_app words)

-- what is wrong with the words, by clap's rules, or the help or version that they ask for: nothing
-- if they are right
abbrev pub faults_in : List Text → Kinds
faults_in words = fault_of evc_app words

-- the words are right, and ask for this: they name the task and the file, and a task that runs
-- workers has the number of turns that they give
pub record AskFor (words : List Text) (t : Task) (file : Option Text) : Type 0 where
  pub right : faults_in words ≡ []
  pub task_is : NamesTask words t
  pub turns_are : HasTurnsOf (turns_text words) t
  pub file_is : file_in words ≡ file

-- the exit status for a kind of error: 0 if help or the version was asked for, 4 if memory ran out, and 2
-- if the words are wrong
abbrev pub status_by : ErrorKind → ℕ
status_by kinds.DisplayHelp = 0
status_by kinds.DisplayVersion = 0
status_by kinds.OutOfMemory = 4
status_by _ = 2

-- the plainest command lines, under any name of the program: each command is right without a file
-- and with one, and gives its task, `run` with 10000 turns; `--help` asks for help, and `--version`
-- and `-V` for the version; and no word, an unknown word and a second file are wrong
pub record ReadsPlainLines : Type 0 where
  pub check : (program : Text) → AskFor (program ∷ codes "check" ∷ []) tasks.Check None
  pub audit : (program : Text) → AskFor (program ∷ codes "audit" ∷ []) tasks.Audit None
  pub upgrade : (program : Text) → AskFor (program ∷ codes "upgrade" ∷ []) tasks.Upgrade None
  pub sim : (program : Text) → AskFor (program ∷ codes "sim" ∷ []) tasks.Sim None
  pub run : (program : Text) → AskFor (program ∷ codes "run" ∷ []) (tasks.Run 10000) None
  pub check_file : (program : Text)
      → AskFor (program ∷ codes "check" ∷ codes "a.trace" ∷ []) tasks.Check (Some (codes "a.trace"))
  pub audit_file : (program : Text)
      → AskFor (program ∷ codes "audit" ∷ codes "a.trace" ∷ []) tasks.Audit (Some (codes "a.trace"))
  pub upgrade_file : (program : Text)
      → AskFor (program ∷ codes "upgrade" ∷ codes "a.trace" ∷ []) tasks.Upgrade (Some (codes "a.trace"))
  pub sim_file : (program : Text)
      → AskFor (program ∷ codes "sim" ∷ codes "a.script" ∷ []) tasks.Sim (Some (codes "a.script"))
  pub run_file : (program : Text)
      → AskFor (program ∷ codes "run" ∷ codes "a.script" ∷ []) (tasks.Run 10000) (Some (codes "a.script"))
  pub help : (program : Text) → faults_in (program ∷ codes "--help" ∷ []) ≡ kinds.DisplayHelp ∷ []
  pub version : (program : Text) → faults_in (program ∷ codes "--version" ∷ []) ≡ kinds.DisplayVersion ∷ []
  pub short_version : (program : Text) → faults_in (program ∷ codes "-V" ∷ []) ≡ kinds.DisplayVersion ∷ []
  pub none : (program : Text) → faults_in (program ∷ []) ≡ kinds.MissingSubcommand ∷ []
  pub unknown : (program : Text) → faults_in (program ∷ codes "frobnicate" ∷ []) ≡ kinds.UnknownArgument ∷ kinds.InvalidSubcommand ∷ []
  pub second : (program : Text) → faults_in (program ∷ codes "check" ∷ codes "a" ∷ codes "b" ∷ []) ≡ kinds.UnknownArgument ∷ []

-- the words are `run --turns N` or `run --turns=N` with that text, under any name of the program
abbrev pub RunWith : Text → List Text → Type 0
RunWith text words = (program : Text) × ((words ≡ program ∷ codes "run" ∷ codes "--turns" ∷ text ∷ [])
    ⊎ (words ≡ program ∷ codes "run" ∷ (codes "--turns=" ++ text) ∷ []))

-- if the text writes a number, these words are right exactly if that is a number of turns that a
-- worker may have, and then give that many, and no file
pub record ReadsTurns : Type 0 where
  pub right : (turns : ℕ) (text : Text) (words : List Text) → RunWith text words → Writes turns text → IsInRange turns
      → AskFor words (tasks.Run turns) None
  pub wrong : (turns : ℕ) (text : Text) (words : List Text) → RunWith text words → Writes turns text → (IsInRange turns → ⊥)
      → faults_in words ≡ kinds.ValueValidation ∷ []
