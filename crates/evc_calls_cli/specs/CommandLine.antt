-- What the words of a command line ask for. The first word is the program's name.
use Rattle.std.specs.Prelude.{◌≡◌, ℕ, List, [], ◌∷◌, Option, Some, None, String, true, codes, map}
use Rattle.std.specs.Prelude.{option_and_then, if◌then◌else◌, bytes_eq}
use Rattle.std.specs.Option.{option_map_or}
use Rattle.std.specs.Global.{Global}
use Rattle.clap.specs.Words.{App, Kinds, Rule, Text, fault_of, first_of, new_app, new_rule}
use Rattle.clap.specs.Words.{subcommand_of, with_rule, with_subcommand}
use Rattle.clap.specs.declared.builder.action.ArgAction.TheVariants.{Set}
use Rattle.clap.specs.declared.error.kind.ErrorKind.{ErrorKind}
use Rattle.clap.specs.declared.error.kind.ErrorKind.TheVariants as kinds
use Rattle.evc_calls_cli.specs.declared.choice.Action.{Action}
use Rattle.evc_calls_cli.specs.declared.choice.Action.TheVariants.{Check, Watch, Of, Trace}

-- the words as texts
abbrev pub texts_of : List (String Global) → List Text
texts_of = map (λ word. word.bytes.items)

-- `FILE` as clap knows it
abbrev pub file_rule : Rule
file_rule = record (new_rule (codes "file")) { action = Some Set; value_names = 1 }

-- a command that takes a file
abbrev pub command_app : Text → App
command_app name = with_rule (new_app name) file_rule

-- `evc-calls` as clap knows it, without its commands: one of them has to be given, and there is a
-- version
abbrev pub bare_app : App
bare_app =
    let new : App = new_app (codes "evc-calls") in
    record new { top = record new.top { subcommand_required = true; has_version = true } }

-- the same with the commands that judge histories
abbrev pub judging_app : App
judging_app =
    with_subcommand
    (with_subcommand bare_app (command_app (codes "check")).top)
    (command_app (codes "watch")).top

-- `evc-calls` as clap knows it
abbrev pub program_app : App
program_app =
    with_subcommand
    (with_subcommand judging_app (command_app (codes "of")).top)
    (command_app (codes "trace")).top

-- the action of a command; there are four commands
abbrev pub action_of : Text → Action
action_of name =
    if bytes_eq name (codes "watch") then Watch
    else (if bytes_eq name (codes "of") then Of
    else (if bytes_eq name (codes "trace") then Trace else Check))

-- the action that the words ask for: that of the command that clap finds in them
abbrev pub action_in : List Text → Action
action_in words = option_map_or (λ found. action_of found.0) (subcommand_of program_app words) Check

-- the file that they name, if they name one
abbrev pub file_in : List Text → Option Text
file_in words =
    option_and_then (λ found. first_of (codes "file") found.1) (subcommand_of program_app words)

-- what is wrong with the words, by clap's rules, or what they ask for in place of a task: nothing
-- if they are right
abbrev pub faults_in : List Text → Kinds
faults_in words = fault_of program_app words

-- the exit status for a kind of error: 0 if help or the version was asked for, 4 if memory ran out,
-- and 2 if the words are wrong
abbrev pub status_by : ErrorKind → ℕ
status_by kinds.DisplayHelp = 0
status_by kinds.DisplayVersion = 0
status_by kinds.OutOfMemory = 4
status_by _ = 2

-- the words are right, and ask for this
pub record AskFor (words : List Text) (action : Action) (file : Option Text) : Type 0 where
  pub right : faults_in words ≡ []
  pub action_is : action_in words ≡ action
  pub file_is : file_in words ≡ file

-- the plainest command lines, under any name of the program: each command is right without a file
-- and with one; `--help` asks for help, and `--version` and `-V` for the version; and no word, an
-- unknown word and a second file are wrong
pub record ReadsPlainLines : Type 0 where
  pub check : (program : Text) → AskFor (program ∷ codes "check" ∷ []) Check None
  pub watch : (program : Text) → AskFor (program ∷ codes "watch" ∷ []) Watch None
  pub of : (program : Text) → AskFor (program ∷ codes "of" ∷ []) Of None
  pub trace : (program : Text) → AskFor (program ∷ codes "trace" ∷ []) Trace None
  pub check_file : (program : Text)
      → AskFor (program ∷ codes "check" ∷ codes "a.calls" ∷ []) Check (Some (codes "a.calls"))
  pub watch_file : (program : Text)
      → AskFor (program ∷ codes "watch" ∷ codes "a.calls" ∷ []) Watch (Some (codes "a.calls"))
  pub of_file : (program : Text)
      → AskFor (program ∷ codes "of" ∷ codes "a.evc" ∷ []) Of (Some (codes "a.evc"))
  pub trace_file : (program : Text)
      → AskFor (program ∷ codes "trace" ∷ codes "a.calls" ∷ []) Trace (Some (codes "a.calls"))
  pub help : (program : Text) → faults_in (program ∷ codes "--help" ∷ []) ≡ kinds.DisplayHelp ∷ []
  pub version : (program : Text)
      → faults_in (program ∷ codes "--version" ∷ []) ≡ kinds.DisplayVersion ∷ []
  pub short_version : (program : Text)
      → faults_in (program ∷ codes "-V" ∷ []) ≡ kinds.DisplayVersion ∷ []
  pub none : (program : Text) → faults_in (program ∷ []) ≡ kinds.MissingSubcommand ∷ []
  pub unknown : (program : Text) → faults_in (program ∷ codes "frobnicate" ∷ [])
      ≡ kinds.UnknownArgument ∷ kinds.InvalidSubcommand ∷ []
  pub second : (program : Text) → faults_in (program ∷ codes "of" ∷ codes "a" ∷ codes "b" ∷ [])
      ≡ kinds.UnknownArgument ∷ []
