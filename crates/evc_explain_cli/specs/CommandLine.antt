-- What the words of a command line ask for. The first word is the program's name.
use Rattle.std.specs.Prelude.{◌≡◌, ℕ, List, [], ◌∷◌, Option, Some, None, String, true, codes, map}
use Rattle.std.specs.Global.{Global}
use Rattle.clap.specs.Words.{App, Kinds, Row, Rule, Text, fault_of, first_of, matches_of, new_app, new_rule, with_rule}
use Rattle.clap.specs.declared.builder.action.ArgAction.TheVariants.{Set}
use Rattle.clap.specs.declared.error.kind.ErrorKind.{ErrorKind}
use Rattle.clap.specs.declared.error.kind.ErrorKind.TheVariants as kinds

-- the words as texts
abbrev pub texts_of : List (String Global) → List Text
texts_of = map (λ word. word.bytes.items)

-- `FILE` as clap knows it
abbrev pub file_rule : Rule
file_rule = record (new_rule (codes "file")) { action = Some Set; value_names = 1 }

-- `evc-explain` as clap knows it, without its argument
abbrev pub bare_app : App
bare_app = let new : App = new_app (codes "evc-explain") in record new { top = record new.top { has_version = true } }

-- `evc-explain` as clap knows it
abbrev pub explain_app : App
explain_app = with_rule bare_app file_rule

-- what clap finds in the words
abbrev pub rows_in : List Text → List Row
rows_in words = matches_of explain_app words

-- the file that they name, if they name one
abbrev pub file_in : List Text → Option Text
file_in words = first_of (codes "file") (rows_in words)

-- what is wrong with the words, by clap's rules, or what they ask for in place of a text: nothing if they are right
abbrev pub faults_in : List Text → Kinds
faults_in words = fault_of explain_app words

-- the exit status for a kind of error: 0 if help or the version was asked for, 4 if memory ran out, and 2 if the words are wrong
abbrev pub status_by : ErrorKind → ℕ
status_by kinds.DisplayHelp = 0
status_by kinds.DisplayVersion = 0
status_by kinds.OutOfMemory = 4
status_by _ = 2

-- the words are right, and name this file, or none
pub record NamesFile (words : List Text) (file : Option Text) : Type 0 where
  pub right : faults_in words ≡ []
  pub file_is : file_in words ≡ file

-- the plainest command lines, under any name of the program: without a file and with one they are right; `--help` asks for help,
-- `--version` and `-V` for the version; an unknown option and a second file are wrong
pub record ReadsPlainLines : Type 0 where
  pub none : (program : Text) → NamesFile (program ∷ []) None
  pub file : (program : Text) → NamesFile (program ∷ codes "a.trace" ∷ []) (Some (codes "a.trace"))
  pub help : (program : Text) → faults_in (program ∷ codes "--help" ∷ []) ≡ kinds.DisplayHelp ∷ []
  pub version : (program : Text) → faults_in (program ∷ codes "--version" ∷ []) ≡ kinds.DisplayVersion ∷ []
  pub short_version : (program : Text) → faults_in (program ∷ codes "-V" ∷ []) ≡ kinds.DisplayVersion ∷ []
  pub unknown : (program : Text) → faults_in (program ∷ codes "--frobnicate" ∷ []) ≡ kinds.UnknownArgument ∷ []
  pub second : (program : Text) → faults_in (program ∷ codes "a" ∷ codes "b" ∷ []) ≡ kinds.UnknownArgument ∷ []
