-- The task that the words of a command line give. The first word is the program's name.
use Rattle.std.specs.Prelude.{◌≡◌, ℕ, List, [], ◌∷◌, Option, Some, None, String, true, codes, map}
use Rattle.std.specs.Prelude.{nat_lt, if◌then◌else◌}
use Rattle.std.specs.Global.{Global}
use Rattle.clap.specs.Words.{App, Kinds, Row, Rule, Text, all_of, count_of, fault_of, first_of}
use Rattle.clap.specs.Words.{matches_of, new_app, new_rule, with_rule}
use Rattle.clap.specs.declared.builder.action.ArgAction.{ArgAction}
use Rattle.clap.specs.declared.builder.action.ArgAction.TheVariants.{Append, Count, Set}
use Rattle.clap.specs.declared.error.kind.ErrorKind.{ErrorKind}
use Rattle.clap.specs.declared.error.kind.ErrorKind.TheVariants as kinds
use Rattle.evc_draw_cli.specs.declared.choice.Form.{Form}
use Rattle.evc_draw_cli.specs.declared.choice.Form.TheVariants.{Svg, Html}
use Rattle.evc_draw_cli.specs.declared.choice.Form.TheVariants as forms

-- the words as texts
abbrev pub texts_of : List (String Global) → List Text
texts_of = map (λ word. word.bytes.items)

-- an option without a value as clap knows it
abbrev pub flag_rule : Text → Rule
flag_rule name = record (new_rule name) { long = Some name; action = Some Count }

-- an option with a value
abbrev pub option_rule : ArgAction → Text → Rule
option_rule action name =
    record (new_rule name) { long = Some name; action = Some action; value_names = 1 }

-- `FILE`
abbrev pub file_rule : Rule
file_rule = record (new_rule (codes "file")) { action = Some Set; value_names = 1 }

-- `evc-draw` as clap knows it, without its options
abbrev pub bare_app : App
bare_app = let new : App = new_app (codes "evc-draw") in
    record new { top = record new.top { has_version = true } }

abbrev pub forms_app : App
forms_app = with_rule (with_rule bare_app (flag_rule (codes "text"))) (flag_rule (codes "html"))

abbrev pub bounds_app : App
bounds_app = with_rule (with_rule forms_app (option_rule Set (codes "from")))
    (option_rule Set (codes "to"))

-- `evc-draw` as clap knows it
abbrev pub draw_app : App
draw_app =
    with_rule (with_rule (with_rule bounds_app (option_rule Append (codes "worker")))
    (option_rule Append (codes "object"))) file_rule

-- what clap finds in the words
abbrev pub rows_in : List Text → List Row
rows_in words = matches_of draw_app words

-- the form: a page if `--html` was given, otherwise a text if `--text` was, otherwise SVG
abbrev pub form_by : List Row → Form
form_by rows =
    if nat_lt 0 (count_of (codes "html") rows) then Html
    else (if nat_lt 0 (count_of (codes "text") rows) then forms.Text else Svg)

abbrev pub form_in : List Text → Form
form_in words = form_by (rows_in words)

-- the word that was given for an option or an argument, if one was
abbrev pub given_in : List Text → Text → Option Text
given_in words name = first_of name (rows_in words)

-- the words that were given for an option
abbrev pub names_given : Option (List Text) → List Text
names_given None = []
names_given (Some names) = names

abbrev pub names_in : List Text → Text → List Text
names_in words name = names_given (all_of name (rows_in words))

-- what is wrong with the words, by clap's rules, or the help or version that they ask for: nothing
-- if they are right
abbrev pub faults_in : List Text → Kinds
faults_in words = fault_of draw_app words

-- the exit status for a kind of error: 0 if help or the version was asked for, 4 if memory ran out,
-- and 2 if the words are wrong
abbrev pub status_by : ErrorKind → ℕ
status_by kinds.DisplayHelp = 0
status_by kinds.DisplayVersion = 0
status_by kinds.OutOfMemory = 4
status_by _ = 2

-- the words are right, and give this task
pub record AskFor (words : List Text) (form : Form) (file from to : Option Text)
    (workers objects : List Text) : Type 0 where
  pub right : faults_in words ≡ []
  pub form_is : form_in words ≡ form
  pub file_is : given_in words (codes "file") ≡ file
  pub from_is : given_in words (codes "from") ≡ from
  pub to_is : given_in words (codes "to") ≡ to
  pub workers_are : names_in words (codes "worker") ≡ workers
  pub objects_are : names_in words (codes "object") ≡ objects

-- the plainest command lines, under any name of the program: each option is right by itself, names
-- may be given more than once, bounds may not; `--help` asks for help, and `--version` and `-V` for
-- the version; an unknown option and a second file are wrong
pub record ReadsPlainLines : Type 0 where
  pub none : (program : Text) → AskFor (program ∷ []) Svg None None None [] []
  pub file : (program : Text)
      → AskFor (program ∷ codes "a.trace" ∷ []) Svg (Some (codes "a.trace")) None None [] []
  pub text : (program : Text)
      → AskFor (program ∷ codes "--text" ∷ []) forms.Text None None None [] []
  pub html : (program : Text)
      → AskFor (program ∷ codes "--html" ∷ codes "a.trace" ∷ []) Html (Some (codes "a.trace")) None
      None [] []
  pub bounds : (program : Text)
      → AskFor (program ∷ codes "--from" ∷ codes "3" ∷ codes "--to" ∷ codes "9" ∷ []) Svg None
      (Some (codes "3")) (Some (codes "9")) [] []
  pub names : (program : Text)
      → AskFor (program ∷ codes "--worker" ∷ codes "a" ∷ codes "--object" ∷ codes "E"
      ∷ codes "--worker" ∷ codes "b" ∷ []) Svg None None None (codes "a" ∷ codes "b" ∷ [])
      (codes "E" ∷ [])
  pub help : (program : Text) → faults_in (program ∷ codes "--help" ∷ []) ≡ kinds.DisplayHelp ∷ []
  pub version : (program : Text)
      → faults_in (program ∷ codes "--version" ∷ []) ≡ kinds.DisplayVersion ∷ []
  pub short_version : (program : Text)
      → faults_in (program ∷ codes "-V" ∷ []) ≡ kinds.DisplayVersion ∷ []
  pub twice : (program : Text)
      → faults_in (program ∷ codes "--to" ∷ codes "1" ∷ codes "--to" ∷ codes "2" ∷ [])
      ≡ kinds.ArgumentConflict ∷ []
  pub unknown : (program : Text)
      → faults_in (program ∷ codes "--width" ∷ []) ≡ kinds.UnknownArgument ∷ []
  pub second : (program : Text)
      → faults_in (program ∷ codes "a" ∷ codes "b" ∷ []) ≡ kinds.UnknownArgument ∷ []
