-- How many turns a worker of a running script has.
use Rattle.std.specs.Prelude.{◌≡◌, ◌≤◌, ℕ, List, Option, Some, MatchOption, IfSome, codes, false, ⊤}
use Rattle.std.specs.Str.Parse.{IsNumeral, digits_value, without_leading_plus}
use Rattle.clap.specs.Words.{Accepts, Row, Rule, Text, first_of, new_rule, one_of}
use Rattle.clap.specs.declared.builder.action.ArgAction.TheVariants.{Set}
use Rattle.clap.specs.declared.builder.value_parser.ValueParser.{ValueParser}
use Rattle.clap.specs.declared.builder.value_parser.ValueParser.TheVariants as parsers
use Rattle.evc_cli.specs.declared.choice.Task.{Task}
use Rattle.evc_cli.specs.declared.choice.Task.TheVariants as tasks

-- what clap accepts for `--turns`: a whole number from 1 to 1000000
abbrev pub turns_parser : ValueParser
turns_parser = parsers.Unsigned 1 1000000

-- `--turns N` as clap knows it
abbrev pub turns_rule : Rule
turns_rule = record (new_rule (codes "turns")) {
  long = Some (codes "turns");
  action = Some Set;
  value_names = 1;
  parser = Some turns_parser;
}

-- the text is one decimal digit or more, perhaps after a plus sign, and they write the number
abbrev pub Writes : ℕ → Text → Type 0
Writes n text = IsNumeral 10 (without_leading_plus text) × (n ≡ digits_value 10 (without_leading_plus text))

-- the number of turns that the given text writes, 10000 if no text was given
abbrev pub IsTurnsOf : Option Text → ℕ → Type 0
IsTurnsOf given turns = MatchOption given (turns ≡ 10000) (Writes turns)

-- a task that runs workers gives them that number of turns
abbrev pub HasTurnsOf : Option Text → Task → Type 0
HasTurnsOf given (tasks.Run turns) = IsTurnsOf given turns
HasTurnsOf given _ = ⊤

-- a number of turns that a worker may have
abbrev pub IsInRange : ℕ → Type 0
IsInRange turns = (1 ≤ turns) × (turns ≤ 1000000)

abbrev pub HasTurnsInRange : Task → Type 0
HasTurnsInRange (tasks.Run turns) = IsInRange turns
HasTurnsInRange _ = ⊤

-- in what clap found, the text for `--turns`, if there is one, is read as it was written, and
-- passed clap's test
abbrev pub PassTurns : List Row → Type 0
PassTurns rows = (one_of (codes "turns") rows ≡ first_of (codes "turns") rows)
    × IfSome (first_of (codes "turns") rows) (Accepts false turns_parser)
