-- What clap finds in words.
use Rattle.std.proofs.Common.{◌≡◌, ◌∙◌, List, Result, Ok, Err, IfOk, ap}
use Rattle.clap.specs.Words.{App, HasMatchesOf, Text, found_of, is_simple, matches_of, rows_of}
use Rattle.clap.specs.declared.error.Error.{Error}
use Rattle.clap.specs.declared.parser.matches.ArgMatches.{ArgMatches}
use Rattle.evc_explain_cli.specs.CommandLine.{explain_app, rows_in}

-- the rows of matches are those of the program
pub rows_found : (r : Result ArgMatches Error) (a : App) (words : List Text) → a ≡ explain_app → IfOk r (HasMatchesOf a words)
    → IfOk r (λ m. rows_of (found_of m) ≡ rows_in words)
rows_found (Ok m) a words is has = (has (ap is_simple is)).0 ∙ ap (λ b. matches_of b words) is
rows_found (Err e) a words is has = has
