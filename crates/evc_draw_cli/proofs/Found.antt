-- What clap finds in words.
use Rattle.std.proofs.Common.{◌≡◌, ◌∙◌, List, Option, Some, None, Result, Ok, Err, IfOk, map, refl}
use Rattle.std.proofs.Common.{ap, sym, option_map}
use Rattle.std.specs.Borrow.{Bor}
use Rattle.clap.specs.Words.{App, HasMatchesOf, Text, all_of, found_of, is_simple, matched_of}
use Rattle.clap.specs.Words.{matches_of, raw_values, rows_of}
use Rattle.clap.specs.declared.error.Error.{Error}
use Rattle.clap.specs.declared.parser.matches.ArgMatches.{ArgMatches}
use Rattle.clap.proofs.WalkLemmas.{raw_values-rows}
use Rattle.evc_draw_cli.specs.CommandLine.{draw_app, names_given, rows_in}

-- the rows that clap found are those of the program
pub rows_found : (r : Result ArgMatches Error) (a : App) (words : List Text) → a ≡ draw_app
    → IfOk r (HasMatchesOf a words)
    → IfOk r (λ m. rows_of (found_of m) ≡ rows_in words)
rows_found (Ok m) a words is has = (has (ap is_simple is)).0 ∙ ap (λ b. matches_of b words) is
rows_found (Err e) a words is has = has

-- the words of an option that was given, and of one that was not
pub names_some : (m : ArgMatches) (name : Text) (given : Bor (List (Bor Text)))
    → option_map (λ s. map (λ v. v.now) s.now) (Some given) ≡ option_map raw_values
    (matched_of (found_of m) name)
    → map (λ v. v.now) given.now ≡ names_given (all_of name (rows_of (found_of m)))
names_some m name given is = ap names_given (is ∙ raw_values-rows (found_of m) name)

pub names_none : (m : ArgMatches) (name : Text) (o : Option (Bor (List (Bor Text)))) → o ≡ None
    → option_map (λ s. map (λ v. v.now) s.now) o ≡ option_map raw_values
    (matched_of (found_of m) name)
    → names_given None ≡ names_given (all_of name (rows_of (found_of m)))
names_none m name o absent is =
    ap names_given
    (sym (ap (option_map (λ (s : Bor (List (Bor Text))). map (λ (v : Bor Text). v.now) s.now))
    absent) ∙ is ∙ raw_values-rows (found_of m) name)
