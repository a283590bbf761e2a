-- What `task` reads in the matches, stated of the words.
use Rattle.std.proofs.Common.{◌≡◌, ◌∙◌, ap, ap₂, sym, subst, true≢false, List, [], Option, Some, None, is_some, option_map, codes}
use Rattle.std.specs.Prelude.{Box, IfSome, option_and_then, unwrap_or}
use Rattle.std.specs.Box.{box_value}
use Rattle.std.specs.Global.{Global}
use Rattle.clap.specs.Words.{Row, Text, fault_of, first_of, subcommand_name_of, subcommand_of, subcommand_rows, subcommand_rows_of}
use Rattle.clap.specs.declared.parser.matches.ArgMatches.{ArgMatches}
use Rattle.clap.specs.declared.parser.matches.SubCommand.{SubCommand}
use Rattle.clap.specs.declared.parser.matches.ArgMatches.TheViews.{out-ArgMatches, out-SubCommand}
use Rattle.evc_cli.specs.CommandLine.{evc_app, turns_text}
use Rattle.evc_cli.specs.Turns.{PassTurns}
use Rattle.evc_cli.proofs.TurnsPass.{turns_pass}

module _ (m : ArgMatches) (words : List Text) (name : Text) (rows : List Row)
    (found : subcommand_rows_of m ≡ subcommand_of evc_app words) (named : Some name ≡ subcommand_name_of m)
    (has : Some rows ≡ option_map (λ p. p.1) (subcommand_rows_of m)) where
  -- the command that clap finds in the words, with the matches of its own arguments
  found_at : subcommand_of evc_app words ≡ Some (name, rows)
  found_at = sym found ∙ go (out-ArgMatches m).subcommand named has
    where
      go : (o : Option (Box SubCommand Global)) → Some name ≡ option_map (λ b. (out-SubCommand (box_value b)).name.now) o
          → Some rows ≡ option_map (λ p. p.1) (subcommand_rows o) → subcommand_rows o ≡ Some (name, rows)
      go None e h = absurd (true≢false (ap is_some e))
      go (Some b) e h = ap₂ (λ n r. Some (n, r)) (ap (λ o. unwrap_or o name) (sym e)) (ap (λ o. unwrap_or o rows) (sym h))

  -- its text for `--turns` is the words'
  pub text_at : first_of (codes "turns") rows ≡ turns_text words
  text_at = ap (option_and_then (λ p. first_of (codes "turns") p.1)) (sym found_at)

  -- and passed clap's test, if the command is `run`
  pub pass_at : fault_of evc_app words ≡ [] → name ≡ codes "run" → PassTurns rows
  pass_at right is = subst (λ o. IfSome o (λ p. p.0 ≡ codes "run" → PassTurns p.1)) found_at (turns_pass words right) is
