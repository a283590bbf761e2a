use Rattle.std.proofs.Common.{◌∙◌, codes}
use Rattle.std.specs.Str.Parse.{ExplainsUnsignedError, HasUnsignedDigitsIfOk, ParsesUnsigned}
use Rattle.clap.specs.Words.{first_of, found_of, one_text, rows_of}
use Rattle.clap.proofs.WalkLemmas.{one_text-rows}
use Rattle.evc_cli.proofs.TurnsRead.{turns_read}
use Rattle.evc_cli.proofs.line.turns_option.Goals as goal

pub returns : goal.returns
returns c =
    let rows = rows_of (found_of c.args.found.now) in
    let read = turns_read (λ bs r. ParsesUnsigned 64 10 bs r × ExplainsUnsignedError 10 bs r × HasUnsignedDigitsIfOk bs r) (λ t r gives. gives.0)
    (first_of (codes "turns") rows) (one_text (found_of c.args.found.now) (codes "turns")) c.get_one.result
    (one_text-rows (found_of c.args.found.now) (codes "turns") ∙ c.requires.0) c.requires.1 c.get_one.ensures.none c.get_one.ensures.value in
    rw c.unwrap_or.ensures record { given = read.0; range = read.1 }
