use Rattle.std.proofs.Common.{ap, refl}
use Rattle.clap.specs.Words.{fault_of, is_simple_and_free}
use Rattle.clap.proofs.FaultLemmas.{fails_as}
use Rattle.evc_draw_cli.specs.CommandLine.{texts_of}
use Rattle.evc_draw_cli.proofs.Found.{rows_found}
use Rattle.evc_draw_cli.proofs.line.matches_in.Goals as goal

pub returns-clause-found : goal.returns-clause-found
returns-clause-found c =
    rows_found _ _ (texts_of c.args.words.now) c.in_ok-program.ensures
    c.try_get_matches_from.ensures.matches

pub returns-clause-faults : goal.returns-clause-faults
returns-clause-faults c =
    let app_is = c.in_ok-program.ensures in
    fails_as _ _ _ (ap (λ a. fault_of a (texts_of c.args.words.now)) app_is)
    (c.try_get_matches_from.ensures.kinds (ap is_simple_and_free app_is))
