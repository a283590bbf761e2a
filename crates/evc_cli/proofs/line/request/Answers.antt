use Rattle.clap.specs.Words.{found_of, rows_of}
use Rattle.evc_cli.specs.CommandLine.{texts_of}
use Rattle.evc_cli.proofs.CommandMet.{matches_name_a_command}
use Rattle.evc_cli.proofs.Found.{pass_at}
use Rattle.evc_cli.proofs.line.request.Goals as goal

pub unreachable-requires : goal.unreachable-requires
unreachable-requires c =
    let found = c.in_ok-matches.ensures in
    let named = matches_name_a_command c.in_ok-matches.matches (texts_of c.args.words.now) found.faults found.found in
    rw (← c.in_default.ensures.name) at named

pub task_by_name-requires : goal.task_by_name-requires
task_by_name-requires c is =
    let found = c.in_ok-matches.ensures in
    pass_at c.in_ok-matches.matches (texts_of c.args.words.now) c.in-Some.name.now (rows_of (found_of c.in-Some.found.now))
    found.found c.in-Some.ensures.name c.in-Some.ensures.rows found.faults is

pub unreachable-requires-in_default-task_by_name : goal.unreachable-requires-in_default-task_by_name
unreachable-requires-in_default-task_by_name c =
    let found = c.in_ok-matches.ensures in
    let named = matches_name_a_command c.in_ok-matches.matches (texts_of c.args.words.now) found.faults found.found in
    c.in_default-task_by_name.ensures.unknown (rw (← c.in-Some.ensures.name) at named)
