use Rattle.ec_trace.proofs.read.enter_cached.Goals as goal

pub returns-in_ok-entry-in-Some-clause-takes : goal.returns-in_ok-entry-in-Some-clause-takes
returns-in_ok-entry-in-Some-clause-takes g c =
    c.enter.ensures c.args.line.now
    (c.in_ok-entry-in-Some.ensures c.args.heading.now.words c.args.line.now c.in_ok-prefix.prefix.now c.requires c.in_ok-prefix.ensures c.in-Some.ensures)
