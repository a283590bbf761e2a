use Rattle.ec_core.specs.Ending.{EndsAt}
use Rattle.ec_semaphore.specs.Auditing.{RepresentsPairs}
use Rattle.ec_semaphore.proofs.pairing.PairAudit.pairs.Goals as goal

pub returns-clause-pairs : goal.returns-clause-pairs
returns-clause-pairs c =
    let h = c.args.run.now.entries in
    let t = c.args.run.now.setup in
    let ended : EndsAt t (RepresentsPairs c.args.self) h = record { declared = c.invariant.ensures.declared; accepted = c.invariant.ensures.accepted; represents = c.requires } in
    c.finish.ensures.pairs t h ended

pub returns-clause-drawn : goal.returns-clause-drawn
returns-clause-drawn c =
    let h = c.args.run.now.entries in
    let t = c.args.run.now.setup in
    let ended : EndsAt t (RepresentsPairs c.args.self) h = record { declared = c.invariant.ensures.declared; accepted = c.invariant.ensures.accepted; represents = c.requires } in
    c.finish.ensures.drawn t h ended
