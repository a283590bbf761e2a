use Rattle.ec_core.specs.Ending.{EndsAt}
use Rattle.ec_semaphore.specs.Auditing.{RepresentsBalance}
use Rattle.ec_semaphore.proofs.balancing.BalanceAudit.balance.Goals as goal

pub returns-clause-parts : goal.returns-clause-parts
returns-clause-parts c =
    let h = c.args.run.now.entries in
    let t = c.args.run.now.setup in
    let ended : EndsAt t (RepresentsBalance c.args.self.now) h = record { declared = c.invariant.ensures.declared; accepted = c.invariant.ensures.accepted; represents = c.requires } in
    c.finish.ensures.parts t h ended
