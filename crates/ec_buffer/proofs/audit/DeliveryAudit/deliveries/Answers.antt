use Rattle.std.proofs.Common.{reverse, subst, sym}
use Rattle.std.specs.Prelude.{OnOk}
use Rattle.ec_count.specs.Tables.{Tables, IsDeclared}
use Rattle.ec_core.specs.Acceptance.{IsAccepted}
use Rattle.ec_core.specs.Ending.{EndsAt}
use Rattle.ec_buffer.specs.Auditing.{RepresentsDeliveries}
use Rattle.ec_buffer.specs.Follows.{FollowsBuffer}
use Rattle.ec_buffer.proofs.audit.DeliveryAudit.deliveries.Goals as goal

pub returns-clause-followed : goal.returns-clause-followed
returns-clause-followed c =
    let h = c.args.run.now.entries in
    let A : Tables → Type 0 = λ u. IsAccepted u (reverse h) in
    let ended : EndsAt c.args.self.setup (RepresentsDeliveries c.args.self) h =
    record { declared = subst IsDeclared (sym c.requires.setup) c.invariant.ensures.declared; accepted = subst A (sym c.requires.setup) c.invariant.ensures.accepted; represents = c.requires.represents } in
    let Q : Tables → Type 0 = λ u. OnOk c.finish.result (FollowsBuffer u c.args.self.shape (reverse h)) in
    subst Q c.requires.setup (c.finish.ensures.followed h ended)
