use Rattle.std.proofs.Common.{ap}
use Rattle.ec_database.proofs.Placed.{write_took}
use Rattle.ec_database.proofs.write.WriteAllProcedure.take.Goals as goal

pub returns-clause-returned : goal.returns-clause-returned
returns-clause-returned c done op asked calls =
    let returned = c.take_reply.ensures in
    write_took _ _ _ _ _ _ _ _ _ (record { op = op; reply = c.args.reply }) calls
    returned.same.0 (ap (λ v. v.items) returned.same.1) returned.place returned.turn c.number.ensures
