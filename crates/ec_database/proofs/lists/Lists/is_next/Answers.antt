use Rattle.std.proofs.Common.{◌≡◌, Bool, Option, [], refl, ap, sym, ◌∙◌, cond}
use Rattle.ec_core.specs.declared.act.Act.{Act}
use Rattle.ec_core.specs.declared.protocol.ListProgress.{ListProgress}
use Rattle.ec_core.specs.Following.{Rule}
use Rattle.ec_core.specs.CallLists.{is_due, without_value}
use Rattle.ec_database.specs.Following.{write_rule, try_rule}
use Rattle.ec_database.specs.Calls.{write_call}
use Rattle.ec_database.specs.SnapshotPhases.{write_at}
use Rattle.ec_database.proofs.Placed.{write_call_at}
use Rattle.ec_database.proofs.lists.Lists.is_next.Goals as goal

pub returns-then-writes : goal.returns-then-writes
returns-then-writes c calls kept =
    let d = c.args.self.now.shape.now in
    let act = c.args.act.now in
    let due : c.write_at.result ≡ write_call d [] calls =
    c.write_at.ensures [] refl ∙ ap (λ (k : ListProgress). write_at d [] k.at k.second) kept ∙ sym (write_call_at d calls) in
    c.is_due.ensures ∙ ap (λ (o : Option Act). is_due o (without_value act)) due
    ∙ ap (λ (b : Bool). (let r : Rule = cond b (write_rule d) (try_rule d) in r.fits calls act)) (c.if-writes.ensures)
