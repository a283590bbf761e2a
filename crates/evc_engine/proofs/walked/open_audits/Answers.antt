use Rattle.std.proofs.Common.{[], refl, arith}
use Rattle.std.proofs.lemmas.Option.{slice_get_read}
use Rattle.ec_heading.specs.declared.group.Group.{Group}
use Rattle.evc_engine.specs.declared.walked.Auditing.{Auditing}
use Rattle.evc_engine.specs.kept.Walks.{AuditRepresents}
use Rattle.ec_walk.proofs.shared.Each.{each_more, each_all, one_longer}
use Rattle.evc_engine.proofs.walked.open_audits.Goals as goal

pub loop-number-preserved : goal.loop-number-preserved
loop-number-preserved c =
    let was = c.loop-number.invariant in
    let items = c.loop-number.audits.items in
    let n = c.loop-number.number in
    let R : Group → Auditing → Type 0 = λ g a. AuditRepresents c.args.setup.now c.args.semaphores.now g a [] in
    record {
      long = one_longer items c.push.new.self.items c.new.result n c.in_ok-push.ensures.items was.long;
      each = each_more R c.args.groups.now items c.push.new.self.items n c.index-groups-number.result c.new.result c.in_ok-push.ensures.items was.long
          (slice_get_read c.args.groups.now _ n c.index-groups-number.result refl c.loop-number-test.true c.index-groups-number.is) was.each c.new.ensures;
    }

pub returns : goal.returns
returns c =
    let R : Group → Auditing → Type 0 = λ g a. AuditRepresents c.args.setup.now c.args.semaphores.now g a [] in
    each_all R c.args.groups.now c.loop-number.audits.items c.loop-number.number (omega arith) c.loop-number.invariant.each
