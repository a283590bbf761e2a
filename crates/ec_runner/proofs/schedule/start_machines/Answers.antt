use Rattle.std.proofs.Common.{sym, ◌∙◌, ap, subst, length, ◌+◌, []}
use Rattle.std.proofs.lemmas.List.{length_push}
use Rattle.ec_runner.specs.kept.Machines.{AreMachines}
use Rattle.ec_runner.proofs.Starting.{machines_more}
use Rattle.ec_runner.proofs.schedule.start_machines.Goals as goal

pub loop-program-preserved : goal.loop-program-preserved
loop-program-preserved c = record {
  each = ap length c.in_ok-push.ensures.items ∙ length_push c.loop-program.machines.items c.new.result ∙ ap (λ n. n + 1) c.loop-program.invariant.each;
  start = subst (AreMachines c.args.programs.now []) (sym c.in_ok-push.ensures.items)
      (machines_more c.args.programs.now c.loop-program.machines.items c.loop-program.program-index c.program-item.result c.new.result c.loop-program.invariant.each c.loop-program.invariant.start
      c.loop-program-test.true c.program-item.is c.new.ensures.represents c.new.ensures.unset);
}
