use Rattle.std.proofs.Common.{List, sym, subst}
use Rattle.std.specs.Prelude.{nat_eq}
use Rattle.std.specs.HashMap.{get}
use Rattle.std.proofs.lemmas.List.{take_more}
use Rattle.calls_core.specs.declared.history.Call.{Call}
use Rattle.calls_distinct.specs.kept.Groups.{AreGroups}
use Rattle.calls_distinct.proofs.groups.groups_of.Goals as goal

pub loop-call-preserved : goal.loop-call-preserved
loop-call-preserved c = subst (λ (seen : List Call). AreGroups seen (get nat_eq c.add.new.groups))
    (sym (take_more c.args.calls.now c.loop-call.call-index _ c.loop-call-test.true))
    (c.in_ok-add.ensures _ c.loop-call.invariant)
