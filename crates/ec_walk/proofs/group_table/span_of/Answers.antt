use Rattle.std.proofs.Common.{refl, subst, arith}
use Rattle.std.proofs.lemmas.Option.{slice_get_read}
use Rattle.ec_walk.specs.Walks.{names, CoversFirst}
use Rattle.ec_walk.proofs.group_table.span_of.Goals as goal

pub loop-number-preserved : goal.loop-number-preserved
loop-number-preserved c =
    c.with_group-span.ensures c.args.groups.now (λ g. names g c.args.act.now) c.index-groups-number.result
    (slice_get_read c.args.groups.now _ c.loop-number.number c.index-groups-number.result refl c.loop-number-test.true c.index-groups-number.is) c.names.ensures
    c.loop-number.invariant

pub returns : goal.returns
returns c = subst (CoversFirst c.args.groups.now (λ g. names g c.args.act.now) c.loop-number.span) (omega arith) c.loop-number.invariant
