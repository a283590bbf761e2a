use Rattle.std.proofs.Common.{◌∙◌, subst, arith}
use Rattle.std.proofs.Math.ListN.{length-set}
use Rattle.ec_walk.specs.Walks.{act_on, CoversAct}
use Rattle.ec_walk.proofs.WalkLemmas.{covers_more}
use Rattle.ec_walk.proofs.group_table.object_spans.Goals as goal

pub loop-object-init : goal.loop-object-init
loop-object-init c = record { room = c.filled-spans.ensures.long; covers = λ n less. absurd (omega arith) }

pub loop-object-preserved : goal.loop-object-preserved
loop-object-preserved c =
    let was = c.loop-object.invariant in
    record {
      room = length-set c.loop-object.spans c.loop-object.object c.span_of.result ∙ was.room;
      covers = covers_more c.args.groups.now act_on c.loop-object.spans c.loop-object.object c.span_of.result (omega arith) was.covers
          (subst (λ a. CoversAct c.args.groups.now a c.span_of.result) c.act_on.ensures c.span_of.ensures);
    }

pub returns : goal.returns
returns c = λ n less. c.loop-object.invariant.covers n (omega arith)
