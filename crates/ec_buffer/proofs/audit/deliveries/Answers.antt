use Rattle.std.proofs.Common.{subst, ◌∙◌, reverse}
use Rattle.std.specs.Prelude.{IfOk, IfErr}
use Rattle.std.specs.Result.{OnOk}
use Rattle.ec_core.specs.Audits.{IsAuditFault}
use Rattle.ec_buffer.specs.Follows.{FollowsBuffer, buffer_rules}
use Rattle.ec_buffer.specs.Items.{AreDeliveries}
use Rattle.ec_buffer.specs.Shapes.{Buffer}
use Rattle.ec_buffer.proofs.audit.deliveries.Goals as goal

pub returns-clause-followed : goal.returns-clause-followed
returns-clause-followed c =
    let run = c.args.run.now in
    let P : Buffer → Type 0 = λ b. OnOk c.deliveries.result (FollowsBuffer run.setup b (reverse run.entries)) in
    subst P (c.walk.ensures.0 ∙ c.new-audit.ensures.shape) c.deliveries.ensures.followed

pub returns-clause-list : goal.returns-clause-list
returns-clause-list c =
    let run = c.args.run.now in
    let P : Buffer → Type 0 = λ b. IfOk c.deliveries.result (λ list. AreDeliveries run.setup b run.entries list.items) in
    subst P (c.walk.ensures.0 ∙ c.new-audit.ensures.shape) c.deliveries.ensures.list

pub returns-clause-err : goal.returns-clause-err
returns-clause-err c =
    let run = c.args.run.now in
    let P : Buffer → Type 0 = λ b. IfErr c.deliveries.result (IsAuditFault (buffer_rules run.setup b) run.entries) in
    subst P (c.walk.ensures.0 ∙ c.new-audit.ensures.shape) c.deliveries.ensures.err
