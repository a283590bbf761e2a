use Rattle.std.proofs.Common.{is_ok, reverse, ap, ◌∙◌}
use Rattle.ec_semaphore.specs.Uses.{use_rules}
use Rattle.ec_draw.specs.Balances.{BalanceState}
use Rattle.ec_draw.specs.Following.{follows}
use Rattle.ec_draw.proofs.Balancing.{follow_by}
use Rattle.ec_draw.proofs.balance.BalanceState.follows.Goals as goal

pub returns : goal.returns
returns c =
    let past = reverse c.args.run.now.entries in
    let inside = follow_by (use_rules c.self.inside.audit.shape) past (is_ok c.balance.result)
    c.balance.ensures.ok in
    c.is_ok.ensures.value ∙ inside
    ∙ ap (λ (z : BalanceState). follows (use_rules z.audit.shape) past) c.self.view_is
