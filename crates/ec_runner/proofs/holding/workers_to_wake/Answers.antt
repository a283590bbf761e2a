use Rattle.std.proofs.Common.{ℕ, arith, subst, ◌<◌, sym, length-set, ◌∙◌}
use Rattle.ec_runner.specs.kept.Holds.{is_woken}
use Rattle.ec_runner.proofs.Waking.{set_below}
use Rattle.ec_runner.proofs.holding.workers_to_wake.Goals as goal

pub loop-v-preserved : goal.loop-v-preserved
loop-v-preserved c =
    let v = c.loop-v.v in
    let at : v < 16 = omega arith in
    record {
      long = length-set c.loop-v.table v c.is_woken.result ∙ c.loop-v.invariant.long;
      each = λ b before.
          set_below c.loop-v.table (is_woken b c.args.worker c.args.board.now) v c.is_woken.result
          (subst (λ (n : ℕ). v < n) (sym c.loop-v.invariant.long) at) (c.loop-v.invariant.each b before) (c.is_woken.ensures b before);
    }
