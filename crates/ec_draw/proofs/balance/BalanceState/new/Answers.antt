use Rattle.std.proofs.Common.{false}
use Rattle.ec_draw.proofs.Balancing.{balance_first}
use Rattle.ec_draw.proofs.balance.BalanceState.new.Goals as goal

pub returns-clause-first : goal.returns-clause-first
returns-clause-first c = record {
  counted = c.new.ensures.first;
  heights = λ ok small. balance_first
      (record {
        audit = c.new.result;
        window = c.args.window;
        heights = c.new-2.result.items;
        out_of_memory = false;
      }) c.new.ensures.first c.new-2.ensures.items;
}
