use Rattle.std.proofs.lemmas.Result.{on_ok_weaker}
use Rattle.calls_report.proofs.SumLemmas.{sums_push}
use Rattle.calls_report.proofs.sums.Sums.add.Goals as goal

pub returns : goal.returns
returns c = on_ok_weaker c.add_item.result (λ item. λ order are.
    sums_push order c.args.placed.now c.args.self.now c.add_effect.new.self c.add_units.new.self
    c.add_item.new.self are c.in_ok-add_effect.ensures c.in_ok-add_units.ensures item)
    c.add_item.ensures
