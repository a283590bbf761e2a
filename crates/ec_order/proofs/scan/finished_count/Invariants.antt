use Rattle.std.proofs.Common.{◌≡◌, not, count_by, take}
use Rattle.ec_core.specs.declared.act.Entry.{Entry}
use Rattle.ec_core.specs.Calls.{is_pending}
use Rattle.ec_order.proofs.scan.finished_count.Given as goal

abbrev pub invariant-loop-i : goal.invariant-loop-i
invariant-loop-i l = l.count ≡ count_by (λ (x : Entry). not (is_pending x.reply)) (take l.i l.run.entries)
