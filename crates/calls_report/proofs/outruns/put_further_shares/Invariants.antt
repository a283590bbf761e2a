use Rattle.std.proofs.Common.{take}
use Rattle.ec_text.specs.Puts.{Puts}
use Rattle.calls_report.specs.Outruns.{further_shares}
use Rattle.calls_report.proofs.outruns.put_further_shares.Given as goal

abbrev pub invariant-loop-share : goal.invariant-loop-share
invariant-loop-share g l =
    Puts l.initial.out l.out (further_shares l.site l.flow (take l.share-index l.shares))
