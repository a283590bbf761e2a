use Rattle.std.proofs.Common.{◌≡◌, None, slice_get, rules}
use Rattle.calls_report.proofs.Loops.{none_put}
use Rattle.calls_report.proofs.words.Speaker.put_list.Goals as goal

pub returns-in-None : goal.returns-in-None
returns-in-None g c =
    let e : None ≡ slice_get c.args.self.now.lists c.args.index = search rules in
    none_put _ c.args.self.now.lists c.args.index e
