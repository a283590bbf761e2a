use Rattle.std.proofs.Common.{◌≡◌, length, rules, sym}
use Rattle.ec_text.proofs.shared.PutLemmas.{puts_then}
use Rattle.evc_explain_engine.specs.Good.{calls_of, good_text}
use Rattle.evc_explain_engine.proofs.good.put_good.Goals as goal

pub returns : goal.returns
unfolding good_text
returns g c =
    let t = c.args.traced.now in
    let entries : c.len.result ≡ length t.entries = search rules in
    let calls : c.calls_of.result ≡ calls_of t.entries = search rules in
    let workers : c.workers-workers.result ≡ t.heading.setup.workers = search rules in
    rw (sym entries, sym calls, sym workers)
    (puts_then _ _ _ _ _
    (puts_then _ _ _ _ _ c.put_count.ensures c.put_count-2.ensures) c.put_count-3.ensures)
