use Rattle.std.proofs.Common.{◌≡◌, rules, sym}
use Rattle.ec_text.proofs.shared.PutLemmas.{puts_then}
use Rattle.evc_explain_engine.specs.Good.{calls_in, ordered_text}
use Rattle.evc_explain_engine.proofs.good.put_ordered.Goals as goal

pub returns : goal.returns
unfolding ordered_text
returns g c =
    let r = c.args.recording.now in
    let calls : c.calls_in-calls.result ≡ calls_in r.events = search rules in
    let workers : c.workers-workers.result ≡ r.heading.setup.workers = search rules in
    rw (sym calls, sym workers) (puts_then _ _ _ _ _ c.put_count.ensures c.put_count-2.ensures)
