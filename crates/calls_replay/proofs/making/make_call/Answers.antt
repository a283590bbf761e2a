use Rattle.std.proofs.Common.{◌≡◌, ℕ, List, reverse, ap, sym, ◌∙◌, subst}
use Rattle.ec_count.specs.Tables.{Tables}
use Rattle.ec_core.specs.declared.act.Act.{Act}
use Rattle.ec_core.specs.declared.act.Entry.{Entry}
use Rattle.calls_core.specs.declared.history.Call.{Call}
use Rattle.calls_kernel.specs.Made.{act_of_call, IsReplyOf}
use Rattle.calls_replay.specs.kept.Going.{Goes}
use Rattle.calls_replay.proofs.Rows.{call_made}
use Rattle.calls_replay.proofs.making.make_call.Goals as goal

pub returns-then-is_reply_of-clause-made : goal.returns-then-is_reply_of-clause-made
returns-then-is_reply_of-clause-made c = λ cs made.
    let t : Tables = c.args.run.now.setup in
    let call : Call = c.args.call.now in
    let past : List Entry = reverse c.args.run.now.entries in
    let late : List Entry = reverse c.make.new.run.entries in
    let act : c.in-Some.act ≡ act_of_call t call =
    c.in-Some.ensures.act ∙ ap (λ (s : Tables). act_of_call s call) (sym c.requires) in
    let worker : c.in-Some-new.worker ≡ call.worker = c.in-Some-new.ensures.value in
    let goes : Goes t past c.in-Some-new.worker c.in-Some.act late c.in_ok-given.given =
    c.in_ok-given.ensures.goes c.in-Some.ensures.begins made.free in
    let by_act : Goes t past c.in-Some-new.worker (act_of_call t call) late c.in_ok-given.given =
    subst (λ (a : Act). Goes t past c.in-Some-new.worker a late c.in_ok-given.given) act goes in
    let by_worker : Goes t past call.worker (act_of_call t call) late c.in_ok-given.given =
    subst (λ (w : ℕ). Goes t past w (act_of_call t call) late c.in_ok-given.given) worker by_act in
    let is : IsReplyOf call.op call.reply c.in_ok-given.given =
    c.is_reply_of.ensures c.if-is_reply_of.true in
    call_made t past late cs call c.in_ok-given.given made by_worker is
