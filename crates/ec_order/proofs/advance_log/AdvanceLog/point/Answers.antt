use Rattle.std.proofs.Common.{◌≡◌, ◌-◌, ◌<◌, false, cond, nat_le, get_or, max, ap, sym, ◌∙◌}
use Rattle.std.specs.Option.{unwrap_or}
use Rattle.std.proofs.lemmas.Bool.{lt-leb}
use Rattle.std.proofs.lemmas.Option.{unwrap_or-slice_get}
use Rattle.ec_order.specs.AdvanceLogModel.{AdvanceLogModel, moment_since}
use Rattle.ec_order.proofs.advance_log.AdvanceLog.point.Goals as goal

pub returns : goal.returns
returns c =
    let s = c.self.inside in
    let n = c.args.number in
    let at = n - s.before - 1 in
    let kept : c.unwrap_or.result ≡ get_or s.moments.list at 0 = c.unwrap_or.ensures ∙ ap (λ o. unwrap_or o 0) c.get.ensures.value ∙ unwrap_or-slice_get s.moments.list at 0 in
    let more : s.before < n = c.if-number-before.false in
    let late : nat_le n s.before ≡ false = lt-leb n s.before more in
    c.max.ensures ∙ ap (max c.args.round) (kept ∙ ap (λ b. cond b 0 (get_or s.moments.list at 0)) (sym late)) ∙ ap (λ (k : AdvanceLogModel). max c.args.round (moment_since k n)) c.self.view_is
