use Rattle.std.proofs.Common.{◌≡◌, ℕ, arith, get_or}
use Rattle.std.proofs.lemmas.Option.{slice_get-get_or}
use Rattle.ec_walk.proofs.WalkLemmas.{hands_one, hands_nobody}
use Rattle.ec_walk.proofs.group_audits.dispatch_to.Goals as goal

pub returns-then-number-audits : goal.returns-then-number-audits
returns-then-number-audits g c =
    let old = c.args.audits.now in
    let n = c.args.number in
    let any = c.index-audits-number.result in
    hands_one g.A.Audit.represents c.args.place c.args.op.now c.args.entry.now old n (get_or old n any) c.take.new.self c.if-number-audits.true
    (slice_get-get_or old n any c.if-number-audits.true) c.take.ensures

pub returns-else-number-audits : goal.returns-else-number-audits
returns-else-number-audits g c =
    hands_nobody g.A.Audit.represents c.args.place c.args.op.now c.args.entry.now (λ (i : ℕ). i ≡ c.args.number) c.args.audits.now
    (λ i less same. (let past = c.if-number-audits.false in omega arith))
