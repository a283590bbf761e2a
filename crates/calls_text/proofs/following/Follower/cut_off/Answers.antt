use Rattle.std.proofs.Common.{length, ap, subst, sym}
use Rattle.std.proofs.lemmas.Bool.{eq-eqb}
use Rattle.calls_text.specs.Outcomes.{ReturnsFault, parse_end}
use Rattle.calls_text.specs.Reading.{step}
use Rattle.calls_text.specs.Following.{stage_with_events}
use Rattle.calls_text.proofs.FollowingLines.{took}
use Rattle.calls_text.proofs.Lines.{ends_rest}
use Rattle.calls_text.proofs.following.Follower.cut_off.Goals as goal

pub returns-in-Ok : goal.returns-in-Ok
returns-in-Ok c = λ events seen going.
    let s = stage_with_events events c.args.self.now in
    let rest = c.args.rest.now in
    let t = took c.in-Ok.field-0 (step s rest) events c.follow.new.self
    (c.in-Ok.ensures.follows events seen) in
    subst (ReturnsFault (parse_end c.args.number s rest)) (sym c.fault_at-in-Ok.ensures)
    (ends_rest c.args.number s t.0 rest
    (λ is. cc (eq-eqb (length rest) 0 (ap length is), c.is_empty.ensures, c.if-is_empty.false))
    t.1)
