use Rattle.std.proofs.Common.{subst, sym, reverse}
use Rattle.std.specs.Prelude.{MatchBool, nat_lt}
use Rattle.calls_schedule.specs.Missing.{AreMissed, IsAbove, EndsRefuted, Lowers}
use Rattle.calls_schedule.proofs.Lateness.{missed_more, pushed, decided_more}
use Rattle.calls_schedule.proofs.missing.add_missed.Goals as goal

pub returns-clause-missed : goal.returns-clause-missed
returns-clause-missed c =
    let old = c.args.bounds.now.items in
    let b = c.missed_bound-bound.result in
    subst (λ l. AreMissed c.args.room c.args.given.now l)
    (sym (pushed old c.push.new.self.items b c.in_ok-push.ensures.items))
    (missed_more c.args.room c.args.given.now b (reverse old) c.requires.missed
    c.missed_bound-bound.ensures.missed
    (subst (λ l. IsAbove b (reverse l)) c.deref.ensures.value
    (c.is_new.ensures.above c.if-not-is_new.false)))

pub returns-clause-decided : goal.returns-clause-decided
returns-clause-decided c =
    let old = c.args.bounds.now.items in
    let given = c.args.given.now in
    let b = c.missed_bound-bound.result in
    subst (λ l. MatchBool (nat_lt b.due b.jobs) (EndsRefuted l) (Lowers given l))
    (sym (pushed old c.push.new.self.items b c.in_ok-push.ensures.items))
    (decided_more given c.args.floor b old c.requires.decided
    (λ first. c.missed_bound-bound.ensures.lowers first c.requires.served))
