use Rattle.std.proofs.Common.{None, Some, Ok, Err, refl, subst}
use Rattle.calls_monitor.specs.declared.monitor.Rejection.{Rejection}
use Rattle.calls_monitor.specs.Monitors.{Judges}
use Rattle.calls_watch.specs.declared.stop.Stop.TheVariants as stops
use Rattle.calls_watch.proofs.DecidingLemmas.{judged_by, passed_by}
use Rattle.calls_watch.proofs.watcher.judge.Goals as goal

pub returns-in-Ok : goal.returns-in-Ok
returns-in-Ok c =
    judged_by c.args.monitor.now c.args.kept.now c.args.event c.in-Some.watching
    (Some c.event.new.self) (Ok tt) c.in-Some.is (c.event.new.self, refl, c.in-Ok.ensures)

pub returns-in-Err-Refused : goal.returns-in-Err-Refused
returns-in-Err-Refused c =
    judged_by c.args.monitor.now c.args.kept.now c.args.event c.in-Some.watching
    (Some c.event.new.self) (Err (stops.Refused c.args.event c.in-Err-Refused.refused)) c.in-Some.is (
      refl,
      (
        c.event.new.self,
        subst (λ (r : Rejection). Judges c.in-Some.watching c.event.new.self c.args.event (Err r))
            c.in-Err-Refused.field-0-is c.in-Err-Refused.ensures,
      ),
    )

pub returns-in-Err-Unwatched : goal.returns-in-Err-Unwatched
returns-in-Err-Unwatched c =
    passed_by c.args.monitor.now c.args.kept.now c.args.event c.in-Some.watching None
    c.need_text-in-Err-Unwatched.result c.in-Some.is (
      c.event.new.self,
      subst (λ (r : Rejection). Judges c.in-Some.watching c.event.new.self c.args.event (Err r))
          c.in-Err-Unwatched.field-0-is c.in-Err-Unwatched.ensures,
    ) refl c.need_text-in-Err-Unwatched.ensures
