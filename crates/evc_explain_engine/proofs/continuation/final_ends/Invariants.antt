use Rattle.std.proofs.Common.{◌≡◌, ◌≤◌}
use Rattle.evc_explain_engine.specs.Continuation.{Continues}
use Rattle.evc_explain_engine.proofs.continuation.final_ends.Given as goal

-- the schedule is continued, and nothing else changes
abbrev pub invariant-loop : goal.invariant-loop
invariant-loop l = record {
  heading : l.plan.heading ≡ l.initial.plan.heading;
  programs : l.plan.programs ≡ l.initial.plan.programs;
  continues : Continues l.initial.plan.heading.setup.workers l.initial.plan.schedule.items
      l.plan.schedule.items;
  few : l.rounds ≤ 65536;
}
