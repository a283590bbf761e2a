use Rattle.std.proofs.Common.{◌≡◌, ◌<◌, ◌-◌, ◌∙◌, ap, arith, length, min, get_or}
use Rattle.calls_schedule.specs.declared.job.Bound.{Bound}
use Rattle.calls_schedule.proofs.Capping.{caps_more, least_next}
use Rattle.calls_schedule.proofs.lowering.caps_of.Goals as goal

abbrev none : Bound
none = record { at = 0; due = 0; jobs = 0 }

pub loop-k-preserved : goal.loop-k-preserved
loop-k-preserved c =
    let bounds = c.args.bounds.now in
    let k = c.loop-k.k in
    let lt : k < length bounds = omega arith in
    let b = get_or bounds (length bounds - 1 - k) none in
    let new : c.min-most.result ≡ min (b.due - b.jobs) c.loop-k.most =
    c.min-most.ensures ∙ ap (λ x. min x c.loop-k.most) c.saturating_sub.ensures in
    record {
      caps = caps_more _ c.loop-k.most c.min-most.result bounds k none c.loop-k.caps.items
          c.push.new.self.items lt c.loop-k.invariant.caps c.loop-k.invariant.most new
          c.in_ok-push.ensures.items;
      most = least_next _ c.loop-k.most c.min-most.result bounds k none lt
          c.loop-k.invariant.most new;
    }
