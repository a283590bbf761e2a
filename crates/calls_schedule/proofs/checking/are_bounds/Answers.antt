use Rattle.std.proofs.Common.{◌≡◌, ◌<◌, length, get_or, arith, reverse, take, ap, ◌∙◌}
use Rattle.std.proofs.Common.{◌++◌, drop, map}
use Rattle.std.proofs.Math.Seq.{take-append_seam}
use Rattle.std.proofs.lemmas.List.{length-map}
use Rattle.std.proofs.lemmas.Bool.{false≢true, both_ways}
use Rattle.calls_schedule.specs.declared.job.Bound.{Bound}
use Rattle.calls_schedule.specs.Limits.{lowered_by}
use Rattle.calls_schedule.proofs.Limiting.{bounds_until, bounds_more, timed_more}
use Rattle.calls_schedule.proofs.checking.are_bounds.Goals as goal

abbrev none : Bound
none = record { at = 0; due = 0; jobs = 0 }

pub returns-then-not-is_bound : goal.returns-then-not-is_bound
returns-then-not-is_bound c =
    let i = c.loop-bound.bound-index in
    let bounds = c.args.bounds.now in
    let jobs = c.args.jobs.now in
    let lt : i < length bounds = omega arith in
    let decided = c.is_bound.ensures jobs (reverse (take i bounds))
    (c.deref.ensures.value ∙ c.loop-bound.invariant.list) in (
      λ h. absurd (false≢true h),
      λ h. absurd (both_ways c.is_bound.result c.if-not-is_bound.true
          (decided.1 (bounds_until c.args.room jobs bounds i none lt h))),
    )

pub loop-bound-preserved : goal.loop-bound-preserved
loop-bound-preserved c =
    let i = c.loop-bound.bound-index in
    let bounds = c.args.bounds.now in
    let jobs = c.args.jobs.now in
    let lt : i < length bounds = omega arith in
    let len : c.loop-bound.list.len ≡ length c.lower.new.list =
    omega (
      arith,
      ap length c.lower.ensures,
      length-map c.deref_mut.result.now
          (lowered_by (get_or bounds i none)),
      c.deref_mut.ensures.len,
    ) in
    record {
      list = ap (λ n. take n (c.lower.new.list ++ drop (length c.lower.new.list)
          c.loop-bound.list.items)) len ∙ take-append_seam c.lower.new.list
          (drop (length c.lower.new.list) c.loop-bound.list.items)
          ∙ timed_more jobs bounds i none c.loop-bound.list.items c.lower.new.list lt
          c.loop-bound.invariant.list
          (c.lower.ensures ∙ ap (map (lowered_by (get_or bounds i none))) c.deref_mut.ensures.value);
      bounds = bounds_more c.args.room jobs bounds i none lt
          ((c.is_bound.ensures jobs (reverse (take i bounds))
          (c.deref.ensures.value ∙ c.loop-bound.invariant.list)).0 c.if-not-is_bound.false)
          c.loop-bound.invariant.bounds;
    }
