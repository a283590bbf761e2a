use Rattle.std.proofs.Common.{◌≡◌, ◌<◌, ◌++◌, ◌∙◌, length, map, take, drop, reverse, arith, sym, ap}
use Rattle.std.proofs.Common.{subst, ◌≤◌}
use Rattle.std.specs.List.{sum_by}
use Rattle.std.specs.List.Sorted.{IsPermutation}
use Rattle.std.proofs.lemmas.List.{length-map}
use Rattle.calls_core.specs.Lists.{EachPair}
use Rattle.calls_schedule.specs.declared.job.Bound.{Bound}
use Rattle.calls_schedule.specs.declared.timed.Timed.{Timed}
use Rattle.calls_schedule.specs.Schedules.{IsSchedule, AreBounds, Refute}
use Rattle.calls_schedule.specs.Limits.{timed_of}
use Rattle.calls_schedule.specs.Serving.{AreReleased}
use Rattle.calls_schedule.specs.Missing.{lowered_all, AreMisses}
use Rattle.calls_schedule.proofs.Deciding.{released, scheduled, bounds_added, bounds_moved}
use Rattle.calls_schedule.proofs.Deciding.{refuted_by, all_lowered, sum_falls, written, some_items}
use Rattle.calls_schedule.proofs.Deciding.{no_items, none_late, late_lowers, late_refutes}
use Rattle.calls_schedule.proofs.Deciding.{rounds_bounds}
use Rattle.calls_schedule.proofs.scheduling.schedule.Goals as goal

pub serve-requires : goal.serve-requires
serve-requires c =
    subst (λ l. AreReleased l)
    (sym (c.deref-in-rounds.ensures.value ∙ c.rounds.invariant.list))
    (released c.in_ok-sorted.sorted.items (reverse c.rounds.bounds.items)
    c.in_ok-sorted.ensures.sorted)

pub returns-then-is_empty : goal.returns-then-is_empty
returns-then-is_empty c =
    let sorted = c.in_ok-sorted.sorted.items in
    let given = c.in_ok-given.given.items in
    let misses = c.in_ok-misses.misses in
    let m = subst (λ l. AreMisses c.args.room l misses) c.deref-in-rounds-2.ensures.value
    c.in_ok-misses.ensures in
    let all = subst (λ l. IsPermutation l given) c.deref-in-rounds.ensures.value
    c.in_ok-given.ensures.all in
    let none : length misses.bounds.items ≡ 0 =
    no_items misses.bounds.len (length misses.bounds.items) c.is_empty.result
    c.is_empty.ensures c.if-is_empty.true (omega (arith, misses.bounds.ok)) in
    subst (λ l. IsSchedule c.args.room c.args.jobs.now l)
    (sym (c.in_ok-jobs_of.ensures ∙ ap (map (λ (t : Timed). t.job))
    c.deref-then-is_empty.ensures.value))
    (scheduled c.args.room c.args.jobs.now sorted (reverse c.rounds.bounds.items)
    c.rounds.list.items given c.in_ok-sorted.ensures.all c.rounds.invariant.list all
    c.in_ok-given.ensures.served
    (none_late c.args.room given misses.bounds.items misses.refuted none m.decided))

pub returns-then-misses : goal.returns-then-misses
returns-then-misses c =
    let jobs = c.args.jobs.now in
    let sorted = c.in_ok-sorted.sorted.items in
    let given = c.in_ok-given.given.items in
    let misses = c.in_ok-misses.misses in
    let old = c.rounds.bounds.items in
    let more = misses.bounds.items in
    let m = subst (λ l. AreMisses c.args.room l misses) c.deref-in-rounds-2.ensures.value
    c.in_ok-misses.ensures in
    let all = subst (λ l. IsPermutation l given) c.deref-in-rounds.ensures.value
    c.in_ok-given.ensures.all in
    let whole = rounds_bounds old more c.extend_from_slice.new.self.items
    (c.in_ok-extend_from_slice.ensures.items
    ∙ ap (λ l. old ++ l) c.deref-in-rounds-3.ensures.value) in
    subst (λ l. Refute c.args.room jobs l) (sym whole)
    (refuted_by c.args.room jobs (reverse more) (reverse old)
    (late_refutes c.args.room given more misses.refuted c.if-misses.true m.decided)
    (bounds_moved c.args.room jobs sorted (reverse more ++ reverse old)
    c.in_ok-sorted.ensures.all
    (bounds_added c.args.room sorted (reverse more) (reverse old) c.rounds.list.items given
    c.rounds.invariant.list all m.missed.each c.rounds.invariant.bounds)))

pub lower_all-requires : goal.lower_all-requires
lower_all-requires c =
    let misses = c.in_ok-misses.misses in
    let m = subst (λ l. AreMisses c.args.room l misses) c.deref-in-rounds-2.ensures.value
    c.in_ok-misses.ensures in
    subst (λ l. EachPair (λ (b c : Bound). c.at ≤ b.at) (reverse l))
    (sym c.deref-in-rounds-4.ensures.value) m.missed.ascend

pub rounds-smaller : goal.rounds-smaller
rounds-smaller c =
    let given = c.in_ok-given.given.items in
    let misses = c.in_ok-misses.misses in
    let more = misses.bounds.items in
    let list = c.rounds.list.items in
    let new = c.lower_all.new.list in
    let m = subst (λ l. AreMisses c.args.room l misses) c.deref-in-rounds-2.ensures.value
    c.in_ok-misses.ensures in
    let all = subst (λ l. IsPermutation l given) c.deref-in-rounds.ensures.value
    c.in_ok-given.ensures.all in
    let some : 0 < length more =
    some_items misses.bounds.len (length more) c.is_empty.result
    c.is_empty.ensures c.if-is_empty.false (omega (arith, misses.bounds.ok)) in
    let is : new ≡ map (lowered_all (reverse more)) list =
    c.in_ok-lower_all.ensures
    ∙ ap (λ l. map (lowered_all (reverse l)) c.deref_mut.result.now)
    c.deref-in-rounds-4.ensures.value
    ∙ ap (map (lowered_all (reverse more))) c.deref_mut.ensures.value in
    let len : c.rounds.list.len ≡ length new =
    omega (
      arith,
      ap length is,
      length-map list (lowered_all (reverse more)),
      ap length c.deref_mut.ensures.value,
      c.deref_mut.ensures.len,
    ) in
    let less : sum_by (λ (t : Timed). t.early)
    (take c.rounds.list.len (new ++ drop (length new) list))
    < sum_by (λ (t : Timed). t.early) list =
    subst (λ l. sum_by (λ (t : Timed). t.early) l < sum_by (λ (t : Timed). t.early) list)
    (sym (written c.rounds.list.len new list len))
    (sum_falls (reverse more) list given new all is
    (late_lowers c.args.room given more misses.refuted some c.if-misses.false m.decided)) in
    less

pub rounds-preserved : goal.rounds-preserved
rounds-preserved c =
    let sorted = c.in_ok-sorted.sorted.items in
    let given = c.in_ok-given.given.items in
    let misses = c.in_ok-misses.misses in
    let more = misses.bounds.items in
    let old = c.rounds.bounds.items in
    let list = c.rounds.list.items in
    let new = c.lower_all.new.list in
    let m = subst (λ l. AreMisses c.args.room l misses) c.deref-in-rounds-2.ensures.value
    c.in_ok-misses.ensures in
    let all = subst (λ l. IsPermutation l given) c.deref-in-rounds.ensures.value
    c.in_ok-given.ensures.all in
    let is : new ≡ map (lowered_all (reverse more)) list =
    c.in_ok-lower_all.ensures
    ∙ ap (λ l. map (lowered_all (reverse l)) c.deref_mut.result.now)
    c.deref-in-rounds-4.ensures.value
    ∙ ap (map (lowered_all (reverse more))) c.deref_mut.ensures.value in
    let len : c.rounds.list.len ≡ length new =
    omega (
      arith,
      ap length is,
      length-map list (lowered_all (reverse more)),
      ap length c.deref_mut.ensures.value,
      c.deref_mut.ensures.len,
    ) in
    let whole = rounds_bounds old more c.extend_from_slice.new.self.items
    (c.in_ok-extend_from_slice.ensures.items
    ∙ ap (λ l. old ++ l) c.deref-in-rounds-3.ensures.value) in
    record {
      list = written c.rounds.list.len new list len ∙ is
          ∙ ap (map (lowered_all (reverse more))) c.rounds.invariant.list
          ∙ all_lowered sorted (reverse more) (reverse old) sorted
          ∙ ap (λ l. map (timed_of sorted l) sorted) (sym whole);
      bounds = subst (λ l. AreBounds c.args.room sorted l) (sym whole)
          (bounds_added c.args.room sorted (reverse more) (reverse old) list given
          c.rounds.invariant.list all m.missed.each c.rounds.invariant.bounds);
    }
