use Rattle.std.proofs.lemmas.List.Sorted.{IsNonDecreasingBy-from_sort}
use Rattle.calls_schedule.proofs.limits.sorted_starts.Goals as goal

pub returns-clause-sorted : goal.returns-clause-sorted
returns-clause-sorted c = IsNonDecreasingBy-from_sort (λ x. x) c.sort.new.self.items
    c.in_ok-sort.ensures.sorted
