use Rattle.std.proofs.Common.{◌∙◌, ap, count_by, nat_le}
use Rattle.std.proofs.lemmas.List.Sorted.{IsNonDecreasingBy-from_sort}
use Rattle.calls_core.proofs.Counting.{count_moved}
use Rattle.calls_counts.proofs.Searching.{are_invocations}
use Rattle.calls_counts.proofs.observe.sorted_invocations.Goals as goal

pub returns-clause-sorted : goal.returns-clause-sorted
returns-clause-sorted c = IsNonDecreasingBy-from_sort (λ x. x) c.sort_unstable.new.self.items
    c.sort_unstable.ensures.sorted

pub returns-clause-counted : goal.returns-clause-counted
returns-clause-counted c = λ a.
    (count_moved (λ f. nat_le a f) c.in_ok-firsts.firsts.items c.sort_unstable.new.self.items
    c.sort_unstable.ensures.permutation
    ∙ ap (count_by (λ f. nat_le a f)) c.in_ok-firsts.ensures ∙ are_invocations c.args.slots.now
    c.args.to a)
