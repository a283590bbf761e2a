use Rattle.std.proofs.Common.{rules}
use Rattle.std.proofs.lemmas.List.Sorted.{IsPermutation-trans, IsNonDecreasingBy-from_sort_by_key}
use Rattle.calls_buffers.specs.declared.accesses.Access.{Access}
use Rattle.calls_buffers.proofs.accesses.sort.Goals as goal

pub returns-clause-moved : goal.returns-clause-moved
returns-clause-moved c = IsPermutation-trans _ _ _ c.in_ok-sort_by_key.ensures.permutation
    c.in_ok-sort_by_key-2.ensures.permutation

pub returns-clause-sorted : goal.returns-clause-sorted
returns-clause-sorted c = IsNonDecreasingBy-from_sort_by_key (λ (a : Access). a.item) _
    c.in_ok-sort_by_key-2.ensures.sorted (λ a r q k. search rules)
