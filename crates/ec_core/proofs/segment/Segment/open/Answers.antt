use Rattle.std.proofs.Common.{◌≤◌, [], vec_capacity, ap, sym, subst}
use Rattle.ec_core.specs.kept.Packed.{unpack_entries, IsSegment}
use Rattle.ec_core.proofs.Keeping.{none_begun}
use Rattle.ec_core.proofs.segment.Segment.open.Goals as goal

pub invariant_of-result : goal.invariant_of-result
invariant_of-result c =
    let n = vec_capacity c.in_ok-stored.stored in
    let m = vec_capacity c.in_ok-words.words in
    let room : 4096 ≤ n = c.in_ok-stored.ensures.capacity in
    subst (λ ws. IsSegment ws c.in_ok-stored.stored.items c.in_ok-starts.starts.items n m) (sym c.in_ok-words.ensures.items)
    (subst (λ ss. IsSegment [] ss c.in_ok-starts.starts.items n m) (sym c.in_ok-stored.ensures.items)
    (subst (λ ks. IsSegment [] [] ks n m) (sym c.in_ok-starts.ensures.items) (none_begun n m room)))

pub returns : goal.returns
unfolding unpack_entries
returns c = ap (unpack_entries c.in_ok-words.words.items) c.in_ok-stored.ensures.items
