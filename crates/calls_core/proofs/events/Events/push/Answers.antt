use Rattle.std.proofs.Common.{◌≡◌, ◌+◌, ◌++◌, ◌∷◌, [], length, ap, sym, ◌∙◌, arith}
use Rattle.calls_core.specs.kept.Packed.{events_in, unpack_event, unpack_from}
use Rattle.calls_core.proofs.Packing.{unpacked_more}
use Rattle.calls_core.proofs.events.Events.push.Goals as goal

pub returns-in_ok-push-in-Some-clause-ok : goal.returns-in_ok-push-in-Some-clause-ok
returns-in_ok-push-in-Some-clause-ok c =
    let ps = c.in-Narrow.list.items in
    let index : 0 + length ps ≡ c.len.result = omega arith in
    ap (unpack_from 0) c.in_ok-push-in-Some.ensures.items ∙ unpacked_more 0 ps c.in-Some.packed
    ∙ ap (λ n. unpack_from 0 ps ++ unpack_event n c.in-Some.packed ∷ []) index
    ∙ ap (λ x. unpack_from 0 ps ++ x ∷ []) c.in-Some.ensures
    ∙ ap (λ xs. xs ++ c.args.event ∷ []) (ap events_in (sym c.in-Narrow.is) ∙ c.self.view_is)
