use Rattle.std.proofs.Common.{◌≡◌, ◌⊎◌, Option, IsSome, true, inl, inr, ap, sym, ◌∙◌, subst}
use Rattle.std.specs.List.Sorted.{IsPermutation}
use Rattle.calls_buffers.specs.declared.turns.Turned.{Turned}
use Rattle.calls_buffers.specs.Outcomes.{AreInTurn, AreTakenInTurn}
use Rattle.calls_buffers.specs.Turns.{puts_of, AreApart}
use Rattle.calls_buffers.specs.Accesses.{taken_item}
use Rattle.calls_buffers.specs.Accesses.{accesses}
use Rattle.calls_buffers.proofs.Answering.{if_ok}
use Rattle.calls_buffers.proofs.InTurn.{AreLasting, lasting_puts, lasting_moved}
use Rattle.calls_buffers.proofs.InTurn.{puts_apart, puts_listed}
use Rattle.calls_buffers.proofs.turns.by_turns.Goals as goal

pub are_apart-requires : goal.are_apart-requires
are_apart-requires c =
    let end = c.args.end in
    let done = c.args.calls.now.done.items in
    let pending = c.args.calls.now.pending.items in
    let list = c.in_ok-puts_in_order.puts_in_order.items in
    let are : c.deref-4.result.now ≡ puts_of end done pending =
    c.deref-4.ensures.value ∙ puts_listed end _ _ _ _ _ _ c.in_ok-add_pending.ensures
    c.in_ok-puts.ensures c.deref.ensures.value c.deref-2.ensures.value in
    subst AreLasting (sym c.deref-5.ensures.value) (lasting_moved (puts_of end done pending) list
    (subst (λ zs. IsPermutation zs list) are c.in_ok-puts_in_order.ensures.moved)
    (lasting_puts c.args.room end done pending c.requires.calls))

pub by_puts_in_turn-requires : goal.by_puts_in_turn-requires
by_puts_in_turn-requires c = record {
  calls = c.requires.calls;
  apart = c.requires.apart;
  puts = c.deref-6.ensures.value ∙ puts_listed c.args.end _ _ _ _ _ _ c.in_ok-add_pending.ensures
      c.in_ok-puts.ensures c.deref.ensures.value c.deref-2.ensures.value;
  takes = c.deref-7.ensures.value ∙ c.in_ok-takes.ensures
      ∙ ap (accesses taken_item 0) c.deref-3.ensures.value;
}

pub returns-clause-complete : goal.returns-clause-complete
returns-clause-complete c =
    let end = c.args.end in
    let done = c.args.calls.now.done.items in
    let pending = c.args.calls.now.pending.items in
    let list = c.in_ok-puts_in_order.puts_in_order.items in
    let are : c.deref-4.result.now ≡ puts_of end done pending =
    c.deref-4.ensures.value ∙ puts_listed end _ _ _ _ _ _ c.in_ok-add_pending.ensures
    c.in_ok-puts.ensures c.deref.ensures.value c.deref-2.ensures.value in
    let other : AreInTurn done pending → ⊥ = λ h.
    let apart = subst AreApart (sym c.deref-5.ensures.value)
    (puts_apart c.args.room end done pending list c.requires.calls c.requires.apart h
    (subst (λ zs. IsPermutation zs list) are c.in_ok-puts_in_order.ensures.moved)
    c.in_ok-puts_in_order.ensures.sorted) in
    let yes : c.are_apart.result ≡ true = c.are_apart.ensures.1 apart in
    let no = c.if-are_apart.false in cc in
    if_ok (λ (o : Option Turned). AreTakenInTurn done pending → IsSome o)
    (λ (o : Option Turned). AreInTurn done pending ⊎ AreTakenInTurn done pending → IsSome o)
    (λ o some turns. elim turns [ inl h ↦ absurd (other h) | inr h ↦ some h ])
    c.by_puts_in_turn.result c.by_puts_in_turn.ensures.complete
