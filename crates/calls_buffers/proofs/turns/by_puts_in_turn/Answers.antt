use Rattle.std.proofs.Common.{◌≡◌, ℕ, ◌++◌, List, length, true, ap, sym, ◌∙◌, subst}
use Rattle.std.specs.List.Sorted.{IsPermutation}
use Rattle.calls_core.specs.declared.history.PendingCall.{PendingCall}
use Rattle.calls_buffers.specs.declared.accesses.Access.{Access}
use Rattle.calls_buffers.specs.Turns.{takes_of, AreApart, asking, AreFewOrApart}
use Rattle.calls_buffers.proofs.InTurn.{AreLasting, lasting_takes, lasting_all, in_turn}
use Rattle.calls_buffers.proofs.turns.by_puts_in_turn.Goals as goal

all_listed : (end : ℕ) (list copy all : List Access) (pending os : List PendingCall)
    → all ≡ copy ++ asking end 0 os → copy ≡ list → os ≡ pending
    → all ≡ list ++ asking end 0 pending
all_listed end list copy all pending os is same asks =
    is ∙ ap (λ (zs : List Access). zs ++ asking end 0 os) same
    ∙ ap (λ (ps : List PendingCall). list ++ asking end 0 ps) asks

pub are_in_turn-requires : goal.are_in_turn-requires
are_in_turn-requires c =
    let n = c.args.room in
    let end = c.args.end in
    let done = c.args.calls.now.done.items in
    let pending = c.args.calls.now.pending.items in
    let list = c.in_ok-takes_in_order.takes_in_order.items in
    let moved : IsPermutation (takes_of done) list =
    subst (λ (zs : List Access). IsPermutation zs list) c.requires.takes
    c.in_ok-takes_in_order.ensures.moved in
    let all : c.deref-4.result.now ≡ list ++ asking end 0 pending =
    c.deref-4.ensures.value ∙ all_listed end _ _ _ _ _ c.in_ok-add_asking.ensures
    (c.in_ok-all.ensures.items ∙ c.deref.ensures.value) c.deref-2.ensures.value in
    record {
      takes = subst AreLasting (sym c.deref-3.ensures.value)
          (lasting_takes n end done pending list c.requires.calls moved);
      all = subst AreLasting (sym all) (lasting_all n end done pending list c.requires.calls moved);
    }

pub returns-then-are_in_turn-clause-sound : goal.returns-then-are_in_turn-clause-sound
returns-then-are_in_turn-clause-sound c =
    let end = c.args.end in
    let done = c.args.calls.now.done.items in
    let pending = c.args.calls.now.pending.items in
    let list = c.in_ok-takes_in_order.takes_in_order.items in
    let others = asking end 0 pending in
    let moved : IsPermutation (takes_of done) list =
    subst (λ (zs : List Access). IsPermutation zs list) c.requires.takes
    c.in_ok-takes_in_order.ensures.moved in
    let all : c.deref-4.result.now ≡ list ++ others =
    c.deref-4.ensures.value ∙ all_listed end _ _ _ _ _ c.in_ok-add_asking.ensures
    (c.in_ok-all.ensures.items ∙ c.deref.ensures.value) c.deref-2.ensures.value in
    let are = (c.are_in_turn.ensures others (all ∙ ap (λ (zs : List Access). zs ++ others)
    (sym c.deref-3.ensures.value))).0 c.if-are_in_turn.true in
    let then : c.deref-then-are_in_turn.result.now ≡ list =
    c.deref-then-are_in_turn.ensures.value in
    let same = c.deref-3.ensures.value ∙ sym then in
    c.in_ok-turned.ensures done pending c.requires.calls c.requires.apart c.requires.puts
    (subst (IsPermutation (takes_of done)) (sym then) moved) (subst AreApart same are.0)
    (c.deref-then-are_in_turn-2.ensures.value ∙ sym c.deref-4.ensures.value ∙ all
    ∙ ap (λ (zs : List Access). zs ++ others) (sym then))
    (subst (λ (zs : List Access). AreFewOrApart (length c.args.puts.now) zs others) same are.1)

pub returns-clause-complete : goal.returns-clause-complete
returns-clause-complete c = λ turns.
    let n = c.args.room in
    let end = c.args.end in
    let done = c.args.calls.now.done.items in
    let pending = c.args.calls.now.pending.items in
    let list = c.in_ok-takes_in_order.takes_in_order.items in
    let others = asking end 0 pending in
    let moved : IsPermutation (takes_of done) list =
    subst (λ (zs : List Access). IsPermutation zs list) c.requires.takes
    c.in_ok-takes_in_order.ensures.moved in
    let all : c.deref-4.result.now ≡ list ++ others =
    c.deref-4.ensures.value ∙ all_listed end _ _ _ _ _ c.in_ok-add_asking.ensures
    (c.in_ok-all.ensures.items ∙ c.deref.ensures.value) c.deref-2.ensures.value in
    let are = in_turn n end done pending list c.requires.calls moved c.requires.apart turns
    c.in_ok-takes_in_order.ensures.sorted in
    let back = sym c.deref-3.ensures.value in
    let yes : c.are_in_turn.result ≡ true = (c.are_in_turn.ensures others
    (all ∙ ap (λ (zs : List Access). zs ++ others) back)).1 (
      subst AreApart back are.0,
      subst (λ (zs : List Access). AreFewOrApart (length c.args.puts.now) zs others) back
          (subst (λ (zs : List Access). AreFewOrApart (length zs) list others)
          (sym c.requires.puts) are.1),
    ) in
    sym c.if-are_in_turn.false ∙ yes
