use Rattle.std.proofs.Common.{◌≡◌, ◌+◌, ◌∙◌, Some, arith, false, rules, subst, sym, true}
use Rattle.calls_turns.specs.declared.sharing.Load.{Load}
use Rattle.calls_turns.specs.Shares.{is_shared}
use Rattle.calls_turns.proofs.Loads.{AreLoading, first_loading, same_loading, more_loading}
use Rattle.calls_turns.proofs.Loads.{all_loaded}
use Rattle.calls_turns.proofs.sharing.load_of.Goals as goal
use Rattle.calls_turns.proofs.sharing.load_of.Goals.{then-not-is_shared+in_ok-add_share}
use Rattle.calls_turns.proofs.sharing.load_of.Goals.{else-not-is_shared}

pub loop-k-init : goal.loop-k-init
loop-k-init c = first_loading c.args.end c.args.turns.now c.args.takers.now c.args.fills.now
    c.args.at c.args.n c.requires.seeking c.requires.others c.requires.before
    (record { shares = c.new.result; needed = c.in_ok-vec.field-0 }) c.new.ensures.items
    (search rules)

pub loop-k-preserved : goal.loop-k-preserved
loop-k-preserved c =
    let turns = c.args.turns.now in
    let takers = c.args.takers.now in
    let fills = c.args.fills.now in
    let p = c.args.at in
    let n = c.args.n in
    let k = c.loop-k.k in
    let v = c.unwrap-item.result in
    let old = c.loop-k.load in
    let told = c.is_shared.ensures in
    let value = c.deref.ensures.value in
    elim c.if-not-is_shared.branch [
      | then-not-is_shared+in_ok-add_share w ↦
          let fresh : c.is_shared.result ≡ false = search rules in
          subst (λ (l : Load). AreLoading turns takers fills p n (k + 1) l) (sym w.load-is)
          (more_loading c.args.end turns takers fills p n c.requires.seeking c.requires.others
          c.requires.before v k old w.add_share.new.load c.unwrap-item.ensures
          (subst (λ l. is_shared l (Some v) ≡ false) value (sym told ∙ fresh))
          w.in_ok-add_share.ensures c.loop-k.invariant)
      | else-not-is_shared w ↦
          let there : c.is_shared.result ≡ true = search rules in
          subst (λ (l : Load). AreLoading turns takers fills p n (k + 1) l) (sym w.load-is)
          (same_loading c.args.end turns takers fills p n c.requires.seeking c.requires.others
          c.requires.before k old
          (subst (λ o. is_shared old.shares.items o ≡ true) (sym c.unwrap-item.ensures)
          (subst (λ l. is_shared l (Some v) ≡ true) value (sym told ∙ there)))
          c.loop-k.invariant)
    ]

pub returns : goal.returns
returns c = all_loaded c.args.end c.args.turns.now c.args.takers.now c.args.fills.now c.args.at
    c.args.n c.requires.seeking c.requires.others c.requires.before c.loop-k.k c.loop-k.load
    (omega (arith, c.loop-k-test.false, c.requires.seeking.within)) c.loop-k.invariant
