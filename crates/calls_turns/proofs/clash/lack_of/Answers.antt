use Rattle.std.proofs.Common.{◌≡◌, ◌-◌, ◌∙◌, ◌&&◌, not, true, false, arith, length, Some, subst}
use Rattle.std.proofs.Common.{sym}
use Rattle.std.proofs.Common.{rules}
use Rattle.calls_turns.specs.Steps.{has_none}
use Rattle.calls_turns.specs.Sweeps.{turn_at, filler}
use Rattle.calls_turns.specs.Chains.{marked}
use Rattle.calls_turns.specs.Shortages.{is_listed}
use Rattle.calls_turns.proofs.Counts.{known_some}
use Rattle.calls_turns.proofs.Shortfalls.{AreMissing, first_missing, more_missing, same_missing}
use Rattle.calls_turns.proofs.Shortfalls.{all_missing}
use Rattle.calls_turns.proofs.clash.lack_of.Goals as goal

pub loop-k-init : goal.loop-k-init
loop-k-init c =
    let turns = c.args.turns.now in
    let takers = c.args.takers.now in
    let fills = c.args.fills.now in
    let needed = c.in_ok-vec-2.field-0.items in
    record {
      within = omega arith;
      missing = subst (λ l. AreMissing turns takers fills c.args.at (length fills) needed l)
          (sym c.in_ok-vec.ensures.items)
          (first_missing c.args.end turns takers fills c.requires.filled c.args.at needed
          c.shortage_of.result c.requires.known c.requires.lacking (search rules)
          c.shortage_of.ensures);
    }

pub loop-k-preserved-then-is_new : goal.loop-k-preserved-then-is_new
loop-k-preserved-then-is_new c =
    let turns = c.args.turns.now in
    let takers = c.args.takers.now in
    let fills = c.args.fills.now in
    let k = c.loop-k.k - 1 in
    let needed = c.loop-k.lack.needed.items in
    let list = c.loop-k.lack.shortages.items in
    record {
      within = omega arith;
      missing = subst (λ l. AreMissing turns takers fills c.args.at k (marked needed (Some k)) l)
          (sym c.in_ok-push.ensures.items)
          (more_missing c.args.end turns takers fills c.requires.filled c.args.at k c.loop-k.k
          needed list c.shortage_of-shortage.result (omega arith) (omega arith) c.requires.known
          (c.requires.until k (omega arith))
          (subst (λ l. (has_none (filler takers fills k).item
          && not (is_listed l (turn_at turns k).item)) ≡ true) c.deref.ensures.value
          (sym c.is_new.ensures ∙ c.if-is_new.true)) c.shortage_of-shortage.ensures
          c.loop-k.invariant.missing);
    }

pub loop-k-preserved : goal.loop-k-preserved
loop-k-preserved c =
    let turns = c.args.turns.now in
    let takers = c.args.takers.now in
    let fills = c.args.fills.now in
    let k = c.loop-k.k - 1 in
    record {
      within = omega arith;
      missing = same_missing c.args.end turns takers fills c.requires.filled c.args.at k
          c.loop-k.k c.loop-k.lack.needed.items c.loop-k.lack.shortages.items (omega arith)
          (subst (λ l. (has_none (filler takers fills k).item
          && not (is_listed l (turn_at turns k).item)) ≡ false) c.deref.ensures.value
          (sym c.is_new.ensures ∙ c.if-is_new.false)) c.loop-k.invariant.missing;
    }

pub shortage_of-shortage-requires-clause-known : goal.shortage_of-shortage-requires-clause-known
shortage_of-shortage-requires-clause-known c =
    known_some c.args.turns.now (c.loop-k.k - 1) (omega (arith, c.requires.known))

pub returns : goal.returns
returns c = all_missing c.args.end c.args.turns.now c.args.takers.now c.args.fills.now
    c.requires.filled c.args.at c.loop-k.k c.loop-k.lack (omega (arith, c.loop-k-test.false))
    c.requires.lacking c.loop-k.invariant.missing
