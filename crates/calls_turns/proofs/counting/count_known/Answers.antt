use Rattle.std.proofs.Common.{◌≡◌, ◌≤◌, ℕ, Option, None, Some, arith, length, refl, sym, ◌∙◌, not}
use Rattle.std.proofs.Common.{true, ap}
use Rattle.std.specs.Option.{is_some}
use Rattle.std.proofs.lemmas.List.{get_or_past}
use Rattle.calls_turns.specs.declared.turn.Turn.{Turn}
use Rattle.calls_turns.specs.Sweeps.{no_turn, turn_at}
use Rattle.calls_turns.proofs.Counts.{known_at}
use Rattle.calls_turns.proofs.counting.count_known.Goals as goal

none_is : (o : Option ℕ) → is_some o ≡ not true → o ≡ None
none_is None e = refl
none_is (Some v) e = absurd (cc)

pub returns-then-is_none : goal.returns-then-is_none
returns-then-is_none c =
    let turns = c.args.turns.now in
    let k = c.loop-k.k in
    let there : k ≤ length turns = omega (arith, c.loop-k-test.true) in
    sym (known_at turns k there c.loop-k.invariant
    (none_is (turn_at turns k).item (c.is_none.ensures ∙ ap not c.if-is_none.true)))

pub returns : goal.returns
returns c =
    let turns = c.args.turns.now in
    let n = length turns in
    let past : c.loop-k.k ≡ n = omega (arith, c.loop-k-test.false, c.loop-k.auto.k-end) in
    sym (known_at turns n (omega arith) (λ i from lt. c.loop-k.invariant i from (omega arith))
    (ap (λ (t : Turn). t.item) (get_or_past turns n no_turn (omega arith))))
