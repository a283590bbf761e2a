use Rattle.std.proofs.Common.{arith, subst, sym, length, ◌++◌, ◌∷◌, []}
use Rattle.std.proofs.lemmas.List.{get_or_read}
use Rattle.calls_turns.specs.declared.demand.Fill.{Fill}
use Rattle.calls_turns.specs.Sweeps.{AreFilled, turn_at}
use Rattle.calls_turns.specs.Swept.{AreSplit, HasCome, AreDueFrom}
use Rattle.calls_turns.proofs.Filling.{suited_within, filled_next, split_next, come_next, due_next}
use Rattle.calls_turns.proofs.Filling.{target_due}
use Rattle.calls_turns.proofs.sweeping.take_next.Goals as goal

pub returns-in_ok-push-in-Some-clause-at : goal.returns-in_ok-push-in-Some-clause-at
returns-in_ok-push-in-Some-clause-at c =
    let turns = c.args.turns.now in
    let takers = c.args.takers.now in
    let s = c.args.sweep.now in
    let d = c.args.demand in
    let place = c.in-Some.place in
    let f : Fill = record { taker = c.swap_remove-taker.result; demand = d } in
    let is = sym c.in_ok-push-in-Some.ensures.items in
    let next = c.in-Some.ensures.some in
    let inside = suited_within takers s.free.items d.at (turn_at turns (length s.fills.items)).item
    place next.suited in
    record {
      split = subst (λ l. AreSplit takers l s.next c.swap_remove-taker.new.self.items) is
          (subst (λ l. AreSplit takers (s.fills.items ++ f ∷ []) s.next l)
          (sym c.swap_remove-taker.ensures.items)
          (split_next takers s.fills.items s.next s.free.items f place c.requires.at.split inside
          c.swap_remove-taker.ensures.value));
      come = subst (λ l. HasCome takers l s.next d.at) is
          (come_next takers s.fills.items s.next d.at f c.requires.at.come (omega arith));
      due = subst (λ l. AreDueFrom turns takers l d.at) is
          (due_next turns takers s.fills.items d.at f c.requires.at.due);
      later = c.requires.at.later;
    }

pub returns-in_ok-push-in-Some-clause-filled : goal.returns-in_ok-push-in-Some-clause-filled
returns-in_ok-push-in-Some-clause-filled c end filled before =
    let turns = c.args.turns.now in
    let takers = c.args.takers.now in
    let s = c.args.sweep.now in
    let d = c.args.demand in
    let place = c.in-Some.place in
    let next = c.in-Some.ensures.some in
    let inside = suited_within takers s.free.items d.at (turn_at turns (length s.fills.items)).item
    place next.suited in
    subst (λ l. AreFilled end turns takers l) (sym c.in_ok-push-in-Some.ensures.items)
    (filled_next end turns takers s.fills.items s.next s.free.items d place
    c.swap_remove-taker.result filled c.requires.at.split c.requires.at.come c.requires.at.due
    c.requires.at.later
    (record {
      before = before;
      due = target_due turns takers s.fills.items d.at d.target c.requires.target
          c.requires.unmet;
    }) next.turn next.from next.suited
    (get_or_read s.free.items place c.swap_remove-taker.result inside
    c.swap_remove-taker.ensures.value 0))
