use Rattle.std.proofs.Common.{◌≡◌, List, Bool, true, [], ◌∷◌, ◌+◌, rules, arith, subst, sym, ◌∙◌, ap, drop, length}
use Rattle.ec_order.specs.declared.linearized_entry.LinearizedEntry.{LinearizedEntry}
use Rattle.ec_order.specs.Linearizer.{entries_from_moment, read_comes}
use Rattle.ec_order.proofs.Dates.{NoneDue, dates_due, dates_own, dates_pass, dates_end}
use Rattle.ec_order.proofs.linearizer.LinearizationIterator.next.Goals as goal

pub returns-in-Some-clause-steps : goal.returns-in-Some-clause-steps
returns-in-Some-clause-steps c =
    let s = c.loop-linearized.self-inside in
    sym c.self.view_is ∙ sym c.loop-linearized.invariant.left
    ∙ dates_due s.position s.marks s.one_entry_calls s.readings.now s.given c.in-Some.linearized c.in-Some.ensures.value.0 c.in-Some.ensures.value.1

pub returns-in-Some-clause-goes : goal.returns-in-Some-clause-goes
returns-in-Some-clause-goes c = let e = returns-in-Some-clause-steps c in search (rules, e)

pub returns-in_default-next-clause-steps : goal.returns-in_default-next-clause-steps
returns-in_default-next-clause-steps c =
    let s = c.loop-linearized.self-inside in
    let due : NoneDue s.readings.now s.given s.position (read_comes s.marks s.one_entry_calls) = λ d at. c.in_default.ensures.value d at in
    let none : NoneDue s.readings.now s.given s.position (read_comes [] s.one_entry_calls) = subst (NoneDue s.readings.now s.given s.position) (ap (λ ms. read_comes ms s.one_entry_calls) c.in_default-next.ensures.steps.0) due in
    let left : List Bool → List LinearizedEntry = λ ms. entries_from_moment s.position ms s.one_entry_calls (drop s.given s.readings.now) in
    let ends = dates_end s.position s.one_entry_calls s.readings.now s.given none in (
      sym c.self.view_is ∙ sym c.loop-linearized.invariant.left ∙ ap left c.in_default-next.ensures.steps.0 ∙ ends,
      ap left c.in_default-next.ensures.steps.1 ∙ ends,
    )

pub returns-in-Some-next-2-clause-steps : goal.returns-in-Some-next-2-clause-steps
returns-in-Some-next-2-clause-steps c =
    let s = c.loop-linearized.self-inside in
    let due : NoneDue s.readings.now s.given s.position (read_comes s.marks s.one_entry_calls) = λ d at. c.in_default.ensures.value d at in
    let marks : s.marks ≡ true ∷ c.next.new.self = c.in-Some-next.ensures.steps ∙ ap (λ b. b ∷ c.next.new.self) c.if-is_whole.true in
    let one_entry_calls : s.one_entry_calls ≡ c.in-Some-next-2.entry ∷ c.next-then-is_whole.new.self = c.in-Some-next-2.ensures.steps in
    let none : NoneDue s.readings.now s.given s.position (read_comes (true ∷ c.next.new.self) (c.in-Some-next-2.entry ∷ c.next-then-is_whole.new.self)) =
    subst (NoneDue s.readings.now s.given s.position) (ap (λ ms. read_comes ms s.one_entry_calls) marks ∙ ap (read_comes (true ∷ c.next.new.self)) one_entry_calls) due in
    sym c.self.view_is ∙ sym c.loop-linearized.invariant.left
    ∙ ap (λ ms. entries_from_moment s.position ms s.one_entry_calls (drop s.given s.readings.now)) marks ∙ ap (λ xs. entries_from_moment s.position (true ∷ c.next.new.self) xs (drop s.given s.readings.now)) one_entry_calls
    ∙ dates_own s.position c.next.new.self c.in-Some-next-2.entry c.next-then-is_whole.new.self s.readings.now s.given none

pub returns-in-Some-next-2-clause-goes : goal.returns-in-Some-next-2-clause-goes
returns-in-Some-next-2-clause-goes c = let e = returns-in-Some-next-2-clause-steps c in search (rules, e)

pub loop-linearized-preserved-in_default-next-2 : goal.loop-linearized-preserved-in_default-next-2
loop-linearized-preserved-in_default-next-2 c =
    let s = c.loop-linearized.self-inside in
    let due : NoneDue s.readings.now s.given s.position (read_comes s.marks s.one_entry_calls) = λ d at. c.in_default.ensures.value d at in
    let none : NoneDue s.readings.now s.given s.position (read_comes (c.in-Some-next.is_whole ∷ c.next.new.self) s.one_entry_calls) = subst (NoneDue s.readings.now s.given s.position) (ap (λ ms. read_comes ms s.one_entry_calls) c.in-Some-next.ensures.steps) due in
    let rest = drop s.given s.readings.now in
    let out = c.in_default-next-2.ensures.steps in
    record {
      left = ap (λ xs. entries_from_moment (s.position + 1) c.next.new.self xs rest) (out.1
          ∙ sym out.0)
          ∙ sym (ap (λ ms. entries_from_moment s.position ms s.one_entry_calls rest) c.in-Some-next.ensures.steps ∙ dates_pass s.position c.in-Some-next.is_whole c.next.new.self s.one_entry_calls s.readings.now s.given none (λ e. out.0))
          ∙ c.loop-linearized.invariant.left;
      small = omega (arith, ap length c.in-Some-next.ensures.steps, c.loop-linearized.invariant.small);
    }

pub loop-linearized-preserved : goal.loop-linearized-preserved
loop-linearized-preserved c =
    let s = c.loop-linearized.self-inside in
    let due : NoneDue s.readings.now s.given s.position (read_comes s.marks s.one_entry_calls) = λ d at. c.in_default.ensures.value d at in
    let none : NoneDue s.readings.now s.given s.position (read_comes (c.in-Some-next.is_whole ∷ c.next.new.self) s.one_entry_calls) = subst (NoneDue s.readings.now s.given s.position) (ap (λ ms. read_comes ms s.one_entry_calls) c.in-Some-next.ensures.steps) due in
    let is = c.if-is_whole.false in
    record {
      left = sym (
          ap (λ ms. entries_from_moment s.position ms s.one_entry_calls (drop s.given s.readings.now)) c.in-Some-next.ensures.steps
          ∙ dates_pass s.position c.in-Some-next.is_whole c.next.new.self s.one_entry_calls s.readings.now s.given none (λ e. cc)) ∙ c.loop-linearized.invariant.left;
      small = omega (arith, ap length c.in-Some-next.ensures.steps, c.loop-linearized.invariant.small);
    }
