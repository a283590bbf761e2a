use Rattle.std.proofs.Common.{◌+◌, ◌-◌, ◌<◌, ◌∙◌, ◌++◌, [], ◌∷◌, length, drop, ap, sym, arith}
use Rattle.std.specs.List.{flat_map}
use Rattle.ec_core.proofs.shared.Joining.{left_begins, left_ends, last_within}
use Rattle.ec_core.proofs.entries.EntriesIterator.next.Goals as goal

pub returns-in_default-segment_at-clause-steps : goal.returns-in_default-segment_at-clause-steps
returns-in_default-segment_at-clause-steps c =
    let s = c.loop-entry.self-inside in
    let all = s.full.now ++ s.last.now ∷ [] in
    let ends = left_ends all s.begun c.in_default-segment_at.ensures.none in
    let steps = c.in_default.ensures.steps in
    (sym c.self.view_is ∙ sym c.loop-entry.invariant ∙ ap (λ xs. xs ++ flat_map (λ xs. xs) (drop s.begun all)) steps.0 ∙ ends, ap (λ xs. xs ++ flat_map (λ xs. xs) (drop s.begun all)) steps.1 ∙ ends)

pub loop-entry-smaller : goal.loop-entry-smaller
loop-entry-smaller c =
    let s = c.loop-entry.self-inside in
    let within = last_within s.full.now s.last.now c.in-Some-segment_at.segment.now s.begun c.in-Some-segment_at.ensures.some in
    let less : length s.full.now + 1 - (s.begun + 1) < length s.full.now + 1 - s.begun = omega arith in
    less

pub loop-entry-preserved : goal.loop-entry-preserved
loop-entry-preserved c =
    let s = c.loop-entry.self-inside in
    let all = s.full.now ++ s.last.now ∷ [] in
    ap (λ xs. xs ++ flat_map (λ xs. xs) (drop (s.begun + 1) all)) c.entries-self-inside.ensures
    ∙ sym (left_begins all s.begun c.in-Some-segment_at.segment.now c.in-Some-segment_at.ensures.some)
    ∙ ap (λ xs. xs ++ flat_map (λ xs. xs) (drop s.begun all)) (sym c.in_default.ensures.steps.0)
    ∙ c.loop-entry.invariant
