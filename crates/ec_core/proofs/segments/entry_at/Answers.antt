use Rattle.std.proofs.Common.{◌≡◌, ◌+◌, ◌-◌, ◌*◌, ◌/◌, ◌%◌, ◌<◌, ◌≤◌, ◌∙◌, length, slice_get, Some, ap, sym, refl, arith}
use Rattle.std.proofs.lemmas.Option.{slice_get_read}
use Rattle.ec_core.proofs.shared.Joining.{get_joined, get_last, place_small}
use Rattle.ec_core.proofs.segments.entry_at.Goals as goal

pub returns-then-place-len-clause-value : goal.returns-then-place-len-clause-value
returns-then-place-len-clause-value c =
    let full = c.args.full.now.items in
    let last = c.args.last.now in
    let i = c.args.i in
    let below : i / 4096 < length full = omega arith in
    let segment : slice_get full (i / 4096) ≡ Some c.index-segment.result.now = slice_get_read full (length full) (i / 4096) c.index-segment.result.now refl below c.index-segment.ensures in
    let whole : i ≡ i / 4096 * 4096 + i % 4096 = omega arith in
    c.get.ensures.value
    ∙ sym (get_joined (λ xs. xs) 4096 full last (i / 4096) (i % 4096) i c.index-segment.result.now c.requires.whole segment (omega arith) whole)

pub returns-clause-value : goal.returns-clause-value
returns-clause-value c =
    let full = c.args.full.now.items in
    let last = c.args.last.now in
    let i = c.args.i in
    let past : length full * 4096 ≤ i = omega arith in
    let place : i - c.len-2.result * 4096 ≡ i - length full * 4096 = omega arith in
    c.get-2.ensures.value ∙ ap (slice_get last) place
    ∙ sym (get_last (λ xs. xs) 4096 full last i (i - length full * 4096) c.requires.whole (omega arith))

pub returns-clause-within : goal.returns-clause-within
returns-clause-within c =
    let few = c.requires.few in
    let begun = c.requires.begun in
    place_small c.get-2.result c.args.last.now c.args.i (c.args.i - c.len-2.result * 4096) c.get-2.ensures.value begun (omega arith)
