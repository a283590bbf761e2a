use Rattle.std.proofs.Common.{◌≡◌, ◌≢◌, ◌<◌, ◌≤◌, ◌+◌, ◌++◌, ◌∷◌, List, ℕ, [], length, slice_range, refl, ap, sym, ◌∙◌, subst, arith, rules, append-nil, length-append}
use Rattle.std.specs.List.{All}
use Rattle.std.proofs.lemmas.List.Elements.{All-append}
use Rattle.ec_trace.proofs.Ranges.{IsCut, range_cut, holds, empty_at}
use Rattle.ec_trace.proofs.Readings.{line_ends, line_grows, line_long, line_large}
use Rattle.ec_trace.specs.Reading.{LinesModel, Begins}
use Rattle.ec_trace.proofs.lines.Lines.hold.Goals as goal

pub returns-then-is_err-clause-holds : goal.returns-then-is_err-clause-holds
returns-then-is_err-clause-holds c = λ xs left s going begins.
    let i = c.self.invariant in
    let h = holds _ _ _ _ _ _ _ _ _ i in
    let whole : slice_range c.self.inside.piece.items c.self.inside.from c.self.inside.end ≡ c.in-Some.line.now ++ 10 ∷ c.in-Some.field-0-1.now =
    ap (λ (l : List ℕ). slice_range l c.self.inside.from c.self.inside.end) (sym c.as_slice-piece.ensures.value) ∙ c.in-Some.ensures.whole in
    let long : 8192 < length c.self.inside.apart.items + length c.in-Some.line.now = search rules in
    line_long xs left _ c.self.inside.apart.items c.in-Some.line.now (10 ∷ c.in-Some.field-0-1.now) s (subst (λ r. Begins xs left r r.part s) (sym c.self.view_is) begins) whole h.within i.plain c.in-Some.ensures.plain long

pub returns-then-is_err-2-clause-holds : goal.returns-then-is_err-2-clause-holds
returns-then-is_err-2-clause-holds c = λ xs left s going begins.
    let i = c.self.invariant in
    let h = holds _ _ _ _ _ _ _ _ _ i in
    let same : slice_range c.as_slice-piece.result.now c.self.inside.from c.self.inside.end ≡ slice_range c.self.inside.piece.items c.self.inside.from c.self.inside.end =
    ap (λ (l : List ℕ). slice_range l c.self.inside.from c.self.inside.end) c.as_slice-piece.ensures.value in
    let long : 8192 < length c.self.inside.apart.items + length (slice_range c.as_slice-piece.result.now c.self.inside.from c.self.inside.end) = search rules in
    line_long xs left _ c.self.inside.apart.items (slice_range c.self.inside.piece.items c.self.inside.from c.self.inside.end) [] s (subst (λ r. Begins xs left r r.part s) (sym c.self.view_is) begins) (sym (append-nil (slice_range c.self.inside.piece.items c.self.inside.from c.self.inside.end))) h.within i.plain (subst (All (λ b. b ≢ 10)) same c.in-None.ensures.none) (omega (arith, long, ap length same))

pub returns-then-self-clause-holds : goal.returns-then-self-clause-holds
returns-then-self-clause-holds c = λ xs left s going begins.
    let i = c.self.invariant in
    let h = holds _ _ _ _ _ _ _ _ _ i in
    let bytes : List ℕ = slice_range c.self.inside.piece.items c.self.inside.from c.self.inside.end in
    let same : slice_range c.as_slice-piece.result.now c.self.inside.from c.self.inside.end ≡ slice_range c.self.inside.piece.items c.self.inside.from c.self.inside.end =
    ap (λ (l : List ℕ). slice_range l c.self.inside.from c.self.inside.end) c.as_slice-piece.ensures.value in
    let fits : length c.self.inside.apart.items + length (slice_range c.as_slice-piece.result.now c.self.inside.from c.self.inside.end) ≤ 8192 = search rules in
    let now : LinesModel = record {
      number = c.self.inside.number;
      taken = c.self.inside.before + c.self.inside.end;
      line = [];
      part = [];
      behind = slice_range c.self.inside.piece.items c.self.inside.end c.self.inside.end;
      over = slice_range c.self.inside.piece.items c.self.inside.end c.self.inside.read;
    } in
    let none : slice_range c.self.inside.piece.items c.self.inside.end c.self.inside.end ≡ [] = empty_at c.self.inside.piece.items c.self.inside.end c.self.inside.end (omega arith) in
    let some : 0 < length (slice_range c.self.inside.piece.items c.self.inside.end c.self.inside.read) = omega (arith, h.over) in
    let begun : Begins xs left now (c.self.inside.apart.items ++ slice_range c.self.inside.piece.items c.self.inside.from c.self.inside.end) s =
    line_grows xs left _ now c.self.inside.apart.items _ s (subst (λ r. Begins xs left r r.part s) (sym c.self.view_is) begins) none refl refl (omega (arith, h.behind, i.taken)) refl in
    line_large xs now s (c.self.inside.apart.items ++ slice_range c.self.inside.piece.items c.self.inside.from c.self.inside.end) left begun going none some (omega (arith, h.full some, h.behind, i.taken))
    (All-append (λ b. b ≢ 10) c.self.inside.apart.items (slice_range c.self.inside.piece.items c.self.inside.from c.self.inside.end) i.plain (subst (All (λ b. b ≢ 10)) same c.in-None.ensures.none))
    (omega (arith, fits, ap length same, length-append c.self.inside.apart.items (slice_range c.self.inside.piece.items c.self.inside.from c.self.inside.end)))

pub returns-else-is_err-clause-holds : goal.returns-else-is_err-clause-holds
returns-else-is_err-clause-holds c = λ xs left s going begins.
    let i = c.self.invariant in
    let whole : slice_range c.self.inside.piece.items c.self.inside.from c.self.inside.end ≡ c.in-Some.line.now ++ 10 ∷ c.in-Some.field-0-1.now =
    ap (λ (l : List ℕ). slice_range l c.self.inside.from c.self.inside.end) (sym c.as_slice-piece.ensures.value) ∙ c.in-Some.ensures.whole in
    let cut : IsCut c.self.inside.piece.items c.self.inside.from c.self.inside.end c.in-Some.line.now c.in-Some.field-0-1.now = range_cut _ _ _ _ _ i.taken (omega (arith, i.room)) whole in
    let fits : length c.self.inside.apart.items + length c.in-Some.line.now ≤ 8192 = search rules in
    let now : c.try_extend_from_slice.new.self.items ≡ c.self.inside.apart.items ++ c.in-Some.line.now = search rules in
    let plain : All (λ b. b ≢ 10) c.try_extend_from_slice.new.self.items =
    subst (All (λ b. b ≢ 10)) (sym now) (All-append (λ b. b ≢ 10) c.self.inside.apart.items c.in-Some.line.now i.plain c.in-Some.ensures.plain) in
    line_ends xs left _ _ c.self.inside.apart.items c.in-Some.line.now _ s (subst (λ r. Begins xs left r r.part s) (sym c.self.view_is) begins) (whole ∙ ap (λ (r : List ℕ). c.in-Some.line.now ++ 10 ∷ r) (sym cut.behind)) refl refl (omega arith) now plain
    (omega (arith, fits, ap length now, length-append c.self.inside.apart.items c.in-Some.line.now))

pub returns-else-self-clause-holds : goal.returns-else-self-clause-holds
returns-else-self-clause-holds c = λ xs left s going begins.
    let i = c.self.invariant in
    let h = holds _ _ _ _ _ _ _ _ _ i in
    let same : slice_range c.as_slice-piece.result.now c.self.inside.from c.self.inside.end ≡ slice_range c.self.inside.piece.items c.self.inside.from c.self.inside.end =
    ap (λ (l : List ℕ). slice_range l c.self.inside.from c.self.inside.end) c.as_slice-piece.ensures.value in
    let now : c.try_extend_from_slice-in-None.new.self.items ≡ c.self.inside.apart.items ++ slice_range c.as_slice-piece.result.now c.self.inside.from c.self.inside.end = search rules in
    line_grows xs left _ _ c.self.inside.apart.items _ s (subst (λ r. Begins xs left r r.part s) (sym c.self.view_is) begins) (empty_at c.self.inside.piece.items c.self.inside.end c.self.inside.end (omega arith)) refl refl (omega (arith, h.behind, i.taken)) (now ∙ ap (λ (b : List ℕ). c.self.inside.apart.items ++ b) same)
