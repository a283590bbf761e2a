use Rattle.std.proofs.Common.{◌≡◌, ◌≢◌, [], ◌++◌, ◌∷◌, List, ℕ, length, slice_range, refl, ap, sym, ◌∙◌, subst, arith}
use Rattle.std.specs.List.{All}
use Rattle.ec_trace.proofs.Ranges.{IsCut, range_cut}
use Rattle.ec_trace.proofs.Readings.{line_ends}
use Rattle.ec_trace.specs.Reading.{Reaches}
use Rattle.ec_trace.proofs.lines.Lines.find.Goals as goal

pub returns-in-Some-clause-found : goal.returns-in-Some-clause-found
returns-in-Some-clause-found c = λ _ xs left s reached.
    let i = c.self.invariant in
    let whole : slice_range c.self.inside.piece.items c.self.inside.from c.self.inside.end ≡ c.in-Some.line.now ++ 10 ∷ c.in-Some.field-0-1.now =
    ap (λ (l : List ℕ). slice_range l c.self.inside.from c.self.inside.end) (sym c.as_slice-piece.ensures.value) ∙ c.in-Some.ensures.whole in
    let cut : IsCut c.self.inside.piece.items c.self.inside.from c.self.inside.end c.in-Some.line.now c.in-Some.field-0-1.now = range_cut _ _ _ _ _ i.taken (omega (arith, i.room)) whole in
    line_ends xs left _ _ [] c.in-Some.line.now _ s (subst (λ r. Reaches xs left r s) (sym c.self.view_is) reached) (whole ∙ ap (λ (r : List ℕ). c.in-Some.line.now ++ 10 ∷ r) (sym cut.behind)) refl refl (omega arith)
    cut.before (subst (All (λ b. b ≢ 10)) (sym cut.before) c.in-Some.ensures.plain) (omega (arith, ap length cut.before))
