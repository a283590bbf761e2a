use Rattle.std.proofs.Common.{◌<◌, ◌+◌, length, slice_range, sym, subst, arith}
use Rattle.ec_trace.proofs.Ranges.{holds, empty_at}
use Rattle.ec_trace.proofs.Readings.{text_too_long, text_large}
use Rattle.ec_trace.specs.Reading.{Reaches}
use Rattle.ec_trace.specs.Stages.{Ended}
use Rattle.ec_trace.proofs.lines.Lines.behind_the_end.Goals as goal

pub returns-then-self : goal.returns-then-self
returns-then-self c = λ xs left t reached.
    let h = holds _ _ _ _ _ _ _ _ _ c.self.invariant in
    text_too_long xs _ t left (subst (λ r. Reaches xs left r (Ended t)) (sym c.self.view_is) reached) (omega (arith, h.behind)) h.within

pub returns-else-self : goal.returns-else-self
returns-else-self c = λ xs left t reached.
    let h = holds _ _ _ _ _ _ _ _ _ c.self.invariant in
    let came = subst (λ r. 0 < length r.behind + length r.over) (sym c.self.view_is) c.requires in
    let some : 0 < length (slice_range c.self.inside.piece.items c.self.inside.end c.self.inside.read) = omega (arith, came, h.behind) in
    text_large xs _ t left (subst (λ r. Reaches xs left r (Ended t)) (sym c.self.view_is) reached) (empty_at c.self.inside.piece.items c.self.inside.from c.self.inside.end (omega arith)) some (omega (arith, h.full some, h.behind))
