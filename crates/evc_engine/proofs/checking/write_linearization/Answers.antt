use Rattle.std.proofs.Common.{refl, sym, subst}
use Rattle.evc_engine.specs.kept.Halts.{IsReadInto}
use Rattle.evc_engine.proofs.CheckLemmas.{text_written, front_written, good_told}
use Rattle.evc_engine.proofs.checking.write_linearization.Goals as goal

pub returns-in-Ok-write_text-clause-ends : goal.returns-in-Ok-write_text-clause-ends
returns-in-Ok-write_text-clause-ends g c = λ entries on.
    let h = c.args.heading.now in
    let at = subst (λ w. IsReadInto h entries w c.into_parts-world.result.1) (sym c.into_parts-world.ensures.world) (subst (IsReadInto h entries c.args.watched.world) (sym c.into_parts-world.ensures.audit) on) in (
      text_written h entries _ _ _ _ c.in-Ok.calls at (c.in-Ok.ensures.value _) (c.in-Ok-write_text.ensures.ok entries at.world_stands),
      good_told h entries _ _ c.in-Ok.calls at (c.in-Ok.ensures.value _) (c.in-Ok.ensures.good _),
      refl,
    )

pub returns-clause-ends : goal.returns-clause-ends
returns-clause-ends g c = λ entries on.
    let h = c.args.heading.now in
    let at = subst (λ w. IsReadInto h entries w c.into_parts-world.result.1) (sym c.into_parts-world.ensures.world) (subst (IsReadInto h entries c.args.watched.world) (sym c.into_parts-world.ensures.audit) on) in (
      front_written h entries _ _ _ _ c.in-Ok.calls at (c.in-Ok.ensures.value _) (c.in-Err.ensures.err entries at.world_stands),
      (c.say.ensures.puts, c.say.ensures.written),
    )
