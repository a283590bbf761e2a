use Rattle.std.proofs.Common.{refl, ap, sym, subst, ◌∙◌}
use Rattle.ec_draw.specs.declared.arrow.Move.TheVariants as moves
use Rattle.ec_draw.specs.Arrows.{MovesModel, RepresentsMoves}
use Rattle.ec_draw.proofs.Arrowing.{places_next}
use Rattle.ec_draw.proofs.arrow.MovesAudit.take.Goals as goal

pub returns : goal.returns
returns c = λ start past at op was.
    (let P : MovesModel → Type 0 = λ z. RepresentsMoves z past in
    let inside = subst P (sym c.self.view_is) was.2 in
    let old = c.self.inside.audit in
    let b = c.self.inside.shape.now in
    let x = c.args.entry.now in
    let audited = c.take.ensures old past at op (refl, refl, inside.audit) in
    let put = c.add_fails.ensures in
    let got = c.add_fails-2.ensures in (
      ap (λ (z : MovesModel). z.shape) c.self.view_is ∙ was.0,
      audited.1 ∙ ap (λ (z : MovesModel). z.audit.setup) c.self.view_is ∙ was.1,
      record {
        shape = audited.0 ∙ inside.shape;
        audit = audited.2;
        puts = λ ok. places_next moves.Put b x past c.args.place c.self.inside.puts.items _ at
            (inside.puts (put.before (got.before ok))) (put.noted (got.before ok));
        gets = λ ok. places_next moves.Get b x past c.args.place c.self.inside.gets.items _ at
            (inside.gets (put.before (got.before ok))) (got.noted ok);
      },
    ))
