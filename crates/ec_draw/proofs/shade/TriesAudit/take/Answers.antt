use Rattle.std.proofs.Common.{◌<◌, ◌∷◌, ℕ, List, length, refl, ap, sym, subst, ◌∙◌}
use Rattle.ec_count.specs.Tables.{Tables}
use Rattle.ec_core.specs.Following.{block}
use Rattle.ec_database.specs.Following.{database_rules}
use Rattle.ec_draw.specs.Shades.{TriesModel, RepresentsTries, AreStarts}
use Rattle.ec_draw.proofs.Shading.{starts_next, tries_next}
use Rattle.ec_draw.proofs.shade.TriesAudit.take.Goals as goal

pub returns : goal.returns
returns c = λ start past at op was.
    (let P : TriesModel → Type 0 = λ z. RepresentsTries z past in
    let inside = subst P (sym c.self.view_is) was.3 in
    let old = c.self.inside.audit in
    let new = c.take.new.self in
    let d = c.self.inside.shape.now in
    let x = c.args.entry.now in
    let audited = c.take.ensures old past at op (refl, refl, inside.audit) in
    let finished = c.completed_count-finished.ensures past inside.audit
    ∙ ap (λ z. length (block (database_rules old.setup z x.worker) x.worker past)) inside.shape in
    let small = subst (λ (n : ℕ). n < 16) c.get.ensures.value c.get.ensures.small in
    let starts = starts_next old.setup d x past c.completed_count-finished.result c.args.place
    c.self.inside.starts small at finished inside.starts in
    let added = c.add_fails.ensures in (
      ap (λ (z : TriesModel). z.shape) c.self.view_is ∙ was.0,
      audited.1 ∙ ap (λ (z : TriesModel). z.audit.setup) c.self.view_is ∙ was.1,
      ap (λ (z : TriesModel). z.window) c.self.view_is ∙ was.2,
      record {
        shape = audited.0 ∙ inside.shape;
        audit = audited.2;
        starts = subst (λ (u : Tables). AreStarts u d c.note_start.new.starts (x ∷ past))
            (sym audited.1)
            (subst (λ (ks : List ℕ). AreStarts old.setup d ks (x ∷ past)) (sym c.note_start.ensures)
            starts);
        shades = λ ok. tries_next old new d c.self.inside.window x past c.accepted_count-before.result _ _ _
            _ _ _ small c.get.ensures.value at inside.shape audited.0 audited.1 inside.audit
            audited.2 c.accepted_count-before.ensures inside.starts (inside.shades (added.before ok))
            c.start.ensures (added.added ok);
      },
    ))
