use Rattle.std.proofs.Common.{◌≡◌, ℕ, sym, subst, arith, length}
use Rattle.std.proofs.lemmas.Grind.{common_steps}
use Rattle.ec_count.specs.Tables.{Tables}
use Rattle.ec_heading.specs.Form.{phrase_of_parts}
use Rattle.ec_heading.specs.HeadingModel.{HeadingModel}
use Rattle.ec_heading.specs.Kinds.{declaration_of, size_in}
use Rattle.ec_heading.specs.Objects.{AreNew, ids_after, objects_of}
use Rattle.ec_heading.specs.HeaderTree.{next_ids}
use Rattle.ec_heading.specs.HeadingInvariant.{IsHeading}
use Rattle.ec_heading.proofs.shared.Standing.{declares, words_new}
use Rattle.ec_heading.proofs.heading.Heading.declare.Goals as goal

pub spell_declaration-requires-clause-new : goal.spell_declaration-requires-clause-new
spell_declaration-requires-clause-new c =
    let h = c.args.self.now in
    let p = phrase_of_parts c.args.parts.now in
    let new = words_new h (declaration_of h.words p) (subst IsHeading c.self.view_is c.self.invariant) c.requires.may in
    let inside = subst (λ (g : HeadingModel). AreNew p.name g.words (objects_of p.sort (next_ids g) (size_in p))) (sym c.self.view_is) new in
    let groups : c.len-groups.result ≡ length c.self.inside.groups.items = grind (arith, common_steps) in
    let counted = subst (λ (k : ℕ). AreNew p.name c.self.inside.words (objects_of p.sort (ids_after c.self.inside.setup.value k) (size_in p))) (sym groups) inside in
    let sized = subst (λ (n : ℕ). AreNew p.name c.self.inside.words (objects_of p.sort (ids_after c.self.inside.setup.value c.len-groups.result) n)) (sym c.size_of-n.ensures) counted in
    subst (λ (t : Tables). AreNew p.name c.self.inside.words (objects_of p.sort (ids_after t c.len-groups.result) c.size_of-n.result)) (sym c.deref-2.ensures) sized

pub invariant_of-self-2 : goal.invariant_of-self-2
invariant_of-self-2 c =
    declares c.args.self.now (declaration_of c.args.self.now.words (phrase_of_parts c.args.parts.now)) c.self.inside.version c.add_objects-group.new.setup c.spell_declaration.new.names c.spell_declaration.new.words c.push_group.new.groups.items c.push_target.new.declarations.items
    (subst IsHeading c.self.view_is c.self.invariant) c.requires.some c.requires.may
    (grind (arith, common_steps)) (grind (arith, common_steps)) (grind (arith, common_steps)) (grind (arith, common_steps)) (grind (arith, common_steps)) (grind (arith, common_steps))
