use Rattle.std.proofs.Common.{◌≡◌, ◌∙◌, Option, Some, Err, refl, sym, ap, subst, None, arith}
use Rattle.std.proofs.lemmas.Grind.{common_steps}
use Rattle.ec_count.specs.Tables.{Tables}
use Rattle.ec_count.proofs.shared.Named.{none_left}
use Rattle.ec_text.specs.Words.{words_of}
use Rattle.ec_heading.specs.Form.{parts_in, phrase_of_parts}
use Rattle.ec_heading.specs.HeadingModel.{HeadingModel}
use Rattle.ec_heading.specs.Heading.{FailsAs, declared_or, fault_or}
use Rattle.ec_heading.specs.Kinds.{declaration_fault, declaration_of}
use Rattle.ec_heading.specs.HeaderTree.{with_declaration}
use Rattle.ec_heading.specs.HeadingInvariant.{IsHeading}
use Rattle.ec_heading.specs.declared.heading.HeadFault.{HeadFault}
use Rattle.ec_heading.proofs.shared.Declarable.{fault_fails}
use Rattle.ec_heading.proofs.shared.Standing.{line_declares}
use Rattle.ec_heading.proofs.heading.Heading.take_declaration.Goals as goal

pub declare-requires-clause-may : goal.declare-requires-clause-may
declare-requires-clause-may c =
    let none : c.declaration_fault.result ≡ None = none_left c.declaration_fault.result c.in_default-declaration_fault.not-Some in
    line_declares c.args.self.now c.args.line.now (phrase_of_parts c.in-Some.parts) (subst IsHeading c.self.view_is c.self.invariant) c.requires
    c.in-Some.ensures
    (grind (arith, common_steps))

pub returns-in-Some-declaration_fault : goal.returns-in-Some-declaration_fault
returns-in-Some-declaration_fault c =
    let h = c.args.self.now in
    let p = phrase_of_parts c.in-Some.parts in
    let f = c.in-Some-declaration_fault.fault in
    let returned : declaration_fault c.args.self.now.setup c.args.self.now.words (phrase_of_parts c.in-Some.parts) ≡ Some c.in-Some-declaration_fault.fault =
    ap (λ (g : HeadingModel). declaration_fault g.setup g.words (phrase_of_parts c.in-Some.parts)) (sym c.self.view_is) ∙ ap (λ (t : Tables). declaration_fault t c.self.inside.words (phrase_of_parts c.in-Some.parts)) (sym c.deref.ensures) ∙ sym c.in-Some-declaration_fault.ensures in
    let stepped : declared_or h (parts_in (words_of c.args.line.now)) ≡ Err f =
    ap (declared_or h) (sym c.in-Some.ensures) ∙ ap (λ (o : Option HeadFault). fault_or o (with_declaration h (declaration_of h.words p))) returned in
    (refl, subst (FailsAs f) (sym stepped) (fault_fails h.setup h.words p f returned))
