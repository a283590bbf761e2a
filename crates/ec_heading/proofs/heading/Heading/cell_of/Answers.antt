use Rattle.std.proofs.Common.{◌≡◌, ◌+◌, ◌∙◌, Some, arith, sym, ap}
use Rattle.std.specs.Option.{option_and_then}
use Rattle.std.proofs.lemmas.Grind.{common_steps}
use Rattle.ec_count.specs.Names.{find_name}
use Rattle.ec_heading.specs.HeadingModel.{HeadingModel}
use Rattle.ec_heading.specs.EntryWords.{block_of, cell_of}
use Rattle.ec_heading.proofs.Blocks.{block_ends, made, cell_found}
use Rattle.ec_heading.proofs.heading.Heading.cell_of.Goals as goal

pub overflow_add-get : goal.overflow_add-get
overflow_add-get c =
    let e : option_and_then block_of (find_name c.args.name.now c.self.inside.words) ≡ Some (c.get.result, c.in-Cells.n) = grind (arith, common_steps) in
    let ends = block_ends _ c.args.name.now c.get.result c.in-Cells.n c.self.invariant e in
    omega (arith, ends, c.if-i-n.true)

pub returns-in-Cells : goal.returns-in-Cells
returns-in-Cells c =
    let e : option_and_then block_of (find_name c.args.name.now c.self.inside.words) ≡ Some (c.get.result, c.in-Cells.n) = grind (arith, common_steps) in
    let ends = block_ends _ c.args.name.now c.get.result c.in-Cells.n c.self.invariant e in
    made c.new.result (c.get.result + c.args.i) 256 c.new.ensures.variant c.new.ensures.value (omega (arith, ends, c.if-i-n.true))
    ∙ sym (cell_found c.self.inside.words c.args.name.now c.args.i c.get.result c.in-Cells.n e c.if-i-n.true)
    ∙ ap (λ (h : HeadingModel). cell_of h.words c.args.name.now c.args.i) c.self.view_is
