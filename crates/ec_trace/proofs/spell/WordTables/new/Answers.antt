use Rattle.std.proofs.Common.{◌-◌, drop, subst, sym, arith}
use Rattle.ec_heading.specs.Spelling.{NameTable}
use Rattle.ec_trace.specs.kept.WordTables.{Spells}
use Rattle.ec_heading.proofs.shared.Places.{drop_before, none_inside}
use Rattle.ec_trace.proofs.spell.WordTables.new.Goals as goal

pub loop-place-preserved-in-Some : goal.loop-place-preserved-in-Some
loop-place-preserved-in-Some c =
    let names = c.args.vocabulary.now in
    let place = c.loop-place.place in
    let e = drop_before names place (c.in-Some.word.now, c.in-Some.target) (omega arith) c.in-Some.ensures in
    subst (λ (rest : NameTable). Spells rest c.take_in.new.self) (sym e) (c.take_in.ensures (drop place names) c.loop-place.invariant)

pub loop-place-preserved : goal.loop-place-preserved
loop-place-preserved c =
    absurd (none_inside c.args.vocabulary.now (c.loop-place.place - 1) (omega (arith, c.len-place.ensures)) c.in_default.ensures)
