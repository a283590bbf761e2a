use Rattle.std.proofs.Common.{◌≡◌, ℕ, [], replicate, ap, ◌∙◌, arith}
use Rattle.ec_script.proofs.Drafts.{flats_none}
use Rattle.ec_script.proofs.script.empty_programs.Goals as goal

pub returns-clause-lines : goal.returns-clause-lines
returns-clause-lines c =
    let e : c.loop-made._made ≡ c.args.n = omega arith in
    flats_none c.loop-made._made c.loop-made.programs.items c.loop-made.invariant ∙ ap (λ (n : ℕ). replicate n []) e
