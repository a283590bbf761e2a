use Rattle.std.proofs.Common.{◌≡◌, ◌∙◌, length, ap, sym, arith}
use Rattle.ec_core.proofs.Keeping.{length_kept}
use Rattle.ec_core.proofs.segment.Segment.len.Goals as goal

pub returns : goal.returns
returns c =
    let long : length c.args.self.now ≡ length c.self.inside.stored.items = ap length (sym c.self.view_is) ∙ length_kept c.self.inside.words.items c.self.inside.stored.items in
    omega arith
