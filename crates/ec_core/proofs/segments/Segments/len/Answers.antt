use Rattle.std.proofs.Common.{◌≡◌, ◌+◌, ◌*◌, ◌∙◌, length, ap, sym, arith}
use Rattle.ec_core.specs.kept.Packed.{concat_segments}
use Rattle.ec_core.proofs.shared.Joining.{length_joined}
use Rattle.ec_core.proofs.segments.Segments.len.Goals as goal

pub returns : goal.returns
returns c =
    let full = c.self.inside.full.items in
    let last = c.self.inside.last in
    let kept : length (concat_segments full last) ≡ length full * 4096 + length last = length_joined (λ xs. xs) 4096 full last c.self.invariant.whole in
    let all : length c.args.self.now ≡ length full * 4096 + length last = ap length (sym c.self.view_is) ∙ kept in
    omega arith
