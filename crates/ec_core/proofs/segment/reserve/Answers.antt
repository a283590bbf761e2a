use Rattle.std.proofs.Common.{◌≡◌, ◌*◌, ◌<◌, ◌≤◌, length, arith}
use Rattle.ec_core.specs.kept.Packed.{total_word_count}
use Rattle.ec_core.proofs.Keeping.{widths_small}
use Rattle.ec_core.proofs.segment.reserve.Goals as goal

pub begin-requires : goal.begin-requires
begin-requires c =
    let small : total_word_count c.args.stored.now ≤ 4 * length c.args.stored.now = widths_small c.args.stored.now in
    let few : length c.args.stored.now < 4096 = c.requires.few in
    let is : length c.args.words.now.items ≡ total_word_count c.args.stored.now =
    c.requires.whole in
    omega arith
