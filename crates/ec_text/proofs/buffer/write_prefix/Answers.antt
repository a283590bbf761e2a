use Rattle.std.proofs.Common.{◌≡◌, length, take, arith, length-take-le}
use Rattle.std.proofs.lemmas.Simd.{take_more_put_chunk}
use Rattle.ec_text.proofs.buffer.write_prefix.Goals as goal

pub returns-clause-prefix : goal.returns-clause-prefix
returns-clause-prefix g c =
    let prefix = take g.row.N c.args.bytes.now in
    let long : length prefix ≡ g.row.N = length-take-le g.row.N c.args.bytes.now c.requires.bytes in
    take_more_put_chunk c.args.place c.args.table.now prefix _ (omega arith) c.requires.room
