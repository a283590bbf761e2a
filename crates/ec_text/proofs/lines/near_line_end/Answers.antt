use Rattle.std.proofs.Common.{eqb, sym, subst, arith, w8, take, Some}
use Rattle.std.proofs.lemmas.Simd.{bitmask_splat, length-chunk}
use Rattle.std.specs.Int.Count.{count_trailing_zeros}
use Rattle.memchr.specs.Find.{IsFirstByte, is_byte}
use Rattle.ec_text.proofs.LineCuts.{near_end}
use Rattle.ec_text.proofs.lines.near_line_end.Goals as goal

pub returns : goal.returns
returns c =
    let bytes = c.args.bytes.now in
    let ends = bitmask_splat w8 eqb (take 32 bytes) 32 10 (length-chunk 0 32 bytes (omega (arith, c.if-bytes-lt32.false))) (omega arith) in
    subst (λ m. IsFirstByte (is_byte 10) bytes (Some (count_trailing_zeros 64 m))) (sym ends) (near_end bytes (omega (arith, c.if-bytes-lt32.false)) (omega (arith, ends, c.if-ends-eq0.false)))
