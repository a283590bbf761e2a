use Rattle.std.proofs.Common.{take}
use Rattle.std.specs.List.{flat_map}
use Rattle.ec_text.specs.Puts.{Puts}
use Rattle.ec_explain.specs.Findings.{plain_byte}
use Rattle.ec_explain.proofs.writing.put_plain_bytes.Given as goal

-- those so far
abbrev pub invariant-loop-byte : goal.invariant-loop-byte
invariant-loop-byte g l = Puts l.initial.out l.out (flat_map plain_byte (take l.byte-index l.bytes))
