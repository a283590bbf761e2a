-- Keys of short texts, and the bytes that they contain.
use Rattle.std.specs.Prelude.{ℕ, ◌-◌, List, ◌++◌, drop, cond, nat_lt}
use Rattle.std.specs.Int.{w32, w64, to_le_bytes}
use Rattle.ec_trace.specs.declared.packed_bytes.PackedBytes.{PackedBytes}

-- the eight bytes of a word, the lowest first
unfoldable pub eight_of : ℕ → List ℕ
eight_of word = to_le_bytes w64 word

-- the four bytes of a shorter word
unfoldable pub four_of : ℕ → List ℕ
four_of word = to_le_bytes w32 word

-- the text of a key: its first bytes, and then what its last bytes don't share with them
unfoldable pub key_bytes : PackedBytes → List ℕ
key_bytes k = cond (nat_lt k.len 8) (four_of k.first ++ drop (8 - k.len) (four_of k.last))
    (cond (nat_lt k.len 16) (eight_of k.first ++ drop (16 - k.len) (eight_of k.last))
    ((eight_of k.first ++ eight_of k.second) ++ drop (32 - k.len) (eight_of k.third ++ eight_of k.last)))
