use Rattle.std.proofs.Common.{arith, ◌≡◌, ℕ, List, ◌+◌, ◌-◌, ◌≤◌, ◌++◌, ◌∙◌, ap, append_assoc, length, length-drop, take, drop, take-append-drop}
use Rattle.std.proofs.lemmas.List.{take_all, take_rest, take-take}
use Rattle.ec_text.proofs.AppendLemmas.{front_kept}
use Rattle.ec_text.proofs.buffer.write_ends.Goals as goal

-- the first and the last n bytes of a list, which may overlap, are together the list
ends : (n p : ℕ) (bytes old mid new : List ℕ) → n ≤ length bytes → length bytes ≤ n + n → p ≤ length old → take (p + n) mid ≡ take p old ++ take n bytes
    → take (p + (length bytes - n) + n) new ≡ take (p + (length bytes - n)) mid ++ take n (drop (length bytes - n) bytes) → take (p + length bytes) new ≡ take p old ++ bytes
ends n p bytes old mid new most covers within first second =
    let last = length bytes - n in
    let prefix : take (p + last) mid ≡ take p old ++ take last bytes =
    front_kept n last p old mid (take n bytes) first (omega arith) within ∙ ap (λ (t : List ℕ). take p old ++ t) (take-take last n bytes (omega arith)) in
    let back : take n (drop last bytes) ≡ drop last bytes = take_all n (drop last bytes) (omega (arith, length-drop last bytes)) in
    let whole : p + length bytes ≡ p + last + n = omega arith in
    ap (λ (k : ℕ). take k new) whole ∙ second ∙ (λ x. prefix x ++ back x) ∙ append_assoc (take p old) (take last bytes) (drop last bytes)
    ∙ ap (λ (t : List ℕ). take p old ++ t) (take-append-drop last bytes)

pub returns-clause-prefix : goal.returns-clause-prefix
returns-clause-prefix g c =
    ends g.row.N c.args.place c.args.bytes.now c.args.table.now c.write_prefix.new.table c.write_prefix-2.new.table c.requires.covers.0 c.requires.covers.1 (omega (arith, c.requires.room))
    c.write_prefix.ensures.prefix (rw (take_rest c.args.bytes.now (length c.args.bytes.now - g.row.N)) at c.write_prefix-2.ensures.prefix)
