-- What follows the first lines of a text.
use Rattle.std.proofs.Common.{◌≡◌, ℕ, ◌+◌, List, refl, sym, ap, add-one}
use Rattle.ec_explain.specs.TextLines.{text_after_lines, text_after_line}

pub behind_none : (xs : List ℕ) → xs ≡ text_after_lines 0 xs
unfolding text_after_lines
behind_none xs = refl

pub behind_more : (n : ℕ) (xs : List ℕ)
    → text_after_line (text_after_lines n xs) ≡ text_after_lines (n + 1) xs
unfolding text_after_lines
behind_more n xs = ap (λ m. text_after_lines m xs) (sym (add-one n))
