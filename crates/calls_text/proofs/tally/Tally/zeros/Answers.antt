use Rattle.std.proofs.Common.{◌≡◌, ℕ, zero, suc, List, get_or, replicate, [], refl}
use Rattle.calls_text.proofs.tally.Tally.zeros.Goals as goal

abbrev at : List (List ℕ) → ℕ → ℕ → ℕ
at rows w e = get_or (get_or rows w []) e 0

row : (n e k : ℕ) → k ≡ zero → get_or (replicate n k) e zero ≡ zero
row zero e k is = refl
row (suc n) zero k is = is
row (suc n) (suc e) k is = row n e k is

rows : (m n w e : ℕ) → at (replicate m (replicate n zero)) w e ≡ zero
rows zero n w e = refl
rows (suc m) n zero e = row n e zero refl
rows (suc m) n (suc w) e = rows m n w e

pub returns : goal.returns
returns c = λ w e _ _. rows 16 32 w e
