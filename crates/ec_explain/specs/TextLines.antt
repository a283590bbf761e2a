-- The lines of a text, by their numbers, which are counted from 1.
use Rattle.std.specs.Prelude.{ℕ, ◌+◌, ◌-◌, zero, suc, ◌==◌, nat_lt, List, [], length, take, drop}
use Rattle.std.specs.Prelude.{unwrap_or, count_by, if◌then◌else◌}
use Rattle.std.specs.List.{position_from}

-- the index of the first such byte; the length if there is none
abbrev pub position_or_end : ℕ → List ℕ → ℕ
position_or_end sign xs = unwrap_or (position_from (λ b. b == sign) 0 xs) (length xs)

-- what follows the first line, which ends with its LF
abbrev pub text_after_line : List ℕ → List ℕ
text_after_line xs =
    if nat_lt (position_or_end 10 xs) (length xs) then drop (position_or_end 10 xs + 1) xs else []

-- what follows the first n lines
unfoldable pub text_after_lines : ℕ → List ℕ → List ℕ
text_after_lines zero xs = xs
text_after_lines (suc n) xs = text_after_line (text_after_lines n xs)

-- the first line without its LF
abbrev pub first_line : List ℕ → List ℕ
first_line xs = take (position_or_end 10 xs) xs

-- line n of a text, and all that precedes it
abbrev pub line_at : ℕ → List ℕ → List ℕ
line_at n xs = first_line (text_after_lines (n - 1) xs)

abbrev pub text_before_line : ℕ → List ℕ → List ℕ
text_before_line n xs = take (length xs - length (text_after_lines (n - 1) xs)) xs

-- how many LFs a text has
abbrev pub lines_in : List ℕ → ℕ
lines_in xs = count_by (λ b. b == 10) xs
