-- Which words are names.
use Rattle.std.specs.Prelude.{ℕ, Bool, false, ◌&&◌, ◌||◌, ◌==◌, not, nat_le, List, [], ◌∷◌, length, bytes_eq, codes}
use Rattle.std.specs.List.{list_all, list_any}
use Rattle.std.specs.Char.{is_ascii_alphabetic, is_ascii_alphanumeric}

-- whether a byte may follow the first byte of a name: a letter, a digit or the underscore, 95
abbrev pub is_name_byte : ℕ → Bool
is_name_byte b = is_ascii_alphanumeric b || b == 95

-- the words that the texts use themselves
abbrev pub reserved_words : List (List ℕ)
reserved_words =
    codes "advance"
    ∷ codes "await"
    ∷ codes "both"
    ∷ codes "buffer"
    ∷ codes "cells"
    ∷ codes "consume"
    ∷ codes "database"
    ∷ codes "done"
    ∷ codes "end"
    ∷ codes "eventcount"
    ∷ codes "get"
    ∷ codes "go"
    ∷ codes "hand"
    ∷ codes "last"
    ∷ codes "limit"
    ∷ codes "observe"
    ∷ codes "p"
    ∷ codes "pboth"
    ∷ codes "pending"
    ∷ codes "produce"
    ∷ codes "put"
    ∷ codes "read"
    ∷ codes "repeat"
    ∷ codes "run"
    ∷ codes "schedule"
    ∷ codes "semaphore"
    ∷ codes "sequencer"
    ∷ codes "signal"
    ∷ codes "snapshot"
    ∷ codes "take"
    ∷ codes "ticket"
    ∷ codes "use"
    ∷ codes "v"
    ∷ codes "worker"
    ∷ codes "workers"
    ∷ codes "write"
    ∷ []

-- whether a word is one of them
abbrev pub is_reserved : List ℕ → Bool
is_reserved word = list_any (λ w. bytes_eq w word) reserved_words

-- whether a word is a name
unfoldable pub is_name : List ℕ → Bool
is_name [] = false
is_name (b ∷ bs) = is_ascii_alphabetic b && nat_le (length bs) 15 && list_all is_name_byte bs && not (is_reserved (b ∷ bs))
