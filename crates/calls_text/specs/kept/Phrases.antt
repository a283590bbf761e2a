-- The phrase of a line, whatever the phrase means.
use Rattle.std.specs.Prelude.{ℕ, Bool, ◌||◌, ◌==◌, List, Option, None, length, if◌then◌else◌}
use Rattle.std.specs.List.{list_any}
use Rattle.ec_text.specs.Words.{words_of}
use Rattle.ec_heading.specs.Heading.{is_no_line}
use Rattle.calls_text.specs.Forms.{Phrase, Calls, Returns, phrase_in}

-- whether a line with this phrase has an empty word. An operation and a reply have none
abbrev pub has_blank : Phrase → Bool
has_blank (Calls w v o ws) = (length w == 0) || ((length o == 0)
    || list_any (λ u. length u == 0) ws)
has_blank (Returns w a ws) = length w == 0

-- the phrase of a line that is not too long and has no empty word
abbrev pub phrase_of : List ℕ → Option Phrase
phrase_of line = if is_no_line line then None else phrase_in (words_of line)
