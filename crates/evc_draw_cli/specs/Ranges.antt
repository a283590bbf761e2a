-- The range of entries that the words for `--from` and `--to` give.
use Rattle.std.specs.Prelude.{◌≡◌, ℕ, ◌+◌, List, Option, Some, None, option_map}
use Rattle.std.specs.Borrow.{Bor}
use Rattle.ec_text.specs.Words.{number_in_word}
use Rattle.evc_draw_cli.specs.declared.choice.Bound.{Bound}
use Rattle.evc_draw_cli.specs.declared.choice.Bound.TheVariants.{From, To}
use Rattle.evc_draw_cli.specs.declared.choice.NoNumber.{NoNumber}
use Rattle.evc_draw_cli.specs.declared.choice.Task.{Task}
use Rattle.evc_draw_cli.specs.declared.choice.TheConstants.{NO_END}

-- a word that was given, as a text
abbrev pub word_of : Option (Bor (List ℕ)) → Option (List ℕ)
word_of = option_map (λ w. w.now)

-- the first entry: the number that the word writes; without a word 0
abbrev pub first_given : Option (List ℕ) → Option ℕ
first_given None = Some 0
first_given (Some w) = number_in_word w

-- the position after the last one, whose number the word writes; without a word there is no bound
abbrev pub end_given : Option (List ℕ) → Option ℕ
end_given None = Some NO_END
end_given (Some w) = option_map (λ n. n + 1) (number_in_word w)

-- the word that was given for an option
abbrev pub given_for : Task → Bound → Option (List ℕ)
given_for t From = word_of t.from
given_for t To = word_of t.to

-- this is the word of that option, and it writes no number
abbrev pub IsNoNumber : Task → NoNumber → Type 0
IsNoNumber t e = (given_for t e.option ≡ Some e.given.now) × (number_in_word e.given.now ≡ None)
