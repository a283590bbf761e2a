-- The form of a declaration, over the words of its line.
use Rattle.std.specs.Prelude.{◌≡◌, ◌+◌, ◌≤◌, take, drop, zero, suc, ℕ, Bool, true, false, not, List, [], ◌∷◌, length, Option, Some, None, option_map, if◌then◌else◌, bytes_eq}
use Rattle.ec_text.specs.Words.{words_of, is_number_form}
use Rattle.ec_heading.specs.DeclKinds.{sort_of, sort_word, has_name, has_number, opener, second_opener, needs_second}
use Rattle.ec_heading.specs.declared.decl_kind.DeclKind.{DeclKind}
use Rattle.ec_heading.specs.declared.form.Parts.{Parts}
use Rattle.ec_heading.specs.declared.form.Lists.{Lists}

-- the words of a declaration that has one of the forms; the name is the kind's own word if the form
-- has none, and the number is [] if it has none
pub record Phrase : Type 0 where
  pub sort : DeclKind
  pub name : List ℕ
  pub number : List ℕ
  pub first : List (List ℕ)
  pub second : Option (List (List ℕ))

-- THE TWO LISTS

abbrev pub TwoLists : Type 0
TwoLists = List (List ℕ) × Option (List (List ℕ))

abbrev pub on_first : List ℕ → TwoLists → TwoLists
on_first w p = (w ∷ p.0, p.1)

-- the words before the first such word, and those after it
unfoldable pub split_words : List ℕ → List (List ℕ) → TwoLists
split_words stop [] = ([], None)
split_words stop (w ∷ ws) = if bytes_eq w stop then ([], Some ws) else on_first w (split_words stop ws)

abbrev pub both_lists : Option (List ℕ) → List (List ℕ) → TwoLists
both_lists None ws = (ws, None)
both_lists (Some stop) ws = split_words stop ws

-- whether each list has a word, and the second is there if it must be
abbrev pub is_well : Bool → TwoLists → Bool
is_well needs ([], second) = false
is_well needs (w ∷ ws, None) = not needs
is_well needs (w ∷ ws, Some []) = false
is_well needs (w ∷ ws, Some (v ∷ vs)) = true

-- the lists, if they are well formed
abbrev pub well_or : Bool → TwoLists → Option TwoLists
well_or needs p = if is_well needs p then Some p else None

-- THE WORDS, ONE AFTER ANOTHER

abbrev pub phrase_of : DeclKind → List ℕ → List ℕ → Option TwoLists → Option Phrase
phrase_of s name number p = option_map (λ (l : TwoLists). record { sort = s; name = name; number = number; first = l.0; second = l.1 }) p

abbrev pub listed_in : DeclKind → List ℕ → List ℕ → List (List ℕ) → Option Phrase
listed_in s name number ws = phrase_of s name number (well_or (needs_second s) (both_lists (second_opener s) ws))

abbrev pub opened_in : DeclKind → List ℕ → List ℕ → List (List ℕ) → Option Phrase
opened_in s name number [] = None
opened_in s name number (w ∷ ws) = if bytes_eq w (opener s) then listed_in s name number ws else None

abbrev pub numbered_in : DeclKind → List ℕ → List (List ℕ) → Option Phrase
numbered_in s name [] = None
numbered_in s name (w ∷ ws) = if has_number s then (if is_number_form w then opened_in s name w ws else None) else opened_in s name [] (w ∷ ws)

abbrev pub called_in : DeclKind → List (List ℕ) → Option Phrase
called_in s [] = None
called_in s (w ∷ ws) = numbered_in s w ws

-- a form without a name is called by its kind's own word
abbrev pub named_in : DeclKind → List (List ℕ) → Option Phrase
named_in s ws = if has_name s then called_in s ws else numbered_in s (sort_word s) ws

abbrev pub sorted_in : Option DeclKind → List (List ℕ) → Option Phrase
sorted_in None ws = None
sorted_in (Some s) ws = named_in s ws

-- the parts of a line, if it has one of the forms
unfoldable pub parts_in : List (List ℕ) → Option Phrase
parts_in [] = None
parts_in (w ∷ ws) = sorted_in (sort_of w) ws

-- AS THE CODE REPRESENTS THEM

abbrev pub shown_lists : Lists → TwoLists
shown_lists l = (words_of l.first.now, option_map (λ s. words_of s.now) l.second)

-- what the parts of a line represent
abbrev pub phrase_of_parts : Parts → Phrase
phrase_of_parts p = record { sort = p.sort; name = p.name.now; number = p.number.now; first = words_of p.first.now; second = option_map (λ s. words_of s.now) p.second }

-- the words before a place at which a word begins
abbrev pub front_words : ℕ → List ℕ → List (List ℕ)
front_words zero list = []
front_words (suc k) list = words_of (take k list)

-- the words after the space
abbrev pub behind_words : List ℕ → List (List ℕ)
behind_words [] = []
behind_words (_ ∷ xs) = words_of xs

-- the first such word begins there
pub record StopsAt (stop list : List ℕ) (at : ℕ) : Type 0 where
  pub within : at + length stop ≤ length list
  pub splits : split_words stop (words_of list) ≡ (front_words at list, Some (behind_words (drop (at + length stop) list)))
