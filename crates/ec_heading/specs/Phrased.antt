-- How a declaration is written: the words of a line of its form.
use Rattle.std.specs.Prelude.{◌≡◌, ℕ, Bool, true, false, List, [], ◌∷◌, ◌++◌, Option, Some, None, if◌then◌else◌, bytes_eq}
use Rattle.ec_text.specs.Words.{is_number_form}
use Rattle.ec_heading.specs.declared.decl_kind.DeclKind.{DeclKind}
use Rattle.ec_heading.specs.Form.{Phrase}
use Rattle.ec_heading.specs.DeclKinds.{sort_word, has_name, has_number, opener, second_opener, needs_second}
use Rattle.ec_heading.specs.Spelling.{name_words}

-- a list of one word or more
abbrev pub HasWords : List (List ℕ) → Type 0
HasWords ws = (v : List ℕ) × (vs : List (List ℕ)) × (ws ≡ v ∷ vs)

-- a form without a name is called by its own word
abbrev pub NameFits : DeclKind → List ℕ → Type 0
NameFits s name = has_name s ≡ false → name ≡ sort_word s

-- the number, if the form has one
abbrev pub number_part : DeclKind → List ℕ → List (List ℕ)
number_part s number = if has_number s then number ∷ [] else []

-- the number has the form of a number, and is [] if the declaration's form has none
pub record NumberFits (s : DeclKind) (number : List ℕ) : Type 0 where
  pub none : has_number s ≡ false → number ≡ []
  pub some : has_number s ≡ true → is_number_form number ≡ true

-- the second list after its word, if it is there
abbrev pub second_part : Option (List ℕ) → Option (List (List ℕ)) → List (List ℕ)
second_part (Some stop) (Some vs) = stop ∷ vs
second_part _ _ = []

-- the second list may be left out if the form doesn't need it, and has a word if it is there
abbrev pub SecondFits : Bool → Option (List ℕ) → Option (List (List ℕ)) → Type 0
SecondFits needs o None = needs ≡ false
SecondFits needs None (Some vs) = ⊥
SecondFits needs (Some stop) (Some vs) = HasWords vs

-- the words after the name
abbrev pub behind_name : DeclKind → List ℕ → List (List ℕ) → List (List ℕ)
behind_name s number ws = number_part s number ++ opener s ∷ ws

-- no word of the list is the one that ends it
abbrev pub HasNoStop : Option (List ℕ) → List (List ℕ) → Type 0
HasNoStop None ws = Unit {0}
HasNoStop (Some stop) [] = Unit {0}
HasNoStop (Some stop) (w ∷ ws) = (bytes_eq w stop ≡ false) × HasNoStop (Some stop) ws

-- the words are those of this phrase: the word of its kind, its name and its number if its form has
-- them, the word before its first list, that list, the word before its second list, and that list;
-- each list has a word, and the first list doesn't have the word before the second
pub record IsSpelled (ws : List (List ℕ)) (p : Phrase) : Type 0 where
  pub words : ws ≡ sort_word p.sort ∷ (name_words p.sort p.name ++ behind_name p.sort p.number (p.first ++ second_part (second_opener p.sort) p.second))
  pub name : NameFits p.sort p.name
  pub number : NumberFits p.sort p.number
  pub first : HasWords p.first
  pub second : SecondFits (needs_second p.sort) (second_opener p.sort) p.second
  pub apart : HasNoStop (second_opener p.sort) p.first
