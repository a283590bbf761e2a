-- Which form a line has in its place, by its words.
use Rattle.std.specs.Prelude.{◌≡◌, ◌≢◌, ◌⊎◌, ℕ, ◌≤◌, true, List, [], ◌∷◌, length, None, codes}
use Rattle.std.specs.List.{AllByRecursion}
use Rattle.ec_text.specs.Words.{words_of, is_number_form}
use Rattle.ec_heading.specs.declared.version.Version.TheVariants.{Two}
use Rattle.ec_heading.specs.Form as headings
use Rattle.ec_heading.specs.Phrased.{IsSpelled}
use Rattle.ec_script.specs.declared.verb.LineWord.{LineWord}
use Rattle.ec_script.specs.declared.verb.LineWord.TheVariants as verbs
use Rattle.ec_script.specs.Forms.{Phrase, Worded}
use Rattle.ec_script.specs.ScriptModel.{ScriptModel}

-- a line of at most 8192 bytes, each of whose words has a byte
abbrev pub IsOfWords : List ℕ → Type 0
IsOfWords line = (length line ≤ 8192) × AllByRecursion (λ w. w ≢ []) (words_of line)

-- `limit` and digits
abbrev pub IsLimitLine : List ℕ → List ℕ → Type 0
IsLimitLine line digits = (length line ≤ 8192) × (words_of line ≡ codes "limit" ∷ digits ∷ []) × (is_number_form digits ≡ true)

-- `workers` and some words
abbrev pub IsWorkersLine : List ℕ → List (List ℕ) → Type 0
IsWorkersLine line names = IsOfWords line × (words_of line ≡ codes "workers" ∷ names) × (names ≢ [])

-- a declaration, if no `worker` line and no `schedule` line came yet
pub record IsDeclaration (s : ScriptModel) (line : List ℕ) (p : headings.Phrase) : Type 0 where
  pub first : (s.named ≡ []) × (s.schedule ≡ [])
  pub whole : IsOfWords line
  pub form : IsSpelled (words_of line) p

-- commands, `repeat` and `end` are allowed in a block, and `hand` in one of version 2; `worker` in
-- a block, where it is badly nested, and before the schedule; `schedule` anywhere
abbrev pub MayOccur : ScriptModel → LineWord → Type 0
MayOccur s verbs.Schedule = Unit {0}
MayOccur s verbs.Worker = (s.block ≢ None) ⊎ (s.schedule ≡ [])
MayOccur s verbs.Hand = (s.heading.version ≡ Two) × (s.block ≢ None)
MayOccur s _ = s.block ≢ None

-- a line of a block, of the schedule, or the first of a block, if such a line is allowed here
pub record IsOther (s : ScriptModel) (line : List ℕ) (p : Phrase) : Type 0 where
  pub place : MayOccur s p.verb
  pub whole : IsOfWords line
  pub form : Worded (words_of line) p
