-- Prefixes of entries: what precedes the reply and its space in a line, and what it encodes.
use Rattle.std.specs.Prelude.{◌≡◌, ℕ, ◌≤◌, Bool, true, false, List, ◌++◌, ◌∷◌, Option, Some, None, slice_get, codes}
use Rattle.ec_core.specs.declared.act.Act.{Act}
use Rattle.ec_core.specs.declared.act.Act.TheVariants as acts
use Rattle.ec_core.specs.declared.act.Reply.{Reply}
use Rattle.ec_core.specs.declared.act.Entry.{Entry}
use Rattle.ec_text.specs.Words.{IsWord, number_in_word}
use Rattle.ec_trace.specs.Entries.{parse_reply, entry_of}
use Rattle.ec_heading.specs.EntryWords.{NameTable}
use Rattle.ec_trace.specs.kept.PackedBytes.{key_bytes}
use Rattle.ec_trace.specs.declared.line_cache.CachedPrefix.{CachedPrefix}

-- a line is this prefix, a space, and a word
abbrev pub HasPrefix : List ℕ → List ℕ → Type 0
HasPrefix line prefix = (answer : List ℕ) × (line ≡ prefix ++ 32 ∷ answer) × IsWord answer

-- the same, and the word encodes this reply
abbrev pub EndsIn : List ℕ → List ℕ → Reply → Type 0
EndsIn line prefix r = (answer : List ℕ) × (line ≡ prefix ++ 32 ∷ answer) × IsWord answer × (parse_reply answer ≡ Some r)

-- the entry of a worker and an act, with a reply if there is one
abbrev pub with_reply : ℕ → Act → Option Reply → Option Entry
with_reply w a None = None
with_reply w a (Some r) = Some (record { worker = w; act = a; reply = r })

-- whether an act has a value: that of an await or a put has
abbrev pub has_value : Act → Bool
has_value (acts.Await e v) = true
has_value (acts.Put x v) = true
has_value _ = false

abbrev pub with_value : Act → ℕ → Act
with_value (acts.Await e v) n = acts.Await e n
with_value (acts.Put x v) n = acts.Put x n
with_value a n = a

-- the entry of a worker and an act with this value, if there is one, and a reply
abbrev pub with_both : ℕ → Act → Option ℕ → Option Reply → Option Entry
with_both w a None r = None
with_both w a (Some n) r = with_reply w (with_value a n) r

-- the prefix of this opening, a value and `=`
abbrev pub with_value_word : List ℕ → List ℕ → List ℕ
with_value_word opening value = (opening ++ 32 ∷ value) ++ 32 ∷ codes "="

abbrev pub HasValue : List ℕ → List ℕ → List ℕ → Type 0
HasValue prefix opening value = (prefix ≡ with_value_word opening value) × IsWord value

-- the same, and the value encodes this number
abbrev pub HasNumber : List ℕ → List ℕ → ℕ → Type 0
HasNumber prefix opening n = (value : List ℕ) × HasValue prefix opening value × (number_in_word value ≡ Some n)

-- whatever word follows the prefix, the entry is of this worker and this act, and that word encodes
-- its reply; and for an act with a value, whatever words follow as value and reply, they encode
-- those of the entry
pub record SpellsAs (names : NameTable) (prefix : List ℕ) (w : ℕ) (a : Act) : Type 0 where
  pub whole : has_value a ≡ false → (answer : List ℕ) → IsWord answer → entry_of names (prefix ++ 32 ∷ answer) ≡ with_reply w a (parse_reply answer)
  pub valued : has_value a ≡ true → (value answer : List ℕ) → IsWord value → IsWord answer → entry_of names (with_value_word prefix value ++ 32 ∷ answer) ≡ with_both w a (number_in_word value) (parse_reply answer)

-- what is cached of a prefix is its worker and its act
abbrev pub IsCachedPrefix : NameTable → CachedPrefix → Type 0
IsCachedPrefix names f = SpellsAs names (key_bytes f.key) f.worker f.act

abbrev pub IsLineCache : NameTable → List CachedPrefix → Type 0
IsLineCache names fronts = (i : ℕ) (f : CachedPrefix) → slice_get fronts i ≡ Some f
    → IsCachedPrefix names f
