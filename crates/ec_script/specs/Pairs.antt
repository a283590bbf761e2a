-- P on two semaphores: whether a line names one of them twice.
use Rattle.std.specs.Prelude.{◌≡◌, ◌⊎◌, ◌↔◌, ℕ, true, false, List, [], ◌∷◌, Some, Err, is_some, bytes_eq}
use Rattle.ec_text.specs.Words.{words_of}
use Rattle.ec_heading.specs.HeadingModel.{HeadingModel}
use Rattle.ec_heading.specs.Heading.{head_step, is_no_line}
use Rattle.ec_heading.specs.HeadingInvariant.{IsHeading}
use Rattle.ec_heading.specs.declared.heading.HeadFault.TheVariants as heads
use Rattle.ec_script.specs.declared.fault.Kind.TheVariants as kinds
use Rattle.ec_script.specs.declared.verb.LineWord.TheVariants as verbs
use Rattle.ec_script.specs.declared.object.Object.{Object}
use Rattle.ec_script.specs.declared.stage.Stage.TheVariants.{Opening, Reading}
use Rattle.ec_script.specs.Forms.{Phrase, phrase_in}
use Rattle.ec_script.specs.Objects.{object_for, object_in}
use Rattle.ec_script.specs.Kinds.{LineContextModel, is_too_many, has_two_roles, phrase_fault}
use Rattle.ec_script.specs.ScriptModel.{ScriptModel}
use Rattle.ec_script.specs.Reading.{context_of_script, step}
use Rattle.ec_script.specs.Grammar.{Leads}

-- the test on the three semaphores of a `pboth` line says that two of them are equal exactly if its
-- two words are equal: the common semaphore has no name, and declared semaphores of different names
-- have no common object
abbrev pub TwoRolesAreOneName : Type 0
TwoRolesAreOneName = (heading : HeadingModel) (one : List ℕ) (words : List (List ℕ)) (object : Object) → IsHeading heading → object_for heading verbs.DownBoth one words ≡ Some object
    → (other : List ℕ) × (words ≡ other ∷ []) × (has_two_roles object ≡ bytes_eq one other)

-- the line is a `pboth` with one word twice, that word names a declared semaphore, `both` is
-- declared, and the line is in a block that has room for it
pub record NamesOneTwice (s : LineContextModel) (p : Phrase) : Type 0 where
  pub verb : p.verb ≡ verbs.DownBoth
  pub twice : p.rest ≡ p.object ∷ []
  pub declared : is_some (object_in s.heading p) ≡ true
  pub inside : is_some s.block ≡ true
  pub room : is_too_many p.verb p.rest s.block s.scheduled ≡ false

-- `TwoRoles` is reported for a line after the declarations exactly if it is such a line
abbrev pub TwoRolesAreReported : Type 0
TwoRolesAreReported = (s : LineContextModel) (p : Phrase) → IsHeading s.heading → (phrase_fault s p (object_in s.heading p) ≡ Some kinds.TwoRoles) ↔ NamesOneTwice s p

-- IN A SCRIPT

-- what the lines of a script have declared is a header
abbrev pub LinesLeadToHeadings : Type 0
LinesLeadToHeadings = (before : List (List ℕ)) (s : ScriptModel) → Leads Opening before (Reading s) → IsHeading s.heading

-- the line has the form of a `pboth` that names one semaphore twice
pub record PairsOneName (s : ScriptModel) (line : List ℕ) : Type 0 where
  pub phrase : Phrase
  pub plain : is_no_line line ≡ false
  pub form : phrase_in (words_of line) ≡ Some phrase
  pub names : NamesOneTwice (context_of_script s) phrase

-- `TwoRoles` is reported for each such line, and otherwise only for a declaration that the header
-- rejects with it
abbrev pub LinesOfTwoRoles : Type 0
LinesOfTwoRoles = (before : List (List ℕ)) (s : ScriptModel) (line : List ℕ) → Leads Opening before (Reading s)
    → (step (Reading s) line ≡ Err kinds.TwoRoles → (head_step s.heading line ≡ Err heads.TwoRoles) ⊎ PairsOneName s line)
    × (PairsOneName s line → step (Reading s) line ≡ Err kinds.TwoRoles)
