-- The lines of a script for which `TwoRoles` is reported.
use Rattle.std.proofs.Common.{◌≡◌, ◌⊎◌, inl, inr, ℕ, ◌==◌, ◌&&◌, cond, true, false, not, List, length, Option, Some, None, Result, Ok, Err, is_some, option_map, refl, ap, ◌∙◌, eqb-true}
use Rattle.std.proofs.lemmas.Bool.{and_parts, false_from_ne_true}
use Rattle.ec_text.specs.Words.{words_of}
use Rattle.ec_heading.specs.HeadingModel.{HeadingModel}
use Rattle.ec_heading.specs.Heading.{head_step, is_no_line}
use Rattle.ec_heading.specs.HeadingInvariant.{IsHeading}
use Rattle.ec_heading.specs.declared.heading.HeadFault.{HeadFault}
use Rattle.ec_heading.specs.declared.heading.HeadFault.TheVariants as heads
use Rattle.ec_script.specs.declared.fault.Kind.{Kind}
use Rattle.ec_script.specs.declared.fault.Kind.TheVariants as kinds
use Rattle.ec_script.specs.declared.script.OpenBlock.{OpenBlock}
use Rattle.ec_script.specs.declared.stage.Stage.TheVariants.{Opening, Reading}
use Rattle.ec_script.specs.Faults.{kind_of_head}
use Rattle.ec_script.specs.Forms.{Phrase, phrase_in}
use Rattle.ec_script.specs.Objects.{object_in}
use Rattle.ec_script.specs.Kinds.{phrase_fault}
use Rattle.ec_script.specs.ScriptModel.{ScriptModel}
use Rattle.ec_script.specs.Reading.{view_of_block, context_of_script, after, fault_or, after_phrase, map_heading, is_declaring, opens_outer, script_step, read_on, step}
use Rattle.ec_script.specs.Pairs.{PairsOneName, LinesOfTwoRoles}
use Rattle.ec_script.proofs.shared.Keeping.{Keeps, not_bare, leads_keeps}
use Rattle.ec_script.proofs.LedHeadings.{lines_lead}
use Rattle.ec_script.proofs.TwoRoles.{names_one, is_told}

head_roles : (f : HeadFault) → kind_of_head f ≡ kinds.TwoRoles → f ≡ heads.TwoRoles
head_roles heads.BadLine is = cc
head_roles heads.BadName is = cc
head_roles heads.NameTaken is = cc
head_roles heads.UnknownName is = cc
head_roles heads.BadNumber is = cc
head_roles heads.TooMany is = cc
head_roles heads.TwoRoles is = refl
head_roles heads.Memory is = cc

same_kind : {S : Type 0} (k l : Kind) (r : Result S Kind) → r ≡ Err k → r ≡ Err l → k ≡ l
same_kind k l r is too = cc

headed_roles : (s : ScriptModel) (r : Result HeadingModel HeadFault) → map_heading s r ≡ Err kinds.TwoRoles → r ≡ Err heads.TwoRoles
headed_roles s (Ok h) is = cc
headed_roles s (Err f) is = ap Err (head_roles f (same_kind (kind_of_head f) kinds.TwoRoles (map_heading s (Err f)) refl is))

faulted : (o : Option Kind) (s : ScriptModel) (k : Kind) → fault_or o s ≡ Err k → o ≡ Some k
faulted None s k is = cc
faulted (Some l) s k is = ap Some (same_kind l k (fault_or (Some l) s) refl is)

phrased_roles : (s : ScriptModel) (line : List ℕ) (o : Option Phrase) → IsHeading s.heading → is_no_line line ≡ false → phrase_in (words_of line) ≡ o → after_phrase s o ≡ Err kinds.TwoRoles → PairsOneName s line
phrased_roles s line None is plain form returned = cc
phrased_roles s line (Some p) is plain form returned = record {
  phrase = p;
  plain = plain;
  form = form;
  names = names_one (context_of_script s) p is (faulted (phrase_fault (context_of_script s) p (object_in s.heading p)) (after s p) kinds.TwoRoles returned);
}

read_err : (r : Result ScriptModel Kind) (k : Kind) → read_on r ≡ Err k → r ≡ Err k
read_err (Ok s) k is = cc
read_err (Err l) k is = ap Err (same_kind l k (read_on (Err l)) refl is)

line_roles : (s : ScriptModel) (line : List ℕ) → IsHeading s.heading → script_step s line ≡ Err kinds.TwoRoles → (head_step s.heading line ≡ Err heads.TwoRoles) ⊎ PairsOneName s line
unfolding script_step
line_roles s line is returned =
    (elim (is_declaring s && not (opens_outer (words_of line))) as (λ b.
    cond b (map_heading s (head_step s.heading line)) (cond (is_no_line line) (Err kinds.BadLine) (after_phrase s (phrase_in (words_of line)))) ≡ Err kinds.TwoRoles
    → (head_step s.heading line ≡ Err heads.TwoRoles) ⊎ PairsOneName s line) [
      | true ↦ λ t. inl (headed_roles s (head_step s.heading line) t)
      | false ↦ λ t. inr ((elim (is_no_line line) as (λ b. is_no_line line ≡ b → cond b (Err kinds.BadLine) (after_phrase s (phrase_in (words_of line))) ≡ Err kinds.TwoRoles → PairsOneName s line) [
        | true ↦ λ plain u. cc
        | false ↦ λ plain u. phrased_roles s line (phrase_in (words_of line)) is plain refl u
      ]) refl t)
    ]) returned

-- a line in a block comes after a `worker` line
some_block : (b : Option OpenBlock) → is_some (option_map view_of_block b) ≡ true → (x : OpenBlock) × (b ≡ Some x)
some_block None is = cc
some_block (Some x) is = (x, refl)

no_declaring : (s : ScriptModel) → Keeps s → is_some (context_of_script s).block ≡ true
    → is_declaring s ≡ false
no_declaring s keeps inside =
    let b = some_block s.block inside in
    false_from_ne_true (is_declaring s) (λ is.
    not_bare s b.0 b.1 (keeps.early (eqb-true (length s.named) 0 (and_parts (length s.named == 0) (length s.schedule == 0) is).0)))

pair_told : (s : ScriptModel) (line : List ℕ) → IsHeading s.heading → Keeps s → PairsOneName s line → script_step s line ≡ Err kinds.TwoRoles
unfolding script_step
pair_told s line is keeps pairs =
    ap (λ b. cond (b && not (opens_outer (words_of line))) (map_heading s (head_step s.heading line)) (cond (is_no_line line) (Err kinds.BadLine) (after_phrase s (phrase_in (words_of line)))))
    (no_declaring s keeps pairs.names.inside)
    ∙ ap (λ b. cond b (Err kinds.BadLine) (after_phrase s (phrase_in (words_of line)))) pairs.plain
    ∙ ap (after_phrase s) pairs.form
    ∙ ap (λ o. fault_or o (after s pairs.phrase)) (is_told (context_of_script s) pairs.phrase is pairs.names)

pub lines_of_roles : LinesOfTwoRoles
unfolding step
lines_of_roles before s line leads = (
  (λ returned. line_roles s line (lines_lead before s leads) (read_err (script_step s line) kinds.TwoRoles returned)),
  λ pairs. ap read_on (pair_told s line (lines_lead before s leads) (leads_keeps Opening before (Reading s) tt leads) pairs),
)
