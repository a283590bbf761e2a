-- The note on the outcomes of programs, line by line.
use Rattle.std.proofs.Common.{◌≡◌, ℕ, suc, ◌+◌, List, [], ◌∷◌, ◌++◌, Option, Some, length, take, slice_get, ap, sym, subst, ◌∙◌, refl, arith, append_assoc, append-nil}
use Rattle.ec_machine.specs.declared.outcome.Outcome.{Outcome}
use Rattle.ec_text.specs.Puts.{Puts, OutputModel}
use Rattle.ec_text.proofs.shared.PutLemmas.{puts_then}
use Rattle.ec_heading.specs.Spelling.{NameTable, lines_text}
use Rattle.ec_trace.proofs.shared.LineParts.{text_of-append}
use Rattle.evc_engine.proofs.shared.TotalLemmas.{take_next}
use Rattle.evc_engine.proofs.shared.AuditLemmas.{taken_length}
use Rattle.evc_scripts.specs.OutcomeNotes.{outcome_line, outcome_lines}

-- the lines of one more worker
lines_next : (words : NameTable) (w : ℕ) (os : List Outcome) (o : Outcome) → outcome_lines words w (os ++ o ∷ []) ≡ outcome_lines words w os ++ outcome_lines words (w + length os) (o ∷ [])
lines_next words w [] o =
    let same : w ≡ w + 0 = omega arith in
    ap (λ n. outcome_lines words n (o ∷ [])) same
lines_next words w (p ∷ os) o =
    let same : w + 1 + length os ≡ w + suc (length os) = omega arith in
    ap (λ (ls : List (List ℕ)). outcome_line words w p ∷ ls) (lines_next words (w + 1) os o ∙ ap (λ n. outcome_lines words (w + 1) os ++ outcome_lines words n (o ∷ [])) same)

pub outcome_put : (a b c : OutputModel) (words : NameTable) (os : List Outcome) (k : ℕ) (o : Outcome) → slice_get os k ≡ Some o
    → Puts a b (lines_text (outcome_lines words 0 (take k os))) → Puts b c (lines_text (outcome_lines words k (o ∷ [])))
    → Puts a c (lines_text (outcome_lines words 0 (take (k + 1) os)))
outcome_put a b c words os k o is before now =
    let long : length (take k os) ≡ k = taken_length os k o is in
    let at : 0 + length (take k os) ≡ k = omega (arith, long) in
    subst (Puts a c)
    (sym (ap (λ l. lines_text (outcome_lines words 0 l)) (take_next os k o is) ∙ ap lines_text (lines_next words 0 (take k os) o)
    ∙ text_of-append (outcome_lines words 0 (take k os)) _ ∙ ap (λ n. lines_text (outcome_lines words 0 (take k os)) ++ lines_text (outcome_lines words n (o ∷ []))) at))
    (puts_then a b c _ _ before now)
