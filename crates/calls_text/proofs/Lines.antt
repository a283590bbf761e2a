-- The lines of a text.
use Rattle.std.proofs.Common.{◌≡◌, ◌≢◌, ◌<◌, ◌≤◌, ℕ, ◌+◌, List, [], ◌∷◌, ◌++◌, length, Result, Ok}
use Rattle.std.proofs.Common.{Err, IfOk, true, false, eqb, refl, ap, sym, ◌∙◌, ne_eqb, arith}
use Rattle.std.proofs.Common.{length-append}
use Rattle.std.specs.List.{All}
use Rattle.std.proofs.lemmas.List.Splits.{slice_split_at, slice_split_none}
use Rattle.std.proofs.lemmas.List.Elements.{All-weaker}
use Rattle.calls_text.specs.declared.fault.FaultKind.{FaultKind}
use Rattle.calls_text.specs.declared.fault.FaultKind.TheVariants as kinds
use Rattle.calls_text.specs.declared.reading.Read.{Read}
use Rattle.calls_text.specs.declared.recording.Recording.{Recording}
use Rattle.calls_text.specs.declared.stage.Stage as held
use Rattle.calls_text.specs.declared.stage.Stage.TheVariants as holds
use Rattle.calls_text.specs.kept.Stages.{stage_with_all}
use Rattle.calls_text.specs.declared.fault.TextFault.{TextFault}
use Rattle.calls_text.specs.declared.fault.LineFault.{LineFault}
use Rattle.calls_text.specs.declared.fault.LineFault.TheVariants as faults
use Rattle.calls_text.specs.Reading.{Stage, step, StepFails, is_ended}
use Rattle.calls_text.specs.Outcomes.{ParseResult, lines_of_text, parse_from, after_line, parse_end, fault_in, ReturnsFault}
use Rattle.calls_text.specs.Outcomes.{fault_at}
use Rattle.calls_text.proofs.TextParts.{HasFirst, has_first, by_line, by_rest}

no_lf : (bytes : List ℕ) → All (λ b. b ≢ 10) bytes → All (λ b. eqb b 10 ≡ false) bytes
no_lf bytes none = All-weaker (λ b. b ≢ 10) (λ b. eqb b 10
    ≡ false) (λ b apart. ne_eqb b 10 apart) bytes none

parts_line : (line more : List ℕ) → All (λ b. b ≢ 10) line
    → lines_of_text (line ++ 10 ∷ more) ≡ line ∷ lines_of_text more
parts_line line more none = slice_split_at (λ b. eqb b 10) line 10 more (no_lf line none) refl

parts_rest : (rest : List ℕ) → All (λ b. b ≢ 10) rest → lines_of_text rest ≡ rest ∷ []
parts_rest rest none = slice_split_none (λ b. eqb b 10) rest (no_lf rest none)

-- GOING ON

goes_line : (n : ℕ) (s : Stage) (line more rest : List ℕ) → is_ended s ≡ false
    → All (λ b. b ≢ 10) line → rest ≡ line ++ 10 ∷ more
    → parse_from n s (lines_of_text rest)
    ≡ after_line n line (step s line) (λ t. parse_from (n + 1) t (lines_of_text more))
goes_line n s line more rest going none whole =
    let f : HasFirst more = has_first more in
    ap (λ (bs : List ℕ). parse_from n s (lines_of_text bs)) whole
    ∙ ap (parse_from n s) (parts_line line more none ∙ ap (λ ps. line ∷ ps) f.is)
    ∙ by_line n s line f.first f.others going
    ∙ sym (ap (λ (ps : List (List ℕ)). after_line n line (step s line) (λ t. parse_from (n + 1) t ps)) f.is)

-- the end of the text
pub goes_rest : (n : ℕ) (s : Stage) (rest : List ℕ) → is_ended s ≡ false → All (λ b. b ≢ 10) rest
    → parse_from n s (lines_of_text rest) ≡ parse_end n s rest
goes_rest n s rest going none = ap (parse_from n s) (parts_rest rest none) ∙ by_rest n s rest going

-- after an accepted line
pub goes_on : (n : ℕ) (s t : Stage) (line more rest : List ℕ) (o : ParseResult) → is_ended s ≡ false
    → All (λ b. b ≢ 10) line → rest ≡ line ++ 10 ∷ more → parse_from n s (lines_of_text rest) ≡ o
    → step s line ≡ Ok t → parse_from (n + 1) t (lines_of_text more) ≡ o
goes_on n s t line more rest o going none whole is steps =
    sym (ap (λ r. after_line n line r (λ u. parse_from (n + 1) u (lines_of_text more))) steps)
    ∙ sym (goes_line n s line more rest going none whole) ∙ is

returned : (n : ℕ) (line : List ℕ) (r : Result Stage FaultKind) (others : Stage
    → ParseResult) (o : ParseResult)
    (fault : LineFault) → after_line n line r others ≡ o → StepFails fault r
    → ReturnsFault o (fault_at n line fault)
returned n line r others o faults.Memory is fails = tt
returned n line r others o (faults.Of kind) is fails =
    (line, sym is ∙ ap (λ x. after_line n line x others) fails, refl)

-- a faulty line
pub fails_line : (n : ℕ) (s : Stage) (line more rest : List ℕ) (o : ParseResult) (fault : LineFault)
    → is_ended s ≡ false → All (λ b. b ≢ 10) line → rest ≡ line ++ 10 ∷ more
    → parse_from n s (lines_of_text rest) ≡ o → StepFails fault (step s line)
    → ReturnsFault o (fault_at n line fault)
fails_line n s line more rest o fault going none whole is fails =
    returned n line (step s line) (λ u. parse_from (n + 1) u (lines_of_text more)) o fault
    (sym (goes_line n s line more rest going none whole) ∙ is) fails

pub ends_rest : (n : ℕ) (s t : Stage) (line : List ℕ) → (line ≡ [] → ⊥) → step s line ≡ Ok t
    → ReturnsFault (parse_end n s line) (fault_at n line (faults.Of kinds.Unfinished))
ends_rest n s t [] some steps = absurd (some refl)
ends_rest n s t (b ∷ bs) some steps =
    (b ∷ bs, ap (λ r. after_line n (b ∷ bs) r (λ u. fault_in n kinds.Unfinished (b ∷ bs))) steps, refl)

-- BY THE STAGE AS THE CODE REPRESENTS IT

pub ended_goes : (n : ℕ) (s : held.Stage) (r : Recording) (parts : List (List ℕ))
    → s ≡ holds.Ended r
    → parse_from n (stage_with_all s) parts ≡ Ok (record { recorded = r; number = n; rest = parts })
unfolding parse_from
ended_goes n s r parts is = ap (λ (x : held.Stage). parse_from n (stage_with_all x) parts) is

pub is_open : (s : held.Stage) → ((r : Recording) → s ≡ holds.Ended r → ⊥)
    → is_ended (stage_with_all s) ≡ false
unfolding is_ended
is_open holds.Opening apart = refl
is_open holds.Limiting apart = refl
is_open (holds.Declaring d) apart = refl
is_open (holds.Running r) apart = refl
is_open (holds.Ended r) apart = absurd (apart r refl)

pub is_over : (s : held.Stage) (r : Recording) → s ≡ holds.Ended r
    → is_ended (stage_with_all s) ≡ true
unfolding is_ended
is_over s r is = ap (λ (x : held.Stage). is_ended (stage_with_all x)) is

-- a history is returned only for a stage that has ended
pub never : {A E : Type 0} (r : Result A E) (P : A → Type 0) (s : held.Stage)
    → IfOk r (λ x. is_ended (stage_with_all s) ≡ true) → is_ended (stage_with_all s) ≡ false
    → IfOk r P
never (Ok x) P s over going = cc
never (Err e) P s over going = tt

pub then_shorter : (r : Result Read TextFault) (s : held.Stage) (rest : List ℕ) (n : ℕ)
    → IfOk r (λ read. is_ended (stage_with_all s) ≡ true) → IfOk r (λ read. read.rest.now ≡ rest)
    → (is_ended (stage_with_all s) ≡ true → length rest < n)
    → IfOk r (λ read. length read.rest.now < n)
then_shorter (Ok read) s rest n over is less =
    let same : length read.rest.now ≡ length rest = ap length is in
    let small : length rest < n = less over in
    omega arith
then_shorter (Err e) s rest n over is less = tt

pub then_numbers : (r : Result Read TextFault) (at : ℕ) (rest : List ℕ) (n : ℕ)
    → IfOk r (λ read. read.number ≡ at) → IfOk r (λ read. read.rest.now ≡ rest)
    → at + length rest ≤ n → IfOk r (λ read. read.number + length read.rest.now ≤ n)
then_numbers (Ok read) at rest n number is less =
    let same : length read.rest.now ≡ length rest = ap length is in
    let from : read.number ≡ at = number in
    omega arith
then_numbers (Err e) at rest n number is less = tt

pub shorter : (line more rest : List ℕ) → rest ≡ line ++ 10 ∷ more
    → length line + (length more + 1) ≡ length rest
shorter line more rest whole = omega (arith, ap length whole, length-append line (10 ∷ more))
