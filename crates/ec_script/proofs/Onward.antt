-- A text goes on from line to line.
use Rattle.std.proofs.Common.{◌≡◌, ◌≢◌, ℕ, ◌+◌, List, ◌∷◌, ◌++◌, length, Result, Ok, Err, sym, ap, ◌∙◌, subst, arith, length-append}
use Rattle.std.specs.List.{All}
use Rattle.ec_script.specs.declared.fault.Kind.{Kind}
use Rattle.ec_script.specs.declared.fault.ScriptFault.{ScriptFault}
use Rattle.ec_script.specs.declared.fault.StageFault.{StageFault}
use Rattle.ec_script.specs.declared.fault.StageFault.TheVariants as stages
use Rattle.ec_script.specs.declared.plan.Plan.{Plan}
use Rattle.ec_script.specs.declared.stage.Stage.{Stage}
use Rattle.ec_script.specs.Reading.{step, StepFails}
use Rattle.ec_script.specs.Outcome.{ParseResult, lines_of_text, parse_from, after_line, parse_end, Returns, fault_at}
use Rattle.ec_script.proofs.Lines.{no_lf, goes_line, goes_rest}

-- after a line that is accepted
pub goes_on : (n : ℕ) (s t : Stage) (line more rest : List ℕ) (o : ParseResult) → All (λ b. b ≢ 10) line → rest ≡ line ++ 10 ∷ more → parse_from n s (lines_of_text rest) ≡ o → step s line ≡ Ok t
    → parse_from (n + 1) t (lines_of_text more) ≡ o
goes_on n s t line more rest o none whole is steps =
    sym (ap (λ r. after_line n r (λ u. parse_from (n + 1) u (lines_of_text more))) steps)
    ∙ sym (goes_line n s line more (no_lf line none))
    ∙ ap (λ (bs : List ℕ). parse_from n s (lines_of_text bs)) (sym whole) ∙ is

returned : (n : ℕ) (r : Result Stage Kind) (others : Stage → ParseResult) (o : ParseResult) (fault : StageFault) → after_line n r others ≡ o → StepFails fault r → Returns o (Err (fault_at n fault))
returned n r others o stages.Memory is fails = tt
returned n r others o (stages.Of kind) is fails = sym is ∙ ap (λ x. after_line n x others) fails

-- a faulty line
pub fails_line : (n : ℕ) (s : Stage) (line more rest : List ℕ) (o : ParseResult) (fault : StageFault) → All (λ b. b ≢ 10) line → rest ≡ line ++ 10 ∷ more → parse_from n s (lines_of_text rest) ≡ o → StepFails fault (step s line)
    → Returns o (Err (fault_at n fault))
fails_line n s line more rest o fault none whole is fails =
    returned n (step s line) (λ u. parse_from (n + 1) u (lines_of_text more)) o fault
    (sym (goes_line n s line more (no_lf line none)) ∙ ap (λ (bs : List ℕ). parse_from n s (lines_of_text bs)) (sym whole) ∙ is) fails

-- the end of the text
pub rests : (n : ℕ) (s : Stage) (rest : List ℕ) (o : ParseResult) (result : Result Plan ScriptFault) → All (λ b. b ≢ 10) rest → parse_from n s (lines_of_text rest) ≡ o → Returns (parse_end n s rest) result → Returns o result
rests n s rest o result none is tells = subst (λ x. Returns x result) (sym (goes_rest n s rest (no_lf rest none)) ∙ is) tells

pub shorter : (line more rest : List ℕ) → rest ≡ line ++ 10 ∷ more → length line + (length more + 1) ≡ length rest
shorter line more rest whole = omega (arith, ap length whole, length-append line (10 ∷ more))
