-- A line after the declarations that is accepted passes each test.
use Rattle.std.proofs.Common.{◌≡◌, ℕ, List, Bool, true, false, not, ◌&&◌, cond, Option, Some, None, Result, Ok, Err, refl, sym, ap, ◌∙◌}
use Rattle.ec_text.specs.Words.{words_of}
use Rattle.ec_heading.specs.Heading.{head_step, is_no_line}
use Rattle.ec_script.specs.declared.fault.Kind.{Kind}
use Rattle.ec_script.specs.declared.fault.Kind.TheVariants as kinds
use Rattle.ec_script.specs.declared.stage.Stage.{Stage}
use Rattle.ec_script.specs.declared.stage.Stage.TheVariants.{Reading}
use Rattle.ec_script.specs.Forms.{Phrase, phrase_in}
use Rattle.ec_script.specs.Objects.{object_in}
use Rattle.ec_script.specs.Kinds.{phrase_fault}
use Rattle.ec_script.specs.ScriptModel.{ScriptModel}
use Rattle.ec_script.specs.Reading.{context_of_script, after, fault_or, after_phrase, map_heading, is_declaring, opens_outer, script_step, read_on}
use Rattle.ec_script.proofs.Room.{Passes, passes, no_fault_of}
use Rattle.ec_script.proofs.shared.Keeping.{unfaulted as faultless}

-- A LINE

-- the line is accepted as a phrase, and leads on
pub record IsAcceptedAs (s : ScriptModel) (line : List ℕ) (t : ScriptModel) : Type 0 where
  pub whole : is_no_line line ≡ false
  pub phrase : Phrase
  pub form : phrase_in (words_of line) ≡ Some phrase
  pub passes : Passes (context_of_script s) phrase (object_in s.heading phrase)
  pub leads : after s phrase ≡ t

-- the line is not read as a declaration
abbrev pub IsNoDeclaration : ScriptModel → List ℕ → Type 0
IsNoDeclaration s line = (is_declaring s && not (opens_outer (words_of line))) ≡ false

phrased_back : (s t : ScriptModel) (line : List ℕ) (o : Option Phrase) → is_no_line line ≡ false → phrase_in (words_of line) ≡ o → after_phrase s o ≡ Ok t → IsAcceptedAs s line t
phrased_back s t line None whole form is = cc
phrased_back s t line (Some p) whole form is =
    let f = faultless (phrase_fault (context_of_script s) p (object_in s.heading p)) (after s p) t is in
    record { whole = whole; phrase = p; form = form; passes = passes (context_of_script s) p (object_in s.heading p) f.0; leads = f.1 }

line_back : (s t : ScriptModel) (line : List ℕ) (b : Bool) → is_no_line line ≡ b → cond b (Err kinds.BadLine) (after_phrase s (phrase_in (words_of line))) ≡ Ok t → IsAcceptedAs s line t
line_back s t line true whole is = cc
line_back s t line false whole is = phrased_back s t line (phrase_in (words_of line)) whole refl is

pub taken_back : (s t : ScriptModel) (line : List ℕ) → IsNoDeclaration s line → script_step s line ≡ Ok t → IsAcceptedAs s line t
unfolding script_step
taken_back s t line behind is =
    line_back s t line (is_no_line line) refl
    (ap (λ b. cond b (map_heading s (head_step s.heading line)) (cond (is_no_line line) (Err kinds.BadLine) (after_phrase s (phrase_in (words_of line))))) (sym behind) ∙ is)

-- a line that passes is accepted
pub taken_so : (s : ScriptModel) (line : List ℕ) (p : Phrase) → IsNoDeclaration s line → is_no_line line ≡ false → phrase_in (words_of line) ≡ Some p → Passes (context_of_script s) p (object_in s.heading p) → script_step s line ≡ Ok (after s p)
unfolding script_step
taken_so s line p behind whole form h =
    ap (λ b. cond b (map_heading s (head_step s.heading line)) (cond (is_no_line line) (Err kinds.BadLine) (after_phrase s (phrase_in (words_of line))))) behind
    ∙ ap (λ b. cond b (Err kinds.BadLine) (after_phrase s (phrase_in (words_of line)))) whole
    ∙ ap (after_phrase s) form
    ∙ ap (λ o. fault_or o (after s p)) (no_fault_of (context_of_script s) p (object_in s.heading p) h)

pub read_back : (r : Result ScriptModel Kind) (t : Stage) → read_on r ≡ Ok t → (s : ScriptModel) × (r ≡ Ok s) × (t ≡ Reading s)
read_back (Ok s) t is = (s, refl, cc)
read_back (Err k) t is = cc
