-- Histories in order, up to the first that is rejected.
use Rattle.std.proofs.Common.{◌≡◌, ℕ, List, [], ◌∷◌, length, Result, Ok, Err, IfOk, Option, Some, None, refl}
use Rattle.std.proofs.Common.{◌==◌, true, arith}
use Rattle.std.proofs.lemmas.Bool.{eqb-true}
use Rattle.calls_text.specs.declared.fault.TextFault.{TextFault}
use Rattle.calls_text.specs.declared.fault.TextFault.TheVariants.{At, Memory}
use Rattle.calls_text.specs.Outcomes.{OneRead, parse_from, lines_of_text, ReturnsFault}
use Rattle.calls_text.specs.Reading.{Opening}
use Rattle.evc_explain_engine.specs.declared.explanation.Explanation.{Explanation}
use Rattle.evc_explain_engine.specs.Histories.{IsUnread, Judges, ExplainsFrom, ExplainsHistories, unread}
use Rattle.calls_text.specs.Recordings.{RecordingModel}

unread_from : (text before : List ℕ) (n : ℕ) (ps : List (List ℕ)) (fault : TextFault) (t : Explanation)
    → ReturnsFault (parse_from n Opening ps) fault → IsUnread text fault t
    → ExplainsFrom text t before n ps
unread_from text before n ps (At m kind cause) t tells is =
    unread before n ps m kind tells.0 tells.1 is
unread_from text before n ps Memory t tells is = absurd is

-- a history that was read, and the text after it
abbrev pub one_read : RecordingModel → ℕ → List ℕ → OneRead
one_read r n rest = record { recorded = r; number = n; rest = lines_of_text rest }

-- a history that has a fault ends them
pub stops : {E : Type 0} (text before rest : List ℕ) (n : ℕ) (fault : TextFault) (r : Result Explanation E)
    → ReturnsFault (parse_from n Opening (lines_of_text rest)) fault → IfOk r (IsUnread text fault)
    → ((t : Explanation) → ExplainsFrom text t before n (lines_of_text rest)
    → ExplainsHistories text t)
    → IfOk r (ExplainsHistories text)
stops text before rest n fault (Ok t) tells explanation follows =
    follows t (unread_from text before n (lines_of_text rest) fault t tells explanation)
stops text before rest n fault (Err e) tells explanation follows = tt

-- if nothing is left there is one empty part
pub no_rest : (xs : List ℕ) → (length xs == 0) ≡ true → lines_of_text xs ≡ [] ∷ []
no_rest [] none = refl
no_rest (x ∷ xs) none = absurd (omega (arith, eqb-true (length (x ∷ xs)) 0 none))

-- a history with a linearization has no explanation
pub judged_none : (text : List ℕ) (n : ℕ) (r : RecordingModel) (o : Option Explanation)
    → ((t : Explanation) → o ≡ Some t → ⊥) → Judges text n r o → Judges text n r None
judged_none text n r None not judged = judged
judged_none text n r (Some t) not judged = absurd (not t refl)
