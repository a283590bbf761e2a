-- What follows from the lines that a monitor has checked.
use Rattle.std.proofs.Common.{◌≡◌, sym, ap, append_assoc, subst, ◌∙◌, ℕ, List, [], ◌∷◌, ◌++◌, take, Some, Result, Ok, Err}
use Rattle.ec_text.specs.Puts.{OutputModel, at_first, IsWrittenOut}
use Rattle.calls_report.specs.declared.status.Status.{Status}
use Rattle.calls_watch.specs.declared.stop.Stop.{Stop}
use Rattle.calls_watch.specs.declared.watcher.Watcher.{Watcher}
use Rattle.calls_watch.specs.kept.Watching.{IsWatching, Stops, StateAfterLine}
use Rattle.calls_watch.specs.kept.Endings.{SaysStop}
use Rattle.evc_c.specs.declared.monitor.Monitor.{Monitor}
use Rattle.evc_c.specs.declared.monitor.Stage.{Stage}
use Rattle.evc_c.specs.declared.monitor.Stage.TheVariants.{Stopped}
use Rattle.evc_c.specs.Monitors.{HasTaken, IsStoppedWith, IsNoteAt, IsNoteOf}

abbrev Answer : Type 0
Answer = Result (Unit {0}) Stop

-- what a line does to a text, whatever comes after it
abbrev Leads : List ℕ → Answer → Watcher → Watcher → Type 0
Leads line result old new =
    (ps qs : List (List ℕ)) (q : List ℕ)
    → IsWatching ps (line ∷ q ∷ qs) old → StateAfterLine result ps (q ∷ qs) new

-- what a line does to a text that goes on after it
after_line : (lines : List (List ℕ)) (line : List ℕ) (old new : Watcher) (result : Answer) → Leads line result old new → HasTaken lines old
    → (q : List ℕ) (qs : List (List ℕ)) → StateAfterLine result ((lines ++ line ∷ []) ++ q ∷ qs) (q ∷ qs) new
after_line lines line old new result leads taken q qs =
    subst (λ (ps : List (List ℕ)). StateAfterLine result ps (q ∷ qs) new) (sym (append_assoc lines (line ∷ []) (q ∷ qs))) (leads (lines ++ line ∷ q ∷ qs) qs q (taken line (q ∷ qs)))

pub goes_on : (lines : List (List ℕ)) (line : List ℕ) (old new : Watcher) (result : Answer)
    (u : Unit {0}) → Leads line result old new → result ≡ Ok u → HasTaken lines old
    → HasTaken (lines ++ line ∷ []) new
goes_on lines line old new result u leads ok taken q qs =
    subst (λ (r : Answer). StateAfterLine r ((lines ++ line ∷ []) ++ q ∷ qs) (q ∷ qs) new) ok (after_line lines line old new result leads taken q qs)

pub is_stopped : (lines : List (List ℕ)) (line : List ℕ) (old new : Watcher) (result : Answer)
    (stop : Stop) → Leads line result old new → result ≡ Err stop → HasTaken lines old
    → IsStoppedWith stop (lines ++ line ∷ []) new
is_stopped lines line old new result stop leads err taken q qs =
    subst (λ (r : Answer). StateAfterLine r ((lines ++ line ∷ []) ++ q ∷ qs) (q ∷ qs) new) err (after_line lines line old new result leads taken q qs)

-- what is copied of a note
pub said : (m : Monitor) (stop : Stop) (status : Status) (writer room : ℕ) (first last : OutputModel)
    (start held note : List ℕ) → m.stage ≡ Stopped stop
    → ((ps : List (List ℕ)) → Stops stop ps m.watcher → SaysStop ps status first last)
    → IsWrittenOut last
    → first ≡ at_first writer (Some start) → start ≡ [] → Some held ≡ last.contents
    → note ≡ take room held → IsNoteOf m room note
said m stop status writer room first last start held note at says written is none holds returned =
    let e : first ≡ at_first writer (Some []) = is ∙ ap (λ (k : List ℕ). at_first writer
    (Some k)) none in
    subst (λ (stage : Stage). IsNoteAt stage m.watcher room note) (sym at) (λ ps stops. record {
      status = status;
      writer = writer;
      last = last;
      says = subst (λ (o : OutputModel). SaysStop ps status o last) e (says ps stops);
      written = written;
      noted = held;
      holds = sym holds;
      returned = returned;
    })
