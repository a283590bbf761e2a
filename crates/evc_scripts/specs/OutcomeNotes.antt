-- The notes of the commands on scripts.
use Rattle.std.specs.Prelude.{ℕ, ◌+◌, List, [], ◌∷◌, ◌++◌, codes, decimal}
use Rattle.ec_machine.specs.declared.outcome.Outcome.{Outcome}
use Rattle.ec_machine.specs.declared.outcome.Outcome.TheVariants.{Running, Finished, Refused, ValueTooLarge, Stopped, OutOfTurns, Memory}
use Rattle.ec_script.specs.declared.fault.Kind.{Kind}
use Rattle.ec_script.specs.Faults.{kind_number, kind_name}
use Rattle.ec_heading.specs.HeadingModel.{HeadingModel}
use Rattle.ec_heading.specs.Spelling.{NameTable, lines_text}
use Rattle.evc_engine.specs.AuditTexts.{worker_word}
use Rattle.evc_engine.specs.Notes.{line_words, refused_words}

-- the outcome of a program
abbrev pub outcome_words : Outcome → List ℕ
outcome_words Running = codes "running"
outcome_words Finished = codes "finished"
outcome_words (Refused r) = refused_words r
outcome_words ValueTooLarge = codes "value too large"
outcome_words Stopped = codes "stopped"
outcome_words OutOfTurns = codes "out of turns"
outcome_words Memory = codes "no memory"

-- the line on the outcome of worker w
abbrev pub outcome_line : NameTable → ℕ → Outcome → List ℕ
outcome_line words w o = codes "outcome " ++ worker_word words w ++ codes " " ++ outcome_words o

-- the lines on these outcomes, of the workers from w on
abbrev pub outcome_lines : NameTable → ℕ → List Outcome → List (List ℕ)
outcome_lines words w [] = []
outcome_lines words w (o ∷ os) = outcome_line words w o ∷ outcome_lines words (w + 1) os

-- a line for each declared worker
abbrev pub outcomes_note : HeadingModel → List Outcome → List ℕ
outcomes_note h outcomes = lines_text (outcome_lines h.words 0 outcomes)

-- the number and the name of a kind
abbrev pub kind_words : Kind → List ℕ
kind_words kind = decimal (kind_number kind) ++ codes " " ++ kind_name kind

-- the note on a faulty line of a script
abbrev pub script_note : ℕ → Kind → List ℕ
script_note n kind = line_words n ++ kind_words kind ++ codes "\n"

-- the note on a place of a schedule that names a worker that has ended
abbrev pub ended_note : HeadingModel → ℕ → ℕ → List ℕ
ended_note h place w = codes "schedule place " ++ decimal place ++ codes ": worker " ++ worker_word h.words w ++ codes " has ended\n"
