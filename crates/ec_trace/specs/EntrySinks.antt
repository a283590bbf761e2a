-- Histories, as states represent them that store the entries, or only observe them.
use Rattle.std.specs.Prelude.{◌≡◌, ℕ, List, [], ◌∷◌, ◌++◌, Result, Ok, Err, IsOk, reverse}
use Rattle.ec_core.specs.Acceptance.{answer_of}
use Rattle.ec_core.specs.RunModel.{RunModel}
use Rattle.ec_core.specs.declared.act.Act.{Act}
use Rattle.ec_core.specs.declared.act.Reply.{Reply}
use Rattle.ec_core.specs.declared.act.Entry.{Entry}
use Rattle.ec_core.specs.declared.run.StepFault.{StepFault}
use Rattle.ec_core.specs.declared.run.StepFault.TheVariants.{Refused, Memory}
use Rattle.ec_heading.specs.HeadingModel.{HeadingModel}

-- the history under a header with these entries
abbrev pub history_of : HeadingModel → List Entry → RunModel
history_of h entries = record { setup = h.setup; entries = entries }

-- the history with one more entry
abbrev pub with_entry : RunModel → ℕ → Act → Reply → RunModel
with_entry h w a r = record { setup = h.setup; entries = h.entries ++ record { worker = w; act = a; reply = r } ∷ [] }

-- what is returned for a step after a history, and what then holds: the right reply, and `after` of
-- the history with this entry; or the refusal, or out of memory, which is reported only of a step
-- that is not refused, and `after` of the same history
abbrev pub Enters : (RunModel → Type 0) → RunModel → ℕ → Act → Result Reply StepFault → Type 0
Enters after h w a (Ok r) = (answer_of h.setup (reverse h.entries) w a ≡ Ok r) × after (with_entry h w a r)
Enters after h w a (Err (Refused refusal)) = (answer_of h.setup (reverse h.entries) w a ≡ Err refusal) × after h
Enters after h w a (Err Memory) = IsOk (answer_of h.setup (reverse h.entries) w a) × after h
