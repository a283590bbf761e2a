-- Why there is no report of workers on threads.
use Rattle.std.specs.Prelude.{ℕ, List}
use Rattle.ec_count.specs.Tables.{Tables}
use Rattle.ec_core.specs.RunModel.{RunModel}
use Rattle.ec_machine.specs.declared.command.Command.{Command}
use Rattle.ec_runner.specs.declared.run_fault.RunFault.{RunFault}
use Rattle.ec_runner.specs.declared.run_fault.RunFault.TheVariants as faults
use Rattle.ec_runner.specs.declared.summary.Summary.{Summary}
use Rattle.ec_runner.specs.Fits.{IsMismatch}
use Rattle.ec_runner.specs.WorkPromises.{AreSummariesOf}

-- there is a run, and each worker returned a log and an outcome of its own program, of at most so many turns; and those of w
-- don't fit the run, or the run is on other declarations
pub record IsMismatchOf (t : Tables) (programs : List (List Command)) (turns w : ℕ) : Type 0 where
  pub run : RunModel
  pub summaries : List Summary
  pub returned : AreSummariesOf programs turns summaries
  pub found : IsMismatch t run summaries w

-- a mismatch is reported only if every worker has ended; a thread that was not started, and out of
-- memory, are no mismatch
abbrev pub IsRunFault : Tables → List (List Command) → ℕ → RunFault → Type 0
IsRunFault t programs turns (faults.Mismatch w) = IsMismatchOf t programs turns w
IsRunFault t programs turns faults.Spawn = Unit {0}
IsRunFault t programs turns faults.Memory = Unit {0}
