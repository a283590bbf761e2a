-- What a step that was not made says of the history.
use Rattle.std.proofs.Common.{ℕ, Err, reverse}
use Rattle.ec_core.specs.Acceptance.{answer_of}
use Rattle.ec_core.specs.Faults.{IsFaultOf}
use Rattle.ec_core.specs.RunModel.{RunModel}
use Rattle.ec_core.specs.declared.act.Act.{Act}
use Rattle.ec_core.specs.declared.run.StepFault.{StepFault}
use Rattle.ec_core.specs.declared.run.StepFault.TheVariants.{Refused, Memory}
use Rattle.ec_trace.specs.EntrySinks.{Enters}
