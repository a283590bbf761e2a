-- How a task changes the input and the outlets.
use Rattle.std.specs.Prelude.{ℕ, List, Option}
use Rattle.evc_cli.specs.declared.choice.Task.{Task}
use Rattle.evc_cli.specs.declared.choice.Task.TheVariants.{Check, Audit, Upgrade, Sim, Run}
use Rattle.evc_engine.specs.declared.status.Status.{Status}
use Rattle.evc_engine.specs.Checks.{Outputs, Checks}
use Rattle.evc_engine.specs.Audits.{Audits}
use Rattle.evc_engine.specs.Upgrades.{Upgrades}
use Rattle.evc_scripts.specs.Sims.{Sims}
use Rattle.evc_scripts.specs.Runs.{Runs}

abbrev pub Does : Task → List ℕ → Option (List ℕ) → Status → Outputs → Outputs → Type 0
Does Check bytes left status old new = Checks bytes left status old new
Does Audit bytes left status old new = Audits bytes left status old new
Does Upgrade bytes left status old new = Upgrades bytes left status old new
Does Sim bytes left status old new = Sims bytes left status old new
Does (Run turns) bytes left status old new = Runs turns bytes left status old new
