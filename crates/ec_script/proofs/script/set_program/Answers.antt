use Rattle.std.proofs.lemmas.List.{map-set}
use Rattle.ec_script.specs.Flat.{flat}
use Rattle.ec_script.proofs.script.set_program.Goals as goal

pub returns-then-place-len : goal.returns-then-place-len
returns-then-place-len c = map-set flat c.args.programs.now.items c.args.place c.args.program
