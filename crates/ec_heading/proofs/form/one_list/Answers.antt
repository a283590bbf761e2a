use Rattle.ec_heading.proofs.Stops.{well_alone}
use Rattle.ec_heading.proofs.form.one_list.Goals as goal

pub returns : goal.returns
returns c = well_alone c.args.needs c.args.list.now c.if-needs.false
