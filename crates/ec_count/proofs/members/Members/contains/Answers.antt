use Rattle.std.proofs.Common.{is_some, ap, ◌∙◌}
use Rattle.ec_count.proofs.Membership.{has_place}
use Rattle.ec_count.proofs.members.Members.contains.Goals as goal

pub returns : goal.returns
returns c = c.is_some.ensures ∙ ap is_some c.place.ensures.value ∙ has_place c.args.worker 0 c.args.self.now
