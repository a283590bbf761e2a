use Rattle.std.proofs.Common.{◌∙◌, ap}
use Rattle.ec_script.specs.Flat.{flat}
use Rattle.ec_script.proofs.Drafts.{finished}
use Rattle.ec_script.proofs.draft.Draft.finish.Goals as goal

pub returns : goal.returns
returns c = ap flat c.in-Some.ensures.value ∙ finished _ _ _ _ c.self.view_is c.requires
