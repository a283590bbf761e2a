use Rattle.ec_script.proofs.Drafts.{empty_is}
use Rattle.ec_script.proofs.draft.Draft.new.Goals as goal

pub returns : goal.returns
returns c = empty_is _ _ c.new-2.ensures.items c.new.ensures.items
