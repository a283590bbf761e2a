use Rattle.std.proofs.Common.{◌∷◌, ◌++◌, [], refl, ap, ◌∙◌}
use Rattle.ec_order.proofs.Indexing.{moments_read}
use Rattle.ec_order.proofs.index.add_moment.Goals as goal

pub returns-clause-added : goal.returns-clause-added
returns-clause-added c = (c.push.new.self, c.in_ok-push.ensures.ok ∙ ap (λ ms. ms ++ c.args.moment ∷ []) (moments_read c.args.lists.now.items c.args.event _ c.requires c.index_mut-list.ensures.value), refl)
