use Rattle.std.proofs.Common.{◌∙◌, sym, subst, reverse}
use Rattle.calls_schedule.specs.Caps.{Descend}
use Rattle.calls_schedule.proofs.Capping.{caps_descend}
use Rattle.calls_schedule.proofs.lowering.lower_all.Goals as goal

pub cap_all-requires : goal.cap_all-requires
cap_all-requires c =
    subst (λ l. Descend l) (sym (c.deref.ensures.value ∙ c.in_ok-caps.ensures))
    (caps_descend _ (reverse c.args.bounds.now) c.requires)
