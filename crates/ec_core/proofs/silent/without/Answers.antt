use Rattle.std.proofs.Common.{◌≡◌, ◌∷◌, ◌++◌, false, List, reverse, ap, sym, ◌∙◌}
use Rattle.ec_count.specs.Members.{is_member}
use Rattle.ec_core.specs.declared.act.Entry.{Entry}
use Rattle.ec_core.specs.Acceptance.{answer_of}
use Rattle.ec_core.specs.RunModel.{RunModel}
use Rattle.ec_core.proofs.Silences.{kept_answer, members_silent}
use Rattle.ec_core.proofs.silent.without.Goals as goal

pub repeat-requires : goal.repeat-requires
repeat-requires c =
    let run = c.args.run.now in
    let ws = c.args.silent.now in
    let x = c.in-Some.entry in
    let order : c.loop-entry.yielded ++ x ∷ c.next.new.self ≡ run.entries = ap (λ (r : List Entry). c.loop-entry.yielded ++ r) (sym c.in-Some.ensures.steps) ∙ c.loop-entry.invariant.order in
    let kept : is_member x.worker ws ≡ false = sym c.contains.ensures.value ∙ c.if-not-contains.true in
    ap (λ (r : RunModel). answer_of r.setup (reverse r.entries) x.worker x.act) c.loop-entry.invariant.kept
    ∙ kept_answer run.setup (λ w. is_member w ws) run.entries c.loop-entry.yielded c.next.new.self x c.invariant.ensures.accepted (members_silent run.setup run.entries ws c.requires) order kept
