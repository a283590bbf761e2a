use Rattle.std.proofs.Common.{◌≡◌, length, Some, ap, sym, ◌∙◌, arith}
use Rattle.ec_count.specs.Members.{index_of}
use Rattle.ec_count.proofs.Membership.{place_is, place_within}
use Rattle.ec_count.proofs.members.Members.place.Goals as goal

pub returns-in-Some-clause-within : goal.returns-in-Some-clause-within
returns-in-Some-clause-within c =
    let ws = c.self.inside.list.items in
    let own : index_of c.args.worker ws ≡ Some c.in-Some.place = sym (place_is ws c.self.inside.places c.args.worker c.get.result c.self.invariant c.get.ensures.small c.get.ensures.value) ∙ c.in-Some.is in
    omega (arith, place_within c.args.worker ws 0 c.in-Some.place own, ap length c.self.view_is)

pub returns-in-Some-clause-few : goal.returns-in-Some-clause-few
returns-in-Some-clause-few c =
    let ws = c.self.inside.list.items in
    let own : index_of c.args.worker ws ≡ Some c.in-Some.place = sym (place_is ws c.self.inside.places c.args.worker c.get.result c.self.invariant c.get.ensures.small c.get.ensures.value) ∙ c.in-Some.is in
    omega (arith, place_within c.args.worker ws 0 c.in-Some.place own, c.self.invariant.few)

pub returns-in-None-clause-value : goal.returns-in-None-clause-value
returns-in-None-clause-value c =
    sym c.in-None.is ∙ place_is c.self.inside.list.items c.self.inside.places c.args.worker c.get.result c.self.invariant c.get.ensures.small c.get.ensures.value
    ∙ ap (index_of c.args.worker) c.self.view_is
