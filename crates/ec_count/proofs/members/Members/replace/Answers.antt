use Rattle.std.proofs.Common.{◌≡◌, ◌∙◌, false, Some, None, length, arith, ap, sym, subst, slice_set}
use Rattle.std.proofs.Math.ListN.{length-set}
use Rattle.ec_count.specs.Members.{is_member, index_of, replace_unless_member, AreMembers}
use Rattle.ec_count.proofs.Membership.{place_is, none_is, place_within, replaced, one_replaced, nobody_replaced}
use Rattle.ec_count.proofs.shared.Distinct.{refilled}
use Rattle.ec_count.proofs.members.Members.replace.Goals as goal

pub bounds-slots-place : goal.bounds-slots-place
bounds-slots-place c =
    let ws = c.self.inside.list.items in
    let own : index_of c.args.from ws ≡ Some c.in-Some.place = sym (place_is ws c.self.inside.places c.args.from c.get.result c.self.invariant c.get.ensures.small c.get.ensures.value) ∙ c.in-Some.is in
    omega (arith, place_within c.args.from ws 0 c.in-Some.place own, ap length c.as_mut_slice-slots.ensures.value)

pub invariant_of-self : goal.invariant_of-self
invariant_of-self c =
    let ws = c.self.inside.list.items in
    let places = c.self.inside.places in
    let own : index_of c.args.from ws ≡ Some c.in-Some.place = sym (place_is ws places c.args.from c.get.result c.self.invariant c.get.ensures.small c.get.ensures.value) ∙ c.in-Some.is in
    let new : is_member c.args.to ws ≡ false = ap (is_member c.args.to) c.self.view_is ∙ sym c.contains.ensures ∙ c.if-contains.false in
    let now = replaced ws places c.get-in-Some.result c.get-in-Some-2.result c.in-Some.place c.self.invariant c.get-in-Some.ensures.small c.get-in-Some-2.ensures.small
    (ap (λ w. index_of w ws) c.get-in-Some.ensures.value ∙ own) (ap (λ w. is_member w ws) c.get-in-Some-2.ensures.value ∙ new) in
    rw c.as_mut_slice-slots.ensures.value (rw (refilled ws (slice_set ws c.in-Some.place c.args.to) (simp length-set))
    (subst (λ w. AreMembers (slice_set ws c.in-Some.place w) (slice_set (slice_set places c.get-in-Some.result None) c.get-in-Some-2.result (Some c.in-Some.place))) c.get-in-Some-2.ensures.value now))

pub returns-in-Some : goal.returns-in-Some
returns-in-Some c =
    let ws = c.self.inside.list.items in
    let own : index_of c.args.from ws ≡ Some c.in-Some.place = sym (place_is ws c.self.inside.places c.args.from c.get.result c.self.invariant c.get.ensures.small c.get.ensures.value) ∙ c.in-Some.is in
    let new : is_member c.args.to ws ≡ false = ap (is_member c.args.to) c.self.view_is ∙ sym c.contains.ensures ∙ c.if-contains.false in
    rw c.as_mut_slice-slots.ensures.value (rw (refilled ws (slice_set ws c.in-Some.place c.args.to) (simp length-set))
    (one_replaced c.args.to c.in-Some.place ws (index_of c.args.from ws) new own ∙ ap (λ us. replace_unless_member (index_of c.args.from us) c.args.to us) c.self.view_is))

pub returns-in_default : goal.returns-in_default
returns-in_default c =
    nobody_replaced c.args.to c.args.self.now (index_of c.args.from c.args.self.now)
    (ap (index_of c.args.from) (sym c.self.view_is)
    ∙ none_is c.self.inside.list.items c.self.inside.places c.args.from c.get.result c.self.invariant c.get.ensures.small c.get.ensures.value c.in_default.not-Some)
