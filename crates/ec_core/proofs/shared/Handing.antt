-- What a hand does to the signallers, if no act is refused.
use Rattle.std.proofs.Common.{◌≡◌, ℕ, true, false, not, List, [], ◌∷◌, Option, Some, None, is_some, Ok, refl, ap, sym, ◌∙◌, cond, ◌==◌}
use Rattle.std.proofs.lemmas.Bool.{eqb-true}
use Rattle.ec_count.specs.Tables.{Tables, IsDeclared, signallers, may_hand}
use Rattle.ec_count.specs.Members.{is_member, has_repeat, index_of, replace_at}
use Rattle.ec_count.proofs.Membership.{has_place}
use Rattle.ec_count.proofs.shared.Distinct.{set_distinct}
use Rattle.ec_core.specs.declared.act.Act.{Act}
use Rattle.ec_core.specs.declared.act.Act.TheVariants.{Advance, Read, Await, Go, Ticket, Put, Get, Hand}
use Rattle.ec_core.specs.declared.act.Reply.{Reply}
use Rattle.ec_core.specs.declared.act.Entry.{Entry}
use Rattle.ec_core.specs.Counts.{signallers_after, signallers_at, component_at}
use Rattle.ec_core.specs.Acceptance.{answer_of, IsAccepted}
use Rattle.ec_core.proofs.shared.Answering.{allowed}
use Rattle.ec_core.proofs.shared.Signalling.{different_signallers}

-- a worker without a component is not a signaller
pub new_signaller : (t : Tables) (past : List Entry) (e b : ℕ) → is_some (component_at t e past b) ≡ false → is_member b (signallers_at t e past) ≡ false
new_signaller t past e b h = sym (has_place b 0 (signallers_at t e past)) ∙ h

replaced_different : (o : Option ℕ) (b : ℕ) (ws : List ℕ) → is_member b ws ≡ false → has_repeat ws ≡ false → has_repeat (replace_at o b ws) ≡ false
replaced_different None b ws new different = different
replaced_different (Some c) b ws new different = set_distinct ws c b new different

-- an act that is not refused leaves the signallers different
handed_different : (t : Tables) (e w : ℕ) (act : Act) (past : List Entry) (reply : Reply) → answer_of t past w act ≡ Ok reply
    → has_repeat (signallers_at t e past) ≡ false → has_repeat (signallers_after e w act (signallers_at t e past)) ≡ false
handed_different t e w (Advance f) past reply answered different = different
handed_different t e w (Read f) past reply answered different = different
handed_different t e w (Await f v) past reply answered different = different
handed_different t e w Go past reply answered different = different
handed_different t e w (Ticket q) past reply answered different = different
handed_different t e w (Put x v) past reply answered different = different
handed_different t e w (Get x) past reply answered different = different
handed_different t e w (Hand f b) past reply answered different =
    let ws = signallers_at t e past in
    elim (f == e) as (λ is. (f == e) ≡ is → has_repeat (cond is (replace_at (index_of w ws) b ws) ws) ≡ false) [
      | true ↦ λ k.
          (let same : f ≡ e = eqb-true f e k in
          let fresh : is_some (component_at t e past b) ≡ false = ap (λ v. is_some (component_at t v past b)) (sym same) ∙ (allowed t past w (Hand f b) reply answered).0.fresh in
          replaced_different (index_of w ws) b ws (new_signaller t past e b fresh) different)
      | false ↦ λ k. different
    ] refl

pub signallers_differ : (t : Tables) (e : ℕ) (past : List Entry) → IsDeclared t → IsAccepted t past → has_repeat (signallers_at t e past) ≡ false
unfolding signallers_at
signallers_differ t e [] d acc = different_signallers t e d
signallers_differ t e (x ∷ past) d acc = handed_different t e x.worker x.act past x.reply acc.0 (signallers_differ t e past d acc.1)

-- an act that is not refused leaves the signallers of a fixed eventcount as they are
handed_fixed : (t : Tables) (e w : ℕ) (act : Act) (past : List Entry) (reply : Reply) (ws : List ℕ) → answer_of t past w act ≡ Ok reply
    → may_hand t e ≡ false → signallers_after e w act ws ≡ ws
handed_fixed t e w (Advance f) past reply ws answered fixed = refl
handed_fixed t e w (Read f) past reply ws answered fixed = refl
handed_fixed t e w (Await f v) past reply ws answered fixed = refl
handed_fixed t e w Go past reply ws answered fixed = refl
handed_fixed t e w (Ticket q) past reply ws answered fixed = refl
handed_fixed t e w (Put x v) past reply ws answered fixed = refl
handed_fixed t e w (Get x) past reply ws answered fixed = refl
handed_fixed t e w (Hand f b) past reply ws answered fixed =
    elim (f == e) as (λ is. (f == e) ≡ is → cond is (replace_at (index_of w ws) b ws) ws ≡ ws) [
      | true ↦ λ k.
          (let same : f ≡ e = eqb-true f e k in
          let may : not (may_hand t f) ≡ false = (allowed t past w (Hand f b) reply answered).0.handable in
          let bad : true ≡ false = ap not (sym (ap (may_hand t) same ∙ fixed)) ∙ may in
          cc)
      | false ↦ λ k. refl
    ] refl

-- a fixed eventcount keeps its signallers
pub as_declared : (t : Tables) (e : ℕ) (past : List Entry) → IsAccepted t past → may_hand t e ≡ false → signallers_at t e past ≡ signallers t e
unfolding signallers_at
as_declared t e [] acc fixed = refl
as_declared t e (x ∷ past) acc fixed = handed_fixed t e x.worker x.act past x.reply (signallers_at t e past) acc.0 fixed ∙ as_declared t e past acc.1 fixed
