-- Hands in order of time.
use Rattle.std.proofs.Common.{◌≡◌, ◌≢◌, ℕ, zero, suc, ◌+◌, ◌<◌, Bool, true, false, List, ◌∷◌, length, Option, Some, None, ◌⊎◌, inl, inr, unwrap_or, slice_get, refl, ap, sym, ◌∙◌, arith, add-one, subst, cond, ◌==◌}
use Rattle.std.specs.Option.{option_and_then}
use Rattle.std.proofs.Math.Nat.{zero-add}
use Rattle.std.proofs.lemmas.Bool.{eqb-true, eqb-false}
use Rattle.ec_count.specs.Tables.{Tables}
use Rattle.ec_count.specs.Members.{index_of, replace_at}
use Rattle.ec_core.specs.declared.act.Act.{Act}
use Rattle.ec_core.specs.declared.act.Act.TheVariants.{Advance, Read, Await, Go, Ticket, Put, Get, Hand}
use Rattle.ec_core.specs.declared.act.Entry.{Entry}
use Rattle.ec_core.specs.Counts.{past_at, total, component_total, issued, cell_value, is_advance, is_ticket, is_place, put_in, hand_of, signallers_after, signallers_at, signaller_at, component_at}
use Rattle.ec_core.specs.Laws.{HandsChangeNoNumber, SignallersAreTheLastReceivers, handed_at, IsLastHand, IsUnhanded}
use Rattle.ec_count.proofs.Membership.{place_within}
use Rattle.ec_core.proofs.shared.Moments.{past_next, past_end}
use Rattle.ec_core.proofs.shared.Places.{get_set}
use Rattle.ec_core.proofs.shared.Stepping.{comp_quiet, issued_quiet}

-- a hand changes no number
record ChangesNoNumber (act : Act) : Type 0 where
  advance : (f : ℕ) → is_advance f act ≡ false
  ticket : (q : ℕ) → is_ticket q act ≡ false
  put : (y : ℕ) → put_in y act ≡ None

no_number : (e b : ℕ) (act : Act) → hand_of e act ≡ Some b → ChangesNoNumber act
no_number e b (Hand f c) is = record { advance = λ f. refl; ticket = λ q. refl; put = λ y. refl }
no_number e b (Advance f) is = cc
no_number e b (Read f) is = cc
no_number e b (Await f v) is = cc
no_number e b Go is = cc
no_number e b (Ticket q) is = cc
no_number e b (Put x v) is = cc
no_number e b (Get x) is = cc

total_quiet : (e : ℕ) (x : Entry) (past : List Entry) → is_advance e x.act ≡ false → total e (x ∷ past) ≡ total e past
unfolding total
total_quiet e x past h = rw h (zero-add (total e past))

cell_quiet : (y : ℕ) (x : Entry) (past : List Entry) → put_in y x.act ≡ None → cell_value y (x ∷ past) ≡ cell_value y past
unfolding cell_value
cell_quiet y x past h = ap (λ o. unwrap_or o (cell_value y past)) h

pub hands_change : HandsChangeNoNumber
hands_change t h k e b x at is =
    let n = no_number e b x.act is in
    let past = past_at k h in
    let next : past_at (k + 1) h ≡ x ∷ past = ap (λ i. past_at i h) (add-one k) ∙ past_next h k x at in (
      λ f. ap (total f) next ∙ total_quiet f x past (n.advance f),
      λ f c. ap (component_total t f c) next ∙ comp_quiet t f c x past (n.advance f),
      λ q. ap (issued q) next ∙ issued_quiet q x past (n.ticket q),
      λ y. ap (cell_value y) next ∙ cell_quiet y x past (n.put y),
    )

-- the receiver, if there is one
abbrev latest : Option ℕ → Option ℕ → Option ℕ
latest None s = s
latest (Some b) s = Some b

unhanded : (b : Bool) (s : Option ℕ) → s ≡ latest (cond b None None) s
unhanded true s = refl
unhanded false s = refl

latest_is : (is : Bool) (b : ℕ) (s : Option ℕ) → cond is (Some b) s ≡ latest (cond is (Some b) None) s
latest_is true b s = refl
latest_is false b s = refl

replaced_place : (w c b : ℕ) (ws : List ℕ) (o : Option ℕ) → index_of w ws ≡ o → slice_get (replace_at o b ws) c ≡ latest (cond (is_place c o) (Some b) None) (slice_get ws c)
replaced_place w c b ws None at = refl
replaced_place w c b ws (Some d) at =
    let within : d < 0 + length ws = place_within w ws 0 d at in
    get_set ws d c b (omega arith) ∙ latest_is (d == c) b (slice_get ws c)

-- who signals a component after an act
handed_place : (e w c : ℕ) (act : Act) (ws : List ℕ)
    → slice_get (signallers_after e w act ws) c ≡ latest (cond (is_place c (index_of w ws)) (hand_of e act) None) (slice_get ws c)
handed_place e w c (Advance f) ws = unhanded (is_place c (index_of w ws)) (slice_get ws c)
handed_place e w c (Read f) ws = unhanded (is_place c (index_of w ws)) (slice_get ws c)
handed_place e w c (Await f v) ws = unhanded (is_place c (index_of w ws)) (slice_get ws c)
handed_place e w c Go ws = unhanded (is_place c (index_of w ws)) (slice_get ws c)
handed_place e w c (Ticket q) ws = unhanded (is_place c (index_of w ws)) (slice_get ws c)
handed_place e w c (Put x v) ws = unhanded (is_place c (index_of w ws)) (slice_get ws c)
handed_place e w c (Get x) ws = unhanded (is_place c (index_of w ws)) (slice_get ws c)
handed_place e w c (Hand f b) ws =
    elim (f == e) as (λ is. slice_get (cond is (replace_at (index_of w ws) b ws) ws) c ≡ latest (cond (is_place c (index_of w ws)) (cond is (Some b) None) None) (slice_get ws c)) [
      | true ↦ replaced_place w c b ws (index_of w ws) refl
      | false ↦ unhanded (is_place c (index_of w ws)) (slice_get ws c)
    ]

abbrev Holds : Tables → ℕ → ℕ → List Entry → ℕ → Option ℕ → Type 0
Holds t e c h k s = IsLastHand t e c h k s ⊎ IsUnhanded t e c h k s

still : (t : Tables) (e c : ℕ) (h : List Entry) (k : ℕ) (s : Option ℕ) → handed_at t e c h k ≡ None → Holds t e c h k s → Holds t e c h (suc k) s
still t e c h k s off (inl p) = inl (record {
  i = p.i;
  receiver = p.receiver;
  before = (let lt : p.i < k = p.before in omega arith);
  hand = p.hand;
  none_since = λ j after lt.
      (elim (j == k) as (λ b. (j == k) ≡ b → handed_at t e c h j ≡ None) [
        | true ↦ λ g. (let same : j ≡ k = eqb-true j k g in ap (handed_at t e c h) same ∙ off)
        | false ↦ λ g. (let other : j ≢ k = eqb-false j k g in p.none_since j after (omega arith))
      ] refl);
  is = p.is;
})
still t e c h k s off (inr u) = inr (record {
  none = λ j lt.
      (elim (j == k) as (λ b. (j == k) ≡ b → handed_at t e c h j ≡ None) [
        | true ↦ λ g. (let same : j ≡ k = eqb-true j k g in ap (handed_at t e c h) same ∙ off)
        | false ↦ λ g. (let other : j ≢ k = eqb-false j k g in u.none j (omega arith))
      ] refl);
  is = u.is;
})

held : (t : Tables) (e c : ℕ) (h : List Entry) (k : ℕ) (s o : Option ℕ) → handed_at t e c h k ≡ o → Holds t e c h k s → Holds t e c h (suc k) (latest o s)
held t e c h k s None off p = still t e c h k s off p
held t e c h k s (Some b) hand p =
    inl (record { i = k; receiver = b; before = omega arith; hand = hand; none_since = λ j after lt. absurd (omega arith); is = refl })

signaller_next : (t : Tables) (e c k : ℕ) (h : List Entry) (o : Option Entry) → slice_get h k ≡ o
    → signaller_at t e (past_at (suc k) h) c
    ≡ latest (option_and_then (λ (x : Entry). cond (is_place c (component_at t e (past_at k h) x.worker)) (hand_of e x.act) None) o) (signaller_at t e (past_at k h) c)
unfolding signallers_at
signaller_next t e c k h None at = ap (λ p. signaller_at t e p c) (past_end h k at)
signaller_next t e c k h (Some x) at = ap (λ p. signaller_at t e p c) (past_next h k x at) ∙ handed_place e x.worker c x.act (signallers_at t e (past_at k h))

pub last_receivers : SignallersAreTheLastReceivers
last_receivers t e c zero h = inr (record { none = λ i lt. absurd (omega arith); is = refl })
last_receivers t e c (suc k) h =
    subst (Holds t e c h (suc k)) (sym (signaller_next t e c k h (slice_get h k) refl))
    (held t e c h k (signaller_at t e (past_at k h) c) (handed_at t e c h k) refl (last_receivers t e c k h))
