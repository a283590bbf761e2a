-- What is true of the workers of a buffer, and stays true as long as nothing changes it.
use Rattle.std.proofs.Common.{◌≡◌, ℕ, ◌+◌, ◌*◌, ◌<◌, ◌≤◌, Bool, true, false, ◌==◌, ◌&&◌, cond}
use Rattle.std.proofs.Common.{List, [], ◌∷◌, length, Option, Some, None, is_some, refl, ap}
use Rattle.std.proofs.Common.{sym, ◌∙◌, arith, subst}
use Rattle.std.proofs.lemmas.Bool.{eq-eqb, ne_eqb}
use Rattle.ec_count.specs.Tables.{Tables, IsDeclared}
use Rattle.ec_core.specs.declared.act.Entry.{Entry}
use Rattle.ec_core.specs.Counts.{total, is_advance}
use Rattle.ec_core.specs.Acceptance.{IsAccepted}
use Rattle.ec_core.specs.CallLists.{reply_number}
use Rattle.ec_core.specs.Following.{CompletedCall, block, Follow}
use Rattle.ec_buffer.specs.Shapes.{Buffer as Shape, IsShape}
use Rattle.ec_buffer.specs.CallLists.{drawn_ticket}
use Rattle.ec_buffer.specs.Follows.{role_rules}
use Rattle.ec_buffer.specs.Items.{put_on, is_get_on}
use Rattle.ec_buffer.proofs.Moves.{puts, gets, Moved, moved_if, produced, delivered}
use Rattle.ec_buffer.proofs.Moving.{produced_now, delivered_now}
use Rattle.ec_buffer.proofs.Numbering.{put_turn, next_get}
use Rattle.calls_core.specs.declared.history.Op.TheVariants.{Produce, Consume}
use Rattle.calls_core.specs.declared.history.PendingCall.{PendingCall}
use Rattle.calls_deliveries.specs.Seen.{last_got}
use Rattle.calls_kernel.proofs.Pending.{begun}

-- what a worker got last, after one more entry
pub got_own : (b : Shape) (x : Entry) (past : List Entry) (z : Bool)
    → is_get_on b x.act ≡ z
    → last_got b x.worker (x ∷ past) ≡ cond z (reply_number x.reply) (last_got b x.worker past)
unfolding last_got
got_own b x past z is =
    ap (λ c. cond (c && is_get_on b x.act) (reply_number x.reply) (last_got b x.worker past))
    (eq-eqb x.worker x.worker refl)
    ∙ ap (λ c. cond c (reply_number x.reply) (last_got b x.worker past)) is

pub got_other : (b : Shape) (x : Entry) (past : List Entry) (v : ℕ) → (x.worker == v) ≡ false
    → last_got b v (x ∷ past) ≡ last_got b v past
unfolding last_got
got_other b x past v is =
    ap (λ c. cond (c && is_get_on b x.act) (reply_number x.reply) (last_got b v past)) is

pub total_up : (e : ℕ) (x : Entry) (past : List Entry) → total e past ≤ total e (x ∷ past)
unfolding total
total_up e x past =
    elim (is_advance e x.act) as (λ c. total e past ≤ cond c 1 0 + total e past) [
      | true ↦ omega arith
      | false ↦ omega arith
    ]

puts_up : (b : Shape) (x : Entry) (past : List Entry) → puts b past ≤ puts b (x ∷ past)
unfolding puts
puts_up b x past =
    elim (is_some (put_on b x.act)) as (λ c. puts b past ≤ cond c 1 0 + puts b past) [
      | true ↦ omega arith
      | false ↦ omega arith
    ]

gets_up : (b : Shape) (x : Entry) (past : List Entry) → gets b past ≤ gets b (x ∷ past)
unfolding gets
gets_up b x past =
    elim (is_get_on b x.act) as (λ c. gets b past ≤ cond c 1 0 + gets b past) [
      | true ↦ omega arith
      | false ↦ omega arith
    ]

-- one more entry of an accepted history that follows the buffer
pub record IsOne (b : Shape) (produces : ℕ → Bool) (t : Tables) (x : Entry) (past : List Entry)
    : Type 0 where
  pub shape : IsShape b
  pub declared : IsDeclared t
  pub accepted : IsAccepted t (x ∷ past)
  pub follows : Follow (role_rules b produces) (x ∷ past)

module _ (b : Shape) (produces : ℕ → Bool) (t : Tables) (x : Entry) (past : List Entry)
    (one : IsOne b produces t x past) where
  abbrev own_number : ℕ
  own_number = drawn_ticket (block (role_rules b produces x.worker) x.worker past)

  -- an item that was put before stays the one with its number
  pub produced_stays : (i : ℕ) → i < puts b past
      → produced b produces i (x ∷ past) ≡ produced b produces i past
  unfolding produced
  produced_stays i lt =
      elim (put_on b x.act) as (λ o. put_on b x.act ≡ o
      → produced b produces i (x ∷ past) ≡ produced b produces i past) [
        | None ↦ λ is.
            ap (λ o. moved_if (own_number == i) x.worker o (produced b produces i past)) is
        | Some v ↦ λ is.
            produced_now b produces x past (puts b past) v i is
            (put_turn b produces t x past one.shape one.declared one.accepted one.follows
            (ap is_some is))
            ∙ ap (λ c. cond c (Some (record { worker = x.worker; item = v }))
            (produced b produces i past)) (ne_eqb (puts b past) i (λ e. omega arith))
      ] refl

  pub delivered_stays : (i : ℕ) → i < gets b past
      → delivered b produces i (x ∷ past) ≡ delivered b produces i past
  unfolding delivered
  delivered_stays i lt =
      elim (is_get_on b x.act) as (λ o. is_get_on b x.act ≡ o
      → delivered b produces i (x ∷ past) ≡ delivered b produces i past) [
        | false ↦ λ is.
            ap (λ g. moved_if (own_number == i) x.worker (cond g (Some (reply_number x.reply)) None)
            (delivered b produces i past)) is
        | true ↦ λ is.
            delivered_now b produces x past (gets b past) i is
            (next_get b produces t x past one.shape one.declared one.accepted one.follows is).turn
            ∙ ap (λ c. cond c (Some (record { worker = x.worker; item = reply_number x.reply }))
            (delivered b produces i past)) (ne_eqb (gets b past) i (λ e. omega arith))
      ] refl

-- WORKERS

module _ (b : Shape) (produces : ℕ → Bool) (item : ℕ → ℕ) where
  abbrev pub list_of : List Entry → ℕ → List CompletedCall
  list_of past w = block (role_rules b produces w) w past

  -- the item with this number was put, in room that stays
  pub record HasPut (past : List Entry) (turn : ℕ) : Type 0 where
    pub room : turn + 1 ≤ total b.out_count past + b.cells
    pub low : turn < puts b past
    pub moved : Moved
    pub is : produced b produces turn past ≡ Some moved
    pub value : moved.item ≡ item turn

  -- w has got the item with this number
  pub record HasGot (past : List Entry) (w turn : ℕ) : Type 0 where
    pub some : turn + 1 ≤ total b.in_count past
    pub low : turn < gets b past
    pub moved : Moved
    pub is : delivered b produces turn past ≡ Some moved
    pub value : moved.item ≡ last_got b w past

  -- the pending call of w, if these calls of its list are completed, and p says whether it produces
  abbrev pub IsAt : List Entry → ℕ → Bool → List CompletedCall → Option PendingCall → Type 0
  IsAt past w p [] o = o ≡ None
  IsAt past w true (c ∷ cs) o =
      (n : ℕ) × (o ≡ Some (begun n w 0 (Produce (item (reply_number c.reply)))))
      × (n ≤ 2 * length past) × (length cs ≡ 3 → HasPut past (reply_number c.reply))
  IsAt past w false (c ∷ cs) o =
      (n : ℕ) × (o ≡ Some (begun n w 0 Consume)) × (n ≤ 2 * length past)
      × (length cs ≡ 3 → HasGot past w (reply_number c.reply))

  module _ (t : Tables) (x : Entry) (past : List Entry) (one : IsOne b produces t x past) where
    put_stays : (turn : ℕ) → HasPut past turn → HasPut (x ∷ past) turn
    put_stays turn h =
        let room : turn + 1 ≤ total b.out_count past + b.cells = h.room in
        let low : turn < puts b past = h.low in
        record {
          room = omega (arith, total_up b.out_count x past);
          low = omega (arith, puts_up b x past);
          moved = h.moved;
          is = produced_stays b produces t x past one turn low ∙ h.is;
          value = h.value;
        }

    got_stays : (w turn : ℕ) → last_got b w (x ∷ past) ≡ last_got b w past → HasGot past w turn
        → HasGot (x ∷ past) w turn
    got_stays w turn same h =
        let some : turn + 1 ≤ total b.in_count past = h.some in
        let low : turn < gets b past = h.low in
        record {
          some = omega (arith, total_up b.in_count x past);
          low = omega (arith, gets_up b x past);
          moved = h.moved;
          is = delivered_stays b produces t x past one turn low ∙ h.is;
          value = h.value ∙ sym same;
        }

    pub at_stays : (w : ℕ) (p : Bool) (calls : List CompletedCall) (o : Option PendingCall)
        → last_got b w (x ∷ past) ≡ last_got b w past
        → IsAt past w p calls o → IsAt (x ∷ past) w p calls o
    at_stays w p [] o got h = h
    at_stays w true (c ∷ cs) o got h =
        let low : h.0 ≤ 2 * length past = h.2 in (
          h.0,
          h.1,
          omega arith,
          λ e. put_stays (reply_number c.reply) (h.3 e),
        )
    at_stays w false (c ∷ cs) o got h =
        let low : h.0 ≤ 2 * length past = h.2 in (
          h.0,
          h.1,
          omega arith,
          λ e. got_stays w (reply_number c.reply) got (h.3 e),
        )

  -- the same for the worker's own role and list
  pub at_role : (past : List Entry) (w : ℕ) (p : Bool) (calls : List CompletedCall)
      (o : Option PendingCall) → produces w ≡ p → list_of past w ≡ calls
      → IsAt past w (produces w) (list_of past w) o → IsAt past w p calls o
  at_role past w p calls o role is h =
      subst (λ cs. IsAt past w p cs o) is (subst (λ q. IsAt past w q (list_of past w) o) role h)

  pub at_own : (past : List Entry) (w : ℕ) (p : Bool) (calls : List CompletedCall)
      (o : Option PendingCall) → produces w ≡ p → list_of past w ≡ calls
      → IsAt past w p calls o → IsAt past w (produces w) (list_of past w) o
  at_own past w p calls o role is h =
      subst (λ q. IsAt past w q (list_of past w) o) (sym role)
      (subst (λ cs. IsAt past w p cs o) (sym is) h)
