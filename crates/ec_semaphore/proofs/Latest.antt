-- The latest ticket of each worker is the first of the two that it draws.
use Rattle.std.proofs.Common.{◌≡◌, ℕ, ◌<◌, Bool, true, false, List, [], ◌∷◌, ◌++◌, length, Option, Some, refl, ap, sym, ◌∙◌, arith, subst, cond, ◌==◌, slice_get, slice_set, get_or}
use Rattle.std.specs.Prelude.{option_to_list}
use Rattle.std.proofs.lemmas.Bool.{eqb-true}
use Rattle.std.proofs.lemmas.Option.{slice_get-get_or}
use Rattle.ec_count.specs.Tables.{Tables, IsDeclared}
use Rattle.ec_core.specs.declared.act.Act.TheVariants.{Ticket}
use Rattle.ec_core.specs.declared.act.Entry.{Entry}
use Rattle.ec_core.specs.declared.protocol.ListProgress.{ListProgress}
use Rattle.ec_core.specs.Acceptance.{IsAccepted}
use Rattle.ec_core.specs.Following.{CompletedCall, block, Follow}
use Rattle.ec_core.specs.CallLists.{reply_number}
use Rattle.ec_core.proofs.shared.Places.{get_set}
use Rattle.ec_core.proofs.shared.Following.{other_block}
use Rattle.ec_semaphore.specs.declared.pair.Pair.{Pair}
use Rattle.ec_semaphore.specs.declared.pairing.LatestTicket.{LatestTicket}
use Rattle.ec_semaphore.specs.Shapes.{Semaphore}
use Rattle.ec_semaphore.specs.Both.{sequencer_number, both_rule, both_rules}
use Rattle.ec_semaphore.specs.Auditing.{ArePaired}
use Rattle.ec_semaphore.specs.Completing.{IsDrawn, AreLatestTickets, drawn_after}
use Rattle.ec_semaphore.specs.Keeping.{list_progress_of_both}
use Rattle.ec_semaphore.specs.Pairs.{pair_after, pair_with, pairs_in}
use Rattle.ec_semaphore.proofs.Drawing.{draws_first}
use Rattle.ec_semaphore.proofs.TicketOrder.{pairs_at}

abbrev pair_from : ℕ → LatestTicket → ℕ → ℕ → Pair
pair_from w d q n = record { worker = w; first = d.line; first_ticket = d.number; second = q; second_ticket = n }

-- a ticket that is drawn as the second completes the pair
pub completed_is : (calls : List CompletedCall) (kept : ListProgress) (d : LatestTicket) (x : Entry) (q n : ℕ) → kept ≡ list_progress_of_both calls → kept.at ≡ 3 → IsDrawn d calls → x.act ≡ Ticket q → n ≡ reply_number x.reply
    → Some (record { worker = x.worker; first = d.line; first_ticket = d.number; second = q; second_ticket = n }) ≡ pair_with calls x
completed_is [] kept d x q n is at drawn act number = (let k = ap (λ (z : ListProgress). z.at) is in absurd (omega arith))
completed_is (t ∷ []) kept d x q n is at drawn act number = (let k = ap (λ (z : ListProgress). z.at) is in absurd (omega arith))
completed_is (t ∷ a ∷ []) kept d x q n is at drawn act number = (let k = ap (λ (z : ListProgress). z.at) is in absurd (omega arith))
completed_is (t ∷ a ∷ r ∷ []) kept d x q n is at drawn act number =
    let e = drawn t a r refl in
    ap (λ (z : LatestTicket). Some (pair_from x.worker z q n)) e
    ∙ ap (λ m. Some (pair_from x.worker (record { line = sequencer_number r.op; number = reply_number r.reply }) q m)) number
    ∙ sym (ap (pair_after r x) act)
completed_is (t ∷ a ∷ r ∷ s ∷ rest) kept d x q n is at drawn act number = (let k = ap (λ (z : ListProgress). z.at) is in absurd (omega arith))

latest_none : (c : Semaphore) (lines : ℕ → Bool) (latest : List LatestTicket)
    → AreLatestTickets c lines latest []
unfolding block
latest_none c lines latest w d at t a r e = cc

drawn_now : (c : Semaphore) (lines : ℕ → Bool) (t : Tables) (x : Entry) (past : List Entry) (d : LatestTicket) → IsDeclared t → IsAccepted t (x ∷ past) → Follow (both_rules c lines) (x ∷ past)
    → IsDrawn (drawn_after d x x.act) (block (both_rule c lines) x.worker (x ∷ past))
drawn_now c lines t x past d dec acc f u a r at =
    let k = draws_first c lines t x past u a r dec acc f at in
    let act : x.act ≡ Ticket (sequencer_number r.op) = ap (λ (e : Entry). e.act) k.is in
    let reply : reply_number x.reply ≡ reply_number r.reply = ap (λ (e : Entry). reply_number e.reply) k.is in
    ap (drawn_after d x) act ∙ ap (λ n. (let z : LatestTicket = record { line = sequencer_number r.op; number = n } in z)) reply

latest_next : (c : Semaphore) (lines : ℕ → Bool) (t : Tables) (x : Entry) (past : List Entry) (latest : List LatestTicket) (d : LatestTicket) → IsDeclared t → IsAccepted t (x ∷ past) → Follow (both_rules c lines) (x ∷ past)
    → x.worker < length latest → AreLatestTickets c lines latest past → AreLatestTickets c lines (slice_set latest x.worker (drawn_after d x x.act)) (x ∷ past)
latest_next c lines t x past latest d dec acc f room before =
    λ w e at.
    (let set = get_set latest x.worker w (drawn_after d x x.act) room in
    elim (x.worker == w) as (λ b. (x.worker == w) ≡ b → cond b (Some (drawn_after d x x.act)) (slice_get latest w) ≡ Some e → IsDrawn e (block (both_rule c lines) w (x ∷ past))) [
      | true ↦ λ q is.
          (let same : drawn_after d x x.act ≡ e = cc in
          let P : LatestTicket → Type 0 = λ z. IsDrawn z (block (both_rule c lines) w (x ∷ past)) in
          let Q : ℕ → Type 0 = λ v. IsDrawn (drawn_after d x x.act) (block (both_rule c lines) v (x ∷ past)) in
          subst P same (subst Q (eqb-true x.worker w q) (drawn_now c lines t x past d dec acc f)))
      | false ↦ λ q is.
          (let P : List CompletedCall → Type 0 = λ calls. IsDrawn e calls in
          subst P (sym (other_block (both_rule c lines) w x past q)) (before w e is))
    ] refl (sym set ∙ at))

-- the latest ticket of a worker in the table
drawn_at : (latest : List LatestTicket) (place w : ℕ) (d : LatestTicket) → length latest ≡ 16 → place ≡ w → place < 16 → slice_get latest w ≡ Some (get_or latest place d)
drawn_at latest place w d room at low = ap (slice_get latest) (sym at) ∙ slice_get-get_or latest place d (omega arith)

-- ONE MORE ENTRY, IN THE WORDS OF THE CODE

latest_more : (c : Semaphore) (lines : ℕ → Bool) (t : Tables) (x : Entry) (past : List Entry) (latest : List LatestTicket) (d e : LatestTicket) (place : ℕ) → IsDeclared t → IsAccepted t (x ∷ past)
    → Follow (both_rules c lines) (x ∷ past) → length latest ≡ 16 → place ≡ x.worker → place < 16 → e ≡ drawn_after d x x.act → AreLatestTickets c lines latest past
    → AreLatestTickets c lines (slice_set latest place e) (x ∷ past)
latest_more c lines t x past latest d e place dec acc f room at low is before =
    let Q : List LatestTicket → Type 0 = λ l. AreLatestTickets c lines l (x ∷ past) in
    let same : slice_set latest x.worker (drawn_after d x x.act) ≡ slice_set latest place e = ap (λ k. slice_set latest k (drawn_after d x x.act)) (sym at) ∙ ap (slice_set latest place) (sym is) in
    subst Q same (latest_next c lines t x past latest d dec acc f (omega arith) before)

pub pairs_more : (c : Semaphore) (lines : ℕ → Bool) (x : Entry) (past : List Entry) (ps now : List Pair) (o : Option Pair) → ps ≡ pairs_in c lines past → o ≡ pair_with (block (both_rule c lines) x.worker past) x
    → now ≡ ps ++ option_to_list o → now ≡ pairs_in c lines (x ∷ past)
pairs_more c lines x past ps now o before is after =
    after ∙ ap (λ z. z ++ option_to_list o) before ∙ ap (λ z. pairs_in c lines past ++ option_to_list z) is
    ∙ sym (pairs_at c lines x past (block (both_rule c lines) x.worker past) refl)

pub drawn_more : (c : Semaphore) (lines : ℕ → Bool) (t : Tables) (x : Entry) (past : List Entry) (latest : List LatestTicket) (d was_drawn e : LatestTicket) (place : ℕ) (o : Option Pair)
    → length latest ≡ 16 → place ≡ x.worker → place < 16 → e ≡ drawn_after was_drawn x x.act
    → (IsDrawn (get_or latest place d) (block (both_rule c lines) x.worker past) → o ≡ pair_with (block (both_rule c lines) x.worker past) x)
    → IsDeclared t → IsAccepted t (x ∷ past) → Follow (both_rules c lines) (x ∷ past) → AreLatestTickets c lines latest past
    → (o ≡ pair_with (block (both_rule c lines) x.worker past) x) × AreLatestTickets c lines (slice_set latest place e) (x ∷ past)
drawn_more c lines t x past latest d was_drawn e place o room at low is pair dec acc f was = (
  pair (was x.worker (get_or latest place d) (drawn_at latest place x.worker d room at low)),
  latest_more c lines t x past latest was_drawn e place dec acc f room at low is was,
)

pub paired_none : (c : Semaphore) (lines : ℕ → Bool) (latest : List LatestTicket) (list : List Pair) → list ≡ [] → ArePaired c lines latest list []
unfolding pairs_in
paired_none c lines latest list is = record { drawn = latest_none c lines latest; pairs = is }
