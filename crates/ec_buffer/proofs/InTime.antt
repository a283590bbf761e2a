-- What is put and got in a history that follows a buffer, in order of time.
use Rattle.std.proofs.Common.{◌≡◌, ℕ, zero, suc, ◌+◌, ◌%◌, ◌<◌, Bool, true, false, List, [], ◌∷◌, Option, Some, None, is_some, refl, ap, sym, ◌∙◌, arith, subst, cond, ◌==◌, inl, inr, slice_get, reverse, take, count_by}
use Rattle.std.proofs.lemmas.Bool.{eqb-true, cases_lt}
use Rattle.std.proofs.lemmas.List.Sums.{sum_by-cons}
use Rattle.std.proofs.lemmas.List.Sorted.{sum_by-IsPermutation, IsPermutation-reverse}
use Rattle.ec_count.specs.Tables.{Tables, IsDeclared, may_take}
use Rattle.ec_core.specs.declared.act.Act.{Act}
use Rattle.ec_core.specs.declared.act.Act.TheVariants.{Advance, Read, Await, Go, Ticket, Put, Get, Hand}
use Rattle.ec_core.specs.declared.act.Reply.{Reply}
use Rattle.ec_core.specs.declared.act.Reply.TheVariants.{Number}
use Rattle.ec_core.specs.declared.act.Entry.{Entry}
use Rattle.ec_core.specs.Acceptance.{IsAccepted}
use Rattle.ec_core.specs.Calls.{CallSoFar, under_way}
use Rattle.ec_core.specs.CallLists.{reply_number}
use Rattle.ec_core.specs.Counts.{past_at, cell_value}
use Rattle.ec_core.specs.Following.{block, opening_act}
use Rattle.ec_core.proofs.shared.Following.{IsReplyTo, step_told}
use Rattle.ec_core.proofs.shared.Moments.{past_next, past_end, moment_before, accepted_of}
use Rattle.ec_core.proofs.shared.Breaks.{follow_of}
use Rattle.ec_buffer.specs.Shapes.{Buffer}
use Rattle.ec_buffer.specs.CallLists.{drawn_ticket}
use Rattle.ec_buffer.specs.Follows.{buffer_rules, FollowsBuffer}
use Rattle.ec_buffer.specs.Items.{put_on, is_get_on, PutsItem, GetsItem, puts_made, gets_made}
use Rattle.ec_buffer.specs.Laws.{IsFollowed, PutsGoByNumber, GetsGoByNumber, ItemsArePutOnce, ItemsAreGotOnce, WhatIsGotWasPut, PutsWaitForRoom}
use Rattle.ec_buffer.proofs.Moves.{puts, gets, Moved, moved_if, produced, delivered, standing}
use Rattle.ec_buffer.proofs.Handing.{standing_item}
use Rattle.ec_buffer.proofs.Followed.{handing}
use Rattle.ec_buffer.proofs.Numbering.{IsNextGet, next_get, put_turn, put_after_get}
use Rattle.ec_core.proofs.shared.Counting.{turned_count}

-- COUNTS

puts_of : (b : Buffer) (past : List Entry) → puts b past ≡ puts_made b past
unfolding puts
puts_of b [] = refl
puts_of b (x ∷ past) = ap (λ n. cond (is_some (put_on b x.act)) 1 0 + n) (puts_of b past) ∙ sym (sum_by-cons (λ (y : Entry). cond (is_some (put_on b y.act)) 1 0) x past)

gets_of : (b : Buffer) (past : List Entry) → gets b past ≡ gets_made b past
unfolding gets
gets_of b [] = refl
gets_of b (x ∷ past) = ap (λ n. cond (is_get_on b x.act) 1 0 + n) (gets_of b past) ∙ sym (sum_by-cons (λ (y : Entry). cond (is_get_on b y.act) 1 0) x past)

pub puts_count : (b : Buffer) (h : List Entry) → puts b (reverse h) ≡ puts_made b h
puts_count b h = puts_of b (reverse h) ∙ turned_count (λ x. is_some (put_on b x.act)) h

pub gets_count : (b : Buffer) (h : List Entry) → gets b (reverse h) ≡ gets_made b h
gets_count b h = gets_of b (reverse h) ∙ turned_count (λ x. is_get_on b x.act) h

-- an entry that is counted makes the count rise
count_rises : (p : Entry → Bool) (h : List Entry) (j k : ℕ) (x : Entry) → slice_get h j ≡ Some x → p x ≡ true → j < k → count_by p (take j h) < count_by p (take k h)
count_rises p [] j k x at on lt = cc
count_rises p (y ∷ ys) zero zero x at on lt = absurd (omega arith)
count_rises p (y ∷ ys) zero (suc k) x at on lt =
    let same : y ≡ x = cc in
    let one : count_by p (take (suc k) (y ∷ ys)) ≡ cond {A = ℕ} (p y) 1 0 + count_by p (take k ys) = sum_by-cons (λ (z : Entry). cond (p z) 1 0) y (take k ys) in
    let here : cond {A = ℕ} (p y) 1 0 ≡ 1 = ap (λ (b : Bool). cond {A = ℕ} b 1 0) (ap p same ∙ on) in
    omega arith
count_rises p (y ∷ ys) (suc j) zero x at on lt = absurd (omega arith)
count_rises p (y ∷ ys) (suc j) (suc k) x at on lt =
    let one : count_by p (take (suc j) (y ∷ ys)) ≡ cond {A = ℕ} (p y) 1 0 + count_by p (take j ys) = sum_by-cons (λ (z : Entry). cond (p z) 1 0) y (take j ys) in
    let other : count_by p (take (suc k) (y ∷ ys)) ≡ cond {A = ℕ} (p y) 1 0 + count_by p (take k ys) = sum_by-cons (λ (z : Entry). cond (p z) 1 0) y (take k ys) in
    let rest = count_rises p ys j k x at on (omega arith) in
    omega arith

-- two entries at which a count is the same, and which are counted, are one
counted_once : (p : Entry → Bool) (h : List Entry) (j k n : ℕ) (x y : Entry) → slice_get h j ≡ Some x → slice_get h k ≡ Some y → p x ≡ true → p y ≡ true → count_by p (take j h) ≡ n → count_by p (take k h) ≡ n → j ≡ k
counted_once p h j k n x y at there on too first second =
    elim (cases_lt j k) [
      | inl lt ↦ (let more = count_rises p h j k x at on lt in absurd (omega arith))
      | inr ge ↦ elim (cases_lt k j) [
        | inl lt ↦ (let more = count_rises p h k j y there too lt in absurd (omega arith))
        | inr le ↦ omega arith
      ]
    ]

-- ONE ENTRY

-- what is true of an entry of a history that follows
pub record IsEntry (t : Tables) (b : Buffer) (h : List Entry) (k : ℕ) (x : Entry) : Type 0 where
  pub accepted : IsAccepted t (x ∷ past_at k h)
  pub followed : FollowsBuffer t b (x ∷ past_at k h)

pub entry_at : (t : Tables) (b : Buffer) (h : List Entry) (k : ℕ) (x : Entry) → IsFollowed t b h → slice_get h k ≡ Some x → IsEntry t b h k x
entry_at t b h k x f at = record {
  accepted = subst (IsAccepted t) (past_next h k x at) (accepted_of t h (past_at (suc k) h) f.accepted (moment_before h (suc k)));
  followed = subst (FollowsBuffer t b) (past_next h k x at) (follow_of (buffer_rules t b) h (past_at (suc k) h) f.followed (moment_before h (suc k)));
}

told_get : (b : Buffer) (t : Tables) (past : List Entry) (act : Act) (o : Option CallSoFar) (reply : Reply) → IsReplyTo t past (opening_act act o) reply → is_get_on b act ≡ true → reply ≡ Number (reply_number reply)
told_get b t past (Get y) o reply h on = h ∙ ap Number (sym (ap reply_number h))
told_get b t past (Put y v) o reply h on = cc
told_get b t past (Advance e) o reply h on = cc
told_get b t past (Read e) o reply h on = cc
told_get b t past (Await e v) o reply h on = cc
told_get b t past Go o reply h on = cc
told_get b t past (Ticket q) o reply h on = cc
told_get b t past (Hand e c) o reply h on = cc

-- a get returns a number
pub get_told : (b : Buffer) (t : Tables) (x : Entry) (past : List Entry) → IsDeclared t → IsAccepted t (x ∷ past) → is_get_on b x.act ≡ true → x.reply ≡ Number (reply_number x.reply)
get_told b t x past d acc on = told_get b t past x.act (under_way x.worker past) x.reply (step_told t x past d acc) on

-- BY NUMBER

pub puts_go : PutsGoByNumber
puts_go t b h f k n worker item p =
    let e = entry_at t b h k p.entry f p.is in
    sym (puts_count b (take k h))
    ∙ sym (put_turn b (may_take t b.put_seq) t p.entry (past_at k h) f.shape f.declared e.accepted e.followed (ap is_some p.puts))
    ∙ ap (λ (v : ℕ). drawn_ticket (block (buffer_rules t b v) v (past_at k h))) p.by ∙ p.ticket

-- what is true of a get
pub get_next : (t : Tables) (b : Buffer) (h : List Entry) (k : ℕ) (x : Entry) → IsFollowed t b h → slice_get h k ≡ Some x → is_get_on b x.act ≡ true → IsNextGet b (may_take t b.put_seq) x (past_at k h)
get_next t b h k x f at get =
    let e = entry_at t b h k x f at in
    next_get b (may_take t b.put_seq) t x (past_at k h) f.shape f.declared e.accepted e.followed get

gets_number : (t : Tables) (b : Buffer) (h : List Entry) (k n worker item : ℕ) → IsFollowed t b h → GetsItem t b h k n worker item → gets b (past_at k h) ≡ n
gets_number t b h k n worker item f p =
    sym (get_next t b h k p.entry f p.is p.gets).turn ∙ ap (λ (v : ℕ). drawn_ticket (block (buffer_rules t b v) v (past_at k h))) p.by ∙ p.ticket

pub gets_go : GetsGoByNumber
gets_go t b h f k n worker item p = sym (gets_count b (take k h)) ∙ gets_number t b h k n worker item f p

pub put_once : ItemsArePutOnce
put_once t b h f j k n v w x y p q =
    counted_once (λ (z : Entry). is_some (put_on b z.act)) h j k n p.entry q.entry p.is q.is (ap is_some p.puts) (ap is_some q.puts) (puts_go t b h f j n v x p) (puts_go t b h f k n w y q)

pub got_once : ItemsAreGotOnce
got_once t b h f j k n v w x y p q =
    counted_once (λ (z : Entry). is_get_on b z.act) h j k n p.entry q.entry p.is q.is p.gets q.gets (gets_go t b h f j n v x p) (gets_go t b h f k n w y q)

-- WHO PUT AND WHO GOT

-- an item is put by some entry before the moment
pub record IsPutBefore (t : Tables) (b : Buffer) (h : List Entry) (k n : ℕ) (m : Moved) : Type 0 where
  pub place : ℕ
  pub before : place < k
  pub puts : PutsItem t b h place n m.worker m.item

pub record IsGotBefore (t : Tables) (b : Buffer) (h : List Entry) (k n : ℕ) (m : Moved) : Type 0 where
  pub place : ℕ
  pub before : place < k
  pub gets : GetsItem t b h place n m.worker m.item

put_later : (t : Tables) (b : Buffer) (h : List Entry) (k n : ℕ) (m : Moved) → IsPutBefore t b h k n m → IsPutBefore t b h (suc k) n m
put_later t b h k n m p = (let lt : p.place < k = p.before in record { place = p.place; before = omega arith; puts = p.puts })

got_later : (t : Tables) (b : Buffer) (h : List Entry) (k n : ℕ) (m : Moved) → IsGotBefore t b h k n m → IsGotBefore t b h (suc k) n m
got_later t b h k n m p = (let lt : p.place < k = p.before in record { place = p.place; before = omega arith; gets = p.gets })

put_here : (t : Tables) (b : Buffer) (h : List Entry) (k n v : ℕ) (x : Entry) (m : Moved) → slice_get h k ≡ Some x → put_on b x.act ≡ Some v → (mine : Bool)
    → ((drawn_ticket (block (buffer_rules t b x.worker) x.worker (past_at k h)) == n) ≡ mine)
    → cond mine (Some (record { worker = x.worker; item = v })) (produced b (may_take t b.put_seq) n (past_at k h)) ≡ Some m
    → (produced b (may_take t b.put_seq) n (past_at k h) ≡ Some m → IsPutBefore t b h (suc k) n m) → IsPutBefore t b h (suc k) n m
put_here t b h k n v x m at puts true is e before =
    let made : Moved = record { worker = x.worker; item = v } in
    let same : made ≡ m = cc in
    subst (IsPutBefore t b h (suc k) n) same (record { place = k; before = omega arith; puts = record { entry = x; is = at; by = refl; puts = puts; ticket = eqb-true _ n is } })
put_here t b h k n v x m at puts false is e before = before e

put_step : (t : Tables) (b : Buffer) (h : List Entry) (k n : ℕ) (x : Entry) (m : Moved) (o : Option ℕ) → slice_get h k ≡ Some x → put_on b x.act ≡ o
    → moved_if (drawn_ticket (block (buffer_rules t b x.worker) x.worker (past_at k h)) == n) x.worker o (produced b (may_take t b.put_seq) n (past_at k h)) ≡ Some m
    → (produced b (may_take t b.put_seq) n (past_at k h) ≡ Some m → IsPutBefore t b h (suc k) n m) → IsPutBefore t b h (suc k) n m
put_step t b h k n x m None at puts e before = before e
put_step t b h k n x m (Some v) at puts e before = put_here t b h k n v x m at puts (drawn_ticket (block (buffer_rules t b x.worker) x.worker (past_at k h)) == n) refl e before

pub produced_before : (t : Tables) (b : Buffer) (h : List Entry) (k n : ℕ) (m : Moved) → produced b (may_take t b.put_seq) n (past_at k h) ≡ Some m → IsPutBefore t b h k n m
unfolding produced
produced_before t b h zero n m e = cc
produced_before t b h (suc k) n m e =
    elim (slice_get h k) as (λ o. slice_get h k ≡ o → IsPutBefore t b h (suc k) n m) [
      | None ↦ λ at. put_later t b h k n m (produced_before t b h k n m (ap (produced b (may_take t b.put_seq) n) (sym (past_end h k at)) ∙ e))
      | Some x ↦ λ at. put_step t b h k n x m (put_on b x.act) at refl (ap (produced b (may_take t b.put_seq) n) (sym (past_next h k x at)) ∙ e) (λ g. put_later t b h k n m (produced_before t b h k n m g))
    ] refl

got_here : (t : Tables) (b : Buffer) (h : List Entry) (k n : ℕ) (x : Entry) (m : Moved) → IsFollowed t b h → slice_get h k ≡ Some x → is_get_on b x.act ≡ true → (mine : Bool)
    → ((drawn_ticket (block (buffer_rules t b x.worker) x.worker (past_at k h)) == n) ≡ mine)
    → cond mine (Some (record { worker = x.worker; item = reply_number x.reply })) (delivered b (may_take t b.put_seq) n (past_at k h)) ≡ Some m
    → (delivered b (may_take t b.put_seq) n (past_at k h) ≡ Some m → IsGotBefore t b h (suc k) n m) → IsGotBefore t b h (suc k) n m
got_here t b h k n x m f at get true is e before =
    let made : Moved = record { worker = x.worker; item = reply_number x.reply } in
    let same : made ≡ m = cc in
    let returned = get_told b t x (past_at k h) f.declared (entry_at t b h k x f at).accepted get in
    subst (IsGotBefore t b h (suc k) n) same (record { place = k; before = omega arith; gets = record { entry = x; is = at; by = refl; gets = get; returned = returned; ticket = eqb-true _ n is } })
got_here t b h k n x m f at get false is e before = before e

got_step : (t : Tables) (b : Buffer) (h : List Entry) (k n : ℕ) (x : Entry) (m : Moved) (get : Bool) → IsFollowed t b h → slice_get h k ≡ Some x → is_get_on b x.act ≡ get
    → moved_if (drawn_ticket (block (buffer_rules t b x.worker) x.worker (past_at k h)) == n) x.worker (cond get (Some (reply_number x.reply)) None) (delivered b (may_take t b.put_seq) n (past_at k h)) ≡ Some m
    → (delivered b (may_take t b.put_seq) n (past_at k h) ≡ Some m → IsGotBefore t b h (suc k) n m) → IsGotBefore t b h (suc k) n m
got_step t b h k n x m false f at get e before = before e
got_step t b h k n x m true f at get e before = got_here t b h k n x m f at get (drawn_ticket (block (buffer_rules t b x.worker) x.worker (past_at k h)) == n) refl e before

pub delivered_before : (t : Tables) (b : Buffer) (h : List Entry) (k n : ℕ) (m : Moved) → IsFollowed t b h → delivered b (may_take t b.put_seq) n (past_at k h) ≡ Some m → IsGotBefore t b h k n m
unfolding delivered
delivered_before t b h zero n m f e = cc
delivered_before t b h (suc k) n m f e =
    elim (slice_get h k) as (λ o. slice_get h k ≡ o → IsGotBefore t b h (suc k) n m) [
      | None ↦ λ at. got_later t b h k n m (delivered_before t b h k n m f (ap (delivered b (may_take t b.put_seq) n) (sym (past_end h k at)) ∙ e))
      | Some x ↦ λ at. got_step t b h k n x m (is_get_on b x.act) f at refl (ap (delivered b (may_take t b.put_seq) n) (sym (past_next h k x at)) ∙ e) (λ g. got_later t b h k n m (delivered_before t b h k n m f g))
    ] refl

-- DELIVERED IS PRODUCED

-- what a get finds: what is in the cell that it names is its item, and was put before
pub record FindsItem (t : Tables) (b : Buffer) (h : List Entry) (k n : ℕ) (x : Entry) : Type 0 where
  pub found : Moved
  pub represents : standing (b.first_cell + n % b.cells) (past_at k h) ≡ found
  pub item : found.item ≡ reply_number x.reply
  pub before : IsPutBefore t b h k n found

pub finds : (t : Tables) (b : Buffer) (h : List Entry) (k n : ℕ) (x : Entry) → IsFollowed t b h → slice_get h k ≡ Some x → is_get_on b x.act ≡ true → gets b (past_at k h) ≡ n → FindsItem t b h k n x
finds t b h k n x f at get turn =
    let past = past_at k h in
    let e = entry_at t b h k x f at in
    let next = get_next t b h k x f at get in
    let held = (handing b (may_take t b.put_seq) t past f.shape f.declared e.accepted.1 e.followed.1).stock.held (gets b past) next.put in
    let P : Act → Type 0 = λ a. IsReplyTo t past a x.reply in
    let returned : x.reply ≡ Number (cell_value (b.first_cell + gets b past % b.cells) past) = subst P next.op (step_told t x past f.declared e.accepted) in
    let represents : standing (b.first_cell + gets b past % b.cells) past ≡ held.0 = held.2 (omega arith) in
    let item : held.0.item ≡ reply_number x.reply = ap (λ (m : Moved). m.item) (sym represents) ∙ standing_item (b.first_cell + gets b past % b.cells) past ∙ sym (ap reply_number returned) in
    let Q : ℕ → Type 0 = λ i. FindsItem t b h k i x in
    subst Q turn (record { found = held.0; represents = represents; item = item; before = produced_before t b h k (gets b past) held.0 held.1 })

pub got_was_put : WhatIsGotWasPut
got_was_put t b h f k n consumer item p =
    let it = finds t b h k n p.entry f p.is p.gets (gets_number t b h k n consumer item f p) in
    let same : it.found.item ≡ item = it.item ∙ ap reply_number p.returned in
    (it.before.place, it.found.worker, it.before.before, subst (λ (v : ℕ). PutsItem t b h it.before.place n it.found.worker v) same it.before.puts)

pub puts_wait : PutsWaitForRoom
puts_wait t b h f j n producer item p =
    let e = entry_at t b h j p.entry f p.is in
    let turn = ap (λ (v : ℕ). drawn_ticket (block (buffer_rules t b v) v (past_at j h))) p.by ∙ p.ticket in
    let k = put_after_get b (may_take t b.put_seq) t p.entry (past_at j h) n f.shape f.declared e.accepted e.followed (ap is_some p.puts) turn in
    let got = delivered_before t b h j n k.0 f k.1 in
    (got.place, k.0.worker, k.0.item, got.before, got.gets)
