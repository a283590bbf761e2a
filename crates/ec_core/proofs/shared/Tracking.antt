-- A pass has the state that it says, also if entries whose calls are not on a group are left out.
use Rattle.std.proofs.Common.{◌≡◌, ℕ, zero, suc, ◌+◌, ◌<◌, Bool, true, false, not, ◌||◌, List, [], ◌∷◌, ◌++◌, Option, Some, None, is_some, refl, ap, sym, ◌∙◌, subst, ◌==◌, add-one, take, length, reverse, slice_get, slice_set}
use Rattle.std.proofs.lemmas.Bool.{eqb-true, and_parts}
use Rattle.std.proofs.lemmas.List.{reverse-append, reverse-reverse, length-reverse}
use Rattle.ec_core.specs.declared.act.Act.{Act}
use Rattle.ec_core.specs.declared.act.Act.TheVariants.{Advance, Read, Await, Go, Ticket, Put, Get, Hand}
use Rattle.ec_core.specs.declared.act.Entry.{Entry}
use Rattle.ec_core.specs.declared.act.Reply.{Reply}
use Rattle.ec_core.specs.declared.act.Reply.TheVariants.{Done, Number, Pending}
use Rattle.ec_core.specs.declared.audit.AuditFault.{AuditFault}
use Rattle.ec_core.specs.declared.audit.AuditFault.TheVariants.{NotFollowed, Memory}
use Rattle.ec_core.specs.declared.protocol.ListProgress.{ListProgress}
use Rattle.ec_core.specs.Audits.{IsFirstBreak}
use Rattle.ec_core.specs.Calls.{CallSoFar, under_way, is_go, is_pending, is_intermediate}
use Rattle.ec_core.specs.Counts.{past_at}
use Rattle.ec_core.specs.Following.{CompletedCall, Rule, opening_act, block_after, block, is_right, Follow, BreaksAt}
use Rattle.ec_core.specs.JoinedLists.{SpeaksOf}
use Rattle.ec_core.specs.Scanning.{TrackerModel, AreListProgress, IsFinding, IsTrackerModel}
use Rattle.ec_core.proofs.shared.Breaks.{break_at, follow_or_break}
use Rattle.ec_core.proofs.shared.Following.{op_at, off_block, other_block, block_pending}
use Rattle.ec_core.proofs.shared.Moments.{past_next}
use Rattle.ec_core.proofs.shared.Scans.{lists_after}
use Rattle.ec_core.proofs.shared.Stepping.{entry as entry_of}
use Rattle.ec_core.proofs.shared.Pasts.{pending_is}

-- WHAT WAS FOUND

newest_last : (x : Entry) (past : List Entry) → reverse past ++ x ∷ [] ≡ reverse (x ∷ past)
newest_last x past = sym (reverse-append (x ∷ []) past)

get_early : (h : List Entry) (y x : Entry) (k : ℕ) → slice_get h k ≡ Some x → slice_get (h ++ y ∷ []) k ≡ Some x
get_early [] y x k at = cc
get_early (z ∷ h) y x zero at = at
get_early (z ∷ h) y x (suc k) at = get_early h y x k at

early : (h : List Entry) (y x : Entry) (k : ℕ) → slice_get h k ≡ Some x → take k (h ++ y ∷ []) ≡ take k h
early [] y x k at = cc
early (z ∷ h) y x zero at = refl
early (z ∷ h) y x (suc k) at = ap (λ l. z ∷ l) (early h y x k at)

take_early : (h : List Entry) (y x : Entry) (k : ℕ) → slice_get h k ≡ Some x → past_at k (h ++ y ∷ []) ≡ past_at k h
take_early h y x k at = ap reverse (early h y x k at)

after_early : (h : List Entry) (y x : Entry) (k : ℕ) → slice_get h k ≡ Some x → past_at (k + 1) (h ++ y ∷ []) ≡ past_at (k + 1) h
after_early h y x k at =
    ap (λ n. past_at n (h ++ y ∷ [])) (add-one k) ∙ past_next (h ++ y ∷ []) k x (get_early h y x k at) ∙ ap (λ p. x ∷ p) (take_early h y x k at)
    ∙ sym (ap (λ n. past_at n h) (add-one k) ∙ past_next h k x at)

-- a first violation stays the first, whatever comes after it
break_stays : (rules : ℕ → Rule) (h : List Entry) (y : Entry) (w k : ℕ) → BreaksAt rules h w k → BreaksAt rules (h ++ y ∷ []) w k
break_stays rules h y w k b = record {
  entry = b.entry;
  is = get_early h y b.entry k b.is;
  by = b.by;
  before = subst (Follow rules) (sym (take_early h y b.entry k b.is)) b.before;
  breaks = λ f. b.breaks (subst (Follow rules) (after_early h y b.entry k b.is) f);
}

pub found_stays : (rules : ℕ → Rule) (fault : AuditFault) (x : Entry) (past : List Entry) → IsFinding rules (Some fault) past → IsFinding rules (Some fault) (x ∷ past)
found_stays rules (NotFollowed w k) x past b = subst (λ h. BreaksAt rules h w k) (newest_last x past) (break_stays rules (reverse past) x w k b)
found_stays rules Memory x past b = b

pub found_before : (rules : ℕ → Rule) (fault : Option AuditFault) (x : Entry) (past : List Entry) → is_some fault ≡ true → IsFinding rules fault past → IsFinding rules fault (x ∷ past)
found_before rules None x past is b = cc
found_before rules (Some fault) x past is b = found_stays rules fault x past b

pub none_before : (rules : ℕ → Rule) (fault : Option AuditFault) (past : List Entry) → is_some fault ≡ false → IsFinding rules fault past → Follow rules past
none_before rules None past is f = f
none_before rules (Some fault) past is b = cc

-- an entry that is not right is the first violation, if the history before it conformed
pub found_break : (rules : ℕ → Rule) (x : Entry) (past : List Entry) (place : ℕ) (right : Bool) → place ≡ length past → Follow rules past
    → right ≡ is_right (rules x.worker) (block (rules x.worker) x.worker past) x.act → right ≡ false → IsFinding rules (Some (NotFollowed x.worker place)) (x ∷ past)
found_break rules x past place right at f is wrong =
    let P : List Entry → Type 0 = λ p. Follow rules p in
    let R : List Entry → Type 0 = λ p. is_right (rules x.worker) (block (rules x.worker) x.worker p) x.act ≡ false in
    let back : past ≡ reverse (reverse past) = sym (reverse-reverse past) in
    break_at rules (reverse (x ∷ past)) (reverse past) [] x place (newest_last x past) (at ∙ sym (length-reverse past)) (subst P back f) (subst R back (sym is ∙ wrong))

-- what was found after all entries of a history
pub found_first : (rules : ℕ → Rule) (fault : AuditFault) (h : List Entry) → IsFinding rules (Some fault) (reverse h) → IsFirstBreak rules h fault
found_first rules fault h b = subst (λ l. IsFirstBreak rules l fault) (reverse-reverse h) b

pub found_either : (rules : ℕ → Rule) (fault : AuditFault) (h : List Entry) → IsFinding rules (Some fault) (reverse h) → Follow rules (reverse h) → ⊥
found_either rules (NotFollowed w k) h b f = follow_or_break rules h w k (found_first rules (NotFollowed w k) h b) f
found_either rules Memory h b f = b

-- A WHOLE TRACKER

abbrev pub tracked : List ListProgress → Option AuditFault → TrackerModel
tracked kept fault = record { kept = kept; fault = fault }

pub tracked_first : (rules : ℕ → Rule) (keeps : List CompletedCall → ListProgress) (kept : List ListProgress) (start : ListProgress) → start ≡ keeps []
    → ((w : ℕ) → w < 16 → slice_get kept w ≡ Some start) → IsTrackerModel rules keeps (tracked kept None) []
unfolding block
tracked_first rules keeps kept start e k = record { lists = λ w lt. k w lt ∙ ap Some e; finding = tt }

-- the progress in the lists is unchanged if a call stays pending
lists_pending : (rules : ℕ → Rule) (keeps : List CompletedCall → ListProgress) (kept : List ListProgress) (x : Entry) (past : List Entry) → is_pending x.reply ≡ true → AreListProgress rules keeps kept past → AreListProgress rules keeps kept (x ∷ past)
lists_pending rules keeps kept x past pending s = λ w lt. s w lt ∙ ap (λ b. Some (keeps b)) (sym (block_pending (rules w) w x past pending))

-- one more entry whose call stays pending, in the words of the code
pub tracked_pending : (rules : ℕ → Rule) (keeps : List CompletedCall → ListProgress) (kept : List ListProgress) (fault found : Option AuditFault) (x : Entry) (past : List Entry)
    → IsTrackerModel rules keeps (tracked kept fault) past → is_pending x.reply ≡ true → IsFinding rules found (x ∷ past) → IsTrackerModel rules keeps (tracked kept found) (x ∷ past)
tracked_pending rules keeps kept fault found x past s pending finding = record { lists = lists_pending rules keeps kept x past pending s.lists; finding = finding }

-- one more entry, in the words of the code
pub tracked_take : (rules : ℕ → Rule) (keeps : List CompletedCall → ListProgress) (kept : List ListProgress) (fault found : Option AuditFault) (x : Entry) (past : List Entry) (i : ℕ) (was k : ListProgress) (op : Act)
    → IsTrackerModel rules keeps (tracked kept fault) past → i ≡ x.worker → i < 16
    → was ≡ keeps (block (rules x.worker) x.worker past) → op ≡ op_at x past
    → ((calls : List CompletedCall) → was ≡ keeps calls → k ≡ keeps (block_after (rules x.worker) calls op x.reply))
    → IsFinding rules found (x ∷ past)
    → IsTrackerModel rules keeps (tracked (slice_set kept i k) found) (x ∷ past)
tracked_take rules keeps kept fault found x past i was k op s at lt was_is op_is list finding =
    let Small : ℕ → Type 0 = λ n. n < 16 in
    let Q : ℕ → Type 0 = λ n. AreListProgress rules keeps (slice_set kept n k) (x ∷ past) in
    record {
      lists = subst Q (sym at)
          (lists_after rules keeps kept x past k s.lists (subst Small at lt)
          (list (block (rules x.worker) x.worker past) was_is ∙ ap (λ a. keeps (block_after (rules x.worker) (block (rules x.worker) x.worker past) a x.reply)) op_is));
      finding = finding;
    }

-- ENTRIES THAT MAY BE LEFT OUT

not_true : (b c : Bool) → b ≡ false → not b || c ≡ true
not_true false c h = refl
not_true true c h = cc

right_off : (r : Rule) (calls : List CompletedCall) (act : Act) (o : Option CallSoFar) → r.concerns calls (opening_act act o) ≡ false → is_right r calls act ≡ true
right_off r calls Go o h = refl
right_off r calls (Advance e) o h = not_true (r.concerns calls (Advance e)) (r.fits calls (Advance e)) h
right_off r calls (Read e) o h = not_true (r.concerns calls (Read e)) (r.fits calls (Read e)) h
right_off r calls (Await e v) o h = not_true (r.concerns calls (Await e v)) (r.fits calls (Await e v)) h
right_off r calls (Ticket q) o h = not_true (r.concerns calls (Ticket q)) (r.fits calls (Ticket q)) h
right_off r calls (Put y v) o h = not_true (r.concerns calls (Put y v)) (r.fits calls (Put y v)) h
right_off r calls (Get y) o h = not_true (r.concerns calls (Get y)) (r.fits calls (Get y)) h
right_off r calls (Hand e f) o h = not_true (r.concerns calls (Hand e f)) (r.fits calls (Hand e f)) h

found_off : (rules : ℕ → Rule) (fault : Option AuditFault) (x : Entry) (past : List Entry)
    → is_right (rules x.worker) (block (rules x.worker) x.worker past) x.act ≡ true → IsFinding rules fault past → IsFinding rules fault (x ∷ past)
found_off rules None x past right f = (right, f)
found_off rules (Some fault) x past right b = found_stays rules fault x past b

block_off : (rules : ℕ → Rule) (x : Entry) (past : List Entry) (w : ℕ) → (rules x.worker).concerns (block (rules x.worker) x.worker past) (op_at x past) ≡ false
    → block (rules w) w (x ∷ past) ≡ block (rules w) w past
block_off rules x past w off =
    elim (x.worker == w) as (λ b. (x.worker == w) ≡ b → block (rules w) w (x ∷ past) ≡ block (rules w) w past) [
      | true ↦ λ h. (let P : ℕ → Type 0 = λ v. block (rules v) v (x ∷ past) ≡ block (rules v) v past in subst P (eqb-true x.worker w h) (off_block (rules x.worker) x past off))
      | false ↦ λ h. other_block (rules w) w x past h
    ] refl

-- if the rules concern only calls on a group, an entry whose call is not on it changes nothing
pub tracked_off : (rules : ℕ → Rule) (keeps : List CompletedCall → ListProgress) (is_on : Act → Bool) (z : TrackerModel) (x : Entry) (past : List Entry)
    → ((w : ℕ) → SpeaksOf (rules w) is_on) → is_on (op_at x past) ≡ false → IsTrackerModel rules keeps z past → IsTrackerModel rules keeps z (x ∷ past)
tracked_off rules keeps is_on z x past speaks off s =
    let apart : (rules x.worker).concerns (block (rules x.worker) x.worker past) (op_at x past) ≡ false = speaks x.worker (block (rules x.worker) x.worker past) (op_at x past) ∙ off in
    record {
      lists = λ w lt. s.lists w lt ∙ ap (λ b. Some (keeps b)) (sym (block_off rules x past w apart));
      finding = found_off rules z.fault x past (right_off (rules x.worker) (block (rules x.worker) x.worker past) x.act (under_way x.worker past) apart) s.finding;
    }

pub go_is : (act : Act) → is_go act ≡ true → act ≡ Go
go_is Go h = refl
go_is (Advance e) h = cc
go_is (Read e) h = cc
go_is (Await e v) h = cc
go_is (Ticket q) h = cc
go_is (Put y v) h = cc
go_is (Get y) h = cc
go_is (Hand e f) h = cc

-- the go of a worker that ends no call
abbrev pub going : ℕ → Entry
going w = record { worker = w; act = Go; reply = Pending }

going_is : (x : Entry) → is_intermediate x ≡ true → going x.worker ≡ x
going_is x on =
    let k = and_parts (is_go x.act) (is_pending x.reply) on in
    let act : x.act ≡ Go = go_is x.act k.0 in
    let reply : x.reply ≡ Pending = pending_is x.reply k.1 in
    ap (λ a. entry_of x.worker a Pending) (sym act) ∙ ap (λ p. entry_of x.worker x.act p) (sym reply)

-- what holds after each go that ends no call
pub by_going : (P : Entry → Type 0) → ((w : ℕ) → P (going w)) → (x : Entry)
    → is_intermediate x ≡ true → P x
by_going P each x on = subst P (going_is x on) (each x.worker)

-- such a go changes nothing
pub tracked_going : (rules : ℕ → Rule) (keeps : List CompletedCall → ListProgress) (z : TrackerModel) (w : ℕ) (past : List Entry) → IsTrackerModel rules keeps z past → IsTrackerModel rules keeps z (going w ∷ past)
tracked_going rules keeps z w past s =
    record { lists = lists_pending rules keeps z.kept (going w) past refl s.lists; finding = found_off rules z.fault (going w) past refl s.finding }
