-- The audit of a semaphore may leave out the entries whose calls are not on it.
use Rattle.std.proofs.Common.{◌≡◌, ℕ, ◌+◌, ◌&&◌, Bool, true, false, not, List, [], ◌∷◌, ◌++◌, Option, None, refl, ap, sym, subst, ◌∙◌, arith, cond, append-nil}
use Rattle.std.specs.Option.{option_to_list}
use Rattle.ec_core.specs.declared.act.Act.{Act}
use Rattle.ec_core.specs.declared.act.Act.TheVariants.{Advance, Read, Await, Go, Ticket, Put, Get, Hand}
use Rattle.ec_core.specs.declared.act.Entry.{Entry}
use Rattle.ec_core.specs.Counts.{total, is_advance}
use Rattle.ec_core.specs.Calls.{CallSoFar, under_way, is_pending}
use Rattle.ec_core.specs.Following.{CompletedCall, opening_act, block}
use Rattle.ec_core.proofs.shared.Following.{op_at, block_pending}
use Rattle.ec_core.proofs.shared.Tracking.{tracked_off, tracked_going, going, by_going}
use Rattle.ec_semaphore.specs.Shapes.{Semaphore}
use Rattle.ec_semaphore.specs.Auditing.{RepresentsBalance, ArePaired, RepresentsPairs, OthersMayBeLeftOut, GoesMayBeLeftOut, GoesMayBeLeftOutOfPairs}
use Rattle.ec_semaphore.specs.declared.pair.Pair.{Pair}
use Rattle.ec_semaphore.specs.declared.pairing.LatestTicket.{LatestTicket}
use Rattle.ec_semaphore.specs.Both.{is_semaphore_sequencer, both_rule, both_rules}
use Rattle.ec_semaphore.specs.Completing.{IsDrawn}
use Rattle.ec_semaphore.specs.Pairs.{pair_with, pairs_in}
use Rattle.ec_semaphore.specs.Keeping.{list_progress_of_use, list_progress_of_both}
use Rattle.ec_semaphore.specs.Uses.{is_on, use_rules}
use Rattle.ec_semaphore.specs.Balances.{is_await, is_down, downs, ups}

no_await : (s : Semaphore) (op : Act) → is_on s op ≡ false → is_await s.count op ≡ false
no_await s (Await e v) h = h
no_await s (Advance e) h = refl
no_await s (Read e) h = refl
no_await s Go h = refl
no_await s (Ticket q) h = refl
no_await s (Put y v) h = refl
no_await s (Get y) h = refl
no_await s (Hand e b) h = refl

no_advance : (s : Semaphore) (act : Act) (o : Option CallSoFar) → is_on s (opening_act act o) ≡ false → is_advance s.count act ≡ false
no_advance s (Advance e) o h = h
no_advance s (Await e v) o h = refl
no_advance s (Read e) o h = refl
no_advance s Go o h = refl
no_advance s (Ticket q) o h = refl
no_advance s (Put y v) o h = refl
no_advance s (Get y) o h = refl
no_advance s (Hand e b) o h = refl

downs_off : (s : Semaphore) (x : Entry) (past : List Entry) → is_on s (op_at x past) ≡ false → downs s (x ∷ past) ≡ downs s past
unfolding downs
downs_off s x past h =
    let none : cond {A = ℕ} (is_down s x past) 1 0 ≡ 0 = ap (λ b. cond (b && not (is_pending x.reply)) 1 0) (no_await s (op_at x past) h) in
    let next : downs s (x ∷ past) ≡ cond {A = ℕ} (is_down s x past) 1 0 + downs s past = refl in
    omega arith

ups_off : (s : Semaphore) (x : Entry) (past : List Entry) → is_on s (op_at x past) ≡ false → ups s (x ∷ past) ≡ ups s past
unfolding total
ups_off s x past h =
    let none : cond {A = ℕ} (is_advance s.count x.act) 1 0 ≡ 0 = ap (λ b. cond b 1 0) (no_advance s x.act (under_way x.worker past) h) in
    let next : total s.count (x ∷ past) ≡ cond {A = ℕ} (is_advance s.count x.act) 1 0 + total s.count past = refl in
    omega arith

pub counted_off : OthersMayBeLeftOut
counted_off a x past off s = record {
  tracked = tracked_off (use_rules a.shape) list_progress_of_use (is_on a.shape) a.tracked x past (λ w calls op. refl) off s.tracked;
  downs = s.downs ∙ sym (downs_off a.shape x past off);
  ups = s.ups ∙ sym (ups_off a.shape x past off);
}

-- A GO THAT ENDS NO CALL

none : (n : ℕ) → 0 + n ≡ n
none n = omega arith

downs_going : (s : Semaphore) (w : ℕ) (past : List Entry) → downs s (going w ∷ past) ≡ downs s past
unfolding downs
downs_going s w past = elim (is_await s.count (op_at (going w) past)) as (λ b. cond {A = ℕ} (b && false) 1 0 + downs s past ≡ downs s past) [ true ↦ none (downs s past) | false ↦ none (downs s past) ]

ups_going : (s : Semaphore) (w : ℕ) (past : List Entry) → ups s (going w ∷ past) ≡ ups s past
unfolding total
ups_going s w past = none (total s.count past)

pub counted_going : GoesMayBeLeftOut
counted_going a x past on s =
    by_going (λ y. RepresentsBalance a (y ∷ past)) (λ w. record {
      tracked = tracked_going (use_rules a.shape) list_progress_of_use a.tracked w past s.tracked;
      downs = s.downs ∙ sym (downs_going a.shape w past);
      ups = s.ups ∙ sym (ups_going a.shape w past);
    }) x on

no_pair : (calls : List CompletedCall) (w : ℕ) → pair_with calls (going w) ≡ None
no_pair [] w = refl
no_pair (t ∷ []) w = refl
no_pair (t ∷ a ∷ []) w = refl
no_pair (t ∷ a ∷ r ∷ []) w = refl
no_pair (t ∷ a ∷ r ∷ c ∷ calls) w = refl

pairs_going : (c : Semaphore) (lines : ℕ → Bool) (w : ℕ) (past : List Entry) → pairs_in c lines (going w ∷ past) ≡ pairs_in c lines past
unfolding pairs_in
pairs_going c lines w past = ap (λ o. pairs_in c lines past ++ option_to_list o) (no_pair (block (both_rule c lines) w past) w) ∙ append-nil (pairs_in c lines past)

paired_going : (c : Semaphore) (lines : ℕ → Bool) (latest : List LatestTicket) (list : List Pair) (w : ℕ) (past : List Entry) → ArePaired c lines latest list past → ArePaired c lines latest list (going w ∷ past)
paired_going c lines latest list w past p = record {
  drawn = λ v d at. (let P : List CompletedCall → Type 0 = λ calls. IsDrawn d calls in subst P (sym (block_pending (both_rule c lines) v (going w) past refl)) (p.drawn v d at));
  pairs = p.pairs ∙ sym (pairs_going c lines w past);
}

pub pairing_going : GoesMayBeLeftOutOfPairs
pairing_going a x past on s =
    let lines = is_semaphore_sequencer a.common a.shapes in
    by_going (λ y. RepresentsPairs a (y ∷ past)) (λ w. record {
      tracked = tracked_going (both_rules a.common lines) list_progress_of_both a.tracked w past s.tracked;
      paired = λ ok t declared accepted follow. paired_going a.common lines a.latest a.pairs w past (s.paired ok t declared accepted.1 follow.1);
    }) x on
