-- Counting the completed P and V of a history so far, entry by entry.
use Rattle.std.proofs.Common.{◌≡◌, ℕ, ◌+◌, ◌≤◌, ◌&&◌, ◌<◌, ◌^◌, Bool, true, false, not, List, [], ◌∷◌, ◌++◌, length, refl, ap, sym, ◌∙◌, arith, cond, append_assoc}
use Rattle.ec_core.specs.declared.act.Act.{Act}
use Rattle.ec_core.specs.declared.act.Entry.{Entry}
use Rattle.ec_core.specs.Counts.{total, is_advance}
use Rattle.ec_core.specs.Calls.{is_pending}
use Rattle.ec_core.specs.Scanning.{IsTrackerModel}
use Rattle.ec_core.proofs.shared.Following.{op_at}
use Rattle.ec_semaphore.specs.Shapes.{Semaphore}
use Rattle.ec_semaphore.specs.Auditing.{BalanceAuditModel, RepresentsBalance}
use Rattle.ec_semaphore.specs.Keeping.{list_progress_of_use}
use Rattle.ec_semaphore.specs.Uses.{use_rules}
use Rattle.ec_semaphore.specs.Balances.{is_await, is_down, downs, ups}

one_at_most : (b : Bool) → cond b 1 0 ≤ 1
one_at_most true = omega arith
one_at_most false = omega arith

downs_at_most : (s : Semaphore) (past : List Entry) → downs s past ≤ length past
unfolding downs
downs_at_most s [] = omega arith
downs_at_most s (x ∷ past) = (let rest = downs_at_most s past in let most = one_at_most (is_down s x past) in omega arith)

ups_at_most : (e : ℕ) (past : List Entry) → total e past ≤ length past
unfolding total
ups_at_most e [] = omega arith
ups_at_most e (x ∷ past) = (let rest = ups_at_most e past in let most = one_at_most (is_advance e x.act) in omega arith)

-- one more entry, in the words of the code: the counts are no greater than the place of the entry
pub down_more : (s : Semaphore) (x : Entry) (past : List Entry) (place n sum : ℕ) (op : Act) (b : Bool) → place ≡ length past → place + 1 < 2 ^ 64 → n ≡ downs s past → op ≡ op_at x past
    → b ≡ (is_await s.count op && not (is_pending x.reply)) → (n + 1 < 2 ^ 64 → sum ≡ n + cond b 1 0) → sum ≡ downs s (x ∷ past)
unfolding downs
down_more s x past place n sum op b at low is began test more =
    let few = downs_at_most s past in
    let tested : b ≡ is_down s x past = test ∙ ap (λ o. is_await s.count o && not (is_pending x.reply)) began in
    let added : cond {A = ℕ} b 1 0 ≡ cond {A = ℕ} (is_down s x past) 1 0 = ap (λ v. cond v 1 0) tested in
    let next : downs s (x ∷ past) ≡ cond {A = ℕ} (is_down s x past) 1 0 + downs s past = refl in
    let now = more (omega arith) in
    omega arith

pub up_more : (s : Semaphore) (x : Entry) (past : List Entry) (place n sum : ℕ) (b : Bool) → place ≡ length past → place + 1 < 2 ^ 64 → n ≡ ups s past
    → b ≡ is_advance s.count x.act → (n + 1 < 2 ^ 64 → sum ≡ n + cond b 1 0) → sum ≡ ups s (x ∷ past)
unfolding total
up_more s x past place n sum b at low is test more =
    let few = ups_at_most s.count past in
    let added : cond {A = ℕ} b 1 0 ≡ cond {A = ℕ} (is_advance s.count x.act) 1 0 = ap (λ v. cond v 1 0) test in
    let next : total s.count (x ∷ past) ≡ cond {A = ℕ} (is_advance s.count x.act) 1 0 + total s.count past = refl in
    let now = more (omega arith) in
    omega arith

pub order_more : (done left entries others : List Entry) (x : Entry) → done ++ left ≡ entries → left ≡ x ∷ others → (done ++ x ∷ []) ++ others ≡ entries
order_more done left entries others x order next = append_assoc done (x ∷ []) others ∙ ap (λ r. done ++ r) (sym next) ∙ order

pub counted_first : (a : BalanceAuditModel) → a.downs ≡ 0 → a.ups ≡ 0 → IsTrackerModel (use_rules a.shape) list_progress_of_use a.tracked [] → RepresentsBalance a []
unfolding downs total
counted_first a downs_none ups_none tracked = record { tracked = tracked; downs = downs_none; ups = ups_none }
