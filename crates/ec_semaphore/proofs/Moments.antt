-- What holds of the history so far at each moment.
use Rattle.std.proofs.Common.{◌≡◌, ℕ, zero, suc, ◌+◌, ◌≤◌, List, Option, Some, None, slice_get, refl, ap, sym, ◌∙◌, arith, cond, pos, ◌≤ℤ◌, ◌-ℤ◌}
use Rattle.std.specs.Option.{option_map_or}
use Rattle.std.proofs.Math.Nat.{zero-add}
use Rattle.std.proofs.lemmas.Int.{ints}
use Rattle.ec_core.specs.declared.act.Entry.{Entry}
use Rattle.ec_core.specs.Counts.{past_at, total, sum_to}
use Rattle.ec_core.proofs.shared.Breaks.{follow_of}
use Rattle.ec_core.proofs.shared.Moments.{past_next, past_end, moment_before, beginnings}
use Rattle.ec_semaphore.specs.Shapes.{Semaphore}
use Rattle.ec_semaphore.specs.Uses.{use_rules}
use Rattle.ec_semaphore.specs.Balances.{is_down, downs}
use Rattle.ec_semaphore.specs.InOrder.{down_at}
use Rattle.ec_semaphore.specs.Laws.{DownsCountCompletedAwaits, BalancesAreNeverNegative}
use Rattle.ec_semaphore.proofs.NeverNegative.{downs_few}

-- one more entry, or none
grown_by : (s : Semaphore) (k : ℕ) (h : List Entry) (o : Option Entry) → slice_get h k ≡ o
    → downs s (past_at (suc k) h) ≡ option_map_or (λ (x : Entry). cond (is_down s x (past_at k h)) 1 0) o 0 + downs s (past_at k h)
unfolding downs
grown_by s k h None at = ap (downs s) (past_end h k at) ∙ sym (zero-add (downs s (past_at k h)))
grown_by s k h (Some x) at = ap (downs s) (past_next h k x at)

pub downs_count : DownsCountCompletedAwaits
unfolding downs sum_to
downs_count s zero h = refl
downs_count s (suc k) h = grown_by s k h (slice_get h k) refl ∙ ap (λ n. down_at s h k + n) (downs_count s k h)

not_negative : (n m : ℕ) → m ≤ n → pos 0 ≤ℤ (pos n -ℤ pos m)
not_negative n m le = omega (arith, ints)

pub never_negative : BalancesAreNeverNegative
never_negative s t k h dec acc f =
    not_negative (s.initial + total s.count (past_at k h)) (downs s (past_at k h)) (downs_few s t (past_at k h) dec (beginnings t k h acc) (follow_of (use_rules s) h (past_at k h) f (moment_before h k)))
