-- Pending calls, in order of time: entry i, counted from 0, happens at moment i, after the first i entries.
use Rattle.std.specs.Prelude.{◌≡◌, ℕ, ◌<◌, ◌≤◌, Bool, false, ◌==◌, ◌&&◌, nat_le, List, [], ◌∷◌, zero, suc, Some, if◌then◌else◌, slice_get}
use Rattle.std.specs.Option.{option_map_or}
use Rattle.ec_core.specs.declared.act.Act.TheVariants.{Go}
use Rattle.ec_core.specs.declared.act.Reply.TheVariants.{Pending}
use Rattle.ec_core.specs.declared.act.Entry.{Entry}
use Rattle.ec_core.specs.Counts.{past_at}
use Rattle.ec_core.specs.Calls.{CallSoFar, is_go}

-- whether entry i is one of w's
abbrev pub is_own_at : ℕ → List Entry → ℕ → Bool
is_own_at w h i = option_map_or (λ (x : Entry). x.worker == w) (slice_get h i) false

-- the reversed histories before w's entries from position first up to moment k, the newest first
unfoldable pub own_moments : ℕ → List Entry → ℕ → ℕ → List (List Entry)
own_moments w h first zero = []
own_moments w h first (suc k) = if nat_le first k && is_own_at w h k then past_at k h ∷ own_moments w h first k else own_moments w h first k

-- the call of w that is pending at moment k: the entry at first began it, and is no go; w's entries
-- after it continued it; each reply is Pending; and the moments are those of these entries
pub record IsUnderWay (w : ℕ) (h : List Entry) (k : ℕ) (call : CallSoFar) : Type 0 where
  pub first : ℕ
  pub opening : Entry
  pub opens : slice_get h first ≡ Some opening
  pub opener : opening.worker ≡ w
  pub opening_act : opening.act ≡ call.op
  pub begins : is_go call.op ≡ false
  pub before : first < k
  pub goes : (i : ℕ) (x : Entry) → first < i → i < k → slice_get h i ≡ Some x → x.worker ≡ w → x.act ≡ Go
  pub pending : (i : ℕ) (x : Entry) → first ≤ i → i < k → slice_get h i ≡ Some x → x.worker ≡ w → x.reply ≡ Pending
  pub moments : call.moments ≡ own_moments w h first k
