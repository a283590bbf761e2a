-- The balance of a semaphore: its initial value, and the completed V, without the completed P.
use Rattle.std.specs.Prelude.{ℕ, ◌+◌, Bool, false, ◌==◌, ◌&&◌, not, List, [], ◌∷◌, if◌then◌else◌, ℤ, pos, ◌-ℤ◌}
use Rattle.ec_core.specs.declared.act.Act.{Act}
use Rattle.ec_core.specs.declared.act.Act.TheVariants.{Await}
use Rattle.ec_core.specs.declared.act.Entry.{Entry}
use Rattle.ec_core.specs.Counts.{total}
use Rattle.ec_core.specs.Calls.{under_way, is_pending}
use Rattle.ec_core.specs.Following.{opening_act}
use Rattle.ec_semaphore.specs.declared.parts.Balance.{Balance}
use Rattle.ec_semaphore.specs.Shapes.{Semaphore}

abbrev pub is_await : ℕ → Act → Bool
is_await e (Await f v) = f == e
is_await e _ = false

-- whether an entry completes a P: it ends an await of the semaphore's eventcount
abbrev pub is_down : Semaphore → Entry → List Entry → Bool
is_down s x past = is_await s.count (opening_act x.act (under_way x.worker past)) && not (is_pending x.reply)

-- the completed P
unfoldable pub downs : Semaphore → List Entry → ℕ
downs s [] = 0
downs s (x ∷ past) = (if is_down s x past then 1 else 0) + downs s past

-- the completed V: the advances of the semaphore's eventcount
abbrev pub ups : Semaphore → List Entry → ℕ
ups s past = total s.count past

abbrev pub balance_of : Semaphore → List Entry → ℤ
balance_of s past = pos (s.initial + ups s past) -ℤ pos (downs s past)

-- its parts
abbrev pub balance_parts : Semaphore → List Entry → Balance
balance_parts s past = record { initial = s.initial; downs = downs s past; ups = ups s past }
