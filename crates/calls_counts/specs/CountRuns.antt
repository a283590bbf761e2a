-- Legal sequential histories of an eventcount, by its count. Only the proofs use this form.
use Rattle.std.specs.Prelude.{◌≡◌, ℕ, ◌+◌, ◌<◌, ◌≤◌, List, [], ◌∷◌}
use Rattle.std.specs.List.{AllPairs}
use Rattle.std.specs.List.Sorted.{IsPermutation}
use Rattle.calls_core.specs.declared.history.Op.{Op}
use Rattle.calls_core.specs.declared.history.Op.TheVariants.{Advance, Read, Await}
use Rattle.calls_core.specs.declared.history.Reply.{Reply}
use Rattle.calls_core.specs.declared.history.Reply.TheVariants.{Done, Number, Timeout}
use Rattle.calls_core.specs.declared.history.Call.{Call}
use Rattle.calls_core.specs.Linearizations.{KeepsOrder}

-- whether an eventcount at n may give this reply
abbrev pub CountGives : ℕ → Op → Reply → Type 0
CountGives n Advance r = r ≡ Done
CountGives n Read r = r ≡ Number n
CountGives n (Await v) Done = v ≤ n
CountGives n (Await v) (Number m) = (v ≤ n) × (m ≡ n)
CountGives n (Await v) Timeout = n < v
CountGives n _ r = Unit {0}

-- the count after a call
abbrev pub count_after : ℕ → Op → ℕ
count_after n Advance = n + 1
count_after n _ = n

-- whether the calls, one after another from the count n on, are a legal sequential history
abbrev pub IsCountRun : ℕ → List Call → Type 0
IsCountRun n [] = Unit {0}
IsCountRun n (c ∷ cs) = CountGives n c.op c.reply × IsCountRun (count_after n c.op) cs

-- the calls, each once and no others, in an order that keeps the real-time order and is a legal
-- sequential history from the count start on
pub record IsCountOrder (start : ℕ) (calls cs : List Call) : Type 0 where
  pub each_once : IsPermutation calls cs
  pub in_order : AllPairs KeepsOrder cs
  pub run : IsCountRun start cs
