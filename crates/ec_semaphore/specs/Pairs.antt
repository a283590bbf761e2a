-- The pairs of tickets that are drawn in critical sections.
use Rattle.std.specs.Prelude.{◌≡◌, ℕ, ◌<◌, Bool, List, [], ◌∷◌, ◌++◌, reverse, Option, Some, None, option_to_list}
use Rattle.ec_core.specs.declared.act.Act.{Act}
use Rattle.ec_core.specs.declared.act.Act.TheVariants.{Ticket}
use Rattle.ec_core.specs.declared.act.Entry.{Entry}
use Rattle.ec_core.specs.Following.{CompletedCall, block}
use Rattle.ec_core.specs.CallLists.{reply_number}
use Rattle.ec_semaphore.specs.declared.pair.Pair.{Pair}
use Rattle.ec_semaphore.specs.Shapes.{Semaphore}
use Rattle.ec_semaphore.specs.Both.{sequencer_number, is_semaphore_sequencer, both_rule}

-- the first ticket, and one more, if the act draws one
abbrev pub pair_after : CompletedCall → Entry → Act → Option Pair
pair_after r x (Ticket q) = Some (record { worker = x.worker; first = sequencer_number r.op; first_ticket = reply_number r.reply; second = q; second_ticket = reply_number x.reply })
pair_after r x _ = None

-- the pair that an entry completes, if its worker has made these calls of its critical section
abbrev pub pair_with : List CompletedCall → Entry → Option Pair
pair_with (t ∷ a ∷ r ∷ []) x = pair_after r x x.act
pair_with calls x = None

-- the pairs of a history so far, in the order in which they were completed
unfoldable pub pairs_in : Semaphore → (ℕ → Bool) → List Entry → List Pair
pairs_in c lines [] = []
pairs_in c lines (x ∷ past) = pairs_in c lines past ++ option_to_list (pair_with (block (both_rule c lines) x.worker past) x)

-- the pairs of a history
abbrev pub pairs_of : Semaphore → List Semaphore → List Entry → List Pair
pairs_of c shapes h = pairs_in c (is_semaphore_sequencer c shapes) (reverse h)

-- each ticket of the pair on q is below n
pub record IsBelow (q n : ℕ) (p : Pair) : Type 0 where
  pub first : p.first ≡ q → p.first_ticket < n
  pub second : p.second ≡ q → p.second_ticket < n

-- on each sequencer that the two pairs share, the one has the smaller ticket
abbrev pub IsEarlier : Pair → Pair → Type 0
IsEarlier p o = IsBelow o.first o.first_ticket p × IsBelow o.second o.second_ticket p
