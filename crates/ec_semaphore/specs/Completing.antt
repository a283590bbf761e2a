-- What is kept of a worker's latest ticket.
use Rattle.std.specs.Prelude.{◌≡◌, ℕ, Bool, List, [], ◌∷◌, Some, slice_get}
use Rattle.ec_core.specs.declared.act.Act.{Act}
use Rattle.ec_core.specs.declared.act.Act.TheVariants.{Ticket}
use Rattle.ec_core.specs.declared.act.Entry.{Entry}
use Rattle.ec_core.specs.Following.{CompletedCall, block}
use Rattle.ec_core.specs.CallLists.{reply_number}
use Rattle.ec_semaphore.specs.declared.pairing.LatestTicket.{LatestTicket}
use Rattle.ec_semaphore.specs.Both.{sequencer_number, both_rule}
use Rattle.ec_semaphore.specs.Shapes.{Semaphore}

-- if a worker has drawn the first of two tickets, and not the second, this is it
abbrev pub IsDrawn : LatestTicket → List CompletedCall → Type 0
IsDrawn d calls = (t a r : CompletedCall) → calls ≡ t ∷ a ∷ r ∷ [] → d ≡ record { line = sequencer_number r.op; number = reply_number r.reply }

-- the latest ticket after an entry
abbrev pub drawn_after : LatestTicket → Entry → Act → LatestTicket
drawn_after d x (Ticket q) = record { line = q; number = reply_number x.reply }
drawn_after d x _ = d

-- the table has the first ticket of each worker that has drawn the first of two, and not the second
abbrev pub AreLatestTickets : Semaphore → (ℕ → Bool) → List LatestTicket → List Entry → Type 0
AreLatestTickets c lines latest past = (w : ℕ) (d : LatestTicket) → slice_get latest w ≡ Some d → IsDrawn d (block (both_rule c lines) w past)
