-- What a scan keeps of the list that a worker is in.
use Rattle.std.specs.Prelude.{List, [], ◌∷◌, length}
use Rattle.ec_core.specs.declared.protocol.ListProgress.{ListProgress}
use Rattle.ec_core.specs.Following.{CompletedCall}
use Rattle.ec_core.specs.CallLists.{reply_number}
use Rattle.ec_semaphore.specs.Both.{sequencer_number}

-- of P and V: the number that the first call returned, a ticket
abbrev pub list_progress_of_use : List CompletedCall → ListProgress
list_progress_of_use [] = record { at = 0; first = 0; second = 0 }
list_progress_of_use (t ∷ calls) =
    record { at = length (t ∷ calls); first = reply_number t.reply; second = 0 }

-- of a critical section: the ticket of the common semaphore until its turn has come, and the sequencer of the first of the two
-- tickets until the second is drawn
abbrev pub list_progress_of_both : List CompletedCall → ListProgress
list_progress_of_both [] = record { at = 0; first = 0; second = 0 }
list_progress_of_both (t ∷ []) = record { at = 1; first = reply_number t.reply; second = 0 }
list_progress_of_both (t ∷ a ∷ []) = record { at = 2; first = 0; second = 0 }
list_progress_of_both (t ∷ a ∷ r ∷ []) =
    record { at = 3; first = 0; second = sequencer_number r.op }
list_progress_of_both (t ∷ a ∷ r ∷ s ∷ calls) = record { at = length (t ∷ a ∷ r ∷ s ∷ calls); first = 0; second = 0 }
