-- The history of README.md, seen from outside.
use Rattle.std.proofs.Common.{◌≡◌, ℕ, List, [], ◌∷◌, false, refl}
use Rattle.ec_count.specs.Tables.{Tables}
use Rattle.ec_core.specs.declared.act.Act.TheVariants as acts
use Rattle.ec_core.specs.declared.act.Reply.TheVariants as replies
use Rattle.ec_core.specs.declared.act.Entry.{Entry}
use Rattle.calls_core.specs.declared.history.Op.TheVariants.{Advance, Read}
use Rattle.calls_core.specs.declared.history.Reply.TheVariants.{Done, Number}
use Rattle.calls_core.specs.declared.history.Action.{Action}
use Rattle.calls_core.specs.declared.history.Action.TheVariants.{Invoke, Respond}
use Rattle.calls_core.specs.declared.history.Event.{Event}
use Rattle.calls_kernel.specs.Outside.{events_of}

presses : Tables
presses = record {
  limit = 100;
  workers = 3;
  events = record { signal = 0 ∷ 1 ∷ []; observe = 2 ∷ []; fixed = false } ∷ [];
  takers = [];
  cells = [];
}

steps : List Entry
steps =
    record { worker = 2; act = acts.Read 0; reply = replies.Pending }
    ∷ record { worker = 0; act = acts.Advance 0; reply = replies.Done }
    ∷ record { worker = 1; act = acts.Advance 0; reply = replies.Done }
    ∷ record { worker = 1; act = acts.Advance 0; reply = replies.Done }
    ∷ record { worker = 2; act = acts.Go; reply = replies.Number 2 } ∷ []

event : ℕ → ℕ → Action → Event
event at worker action = record { at = at; worker = worker; action = action }

seen : events_of presses steps ≡
    event 0 2 (Invoke 0 Read)
    ∷ event 2 0 (Invoke 0 Advance) ∷ event 3 0 (Respond Done)
    ∷ event 4 1 (Invoke 0 Advance) ∷ event 5 1 (Respond Done)
    ∷ event 6 1 (Invoke 0 Advance) ∷ event 7 1 (Respond Done)
    ∷ event 9 2 (Respond (Number 2)) ∷ []
unfolding presses steps event
seen = refl
