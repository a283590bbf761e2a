-- The first entries of examples/two-buffers.trace, and the calls on the buffer Flour in them.
use Rattle.std.proofs.Common.{◌≡◌, ℕ, List, [], ◌∷◌, reverse, refl}
use Rattle.ec_core.specs.declared.act.Act.{Act}
use Rattle.ec_core.specs.declared.act.Act.TheVariants as acts
use Rattle.ec_core.specs.declared.act.Reply.{Reply as StepReply}
use Rattle.ec_core.specs.declared.act.Reply.TheVariants as replies
use Rattle.ec_core.specs.declared.act.Entry.{Entry}
use Rattle.ec_buffer.specs.Shapes.{Buffer as Shape}
use Rattle.calls_core.specs.declared.history.Op.TheVariants.{Produce, Consume}
use Rattle.calls_core.specs.declared.history.Reply.TheVariants.{Done, Number}
use Rattle.calls_core.specs.declared.history.Action.{Action}
use Rattle.calls_core.specs.declared.history.Action.TheVariants.{Invoke, Respond}
use Rattle.calls_core.specs.declared.history.Event.{Event}
use Rattle.calls_deliveries.specs.Seen.{item_of, events_seen, last_got}

-- Flour, from mill, which is worker 0, to oven, which is worker 1
flour : Shape
flour = record {
  in_count = 0;
  out_count = 1;
  put_seq = 0;
  take_seq = 1;
  first_cell = 0;
  cells = 1;
}

entry : ℕ → Act → StepReply → Entry
entry w act reply = record { worker = w; act = act; reply = reply }

steps : List Entry
steps =
    entry 0 (acts.Ticket 0) (replies.Number 0)
    ∷ entry 0 (acts.Await 0 0) (replies.Number 0)
    ∷ entry 0 (acts.Await 1 0) (replies.Number 0)
    ∷ entry 0 (acts.Put 0 11) replies.Done
    ∷ entry 0 (acts.Advance 0) replies.Done
    ∷ entry 1 (acts.Ticket 1) (replies.Number 0)
    ∷ entry 1 (acts.Await 1 0) (replies.Number 0)
    ∷ entry 1 (acts.Await 0 1) (replies.Number 1)
    ∷ entry 0 (acts.Ticket 0) (replies.Number 1)
    ∷ entry 1 (acts.Get 0) (replies.Number 11)
    ∷ entry 1 (acts.Advance 1) replies.Done
    ∷ entry 0 (acts.Await 0 1) (replies.Number 1)
    ∷ entry 0 (acts.Await 1 1) (replies.Number 1)
    ∷ entry 1 (acts.Ticket 2) (replies.Number 0)
    ∷ entry 1 (acts.Await 2 0) (replies.Number 0)
    ∷ entry 1 (acts.Await 3 0) (replies.Number 0)
    ∷ entry 1 (acts.Put 1 11) replies.Done
    ∷ entry 2 (acts.Ticket 3) (replies.Number 0)
    ∷ entry 0 (acts.Put 0 12) replies.Done
    ∷ []

event : ℕ → ℕ → Action → Event
event at worker action = record { at = at; worker = worker; action = action }

-- the newest event is first. The second produce is pending
seen : events_seen flour (item_of flour steps) (reverse steps) ≡
    event 21 1 (Respond (Number 11))
    ∷ event 16 0 (Invoke 0 (Produce 12))
    ∷ event 10 1 (Invoke 0 Consume)
    ∷ event 9 0 (Respond Done)
    ∷ event 0 0 (Invoke 0 (Produce 11))
    ∷ []
unfolding flour entry steps event last_got
seen = refl
