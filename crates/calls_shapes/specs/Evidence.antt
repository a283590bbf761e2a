-- The evidence of a fault: the calls that it names, and the courses of its stairs.
use Rattle.std.specs.Prelude.{ℕ, Bool, false, ◌==◌, ◌&&◌, List, [], ◌∷◌, reverse, if◌then◌else◌}
use Rattle.std.specs.List.{filter}
use Rattle.calls_core.specs.declared.history.Kind.{Kind}
use Rattle.calls_core.specs.declared.history.Op.{Op}
use Rattle.calls_core.specs.declared.history.Op.TheVariants.{Produce, Consume}
use Rattle.calls_core.specs.declared.history.Reply.{Reply}
use Rattle.calls_core.specs.declared.history.Reply.TheVariants.{Done, Number, Timeout}
use Rattle.calls_core.specs.declared.history.Event.{Event}
use Rattle.calls_core.specs.declared.history.Call.{Call}
use Rattle.calls_core.specs.Histories.{completed_calls}
use Rattle.calls_core.specs.Linearizations.{start}
use Rattle.calls_counts.specs.declared.fault.Fault as counts
use Rattle.calls_counts.specs.declared.fault.Fault.TheVariants as count
use Rattle.calls_counts.specs.Faults.{least}
use Rattle.calls_tickets.specs.declared.fault.Fault as tickets
use Rattle.calls_tickets.specs.declared.fault.Fault.TheVariants as ticket
use Rattle.calls_semaphores.specs.declared.fault.Fault as units
use Rattle.calls_buffers.specs.declared.fault.Fault as items
use Rattle.calls_buffers.specs.declared.fault.Fault.TheVariants as item
use Rattle.calls_cells.specs.declared.outcome.Fault as cells
use Rattle.calls_cells.specs.declared.outcome.Fault.TheVariants.{Distinct, Serial}
use Rattle.calls_distinct.specs.declared.cell.Fault as distincts
use Rattle.calls_distinct.specs.declared.cell.Fault.TheVariants as distinct
use Rattle.calls_verdict.specs.declared.verdict.Fault.{Fault}
use Rattle.calls_verdict.specs.declared.verdict.Fault.TheVariants as faults
use Rattle.calls_shapes.specs.declared.tallies.CountFilter.TheVariants.{Advances, Taking, Adding}
use Rattle.calls_shapes.specs.declared.tallies.CountFilter.TheVariants.{Produces, Consumes}
use Rattle.calls_shapes.specs.declared.stairs.Portion.TheVariants.{Called, Returned, Between}
use Rattle.calls_shapes.specs.declared.stairs.Portion.TheVariants.{CalledBy, ReturnedBy}
use Rattle.calls_shapes.specs.declared.stairs.StairSpan.{StairSpan}
use Rattle.calls_report.specs.Certificates.{is_timeout}

-- THE CALLS THAT A FAULT NAMES

abbrev pub counted_calls : counts.Fault → List Call
counted_calls (count.Below c) = c ∷ []
counted_calls (count.Few c) = c ∷ []
counted_calls (count.Many c) = c ∷ []
counted_calls (count.Since c s) = c ∷ s ∷ []

abbrev pub drawn_calls : tickets.Fault → List Call
drawn_calls (ticket.Twice c d) = c ∷ d ∷ []
drawn_calls (ticket.Turned c d) = c ∷ d ∷ []
drawn_calls (ticket.Drawn c) = c ∷ []

abbrev pub distinct_calls : distincts.Fault → List Call
distinct_calls (distinct.Nowhere c) = c ∷ []
distinct_calls (distinct.Stale c d) = c ∷ d ∷ []
distinct_calls (distinct.Alternate a b c d) = a ∷ b ∷ c ∷ d ∷ []

abbrev pub stored_calls : cells.Fault → List Call
stored_calls (Distinct f) = distinct_calls f
stored_calls (Serial f) = f.gets.items

-- whether a call puts an item in or takes it out
abbrev pub moves : ℕ → Op → Reply → Bool
moves item (Produce v) Done = v == item
moves item Consume (Number v) = v == item
moves item op r = false

-- whether it does so with the item that a consume returned from the buffer k
abbrev pub moves_as : ℕ → Reply → Call → Bool
moves_as k (Number item) c = (c.object == k) && moves item c.op c.reply
moves_as k Done c = false
moves_as k Timeout c = false

-- the completed calls that move the item that a consume returned, in the order of their responses
abbrev pub item_moves : List Event → Call → List Call
item_moves events c =
    filter (moves_as c.object c.reply) (reverse (completed_calls (reverse events)))

abbrev pub item_calls : List Event → items.Fault → List Call
item_calls events (item.Unproduced c taken put) = item_moves events c
item_calls events (item.Overfull c put taken) = c ∷ []
item_calls events (item.Crowded c left pending) = c ∷ []
item_calls events (item.Overtaken p c before later all) = p ∷ c ∷ []
item_calls events (item.Passed p c left pending) = p ∷ c ∷ []
item_calls events (item.Squeezed q p left pending) = q ∷ p ∷ []
item_calls events (item.Overdue bounds) = []
item_calls events (item.Outrun flow steps clash) = []

-- of these events
abbrev pub faulty_calls : List Event → Fault → List Call
faulty_calls events (faults.Count f) = counted_calls f
faulty_calls events (faults.Ticket f) = drawn_calls f
faulty_calls events (faults.Units f) = f.call ∷ []
faulty_calls events (faults.Value f) = stored_calls f
faulty_calls events (faults.Items f) = item_calls events f

-- THE COURSES OF ITS STAIRS

-- the advances of the eventcount k, whose initial count is start, that were invoked before the
-- response of c
abbrev pub few_span : ℕ → ℕ → Call → StairSpan
few_span start k c = record {
  counted = Advances k;
  portion = Called;
  from = 0;
  base = start;
  to = c.last;
}

-- those that had returned before the invocation of c
abbrev pub many_span : ℕ → ℕ → Call → StairSpan
many_span start k c = record {
  counted = Advances k;
  portion = Between 0 c.first;
  from = 0;
  base = start;
  to = c.first;
}

-- those between s and c, from what s says on; an await that gave up says nothing of a least count
abbrev pub since_span : ℕ → ℕ → Call → Call → StairSpan
since_span start k c s =
    if is_timeout s.reply then many_span start k c
    else record {
      counted = Advances k;
      portion = Between s.last c.first;
      from = s.last;
      base = least s.op s.reply;
      to = c.first;
    }

abbrev pub count_spans : ℕ → ℕ → counts.Fault → List StairSpan
count_spans start k (count.Below c) = []
count_spans start k (count.Few c) = few_span start k c ∷ []
count_spans start k (count.Many c) = many_span start k c ∷ []
count_spans start k (count.Since c s) = since_span start k c s ∷ []

-- the units that were added, and those that were taken
abbrev pub unit_spans : ℕ → units.Fault → List StairSpan
unit_spans n f =
    record {
      counted = Adding f.index;
      portion = Called;
      from = 0;
      base = n;
      to = f.call.last;
    } ∷ record {
      counted = Taking f.index;
      portion = Returned;
      from = 0;
      base = 0;
      to = f.call.last;
    } ∷ []

-- the items of buffer k that were put in up to the response of c, and how many at most there was
-- room for: the room, and one more for each consume that was called by then
abbrev pub full_spans : ℕ → ℕ → Call → List StairSpan
full_spans room k c =
    record {
      counted = Produces k;
      portion = ReturnedBy c.last;
      from = 0;
      base = 0;
      to = c.last;
    } ∷ record {
      counted = Consumes k;
      portion = CalledBy c.last;
      from = 0;
      base = room;
      to = c.last;
    } ∷ []

abbrev pub item_spans : ℕ → ℕ → items.Fault → List StairSpan
item_spans room k (item.Overfull c put taken) = full_spans room k c
item_spans room k (item.Unproduced c taken put) = []
item_spans room k (item.Crowded c left pending) = []
item_spans room k (item.Overtaken p c before later all) = []
item_spans room k (item.Passed p c left pending) = []
item_spans room k (item.Squeezed q p left pending) = []
item_spans room k (item.Overdue bounds) = []
item_spans room k (item.Outrun flow steps clash) = []

abbrev pub spans_of : List Kind → ℕ → Fault → List StairSpan
spans_of kinds k (faults.Count f) = count_spans (start kinds k 0) k f
spans_of kinds k (faults.Units f) = unit_spans (start kinds k f.index) f
spans_of kinds k (faults.Ticket f) = []
spans_of kinds k (faults.Value f) = []
spans_of kinds k (faults.Items f) = item_spans (start kinds k 0) k f
