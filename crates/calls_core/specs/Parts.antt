-- Some of the events of a history: by their indices, or those at its beginning.
use Rattle.std.specs.Prelude.{ℕ, List, map, take, Option, Some, None, slice_get}
use Rattle.calls_core.specs.declared.history.Action.TheVariants.{Respond}
use Rattle.calls_core.specs.declared.history.Reply.TheVariants.{Done}
use Rattle.calls_core.specs.declared.history.Event.{Event}
use Rattle.calls_core.specs.declared.part.Choice.{Choice}
use Rattle.calls_core.specs.declared.part.Choice.TheVariants.{First, At}

-- an event, or where there is none, a response that no call waits for
abbrev pub event_or_blank : Option Event → Event
event_or_blank None = record { at = 0; worker = 0; action = Respond Done }
event_or_blank (Some x) = x

abbrev pub event_at : List Event → ℕ → Event
event_at events i = event_or_blank (slice_get events i)

abbrev pub events_at : List Event → List ℕ → List Event
events_at events indices = map (event_at events) indices

abbrev pub chosen_events : List Event → Choice → List Event
chosen_events events (First n) = take n events
chosen_events events (At indices) = events_at events indices.now
