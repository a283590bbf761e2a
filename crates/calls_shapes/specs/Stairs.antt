-- Stairs: numbers that rise by one with each call that is counted.
use Rattle.std.specs.Prelude.{◌≡◌, ℕ, ◌==◌, Bool, true, false, ◌&&◌, not, nat_le, nat_lt}
use Rattle.std.specs.Prelude.{List, map, filter, reverse}
use Rattle.std.specs.List.{list_any}
use Rattle.calls_core.specs.declared.history.Event.{Event}
use Rattle.calls_core.specs.declared.history.Call.{Call}
use Rattle.calls_core.specs.declared.history.PendingCall.{PendingCall}
use Rattle.calls_core.specs.Histories.{completed_calls}
use Rattle.calls_report.specs.Certificates.{is_timeout}
use Rattle.calls_shapes.specs.declared.tallies.CountFilter.{CountFilter}
use Rattle.calls_shapes.specs.declared.stairs.Portion.{Portion}
use Rattle.calls_shapes.specs.declared.stairs.Portion.TheVariants.{Called, Returned, Between}
use Rattle.calls_shapes.specs.declared.stairs.Portion.TheVariants.{CalledBy, ReturnedBy}
use Rattle.calls_shapes.specs.declared.stairs.StairSpan.{StairSpan}
use Rattle.calls_shapes.specs.declared.stairs.Stair.{Stair}
use Rattle.calls_shapes.specs.Tallies.{counts, is_counted, invokes_counted_call}

-- whether a completed call lies in the portion
abbrev pub lies_in : Portion → Call → Bool
lies_in Called c = true
lies_in Returned c = true
lies_in (Between from before) c = nat_le from c.first && nat_lt c.last before
lies_in (CalledBy by) c = nat_le c.first by
lies_in (ReturnedBy by) c = nat_le c.last by

-- whether a stair rises with a completed call
abbrev pub has_completed : CountFilter → Portion → Call → Bool
has_completed counted portion c = is_counted counted c && lies_in portion c

-- whether a stair rises with a pending call
abbrev pub has_pending : CountFilter → Portion → PendingCall → Bool
has_pending counted Called o = counts counted o.object o.op
has_pending counted Returned o = false
has_pending counted (Between from before) o = false
has_pending counted (CalledBy by) o = nat_le o.first by && counts counted o.object o.op
has_pending counted (ReturnedBy by) o = false

-- the positions of the responses of the completed calls with which a stair rises, in order
abbrev pub responses_in : CountFilter → Portion → List Event → List ℕ
responses_in counted portion events =
    map (λ (c : Call). c.last) (filter (has_completed counted portion)
    (reverse (completed_calls (reverse events))))

-- whether a completed call gave up that would be counted otherwise
abbrev pub gave_up : CountFilter → Call → Bool
gave_up counted c = counts counted c.object c.op && is_timeout c.reply

-- the positions of the invocations of those that gave up, in the order of their responses
abbrev pub given_up : CountFilter → List Event → List ℕ
given_up counted events =
    map (λ (c : Call). c.first) (filter (gave_up counted)
    (reverse (completed_calls (reverse events))))

-- whether an event up to this position is the invocation of a counted call, except for those at
-- some positions
abbrev pub is_called_by : CountFilter → ℕ → List ℕ → Event → Bool
is_called_by counted by others x =
    (invokes_counted_call counted x && nat_le x.at by)
    && not (list_any (λ (n : ℕ). n == x.at) others)

-- the positions of such invocations, in order
abbrev pub invocations_by : CountFilter → ℕ → List ℕ → List Event → List ℕ
invocations_by counted by others events =
    map (λ (x : Event). x.at) (filter (is_called_by counted by others) events)

-- the positions at which a stair rises, in order
abbrev pub rises_of : CountFilter → Portion → List Event → List ℕ
rises_of counted Called events =
    map (λ (x : Event). x.at) (filter (invokes_counted_call counted) events)
rises_of counted Returned events = responses_in counted Returned events
rises_of counted (Between from before) events =
    responses_in counted (Between from before) events
rises_of counted (CalledBy by) events =
    invocations_by counted by (given_up counted events) events
rises_of counted (ReturnedBy by) events = responses_in counted (ReturnedBy by) events

-- the stair of a course over these events
pub record IsStair (events : List Event) (span : StairSpan) (stair : Stair) : Type 0 where
  pub span_is : stair.span ≡ span
  pub rises : stair.rises.items ≡ rises_of span.counted span.portion events
