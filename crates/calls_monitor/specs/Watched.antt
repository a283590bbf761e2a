-- Which objects a monitor judges event by event.
use Rattle.std.specs.Prelude.{◌≡◌, ℕ, ◌==◌, ◌&&◌, nat_lt, nat_le, List, Bool, true, false}
use Rattle.std.specs.List.{list_any}
use Rattle.calls_core.specs.declared.history.Kind.{Kind}
use Rattle.calls_core.specs.declared.history.Kind.TheVariants.{Eventcount, Sequencer, Semaphores}
use Rattle.calls_core.specs.declared.history.Kind.TheVariants.{Buffer}
use Rattle.calls_core.specs.declared.history.Event.{Event}
use Rattle.calls_core.specs.Histories.{part}
use Rattle.calls_spsc.specs.declared.monitor.TheConstants.{ROOM_MAX}
use Rattle.calls_spsc.specs.Flows.{IsSpsc}

abbrev pub is_listed : ℕ → List ℕ → Bool
is_listed k ks = list_any (λ j. j == k) ks

-- whether a buffer with room for n items can be judged so
abbrev pub has_fit_room : ℕ → Bool
has_fit_room n = nat_lt 0 n && nat_le n ROOM_MAX

-- whether an object of this kind is judged so; of a buffer it matters whether it is listed
abbrev pub is_made : Bool → Kind → Bool
is_made listed (Eventcount n) = true
is_made listed Sequencer = true
is_made listed (Semaphores units) = true
is_made listed (Buffer n) = listed && has_fit_room n
is_made listed _ = false

-- whether object k is judged so, if these are the indices of buffers with one producer and one
-- consumer
abbrev pub is_watched : List ℕ → ℕ → Kind → Bool
is_watched spsc k kind = is_made (is_listed k spsc) kind

-- each of these buffers has one producer and one consumer
abbrev pub AreSpsc : List ℕ → List Event → Type 0
AreSpsc spsc past = (k : ℕ) → is_listed k spsc ≡ true → IsSpsc (part k past)
