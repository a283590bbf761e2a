-- The dots: one for each entry that is shown, with the component that it read or raised.
use Rattle.std.specs.Prelude.{ℕ, List, [], ◌∷◌, ◌++◌, length, Option, Some, None, option_and_then}
use Rattle.std.specs.Prelude.{nat_lt, if◌then◌else◌}
use Rattle.ec_count.specs.Tables.{Tables}
use Rattle.ec_core.specs.declared.act.Act.{Act}
use Rattle.ec_core.specs.declared.act.Act.TheVariants.{Advance, Read, Await, Go}
use Rattle.ec_core.specs.declared.act.Entry.{Entry}
use Rattle.ec_core.specs.Calls.{CallSoFar, under_way}
use Rattle.ec_core.specs.Counts.{component_at, component_total}
use Rattle.ec_core.specs.Rounds.{event_or, next_component, read_event, component_count}
use Rattle.ec_draw.specs.declared.window.Window.{Window}
use Rattle.ec_draw.specs.declared.dot.Dot.{Dot}
use Rattle.ec_draw.specs.Windows.{shows}

-- the act that began the call that a go continues
abbrev pub gone_op : Option CallSoFar → Act
gone_op None = Go
gone_op (Some call) = call.op

-- the act that began the call of which an act of w is a step after the history so far
abbrev pub op_in : ℕ → List Entry → Act → Act
op_in w past Go = gone_op (under_way w past)
op_in w past act = act

-- the component that a go of a call reads
abbrev pub gone_component : Tables → Option CallSoFar → Option ℕ
gone_component t None = None
gone_component t (Some call) = Some (next_component t (event_or call.op) call.moments)

-- the component that an act of w reads or raises after the history so far: an advance raises w's
-- own, a read and an await begin with component 0, and a go reads the one that comes next; the
-- others have none
abbrev pub component_in : Tables → ℕ → List Entry → Act → Option ℕ
component_in t w past (Advance e) = component_at t e past w
component_in t w past (Read e) = Some 0
component_in t w past (Await e v) = Some 0
component_in t w past Go = gone_component t (under_way w past)
component_in t w past act = None

-- the number in component c of e after the history so far, if there is such a component
abbrev pub held_in : Tables → ℕ → ℕ → List Entry → Option ℕ
held_in t e c past =
    if nat_lt c (component_count t e) then Some (component_total t e c past) else None

-- what a go of a call reads
abbrev pub read_by_go : Tables → List Entry → Option CallSoFar → Option ℕ
read_by_go t past None = None
read_by_go t past (Some call) =
    option_and_then (λ e. held_in t e (next_component t (event_or call.op) call.moments) past)
    (read_event call.op)

-- what an act of w reads of its component after the history so far
abbrev pub number_in : Tables → ℕ → List Entry → Act → Option ℕ
number_in t w past (Read e) = held_in t e 0 past
number_in t w past (Await e v) = held_in t e 0 past
number_in t w past Go = read_by_go t past (under_way w past)
number_in t w past act = None

-- the dot of an entry that follows the history so far; the entry's position is the length of that
-- history
abbrev pub dot_of : Tables → List Entry → Entry → Dot
dot_of t past x =
    record {
      worker = x.worker;
      op = op_in x.worker past x.act;
      position = length past;
      component = component_in t x.worker past x.act;
      number = number_in t x.worker past x.act;
    }

-- the dots of the history so far: one for each entry that is shown, in order
unfoldable pub dots_of : Tables → Window → List Entry → List Dot
dots_of t w [] = []
dots_of t w (x ∷ past) =
    dots_of t w past ++ (if shows w (length past) then dot_of t past x ∷ [] else [])
