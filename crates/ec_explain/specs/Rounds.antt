-- What a read or an await has read in its round: of each component its number, its signaller, and
-- the total of the eventcount, when the component was read.
use Rattle.std.specs.Prelude.{◌≡◌, ℕ, zero, suc, nat_lt, List, [], ◌∷◌, ◌++◌, length, take}
use Rattle.std.specs.Prelude.{Option, Some, None, option_map, unwrap_or, if◌then◌else◌}
use Rattle.std.specs.Option.{option_map_or}
use Rattle.ec_count.specs.Tables.{Tables}
use Rattle.ec_core.specs.declared.act.Act.{Act}
use Rattle.ec_core.specs.declared.act.Act.TheVariants.{Go}
use Rattle.ec_core.specs.declared.act.Entry.{Entry}
use Rattle.ec_core.specs.Calls.{CallSoFar, under_way}
use Rattle.ec_core.specs.Counts.{component_total, signaller_at, total}
use Rattle.ec_core.specs.Rounds.{event_or, next_component, component_count}
use Rattle.ec_explain.specs.declared.round.Look.{Look}

-- the count of component c of e after a reversed history, if there is one
abbrev pub held_in : Tables → ℕ → ℕ → List Entry → Option ℕ
held_in t e c past =
    if nat_lt c (component_count t e) then Some (component_total t e c past) else None

-- the total of e, 0 if it is not declared
abbrev pub total_of : Tables → ℕ → List Entry → ℕ
total_of t e past =
    unwrap_or (if nat_lt e (length t.events) then Some (total e past) else None) 0

-- what an entry that reads component c of e finds after a reversed history
abbrev pub look_at : Tables → ℕ → ℕ → List Entry → Look
look_at t e c past = record {
  component = c;
  number = unwrap_or (held_in t e c past) 0;
  signaller = signaller_at t e past c;
  position = length past;
  total = total_of t e past;
}

-- what was found of components 0 to i - 1 of e: the last was read at the first of the moments, and
-- so on back, as `sum_read` adds them
unfoldable pub looks_in : Tables → ℕ → ℕ → List (List Entry) → List Look
looks_in t e zero moments = []
looks_in t e (suc i) [] = []
looks_in t e (suc i) (past ∷ moments) = looks_in t e i moments ++ look_at t e i past ∷ []

-- how many components the round of a call has read so far, and what it has found
abbrev pub components_read : Tables → CallSoFar → ℕ
components_read t call = next_component t (event_or call.op) call.moments

abbrev pub looks_of : Tables → CallSoFar → List Look
looks_of t call = looks_in t (event_or call.op) (components_read t call) call.moments

-- what the round that w is in after a reversed history has found
abbrev pub looks_so_far : Tables → ℕ → List Entry → List Look
looks_so_far t w past = option_map_or (looks_of t) (under_way w past) []

-- the same with one more entry of the call after a reversed history, as `read_reply` adds it
abbrev pub looks_through : Tables → Act → List Entry → List (List Entry) → List Look
looks_through t op past moments =
    looks_in t (event_or op) (suc (next_component t (event_or op) moments)) (past ∷ moments)

-- what the round has found with an act of w after a reversed history: a `go` continues the call,
-- and a read or an await begins one
abbrev pub looks_with : Tables → ℕ → List Entry → Act → List Look
looks_with t w past Go =
    option_map_or (λ call. looks_through t call.op past call.moments) (under_way w past) []
looks_with t w past act = looks_through t act past []

-- ONE ENTRY

-- what an act of w finds after a reversed history
abbrev pub look_of : Tables → List Entry → CallSoFar → Look
look_of t past call = look_at t (event_or call.op) (components_read t call) past

abbrev pub next_look : Tables → ℕ → List Entry → Act → Option Look
next_look t w past Go = option_map (look_of t past) (under_way w past)
next_look t w past act = Some (look_at t (event_or act) 0 past)

-- a look takes the place of those of its component and of later ones
abbrev pub looks_after : Option Look → List Look → List Look
looks_after None looks = []
looks_after (Some look) looks = take look.component looks ++ look ∷ []

-- these looks begin with what the round that w is in after a reversed history has found
abbrev pub KeepsRound : Tables → ℕ → List Entry → List Look → Type 0
KeepsRound t w past looks =
    take (option_map_or (components_read t) (under_way w past) 0) looks ≡ looks_so_far t w past
