-- Prefixes of histories.
use Rattle.std.specs.Prelude.{ℕ, nat_lt, List, [], ◌∷◌, reverse, take, if◌then◌else◌}
use Rattle.calls_core.specs.declared.history.Event.{Event}

-- the first i events, reversed
abbrev pub past_at : ℕ → List Event → List Event
past_at i events = reverse (take i events)

-- the events before position n, of a reversed history whose positions ascend
abbrev pub until : ℕ → List Event → List Event
until n [] = []
until n (x ∷ past) = if nat_lt x.at n then x ∷ past else until n past
