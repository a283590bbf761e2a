-- What a step does to the fields of a world: functions of these fields, not of a history.
use Rattle.std.specs.Prelude.{◌≡◌, ℕ, ◌+◌, ◌<◌, Bool, false, ◌==◌, nat_le, List, [], ◌∷◌, ◌++◌, reverse, Ok, Option, Some, None, is_some, if◌then◌else◌, slice_get, slice_set, slice_index, Result, unwrap_or}
use Rattle.std.specs.Option.{option_map, option_map_or}
use Rattle.ec_count.specs.Members.{index_of, replace_unless_member}
use Rattle.ec_count.specs.CountModel.{CountModel, count_up}
use Rattle.ec_core.specs.declared.act.Act.{Act}
use Rattle.ec_core.specs.declared.act.Act.TheVariants.{Advance, Read, Await, Go, Ticket, Put, Get, Hand}
use Rattle.ec_core.specs.declared.act.Reply.{Reply}
use Rattle.ec_core.specs.declared.act.Reply.TheVariants.{Done, Number, Pending}
use Rattle.ec_core.specs.declared.act.Entry.{Entry}
use Rattle.ec_core.specs.declared.act.Refusal.{Refusal}
use Rattle.ec_core.specs.declared.effect.Effect.{Effect}
use Rattle.ec_core.specs.declared.effect.Effect.TheVariants as effects
use Rattle.ec_core.specs.Progress.{Progress, RoundSoFar}
use Rattle.ec_core.specs.Rounds.{event_or, component_count, round_reply}
use Rattle.ec_core.specs.declared.act.TheConstants.{VALUE_MAX}
use Rattle.ec_core.specs.Acceptance.{refused_or, refusal_in, has_right, answer_of}
use Rattle.ec_core.specs.Standing.{State, count_at, StandsFor}
use Rattle.ec_core.specs.Calls.{under_way}
use Rattle.ec_core.specs.Following.{opening_act}
use Rattle.ec_core.specs.Values.{TellsAtMost}
use Rattle.ec_core.specs.Procedures.{IsReply}

abbrev pub is_full : Option CountModel → Bool
is_full None = false
is_full (Some n) = n.value == n.limit

-- the component of e that w signals now
abbrev pub component_in : State → ℕ → ℕ → Option ℕ
component_in s e w = index_of w (unwrap_or (slice_get s.signal e) [])

-- whether w has the right that the act needs; the right to signal is read in the table of those who
-- signal now
abbrev pub right_in : State → List Entry → ℕ → Act → Bool
right_in s past w (Advance e) = is_some (component_in s e w)
right_in s past w (Hand e b) = is_some (component_in s e w)
right_in s past w act = has_right s.setup past w act

-- whether the receiver of a hand signals the eventcount now
abbrev pub already_in : State → Act → Bool
already_in s (Hand e b) = is_some (component_in s e b)
already_in s _ = false

abbrev pub stored_progress : State → ℕ → Option Progress
stored_progress s w = unwrap_or (slice_get s.calls w) None

abbrev pub is_full_for : State → ℕ → Act → Bool
is_full_for s w (Advance e) = option_map_or (λ c. is_full (count_at s.counts e c)) (component_in s e w) false
is_full_for s w (Ticket q) = is_full (slice_get s.issued q)
is_full_for s w _ = false

abbrev pub count_value : Option CountModel → ℕ
count_value None = 0
count_value (Some n) = n.value

-- the effect of a read with this reply: a number ends the call, otherwise it continues this round
abbrev pub read_with : Reply → RoundSoFar → Effect
read_with (Number n) r = effects.End n
read_with _ r = effects.GoOn r

-- the effect of one more read of a pending call
abbrev pub read_component : Act → ℕ → ℕ → ℕ → Effect
read_component op component_count index sum =
    if nat_le component_count (index + 1)
    then read_with (round_reply op sum) (record { index = 0; sum = 0 })
    else effects.GoOn (record { index = index + 1; sum = sum })

abbrev pub new_progress : Act → Progress
new_progress op = record { op = op; index = 0; sum = 0 }

-- the call with this progress of its round
abbrev pub with_round : RoundSoFar → Progress → Progress
with_round r u = record { op = u.op; index = r.index; sum = r.sum }

-- the effect of the first read of a call, given that of a read in a pending call
abbrev pub as_first : Progress → Effect → Effect
as_first u (effects.GoOn r) = effects.Begin (with_round r u)
as_first u e = e

abbrev pub read_effect : State → Progress → Effect
read_effect s u = read_component u.op (component_count s.setup (event_or u.op)) u.index (count_value (count_at s.counts (event_or u.op) u.index) + u.sum)

-- the effect of an act of w that is not refused
abbrev pub effect_in : State → ℕ → Act → Effect
effect_in s w (Advance e) = effects.Raise e (unwrap_or (component_in s e w) 0)
effect_in s w (Read e) = as_first (new_progress (Read e)) (read_effect s (new_progress (Read e)))
effect_in s w (Await e v) =
    as_first (new_progress (Await e v)) (read_effect s (new_progress (Await e v)))
effect_in s w Go = option_map_or (read_effect s) (stored_progress s w) (effects.GoOn (record { index = 0; sum = 0 }))
effect_in s w (Ticket q) = effects.Draw q (count_value (slice_get s.issued q))
effect_in s w (Put x v) = effects.Put x v
effect_in s w (Get x) = effects.Get (slice_index s.cells x)
effect_in s w (Hand e b) = effects.Hand e b

-- the reply of an effect
abbrev pub reply_of_effect : Effect → Reply
reply_of_effect (effects.Raise e c) = Done
reply_of_effect (effects.Begin u) = Pending
reply_of_effect (effects.GoOn r) = Pending
reply_of_effect (effects.End n) = Number n
reply_of_effect (effects.Draw q n) = Number n
reply_of_effect (effects.Put x v) = Done
reply_of_effect (effects.Get n) = Number n
reply_of_effect (effects.Hand e b) = Done

-- xs, with f applied to the element at i
abbrev pub map_at : {X : Type 0} → (X → X) → List X → ℕ → List X
map_at f xs i = option_map_or (λ x. slice_set xs i (f x)) (slice_get xs i) xs

-- the state after an effect of w
abbrev pub apply_effect : State → ℕ → Effect → State
apply_effect s w (effects.Raise e c) = record s { counts = map_at (λ row. map_at count_up row c) s.counts e }
apply_effect s w (effects.Begin u) = record s { calls = slice_set s.calls w (Some u) }
apply_effect s w (effects.GoOn r) =
    record s { calls = map_at (option_map (with_round r)) s.calls w }
apply_effect s w (effects.End n) = record s { calls = slice_set s.calls w None }
apply_effect s w (effects.Draw q n) = record s { issued = map_at count_up s.issued q }
apply_effect s w (effects.Put x v) = record s { cells = slice_set s.cells x v }
apply_effect s w (effects.Get n) = s
apply_effect s w (effects.Hand e b) = record s { signal = map_at (λ ws. replace_unless_member (index_of w ws) b ws) s.signal e }

-- the act that began the call that an act of w is part of, if this call is pending
abbrev pub op_in : State → ℕ → Act → Act
op_in s w Go = option_map_or (λ u. u.op) (stored_progress s w) Go
op_in s w act = act

-- the id that an act names is within its bound
abbrev pub IsNamed : Act → Type 0
IsNamed (Advance e) = e < 32
IsNamed (Read e) = e < 32
IsNamed (Await e v) = e < 32
IsNamed Go = Unit {0}
IsNamed (Ticket q) = q < 32
IsNamed (Put x v) = x < 256
IsNamed (Get x) = x < 256
IsNamed (Hand e b) = e < 32

-- the refusal that the fields give, otherwise the effect of the act
abbrev pub effect_or_refusal : State → List Entry → ℕ → Act → Result Effect Refusal
effect_or_refusal s past w act =
    refused_or (refusal_in s.setup w act (is_some (stored_progress s w)) (right_in s past w act) (is_full_for s w act) (already_in s act)) (effect_in s w act)

-- the right step of w after a history: its reply, how large and of what kind it is, the history
-- that the state after it represents, and the act that began its call
pub record IsRightStep (s : State) (h : List Entry) (w : ℕ) (act : Act) (e : Effect) : Type 0 where
  pub answer : answer_of s.setup (reverse h) w act ≡ Ok (reply_of_effect e)
  pub small : TellsAtMost VALUE_MAX (reply_of_effect e)
  pub kind : IsReply act (reply_of_effect e)
  pub after : StandsFor (apply_effect s w e) (h
      ++ record { worker = w; act = act; reply = reply_of_effect e } ∷ [])
  pub op : op_in s w act ≡ opening_act act (under_way w (reverse h))
