-- What a world is in contracts, and which histories it represents.
use Rattle.std.specs.Prelude.{◌≡◌, ℕ, ◌<◌, List, Option, Some, slice_get, reverse}
use Rattle.std.specs.Option.{option_map, option_and_then}
use Rattle.ec_count.specs.Tables.{Tables, IsDeclared}
use Rattle.ec_count.specs.CountModel.{CountModel}
use Rattle.ec_core.specs.declared.act.Entry.{Entry}
use Rattle.ec_core.specs.Progress.{Progress}
use Rattle.ec_core.specs.Counts.{signallers_at, component_total, issued, cell_value}
use Rattle.ec_core.specs.Calls.{CallSoFar, under_way}
use Rattle.ec_core.specs.Rounds.{event_or, sum_read, next_component}
use Rattle.ec_core.specs.Acceptance.{IsAccepted}

pub record State : Type 0 where
  pub setup : Tables
  pub signal : List (List ℕ)
  pub counts : List (List CountModel)
  pub issued : List CountModel
  pub cells : List ℕ
  pub calls : List (Option Progress)

abbrev pub count_at : List (List CountModel) → ℕ → ℕ → Option CountModel
count_at counts e c =
    option_and_then (λ (row : List CountModel). slice_get row c) (slice_get counts e)

-- the progress of a pending call
abbrev pub call_progress : Tables → CallSoFar → Progress
call_progress t call =
    let e = event_or call.op in
    let c = next_component t e call.moments in
    record { op = call.op; index = c; sum = sum_read t e c call.moments }

abbrev pub progress_of : Tables → ℕ → List Entry → Option Progress
progress_of t w past = option_map (call_progress t) (under_way w past)

-- the state is that after past, a reversed history
pub record Represents (s : State) (past : List Entry) : Type 0 where
  pub declared : IsDeclared s.setup
  pub accepted : IsAccepted s.setup past
  pub signal : (e : ℕ) → e < 32 → slice_get s.signal e ≡ Some (signallers_at s.setup e past)
  pub counts : (e c : ℕ) → e < 32 → c < 16 → count_at s.counts e c ≡ Some (record { value = component_total s.setup e c past; limit = s.setup.limit })
  pub issued : (q : ℕ) → q < 32 → slice_get s.issued q ≡ Some (record { value = issued q past; limit = s.setup.limit })
  pub cells : (x : ℕ) → x < 256 → slice_get s.cells x ≡ Some (cell_value x past)
  pub calls : (w : ℕ) → w < 16 → slice_get s.calls w ≡ Some (progress_of s.setup w past)

-- the state is that after a history
abbrev pub StandsFor : State → List Entry → Type 0
StandsFor s h = Represents s (reverse h)
