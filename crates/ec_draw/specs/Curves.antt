-- The curves of counts: of each eventcount its total, and of each sequencer its tickets, at each
-- moment that is shown. The moment of column j is moment from + j: the first from + j entries of
-- the history have happened.
use Rattle.std.specs.Prelude.{ℕ, ◌+◌, ◌-◌, ◌<◌, zero, suc, Bool, List, [], ◌∷◌, ◌++◌, length}
use Rattle.ec_count.specs.Tables.{Tables}
use Rattle.ec_core.specs.declared.act.Act.{Act}
use Rattle.ec_core.specs.declared.act.Entry.{Entry}
use Rattle.ec_core.specs.Counts.{past_at, total, issued, is_advance, is_ticket}
use Rattle.ec_draw.specs.declared.window.Window.{Window}
use Rattle.ec_draw.specs.declared.curve.Counter.{Counter}
use Rattle.ec_draw.specs.declared.curve.Curve.{Curve}
use Rattle.ec_draw.specs.declared.curve.CurveSource.{CurveSource}
use Rattle.ec_draw.specs.declared.curve.CurveSource.TheVariants.{Count}
use Rattle.ec_draw.specs.declared.curve.Counter.TheVariants.{Event, Sequencer}

-- the total of an eventcount, or the tickets of a sequencer, after the history so far
abbrev pub count_of : Counter → List Entry → ℕ
count_of (Event e) past = total e past
count_of (Sequencer q) past = issued q past

-- whether an act raises it
abbrev pub raises : Counter → Act → Bool
raises (Event e) act = is_advance e act
raises (Sequencer q) act = is_ticket q act

-- the count at moment k of a history
abbrev pub count_at : Counter → List Entry → ℕ → ℕ
count_at object h k = count_of object (past_at k h)

-- the counts at n moments, from moment k on
unfoldable pub counts_from : Counter → List Entry → ℕ → ℕ → List ℕ
counts_from object h k zero = []
counts_from object h k (suc n) = counts_from object h k n ++ count_at object h (k + n) ∷ []

-- the counts at the moments that are shown: those before each entry that is shown, and the one
-- after the last
abbrev pub heights : Counter → Window → List Entry → List ℕ
heights object w h = counts_from object h w.from (w.to - w.from + 1)

-- a curve, as a contract sees it
pub record CurveModel : Type 0 where
  pub object : CurveSource
  pub heights : List ℕ

abbrev pub curve_model : Curve → CurveModel
curve_model c = record { object = c.object; heights = c.heights.items }

abbrev pub curve_of_count : Window → List Entry → Counter → CurveModel
curve_of_count w h object = record { object = Count object; heights = heights object w h }

-- the curves of the first n eventcounts
unfoldable pub event_curves : Window → List Entry → ℕ → List CurveModel
event_curves w h zero = []
event_curves w h (suc n) = event_curves w h n ++ curve_of_count w h (Event n) ∷ []

-- the curves of the first n sequencers
unfoldable pub sequencer_curves : Window → List Entry → ℕ → List CurveModel
sequencer_curves w h zero = []
sequencer_curves w h (suc n) = sequencer_curves w h n ++ curve_of_count w h (Sequencer n) ∷ []

-- the curves of all that is counted: the eventcounts, and then the sequencers
abbrev pub curves_of_counts : Tables → Window → List Entry → List CurveModel
curves_of_counts t w h = event_curves w h (length t.events)
    ++ sequencer_curves w h (length t.takers)

-- IN A WORLD

-- what is counted is declared
abbrev pub IsDeclaredCounter : Tables → Counter → Type 0
IsDeclaredCounter t (Event e) = e < length t.events
IsDeclaredCounter t (Sequencer q) = q < length t.takers
