-- What `check` and `audit` compute from a trace.
use Rattle.std.specs.Prelude.{◌≡◌, ℕ, List, Ok, reverse}
use Rattle.ec_core.specs.Standing.{State, StandsFor}
use Rattle.ec_core.specs.declared.act.Entry.{Entry}
use Rattle.ec_heading.specs.HeadingModel.{HeadingModel}
use Rattle.ec_order.specs.Linearizer.{LinearizerModel, IsLinearizer}
use Rattle.ec_trace.specs.Outcome.{parse_result}
use Rattle.ec_trace.specs.declared.read.TheConstants.{TRACE_MAX}

-- the bytes are the trace with this header and this history
abbrev pub IsOf : List ℕ → HeadingModel → List Entry → Type 0
IsOf bytes h entries = parse_result TRACE_MAX bytes ≡ Ok (record { heading = h; entries = entries })

-- this is the state after a history: the world, and the linearizer of its completed calls
pub record IsReadInto (h : HeadingModel) (entries : List Entry) (world : State) (linearizer : LinearizerModel) : Type 0 where
  pub world_stands : StandsFor world entries
  pub world_setup : world.setup ≡ h.setup
  pub setup : linearizer.setup ≡ h.setup
  pub represents : IsLinearizer linearizer (reverse entries)
