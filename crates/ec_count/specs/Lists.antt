-- The lists of a declared object, in the order of declaration; empty if it is not declared.
use Rattle.std.specs.Prelude.{ℕ, List, [], slice_get}
use Rattle.std.specs.Option.{option_map_or}
use Rattle.ec_count.specs.declared.setup.Rights.{Rights}
use Rattle.ec_count.specs.declared.setup.Access.{Access}
use Rattle.ec_count.specs.Tables.{Tables}

abbrev pub observers : Tables → ℕ → List ℕ
observers t e = option_map_or (λ (r : Rights). r.observe) (slice_get t.events e) []

abbrev pub takers : Tables → ℕ → List ℕ
takers t q = option_map_or (λ (ws : List ℕ). ws) (slice_get t.takers q) []

abbrev pub writers : Tables → ℕ → List ℕ
writers t x = option_map_or (λ (a : Access). a.write) (slice_get t.cells x) []

abbrev pub readers : Tables → ℕ → List ℕ
readers t x = option_map_or (λ (a : Access). a.read) (slice_get t.cells x) []
