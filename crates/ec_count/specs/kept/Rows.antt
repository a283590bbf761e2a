-- Whether a row of a table has exactly these lists. The row of an eventcount must also be fixed.
use Rattle.std.specs.Prelude.{ℕ, Bool, false, ◌&&◌, nat_eq, List, slice_get}
use Rattle.std.specs.Option.{option_map_or}
use Rattle.std.specs.Cmp.Lexicographic.{pointwise}
use Rattle.ec_count.specs.declared.setup.Rights.{Rights}
use Rattle.ec_count.specs.declared.setup.Access.{Access}
use Rattle.ec_count.specs.Tables.{Tables}

abbrev pub has_fixed_event_row : Tables → ℕ → List ℕ → List ℕ → Bool
has_fixed_event_row t e signal observe = option_map_or (λ (r : Rights). pointwise nat_eq r.signal signal && pointwise nat_eq r.observe observe && r.fixed) (slice_get t.events e) false

abbrev pub has_sequencer_row : Tables → ℕ → List ℕ → Bool
has_sequencer_row t q take = option_map_or (λ (ws : List ℕ). pointwise nat_eq ws take) (slice_get t.takers q) false

abbrev pub has_cell_row : Tables → ℕ → List ℕ → List ℕ → Bool
has_cell_row t x write read = option_map_or (λ (a : Access). pointwise nat_eq a.write write && pointwise nat_eq a.read read) (slice_get t.cells x) false
