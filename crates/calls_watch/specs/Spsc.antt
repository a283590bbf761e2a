-- Which buffers have one producer and one consumer, by what is declared.
use Rattle.std.specs.Prelude.{◌≡◌, ℕ, ◌-◌, ◌&&◌, nat_le, List, [], ◌∷◌, Bool, true, false, slice_get}
use Rattle.std.specs.Option.{option_map_or}
use Rattle.ec_count.specs.Tables.{Tables}
use Rattle.ec_heading.specs.HeadingModel.{HeadingModel}
use Rattle.ec_heading.specs.declared.group.Group.{Group}
use Rattle.ec_heading.specs.declared.group.Group.TheVariants as groups
use Rattle.calls_monitor.specs.Watched.{is_listed, has_fit_room}
use Rattle.calls_text.specs.Recordings.{first_group}

abbrev pub is_one : List ℕ → Bool
is_one (w ∷ []) = true
is_one _ = false

-- whether just one worker may draw tickets of sequencer q
abbrev pub has_one_taker : Tables → ℕ → Bool
has_one_taker t q = option_map_or is_one (slice_get t.takers q) false

-- whether a group is a buffer with one producer and one consumer that can be judged event by event
abbrev pub is_spsc_group : Tables → Group → Bool
is_spsc_group t (groups.Buffer b) =
    has_one_taker t b.put_seq && has_one_taker t b.take_seq && has_fit_room b.cells
is_spsc_group t _ = false

-- whether object k is such a buffer
abbrev pub is_spsc : HeadingModel → ℕ → Bool
is_spsc h k =
    nat_le (first_group h) k
    && option_map_or (is_spsc_group h.setup) (slice_get h.groups (k - first_group h)) false

-- these are the indices of all such buffers
abbrev pub AreListed : HeadingModel → List ℕ → Type 0
AreListed h ks = (k : ℕ) → is_listed k ks ≡ is_spsc h k
