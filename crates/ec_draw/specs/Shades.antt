-- The shades: of each database whose workers follow its rules, its accepted tries, each from the
-- first entry of its first call to its last entry.
use Rattle.std.specs.Prelude.{◌≡◌, ℕ, ◌<◌, Bool, false, ◌==◌, ◌&&◌, not, List, [], ◌∷◌, ◌++◌}
use Rattle.std.specs.Prelude.{length, reverse, Option, Some, None, option_to_list, slice_get}
use Rattle.std.specs.Prelude.{slice_set, if◌then◌else◌}
use Rattle.std.specs.Option.{option_map}
use Rattle.std.specs.List.{filter, flat_map}
use Rattle.ec_count.specs.Tables.{Tables}
use Rattle.ec_core.specs.declared.act.Act.{Act}
use Rattle.ec_core.specs.declared.act.Entry.{Entry}
use Rattle.ec_core.specs.Calls.{is_go}
use Rattle.ec_core.specs.Following.{CompletedCall, Rule, block}
use Rattle.ec_database.specs.Shapes.{Database}
use Rattle.ec_database.specs.Following.{is_on, writes, database_rules}
use Rattle.ec_database.specs.Tries.{AcceptedTry, ended_at}
use Rattle.ec_database.specs.Auditing.{VersionAuditModel, RepresentsVersions, accepted_try as shown_try}
use Rattle.ec_heading.specs.declared.group.Group.{Group}
use Rattle.ec_heading.specs.declared.group.Group.TheVariants as groups
use Rattle.ec_draw.specs.declared.window.Window.{Window}
use Rattle.ec_draw.specs.declared.shade.Shade.{Shade}
use Rattle.ec_draw.specs.declared.shade.Span.{Span}
use Rattle.ec_draw.specs.Windows.{meets}
use Rattle.ec_draw.specs.Following.{follows}

-- WHERE A TRY BEGINS

-- whether an act begins a call sequence: it begins a call of the sequence, and none of the
-- sequence's calls is completed
abbrev pub begins_list : Rule → List CompletedCall → Act → Bool
begins_list r [] act = not (is_go act) && r.concerns [] act
begins_list r (c ∷ calls) act = false

-- the position of the entry that began the call sequence that w is in after the history so far: the
-- latest that began one
unfoldable pub list_start : Rule → ℕ → List Entry → ℕ
list_start r w [] = 0
list_start r w (x ∷ past) = if x.worker == w && begins_list r (block r w past) x.act
    then length past else list_start r w past

-- SHADES

-- an accepted try, and the positions of its first and its last entry; the eventcount of starts
-- identifies the database
pub record ShadeModel : Type 0 where
  pub count : ℕ
  pub span : Span
  pub accepted : AcceptedTry

abbrev pub shade_model : Shade → ShadeModel
shade_model s = record { count = s.count; span = s.span; accepted = shown_try s.accepted }

abbrev pub shade : ℕ → Span → AcceptedTry → ShadeModel
shade count span a = record { count = count; span = span; accepted = a }

-- the span of the call sequence that an entry's worker is in: from the first entry of the sequence
-- to this one, which follows the history so far
abbrev pub span_at : Tables → Database → Entry → List Entry → Span
span_at t d x past = record {
  first = list_start (database_rules t d x.worker) x.worker past;
  last = length past;
}

-- the shade of the accepted try that an entry ends, if it ends one
abbrev pub shade_at : Tables → Database → Entry → List Entry → Option ShadeModel
shade_at t d x past =
    option_map (shade d.start (span_at t d x past)) (ended_at d (writes t d) x past)

-- the shades of the history so far, in the order of their last entries
unfoldable pub shades_in : Tables → Database → List Entry → List ShadeModel
shades_in t d [] = []
shades_in t d (x ∷ past) = shades_in t d past ++ option_to_list (shade_at t d x past)

-- whether a shade is shown: it began before the end of the window, and did not end before its start
abbrev pub is_in : Window → ShadeModel → Bool
is_in w s = meets w s.span.first s.span.last

abbrev pub shades_shown : Tables → Database → Window → List Entry → List ShadeModel
shades_shown t d w past = filter (is_in w) (shades_in t d past)

-- the shown shades of a group, if it is a database and its workers follow its rules
abbrev pub group_shades : Tables → Window → List Entry → Group → List ShadeModel
group_shades t w h (groups.Database d) = if follows (database_rules t d) (reverse h)
    then shades_shown t d w (reverse h) else []
group_shades t w h _ = []

-- the shown shades of all groups
abbrev pub shades : Tables → List Group → Window → List Entry → List ShadeModel
shades t gs w h = flat_map (group_shades t w h) gs

-- A PASS OVER THE RUN

-- the state of a database: its audit, where the call sequence of each worker began, and the shades
-- that are shown, or that an allocation failed
pub record TriesModel : Type 0 where
  pub audit : VersionAuditModel
  pub shape : Database
  pub window : Window
  pub starts : List ℕ
  pub shades : List ShadeModel
  pub out_of_memory : Bool

-- for each worker, the position at which its call sequence began
abbrev pub AreStarts : Tables → Database → List ℕ → List Entry → Type 0
AreStarts t d starts past = (w : ℕ) → w < 16
    → slice_get starts w ≡ Some (list_start (database_rules t d w) w past)

-- it is the state after the history so far
pub record RepresentsTries (a : TriesModel) (past : List Entry) : Type 0 where
  pub shape : a.audit.shape ≡ a.shape
  pub audit : RepresentsVersions a.audit past
  pub starts : AreStarts a.audit.setup a.shape a.starts past
  pub shades : a.out_of_memory ≡ false → a.shades ≡ shades_shown a.audit.setup a.shape a.window past

-- it is the state of the same database after the history so far
abbrev pub TriesOn : TriesModel → TriesModel → List Entry → Type 0
TriesOn start now past = (now.shape ≡ start.shape) × (now.audit.setup ≡ start.audit.setup)
    × (now.window ≡ start.window) × RepresentsTries now past

-- the starts after an entry at this position, if its worker had completed this many calls of its
-- sequence
abbrev pub starts_after : Database → ℕ → ℕ → Entry → List ℕ → List ℕ
starts_after d finished place x starts =
    if (finished == 0 && not (is_go x.act)) && is_on d x.act then slice_set starts x.worker place
    else starts

-- the shade of accepted try n, counted from 0, is added, if the audit has found it and the shade is
-- shown
abbrev pub AddsNewest : ℕ → Window → Span → Option ℕ → VersionAuditModel → List ShadeModel
    → List ShadeModel
    → Type 0
AddsNewest count w span None a old new = ⊥
AddsNewest count w span (Some n) a old new =
    (a.out_of_memory ≡ false)
    × (new ≡ old ++ filter (is_in w)
    (option_to_list (option_map (shade count span) (slice_get a.list n))))
