-- The arrows: of each buffer whose workers follow its rules, its deliveries, each from the put of
-- an item to the get of the same number.
use Rattle.std.specs.Prelude.{◌≡◌, ℕ, Bool, false, ◌||◌, List, [], ◌∷◌, ◌++◌, length, map, reverse}
use Rattle.std.specs.Prelude.{is_some, slice_get, unwrap_or, if◌then◌else◌}
use Rattle.std.specs.List.{filter, flat_map}
use Rattle.ec_count.specs.Tables.{Tables}
use Rattle.ec_core.specs.declared.act.Act.{Act}
use Rattle.ec_core.specs.declared.act.Entry.{Entry}
use Rattle.ec_buffer.specs.declared.delivery.Delivery.{Delivery}
use Rattle.ec_buffer.specs.Auditing.{DeliveryAuditModel, RepresentsDeliveries}
use Rattle.ec_buffer.specs.Shapes.{Buffer}
use Rattle.ec_buffer.specs.Follows.{buffer_rules}
use Rattle.ec_buffer.specs.Items.{put_on, is_get_on}
use Rattle.ec_buffer.specs.Collecting.{collected}
use Rattle.ec_heading.specs.declared.group.Group.{Group}
use Rattle.ec_heading.specs.declared.group.Group.TheVariants as groups
use Rattle.ec_draw.specs.declared.window.Window.{Window}
use Rattle.ec_draw.specs.declared.arrow.Arrow.{Arrow}
use Rattle.ec_draw.specs.declared.arrow.Move.{Move}
use Rattle.ec_draw.specs.declared.arrow.Move.TheVariants as moves
use Rattle.ec_draw.specs.Windows.{shows}
use Rattle.ec_draw.specs.Following.{follows}

-- whether an act puts into the buffer, or gets from it
abbrev pub is_move : Move → Buffer → Act → Bool
is_move moves.Put b act = is_some (put_on b act)
is_move moves.Get b act = is_get_on b act

-- the positions of the entries of the history so far that do so, in order
unfoldable pub places : Move → Buffer → List Entry → List ℕ
places m b [] = []
places m b (x ∷ past) = places m b past ++ (if is_move m b x.act then length past ∷ [] else [])

-- the position of the n-th of them
abbrev pub move_position : List ℕ → ℕ → ℕ
move_position ks n = unwrap_or (slice_get ks n) 0

-- the arrow of a delivery, if these are the positions of the puts and of the gets: item n is put by
-- put n and got by get n, counted from 0. The eventcount of the puts identifies the buffer
abbrev pub arrow_of : Buffer → List ℕ → List ℕ → Delivery → Arrow
arrow_of b puts gets d = record {
  count = b.in_count;
  delivery = d;
  put = move_position puts d.number;
  got = move_position gets d.number;
}

-- the arrows of all deliveries of the history so far, by number
abbrev pub arrows_in : Buffer → List Entry → List Arrow
arrows_in b past =
    map (arrow_of b (places moves.Put b past) (places moves.Get b past)) (collected b past)

-- whether an arrow is shown: one of its ends is
abbrev pub is_in : Window → Arrow → Bool
is_in w a = shows w a.put || shows w a.got

-- the shown arrows of a group, if it is a buffer and its workers follow its rules
abbrev pub group_arrows : Tables → Window → List Entry → Group → List Arrow
group_arrows t w h (groups.Buffer b) = if follows (buffer_rules t b) (reverse h)
    then filter (is_in w) (arrows_in b (reverse h)) else []
group_arrows t w h _ = []

-- the shown arrows of all groups
abbrev pub arrows : Tables → List Group → Window → List Entry → List Arrow
arrows t gs w h = flat_map (group_arrows t w h) gs

-- A PASS OVER THE RUN

-- the state of a buffer: its audit, and the positions of the puts and of the gets, or that an
-- allocation failed
pub record MovesModel : Type 0 where
  pub audit : DeliveryAuditModel
  pub shape : Buffer
  pub puts : List ℕ
  pub gets : List ℕ
  pub out_of_memory : Bool

-- it is the state after the history so far
pub record RepresentsMoves (m : MovesModel) (past : List Entry) : Type 0 where
  pub shape : m.audit.shape ≡ m.shape
  pub audit : RepresentsDeliveries m.audit past
  pub puts : m.out_of_memory ≡ false → m.puts ≡ places moves.Put m.shape past
  pub gets : m.out_of_memory ≡ false → m.gets ≡ places moves.Get m.shape past

-- it is the state of the same buffer after the history so far
abbrev pub MovesOn : MovesModel → MovesModel → List Entry → Type 0
MovesOn start now past = (now.shape ≡ start.shape) × (now.audit.setup ≡ start.audit.setup)
    × RepresentsMoves now past
