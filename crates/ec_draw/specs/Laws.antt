-- What bars, curves, shades and arrows are, over the history in its natural order.
use Rattle.std.specs.Prelude.{◌≡◌, ◌↔◌, ℕ, ◌+◌, ◌-◌, ◌<◌, ◌≤◌, true, false, List, [], Some, length}
use Rattle.std.specs.Prelude.{slice_get, reverse, pos}
use Rattle.std.specs.List.{Contains}
use Rattle.ec_count.specs.Tables.{Tables, IsDeclared}
use Rattle.ec_core.specs.declared.act.Entry.{Entry}
use Rattle.ec_core.specs.Acceptance.{IsAccepted}
use Rattle.ec_core.specs.Counts.{past_at}
use Rattle.ec_core.specs.Calls.{CallSoFar, under_way, is_go}
use Rattle.ec_core.specs.CallsInOrder.{IsUnderWay}
use Rattle.ec_core.specs.Rounds.{position_of}
use Rattle.ec_core.specs.Following.{Rule, Follow, block}
use Rattle.ec_buffer.specs.Shapes.{Buffer}
use Rattle.ec_buffer.specs.Items.{PutsItem, GetsItem, gets_made}
use Rattle.ec_buffer.specs.Laws.{IsFollowed}
use Rattle.ec_database.specs.Shapes.{Database}
use Rattle.ec_database.specs.Following.{is_on, database_rules}
use Rattle.ec_database.specs.Tries.{AcceptedTry, EndsTry, tries_before}
use Rattle.ec_semaphore.specs.Shapes.{Semaphore}
use Rattle.ec_semaphore.specs.Uses.{use_rules}
use Rattle.ec_semaphore.specs.Balances.{balance_of}
use Rattle.ec_order.specs.declared.placed.Placed.{Placed}
use Rattle.ec_order.specs.Cuts.{IsFinishedCall}
use Rattle.ec_order.specs.Points.{IsPoint}
use Rattle.ec_draw.specs.declared.window.Window.{Window}
use Rattle.ec_draw.specs.declared.curve.Counter.{Counter}
use Rattle.ec_draw.specs.Bars.{bars, is_shown}
use Rattle.ec_draw.specs.Curves.{count_at, heights}
use Rattle.ec_draw.specs.Following.{follows}
use Rattle.ec_draw.specs.Balances.{units_left_after, units_left_at_moments}
use Rattle.ec_draw.specs.Open.{begun_at}
use Rattle.ec_draw.specs.Shades.{ShadeModel, begins_list, shades_in}
use Rattle.ec_draw.specs.declared.arrow.Arrow.{Arrow}
use Rattle.ec_draw.specs.Arrows.{arrows_in}

-- the bars are exactly the completed calls that are shown, each with its linearization point
pub record AreBars (t : Tables) (w : Window) (h : List Entry) (ps : List Placed) : Type 0 where
  pub each : (p : Placed) → Contains ps p → IsFinishedCall t h p.call × IsPoint h p.call p.point
      × (is_shown w p ≡ true)
  pub every : (p : Placed) → IsFinishedCall t h p.call → IsPoint h p.call p.point
      → is_shown w p ≡ true → Contains ps p

abbrev pub BarsAreCalls : Type 0
BarsAreCalls = (t : Tables) (w : Window) (h : List Entry) → IsDeclared t → IsAccepted t (reverse h)
    → AreBars t w h (bars t w h)

-- the bar of a call that is pending at the end of a history begins at the entry that began the
-- call, after which all entries of its worker are goes with the reply Pending; it is the first
-- entry of the call in the world
abbrev pub PendingBarsBegin : Type 0
PendingBarsBegin = (w : ℕ) (h : List Entry) (call : CallSoFar)
    → under_way w (reverse h) ≡ Some call
    → (is : IsUnderWay w h (length h) call)
    × (begun_at w (reverse h) ≡ is.first)
    × (begun_at w (reverse h) ≡ position_of call.moments (length call.moments - 1))

-- the curve at column j is the count at moment from + j
abbrev pub CurvesAreCounts : Type 0
CurvesAreCounts = (object : Counter) (w : Window) (h : List Entry) (j : ℕ) → j ≤ w.to - w.from
    → slice_get (heights object w h) j ≡ Some (count_at object h (w.from + j))

-- the decision whether a history so far follows its workers' rules is right
abbrev pub FollowingIsAnswered : Type 0
FollowingIsAnswered = (rules : ℕ → Rule) (past : List Entry) → follows rules past ≡ true
    ↔ Follow rules past

-- the curve of a balance at column j is the number of units left at moment from + j, up to the last
-- moment of the history
abbrev pub BalanceCurvesAreUnitsLeft : Type 0
BalanceCurvesAreUnitsLeft = (s : Semaphore) (w : Window) (h : List Entry) (j : ℕ)
    → w.from + j ≤ w.to
    → w.from + j ≤ length h
    → slice_get (units_left_at_moments s w (reverse h)) j
    ≡ Some (units_left_after s (past_at (w.from + j) h))

-- the units left are the balance, if the semaphore's workers follow its rules
abbrev pub UnitsLeftAreBalances : Type 0
UnitsLeftAreBalances = (s : Semaphore) (t : Tables) (k : ℕ) (h : List Entry) → IsDeclared t
    → IsAccepted t (reverse h) → Follow (use_rules s) (reverse h)
    → pos (units_left_after s (past_at k h)) ≡ balance_of s (past_at k h)

-- each shade is that of an accepted try, which ends with the shade's last entry
abbrev pub ShadesEndTries : Type 0
ShadesEndTries = (t : Tables) (d : Database) (h : List Entry) (i : ℕ) (s : ShadeModel)
    → slice_get (shades_in t d (reverse h)) i ≡ Some s → EndsTry t d h s.span.last s.accepted

-- each accepted try has its shade, after those of the tries that ended before it
abbrev pub TriesHaveShades : Type 0
TriesHaveShades = (t : Tables) (d : Database) (h : List Entry) (k : ℕ) (a : AcceptedTry)
    → EndsTry t d h k a
    → (s : ShadeModel) × (slice_get (shades_in t d (reverse h)) (tries_before t d h k) ≡ Some s)
    × (s.span.last ≡ k) × (s.accepted ≡ a)

-- entry i began the call sequence on the database that w was in before entry k: it began a call on
-- it while no call of a sequence was completed, and no later entry of w before k did so
pub record BeginsList (t : Tables) (d : Database) (h : List Entry) (w k i : ℕ) : Type 0 where
  pub entry : Entry
  pub is : slice_get h i ≡ Some entry
  pub by : entry.worker ≡ w
  pub call : is_go entry.act ≡ false
  pub on : is_on d entry.act ≡ true
  pub first : block (database_rules t d w) w (past_at i h) ≡ []
  pub before : i < k
  pub none_since : (j : ℕ) (x : Entry) → i < j → j < k → slice_get h j ≡ Some x → x.worker ≡ w
      → begins_list (database_rules t d w) (block (database_rules t d w) w (past_at j h)) x.act
      ≡ false

-- each shade begins with the entry that began the call sequence of its reader
abbrev pub ShadesBeginLists : Type 0
ShadesBeginLists = (t : Tables) (d : Database) (h : List Entry) (i : ℕ) (s : ShadeModel)
    → slice_get (shades_in t d (reverse h)) i ≡ Some s
    → BeginsList t d h s.accepted.worker s.span.last s.span.first

-- the arrow is that of item n: it leads from the put of that number to the get of that number, of
-- the same item
pub record IsArrow (t : Tables) (b : Buffer) (h : List Entry) (n : ℕ) (a : Arrow) : Type 0 where
  pub number : a.delivery.number ≡ n
  pub puts : PutsItem t b h a.put n a.delivery.producer a.delivery.item
  pub gets : GetsItem t b h a.got n a.delivery.consumer a.delivery.item

-- there is one arrow for each get, in the order of their numbers
pub record AreArrows (t : Tables) (b : Buffer) (h : List Entry) (list : List Arrow) : Type 0 where
  pub each_get : length list ≡ gets_made b h
  pub numbered : (n : ℕ) (a : Arrow) → slice_get list n ≡ Some a → IsArrow t b h n a

abbrev pub ArrowsAreDeliveries : Type 0
ArrowsAreDeliveries = (t : Tables) (b : Buffer) (h : List Entry) → IsFollowed t b h
    → AreArrows t b h (arrows_in b (reverse h))
