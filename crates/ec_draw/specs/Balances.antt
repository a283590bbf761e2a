-- The curves of balances: of each semaphore whose workers follow its rules, how many units it has
-- left at each moment that is shown.
use Rattle.std.specs.Prelude.{◌≡◌, ℕ, ◌+◌, ◌-◌, ◌<◌, ◌^◌, Bool, false, ◌&&◌, nat_le, min, List, []}
use Rattle.std.specs.Prelude.{◌∷◌, ◌++◌, length, replicate, reverse, if◌then◌else◌}
use Rattle.std.specs.List.{flat_map}
use Rattle.ec_core.specs.declared.act.Entry.{Entry}
use Rattle.ec_semaphore.specs.Shapes.{Semaphore}
use Rattle.ec_semaphore.specs.Uses.{use_rules}
use Rattle.ec_semaphore.specs.Both.{is_semaphore_sequencer, both_rules}
use Rattle.ec_semaphore.specs.Balances.{downs, ups}
use Rattle.ec_semaphore.specs.Auditing.{BalanceAuditModel, RepresentsBalance}
use Rattle.ec_heading.specs.declared.group.Group.{Group}
use Rattle.ec_heading.specs.declared.group.Group.TheVariants as groups
use Rattle.ec_heading.specs.Rules.{semaphores_of}
use Rattle.ec_draw.specs.declared.window.Window.{Window}
use Rattle.ec_draw.specs.declared.curve.CurveSource.TheVariants.{Balance}
use Rattle.ec_draw.specs.Following.{follows}
use Rattle.ec_draw.specs.Curves.{CurveModel}

-- WHAT IS LEFT

-- how many units a semaphore has left after the history so far: those at first and those added,
-- without those taken. This is its balance if its workers follow its rules
abbrev pub units_left_after : Semaphore → List Entry → ℕ
units_left_after s past = s.initial + ups s past - downs s past

-- whether moment k is shown: that before an entry that is shown, or the one after the last
abbrev pub has_moment : Window → ℕ → Bool
has_moment w k = nat_le w.from k && nat_le k w.to

abbrev pub list_if_moment : Window → ℕ → ℕ → List ℕ
list_if_moment w k n = if has_moment w k then n ∷ [] else []

-- the units left at each moment of the history so far that is shown, in order
unfoldable pub units_left_at_moments : Semaphore → Window → List Entry → List ℕ
units_left_at_moments s w [] = list_if_moment w 0 (units_left_after s [])
units_left_at_moments s w (x ∷ past) = units_left_at_moments s w past
    ++ list_if_moment w (length past + 1) (units_left_after s (x ∷ past))

-- CURVES

-- the curve of a semaphore's balance; its eventcount identifies the semaphore
abbrev pub balance_curve : Window → List Entry → Semaphore → CurveModel
balance_curve w h s =
    record { object = Balance s.count; heights = units_left_at_moments s w (reverse h) }

abbrev pub curve_if : Bool → CurveModel → List CurveModel
curve_if b l = if b then l ∷ [] else []

-- the curve of a group, if it is a semaphore or `both` and its workers follow its rules; these are
-- all the semaphores
abbrev pub group_line : List Semaphore → Window → List Entry → Group → List CurveModel
group_line all w h (groups.Semaphore s) =
    curve_if (follows (use_rules s) (reverse h)) (balance_curve w h s)
group_line all w h (groups.Both c) =
    curve_if (follows (both_rules c (is_semaphore_sequencer c all)) (reverse h)) (balance_curve w h c)
group_line all w h _ = []

-- the curves of all groups
abbrev pub balance_lines : List Group → Window → List Entry → List CurveModel
balance_lines gs w h = flat_map (group_line (semaphores_of gs) w h) gs

-- A PASS OVER THE RUN

-- how many moments are shown, from the first up to moment k
abbrev pub moments : Window → ℕ → ℕ
moments w k = min k w.to + 1 - w.from

-- the state of a semaphore: its audit, and the units left at the first of the moments that are
-- shown, or that an allocation failed
pub record BalanceState : Type 0 where
  pub audit : BalanceAuditModel
  pub window : Window
  pub heights : List ℕ
  pub out_of_memory : Bool

-- how many units the semaphore has left by its audit
abbrev pub left_by : BalanceAuditModel → ℕ
left_by a = a.shape.initial + a.ups - a.downs

-- the units left at each moment that is shown up to moment k; none was added or taken since the
-- latest moment that is stored
abbrev pub pad : BalanceState → ℕ → List ℕ
pad c k = c.heights ++ replicate (moments c.window k - length c.heights) (left_by c.audit)

-- no count of the semaphore overflows after the history so far
abbrev pub IsSmall : Semaphore → List Entry → Type 0
IsSmall s past = s.initial + ups s past < 2 ^ 64

-- it is the state after the history so far
pub record RepresentsCurve (c : BalanceState) (past : List Entry) : Type 0 where
  pub counted : RepresentsBalance c.audit past
  pub heights : c.out_of_memory ≡ false → IsSmall c.audit.shape past
      → pad c (length past) ≡ units_left_at_moments c.audit.shape c.window past

-- it is the state of the same semaphore after the history so far
abbrev pub BalanceStatesOn : BalanceState → BalanceState → List Entry → Type 0
BalanceStatesOn start now past = (now.window ≡ start.window) × (now.audit.shape ≡ start.audit.shape)
    × RepresentsCurve now past
