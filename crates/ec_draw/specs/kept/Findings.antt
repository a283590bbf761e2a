-- The states of the groups in one pass over the entries.
use Rattle.std.specs.Prelude.{◌≡◌, ℕ, List, ◌++◌, map}
use Rattle.ec_count.specs.Tables.{Tables}
use Rattle.ec_core.specs.declared.act.Entry.{Entry}
use Rattle.ec_buffer.specs.Shapes.{Buffer}
use Rattle.ec_database.specs.Shapes.{Database}
use Rattle.ec_semaphore.specs.Auditing.{PairsOn, RepresentsPairs}
use Rattle.ec_semaphore.specs.Shapes.{Semaphore}
use Rattle.ec_heading.specs.declared.group.Group.{Group}
use Rattle.ec_heading.specs.declared.group.Group.TheVariants as groups
use Rattle.ec_walk.specs.kept.Each.{EachFrom, Each}
use Rattle.ec_draw.specs.declared.window.Window.{Window}
use Rattle.ec_draw.specs.declared.balance.BothState.{BothState}
use Rattle.ec_draw.specs.declared.finding.GroupState.{GroupState}
use Rattle.ec_draw.specs.declared.finding.GroupState.TheVariants as finds
use Rattle.ec_draw.specs.declared.finding.Findings.{Findings}
use Rattle.ec_draw.specs.Balances.{BalanceStatesOn, RepresentsCurve, group_line}
use Rattle.ec_draw.specs.Curves.{curve_model}
use Rattle.ec_draw.specs.Shades.{TriesOn, RepresentsTries, group_shades, shade_model}
use Rattle.ec_draw.specs.Arrows.{MovesOn, RepresentsMoves, group_arrows}

-- a state is that of the semaphore, through this window, after the history so far
abbrev pub BalanceStateFor : Window → Semaphore → GroupState → List Entry → Type 0
BalanceStateFor w s (finds.Balance c) past = (c.audit.shape ≡ s) × (c.window ≡ w)
    × RepresentsCurve c past
BalanceStateFor w s f past = ⊥

-- a state is that of `both`, if these are all semaphores
abbrev pub BothFor : List Semaphore → Window → Semaphore → GroupState → List Entry → Type 0
BothFor all w c (finds.Both b) past =
    (b.state.audit.shape ≡ c) × (b.state.window ≡ w) × RepresentsCurve b.state past
    × (b.pairs.common ≡ c) × (b.pairs.shapes ≡ all) × RepresentsPairs b.pairs past
BothFor all w c f past = ⊥

-- a state is that of the database
abbrev pub TriesFor : Tables → Window → Database → GroupState → List Entry → Type 0
TriesFor t w d (finds.Tries a) past = (a.shape ≡ d) × (a.audit.setup ≡ t) × (a.window ≡ w)
    × RepresentsTries a past
TriesFor t w d f past = ⊥

-- a state is that of the buffer
abbrev pub MovesFor : Tables → Buffer → GroupState → List Entry → Type 0
MovesFor t b (finds.Moves m) past = (m.shape ≡ b) × (m.audit.setup ≡ t) × RepresentsMoves m past
MovesFor t b f past = ⊥

-- a state is that of the group, under these declarations, with these semaphores and through this
-- window, after the history so far
abbrev pub FindsFor : Tables → List Semaphore → Window → Group → GroupState → List Entry → Type 0
FindsFor t all w (groups.Buffer b) f past = MovesFor t b f past
FindsFor t all w (groups.Database d) f past = TriesFor t w d f past
FindsFor t all w (groups.Semaphore s) f past = BalanceStateFor w s f past
FindsFor t all w (groups.Both c) f past = BothFor all w c f past

-- each group from number n on has its own state, in order
abbrev pub EachFindsFrom : Tables → List Semaphore → Window → List Group → ℕ → List GroupState
    → List Entry → Type 0
EachFindsFrom t all w gs n list past = EachFrom (λ g f. FindsFor t all w g f past) gs n list

-- each group has its own state, in order
abbrev pub EachFinds : Tables → List Semaphore → Window → List Group → List GroupState → List Entry
    → Type 0
EachFinds t all w gs list past = Each (λ g f. FindsFor t all w g f past) gs list

-- IN A PASS OVER THE RUN

-- it is the state of the same `both` after the history so far
abbrev pub BothOn : BothState → BothState → List Entry → Type 0
BothOn start now past = BalanceStatesOn start.state now.state past
    × PairsOn start.pairs now.pairs past

-- the group of a state
abbrev pub group_of : GroupState → Group
group_of (finds.Balance c) = groups.Semaphore c.audit.shape
group_of (finds.Both b) = groups.Both b.pairs.common
group_of (finds.Tries a) = groups.Database a.shape
group_of (finds.Moves m) = groups.Buffer m.shape

-- it is the state of the same group after the history so far
abbrev pub FindsOn : GroupState → GroupState → List Entry → Type 0
FindsOn (finds.Balance start) (finds.Balance now) past = BalanceStatesOn start now past
FindsOn (finds.Both start) (finds.Both now) past = BothOn start now past
FindsOn (finds.Tries start) (finds.Tries now) past = TriesOn start now past
FindsOn (finds.Moves start) (finds.Moves now) past = MovesOn start now past
FindsOn start now past = ⊥

-- WHAT IS ADDED

-- what the audit of group g found is added; these are all the semaphores
pub record AddsGroup (t : Tables) (all : List Semaphore) (w : Window) (h : List Entry) (g : Group)
    (old new : Findings) : Type 0 where
  pub curves : map curve_model new.curves.items ≡ map curve_model old.curves.items
      ++ group_line all w h g
  pub shades : map shade_model new.shades.items ≡ map shade_model old.shades.items
      ++ group_shades t w h g
  pub arrows : new.arrows.items ≡ old.arrows.items ++ group_arrows t w h g
