-- What shows that turns can't be taken: how many are taken by a position, at least, step by step.
use Rattle.std.specs.Prelude.{◌≡◌, ◌≢◌, ℕ, ◌+◌, ◌-◌, ◌<◌, ◌≤◌, ◌⊎◌, ◌==◌, ◌&&◌, Bool, true, false}
use Rattle.std.specs.Prelude.{max, nat_le, nat_lt}
use Rattle.calls_core.specs.Lists.{Each, EachPair}
use Rattle.std.specs.Prelude.{count_by, List, [], ◌∷◌, length, take, Option, Some, None, slice_get}
use Rattle.std.specs.Prelude.{if◌then◌else◌}
use Rattle.calls_turns.specs.declared.turn.Turn.{Turn}
use Rattle.calls_turns.specs.declared.turn.Taker.{Taker}
use Rattle.calls_turns.specs.declared.turn.Step.{Step}
use Rattle.calls_turns.specs.declared.turn.Reason.{Reason}
use Rattle.calls_turns.specs.declared.turn.Reason.TheVariants.{Due, Takers}
use Rattle.calls_turns.specs.declared.turn.Shortage.{Shortage}
use Rattle.calls_turns.specs.declared.turn.Share.{Share}
use Rattle.calls_turns.specs.declared.turn.Clash.{Clash}
use Rattle.calls_turns.specs.declared.turn.Clash.TheVariants.{Closed, Few, Full}

-- whether a turn or a taker is of item v, or of any item
abbrev pub has_item : Option ℕ → ℕ → Bool
has_item None v = false
has_item (Some w) v = w == v

abbrev pub is_of : ℕ → Taker → Bool
is_of v x = has_item x.item v

abbrev pub has_none : Option ℕ → Bool
has_none None = true
has_none (Some w) = false

-- how many takers of item v, and of any item, may take a turn by position p
abbrev pub come_of : List Taker → ℕ → ℕ → ℕ
come_of takers v p = count_by (λ (x : Taker). is_of v x && nat_le x.from p) takers

abbrev pub others_by : List Taker → ℕ → ℕ
others_by takers p = count_by (λ (x : Taker). has_none x.item && nat_le x.from p) takers

-- how many turns of the first n are of item v
abbrev pub turns_of : List Turn → ℕ → ℕ → ℕ
turns_of ts v n = count_by (λ (t : Turn). has_item t.item v) (take n ts)

-- how many turns come before the first spare one
abbrev pub known : List Turn → ℕ
known [] = 0
known (t ∷ ts) = if has_none t.item then 0 else known ts + 1

-- whether a taker of item v takes its turn after this position, if there is one, and by position p
abbrev pub is_later : Option ℕ → ℕ → Bool
is_later None p = true
is_later (Some q) p = nat_lt q p

abbrev pub is_within : ℕ → Option ℕ → ℕ → Taker → Bool
is_within v after p x = is_of v x && (is_later after x.from && nat_le x.by p)

-- how many turns are taken by a position, at least, by these steps
abbrev pub reached : List Step → ℕ → ℕ
reached [] p = 0
reached (s ∷ ss) p = if nat_le s.at p then max s.count (reached ss p) else reached ss p

abbrev pub reached_after : List Step → Option ℕ → ℕ
reached_after ss None = 0
reached_after ss (Some q) = reached ss q

-- turn number n, from 0, is due by position p
pub record IsDue (turns : List Turn) (n p : ℕ) : Type 0 where
  pub turn : Turn
  pub at : slice_get turns n ≡ Some turn
  pub by : turn.by ≤ p

-- of the first n turns, none of which is spare, too few are of item v for these takers, who take
-- none of those that are taken by the position after which they come
pub record AreTooFew (turns : List Turn) (ss : List Step) (n v : ℕ) (after : Option ℕ) (calls : ℕ)
    : Type 0 where
  pub before : n ≤ known turns
  pub few : turns_of turns v n < turns_of turns v (reached_after ss after) + calls

-- if only the first n turns were taken by position p, they were too few for these takers of item v;
-- or these would take their turns after p, and by p
pub record AreTooMany (turns : List Turn) (takers : List Taker) (ss : List Step) (p n v : ℕ)
    (after : Option ℕ) (calls : ℕ) : Type 0 where
  pub some : 0 < calls
  pub counted : calls ≤ count_by (is_within v after p) takers
  pub few : AreTooFew turns ss n v after calls ⊎ (is_later after p ≡ false)

-- why n + 1 turns are taken by position p, by earlier steps, the last one first
abbrev pub IsReason : List Turn → List Taker → List Step → ℕ → ℕ → Reason → Type 0
IsReason turns takers ss p n Due = IsDue turns n p
IsReason turns takers ss p n (Takers v after calls) =
    AreTooMany turns takers ss p n v after calls

pub record IsStep (end : ℕ) (turns : List Turn) (takers : List Taker) (ss : List Step) (s : Step)
    : Type 0 where
  pub before : s.at < end
  pub last : ℕ
  pub count : s.count ≡ last + 1
  pub reason : IsReason turns takers ss s.at last s.reason

-- each of the steps follows from those before it, the last one first
abbrev pub AreSteps : ℕ → List Turn → List Taker → List Step → Type 0
AreSteps end turns takers [] = Unit {0}
AreSteps end turns takers (s ∷ ss) =
    IsStep end turns takers ss s × AreSteps end turns takers ss

-- the position of the last step
abbrev pub last_at : List Step → ℕ
last_at [] = 0
last_at (s ∷ ss) = s.at

-- the number of turns that it reaches
abbrev pub last_count : List Step → ℕ
last_count [] = 0
last_count (s ∷ ss) = s.count

-- turn number k is not taken before a position later than p
pub record IsClosed (turns : List Turn) (p k : ℕ) : Type 0 where
  pub turn : Turn
  pub at : slice_get turns k ≡ Some turn
  pub later : p < turn.from

-- turn number k is not there, or not taken before a position later than p
abbrev pub IsNotOpen : List Turn → ℕ → ℕ → Type 0
IsNotOpen turns p k = (length turns ≤ k) ⊎ IsClosed turns p k

-- turn number s.turn is taken by position s.at, by these steps. Up to it there are so many turns of
-- an item, and so many takers of the item may take a turn by then
pub record IsShortage (turns : List Turn) (takers : List Taker) (ss : List Step) (s : Shortage)
    : Type 0 where
  pub taken : s.turn < reached ss s.at
  pub before : s.at ≤ last_at ss
  pub of_item : s.turns ≡ turns_of turns s.item (s.turn + 1)
  pub come : s.takers ≡ come_of takers s.item s.at
  pub few : s.takers ≤ s.turns

-- how many takers are missing
abbrev pub missing : List Shortage → ℕ
missing [] = 0
missing (s ∷ list) = (s.turns - s.takers) + missing list

-- takers of any item are too few for those that are missing
pub record AreShort (turns : List Turn) (takers : List Taker) (ss : List Step)
    (list : List Shortage) (others : ℕ) : Type 0 where
  pub each : Each (IsShortage turns takers ss) list
  pub apart : EachPair (λ (s t : Shortage). s.item ≢ t.item) list
  pub come : others ≡ others_by takers (last_at ss)
  pub more : others < missing list

-- so many takers of an item take their turns after a position, or at any time, and by position p.
-- Of the turns of the item, all but so many are taken by the position after which they come
pub record IsShare (turns : List Turn) (takers : List Taker) (ss : List Step) (p : ℕ) (s : Share)
    : Type 0 where
  pub counted : s.takers ≤ count_by (is_within s.item s.after p) takers
  pub left : turns_of turns s.item (length turns)
      ≤ turns_of turns s.item (reached_after ss s.after) + s.turns

-- how many of the takers take spare turns
abbrev pub excess : List Share → ℕ
excess [] = 0
excess (s ∷ list) = (s.takers - s.turns) + excess list

-- by position p so many spare turns are taken that turn number k, which comes after the known ones,
-- is taken. But it is not there, or not taken before a later position
pub record IsFull (end : ℕ) (turns : List Turn) (takers : List Taker) (ss : List Step) (k p n : ℕ)
    (list : List Share) : Type 0 where
  pub before : p < end
  pub each : Each (IsShare turns takers ss p) list
  pub apart : EachPair (λ (s t : Share). s.item ≢ t.item) list
  pub count : n ≡ known turns
  pub spare : n ≤ k
  pub more : k < n + excess list
  pub closed : IsNotOpen turns p k

abbrev pub IsClash : ℕ → List Turn → List Taker → List Step → Clash → Type 0
IsClash end turns takers ss (Closed k) =
    (k < last_count ss) × IsNotOpen turns (last_at ss) k
IsClash end turns takers ss (Few shortages others) =
    AreShort turns takers ss shortages.items others
IsClash end turns takers ss (Full x) =
    IsFull end turns takers ss x.turn x.at x.known x.shares.items

-- each of the steps, the last one first, follows from those before it, and together they need more
-- than can be taken
pub record Refute (end : ℕ) (turns : List Turn) (takers : List Taker) (ss : List Step)
    (clash : Clash) : Type 0 where
  pub steps : AreSteps end turns takers ss
  pub clashes : IsClash end turns takers ss clash
