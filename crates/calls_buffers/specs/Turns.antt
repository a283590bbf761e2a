-- The items of a history as turns. If no two produces overlap, it is known in which order the items
-- are taken out: each turn takes out the next one. If no two consumes overlap, it is known in which
-- order those items were put in that were returned: each turn puts in the next one. Others are put
-- in later, while there is room.
use Rattle.std.specs.Prelude.{◌≡◌, ℕ, zero, suc, ◌+◌, ◌-◌, ◌<◌, ◌≤◌, ◌⊎◌, nat_le, List, [], ◌∷◌}
use Rattle.std.specs.Prelude.{◌++◌, length, drop, slice_index_or, if◌then◌else◌, Bool, true, false}
use Rattle.std.specs.Prelude.{Some, None}
use Rattle.std.specs.List.Sorted.{IsPermutation}
use Rattle.calls_core.specs.declared.history.PendingCall.{PendingCall}
use Rattle.calls_core.specs.declared.history.Call.{Call}
use Rattle.calls_core.specs.Lists.{EachPair}
use Rattle.calls_turns.specs.declared.turn.Turn.{Turn}
use Rattle.calls_turns.specs.declared.turn.Taker.{Taker}
use Rattle.calls_buffers.specs.declared.accesses.Place.TheVariants.{Completed, Pending}
use Rattle.calls_buffers.specs.declared.accesses.Access.{Access}
use Rattle.calls_buffers.specs.declared.fault.Flow.{Flow}
use Rattle.calls_buffers.specs.declared.fault.Flow.TheVariants.{In, Out}
use Rattle.calls_buffers.specs.Counts.{is_consume}
use Rattle.calls_buffers.specs.Accesses.{put_item, taken_item}
use Rattle.calls_buffers.specs.Accesses.{accesses, asked}

-- the produces that may put an item in. A pending one returns at `end`
abbrev pub puts_of : ℕ → List Call → List PendingCall → List Access
puts_of end done pending = accesses put_item 0 done ++ asked end 0 pending

-- the consumes that returned an item
abbrev pub takes_of : List Call → List Access
takes_of done = accesses taken_item 0 done

-- one after another
abbrev pub AreApart : List Access → Type 0
AreApart list = EachPair (λ (a b : Access). a.last < b.first) list

-- each of them takes a turn of its item
abbrev pub takers_of : ℕ → List Access → List Taker
takers_of i [] = []
takers_of i (a ∷ list) =
    (record { call = i; item = Some a.item; from = a.first; by = a.last })
    ∷ takers_of (i + 1) list

-- a pending consume may take a turn of any item. The first of these calls has index i
abbrev pub asker_of : ℕ → ℕ → PendingCall → Bool → List Taker
asker_of end i o false = []
asker_of end i o true = record { call = i; item = None; from = o.first; by = end } ∷ []

abbrev pub askers_of : ℕ → ℕ → List PendingCall → List Taker
askers_of end i [] = []
askers_of end i (o ∷ os) = asker_of end i o (is_consume o.op) ++ askers_of end (i + 1) os

-- ITEMS ARE TAKEN OUT: each after its produce was invoked, and before the produce returned that
-- comes n after it

abbrev pub last_or : ℕ → List Access → ℕ
last_or end [] = end
last_or end (a ∷ list) = a.last

abbrev pub taking_turns : ℕ → ℕ → List Access → List Turn
taking_turns n end [] = []
taking_turns n end (p ∷ puts) =
    (record { item = Some p.item; from = p.first; by = last_or end (drop n (p ∷ puts)) })
    ∷ taking_turns n end puts

pub record AreTaken (n end : ℕ) (done : List Call) (pending : List PendingCall)
    (turns : List Turn) (takers : List Taker) : Type 0 where
  pub puts : List Access
  pub all : IsPermutation (puts_of end done pending) puts
  pub apart : AreApart puts
  pub turns_are : turns ≡ taking_turns n end puts
  pub takers_are : takers ≡ takers_of 0 (takes_of done) ++ askers_of end 0 pending

-- ITEMS ARE PUT IN: each before its consume returned, and after the consume was invoked that takes
-- out the item n before it. Items that nobody returned are put in last

-- a pending consume may take any item out, until `end`. The first of these calls has index i
abbrev pub asking_of : ℕ → ℕ → PendingCall → Bool → List Access
asking_of end i o false = []
asking_of end i o true = record { item = 0; place = Pending i; first = o.first; last = end } ∷ []

abbrev pub asking : ℕ → ℕ → List PendingCall → List Access
asking end i [] = []
asking end i (o ∷ os) = asking_of end i o (is_consume o.op) ++ asking end (i + 1) os

-- what does not happen is at `end`
abbrev pub absent : ℕ → Access
absent end = record { item = 0; place = Completed 0; first = end; last = end }

-- from where on there is room for item number k: the consume was invoked that takes out the item n
-- before it
abbrev pub first_before : ℕ → ℕ → List Access → ℕ → ℕ
first_before n end all k =
    if nat_le n k then (slice_index_or all (k - n) (absent end)).first else 0

abbrev pub putting_turns : ℕ → ℕ → List Access → ℕ → List Access → List Turn
putting_turns n end all k [] = []
putting_turns n end all k (c ∷ takes) =
    (record { item = Some c.item; from = first_before n end all k; by = c.last })
    ∷ putting_turns n end all (k + 1) takes

-- turns of so many items that nobody returned, of which the first is number k
abbrev pub spare_turns : ℕ → ℕ → List Access → ℕ → ℕ → List Turn
spare_turns n end all k zero = []
spare_turns n end all k (suc left) =
    (record { item = None; from = first_before n end all k; by = end })
    ∷ spare_turns n end all (k + 1) left

-- the turns of so many produces, if all these consumes take items out in their order, and the first
-- of them are those that returned one
abbrev pub turns_in : ℕ → ℕ → List Access → List Access → ℕ → List Turn
turns_in n end takes all puts =
    putting_turns n end all 0 takes
    ++ spare_turns n end all (length takes) (puts - length takes)

-- no more is put in than was returned, or pending consumes come after these, one after another: so
-- there is at most one
abbrev pub AreFewOrApart : ℕ → List Access → List Access → Type 0
AreFewOrApart puts takes pending = (puts ≤ length takes) ⊎ AreApart (takes ++ pending)

pub record ArePut (n end : ℕ) (done : List Call) (pending : List PendingCall)
    (turns : List Turn) (takers : List Taker) : Type 0 where
  pub takes : List Access
  pub all : IsPermutation (takes_of done) takes
  pub apart : AreApart takes
  pub rest : AreFewOrApart (length (puts_of end done pending)) takes (asking end 0 pending)
  pub turns_are : turns ≡ turns_in n end takes (takes ++ asking end 0 pending)
      (length (puts_of end done pending))
  pub takers_are : takers ≡ takers_of 0 (puts_of end done pending)

-- the turns of a history, and those who take them
abbrev pub AreTurns : Flow → ℕ → ℕ → List Call → List PendingCall → List Turn → List Taker → Type 0
AreTurns Out n end done pending turns takers = AreTaken n end done pending turns takers
AreTurns In n end done pending turns takers = ArePut n end done pending turns takers
