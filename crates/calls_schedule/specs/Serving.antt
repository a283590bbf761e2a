-- Jobs that are given ranks, the one that is due first before the others.
use Rattle.std.specs.Prelude.{◌≡◌, ℕ, ◌+◌, ◌<◌, ◌≤◌, ◌⊎◌, min, List, [], ◌∷◌, ◌++◌, length, map, take}
use Rattle.std.specs.Prelude.{slice_index_or}
use Rattle.std.specs.declared.cmp.Ordering.{Ordering}
use Rattle.std.specs.declared.cmp.Reverse.{Reverse}
use Rattle.std.specs.Ordering.{nat_cmp, ordering_then}
use Rattle.std.specs.BinaryHeap.{IsHeap, heap_items}
use Rattle.std.specs.List.Sorted.{IsPermutation, IsNonDecreasingBy}
use Rattle.calls_core.specs.Lists.{Each, EachFrom}
use Rattle.calls_schedule.specs.declared.timed.Timed.{Timed}
use Rattle.calls_schedule.specs.declared.serving.Queue.{Queue}

-- the rank before which a job has to be given one
abbrev pub due_by : ℕ → Timed → ℕ
due_by n t = min t.late (t.by + n)

-- t is due before u, or with it and has begun no later
abbrev pub IsDueFirst : ℕ → Timed → Timed → Type 0
IsDueFirst n t u = (due_by n t < due_by n u)
    ⊎ ((due_by n t ≡ due_by n u) × (t.job.by ≤ u.job.by))

-- t may have a rank before u: u may not have this rank, or t is due first
abbrev pub IsPreferred : ℕ → ℕ → Timed → Timed → Type 0
IsPreferred n rank t u = (rank < u.early) ⊎ IsDueFirst n t u

-- the jobs in the order of their ranks, from this one on: each may have its rank, and is preferred
-- to those after it
abbrev pub IsServed : ℕ → ℕ → List Timed → Type 0
IsServed n rank [] = Unit {0}
IsServed n rank (t ∷ ts) = (t.early ≤ rank) × Each (IsPreferred n rank t) ts
    × IsServed n (rank + 1) ts

-- jobs in an order in which there is always one for the next rank
pub record AreReleased (list : List Timed) : Type 0 where
  pub rises : IsNonDecreasingBy (λ (t : Timed). t.early) list
  pub starts : (i : ℕ) (d : Timed) → i < length list → (slice_index_or list i d).early ≤ i

-- THE QUEUE

abbrev pub nothing : Timed
nothing = record {
  job = record { item = 0; early = 0; by = 0; late = 0 };
  early = 0;
  by = 0;
  late = 0;
}

-- a job in the queue: when it is due, by when it has begun, and its index
abbrev pub Entry : Type 0
Entry = Reverse (ℕ × ℕ × ℕ)

abbrev pub entry_cmp : Entry → Entry → Ordering
entry_cmp x y = ordering_then (ordering_then (nat_cmp y.0.0 x.0.0) (nat_cmp y.0.1 x.0.1))
    (nat_cmp y.0.2 x.0.2)

abbrev pub job_of : List Timed → Entry → Timed
job_of list e = slice_index_or list e.0.2 nothing

pub record IsEntry (n : ℕ) (list : List Timed) (e : Entry) : Type 0 where
  pub within : e.0.2 < length list
  pub due : e.0.0 ≡ due_by n (job_of list e)
  pub by : e.0.1 ≡ (job_of list e).job.by

-- u is no reason against the ranks that were given: each of the jobs was preferred to it
abbrev pub Follows : ℕ → List Timed → Timed → Type 0
Follows n given u = EachFrom (λ rank t. IsPreferred n rank t u) 0 given

-- a job in the queue may have the next rank
pub record IsOpen (n : ℕ) (list given : List Timed) (e : Entry) : Type 0 where
  pub entry : IsEntry n list e
  pub early : (job_of list e).early ≤ length given
  pub follows : Follows n given (job_of list e)

-- the jobs before next are in the queue, of these entries, or given ranks
pub record IsServing (n : ℕ) (list given : List Timed) (next : ℕ) (entries : List Entry) : Type 0
  where
    pub within : next ≤ length list
    pub heap : IsHeap entry_cmp entries
    pub opened : Each (IsOpen n list given) entries
    pub all : IsPermutation (take next list) (given ++ map (job_of list) entries)
    pub rest : (k : ℕ) → next ≤ k → k < length list
        → length given ≤ (slice_index_or list k nothing).early
    pub served : IsServed n 0 given

abbrev pub Serves : ℕ → List Timed → Queue → Type 0
Serves n list q = IsServing n list q.given.items q.next (heap_items q.waiting)
