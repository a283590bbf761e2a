-- Whatever is added, what was declared stays declared.
use Rattle.std.proofs.Common.{◌≡◌, ℕ, zero, suc, List, [], ◌∷◌, ◌++◌, Some, slice_get}
use Rattle.ec_count.specs.Tables.{Tables, with_event, with_fixed_event, with_cells}
use Rattle.ec_count.specs.Declares.{KeepsObjects, with_sequencer}

-- an element stays at its position if more follow
pub still_there : {X : Type 0} (xs ys : List X) (i : ℕ) (x : X) → slice_get xs i ≡ Some x → slice_get (xs ++ ys) i ≡ Some x
still_there [] ys i x h = cc
still_there (y ∷ xs) ys zero x h = h
still_there (y ∷ xs) ys (suc i) x h = still_there xs ys i x h

-- what is declared stays so if nothing is added
pub keeps_same : (t : Tables) → KeepsObjects t t
keeps_same t = record { events = λ e r h. h; takers = λ q take h. h; cells = λ x a h. h }

-- what stays declared in each of two steps stays so in both together
pub keeps_then : (t u v : Tables) → KeepsObjects t u → KeepsObjects u v → KeepsObjects t v
keeps_then t u v p q = record {
  events = λ e r h. q.events e r (p.events e r h);
  takers = λ s take h. q.takers s take (p.takers s take h);
  cells = λ x a h. q.cells x a (p.cells x a h);
}

-- what is declared stays so if an eventcount is added
pub keeps_event : (t : Tables) (signal observe : List ℕ) → KeepsObjects t (with_event t signal observe)
keeps_event t signal observe = record { events = λ e r h. still_there t.events _ e r h; takers = λ q take h. h; cells = λ x a h. h }

-- what is declared stays so if a fixed eventcount is added
pub keeps_fixed_event : (t : Tables) (signal observe : List ℕ) → KeepsObjects t (with_fixed_event t signal observe)
keeps_fixed_event t signal observe = record { events = λ e r h. still_there t.events _ e r h; takers = λ q take h. h; cells = λ x a h. h }

-- what is declared stays so if a sequencer is added
pub keeps_sequencer : (t : Tables) (take : List ℕ) → KeepsObjects t (with_sequencer t take)
keeps_sequencer t take = record { events = λ e r h. h; takers = λ q ws h. still_there t.takers _ q ws h; cells = λ x a h. h }

-- what is declared stays so if cells are added
pub keeps_cells : (t : Tables) (n : ℕ) (write read : List ℕ) → KeepsObjects t (with_cells t n write read)
keeps_cells t n write read = record { events = λ e r h. h; takers = λ q take h. h; cells = λ x a h. still_there t.cells _ x a h }
