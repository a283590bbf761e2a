-- What is declared at an id, and what stays declared if more is added.
use Rattle.std.specs.Prelude.{◌≡◌, ℕ, ◌+◌, ◌<◌, true, List, [], ◌∷◌, ◌++◌, Some, slice_get}
use Rattle.ec_count.specs.declared.setup.Rights.{Rights}
use Rattle.ec_count.specs.declared.setup.Access.{Access}
use Rattle.ec_count.specs.Tables.{Tables}

-- the tables with one more sequencer
abbrev pub with_sequencer : Tables → List ℕ → Tables
with_sequencer t take = record t { takers = t.takers ++ take ∷ [] }

-- e is a fixed eventcount with exactly these signallers and observers
abbrev pub DeclaresFixedEvent : Tables → ℕ → List ℕ → List ℕ → Type 0
DeclaresFixedEvent t e signal observe = slice_get t.events e ≡ Some (record { signal = signal; observe = observe; fixed = true })

-- q is a sequencer with exactly these takers
abbrev pub DeclaresSequencer : Tables → ℕ → List ℕ → Type 0
DeclaresSequencer t q take = slice_get t.takers q ≡ Some take

-- the n cells from this one on have exactly these writers and readers
abbrev pub DeclaresCells : Tables → ℕ → ℕ → List ℕ → List ℕ → Type 0
DeclaresCells t first n write read = (k : ℕ) → k < n → slice_get t.cells (first + k) ≡ Some (record { write = write; read = read })

-- whatever is declared in the old tables is declared in the new ones, at the same id
pub record KeepsObjects (old new : Tables) : Type 0 where
  pub events : (e : ℕ) (r : Rights) → slice_get old.events e ≡ Some r → slice_get new.events e ≡ Some r
  pub takers : (q : ℕ) (take : List ℕ) → slice_get old.takers q ≡ Some take → slice_get new.takers q ≡ Some take
  pub cells : (x : ℕ) (a : Access) → slice_get old.cells x ≡ Some a → slice_get new.cells x ≡ Some a
