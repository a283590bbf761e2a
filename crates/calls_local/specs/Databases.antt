-- Databases over lists. A database holds a list with the number of each of its cells, but a
-- recorded call has one number for the whole list. The recorder has to give equal lists one number,
-- and different lists different ones. Then the calls of a database, one after another, are legal
-- over the lists exactly when they are legal over the numbers, as calls of a cell. So the
-- sequential specification of a database is that of a cell, and a decision over the numbers is one
-- over the lists.
use Rattle.std.specs.Prelude.{◌≡◌, ◌↔◌, ℕ, List, [], ◌∷◌, Some, replicate}
use Rattle.calls_core.specs.declared.history.Kind.TheVariants.{Database}
use Rattle.calls_core.specs.declared.history.Op.TheVariants.{Put, Get}
use Rattle.calls_core.specs.declared.history.Reply.TheVariants.{Done, Number}
use Rattle.calls_core.specs.declared.history.Call.{Call}
use Rattle.calls_core.specs.Linearizations.{IsLegalHistory, initial}

-- a call of a database as its user sees it: it wrote the numbers of all cells and returned nothing,
-- or it returned the numbers of all cells
pub data ListCall : Type 0 where
  Write : List ℕ → ListCall
  Snapshot : List ℕ → ListCall

-- from the list vs on, one call after another: a write replaces the list, and a snapshot returns it
abbrev pub IsListRun : List ℕ → List ListCall → Type 0
IsListRun vs [] = Unit {0}
IsListRun vs (Write us ∷ ls) = IsListRun us ls
IsListRun vs (Snapshot us ∷ ls) = (us ≡ vs) × IsListRun vs ls

-- the call as it is recorded, if f us is the number of the list us
abbrev pub IsNumbered : (List ℕ → ℕ) → ListCall → Call → Type 0
IsNumbered f (Write us) c = (c.op ≡ Put (f us)) × (c.reply ≡ Done)
IsNumbered f (Snapshot us) c = (c.op ≡ Get) × (c.reply ≡ Number (f us))

-- the calls as they are recorded, one by one
abbrev pub AreNumbered : (List ℕ → ℕ) → List ListCall → List Call → Type 0
AreNumbered f [] [] = Unit {0}
AreNumbered f [] (c ∷ cs) = ⊥
AreNumbered f (l ∷ ls) [] = ⊥
AreNumbered f (l ∷ ls) (c ∷ cs) = IsNumbered f l c × AreNumbered f ls cs

-- different lists have different numbers
abbrev pub AreDistinctNumbers : (List ℕ → ℕ) → Type 0
AreDistinctNumbers f = (us vs : List ℕ) → f us ≡ f vs → us ≡ vs

-- calls are legal over lists exactly when they are legal over the lists' numbers, from a list and
-- its number on
abbrev pub ListsGoByNumbers : Type 0
ListsGoByNumbers = (f : List ℕ → ℕ) → AreDistinctNumbers f → (m : ℕ → ℕ) (vs : List ℕ)
    → m 0 ≡ f vs → (ls : List ListCall) (cs : List Call) → AreNumbered f ls cs
    → IsListRun vs ls ↔ IsLegalHistory m cs

-- the same for a database with n cells, which are all 0 at first, if that list has the number 0
abbrev pub DatabasesGoByNumbers : Type 0
DatabasesGoByNumbers = (f : List ℕ → ℕ) → AreDistinctNumbers f → (n : ℕ) → f (replicate n 0) ≡ 0
    → (ls : List ListCall) (cs : List Call) → AreNumbered f ls cs
    → IsListRun (replicate n 0) ls ↔ IsLegalHistory (initial (Some (Database n))) cs
