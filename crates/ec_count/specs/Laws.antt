-- What the definitions mean.
use Rattle.std.specs.Prelude.{◌≡◌, ◌≢◌, ◌↔◌, ℕ, ◌<◌, Bool, true, false, List, length, Some, None, MatchOption, slice_get}
use Rattle.std.specs.List.{All}
use Rattle.ec_count.specs.declared.target.Target.{Target}
use Rattle.ec_count.specs.Names.{AreNames, find_name, name_of}
use Rattle.ec_count.specs.Tables.{Tables, IsDeclared, first_that, component_of, signaller, is_silent, may_observe, may_take, may_write, may_read}

-- the fault is that of the first test that holds; if there is none, no test holds
abbrev pub FirstTestAnswers : Type 0 → Type 0
FirstTestAnswers F = (tests : List (Bool × F))
    → MatchOption (first_that tests)
    (All (λ x. x.0 ≡ false) tests)
    (λ f. (i : ℕ) × (slice_get tests i ≡ Some (true, f)) × ((k : ℕ) (x : Bool × F) → k < i → slice_get tests k ≡ Some x → x.0 ≡ false))

-- a worker signals a component exactly if the component is its own
abbrev pub OneSignaller : Type 0
OneSignaller = (t : Tables) → IsDeclared t → (e c w : ℕ) → (component_of t e w ≡ Some c) ↔ (signaller t e c ≡ Some w)

-- the worker has no component of an eventcount, takes from no sequencer and writes no cell
pub record HasNoRight (t : Tables) (w : ℕ) : Type 0 where
  pub signals : (e : ℕ) → component_of t e w ≡ None
  pub takes : (q : ℕ) → may_take t q w ≡ false
  pub writes : (x : ℕ) → may_write t x w ≡ false

-- a read-only worker is a declared one that has none of these rights
abbrev pub SilenceIsNoRight : Type 0
SilenceIsNoRight = (t : Tables) (w : ℕ) → (is_silent t w ≡ true) ↔ ((w < t.workers) × HasNoRight t w)

-- if w has a right on i, both are declared
pub record AreBothDeclared (t : Tables) (i w : ℕ) : Type 0 where
  pub signals : (c : ℕ) → component_of t i w ≡ Some c → (i < length t.events) × (w < t.workers)
  pub observes : may_observe t i w ≡ true → (i < length t.events) × (w < t.workers)
  pub takes : may_take t i w ≡ true → (i < length t.takers) × (w < t.workers)
  pub writes : may_write t i w ≡ true → (i < length t.cells) × (w < t.workers)
  pub reads : may_read t i w ≡ true → (i < length t.cells) × (w < t.workers)

-- only declared workers have rights, and only on what is declared
abbrev pub RightsAreDeclared : Type 0
RightsAreDeclared = (t : Tables) → IsDeclared t → (i w : ℕ) → AreBothDeclared t i w

-- the name was added for the target, and no earlier name was
pub record IsFirstName (target : Target) (names : List (List ℕ × Target)) (name : List ℕ) : Type 0 where
  pub place : ℕ
  pub at : slice_get names place ≡ Some (name, target)
  pub none_before : (k : ℕ) (e : List ℕ × Target) → k < place → slice_get names k ≡ Some e → e.1 ≢ target

-- an entry of a table of names is found by its name; the name that is returned for a target is the
-- first that was added for it, and is found with this target
pub record AreFound (names : List (List ℕ × Target)) : Type 0 where
  pub entries : (i : ℕ) (e : List ℕ × Target) → slice_get names i ≡ Some e → find_name e.0 names ≡ Some e.1
  pub targets : (target : Target) (name : List ℕ) → name_of target names ≡ Some name → find_name name names ≡ Some target
  pub first : (target : Target) (name : List ℕ) → name_of target names ≡ Some name → IsFirstName target names name

abbrev pub NamesAreFound : Type 0
NamesAreFound = (names : List (List ℕ × Target)) → AreNames names → AreFound names
