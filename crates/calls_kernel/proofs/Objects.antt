-- The declared objects, in one numbering.
use Rattle.std.proofs.Common.{◌≡◌, ℕ, zero, suc, ◌+◌, ◌<◌, true, false, List, [], ◌∷◌, ◌++◌, length}
use Rattle.std.proofs.Common.{map, Some, slice_get, refl, ap, ◌∙◌, arith}
use Rattle.std.proofs.lemmas.Bool.{leb-false}
use Rattle.ec_count.specs.Tables.{Tables}
use Rattle.ec_count.specs.declared.setup.Rights.{Rights}
use Rattle.ec_count.specs.declared.setup.Access.{Access}
use Rattle.ec_core.specs.declared.act.Act.{Act}
use Rattle.ec_core.specs.declared.act.Act.TheVariants as acts
use Rattle.ec_core.specs.Acceptance.{names_unknown_object}
use Rattle.calls_core.specs.declared.history.Kind.{Kind}
use Rattle.calls_core.specs.declared.history.Kind.TheVariants.{Eventcount, Sequencer, Cell}
use Rattle.calls_core.specs.Histories.{Takes}
use Rattle.calls_kernel.specs.Outside.{kinds_of, is_call, outside_object, outside_op}
use Rattle.ec_core.proofs.shared.Joining.{get_back as get_right, get_front as get_left}

-- THE OBJECTS

get_all : {X : Type 0} (xs : List X) (k : Kind) (i : ℕ) → i < length xs
    → slice_get (map (λ (x : X). k) xs) i ≡ Some k
get_all [] k i h = absurd (omega arith)
get_all (x ∷ xs) k zero h = refl
get_all (x ∷ xs) k (suc i) h = get_all xs k i (omega arith)

pub length_all : {X : Type 0} (xs : List X) (k : Kind) → length (map (λ (x : X). k) xs) ≡ length xs
length_all [] k = refl
length_all (x ∷ xs) k = ap suc (length_all xs k)

module _ (t : Tables) where
  abbrev events : List Kind
  events = map (λ (r : Rights). Eventcount 0) t.events

  abbrev sequencers : List Kind
  sequencers = map (λ (ws : List ℕ). Sequencer) t.takers

  abbrev cells : List Kind
  cells = map (λ (a : Access). Cell) t.cells

  pub event_kind : (e : ℕ) → e < length t.events → slice_get (kinds_of t) e ≡ Some (Eventcount 0)
  event_kind e h =
      get_left events (sequencers ++ cells) e (omega (arith, length_all t.events (Eventcount 0)))
      ∙ get_all t.events (Eventcount 0) e h

  pub sequencer_kind : (q : ℕ) → q < length t.takers
      → slice_get (kinds_of t) (length t.events + q) ≡ Some Sequencer
  sequencer_kind q h =
      get_right events (sequencers ++ cells) (length t.events + q) q
      (omega (arith, length_all t.events (Eventcount 0)))
      ∙ get_left sequencers cells q (omega (arith, length_all t.takers Sequencer))
      ∙ get_all t.takers Sequencer q h

  pub cell_kind : (x : ℕ) → x < length t.cells
      → slice_get (kinds_of t) (length t.events + length t.takers + x) ≡ Some Cell
  cell_kind x h =
      get_right events (sequencers ++ cells) (length t.events + length t.takers + x)
      (length t.takers + x) (omega (arith, length_all t.events (Eventcount 0)))
      ∙ get_right sequencers cells (length t.takers + x) x
      (omega (arith, length_all t.takers Sequencer))
      ∙ get_all t.cells Cell x h

  -- each object has the operations that are called on it
  pub object_takes : (act : Act) → is_call act ≡ true → names_unknown_object t act ≡ false
      → Takes (slice_get (kinds_of t) (outside_object t act)) (outside_op act)
  object_takes (acts.Advance e) c h = rw (event_kind e (leb-false (length t.events) e h)) tt
  object_takes (acts.Read e) c h = rw (event_kind e (leb-false (length t.events) e h)) tt
  object_takes (acts.Await e v) c h = rw (event_kind e (leb-false (length t.events) e h)) tt
  object_takes (acts.Ticket q) c h = rw (sequencer_kind q (leb-false (length t.takers) q h)) tt
  object_takes (acts.Put x v) c h = rw (cell_kind x (leb-false (length t.cells) x h)) tt
  object_takes (acts.Get x) c h = rw (cell_kind x (leb-false (length t.cells) x h)) tt
  object_takes acts.Go c h = cc
  object_takes (acts.Hand e b) c h = cc
