-- Who signals at each moment.
use Rattle.std.proofs.Common.{◌≡◌, ℕ, true, false, List, [], ◌∷◌, length, slice_get, Option, Some, None, refl, ap, ◌∙◌, cond, ◌==◌}
use Rattle.std.proofs.Math.ListN.{length-set}
use Rattle.std.specs.Option.{option_map_or}
use Rattle.ec_count.specs.Tables.{Tables, IsDeclared, signallers}
use Rattle.ec_count.specs.Members.{has_repeat, index_of, replace_at}
use Rattle.ec_count.specs.declared.setup.Rights.{Rights}
use Rattle.ec_count.proofs.shared.Declared.{rights_at}
use Rattle.ec_core.specs.declared.act.Act.{Act}
use Rattle.ec_core.specs.declared.act.Act.TheVariants.{Advance, Read, Await, Go, Ticket, Put, Get, Hand}
use Rattle.ec_core.specs.declared.act.Entry.{Entry}
use Rattle.ec_core.specs.Counts.{signallers_after, signallers_at}
use Rattle.ec_core.specs.Rounds.{component_count}

-- the declared signallers are different
pub different_signallers : (t : Tables) (e : ℕ) → IsDeclared t → has_repeat (signallers t e) ≡ false
different_signallers t e d =
    elim (slice_get t.events e) as (λ o. slice_get t.events e ≡ o → has_repeat (option_map_or (λ (r : Rights). r.signal) o []) ≡ false) [
      | None ↦ λ at. refl
      | Some r ↦ λ at. (rights_at t e r d at).0.different
    ] refl

replaced_length : (o : Option ℕ) (b : ℕ) (ws : List ℕ) → length (replace_at o b ws) ≡ length ws
replaced_length None b ws = refl
replaced_length (Some c) b ws = simp length-set

handed_length : (e w : ℕ) (act : Act) (ws : List ℕ)
    → length (signallers_after e w act ws) ≡ length ws
handed_length e w (Advance f) ws = refl
handed_length e w (Read f) ws = refl
handed_length e w (Await f v) ws = refl
handed_length e w Go ws = refl
handed_length e w (Ticket q) ws = refl
handed_length e w (Put x v) ws = refl
handed_length e w (Get x) ws = refl
handed_length e w (Hand f b) ws = elim (f == e) as (λ t. length (cond t (replace_at (index_of w ws) b ws) ws) ≡ length ws) [ true ↦ replaced_length (index_of w ws) b ws | false ↦ refl ]

-- a hand changes no number of components
pub signallers_length : (t : Tables) (e : ℕ) (past : List Entry) → length (signallers_at t e past) ≡ component_count t e
unfolding signallers_at
signallers_length t e [] = refl
signallers_length t e (x ∷ past) = handed_length e x.worker x.act (signallers_at t e past) ∙ signallers_length t e past

-- a worker that signals nothing of e leaves its signallers as they are
pub handed_by_none : (e w : ℕ) (act : Act) (ws : List ℕ) → index_of w ws ≡ None → signallers_after e w act ws ≡ ws
handed_by_none e w (Advance f) ws none = refl
handed_by_none e w (Read f) ws none = refl
handed_by_none e w (Await f v) ws none = refl
handed_by_none e w Go ws none = refl
handed_by_none e w (Ticket q) ws none = refl
handed_by_none e w (Put x v) ws none = refl
handed_by_none e w (Get x) ws none = refl
handed_by_none e w (Hand f b) ws none =
    elim (f == e) as (λ is. cond is (replace_at (index_of w ws) b ws) ws ≡ ws) [ true ↦ ap (λ o. replace_at o b ws) none | false ↦ refl ]
