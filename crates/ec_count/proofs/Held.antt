-- Only declared workers have rights, and only on declared objects.
use Rattle.std.proofs.Common.{◌≡◌, ℕ, ◌<◌, ◌==◌, true, false, ◌||◌, List, [], ◌∷◌, length, slice_get, Some, None, refl, arith}
use Rattle.std.specs.List.{All}
use Rattle.std.specs.Option.{option_map_or}
use Rattle.std.proofs.lemmas.Bool.{eqb-true}
use Rattle.std.proofs.lemmas.List.Elements.{All-head, All-tail}
use Rattle.std.proofs.lemmas.Option.{slice_get_within}
use Rattle.ec_count.specs.declared.setup.Rights.{Rights}
use Rattle.ec_count.specs.declared.setup.Access.{Access}
use Rattle.ec_count.specs.Members.{AreWorkers, AreTwoLists, is_member, index_of}
use Rattle.ec_count.specs.Tables.{Tables, IsDeclared, component_of}
use Rattle.ec_count.specs.Laws.{RightsAreDeclared}
use Rattle.ec_count.proofs.shared.Declared.{at_place, found_there, rights_at}

member_below : (n w : ℕ) (ws : List ℕ) → All (λ v. v < n) ws → is_member w ws ≡ true → w < n
member_below n w [] all h = cc
member_below n w (v ∷ vs) all h =
    elim (v == w) as (λ b. (v == w) ≡ b → (b || is_member w vs) ≡ true → w < n) [
      | true ↦ λ e g. (let same : v ≡ w = eqb-true v w e in let lt : v < n = All-head (λ u. u < n) v vs all in omega arith)
      | false ↦ λ e g. member_below n w vs (All-tail (λ u. u < n) v vs all) g
    ] refl h

-- if w is in the list of row i, both are declared
listed : {X : Type 0} (list : X → List ℕ) (n w i : ℕ) (rows : List X) → ((x : X) → slice_get rows i ≡ Some x → AreWorkers n (list x))
    → option_map_or (λ x. is_member w (list x)) (slice_get rows i) false ≡ true → (i < length rows) × (w < n)
listed {X} list n w i rows each h =
    elim (slice_get rows i) as (λ o. slice_get rows i ≡ o → option_map_or (λ x. is_member w (list x)) o false ≡ true → (i < length rows) × (w < n)) [
      | None ↦ λ at g. (cc)
      | Some x ↦ λ at g. (slice_get_within rows i x at, member_below n w (list x) (each x at).declared g)
    ] refl h

signals_declared : (t : Tables) → IsDeclared t → (i w c : ℕ) → component_of t i w ≡ Some c → (i < length t.events) × (w < t.workers)
signals_declared t d i w c h =
    elim (slice_get t.events i) as (λ o. slice_get t.events i ≡ o → index_of w (option_map_or (λ (r : Rights). r.signal) o []) ≡ Some c → (i < length t.events) × (w < t.workers)) [
      | None ↦ λ at g. (cc)
      | Some r ↦ λ at g.
          (let place = found_there w 0 c r.signal g in
          (slice_get_within t.events i r at, at_place (λ v. v < t.workers) r.signal place.0 w (rights_at t i r d at).0.declared place.2))
    ] refl h

access_at : (t : Tables) (x : ℕ) (a : Access) → IsDeclared t → slice_get t.cells x ≡ Some a → AreTwoLists t.workers a.write a.read
access_at t x a d at = at_place (λ (b : Access). AreTwoLists t.workers b.write b.read) t.cells x a d.access at

takers_at : (t : Tables) (q : ℕ) (ws : List ℕ) → IsDeclared t → slice_get t.takers q ≡ Some ws → AreWorkers t.workers ws
takers_at t q ws d at = (at_place (λ (vs : List ℕ). AreWorkers t.workers vs × (0 < length vs)) t.takers q ws d.takers at).0

pub rights_declared : RightsAreDeclared
rights_declared t d i w = record {
  signals = λ c h. signals_declared t d i w c h;
  observes = λ h. listed (λ (r : Rights). r.observe) t.workers w i t.events (λ r at. (rights_at t i r d at).2) h;
  takes = λ h. listed (λ (ws : List ℕ). ws) t.workers w i t.takers (λ ws at. takers_at t i ws d at) h;
  writes = λ h. listed (λ (a : Access). a.write) t.workers w i t.cells (λ a at. (access_at t i a d at).0) h;
  reads = λ h. listed (λ (a : Access). a.read) t.workers w i t.cells (λ a at. (access_at t i a d at).2) h;
}
