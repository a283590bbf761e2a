-- When two targets are the same, and what a target's hash reads.
use Rattle.std.proofs.Common.{◌≡◌, ℕ, Bool, true, false, ◌==◌, ◌&&◌, List, ◌++◌, IsTrue, refl, ap}
use Rattle.std.specs.Bool.{Decides}
use Rattle.std.specs.Cmp.{IsEquivalence, IsPartialEquivalence, decided, partial_equiv_from_equiv}
use Rattle.std.specs.Hash as fed
use Rattle.std.proofs.lemmas.Bool.{and_parts, and_from, eqb-true, eq-eqb}
use Rattle.ec_count.specs.declared.target.Target.{Target}
use Rattle.ec_count.specs.declared.target.Target.TheVariants.{Worker, Event, Sequencer, Cells, Group}

-- whether two targets are the same
abbrev pub same_target : Target → Target → Bool
same_target (Worker v) (Worker w) = v == w
same_target (Event d) (Event e) = d == e
same_target (Sequencer p) (Sequencer q) = p == q
same_target (Cells x m) (Cells y n) = (x == y) && (m == n)
same_target (Group i) (Group j) = i == j
same_target _ _ = false

pub target_is : (s t : Target) → same_target s t ≡ true → s ≡ t
target_is (Worker v) (Worker w) h = ap Worker (eqb-true v w h)
target_is (Event d) (Event e) h = ap Event (eqb-true d e h)
target_is (Sequencer p) (Sequencer q) h = ap Sequencer (eqb-true p q h)
target_is (Cells x m) (Cells y n) h = (let p = and_parts (x == y) (m == n) h in let a = eqb-true x y p.0 in let b = eqb-true m n p.1 in cc)
target_is (Group i) (Group j) h = ap Group (eqb-true i j h)
target_is _ _ h = cc

own_target : (t : Target) → same_target t t ≡ true
own_target (Worker v) = eq-eqb v v refl
own_target (Event d) = eq-eqb d d refl
own_target (Sequencer p) = eq-eqb p p refl
own_target (Cells x m) = and_from (x == x) (m == m) (eq-eqb x x refl) (eq-eqb m m refl)
own_target (Group i) = eq-eqb i i refl

pub targets_decide : (s t : Target) → Decides (same_target s t) (s ≡ t)
targets_decide s t = (target_is s t, λ e. (let own = own_target s in cc))

-- `==` is an equivalence
pub same_target_whole : IsEquivalence same_target
same_target_whole = decided same_target targets_decide

pub same_target_part : IsPartialEquivalence same_target
same_target_part = partial_equiv_from_equiv same_target_whole

-- what the hash of a target reads: its sort and its numbers
abbrev pub target_input : Target → List (List ℕ)
target_input (Worker w) = fed.u8 0 ++ fed.usize w
target_input (Event e) = fed.u8 1 ++ fed.usize e
target_input (Sequencer q) = fed.u8 2 ++ fed.usize q
target_input (Cells x n) = fed.u8 3 ++ fed.usize x ++ fed.usize n
target_input (Group i) = fed.u8 4 ++ fed.usize i

pub target_alike : (s t : Target) → IsTrue (same_target s t) → target_input s ≡ target_input t
target_alike s t h = ap target_input (target_is s t h)
