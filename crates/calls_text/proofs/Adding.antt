-- Objects are added, one sort after another.
use Rattle.std.proofs.Common.{◌≡◌, ◌<◌, ◌≤◌, ℕ, zero, suc, ◌+◌, List, [], ◌∷◌, ◌++◌, length, map}
use Rattle.std.proofs.Common.{Some, slice_get, refl, ap, sym, ◌∙◌, subst, arith, ⊎_elim}
use Rattle.std.proofs.Common.{length-append}
use Rattle.std.proofs.lemmas.Bool.{cases_lt}
use Rattle.std.proofs.lemmas.Option.{slice_get_within}
use Rattle.std.specs.Global.{Vec}
use Rattle.ec_heading.specs.declared.group.Group.{Group}
use Rattle.calls_core.specs.declared.history.Kind.{Kind}
use Rattle.calls_core.specs.declared.history.Kind.TheVariants.{Eventcount, Sequencer, Cell}
use Rattle.calls_core.specs.declared.history.Kind.TheVariants.{Semaphores}
use Rattle.ec_heading.specs.HeadingModel.{HeadingModel}
use Rattle.calls_text.specs.Recordings.{HasFrom, HasUnits, HasGroups, kind_of_group, initial_of}
use Rattle.calls_text.specs.Recordings.{AreKinds, start_count, first_sequencer, first_cell}
use Rattle.calls_text.specs.Recordings.{semaphores, first_group}
use Rattle.calls_text.specs.kept.Adding.{Grows}
use Rattle.ec_core.proofs.shared.Joining.{get_front}
use Rattle.ec_heading.proofs.shared.AddedObjects.{at_end as get_end}

-- ELEMENTS

pub get_last : {A : Type 0} (xs : List A) (x : A) (i : ℕ) → i ≡ length xs
    → slice_get (xs ++ x ∷ []) i ≡ Some x
get_last xs x i is = ap (slice_get (xs ++ x ∷ [])) is ∙ get_end xs x

-- MORE

pub grows_push : {A : Type 0} (old new : List A) (n : ℕ) (x : A) → Grows old new n
    → Grows old (new ++ x ∷ []) (n + 1)
grows_push old new n x grows =
    let longer : length new ≡ length old + n = grows.longer in
    record {
      longer = omega (arith, length-append new (x ∷ []));
      same = λ i lt. get_front new (x ∷ []) i (omega arith) ∙ grows.same i lt;
    }

pub grows_on : {A : Type 0} (xs ys zs : List A) (m n : ℕ) → Grows xs ys m → Grows ys zs n
    → Grows xs zs (m + n)
grows_on xs ys zs m n one other =
    let first : length ys ≡ length xs + m = one.longer in
    let second : length zs ≡ length ys + n = other.longer in
    record {
      longer = omega arith;
      same = λ i lt. other.same i (omega arith) ∙ one.same i lt;
    }

-- ONE SORT

pub from_push : (kinds : List Kind) (n count : ℕ) (kind : ℕ → Kind) (one : Kind)
    → length kinds ≡ n + count → one ≡ kind count → HasFrom kinds n count kind
    → HasFrom (kinds ++ one ∷ []) n (count + 1) kind
from_push kinds n count kind one long is has = λ i lt.
    ⊎_elim
    (λ (below : i < count). get_front kinds (one ∷ []) (n + i) (omega arith) ∙ has i below)
    (λ (above : count ≤ i). (let same : i ≡ count = omega arith in
    get_last kinds one (n + i) (omega arith) ∙ ap Some (is ∙ ap kind (sym same))))
    (cases_lt i count)

-- these kinds are unchanged after objects are added
pub from_grows : (old new : List Kind) (n count more : ℕ) (kind : ℕ → Kind)
    → n + count ≤ length old → HasFrom old n count kind → Grows old new more
    → HasFrom new n count kind
from_grows old new n count more kind long has grows = λ i lt.
    grows.same (n + i) (omega arith) ∙ has i lt

-- GROUPS

-- the first k groups
abbrev pub HasGroupsTo : List Kind → ℕ → List Group → ℕ → Type 0
HasGroupsTo kinds n gs k = (i : ℕ) (g : Group) → i < k → slice_get gs i ≡ Some g
    → slice_get kinds (n + i) ≡ Some (kind_of_group g)

pub groups_push : (kinds : List Kind) (n k : ℕ) (gs : List Group) (h : Group)
    → length kinds ≡ n + k → slice_get gs k ≡ Some h → HasGroupsTo kinds n gs k
    → HasGroupsTo (kinds ++ kind_of_group h ∷ []) n gs (k + 1)
groups_push kinds n k gs h long at has = λ i g lt is.
    ⊎_elim
    (λ (below : i < k).
    get_front kinds (kind_of_group h ∷ []) (n + i) (omega arith) ∙ has i g below is)
    (λ (above : k ≤ i). (let same : i ≡ k = omega arith in
    let one : h ≡ g = cc (at, is, ap (slice_get gs) same) in
    get_last kinds (kind_of_group h) (n + i) (omega arith)
    ∙ ap (λ (x : Group). Some (kind_of_group x)) one))
    (cases_lt i k)

pub groups_all : (kinds : List Kind) (n k : ℕ) (gs : List Group) → k ≡ length gs
    → HasGroupsTo kinds n gs k → HasGroups kinds n gs
groups_all kinds n k gs is has = λ i g at. has i g (omega (arith, slice_get_within gs i g at)) at

-- UNITS

pub units_push : (kinds : List Kind) (n : ℕ) (gs : List Group) (units : Vec ℕ)
    → n ≡ length kinds → units.items ≡ map initial_of gs
    → HasUnits (kinds ++ Semaphores units ∷ []) n gs
units_push kinds n gs units is all = (units, get_last kinds (Semaphores units) n is, all)

pub units_grow : (old new : List Kind) (n more : ℕ) (gs : List Group) → n < length old
    → HasUnits old n gs → Grows old new more → HasUnits new n gs
units_grow old new n more gs lt has grows = (has.0, grows.same n lt ∙ has.1, has.2)

-- ALL OBJECTS

from_is : (kinds : List Kind) (m n c d : ℕ) (kind : ℕ → Kind) → m ≡ n → c ≡ d
    → HasFrom kinds m c kind → HasFrom kinds n d kind
from_is kinds m n c d kind start count has = λ i lt.
    ap (λ (k : ℕ). slice_get kinds (k + i)) (sym start) ∙ has i (omega arith)

pub are_kinds : (h : HeadingModel) (from : List (ℕ × ℕ)) (k0 k1 k2 k3 k4 k5 : List Kind) (e q x : ℕ)
    (gs hs : List Group) → length k0 ≡ 0 → e ≡ length h.setup.events → q ≡ length h.setup.takers
    → x ≡ length h.setup.cells → gs ≡ h.groups → hs ≡ h.groups
    → Grows k0 k1 e → HasFrom k1 (length k0) e (λ k. Eventcount (start_count from k))
    → Grows k1 k2 q → HasFrom k2 (length k1) q (λ k. Sequencer)
    → Grows k2 k3 x → HasFrom k3 (length k2) x (λ k. Cell)
    → Grows k3 k4 1 → HasUnits k4 (length k3) gs
    → Grows k4 k5 (length hs) → HasGroups k5 (length k4) hs → AreKinds h from k5
are_kinds h from k0 k1 k2 k3 k4 k5 e q x gs hs empty ie iq ix ig ih g1 a1 g2 a2 g3 a3 g4 a4 g5 a5 =
    let l1 : length k1 ≡ length k0 + e = g1.longer in
    let l2 : length k2 ≡ length k1 + q = g2.longer in
    let l3 : length k3 ≡ length k2 + x = g3.longer in
    let l4 : length k4 ≡ length k3 + 1 = g4.longer in
    let l5 : length k5 ≡ length k4 + length hs = g5.longer in
    let lg : length hs ≡ length h.groups = ap length ih in
    let g45 : Grows k3 k5 (1 + length hs) = grows_on k3 k4 k5 1 (length hs) g4 g5 in
    let g35 : Grows k2 k5 (x + (1 + length hs)) = grows_on k2 k3 k5 x (1 + length hs) g3 g45 in
    let g25 : Grows k1 k5 (q + (x + (1 + length hs))) =
    grows_on k1 k2 k5 q (x + (1 + length hs)) g2 g35 in
    let at_groups : length k4 ≡ first_group h = omega arith in
    let at_units : length k3 ≡ semaphores h = omega arith in
    record {
      count = omega arith;
      events = from_is k5 (length k0) 0 e (length h.setup.events)
          (λ k. Eventcount (start_count from k))
          empty ie (from_grows k1 k5 (length k0) e _ (λ k. Eventcount (start_count from k))
          (omega arith) a1 g25);
      sequencers = from_is k5 (length k1) (first_sequencer h) q (length h.setup.takers)
          (λ k. Sequencer)
          (omega arith) iq (from_grows k2 k5 (length k1) q _ (λ k. Sequencer) (omega arith) a2 g35);
      cells = from_is k5 (length k2) (first_cell h) x (length h.setup.cells) (λ k. Cell)
          (omega arith) ix (from_grows k3 k5 (length k2) x _ (λ k. Cell) (omega arith) a3 g45);
      units = subst (λ n. HasUnits k5 n h.groups) at_units
          (subst (HasUnits k5 (length k3)) ig (units_grow k4 k5 (length k3) (length hs) gs
          (omega arith) a4 g5));
      by_group = subst (λ n. HasGroups k5 n h.groups) at_groups
          (subst (HasGroups k5 (length k4)) ih a5);
    }
