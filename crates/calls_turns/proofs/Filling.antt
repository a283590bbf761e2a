-- Takers who take turns or are free, and fills, one more each time.
use Rattle.std.proofs.Common.{◌≡◌, ℕ, zero, suc, ◌+◌, ◌<◌, ◌≤◌, inl, inr, Bool, true, false}
use Rattle.std.proofs.Common.{List, [], ◌∷◌, ◌++◌, refl, ap, sym, ◌∙◌, arith, cond, subst, count_by}
use Rattle.std.proofs.Common.{get_or, length, map, take, below_more, not, Option, None, Some}
use Rattle.std.proofs.Common.{MatchOption}
use Rattle.std.specs.Prelude.{◌==◌, nat_eq, nat_lt}
use Rattle.std.specs.Option.{IfNone}
use Rattle.std.specs.List.{Contains, IsAnyAnswer, swap_remove}
use Rattle.std.specs.List.Sorted.{IsPermutation}
use Rattle.std.proofs.lemmas.Bool.{cases_lt}
use Rattle.std.proofs.lemmas.Bool.Decides.{Decides-eqb, nat_tests}
use Rattle.std.proofs.lemmas.List.{append_assoc, map_push, take_more, get_or_append_left, get_or_at}
use Rattle.std.proofs.lemmas.List.{length_push}
use Rattle.std.proofs.lemmas.List.Elements.{All-from_all_within}
use Rattle.std.proofs.lemmas.Option.{slice_get-get_or, same_Some, none-some}
use Rattle.std.proofs.lemmas.List.Elements.{Contains-append_left, Contains-push}
use Rattle.std.proofs.lemmas.List.Sums.{get_or-le-sum_by, sum_by_push, sum_by-swap_remove}
use Rattle.std.proofs.lemmas.List.Sorted.{IsPermutation-append_left, IsPermutation-pop_more}
use Rattle.std.proofs.lemmas.List.Sorted.{All-permutation, IsPermutation-map}
use Rattle.std.proofs.lemmas.List.Sorted.{IsPermutation-swap_remove}
use Rattle.calls_core.specs.Lists.{Each}
use Rattle.calls_core.proofs.Lists.{each_append, all_from_each}
use Rattle.calls_core.proofs.Filters.{each_from_all}
use Rattle.calls_core.proofs.Counting.{count_cons, count_none}
use Rattle.calls_core.proofs.Counting.{one, one_yes, one_no}
use Rattle.calls_turns.specs.declared.turn.Turn.{Turn}
use Rattle.calls_turns.specs.declared.turn.Taker.{Taker}
use Rattle.calls_turns.specs.declared.demand.Demand.{Demand}
use Rattle.calls_turns.specs.declared.demand.Fill.{Fill}
use Rattle.calls_turns.specs.declared.demand.Target.{Target}
use Rattle.calls_turns.specs.declared.demand.Target.TheVariants as targets
use Rattle.calls_turns.specs.Turns.{MayTake}
use Rattle.calls_turns.specs.Sweeps.{nobody, no_turn, no_fill, taker_at, turn_at, fill_at}
use Rattle.calls_turns.specs.Sweeps.{IsFree, IsTargetDue, IsUnmet, IsFilled, NoneLeft}
use Rattle.calls_turns.specs.Sweeps.{AreFilled, CantBeTaken}
use Rattle.calls_turns.specs.Swept.{IsTarget, HaveTurns, HaveTakers, turn_demand}
use Rattle.calls_turns.specs.Swept.{taker_demand, is_met, fillers, AreSplit, HasCome, AreDueFrom}
use Rattle.calls_turns.specs.Swept.{AreLater, free_at, IsChoice, IsChosen, NobodyDue}
use Rattle.calls_turns.specs.Swept.{IsSuited, NobodySuited}
use Rattle.calls_turns.proofs.Tallies.{one_most}

-- COUNTS

pub count_yes : {X : Type 0} (p : X → Bool) (xs : List X) (k : ℕ) (d : X) → k < length xs
    → p (get_or xs k d) ≡ true → 0 < count_by p xs
count_yes p xs k d lt e = omega (
  arith,
  get_or-le-sum_by (λ x. cond (p x) 1 0) xs k d lt,
  one_yes (p (get_or xs k d)) e,
)

pub count_found : {X : Type 0} (p : X → Bool) (xs : List X) → 0 < count_by p xs
    → (k : ℕ) × (k < length xs) × ((d : X) → p (get_or xs k d) ≡ true)
count_found p [] h = absurd (omega arith)
count_found {X} p (x ∷ xs) h =
    elim (p x) as (λ b. p x ≡ b
    → (k : ℕ) × (k < length (x ∷ xs)) × ((d : X) → p (get_or (x ∷ xs) k d) ≡ true)) [
      | true ↦ λ e. (zero, (let lt : zero < length (x ∷ xs) = omega arith in lt), λ d. e)
      | false ↦ λ e.
          let r = count_found p xs (omega (arith, count_cons p x xs, one_no (p x) e, h)) in
          (suc r.0, (let lt : suc r.0 < length (x ∷ xs) = omega (arith, r.1) in lt), r.2)
    ] refl

-- WHO IS FREE

abbrev pub fills_for : ℕ → List Fill → ℕ
fills_for j fills = count_by (λ (f : Fill). f.taker == j) fills

pub free_from_count : (fills : List Fill) (j k : ℕ) → fills_for j fills ≡ 0 → k ≤ length fills
    → IsFree fills k j
free_from_count fills j k none le = λ i lt e.
    let some : 0 < fills_for j fills = count_yes (λ (f : Fill). f.taker == j) fills i no_fill
    (omega arith) ((Decides-eqb (fill_at fills i).taker j).1 e) in
    absurd (omega arith)

pub count_from_free : (fills : List Fill) (j : ℕ) → IsFree fills (length fills) j
    → fills_for j fills ≡ 0
count_from_free fills j free =
    elim (cases_lt 0 (fills_for j fills)) [
      | inl some ↦
          let r = count_found (λ (f : Fill). f.taker == j) fills some in
          absurd (free r.0 r.1 ((Decides-eqb (fill_at fills r.0).taker j).0 (r.2 no_fill)))
      | inr le ↦ omega arith
    ]

one_below : (j next : ℕ) → 0 < one (nat_lt j next) → j < next
one_below j next h = grind (arith, nat_tests)

one_above : (j next : ℕ) → j < next → one (nat_lt j next) ≡ 1
one_above j next h = grind (arith, nat_tests)

one_more : (j next : ℕ) → one (nat_lt j (next + 1)) ≡ one (nat_lt j next) + one (nat_eq next j)
one_more j next = grind (arith, nat_tests)

count_at : (free : List ℕ) (i : ℕ) → i < length free
    → 0 < count_by (λ (x : ℕ). x == get_or free i 0) free
count_at free i lt = count_yes (λ (x : ℕ). x == get_or free i 0) free i 0 lt
    ((Decides-eqb (get_or free i 0) (get_or free i 0)).1 refl)

pub free_below : (takers : List Taker) (fills : List Fill) (next : ℕ) (free : List ℕ)
    → AreSplit takers fills next free → (i : ℕ) → i < length free → get_or free i 0 < next
free_below takers fills next free s i lt = one_below (get_or free i 0) next
    (omega (arith, count_at free i lt, s.once (get_or free i 0)))

pub none_for_free : (takers : List Taker) (fills : List Fill) (next : ℕ) (free : List ℕ)
    → AreSplit takers fills next free → (i : ℕ) → i < length free
    → IsFree fills (length fills) (get_or free i 0)
none_for_free takers fills next free s i lt =
    free_from_count fills (get_or free i 0) (length fills)
    (omega (
      arith,
      count_at free i lt,
      s.once (get_or free i 0),
      one_most (nat_lt (get_or free i 0) next),
    )) (omega arith)

pub found_free : (takers : List Taker) (fills : List Fill) (next : ℕ) (free : List ℕ)
    → AreSplit takers fills next free → (j : ℕ) → j < next → IsFree fills (length fills) j
    → (i : ℕ) × (i < length free) × (get_or free i 0 ≡ j)
found_free takers fills next free s j lt none =
    let r = count_found (λ (x : ℕ). x == j) free
    (omega (arith, s.once j, one_above j next lt, count_from_free fills j none)) in
    (r.0, r.1, (Decides-eqb (get_or free r.0 0) j).0 (r.2 0))

-- whether a taker takes a turn
pub taker_met : (takers : List Taker) (fills : List Fill) (next : ℕ) (free : List ℕ)
    → AreSplit takers fills next free → (j : ℕ) → j < next → (r : Bool)
    → IsAnyAnswer (λ (x : ℕ) (b : Bool). nat_eq x j ≡ b) free r
    → not r ≡ nat_lt 0 (fills_for j fills)
taker_met takers fills next free s j lt true (k, within, at) =
    let some : 0 < count_by (λ (x : ℕ). x == j) free =
    count_yes (λ (x : ℕ). x == j) free k 0 within (at 0) in
    let none : fills_for j fills ≡ 0 = omega (arith, s.once j, one_above j next lt) in
    grind (arith, nat_tests)
taker_met takers fills next free s j lt false h =
    let none : count_by (λ (x : ℕ). x == j) free ≡ 0 =
    count_none (λ (x : ℕ). x == j) free
    (All-from_all_within (λ (x : ℕ). (x == j) ≡ false) free h) in
    let some : fills_for j fills ≡ 1 = omega (arith, s.once j, one_above j next lt) in
    grind (arith, nat_tests)

pub taker_unmet : (takers : List Taker) (fills : List Fill) (next : ℕ) (free : List ℕ)
    → AreSplit takers fills next free → (j : ℕ) → next ≤ j
    → false ≡ nat_lt 0 (fills_for j fills)
taker_unmet takers fills next free s j le =
    let once = s.once j in
    grind (arith, nat_tests)

-- what is not met is due
pub target_due : (turns : List Turn) (takers : List Taker) (fills : List Fill) (at : ℕ)
    (t : Target) → IsTarget turns takers at t → is_met fills t ≡ false
    → IsTargetDue turns takers fills (length fills) at t
target_due turns takers fills at (targets.Turn n) h e =
    record { within = h.0; left = grind (arith, nat_tests); by = h.1 }
target_due turns takers fills at (targets.Taker j) h e =
    record {
      within = h.0;
      free = free_from_count fills j (length fills) (grind (arith, nat_tests)) (omega arith);
      by = h.1;
    }

-- A TAKER MORE

pub split_more : (takers : List Taker) (fills : List Fill) (next : ℕ) (free : List ℕ)
    → AreSplit takers fills next free → next < length takers
    → AreSplit takers fills (next + 1) (free ++ next ∷ [])
split_more takers fills next free s lt =
    let t : Taker = taker_at takers next in
    let place : (fillers takers fills ++ map (taker_at takers) free) ++ t ∷ []
    ≡ fillers takers fills ++ map (taker_at takers) (free ++ next ∷ []) =
    append_assoc (fillers takers fills) (map (taker_at takers) free) (t ∷ [])
    ∙ ap (λ l. fillers takers fills ++ l) (sym (map_push (taker_at takers) free next)) in
    record {
      within = omega arith;
      once = λ j. omega (
        arith,
        s.once j,
        sum_by_push (λ (x : ℕ). cond (x == j) 1 0) free next,
        one_more j next,
      );
      all = subst (λ l. IsPermutation (take (next + 1) takers) l) place
          (subst (λ l. IsPermutation l ((fillers takers fills ++ map (taker_at takers) free)
          ++ t ∷ [])) (sym (take_more takers next nobody lt))
          (IsPermutation-append_left (t ∷ []) (take next takers)
          (fillers takers fills ++ map (taker_at takers) free) s.all));
    }

pub come_more : (takers : List Taker) (fills : List Fill) (next p : ℕ)
    → HasCome takers fills next p → (taker_at takers next).from ≤ p
    → HasCome takers fills (next + 1) p
come_more takers fills next p h le = record {
  until = h.until;
  came = below_more (λ j. (taker_at takers j).from ≤ p) next h.came le;
}

-- DEMANDS

pub turns_more : (end : ℕ) (turns : List Turn) (i : ℕ) (ds : List Demand)
    → HaveTurns end turns i ds → HaveTurns end turns (i + 1) (ds ++ turn_demand turns i ∷ [])
turns_more end turns i ds h =
    below_more (λ n. (turn_at turns n).by < end
    → Contains (ds ++ turn_demand turns i ∷ []) (turn_demand turns n)) i
    (λ n lt due. Contains-append_left ds (turn_demand turns i ∷ []) (turn_demand turns n)
    (h n lt due)) (λ due. Contains-push ds (turn_demand turns i))

pub turns_past : (end : ℕ) (turns : List Turn) (i : ℕ) (ds : List Demand)
    → HaveTurns end turns i ds → end ≤ (turn_at turns i).by → HaveTurns end turns (i + 1) ds
turns_past end turns i ds h le =
    below_more (λ n. (turn_at turns n).by < end → Contains ds (turn_demand turns n)) i h
    (λ due. absurd (omega arith))

pub takers_more : (end : ℕ) (takers : List Taker) (i : ℕ) (ds : List Demand)
    → HaveTakers end takers i ds
    → HaveTakers end takers (i + 1) (ds ++ taker_demand takers i ∷ [])
takers_more end takers i ds h =
    below_more (λ j. (taker_at takers j).by < end
    → Contains (ds ++ taker_demand takers i ∷ []) (taker_demand takers j)) i
    (λ j lt due. Contains-append_left ds (taker_demand takers i ∷ []) (taker_demand takers j)
    (h j lt due)) (λ due. Contains-push ds (taker_demand takers i))

pub takers_past : (end : ℕ) (takers : List Taker) (i : ℕ) (ds : List Demand)
    → HaveTakers end takers i ds → end ≤ (taker_at takers i).by → HaveTakers end takers (i + 1) ds
takers_past end takers i ds h le =
    below_more (λ j. (taker_at takers j).by < end → Contains ds (taker_demand takers j)) i h
    (λ due. absurd (omega arith))

pub each_more : {X : Type 0} (P : X → Type 0) (xs : List X) (x : X) → Each P xs → P x
    → Each P (xs ++ x ∷ [])
each_more P xs x h p = each_append P xs (x ∷ []) h (p, tt)

pub each_moved : {X : Type 0} (P : X → Type 0) (xs ys : List X) → IsPermutation xs ys → Each P xs
    → Each P ys
each_moved P xs ys moved h =
    each_from_all P ys (All-permutation P xs ys moved (all_from_each P xs h))

-- NOBODY TAKES THE NEXT TURN

-- who is left is among the free ones
pub none_among : (takers : List Taker) (fills : List Fill) (next : ℕ) (free : List ℕ) (p : ℕ)
    (item : Option ℕ) → AreSplit takers fills next free → AreLater takers next p
    → IsChoice takers free item (length free) None
    → NoneLeft takers fills (length fills) p item
none_among takers fills next free p item s later none = λ j lt left is from.
    elim (cases_lt j next) [
      | inl before ↦
          let r = found_free takers fills next free s j before left in
          none r.0 r.1 (ap (λ n. (taker_at takers n).item) r.2 ∙ is)
      | inr past ↦ absurd (omega (arith, later j past lt))
    ]

none_due : (takers : List Taker) (fills : List Fill) (next : ℕ) (free : List ℕ) (p : ℕ)
    → AreSplit takers fills next free → AreLater takers next p → NobodyDue takers free p → (j : ℕ)
    → j < length takers → IsFree fills (length fills) j → (taker_at takers j).from ≤ p
    → (taker_at takers j).by ≤ p → ⊥
none_due takers fills next free p s later none j lt left from by =
    elim (cases_lt j next) [
      | inl before ↦
          let r = found_free takers fills next free s j before left in
          omega (
            arith,
            by,
            subst (λ n. p < (taker_at takers n).by) r.2 (none r.0 r.1),
          )
      | inr past ↦ omega (arith, later j past lt)
    ]

none_of : (turns : List Turn) (takers : List Taker) (fills : List Fill) (next : ℕ) (free : List ℕ)
    (p : ℕ) (o r : Option ℕ) → AreSplit takers fills next free → AreLater takers next p
    → length fills < length turns → (turn_at turns (length fills)).item ≡ o
    → MatchOption r (NobodySuited takers free p o) (λ place. IsSuited takers free p o place)
    → IfNone r (CantBeTaken turns takers fills p (length fills))
none_of turns takers fills next free p (Some v) None s later lt e none =
    inr (inr (inl (record {
      there = lt;
      item = v;
      is = e;
      of_item = none_among takers fills next free p (Some v) s later none.0;
      of_any = none_among takers fills next free p None s later none.1;
    })))
none_of turns takers fills next free p None None s later lt e none =
    inr (inr (inr (record {
      spare = e;
      none = none_due takers fills next free p s later none;
    })))
none_of turns takers fills next free p o (Some place) s later lt e suited = tt

pub none_suited : (turns : List Turn) (takers : List Taker) (fills : List Fill) (next : ℕ)
    (free : List ℕ) (p k : ℕ) (r : Option ℕ) → AreSplit takers fills next free
    → AreLater takers next p → k ≡ length fills → k < length turns
    → MatchOption r (NobodySuited takers free p (turn_at turns k).item)
    (λ place. IsSuited takers free p (turn_at turns k).item place)
    → IfNone r (CantBeTaken turns takers fills p (length fills))
none_suited turns takers fills next free p k r s later e lt choice =
    none_of turns takers fills next free p (turn_at turns k).item r s later (omega arith)
    (ap (λ n. (turn_at turns n).item) (sym e)) choice

pub closed : (turns : List Turn) (takers : List Taker) (fills : List Fill) (p k n : ℕ) → k ≡ n
    → k < length turns → p < (turn_at turns k).from → CantBeTaken turns takers fills p n
closed turns takers fills p k n e lt before =
    subst (λ m. CantBeTaken turns takers fills p m) e
    (inr (inl (record {
      turn = turn_at turns k;
      at = slice_get-get_or turns k no_turn lt;
      later = before;
    })))

-- A FILL MORE

-- what is asked of a fill, apart from its place
pub record IsFill (end : ℕ) (turns : List Turn) (takers : List Taker) (fills : List Fill) (k : ℕ)
    (f : Fill) : Type 0 where
  turn : k < length turns
  taker : f.taker < length takers
  unmet : IsUnmet end turns takers fills k f.demand
  may : MayTake f.demand.at (turn_at turns k) (taker_at takers f.taker)
  free : IsFree fills k f.taker
  preferred : (v j : ℕ) → (turn_at turns k).item ≡ Some v → j < length takers → IsFree fills k j
      → (taker_at takers j).item ≡ Some v → (taker_at takers j).from ≤ f.demand.at
      → (taker_at takers f.taker).by ≤ (taker_at takers j).by
  none_left : (v : ℕ) → (turn_at turns k).item ≡ Some v
      → (taker_at takers f.taker).item ≡ None → NoneLeft takers fills k f.demand.at (Some v)
  due : (turn_at turns k).item ≡ None → (taker_at takers f.taker).by ≤ f.demand.at

abbrev pub SameBelow : List Fill → List Fill → ℕ → Type 0
SameBelow a b k = (i : ℕ) → i < k → fill_at a i ≡ fill_at b i

pub free_as : (a b : List Fill) (k j : ℕ) → SameBelow a b k → IsFree a k j → IsFree b k j
free_as a b k j same h = λ i lt e. h i lt (ap (λ (f : Fill). f.taker) (same i lt) ∙ e)

due_as : (turns : List Turn) (takers : List Taker) (a b : List Fill) (k at : ℕ) (t : Target)
    → SameBelow a b k → IsTargetDue turns takers a k at t → IsTargetDue turns takers b k at t
due_as turns takers a b k at (targets.Turn n) same h = h
due_as turns takers a b k at (targets.Taker j) same h =
    record { within = h.within; free = free_as a b k j same h.free; by = h.by }

fill_as : (end : ℕ) (turns : List Turn) (takers : List Taker) (a b : List Fill) (k : ℕ) (f : Fill)
    → SameBelow a b k → IsFill end turns takers a k f → IsFill end turns takers b k f
fill_as end turns takers a b k f same h = record {
  turn = h.turn;
  taker = h.taker;
  unmet = record {
    before = h.unmet.before;
    due = due_as turns takers a b k f.demand.at f.demand.target same h.unmet.due;
  };
  may = h.may;
  free = free_as a b k f.taker same h.free;
  preferred = λ v j is within free. h.preferred v j is within
      (free_as b a k j (λ i lt. sym (same i lt)) free);
  none_left = λ v is any j within free. h.none_left v is any j within
      (free_as b a k j (λ i lt. sym (same i lt)) free);
  due = h.due;
}

pub filled_at : (end : ℕ) (turns : List Turn) (takers : List Taker) (a b : List Fill) (k : ℕ)
    (f : Fill) → SameBelow a b k → f ≡ fill_at b k → IsFill end turns takers a k f
    → IsFilled end turns takers b k
filled_at end turns takers a b k f same e h =
    let g = subst (λ x. IsFill end turns takers b k x) e
    (fill_as end turns takers a b k f same h) in
    record {
      turn = g.turn;
      taker = g.taker;
      unmet = g.unmet;
      may = g.may;
      free = g.free;
      preferred = g.preferred;
      none_left = g.none_left;
      due = g.due;
    }

pub fill_of : (end : ℕ) (turns : List Turn) (takers : List Taker) (fills : List Fill) (k : ℕ)
    → IsFilled end turns takers fills k → IsFill end turns takers fills k (fill_at fills k)
fill_of end turns takers fills k h = record {
  turn = h.turn;
  taker = h.taker;
  unmet = h.unmet;
  may = h.may;
  free = h.free;
  preferred = h.preferred;
  none_left = h.none_left;
  due = h.due;
}

pub fill_before : (fills : List Fill) (f : Fill) (i : ℕ) → i < length fills
    → fill_at fills i ≡ fill_at (fills ++ f ∷ []) i
fill_before fills f i lt = sym (get_or_append_left fills (f ∷ []) no_fill i lt)

pub fill_last : (fills : List Fill) (f : Fill) → f ≡ fill_at (fills ++ f ∷ []) (length fills)
fill_last fills f = sym (get_or_at fills f [] no_fill (length fills) refl)

pub until_more : (fills : List Fill) (f : Fill) (p : ℕ)
    → ((k : ℕ) → k < length fills → (fill_at fills k).demand.at ≤ p) → f.demand.at ≤ p → (k : ℕ)
    → k < length (fills ++ f ∷ []) → (fill_at (fills ++ f ∷ []) k).demand.at ≤ p
until_more fills f p h le k lt =
    elim (cases_lt k (length fills)) [
      | inl below ↦ subst (λ (g : Fill). g.demand.at ≤ p) (fill_before fills f k below) (h k below)
      | inr above ↦
          let e : length fills ≡ k = omega (arith, length_push fills f) in
          subst (λ n. (fill_at (fills ++ f ∷ []) n).demand.at ≤ p) e
          (subst (λ (g : Fill). g.demand.at ≤ p) (fill_last fills f) le)
    ]

filled_more : (end : ℕ) (turns : List Turn) (takers : List Taker) (fills : List Fill) (f : Fill)
    → AreFilled end turns takers fills → IsFill end turns takers fills (length fills) f
    → ((k : ℕ) → k < length fills → (fill_at fills k).demand.at ≤ f.demand.at)
    → AreFilled end turns takers (fills ++ f ∷ [])
filled_more end turns takers fills f h new until =
    let gs : List Fill = fills ++ f ∷ [] in
    record {
      each = λ k lt. elim (cases_lt k (length fills)) [
        | inl below ↦ filled_at end turns takers fills gs k (fill_at fills k)
            (λ i less. fill_before fills f i (omega arith)) (fill_before fills f k below)
            (fill_of end turns takers fills k (h.each k below))
        | inr above ↦
            let e : length fills ≡ k = omega (arith, length_push fills f) in
            subst (λ n. IsFilled end turns takers gs n) e
            (filled_at end turns takers fills gs (length fills) f
            (λ i less. fill_before fills f i less) (fill_last fills f) new)
      ];
      rises = λ i k le lt. elim (cases_lt k (length fills)) [
        | inl below ↦
            let first : i < length fills = omega arith in
            subst (λ (g : Fill). g.demand.at ≤ (fill_at gs k).demand.at)
            (fill_before fills f i first)
            (subst (λ (g : Fill). (fill_at fills i).demand.at ≤ g.demand.at)
            (fill_before fills f k below) (h.rises i k le below))
        | inr above ↦
            let e : length fills ≡ k = omega (arith, length_push fills f) in
            subst (λ n. (fill_at gs i).demand.at ≤ (fill_at gs n).demand.at) e
            (subst (λ (g : Fill). (fill_at gs i).demand.at ≤ g.demand.at) (fill_last fills f)
            (until_more fills f f.demand.at until (omega arith) i (omega arith)))
      ];
    }

-- who is chosen
chosen_within : (takers : List Taker) (free : List ℕ) (v place : ℕ)
    → IsChosen takers free v place → place < length free
chosen_within takers free v place (inl first) = first.within
chosen_within takers free v place (inr h) = h.1.within

chosen_item : (takers : List Taker) (free : List ℕ) (v place w : ℕ)
    → IsChosen takers free v place → (free_at takers free place).item ≡ Some w → w ≡ v
chosen_item takers free v place w (inl first) e = same_Some w v (sym e ∙ first.of_item)
chosen_item takers free v place w (inr h) e = absurd (none-some w (sym h.1.of_item ∙ e))

chosen_least : (takers : List Taker) (free : List ℕ) (v place i : ℕ)
    → IsChosen takers free v place → i < length free → (free_at takers free i).item ≡ Some v
    → (free_at takers free place).by ≤ (free_at takers free i).by
chosen_least takers free v place i (inl first) lt e = first.least i lt e
chosen_least takers free v place i (inr h) lt e = absurd (h.0 i lt e)

chosen_last : (takers : List Taker) (free : List ℕ) (v place : ℕ)
    → IsChosen takers free v place → (free_at takers free place).item ≡ None
    → IsChoice takers free (Some v) (length free) None
chosen_last takers free v place (inl first) e = absurd (none-some v (sym e ∙ first.of_item))
chosen_last takers free v place (inr h) e = h.0

-- who is suited
pub suited_within : (takers : List Taker) (free : List ℕ) (p : ℕ) (o : Option ℕ) (place : ℕ)
    → IsSuited takers free p o place → place < length free
suited_within takers free p (Some v) place h = chosen_within takers free v place h
suited_within takers free p None place h = h.within

suited_item : (takers : List Taker) (free : List ℕ) (p : ℕ) (o : Option ℕ) (place v w : ℕ)
    → IsSuited takers free p o place → (free_at takers free place).item ≡ Some v → o ≡ Some w
    → v ≡ w
suited_item takers free p (Some u) place v w h is e =
    chosen_item takers free u place v h is ∙ same_Some u w e
suited_item takers free p None place v w h is e = absurd (none-some w e)

suited_least : (takers : List Taker) (free : List ℕ) (p : ℕ) (o : Option ℕ) (place v i : ℕ)
    → IsSuited takers free p o place → o ≡ Some v → i < length free
    → (free_at takers free i).item ≡ Some v
    → (free_at takers free place).by ≤ (free_at takers free i).by
suited_least takers free p (Some u) place v i h e lt is =
    chosen_least takers free u place i h lt (is ∙ sym e)
suited_least takers free p None place v i h e lt is = absurd (none-some v e)

suited_last : (takers : List Taker) (free : List ℕ) (p : ℕ) (o : Option ℕ) (place v : ℕ)
    → IsSuited takers free p o place → o ≡ Some v → (free_at takers free place).item ≡ None
    → IsChoice takers free (Some v) (length free) None
suited_last takers free p (Some u) place v h e any =
    subst (λ q. IsChoice takers free q (length free) None) e
    (chosen_last takers free u place h any)
suited_last takers free p None place v h e any = absurd (none-some v e)

suited_due : (takers : List Taker) (free : List ℕ) (p : ℕ) (o : Option ℕ) (place : ℕ)
    → IsSuited takers free p o place → o ≡ None → (free_at takers free place).by ≤ p
suited_due takers free p (Some u) place h e = absurd (none-some u (sym e))
suited_due takers free p None place h e = h.by

pub filled_next : (end : ℕ) (turns : List Turn) (takers : List Taker) (fills : List Fill)
    (next : ℕ) (free : List ℕ) (d : Demand) (place x : ℕ) → AreFilled end turns takers fills
    → AreSplit takers fills next free → HasCome takers fills next d.at
    → AreDueFrom turns takers fills d.at → AreLater takers next d.at
    → IsUnmet end turns takers fills (length fills) d → length fills < length turns
    → (turn_at turns (length fills)).from ≤ d.at
    → IsSuited takers free d.at (turn_at turns (length fills)).item place
    → x ≡ get_or free place 0
    → (let f : Fill = record { taker = x; demand = d } in
    AreFilled end turns takers (fills ++ f ∷ []))
filled_next end turns takers fills next free d place x h s come due later unmet lt from suited e =
    let k : ℕ = length fills in
    let o : Option ℕ = (turn_at turns k).item in
    let inside : place < length free = suited_within takers free d.at o place suited in
    let j : ℕ = get_or free place 0 in
    let f : Fill = record { taker = j; demand = d } in
    let below : j < next = free_below takers fills next free s place inside in
    let within : j < length takers = omega (arith, s.within) in
    let none : IsFree fills k j = none_for_free takers fills next free s place inside in
    let fit : IsFill end turns takers fills k f = record {
      turn = lt;
      taker = within;
      unmet = unmet;
      may = record {
        item = λ v w is has. suited_item takers free d.at o place v w suited is has;
        turn_from = from;
        turn_by = due.turns_due k (omega arith) lt;
        from = come.came j below;
        by = due.takers_due j within none;
      };
      free = none;
      preferred = λ v i has there free_i item early.
          elim (cases_lt i next) [
            | inl before ↦
                let r = found_free takers fills next free s i before free_i in
                subst (λ n. (taker_at takers j).by ≤ (taker_at takers n).by) r.2
                (suited_least takers free d.at o place v r.0 suited has r.1
                (ap (λ n. (taker_at takers n).item) r.2 ∙ item))
            | inr past ↦ absurd (omega (arith, later i past there))
          ];
      none_left = λ v has any. none_among takers fills next free d.at (Some v) s later
          (suited_last takers free d.at o place v suited has any);
      due = λ none_of_it. suited_due takers free d.at o place suited none_of_it;
    } in
    subst (λ n. (let g : Fill = record { taker = n; demand = d } in
    AreFilled end turns takers (fills ++ g ∷ []))) (sym e)
    (filled_more end turns takers fills f h fit come.until)

pub split_next : (takers : List Taker) (fills : List Fill) (next : ℕ) (free : List ℕ) (f : Fill)
    (place : ℕ) → AreSplit takers fills next free → place < length free
    → f.taker ≡ get_or free place f.taker
    → AreSplit takers (fills ++ f ∷ []) next (swap_remove free place f.taker)
split_next takers fills next free f place s lt e = record {
  within = s.within;
  once = λ j. omega (
    arith,
    s.once j,
    sum_by-swap_remove (λ (x : ℕ). cond (x == j) 1 0) free place f.taker lt,
    sum_by_push (λ (g : Fill). cond (g.taker == j) 1 0) fills f,
    ap (λ (x : ℕ). one (x == j)) e,
  );
  all = subst (λ l. IsPermutation (take next takers)
      (l ++ map (taker_at takers) (swap_remove free place f.taker)))
      (sym (map_push (λ (g : Fill). taker_at takers g.taker) fills f))
      (IsPermutation-pop_more (take next takers) (fillers takers fills)
      (map (taker_at takers) free) (map (taker_at takers) (swap_remove free place f.taker))
      (taker_at takers f.taker) s.all
      (IsPermutation-map (taker_at takers) free (f.taker ∷ swap_remove free place f.taker)
      (IsPermutation-swap_remove free place f.taker lt e)));
}

pub come_next : (takers : List Taker) (fills : List Fill) (next p : ℕ) (f : Fill)
    → HasCome takers fills next p → f.demand.at ≤ p → HasCome takers (fills ++ f ∷ []) next p
come_next takers fills next p f h le =
    record { until = until_more fills f p h.until le; came = h.came }

free_fewer : (fills : List Fill) (f : Fill) (j : ℕ)
    → IsFree (fills ++ f ∷ []) (length (fills ++ f ∷ [])) j → IsFree fills (length fills) j
free_fewer fills f j h = λ i lt e. h i (omega (arith, length_push fills f))
    (ap (λ (g : Fill). g.taker) (sym (fill_before fills f i lt)) ∙ e)

pub due_next : (turns : List Turn) (takers : List Taker) (fills : List Fill) (p : ℕ) (f : Fill)
    → AreDueFrom turns takers fills p → AreDueFrom turns takers (fills ++ f ∷ []) p
due_next turns takers fills p f h = record {
  turns_due = λ n le lt. h.turns_due n (omega (arith, length_push fills f)) lt;
  takers_due = λ j lt none. h.takers_due j lt (free_fewer fills f j none);
}

pub met_next : (fills : List Fill) (f : Fill) (t : Target) → is_met fills t ≡ true
    → is_met (fills ++ f ∷ []) t ≡ true
met_next fills f (targets.Turn n) h =
    let len = length_push fills f in grind (arith, nat_tests)
met_next fills f (targets.Taker j) h =
    let more = sum_by_push (λ (g : Fill). cond (g.taker == j) 1 0) fills f in
    grind (arith, nat_tests)
