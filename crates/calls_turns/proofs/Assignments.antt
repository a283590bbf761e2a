-- What a sweep that has ended shows of the turns, and what a demand that can't be met.
use Rattle.std.proofs.Common.{◌≡◌, ℕ, zero, suc, ◌+◌, ◌<◌, ◌≤◌, ◌⊎◌, inl, inr, true}
use Rattle.std.proofs.Common.{List, [], ◌∷◌, ◌++◌, ap, sym, ◌∙◌, arith, subst, count_by}
use Rattle.std.proofs.Common.{get_or, length, map, take, drop, reverse, Result, Ok, Err, IfOk}
use Rattle.std.specs.Prelude.{◌==◌, ◌&&◌, nat_lt, nat_le}
use Rattle.std.specs.List.Sorted.{IsPermutation}
use Rattle.std.proofs.lemmas.Bool.{cases_lt}
use Rattle.std.proofs.lemmas.Bool.Decides.{nat_tests}
use Rattle.std.proofs.lemmas.List.{append_assoc, get_or-map, get_or-drop, get_or_default}
use Rattle.std.proofs.lemmas.List.{length-drop}
use Rattle.std.proofs.lemmas.List.{length-map, take-append-drop, nil_from_length}
use Rattle.std.proofs.lemmas.List.Sorted.{IsPermutation-refl}
use Rattle.std.proofs.lemmas.List.Sorted.{IsPermutation-append_left, IsPermutation-trans}
use Rattle.calls_core.specs.Lists.{Each}
use Rattle.calls_core.proofs.Lists.{each_append, each_weaker, all_from_each}
use Rattle.calls_core.proofs.Filters.{each_from_all}
use Rattle.calls_core.proofs.Counting.{count_moved, one}
use Rattle.calls_turns.specs.declared.turn.Turn.{Turn}
use Rattle.calls_turns.specs.declared.turn.Taker.{Taker}
use Rattle.calls_turns.specs.declared.turn.Step.{Step}
use Rattle.calls_turns.specs.declared.turn.Reason.{Reason}
use Rattle.calls_turns.specs.declared.turn.Reason.TheVariants as reasons
use Rattle.calls_turns.specs.declared.demand.Demand.{Demand}
use Rattle.calls_turns.specs.declared.demand.Fill.{Fill}
use Rattle.calls_turns.specs.declared.demand.Target.TheVariants as targets
use Rattle.calls_turns.specs.declared.assigning.Outcome.{Outcome}
use Rattle.calls_turns.specs.declared.assigning.Outcome.TheVariants as outcomes
use Rattle.calls_turns.specs.Outcomes.{IsOutcome}
use Rattle.calls_turns.specs.Turns.{MayTake, AreTakenBy, IsTaking}
use Rattle.calls_turns.specs.Steps.{has_none, is_of, is_within, IsReason, AreSteps, last_at}
use Rattle.calls_turns.specs.Steps.{IsShortage, IsShare, IsClash, Refute}
use Rattle.calls_turns.specs.declared.turn.Share.{Share}
use Rattle.calls_turns.specs.declared.turn.Shortage.{Shortage}
use Rattle.calls_turns.specs.declared.turn.Clash.{Clash}
use Rattle.calls_turns.specs.declared.turn.Clash.TheVariants as clashes
use Rattle.calls_turns.specs.Sweeps.{nobody, no_turn, no_fill, taker_at, turn_at, fill_at, IsFree}
use Rattle.calls_turns.specs.Sweeps.{AreFilled}
use Rattle.calls_turns.specs.Swept.{AreDemands, demand_at, no_demand, turn_demand, taker_demand}
use Rattle.calls_turns.specs.Swept.{is_met, fillers, AreSplit, HasCome, AreDueFrom, IsDemand}
use Rattle.calls_turns.proofs.Filling.{count_from_free, free_from_count, free_below}
use Rattle.calls_turns.proofs.Filling.{none_for_free}

-- WHAT IS LEFT

demand_same : (ds : List Demand) (k : ℕ) (d : Demand) → k < length ds → get_or ds k d ≡ d
    → demand_at ds k ≡ d
demand_same ds k d lt e = get_or_default ds k no_demand d lt ∙ e

not_below : (n k : ℕ) → nat_lt n k ≡ true → k ≤ n → ⊥
not_below n k h le = grind (arith, nat_tests)

-- a turn that is left is due after the end, or its demand is not yet looked at
pub turn_left : (end : ℕ) (turns : List Turn) (takers : List Taker) (ds : List Demand)
    (fills : List Fill) (i n : ℕ) → AreDemands end turns takers ds
    → ((m : ℕ) → m < i → is_met fills (demand_at ds m).target ≡ true) → n < length turns
    → length fills ≤ n
    → (end ≤ (turn_at turns n).by)
    ⊎ ((m : ℕ) × (i ≤ m) × (m < length ds) × ((demand_at ds m).at ≡ (turn_at turns n).by))
turn_left end turns takers ds fills i n h met lt le =
    elim (cases_lt (turn_at turns n).by end) [
      | inl due ↦
          let r = h.turns_in n lt due in
          let e : demand_at ds r.0 ≡ turn_demand turns n =
          demand_same ds r.0 (turn_demand turns n) r.1 r.2 in
          elim (cases_lt r.0 i) [
            | inl before ↦
                let yes : is_met fills (targets.Turn n) ≡ true =
                subst (λ (d : Demand). is_met fills d.target ≡ true) e (met r.0 before) in
                absurd (not_below n (length fills) yes le)
            | inr past ↦ inr (r.0, past, r.1, ap (λ (d : Demand). d.at) e)
          ]
      | inr past ↦ inl past
    ]

pub taker_left : (end : ℕ) (turns : List Turn) (takers : List Taker) (ds : List Demand)
    (fills : List Fill) (i j : ℕ) → AreDemands end turns takers ds
    → ((m : ℕ) → m < i → is_met fills (demand_at ds m).target ≡ true) → j < length takers
    → IsFree fills (length fills) j
    → (end ≤ (taker_at takers j).by)
    ⊎ ((m : ℕ) × (i ≤ m) × (m < length ds) × ((demand_at ds m).at ≡ (taker_at takers j).by))
taker_left end turns takers ds fills i j h met lt free =
    elim (cases_lt (taker_at takers j).by end) [
      | inl due ↦
          let r = h.takers_in j lt due in
          let e : demand_at ds r.0 ≡ taker_demand takers j =
          demand_same ds r.0 (taker_demand takers j) r.1 r.2 in
          elim (cases_lt r.0 i) [
            | inl before ↦
                let yes : is_met fills (targets.Taker j) ≡ true =
                subst (λ (d : Demand). is_met fills d.target ≡ true) e (met r.0 before) in
                absurd (not_below 0 (count_by (λ (f : Fill). f.taker == j) fills) yes
                (omega (arith, count_from_free fills j free)))
            | inr past ↦ inr (r.0, past, r.1, ap (λ (d : Demand). d.at) e)
          ]
      | inr past ↦ inl past
    ]

pub demand_is : (end : ℕ) (turns : List Turn) (takers : List Taker) (ds : List Demand) (i : ℕ)
    → AreDemands end turns takers ds → i < length ds → IsDemand end turns takers (demand_at ds i)
demand_is end turns takers ds i h lt =
    all_from_each (IsDemand end turns takers) ds h.each i no_demand lt

rising : (end : ℕ) (turns : List Turn) (takers : List Taker) (ds : List Demand) (i m : ℕ)
    → AreDemands end turns takers ds → i ≤ m → m < length ds
    → (demand_at ds i).at ≤ (demand_at ds m).at
rising end turns takers ds i m h le lt = h.rises i m no_demand le lt

pub due_from : (end : ℕ) (turns : List Turn) (takers : List Taker) (ds : List Demand)
    (fills : List Fill) (i : ℕ) → AreDemands end turns takers ds
    → ((m : ℕ) → m < i → is_met fills (demand_at ds m).target ≡ true) → i < length ds
    → AreDueFrom turns takers fills (demand_at ds i).at
due_from end turns takers ds fills i h met lt =
    let before = (demand_is end turns takers ds i h lt).before in
    record {
      turns_due = λ n le within. elim (turn_left end turns takers ds fills i n h met within le) [
        | inl past ↦ omega arith
        | inr r ↦ omega (arith, rising end turns takers ds i r.0 h r.1 r.2, r.3)
      ];
      takers_due = λ j within free.
          elim (taker_left end turns takers ds fills i j h met within free) [
            | inl past ↦ omega arith
            | inr r ↦ omega (arith, rising end turns takers ds i r.0 h r.1 r.2, r.3)
          ];
    }

pub come_later : (takers : List Taker) (fills : List Fill) (next p q : ℕ)
    → HasCome takers fills next p → p ≤ q → HasCome takers fills next q
come_later takers fills next p q h le = record {
  until = λ k lt. omega (arith, h.until k lt);
  came = λ j lt. omega (arith, h.came j lt);
}

pub come_next_demand : (end : ℕ) (turns : List Turn) (takers : List Taker) (ds : List Demand)
    (fills : List Fill) (next i : ℕ) → AreDemands end turns takers ds
    → HasCome takers fills next (demand_at ds i).at → (m : ℕ) → i + 1 ≤ m → m < length ds
    → HasCome takers fills next (demand_at ds m).at
come_next_demand end turns takers ds fills next i h come m le lt =
    come_later takers fills next (demand_at ds i).at (demand_at ds m).at come
    (rising end turns takers ds i m h (omega arith) lt)

-- NOTHING IS LEFT

taken_by : (moment : ℕ → ℕ) (end k : ℕ) (ts : List Turn) (xs : List Taker) → length xs ≤ length ts
    → ((i : ℕ) → i < length xs → MayTake (moment (k + i)) (turn_at ts i) (taker_at xs i))
    → ((i : ℕ) → length xs ≤ i → i < length ts → end ≤ (turn_at ts i).by)
    → AreTakenBy moment end k ts xs
taken_by moment end k ts [] le may left =
    each_from_all (λ (t : Turn). end ≤ t.by) ts (λ i d lt.
    subst (λ (t : Turn). end ≤ t.by) (get_or_default ts i no_turn d lt) (left i (omega arith) lt))
taken_by moment end k [] (x ∷ xs) le may left = absurd (omega arith)
taken_by moment end k (t ∷ ts) (x ∷ xs) le may left = (
  (let same : k + 0 ≡ k = omega arith in
      subst (λ n. MayTake (moment n) t x) same (may zero (omega arith))),
  taken_by moment end (k + 1) ts xs (omega arith)
      (λ i lt. (let same : k + suc i ≡ k + 1 + i = omega arith in
      subst (λ n. MayTake (moment n) (turn_at ts i) (taker_at xs i)) same
      (may (suc i) (omega arith))))
      (λ i past lt. left (suc i) (omega arith) (omega arith)),
)

others_due : (end : ℕ) (takers : List Taker) (fills : List Fill) (next : ℕ) (free : List ℕ)
    → AreSplit takers fills next free
    → ((j : ℕ) → j < length takers → IsFree fills (length fills) j → end ≤ (taker_at takers j).by)
    → ((j : ℕ) → next ≤ j → IsFree fills (length fills) j)
    → Each (λ (x : Taker). end ≤ x.by) (map (taker_at takers) free ++ drop next takers)
others_due end takers fills next free s left later =
    each_append (λ (x : Taker). end ≤ x.by) (map (taker_at takers) free) (drop next takers)
    (each_from_all (λ (x : Taker). end ≤ x.by) (map (taker_at takers) free) (λ i d lt.
    let below : i < length free = omega (arith, length-map free (taker_at takers)) in
    subst (λ (x : Taker). end ≤ x.by) (sym (get_or-map (taker_at takers) free i 0 d below))
    (left (get_or free i 0)
    (omega (arith, free_below takers fills next free s i below, s.within))
    (none_for_free takers fills next free s i below))))
    (each_from_all (λ (x : Taker). end ≤ x.by) (drop next takers) (λ i d lt.
    let far : next + i < length takers = omega (arith, length-drop next takers) in
    let same : taker_at takers (next + i) ≡ get_or (drop next takers) i d =
    sym (get_or-drop next takers i d ∙ get_or_default takers (next + i) d nobody far) in
    subst (λ (x : Taker). end ≤ x.by) same
    (left (next + i) far (later (next + i) (omega arith)))))

none_later : (takers : List Taker) (fills : List Fill) (next : ℕ) (free : List ℕ)
    → AreSplit takers fills next free → (j : ℕ) → next ≤ j → IsFree fills (length fills) j
none_later takers fills next free s j le =
    let once = s.once j in
    free_from_count fills j (length fills) (grind (arith, nat_tests)) (omega arith)

all_in : (takers : List Taker) (fills : List Fill) (next : ℕ) (free : List ℕ)
    → AreSplit takers fills next free
    → IsPermutation takers (fillers takers fills ++ (map (taker_at takers) free
    ++ drop next takers))
all_in takers fills next free s =
    subst (λ l. IsPermutation takers l)
    (append_assoc (fillers takers fills) (map (taker_at takers) free) (drop next takers))
    (subst (λ l. IsPermutation l ((fillers takers fills ++ map (taker_at takers) free)
    ++ drop next takers)) (take-append-drop next takers)
    (IsPermutation-append_left (drop next takers) (take next takers)
    (fillers takers fills ++ map (taker_at takers) free) s.all))

-- the last turn that is taken is there
filled_within : (end : ℕ) (turns : List Turn) (takers : List Taker) (fills : List Fill)
    → AreFilled end turns takers fills → length fills ≤ length turns
filled_within end turns takers fills h =
    elim (cases_lt (length turns) (length fills)) [
      | inl more ↦ absurd (omega (arith, (h.each (length turns) more).turn))
      | inr le ↦ le
    ]

pub taken : (end : ℕ) (turns : List Turn) (takers : List Taker) (ds : List Demand)
    (fills : List Fill) (next : ℕ) (free : List ℕ) → AreDemands end turns takers ds
    → AreFilled end turns takers fills → AreSplit takers fills next free
    → ((m : ℕ) → m < length ds → is_met fills (demand_at ds m).target ≡ true)
    → IsTaking end turns takers (fillers takers fills)
taken end turns takers ds fills next free h filled s met =
    let f : Fill → Taker = λ (g : Fill). taker_at takers g.taker in
    let len : length (fillers takers fills) ≡ length fills = length-map fills f in
    record {
      rest = map (taker_at takers) free ++ drop next takers;
      all = all_in takers fills next free s;
      others = others_due end takers fills next free s
          (λ j lt none.
          elim (taker_left end turns takers ds fills (length ds) j h met lt none) [
            | inl past ↦ past
            | inr r ↦ absurd (omega (arith, r.1, r.2))
          ]) (none_later takers fills next free s);
      moment = λ k. (fill_at fills k).demand.at;
      rises = λ i k le lt. filled.rises i k le (omega arith);
      taken = taken_by (λ k. (fill_at fills k).demand.at) end 0 turns (fillers takers fills)
          (omega (arith, filled_within end turns takers fills filled))
          (λ i lt. (let below : i < length fills = omega arith in
          let same : i ≡ 0 + i = omega arith in
          subst (λ n. MayTake (fill_at fills n).demand.at (turn_at turns i)
          (taker_at (fillers takers fills) i)) same
          (subst (λ (x : Taker). MayTake (fill_at fills i).demand.at (turn_at turns i) x)
          (sym (get_or-map f fills i no_fill nobody below)) (filled.each i below).may)))
          (λ i past lt.
          elim (turn_left end turns takers ds fills (length ds) i h met lt (omega arith)) [
            | inl late ↦ late
            | inr r ↦ absurd (omega (arith, r.1, r.2))
          ]);
    }

-- TAKERS IN ANOTHER ORDER

reason_moved : (turns : List Turn) (xs ys : List Taker) (ss : List Step) (p n : ℕ) (r : Reason)
    → IsPermutation xs ys → IsReason turns ys ss p n r → IsReason turns xs ss p n r
reason_moved turns xs ys ss p n reasons.Due moved h = h
reason_moved turns xs ys ss p n (reasons.Takers v after calls) moved h = record {
  some = h.some;
  counted = omega (arith, h.counted, count_moved (is_within v after p) xs ys moved);
  few = h.few;
}

steps_moved : (end : ℕ) (turns : List Turn) (xs ys : List Taker) (ss : List Step)
    → IsPermutation xs ys → AreSteps end turns ys ss → AreSteps end turns xs ss
steps_moved end turns xs ys [] moved h = tt
steps_moved end turns xs ys (s ∷ ss) moved h = (
  record {
    before = h.0.before;
    last = h.0.last;
    count = h.0.count;
    reason = reason_moved turns xs ys ss s.at h.0.last s.reason moved h.0.reason;
  },
  steps_moved end turns xs ys ss moved h.1,
)

shortage_moved : (turns : List Turn) (xs ys : List Taker) (ss : List Step) (s : Shortage)
    → IsPermutation xs ys → IsShortage turns ys ss s → IsShortage turns xs ss s
shortage_moved turns xs ys ss s moved h = record {
  taken = h.taken;
  before = h.before;
  of_item = h.of_item;
  come = h.come ∙ count_moved (λ (x : Taker). is_of s.item x && nat_le x.from s.at) xs ys moved;
  few = h.few;
}

share_moved : (turns : List Turn) (xs ys : List Taker) (ss : List Step) (p : ℕ) (s : Share)
    → IsPermutation xs ys → IsShare turns ys ss p s → IsShare turns xs ss p s
share_moved turns xs ys ss p s moved h = record {
  counted = omega (arith, h.counted, count_moved (is_within s.item s.after p) xs ys moved);
  left = h.left;
}

clash_moved : (end : ℕ) (turns : List Turn) (xs ys : List Taker) (ss : List Step) (c : Clash)
    → IsPermutation xs ys → IsClash end turns ys ss c → IsClash end turns xs ss c
clash_moved end turns xs ys ss (clashes.Closed k) moved h = h
clash_moved end turns xs ys ss (clashes.Few shortages others) moved h = record {
  each = each_weaker (IsShortage turns ys ss) (IsShortage turns xs ss)
      (λ s. shortage_moved turns xs ys ss s moved) shortages.items h.each;
  apart = h.apart;
  come = h.come
      ∙ count_moved (λ (x : Taker). has_none x.item && nat_le x.from (last_at ss)) xs ys moved;
  more = h.more;
}
clash_moved end turns xs ys ss (clashes.Full x) moved h = record {
  before = h.before;
  each = each_weaker (IsShare turns ys ss x.at) (IsShare turns xs ss x.at)
      (λ s. share_moved turns xs ys ss x.at s moved) x.shares.items h.each;
  apart = h.apart;
  count = h.count;
  spare = h.spare;
  more = h.more;
  closed = h.closed;
}

refute_moved : (end : ℕ) (turns : List Turn) (xs ys : List Taker) (ss : List Step) (c : Clash)
    → IsPermutation xs ys → Refute end turns ys ss c → Refute end turns xs ss c
refute_moved end turns xs ys ss c moved h = record {
  steps = steps_moved end turns xs ys ss moved h.steps;
  clashes = clash_moved end turns xs ys ss c moved h.clashes;
}

pub taking_moved : (end : ℕ) (turns : List Turn) (xs ys order : List Taker) → IsPermutation xs ys
    → IsTaking end turns ys order → IsTaking end turns xs order
taking_moved end turns xs ys order moved h = record {
  rest = h.rest;
  all = IsPermutation-trans xs ys (order ++ h.rest) moved h.all;
  others = h.others;
  moment = h.moment;
  rises = h.rises;
  taken = h.taken;
}

pub outcome_moved : {E : Type 0} (end : ℕ) (turns : List Turn) (xs ys : List Taker)
    (r : Result Outcome E) → IsPermutation xs ys → IfOk r (IsOutcome end turns ys)
    → IfOk r (IsOutcome end turns xs)
outcome_moved end turns xs ys (Ok (outcomes.Assigned order)) moved h =
    taking_moved end turns xs ys order.items moved h
outcome_moved end turns xs ys (Ok (outcomes.Refuted steps clash)) moved h =
    refute_moved end turns xs ys (reverse steps.items) clash moved h
outcome_moved end turns xs ys (Err e) moved h = tt

-- THE BEGINNING

one_zero : (j : ℕ) → 0 + 0 ≡ one (nat_lt j 0)
one_zero j = grind (arith, nat_tests)

nothing_split : (takers : List Taker) → AreSplit takers [] 0 []
nothing_split takers = record {
  within = omega arith;
  once = λ j. one_zero j;
  all = IsPermutation-refl [];
}

pub begun : (end : ℕ) (turns : List Turn) (takers : List Taker) (fills : List Fill) (next : ℕ)
    (free : List ℕ) → next ≡ 0 → length free ≡ 0 → length fills ≡ 0
    → AreSplit takers fills next free × AreFilled end turns takers fills
begun end turns takers fills next free n e f = (
  subst (λ l. AreSplit takers l next free) (sym (nil_from_length fills f))
      (subst (λ m. AreSplit takers [] m free) (sym n)
      (subst (λ l. AreSplit takers [] 0 l) (sym (nil_from_length free e))
      (nothing_split takers))),
  record {
    each = λ k lt. absurd (omega arith);
    rises = λ i k le lt. absurd (omega arith);
  },
)

pub come_none : (takers : List Taker) (fills : List Fill) (next p : ℕ) → next ≡ 0
    → length fills ≡ 0 → HasCome takers fills next p
come_none takers fills next p n f = record {
  until = λ k lt. absurd (omega arith);
  came = λ j lt. absurd (omega arith);
}
