-- Those who need spare turns: more than there are, for the turns of their items that are left.
use Rattle.std.proofs.Common.{◌≡◌, ◌≢◌, ℕ, zero, suc, ◌+◌, ◌-◌, ◌<◌, ◌≤◌, inl, inr, Bool, true}
use Rattle.std.proofs.Common.{false}
use Rattle.std.proofs.Common.{List, [], ◌∷◌, ◌++◌, length, get_or, drop, refl, ap, sym, ◌∙◌, arith}
use Rattle.std.proofs.Common.{subst, count_by, Option, None, Some, slice_get}
use Rattle.std.specs.Prelude.{IfSome}
use Rattle.std.proofs.lemmas.Bool.{cases_lt, both_ways}
use Rattle.std.proofs.lemmas.Option.{none-some, same_Some, slice_get-get_or}
use Rattle.std.proofs.lemmas.List.{get_or-set_same, get_or_past, get_or-drop, length-drop}
use Rattle.std.proofs.lemmas.List.{length_push, get_or_default}
use Rattle.calls_core.specs.Lists.{Each, EachPair}
use Rattle.calls_core.proofs.Lists.{each_weaker, each_append, all_from_each}
use Rattle.calls_core.proofs.Counting.{count_none, count_every}
use Rattle.calls_turns.specs.declared.turn.Turn.{Turn}
use Rattle.calls_turns.specs.declared.turn.Taker.{Taker}
use Rattle.calls_turns.specs.declared.turn.Share.{Share}
use Rattle.calls_turns.specs.declared.turn.Step.{Step}
use Rattle.calls_turns.specs.declared.demand.Fill.{Fill}
use Rattle.calls_turns.specs.declared.chaining.Stretch.{Stretch}
use Rattle.calls_turns.specs.declared.sharing.Load.{Load}
use Rattle.calls_turns.specs.Turns.{OthersNotDue, SparesLast}
use Rattle.calls_turns.specs.Steps.{has_item, known, turns_of, is_within, reached_after}
use Rattle.calls_turns.specs.Steps.{reached, IsNotOpen, IsShare, excess, IsFull}
use Rattle.calls_turns.specs.Sweeps.{nobody, no_turn, no_fill, taker_at, turn_at, fill_at, filler}
use Rattle.calls_turns.specs.Sweeps.{IsFree, IsTurnDue, IsTakerDue, AreFilled}
use Rattle.calls_turns.specs.Sweeps.{IsLacking, CantBeTaken}
use Rattle.calls_turns.specs.Chains.{after, position_of, IsStretch, Reaches, is_marked, marked}
use Rattle.calls_turns.specs.Chains.{AreReaching}
use Rattle.calls_turns.specs.Shares.{AreSeeking, is_by, fills_of, share_after, HasShareMore}
use Rattle.calls_turns.specs.Shares.{is_shared, IsLoaded, IsLoad}
use Rattle.calls_turns.proofs.Counts.{turns_rise, known_item, known_length, spare_from}
use Rattle.calls_turns.proofs.Tallies.{passing_only, passing_between, distinct}
use Rattle.calls_turns.proofs.Tallies.{count_all, count_under, count_dropped, of_item, item_yes}
use Rattle.calls_turns.proofs.Tallies.{turns_counted}
use Rattle.calls_turns.proofs.Listed.{among_left, among_last, among_under, apart_more}
use Rattle.calls_turns.proofs.Stretches.{taker_within, filler_item, some_item, outsider}
use Rattle.calls_turns.proofs.Stretches.{outside, barrier_reached}
use Rattle.calls_turns.proofs.Leads.{still_marked, as_long}
use Rattle.calls_turns.proofs.Filling.{free_as, filled_at, fill_of, fill_before}
use Rattle.calls_turns.proofs.Filling.{fill_last}

excess_more : (list : List Share) (s : Share)
    → excess (list ++ s ∷ []) ≡ excess list + (s.takers - s.turns)
excess_more [] s = omega arith
excess_more (t ∷ list) s = omega (arith, excess_more list s)

abbrev item : Share → ℕ
item t = t.item

-- whether a fill is by a taker of an item of a list
abbrev is_in : List Taker → List Share → Fill → Bool
is_in takers list f = is_shared list (taker_at takers f.taker).item

-- so far, up to fill i
pub record AreLoading (turns : List Turn) (takers : List Taker) (fills : List Fill) (p n i : ℕ)
    (load : Load) : Type 0 where
  pub sized : length load.needed.items ≡ n
  pub each : Each (IsLoaded turns takers fills p load.needed.items) load.shares.items
  pub apart : EachPair (λ (s t : Share). s.item ≢ t.item) load.shares.items
  pub found : (k : ℕ) → n ≤ k → k < i
      → is_shared load.shares.items (filler takers fills k).item ≡ true
  pub enough : count_by (is_in takers load.shares.items) (drop n fills)
      ≤ excess load.shares.items

-- WHO NEEDS SPARE TURNS

-- with one who is due and finds no turn
pub seeking : (end : ℕ) (turns : List Turn) (takers : List Taker) (fills : List Fill) (f : Fill)
    (p : ℕ) → AreFilled end turns takers fills → SparesLast end turns
    → known turns ≤ length fills
    → ((k : ℕ) → k < length fills → (fill_at fills k).demand.at ≤ p)
    → IsTakerDue takers fills (length fills) p f.taker
    → AreSeeking end turns takers (fills ++ f ∷ []) p (known turns)
seeking end turns takers fills f p h spares le until due =
    let gs : List Fill = fills ++ f ∷ [] in
    let n : ℕ = length fills in
    let last : (i : ℕ) → n ≤ i → i < length gs → n ≡ i = λ i from lt.
    omega (arith, length_push fills f) in
    record {
      within = omega (arith, length_push fills f);
      there = known_length turns;
      known = λ i lt. known_item turns i lt;
      spare = λ i from. spare_from turns i spares.last from;
      filled = λ i lt. filled_at end turns takers fills gs i (fill_at fills i)
          (λ a less. fill_before fills f a (omega arith)) (fill_before fills f i (omega arith))
          (fill_of end turns takers fills i (h.each i (omega arith)));
      taker = λ i lt. elim (cases_lt i n) [
        | inl below ↦ subst (λ (g : Fill). g.taker < length takers) (fill_before fills f i below)
            (h.each i below).taker
        | inr from ↦ subst (λ m. (fill_at gs m).taker < length takers) (last i from lt)
            (subst (λ (g : Fill). g.taker < length takers) (fill_last fills f) due.within)
      ];
      free = λ i lt. elim (cases_lt i n) [
        | inl below ↦ subst (λ (g : Fill). IsFree gs i g.taker) (fill_before fills f i below)
            (free_as fills gs i (fill_at fills i).taker
            (λ a less. fill_before fills f a (omega arith)) (h.each i below).free)
        | inr from ↦ subst (λ m. IsFree gs m (fill_at gs m).taker) (last i from lt)
            (subst (λ (g : Fill). IsFree gs n g.taker) (fill_last fills f)
            (free_as fills gs n f.taker (λ a less. fill_before fills f a less) due.free))
      ];
      due = λ i from lt. elim (cases_lt i n) [
        | inl below ↦ subst (λ (g : Fill). (taker_at takers g.taker).by ≤ p)
            (fill_before fills f i below)
            (omega (
              arith,
              until i below,
              (h.each i below).due (spare_from turns i spares.last from),
            ))
        | inr past ↦ subst (λ m. (filler takers gs m).by ≤ p) (last i past lt)
            (subst (λ (g : Fill). (taker_at takers g.taker).by ≤ p) (fill_last fills f)
            (omega (arith, due.by)))
      ];
    }

module _ (end : ℕ) (turns : List Turn) (takers : List Taker) (fills : List Fill) (p n : ℕ)
    (s : AreSeeking end turns takers fills p n) (others : OthersNotDue end takers)
    (before : p < end) where
  -- who took a turn of the first n is of its item
  own_turn : (v i : ℕ) → i < n → (filler takers fills i).item ≡ Some v
      → (turn_at turns i).item ≡ Some v
  own_turn v i lt is =
      let r = some_item (turn_at turns i).item (s.known i lt) in
      r.1 ∙ ap Some (sym ((s.filled i lt).may.item v r.0 is r.1))

  abbrev passes : ℕ → Stretch → Taker → Bool
  passes v st = is_within v (position_of fills st.barrier) p

  -- those of an item who took turns after the barrier, or are still to do it
  fill_within : (v i : ℕ) (st : Stretch) → IsStretch turns takers fills v p n st
      → after st.barrier ≤ i → i < length fills → (filler takers fills i).item ≡ Some v
      → passes v st (filler takers fills i) ≡ true
  fill_within v i st is from lt item =
      taker_within end turns takers fills v p (fill_at fills i).taker st.barrier
      (λ b less. s.filled b (omega (arith, is.before))) is.barrier (s.taker i lt)
      (λ j less. s.free i lt j (omega arith)) item (elim (cases_lt i n) [
        | inl early ↦ is.due i from early (own_turn v i early item)
        | inr late ↦ s.due i late lt
      ])

  takers_counted : (v : ℕ) (st : Stretch) → IsStretch turns takers fills v p n st
      → fills_of takers fills v (after st.barrier) ≤ count_by (passes v st) takers
  takers_counted v st is =
      let low : ℕ = after st.barrier in
      let rest : List Fill = drop low fills in
      let test : Fill → Bool = is_by takers v in
      let at : (i : ℕ) → get_or rest i no_fill ≡ fill_at fills (low + i) =
      λ i. get_or-drop low fills i no_fill in
      let reach : (i : ℕ) → i < length rest → low + i < length fills =
      λ i lt. omega (arith, length-drop low fills) in
      omega (
        arith,
        count_all test rest no_fill,
        distinct (passes v st) nobody (outsider v) (λ i. test (get_or rest i no_fill))
            (λ i. (get_or rest i no_fill).taker) (length rest) takers
            (outside v p (position_of fills st.barrier)) (λ i lt e. (
              subst (λ (f : Fill). f.taker < length takers) (sym (at i))
                  (s.taker (low + i) (reach i lt)),
              subst (λ (f : Fill). passes v st (taker_at takers f.taker) ≡ true) (sym (at i))
                  (fill_within v (low + i) st is (omega arith) (reach i lt)
                  (of_item (filler takers fills (low + i)).item v
                  (subst (λ (f : Fill). test f ≡ true) (at i) e))),
            )) (λ i k less lt e.
            s.free (low + k) (reach k lt) (low + i) (omega arith)
            (ap (λ (f : Fill). f.taker) (sym (at i)) ∙ e ∙ ap (λ (f : Fill). f.taker) (at k))),
      )

  -- no turn from number n on is of an item
  none_later : (v : ℕ) → turns_of turns v (length turns) ≤ turns_of turns v n
  none_later v = omega (
    arith,
    turns_counted turns v (length turns) (omega arith),
    turns_counted turns v n s.there,
    passing_only (λ i. has_item (turn_at turns i).item v) n (length turns) s.there
        (λ i from lt. ap (λ (o : Option ℕ). has_item o v) (s.spare i from)),
  )

  -- so many of them have no turn of the item
  takers_over : (v : ℕ) (st : Stretch) → IsStretch turns takers fills v p n st
      → fills_of takers fills v n + (st.takers - 1)
      ≤ fills_of takers fills v (after st.barrier)
  takers_over v st is =
      let low : ℕ = after st.barrier in
      let of_turn : ℕ → Bool = λ i. has_item (turn_at turns i).item v in
      let of_taker : ℕ → Bool = λ i. is_by takers v (fill_at fills i) in
      omega (
        arith,
        is.before,
        is.counted,
        s.within,
        s.there,
        turns_rise turns v low n is.before,
        turns_counted turns v n s.there,
        turns_counted turns v low (omega (arith, is.before, s.there)),
        count_dropped (is_by takers v) fills no_fill n s.within,
        count_dropped (is_by takers v) fills no_fill low (omega (arith, is.before, s.within)),
        passing_between of_turn of_taker low n is.before (λ i from lt e.
            let same = of_item (turn_at turns i).item v e in
            item_yes (filler takers fills i).item v
            (filler_item end turns takers fills i v (s.filled i lt) others
            (omega (arith, is.due i from lt same)) same)),
      )

  -- A SHARE MORE

  added_loaded : (v : ℕ) (st : Stretch) (needed : List Bool)
      → IsStretch turns takers fills v p n st → length needed ≡ n
      → IsLoaded turns takers fills p (marked needed st.barrier)
      (share_after takers fills v st)
  added_loaded v st needed is sized = record {
    barrier = st.barrier;
    marked = (elim st.barrier as (λ o. after o ≤ n
        → IfSome o (λ i. is_marked (marked needed o) i ≡ true)) [
          | None ↦ λ le. tt
          | Some b ↦ λ le. get_or-set_same needed b true false (omega (arith, sized))
        ] is.before);
    since = refl;
    counted = takers_counted v st is;
    left = omega (arith, none_later v, is.counted);
  }

  still_loaded : (needed : List Bool) (o : Option ℕ) (t : Share)
      → IsLoaded turns takers fills p needed t
      → IsLoaded turns takers fills p (marked needed o) t
  still_loaded needed o t h = record {
    barrier = h.barrier;
    marked = (elim h.barrier as (λ b. IfSome b (λ i. is_marked needed i ≡ true)
        → IfSome b (λ i. is_marked (marked needed o) i ≡ true)) [
          | None ↦ λ none. tt
          | Some b ↦ λ on. still_marked needed o b on
        ] h.marked);
    since = h.since;
    counted = h.counted;
    left = h.left;
  }

  pub first_loading : (load : Load) → load.shares.items ≡ [] → length load.needed.items ≡ n
      → AreLoading turns takers fills p n n load
  first_loading load none sized = record {
    sized = sized;
    each = subst (λ l. Each (IsLoaded turns takers fills p load.needed.items) l) (sym none) tt;
    apart = subst (λ l. EachPair (λ (t r : Share). t.item ≢ r.item) l) (sym none) tt;
    found = λ k from lt. absurd (omega arith);
    enough = subst (λ l. count_by (is_in takers l) (drop n fills) ≤ excess l) (sym none)
        (omega (arith, count_none (is_in takers []) (drop n fills) (λ k d lt. refl)));
  }

  -- the item of fill i is there already
  pub same_loading : (i : ℕ) (load : Load) → is_in takers load.shares.items (fill_at fills i) ≡ true
      → AreLoading turns takers fills p n i load
      → AreLoading turns takers fills p n (i + 1) load
  same_loading i load here h = record {
    sized = h.sized;
    each = h.each;
    apart = h.apart;
    found = λ k from lt. elim (cases_lt k i) [
      | inl less ↦ h.found k from less
      | inr not_less ↦
          let same : i ≡ k = omega arith in
          subst (λ m. is_in takers load.shares.items (fill_at fills m) ≡ true) same here
    ];
    enough = h.enough;
  }

  pub more_loading : (v i : ℕ) (old new : Load) → (filler takers fills i).item ≡ Some v
      → is_shared old.shares.items (Some v) ≡ false
      → HasShareMore turns takers fills v p old new → AreLoading turns takers fills p n i old
      → AreLoading turns takers fills p n (i + 1) new
  more_loading v i old new is fresh more h =
      let st : Stretch = more.stretch in
      let t : Share = share_after takers fills v st in
      let list : List Share = old.shares.items in
      let stretch : IsStretch turns takers fills v p n st =
      subst (λ m. IsStretch turns takers fills v p m st) h.sized more.is in
      let marks : List Bool = marked old.needed.items st.barrier in
      let each : Each (IsLoaded turns takers fills p marks) (list ++ t ∷ []) =
      each_append (IsLoaded turns takers fills p marks) list (t ∷ [])
      (each_weaker (IsLoaded turns takers fills p old.needed.items)
      (IsLoaded turns takers fills p marks) (still_loaded old.needed.items st.barrier) list h.each)
      (added_loaded v st old.needed.items stretch h.sized, tt) in
      record {
        sized = ap length more.needed ∙ as_long old.needed.items st.barrier ∙ h.sized;
        each = subst (λ m. Each (IsLoaded turns takers fills p m) new.shares.items)
            (sym more.needed)
            (subst (λ l. Each (IsLoaded turns takers fills p marks) l) (sym more.shares) each);
        apart = subst (λ l. EachPair (λ (a r : Share). a.item ≢ r.item) l) (sym more.shares)
            (apart_more item list t fresh h.apart);
        found = λ k from lt. subst (λ l. is_in takers l (fill_at fills k) ≡ true) (sym more.shares)
            (elim (cases_lt k i) [
              | inl less ↦ among_left item list t (filler takers fills k).item
                  (h.found k from less)
              | inr not_less ↦
                  let same : i ≡ k = omega arith in
                  among_last item list t (filler takers fills k).item
                  (subst (λ m. (filler takers fills m).item ≡ Some v) same is)
            ]);
        enough = subst (λ l. count_by (is_in takers l) (drop n fills) ≤ excess l) (sym more.shares)
            (omega (
              arith,
              h.enough,
              excess_more list t,
              takers_over v st stretch,
              count_under (is_in takers list) (is_by takers v) (is_in takers (list ++ t ∷ []))
                  (drop n fills)
                  (λ f. among_under item true list t (taker_at takers f.taker).item),
            ));
      }

  pub all_loaded : (i : ℕ) (load : Load) → i ≡ length fills
      → AreLoading turns takers fills p n i load
      → IsLoad turns takers fills p n load
  all_loaded i load e h =
      let test : Fill → Bool = is_in takers load.shares.items in
      record {
        sized = h.sized;
        each = h.each;
        apart = h.apart;
        more = omega (
          arith,
          h.enough,
          s.within,
          length-drop n fills,
          count_every test (drop n fills) (λ k d lt.
              subst (λ f. test f ≡ true) (sym (get_or-drop n fills k d
              ∙ get_or_default fills (n + k) d no_fill (omega (arith, length-drop n fills))))
              (h.found (n + k) (omega arith) (omega (arith, length-drop n fills)))),
        );
      }

-- WITH STEPS TO THEIR TURNS

pub loaded_share : (turns : List Turn) (takers : List Taker) (fills : List Fill) (p : ℕ)
    (needed : List Bool) (ss : List Step)
    → ((b : ℕ) → is_marked needed b ≡ true → Reaches fills ss b) → (t : Share)
    → IsLoaded turns takers fills p needed t → IsShare turns takers ss p t
loaded_share turns takers fills p needed ss reach t h =
    let reaches : IfSome h.barrier (Reaches fills ss) =
    elim h.barrier as (λ o. IfSome o (λ i. is_marked needed i ≡ true)
    → IfSome o (Reaches fills ss)) [
      | None ↦ λ none. tt
      | Some b ↦ λ on. reach b on
    ] h.marked in
    let low : after h.barrier ≤ reached_after ss t.after =
    subst (λ o. after h.barrier ≤ reached_after ss o) (sym h.since)
    (barrier_reached fills ss h.barrier reaches) in
    record {
      counted = h.counted;
      left = omega (
        arith,
        h.left,
        turns_rise turns t.item (after h.barrier) (reached_after ss t.after) low,
      );
    }

-- the turns before the last fill
pub reached_before : (fills : List Fill) (f : Fill) (needed : List Bool) (ss : List Step)
    → length needed ≤ length fills
    → ((b : ℕ) → is_marked needed b ≡ true → Reaches fills ss b) → (b : ℕ)
    → is_marked needed b ≡ true → Reaches (fills ++ f ∷ []) ss b
reached_before fills f needed ss sized reach b on =
    elim (cases_lt b (length fills)) [
      | inl lt ↦ subst (λ (g : Fill). b < reached ss g.demand.at) (fill_before fills f b lt)
          (reach b on)
      | inr past ↦ absurd (both_ways (is_marked needed b)
          (get_or_past needed b false (omega arith)) on)
    ]

pub full_shown : (end : ℕ) (turns : List Turn) (takers : List Taker) (fills : List Fill) (f : Fill)
    (p n : ℕ) (load : Load) (ss : List Step) → p < end → known turns ≤ length fills
    → n ≡ known turns → IsLoad turns takers (fills ++ f ∷ []) p (known turns) load
    → AreReaching end turns takers fills load.needed.items ss → IsNotOpen turns p (length fills)
    → IsFull end turns takers ss (length fills) p n load.shares.items
full_shown end turns takers fills f p n load ss before past count h are closed =
    let gs : List Fill = fills ++ f ∷ [] in
    let needed : List Bool = load.needed.items in
    record {
      before = before;
      each = each_weaker (IsLoaded turns takers gs p needed) (IsShare turns takers ss p)
          (loaded_share turns takers gs p needed ss
          (reached_before fills f needed ss (omega (arith, h.sized)) are.reach))
          load.shares.items h.each;
      apart = h.apart;
      count = count;
      spare = omega (arith, past, count);
      more = omega (arith, h.more, count, length_push fills f);
      closed = closed;
    }

turn_is : (turns : List Turn) (k : ℕ) (t : Turn) → slice_get turns k ≡ Some t
    → (turn_at turns k).from ≡ t.from
turn_is [] k t e = absurd (none-some t e)
turn_is (u ∷ ts) zero t e = ap (λ (x : Turn). x.from) (same_Some u t e)
turn_is (u ∷ ts) (suc k) t e = turn_is ts k t e

-- WHAT CAN'T BE TAKEN

-- who can't take a spare turn comes too late, or it is not open
pub spare_closed : (end : ℕ) (turns : List Turn) (takers : List Taker) (fills : List Fill)
    (p j : ℕ) → SparesLast end turns → known turns ≤ length fills
    → CantBeTaken turns takers fills p (length fills)
    → IsTakerDue takers fills (length fills) p j → (taker_at takers j).from ≤ p
    → IsNotOpen turns p (length fills)
spare_closed end turns takers fills p j spares past cant due come = elim cant [
  | inl none ↦ inl none
  | inr open_or ↦ elim open_or [
    | inl closed ↦ inr closed
    | inr left ↦ elim left [
      | inl lacking ↦ absurd (none-some lacking.item
          (sym (spare_from turns (length fills) spares.last past) ∙ lacking.is))
      | inr idle ↦ absurd (idle.none j due.within due.free come (omega (arith, due.by)))
    ]
  ]
]

-- a turn that is not spare and is open: nobody is left who may take it
pub known_lacking : (turns : List Turn) (takers : List Taker) (fills : List Fill) (p k : ℕ)
    → k < known turns → k < length turns → (turn_at turns k).from ≤ p
    → CantBeTaken turns takers fills p k → IsLacking turns takers fills p k
known_lacking turns takers fills p k early there from cant = elim cant [
  | inl none ↦ absurd (omega arith)
  | inr open_or ↦ elim open_or [
    | inl closed ↦ absurd (omega (arith, turn_is turns k closed.turn closed.at, closed.later, from))
    | inr left ↦ elim left [
      | inl lacking ↦ lacking
      | inr idle ↦ absurd (known_item turns k early idle.spare)
    ]
  ]
]

pub not_open : (turns : List Turn) (p k : ℕ)
    → (k < length turns → p < (turn_at turns k).from) → IsNotOpen turns p k
not_open turns p k h = elim (cases_lt k (length turns)) [
  | inl lt ↦ inr (record {
    turn = turn_at turns k;
    at = slice_get-get_or turns k no_turn lt;
    later = h lt;
  })
  | inr past ↦ inl past
]

-- no spare turn is due
pub none_due : (end : ℕ) (turns : List Turn) (p k i : ℕ) → SparesLast end turns → p < end
    → known turns ≤ k → IsTurnDue turns k p i → ⊥
none_due end turns p k i spares before past due = omega (
  arith,
  due.by,
  due.left,
  all_from_each (λ (t : Turn). t.item ≡ None → end ≤ t.by) turns spares.late i no_turn due.within
      (spare_from turns i spares.last (omega (arith, due.left))),
)
