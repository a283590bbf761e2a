-- What is missing when a turn can't be taken: more than there are takers of any item.
use Rattle.std.proofs.Common.{◌≡◌, ◌≢◌, ℕ, suc, ◌+◌, ◌-◌, ◌<◌, ◌≤◌, inl, inr, Bool, true, false}
use Rattle.std.proofs.Common.{◌&&◌, not, List, [], ◌∷◌, ◌++◌, length, refl, ap, sym, ◌∙◌, arith}
use Rattle.std.proofs.Common.{subst}
use Rattle.std.proofs.Common.{Some, None}
use Rattle.std.specs.Prelude.{nat_le}
use Rattle.std.proofs.lemmas.Bool.{cases_lt, leb-true, and_parts, and_from, and_cases, both_ways}
use Rattle.std.proofs.lemmas.Bool.{not-true, not-false, false_from_ne_true}
use Rattle.std.proofs.lemmas.List.{get_or-set_same, length-set}
use Rattle.calls_core.specs.Lists.{Each, EachPair}
use Rattle.calls_core.proofs.Lists.{each_weaker, each_append}
use Rattle.calls_turns.specs.declared.turn.Turn.{Turn}
use Rattle.calls_turns.specs.declared.turn.Taker.{Taker}
use Rattle.calls_turns.specs.declared.turn.Step.{Step}
use Rattle.calls_turns.specs.declared.turn.Shortage.{Shortage}
use Rattle.calls_turns.specs.declared.demand.Fill.{Fill}
use Rattle.calls_turns.specs.declared.clash.Lack.{Lack}
use Rattle.calls_turns.specs.Steps.{has_item, has_none, is_of, come_of, others_by, turns_of, known}
use Rattle.calls_turns.specs.Steps.{reached, IsShortage, missing}
use Rattle.calls_turns.specs.Sweeps.{taker_at, turn_at, fill_at, filler, NoneLeft, AreFilled}
use Rattle.calls_turns.specs.Sweeps.{IsLacking}
use Rattle.calls_turns.specs.Chains.{is_marked, marked, IsLead}
use Rattle.calls_turns.specs.Shortages.{is_listed, IsCounted, IsTakenAt, IsFound, IsLack}
use Rattle.calls_turns.proofs.Counts.{known_item}
use Rattle.calls_turns.proofs.Tallies.{passing, passing_le, passing_under, passing_only, spent}
use Rattle.calls_turns.proofs.Tallies.{is_other, of_item, of_any, turns_split, one_most}
use Rattle.calls_turns.proofs.Listed.{among_left, among_last, among_only, among_under, apart_more}
use Rattle.calls_turns.proofs.Stretches.{same_turn_more}
use Rattle.calls_turns.proofs.Leads.{last_reached, still_marked}

missing_more : (list : List Shortage) (s : Shortage)
    → missing (list ++ s ∷ []) ≡ missing list + (s.turns - s.takers)
missing_more [] s = omega arith
missing_more (t ∷ list) s = omega (arith, missing_more list s)

-- WHAT IS MISSING

counted_found : (turns : List Turn) (takers : List Taker) (fills : List Fill) (p q k : ℕ)
    (needed : List Bool) (s : Shortage) → IsCounted turns takers q k s
    → IsTakenAt fills p needed k q → q ≤ p → s.takers ≤ s.turns
    → IsFound turns takers fills p needed s
counted_found turns takers fills p q k needed s c taken before few = record {
  taken = subst (λ n. IsTakenAt fills p needed n s.at) (sym c.turn)
      (subst (λ r. IsTakenAt fills p needed k r) (sym c.at) taken);
  before = omega (arith, c.at);
  of_item = c.of_item ∙ ap (λ n. turns_of turns s.item (n + 1)) (sym c.turn);
  come = c.come ∙ ap (λ r. come_of takers s.item r) (sym c.at);
  few = few;
}

-- one turn more is marked
still_found : (turns : List Turn) (takers : List Taker) (fills : List Fill) (p k : ℕ)
    (needed : List Bool) (s : Shortage) → IsFound turns takers fills p needed s
    → IsFound turns takers fills p (marked needed (Some k)) s
still_found turns takers fills p k needed s h = record {
  taken = elim h.taken [
    | inl past ↦ inl (still_marked needed (Some k) s.turn past.0, past.1)
    | inr last ↦ inr last
  ];
  before = h.before;
  of_item = h.of_item;
  come = h.come;
  few = h.few;
}

-- steps to the turns that are marked show what is missing
pub found_shortage : (end : ℕ) (turns : List Turn) (takers : List Taker) (fills : List Fill)
    (p : ℕ) (needed : List Bool) (ss : List Step) (s : Shortage)
    → IsLead end turns takers fills p needed ss → IsFound turns takers fills p needed s
    → IsShortage turns takers ss s
found_shortage end turns takers fills p needed ss s lead h = record {
  taken = elim h.taken [
    | inl past ↦ subst (λ q. s.turn < reached ss q) (sym past.1) (lead.reaching.reach s.turn past.0)
    | inr last ↦ subst (λ q. s.turn < reached ss q) (sym last.1)
        (last_reached ss s.turn p (omega (arith, last.0, lead.count)) lead.at)
  ];
  before = omega (arith, h.before, lead.at);
  of_item = h.of_item;
  come = h.come;
  few = h.few;
}

-- so far, from turn k on: each item of which a taker of any item took a turn
pub record AreMissing (turns : List Turn) (takers : List Taker) (fills : List Fill) (p k : ℕ)
    (needed : List Bool) (list : List Shortage) : Type 0 where
  pub sized : length needed ≡ length fills
  pub each : Each (IsFound turns takers fills p needed) list
  pub apart : EachPair (λ (s t : Shortage). s.item ≢ t.item) list
  pub found : (i : ℕ) → k ≤ i → i < length fills
      → has_none (filler takers fills i).item ≡ true → is_listed list (turn_at turns i).item ≡ true
  pub enough : passing (is_other (filler takers fills) turns (is_listed list)) (length fills)
      < missing list

abbrev item : Shortage → ℕ
item s = s.item

module _ (end : ℕ) (turns : List Turn) (takers : List Taker) (fills : List Fill)
    (h : AreFilled end turns takers fills) where
  abbrev who : ℕ → Taker
  who i = filler takers fills i

  -- whether a taker of any item takes turn i, which is of item v
  abbrev is_for : ℕ → ℕ → Bool
  is_for v = is_other who turns (λ o. has_item o v)

  own_come : (k p v : ℕ) → NoneLeft takers fills k p (Some v)
      → come_of takers v p ≤ passing (λ i. is_of v (who i)) k
  own_come k p v none =
      let w : Taker → Bool = λ (x : Taker). is_of v x && nat_le x.from p in
      omega (
        arith,
        spent w takers fills k
            (λ j lt left e. (let both = and_parts (is_of v (taker_at takers j))
            (nat_le (taker_at takers j).from p) e in
            none j lt left (of_item (taker_at takers j).item v both.0)
            (leb-true (taker_at takers j).from p both.1))),
        passing_le (λ i. w (who i)) (λ i. is_of v (who i)) k
            (λ i lt e. (and_parts (is_of v (who i)) (nat_le (who i).from p) e).0),
      )

  others_come : (k p : ℕ) → NoneLeft takers fills k p None
      → others_by takers p ≤ passing (λ i. has_none (who i).item) k
  others_come k p none =
      let w : Taker → Bool = λ (x : Taker). has_none x.item && nat_le x.from p in
      omega (
        arith,
        spent w takers fills k
            (λ j lt left e. (let both = and_parts (has_none (taker_at takers j).item)
            (nat_le (taker_at takers j).from p) e in
            none j lt left (of_any (taker_at takers j).item both.0)
            (leb-true (taker_at takers j).from p both.1))),
        passing_le (λ i. w (who i)) (λ i. has_none (who i).item) k
            (λ i lt e. (and_parts (has_none (who i).item) (nat_le (who i).from p) e).0),
      )

  -- up to a turn of an item for which nobody of the item is left
  amount : (k p v : ℕ) → k ≤ length fills → k ≤ known turns → k < length turns
      → (turn_at turns k).item ≡ Some v → NoneLeft takers fills k p (Some v)
      → come_of takers v p + passing (is_for v) k < turns_of turns v (k + 1)
  amount k p v to early lt e none = omega (
    arith,
    own_come k p v none,
    turns_split who turns v k (omega arith)
        (λ i from less. known_item turns i (omega arith))
        (λ i w u less is has. (h.each i (omega arith)).may.item w u is has),
    same_turn_more turns v k lt e,
  )

  -- the same of a shortage
  amount_of : (k p v : ℕ) (s : Shortage) → k ≤ length fills → k ≤ known turns
      → k < length turns → (turn_at turns k).item ≡ Some v → NoneLeft takers fills k p (Some v)
      → IsCounted turns takers p k s → s.takers + passing (is_for s.item) k < s.turns
  amount_of k p v s to early lt e none c = omega (
    arith,
    c.come,
    c.of_item,
    amount k p s.item to early lt c.item
        (subst (λ o. NoneLeft takers fills k p o) (sym e ∙ c.item) none),
  )

  pub first_missing : (p : ℕ) (needed : List Bool) (s : Shortage)
      → length fills ≤ known turns → IsLacking turns takers fills p (length fills)
      → length needed ≡ length fills
      → IsCounted turns takers p (length fills) s
      → AreMissing turns takers fills p (length fills) needed (s ∷ [])
  first_missing p needed s early lack sized c =
      let k : ℕ = length fills in
      let much : s.takers + passing (is_for s.item) k < s.turns =
      amount_of k p lack.item s (omega arith) early lack.there lack.is lack.of_item c in
      record {
        sized = sized;
        each = (
          counted_found turns takers fills p p k needed s c (inr (refl, refl)) (omega arith)
              (omega (arith, much)),
          tt,
        );
        apart = (tt, tt);
        found = λ i from lt. absurd (omega arith);
        enough = omega (
          arith,
          much,
          passing_le (is_other who turns (is_listed (s ∷ []))) (is_for s.item) k
              (λ i lt e. (let both = and_parts (has_none (who i).item)
              (is_listed (s ∷ []) (turn_at turns i).item) e in
              and_from (has_none (who i).item) (has_item (turn_at turns i).item s.item) both.0
              (among_only item s (turn_at turns i).item both.1))),
        );
      }

  -- nothing more for turn k
  pub same_missing : (p k n : ℕ) (needed : List Bool) (list : List Shortage) → n ≡ k + 1
      → (has_none (who k).item && not (is_listed list (turn_at turns k).item)) ≡ false
      → AreMissing turns takers fills p n needed list
      → AreMissing turns takers fills p k needed list
  same_missing p k n needed list e stale m = record {
    sized = m.sized;
    each = m.each;
    apart = m.apart;
    found = λ i from lt any. elim (cases_lt k i) [
      | inl past ↦ m.found i (omega arith) lt any
      | inr less ↦
          let same : k ≡ i = omega arith in
          let here : has_none (who k).item ≡ true =
          subst (λ j. has_none (who j).item ≡ true) (sym same) any in
          subst (λ j. is_listed list (turn_at turns j).item ≡ true) same
          (elim (and_cases (has_none (who k).item) (not (is_listed list (turn_at turns k).item))
          stale) [
            | inl own ↦ absurd (both_ways (has_none (who k).item) own here)
            | inr listed ↦ not-false (is_listed list (turn_at turns k).item) listed
          ])
    ];
    enough = m.enough;
  }

  -- after turn k, no taker of any item takes a turn of an item that is not listed
  none_after : (p k n v : ℕ) (needed : List Bool) (list : List Shortage) → n ≡ k + 1
      → is_listed list (Some v) ≡ false → AreMissing turns takers fills p n needed list
      → (i : ℕ) → suc k ≤ i → i < length fills → is_for v i ≡ false
  none_after p k n v needed list e none m i from lt =
      false_from_ne_true (is_for v i) (λ yes_i.
      (let both = and_parts (has_none (who i).item) (has_item (turn_at turns i).item v) yes_i in
      both_ways (is_listed list (Some v)) none
      (subst (λ o. is_listed list o ≡ true) (of_item (turn_at turns i).item v both.1)
      (m.found i (omega arith) lt both.0))))

  -- an item more, of turn k
  pub more_missing : (p k n : ℕ) (needed : List Bool) (list : List Shortage) (s : Shortage)
      → n ≡ k + 1 → k < length fills → length fills ≤ known turns
      → (fill_at fills k).demand.at ≤ p
      → (has_none (who k).item && not (is_listed list (turn_at turns k).item)) ≡ true
      → IsCounted turns takers (fill_at fills k).demand.at k s
      → AreMissing turns takers fills p n needed list
      → AreMissing turns takers fills p k (marked needed (Some k)) (list ++ s ∷ [])
  more_missing p k n needed list s e lt early before fresh c m =
      let q : ℕ = (fill_at fills k).demand.at in
      let both = and_parts (has_none (who k).item) (not (is_listed list (turn_at turns k).item))
      fresh in
      let left : NoneLeft takers fills k q (Some s.item) =
      (h.each k lt).none_left s.item c.item (of_any (who k).item both.0) in
      let much : s.takers + passing (is_for s.item) k < s.turns =
      amount_of k q s.item s (omega arith) (omega arith) (h.each k lt).turn c.item left c in
      let new : is_listed list (Some s.item) ≡ false =
      subst (λ o. is_listed list o ≡ false) c.item
      (not-true (is_listed list (turn_at turns k).item) both.1) in
      let marks : List Bool = marked needed (Some k) in
      let here : is_marked marks k ≡ true =
      get_or-set_same needed k true false (omega (arith, m.sized)) in
      record {
        sized = length-set needed k true ∙ m.sized;
        each = each_append (IsFound turns takers fills p marks) list (s ∷ [])
            (each_weaker (IsFound turns takers fills p needed) (IsFound turns takers fills p marks)
            (still_found turns takers fills p k needed) list m.each) (
              counted_found turns takers fills p q k marks s c (inl (here, refl)) before
                  (omega (arith, much)),
              tt,
            );
        apart = apart_more item list s new m.apart;
        found = λ i from less other. elim (cases_lt k i) [
          | inl past ↦ among_left item list s (turn_at turns i).item
              (m.found i (omega arith) less other)
          | inr not_past ↦
              let same : k ≡ i = omega arith in
              among_last item list s (turn_at turns i).item
              (ap (λ j. (turn_at turns j).item) (sym same) ∙ c.item)
        ];
        enough = omega (
          arith,
          much,
          m.enough,
          missing_more list s,
          one_most (is_for s.item k),
          passing_only (is_for s.item) (suc k) (length fills) (omega arith)
              (none_after p k n s.item needed list e new m),
          passing_under (is_other who turns (is_listed list)) (is_for s.item)
              (is_other who turns (is_listed (list ++ s ∷ []))) (length fills)
              (λ i less. among_under item (has_none (who i).item) list s (turn_at turns i).item),
        );
      }

  pub all_missing : (p k : ℕ) (lack : Lack) → k ≡ 0 → IsLacking turns takers fills p (length fills)
      → AreMissing turns takers fills p k lack.needed.items lack.shortages.items
      → IsLack turns takers fills p lack
  all_missing p k lack none stuck m =
      let list : List Shortage = lack.shortages.items in
      record {
        sized = m.sized;
        each = m.each;
        apart = m.apart;
        more = omega (
          arith,
          m.enough,
          others_come (length fills) p stuck.of_any,
          passing_le (λ i. has_none (who i).item) (is_other who turns (is_listed list))
              (length fills) (λ i lt e. and_from (has_none (who i).item)
              (is_listed list (turn_at turns i).item) e (m.found i (omega (arith, none)) lt e)),
        );
      }
