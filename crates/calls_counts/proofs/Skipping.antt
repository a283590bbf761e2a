-- Slots that a search skips.
use Rattle.std.proofs.Common.{◌≡◌, ℕ, zero, suc, ◌+◌, ◌<◌, ◌≤◌, inl, inr, max, List, [], ◌∷◌, ◌++◌}
use Rattle.std.proofs.Common.{length, Some, None, refl, ap, sym, ◌∙◌, arith, subst, slice_get}
use Rattle.std.proofs.Common.{get_or, set}
use Rattle.std.proofs.lemmas.Bool.{cases_lt, cases_eq}
use Rattle.std.proofs.lemmas.List.{get_or-set_same, get_or-set_other, set_past, length-append}
use Rattle.std.proofs.lemmas.Option.{get_or_from_slice_get, same_Some}
use Rattle.calls_core.specs.declared.history.Call.{Call}
use Rattle.calls_counts.specs.declared.state.Slot.{Slot}
use Rattle.calls_counts.specs.Scanning.{slot_of_call, IsFilled, Skips}
use Rattle.calls_counts.proofs.Searching.{FreeAt}

-- no slot is free from one index up to another
abbrev pub NoneBetween : List Slot → ℕ → ℕ → Type 0
NoneBetween slots low high = (j : ℕ) (s : Slot) → low ≤ j → j < high → slice_get slots j ≡ Some s
    → s.taken ≡ None → ⊥

-- the skip of slot i is set
pub skips_set : (slots : List Slot) (next : List ℕ) (i to : ℕ) → to ≤ length slots
    → NoneBetween slots i to → Skips slots next → Skips slots (set next i to)
skips_set slots next i to le none k = record {
  within = λ p. elim (cases_eq p i) [
    | inr other ↦ omega (arith, get_or-set_other next i p to 0 other, k.within p)
    | inl own ↦ elim (cases_lt i (length next)) [
      | inl lt ↦ omega (
        arith,
        get_or-set_same next i to 0 lt,
        ap (λ q.
            get_or (set next i to) q 0) own,
      )
      | inr past ↦ omega (arith, ap (λ zs. get_or zs p 0) (set_past next i to past), k.within p)
    ]
  ];
  none = λ p j s low high at free. elim (cases_eq p i) [
    | inr other ↦ k.none p j s low (omega (arith, get_or-set_other next i p to 0 other)) at free
    | inl own ↦ elim (cases_lt i (length next)) [
      | inl lt ↦ none j s (omega arith) (omega (
        arith,
        get_or-set_same next i to 0 lt,
        ap (λ q.
            get_or (set next i to) q 0) own,
      )) at free
      | inr past ↦ k.none p j s low (omega (
        arith,
        ap (λ zs. get_or zs p 0)
            (set_past next i to past),
      )) at free
    ]
  ];
}

-- two skips, one after the other
pub further_none : (slots : List Slot) (next : List ℕ) (i far : ℕ) (d : Slot)
    → ((get_or slots i d).taken ≡ None → ⊥) → Skips slots next → far ≡ max (get_or next i 0) (i + 1)
    → NoneBetween slots i (max (get_or next far 0) far)
further_none slots next i far d taken k is = λ j s low high at free.
    elim (cases_lt j (i + 1)) [
      | inl here ↦ (let same : j ≡ i = omega arith in taken
          (ap (λ (z : Slot). z.taken) (get_or_from_slice_get slots i s d
          (ap (slice_get slots) (sym same) ∙ at)) ∙ free))
      | inr behind ↦ elim (cases_lt j (get_or next i 0)) [
        | inl one ↦ k.none i j s low one at free
        | inr two ↦ k.none far j s (omega arith) (omega arith) at free
      ]
    ]

pub further_within : (slots : List Slot) (next : List ℕ) (i far : ℕ) → i < length slots
    → Skips slots next → far ≡ max (get_or next i 0) (i + 1)
    → max (get_or next far 0) far ≤ length slots
further_within slots next i far lt k is = omega (arith, k.within i, k.within far)

-- no skipped slot is free
pub passed_more : (slots : List Slot) (n i to : ℕ) → NoneBetween slots i to
    → ((k : ℕ) → k < i → FreeAt slots n k) → (k : ℕ) → k < to → FreeAt slots n k
passed_more slots n i to none h k lt = λ s at free.
    elim (cases_lt k i) [
      | inl below ↦ h k below s at free
      | inr le ↦
          absurd (none k s le lt at free)
    ]

-- WITH OTHER SLOTS

pub skips_filled : (old new : List Slot) (next : List ℕ) (n : ℕ) (c : Call) → IsFilled old new n c
    → Skips old next → Skips new next
skips_filled old new next n c f k = record {
  within = λ i. omega (
    arith,
    k.within i,
    ap length f.was,
    ap length f.is,
    length-append f.prefix
        (f.slot ∷ f.back),
    length-append f.prefix (slot_of_call f.slot.moment c ∷ f.back),
  );
  none = λ i j s low high at free.
      (let r = was_free f.prefix f.slot f.slot.moment c f.back j s
      (ap (λ zs. slice_get zs j) (sym f.is) ∙ at) free in
      k.none i j s low high (ap (λ zs. slice_get zs j) f.was ∙ r) free);
}
  where
    was_free : (prefix : List Slot) (x : Slot) (m : ℕ) (c : Call) (back : List Slot) (j : ℕ)
        (s : Slot) → slice_get (prefix ++ slot_of_call m c ∷ back) j ≡ Some s → s.taken ≡ None
        → slice_get (prefix ++ x ∷ back) j ≡ Some s
    was_free [] x m c back zero s at free = (let same : slot_of_call m c ≡ s =
        same_Some (slot_of_call m c) s at in let none : Some c ≡ None =
        ap (λ (z : Slot). z.taken) same ∙ free in absurd (cc))
    was_free [] x m c back (suc j) s at free = at
    was_free (y ∷ prefix) x m c back zero s at free = at
    was_free (y ∷ prefix) x m c back (suc j) s at free = was_free prefix x m c back j s at free

pub skips_longer : (old new more : List Slot) (next : List ℕ) → new ≡ old ++ more → Skips old next
    → Skips new next
skips_longer old new more next is k = record {
  within = λ i. omega (arith, k.within i, ap length is, length-append old more);
  none = λ i j s low high at free.
      (let lt : j < length old = omega (arith, k.within i) in
      k.none i j s low high (sym (get_left old more j lt) ∙ ap (λ zs. slice_get zs j) (sym is) ∙ at)
      free);
}
  where
    get_left : (xs ys : List Slot) (j : ℕ) → j < length xs → slice_get (xs ++ ys) j ≡ slice_get xs j
    get_left [] ys j lt = absurd (omega arith)
    get_left (x ∷ xs) ys zero lt = refl
    get_left (x ∷ xs) ys (suc j) lt = get_left xs ys j (omega arith)

pub skips_same : (slots : List Slot) (next later : List ℕ)
    → ((i : ℕ) → get_or later i 0 ≡ get_or next i 0) → Skips slots next → Skips slots later
skips_same slots next later same k = record {
  within = λ i. omega (arith, same i, k.within i);
  none = λ i j s low high at free. k.none i j s low (omega (arith, same i)) at free;
}

-- a taken slot is skipped, and others with it
pub passed_over : (slots : List Slot) (begin next later : List ℕ) (from i one far two further : ℕ)
    (d : Slot) → i < length slots → ((get_or slots i d).taken ≡ None → ⊥) → one ≡ get_or next i 0
    → far ≡ max one (i + 1) → two ≡ get_or next far 0 → further ≡ max two far
    → later ≡ set next i further
    → (Skips slots begin → Skips slots next × ((k : ℕ) → k < i → FreeAt slots from k))
    → Skips slots begin → Skips slots later × ((k : ℕ) → k < further → FreeAt slots from k)
passed_over slots begin next later from i one far two further d lt taken a b e f is h = λ s.
    (let k = h s in
    let far_is : far ≡ max (get_or next i 0) (i + 1) = b ∙ ap (λ z. max z (i + 1)) a in
    let further_is : further ≡ max (get_or next far 0) far = f ∙ ap (λ z. max z far) e in
    let none : NoneBetween slots i further = subst (NoneBetween slots i) (sym further_is)
    (further_none slots next i far d taken k.0 far_is) in
    let within : further ≤ length slots = omega (
      arith,
      further_within slots next i far lt k.0
          far_is,
    ) in (
      subst (Skips slots) (sym is) (skips_set slots next i further within none k.0),
      passed_more
          slots from i further none k.1,
    ))
