-- When items are put in and taken out by their ranks: no later than they must be.
use Rattle.std.proofs.Common.{◌≡◌, ℕ, zero, suc, ◌+◌, ◌-◌, ◌<◌, ◌≤◌, inl, inr, max, List}
use Rattle.std.proofs.Common.{[], ◌∷◌, ◌++◌, length, length-append, take, drop, get_or, refl, ap}
use Rattle.std.proofs.Common.{sym, ◌∙◌, subst, arith}
use Rattle.std.specs.List.{All}
use Rattle.std.proofs.lemmas.Bool.{cases_lt}
use Rattle.std.proofs.lemmas.List.{length-take-le, get_or-take, get_or-drop, length-drop}
use Rattle.std.proofs.lemmas.List.{take-append-le, take_all, get_or_append_left, get_or_at}
use Rattle.calls_core.specs.Lists.{EachPair}
use Rattle.calls_core.proofs.Lists.{all_from_each, all_pairs_from_each}
use Rattle.calls_buffers.specs.declared.planning.Stay.{Stay}
use Rattle.calls_buffers.specs.declared.windows.Window.{Window}
use Rattle.calls_buffers.specs.kept.Windows.{in_by, out_from, MayPrecede, HaveRoom}
use Rattle.calls_buffers.specs.kept.Plans.{no_stay, stay_at, no_window, window_at, IsNext, AreStays}

-- BY INDEX

pub room_at : (n : ℕ) (order : List Window) → HaveRoom n order → (i k : ℕ) → i + n ≤ k
    → k < length order → out_from (window_at order i) ≤ in_by (window_at order k)
room_at n [] h i k le lt = absurd (omega arith)
room_at n (x ∷ xs) h zero k le lt =
    let all : All (λ (y : Window). out_from x ≤ in_by y) (drop n (x ∷ xs)) =
    all_from_each (λ (y : Window). out_from x ≤ in_by y) (drop n (x ∷ xs)) h.0 in
    let same : n + (k - n) ≡ k = omega arith in
    let here : get_or (drop n (x ∷ xs)) (k - n) no_window ≡ window_at (x ∷ xs) k =
    get_or-drop n (x ∷ xs) (k - n) no_window ∙ ap (window_at (x ∷ xs)) same in
    subst (λ (y : Window). out_from x ≤ in_by y) here
    (all (k - n) no_window (within n (x ∷ xs) k (omega arith) lt))
  where
    within : (n : ℕ) (ys : List Window) (k : ℕ) → n ≤ k → k < length ys
        → k - n < length (drop n ys)
    within n ys k le lt = omega (arith, length-drop n ys)
room_at n (x ∷ xs) h (suc i) zero le lt = absurd (omega arith)
room_at n (x ∷ xs) h (suc i) (suc k) le lt =
    room_at n xs h.1 i k (omega arith) (let less : suc k < suc (length xs) = lt in omega arith)

-- ONE STEP

-- what comes before the next one
abbrev IsBefore : ℕ → List Stay → Stay → Type 0
IsBefore n before s = ((k : ℕ) → k + n ≡ length before → s ≡ stay_at before k)
    × (length before < n → s ≡ no_stay)

bound_before : (n : ℕ) (before : List Stay) (s : Stay) (at : Stay → ℕ) (b : ℕ) → at no_stay ≡ 0
    → IsBefore n before s → ((k : ℕ) → k + n ≡ length before → at (stay_at before k) ≤ b)
    → at s ≤ b
bound_before n before s at b none h f = elim (cases_lt (length before) n) [
  | inl lt ↦ omega (arith, ap at (h.1 lt))
  | inr ge ↦ (let k : ℕ = length before - n in
      let is : k + n ≡ length before = omega arith in omega (arith, ap at (h.0 k is), f k is))
]

pub next_is : (n : ℕ) (w : Window) (before : List Stay) (last freed : Stay) → IsBefore 1 before last
    → IsBefore n before freed → (s : Stay)
    → s.put_at ≡ max (max last.put_at w.put_first) freed.take_at
    → s.take_at ≡ max (max last.take_at w.take_first) s.put_at → IsNext n w before s
next_is n w before last freed h g s put take = record {
  put_own = omega arith;
  put_rises = λ k e. omega (arith, ap (λ (t : Stay). t.put_at) (h.0 k e));
  freed = λ k e. omega (arith, ap (λ (t : Stay). t.take_at) (g.0 k e));
  put_least = λ b own rises free. omega (
    arith,
    bound_before 1 before last (λ (t : Stay). t.put_at) b refl h rises,
    bound_before n before freed (λ (t : Stay). t.take_at) b refl g free,
  );
  after = omega arith;
  take_own = omega arith;
  take_rises = λ k e. omega (arith, ap (λ (t : Stay). t.take_at) (h.0 k e));
  take_least = λ b own at rises. omega (
    arith,
    bound_before 1 before last (λ (t : Stay). t.take_at) b refl h rises,
  );
}

pub stays_more : (n : ℕ) (order : List Window) (i : ℕ) (stays : List Stay) (s : Stay)
    → AreStays n order i stays → IsNext n (window_at order i) stays s
    → AreStays n order (i + 1) (stays ++ s ∷ [])
stays_more n order i stays s h next =
    let many = h.many in
    record {
      many = omega (arith, length-append stays (s ∷ []));
      each = λ k lt.
          let front : take k (stays ++ s ∷ []) ≡ take k stays =
          take-append-le k stays (s ∷ []) (omega arith) in
          elim (cases_lt k i) [
            | inl less ↦ (let own : stay_at (stays ++ s ∷ []) k ≡ stay_at stays k =
                get_or_append_left stays (s ∷ []) no_stay k (omega arith) in
                subst (λ (x : Stay). IsNext n (window_at order k) (take k (stays ++ s ∷ [])) x)
                (sym own) (subst (λ xs. IsNext n (window_at order k) xs (stay_at stays k))
                (sym front) (h.each k less)))
            | inr ge ↦ (let same : i ≡ k = omega arith in
                let own : stay_at (stays ++ s ∷ []) k ≡ s =
                get_or_at stays s [] no_stay k (omega arith) in
                let all : take k stays ≡ stays = take_all k stays (omega arith) in
                subst (λ (x : Stay). IsNext n (window_at order k) (take k (stays ++ s ∷ [])) x)
                (sym own) (subst (λ xs. IsNext n (window_at order k) xs s)
                (sym (front ∙ all)) (subst (λ j. IsNext n (window_at order j) stays s) same next)))
          ];
    }

-- STEP BY STEP

module _ (n : ℕ) (order : List Window) (stays : List Stay)
    (are : AreStays n order (length order) stays) where
  abbrev pub put_at : ℕ → ℕ
  put_at k = (stay_at stays k).put_at

  abbrev pub take_at : ℕ → ℕ
  take_at k = (stay_at stays k).take_at

  record IsStep (k : ℕ) : Type 0 where
    put_own : (window_at order k).put_first ≤ put_at k
    put_rises : (i : ℕ) → i + 1 ≡ k → put_at i ≤ put_at k
    freed : 0 < n → (i : ℕ) → i + n ≡ k → take_at i ≤ put_at k
    put_least : 0 < n → (b : ℕ) → (window_at order k).put_first ≤ b
        → ((i : ℕ) → i + 1 ≡ k → put_at i ≤ b)
        → ((i : ℕ) → i + n ≡ k → take_at i ≤ b) → put_at k ≤ b
    after : put_at k ≤ take_at k
    take_own : (window_at order k).take_first ≤ take_at k
    take_rises : (i : ℕ) → i + 1 ≡ k → take_at i ≤ take_at k
    take_least : (b : ℕ) → (window_at order k).take_first ≤ b → put_at k ≤ b
        → ((i : ℕ) → i + 1 ≡ k → take_at i ≤ b) → take_at k ≤ b

  step : (k : ℕ) → k < length order → IsStep k
  step k lt =
      let h = are.each k lt in
      let many = are.many in
      let before : length (take k stays) ≡ k = length-take-le k stays (omega arith) in
      let same : (i : ℕ) → i < k → stay_at (take k stays) i ≡ stay_at stays i =
      λ i less. get_or-take k stays i no_stay less in
      record {
        put_own = h.put_own;
        put_rises = λ i e. subst (λ (s : Stay). s.put_at ≤ put_at k) (same i (omega arith))
            (h.put_rises i (omega arith));
        freed = λ room i e. subst (λ (s : Stay). s.take_at ≤ put_at k) (same i (omega arith))
            (h.freed i (omega arith));
        put_least = λ room b own rises freed. h.put_least b own
            (λ i e. subst (λ (s : Stay). s.put_at ≤ b) (sym (same i (omega arith)))
            (rises i (omega arith)))
            (λ i e. subst (λ (s : Stay). s.take_at ≤ b) (sym (same i (omega arith)))
            (freed i (omega arith)));
        after = h.after;
        take_own = h.take_own;
        take_rises = λ i e. subst (λ (s : Stay). s.take_at ≤ take_at k) (same i (omega arith))
            (h.take_rises i (omega arith));
        take_least = λ b own put rises. h.take_least b own put
            (λ i e. subst (λ (s : Stay). s.take_at ≤ b) (sym (same i (omega arith)))
            (rises i (omega arith)));
      }

  pub put_own : (k : ℕ) → k < length order → (window_at order k).put_first ≤ put_at k
  put_own k lt = (step k lt).put_own

  pub take_own : (k : ℕ) → k < length order → (window_at order k).take_first ≤ take_at k
  take_own k lt = (step k lt).take_own

  pub after : (k : ℕ) → k < length order → put_at k ≤ take_at k
  after k lt = (step k lt).after

  pub put_rises : (i k : ℕ) → i ≤ k → k < length order → put_at i ≤ put_at k
  put_rises i zero le lt = (let same : i ≡ zero = omega arith in
      let at : put_at i ≡ put_at zero = ap put_at same in omega arith)
  put_rises i (suc k) le lt = elim (cases_lt i (suc k)) [
    | inl less ↦ omega (
      arith,
      put_rises i k (omega arith) (omega arith),
      (step (suc k) lt).put_rises k (omega arith),
    )
    | inr ge ↦ (let same : i ≡ suc k = omega arith in
        let at : put_at i ≡ put_at (suc k) = ap put_at same in omega arith)
  ]

  pub take_rises : (i k : ℕ) → i ≤ k → k < length order → take_at i ≤ take_at k
  take_rises i zero le lt = (let same : i ≡ zero = omega arith in
      let at : take_at i ≡ take_at zero = ap take_at same in omega arith)
  take_rises i (suc k) le lt = elim (cases_lt i (suc k)) [
    | inl less ↦ omega (
      arith,
      take_rises i k (omega arith) (omega arith),
      (step (suc k) lt).take_rises k (omega arith),
    )
    | inr ge ↦ (let same : i ≡ suc k = omega arith in
        let at : take_at i ≡ take_at (suc k) = ap take_at same in omega arith)
  ]

  pub freed : 0 < n → (i k : ℕ) → i + n ≤ k → k < length order → take_at i ≤ put_at k
  freed room i k le lt = omega (
    arith,
    (step (i + n) (omega arith)).freed room i refl,
    put_rises (i + n) k le lt,
  )

  -- WHAT BOUNDS THEM

  abbrev PutBound : ℕ → ℕ → Type 0
  PutBound k b = ((i : ℕ) → i ≤ k → (window_at order i).put_first ≤ b)
      × ((i : ℕ) → i + n ≤ k → out_from (window_at order i) ≤ b)

  abbrev TakeBound : ℕ → ℕ → Type 0
  TakeBound k b = (i : ℕ) → i ≤ k → out_from (window_at order i) ≤ b

  abbrev Bounded : ℕ → Type 0
  Bounded k = ((b : ℕ) → PutBound k b → put_at k ≤ b) × ((b : ℕ) → TakeBound k b → take_at k ≤ b)

  put_bounded : 0 < n → (k : ℕ) → k < length order → ((i : ℕ) → i < k → Bounded i) → (b : ℕ)
      → PutBound k b → put_at k ≤ b
  put_bounded room k lt h b p = (step k lt).put_least room b (p.0 k (omega arith))
      (λ i e. (h i (omega arith)).0 b (
        (λ j le. p.0 j (omega arith)),
        (λ j le. p.1 j (omega arith)),
      ))
      (λ i e. (h i (omega arith)).1 b (λ j le. p.1 j (omega arith)))

  put_out : (k b : ℕ) → TakeBound k b → PutBound k b
  put_out k b p = (
    λ i le. (let w = window_at order i in
        let out : max w.put_first w.take_first ≤ b = p i le in omega arith),
    λ i le. p i (omega arith),
  )

  bounded_next : 0 < n → (k : ℕ) → k < length order → ((i : ℕ) → i < k → Bounded i) → Bounded k
  bounded_next room k lt h = (
    put_bounded room k lt h,
    λ b p. (step k lt).take_least b (let w = window_at order k in
        let out : max w.put_first w.take_first ≤ b = p k (omega arith) in omega arith)
        (put_bounded room k lt h b (put_out k b p))
        (λ i e. (h i (omega arith)).1 b (λ j le. p j (omega arith))),
  )

  bounded_below : 0 < n → (f : ℕ) → f ≤ length order → (k : ℕ) → k < f → Bounded k
  bounded_below room zero le k lt = absurd (omega arith)
  bounded_below room (suc f) le k lt = bounded_next room k (omega arith)
      (λ i less. bounded_below room f (omega arith) i (omega arith))

  -- BY RANKS

  module _ (room : 0 < n) (pairs : EachPair MayPrecede order) (free : HaveRoom n order)
      (own : (k : ℕ) → k < length order
      → ((window_at order k).put_first ≤ in_by (window_at order k))
      × (out_from (window_at order k) ≤ (window_at order k).take_last)) where
    pub pair : (i k : ℕ) → i < k → k < length order
        → MayPrecede (window_at order i) (window_at order k)
    pair i k lt less = all_pairs_from_each MayPrecede order pairs i k no_window lt less

    pub put_in_time : (k : ℕ) → k < length order → put_at k ≤ in_by (window_at order k)
    put_in_time k lt = (bounded_below room (length order) (omega arith) k lt).0
        (in_by (window_at order k)) (
          (λ i le. elim (cases_lt i k) [
            | inl less ↦ (pair i k less lt).put
            | inr ge ↦ (let same : i ≡ k = omega arith in
                subst (λ j. (window_at order j).put_first ≤ in_by (window_at order k)) (sym same)
                (own k lt).0)
          ]),
          (λ i le. room_at n order free i k le lt),
        )

    pub taken_in_time : (k : ℕ) → k < length order → take_at k ≤ (window_at order k).take_last
    taken_in_time k lt = (bounded_below room (length order) (omega arith) k lt).1
        (window_at order k).take_last (λ i le. elim (cases_lt i k) [
          | inl less ↦ (pair i k less lt).take
          | inr ge ↦ (let same : i ≡ k = omega arith in
              subst (λ j. out_from (window_at order j) ≤ (window_at order k).take_last) (sym same)
              (own k lt).1)
        ])
