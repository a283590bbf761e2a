-- The greatest second positions of those whose first one is before a position.
use Rattle.std.proofs.Common.{◌≡◌, ℕ, zero, suc, ◌+◌, ◌-◌, ◌<◌, ◌≤◌, ◌⊎◌, inl, inr, max, nat_lt}
use Rattle.std.proofs.Common.{true, false, List, [], ◌∷◌, ◌++◌, length, drop, get_or, refl}
use Rattle.std.proofs.Common.{ap, sym, ◌∙◌, subst, arith, append_assoc, append-nil, add-one}
use Rattle.std.proofs.Math.Seq.{drop-cons}
use Rattle.std.proofs.Math.ListN.{drop_of_length-le}
use Rattle.std.specs.List.Sorted.{IsPermutation, IsNonDecreasingBy, IsPartitionPoint}
use Rattle.std.proofs.lemmas.Bool.{cases_lt, ltb-true, ltb-false}
use Rattle.std.proofs.lemmas.List.Elements.{Contains-append_right}
use Rattle.std.proofs.lemmas.List.Sorted.{Contains-permutation, IsPermutation-sym}
use Rattle.calls_core.specs.Lists.{Each}
use Rattle.calls_buffers.specs.declared.jobs.Reach.{Reach}
use Rattle.calls_buffers.specs.kept.Jobs.{tops_of, Climbs, HasTop, IsTop}
use Rattle.calls_buffers.proofs.AreWindows.{each_contains, one_of}

-- one more
pub tops_step : (rs : List Reach) (i : ℕ) (d : Reach) (m top : ℕ) (base next whole : List Reach)
    → i < length rs → top ≡ max (get_or rs i d).to m
    → next ≡ base ++ record { from = (get_or rs i d).from; to = top } ∷ []
    → base ++ tops_of m (drop i rs) ≡ whole → next ++ tops_of top (drop (i + 1) rs) ≡ whole
tops_step rs i d m top base next whole lt e is h =
    let r = get_or rs i d in
    let rest = drop (suc i) rs in
    ap (λ n. next ++ tops_of top (drop n rs)) (add-one i)
    ∙ ap (λ zs. zs ++ tops_of top rest) is
    ∙ append_assoc base (record { from = r.from; to = top } ∷ []) (tops_of top rest)
    ∙ ap (λ t. base ++ record { from = r.from; to = t } ∷ tops_of t rest) e
    ∙ ap (λ zs. base ++ tops_of m zs) (sym (drop-cons rs i d lt)) ∙ h

pub tops_end : (rs : List Reach) (i m : ℕ) (base whole : List Reach) → length rs ≤ i
    → base ++ tops_of m (drop i rs) ≡ whole → base ≡ whole
tops_end rs i m base whole le h =
    sym (append-nil base) ∙ ap (λ zs. base ++ tops_of m zs) (sym (drop_of_length-le rs le)) ∙ h

tops_from : (m : ℕ) (rs : List Reach) (k : ℕ) (d : Reach)
    → (get_or (tops_of m rs) k d).from ≡ (get_or rs k d).from
tops_from m [] k d = refl
tops_from m (r ∷ rs) zero d = refl
tops_from m (r ∷ rs) (suc k) d = tops_from (max r.to m) rs k d

tops_long : (m : ℕ) (rs : List Reach) → length (tops_of m rs) ≡ length rs
tops_long m [] = refl
tops_long m (r ∷ rs) = ap suc (tops_long (max r.to m) rs)

tops_rise : (m : ℕ) (rs : List Reach) → IsNonDecreasingBy (λ (r : Reach). r.from) rs
    → IsNonDecreasingBy (λ (r : Reach). r.from) (tops_of m rs)
tops_rise m rs up i j d le lt = omega (
  arith,
  tops_from m rs i d,
  tops_from m rs j d,
  up i j d le (omega (arith, lt, tops_long m rs)),
)

each_index : (holds : Reach → Type 0) (rs : List Reach)
    → ((k : ℕ) (d : Reach) → k < length rs → holds (get_or rs k d)) → Each holds rs
each_index holds [] h = tt
each_index holds (r ∷ rs) h = (
  h 0 r (omega arith),
  each_index holds rs (λ k d lt. h (suc k) d (omega arith)),
)

record TopFrom (m : ℕ) (rs : List Reach) (p v : ℕ) : Type 0 where
  above : m ≤ v
  each : Each (λ (r : Reach). r.from < p → r.to ≤ v) rs
  some : (v ≡ m) ⊎ HasTop rs p v

with_first : (m : ℕ) (r : Reach) (rs : List Reach) (p v : ℕ) → r.from < p
    → (v ≡ max r.to m) ⊎ HasTop rs p v → (v ≡ m) ⊎ HasTop (r ∷ rs) p v
with_first m r rs p v lt (inr h) = inr (record {
  reach = h.reach;
  known = Contains-append_right (r ∷ []) rs h.reach h.known;
  before = h.before;
  is = h.is;
})
with_first m r rs p v lt (inl e) =
    elim (cases_lt r.to m) [
      | inl less ↦ inl (omega (arith, e, less))
      | inr le ↦ inr (record {
        reach = r;
        known = (zero, omega arith, refl);
        before = lt;
        is = omega (arith, e, le);
      })
    ]

top_is : (m : ℕ) (rs : List Reach) (i : ℕ) (d : Reach) (p : ℕ) → i < length rs
    → ((k : ℕ) (e : Reach) → k ≤ i → (get_or rs k e).from < p)
    → ((k : ℕ) (e : Reach) → i < k → k < length rs → p ≤ (get_or rs k e).from)
    → TopFrom m rs p (get_or (tops_of m rs) i d).to
top_is m [] i d p lt low high = absurd (omega arith)
top_is m (r ∷ rs) zero d p lt low high = record {
  above = omega arith;
  each = (
    λ l. omega arith,
    each_index (λ (x : Reach). x.from < p → x.to ≤ max r.to m) rs
        (λ k e l q. absurd (omega (arith, q, high (suc k) e (omega arith) (omega arith)))),
  );
  some = with_first m r rs p (max r.to m) (low 0 r (omega arith)) (inl refl);
}
top_is m (r ∷ rs) (suc i) d p lt low high =
    let rest = top_is (max r.to m) rs i d p (omega arith) (λ k e le. low (suc k) e (omega arith))
    (λ k e l q. high (suc k) e (omega arith) (omega arith)) in
    record {
      above = omega (arith, rest.above);
      each = (λ l. omega (arith, rest.above), rest.each);
      some = with_first m r rs p (get_or (tops_of (max r.to m) rs) i d).to (low 0 r (omega arith))
          rest.some;
    }

-- the same of what was sorted
moved_top : (list sorted : List Reach) (p v : ℕ) → IsPermutation list sorted
    → TopFrom 0 sorted p v → IsTop list p v
moved_top list sorted p v moved h = record {
  each = each_contains (λ (r : Reach). r.from < p → r.to ≤ v) list (λ x k. one_of
      (λ (r : Reach). r.from < p → r.to ≤ v) sorted x h.each (Contains-permutation list sorted x
      moved k));
  some = elim h.some [
    | inl e ↦ inl e
    | inr t ↦ inr (record {
      reach = t.reach;
      known = Contains-permutation sorted list t.reach (IsPermutation-sym list sorted moved)
          t.known;
      before = t.before;
      is = t.is;
    })
  ];
}

abbrev Parted : List Reach → ℕ → ℕ → Type 0
Parted tops p n = IsNonDecreasingBy (λ (r : Reach). r.from) tops
    → IsPartitionPoint (λ (r : Reach). nat_lt r.from p ≡ true)
    (λ (r : Reach). nat_lt r.from p ≡ false) tops n

pub top_found : (list tops : List Reach) (p n i : ℕ) (d : Reach) → Climbs list tops
    → Parted tops p n → 1 ≤ n → i ≡ n - 1 → i < length tops → IsTop list p (get_or tops i d).to
top_found list tops p n i d h parted some e lt =
    let rs = h.sorted in
    let long : length tops ≡ length rs = ap length h.is ∙ tops_long 0 rs in
    let parts = parted (subst (IsNonDecreasingBy (λ (r : Reach). r.from)) (sym h.is)
    (tops_rise 0 rs h.rises)) in
    let same = λ (k : ℕ) (x : Reach). ap (λ zs. (get_or zs k x).from) h.is ∙ tops_from 0 rs k x in
    moved_top list rs p (get_or tops i d).to h.moved
    (subst (λ zs. TopFrom 0 rs p (get_or zs i d).to) (sym h.is)
    (top_is 0 rs i d p (omega (arith, lt, long))
    (λ k x le. omega (
      arith,
      same k x,
      ltb-true (get_or tops k x).from p
          (parts.0 k x (omega arith) (omega (arith, le, e, some))),
    ))
    (λ k x l q. omega (
      arith,
      same k x,
      ltb-false (get_or tops k x).from p
          (parts.1 k x (omega (arith, l, e, some)) (omega (arith, q, long))),
    ))))

pub top_zero : (list tops : List Reach) (p n : ℕ) → Climbs list tops → Parted tops p n
    → (1 ≤ n → ⊥) → IsTop list p 0
top_zero list tops p n h parted none =
    let rs = h.sorted in
    let long : length tops ≡ length rs = ap length h.is ∙ tops_long 0 rs in
    let parts = parted (subst (IsNonDecreasingBy (λ (r : Reach). r.from)) (sym h.is)
    (tops_rise 0 rs h.rises)) in
    let same = λ (k : ℕ) (x : Reach). ap (λ zs. (get_or zs k x).from) h.is ∙ tops_from 0 rs k x in
    moved_top list rs p 0 h.moved (record {
      above = omega arith;
      each = each_index (λ (r : Reach). r.from < p → r.to ≤ 0) rs (λ k x lt q. absurd (omega (
        arith,
        q,
        same k x,
        ltb-false (get_or tops k x).from p
            (parts.1 k x (first n none k) (omega (arith, lt, long))),
      )));
      some = inl refl;
    })
  where
    first : (n : ℕ) → (1 ≤ n → ⊥) → (k : ℕ) → n ≤ k
    first zero none k = omega arith
    first (suc n) none k = absurd (none (omega arith))
