-- A list sorted by its points is determined by its calls at each point.
use Rattle.std.proofs.Common.{◌≡◌, ℕ, zero, suc, ◌<◌, ◌≤◌, inl, inr, Bool, true, false, not, ◌&&◌}
use Rattle.std.proofs.Common.{◌==◌, cond, nat_lt, List, [], ◌∷◌, map, refl, ap, sym, ◌∙◌, arith, subst}
use Rattle.std.proofs.Common.{Less, Equal, Greater, is_lt}
use Rattle.std.specs.List.{filter}
use Rattle.std.specs.List.Sorted.{ties, IsNonDecreasingBy}
use Rattle.std.specs.Ordering.{nat_cmp}
use Rattle.std.proofs.lemmas.Bool.{eq-eqb, ne_eqb, eqb-true, lt-ltb, le-ltb, cases_lt}
use Rattle.std.proofs.lemmas.List.Elements.{filter_agree}
use Rattle.calls_core.specs.declared.history.Op.TheVariants.{Advance}
use Rattle.calls_core.specs.declared.history.Reply.TheVariants.{Done}
use Rattle.calls_core.specs.declared.history.Placed.{Placed}
use Rattle.calls_core.specs.Lists.{Each, EachPair}
use Rattle.calls_core.specs.Points.{NoLater, by_points}
use Rattle.calls_core.specs.declared.packed.OpTag.TheVariants as packed_ops
use Rattle.calls_core.specs.declared.packed.ReplyTag.TheVariants as packed_replies
use Rattle.calls_core.specs.declared.packed.PackedPlaced.{PackedPlaced}
use Rattle.calls_core.specs.kept.Packed.{unpack_placed}
use Rattle.calls_core.proofs.Lists.{each_weaker, each_filter, each_pair_map}
use Rattle.calls_core.proofs.Filters.{each_from_all, filter_yes, filter_no, filter_map_of}
use Rattle.calls_core.proofs.Merges.{by_points_part, by_points_rise}

abbrev pub at_point : ℕ → Placed → Bool
at_point v p = p.point == v

-- no call has a point before that of the first
early_none : (v : ℕ) (p : Placed) (ps : List Placed) → v < p.point → Each (NoLater p) ps
    → filter (at_point v) (p ∷ ps) ≡ []
early_none v p ps lt h = filter_no (at_point v) p ps (ne_eqb p.point v (λ e. omega arith))
    ∙ rest ps h
  where
    rest : (qs : List Placed) → Each (NoLater p) qs → filter (at_point v) qs ≡ []
    rest [] k = refl
    rest (q ∷ qs) k = (let le : p.point ≤ q.point = k.0 in
        filter_no (at_point v) q qs (ne_eqb q.point v (λ e. omega arith)) ∙ rest qs k.1)

own_first : (p : Placed) (ps : List Placed) → filter (at_point p.point) (p ∷ ps) ≡ p ∷ filter
    (at_point p.point) ps
own_first p ps = filter_yes (at_point p.point) p ps (eq-eqb p.point p.point refl)

pub same_by_points : (ps qs : List Placed) → EachPair NoLater ps → EachPair NoLater qs
    → ((v : ℕ) → filter (at_point v) ps ≡ filter (at_point v) qs) → ps ≡ qs
same_by_points [] [] a b h = refl
same_by_points [] (q ∷ qs) a b h = (let e : [] ≡ q ∷ filter (at_point q.point) qs =
    h q.point ∙ own_first q qs in cc)
same_by_points (p ∷ ps) [] a b h = (let e : p ∷ filter (at_point p.point) ps ≡ [] =
    sym (own_first p ps) ∙ h p.point in cc)
same_by_points (p ∷ ps) (q ∷ qs) a b h =
    let not_before : p.point < q.point → ⊥ = λ lt. (let e : p ∷ filter (at_point p.point) ps ≡ [] =
    sym (own_first p ps) ∙ h p.point ∙ early_none p.point q qs lt b.0 in cc) in
    let not_behind : q.point < p.point → ⊥ = λ lt. (let e : q ∷ filter (at_point q.point) qs ≡ [] =
    sym (own_first q qs) ∙ sym (h q.point) ∙ early_none q.point p ps lt a.0 in cc) in
    let at : p.point ≡ q.point = between p.point q.point not_before not_behind in
    let both : p ∷ filter (at_point p.point) ps ≡ q ∷ filter (at_point p.point) qs =
    sym (own_first p ps) ∙ h p.point ∙ filter_yes (at_point p.point) q qs
    (eq-eqb q.point p.point (sym at)) in
    let first : p ≡ q = cc in
    let tails : filter (at_point p.point) ps ≡ filter (at_point p.point) qs = cc in
    let rest : (v : ℕ) → filter (at_point v) ps ≡ filter (at_point v) qs =
    λ v. elim (p.point == v) as (λ x. (p.point == v) ≡ x
    → filter (at_point v) ps ≡ filter (at_point v) qs) [
      | true ↦ λ e. subst (λ w. filter (at_point w) ps ≡ filter (at_point w) qs)
          (eqb-true p.point v e) tails
      | false ↦ λ e. sym (filter_no (at_point v) p ps e) ∙ h v ∙ filter_no (at_point v) q qs
          (sym (ap (λ w. w == v) at) ∙ e)
    ] refl in
    ap (λ z. z ∷ ps) first ∙ ap (λ zs. q ∷ zs) (same_by_points ps qs a.1 b.1 rest)
  where
    between : (m n : ℕ) → (m < n → ⊥) → (n < m → ⊥) → m ≡ n
    between m n x y = elim (cases_lt m n) [
      | inl lt ↦ absurd (x lt)
      | inr le ↦
          elim (cases_lt n m) [ inl gt ↦ absurd (y gt) | inr ge ↦ omega arith ]
    ]

-- A STABLE SORT

lt_cmp : (m n : ℕ) → is_lt (nat_cmp m n) ≡ nat_lt m n
lt_cmp m n =
    elim (nat_lt m n) as (λ b. is_lt (cond b Less (cond (m == n) Equal Greater)) ≡ b) [
      | true ↦ refl
      | false ↦ elim (m == n) as (λ b. is_lt (cond b Equal Greater) ≡ false) [
        | true ↦ refl
        | false ↦
            refl
      ]
    ]

and_no : (b : Bool) → (b && false) ≡ false
and_no true = refl
and_no false = refl

neither : (m n : ℕ) → (not (nat_lt m n) && not (nat_lt n m)) ≡ (n == m)
neither m n =
    elim (cases_lt m n) [
      | inl lt ↦ ap (λ b. not b && not (nat_lt n m)) (lt-ltb m n lt) ∙ sym (ne_eqb n m (λ e.
          omega arith))
      | inr le ↦ elim (cases_lt n m) [
        | inl gt ↦ ap (λ b. not (nat_lt m n) && not b) (lt-ltb n m gt) ∙ and_no (not (nat_lt m n))
            ∙ sym (ne_eqb n m (λ e. omega arith))
        | inr ge ↦ ap (λ b. not b && not (nat_lt n m)) (le-ltb m n le) ∙ ap not (le-ltb n m ge)
            ∙ sym (eq-eqb n m (omega arith))
      ]
    ]

each_any : (ps : List Placed) → Each (λ p. Unit {0}) ps
each_any [] = tt
each_any (p ∷ ps) = (tt, each_any ps)

one_rises : (v : ℕ) (ps : List Placed) → Each (λ (p : Placed). p.point ≡ v) ps → EachPair NoLater ps
one_rises v [] h = tt
one_rises v (p ∷ ps) h = (
  each_weaker (λ (q : Placed). q.point ≡ v) (NoLater p) (λ q e.
      omega (arith, h.0)) ps h.1,
  one_rises v ps h.1,
)

-- calls that compare as equal have the same point
ties_at : (p q : Placed) → ties (λ (x y : Placed). is_lt (nat_cmp x.point y.point)) p q
    ≡ at_point p.point q
ties_at p q = ap (λ b. not b && not (is_lt (nat_cmp q.point p.point))) (lt_cmp p.point q.point) ∙ ap
    (λ b. not (nat_lt p.point q.point) && not b) (lt_cmp q.point p.point) ∙ neither p.point q.point

pub stable_is_by_points : (ps qs : List Placed) → EachPair NoLater qs
    → ((x : Placed) → filter (ties (λ (x y : Placed). is_lt (nat_cmp x.point y.point)) x) qs
    ≡ filter (ties (λ (x y : Placed). is_lt (nat_cmp x.point y.point)) x) ps) → qs ≡ by_points ps
stable_is_by_points ps qs rises stable =
    same_by_points qs (by_points ps) rises (by_points_rise ps)
    (λ v. (let one : Placed = record {
      point = v;
      call = record {
        worker = 0;
        object = 0;
        op =
            Advance;
        reply = Done;
        first = 0;
        last = 0;
      };
    } in
    let agree : (zs : List Placed) → filter (ties (λ (x y : Placed). is_lt
    (nat_cmp x.point y.point)) one) zs ≡ filter (at_point v) zs = λ zs.
    filter_agree (ties (λ (x y : Placed). is_lt (nat_cmp x.point y.point)) one) (at_point v)
    (λ q. ties_at one q) zs in
    sym (agree qs) ∙ stable one ∙ agree ps ∙ sym (by_points_part (at_point v) ps (one_point v ps))))
  where
    one_point : (v : ℕ) (zs : List Placed) → EachPair NoLater (filter (at_point v) zs)
    one_point v zs = one_rises v (filter (at_point v) zs) (each_weaker (λ p. Unit {0}
        × (at_point v p ≡ true)) (λ (p : Placed). p.point ≡ v) (λ p k. eqb-true p.point v k.1)
        (filter (at_point v) zs) (each_filter (λ p. Unit {0}) (at_point v) zs (each_any zs)))

pub rises_from_sorted : {X : Type 0} (key : X → ℕ) (xs : List X) → IsNonDecreasingBy key xs
    → EachPair (λ x y. key x ≤ key y) xs
rises_from_sorted key [] h = tt
rises_from_sorted key (x ∷ xs) h = (
  each_from_all (λ y. key x ≤ key y) xs (λ k d lt. h zero (suc k) d (omega arith) (omega arith)),
  rises_from_sorted key xs (λ i j d le lt. h (suc i) (suc j) d (omega arith) (omega arith)),
)

pub stable_unpacked : (ps qs : List PackedPlaced)
    → EachPair (λ (p q : PackedPlaced). p.point ≤ q.point) qs
    → ((x : PackedPlaced)
    → filter (ties (λ (p q : PackedPlaced). is_lt (nat_cmp p.point q.point)) x) qs
    ≡ filter (ties (λ (p q : PackedPlaced). is_lt (nat_cmp p.point q.point)) x) ps)
    → map unpack_placed qs ≡ by_points (map unpack_placed ps)
stable_unpacked ps qs rises stable =
    stable_is_by_points (map unpack_placed ps) (map unpack_placed qs)
    (each_pair_map unpack_placed NoLater qs rises)
    (λ x. (let same : Placed → Bool = ties (λ (p q : Placed). is_lt (nat_cmp p.point q.point)) x in
    let packed : PackedPlaced = record {
      point = x.point;
      call = record {
        first = 0;
        last = 0;
        value = 0;
        number = 0;
        object = 0;
        worker = 0;
        op = packed_ops.Advance;
        reply = packed_replies.Done;
      };
    } in
    filter_map_of same unpack_placed qs ∙ ap (map unpack_placed) (stable packed)
    ∙ sym (filter_map_of same unpack_placed ps)))
