-- A list sorted by its points.
use Rattle.std.proofs.Common.{◌≡◌, ◌<◌, ◌≤◌, Bool, true, false, cond, nat_le, List}
use Rattle.std.proofs.Common.{[], ◌∷◌, refl, ap, sym, ◌∙◌, arith, subst}
use Rattle.std.specs.List.{filter}
use Rattle.std.proofs.lemmas.Bool.{leb-true, leb-false}
use Rattle.calls_core.specs.declared.history.Placed.{Placed}
use Rattle.calls_core.specs.Lists.{Each, EachPair}
use Rattle.calls_core.specs.Linearizations.{KeepsOrder}
use Rattle.calls_core.specs.Points.{Within, NoLater, put_in, by_points}
use Rattle.calls_core.proofs.Lists.{each_weaker}
use Rattle.calls_core.proofs.Filters.{filter_yes, filter_no}

-- ONE CALL IS INSERTED

each_put_in : (P : Placed → Type 0) (p : Placed) (qs : List Placed) → P p → Each P qs
    → Each P (put_in p qs)
each_put_in P p [] h k = (h, tt)
each_put_in P p (q ∷ qs) h k =
    elim (nat_le p.point q.point) as (λ b. Each P (cond b (p ∷ q ∷ qs) (q ∷ put_in p qs))) [
      | true ↦ (h, k)
      | false ↦ (k.0, each_put_in P p qs h k.1)
    ]

put_in_rises : (p : Placed) (qs : List Placed) → EachPair NoLater qs
    → EachPair NoLater (put_in p qs)
put_in_rises p [] h = (tt, tt)
put_in_rises p (q ∷ qs) h =
    elim (nat_le p.point q.point) as (λ b. nat_le p.point q.point ≡ b
    → EachPair NoLater (cond b (p ∷ q ∷ qs) (q ∷ put_in p qs))) [
      | true ↦ λ e. (let le : p.point ≤ q.point = leb-true p.point q.point e in
          ((le, each_weaker (NoLater q) (NoLater p) (λ z k. omega arith) qs h.0), h))
      | false ↦ λ e. (let lt : q.point < p.point = leb-false p.point q.point e in
          (each_put_in (NoLater q) p qs (omega arith) h.0, put_in_rises p qs h.1))
    ] refl

put_in_other : (test : Placed → Bool) (p : Placed) (qs : List Placed) → test p ≡ false
    → filter test (put_in p qs) ≡ filter test qs
put_in_other test p [] e = filter_no test p [] e
put_in_other test p (q ∷ qs) e =
    elim (nat_le p.point q.point) as (λ b. filter test (cond b (p ∷ q ∷ qs) (q ∷ put_in p qs))
    ≡ filter test (q ∷ qs)) [
      | true ↦ filter_no test p (q ∷ qs) e
      | false ↦ ap (λ zs. cond (test q) (q ∷ zs) zs) (put_in_other test p qs e)
    ]

-- p is the first that passes the test, since no other that passes has an earlier point
put_in_own : (test : Placed → Bool) (p : Placed) (qs : List Placed) → test p ≡ true
    → Each (NoLater p) (filter test qs) → filter test (put_in p qs) ≡ p ∷ filter test qs
put_in_own test p [] e h = filter_yes test p [] e
put_in_own test p (q ∷ qs) e h =
    elim (nat_le p.point q.point) as (λ b. nat_le p.point q.point ≡ b
    → filter test (cond b (p ∷ q ∷ qs) (q ∷ put_in p qs)) ≡ p ∷ filter test (q ∷ qs)) [
      | true ↦ λ le. filter_yes test p (q ∷ qs) e
      | false ↦ λ gt. (let lt : q.point < p.point = leb-false p.point q.point gt in
          elim (test q) as (λ b. Each (NoLater p) (cond b (q ∷ filter test qs) (filter test qs))
          → cond b (q ∷ filter test (put_in p qs)) (filter test (put_in p qs)) ≡ p ∷ cond b
          (q ∷ filter test qs) (filter test qs)) [
            | true ↦ λ k. (let le : p.point ≤ q.point = k.0 in absurd (omega arith))
            | false ↦ λ k. put_in_own test p qs e k
          ] h)
    ] refl

-- ALL CALLS ARE INSERTED

pub each_by_points : (P : Placed → Type 0) (ps : List Placed) → Each P ps → Each P (by_points ps)
each_by_points P [] h = tt
each_by_points P (p ∷ ps) h = each_put_in P p (by_points ps) h.0 (each_by_points P ps h.1)

pub by_points_rise : (ps : List Placed) → EachPair NoLater (by_points ps)
by_points_rise [] = tt
by_points_rise (p ∷ ps) = put_in_rises p (by_points ps) (by_points_rise ps)

-- a part that is sorted stays as it is
pub by_points_part : (test : Placed → Bool) (ps : List Placed) → EachPair NoLater (filter test ps)
    → filter test (by_points ps) ≡ filter test ps
by_points_part test [] h = refl
by_points_part test (p ∷ ps) h =
    elim (test p) as (λ b. test p ≡ b → EachPair NoLater (cond b (p ∷ filter test ps)
    (filter test ps)) → filter test (put_in p (by_points ps)) ≡ cond b (p ∷ filter test ps)
    (filter test ps)) [
      | true ↦ λ e k. (let same = by_points_part test ps k.1 in
          put_in_own test p (by_points ps) e (subst (Each (NoLater p)) (sym same) k.0) ∙ ap (λ zs.
          p ∷ zs) same)
      | false ↦ λ e k. put_in_other test p (by_points ps) e ∙ by_points_part test ps k
    ] refl h

-- points within their calls that never fall keep the real-time order
pub rising_keeps : (ps : List Placed) → Each Within ps → EachPair NoLater ps
    → EachPair (λ p q. KeepsOrder p.call q.call) ps
rising_keeps [] w h = tt
rising_keeps (p ∷ ps) w h = (kept ps w.1 h.0, rising_keeps ps w.1 h.1)
  where
    kept : (qs : List Placed) → Each Within qs → Each (NoLater p) qs
        → Each (λ q. KeepsOrder p.call q.call) qs
    kept [] u k = tt
    kept (q ∷ qs) u k = (
      λ f. (let own : p.call.first < p.point = w.0.0 in
          let there : q.point ≤ q.call.last = u.0.1 in let le : p.point ≤ q.point = k.0 in
          let lt : q.call.last < p.call.first = f in absurd (omega arith)),
      kept qs u.1 k.1,
    )
