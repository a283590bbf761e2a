-- Bars and curves, element by element.
use Rattle.std.proofs.Common.{◌≡◌, ℕ, zero, suc, ◌+◌, ◌-◌, ◌<◌, Bool, true, false, List, []}
use Rattle.std.proofs.Common.{◌∷◌, ◌++◌, length, Some, refl, ap, ◌∙◌, arith, cond, reverse}
use Rattle.std.proofs.Common.{slice_get, inl, inr}
use Rattle.std.specs.List.{Contains, filter}
use Rattle.std.proofs.lemmas.List.{length-append}
use Rattle.std.proofs.lemmas.List.Elements.{All-contains, filter_passes, All-filter}
use Rattle.std.proofs.lemmas.List.Elements.{All-contains_itself}
use Rattle.std.proofs.lemmas.Option.{slice_get-get_or, slice_get_within, get_or_from_slice_get}
use Rattle.ec_count.proofs.shared.Keeping.{still_there}
use Rattle.ec_core.specs.declared.act.Entry.{Entry}
use Rattle.ec_core.proofs.shared.Joining.{get_back}
use Rattle.ec_order.specs.Points.{ordered_by_points}
use Rattle.ec_order.specs.Laws.{OrderByPointsAscends, AreFinishedCallsByPoints}
use Rattle.ec_draw.specs.declared.curve.Counter.{Counter}
use Rattle.ec_draw.specs.Bars.{is_shown}
use Rattle.ec_draw.specs.Curves.{count_at, counts_from}
use Rattle.ec_draw.specs.Laws.{BarsAreCalls, CurvesAreCounts}
use Rattle.ec_draw.proofs.Telling.{split_last}

-- FILTERS

kept : {X : Type 0} (f : X → Bool) (xs : List X) (k : ℕ) (x : X) → slice_get xs k ≡ Some x
    → f x ≡ true → (j : ℕ) × (slice_get (filter f xs) j ≡ Some x)
kept f [] k x at is = cc
kept f (y ∷ ys) zero x at is =
    let same : y ≡ x = cc in (
      0,
      ap (λ b. slice_get (cond b (y ∷ filter f ys) (filter f ys)) 0) (ap f same ∙ is)
          ∙ ap Some same,
    )
kept f (y ∷ ys) (suc k) x at is =
    let r = kept f ys k x at is in
    put (f y) r.0 r.1
  where
    put : (b : Bool) (j : ℕ) → slice_get (filter f ys) j ≡ Some x
        → (i : ℕ) × (slice_get (cond b (y ∷ filter f ys) (filter f ys)) i ≡ Some x)
    put true j e = (suc j, e)
    put false j e = (j, e)

pub filter_has : {X : Type 0} (f : X → Bool) (xs : List X) (x : X) → Contains xs x → f x ≡ true
    → Contains (filter f xs) x
filter_has f xs x h is =
    let at : slice_get xs h.0 ≡ Some x = slice_get-get_or xs h.0 x h.1 ∙ ap Some h.2 in
    let r = kept f xs h.0 x at is in
    (r.0, slice_get_within (filter f xs) r.0 x r.1, get_or_from_slice_get (filter f xs) r.0 x x r.1)

pub bars_are : OrderByPointsAscends → BarsAreCalls
bars_are ascends t w h d acc =
    let ps = ordered_by_points t (reverse h) in
    let is : AreFinishedCallsByPoints t h ps = ascends t h d acc in
    record {
      each = λ p in'.
          (let own : Contains ps p = All-contains (Contains ps) (filter (is_shown w) ps) p
          (All-filter (is_shown w) (Contains ps) ps (All-contains_itself ps)) in' in
          let both = is.each p own in (
            both.0,
            both.1,
            All-contains (λ q. is_shown w q ≡ true) (filter (is_shown w) ps) p
                (filter_passes (is_shown w) ps) in',
          ));
      every = λ p call point in'. filter_has (is_shown w) ps p (is.every p call point) in';
    }

-- COUNTS

long : (object : Counter) (h : List Entry) (k n : ℕ) → length (counts_from object h k n) ≡ n
unfolding counts_from
long object h k zero = refl
long object h k (suc n) =
    let prefix : length (counts_from object h k n) ≡ n = long object h k n in
    let all : length (counts_from object h k n ++ count_at object h (k + n) ∷ [])
    ≡ length (counts_from object h k n) + 1 =
    length-append (counts_from object h k n) (count_at object h (k + n) ∷ []) in
    omega arith

count_in : (object : Counter) (h : List Entry) (k n j : ℕ) → j < n
    → slice_get (counts_from object h k n) j ≡ Some (count_at object h (k + j))
unfolding counts_from
count_in object h k zero j lt = absurd (omega arith)
count_in object h k (suc n) j lt = elim (split_last (suc j) n lt) [
  | inl less ↦
      still_there (counts_from object h k n) (count_at object h (k + n) ∷ []) j
      (count_at object h (k + j)) (count_in object h k n j less)
  | inr last ↦
      (let same : n ≡ j = omega arith in
      let prefix : length (counts_from object h k n) ≡ n = long object h k n in
      get_back (counts_from object h k n) (count_at object h (k + n) ∷ []) j 0 (omega arith)
      ∙ ap (λ m. Some (count_at object h (k + m))) same)
]

pub curves_are : CurvesAreCounts
curves_are object w h j le = count_in object h w.from (w.to - w.from + 1) j (omega arith)
