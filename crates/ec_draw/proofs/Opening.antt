-- Where the bar of a pending call begins.
use Rattle.std.proofs.Common.{◌≡◌, ℕ, zero, suc, ◌-◌, ◌<◌, ◌==◌, ◌&&◌, not, Bool, true}
use Rattle.std.proofs.Common.{false, List, [], ◌∷◌, length, Option, Some, None, refl, ap, sym, ◌∙◌}
use Rattle.std.proofs.Common.{arith, cond, subst, reverse, slice_get, add-one}
use Rattle.std.proofs.Math.Seq.{take-length}
use Rattle.std.proofs.lemmas.Bool.{eqb-true, eqb-false, eq-eqb}
use Rattle.ec_core.specs.declared.act.Act.{Act}
use Rattle.ec_core.specs.declared.act.Act.TheVariants.{Go}
use Rattle.ec_core.specs.declared.act.Entry.{Entry}
use Rattle.ec_core.specs.Calls.{CallSoFar, under_way, call_with_act, is_go, is_pending}
use Rattle.ec_core.specs.CallsInOrder.{IsUnderWay}
use Rattle.ec_core.specs.Counts.{past_at}
use Rattle.ec_core.specs.Laws.{CallsUnderWayAreCutInOrder}
use Rattle.ec_core.specs.Rounds.{position_of}
use Rattle.ec_core.proofs.shared.Moments.{past_end}
use Rattle.ec_draw.specs.Open.{begins, begun_at}
use Rattle.ec_draw.specs.Laws.{PendingBarsBegin}
use Rattle.ec_draw.proofs.Stepping.{begun_before, begun_here}

-- THE CALL IN THE WORLD

-- the first of a call's moments, if there is one, is that of its worker's latest entry that began
-- one
abbrev Begun : ℕ → Option CallSoFar → Type 0
Begun first None = Unit {0}
Begun first (Some call) =
    (l : ℕ) × (length call.moments ≡ suc l) × (first ≡ position_of call.moments l)

gone_begun : (act : Act) (past : List Entry) (o : Option CallSoFar) (first : ℕ) → Begun first o
    → Begun (cond (not (is_go act)) (length past) first) (call_with_act act past o)
gone_begun Go past None first h = tt
gone_begun Go past (Some call) first h = (suc h.0, ap suc h.1, h.2)
gone_begun act past o first h = (0, refl, refl)

kept_begun : (b : Bool) (o : Option CallSoFar) (first : ℕ) → Begun first o
    → Begun first (cond b o None)
kept_begun true o first h = h
kept_begun false o first h = tt

call_begun : (w : ℕ) (past : List Entry) → Begun (begun_at w past) (under_way w past)
unfolding under_way begun_at
call_begun w [] = tt
call_begun w (x ∷ past) =
    let o = under_way w past in
    let first = begun_at w past in
    let gone = call_with_act x.act past o in
    elim (x.worker == w) as (λ b. Begun (cond (b && not (is_go x.act)) (length past) first)
    (cond b (cond (is_pending x.reply) gone None) o)) [
      | true ↦ kept_begun (is_pending x.reply) gone (cond (not (is_go x.act)) (length past) first)
          (gone_begun x.act past o first (call_begun w past))
      | false ↦ call_begun w past
    ]

-- IN ORDER OF TIME

-- the latest entry of w that began a call is at a position where one did and after which none does
latest_is : (w : ℕ) (h : List Entry) (first : ℕ) (x : Entry) → slice_get h first ≡ Some x
    → begins w x ≡ true → (k : ℕ) → first < k
    → ((i : ℕ) (y : Entry) → first < i → i < k → slice_get h i ≡ Some y → begins w y ≡ false)
    → begun_at w (past_at k h) ≡ first
latest_is w h first x at own zero lt none = absurd (omega arith)
latest_is w h first x at own (suc k) lt none =
    elim (first == k) as (λ b. (first == k) ≡ b → begun_at w (past_at (suc k) h) ≡ first) [
      | true ↦ λ e.
          (let same : first ≡ k = eqb-true first k e in
          ap (λ j. begun_at w (past_at (suc j) h)) (sym same)
          ∙ ap (λ j. begun_at w (past_at j h)) (sym (add-one first)) ∙ begun_here w h first x at own)
      | false ↦ λ e.
          (let other = eqb-false first k e in
          let before : begun_at w (past_at k h) ≡ first =
          latest_is w h first x at own k (omega arith) (λ i y low high. none i y low (omega arith)) in
          next (slice_get h k) refl before (λ y there. none k y (omega arith) (omega arith) there))
    ] refl
  where
    next : (o : Option Entry) → slice_get h k ≡ o → begun_at w (past_at k h) ≡ first
        → ((y : Entry) → slice_get h k ≡ Some y → begins w y ≡ false)
        → begun_at w (past_at (suc k) h) ≡ first
    next None there before quiet = ap (begun_at w) (past_end h k there) ∙ before
    next (Some y) there before quiet = ap (λ j. begun_at w (past_at j h)) (sym (add-one k))
        ∙ begun_before w h k y there (quiet y there) ∙ before

-- an entry of w that is a go begins no call, nor does one of another worker
no_beginning : (w : ℕ) (y : Entry) → (y.worker ≡ w → y.act ≡ Go) → begins w y ≡ false
no_beginning w y goes =
    elim (y.worker == w) as (λ b. (y.worker == w) ≡ b → (b && not (is_go y.act)) ≡ false) [
      | true ↦ λ own. ap (λ a. not (is_go a)) (goes (eqb-true y.worker w own))
      | false ↦ λ other. refl
    ] refl

began : (w : ℕ) (h : List Entry) (k : ℕ) (call : CallSoFar) (is : IsUnderWay w h k call)
    → begun_at w (past_at k h) ≡ is.first
began w h k call is =
    let own : begins w is.opening ≡ true =
    ap (λ b. b && not (is_go is.opening.act)) (eq-eqb is.opening.worker w is.opener)
    ∙ ap (λ a. not (is_go a)) is.opening_act ∙ ap not is.begins in
    latest_is w h is.first is.opening is.opens own k is.before
    (λ i y low high there. no_beginning w y (is.goes i y low high there))

-- BOTH

pub bars_begin : CallsUnderWayAreCutInOrder → PendingBarsBegin
bars_begin cut w h call pending =
    let all : past_at (length h) h ≡ reverse h = ap reverse (take-length h) in
    let is : IsUnderWay w h (length h) call =
    (cut w (length h) h call).0 (ap (under_way w) all ∙ pending) in
    let kept : Begun (begun_at w (reverse h)) (Some call) =
    subst (Begun (begun_at w (reverse h))) pending (call_begun w (reverse h)) in
    let less : length call.moments - 1 ≡ kept.0 = omega (arith, kept.1) in (
      is,
      ap (begun_at w) (sym all) ∙ began w h (length h) call is,
      kept.2
          ∙ ap (position_of call.moments) (sym less),
    )
