-- The steps of a check of an order.
use Rattle.std.proofs.Common.{◌≡◌, ℕ, ◌+◌, ◌<◌, ◌≤◌, ◌↔◌, max, List, [], ◌∷◌, length, get_or, drop}
use Rattle.std.proofs.Common.{zero, suc, refl, sym, ap, ◌∙◌, subst, arith, drop-cons}
use Rattle.calls_buffers.specs.Queues.{Allows, items_after, IsQueueRun}
use Rattle.calls_core.specs.declared.history.Call.{Call}
use Rattle.calls_core.specs.Lists.{Each, EachPair}
use Rattle.calls_core.specs.Linearizations.{KeepsOrder}
use Rattle.calls_core.proofs.Lists.{each_weaker, each_both}
use Rattle.calls_buffers.proofs.Cuts.{not_before}

-- none of the calls had its response before position m, or before an earlier one was invoked
abbrev pub Rises : ℕ → List Call → Type 0
Rises m [] = Unit {0}
Rises m (c ∷ cs) = (m ≤ c.last) × Rises (max m c.first) cs

abbrev After : ℕ → Call → Type 0
After m c = m ≤ c.last

keeps : (a b : Call) → a.first ≤ b.last → KeepsOrder a b
keeps a b le = λ lt. let less : b.last < a.first = lt in absurd (omega arith)

rises_after : (m : ℕ) (cs : List Call) → Rises m cs → Each (After m) cs
rises_after m [] h = tt
rises_after m (c ∷ cs) h = (
  h.0,
  each_weaker (After (max m c.first)) (After m)
      (λ d k. (let le : max m c.first ≤ d.last = k in omega arith)) cs
      (rises_after (max m c.first) cs h.1),
)

rises_keep : (m : ℕ) (cs : List Call) → Rises m cs → EachPair KeepsOrder cs
rises_keep m [] h = tt
rises_keep m (c ∷ cs) h = (
  each_weaker (After (max m c.first)) (KeepsOrder c)
      (λ d k. (let le : max m c.first ≤ d.last = k in keeps c d (omega arith))) cs
      (rises_after (max m c.first) cs h.1),
  rises_keep (max m c.first) cs h.1,
)

keep_rises : (m : ℕ) (cs : List Call) → Each (After m) cs → EachPair KeepsOrder cs → Rises m cs
keep_rises m [] a h = tt
keep_rises m (c ∷ cs) a h = (
  a.0,
  keep_rises (max m c.first) cs (each_both (After m) (KeepsOrder c) (After (max m c.first))
      (λ d k q. (let le : m ≤ d.last = k in
      let first : c.first ≤ d.last = not_before c d q in omega arith)) cs a.1 h.0) h.1,
)

all_after : (cs : List Call) → Each (After 0) cs
all_after [] = tt
all_after (c ∷ cs) = (omega arith, all_after cs)

keeps_order : (cs : List Call) → Rises 0 cs → EachPair KeepsOrder cs
keeps_order cs h = rises_keep 0 cs h

rises : (cs : List Call) → EachPair KeepsOrder cs → Rises 0 cs
rises cs h = keep_rises 0 cs (all_after cs) h

drop_none : {X : Type 0} (i : ℕ) (xs : List X) → length xs ≤ i → drop i xs ≡ []
drop_none zero [] le = refl
drop_none (suc i) [] le = refl
drop_none zero (x ∷ xs) le = absurd (omega arith)
drop_none (suc i) (x ∷ xs) le = drop_none i xs (omega arith)

-- where the pass over the calls stops, and where it ends
pub rises_stop : (cs : List Call) (i m : ℕ) (d : Call) → i < length cs → (get_or cs i d).last < m
    → (Rises 0 cs ↔ Rises m (drop i cs)) → EachPair KeepsOrder cs → ⊥
rises_stop cs i m d lt less is h =
    let here = subst (Rises m) (drop-cons cs i d lt) (is.0 (rises cs h)) in
    let le : m ≤ (get_or cs i d).last = here.0 in omega arith

pub rises_end : (cs : List Call) (i m : ℕ) → length cs ≤ i → (Rises 0 cs ↔ Rises m (drop i cs))
    → EachPair KeepsOrder cs
rises_end cs i m le is = keeps_order cs (is.1 (subst (Rises m) (sym (drop_none i cs le)) tt))

pub run_end : (n : ℕ) (items : List ℕ) (cs : List Call) (i : ℕ) → length cs ≤ i
    → (IsQueueRun n [] cs ↔ IsQueueRun n items (drop i cs)) → IsQueueRun n [] cs
run_end n items cs i le is = is.1 (subst (IsQueueRun n items) (sym (drop_none i cs le)) tt)

-- THE NEXT CALL

module _ (cs : List Call) (i : ℕ) (x : Call) (lt : i < length cs) (read : x ≡ get_or cs i x) where
  next : drop i cs ≡ x ∷ drop (i + 1) cs
  next =
      let one : suc i ≡ i + 1 = omega arith in
      subst (λ k. drop i cs ≡ x ∷ drop k cs) one
      (drop-cons cs i x lt ∙ ap (λ y. y ∷ drop (suc i) cs) (sym read))

  pub rises_more : (m : ℕ) → m ≤ x.last → (Rises 0 cs ↔ Rises m (drop i cs))
      → Rises 0 cs ↔ Rises (max m x.first) (drop (i + 1) cs)
  rises_more m le is = (
    λ h. (subst (Rises m) next (is.0 h)).1,
    λ h. is.1 (subst (Rises m) (sym next) (le, h)),
  )

  module _ (n : ℕ) (items : List ℕ)
      (is : IsQueueRun n [] cs ↔ IsQueueRun n items (drop i cs)) where
    pub run_stop : (Allows n items x.op x.reply → ⊥) → IsQueueRun n [] cs → ⊥
    run_stop never h = never (subst (IsQueueRun n items) next (is.0 h)).0

    pub run_more : (after : List ℕ) → Allows n items x.op x.reply
        → after ≡ items_after items x.op x.reply
        → IsQueueRun n [] cs ↔ IsQueueRun n after (drop (i + 1) cs)
    run_more after allowed e = (
      λ h. subst (λ z. IsQueueRun n z (drop (i + 1) cs)) (sym e)
          (subst (IsQueueRun n items) next (is.0 h)).1,
      λ h. is.1 (subst (IsQueueRun n items) (sym next) (
        allowed,
        subst (λ z. IsQueueRun n z (drop (i + 1) cs)) e h,
      )),
    )
