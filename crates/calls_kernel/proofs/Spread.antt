-- The calls of a linearization, made one after another, at positions of the history.
use Rattle.std.proofs.Common.{◌≡◌, ℕ, zero, suc, ◌+◌, ◌<◌, ◌≤◌, inl, inr, true, false, cond, List}
use Rattle.std.proofs.Common.{[], ◌∷◌, ◌++◌, length, reverse, Option, Some, None, refl, ap, sym}
use Rattle.std.proofs.Common.{◌∙◌, arith, subst, nat_le, max, ◌==◌}
use Rattle.std.specs.List.{All, AllPairs, filter}
use Rattle.std.proofs.lemmas.Bool.{leb-true, le-leb, lt-leb, cases_lt}
use Rattle.std.proofs.lemmas.List.Elements.{All-head, All-tail, All-nil, All-cons}
use Rattle.std.proofs.lemmas.List.Sorted.{All-permutation}
use Rattle.ec_count.specs.Tables.{Tables}
use Rattle.ec_order.specs.declared.call.Call.{Call as FinishedCall}
use Rattle.ec_order.specs.Calls.{finished_calls}
use Rattle.calls_core.specs.declared.history.Kind.{Kind}
use Rattle.calls_core.specs.declared.history.Reply.{Reply}
use Rattle.calls_core.specs.declared.history.Action.{Action}
use Rattle.calls_core.specs.declared.history.Action.TheVariants.{Invoke, Respond}
use Rattle.calls_core.specs.declared.history.Event.{Event}
use Rattle.calls_core.specs.declared.history.PendingCall.{PendingCall}
use Rattle.calls_core.specs.declared.history.Call.{Call}
use Rattle.calls_core.specs.Lists.{Each}
use Rattle.calls_core.specs.Calls.{Early}
use Rattle.calls_core.specs.Histories.{clock, pending_of, without, pending_calls, pending_after}
use Rattle.calls_core.specs.Histories.{completed_calls, ended_call, IsHistory}
use Rattle.calls_core.specs.Linearizations.{answered_calls, answered_one, KeepsOrder}
use Rattle.calls_core.specs.Linearizations.{IsAnsweredLinearization}
use Rattle.calls_core.proofs.Lists.{each_append, each_weaker, all_from_each}
use Rattle.calls_kernel.specs.Outside.{kinds_of, is_call}
use Rattle.calls_kernel.specs.Made.{AreMadeAs, AreInARow}
use Rattle.calls_kernel.specs.Recorded.{AreRecordedAs}
use Rattle.calls_kernel.specs.Laws.{LinearizableHistoriesAreRecords}
use Rattle.calls_kernel.proofs.Fitting.{FitsCall, fitting, linearized_fit}
use Rattle.calls_kernel.proofs.Played.{linearizations_are_accepted}

-- RESPONSES AFTER INVOCATIONS

abbrev Lasts : Call → Type 0
Lasts c = c.first ≤ c.last

early_without : (n w : ℕ) (os : List PendingCall) → Each (Early n) os
    → Each (Early n) (without w os)
early_without n w [] h = tt
early_without n w (o ∷ os) h =
    elim (o.worker == w) as (λ b. Each (Early n) (cond b os (o ∷ without w os))) [
      | true ↦ h.1
      | false ↦ (h.0, early_without n w os h.1)
    ]

early_later : (n m : ℕ) (os : List PendingCall) → n ≤ m → Each (Early n) os → Each (Early m) os
early_later n m os le = each_weaker (Early n) (Early m)
    (λ o h. (let lt : o.first < n = h in let more : o.first < m = omega arith in more)) os

early_after : (x : Event) (a : Action) (os : List PendingCall) → Each (Early (x.at + 1)) os
    → Each (Early (x.at + 1)) (pending_after x a os)
early_after x (Invoke k op) os h =
    each_append (Early (x.at + 1)) os (record {
      worker = x.worker;
      object = k;
      op = op;
      first = x.at;
    } ∷ []) h (omega arith, tt)
early_after x (Respond r) os h = early_without (x.at + 1) x.worker os h

abbrev EarlyIf : ℕ → Option PendingCall → Type 0
EarlyIf n None = Unit {0}
EarlyIf n (Some o) = Early n o

early_of : (n w : ℕ) (os : List PendingCall) → Each (Early n) os → EarlyIf n (pending_of w os)
early_of n w [] h = tt
early_of n w (o ∷ os) h =
    elim (o.worker == w) as (λ b. EarlyIf n (cond b (Some o) (pending_of w os))) [
      | true ↦ h.0
      | false ↦ early_of n w os h.1
    ]

ended_last : (x : Event) (a : Action) (o : Option PendingCall) → EarlyIf x.at o
    → Each Lasts (ended_call x a o)
ended_last x (Invoke k op) o h = tt
ended_last x (Respond r) None h = tt
ended_last x (Respond r) (Some o) h = ((let lt : o.first < x.at = h in omega arith), tt)

module _ (kinds : List Kind) where
  pending_early : (past : List Event) → IsHistory kinds past
      → Each (Early (clock past)) (pending_calls past)
  pending_early [] h = tt
  pending_early (x ∷ past) h =
      let up : clock past ≤ x.at = h.0 in
      early_after x x.action (pending_calls past)
      (early_later (clock past) (x.at + 1) (pending_calls past) (omega arith)
      (pending_early past h.2))

  completed_last : (past : List Event) → IsHistory kinds past → Each Lasts (completed_calls past)
  completed_last [] h = tt
  completed_last (x ∷ past) h =
      each_append Lasts (ended_call x x.action (pending_of x.worker (pending_calls past)))
      (completed_calls past)
      (ended_last x x.action (pending_of x.worker (pending_calls past))
      (early_of x.at x.worker (pending_calls past)
      (early_later (clock past) x.at (pending_calls past) h.0 (pending_early past h.2))))
      (completed_last past h.2)

  one_last : (n : ℕ) (o : PendingCall) (a : Option Reply) → Early n o
      → Each Lasts (answered_one n o a)
  one_last n o None h = tt
  one_last n o (Some r) h = ((let lt : o.first < n = h in omega arith), tt)

  answered_last : (n : ℕ) (answer : PendingCall → Option Reply) (os : List PendingCall)
      → Each (Early n) os → Each Lasts (answered_calls n answer os)
  answered_last n answer [] h = tt
  answered_last n answer (o ∷ os) h =
      each_append Lasts (answered_one n o (answer o)) (answered_calls n answer os)
      (one_last n o (answer o) h.0) (answered_last n answer os h.1)

  linearized_last : (past : List Event) (cs : List Call) → IsHistory kinds past
      → IsAnsweredLinearization kinds past cs → All Lasts cs
  linearized_last past cs h l =
      let taken = answered_calls (clock past) l.answer (pending_calls past) in
      All-permutation Lasts (taken ++ completed_calls past) cs l.each_once
      (all_from_each Lasts (taken ++ completed_calls past)
      (each_append Lasts taken (completed_calls past)
      (answered_last (clock past) l.answer (pending_calls past) (pending_early past h))
      (completed_last past h)))

-- MOMENTS: the entries of each call happen at the latest invocation up to it

abbrev moments : ℕ → List FinishedCall → List Call → ℕ → ℕ
moments n [] cs j = n
moments n (d ∷ ds) [] j = n
moments n (d ∷ ds) (c ∷ cs) j =
    cond (nat_le j d.last) (max n c.first) (moments (max n c.first) ds cs j)

moments_low : (n : ℕ) (ds : List FinishedCall) (cs : List Call) (j : ℕ) → n ≤ moments n ds cs j
moments_low n [] cs j = omega arith
moments_low n (d ∷ ds) [] j = omega arith
moments_low n (d ∷ ds) (c ∷ cs) j =
    let rest : max n c.first ≤ moments (max n c.first) ds cs j =
    moments_low (max n c.first) ds cs j in
    elim (nat_le j d.last) as (λ b. n ≤ cond b (max n c.first)
    (moments (max n c.first) ds cs j)) [
      | true ↦ omega arith
      | false ↦ omega arith
    ]

moments_rise : (n : ℕ) (ds : List FinishedCall) (cs : List Call) (i j : ℕ) → i ≤ j
    → moments n ds cs i ≤ moments n ds cs j
moments_rise n [] cs i j le = omega arith
moments_rise n (d ∷ ds) [] i j le = omega arith
moments_rise n (d ∷ ds) (c ∷ cs) i j le =
    let m = max n c.first in
    let M = moments m ds cs in
    elim (nat_le j d.last) as (λ b. nat_le j d.last ≡ b
    → cond (nat_le i d.last) m (M i) ≤ cond b m (M j)) [
      | true ↦ λ e.
          (let up : j ≤ d.last = leb-true j d.last e in
          let low : nat_le i d.last ≡ true = le-leb i d.last (omega arith) in
          subst (λ b. cond b m (M i) ≤ m) (sym low) (omega arith))
      | false ↦ λ e.
          (elim (nat_le i d.last) as (λ b. cond b m (M i) ≤ M j) [
            | true ↦ moments_low m ds cs j
            | false ↦ moments_rise m ds cs i j le
          ])
    ] refl

module _ (t : Tables) (moment : ℕ → ℕ) where
  abbrev Reaches : ℕ → Call → Type 0
  Reaches n c = n ≤ c.last

  both_reach : (n : ℕ) (c : Call) (cs : List Call) → All (Reaches n) cs → All (KeepsOrder c) cs
      → All (Reaches (max n c.first)) cs
  both_reach n c [] h k = All-nil (Reaches (max n c.first))
  both_reach n c (b ∷ cs) h k =
      let one : n ≤ b.last = All-head (Reaches n) b cs h in
      let other : KeepsOrder c b = All-head (KeepsOrder c) b cs k in
      let two : c.first ≤ b.last = not_less b.last c.first other in
      All-cons (Reaches (max n c.first)) b cs (omega arith)
      (both_reach n c cs (All-tail (Reaches n) b cs h) (All-tail (KeepsOrder c) b cs k))
    where
      not_less : (x y : ℕ) → (x < y → ⊥) → y ≤ x
      not_less x y h =
          elim (cases_lt x y) [
            | inl lt ↦ absurd (h lt)
            | inr le ↦ le
          ]

  spread : (n i m : ℕ) (ds : List FinishedCall) (cs : List Call) → AreMadeAs t ds cs
      → AreInARow i ds m → All Lasts cs → AllPairs KeepsOrder cs → All (Reaches n) cs
      → ((j : ℕ) → i ≤ j → moment j ≡ moments n ds cs j) → AreRecordedAs t moment ds cs
  spread n i m [] [] made row lasts kept reach same = tt
  spread n i m [] (c ∷ cs) made row lasts kept reach same = absurd made
  spread n i m (d ∷ ds) [] made row lasts kept reach same = absurd made
  spread n i m (d ∷ ds) (c ∷ cs) made row lasts kept reach same =
      let first : d.first ≡ i = row.0 in
      let rises : d.first ≤ d.last = row.1 in
      let p = max n c.first in
      let here : (j : ℕ) → i ≤ j → j ≤ d.last → moment j ≡ p =
      λ j low high. same j low ∙ ap (λ b. cond b p (moments p ds cs j)) (le-leb j d.last high) in
      let begin : moment d.first ≡ p = here d.first (omega arith) rises in
      let end : moment d.last ≡ p = here d.last (omega arith) (omega arith) in
      let own : c.first ≤ c.last = All-head Lasts c cs lasts in
      let late : n ≤ c.last = All-head (Reaches n) c cs reach in
      let first_kept : All (KeepsOrder c) cs =
      λ k e lt. kept zero (suc k) e (omega arith) (omega arith) in
      let rest_kept : AllPairs KeepsOrder cs =
      λ k l e lt le. kept (suc k) (suc l) e (omega arith) (omega arith) in (
        record { made = made.0; from_first = omega arith; to_last = omega arith },
        spread p (d.last + 1) m ds cs made.1 row.2 (All-tail Lasts c cs lasts) rest_kept
            (both_reach n c cs (All-tail (Reaches n) c cs reach) first_kept)
            (λ j low. same j (omega arith) ∙ ap (λ b. cond b p (moments p ds cs j))
            (lt-leb j d.last (omega arith))),
      )

-- NO HAND IS AMONG THE CALLS

module _ (t : Tables) where
  calls_alone : (ds : List FinishedCall) (cs : List Call) → AreMadeAs t ds cs
      → All (FitsCall (kinds_of t)) cs → filter (λ (d : FinishedCall). is_call d.op) ds ≡ ds
  calls_alone [] [] made fits = refl
  calls_alone [] (c ∷ cs) made fits = refl
  calls_alone (d ∷ ds) [] made fits = absurd made
  calls_alone (d ∷ ds) (c ∷ cs) made fits =
      let F = FitsCall (kinds_of t) in
      let call : is_call d.op ≡ true =
      ap is_call made.0.act ∙ (fitting t c.object c.op (All-head F c cs fits)).call in
      let rest = filter (λ (e : FinishedCall). is_call e.op) ds in
      ap (λ b. cond b (d ∷ rest) rest) call
      ∙ ap (λ l. d ∷ l) (calls_alone ds cs made.1 (All-tail F c cs fits))

pub linearizable_are_records : LinearizableHistoriesAreRecords
linearizable_are_records t past cs d h l granted limit =
    let made = linearizations_are_accepted t past cs d h l granted limit in
    let ds = finished_calls t (reverse made.steps) in
    let moment = moments 0 ds cs in
    record {
      steps = made.steps;
      accepted = made.accepted;
      moment = moment;
      rises = moments_rise 0 ds cs;
      answer = l.answer;
      calls = cs;
      each_once = l.each_once;
      recorded = subst (λ es. AreRecordedAs t moment es cs)
          (sym (calls_alone t ds cs made.calls (linearized_fit (kinds_of t) past cs h l)))
          (spread t moment 0 0 (length made.steps) ds cs made.calls made.in_a_row
          (linearized_last (kinds_of t) past cs h l) l.in_order (λ k e lt. omega arith)
          (λ j low. refl));
    }
