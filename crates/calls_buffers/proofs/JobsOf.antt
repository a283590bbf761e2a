-- The items of a history as jobs.
use Rattle.std.proofs.Common.{◌≡◌, ℕ, zero, suc, ◌+◌, ◌-◌, ◌<◌, ◌≤◌, ◌⊎◌, inl, inr, max, List}
use Rattle.std.proofs.Common.{[], ◌∷◌, ◌++◌, length, map, get_or, refl, ap, sym, ◌∙◌, subst, arith}
use Rattle.std.proofs.Common.{count_by}
use Rattle.std.specs.List.{Contains}
use Rattle.std.proofs.Common.{take}
use Rattle.std.proofs.lemmas.Bool.{cases_lt}
use Rattle.std.proofs.lemmas.List.{take_more}
use Rattle.std.proofs.lemmas.List.Elements.{Contains-append_right}
use Rattle.calls_core.specs.declared.history.Kind.{Kind}
use Rattle.calls_core.specs.Calls.{IsCallOf, AreCallsOf}
use Rattle.calls_core.specs.declared.history.PendingCall.{PendingCall}
use Rattle.calls_core.specs.declared.history.Call.{Call}
use Rattle.calls_core.specs.Lists.{Each, EachPair}
use Rattle.calls_core.proofs.Lists.{each_both, each_weaker}
use Rattle.calls_schedule.specs.declared.job.Job.{Job}
use Rattle.calls_buffers.specs.declared.jobs.Reach.{Reach}
use Rattle.calls_buffers.specs.declared.windows.Window.{Window}
use Rattle.calls_buffers.specs.Counts.{is_consume}
use Rattle.calls_buffers.specs.Jobs.{IsInBefore, IsTakenBefore, IsPutInvoked, IsOutFrom}
use Rattle.calls_buffers.specs.Jobs.{IsJob, AreJobs}
use Rattle.calls_buffers.specs.kept.Windows.{in_by, out_from, IsCompletedPut, IsPendingPut}
use Rattle.calls_buffers.specs.kept.Windows.{IsCompletedTake, IsUntaken, IsWindow, IsWithin}
use Rattle.calls_buffers.specs.kept.Windows.{AreWindows}
use Rattle.calls_buffers.specs.kept.Jobs.{early_reach, late_reach, HasTop, IsTop, Before, IsHeld}
use Rattle.calls_buffers.specs.kept.Jobs.{IsPushed, IsJobFrom, AreJobsFrom}
use Rattle.calls_buffers.specs.Accesses.{AreWithin}
use Rattle.calls_buffers.proofs.AreWindows.{each_contains, one_of}

unmap : {X Y : Type 0} (f : X → Y) (holds : Y → Type 0) (xs : List X) → Each holds (map f xs)
    → Each (λ x. holds (f x)) xs
unmap f holds [] h = tt
unmap f holds (x ∷ xs) h = (h.0, unmap f holds xs h.1)

record HasMapped {X Y : Type 0} (f : X → Y) (xs : List X) (y : Y) : Type 0 where
  element : X
  known : Contains xs element
  is : f element ≡ y

mapped : {X Y : Type 0} (f : X → Y) (xs : List X) (y : Y) → Contains (map f xs) y
    → HasMapped f xs y
mapped f [] y (k, lt, e) = absurd (omega arith)
mapped f (x ∷ xs) y (zero, lt, e) =
    record { element = x; known = (zero, omega arith, refl); is = e }
mapped f (x ∷ xs) y (suc k, lt, e) =
    let r = mapped f xs y (k, (let l : k < length (map f xs) = omega arith in l), e) in
    record {
      element = r.element;
      known = Contains-append_right (x ∷ []) xs r.element r.known;
      is = r.is;
    }

-- how a job is computed
module _ (end : ℕ) (ws : List Window) (w : Window) (within : Each (IsWithin end) ws)
    (own : IsWithin end w) (inside : in_by w < end) where
  early_some : (a : ℕ) → IsTop (map early_reach ws) w.put_first a
      → (max (out_from w) a ≡ out_from w) ⊎ IsHeld ws w (max (out_from w) a)
  early_some a h =
      elim (cases_lt (out_from w) a) [
        | inr le ↦ inl (omega (arith, le))
        | inl lt ↦ greater lt h.some
      ]
    where
      greater : out_from w < a → (a ≡ 0) ⊎ HasTop (map early_reach ws) w.put_first a
          → (max (out_from w) a ≡ out_from w) ⊎ IsHeld ws w (max (out_from w) a)
      greater lt (inl e) = absurd (omega (arith, lt, e))
      greater lt (inr t) =
          let z = mapped early_reach ws t.reach t.known in
          let m : ℕ = out_from w in
          inr (record {
            other = z.element;
            known = z.known;
            before = omega (arith, t.before, ap (λ (r : Reach). r.from) z.is);
            is = (let e : max m a ≡ a = omega (arith, lt) in e) ∙ sym t.is
                ∙ ap (λ (r : Reach). r.to) (sym z.is);
          })

  late_some : (b : ℕ) → IsTop (map (late_reach end) ws) (end - in_by w) b → (late : ℕ)
      → late ≡ end - max b (end - w.take_last)
      → (late + 1 ≡ w.take_last + 1) ⊎ IsPushed ws w (late + 1)
  late_some b h late e =
      elim (cases_lt (end - w.take_last) b) [
        | inr le ↦ inl (omega (arith, e, le, own.take_last))
        | inl lt ↦ greater lt h.some
      ]
    where
      greater : end - w.take_last < b
          → (b ≡ 0) ⊎ HasTop (map (late_reach end) ws) (end - in_by w) b
          → (late + 1 ≡ w.take_last + 1) ⊎ IsPushed ws w (late + 1)
      greater lt (inl q) = absurd (omega (arith, lt, q))
      greater lt (inr t) =
          let z = mapped (late_reach end) ws t.reach t.known in
          let i : ℕ = in_by w in
          let there = one_of (IsWithin end) ws z.element within z.known in
          inr (record {
            other = z.element;
            known = z.known;
            before = (let l : i < z.element.put_first =
                omega (arith, t.before, ap (λ (r : Reach). r.from) z.is) in l);
            is = omega (arith, lt, e, t.is, ap (λ (r : Reach). r.to) z.is, there.take_last);
          })

  pub job_is : (a b late : ℕ) (j : Job) → IsTop (map early_reach ws) w.put_first a
      → IsTop (map (late_reach end) ws) (end - in_by w) b
      → late ≡ end - max b (end - w.take_last) → j.item ≡ w.item
      → j.early ≡ max (out_from w) a → j.by ≡ in_by w + 1 → j.late ≡ late + 1
      → IsJobFrom ws w j
  job_is a b late j h k e item early by after =
      let m : ℕ = out_from w in
      let i : ℕ = in_by w in
      let j_early : j.early ≡ max m a = early in
      record {
        item = item;
        by = by;
        early = omega (arith, j_early);
        early_each = each_weaker (λ (z : Window). in_by z < w.put_first → out_from z ≤ a)
            (λ (z : Window). Before z w → out_from z ≤ j.early)
            (λ z f l. (let o : ℕ = out_from z in
            let le : o ≤ a = f l in omega (arith, j_early, le))) ws
            (unmap early_reach (λ (r : Reach). r.from < w.put_first → r.to ≤ a) ws h.each);
        early_some = subst (λ n. (n ≡ out_from w) ⊎ IsHeld ws w n) (sym early) (early_some a h);
        late = omega (arith, after, e, own.take_last);
        late_each = each_both (IsWithin end)
            (λ (z : Window). end - z.put_first < end - in_by w → end - z.take_last ≤ b)
            (λ (z : Window). Before w z → j.late ≤ z.take_last + 1)
            (λ z q f l. (let lt : i < z.put_first = l in
            let le = f (omega (arith, lt, q.put, q.put_last)) in
            omega (arith, after, e, le, q.take_last))) ws within
            (unmap (late_reach end) (λ (r : Reach). r.from < end - in_by w → r.to ≤ b) ws h_late);
        late_some = subst (λ n. (n ≡ w.take_last + 1) ⊎ IsPushed ws w n) (sym after)
            (late_some b k late e);
      }
    where
      h_late : Each (λ (r : Reach). r.from < end - in_by w → r.to ≤ b) (map (late_reach end) ws)
      h_late = k.each

jobs_append : (ws xs : List Window) (w : Window) (js : List Job) (j : Job)
    → AreJobsFrom ws xs js → IsJobFrom ws w j → AreJobsFrom ws (xs ++ w ∷ []) (js ++ j ∷ [])
jobs_append ws [] w [] j h k = (k, tt)
jobs_append ws [] w (i ∷ js) j h k = absurd h
jobs_append ws (x ∷ xs) w [] j h k = absurd h
jobs_append ws (x ∷ xs) w (i ∷ js) j h k = (h.0, jobs_append ws xs w js j h.1 k)

-- one job more
pub jobs_step : (ws : List Window) (i : ℕ) (d : Window) (js next : List Job) (j : Job)
    → i < length ws → AreJobsFrom ws (take i ws) js → IsJobFrom ws (get_or ws i d) j
    → next ≡ js ++ j ∷ [] → AreJobsFrom ws (take (i + 1) ws) next
jobs_step ws i d js next j lt h k e =
    subst (λ zs. AreJobsFrom ws zs next) (sym (take_more ws i d lt))
    (subst (AreJobsFrom ws (take i ws ++ get_or ws i d ∷ [])) (sym e)
    (jobs_append ws (take i ws) (get_or ws i d) js j h k))

-- SOUND

at_most : (a b : ℕ) → (max a b ≡ a) ⊎ (max a b ≡ b)
at_most a b = elim (cases_lt a b) [
  | inl lt ↦ inr (omega (arith, lt))
  | inr le ↦ inl (omega (arith, le))
]

module _ (end : ℕ) (done : List Call) (pending : List PendingCall) (all : List Window)
    (are : AreWindows done pending end all) where
  -- a window by its calls
  is_in_before : (w : Window) → IsWindow done pending end w → (p : ℕ) → in_by w < p
      → IsInBefore done w.item p
  is_in_before w h p lt =
      elim (cases_lt w.put_last w.take_last) [
        | inl less ↦ put less h.put
        | inr le ↦ take le h.take
      ]
    where
      put : w.put_last < w.take_last → IsCompletedPut done w ⊎ IsPendingPut pending end w
          → IsInBefore done w.item p
      put less (inl k) = inl (record {
        call = k.call;
        produce = k.produce;
        before = (let i : ℕ = in_by w in omega (arith, lt, k.last, less));
      })
      put less (inr k) = absurd (omega (arith, less, k.last, h.within.take_last))

      take : w.take_last ≤ w.put_last → IsCompletedTake done w ⊎ IsUntaken done end w
          → IsInBefore done w.item p
      take le (inl k) = inr (record {
        call = k.call;
        consume = k.consume;
        before = omega (arith, lt, k.last, le);
      })
      take le (inr k) = absurd (omega (arith, le, k.last, h.some, h.within.put_last))

  invoked : (w : Window) → IsWindow done pending end w
      → IsPutInvoked done pending w.item w.put_first
  invoked w h = elim h.put [
    | inl k ↦ inl (record { call = k.call; produce = k.produce; at = k.first })
    | inr k ↦ inr (record { call = k.call; known = k.known; asks = k.asks; at = k.first })
  ]

  -- nobody else takes an item: each was taken, or no consume is pending
  module _ (ws : List Window) (each : Each (IsWindow done pending end) ws)
      (stays : (w : Window) → Contains ws w → IsUntaken done end w
      → count_by (λ (o : PendingCall). is_consume o.op) pending ≡ 0) where
    is_out_from : (w : Window) → Contains ws w → (p : ℕ) → p ≡ out_from w
        → IsOutFrom done pending w.item p
    is_out_from w known p e =
        let h = one_of (IsWindow done pending end) ws w each known in
        elim (at_most w.put_first w.take_first) [
          | inl q ↦ inr (inl (record {
            first = w.put_first;
            invoked = invoked w h;
            from = omega (arith, e, q);
          }))
          | inr q ↦ take q h.take
        ]
      where
        take : max w.put_first w.take_first ≡ w.take_first
            → IsCompletedTake done w ⊎ IsUntaken done end w → IsOutFrom done pending w.item p
        take q (inl k) = inl (record {
          call = k.call;
          consume = k.consume;
          from = omega (arith, e, q, k.first);
        })
        take q (inr k) = inr (inr (record { untaken = k.none; none = stays w known k }))

    taken_before : (w : Window) → Contains ws w → (p : ℕ) → p ≡ w.take_last + 1
        → IsTakenBefore done w.item p ⊎ (end < p)
    taken_before w known p e =
        let h = one_of (IsWindow done pending end) ws w each known in
        elim h.take [
          | inl k ↦ inl (record {
            call = k.call;
            consume = k.consume;
            before = omega (arith, e, k.last);
          })
          | inr k ↦ inr (omega (arith, e, k.last))
        ]

    job_sound : (w : Window) (j : Job) → Contains ws w → IsJobFrom ws w j
        → IsJob done pending end j
    job_sound w j known f =
        let h = one_of (IsWindow done pending end) ws w each known in
        let job : IsJob done pending end (record {
          item = w.item;
          early = j.early;
          by = j.by;
          late = j.late;
        }) = record {
          once = are.put_once w.item;
          early = elim f.early_some [
            | inl e ↦ inl (is_out_from w known j.early e)
            | inr k ↦ inr (record {
              other = k.other.item;
              once = are.put_once k.other.item;
              out = is_out_from k.other k.known j.early k.is;
              first = w.put_first;
              invoked = invoked w h;
              before = is_in_before k.other (one_of (IsWindow done pending end) ws k.other each
                  k.known) w.put_first k.before;
            })
          ];
          within = early_within w h known f.early_some;
          by = is_in_before w h j.by (let i : ℕ = in_by w in
              let e : j.by ≡ i + 1 = f.by in omega (arith, e));
          late = elim f.late_some [
            | inl e ↦ (elim (taken_before w known j.late e) [
              | inl t ↦ inl t
              | inr lt ↦ inr (inr lt)
            ])
            | inr k ↦ (elim (taken_before k.other k.known j.late k.is) [
              | inl t ↦ inr (inl (record {
                other = k.other.item;
                once = are.put_once k.other.item;
                taken = t;
                first = k.other.put_first;
                invoked = invoked k.other (one_of (IsWindow done pending end) ws k.other each
                    k.known);
                before = is_in_before w h k.other.put_first k.before;
              }))
              | inr lt ↦ inr (inr lt)
            ])
          ];
        } in
        subst (λ v. IsJob done pending end (record {
          item = v;
          early = j.early;
          by = j.by;
          late = j.late;
        })) (sym f.item) job
      where
        bound : (x : Window) → IsWindow done pending end x → out_from x ≤ end
        bound x k = omega (arith, k.first, k.within.take, k.within.take_last)

        early_within : (w : Window) → IsWindow done pending end w → Contains ws w
            → (j.early ≡ out_from w) ⊎ IsHeld ws w j.early → j.early ≤ end
        early_within w k known (inl e) = (let o : ℕ = out_from w in
            let le : o ≤ end = bound w k in
            let same : j.early ≡ o = e in omega (arith, le, same))
        early_within w k known (inr q) = (let o : ℕ = out_from q.other in
            let le : o ≤ end = bound q.other (one_of (IsWindow done pending end) ws q.other each
            q.known) in
            let same : j.early ≡ o = q.is in omega (arith, le, same))

    each_sound : (xs : List Window) (js : List Job) → ((x : Window) → Contains xs x → Contains ws x)
        → AreJobsFrom ws xs js → Each (IsJob done pending end) js
    each_sound [] [] within h = tt
    each_sound [] (j ∷ js) within h = absurd h
    each_sound (x ∷ xs) [] within h = absurd h
    each_sound (x ∷ xs) (j ∷ js) within h = (
      job_sound x j (within x (zero, omega arith, refl)) h.0,
      each_sound xs js (λ y k. within y (Contains-append_right (x ∷ []) xs y k)) h.1,
    )

    above : (v : ℕ) (xs : List Window) (js : List Job) → Each (λ (y : Window). v < y.item) xs
        → AreJobsFrom ws xs js → Each (λ (j : Job). v ≡ j.item → ⊥) js
    above v [] [] up h = tt
    above v [] (j ∷ js) up h = absurd h
    above v (x ∷ xs) [] up h = absurd h
    above v (x ∷ xs) (j ∷ js) up h = (
      (λ e. absurd (omega (arith, e, up.0, h.0.item))),
      above v xs js up.1 h.1,
    )

    apart : (xs : List Window) (js : List Job) → EachPair (λ (x y : Window). x.item < y.item) xs
        → AreJobsFrom ws xs js → EachPair (λ (i j : Job). i.item ≡ j.item → ⊥) js
    apart [] [] up h = tt
    apart [] (j ∷ js) up h = absurd h
    apart (x ∷ xs) [] up h = absurd h
    apart (x ∷ xs) (j ∷ js) up h = (
      subst (λ v. Each (λ (k : Job). v ≡ k.item → ⊥) js) (sym h.0.item)
          (above x.item xs js up.0 h.1),
      apart xs js up.1 h.1,
    )

    pub jobs_sound : EachPair (λ (x y : Window). x.item < y.item) ws → (js : List Job)
        → AreJobsFrom ws ws js → AreJobs done pending end js
    jobs_sound up js h = record {
      each = each_sound ws js (λ x k. k) h;
      apart = apart ws js up h;
    }

-- of all items, if no consume is pending
pub whole_sound : (end : ℕ) (done : List Call) (pending : List PendingCall) (ws : List Window)
    (js : List Job) → AreWindows done pending end ws
    → count_by (λ (o : PendingCall). is_consume o.op) pending ≡ 0 → AreJobsFrom ws ws js
    → AreJobs done pending end js
whole_sound end done pending ws js are none h =
    jobs_sound end done pending ws are ws are.each (λ w known k. none) are.ascend js h

-- of some items, if each of them was taken
pub sound_if_returned : (end : ℕ) (done : List Call) (pending : List PendingCall) (all ws : List Window)
    (js : List Job) → AreWindows done pending end all
    → ((w : Window) → Contains ws w → Contains all w)
    → EachPair (λ (x y : Window). x.item < y.item) ws
    → Each (λ (w : Window). w.take_last < end) ws → AreJobsFrom ws ws js
    → AreJobs done pending end js
sound_if_returned end done pending all ws js are within up with_take h =
    jobs_sound end done pending all are ws (each_contains (IsWindow done pending end) ws
    (λ w known. one_of (IsWindow done pending end) all w are.each (within w known)))
    (λ w known k. absurd (omega (
      arith,
      k.last,
      one_of (λ (x : Window). x.take_last < end) ws w with_take known,
    ))) up js h

-- the calls of a buffer are before the end of their history
pub within_calls : (kind : Kind) (done : List Call) (pending : List PendingCall) (end : ℕ)
    → AreCallsOf kind done pending end → AreWithin end done pending
within_calls kind done pending end h = record {
  completed = each_weaker (IsCallOf kind end) (λ (c : Call). (c.first < c.last) × (c.last < end))
      (λ c k. (k.lasts, k.early)) done h.completed;
  invoked = h.early;
}
