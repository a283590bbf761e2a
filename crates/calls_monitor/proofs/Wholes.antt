-- A monitor from no event on, and the events of a whole history.
use Rattle.std.proofs.Common.{◌≡◌, ℕ, zero, suc, ◌+◌, ◌<◌, ◌≤◌, ◌⊎◌, inl, inr, arith, List, [], ◌∷◌}
use Rattle.std.proofs.Common.{true, false, cond, ◌++◌, length, get_or, slice_get, take, drop, reverse, Some, Ok, Err}
use Rattle.std.proofs.Common.{refl, ap, sym, ◌∙◌, subst}
use Rattle.std.proofs.lemmas.List.{take_more, take_all, reverse-append}
use Rattle.calls_core.specs.declared.history.Kind.{Kind}
use Rattle.calls_core.specs.declared.history.Event.{Event}
use Rattle.calls_core.specs.Histories.{IsHistory, is_on, part, pending_of, pending_calls}
use Rattle.calls_core.specs.Completions.{IsLinearizable}
use Rattle.calls_core.specs.Beginnings.{past_at}
use Rattle.calls_core.proofs.Beginnings.{history_earlier, past_split}
use Rattle.calls_spsc.specs.Flows.{IsSpsc}
use Rattle.calls_monitor.specs.declared.object.Watch.{Watch}
use Rattle.calls_monitor.specs.declared.monitor.Monitor.{Monitor}
use Rattle.calls_monitor.specs.declared.monitor.Rejection.{Rejection}
use Rattle.calls_monitor.specs.declared.monitor.Rejection.TheVariants.{Refused, Full, Unwatched}
use Rattle.calls_monitor.specs.Watched.{is_listed, is_watched, AreSpsc}
use Rattle.calls_monitor.specs.Monitors.{Verdict, Rejects, Judges, IsStop}
use Rattle.calls_monitor.specs.kept.Watching.{WatchesOf, Watches, has_monitor}
use Rattle.calls_monitor.proofs.Judging.{linearizable_now}

-- OPENING

-- the monitor of an object before the first event
abbrev pub IsOpenedAt : List ℕ → List Watch → ℕ → Kind → Type 0
IsOpenedAt spsc ws k kind =
    (w : Watch) × (slice_get ws k ≡ Some w) × (has_monitor w ≡ is_watched spsc k kind)
    × WatchesOf kind [] w

get_left : {X : Type 0} (xs ys : List X) (k : ℕ) (x : X) → slice_get xs k ≡ Some x
    → slice_get (xs ++ ys) k ≡ Some x
get_left [] ys k x e = absurd (cc)
get_left (y ∷ xs) ys zero x e = e
get_left (y ∷ xs) ys (suc k) x e = get_left xs ys k x e

get_last : {X : Type 0} (xs : List X) (k : ℕ) (x : X) → length xs ≡ k
    → slice_get (xs ++ x ∷ []) k ≡ Some x
get_last [] zero x e = refl
get_last [] (suc k) x e = absurd (omega (arith, e))
get_last (y ∷ xs) zero x e = absurd (omega (arith, e))
get_last (y ∷ xs) (suc k) x e = get_last xs k x (omega (arith, e))

got_same : {X : Type 0} (xs : List X) (k : ℕ) (x d : X) → slice_get xs k ≡ Some x
    → get_or xs k d ≡ x
got_same [] k x d e = absurd (cc)
got_same (y ∷ xs) zero x d e = cc
got_same (y ∷ xs) (suc k) x d e = got_same xs k x d e

below_or : (k i : ℕ) → k < i + 1 → (k < i) ⊎ (k ≡ i)
below_or zero zero lt = inr refl
below_or zero (suc i) lt = inl (omega arith)
below_or (suc k) zero lt = absurd (omega (arith, lt))
below_or (suc k) (suc i) lt = elim (below_or k i (omega (arith, lt))) [
  | inl less ↦ inl (omega (arith, less))
  | inr same ↦ inr (ap suc same)
]

pub opened_more : (kinds : List Kind) (spsc : List ℕ) (ws : List Watch) (i : ℕ) (w : Watch)
    (d : Kind) → length ws ≡ i → has_monitor w ≡ is_watched spsc i (get_or kinds i d)
    → WatchesOf (get_or kinds i d) [] w
    → ((k : ℕ) (kind : Kind) → k < i → slice_get kinds k ≡ Some kind → IsOpenedAt spsc ws k kind)
    → (k : ℕ) (kind : Kind) → k < i + 1 → slice_get kinds k ≡ Some kind
    → IsOpenedAt spsc (ws ++ w ∷ []) k kind
opened_more kinds spsc ws i w d count made own h k kind lt e =
    elim (below_or k i lt) [
      | inl less ↦ (let r = h k kind less e in (r.0, get_left ws (w ∷ []) k r.0 r.1, r.2, r.3))
      | inr same ↦ (
        w,
        get_last ws k w (count ∙ sym same),
        subst (λ z. has_monitor w ≡ is_watched spsc k z) (got_same kinds k kind d e)
            (subst (λ n. has_monitor w ≡ is_watched spsc n (get_or kinds n d)) (sym same) made),
        subst (λ z. WatchesOf z [] w) (got_same kinds k kind d e)
            (subst (λ n. WatchesOf (get_or kinds n d) [] w) (sym same) own),
      )
    ]

-- EVENTS

-- earlier events are calls of one producer and one consumer too
spsc_before : (k : ℕ) (x : Event) (past : List Event) → IsSpsc (part k (x ∷ past))
    → IsSpsc (part k past)
spsc_before k x past all =
    elim (is_on k x.action (pending_of x.worker (pending_calls past))) as (λ b.
    IsSpsc (cond b (x ∷ part k past) (part k past)) → IsSpsc (part k past)) [
      | true ↦ λ more. more.2
      | false ↦ λ same. same
    ] all

spsc_earlier : (spsc : List ℕ) (late past : List Event) → AreSpsc spsc (late ++ past)
    → AreSpsc spsc past
spsc_earlier spsc [] past all = all
spsc_earlier spsc (x ∷ late) past all =
    spsc_earlier spsc late past (λ k listed. spsc_before k x (late ++ past) (all k listed))

module _ (kinds : List Kind) (spsc : List ℕ) (events : List Event)
    (h : IsHistory kinds (reverse events)) (one_each : AreSpsc spsc (reverse events)) where
  history_past : (i : ℕ) → IsHistory kinds (past_at i events)
  history_past i = history_earlier kinds (reverse (drop i events)) (past_at i events)
      (subst (IsHistory kinds) (past_split i events) h)

  spsc_past : (i : ℕ) → AreSpsc spsc (past_at i events)
  spsc_past i = spsc_earlier spsc (reverse (drop i events)) (past_at i events)
      (subst (AreSpsc spsc) (past_split i events) one_each)

  pub all_fine : (i : ℕ) (m : Monitor) → length events ≤ i
      → Watches kinds spsc (past_at i events) m → IsLinearizable kinds (reverse events)
  all_fine i m le w =
      subst (λ zs. IsLinearizable kinds (reverse zs)) (take_all i events le)
      (linearizable_now kinds spsc (past_at i events) m (history_past i) w)

  module _ (i : ℕ) (x : Event) (lt : i < length events) (read : x ≡ get_or events i x)
      (old new : Monitor) (w : Watches kinds spsc (past_at i events) old) where
    next : past_at (i + 1) events ≡ x ∷ past_at i events
    next = ap reverse (take_more events i x lt)
        ∙ reverse-append (take i events) (get_or events i x ∷ [])
        ∙ ap (λ y. y ∷ past_at i events) (sym read)

    history_next : IsHistory kinds (x ∷ past_at i events)
    history_next = subst (IsHistory kinds) next (history_past (i + 1))

    spsc_next : AreSpsc spsc (x ∷ past_at i events)
    spsc_next = subst (AreSpsc spsc) next (spsc_past (i + 1))

    rejected : (r : Rejection) → Verdict kinds spsc (past_at i events) x new (Err r)
        → Rejects kinds spsc (past_at i events) x r
    rejected (Refused r) v = v
    rejected Full v = v.0
    rejected Unwatched v = v

    pub stopped : (r : Rejection) → Judges old new x (Err r)
        → IsStop kinds spsc events (record { index = i; rejection = r })
    stopped r j = record {
      within = lt;
      event = x;
      next = next;
      before = linearizable_now kinds spsc (past_at i events) old (history_past i) w;
      rejects = rejected r (j kinds spsc (past_at i events) history_next spsc_next w);
    }

    pub gone_on : (u : Unit) → Judges old new x (Ok u)
        → Watches kinds spsc (past_at (i + 1) events) new
    gone_on u j = subst (λ zs. Watches kinds spsc zs new) (sym next)
        (j kinds spsc (past_at i events) history_next spsc_next w).1
