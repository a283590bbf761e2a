-- One event of a whole history.
use Rattle.std.proofs.Common.{◌≡◌, ℕ, zero, suc, ◌-◌, ◌^◌, ◌<◌, ◌≤◌, Bool, true, false, ◌==◌, ◌&&◌}
use Rattle.std.proofs.Common.{cond, arith}
use Rattle.std.proofs.Common.{List, [], ◌∷◌, ◌++◌, length, set, get_or, slice_get, Option, Some}
use Rattle.std.proofs.Common.{None, Result, Ok, Err, refl, ap, sym, ◌∙◌, subst}
use Rattle.std.specs.List.{remove}
use Rattle.std.proofs.lemmas.Bool.{eq-eqb, ne_eqb, eqb-true}
use Rattle.std.proofs.lemmas.Option.{none-some, same_Some}
use Rattle.std.proofs.lemmas.List.Sums.{length-filter, count_by-le-length}
use Rattle.calls_core.specs.declared.history.TheConstants.{WORKERS}
use Rattle.calls_core.specs.declared.history.Kind.{Kind}
use Rattle.calls_core.specs.declared.history.Kind.TheVariants.{Eventcount, Sequencer, Semaphores}
use Rattle.calls_core.specs.declared.history.Kind.TheVariants.{Cell, Database, Buffer}
use Rattle.calls_core.specs.declared.history.Op.{Op}
use Rattle.calls_core.specs.declared.history.Reply.{Reply}
use Rattle.calls_core.specs.declared.history.Action.{Action}
use Rattle.calls_core.specs.declared.history.Action.TheVariants.{Invoke, Respond}
use Rattle.calls_core.specs.declared.history.Event.{Event}
use Rattle.calls_core.specs.declared.history.PendingCall.{PendingCall}
use Rattle.calls_core.specs.Histories.{pending_of, invoked_by, pending_after, without}
use Rattle.calls_core.specs.Histories.{pending_calls, Takes, IsNext, IsHistory, IsHistoryOf}
use Rattle.calls_core.specs.Histories.{is_on, part}
use Rattle.calls_core.specs.Calls.{Fitting}
use Rattle.calls_core.specs.Completions.{IsLinearizable}
use Rattle.calls_core.specs.Outcomes.{HasOrderOf}
use Rattle.calls_core.proofs.Positions.{each_call_by, histories_have_calls}
use Rattle.calls_core.specs.Pending.{IsPendingOf, HasRoom}
use Rattle.calls_local.proofs.Parts.{a_part_is_a_history}
use Rattle.calls_local.proofs.Wholes.{linearizable_by_orders}
use Rattle.calls_spsc.specs.declared.monitor.Monitor.{Monitor as ItemMonitor}
use Rattle.calls_spsc.specs.Flows.{IsSpsc}
use Rattle.calls_monitor.specs.declared.object.Watch.{Watch}
use Rattle.calls_monitor.specs.declared.object.Watch.TheVariants.{Count, Ticket, Units, Items}
use Rattle.calls_monitor.specs.declared.object.Watch.TheVariants.{Nothing}
use Rattle.calls_monitor.specs.declared.monitor.Monitor.{Monitor}
use Rattle.calls_monitor.specs.declared.monitor.Rejection.{Rejection}
use Rattle.calls_monitor.specs.declared.monitor.Rejection.TheVariants.{Refused, Full, Unwatched}
use Rattle.calls_monitor.specs.Refusals.{Explains}
use Rattle.calls_monitor.specs.Watched.{is_listed, is_watched, has_fit_room, AreSpsc}
use Rattle.calls_monitor.specs.Monitors.{IsOf, Verdict}
use Rattle.calls_monitor.specs.kept.Watching.{call_count, WatchesOf, Watches, IsWatch, has_monitor}
use Rattle.calls_monitor.specs.kept.Watching.{Needs, IsHandedTo, IsPassed}
use Rattle.calls_monitor.proofs.Begun.{begun_few}
use Rattle.calls_monitor.proofs.Objects.{order_of_watch, none_of, roomy}
use Rattle.calls_monitor.proofs.Entries.{get_set}
use Rattle.calls_semaphores.proofs.Scanning.{get_other}

-- THE OBJECT OF AN EVENT

-- the object of an event, if its worker has this pending call
abbrev pub object_of : Action → Option PendingCall → Option ℕ
object_of (Invoke k op) o = Some k
object_of (Respond r) None = None
object_of (Respond r) (Some o) = Some o.object

on_object : (k j : ℕ) (a : Action) (o : Option PendingCall) → object_of a o ≡ Some j
    → is_on k a o ≡ (j == k)
on_object k j (Invoke i op) o e = ap (λ n. n == k) (same_Some i j e)
on_object k j (Respond r) None e = absurd (none-some j e)
on_object k j (Respond r) (Some o) e = ap (λ n. n == k) (same_Some o.object j e)

some_kind : (t : Option Kind) (op : Op) → Takes t op → (kind : Kind) × (t ≡ Some kind)
some_kind None op h = absurd h
some_kind (Some kind) op h = (kind, refl)

-- an object of that index has a kind
kind_of : (kinds : List Kind) (past : List Event) (w j : ℕ) (a : Action) (o : Option PendingCall)
    → IsHistory kinds past → pending_of w (pending_calls past) ≡ o → IsNext kinds a o
    → object_of a o ≡ Some j → (kind : Kind) × (slice_get kinds j ≡ Some kind)
kind_of kinds past w j (Invoke i op) None h e n is =
    some_kind (slice_get kinds j) op (subst (λ k. Takes (slice_get kinds k) op)
    (same_Some i j is) n)
kind_of kinds past w j (Invoke i op) (Some o) h e n is = absurd n
kind_of kinds past w j (Respond r) None h e n is = absurd n
kind_of kinds past w j (Respond r) (Some o) h e n is =
    some_kind (slice_get kinds j) o.op (subst (λ k. Takes (slice_get kinds k) o.op)
    (same_Some o.object j is) (each_call_by (Fitting kinds) w (pending_calls past) o
    (histories_have_calls kinds past h).pending_calls.fits e))

-- WHAT A MONITOR KNOWS

pub linearizable_now : (kinds : List Kind) (spsc : List ℕ) (past : List Event) (m : Monitor)
    → IsHistory kinds past → Watches kinds spsc past m → IsLinearizable kinds past
linearizable_now kinds spsc past m h w =
    (linearizable_by_orders kinds past h).1 (λ k kind e.
    order_of_watch kind (part k past) (w.each k kind e).0 (w.each k kind e).1.watches)

and_left : (a b : Bool) → (a && b) ≡ true → a ≡ true
and_left true b is = refl
and_left false b is = is

-- the monitor of a buffer is that of one with one producer and one consumer
listed_by_made : (k : ℕ) (spsc : List ℕ) (kind : Kind) (m : ItemMonitor) (past : List Event)
    → true ≡ is_watched spsc k kind → WatchesOf kind past (Items m) → is_listed k spsc ≡ true
listed_by_made k spsc (Eventcount n) m past made w = absurd w
listed_by_made k spsc Sequencer m past made w = absurd w
listed_by_made k spsc (Semaphores units) m past made w = absurd w
listed_by_made k spsc Cell m past made w = absurd w
listed_by_made k spsc (Database n) m past made w = absurd w
listed_by_made k spsc (Buffer n) m past made w =
    and_left (is_listed k spsc) (has_fit_room n) (sym made)

-- so it knows of its events what it needs
needs_by : (k : ℕ) (spsc : List ℕ) (kind : Kind) (past earlier : List Event) (w : Watch)
    → has_monitor w ≡ is_watched spsc k kind → WatchesOf kind earlier w
    → (is_listed k spsc ≡ true → IsSpsc past) → Needs w past
needs_by k spsc kind past earlier (Count m) made w spsc_is = tt
needs_by k spsc kind past earlier (Ticket m) made w spsc_is = tt
needs_by k spsc kind past earlier (Units m) made w spsc_is = tt
needs_by k spsc kind past earlier (Items m) made w spsc_is =
    spsc_is (listed_by_made k spsc kind m earlier made w)
needs_by k spsc kind past earlier Nothing made w spsc_is = tt

-- an event of object j
module _ (kinds : List Kind) (spsc : List ℕ) (past : List Event) (x : Event)
    (h : IsHistory kinds (x ∷ past)) (one_each : AreSpsc spsc (x ∷ past)) (fits : x.at < 2 ^ 64)
    (old : Monitor) (w : Watches kinds spsc past old) (j : ℕ)
    (of : object_of x.action (pending_of x.worker (pending_calls past)) ≡ Some j)
    (room : HasRoom x.action (length (pending_calls past)))
    (few : length (pending_calls past) ≤ WORKERS) where
  abbrev his : Option PendingCall
  his = pending_of x.worker (pending_calls past)

  own_part : part j (x ∷ past) ≡ x ∷ part j past
  own_part = ap (λ b. cond b (x ∷ part j past) (part j past)) (on_object j j x.action his of
      ∙ eq-eqb j j refl)

  other_part : (k : ℕ) → (j ≡ k → ⊥) → part k (x ∷ past) ≡ part k past
  other_part k other = ap (λ b. cond b (x ∷ part k past) (part k past))
      (on_object k j x.action his of ∙ ne_eqb j k other)

  own_kind : (kind : Kind) × (slice_get kinds j ≡ Some kind)
  own_kind = kind_of kinds past x.worker j x.action his h.2 refl h.1 of

  abbrev kind : Kind
  kind = own_kind.0

  own_watch : (v : Watch) × IsWatch spsc past old j kind v
  own_watch = w.each j kind own_kind.1

  own_history : IsHistoryOf kind (x ∷ part j past)
  own_history = subst (IsHistoryOf kind) own_part
      ((a_part_is_a_history kinds j (x ∷ past) h).4 kind own_kind.1)

  own_few : length (pending_calls (part j past)) ≤ length (pending_calls past)
  own_few = omega (
    arith,
    ap length (a_part_is_a_history kinds j past h.2).2,
    length-filter (λ (o : PendingCall). o.object == j) (pending_calls past),
    count_by-le-length (λ (o : PendingCall). o.object == j) (pending_calls past),
  )

  less_room : (a : Action) (m n : ℕ) → m ≤ n → HasRoom a n → HasRoom a m
  less_room (Invoke k op) m n le r = omega (arith, le, r)
  less_room (Respond r) m n le y = tt

  own_needs : Needs own_watch.0 (x ∷ part j past)
  own_needs =
      needs_by j spsc kind (x ∷ part j past) (part j past) own_watch.0 own_watch.1.made
      own_watch.1.watches (λ listed. subst IsSpsc own_part (one_each j listed))

  is_of : IsOf kinds past x j kind
  is_of = record { at = own_kind.1; own = own_part }

  module _ (new : Monitor) (pending : new.pending.items ≡ pending_calls (x ∷ past))
    where
      accepted : (v : Watch) → new.objects.items ≡ set old.objects.items j v
          → has_monitor v ≡ has_monitor own_watch.0 → WatchesOf kind (x ∷ part j past) v
          → Watches kinds spsc (x ∷ past) new
      accepted v is made now = record {
        pending = pending;
        each = λ k other e. elim (j == k) as (λ b. (j == k) ≡ b → (u : Watch)
            × IsWatch spsc (x ∷ past) new k other u) [
              | true ↦ λ same. own k other e (eqb-true j k same)
              | false ↦ λ apart. others k other e apart
            ] refl;
      }
        where
          own : (k : ℕ) (other : Kind) → slice_get kinds k ≡ Some other → j ≡ k → (u : Watch)
              × IsWatch spsc (x ∷ past) new k other u
          own k other e same =
              let kinds_same : kind ≡ other =
              same_Some kind other (sym own_kind.1 ∙ ap (slice_get kinds) same ∙ e) in
              subst (λ n. (u : Watch) × IsWatch spsc (x ∷ past) new n other u) same
              (subst (λ z. (u : Watch) × IsWatch spsc (x ∷ past) new j z u) kinds_same (
                v,
                record {
                  is = ap (λ us. slice_get us j) is
                      ∙ get_set old.objects.items j own_watch.0 v own_watch.1.is;
                  made = made ∙ own_watch.1.made;
                  watches = subst (λ zs. WatchesOf kind zs v) (sym own_part) now;
                },
              ))

          others : (k : ℕ) (other : Kind) → slice_get kinds k ≡ Some other → (j == k) ≡ false
              → (u : Watch) × IsWatch spsc (x ∷ past) new k other u
          others k other e apart =
              let differ : j ≡ k → ⊥ = λ same.
              (let yes : (j == k) ≡ true = eq-eqb j k same in absurd (cc)) in
              let r = w.each k other e in (
                r.0,
                record {
                  is = ap (λ us. slice_get us k) is ∙ get_other old.objects.items j k v differ
                      ∙ r.1.is;
                  made = r.1.made;
                  watches = subst (λ zs. WatchesOf other zs r.0) (sym (other_part k differ))
                      r.1.watches;
                },
              )

      few_begun : call_count (part j past) ≤ 2 ^ 64 - 2
      few_begun = begun_few kind x (part j past) own_history fits (omega (arith, own_few, few))

      judged : (result : Result Unit Rejection) → IsHandedTo own_watch.0 old.objects.items
          new.objects.items j x result → Verdict kinds spsc past x new result
      judged (Ok u) t =
          let now : Watches kinds spsc (x ∷ past) new = accepted t.0 t.1 t.2
          (t.3 kind (part j past) own_history own_needs own_watch.1.watches few_begun) in
          (linearizable_now kinds spsc (x ∷ past) new h now, now)
      judged (Err (Refused r)) t =
          let explains : Explains kind (part j past) x r.refusal =
          t.1.2 kind (part j past) own_history own_needs own_watch.1.watches few_begun in
          record {
            kind = kind;
            of = subst (λ n. IsOf kinds past x n kind) (sym t.0) is_of;
            watched = subst (λ n. is_watched spsc n kind ≡ true) (sym t.0)
                (sym own_watch.1.made ∙ t.1.1);
            explains = subst (λ n. Explains kind (part n past) x r.refusal) (sym t.0) explains;
            none = λ l. none_of kind (part j past) x r.refusal explains
                (subst (HasOrderOf kind) own_part
                ((linearizable_by_orders kinds (x ∷ past) h).0 l j kind own_kind.1));
          }
      judged (Err Full) t =
          absurd (t.1 (roomy x (part j past) x.action
          (less_room x.action (length (pending_calls (part j past))) (length (pending_calls past))
          own_few room) few_begun kind own_watch.0 t.0 own_history.2 own_watch.1.watches))
      judged (Err Unwatched) t = record {
        object = j;
        kind = kind;
        of = is_of;
        unwatched = sym own_watch.1.made ∙ t;
      }

      pub passed : (result : Result Unit Rejection) → IsPassed old.objects.items new.objects.items j
          x
          result → Verdict kinds spsc past x new result
      passed result t = judged result (t own_watch.0 own_watch.1.is)

-- EVENTS

pub below_by : (m n : ℕ) → m ≤ n → (m ≡ n → ⊥) → m < n
below_by zero zero le apart = absurd (apart refl)
below_by zero (suc n) le apart = omega arith
below_by (suc m) zero le apart = absurd (omega (arith, le))
below_by (suc m) (suc n) le apart =
    omega (arith, below_by m n (omega (arith, le)) (λ e. apart (ap suc e)))

module _ (kinds : List Kind) (spsc : List ℕ) (past : List Event) (x : Event)
    (h : IsHistory kinds (x ∷ past)) (one_each : AreSpsc spsc (x ∷ past)) (fits : x.at < 2 ^ 64)
    (old : Monitor) (w : Watches kinds spsc past old)
    (few : length old.pending.items ≤ WORKERS) where
  entries : length (pending_calls past) ≡ length old.pending.items
  entries = sym (ap length w.pending)

  pub invoked : (j : ℕ) (op : Op) → x.action ≡ Invoke j op → length old.pending.items < WORKERS
      → (new : Monitor) → new.pending.items ≡ old.pending.items ++ invoked_by x j op ∷ []
      → (result : Result Unit Rejection) → IsPassed old.objects.items new.objects.items j x
      result → Verdict kinds spsc past x new result
  invoked j op is less new more result t =
      passed kinds spsc past x h one_each fits old w j
      (ap (λ a. object_of a (pending_of x.worker (pending_calls past))) is)
      (subst (λ a. HasRoom a (length (pending_calls past))) (sym is) (omega (arith, entries, less)))
      (omega (arith, entries, few)) new
      (more ∙ ap (λ zs. zs ++ invoked_by x j op ∷ []) w.pending
      ∙ sym (ap (λ a. pending_after x a (pending_calls past)) is)) result t

  pub nobody : (r : Reply) → x.action ≡ Respond r
      → pending_of x.worker old.pending.items ≡ None → ⊥
  nobody r is none =
      subst (IsNext kinds (Respond r)) (ap (pending_of x.worker) (sym w.pending) ∙ none)
      (subst (λ a. IsNext kinds a (pending_of x.worker (pending_calls past))) is h.1)

  pub responded : (r : Reply) → x.action ≡ Respond r → (i : ℕ) (p : PendingCall)
      → IsPendingOf old.pending.items x.worker i → p ≡ get_or old.pending.items i p
      → (new : Monitor) → new.pending.items ≡ remove old.pending.items i
      → (result : Result Unit Rejection) → IsPassed old.objects.items new.objects.items p.object x
      result → Verdict kinds spsc past x new result
  responded r is i p found got new less result t =
      passed kinds spsc past x h one_each fits old w p.object
      (ap (λ a. object_of a (pending_of x.worker (pending_calls past))) is
      ∙ ap (λ os. object_of (Respond r) (pending_of x.worker os)) (sym w.pending)
      ∙ ap (object_of (Respond r)) (found.first p) ∙ ap (λ (q : PendingCall). Some q.object)
      (sym got))
      (subst (λ a. HasRoom a (length (pending_calls past))) (sym is) tt)
      (omega (arith, entries, few)) new
      (less ∙ sym found.others ∙ ap (without x.worker) w.pending
      ∙ sym (ap (λ a. pending_after x a (pending_calls past)) is)) result t
