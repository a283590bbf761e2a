-- A schedule of the jobs of the items is an order of their windows by ranks.
use Rattle.std.proofs.Common.{◌≡◌, ℕ, zero, suc, ◌+◌, ◌<◌, ◌≤◌, ◌⊎◌, inl, inr, List, []}
use Rattle.std.proofs.Common.{◌∷◌, drop, refl, arith}
use Rattle.std.specs.List.{Contains}
use Rattle.std.specs.List.Sorted.{IsPermutation}
use Rattle.std.proofs.lemmas.Bool.{cases_lt}
use Rattle.std.proofs.lemmas.List.Elements.{Contains-append_right}
use Rattle.calls_core.specs.declared.history.PendingCall.{PendingCall}
use Rattle.calls_core.specs.declared.history.Call.{Call}
use Rattle.calls_core.specs.Lists.{Each, EachPair}
use Rattle.calls_core.proofs.Lists.{each_weaker}
use Rattle.calls_schedule.specs.declared.job.Job.{Job}
use Rattle.calls_schedule.specs.Schedules.{IsTimed, AreTimed, Precedes, IsSchedule}
use Rattle.calls_buffers.specs.declared.windows.Window.{Window}
use Rattle.calls_buffers.specs.kept.Windows.{in_by, out_from, MayPrecede, HaveRoom, AreRanked}
use Rattle.calls_buffers.specs.kept.Windows.{IsWindow, IsWithin, AreWindows}
use Rattle.calls_buffers.specs.kept.Jobs.{Before, IsHeld, IsPushed, IsJobFrom, AreJobsFrom}
use Rattle.calls_buffers.specs.kept.Ranks.{AreFit}
use Rattle.calls_buffers.proofs.AreWindows.{one_of}

-- it was invoked before it was in
abbrev pub Begun : Window → Type 0
Begun w = w.put_first ≤ in_by w

module _ (ws : List Window) (begun : Each Begun ws) where
  -- what was in before another one was put in has its job before it
  precedes : (x y : Window) (i j : Job) → Contains ws x → Contains ws y → IsJobFrom ws x i
      → IsJobFrom ws y j → Before y x → Precedes j i
  precedes x y i j kx ky h k lt =
      let bx : ℕ = in_by x in
      let by : ℕ = in_by y in
      let first : by < x.put_first = lt in
      let x_begun : x.put_first ≤ bx = one_of Begun ws x begun kx in
      let y_begun : y.put_first ≤ by = one_of Begun ws y begun ky in
      let i_by : i.by ≡ bx + 1 = h.by in
      let j_by : j.by ≡ by + 1 = k.by in
      record {
        early = early k.early_some;
        late = late h.late_some;
        by = omega (arith, first, x_begun, i_by, j_by);
      }
    where
      early : (j.early ≡ out_from y) ⊎ IsHeld ws y j.early → j.early ≤ i.early
      early (inl e) = (let o : ℕ = out_from y in
          let le : o ≤ i.early = one_of (λ (z : Window). Before z x → out_from z ≤ i.early) ws y
          h.early_each ky lt in
          let same : j.early ≡ o = e in omega (arith, le, same))
      early (inr q) = (let o : ℕ = out_from q.other in
          let bz : ℕ = in_by q.other in
          let by : ℕ = in_by y in
          let one : bz < y.put_first = q.before in
          let two : by < x.put_first = lt in
          let y_begun : y.put_first ≤ by = one_of Begun ws y begun ky in
          let le : o ≤ i.early = one_of (λ (z : Window). Before z x → out_from z ≤ i.early) ws
          q.other h.early_each q.known
          (let l : bz < x.put_first = omega (arith, one, two, y_begun) in l) in
          let same : j.early ≡ o = q.is in omega (arith, le, same))

      late : (i.late ≡ x.take_last + 1) ⊎ IsPushed ws x i.late → j.late ≤ i.late
      late (inl e) = omega (
        arith,
        e,
        one_of (λ (z : Window). Before y z → j.late ≤ z.take_last + 1)
            ws x k.late_each kx lt,
      )
      late (inr q) = (
          let bx : ℕ = in_by x in
          let by : ℕ = in_by y in
          let one : bx < q.other.put_first = q.before in
          let two : by < x.put_first = lt in
          let x_begun : x.put_first ≤ bx = one_of Begun ws x begun kx in
          omega (
            arith,
            q.is,
            one_of (λ (z : Window). Before y z → j.late ≤ z.take_last + 1) ws
                q.other k.late_each q.known
                (let l : by < q.other.put_first = omega (arith, one, two, x_begun) in l),
          ))

  module _ (n : ℕ) (most : ℕ → ℕ) (rises : (p q : ℕ) → p ≤ q → most p ≤ most q) where
    may_precede : (x y : Window) (i j : Job) (r s : ℕ) → Contains ws x → Contains ws y
        → IsJobFrom ws x i → IsJobFrom ws y j → most i.early ≤ r → IsTimed n most s j → r < s
        → (Precedes j i → ⊥) → MayPrecede x y
    may_precede x y i j r s kx ky h k early timed lt never = record {
      put = elim (cases_lt (in_by y) x.put_first) [
        | inl less ↦ absurd (never (precedes x y i j kx ky h k less))
        | inr le ↦ le
      ];
      take = elim (cases_lt y.take_last (out_from x)) [
        | inl less ↦ (let o : ℕ = out_from x in
            let one : y.take_last < o = less in
            let two : o ≤ i.early = h.early in
            absurd (omega (
              arith,
              timed.late,
              rises j.late i.early (omega (arith, one, two, k.late)),
              early,
              lt,
            )))
        | inr le ↦ le
      ];
    }

    later : (x : Window) (i : Job) (r : ℕ) → Contains ws x → IsJobFrom ws x i → most i.early ≤ r
        → (s : ℕ) → r < s → (ys : List Window) (js : List Job)
        → ((y : Window) → Contains ys y → Contains ws y) → AreJobsFrom ws ys js
        → AreTimed n most s js → Each (λ (j : Job). Precedes j i → ⊥) js → Each (MayPrecede x) ys
    later x i r kx h early s lt [] js within k timed never = tt
    later x i r kx h early s lt (y ∷ ys) [] within k timed never = absurd k
    later x i r kx h early s lt (y ∷ ys) (j ∷ js) within k timed never = (
      may_precede x y i j r s kx (within y (zero, omega arith, refl)) h k.0 early timed.0 lt
          never.0,
      later x i r kx h early (s + 1) (omega (arith, lt)) ys js
          (λ z q. within z (Contains-append_right (y ∷ []) ys z q)) k.1 timed.1 never.1,
    )

    all_pairs : (s : ℕ) (ys : List Window) (js : List Job)
        → ((y : Window) → Contains ys y → Contains ws y) → AreJobsFrom ws ys js
        → AreTimed n most s js → EachPair (λ (i j : Job). Precedes j i → ⊥) js
        → EachPair MayPrecede ys
    all_pairs s [] js within k timed never = tt
    all_pairs s (y ∷ ys) [] within k timed never = absurd k
    all_pairs s (y ∷ ys) (j ∷ js) within k timed never =
        let rest = λ (z : Window) (q : Contains ys z).
        within z (Contains-append_right (y ∷ []) ys z q) in (
          later y j s (within y (zero, omega arith, refl)) k.0 timed.0.early (s + 1) (omega arith)
              ys js rest k.1 timed.1 never.0,
          all_pairs (s + 1) ys js rest k.1 timed.1 never.1,
        )

    -- an item with a rank that is greater by n comes in when this one may be out
    comes : (x y : Window) (i j : Job) (r s : ℕ) → IsJobFrom ws x i → IsJobFrom ws y j
        → most i.early ≤ r → IsTimed n most s j → r + n ≤ s → out_from x ≤ in_by y
    comes x y i j r s h k early timed le =
        elim (cases_lt (in_by y) (out_from x)) [
          | inl less ↦ (let o : ℕ = out_from x in
              let b : ℕ = in_by y in
              let one : b < o = less in
              let two : o ≤ i.early = h.early in
              let three : j.by ≡ b + 1 = k.by in
              absurd (omega (
                arith,
                timed.by,
                rises j.by i.early (omega (arith, one, two, three)),
                early,
                le,
              )))
          | inr l ↦ l
        ]

    all_come : (x : Window) (i : Job) (r : ℕ) → IsJobFrom ws x i → most i.early ≤ r → (s : ℕ)
        → r + n ≤ s → (ys : List Window) (js : List Job) → AreJobsFrom ws ys js
        → AreTimed n most s js → Each (λ (y : Window). out_from x ≤ in_by y) ys
    all_come x i r h early s le [] js k timed = tt
    all_come x i r h early s le (y ∷ ys) [] k timed = absurd k
    all_come x i r h early s le (y ∷ ys) (j ∷ js) k timed = (
      comes x y i j r s h k.0 early timed.0 le,
      all_come x i r h early (s + 1) (omega (arith, le)) ys js k.1 timed.1,
    )

    room_for : (x : Window) (i : Job) (r : ℕ) → IsJobFrom ws x i → most i.early ≤ r → (m s : ℕ)
        → r + n ≤ s + m → (ys : List Window) (js : List Job) → AreJobsFrom ws ys js
        → AreTimed n most s js → Each (λ (y : Window). out_from x ≤ in_by y) (drop m ys)
    room_for x i r h early zero s le ys js k timed =
        all_come x i r h early s (omega (arith, le)) ys js k timed
    room_for x i r h early (suc m) s le [] js k timed = tt
    room_for x i r h early (suc m) s le (y ∷ ys) [] k timed = absurd k
    room_for x i r h early (suc m) s le (y ∷ ys) (j ∷ js) k timed =
        room_for x i r h early m (s + 1) (omega (arith, le)) ys js k.1 timed.1

    have_room : (s : ℕ) (ys : List Window) (js : List Job) → AreJobsFrom ws ys js
        → AreTimed n most s js → HaveRoom n ys
    have_room s [] js k timed = tt
    have_room s (y ∷ ys) [] k timed = absurd k
    have_room s (y ∷ ys) (j ∷ js) k timed = (
      room_for y j s k.0 timed.0.early n s (omega arith) (y ∷ ys) (j ∷ js) k timed,
      have_room (s + 1) ys js k.1 timed.1,
    )

  pub are_ranked : (n : ℕ) (jobs js : List Job) (ys : List Window) → IsPermutation ws ys
      → ((y : Window) → Contains ys y → Contains ws y) → AreJobsFrom ws ys js
      → IsSchedule n jobs js → AreRanked n ws ys
  are_ranked n jobs js ys moved within k h = record {
    all = moved;
    pairs = all_pairs n h.most h.counts.rises 0 ys js within k h.timed h.preferred;
    room = have_room n h.most h.counts.rises 0 ys js k h.timed;
  }

-- the windows of a history have jobs
pub are_fit : (end : ℕ) (done : List Call) (pending : List PendingCall) (ws : List Window)
    → AreWindows done pending end ws → AreFit end ws
are_fit end done pending ws h = record {
  ascend = h.ascend;
  within = each_weaker (IsWindow done pending end) (IsWithin end) (λ w k. k.within) ws h.each;
  some = each_weaker (IsWindow done pending end) (λ (w : Window). in_by w < end) (λ w k. k.some) ws
      h.each;
  begun = each_weaker (IsWindow done pending end) Begun
      (λ w k. omega (arith, k.within.put, k.follows)) ws h.each;
}
