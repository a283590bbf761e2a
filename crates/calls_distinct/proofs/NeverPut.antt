-- Gets of values that were never put, with one more event.
use Rattle.std.proofs.Common.{◌≡◌, ℕ, inl, inr, zero, suc, ◌+◌, ◌<◌, ◌≤◌, Bool, true, false, not, ◌==◌}
use Rattle.std.proofs.Common.{◌&&◌, ◌||◌, nat_lt, nat_le, List, [], ◌∷◌, ◌++◌, Option, Some, None}
use Rattle.std.proofs.Common.{length, reverse, get_or, refl, ap, sym, ◌∙◌, arith, subst, count_by}
use Rattle.std.specs.List.{Contains}
use Rattle.std.proofs.lemmas.Bool.{and_parts, and_from, lt-ltb, ltb-true, le-leb, eqb-true, eq-eqb}
use Rattle.std.proofs.lemmas.Bool.{false≢true, cases_lt}
use Rattle.calls_core.specs.declared.history.Kind.{Kind}
use Rattle.calls_core.specs.declared.history.Action.{Action}
use Rattle.calls_core.specs.declared.history.Action.TheVariants.{Invoke, Respond}
use Rattle.calls_core.specs.declared.history.Event.{Event}
use Rattle.calls_core.specs.declared.history.PendingCall.{PendingCall}
use Rattle.calls_core.specs.declared.history.Call.{Call}
use Rattle.calls_core.specs.Calls.{IsCallOf, Early}
use Rattle.calls_core.specs.Histories.{pending_of, pending_after, ended_call}
use Rattle.calls_core.specs.Histories.{completed_calls, pending_calls, IsHistoryOf}
use Rattle.calls_core.specs.Beginnings.{past_at}
use Rattle.calls_core.proofs.Beginnings.{history_at, past_all}
use Rattle.calls_core.proofs.Lists.{each_weaker, all_from_each}
use Rattle.calls_core.proofs.Counting.{one, count_less}
use Rattle.calls_core.proofs.Positions.{are_calls_of}
use Rattle.calls_distinct.specs.declared.cell.Fault.TheVariants.{Nowhere}
use Rattle.calls_distinct.specs.Cells.{is_put, value, put_call, put_pending, times, put_by}
use Rattle.calls_distinct.specs.Cells.{put_pending_by, Shows}
use Rattle.calls_distinct.specs.Outcomes.{AreAllPut, IsFirstNowhere}
use Rattle.calls_distinct.specs.kept.Nowhere.{EndsWith, invokes_put, is_nowhere}
use Rattle.calls_distinct.proofs.Faults.{count_parts}
use Rattle.calls_distinct.proofs.Facing.{either, not_true}
use Rattle.calls_distinct.proofs.Earlier.{counted_next, invoked}
use Rattle.calls_distinct.proofs.Steps.{past_more}

-- how often a value was put, up to a position
abbrev times_by : List Call → List PendingCall → ℕ → ℕ → ℕ
times_by done pending v m = count_by (put_by v m) done + count_by (put_pending_by v m) pending

-- PUTS BEFORE A POSITION

by_less : (done : List Call) (pending : List PendingCall) (v m : ℕ)
    → times_by done pending v m ≤ times done pending v
by_less done pending v m = omega (
  arith,
  count_parts (put_call v) (λ (c : Call). nat_le c.first m) done,
  count_parts (put_pending v) (λ (o : PendingCall). nat_le o.first m) pending,
)

-- each put was invoked up to the last event
by_all : (kind : Kind) (x : Event) (past : List Event) → IsHistoryOf kind (x ∷ past) → (v : ℕ)
    → times (completed_calls (x ∷ past)) (pending_calls (x ∷ past)) v
    ≤ times_by (completed_calls (x ∷ past)) (pending_calls (x ∷ past)) v x.at
by_all kind x past h v =
    let are = are_calls_of kind (x ∷ past) h in
    let Soon : Call → Type 0 = λ (c : Call). put_call v c ≡ true → put_by v x.at c ≡ true in
    let SoonPending : PendingCall → Type 0 =
    λ (o : PendingCall). put_pending v o ≡ true → put_pending_by v x.at o ≡ true in
    omega (
      arith,
      count_less (put_call v) (put_by v x.at) (completed_calls (x ∷ past))
          (all_from_each Soon (completed_calls (x ∷ past))
          (each_weaker (IsCallOf kind (x.at + 1)) Soon (λ c k e.
          (let lasts = k.lasts in let early = k.early in
          and_from (put_call v c) (nat_le c.first x.at) e (le-leb c.first x.at (omega arith))))
          (completed_calls (x ∷ past)) are.completed)),
      count_less (put_pending v) (put_pending_by v x.at) (pending_calls (x ∷ past))
          (all_from_each SoonPending (pending_calls (x ∷ past))
          (each_weaker (Early (x.at + 1)) SoonPending (λ o k e.
          (let early : o.first < x.at + 1 = k in
          and_from (put_pending v o) (nat_le o.first x.at) e
          (le-leb o.first x.at (omega arith))))
          (pending_calls (x ∷ past)) are.early)),
    )

-- THE SET OF VALUES

put_one : (n : ℕ) (b : Bool) → nat_lt 0 (n + one b) ≡ (b || nat_lt 0 n)
put_one n true = lt-ltb 0 (n + one true) (omega arith)
put_one n false = (let same : n + one false ≡ n = omega arith in ap (nat_lt 0) same)

invoked_put : (v : ℕ) (x : Event) (a : Action) → invoked (put_pending v) x a ≡ one (invokes_put v a)
invoked_put v x (Invoke k op) = refl
invoked_put v x (Respond r) = refl

-- whether a value was put
abbrev pub was_put : List Event → ℕ → Bool
was_put past v = nat_lt 0 (times (completed_calls past) (pending_calls past) v)

pub put_more : (kind : Kind) (x : Event) (past : List Event) → IsHistoryOf kind (x ∷ past)
    → (v : ℕ) → (invokes_put v x.action || was_put past v) ≡ was_put (x ∷ past) v
put_more kind x past h v =
    let done = completed_calls past in
    let pending = pending_calls past in
    let o = pending_of x.worker pending in
    let next = counted_next (put_call v) (put_pending v) (λ t r p. refl) kind x x.action o pending
    done refl h.1 in
    sym (ap (nat_lt 0) (next ∙ ap (λ n. times done pending v + n) (invoked_put v x x.action))
    ∙ put_one (times done pending v) (invokes_put v x.action))

-- ONE MORE EVENT

abbrev position_of : List Call → ℕ
position_of [] = 0
position_of (c ∷ cs) = c.last

ended_at : (x : Event) (a : Action) (o : Option PendingCall) (c : Call)
    → ended_call x a o ≡ c ∷ [] → c.last ≡ x.at
ended_at x (Invoke k op) o c e = cc
ended_at x (Respond r) None c e = cc
ended_at x (Respond r) (Some o) c e = sym (ap position_of e)

module _ (kind : Kind) (x : Event) (past : List Event) (h : IsHistoryOf kind (x ∷ past))
    (put : ℕ → Bool) (are : (v : ℕ) → put v ≡ was_put (x ∷ past) v) where
  abbrev o : Option PendingCall
  o = pending_of x.worker (pending_calls past)

  -- a get of a value that is not in the set
  pub shows_nowhere : (c : Call) → EndsWith x o (Some c) → is_nowhere put c ≡ true
      → Shows (x ∷ past) (Nowhere c)
  shows_nowhere c ends e =
      let p = and_parts (not (is_put c.op) && not (value c == 0)) (not (put (value c))) e in
      let q = and_parts (not (is_put c.op)) (not (value c == 0)) p.0 in
      let never : was_put (x ∷ past) (value c) ≡ false =
      sym (are (value c)) ∙ not_true (put (value c)) p.1 in
      let none : times (completed_calls (x ∷ past)) (pending_calls (x ∷ past)) (value c) ≡ 0 =
      not_some (times (completed_calls (x ∷ past)) (pending_calls (x ∷ past)) (value c)) never in
      record {
        known = subst (λ cs. Contains (cs ++ completed_calls past) c) (sym ends)
            (zero, omega arith, refl);
        get = not_true (is_put c.op) q.0;
        some = λ z. false≢true (sym (not_true (value c == 0) q.1) ∙ eq-eqb (value c) 0 z);
        none = omega (
          arith,
          by_less (completed_calls (x ∷ past)) (pending_calls (x ∷ past)) (value c) c.last,
        );
      }
    where
      not_some : (n : ℕ) → nat_lt 0 n ≡ false → n ≡ 0
      not_some zero e = refl
      not_some (suc n) e = absurd (false≢true (sym e ∙ lt-ltb 0 (suc n) (omega arith)))

  -- what shows a fault of a completed call did so before
  before : (g : Call) → Contains (completed_calls past) g → Shows (x ∷ past) (Nowhere g)
      → Shows past (Nowhere g)
  before g k s =
      let v = value g in
      let m = g.last in
      let none = s.none in
      record {
        known = k;
        get = s.get;
        some = s.some;
        none = omega (
          arith,
          counted_next (put_by v m) (put_pending_by v m) (λ t r p. refl) kind x x.action o
              (pending_calls past) (completed_calls past) refl h.1,
        );
      }

  -- a get of a value that was put
  fine : (c : Call) → EndsWith x o (Some c) → is_nowhere put c ≡ false
      → Shows (x ∷ past) (Nowhere c) → ⊥
  fine c ends e s =
      let other : (value c == 0) ≡ false = elim (either (value c == 0)) [
        | inr z ↦ z
        | inl z ↦ absurd (s.some (eqb-true (value c) 0 z))
      ] in
      let test = and_from (not (is_put c.op)) (not (value c == 0)) (ap not s.get) (ap not other) in
      let there : was_put (x ∷ past) (value c) ≡ true =
      sym (are (value c)) ∙ must (not (is_put c.op) && not (value c == 0)) (put (value c)) e test in
      let some = ltb-true 0 (times (completed_calls (x ∷ past)) (pending_calls (x ∷ past))
      (value c)) there in
      let at : c.last ≡ x.at = ended_at x x.action o c ends in
      let none : times_by (completed_calls (x ∷ past)) (pending_calls (x ∷ past)) (value c) x.at
      ≡ 0 = ap (times_by (completed_calls (x ∷ past)) (pending_calls (x ∷ past)) (value c)) (sym at)
      ∙ s.none in
      omega (arith, by_all kind x past h (value c))
    where
      must : (a b : Bool) → (a && not b) ≡ false → a ≡ true → b ≡ true
      must true true e f = refl
      must true false e f = absurd (false≢true (sym e))
      must false b e f = absurd (false≢true f)

  -- no get of the history, with one more event, has such a value
  pub none_more : (ended : Option Call) → EndsWith x o ended
      → ((c : Call) → ended ≡ Some c → is_nowhere put c ≡ false) → AreAllPut past
      → AreAllPut (x ∷ past)
  none_more None ends tests all g s =
      all g (before g (subst (λ cs. Contains (cs ++ completed_calls past) g) ends s.known) s)
  none_more (Some c) ends tests all g s =
      in_more (subst (λ cs. Contains (cs ++ completed_calls past) g) ends s.known)
    where
      in_more : Contains (c ∷ completed_calls past) g → ⊥
      in_more (zero, lt, e) =
          fine g (subst (λ (d : Call). EndsWith x o (Some d)) e ends)
          (subst (λ (d : Call). is_nowhere put d ≡ false) e (tests c refl)) s
      in_more (suc k, lt, e) = all g (before g (k, omega arith, e) s)

-- THE SEARCH

-- what is kept of the first i events, in which each value that was got was put
pub record IsWatched (events : List Event) (i : ℕ) (os : List PendingCall) (has : ℕ → Bool)
    : Type 0 where
  pub pending : os ≡ pending_calls (past_at i events)
  pub put : (v : ℕ) → has v ≡ was_put (past_at i events) v
  pub none : (j : ℕ) → j ≤ i → AreAllPut (past_at j events)

pub watched_whole : (events : List Event) (i : ℕ) (pending : List PendingCall) (put : ℕ → Bool)
    → length events ≤ i → IsWatched events i pending put → (j : ℕ) → AreAllPut (past_at j events)
watched_whole events i pending put le w j = elim (cases_lt i j) [
  | inl lt ↦ subst AreAllPut (past_all events i le ∙ sym (past_all events j (omega arith)))
      (w.none i (omega arith))
  | inr ge ↦ w.none j ge
]

module _ (kind : Kind) (events : List Event) (h : IsHistoryOf kind (reverse events)) (i : ℕ)
    (x : Event) (lt : i < length events) (e : x ≡ get_or events i x)
    (pending next : List PendingCall) (put more : ℕ → Bool) (w : IsWatched events i pending put)
    (ended : Option Call) (ends : EndsWith x (pending_of x.worker pending) ended)
    (n : next ≡ pending_after x x.action pending)
    (m : (v : ℕ) → more v ≡ (invokes_put v x.action || put v)) where
  abbrev past : List Event
  past = past_at i events

  is : past_at (i + 1) events ≡ x ∷ past
  is = past_more events i x lt ∙ ap (λ (y : Event). y ∷ past) (sym e)

  history : IsHistoryOf kind (x ∷ past)
  history = subst (IsHistoryOf kind) is (history_at kind (i + 1) events h)

  more_are : (v : ℕ) → more v ≡ was_put (x ∷ past) v
  more_are v = m v ∙ ap (λ b. invokes_put v x.action || b) (w.put v) ∙ put_more kind x past history v

  ends_there : EndsWith x (pending_of x.worker (pending_calls past)) ended
  ends_there = subst (λ os. EndsWith x (pending_of x.worker os) ended) w.pending ends

  pub watched_to : (c : Call) → ended ≡ Some c → is_nowhere more c ≡ true
      → IsFirstNowhere events i c
  watched_to c some test = record {
    within = lt;
    shows = subst (λ zs. Shows zs (Nowhere c)) (sym is) (shows_nowhere kind x past history more
        more_are c
        (subst (EndsWith x (pending_of x.worker (pending_calls past))) some ends_there) test);
    before = w.none;
  }

  pub watched_more : ((c : Call) → ended ≡ Some c → is_nowhere more c ≡ false)
      → IsWatched events (i + 1) next more
  watched_more tests = record {
    pending = n ∙ ap (pending_after x x.action) w.pending ∙ sym (ap pending_calls is);
    put = λ v. more_are v ∙ sym (ap (λ zs. was_put zs v) is);
    none = λ j le. elim (cases_lt j (i + 1)) [
      | inl less ↦ w.none j (omega arith)
      | inr ge ↦
          (let same : i + 1 ≡ j = omega arith in
          subst (λ k. AreAllPut (past_at k events)) same
          (subst AreAllPut (sym is) (none_more kind x past history more more_are ended ends_there
          tests (w.none i (omega arith)))))
    ];
  }
