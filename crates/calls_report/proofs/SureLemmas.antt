-- The count that was surely reached: the advances that have returned are those that were invoked,
-- but for the pending ones.
use Rattle.std.proofs.Common.{◌≡◌, ℕ, suc, ◌+◌, ◌-◌, ◌<◌, ◌≤◌, ◌==◌, nat_lt, max, Bool, true, false}
use Rattle.std.proofs.Common.{◌&&◌, List, [], ◌∷◌, ◌++◌, Option, Some, None, refl, ap, sym, ◌∙◌, arith}
use Rattle.std.proofs.Common.{cond, subst, count_by, reverse, take, drop, get_or, length, IfSome}
use Rattle.std.proofs.Common.{if◌then◌else◌, drop-cons, take-append-drop}
use Rattle.std.specs.List.{cons_option}
use Rattle.std.proofs.lemmas.Bool.{le-ltb, lt-ltb}
use Rattle.std.proofs.lemmas.Option.{none-some}
use Rattle.std.proofs.lemmas.List.{take_more, reverse-append}
use Rattle.std.proofs.Math.Bool.{and-false}
use Rattle.calls_core.specs.declared.history.Kind.{Kind}
use Rattle.calls_core.specs.declared.history.Action.{Action}
use Rattle.calls_core.specs.declared.history.Action.TheVariants.{Invoke, Respond}
use Rattle.calls_core.specs.declared.history.Event.{Event}
use Rattle.calls_core.specs.declared.history.PendingCall.{PendingCall}
use Rattle.calls_core.specs.declared.history.Call.{Call}
use Rattle.calls_core.specs.Histories.{clock, pending_of, without, invoked_by, pending_after}
use Rattle.calls_core.specs.Histories.{pending_calls, completion, ended_call, completed_calls}
use Rattle.calls_core.specs.Histories.{IsHistory}
use Rattle.calls_core.proofs.Counting.{one, one_no, count_cons, count_append}
use Rattle.calls_counts.specs.Faults.{is_advance, least}
use Rattle.calls_counts.proofs.Events.{count_without}
use Rattle.calls_report.specs.Counting.{invokes_advance_of, is_advance_of}
use Rattle.calls_report.specs.Remarks.{returned_advances, returned_after, shown_count, greatest_shown}
use Rattle.calls_report.specs.kept.Sure.{is_pending_advance, is_open_after, left_after, raised_by}

-- ADVANCES, BY A TEST OF THEIR INVOCATIONS' POSITIONS

abbrev called_at : (ℕ → Bool) → ℕ → Event → Bool
called_at q k x = q x.at && is_advance_of k x

abbrev done_at : (ℕ → Bool) → ℕ → Call → Bool
done_at q k c = q c.first && ((c.object == k) && is_advance c.op)

abbrev open_at : (ℕ → Bool) → ℕ → PendingCall → Bool
open_at q k o = q o.first && is_pending_advance k o

none_taken : (w : ℕ) (os : List PendingCall) → pending_of w os ≡ None → without w os ≡ os
none_taken w [] e = refl
none_taken w (y ∷ os) e =
    elim (y.worker == w) as (λ b. cond b (Some y) (pending_of w os) ≡ None
    → cond b os (y ∷ without w os) ≡ y ∷ os) [
      | true ↦ λ is. absurd (none-some y (sym is))
      | false ↦ λ is. ap (λ zs. y ∷ zs) (none_taken w os is)
    ] e

one_more : (q : ℕ → Bool) (k : ℕ) (x : Event) (os : List PendingCall) (cs : List Call) (n : ℕ)
    (a : Action) (o : Option PendingCall) → pending_of x.worker os ≡ o
    → n ≡ count_by (done_at q k) cs + count_by (open_at q k) os
    → one (q x.at && invokes_advance_of k a) + n
    ≡ count_by (done_at q k) (ended_call x a o ++ cs)
    + count_by (open_at q k) (pending_after x a os)
one_more q k x os cs n (Invoke j op) o is e =
    omega (
      arith,
      e,
      count_append (open_at q k) os (invoked_by x j op ∷ []),
      count_cons (open_at q k) (invoked_by x j op) [],
    )
one_more q k x os cs n (Respond r) None is e =
    omega (
      arith,
      e,
      one_no (q x.at && false) (and-false (q x.at)),
      ap (count_by (open_at q k)) (none_taken x.worker os is),
    )
one_more q k x os cs n (Respond r) (Some o) is e =
    omega (
      arith,
      e,
      one_no (q x.at && false) (and-false (q x.at)),
      count_cons (done_at q k) (completion x.at r o) cs,
      count_without (open_at q k) x.worker os o is,
    )

-- those that were invoked have returned or are pending
called_are : (q : ℕ → Bool) (k : ℕ) (past : List Event) → count_by (called_at q k) past
    ≡ count_by (done_at q k) (completed_calls past) + count_by (open_at q k) (pending_calls past)
called_are q k [] = refl
called_are q k (x ∷ past) =
    count_cons (called_at q k) x past
    ∙ one_more q k x (pending_calls past) (completed_calls past) (count_by (called_at q k) past)
    x.action (pending_of x.worker (pending_calls past)) refl (called_are q k past)

-- POSITIONS

none_after : (kinds : List Kind) (k p : ℕ) (past : List Event) → IsHistory kinds past
    → clock past ≤ p + 1 → count_by (called_at (nat_lt p) k) past ≡ 0
none_after kinds k p [] h le = refl
none_after kinds k p (y ∷ past) h le =
    let low : nat_lt p y.at ≡ false = le-ltb p y.at (omega arith) in
    let before : clock past ≤ p + 1 = omega (arith, h.0) in
    omega (
      arith,
      count_cons (called_at (nat_lt p) k) y past,
      ap (λ b. one (b && is_advance_of k y)) low,
      none_after kinds k p past h.2 before,
    )

history_before : (kinds : List Kind) (later past : List Event) → IsHistory kinds (later ++ past)
    → IsHistory kinds past
history_before kinds [] past h = h
history_before kinds (y ∷ later) past h = history_before kinds later past h.2

abbrev AllAfter : ℕ → Event → List Event → List Event → Type 0
AllAfter k x past later =
    (count_by (called_at (nat_lt x.at) k) later ≡ count_by (is_advance_of k) later)
    × (x.at + 1 ≤ clock (later ++ x ∷ past))

all_after : (kinds : List Kind) (k : ℕ) (x : Event) (past later : List Event)
    → IsHistory kinds (later ++ x ∷ past) → AllAfter k x past later
all_after kinds k x past [] h = (refl, omega arith)
all_after kinds k x past (y ∷ later) h =
    let r = all_after kinds k x past later h.2 in
    let far : x.at < y.at = omega (arith, r.1, h.0) in
    let high : nat_lt x.at y.at ≡ true = lt-ltb x.at y.at far in (
      omega (
        arith,
        r.0,
        count_cons (called_at (nat_lt x.at) k) y later,
        count_cons (is_advance_of k) y later,
        ap (λ b. one (b && is_advance_of k y)) high,
      ),
      omega arith,
    )

later_are : (kinds : List Kind) (k : ℕ) (x : Event) (past later : List Event)
    → IsHistory kinds (later ++ x ∷ past)
    → count_by (called_at (nat_lt x.at) k) (later ++ x ∷ past) ≡ count_by (is_advance_of k) later
later_are kinds k x past later h =
    let here = history_before kinds later (x ∷ past) h in
    omega (
      arith,
      count_append (called_at (nat_lt x.at) k) later (x ∷ past),
      none_after kinds k x.at (x ∷ past) here (omega arith),
      (all_after kinds k x past later h).0,
    )

-- EVENTS, ONE AFTER ANOTHER

count_reversed : {X : Type 0} (p : X → Bool) (xs : List X)
    → count_by p (reverse xs) ≡ count_by p xs
count_reversed p [] = refl
count_reversed p (x ∷ xs) =
    omega (
      arith,
      ap (count_by p) (reverse-append (x ∷ []) xs),
      count_append p (reverse xs) (x ∷ []),
      count_cons p x [],
      count_cons p x xs,
      count_reversed p xs,
    )

next_past : {X : Type 0} (xs : List X) (i : ℕ) (d : X) → i < length xs
    → reverse (take (i + 1) xs) ≡ get_or xs i d ∷ reverse (take i xs)
next_past xs i d lt =
    ap reverse (take_more xs i d lt) ∙ reverse-append (take i xs) (get_or xs i d ∷ [])

whole_past : {X : Type 0} (xs : List X) (i : ℕ) (d : X) → i < length xs
    → reverse xs ≡ reverse (drop (i + 1) xs) ++ get_or xs i d ∷ reverse (take i xs)
whole_past xs i d lt =
    ap reverse (sym (take-append-drop (i + 1) xs))
    ∙ reverse-append (take (i + 1) xs) (drop (i + 1) xs)
    ∙ ap (λ zs. reverse (drop (i + 1) xs) ++ zs) (next_past xs i d lt)

-- how many of the advances after an event have returned
pub returned_is : (kinds : List Kind) (k : ℕ) (events : List Event) (i : ℕ) (d : Event)
    → i < length events → IsHistory kinds (reverse events)
    → returned_after k (get_or events i d).at events
    ≡ count_by (is_advance_of k) (drop (i + 1) events)
    - count_by (is_open_after k (get_or events i d).at) (pending_calls (reverse events))
returned_is kinds k events i d lt h =
    let x = get_or events i d in
    let whole = whole_past events i d lt in
    let called : count_by (called_at (nat_lt x.at) k) (reverse events)
    ≡ count_by (is_advance_of k) (reverse (drop (i + 1) events)) =
    ap (count_by (called_at (nat_lt x.at) k)) whole
    ∙ later_are kinds k x (reverse (take i events)) (reverse (drop (i + 1) events))
    (subst (IsHistory kinds) whole h) in
    omega (
      arith,
      called,
      count_reversed (is_advance_of k) (drop (i + 1) events),
      called_are (nat_lt x.at) k (reverse events),
    )

-- how many of all advances have returned
pub all_returned : (k : ℕ) (events : List Event) → returned_advances k events
    ≡ count_by (is_advance_of k) events - count_by (is_pending_advance k) (pending_calls (reverse events))
all_returned k events =
    omega (arith, count_reversed (is_advance_of k) events, called_are (λ p. true) k (reverse events))

pub left_steps : (k : ℕ) (events : List Event) (i : ℕ) (d : Event) (old new : ℕ)
    → i < length events → old ≡ count_by (is_advance_of k) (drop i events)
    → new ≡ left_after k old (get_or events i d)
    → new ≡ count_by (is_advance_of k) (drop (i + 1) events)
left_steps k events i d old new lt were is =
    is ∙ ap (λ n. left_after k n (get_or events i d)) were ∙
    ap (λ zs. left_after k (count_by (is_advance_of k) zs) (get_or events i d))
    (next_left events i d lt)
    ∙ stepped (get_or events i d) (drop (i + 1) events)
  where
    next_left : (xs : List Event) (j : ℕ) (y : Event) → j < length xs
        → drop j xs ≡ get_or xs j y ∷ drop (j + 1) xs
    next_left xs j y l =
        let next : suc j ≡ j + 1 = omega arith in
        drop-cons xs j y l ∙ ap (λ n. get_or xs j y ∷ drop n xs) next

    by : (b : Bool) (n : ℕ) → (if b then one b + n - 1 else one b + n) ≡ n
    by true n = omega arith
    by false n = omega arith

    stepped : (x : Event) (xs : List Event)
        → left_after k (count_by (is_advance_of k) (x ∷ xs)) x ≡ count_by (is_advance_of k) xs
    stepped x xs =
        ap (λ n. left_after k n x) (count_cons (is_advance_of k) x xs)
        ∙ by (is_advance_of k x) (count_by (is_advance_of k) xs)

-- ONE EVENT MORE

pub pending_steps : (events : List Event) (i : ℕ) (d : Event) (old new : List PendingCall)
    → i < length events → old ≡ pending_calls (reverse (take i events))
    → new ≡ pending_after (get_or events i d) (get_or events i d).action old
    → new ≡ pending_calls (reverse (take (i + 1) events))
pending_steps events i d old new lt are is =
    is ∙ ap (pending_after (get_or events i d) (get_or events i d).action) are
    ∙ ap pending_calls (sym (next_past events i d lt))

greater : (b : Bool) (m r n : ℕ) → m ≡ r
    → (if b then max m n else n) ≡ max (if b then r else 0) n
greater true m r n e = ap (λ z. max z n) e
greater false m r n e = omega arith

raises : (k first left p : ℕ) (events : List Event) (pending : List PendingCall) (past : List Event)
    (r : Option Call) (n : ℕ) → IfSome r (λ (c : Call). c.last ≡ p)
    → returned_after k p events ≡ left - count_by (is_open_after k p) pending
    → n ≡ greatest_shown k events first (completed_calls past)
    → raised_by k left pending n r
    ≡ greatest_shown k events first (cons_option r [] ++ completed_calls past)
raises k first left p events pending past None n at back so = so
raises k first left p events pending past (Some c) n at back so =
    let here : returned_after k c.last events
    ≡ left - count_by (is_open_after k c.last) pending =
    subst (λ z. returned_after k z events ≡ left - count_by (is_open_after k z) pending) (sym at)
    back in
    greater (c.object == k) _ _ n (ap (λ z. least c.op c.reply + z) (sym here))
    ∙ ap (λ z. max (shown_count k events c) z) so

pub greatest_steps : (kinds : List Kind) (k first : ℕ) (events : List Event)
    (pending : List PendingCall) (i : ℕ) (d : Event) (os : List PendingCall) (r : Option Call)
    (left n new : ℕ) → i < length events → IsHistory kinds (reverse events)
    → pending ≡ pending_calls (reverse events)
    → left ≡ count_by (is_advance_of k) (drop (i + 1) events)
    → os ≡ pending_calls (reverse (take i events))
    → cons_option r [] ≡ ended_call (get_or events i d) (get_or events i d).action
    (pending_of (get_or events i d).worker os)
    → IfSome r (λ (c : Call). c.last ≡ (get_or events i d).at)
    → n ≡ greatest_shown k events first (completed_calls (reverse (take i events)))
    → new ≡ raised_by k left pending n r
    → new ≡ greatest_shown k events first (completed_calls (reverse (take (i + 1) events)))
greatest_steps kinds k first events pending i d os r left n new lt h are is so_far ended at so got =
    let x = get_or events i d in
    let past = reverse (take i events) in
    let back : returned_after k x.at events ≡ left - count_by (is_open_after k x.at) pending =
    returned_is kinds k events i d lt h
    ∙ ap (λ z. z - count_by (is_open_after k x.at) (pending_calls (reverse events))) (sym is)
    ∙ ap (λ z. left - count_by (is_open_after k x.at) z) (sym are) in
    got ∙ raises k first left x.at events pending past r n at back so
    ∙ ap (λ z. greatest_shown k events first (z ++ completed_calls past)) ended
    ∙ ap (λ os. greatest_shown k events first (ended_call x x.action (pending_of x.worker os)
    ++ completed_calls past)) so_far
    ∙ ap (λ z. greatest_shown k events first (completed_calls z)) (sym (next_past events i d lt))
