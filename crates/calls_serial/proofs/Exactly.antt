-- Every history whose puts do not overlap has a linearization or shows a fault, whatever the code.
use Rattle.std.proofs.Common.{◌≡◌, ℕ, zero, suc, ◌+◌, ◌-◌, ◌<◌, ◌≤◌, ◌⊎◌, inl, inr, false}
use Rattle.std.proofs.Common.{List, [], ◌∷◌, ◌++◌, length, Option, Some, None, refl, ap}
use Rattle.std.proofs.Common.{sym, ◌∙◌, arith, subst, take, drop, slice_get, get_or}
use Rattle.std.proofs.Common.{length-append}
use Rattle.std.proofs.lemmas.Bool.{cases_lt, cases_eq}
use Rattle.std.proofs.lemmas.Option.{same_Some}
use Rattle.calls_core.specs.declared.history.Kind.TheVariants.{Cell}
use Rattle.calls_core.specs.declared.history.Op.{Op}
use Rattle.calls_core.specs.declared.history.Op.TheVariants.{Advance, Read, Await, Ticket, P, V}
use Rattle.calls_core.specs.declared.history.Op.TheVariants.{PBoth, Put, Get, Produce, Consume}
use Rattle.calls_core.specs.declared.history.Reply.{Reply}
use Rattle.calls_core.specs.declared.history.Reply.TheVariants.{Done, Number, Timeout}
use Rattle.calls_core.specs.declared.history.Action.{Action}
use Rattle.calls_core.specs.declared.history.Action.TheVariants.{Invoke, Respond}
use Rattle.calls_core.specs.declared.history.Event.{Event}
use Rattle.calls_core.specs.declared.history.PendingCall.{PendingCall}
use Rattle.calls_core.specs.declared.history.Call.{Call}
use Rattle.calls_core.specs.Lists.{Each}
use Rattle.calls_core.specs.Histories.{clock, pending_of, without, invoked_by, pending_calls}
use Rattle.calls_core.specs.Histories.{completion, ended_call, completed_calls, Takes, Suits}
use Rattle.calls_core.specs.Histories.{IsNextOf, IsHistoryOf}
use Rattle.calls_core.specs.Outcomes.{HasOrderOf}
use Rattle.calls_core.proofs.Positions.{each_call_by, are_calls_of, early_calls}
use Rattle.calls_serial.specs.declared.stage.Link.{Link}
use Rattle.calls_serial.specs.Faults.{Leaves, HasNoneLeft}
use Rattle.calls_serial.specs.kept.Stages.{StageView, is_put, IsOver, Begins, gets_of_link, current}
use Rattle.calls_serial.specs.kept.Stages.{all_calls, first_stage, open_stage, as_get, with_get}
use Rattle.calls_serial.specs.kept.Stages.{with_late}
use Rattle.calls_serial.specs.kept.Stages.{with_response, links_with, pending_puts}
use Rattle.calls_serial.specs.kept.Stages.{IsPassed, NextLater, NextEarlier, IsAt}
use Rattle.calls_serial.specs.kept.Stages.{IsShutOut}
use Rattle.calls_serial.specs.kept.Passing.{first_of, IsResponse, IsFitting, Holding}
use Rattle.calls_serial.specs.Outcomes.{AreBothPending}
use Rattle.calls_serial.specs.Laws.{IsSerial}
use Rattle.calls_serial.proofs.Growing.{leaves_grow, only_invoked, only_responded}
use Rattle.calls_serial.proofs.Finding.{begins_passed}
use Rattle.calls_serial.proofs.Ending.{begins_taken, placed_in, late_in, fault_in}
use Rattle.calls_serial.proofs.Ending.{completed_in, other_in, put_in, both_pending}
use Rattle.calls_serial.proofs.Deciding.{begun_holding, holding_order}

-- THE SEARCH

got_at : (hs : List StageView) (k : ℕ) → k < length hs
    → slice_get hs k ≡ Some (get_or hs k first_stage)
got_at [] k lt = absurd (omega arith)
got_at (h ∷ hs) zero lt = refl
got_at (h ∷ hs) (suc k) lt = got_at hs k (omega arith)

taken_at : (hs : List StageView) (n k : ℕ) → k < n → k < length hs
    → drop k (take n hs) ≡ get_or hs k first_stage ∷ drop (suc k) (take n hs)
taken_at [] n k lt le = absurd (omega arith)
taken_at (h ∷ hs) zero k lt le = absurd (omega arith)
taken_at (h ∷ hs) (suc n) zero lt le = refl
taken_at (h ∷ hs) (suc n) (suc k) lt le = taken_at hs n k (omega arith) (omega arith)

taken_none : (hs : List StageView) (n : ℕ) → drop n (take n hs) ≡ []
taken_none [] zero = refl
taken_none [] (suc n) = refl
taken_none (h ∷ hs) zero = refl
taken_none (h ∷ hs) (suc n) = taken_none hs n

over_cases : (n : ℕ) (put : Option Call) → IsOver n put ⊎ (IsOver n put → ⊥)
over_cases n None = inl tt
over_cases n (Some p) =
    elim (cases_lt p.last n) [ inl lt ↦ inl lt | inr le ↦ inr (λ lt. omega (arith, lt)) ]

module _ (hs : List StageView) (n first x : ℕ) (le : n ≤ length hs) where
  abbrev pub Sought : Type 0
  Sought =
      ((i : ℕ) × IsAt hs n first x i) ⊎ ((because : Option ℕ) × IsShutOut hs n first x because)

  early : (k : ℕ) → k < n → IsOver first (get_or hs k first_stage).put
      → Each (IsPassed first x) (drop (suc k) (take n hs))
      → (get_or hs k first_stage).value ≡ x → (rest : List StageView) → drop (suc k) hs ≡ rest
      → Sought
  early k lt over passed same [] e = inl (
    k,
    record {
      stage = get_or hs k first_stage;
      here = got_at hs k (omega arith);
      within = lt;
      value = same;
      may = inr (subst (NextLater first) (sym e) tt);
    },
  )
  early k lt over passed same (b ∷ rest) e =
      elim (cases_lt b.moment first) [
        | inl before ↦ inr (
          b.link,
          record {
            index = k;
            stage = get_or hs k first_stage;
            here = got_at hs k (omega arith);
            within = lt;
            over = over;
            passed = passed;
            reason = inr (same, subst (λ zs. NextEarlier first zs b.link) (sym e) (before, refl));
          },
        )
        | inr later ↦ inl (
          k,
          record {
            stage = get_or hs k first_stage;
            here = got_at hs k (omega arith);
            within = lt;
            value = same;
            may = inr (subst (NextLater first) (sym e) later);
          },
        )
      ]

  seek : (k : ℕ) → k ≤ n → Begins (take n hs) → Each (IsPassed first x) (drop k (take n hs))
      → Sought
  seek zero at begins passed = absurd (begins_passed first x (take n hs) begins passed)
  seek (suc k) at begins passed =
      (let h = get_or hs k first_stage in
      elim (over_cases first (get_or hs k first_stage).put) [
        | inl over ↦ elim (cases_eq (get_or hs k first_stage).value x) [
          | inl same ↦ early k (omega arith) over passed same (drop (suc k) hs) refl
          | inr other ↦ inr (
            None,
            record {
              index = k;
              stage = get_or hs k first_stage;
              here = got_at hs k (omega arith);
              within = omega arith;
              over = over;
              passed = passed;
              reason = inl (other, refl);
            },
          )
        ]
        | inr late ↦ elim (cases_eq (get_or hs k first_stage).value x) [
          | inl same ↦ inl (
            k,
            record {
              stage = get_or hs k first_stage;
              here = got_at hs k (omega arith);
              within = omega arith;
              value = same;
              may = inl late;
            },
          )
          | inr other ↦ seek k (omega arith) begins
              (subst (Each (IsPassed first x)) (sym (taken_at hs n k (omega arith) (omega arith)))
              (record { over = late; other = other }, passed))
        ]
      ])

  pub sought : Begins (take n hs) → Sought
  sought begins = seek n (omega arith) begins
      (subst (Each (IsPassed first x)) (sym (taken_none hs n)) tt)

-- A FAULT STAYS

shown_invoked : (x : Event) (k : ℕ) (op : Op) (past : List Event) → IsHistoryOf Cell past
    → clock past ≤ x.at → (gets : List Call) → HasNoneLeft past gets
    → Leaves (completed_calls past) (pending_calls past ++ invoked_by x k op ∷ []) gets None
shown_invoked x k op past h le gets l =
    leaves_grow (completed_calls past) (completed_calls past) (pending_calls past)
    (pending_calls past ++ invoked_by x k op ∷ []) (clock past) (early_calls Cell past h)
    (only_invoked (completed_calls past) (pending_calls past) (clock past) (invoked_by x k op) le)
    gets None l

shown_responded : (x : Event) (r : Reply) (o : PendingCall) (past : List Event)
    → IsHistoryOf Cell past → pending_of x.worker (pending_calls past) ≡ Some o → (gets : List Call)
    → HasNoneLeft past gets
    → Leaves (completion x.at r o ∷ completed_calls past)
    (without x.worker (pending_calls past)) gets None
shown_responded x r o past h ours gets l =
    leaves_grow (completed_calls past) (completion x.at r o ∷ completed_calls past)
    (pending_calls past) (without x.worker (pending_calls past)) (clock past) (early_calls Cell past h)
    (only_responded (completed_calls past) (pending_calls past) (clock past) x.worker x.at r o ours)
    gets None l

abbrev pub event_of : Event → Action → Event
event_of x a = record { at = x.at; worker = x.worker; action = a }

event_is : (x : Event) (a : Action) → x.action ≡ a → x ≡ event_of x a
event_is x a e = ap (event_of x) e

shown_more : (x : Event) (past : List Event) (a : Action) (o : Option PendingCall) → x.action ≡ a
    → pending_of x.worker (pending_calls past) ≡ o → clock past ≤ x.at → IsNextOf Cell a o
    → IsHistoryOf Cell past → (gets : List Call) → HasNoneLeft past gets
    → HasNoneLeft (x ∷ past) gets
shown_more x past (Invoke k op) None e is le next h gets l =
    subst (λ (y : Event). HasNoneLeft (y ∷ past) gets) (sym (event_is x (Invoke k op) e))
    (shown_invoked x k op past h le gets l)
shown_more x past (Invoke k op) (Some o) e is le next h gets l = absurd next
shown_more x past (Respond r) None e is le next h gets l = absurd next
shown_more x past (Respond r) (Some o) e is le next h gets l =
    subst (λ (y : Event). HasNoneLeft (y ∷ past) gets) (sym (event_is x (Respond r) e))
    (subst (λ cs. Leaves cs (without x.worker (pending_calls past)) gets None)
    (ap (λ p. ended_call (event_of x (Respond r)) (Respond r) p ++ completed_calls past) (sym is))
    (shown_responded x r o past h is gets l))

pub stays : (late past : List Event) (gets : List Call) → IsHistoryOf Cell (late ++ past)
    → HasNoneLeft past gets → HasNoneLeft (late ++ past) gets
stays [] past gets h l = l
stays (x ∷ late) past gets h l =
    shown_more x (late ++ past) x.action (pending_of x.worker (pending_calls (late ++ past))) refl
    refl h.0 h.1 h.2 gets (stays late past gets h.2 l)

-- ONE MORE EVENT

abbrev pub Kept : ℕ → ℕ → List Call → List PendingCall → Type 0
Kept end t done pending =
    ((hs : List StageView) × (ls : List Link) × Holding end t done pending hs ls)
    ⊎ ((gets : List Call) × Leaves done pending gets None)

put_cases : (op : Op) → (is_put op ≡ false) ⊎ ((v : ℕ) × (op ≡ Put v))
put_cases (Put v) = inr (v, refl)
put_cases Get = inl refl
put_cases Advance = inl refl
put_cases Read = inl refl
put_cases (Await v) = inl refl
put_cases Ticket = inl refl
put_cases (P i) = inl refl
put_cases (V i) = inl refl
put_cases (PBoth i j) = inl refl
put_cases (Produce v) = inl refl
put_cases Consume = inl refl

first_cases : (o : Option PendingCall) → (o ≡ None) ⊎ ((p : PendingCall) × (o ≡ Some p))
first_cases None = inl refl
first_cases (Some p) = inr (p, refl)

module _ (end t : ℕ) (done : List Call) (pending : List PendingCall)
    (early : Each (λ (c : Call). c.last < t) done) where
  invoked : (o : PendingCall) (hs : List StageView) (ls : List Link)
      → Holding end t done pending hs ls → t ≤ o.first → o.first < end
      → Each (λ (p : PendingCall). p.first < t) pending
      → ((p q : PendingCall) → AreBothPending (pending ++ o ∷ []) p q → ⊥)
      → Kept end (o.first + 1) done (pending ++ o ∷ [])
  invoked o hs ls k le lt waiting serial =
      elim (put_cases o.op) [
        | inl other ↦ inl (hs, ls, other_in end t done pending o hs ls early le other k)
        | inr put ↦ elim (first_cases (first_of (pending_puts pending))) [
          | inl none ↦ inl (
            hs ++ open_stage end put.0 o ∷ [],
            ls,
            put_in end t done pending o put.0 hs (hs ++ open_stage end put.0 o ∷ []) ls early le lt
                put.1 none refl k,
          )
          | inr some ↦ absurd (serial some.0 o
              (both_pending t pending some.0 o put.0 waiting le put.1 some.1))
        ]
      ]

  -- the list with a stage changed at an index
  abbrev applied : List StageView → ℕ → (StageView → StageView) → List StageView
  applied [] i f = []
  applied (h ∷ hs) zero f = f h ∷ hs
  applied (h ∷ hs) (suc i) f = h ∷ applied hs i f

  applied_at : (prefix : List StageView) (h : StageView) (back : List StageView) (i : ℕ) (f : StageView → StageView)
      → length prefix ≡ i → applied (prefix ++ h ∷ back) i f ≡ prefix ++ f h ∷ back
  applied_at [] h back zero f e = refl
  applied_at [] h back (suc i) f e = absurd (omega arith)
  applied_at (a ∷ prefix) h back zero f e = absurd (omega arith)
  applied_at (a ∷ prefix) h back (suc i) f e =
      ap (λ zs. a ∷ zs) (applied_at prefix h back i f (omega arith))

  applied_last : (hs prefix : List StageView) (h : StageView) (f : StageView → StageView)
      → hs ≡ prefix ++ h ∷ []
      → applied hs (length hs - 1) f ≡ prefix ++ f h ∷ []
  applied_last hs prefix h f e =
      ap (λ zs. applied zs (length zs - 1) f) e
      ∙ applied_at prefix h [] (length (prefix ++ h ∷ []) - 1) f
      (omega (arith, length-append prefix (h ∷ [])))

  abbrev last_of : StageView → List StageView → StageView
  last_of d [] = d
  last_of d (h ∷ hs) = last_of h hs

  last_is : (d : StageView) (prefix : List StageView) (h : StageView)
      → last_of d (prefix ++ h ∷ []) ≡ h
  last_is d [] h = refl
  last_is d (a ∷ prefix) h = last_is a prefix h

  module _ (w at : ℕ) (r : Reply) (o : PendingCall) (hs : List StageView) (ls : List Link)
      (g : IsResponse end t done pending w at o) (k : Holding end t done pending hs ls) where
    abbrev pub After : Type 0
    After = Kept end (at + 1) (completion at r o ∷ done) (without w pending)

    module _ (x : ℕ) (get : o.op ≡ Get) (number : r ≡ Number x) where
      many : length k.prefix ≡ length k.prefix
      many = refl

      abbrev with_own : StageView → StageView
      with_own h = with_get (as_get h.value (completion at r o)) h

      abbrev with_own_late : StageView → StageView
      with_own_late h = with_late (as_get h.value (completion at r o)) (length ls) h

      placed : (i : ℕ) → IsAt hs (length k.prefix) o.first x i → After
      placed i a = inl (
        applied hs i with_own,
        ls,
        placed_in end t done pending w at o hs ls g get k x (length k.prefix) r number refl i
            (applied hs i with_own) a
            (λ prefix h back long e. ap (λ zs. applied zs i with_own) e
            ∙ applied_at prefix h back i with_own long),
      )

      late : (because : Option ℕ) → IsShutOut hs (length k.prefix) o.first x because
          → length k.prefix < length hs
          → ((h : StageView) → slice_get hs (length k.prefix) ≡ Some h → h.value ≡ x) → After
      late because s lt value = inl (
        applied hs (length hs - 1) with_own_late,
        links_with (last_of first_stage hs).link
            (record { get = completion at r o; because = because }) ls,
        late_in end t done pending w at o hs ls g get k x (length k.prefix) r number refl because s
            lt value (applied hs (length hs - 1) with_own_late)
            (links_with (last_of first_stage hs).link
            (record { get = completion at r o; because = because }) ls) (length ls) refl
            (λ prefix h e. (
              applied_last hs prefix h with_own_late e,
              ap (λ (z : StageView). links_with z.link
                  (record { get = completion at r o; because = because }) ls)
                  (ap (last_of first_stage) e ∙ last_is first_stage prefix h),
            )),
      )

      fault : (because : Option ℕ) → IsShutOut hs (length k.prefix) o.first x because
          → (length k.prefix < length hs → (h : StageView) → slice_get hs (length k.prefix) ≡ Some h
          → h.value ≡ x → ⊥) → After
      fault because s other = inr (
        completion at r o ∷ gets_of_link because ls,
        fault_in end t done pending w at o hs ls g get k x (length k.prefix) r number refl because s
            other,
      )

      shut : (because : Option ℕ) → IsShutOut hs (length k.prefix) o.first x because → After
      shut because s =
          elim (cases_lt (length k.prefix) (length hs)) [
            | inr le ↦ fault because s (λ lt h e v. omega arith)
            | inl lt ↦ elim (cases_eq (get_or hs (length k.prefix) first_stage).value x) [
              | inl same ↦ late because s lt
                  (λ h e. ap (λ (z : StageView). z.value) (sym (own h lt e)) ∙ same)
              | inr other ↦ fault because s
                  (λ lt h e v. other (ap (λ (z : StageView). z.value) (own h lt e) ∙ v))
            ]
          ]
        where
          own : (h : StageView) → length k.prefix < length hs
              → slice_get hs (length k.prefix) ≡ Some h
              → get_or hs (length k.prefix) first_stage ≡ h
          own h lt e = same_Some (get_or hs (length k.prefix) first_stage) h
              (sym (got_at hs (length k.prefix) lt) ∙ e)

      pub answered : After
      answered =
          elim (sought hs (length k.prefix) o.first x
          (omega (arith, ap length k.all, length-append k.prefix (current k.now)))
          (begins_taken end t done pending w at o hs ls g get k (length k.prefix) refl)) [
            | inl a ↦ placed a.0 a.1
            | inr b ↦ shut b.0 b.1
          ]

    pub completed : IsFitting o r → r ≡ Done → After
    completed f is = inl (
      applied hs (length hs - 1) (with_response (completion at r o)),
      ls,
      completed_in end t done pending w at r o hs
          (applied hs (length hs - 1) (with_response (completion at r o))) ls g f is k
          (completion at r o) refl
          (λ prefix h e. applied_last hs prefix h (with_response (completion at r o)) e),
    )

    ended : (op : Op) (q : Reply) → o.op ≡ op → r ≡ q → Takes (Some Cell) op → Suits op q
        → IsFitting o r → After
    ended Get (Number x) e is h s f = answered x e is
    ended Get Done e is h s f = absurd s
    ended Get Timeout e is h s f = absurd s
    ended (Put v) Done e is h s f = completed f is
    ended (Put v) (Number x) e is h s f = absurd s
    ended (Put v) Timeout e is h s f = absurd s
    ended Advance q e is h s f = absurd h
    ended Read q e is h s f = absurd h
    ended (Await v) q e is h s f = absurd h
    ended Ticket q e is h s f = absurd h
    ended (P i) q e is h s f = absurd h
    ended (V i) q e is h s f = absurd h
    ended (PBoth i j) q e is h s f = absurd h
    ended (Produce v) q e is h s f = absurd h
    ended Consume q e is h s f = absurd h

    pub responded : IsFitting o r → After
    responded f = ended o.op r refl refl f.takes f.suits f

-- A HISTORY

abbrev pub Keeps : ℕ → List Event → Type 0
Keeps end past = Kept end (clock past) (completed_calls past) (pending_calls past)

module _ (end : ℕ) (x : Event) (past : List Event) (le : clock past ≤ x.at) (lt : x.at < end)
    (h : IsHistoryOf Cell past) where
  invoked_more : (k : ℕ) (op : Op)
      → ((p q : PendingCall) → AreBothPending (pending_calls (event_of x (Invoke k op) ∷ past)) p q
      → ⊥)
      → Keeps end past → Keeps end (event_of x (Invoke k op) ∷ past)
  invoked_more k op serial (inl s) =
      invoked end (clock past) (completed_calls past) (pending_calls past) (early_calls Cell past h)
      (invoked_by x k op) s.0 s.1 s.2 le lt (are_calls_of Cell past h).early serial
  invoked_more k op serial (inr s) = inr (s.0, shown_invoked x k op past h le s.0 s.1)

  responded_more : (r : Reply) (o : PendingCall)
      → pending_of x.worker (pending_calls past) ≡ Some o → Suits o.op r → Keeps end past
      → Kept end (x.at + 1) (completion x.at r o ∷ completed_calls past)
      (without x.worker (pending_calls past))
  responded_more r o ours suits (inl s) =
      responded end (clock past) (completed_calls past) (pending_calls past) (early_calls Cell past h)
      x.worker x.at r o s.0 s.1
      (record {
        ours = ours;
        early = early_calls Cell past h;
        waiting = (are_calls_of Cell past h).early;
        later = le;
        before = lt;
      }) s.2
      (record {
        takes = each_call_by (λ (p : PendingCall). Takes (Some Cell) p.op) x.worker
            (pending_calls past) o (are_calls_of Cell past h).fits ours;
        suits = suits;
      })
  responded_more r o ours suits (inr s) = inr (s.0, shown_responded x r o past h ours s.0 s.1)

  more : (a : Action) (o : Option PendingCall) → x.action ≡ a
      → pending_of x.worker (pending_calls past) ≡ o → IsNextOf Cell a o
      → ((p q : PendingCall) → AreBothPending (pending_calls (x ∷ past)) p q → ⊥) → Keeps end past
      → Keeps end (x ∷ past)
  more (Invoke k op) None e is next serial s =
      subst (λ (y : Event). ((p q : PendingCall) → AreBothPending (pending_calls (y ∷ past)) p q
      → ⊥) → Keeps end (y ∷ past)) (sym (event_is x (Invoke k op) e))
      (λ serial. invoked_more k op serial s) serial
  more (Invoke k op) (Some o) e is next serial s = absurd next
  more (Respond r) None e is next serial s = absurd next
  more (Respond r) (Some o) e is next serial s =
      subst (λ (y : Event). Keeps end (y ∷ past)) (sym (event_is x (Respond r) e))
      (subst (λ cs. Kept end (x.at + 1) cs (without x.worker (pending_calls past)))
      (ap (λ p. ended_call (event_of x (Respond r)) (Respond r) p ++ completed_calls past)
      (sym is))
      (responded_more r o is next s))

pub kept : (end : ℕ) (past : List Event) → clock past ≤ end → IsHistoryOf Cell past
    → IsSerial past → Keeps end past
kept end [] le h s = inl (first_stage ∷ [], [], begun_holding end (first_stage ∷ []) [] refl)
kept end (x ∷ past) le h s =
    more end x past h.0 (let l : x.at + 1 ≤ end = le in omega arith) h.2 x.action
    (pending_of x.worker (pending_calls past)) refl refl h.1 s.0
    (kept end past (let l : x.at + 1 ≤ end = le in let m = h.0 in omega arith) h.2 s.1)

pub decided : (past : List Event) → IsHistoryOf Cell past → IsSerial past
    → HasOrderOf Cell past ⊎ ((gets : List Call) × HasNoneLeft past gets)
decided past h s =
    elim (kept (clock past) past (omega arith) h s) [
      | inl k ↦ inl (all_calls k.0, holding_order (clock past) past k.0 k.1 k.2)
      | inr f ↦ inr f
    ]
