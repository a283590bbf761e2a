-- Every history has a linearization, or shows a fault.
use Rattle.std.proofs.Common.{max, ◌≡◌, ℕ, zero, suc, ◌+◌, ◌-◌, ◌<◌, ◌≤◌, ◌⊎◌, inl, inr, Bool, true}
use Rattle.std.proofs.Common.{false, ◌==◌, List, [], ◌∷◌, ◌++◌, length, Option, Some, None, refl}
use Rattle.std.proofs.Common.{ap, sym, ◌∙◌, arith, cond, subst, replicate}
use Rattle.std.specs.List.{Contains, remove}
use Rattle.std.proofs.lemmas.Bool.{cases_lt, cases_Bool}
use Rattle.std.proofs.lemmas.List.{length-replicate}
use Rattle.std.proofs.lemmas.Option.{same_Some, none-some, get_or_from_slice_get}
use Rattle.calls_core.specs.declared.history.Kind.TheVariants.{Eventcount}
use Rattle.calls_core.specs.declared.history.Op.{Op}
use Rattle.calls_core.specs.declared.history.Op.TheVariants.{Await}
use Rattle.calls_core.specs.declared.history.Reply.{Reply}
use Rattle.calls_core.specs.declared.history.Reply.TheVariants.{Done, Number, Timeout}
use Rattle.calls_core.specs.declared.history.Action.{Action}
use Rattle.calls_core.specs.declared.history.Action.TheVariants.{Invoke, Respond}
use Rattle.calls_core.specs.declared.history.Event.{Event}
use Rattle.calls_core.specs.declared.history.PendingCall.{PendingCall}
use Rattle.calls_core.specs.declared.history.Call.{Call}
use Rattle.calls_counts.specs.declared.fault.Fault.{Fault}
use Rattle.calls_counts.specs.declared.fault.Fault.TheVariants.{Below, Few, Many, Since}
use Rattle.calls_counts.specs.declared.state.Slot.{Slot}
use Rattle.calls_counts.specs.declared.state.PlacedRead.{PlacedRead}
use Rattle.calls_core.specs.Histories.{pending_of, without, invoked_by, pending_calls, completion}
use Rattle.calls_core.specs.Histories.{Suits, IsNextOf, IsHistoryOf}
use Rattle.calls_counts.specs.CountRuns.{CountGives}
use Rattle.calls_counts.specs.Faults.{is_advance, least, most, Contradicts, made_between, Shows}
use Rattle.calls_counts.specs.Laws.{EveryHistoryIsDecided}
use Rattle.calls_core.specs.Lists.{Each}
use Rattle.calls_counts.specs.ScanStates.{taken_calls, placed_calls}
use Rattle.calls_counts.specs.Scanning.{slot_of_call, IsNew, IsFewer, IsObserved, IsRefused, Holds}
use Rattle.calls_core.proofs.Counting.{one}
use Rattle.calls_core.specs.declared.pending.NotedCall.{NotedCall}
use Rattle.calls_core.specs.Pending.{noted_calls, IsNotedOf}
use Rattle.calls_counts.proofs.Observing.{NotFewer, many_shown, placed_gives}
use Rattle.calls_counts.proofs.Stepping.{invoked_into, turn, filled_into, forced_into}
use Rattle.calls_counts.proofs.Stepping.{observed_into, refused_into, noted_in, Turn}
use Rattle.calls_counts.proofs.Deciding.{starts, first_free, kept_has_order}
use Rattle.calls_counts.proofs.Lasting.{shows_next}

-- THE PENDING CALL OF A WORKER

call_at : (w : ℕ) (pending : List NotedCall) (o : PendingCall)
    → pending_of w (noted_calls pending) ≡ Some o → (i : ℕ) × IsNotedOf pending w i
call_at w [] o e = absurd (none-some o e)
call_at w (u ∷ pending) o e = go (u.call.worker == w) refl e (λ k. call_at w pending o k)
  where
    go : (b : Bool) → (u.call.worker == w) ≡ b → pending_of w (noted_calls (u ∷ pending)) ≡ Some o
        → (pending_of w (noted_calls pending) ≡ Some o → (i : ℕ) × IsNotedOf pending w i) → (i : ℕ)
        × IsNotedOf (u ∷ pending) w i
    go true own k ih = (
      zero,
      record {
        call = u;
        at = refl;
        first = ap (λ b. cond b (Some u.call) (pending_of w (noted_calls pending))) own;
        others = ap (λ b. cond b (noted_calls pending) (u.call ∷ without w (noted_calls pending)))
            own;
      },
    )
    go false other k ih =
        (let r = ih (sym (ap (λ b. cond b (Some u.call) (pending_of w (noted_calls pending))) other)
        ∙ k) in (
          suc r.0,
          record {
            call = r.1.call;
            at = r.1.at;
            first = ap (λ b. cond b (Some u.call) (pending_of w (noted_calls pending))) other
                ∙ r.1.first;
            others = ap (λ b. cond b (noted_calls pending)
                (u.call ∷ without w (noted_calls pending))) other ∙ ap (λ os.
                u.call ∷ os) r.1.others;
          },
        ))

-- AN EARLIER CALL THAT SAYS MORE

fewer_or_not : (slots : List Slot) (s call : Call) (number : ℕ) → IsFewer slots s call number
    ⊎ (IsFewer slots s call number → ⊥)
fewer_or_not slots s call number =
    elim (cases_lt s.last call.first) [
      | inr late ↦ inr (λ f. (let before : s.last < call.first = f.before in omega arith))
      | inl before ↦ elim (cases_lt number (least s.op s.reply + made_between
          (s.last + 1) call.first (taken_calls slots))) [
            | inl fewer ↦ inl (record { before = before; fewer = fewer })
            | inr enough ↦ inr (λ f. omega (arith, f.fewer))
          ]
    ]

record Found (slots : List Slot) (reads : List PlacedRead) (call : Call) (number : ℕ) : Type 0 where
  pub s : Call
  pub known : Contains (placed_calls reads) s
  pub fewer : IsFewer slots s call number

find_fewer : (slots : List Slot) (reads : List PlacedRead) (call : Call) (number : ℕ)
    → Found slots reads call number ⊎ ((k : ℕ) → k < length reads
    → NotFewer slots reads call number k)
find_fewer slots [] call number = inr (λ k lt. absurd (omega arith))
find_fewer slots (p ∷ reads) call number = go (fewer_or_not slots p.call call number)
    (find_fewer slots reads call number)
  where
    go : IsFewer slots p.call call number ⊎ (IsFewer slots p.call call number → ⊥)
        → Found slots reads call number ⊎ ((k : ℕ) → k < length reads
        → NotFewer slots reads call number k)
        → Found slots (p ∷ reads) call number ⊎ ((k : ℕ) → k < length (p ∷ reads)
        → NotFewer slots (p ∷ reads) call number k)
    go (inl f) rest = inl (record { s = p.call; known = (zero, omega arith, refl); fewer = f })
    go (inr no') (inl r) = inl (record {
      s = r.s;
      known = (
        suc r.known.0,
        (let lt : r.known.0 < length (placed_calls reads) = r.known.1 in
            omega arith),
        r.known.2,
      );
      fewer = r.fewer;
    })
    go (inr no') (inr h) = inr at
      where
        at : (k : ℕ) → k < length (p ∷ reads) → NotFewer slots (p ∷ reads) call number k
        at zero lt = λ q e f. no' (subst (λ (z : PlacedRead). IsFewer slots z.call call number)
            (sym (same_Some p q e)) f)
        at (suc k) lt = h k (omega arith)

-- THE RESPONSE OF A READ OR AN AWAIT

below_or_not : (op : Op) (r : Reply) → Contradicts op r ⊎ (Contradicts op r → ⊥)
below_or_not (Await v) Done = inr (λ b. b)
below_or_not (Await v) Timeout = elim (cases_zero v) [
  | inl e ↦ inl e
  | inr lt ↦
      inr (λ b. (let e : v ≡ 0 = b in omega arith))
]
  where
    cases_zero : (v : ℕ) → (v ≡ 0) ⊎ (0 < v)
    cases_zero zero = inl refl
    cases_zero (suc v) = inr (omega arith)
below_or_not (Await v) (Number n) = elim (cases_lt n v) [
  | inl lt ↦ inl lt
  | inr le ↦
      inr (λ b. (let lt : n < v = b in omega arith))
]
below_or_not op r = inr (λ b. b)

abbrev new_slot : ℕ → Slot
new_slot m = record { moment = m; taken = None }

each_new : (m k : ℕ) → Each (IsNew m) (replicate k (new_slot m))
each_new m zero = tt
each_new m (suc k) = (record { moment = refl; none = refl }, each_new m k)

pub record Seen (start : ℕ) (a noted : ℕ) (call : Call) (slots : List Slot)
    (reads : List PlacedRead) : Type 0 where
  pub later : List Slot
  pub more : List PlacedRead
  pub is : IsObserved start a noted call slots later reads more

pub record Faulty (start : ℕ) (a noted : ℕ) (call : Call) (slots : List Slot)
    (reads : List PlacedRead) : Type 0 where
  pub fault : Fault
  pub is : IsRefused start a noted call slots reads fault

module _ (start : ℕ) (a noted : ℕ) (call : Call) (slots : List Slot) (reads : List PlacedRead)
    (reading : is_advance call.op ≡ false) (suits : Suits call.op call.reply)
    (within : noted ≤ length slots) where
  pub too_few : (n : ℕ) → most call.op call.reply ≡ Some n → n < start + noted
      → Faulty start a noted call slots reads
  too_few n e lt =
      elim (find_fewer slots reads call n) [
        | inl f ↦ record {
          fault = Since call f.s;
          is =
              inr (record { number = n; says = e; less = lt; is = λ r. (refl, f.known, f.fewer) });
        }
        | inr none ↦ record {
          fault = Many call;
          is = inr (record {
            number = n;
            says = e;
            less = lt;
            is = λ r. many_shown start slots reads call n (length reads) (omega arith) none
                (start + noted) lt r;
          });
        }
      ]

  seen_at : (place k : ℕ) → place ≤ length slots + k → noted ≤ place
      → CountGives (start + place) call.op call.reply → (0 < k
      → start + (length slots + k) ≤ least call.op call.reply) → (0 < k → length slots + k ≤ a)
      → Seen start a noted call slots reads
  seen_at place k le beyond gives least_is room = record {
    later = slots ++ replicate k (new_slot call.last);
    more = reads ++ record { call = call; place = place } ∷ [];
    is = record {
      more = replicate k (new_slot call.last);
      place = place;
      slots_are = refl;
      reads_are = refl;
      each = each_new call.last k;
      within = omega (arith, length-replicate k (new_slot call.last));
      beyond = beyond;
      gives = gives;
      least_is = λ some. omega (
        arith,
        length-replicate k (new_slot call.last),
        least_is
            (omega (arith, length-replicate k (new_slot call.last))),
      );
      room = λ some. omega (
        arith,
        length-replicate k (new_slot call.last),
        room
            (omega (arith, length-replicate k (new_slot call.last))),
      );
    };
  }

  pub seen_by : (Contradicts call.op call.reply → ⊥) → least call.op call.reply ≤ start + a
      → ((m : ℕ) → most call.op call.reply ≡ Some m → start + noted ≤ m)
      → Seen start a noted call slots reads
  seen_by fine few high =
      (let v = least call.op call.reply - start in
      seen_at (max v noted) (v - length slots) (omega arith) (omega arith)
      (placed_gives start call.op call.reply noted (max v noted) reading suits fine high refl)
      (λ some. omega arith) (λ some. omega arith))

  by_most : (o : Option ℕ) → most call.op call.reply ≡ o → (Contradicts call.op call.reply → ⊥)
      → least call.op call.reply ≤ start + a → Seen start a noted call slots reads
      ⊎ (Faulty start) a noted call slots reads
  by_most None e fine few = inl (seen_by fine few (λ m is. (let no : None ≡ Some m = sym e ∙ is in
      cc)))
  by_most (Some n) e fine few =
      elim (cases_lt n (start + noted)) [
        | inl lt ↦ inr (too_few n e lt)
        | inr le ↦ inl (seen_by fine few (λ m is. (let both : Some n ≡ Some m = sym e ∙ is in
            let same : n ≡ m = grind arith in omega arith)))
      ]

  seen_or_faulty : Seen start a noted call slots reads ⊎ (Faulty start) a noted call slots reads
  seen_or_faulty =
      elim (below_or_not call.op call.reply) [
        | inl b ↦ inr (record { fault = Below call; is = inl (refl, b) })
        | inr fine ↦ elim (cases_lt (start + a) (least call.op call.reply)) [
          | inl few ↦ inr (record { fault = Few call; is = inl (refl, few) })
          | inr le ↦ by_most (most call.op call.reply) refl fine le
        ]
      ]

-- EVERY HISTORY

record Kept (start : ℕ) (past : List Event) : Type 0 where
  pub begun : ℕ
  pub slots : List Slot
  pub pending : List NotedCall
  pub reads : List PlacedRead
  pub holds : Holds start past begun slots pending reads

abbrev Faulted : (start : ℕ) → List Event → Type 0
Faulted start past = (f : Fault) × (Shows start) past f

response_next : (start : ℕ) (past : List Event) (x : Event) (r : Reply) (k : Kept start past)
    (i : ℕ) (u : NotedCall) → Turn past x r k.pending (remove k.pending i) i u
    → Kept start (x ∷ past)
    ⊎ (Faulted start) (x ∷ past)
response_next start past x r k i u t =
    let call = completion x.at r u.call in
    elim (cases_Bool (is_advance u.call.op)) [
      | inl adds ↦ elim (first_free u.noted 0 k.slots) [
        | inl none ↦ inl (record {
          begun = k.begun;
          slots = k.slots ++ slot_of_call x.at call ∷ [];
          pending = remove k.pending i;
          reads = k.reads;
          holds = forced_into start past x r k.begun k.slots k.pending (remove k.pending i) k.reads
              i u t k.holds k.slots (k.slots ++ slot_of_call x.at call ∷ []) adds none refl refl;
        })
        | inr f ↦ inl (record {
          begun = k.begun;
          slots = f.prefix ++ slot_of_call f.slot.moment call ∷ f.back;
          pending = remove k.pending i;
          reads = k.reads;
          holds = filled_into start past x r k.begun k.slots k.pending (remove k.pending i) k.reads
              i u t k.holds (f.prefix ++ slot_of_call f.slot.moment call ∷ f.back) adds
              (record {
                prefix = f.prefix;
                slot = f.slot;
                back = f.back;
                was = f.is;
                is = refl;
                none =
                    f.none;
                low = omega (arith, f.low);
                below = f.below;
              });
        })
      ]
      | inr other ↦ elim (seen_or_faulty start k.begun u.noted call k.slots k.reads other
          t.returned.suits (noted_in start past x r k.begun k.slots k.pending (remove k.pending i)
          k.reads i u t k.holds)) [
            | inl s ↦ inl (record {
              begun = k.begun;
              slots = s.later;
              pending = remove k.pending i;
              reads = s.more;
              holds = observed_into start past x r k.begun k.slots k.pending (remove k.pending i)
                  k.reads i u t k.holds s.later s.more other s.is;
            })
            | inr f ↦ inr (
              f.fault,
              (refused_into start) past x r k.begun k.slots k.pending
                  (remove k.pending i) k.reads i u t k.holds f.fault other f.is,
            )
          ]
    ]

follows_response : (start : ℕ) (r : Reply) (o : Option PendingCall)
    → IsNextOf (Eventcount start) (Respond r) o → (p : PendingCall) × (o ≡ Some p)
follows_response start r None h = absurd h
follows_response start r (Some p) h = (p, refl)

kept_next : (start : ℕ) (past : List Event) (x : Event) (w : Action) → x.action ≡ w
    → IsHistoryOf (Eventcount start) (x ∷ past) → Kept start past → Kept start (x ∷ past)
    ⊎ (Faulted start) (x ∷ past)
kept_next start past x (Invoke j op) e history k =
    inl (record {
      begun = k.begun + one (is_advance op);
      slots = k.slots;
      pending = k.pending ++ record { call = invoked_by x j op; noted = length k.slots } ∷ [];
      reads = k.reads;
      holds = invoked_into start past x j op k.begun (k.begun + one (is_advance op)) k.slots
          k.pending (k.pending ++ record { call = invoked_by x j op; noted = length k.slots } ∷ [])
          k.reads (length k.slots) e refl refl refl history k.holds;
    })
kept_next start past x (Respond r) e history k =
    let some = follows_response start r (pending_of x.worker (pending_calls past))
    (subst (λ v. IsNextOf (Eventcount start) v (pending_of x.worker (pending_calls past))) e
    history.1) in
    let c = call_at x.worker k.pending some.0 (ap (pending_of x.worker) k.holds.pending_is ∙ some.1)
    in
    (response_next start) past x r k c.0 c.1.call
    (turn start past x r k.begun k.slots k.pending (remove k.pending c.0) k.reads c.0 c.1.call e c.1
    (sym (get_or_from_slice_get k.pending c.0 c.1.call c.1.call c.1.at)) refl history k.holds)

kept_or_faulted : (start : ℕ) (past : List Event) → IsHistoryOf (Eventcount start) past
    → Kept start past ⊎ (Faulted start) past
kept_or_faulted start [] h = inl (record {
  begun = 0;
  slots = [];
  pending = [];
  reads = [];
  holds =
      (starts start);
})
kept_or_faulted start (x ∷ past) h =
    elim (kept_or_faulted start past h.2) [
      | inl k ↦ kept_next start past x x.action refl h k
      | inr f ↦ inr (f.0, shows_next start x past f.0 h f.1)
    ]

pub every_history : EveryHistoryIsDecided
every_history = λ start past h.
    elim (kept_or_faulted start past h) [
      | inl k ↦ inl (kept_has_order start past k.begun k.slots k.pending k.reads h k.holds)
      | inr f ↦ inr f
    ]
