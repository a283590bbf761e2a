-- Pending advances take the free slots at the end.
use Rattle.std.proofs.Common.{◌≡◌, ℕ, ◌+◌, ◌<◌, ◌≤◌, ◌⊎◌, inl, inr, Bool, MatchBool, true, false}
use Rattle.std.proofs.Common.{◌==◌, ◌&&◌, nat_le, List, [], ◌∷◌, ◌++◌, length, Option, Some, None}
use Rattle.std.proofs.Common.{refl, ap, sym, ◌∙◌, arith, cond, subst, take, drop, get_or}
use Rattle.std.proofs.Common.{append_assoc, append-nil, if◌then◌else◌}
use Rattle.std.specs.List.Sorted.{IsPermutation}
use Rattle.std.proofs.lemmas.Bool.{eq-eqb, ne_eqb, lt-leb, both_ways}
use Rattle.std.proofs.lemmas.List.{map-append, take_more, drop_more, take-append-drop}
use Rattle.std.proofs.lemmas.List.Sorted.{IsPermutation-refl, IsPermutation-cons}
use Rattle.std.proofs.lemmas.List.Sorted.{IsPermutation-trans, IsPermutation-append_comm}
use Rattle.calls_core.specs.declared.history.Reply.{Reply}
use Rattle.calls_core.specs.declared.history.Reply.TheVariants.{Done}
use Rattle.calls_core.specs.declared.history.PendingCall.{PendingCall}
use Rattle.calls_core.specs.declared.history.Call.{Call}
use Rattle.calls_counts.specs.declared.state.Slot.{Slot}
use Rattle.calls_counts.specs.declared.state.PlacedRead.{PlacedRead}
use Rattle.calls_core.specs.Histories.{completion}
use Rattle.calls_core.specs.Linearizations.{answered_one, answered_calls}
use Rattle.calls_core.specs.Calls.{Earlier}
use Rattle.calls_counts.specs.Faults.{is_advance}
use Rattle.calls_core.specs.Lists.{Each, EachFrom, EachPair}
use Rattle.calls_counts.specs.ScanStates.{free, moments, may_take, takers, Enough}
use Rattle.calls_counts.specs.ScanStates.{IsSlotAt, IsNotedCall, IsReadAt, IsState}
use Rattle.calls_counts.specs.Scanning.{FreeBelow, NoneFree, slot_of_call, IsFilled, IsIdle, IsCompleting}
use Rattle.calls_counts.specs.Scanning.{Skips}
use Rattle.calls_core.proofs.Counting.{one_no, count_cons}
use Rattle.calls_core.proofs.Lists.{each_weaker, each_append, each_right, each_from_weaker}
use Rattle.calls_core.proofs.Lists.{each_from_left, each_from_right, each_from_append}
use Rattle.calls_core.proofs.Lists.{each_pair_across}
use Rattle.calls_core.specs.declared.pending.NotedCall.{NotedCall}
use Rattle.calls_core.specs.Pending.{noted_calls}
use Rattle.calls_counts.proofs.Slots.{slot_later, pending_later, read_later}
use Rattle.calls_counts.proofs.Invoking.{early_moments}
use Rattle.calls_counts.proofs.Filling.{moments_same, state_filled_by}
use Rattle.calls_counts.proofs.Stepping.{advance_is}
use Rattle.calls_counts.proofs.Ordering.{all_taken}

-- ONE MORE ANSWER

with_answer : PendingCall → Option Reply → (PendingCall → Option Reply) → PendingCall → Option Reply
with_answer o r answer p = if p.first == o.first then r else answer p

answered_same : (t : ℕ) (f g : PendingCall → Option Reply) (os : List PendingCall)
    → Each (λ p. f p ≡ g p) os → answered_calls t f os ≡ answered_calls t g os
answered_same t f g [] h = refl
answered_same t f g (o ∷ os) h = ap (λ r. answered_one t o r ++ answered_calls t f os) h.0 ∙ ap
    (λ cs. answered_one t o (g o) ++ cs) (answered_same t f g os h.1)

answered_append : (t : ℕ) (f : PendingCall → Option Reply) (os ps : List PendingCall)
    → answered_calls t f (os ++ ps) ≡ answered_calls t f os ++ answered_calls t f ps
answered_append t f [] ps = refl
answered_append t f (o ∷ os) ps = ap (λ cs. answered_one t o (f o) ++ cs)
    (answered_append t f os ps) ∙ sym (append_assoc (answered_one t o (f o)) (answered_calls t f os)
    (answered_calls t f ps))

answered_next : (t : ℕ) (answer : PendingCall → Option Reply) (r : Option Reply)
    (os : List PendingCall) (o : PendingCall) → Each (λ p. Earlier p o) os
    → answered_calls t (with_answer o r answer) (os ++ o ∷ []) ≡ answered_calls t answer os
    ++ answered_one t o r
unfolding with_answer
answered_next t answer r os o early =
    answered_append t (with_answer o r answer) os (o ∷ [])
    ∙ ap (λ cs. cs ++ (answered_one t o (with_answer o r answer o) ++ []))
    (answered_same t (with_answer o r answer) answer os
    (each_weaker (λ p. Earlier p o) (λ p. with_answer o r answer p ≡ answer p) (λ p lt.
    ap (λ b. cond b r (answer p)) (ne_eqb p.first o.first (λ e. let less : p.first < o.first =
    lt in omega arith))) os early))
    ∙ ap (λ cs. answered_calls t answer os ++ cs)
    (append-nil (answered_one t o (with_answer o r answer o)) ∙ ap (λ b.
    answered_one t o (cond b r (answer o))) (eq-eqb o.first o.first refl))

noted_next : (prefix : List NotedCall) (u : NotedCall)
    → noted_calls (prefix ++ u ∷ []) ≡ noted_calls prefix
    ++ u.call ∷ []
noted_next prefix u = map-append (λ (z : NotedCall). z.call) prefix (u ∷ [])

-- the pending calls before u were invoked before it
pub ahead_early : (prefix : List NotedCall) (u : NotedCall) (back : List NotedCall)
    → EachPair Earlier (noted_calls (prefix ++ u ∷ back))
    → Each (λ p. Earlier p u.call) (noted_calls prefix)
ahead_early prefix u back h =
    each_weaker (λ p. Each (Earlier p) (u.call ∷ noted_calls back)) (λ p. Earlier p u.call) (λ p k.
    k.0) (noted_calls prefix)
    (each_pair_across Earlier (noted_calls prefix) (u.call ∷ noted_calls back)
    (subst (EachPair Earlier) (map-append (λ (z : NotedCall). z.call) prefix (u ∷ back)) h))

-- SO FAR

none_free_still : (n m : ℕ) (c : Call) (prefix : List Slot) (s : Slot) (back : List Slot)
    → NoneFree (prefix ++ s ∷ back) n → NoneFree (prefix ++ slot_of_call m c ∷ back) n
none_free_still n m c prefix s back h =
    each_from_append (FreeBelow n) 0 (length prefix) prefix (slot_of_call m c ∷ back) (omega arith)
    (each_from_left (FreeBelow n) 0 prefix (s ∷ back) h) (
      (λ e. absurd (cc)),
      (each_from_right (FreeBelow n) 0 (length prefix) prefix (s ∷ back)
          (omega arith) h).1,
    )

idle_still : (old new : List Slot) (n : ℕ) (c : Call) → IsFilled old new n c → (u : NotedCall)
    → IsIdle old u → IsIdle new u
idle_still old new n c f u h e =
    subst (λ zs. NoneFree zs u.noted) (sym f.is) (none_free_still u.noted f.slot.moment c f.prefix
    f.slot f.back (subst (λ zs. NoneFree zs u.noted) f.was (h e)))

pub completing_none : (start end : ℕ) (calls : List Call) (t begun : ℕ) (slots : List Slot)
    (reads : List PlacedRead) (pending : List NotedCall) → t ≤ end
    → IsState start calls t begun slots pending reads
    → IsCompleting start end calls begun slots reads [] pending
completing_none start end calls t begun slots reads pending le h =
    let v = end + 1 in
    let ms = moments slots in
    record {
      answer = λ o. None;
      answered = [];
      kept = [];
      moved = IsPermutation-refl [];
      state = record {
        all = h.all;
        total = h.total;
        slot = each_from_weaker (IsSlotAt start calls t) (IsSlotAt start calls v)
            (slot_later start [] calls t v (omega arith)) 0 slots h.slot;
        rises = h.rises;
        call = each_weaker (IsNotedCall start calls t ms) (IsNotedCall start calls v ms)
            (pending_later start [] calls t v (omega arith) ms) pending h.call;
        enough = h.enough;
        read = each_weaker (IsReadAt start t ms) (IsReadAt start v ms)
            (read_later start [] calls t v (omega arith) ms) reads h.read;
        reads_rise = h.reads_rise;
      };
      early = each_weaker (λ m. m < t) (λ m. m ≤ end) (λ m lt. omega arith) ms
          (early_moments start calls t slots h.slot);
      idle = tt;
    }

module _ (start end : ℕ) (calls : List Call) (begun : ℕ) (now later : List Slot)
    (reads : List PlacedRead) (prefix : List NotedCall) (u : NotedCall) (back : List NotedCall)
    (ahead : Each (λ p. Earlier p u.call) (noted_calls prefix))
    (k : IsCompleting start end calls begun now reads prefix (u ∷ back)) where
  pub completing_filled : is_advance u.call.op ≡ true → IsFilled now later u.noted
      (completion end Done u.call) → IsCompleting start end calls begun later reads
      (prefix ++ u ∷ []) back
  completing_filled adds f =
      (let c = completion end Done u.call in
      let before = answered_calls end k.answer (noted_calls prefix) in
      let moment : f.slot.moment ≤ end =
      (each_right (λ m. m ≤ end) (moments f.prefix) (f.slot.moment ∷ moments f.back)
      (subst (Each (λ m. m ≤ end)) (ap moments f.was ∙ map-append (λ (z : Slot). z.moment) f.prefix
      (f.slot ∷ f.back)) k.early)).0 in
      let state : IsState start (k.answered ++ calls) (end + 1) begun (f.prefix ++ f.slot ∷ f.back)
      (k.kept ++ u ∷ back) reads =
      subst (λ zs. IsState start (k.answered ++ calls) (end + 1) begun zs (k.kept ++ u ∷ back)
      reads) f.was k.state in
      record {
        answer = with_answer u.call (Some Done) k.answer;
        answered = c ∷ k.answered;
        kept = k.kept;
        moved = subst (λ zs. IsPermutation zs (c ∷ k.answered))
            (sym (ap (answered_calls end (with_answer u.call (Some Done) k.answer))
            (noted_next prefix u) ∙ answered_next end k.answer (Some Done)
            (noted_calls prefix) u.call ahead))
            (IsPermutation-trans (before ++ c ∷ []) (c ∷ before) (c ∷ k.answered)
            (IsPermutation-append_comm before (c ∷ []))
            (IsPermutation-cons c before k.answered k.moved));
        state = subst (λ zs. IsState start (c ∷ (k.answered ++ calls)) (end + 1) begun zs
            (k.kept ++ back) reads) (sym f.is)
            (state_filled_by start (k.answered ++ calls) (end + 1) (end + 1) begun f.prefix f.slot
            f.back k.kept u back reads c (omega arith) (omega arith) moment
            (advance_is u.call.op adds) refl refl adds f.none f.low f.below state);
        early = subst (Each (λ m. m ≤ end)) (ap moments f.was ∙ sym
            (moments_same f.prefix f.slot c f.back) ∙ ap moments (sym f.is)) k.early;
        idle = each_weaker (IsIdle now) (IsIdle later) (idle_still now later u.noted c f) k.kept
            k.idle;
      })

  pub completing_passed : later ≡ now → IsIdle now u → IsCompleting start end calls begun later
      reads (prefix ++ u ∷ []) back
  completing_passed same idle =
      (let before = answered_calls end k.answer (noted_calls prefix) in
      subst (λ zs. IsCompleting start end calls begun zs reads (prefix ++ u ∷ []) back) (sym same)
      (record {
        answer = with_answer u.call None k.answer;
        answered = k.answered;
        kept = k.kept ++ u ∷ [];
        moved = subst (λ zs. IsPermutation zs k.answered)
            (sym (ap (answered_calls end (with_answer u.call None k.answer)) (noted_next prefix u)
            ∙ answered_next end k.answer None (noted_calls prefix) u.call ahead
            ∙ append-nil before)) k.moved;
        state = subst (λ zs. IsState start (k.answered ++ calls) (end + 1) begun now zs reads)
            (sym (append_assoc k.kept (u ∷ []) back)) k.state;
        early = k.early;
        idle = each_append (IsIdle now) k.kept (u ∷ []) k.idle (idle, tt);
      }))

-- AT THE END

idle_one : (i : ℕ) (s : Slot) (slots : List Slot) (u : NotedCall) → (is_advance u.call.op ≡ true
    → EachFrom (FreeBelow u.noted) i (s ∷ slots)) → s.taken ≡ None → may_take i u ≡ false
idle_one i s slots u h e =
    let P : Bool → Type 0 = λ b. is_advance u.call.op ≡ b → (b && nat_le u.noted i) ≡ false in
    elim (is_advance u.call.op) as P [
      | true ↦ λ adds. lt-leb u.noted i ((h adds).0 e)
      | false ↦ λ none. refl
    ] refl

none_take : (i : ℕ) (pending : List NotedCall)
    → Each (λ (u : NotedCall). may_take i u ≡ false) pending
    → takers pending i ≡ 0
none_take i [] h = refl
none_take i (u ∷ pending) h = omega (
  arith,
  count_cons (may_take i) u pending,
  one_no
      (may_take i u) h.0,
  none_take i pending h.1,
)

no_takers : (i : ℕ) (slots : List Slot) (pending : List NotedCall)
    → Each (λ (u : NotedCall). is_advance u.call.op ≡ true → EachFrom (FreeBelow u.noted) i slots)
    pending → EachFrom (λ j (s : Slot). s.taken ≡ None → takers pending j ≡ 0) i slots
no_takers i [] pending h = tt
no_takers i (s ∷ slots) pending h = (
  λ e. none_take i pending (each_weaker (λ (u : NotedCall). is_advance u.call.op ≡ true
      → EachFrom (FreeBelow u.noted) i (s ∷ slots)) (λ (u : NotedCall). may_take i u
      ≡ false) (λ u k.
      idle_one i s slots u k e) pending h),
  no_takers (i + 1) slots pending (each_weaker (λ (u : NotedCall). is_advance u.call.op ≡ true
      → EachFrom (FreeBelow u.noted) i (s ∷ slots)) (λ (u : NotedCall). is_advance u.call.op ≡ true
      → EachFrom (FreeBelow u.noted) (i + 1) slots) (λ u k e. (k e).1) pending h),
)

pub completed : (start end : ℕ) (calls : List Call) (begun : ℕ) (slots : List Slot)
    (reads : List PlacedRead) (pending : List NotedCall) (k : IsCompleting start end calls begun slots
    reads pending []) → Each (λ (s : Slot). free s.taken ≡ false) slots
completed start end calls begun slots reads pending k =
    all_taken (takers k.kept) 0 0 slots (no_takers 0 slots k.kept k.idle)
    (subst (λ zs. Enough (takers zs) 0 0 slots) (append-nil k.kept) k.state.enough)

-- THE LOOP INVARIANT

abbrev pub Completing : List Slot → List ℕ → List NotedCall → ℕ → List Slot → List ℕ
    → List NotedCall
    → List NotedCall → Type 0
Completing slots next pending end now skips prefix back =
    Skips slots next → Skips now skips
    × ((start : ℕ) (calls : List Call) (t begun : ℕ) (reads : List PlacedRead) → t ≤ end
    → EachPair Earlier (noted_calls pending) → IsState start calls t begun slots pending reads
    → IsCompleting start end calls begun now reads prefix back)

pub either_way : (A B : Type 0) (b : Bool) → MatchBool b A B → A ⊎ B
either_way A B true h = inl h
either_way A B false h = inr h

-- an advance takes a slot, or nothing changes
abbrev pub Moves : List Slot → List Slot → ℕ → NotedCall → Type 0
Moves now later end u =
    ((is_advance u.call.op ≡ true) × IsFilled now later u.noted (completion end Done u.call))
    ⊎ ((later ≡ now) × IsIdle now u)

pub moves_on : (slots : List Slot) (next : List ℕ) (pending : List NotedCall) (end : ℕ)
    (now : List Slot) (skips : List ℕ) (later : List Slot) (longer : List ℕ) (i : ℕ) (d : NotedCall)
    → i < length pending
    → Completing slots next pending end now skips (take i pending) (drop i pending)
    → (Skips now skips → Skips later longer × Moves now later end (get_or pending i d))
    → Completing slots next pending end later longer (take (i + 1) pending) (drop (i + 1) pending)
moves_on slots next pending end now skips later longer i d lt h move = λ s.
    (let known = h s in
    let moved = move known.0 in
    let u = get_or pending i d in
    let prefix = take i pending in
    let back = drop (i + 1) pending in
    let whole : pending ≡ prefix ++ u ∷ back = sym (take-append-drop i pending) ∙ ap (λ zs.
    prefix ++ zs) (drop_more pending i d lt) in (
      moved.0,
      λ start calls t begun reads le rise state.
          (let k = subst (IsCompleting start end calls begun now reads prefix)
          (drop_more pending i d lt) (known.1 start calls t begun reads le rise state) in
          let ahead = ahead_early prefix u back (subst (λ zs. EachPair Earlier (noted_calls zs))
          whole rise) in
          subst (λ zs. IsCompleting start end calls begun later reads zs back)
          (sym (take_more pending i d lt))
          (elim moved.1 [
            | inl f ↦ completing_filled start end calls begun now later reads prefix u back ahead k
                f.0 f.1
            | inr p ↦ completing_passed start end calls begun now later reads prefix u back ahead k
                p.0 p.1
          ])),
    ))

module _ (slots : List Slot) (next : List ℕ) (pending : List NotedCall) (end : ℕ) (now : List Slot)
    (skips : List ℕ) (later : List Slot) (longer : List ℕ) (i : ℕ) (d : NotedCall)
    (lt : i < length pending) (h : Completing slots next pending end now skips (take i pending)
    (drop i pending)) where
  -- an advance that takes a slot, if one is free
  pub moves_fill : (filling : List Slot) (known : List ℕ) (b : Bool)
      → is_advance (get_or pending i d).call.op ≡ true
      → (call : Call) → call ≡ completion end Done (get_or pending i d).call
      → (Skips now skips → Skips filling known × MatchBool b
      (IsFilled now filling (get_or pending i d).noted call) ((filling ≡ now)
      × NoneFree now (get_or pending i d).noted))
      → later ≡ filling → longer ≡ known → Completing slots next pending end later longer
      (take (i + 1) pending) (drop (i + 1) pending)
  moves_fill filling known b adds call is fill same known_same =
      subst (λ zs. Completing slots next pending end zs longer (take (i + 1) pending)
      (drop (i + 1) pending)) (sym same)
      (subst (λ zs. Completing slots next pending end filling zs (take (i + 1) pending)
      (drop (i + 1) pending)) (sym known_same)
      (moves_on slots next pending end now skips filling known i d lt h
      (λ s. let f = fill s in (
        f.0,
        elim (either_way (IsFilled now filling (get_or pending i d).noted call) ((filling ≡ now)
            × NoneFree now (get_or pending i d).noted) b f.1) [
              | inl filled ↦ inl (
                adds,
                subst (IsFilled now filling
                    (get_or pending i d).noted) is filled,
              )
              | inr none ↦ inr (none.0, λ e. none.1)
            ],
      ))))

  pub moves_past : is_advance (get_or pending i d).call.op ≡ false → later ≡ now → longer ≡ skips
      → Completing slots next pending end later longer (take (i + 1) pending) (drop (i + 1) pending)
  moves_past other same known_same =
      subst (λ zs. Completing slots next pending end zs longer (take (i + 1) pending)
      (drop (i + 1) pending)) (sym same)
      (subst (λ zs. Completing slots next pending end now zs (take (i + 1) pending)
      (drop (i + 1) pending)) (sym known_same)
      (moves_on slots next pending end now skips now skips i d lt h
      (λ s. (
        s,
        inr (
          refl,
          λ e. absurd (both_ways (is_advance (get_or pending i d).call.op) other
              e),
        ),
      ))))
