-- The whole pass over the events.
use Rattle.std.proofs.Common.{◌≡◌, ℕ, ◌+◌, ◌<◌, ◌≤◌, ◌⊎◌, inl, inr, List, [], ◌∷◌, ◌++◌, length}
use Rattle.std.proofs.Common.{refl, ap, sym, ◌∙◌, arith, subst, take, get_or, reverse, Option}
use Rattle.std.proofs.Common.{Some, None, append_assoc, append-nil}
use Rattle.std.specs.List.Sorted.{IsPermutation}
use Rattle.std.proofs.lemmas.Bool.{cases_lt, cases_Bool, both_ways}
use Rattle.std.proofs.lemmas.List.{length-reverse, length-take-le}
use Rattle.std.proofs.lemmas.List.Sums.{count_by-le-length}
use Rattle.std.proofs.lemmas.List.Sorted.{IsPermutation-refl, IsPermutation-trans}
use Rattle.std.proofs.lemmas.List.Sorted.{IsPermutation-append_left}
use Rattle.std.proofs.lemmas.Option.{MatchOption-at_some, MatchOption-at_none}
use Rattle.calls_core.specs.declared.history.Kind.TheVariants.{Eventcount}
use Rattle.calls_core.specs.declared.history.Reply.TheVariants.{Done}
use Rattle.calls_core.specs.declared.history.Event.{Event}
use Rattle.calls_core.specs.declared.history.Call.{Call}
use Rattle.calls_counts.specs.declared.fault.Fault.{Fault}
use Rattle.calls_counts.specs.declared.state.Slot.{Slot}
use Rattle.calls_counts.specs.declared.state.PlacedRead.{PlacedRead}
use Rattle.calls_counts.specs.declared.scan.Scan.{Scan}
use Rattle.calls_core.specs.Histories.{clock, completion, pending_calls, completed_calls}
use Rattle.calls_core.specs.Histories.{IsHistoryOf}
use Rattle.calls_core.specs.Linearizations.{initial, answered_calls}
use Rattle.calls_core.specs.Calls.{Earlier}
use Rattle.calls_core.specs.Beginnings.{past_at}
use Rattle.calls_core.specs.Outcomes.{IsOrderOf, HasOrderOf}
use Rattle.calls_core.specs.Lists.{Each, EachFrom, EachPair}
use Rattle.calls_core.proofs.Lists.{each_append}
use Rattle.calls_core.specs.declared.pending.NotedCall.{NotedCall}
use Rattle.calls_core.specs.Pending.{noted_calls}
use Rattle.calls_core.proofs.Beginnings.{past_next, history_next}
use Rattle.calls_counts.specs.Faults.{is_advance, invokes_advance, Shows}
use Rattle.calls_counts.specs.kept.Orders.{order_from, IsOrdering}
use Rattle.calls_counts.specs.Scanning.{FreeBelow, slot_of_call, IsCompleting, Holds, ScanKeeps, TakesIn}
use Rattle.calls_counts.proofs.Events.{CallFits, pending_fit, completed_fit, answered_fit}
use Rattle.calls_counts.proofs.Events.{pending_rise}
use Rattle.calls_counts.proofs.Runs.{each_moved, sequential}
use Rattle.calls_counts.proofs.Completing.{ahead_early, completing_none, completing_filled}
use Rattle.calls_counts.proofs.Completing.{completing_passed, completed}
use Rattle.calls_counts.proofs.Ordering.{legal_order}

-- THE HISTORY BEFORE EACH EVENT

-- no more advances were invoked than there are events
pub begun_within : (start : ℕ) (events : List Event) (i begun : ℕ) (slots : List Slot)
    (pending : List NotedCall) (reads : List PlacedRead) → i ≤ length events
    → Holds start (past_at i events) begun slots pending reads → begun ≤ i
begun_within start events i begun slots pending reads le h =
    omega (
      arith,
      h.begun_is,
      count_by-le-length (λ (x : Event). invokes_advance x.action)
          (past_at i events),
      length-reverse (take i events),
      length-take-le i events le,
    )

pub starts : (start : ℕ) → Holds start [] 0 [] [] []
starts start = record {
  state = record {
    all = IsPermutation-refl [];
    total = refl;
    slot = tt;
    rises = tt;
    call = tt;
    enough = tt;
    read = tt;
    reads_rise = tt;
  };
  begun_is = refl;
  pending_is = refl;
}

-- AFTER AN EVENT

module _ (start : ℕ) (events : List Event) (i : ℕ) (d : Event) (lt : i < length events)
    (h : IsHistoryOf (Eventcount start) (reverse events)) (old new : Scan) (o : Option Fault)
    (took : TakesIn start old new (get_or events i d) o)
    (k : ScanKeeps start (past_at i events) old) where
  pub took_fault : (f : Fault) → o ≡ Some f → Shows start (past_at (i + 1) events) f
  took_fault f e =
      subst (λ p. Shows start p f) (sym (past_next events i d lt))
      (MatchOption-at_some (ScanKeeps start (get_or events i d ∷ past_at i events) new)
      (Shows start (get_or events i d ∷ past_at i events)) f e
      (took (past_at i events) (history_next (Eventcount start) i events d lt h) k))

  pub took_next : o ≡ None → ScanKeeps start (past_at (i + 1) events) new
  took_next e =
      subst (λ p. ScanKeeps start p new) (sym (past_next events i d lt))
      (MatchOption-at_none (ScanKeeps start (get_or events i d ∷ past_at i events) new)
      (Shows start (get_or events i d ∷ past_at i events)) e
      (took (past_at i events) (history_next (Eventcount start) i events d lt h) k))

-- THE END

pub ordered : (start : ℕ) (past : List Event) (end begun : ℕ) (slots : List Slot)
    (reads : List PlacedRead) (pending : List NotedCall) (cs : List Call)
    → IsHistoryOf (Eventcount start) past → noted_calls pending ≡ pending_calls past
    → IsCompleting start end (completed_calls past) begun slots reads pending []
    → IsOrdering slots reads cs → IsOrderOf (Eventcount start) past end cs
ordered start past end begun slots reads pending cs history is k o =
    let kind = Eventcount start in
    let done = completed_calls past in
    let more = answered_calls end k.answer (pending_calls past) in
    let legal = legal_order start (k.answered ++ done) (end + 1) begun slots (k.kept ++ []) reads cs
    k.state (completed start end done begun slots reads pending k) o in
    let moved : IsPermutation more k.answered = subst (λ os.
    IsPermutation (answered_calls end k.answer os) k.answered) is k.moved in
    let once : IsPermutation (more ++ done) cs = IsPermutation-trans (more ++ done)
    (k.answered ++ done) cs (IsPermutation-append_left done more k.answered moved)
    legal.each_once in
    let fits : Each (CallFits kind) (more ++ done) = each_append (CallFits kind) more done
    (answered_fit kind end k.answer (pending_calls past) (pending_fit kind past history))
    (completed_fit kind past history) in
    record {
      answer = k.answer;
      each_once = once;
      in_order = legal.in_order;
      run = sequential start cs (each_moved (CallFits kind) (more ++ done) cs once fits)
          (initial (Some kind)) legal.run;
    }

-- THE LINEARIZATION OF EACH PREFIX

-- the first slot that is free from index n on, if the first of these slots has index i
pub record First (n i : ℕ) (slots : List Slot) : Type 0 where
  pub prefix : List Slot
  pub slot : Slot
  pub back : List Slot
  pub is : slots ≡ prefix ++ slot ∷ back
  pub none : slot.taken ≡ None
  pub low : n ≤ i + length prefix
  pub below : EachFrom (FreeBelow n) i prefix

pub first_free : (n i : ℕ) (slots : List Slot) → EachFrom (FreeBelow n) i slots ⊎ First n i slots
first_free n i [] = inl tt
first_free n i (s ∷ slots) = go s.taken refl (cases_lt i n) (first_free n (i + 1) slots)
  where
    later : FreeBelow n i s → EachFrom (FreeBelow n) (i + 1) slots ⊎ First n (i + 1) slots
        → EachFrom (FreeBelow n) i (s ∷ slots) ⊎ First n i (s ∷ slots)
    later b (inl rest) = inl (b, rest)
    later b (inr f) = inr (record {
      prefix = s ∷ f.prefix;
      slot = f.slot;
      back = f.back;
      is =
          ap (λ zs. s ∷ zs) f.is;
      none = f.none;
      low = omega (arith, f.low);
      below = (b, f.below);
    })

    go : (o : Option Call) → s.taken ≡ o → (i < n) ⊎ (n ≤ i) → EachFrom (FreeBelow n) (i + 1) slots
        ⊎ First n (i + 1) slots → EachFrom (FreeBelow n) i (s ∷ slots) ⊎ First n i (s ∷ slots)
    go (Some c) e o rest = later (λ none. absurd (let both : Some c ≡ None = sym e ∙ none in cc))
        rest
    go None e (inl lt) rest = later (λ none. lt) rest
    go None e (inr le) rest = inr (record {
      prefix = [];
      slot = s;
      back = slots;
      is = refl;
      none = e;
      low = omega arith;
      below = tt;
    })

record Ended (start end : ℕ) (calls : List Call) (begun : ℕ) (reads : List PlacedRead)
    (pending : List NotedCall) : Type 0 where
  pub later : List Slot
  pub kept : IsCompleting start end calls begun later reads pending []

complete : (start end : ℕ) (calls : List Call) (begun : ℕ) (slots : List Slot)
    (reads : List PlacedRead) (prefix back : List NotedCall)
    → EachPair Earlier (noted_calls (prefix ++ back)) → IsCompleting start end calls begun slots
    reads prefix back → Ended start end calls begun reads (prefix ++ back)
complete start end calls begun slots reads prefix [] rise k = record {
  later = slots;
  kept =
      subst (λ us. IsCompleting start end calls begun slots reads us []) (sym (append-nil prefix)) k;
}
complete start end calls begun slots reads prefix (u ∷ back) rise k =
    let ahead = ahead_early prefix u back rise in
    let same : (prefix ++ u ∷ []) ++ back ≡ prefix ++ u ∷ back =
    append_assoc prefix (u ∷ []) back in
    let rest : EachPair Earlier (noted_calls ((prefix ++ u ∷ []) ++ back)) =
    subst (λ us. EachPair Earlier (noted_calls us)) (sym same) rise in
    subst (Ended start end calls begun reads) same
    (elim (cases_Bool (is_advance u.call.op)) [
      | inr other ↦ complete start end calls begun slots reads (prefix ++ u ∷ []) back rest
          (completing_passed start end calls begun slots slots reads prefix u back ahead k refl (λ e.
          absurd (both_ways (is_advance u.call.op) other e)))
      | inl adds ↦
          elim (first_free u.noted 0 slots) [
            | inl none ↦ complete start end calls begun slots reads (prefix ++ u ∷ []) back rest
                (completing_passed start end calls begun slots slots reads prefix u back ahead k refl
                (λ e. none))
            | inr f ↦
                (let later = f.prefix ++ slot_of_call f.slot.moment (completion end Done u.call)
                ∷ f.back in
                complete start end calls begun later reads (prefix ++ u ∷ []) back rest
                (completing_filled start end calls begun slots later reads prefix u back ahead k adds
                (record {
                  prefix = f.prefix;
                  slot = f.slot;
                  back = f.back;
                  was = f.is;
                  is = refl;
                  none = f.none;
                  low = omega (arith, f.low);
                  below = f.below;
                })))
          ]
    ])

pub kept_has_order : (start : ℕ) (past : List Event) (begun : ℕ) (slots : List Slot)
    (pending : List NotedCall) (reads : List PlacedRead) → IsHistoryOf (Eventcount start) past
    → Holds start past begun slots pending reads → HasOrderOf (Eventcount start) past
kept_has_order start past begun slots pending reads history h =
    let end = clock past in
    let rise : EachPair Earlier (noted_calls pending) = subst (EachPair Earlier) (sym h.pending_is)
    (pending_rise (Eventcount start) past history) in
    let r = complete start end (completed_calls past) begun slots reads [] pending rise
    (completing_none start end (completed_calls past) end begun slots reads pending
    (omega arith) h.state) in (
      order_from 0 r.later reads,
      ordered start past end begun r.later reads pending
          (order_from 0 r.later reads) history h.pending_is r.kept refl,
    )
