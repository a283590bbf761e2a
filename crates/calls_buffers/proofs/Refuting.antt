-- What shows a fault has no linearization.
use Rattle.std.proofs.Common.{◌≡◌, ℕ, ◌+◌, ◌<◌, ◌≤◌, inl, inr, Bool, true, ◌&&◌, nat_le}
use Rattle.std.proofs.Common.{List, [], ◌∷◌, ◌++◌, refl, ap, sym, ◌∙◌, subst, arith}
use Rattle.std.proofs.Common.{Some, count_by, append_assoc, append-nil, reverse}
use Rattle.std.proofs.lemmas.Bool.{cases_lt, eq-eqb, le-leb, and_from, and_parts}
use Rattle.std.proofs.lemmas.List.Elements.{Contains-append_right}
use Rattle.std.proofs.lemmas.List.Sorted.{Contains-permutation}
use Rattle.calls_core.specs.declared.history.Kind.TheVariants.{Buffer}
use Rattle.calls_core.specs.declared.history.Op.TheVariants.{Produce, Consume}
use Rattle.calls_core.specs.declared.history.Reply.{Reply}
use Rattle.calls_core.specs.declared.history.Event.{Event}
use Rattle.calls_core.specs.declared.history.PendingCall.{PendingCall}
use Rattle.calls_core.specs.declared.history.Call.{Call}
use Rattle.calls_core.specs.Lists.{Each, EachPair}
use Rattle.calls_core.specs.Histories.{IsHistoryOf, clock, completion, completed_calls}
use Rattle.calls_core.specs.Histories.{pending_calls}
use Rattle.calls_core.specs.Linearizations.{IsLegalHistory, KeepsOrder, initial, IsLinearOrder}
use Rattle.calls_core.specs.Linearizations.{answered_calls}
use Rattle.calls_core.specs.Outcomes.{IsOrderOf}
use Rattle.calls_core.specs.Calls.{AreCallsOf}
use Rattle.calls_core.proofs.Positions.{are_calls_of, calls_of_later}
use Rattle.calls_core.proofs.Lists.{each_weaker, each_right, each_pair_right, each_pair_across}
use Rattle.calls_core.proofs.Counting.{one_yes, count_cons, count_append, Split}
use Rattle.calls_core.proofs.Counting.{split_at}
use Rattle.calls_buffers.specs.declared.fault.Fault.{Fault}
use Rattle.calls_buffers.specs.declared.fault.Fault.TheVariants.{Unproduced, Overfull, Crowded}
use Rattle.calls_buffers.specs.declared.fault.Fault.TheVariants.{Overtaken, Passed, Squeezed}
use Rattle.calls_buffers.specs.declared.fault.Fault.TheVariants.{Overdue, Outrun}
use Rattle.calls_buffers.specs.declared.fault.Flow.TheVariants.{In, Out}
use Rattle.calls_buffers.specs.Queues.{IsQueueRun}
use Rattle.calls_buffers.specs.Counts.{any_item, item, produces, is_consume, put_one}
use Rattle.calls_buffers.specs.Counts.{is_put, is_take, returned_puts, invoked_puts, all_puts}
use Rattle.calls_buffers.specs.Counts.{returned_takes, invoked_takes, later_takes, pending_takes}
use Rattle.calls_buffers.specs.Counts.{untaken}
use Rattle.calls_buffers.specs.Jobs.{IsConsumeOf}
use Rattle.calls_buffers.specs.Faults.{ShowsIn, Shows}
use Rattle.calls_buffers.proofs.Flows.{put_by, taken_by, put_items, taken_items, put_append}
use Rattle.calls_buffers.proofs.Flows.{taken_append, run_first, leaves, count_put, count_taken}
use Rattle.calls_buffers.proofs.Flows.{IsBounded, bounded}
use Rattle.calls_buffers.proofs.Cuts.{Lasts, Cut, cut, not_before, PutAt, put_at}
use Rattle.calls_buffers.proofs.Asking.{put_asked, take_asked, none_untaken}
use Rattle.calls_schedule.proofs.Ranks.{no_ranks}
use Rattle.calls_turns.proofs.Lasting.{no_taking}
use Rattle.calls_buffers.proofs.Squeezing.{no_squeeze}
use Rattle.calls_buffers.proofs.Standing.{most, rank, have_ranks}
use Rattle.calls_buffers.proofs.Taking.{outrun_out}
use Rattle.calls_buffers.proofs.Putting.{outrun_in}
use Rattle.calls_buffers.proofs.Tallies.{all_last, all_keep, queue, counted}
use Rattle.calls_buffers.proofs.Tallies.{returned_in_front, invoked_in_back, front_invoked}

module _ (n t : ℕ) (done : List Call) (pending : List PendingCall) (cs : List Call)
    (l : IsLinearOrder (IsLegalHistory (initial (Some (Buffer n)))) done pending t cs)
    (h : AreCallsOf (Buffer n) done pending t) where
  put_covers : (test : ℕ → Bool) (o : PendingCall) (x : Reply)
      → is_put test (completion t x o) ≡ true → produces test o.op ≡ true
  put_covers test o x e = put_asked test o.op x e

  take_covers : (test : ℕ → Bool) (o : PendingCall) (x : Reply)
      → is_take test (completion t x o) ≡ true → is_consume o.op ≡ true
  take_covers test o x e = take_asked test o.op x e

  -- AT ONE POSITION

  module _ (u : ℕ) (test : ℕ → Bool) where
    k : Cut u cs
    k = cut u cs (all_last n t done pending cs l h) (all_keep n t done pending cs l h)

    bounds : IsBounded test n k.prefix
    bounds = bounded test n k.prefix (run_first n [] k.prefix k.back (subst (IsQueueRun n []) k.is
        (queue n t done pending cs l h)))

    no_more_taken : returned_takes test u done ≤ invoked_puts test u done pending
    no_more_taken =
        let before : returned_takes test u done ≤ count_by (is_take test) k.prefix =
        returned_in_front n t done pending cs l h k.prefix k.back k.is (is_take test) u k.later in
        let after : count_by (is_put test) k.prefix ≤ invoked_puts test u done pending =
        front_invoked n t done pending cs l h k.prefix k.back k.is (is_put test)
        (λ (o : PendingCall). produces test o.op) (put_covers test) u k.begun in
        let b = bounds.taken in omega arith

    no_more_put : returned_puts test u done
        ≤ n + (invoked_takes test u done + pending_takes u pending)
    no_more_put =
        let before : returned_puts test u done ≤ count_by (is_put test) k.prefix =
        returned_in_front n t done pending cs l h k.prefix k.back k.is (is_put test) u k.later in
        let after : count_by (is_take test) k.prefix ≤ invoked_takes test u done
        + pending_takes u pending =
        front_invoked n t done pending cs l h k.prefix k.back k.is (is_take test)
        (λ (o : PendingCall). is_consume o.op) (take_covers test) u k.begun in
        let b = bounds.left in omega arith

  -- BEFORE A CONSUME

  -- where it stands, and what its item was put in after
  record Stands (y u : ℕ) (c : Call) : Type 0 where
    prefix : List Call
    back : List Call
    is : cs ≡ prefix ++ c ∷ back
    before : (test : ℕ → Bool) → returned_puts test u done ≤ count_by (is_take test) prefix

  module _ (y u : ℕ) (c : Call) (k : IsConsumeOf done y c)
      (none : invoked_puts (item y) u done pending ≡ 0) where
    place : Split cs c
    place = split_at cs c (Contains-permutation (answered_calls t l.answer pending ++ done) cs c
        l.each_once (Contains-append_right (answered_calls t l.answer pending) done c k.known))

    up_to : cs ≡ (place.prefix ++ c ∷ []) ++ place.back
    up_to = place.is ∙ sym (append_assoc place.prefix (c ∷ []) place.back)

    nothing_put : put_items (c ∷ []) ≡ []
    nothing_put = ap (λ op. put_by op c.reply ++ []) k.asks

    own_taken : taken_items (c ∷ []) ≡ y ∷ []
    own_taken = ap (λ op. taken_by op c.reply ++ []) k.asks
        ∙ ap (λ r. taken_by Consume r ++ []) k.returns

    queued : (left : List ℕ) × (put_items place.prefix ≡ taken_items place.prefix ++ y ∷ left)
    queued =
        let r = leaves n [] (place.prefix ++ c ∷ []) (omega arith)
        (run_first n [] (place.prefix ++ c ∷ []) place.back (subst (IsQueueRun n []) up_to
        (queue n t done pending cs l h))) in (
          r.left,
          sym (append-nil (put_items place.prefix))
              ∙ ap (λ zs. put_items place.prefix ++ zs) (sym nothing_put)
              ∙ sym (put_append place.prefix (c ∷ []))
              ∙ r.same
              ∙ ap (λ zs. zs ++ r.left) (taken_append place.prefix (c ∷ []))
              ∙ ap (λ zs. (taken_items place.prefix ++ zs) ++ r.left) own_taken
              ∙ append_assoc (taken_items place.prefix) (y ∷ []) r.left,
        )

    put : PutAt (taken_items place.prefix) y place.prefix
    put = put_at place.prefix (taken_items place.prefix) y queued.0 queued.1

    abbrev rest : List Call
    rest = put.back ++ c ∷ place.back

    from_put : cs ≡ put.prefix ++ put.put ∷ rest
    from_put = place.is ∙ ap (λ zs. zs ++ c ∷ place.back) put.is
        ∙ append_assoc put.prefix (put.put ∷ put.back) (c ∷ place.back)

    -- the item was put in by a produce that was invoked later
    late : u < put.put.first
    late = elim (cases_lt u put.put.first) [
      | inl lt ↦ lt
      | inr le ↦ (let test : Call → Bool = λ (d : Call). is_put (item y) d && nat_le d.first u in
          let puts : is_put (item y) put.put ≡ true =
          ap (λ op. put_one (item y) op put.put.reply) put.asks
          ∙ ap (put_one (item y) (Produce y)) put.returns ∙ eq-eqb y y refl in
          let yes = and_from (is_put (item y) put.put) (nat_le put.put.first u) puts
          (le-leb put.put.first u le) in
          let bound : count_by test cs ≤ invoked_puts (item y) u done pending =
          counted n t done pending cs l h test
          (λ (o : PendingCall). produces (item y) o.op && nat_le o.first u)
          (λ o x e. (let parts = and_parts (is_put (item y) (completion t x o)) (nat_le o.first u)
          e in and_from (produces (item y) o.op) (nat_le o.first u)
          (put_covers (item y) o x parts.0) parts.1)) in
          absurd (omega (
            arith,
            ap (count_by test) from_put,
            count_append test put.prefix (put.put ∷ rest),
            count_cons test put.put rest,
            one_yes (test put.put) yes,
          )))
    ]

    after_put : Each (λ (d : Call). u < d.last) (put.put ∷ rest)
    after_put =
        let lasts : Each Lasts (put.prefix ++ put.put ∷ rest) =
        subst (Each Lasts) from_put (all_last n t done pending cs l h) in
        let pairs : EachPair KeepsOrder (put.put ∷ rest) =
        each_pair_right KeepsOrder put.prefix (put.put ∷ rest) (subst (EachPair KeepsOrder) from_put
        (all_keep n t done pending cs l h)) in (
          (let own : Lasts put.put = (each_right Lasts put.prefix (put.put ∷ rest) lasts).0 in
              omega (arith, late)),
          each_weaker (KeepsOrder put.put) (λ (d : Call). u < d.last) (λ d keeps.
              omega (arith, late, not_before put.put d keeps)) rest pairs.0,
        )

    represents : Stands y u c
    represents = record {
      prefix = place.prefix;
      back = place.back;
      is = place.is;
      before = λ test. omega (
        arith,
        returned_in_front n t done pending cs l h put.prefix (put.put ∷ rest) from_put (is_put test)
            u after_put,
        count_put test put.prefix,
        ap (count_by test) put.before,
        count_taken test place.prefix,
      );
    }

    front_early : (s : Stands y u c) → Each (λ (d : Call). d.first ≤ c.last) s.prefix
    front_early s =
        let pairs : EachPair KeepsOrder (s.prefix ++ c ∷ s.back) = subst (EachPair KeepsOrder) s.is
        (all_keep n t done pending cs l h) in
        each_weaker (λ (d : Call). Each (KeepsOrder d) (c ∷ s.back)) (λ (d : Call).
        d.first ≤ c.last) (λ d keeps. not_before d c keeps.0) s.prefix
        (each_pair_across KeepsOrder s.prefix (c ∷ s.back) pairs)

    -- what was put in before was taken before, by a consume that was invoked in time
    taken_in_time : (test : ℕ → Bool) → returned_puts test u done
        ≤ invoked_takes test c.last done + pending_takes c.last pending
    taken_in_time test =
        let s = represents in
        let early : count_by (is_take test) s.prefix ≤ invoked_takes test c.last done
        + pending_takes c.last pending =
        front_invoked n t done pending cs l h s.prefix (c ∷ s.back) s.is (is_take test)
        (λ (o : PendingCall). is_consume o.op) (take_covers test) c.last (front_early s) in
        omega (arith, s.before test)

    -- and no more can be taken later than is left
    taken_in_all : (test : ℕ → Bool) → returned_puts test u done
        + later_takes test c.last done ≤ all_puts test done pending
    taken_in_all test =
        let s = represents in
        let later : later_takes test c.last done ≤ count_by (is_take test) (c ∷ s.back) =
        invoked_in_back n t done pending cs l h s.prefix (c ∷ s.back) s.is (is_take test) c.last
        (front_early s) in
        let all : count_by (is_put test) cs ≤ all_puts test done pending =
        counted n t done pending cs l h (is_put test) (λ (o : PendingCall). produces test o.op)
        (put_covers test) in
        let b = (bounded test n cs (queue n t done pending cs l h)).taken in
        omega (
          arith,
          s.before test,
          ap (count_by (is_take test)) s.is,
          count_append (is_take test) s.prefix (c ∷ s.back),
        )

  -- FAULTS

  no_order : (f : Fault) → ShowsIn n done pending f → ⊥
  no_order (Unproduced c taken put) s =
      omega (arith, s.more, s.takes, s.puts, no_more_taken c.last (item s.value))
  no_order (Overfull c put taken) s =
      omega (arith, s.more, s.takes, s.puts, no_more_put c.last any_item)
  no_order (Crowded c left asked) s = omega (
    arith,
    s.more,
    s.puts,
    s.asks,
    no_more_put c.last (untaken c.last done),
    none_untaken c.last done,
  )
  no_order (Overtaken p c before later all) s = omega (
    arith,
    s.more,
    s.puts,
    s.takes,
    s.made,
    taken_in_all s.y p.last c s.consume s.none (item s.x),
  )
  no_order (Passed p c left asked) s = omega (
    arith,
    s.more,
    s.puts,
    s.asks,
    taken_in_time s.y p.last c s.consume s.none (untaken c.last done),
    none_untaken c.last done,
  )
  no_order (Squeezed q p left asked) s =
      absurd (no_squeeze n t done pending cs l h q p left asked s)
  no_order (Overdue bounds) s =
      let r = have_ranks n t done pending cs l h s.end s.jobs s.are in
      no_ranks n s.jobs (reverse bounds.items) (most n t done pending cs l h s.end s.jobs s.are)
      (rank n t done pending cs l h s.end s.jobs s.are) s.refuted r
  no_order (Outrun Out steps clash) s =
      let r = outrun_out n t done pending cs l h s.end s.within s.turns s.takers s.are in
      no_taking s.end s.turns s.takers r.0 (reverse steps.items) clash s.refuted r.1
  no_order (Outrun In steps clash) s =
      let r = outrun_in n t done pending cs l h s.end s.within s.turns s.takers s.are in
      no_taking s.end s.turns s.takers r.0 (reverse steps.items) clash s.refuted r.1

pub fault_leaves_no_order : (n : ℕ) (past : List Event) (f : Fault) (t : ℕ) (cs : List Call)
    → IsHistoryOf (Buffer n) past → clock past ≤ t → Shows n past f
    → IsOrderOf (Buffer n) past t cs → ⊥
fault_leaves_no_order n past f t cs h le s l =
    no_order n t (completed_calls past) (pending_calls past) cs l
    (calls_of_later (Buffer n) (completed_calls past) (pending_calls past) (clock past) t le
    (are_calls_of (Buffer n) past h)) f s
