-- What the buffer holds after one more event.
use Rattle.std.proofs.Common.{◌≡◌, ℕ, ◌<◌, List, [], ◌∷◌, ◌++◌, length, Option, Some}
use Rattle.std.proofs.Common.{None, IfSome, refl, ap, sym, ◌∙◌, arith, subst, append-nil}
use Rattle.std.proofs.Common.{append_assoc, length-append}
use Rattle.calls_core.specs.declared.history.Kind.TheVariants.{Buffer}
use Rattle.calls_core.specs.declared.history.Op.{Op}
use Rattle.calls_core.specs.declared.history.Op.TheVariants.{Produce, Consume}
use Rattle.calls_core.specs.declared.history.Reply.{Reply}
use Rattle.calls_core.specs.declared.history.Reply.TheVariants.{Done, Number, Timeout}
use Rattle.calls_core.specs.declared.history.Action.TheVariants.{Invoke, Respond}
use Rattle.calls_core.specs.declared.history.Event.{Event}
use Rattle.calls_core.specs.declared.history.PendingCall.{PendingCall}
use Rattle.calls_core.specs.declared.history.Call.{Call}
use Rattle.calls_core.specs.Lists.{Each}
use Rattle.calls_core.proofs.Lists.{each_weaker}
use Rattle.calls_core.specs.Histories.{clock, completion, pending_calls, without}
use Rattle.calls_core.specs.Histories.{IsHistoryOf}
use Rattle.calls_buffers.specs.Accesses.{put_item, taken_item}
use Rattle.calls_buffers.specs.Queues.{Allows, items_after}
use Rattle.calls_spsc.specs.Flows.{put_items, taken_items}
use Rattle.calls_spsc.specs.kept.Orders.{IsOrderTo, AnswersAlike}
use Rattle.calls_spsc.specs.kept.Watching.{listed, answers, Holding}
use Rattle.calls_spsc.proofs.Ordering.{nothing_yet, invoked, takes_effect, responded, answered_now}
use Rattle.calls_spsc.proofs.Ending.{IsPendingBy, IsProduce, IsConsume, IsAmong}
use Rattle.calls_spsc.proofs.Adding.{invoked_puts, invoked_takes, responded_puts, responded_takes}

-- ANSWERS

-- the answer to consumes does not depend on the item returned early
alike_consumes : (early early' held : Option ℕ) (os : List PendingCall) → Each IsConsume os
    → AnswersAlike (answers early' held) (answers early held) os
alike_consumes early early' held os h =
    each_weaker IsConsume (λ (o : PendingCall). answers early' held o.op ≡ answers early held o.op)
    (λ o e. ap (answers early' held) e ∙ sym (ap (answers early held) e)) os h

-- the answer to produces does not depend on the item taken
alike_produces : (early held held' : Option ℕ) (os : List PendingCall) → Each IsProduce os
    → AnswersAlike (answers early held') (answers early held) os
alike_produces early held held' os h =
    each_weaker IsProduce (λ (o : PendingCall). answers early held' o.op ≡ answers early held o.op)
    (λ o e. ap (answers early held') e.1 ∙ sym (ap (answers early held) e.1)) os h

abbrev no_item : Option ℕ
no_item = None

-- AT FIRST

pub holding_nothing : (n : ℕ) → Holding n [] [] None None
holding_nothing n = record {
  flow = refl;
  few = omega arith;
  short = tt;
  full = tt;
  order = (
    [],
    record {
      each_once = (nothing_yet n).each_once;
      in_order = (nothing_yet n).in_order;
      run = (nothing_yet n).run;
    },
  );
}

-- AN INVOCATION

pub holding_invoked : (n : ℕ) (past : List Event) (x : Event) (k : ℕ) (op : Op) (items : List ℕ)
    (early held : Option ℕ) → x.action ≡ Invoke k op → answers early held op ≡ None
    → IsHistoryOf (Buffer n) (x ∷ past) → Holding n past items early held
    → Holding n (x ∷ past) items early held
holding_invoked n past x k op items early held act none h w =
    record {
      flow = ap (λ zs. zs ++ listed early) (invoked_puts past x k op act) ∙ w.flow
          ∙ ap (λ zs. zs ++ listed held ++ items) (sym (invoked_takes past x k op act));
      few = w.few;
      short = w.short;
      full = w.full;
      order =
          invoked n past (answers early held) w.order.0 items x k op act none h w.order.1;
    }

-- A RESPONSE OF THE PRODUCE

module _ (n : ℕ) (past : List Event) (x : Event) (r : Reply) (o : PendingCall)
    (others : List PendingCall) (v : ℕ) (act : x.action ≡ Respond r)
    (ends : IsPendingBy x.worker (pending_calls past) o others) (is : o.op ≡ Produce v)
    (consumes : Each IsConsume others) (h : IsHistoryOf (Buffer n) (x ∷ past)) where
  pub puts_by_put : put_items (x ∷ past) ≡ put_items past ++ listed (put_item (Produce v) r)
  puts_by_put = responded_puts past x r o act ends.own
      ∙ ap (λ op. put_items past ++ listed (put_item op r)) is

  pub takes_by_put : taken_items (x ∷ past) ≡ taken_items past
  takes_by_put = responded_takes past x r o act ends.own
      ∙ ap (λ op. taken_items past ++ listed (taken_item op r)) is ∙ append-nil (taken_items past)

  alike : (early early' held : Option ℕ)
      → AnswersAlike (answers early' held) (answers early held)
      (without x.worker (pending_calls past))
  alike early early' held = alike_consumes early early' held (without x.worker (pending_calls past))
      (subst (Each IsConsume) (sym ends.rest) consumes)

  -- its item was returned
  pub put_returned_done : (items : List ℕ) (held : Option ℕ) → r ≡ Done
      → Holding n past items (Some v) held → Holding n (x ∷ past) items None held
  put_returned_done items held done w =
      let more : put_items (x ∷ past) ≡ put_items past ++ v ∷ [] =
      puts_by_put ∙ ap (λ s. put_items past ++ listed (put_item (Produce v) s)) done in
      record {
        flow = append-nil (put_items (x ∷ past)) ∙ more ∙ w.flow
            ∙ ap (λ zs. zs ++ listed held ++ items) (sym takes_by_put);
        few = w.few;
        short = tt;
        full = w.full;
        order =
            responded n past (answers (Some v) held) w.order.0 items (answers None held) x o r act
            ends.own (ap (answers (Some v) held) is ∙ ap (λ s. Some s) (sym done))
            (alike (Some v) None held) h w.order.1;
      }

  now_done : (cs : List Call) (items : List ℕ) (held : Option ℕ) → r ≡ Done → length items < n
      → IsOrderTo n past (answers None held) cs items
      → (ds : List Call) × IsOrderTo n (x ∷ past) (answers None held) ds (items ++ v ∷ [])
  now_done cs items held done lt l =
      let allowed : Allows n items o.op r = subst (Allows n items o.op) (sym done)
      (subst (λ op. Allows n items op Done) (sym is) lt) in
      let after : items_after items o.op r ≡ items ++ v ∷ [] =
      ap (items_after items o.op) done ∙ ap (λ op. items_after items op Done) is in
      let given = answered_now n past (answers None held) cs items (answers None held) x o r act
      ends.own (ap (answers None held) is) (alike None None held) allowed h l in
      (given.0, subst (IsOrderTo n (x ∷ past) (answers None held) given.0) after given.1)

  -- there is room for its item
  pub put_done : (items : List ℕ) (held : Option ℕ) → r ≡ Done → length items < n
      → Holding n past items None held → Holding n (x ∷ past) (items ++ v ∷ []) None held
  put_done items held done lt w =
      let more : put_items (x ∷ past) ≡ put_items past ++ v ∷ [] =
      puts_by_put ∙ ap (λ s. put_items past ++ listed (put_item (Produce v) s)) done in
      record {
        flow = append-nil (put_items (x ∷ past)) ∙ more
            ∙ ap (λ zs. zs ++ v ∷ []) (sym (append-nil (put_items past)) ∙ w.flow)
            ∙ append_assoc (taken_items past ++ listed held) items (v ∷ [])
            ∙ ap (λ zs. zs ++ listed held ++ (items ++ v ∷ [])) (sym takes_by_put);
        few = omega (arith, length-append items (v ∷ []));
        short = tt;
        full = room held w.full;
        order = now_done w.order.0 items held done lt w.order.1;
      }
    where
      room : (held : Option ℕ) → IfSome held (λ h. length items ≡ n)
          → IfSome held (λ h. length (items ++ v ∷ []) ≡ n)
      room None e = tt
      room (Some h) e = absurd (omega arith)

  -- there is none, and the pending consume p takes the oldest item
  pub put_done_full : (p : PendingCall) (h : ℕ) (items : List ℕ) → r ≡ Done
      → IsAmong IsProduce (pending_calls past) p → p.op ≡ Consume → length (h ∷ items) ≡ n
      → Holding n past (h ∷ items) None None
      → Holding n (x ∷ past) (items ++ v ∷ []) None (Some h)
  put_done_full p v' items done among consume full w =
      let more : put_items (x ∷ past) ≡ put_items past ++ v ∷ [] =
      puts_by_put ∙ ap (λ s. put_items past ++ listed (put_item (Produce v) s)) done in
      let allowed : Allows n (v' ∷ items) p.op (Number v') =
      subst (λ op. Allows n (v' ∷ items) op (Number v')) (sym consume) refl in
      let after : items_after (v' ∷ items) p.op (Number v') ≡ items =
      ap (λ op. items_after (v' ∷ items) op (Number v')) consume in
      let c : Call = completion (clock past) (Number v') p in
      let taken = takes_effect n past (answers None None) w.order.0 (v' ∷ items)
      (answers None (Some v')) among.before among.behind p (Number v') among.is
      (ap (answers None None) consume) (ap (answers None (Some v')) consume)
      (alike_produces None None (Some v') among.before among.front)
      (alike_produces None None (Some v') among.behind among.back) allowed h.2 w.order.1 in
      record {
        flow = append-nil (put_items (x ∷ past)) ∙ more
            ∙ ap (λ zs. zs ++ v ∷ []) (sym (append-nil (put_items past)) ∙ w.flow
            ∙ ap (λ zs. zs ++ v' ∷ items) (append-nil (taken_items past)))
            ∙ ap (λ zs. (zs ++ v' ∷ items) ++ v ∷ []) (sym takes_by_put)
            ∙ regroup (taken_items (x ∷ past));
        few = omega (arith, length-append items (v ∷ []));
        short = tt;
        full = (let fits = full in omega (arith, length-append items (v ∷ [])));
        order =
            now_done (w.order.0 ++ c ∷ []) items (Some v') done (omega arith)
            (subst (IsOrderTo n past (answers None (Some v')) (w.order.0 ++ c ∷ [])) after taken);
      }
    where
      regroup : (ts : List ℕ)
          → (ts ++ v' ∷ items) ++ v ∷ [] ≡ (ts ++ v' ∷ []) ++ (items ++ v ∷ [])
      regroup ts = simp append_assoc

  -- it gave up
  pub put_timeout : (items : List ℕ) (held : Option ℕ) → r ≡ Timeout
      → Holding n past items None held → Holding n (x ∷ past) items None held
  put_timeout items held late w =
      let same : put_items (x ∷ past) ≡ put_items past =
      puts_by_put ∙ ap (λ s. put_items past ++ listed (put_item (Produce v) s)) late
      ∙ append-nil (put_items past) in
      let allowed : Allows n items o.op r = subst (Allows n items o.op) (sym late)
      (subst (λ op. Allows n items op Timeout) (sym is) tt) in
      let after : items_after items o.op r ≡ items =
      ap (items_after items o.op) late ∙ ap (λ op. items_after items op Timeout) is in
      let given = answered_now n past (answers None held) w.order.0 items (answers None held) x o r
      act ends.own (ap (answers None held) is) (alike None None held) allowed h w.order.1 in
      record {
        flow = ap (λ zs. zs ++ []) same ∙ w.flow
            ∙ ap (λ zs. zs ++ listed held ++ items) (sym takes_by_put);
        few = w.few;
        short = tt;
        full = w.full;
        order =
            (given.0, subst (IsOrderTo n (x ∷ past) (answers None held) given.0) after given.1);
      }

-- A RESPONSE OF THE CONSUME

module _ (n : ℕ) (past : List Event) (x : Event) (r : Reply) (o : PendingCall)
    (others : List PendingCall) (act : x.action ≡ Respond r)
    (ends : IsPendingBy x.worker (pending_calls past) o others) (is : o.op ≡ Consume)
    (produces : Each IsProduce others) (h : IsHistoryOf (Buffer n) (x ∷ past)) where
  pub puts_by_take : put_items (x ∷ past) ≡ put_items past
  puts_by_take = responded_puts past x r o act ends.own
      ∙ ap (λ op. put_items past ++ listed (put_item op r)) is ∙ none r
    where
      none : (r : Reply) → put_items past ++ listed (put_item Consume r) ≡ put_items past
      none Done = append-nil (put_items past)
      none (Number v) = append-nil (put_items past)
      none Timeout = append-nil (put_items past)

  pub takes_by_take : taken_items (x ∷ past) ≡ taken_items past ++ listed (taken_item Consume r)
  takes_by_take = responded_takes past x r o act ends.own
      ∙ ap (λ op. taken_items past ++ listed (taken_item op r)) is

  alike_rest : (early held held' : Option ℕ)
      → AnswersAlike (answers early held') (answers early held)
      (without x.worker (pending_calls past))
  alike_rest early held held' =
      alike_produces early held held' (without x.worker (pending_calls past))
      (subst (Each IsProduce) (sym ends.rest) produces)

  -- it returned the item that it has taken
  pub take_held : (v : ℕ) (items : List ℕ) (early : Option ℕ) → r ≡ Number v
      → Holding n past items early (Some v) → Holding n (x ∷ past) items early None
  take_held v items early number w =
      let more : taken_items (x ∷ past) ≡ taken_items past ++ v ∷ [] =
      takes_by_take ∙ ap (λ s. taken_items past ++ listed (taken_item Consume s)) number in
      record {
        flow = ap (λ zs. zs ++ listed early) puts_by_take ∙ w.flow
            ∙ ap (λ zs. zs ++ items) (sym more)
            ∙ ap (λ zs. zs ++ items) (sym (append-nil (taken_items (x ∷ past))));
        few = w.few;
        short = short early w.short;
        full = tt;
        order =
            responded n past (answers early (Some v)) w.order.0 items (answers early None) x o r act
            ends.own (ap (answers early (Some v)) is ∙ ap (λ s. Some s) (sym number))
            (alike_rest early (Some v) None) h w.order.1;
      }
    where
      short : (early : Option ℕ) → IfSome early (λ u. (items ≡ []) × (Some v ≡ None))
          → IfSome early (λ u. (items ≡ []) × (no_item ≡ None))
      short None e = tt
      short (Some u) e = (e.0, refl)

  now_number : (v : ℕ) (cs : List Call) (items : List ℕ) (early : Option ℕ) → r ≡ Number v
      → IsOrderTo n past (answers early None) cs (v ∷ items)
      → (ds : List Call) × IsOrderTo n (x ∷ past) (answers early None) ds items
  now_number v cs items early number l =
      let allowed : Allows n (v ∷ items) o.op r = subst (Allows n (v ∷ items) o.op) (sym number)
      (subst (λ op. Allows n (v ∷ items) op (Number v)) (sym is) refl) in
      let after : items_after (v ∷ items) o.op r ≡ items =
      ap (items_after (v ∷ items) o.op) number
      ∙ ap (λ op. items_after (v ∷ items) op (Number v)) is in
      let given = answered_now n past (answers early None) cs (v ∷ items) (answers early None) x o r
      act ends.own (ap (answers early None) is) (alike_rest early None None) allowed h l in
      (given.0, subst (IsOrderTo n (x ∷ past) (answers early None) given.0) after given.1)

  -- it returned the oldest item
  pub take_oldest : (v : ℕ) (items : List ℕ) (early : Option ℕ) → r ≡ Number v
      → Holding n past (v ∷ items) early None → Holding n (x ∷ past) items early None
  take_oldest v items early number w =
      let more : taken_items (x ∷ past) ≡ taken_items past ++ v ∷ [] =
      takes_by_take ∙ ap (λ s. taken_items past ++ listed (taken_item Consume s)) number in
      record {
        flow = ap (λ zs. zs ++ listed early) puts_by_take ∙ w.flow
            ∙ ap (λ zs. zs ++ v ∷ items) (append-nil (taken_items past))
            ∙ sym (append_assoc (taken_items past) (v ∷ []) items)
            ∙ ap (λ zs. zs ++ items) (sym more)
            ∙ ap (λ zs. zs ++ items) (sym (append-nil (taken_items (x ∷ past))));
        few = (let fits = w.few in omega arith);
        short = short early w.short;
        full = tt;
        order = now_number v w.order.0 items early number w.order.1;
      }
    where
      short : (early : Option ℕ) → IfSome early (λ u. (v ∷ items ≡ []) × (no_item ≡ None))
          → IfSome early (λ u. (items ≡ []) × (no_item ≡ None))
      short None e = tt
      short (Some u) e = absurd (let clash = e.0 in cc)

  -- it returned the item of the pending produce p
  pub take_early : (p : PendingCall) (v : ℕ) → r ≡ Number v → 0 < n
      → IsAmong IsConsume (pending_calls past) p → p.op ≡ Produce v
      → Holding n past [] None None → Holding n (x ∷ past) [] (Some v) None
  take_early p v number some among produce w =
      let more : taken_items (x ∷ past) ≡ taken_items past ++ v ∷ [] =
      takes_by_take ∙ ap (λ s. taken_items past ++ listed (taken_item Consume s)) number in
      let allowed : Allows n [] p.op Done =
      subst (λ op. Allows n [] op Done) (sym produce) some in
      let after : items_after [] p.op Done ≡ v ∷ [] =
      ap (λ op. items_after [] op Done) produce in
      let c : Call = completion (clock past) Done p in
      let put = takes_effect n past (answers None None) w.order.0 []
      (answers (Some v) None) among.before among.behind p Done among.is
      (ap (answers None None) produce) (ap (answers (Some v) None) produce)
      (alike_consumes None (Some v) None among.before among.front)
      (alike_consumes None (Some v) None among.behind among.back) allowed h.2 w.order.1 in
      record {
        flow = ap (λ zs. zs ++ v ∷ []) (puts_by_take ∙ sym (append-nil (put_items past)) ∙ w.flow
            ∙ append-nil (taken_items past ++ []) ∙ append-nil (taken_items past)) ∙ sym more
            ∙ sym (append-nil (taken_items (x ∷ past)))
            ∙ sym (append-nil (taken_items (x ∷ past) ++ []));
        few = omega arith;
        short = (refl, refl);
        full = tt;
        order =
            now_number v (w.order.0 ++ c ∷ []) [] (Some v) number
            (subst (IsOrderTo n past (answers (Some v) None) (w.order.0 ++ c ∷ [])) after put);
      }

  -- it gave up
  pub take_timeout : (items : List ℕ) (early : Option ℕ) → r ≡ Timeout
      → Holding n past items early None → Holding n (x ∷ past) items early None
  take_timeout items early late w =
      let same : taken_items (x ∷ past) ≡ taken_items past =
      takes_by_take ∙ ap (λ s. taken_items past ++ listed (taken_item Consume s)) late
      ∙ append-nil (taken_items past) in
      let allowed : Allows n items o.op r = subst (Allows n items o.op) (sym late)
      (subst (λ op. Allows n items op Timeout) (sym is) (allows items)) in
      let after : items_after items o.op r ≡ items =
      ap (items_after items o.op) late ∙ ap (λ op. items_after items op Timeout) is
      ∙ unchanged items in
      let given = answered_now n past (answers early None) w.order.0 items (answers early None) x o
      r act ends.own (ap (answers early None) is) (alike_rest early None None) allowed h w.order.1
      in
      record {
        flow = ap (λ zs. zs ++ listed early) puts_by_take ∙ w.flow
            ∙ ap (λ zs. zs ++ [] ++ items) (sym same);
        few = w.few;
        short = w.short;
        full = tt;
        order =
            (given.0, subst (IsOrderTo n (x ∷ past) (answers early None) given.0) after given.1);
      }
    where
      allows : (items : List ℕ) → Allows n items Consume Timeout
      allows [] = tt
      allows (y ∷ items) = tt

      unchanged : (items : List ℕ) → items_after items Consume Timeout ≡ items
      unchanged [] = refl
      unchanged (y ∷ items) = refl
