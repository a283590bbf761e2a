-- Calls made one after another.
use Rattle.std.proofs.Common.{◌≡◌, ℕ, ◌+◌, ◌<◌, ◌≤◌, List, [], ◌∷◌, ◌++◌, length}
use Rattle.std.proofs.Common.{refl, sym, ap, ◌∙◌, subst, append-nil, true, false, cond}
use Rattle.std.proofs.Common.{map, take, get_or}
use Rattle.std.specs.List.{filter}
use Rattle.std.proofs.lemmas.List.{map-append, take_more}
use Rattle.std.proofs.lemmas.List.Elements.{filter-append}
use Rattle.calls_core.specs.declared.history.Placed.{Placed}
use Rattle.ec_count.specs.Tables.{Tables}
use Rattle.ec_core.specs.declared.act.Reply.{Reply}
use Rattle.ec_core.specs.declared.act.Reply.TheVariants as replies
use Rattle.ec_core.specs.declared.act.Entry.{Entry}
use Rattle.ec_core.specs.Calls.{under_way}
use Rattle.ec_order.specs.declared.call.Call.{Call as FinishedCall}
use Rattle.ec_order.specs.Calls.{finished_calls}
use Rattle.calls_core.specs.declared.history.Op.{Op}
use Rattle.calls_core.specs.declared.history.Op.TheVariants as ops
use Rattle.calls_core.specs.declared.history.Reply as answers
use Rattle.calls_core.specs.declared.history.Reply.TheVariants as given
use Rattle.calls_core.specs.declared.history.Call.{Call}
use Rattle.calls_kernel.specs.Made.{act_of_call, IsReplyOf, IsMadeAs, AreMadeAs, AreInARow}
use Rattle.calls_replay.specs.Made.{is_made, made_of}
use Rattle.calls_replay.specs.kept.Going.{HasGone, Goes, AreMadeIn}

module _ (t : Tables) where
  one_more_made : (ds : List FinishedCall) (cs : List Call) (d : FinishedCall) (c : Call)
      → AreMadeAs t ds cs → IsMadeAs t d c → AreMadeAs t (ds ++ d ∷ []) (cs ++ c ∷ [])
  one_more_made [] [] d c made is = (is, tt)
  one_more_made [] (b ∷ cs) d c made is = absurd made
  one_more_made (e ∷ ds) [] d c made is = absurd made
  one_more_made (e ∷ ds) (b ∷ cs) d c made is = (made.0, one_more_made ds cs d c made.1 is)

  one_more_in_row : (i : ℕ) (ds : List FinishedCall) (n : ℕ) (d : FinishedCall) (m : ℕ)
      → AreInARow i ds n → d.first ≡ n → d.first ≤ d.last → d.last + 1 ≡ m
      → AreInARow i (ds ++ d ∷ []) m
  one_more_in_row i [] n d m row first rises last = (first ∙ sym row, rises, last)
  one_more_in_row i (e ∷ ds) n d m row first rises last =
      (row.0, row.1, one_more_in_row (e.last + 1) ds n d m row.2 first rises last)

  -- a call that is completed is one more that was made
  one_more_call : (past late : List Entry) (cs : List Call) (c : Call) (reply : Reply)
      → AreMadeIn t cs past → HasGone t past c.worker (act_of_call t c) late reply
      → IsReplyOf c.op c.reply reply
      → AreMadeIn t (cs ++ c ∷ []) late
  one_more_call past late cs c reply made g is =
      let as_made : IsMadeAs t g.call c = record {
        worker = g.worker;
        act = g.op;
        reply = subst (IsReplyOf c.op c.reply) (sym g.reply_is) is;
      } in
      record {
        calls = subst (λ (ds : List FinishedCall). AreMadeAs t ds (cs ++ c ∷ [])) (sym g.finished)
            (one_more_made (finished_calls t past) cs g.call c made.calls as_made);
        in_a_row = subst (λ (ds : List FinishedCall). AreInARow 0 ds (length late)) (sym g.finished)
            (one_more_in_row 0 (finished_calls t past) (length past) g.call (length late)
            made.in_a_row g.first g.rises g.last);
        free = g.free;
      }

  no_reply : (op : Op) (reply : answers.Reply) → IsReplyOf op reply replies.Pending → ⊥
  no_reply (ops.Await v) given.Done is = is
  no_reply (ops.Await v) (given.Number n) is = is
  no_reply (ops.Await v) given.Timeout is = is
  no_reply ops.Advance given.Done is = is
  no_reply ops.Advance (given.Number n) is = is
  no_reply ops.Advance given.Timeout is = is
  no_reply ops.Read given.Done is = is
  no_reply ops.Read (given.Number n) is = is
  no_reply ops.Read given.Timeout is = is
  no_reply ops.Ticket given.Done is = is
  no_reply ops.Ticket (given.Number n) is = is
  no_reply ops.Ticket given.Timeout is = is
  no_reply (ops.P i) given.Done is = is
  no_reply (ops.P i) (given.Number n) is = is
  no_reply (ops.P i) given.Timeout is = is
  no_reply (ops.V i) given.Done is = is
  no_reply (ops.V i) (given.Number n) is = is
  no_reply (ops.V i) given.Timeout is = is
  no_reply (ops.PBoth i j) given.Done is = is
  no_reply (ops.PBoth i j) (given.Number n) is = is
  no_reply (ops.PBoth i j) given.Timeout is = is
  no_reply (ops.Put n) given.Done is = is
  no_reply (ops.Put n) (given.Number m) is = is
  no_reply (ops.Put n) given.Timeout is = is
  no_reply ops.Get given.Done is = is
  no_reply ops.Get (given.Number n) is = is
  no_reply ops.Get given.Timeout is = is
  no_reply (ops.Produce v) given.Done is = is
  no_reply (ops.Produce v) (given.Number n) is = is
  no_reply (ops.Produce v) given.Timeout is = is
  no_reply ops.Consume given.Done is = is
  no_reply ops.Consume (given.Number n) is = is
  no_reply ops.Consume given.Timeout is = is

  -- a call whose last reply is that of a recorded call is completed
  pub call_made : (past late : List Entry) (cs : List Call) (c : Call) (reply : Reply)
      → AreMadeIn t cs past → Goes t past c.worker (act_of_call t c) late reply
      → IsReplyOf c.op c.reply reply
      → AreMadeIn t (cs ++ c ∷ []) late
  call_made past late cs c replies.Pending made g is = absurd (no_reply c.op c.reply is)
  call_made past late cs c replies.Done made g is =
      one_more_call past late cs c replies.Done made g is
  call_made past late cs c (replies.Number n) made g is =
      one_more_call past late cs c (replies.Number n) made g is

-- before any call
pub nothing_made : (t : Tables) → AreMadeIn t [] []
unfolding finished_calls under_way
nothing_made t = record { calls = tt; in_a_row = refl; free = λ w. refl }

-- a call that is made is added, and one that is not is left out
pub made_or_not : (limit : ℕ) (cs : List Call) (c : Call)
    → cs ++ filter (is_made limit) (c ∷ []) ≡ cond (is_made limit c) (cs ++ c ∷ []) cs
made_or_not limit cs c =
    elim (is_made limit c) as (λ b. cs ++ cond b (c ∷ []) [] ≡ cond b (cs ++ c ∷ []) cs) [
      | true ↦ refl
      | false ↦ append-nil cs
    ]

-- THE CALLS OF AN ORDER

module _ (limit : ℕ) (order : List Placed) (i : ℕ) (d : Placed) where
  abbrev so_far : List Call
  so_far = made_of limit (take i order)

  made_next : i < length order
      → made_of limit (take (i + 1) order)
      ≡ so_far ++ filter (is_made limit) ((get_or order i d).call ∷ [])
  made_next lt =
      let f : Placed → Call = λ p. p.call in
      let x : Placed = get_or order i d in
      ap (λ (l : List Placed). filter (is_made limit) (map f l)) (take_more order i d lt)
      ∙ ap (filter (is_made limit)) (map-append f (take i order) (x ∷ []))
      ∙ filter-append (is_made limit) (map f (take i order)) (f x ∷ [])

  -- so one more call of the order was made, or left out
  pub one_more : (t s : Tables) (n : ℕ) (late : List Entry) → limit ≡ t.limit → n ≡ t.limit
      → s ≡ t → i < length order
      → AreMadeIn s (so_far ++ filter (is_made n) ((get_or order i d).call ∷ [])) late
      → AreMadeIn t (made_of t.limit (take (i + 1) order)) late
  one_more t s n late is same on lt made =
      let c : Call = (get_or order i d).call in
      let here : AreMadeIn t (so_far ++ filter (is_made n) (c ∷ [])) late =
      subst (λ (r : Tables). AreMadeIn r (so_far ++ filter (is_made n) (c ∷ [])) late) on made in
      let right : AreMadeIn t (so_far ++ filter (is_made limit) (c ∷ [])) late =
      subst (λ (m : ℕ). AreMadeIn t (so_far ++ filter (is_made m) (c ∷ [])) late)
      (same ∙ sym is) here in
      subst (λ (m : ℕ). AreMadeIn t (made_of m (take (i + 1) order)) late) is
      (subst (λ (l : List Call). AreMadeIn t l late) (sym (made_next lt)) right)
