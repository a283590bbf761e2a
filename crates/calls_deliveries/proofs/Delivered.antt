-- The calls of a buffer are linearizable.
use Rattle.std.proofs.Common.{◌≡◌, ℕ, zero, suc, Bool, List, [], ◌∷◌, ◌++◌, length, reverse, Option}
use Rattle.std.proofs.Common.{Some, None, IfSome, slice_get, refl, ap, sym, subst}
use Rattle.std.proofs.Math.Seq.{take-length}
use Rattle.std.specs.List.{AllPairs}
use Rattle.std.specs.List.Sorted.{IsPermutation}
use Rattle.std.proofs.lemmas.List.Sorted.{IsPermutation-reverse}
use Rattle.ec_count.specs.Tables.{Tables, may_take}
use Rattle.ec_core.specs.declared.act.Entry.{Entry}
use Rattle.ec_core.specs.Counts.{past_at}
use Rattle.ec_core.proofs.shared.Moments.{past_next, past_end}
use Rattle.ec_buffer.specs.Items.{put_on, ticket_at}
use Rattle.ec_buffer.specs.Laws.{IsFollowed}
use Rattle.ec_buffer.proofs.InTime.{entry_at}
use Rattle.ec_buffer.specs.Shapes.{Buffer as Shape}
use Rattle.calls_core.specs.declared.history.Event.{Event}
use Rattle.calls_core.specs.declared.history.PendingCall.{PendingCall}
use Rattle.calls_core.specs.Histories.{clock, completed_calls, pending_calls}
use Rattle.calls_core.specs.Linearizations.{KeepsOrder, IsLegalHistory, initial}
use Rattle.calls_core.specs.Linearizations.{answered_calls}
use Rattle.calls_core.specs.Outcomes.{IsOrderOf}
use Rattle.calls_core.specs.declared.history.Kind.TheVariants.{Buffer}
use Rattle.calls_core.proofs.Lists.{all_pairs_from_each}
use Rattle.calls_deliveries.specs.Seen.{AreItems, events_seen}
use Rattle.calls_deliveries.specs.Laws.{DeliveriesAreLinearizable, IsQueueHistory}
use Rattle.calls_deliveries.proofs.Seeing.{IsSeen, seen_none, seen_next}

-- no pending call takes effect
answered_none : (n : ℕ) (os : List PendingCall) → answered_calls n (λ o. None) os ≡ []
answered_none n [] = refl
answered_none n (o ∷ os) = answered_none n os

seen_at : (t : Tables) (b : Shape) (h : List Entry) (item : ℕ → ℕ) → IsFollowed t b h
    → AreItems t b h item → (k : ℕ)
    → IsSeen b (may_take t b.put_seq) item (past_at k h) (events_seen b item (past_at k h))
seen_at t b h item f items zero = seen_none b (may_take t b.put_seq) item
seen_at t b h item f items (suc k) =
    let produces = may_take t b.put_seq in
    let before = seen_at t b h item f items k in
    let P : List Entry → Type 0 = λ past. IsSeen b produces item past (events_seen b item past) in
    elim (slice_get h k) as (λ o. slice_get h k ≡ o → P (past_at (suc k) h)) [
      | None ↦ λ at. subst P (sym (past_end h k at)) before
      | Some x ↦ λ at.
          (let e = entry_at t b h k x f at in
          let puts_item : (o : Option ℕ) → put_on b x.act ≡ o
          → IfSome o (λ (u : ℕ). item (ticket_at t b h k x.worker) ≡ u) = λ o.
          elim o as (λ z. put_on b x.act ≡ z
          → IfSome z (λ (u : ℕ). item (ticket_at t b h k x.worker) ≡ u)) [
            | None ↦ λ is. tt
            | Some v ↦ λ is.
                items k (ticket_at t b h k x.worker) x.worker v
                (record { entry = x; is = at; by = refl; puts = is; ticket = refl })
          ] in
          subst P (sym (past_next h k x at))
          (seen_next b produces item t x (past_at k h)
          (record {
            shape = f.shape;
            declared = f.declared;
            accepted = e.accepted;
            follows = e.followed;
          }) before (puts_item (put_on b x.act) refl)))
    ] refl

order_of : (b : Shape) (produces : ℕ → Bool) (item : ℕ → ℕ) (past : List Entry) (es : List Event)
    → IsSeen b produces item past es → IsOrderOf (Buffer b.cells) es (clock es)
    (reverse (completed_calls es))
order_of b produces item past es seen =
    let done : completed_calls es ≡ seen.done = seen.keeps.done_is in
    let turned : reverse seen.done ≡ reverse (completed_calls es) = ap reverse (sym done) in
    record {
      answer = λ o. None;
      each_once = subst (λ zs. IsPermutation (zs ++ completed_calls es)
          (reverse (completed_calls es)))
          (sym (answered_none (clock es) (pending_calls es)))
          (IsPermutation-reverse (completed_calls es));
      in_order = subst (AllPairs KeepsOrder) turned
          (all_pairs_from_each KeepsOrder (reverse seen.done) seen.run.in_order);
      run = subst (IsLegalHistory (initial (Some (Buffer b.cells)))) turned seen.run.legal;
    }

queue_of : (b : Shape) (produces : ℕ → Bool) (item : ℕ → ℕ) (past : List Entry) (es : List Event)
    → IsSeen b produces item past es → IsQueueHistory b.cells es
queue_of b produces item past es seen =
    let order = order_of b produces item past es seen in
    record {
      history = seen.keeps.history;
      linearizable = (reverse (completed_calls es), order);
      by_responses = order;
    }

pub deliveries_linearizable : DeliveriesAreLinearizable
deliveries_linearizable t b h item f items =
    let produces = may_take t b.put_seq in
    let P : List Entry → Type 0 = λ past. IsSeen b produces item past (events_seen b item past) in
    queue_of b produces item (reverse h) (events_seen b item (reverse h))
    (subst P (ap reverse (take-length h)) (seen_at t b h item f items (length h)))
