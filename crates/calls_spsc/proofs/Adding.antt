-- What an event adds to the calls and to the items.
use Rattle.std.proofs.Common.{◌≡◌, ℕ, List, [], ◌∷◌, ◌++◌, reverse, Option, Some, None}
use Rattle.std.proofs.Common.{refl, ap, ◌∙◌}
use Rattle.std.specs.List.{filter_map, cons_option}
use Rattle.std.proofs.lemmas.List.{reverse-append}
use Rattle.std.proofs.lemmas.List.Elements.{filter_map-append}
use Rattle.calls_core.specs.declared.history.Op.{Op}
use Rattle.calls_core.specs.declared.history.Reply.{Reply}
use Rattle.calls_core.specs.declared.history.Action.TheVariants.{Invoke, Respond}
use Rattle.calls_core.specs.declared.history.Event.{Event}
use Rattle.calls_core.specs.declared.history.PendingCall.{PendingCall}
use Rattle.calls_core.specs.declared.history.Call.{Call}
use Rattle.calls_core.specs.Histories.{completion, invoked_by, pending_of, without, pending_after}
use Rattle.calls_core.specs.Histories.{pending_calls, ended_call, completed_calls}
use Rattle.calls_buffers.specs.Accesses.{put_item, taken_item}
use Rattle.calls_spsc.specs.Flows.{put_items, taken_items}
use Rattle.calls_spsc.specs.kept.Watching.{listed}

module _ (f : Op → Reply → Option ℕ) where
  abbrev items : List Call → List ℕ
  items cs = filter_map (λ (c : Call). f c.op c.reply) (reverse cs)

  one : (c : Call) (z : Option ℕ) → f c.op c.reply ≡ z
      → filter_map (λ (c : Call). f c.op c.reply) (c ∷ []) ≡ listed z
  one c None e = ap (λ s. cons_option s []) e
  one c (Some v) e = ap (λ s. cons_option s []) e

  one_more : (c : Call) (cs : List Call) → items (c ∷ cs) ≡ items cs ++ listed (f c.op c.reply)
  one_more c cs =
      ap (filter_map (λ (c : Call). f c.op c.reply)) (reverse-append (c ∷ []) cs)
      ∙ filter_map-append (λ (c : Call). f c.op c.reply) (reverse cs) (c ∷ [])
      ∙ ap (λ zs. items cs ++ zs) (one c (f c.op c.reply) refl)

module _ (past : List Event) (x : Event) (k : ℕ) (op : Op) (act : x.action ≡ Invoke k op) where
  pub invoked_done : completed_calls (x ∷ past) ≡ completed_calls past
  invoked_done =
      ap (λ a. ended_call x a (pending_of x.worker (pending_calls past)) ++ completed_calls past)
      act

  pub invoked_pending : pending_calls (x ∷ past) ≡ pending_calls past ++ invoked_by x k op ∷ []
  invoked_pending = ap (λ a. pending_after x a (pending_calls past)) act

  pub invoked_puts : put_items (x ∷ past) ≡ put_items past
  invoked_puts = ap (items put_item) invoked_done

  pub invoked_takes : taken_items (x ∷ past) ≡ taken_items past
  invoked_takes = ap (items taken_item) invoked_done

module _ (past : List Event) (x : Event) (r : Reply) (o : PendingCall)
    (act : x.action ≡ Respond r) (own : pending_of x.worker (pending_calls past) ≡ Some o) where
  pub responded_done : completed_calls (x ∷ past) ≡ completion x.at r o ∷ completed_calls past
  responded_done =
      ap (λ a. ended_call x a (pending_of x.worker (pending_calls past)) ++ completed_calls past)
      act
      ∙ ap (λ p. ended_call x (Respond r) p ++ completed_calls past) own

  pub responded_pending : pending_calls (x ∷ past) ≡ without x.worker (pending_calls past)
  responded_pending = ap (λ a. pending_after x a (pending_calls past)) act

  pub responded_puts : put_items (x ∷ past) ≡ put_items past ++ listed (put_item o.op r)
  responded_puts = ap (items put_item) responded_done
      ∙ one_more put_item (completion x.at r o) (completed_calls past)

  pub responded_takes : taken_items (x ∷ past) ≡ taken_items past ++ listed (taken_item o.op r)
  responded_takes = ap (items taken_item) responded_done
      ∙ one_more taken_item (completion x.at r o) (completed_calls past)
