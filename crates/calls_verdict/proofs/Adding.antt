-- The events of each object, with one more event of the history.
use Rattle.std.proofs.Common.{◌≡◌, ℕ, ◌+◌, ◌<◌, List, length, get_or, take, reverse}
use Rattle.std.proofs.Common.{Option, Some, None, refl, ap, sym, ◌∙◌, subst}
use Rattle.std.proofs.lemmas.Option.{slice_get_read}
use Rattle.calls_core.specs.declared.history.Event.{Event}
use Rattle.calls_core.specs.declared.history.PendingCall.{PendingCall}
use Rattle.calls_core.specs.Lists.{EachFrom}
use Rattle.calls_core.specs.Histories.{pending_of, pending_calls}
use Rattle.calls_core.specs.Parts.{event_or_blank, event_at}
use Rattle.calls_core.proofs.Beginnings.{past_next}
use Rattle.calls_verdict.specs.kept.Parts.{IsFollowed, IsAdded, IsPart, object_of}
use Rattle.calls_verdict.proofs.Finding.{pending_more}
use Rattle.calls_verdict.proofs.PartsMore.{parts_same}

-- the event at an index of a part, where there is one
pub event_read : (events : List Event) (i : ℕ) (x : Event) → i < length events
    → x ≡ get_or events i x → event_at events i ≡ get_or events i x
event_read events i x lt read =
    ap event_or_blank (slice_get_read events (length events) i x refl lt read) ∙ read

module _ (events : List Event) (i : ℕ) (d : Event) (lt : i < length events) where
  object_now : (os new : List PendingCall) (o z : Option ℕ)
      → os ≡ pending_calls (reverse (take i events))
      → IsFollowed os new (get_or events i d) o → o ≡ z
      → object_of (get_or events i d).action (pending_of (get_or events i d).worker
      (pending_calls (reverse (take i events)))) ≡ z
  object_now os new o z was f is =
      ap (λ zs. object_of (get_or events i d).action (pending_of (get_or events i d).worker zs))
      (sym was)
      ∙ sym f.object_is ∙ is

  pub added_more : (os new : List PendingCall) (o : Option ℕ) (j : ℕ)
      (parts later : List (List Event))
      → os ≡ pending_calls (reverse (take i events)) → IsFollowed os new (get_or events i d) o
      → o ≡ Some j
      → IsAdded j (get_or events i d) parts later → EachFrom (IsPart (reverse (take i events))) 0
      parts
      → EachFrom (IsPart (reverse (take (i + 1) events))) 0 later
  added_more os new o j parts later was f is added each =
      subst (λ past. EachFrom (IsPart past) 0 later) (sym (past_next events i d lt))
      (added (reverse (take i events)) (object_now os new o (Some j) was f is) each)

  pub unadded_more : (os new : List PendingCall) (o : Option ℕ) (parts : List (List Event))
      → os ≡ pending_calls (reverse (take i events)) → IsFollowed os new (get_or events i d) o
      → o ≡ None
      → EachFrom (IsPart (reverse (take i events))) 0 parts
      → EachFrom (IsPart (reverse (take (i + 1) events))) 0 parts
  unadded_more os new o parts was f is each =
      subst (λ past. EachFrom (IsPart past) 0 parts) (sym (past_next events i d lt))
      (parts_same 0 (get_or events i d) (reverse (take i events)) parts
      (object_now os new o None was f is) each)

  pub followed_more : (os new : List PendingCall) (o : Option ℕ)
      → os ≡ pending_calls (reverse (take i events))
      → IsFollowed os new (get_or events i d) o → new ≡ pending_calls
      (reverse (take (i + 1) events))
  followed_more os new o was f =
      pending_more events i (get_or events i d) os new o (past_next events i d lt) was f
