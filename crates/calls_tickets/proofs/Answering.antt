-- The verdict on an event, for `Monitor` and `RecordedTickets`.
use Rattle.std.proofs.Common.{◌≡◌, ℕ, ◌≤◌, Bool, true, List, ◌∷◌, length, get_or, Some, slice_get}
use Rattle.std.proofs.Common.{ap, sym, ◌∙◌, arith, subst}
use Rattle.std.specs.List.{remove}
use Rattle.std.proofs.lemmas.Option.{get_or_from_slice_get}
use Rattle.calls_core.specs.declared.history.Kind.TheVariants.{Sequencer}
use Rattle.calls_core.specs.declared.history.Reply.{Reply}
use Rattle.calls_core.specs.declared.history.Action.TheVariants.{Respond}
use Rattle.calls_core.specs.declared.history.Event.{Event}
use Rattle.calls_core.specs.declared.history.Call.{Call}
use Rattle.calls_core.specs.Histories.{clock, completion, pending_calls, completed_calls}
use Rattle.calls_core.specs.Histories.{IsHistoryOf}
use Rattle.calls_core.specs.Outcomes.{HasOrderOf}
use Rattle.calls_core.specs.declared.pending.NotedCall.{NotedCall}
use Rattle.calls_core.specs.Pending.{IsNotedOf}
use Rattle.calls_tickets.specs.declared.fault.Fault.{Fault}
use Rattle.calls_tickets.specs.declared.monitor.Monitor.{Monitor}
use Rattle.calls_tickets.specs.Faults.{ticket_number, Shows}
use Rattle.calls_tickets.specs.Monitors.{Watches, IsAccepted, IsRefused}
use Rattle.calls_tickets.specs.kept.Watching.{Paired, Unpaired, Following, Watching}
use Rattle.calls_tickets.specs.kept.Watching.{CannotTake, IsTaken, IsPaired}
use Rattle.calls_tickets.proofs.Histories.{tickets_until}
use Rattle.calls_tickets.proofs.Refuting.{no_order}
use Rattle.calls_tickets.proofs.Judging.{watched_order, unpaired_shows}
use Rattle.calls_tickets.proofs.Stepping.{ended, taken, not_taken}

pub watching_order : (past : List Event) (top : ℕ) (holes : List ℕ) (us : List NotedCall)
    → IsHistoryOf Sequencer past → Watching past top holes us → HasOrderOf Sequencer past
watching_order past top holes us h w = watched_order past h top holes us w.follows w.paired

pub shown_no_order : (past : List Event) (g : Fault) → IsHistoryOf Sequencer past → Shows past g
    → HasOrderOf Sequencer past → ⊥
shown_no_order past g h shows l =
    no_order (completed_calls past) (pending_calls past) (clock past)
    (tickets_until past (clock past) h (omega arith)) l.0 l.1 g shows

pub read_at : (us : List NotedCall) (w i : ℕ) (u : NotedCall) → IsNotedOf us w i
    → u ≡ get_or us i u → slice_get us i ≡ Some u
read_at us w i u k e = k.at ∙ ap (λ (v : NotedCall). Some v)
    (sym (get_or_from_slice_get us i k.call u k.at) ∙ sym e)

module _ (past : List Event) (x : Event) (r : Reply) (top : ℕ) (holes : List ℕ)
    (us rest : List NotedCall) (i : ℕ) (u : NotedCall) (e : x.action ≡ Respond r)
    (k : IsNotedOf us x.worker i) (read : u ≡ get_or us i u) (is : rest ≡ remove us i)
    (history : IsHistoryOf Sequencer (x ∷ past)) (w : Watching past top holes us) where
  at : slice_get us i ≡ Some u
  at = read_at us x.worker i u k read

  pub call_ended : completed_calls (x ∷ past) ≡ completion x.at r u.call ∷ completed_calls past
  call_ended = ended past x r top holes us rest i u e k at is history w.follows

  follows : (later : ℕ) (more : List ℕ) → x.at ≤ 18446744073709551615
      → IsTaken top later holes more (length rest) u.noted (ticket_number r) true
      → Following (x ∷ past) later more rest
  follows later more fits t = taken past x r top holes us rest i u e k at is history w.follows later
      more fits t

  pub goes_on : (later : ℕ) (more : List ℕ) → x.at ≤ 18446744073709551615
      → IsTaken top later holes more (length rest) u.noted (ticket_number r) true → Paired more rest
      → Watching (x ∷ past) later more rest
  goes_on later more fits t p = record { follows = follows later more fits t; paired = p }

  pub lacks : (later : ℕ) (more : List ℕ) → x.at ≤ 18446744073709551615
      → IsTaken top later holes more (length rest) u.noted (ticket_number r) true
      → Unpaired more rest
      → (g : Fault) × Shows (x ∷ past) g
  lacks later more fits t p = unpaired_shows (x ∷ past) history later more rest
      (follows later more fits t) p

  pub cannot : CannotTake top holes (length rest) u.noted (ticket_number r) → (g : Fault)
      × Shows (x ∷ past) g
  cannot c = not_taken past x r top holes us rest i u e k at is history w.follows c

  pub refusal : (call : Call) → call ≡ completion x.at r u.call → (g : Fault) × Shows (x ∷ past) g
      → IsRefused past x call
  refusal call same g = record {
    fault = g.0;
    shows = g.1;
    none = λ l. shown_no_order (x ∷ past) g.0 history g.1 l;
    ended = call_ended ∙ ap (λ (c : Call). c ∷ completed_calls past) (sym same);
  }

pub acceptance : (past : List Event) (new : Monitor) → IsHistoryOf Sequencer past → Watches past new
    → IsAccepted past new
acceptance past new h w = record {
  watches = w;
  order =
      watching_order past new.top new.holes.items new.pending.items h w;
}

pub taken_is : (top later : ℕ) (holes more : List ℕ) (room noted n m : ℕ) (a b : Bool) → n ≡ m
    → a ≡ b → IsTaken top later holes more room noted n a
    → IsTaken top later holes more room noted m b
taken_is top later holes more room noted n m a b e is h =
    subst (IsTaken top later holes more room noted m) is
    (subst (λ k. IsTaken top later holes more room noted k a) e h)

pub pairs_are : (hs more : List ℕ) (us rest : List NotedCall) (a b : Bool) → hs ≡ more
    → us ≡ rest → a ≡ b → IsPaired hs us a → IsPaired more rest b
pairs_are hs more us rest a b e f is h = subst (IsPaired more rest) is
    (subst (λ vs. IsPaired more vs a) f (subst (λ gs. IsPaired gs us a) e h))
