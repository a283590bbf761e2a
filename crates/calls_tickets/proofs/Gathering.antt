-- The recorded tickets represent the history so far.
use Rattle.std.proofs.Common.{◌≡◌, ℕ, ◌≤◌, Bool, true, false, List, [], ◌∷◌, ◌++◌, length, reverse}
use Rattle.std.proofs.Common.{get_or, ap, sym, ◌∙◌, subst}
use Rattle.std.specs.List.{remove}
use Rattle.std.proofs.lemmas.List.{reverse-append, map-append}
use Rattle.calls_core.specs.declared.history.Kind.TheVariants.{Sequencer}
use Rattle.calls_core.specs.declared.history.Op.{Op}
use Rattle.calls_core.specs.declared.history.Reply.{Reply}
use Rattle.calls_core.specs.declared.history.Action.TheVariants.{Invoke, Respond}
use Rattle.calls_core.specs.declared.history.Event.{Event}
use Rattle.calls_core.specs.declared.history.Call.{Call}
use Rattle.calls_core.specs.Histories.{completion, invoked_by, pending_of, pending_calls}
use Rattle.calls_core.specs.Histories.{pending_after, completed_calls, ended_call, IsHistoryOf}
use Rattle.calls_core.specs.declared.pending.NotedCall.{NotedCall}
use Rattle.calls_core.specs.Pending.{noted_calls, IsNotedOf}
use Rattle.calls_tickets.specs.declared.recorded.RecordedTickets.{RecordedTickets}
use Rattle.calls_tickets.specs.Faults.{ticket_number}
use Rattle.calls_tickets.specs.kept.Watching.{IsPaired, IsTaken, Watching}
use Rattle.calls_tickets.specs.kept.Recording.{AreGathered, Records, IsFaulty, IsFollowed}
use Rattle.calls_tickets.proofs.Stepping.{invoked, left}
use Rattle.calls_tickets.proofs.Answering.{read_at, call_ended, goes_on, lacks, cannot}

pub records_invoked : (past : List Event) (x : Event) (k : ℕ) (op : Op) (old new : RecordedTickets)
    → x.action ≡ Invoke k op → new.done.items ≡ old.done.items → new.top ≡ old.top
    → new.holes.items ≡ old.holes.items
    → new.pending.items ≡ old.pending.items ++ record {
      call = invoked_by x k op;
      noted =
          old.top;
    } ∷ [] → IsHistoryOf Sequencer (x ∷ past) → Records past old
    → Records (x ∷ past) new
records_invoked past x k op old new e done top holes is history r = record {
  gathered = record {
    done_are = ap reverse done ∙ r.gathered.done_are ∙ ap (λ a.
        ended_call x a (pending_of x.worker (pending_calls past)) ++ completed_calls past) (sym e);
    pending_are = ap noted_calls is ∙ map-append (λ (u : NotedCall). u.call) old.pending.items
        (record { call = invoked_by x k op; noted = old.top } ∷ [])
        ∙ ap (λ os. os ++ invoked_by x k op ∷ []) r.gathered.pending_are ∙ ap (λ a.
        pending_after x a (pending_calls past)) (sym e);
  };
  watching = subst (λ n. Watching (x ∷ past) n new.holes.items new.pending.items) (sym top)
      (subst (λ hs. Watching (x ∷ past) old.top hs new.pending.items) (sym holes)
      (invoked past x k op old.top old.holes.items old.pending.items new.pending.items e is history
      r.watching));
}

module _ (past : List Event) (x : Event) (r : Reply) (old new : RecordedTickets)
    (rest : List NotedCall) (i : ℕ) (u : NotedCall) (e : x.action ≡ Respond r)
    (k : IsNotedOf old.pending.items x.worker i) (read : u ≡ get_or old.pending.items i u)
    (is : rest ≡ remove old.pending.items i) (history : IsHistoryOf Sequencer (x ∷ past))
    (o : Records past old) (done : new.done.items ≡ old.done.items ++ completion x.at r u.call ∷ [])
    (same : new.pending.items ≡ rest) where
  gathered : AreGathered (x ∷ past) new
  gathered = record {
    done_are = ap reverse done ∙ reverse-append old.done.items (completion x.at r u.call ∷ []) ∙ ap
        (λ cs. completion x.at r u.call ∷ cs) o.gathered.done_are
        ∙ sym (call_ended past x r old.top old.holes.items old.pending.items rest i u e k read is
        history o.watching);
    pending_are = ap noted_calls same ∙ sym (left past x r old.top old.holes.items old.pending.items
        rest i u e k (read_at old.pending.items x.worker i u k read) is history o.watching.follows);
  }

  pub faulty : IsTaken old.top new.top old.holes.items new.holes.items (length rest) u.noted
      (ticket_number r) false → IsFaulty (x ∷ past) new
  faulty t =
      let g = cannot past x r old.top old.holes.items old.pending.items rest i u e k read is history
      o.watching t in
      record { gathered = gathered; fault = g.0; shows = g.1 }

  pub followed : (b : Bool) → x.at ≤ 18446744073709551615
      → IsTaken old.top new.top old.holes.items new.holes.items (length rest) u.noted
      (ticket_number r) true → IsPaired new.holes.items rest b → IsFollowed (x ∷ past) new b
  followed true fits t p = record {
    gathered = gathered;
    watching = subst (λ us. Watching (x ∷ past) new.top new.holes.items us) (sym same)
        (goes_on past x r old.top old.holes.items old.pending.items rest i u e k read is history
        o.watching new.top new.holes.items fits t p);
  }
  followed false fits t p =
      (let g = lacks past x r old.top old.holes.items old.pending.items rest i u e k read is history
      o.watching new.top new.holes.items fits t p in
      record { gathered = gathered; fault = g.0; shows = g.1 })

pub done_more : (now then old : List Call) (c d : Call) → now ≡ then → then ≡ old ++ c ∷ [] → c ≡ d
    → now ≡ old ++ d ∷ []
done_more now then old c d e f is = e ∙ f ∙ ap (λ z. old ++ z ∷ []) is
