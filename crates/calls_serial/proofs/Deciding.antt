-- The pass over the events of a history.
use Rattle.std.proofs.Common.{◌≡◌, ℕ, ◌+◌, ◌<◌, ◌≤◌, List, [], ◌∷◌, ◌++◌, length, map}
use Rattle.std.proofs.Common.{reverse, Option, Some, None, refl, ap, sym, ◌∙◌, arith, subst, take}
use Rattle.std.proofs.Common.{get_or}
use Rattle.std.specs.Prelude.{MatchOption}
use Rattle.std.proofs.lemmas.List.{take_more, append-nil, map-append}
use Rattle.std.proofs.lemmas.List.Sorted.{IsPermutation-refl}
use Rattle.calls_core.specs.declared.history.Kind.TheVariants.{Cell}
use Rattle.calls_core.specs.declared.history.Op.{Op}
use Rattle.calls_core.specs.declared.history.Reply.{Reply}
use Rattle.calls_core.specs.declared.history.Action.{Action}
use Rattle.calls_core.specs.declared.history.Action.TheVariants.{Invoke, Respond}
use Rattle.calls_core.specs.declared.history.Event.{Event}
use Rattle.calls_core.specs.declared.history.PendingCall.{PendingCall}
use Rattle.calls_core.specs.declared.history.Call.{Call}
use Rattle.calls_core.specs.Histories.{clock, pending_of, without, invoked_by, pending_calls}
use Rattle.calls_core.specs.Histories.{completion, ended_call, completed_calls, Takes}
use Rattle.calls_core.specs.Histories.{IsNextOf, IsHistoryOf}
use Rattle.calls_core.specs.Beginnings.{past_at}
use Rattle.calls_core.specs.Completions.{settle_call}
use Rattle.calls_core.specs.Outcomes.{IsOrderOf, HasOrderOf}
use Rattle.calls_core.proofs.Positions.{each_call_by, are_calls_of, early_calls}
use Rattle.calls_core.proofs.Settling.{order_at}
use Rattle.calls_core.proofs.Beginnings.{history_at, orders_before, past_next, past_all}
use Rattle.calls_core.proofs.Beginnings.{clock_at}
use Rattle.calls_serial.specs.declared.outcome.Fault.{Fault}
use Rattle.calls_serial.specs.declared.stage.Stage.{Stage}
use Rattle.calls_serial.specs.declared.stage.Link.{Link}
use Rattle.calls_serial.specs.declared.stage.Pass.{Pass}
use Rattle.calls_serial.specs.declared.stage.Stop.{Stop}
use Rattle.calls_serial.specs.declared.stage.Stop.TheVariants.{Fails, Overlaps}
use Rattle.calls_serial.specs.Faults.{Leaves}
use Rattle.calls_serial.specs.kept.Stages.{StageView, stage_view, helds, held_calls, all_calls}
use Rattle.calls_serial.specs.kept.Stages.{first_stage}
use Rattle.calls_serial.specs.Outcomes.{IsOutcome}
use Rattle.calls_serial.specs.kept.Passing.{Holding, EndsCall, IsInvoked}
use Rattle.calls_serial.specs.kept.Passing.{Invokes}
use Rattle.calls_serial.specs.kept.Passing.{Holds, Stops, TakesIn}
use Rattle.calls_serial.proofs.Ordering.{ordered, all_calls_append}
use Rattle.calls_serial.specs.declared.outcome.Outcome.TheVariants.{Refused, Overlapping}

-- AN INVOCATION

pub invoked_past : (end : ℕ) (past : List Event) (x : Event) (k : ℕ) (op : Op) (old new : Pass)
    (stop : Option Stop) → x.action ≡ Invoke k op → IsHistoryOf Cell (x ∷ past) → x.at < end
    → Holds end past old → Invokes end old new (invoked_by x k op) stop
    → Stops end (x ∷ past) new stop
invoked_past end past x k op old new stop e h lt holds inv =
    subst (λ (y : Event). Stops end (y ∷ past) new stop) (sym event)
    (by stop (inv (clock past) (completed_calls past) (pending_calls past)
    (early_calls Cell past h.2) (are_calls_of Cell past h.2).early h.0 lt holds.pending holds.holding))
  where
    event : x ≡ record { at = x.at; worker = x.worker; action = Invoke k op }
    event = ap (λ (a : Action).
        (let y : Event = record { at = x.at; worker = x.worker; action = a } in y)) e

    by : (s : Option Stop) → IsInvoked end (clock past) (completed_calls past) (pending_calls past)
        new (invoked_by x k op) s
        → Stops end (record { at = x.at; worker = x.worker; action = Invoke k op } ∷ past) new s
    by None i = record { pending = i.0; holding = i.1 }
    by (Some (Fails f)) i = absurd i
    by (Some (Overlaps o p)) i = i

-- A RESPONSE

abbrev pub stop_of : Option Fault → Option Stop
stop_of None = None
stop_of (Some f) = Some (Fails f)

pub responded_past : (end : ℕ) (past : List Event) (x : Event) (r : Reply) (o : PendingCall)
    (old new : Pass) (call : Call) (fault : Option Fault) → x.action ≡ Respond r
    → IsHistoryOf Cell (x ∷ past) → x.at < end
    → pending_of x.worker (pending_calls past) ≡ Some o → call ≡ completion x.at r o
    → old.pending.items ≡ without x.worker (pending_calls past)
    → Holding end (clock past) (completed_calls past) (pending_calls past)
    (helds old.stages.items) (reverse old.links.items)
    → EndsCall old new call fault → Stops end (x ∷ past) new (stop_of fault)
responded_past end past x r o old new call fault e h lt ours same rest holding ends =
    subst (λ (y : Event). Stops end (y ∷ past) new (stop_of fault)) (sym event)
    (by fault (subst (λ (z : Call). MatchOption fault
    ((new.pending.items ≡ without x.worker (pending_calls past))
    × Holding end (x.at + 1) (z ∷ completed_calls past) (without x.worker (pending_calls past))
    (helds new.stages.items) (reverse new.links.items))
    (λ (f : Fault). Leaves (z ∷ completed_calls past) (without x.worker (pending_calls past))
    f.gets.items None)) same
    (ends end (clock past) (completed_calls past) (pending_calls past) x.worker x.at r o
    (record {
      ours = ours;
      early = early_calls Cell past h.2;
      waiting = (are_calls_of Cell past h.2).early;
      later = h.0;
      before = lt;
    })
    (record {
      takes = each_call_by (λ (p : PendingCall). Takes (Some Cell) p.op) x.worker
          (pending_calls past) o (are_calls_of Cell past h.2).fits ours;
      suits = subst (IsNextOf Cell (Respond r)) ours
          (subst (λ a. IsNextOf Cell a (pending_of x.worker (pending_calls past))) e h.1);
    }) same rest holding)))
  where
    event : x ≡ record { at = x.at; worker = x.worker; action = Respond r }
    event = ap (λ (a : Action).
        (let y : Event = record { at = x.at; worker = x.worker; action = a } in y)) e

    now : Event
    now = record { at = x.at; worker = x.worker; action = Respond r }

    done : completion x.at r o ∷ completed_calls past
        ≡ completed_calls (record { at = x.at; worker = x.worker; action = Respond r } ∷ past)
    done = ap (λ p. ended_call (record { at = x.at; worker = x.worker; action = Respond r })
        (Respond r) p ++ completed_calls past) (sym ours)

    by : (f : Option Fault) → MatchOption f
        ((new.pending.items ≡ without x.worker (pending_calls past))
        × Holding end (x.at + 1) (completion x.at r o ∷ completed_calls past)
        (without x.worker (pending_calls past)) (helds new.stages.items)
        (reverse new.links.items))
        (λ (g : Fault). Leaves (completion x.at r o ∷ completed_calls past)
        (without x.worker (pending_calls past)) g.gets.items None)
        → Stops end (record { at = x.at; worker = x.worker; action = Respond r } ∷ past) new
        (stop_of f)
    by None i = record {
      pending = i.0;
      holding = subst (λ cs. Holding end (x.at + 1) cs (without x.worker (pending_calls past))
          (helds new.stages.items) (reverse new.links.items)) done i.1;
    }
    by (Some f) i = subst (λ cs. Leaves cs (without x.worker (pending_calls past)) f.gets.items
        None)
        done i

-- THE BEGINNING AND THE END

pub begun_holding : (end : ℕ) (hs : List StageView) (ls : List Link) → hs ≡ first_stage ∷ []
    → Holding end 0 [] [] hs ls
begun_holding end hs ls e = record {
  prefix = first_stage ∷ [];
  now = None;
  all = e;
  represents = record {
    begins = refl;
    each = (record { put = (refl, refl); gets = tt; sorted = tt }, tt);
    pairs = (tt, tt);
    backed = ((λ p e. absurd (let no : None ≡ Some p = e in cc)), tt);
    over = (tt, tt);
    put = tt;
    puts = refl;
    once = IsPermutation-refl [];
  };
}

pub begun : (end : ℕ) (pass : Pass) → pass.pending.items ≡ []
    → helds pass.stages.items ≡ first_stage ∷ [] → Holds end [] pass
begun end pass pending stages = record {
  pending = pending;
  holding = begun_holding end (helds pass.stages.items) (reverse pass.links.items) stages;
}

pub holding_order : (end : ℕ) (past : List Event) (hs : List StageView) (ls : List Link)
    → Holding end (clock past) (completed_calls past) (pending_calls past) hs ls
    → IsOrderOf Cell past end (all_calls hs)
holding_order end past hs ls k =
    subst (λ zs. IsOrderOf Cell past end (all_calls zs)) (sym k.all)
    (ordered end (clock past) (completed_calls past) (pending_calls past) k.prefix k.now
    k.represents.each k.represents.pairs k.represents.put k.represents.puts k.represents.once)

holds_order : (end : ℕ) (past : List Event) (pass : Pass) → Holds end past pass
    → IsOrderOf Cell past end (all_calls (helds pass.stages.items))
holds_order end past pass h =
    holding_order end past (helds pass.stages.items) (reverse pass.links.items) h.holding

pub has_order : (end : ℕ) (past : List Event) (pass : Pass) → IsHistoryOf Cell past
    → clock past ≤ end → Holds end past pass → HasOrderOf Cell past
has_order end past pass h le holds = (
  map (settle_call (clock past) (clock past)) (all_calls (helds pass.stages.items)),
  order_at Cell past end (clock past) (all_calls (helds pass.stages.items)) h le (omega arith)
      (holds_order end past pass holds),
)

-- BY INDEX

module _ (end i : ℕ) (events : List Event) (d : Event) (lt : i < length events)
    (h : IsHistoryOf Cell (reverse events)) (le : clock (reverse events) ≤ end) (old new : Pass)
    (holds : Holds end (past_at i events) old) (stop : Option Stop)
    (took : TakesIn end old new (get_or events i d) stop) where
  pub stops_at : Stops end (past_at (i + 1) events) new stop
  stops_at =
      (let next = past_next events i d lt in
      let at : (get_or events i d).at + 1 ≡ clock (past_at (i + 1) events) = ap clock (sym next) in
      subst (λ p. Stops end p new stop) (sym next)
      (took (past_at i events) (subst (IsHistoryOf Cell) next (history_at Cell (i + 1) events h))
      (let c = clock_at Cell (i + 1) events h in omega arith) holds))

  pub failed : (fault : Fault) → stop ≡ Some (Fails fault)
      → IsOutcome Cell events end (Refused i fault)
  failed fault e = record {
    within = lt;
    shows = subst (Stops end (past_at (i + 1) events) new) e stops_at;
    before = λ j less. orders_before Cell i j events less (history_at Cell i events h)
        (has_order end (past_at i events) old (history_at Cell i events h)
        (let c = clock_at Cell i events h in omega arith) holds);
  }

  pub overlapped : (o p : PendingCall) → stop ≡ Some (Overlaps o p)
      → IsOutcome Cell events end (Overlapping o p)
  overlapped o p e = record {
    moment = i + 1;
    within = omega arith;
    both = subst (Stops end (past_at (i + 1) events) new) e stops_at;
  }

  pub holds_next : stop ≡ None → Holds end (past_at (i + 1) events) new
  holds_next e = subst (Stops end (past_at (i + 1) events) new) e stops_at

-- the order of all calls, at the end
pub order_all : (end i : ℕ) (events : List Event) (pass : Pass) → length events ≤ i
    → Holds end (past_at i events) pass
    → IsOrderOf Cell (reverse events) end (all_calls (helds pass.stages.items))
order_all end i events pass le h =
    subst (λ p. IsOrderOf Cell p end (all_calls (helds pass.stages.items))) (past_all events i le)
    (holds_order end (past_at i events) pass h)

pub order_more : (stages : List Stage) (i : ℕ) (d : Stage) (calls more : List Call)
    → i < length stages → calls ≡ all_calls (helds (take i stages))
    → more ≡ calls ++ held_calls (stage_view (get_or stages i d))
    → more ≡ all_calls (helds (take (i + 1) stages))
order_more stages i d calls more lt was is =
    is ∙ ap (λ zs. zs ++ held_calls (stage_view (get_or stages i d))) was
    ∙ ap (λ zs. all_calls (helds (take i stages)) ++ zs)
    (sym (append-nil (held_calls (stage_view (get_or stages i d)))))
    ∙ sym (all_calls_append (helds (take i stages)) (stage_view (get_or stages i d) ∷ []))
    ∙ ap all_calls (sym (map-append stage_view (take i stages) (get_or stages i d ∷ [])))
    ∙ ap (λ ss. all_calls (helds ss)) (sym (take_more stages i d lt))
