-- The completed calls of an accepted history are on declared objects.
use Rattle.std.proofs.Common.{◌≡◌, true, false, cond, List, [], ◌∷◌, length, Option, Some, None}
use Rattle.std.specs.List.{All}
use Rattle.std.proofs.lemmas.Bool.{lt-leb}
use Rattle.std.proofs.lemmas.List.Elements.{All-nil, All-cons, All-append}
use Rattle.ec_count.specs.Tables.{Tables}
use Rattle.ec_core.specs.declared.act.Act.{Act}
use Rattle.ec_core.specs.declared.act.Act.TheVariants as acts
use Rattle.ec_core.specs.declared.act.Entry.{Entry}
use Rattle.ec_core.specs.Calls.{CallSoFar, under_way, call_with_act, is_pending}
use Rattle.ec_core.specs.Acceptance.{IsAccepted, names_unknown_object}
use Rattle.ec_core.proofs.shared.Answering.{allowed, IsReading, IsReadingCall, call_reads}
use Rattle.ec_order.specs.declared.call.Call.{Call as FinishedCall}
use Rattle.ec_order.specs.Calls.{finished_calls, ended_by, call_of_entries}

module _ (t : Tables) where
  abbrev pub IsKnown : FinishedCall → Type 0
  IsKnown c = names_unknown_object t c.op ≡ false

  abbrev IsKnownCall : Option CallSoFar → Type 0
  IsKnownCall None = Unit {0}
  IsKnownCall (Some call) = names_unknown_object t call.op ≡ false

  reading_known : (op : Act) → IsReading t op → names_unknown_object t op ≡ false
  reading_known (acts.Read e) h = lt-leb (length t.events) e h
  reading_known (acts.Await e v) h = lt-leb (length t.events) e h
  reading_known op h = absurd h

  gone_known : (act : Act) (past : List Entry) (o : Option CallSoFar) → IsReadingCall t o
      → names_unknown_object t act ≡ false → IsKnownCall (call_with_act act past o)
  gone_known acts.Go past None r h = tt
  gone_known acts.Go past (Some call) r h = reading_known call.op r
  gone_known act past o r h = h

  ended_known : (x : Entry) (o : Option CallSoFar) → IsKnownCall o
      → All IsKnown (ended_by t x o)
  ended_known x None h = All-nil IsKnown
  ended_known x (Some call) h =
      elim (is_pending x.reply) as (λ b. All IsKnown
      (cond b [] (call_of_entries t x call.op call.moments ∷ []))) [
        | true ↦ All-nil IsKnown
        | false ↦ All-cons IsKnown (call_of_entries t x call.op call.moments) [] h (All-nil IsKnown)
      ]

  pub all_known : (past : List Entry) → IsAccepted t past → All IsKnown (finished_calls t past)
  unfolding finished_calls
  all_known [] acc = All-nil IsKnown
  all_known (x ∷ past) acc =
      let k = allowed t past x.worker x.act x.reply acc.0 in
      All-append IsKnown (finished_calls t past)
      (ended_by t x (call_with_act x.act past (under_way x.worker past))) (all_known past acc.1)
      (ended_known x (call_with_act x.act past (under_way x.worker past))
      (gone_known x.act past (under_way x.worker past) (call_reads t past x.worker acc.1)
      k.0.known))
