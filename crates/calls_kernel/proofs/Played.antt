-- The calls of a linearization are made one after another.
use Rattle.std.proofs.Common.{◌≡◌, ℕ, true, false, List, [], ◌∷◌, ◌++◌, length, reverse, None, refl}
use Rattle.std.proofs.Common.{ap, sym, ◌∙◌, arith, subst, append_assoc, append-nil}
use Rattle.std.specs.List.{All}
use Rattle.std.proofs.lemmas.List.{reverse-reverse, length-reverse}
use Rattle.std.proofs.lemmas.List.Elements.{All-head, All-tail}
use Rattle.ec_count.specs.Tables.{Tables, IsDeclared}
use Rattle.ec_core.specs.declared.act.Entry.{Entry}
use Rattle.ec_core.specs.Counts.{total, component_total, issued, cell_value, signallers_at}
use Rattle.ec_core.specs.Calls.{under_way}
use Rattle.ec_core.specs.Acceptance.{IsAccepted}
use Rattle.ec_order.specs.declared.call.Call.{Call as FinishedCall}
use Rattle.ec_order.specs.Calls.{finished_calls}
use Rattle.calls_core.specs.declared.history.Op.{Op}
use Rattle.calls_core.specs.declared.history.Op.TheVariants.{Advance, Read, Await, Ticket, P, V}
use Rattle.calls_core.specs.declared.history.Op.TheVariants.{PBoth, Put, Get, Produce, Consume}
use Rattle.calls_core.specs.declared.history.Reply.{Reply}
use Rattle.calls_core.specs.declared.history.Call.{Call}
use Rattle.calls_core.specs.Lists.{Each}
use Rattle.calls_core.specs.Linearizations.{set_at, after, Gives, IsRun, start, initial}
use Rattle.calls_kernel.specs.Outside.{kinds_of}
use Rattle.calls_kernel.specs.Made.{IsGranted, KeepsLimit, AreMadeAs, AreInARow}
use Rattle.calls_kernel.specs.Laws.{LinearizationsAreAcceptedHistories}
use Rattle.calls_kernel.proofs.Objects.{event_kind, sequencer_kind, cell_kind}
use Rattle.calls_kernel.proofs.Fitting.{IsFitting, fitting, FitsCall, linearized_fit}
use Rattle.calls_kernel.proofs.Playing.{IsClear, IsPlayed}
use Rattle.calls_kernel.proofs.Acting.{advance_played, ticket_played, put_played, get_played}
use Rattle.calls_kernel.proofs.Reading.{read_played, await_played}

module _ (t : Tables) (d : IsDeclared t) where
  no_call : {X : Type 0} → false ≡ true → X
  no_call h = cc

  one_played : (past : List Entry) (w k : ℕ) (op : Op) (reply : Reply) (first last : ℕ)
      (n : ℕ → ℕ → ℕ) (left : List Call)
      → (let c : Call = record {
        worker = w;
        object = k;
        op = op;
        reply = reply;
        first = first;
        last = last;
      } in IsClear t past n (c ∷ left) → IsGranted t c → IsFitting t k op → Gives (n k) op reply
      → IsPlayed t past c (set_at k (after (n k) op reply) n) left)
  one_played past w k Advance reply first last n left =
      advance_played t past w k first last n left reply
  one_played past w k Read reply first last n left =
      read_played t d past w k first last n left reply
  one_played past w k (Await v) reply first last n left =
      await_played t d past w k first last n left v reply
  one_played past w k Ticket reply first last n left =
      ticket_played t past w k first last n left reply
  one_played past w k (Put v) reply first last n left =
      put_played t past w k first last n left v reply
  one_played past w k Get reply first last n left =
      get_played t past w k first last n left reply
  one_played past w k (P i) reply first last n left = λ clear granted fits gives. no_call fits.call
  one_played past w k (V i) reply first last n left = λ clear granted fits gives. no_call fits.call
  one_played past w k (PBoth i j) reply first last n left =
      λ clear granted fits gives. no_call fits.call
  one_played past w k (Produce v) reply first last n left =
      λ clear granted fits gives. no_call fits.call
  one_played past w k Consume reply first last n left = λ clear granted fits gives. no_call fits.call

  -- these calls were made after the history so far
  record ArePlayed (past : List Entry) (cs : List Call) : Type 0 where
    pub late : List Entry
    pub accepted : IsAccepted t late
    pub free : (w : ℕ) → under_way w late ≡ None
    pub made : List FinishedCall
    pub finished : finished_calls t late ≡ finished_calls t past ++ made
    pub are : AreMadeAs t made cs
    pub in_a_row : AreInARow (length past) made (length late)

  all_played : (cs : List Call) (past : List Entry) (n : ℕ → ℕ → ℕ) → IsClear t past n cs
      → Each (IsGranted t) cs → All (FitsCall (kinds_of t)) cs → IsRun n cs → ArePlayed past cs
  all_played [] past n clear granted fits run = record {
    late = past;
    accepted = clear.accepted;
    free = clear.free;
    made = [];
    finished = sym (append-nil (finished_calls t past));
    are = tt;
    in_a_row = refl;
  }
  all_played (c ∷ cs) past n clear granted fits run =
      let F = FitsCall (kinds_of t) in
      let p = one_played past c.worker c.object c.op c.reply c.first c.last n cs clear granted.0
      (fitting t c.object c.op (All-head F c cs fits)) run.0 in
      let rest = all_played cs p.late (set_at c.object (after (n c.object) c.op c.reply) n) p.clear
      granted.1 (All-tail F c cs fits) run.1 in
      record {
        late = rest.late;
        accepted = rest.accepted;
        free = rest.free;
        made = p.made ∷ rest.made;
        finished = rest.finished ∙ ap (λ ds. ds ++ rest.made) p.finished
            ∙ append_assoc (finished_calls t past) (p.made ∷ []) rest.made;
        are = (p.is, rest.are);
        in_a_row = (
          p.first,
          p.rises,
          subst (λ i. AreInARow i rest.made (length rest.late)) (sym p.last) rest.in_a_row,
        );
      }

  clear_first : (cs : List Call) → KeepsLimit t cs → IsClear t [] (start (kinds_of t)) cs
  unfolding signallers_at total component_total issued cell_value under_way
  clear_first cs limit = record {
    accepted = tt;
    free = λ w. refl;
    room = record {
      still = λ e. refl;
      agrees = record {
        events = λ e h. ap (λ o. initial o 0) (event_kind t e h);
        sequencers = λ q h. ap (λ o. initial o 0) (sequencer_kind t q h);
        cells = λ x h. ap (λ o. initial o 0) (cell_kind t x h);
      };
      advances = λ e w c at. omega (arith, limit.advances e w);
      tickets = λ q. omega (arith, limit.tickets q);
    };
  }

  -- the same for a list that equals the history of the made calls
  made_of : (cs : List Call) (p : ArePlayed [] cs) (back : List Entry) → back ≡ p.late
      → IsAccepted t back × AreMadeAs t (finished_calls t back) cs
      × AreInARow 0 (finished_calls t back) (length p.late)
      × ((w : ℕ) → under_way w back ≡ None)
  unfolding finished_calls
  made_of cs p back is =
      let finished : finished_calls t back ≡ p.made = ap (finished_calls t) is ∙ p.finished in (
        subst (IsAccepted t) (sym is) p.accepted,
        subst (λ ds. AreMadeAs t ds cs) (sym finished) p.are,
        subst (λ ds. AreInARow 0 ds (length p.late)) (sym finished) p.in_a_row,
        λ w. ap (under_way w) is ∙ p.free w,
      )

pub linearizations_are_accepted : LinearizationsAreAcceptedHistories
linearizations_are_accepted t past cs d h l granted limit =
    let p = all_played t d cs [] (start (kinds_of t)) (clear_first t d cs limit) granted
    (linearized_fit (kinds_of t) past cs h l) l.run in
    let k = made_of t d cs p (reverse (reverse p.late)) (reverse-reverse p.late) in
    record {
      steps = reverse p.late;
      accepted = k.0;
      calls = k.1;
      in_a_row = subst (AreInARow 0 (finished_calls t (reverse (reverse p.late))))
          (sym (length-reverse p.late)) k.2;
      ended = k.3;
    }
