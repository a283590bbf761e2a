-- A legal sequential history of the kernel is one of the numbered objects.
use Rattle.std.proofs.Common.{◌≡◌, ℕ, ◌+◌, ◌<◌, ◌≤◌, Bool, true, false, ◌==◌, cond, List, []}
use Rattle.std.proofs.Common.{◌∷◌, length, Some, None, refl, ap, sym, ◌∙◌, arith, subst, nat_le}
use Rattle.std.specs.List.{All}
use Rattle.std.proofs.lemmas.Bool.{eqb-true, eqb-false, eq-eqb, ne_eqb, leb-false, leb-true}
use Rattle.std.proofs.lemmas.List.Elements.{All-head, All-tail}
use Rattle.ec_count.specs.Tables.{Tables}
use Rattle.ec_core.specs.declared.act.Act.{Act}
use Rattle.ec_core.specs.declared.act.Act.TheVariants as acts
use Rattle.ec_core.specs.declared.act.Reply.{Reply as StepReply}
use Rattle.ec_core.specs.declared.act.Reply.TheVariants as replies
use Rattle.ec_core.specs.Acceptance.{names_unknown_object}
use Rattle.ec_order.specs.declared.call.Call.{Call as FinishedCall}
use Rattle.ec_order.specs.Sequential.{SequentialState, update_at, sequential_reply}
use Rattle.ec_order.specs.Sequential.{sequential_after, IsLegalHistory}
use Rattle.calls_core.specs.Linearizations.{set_at, IsRun}
use Rattle.calls_kernel.specs.Outside.{outside_reply, outside_calls}
use Rattle.calls_kernel.proofs.Steps.{set_same}
use Rattle.calls_kernel.proofs.Known.{IsKnown}

module _ (t : Tables) where
  -- the numbers of the objects are those of the sequential state
  pub record Agrees (s : SequentialState) (n : ℕ → ℕ → ℕ) : Type 0 where
    pub events : (e : ℕ) → e < length t.events → n e 0 ≡ s.events e
    pub sequencers : (q : ℕ) → q < length t.takers → n (length t.events + q) 0 ≡ s.sequencers q
    pub cells : (x : ℕ) → x < length t.cells
        → n (length t.events + length t.takers + x) 0 ≡ s.cells x

  set_off : (k j : ℕ) (f : ℕ → ℕ) (n : ℕ → ℕ → ℕ) → (k ≡ j → ⊥) → set_at k f n j 0 ≡ n j 0
  set_off k j f n h = ap (λ b. cond b f (n j) 0) (ne_eqb k j h)

  -- the same number is changed in both
  set_both : (k i j m : ℕ) (f : ℕ → ℕ) (n : ℕ → ℕ → ℕ) (g : ℕ → ℕ) → f 0 ≡ m
      → n (k + j) 0 ≡ g j → set_at (k + i) f n (k + j) 0 ≡ update_at g i m j
  set_both k i j m f n g is same =
      elim (i == j) as (λ b. (i == j) ≡ b → set_at (k + i) f n (k + j) 0 ≡ cond b m (g j)) [
        | true ↦ λ e.
            (let here : k + i ≡ k + j = ap (λ x. k + x) (eqb-true i j e) in
            ap (λ b. cond b f (n (k + j)) 0) (eq-eqb (k + i) (k + j) here) ∙ is)
        | false ↦ λ e.
            (let other : i ≡ j → ⊥ = eqb-false i j e in
            set_off (k + i) (k + j) f n (λ h. other (omega arith)) ∙ same)
      ] refl

  set_event : (i j m : ℕ) (f : ℕ → ℕ) (n : ℕ → ℕ → ℕ) (g : ℕ → ℕ) → f 0 ≡ m
      → n j 0 ≡ g j → set_at i f n j 0 ≡ update_at g i m j
  set_event i j m f n g is same =
      elim (i == j) as (λ b. (i == j) ≡ b → cond b f (n j) 0 ≡ cond b m (g j)) [
        | true ↦ λ e. is
        | false ↦ λ e. same
      ] refl

  pub event_set : (s : SequentialState) (n : ℕ → ℕ → ℕ) (e m : ℕ) (f : ℕ → ℕ) → Agrees s n
      → e < length t.events → f 0 ≡ m
      → Agrees (record s { events = update_at s.events e m }) (set_at e f n)
  event_set s n e m f h lt is = record {
    events = λ d low. set_event e d m f n s.events is (h.events d low);
    sequencers = λ q low.
        set_off e (length t.events + q) f n (λ k. omega arith) ∙ h.sequencers q low;
    cells = λ x low.
        set_off e (length t.events + length t.takers + x) f n (λ k. omega arith) ∙ h.cells x low;
  }

  pub sequencer_set : (s : SequentialState) (n : ℕ → ℕ → ℕ) (q m : ℕ) (f : ℕ → ℕ) → Agrees s n
      → q < length t.takers → f 0 ≡ m
      → Agrees (record s { sequencers = update_at s.sequencers q m })
      (set_at (length t.events + q) f n)
  sequencer_set s n q m f h lt is = record {
    events = λ d low. set_off (length t.events + q) d f n (λ k. omega arith) ∙ h.events d low;
    sequencers = λ p low.
        set_both (length t.events) q p m f n s.sequencers is (h.sequencers p low);
    cells = λ x low.
        set_off (length t.events + q) (length t.events + length t.takers + x) f n
        (λ k. omega arith) ∙ h.cells x low;
  }

  pub cell_set : (s : SequentialState) (n : ℕ → ℕ → ℕ) (x m : ℕ) (f : ℕ → ℕ) → Agrees s n
      → x < length t.cells → f 0 ≡ m
      → Agrees (record s { cells = update_at s.cells x m })
      (set_at (length t.events + length t.takers + x) f n)
  cell_set s n x m f h lt is = record {
    events = λ d low.
        set_off (length t.events + length t.takers + x) d f n (λ k. omega arith) ∙ h.events d low;
    sequencers = λ q low.
        set_off (length t.events + length t.takers + x) (length t.events + q) f n
        (λ k. omega arith) ∙ h.sequencers q low;
    cells = λ y low.
        set_both (length t.events + length t.takers) x y m f n s.cells is (h.cells y low);
  }

  pub quiet_set : (s : SequentialState) (n : ℕ → ℕ → ℕ) (k : ℕ) → Agrees s n
      → Agrees s (set_at k (n k) n)
  quiet_set s n k h = record {
    events = λ e low. ap (λ f. f 0) (set_same k n e) ∙ h.events e low;
    sequencers = λ q low. ap (λ f. f 0) (set_same k n (length t.events + q)) ∙ h.sequencers q low;
    cells = λ x low.
        ap (λ f. f 0) (set_same k n (length t.events + length t.takers + x)) ∙ h.cells x low;
  }

  abbrev call : ℕ → Act → StepReply → ℕ → ℕ → ℕ → FinishedCall
  call w act reply first round last = record {
    worker = w;
    op = act;
    reply = reply;
    first = first;
    round = round;
    last = last;
  }

  module _ (s : SequentialState) (n : ℕ → ℕ → ℕ) (w first round last : ℕ)
      (cs : List FinishedCall) (same : Agrees s n) where
    abbrev Goes : Act → Type 0
    Goes act = (m : ℕ → ℕ → ℕ) → Agrees (sequential_after s act) m → IsRun m (outside_calls t cs)

    abbrev Runs : Act → StepReply → Type 0
    Runs act reply = IsRun n (outside_calls t (call w act reply first round last ∷ cs))

    some_is : (a b : StepReply) → Some a ≡ Some b → a ≡ b
    some_is a b h = cc

    await_runs : (e v : ℕ) (reply : StepReply) → e < length t.events
        → (b : Bool) → nat_le v (s.events e) ≡ b
        → cond b (Some (replies.Number (s.events e))) None ≡ Some reply
        → Goes (acts.Await e v) → Runs (acts.Await e v) reply
    await_runs e v reply lt true le h rest =
        let up : v ≤ s.events e = leb-true v (s.events e) le in
        let is : n e 0 ≡ s.events e = same.events e lt in
        subst (λ r. Runs (acts.Await e v) r) (some_is (replies.Number (s.events e)) reply h)
        ((omega arith, sym is), rest (set_at e (n e) n) (quiet_set s n e same))
    await_runs e v reply lt false le h rest = cc

    call_runs : (act : Act) (reply : StepReply) → names_unknown_object t act ≡ false
        → sequential_reply s act ≡ Some reply → Goes act → Runs act reply
    call_runs (acts.Advance e) reply known h rest =
        let lt : e < length t.events = leb-false (length t.events) e known in
        subst (λ r. Runs (acts.Advance e) r) (some_is replies.Done reply h) (
          refl,
          rest (set_at e (set_at 0 (n e 0 + 1) (n e)) n)
              (event_set s n e (s.events e + 1) (set_at 0 (n e 0 + 1) (n e)) same lt
              (ap (λ k. k + 1) (same.events e lt))),
        )
    call_runs (acts.Read e) reply known h rest =
        let lt : e < length t.events = leb-false (length t.events) e known in
        subst (λ r. Runs (acts.Read e) r) (some_is (replies.Number (s.events e)) reply h) (
          ap outside_reply (ap replies.Number (sym (same.events e lt))),
          rest (set_at e (n e) n) (quiet_set s n e same),
        )
    call_runs (acts.Await e v) reply known h rest =
        await_runs e v reply (leb-false (length t.events) e known) (nat_le v (s.events e)) refl h
        rest
    call_runs (acts.Ticket q) reply known h rest =
        let lt : q < length t.takers = leb-false (length t.takers) q known in
        let k = length t.events + q in
        subst (λ r. Runs (acts.Ticket q) r) (some_is (replies.Number (s.sequencers q)) reply h) (
          ap outside_reply (ap replies.Number (sym (same.sequencers q lt))),
          rest (set_at k (set_at 0 (n k 0 + 1) (n k)) n)
              (sequencer_set s n q (s.sequencers q + 1) (set_at 0 (n k 0 + 1) (n k)) same lt
              (ap (λ j. j + 1) (same.sequencers q lt))),
        )
    call_runs (acts.Put x v) reply known h rest =
        let lt : x < length t.cells = leb-false (length t.cells) x known in
        let k = length t.events + length t.takers + x in
        subst (λ r. Runs (acts.Put x v) r) (some_is replies.Done reply h) (
          refl,
          rest (set_at k (set_at 0 v (n k)) n)
              (cell_set s n x v (set_at 0 v (n k)) same lt refl),
        )
    call_runs (acts.Get x) reply known h rest =
        let lt : x < length t.cells = leb-false (length t.cells) x known in
        let k = length t.events + length t.takers + x in
        subst (λ r. Runs (acts.Get x) r) (some_is (replies.Number (s.cells x)) reply h) (
          ap outside_reply (ap replies.Number (sym (same.cells x lt))),
          rest (set_at k (n k) n) (quiet_set s n k same),
        )
    call_runs (acts.Hand e b) reply known h rest = rest n same
    call_runs acts.Go reply known h rest = cc

  pub seen_runs : (cs : List FinishedCall) (s : SequentialState) (n : ℕ → ℕ → ℕ) → Agrees s n
      → All (IsKnown t) cs → IsLegalHistory s cs → IsRun n (outside_calls t cs)
  seen_runs [] s n same known run = tt
  seen_runs (c ∷ cs) s n same known run =
      call_runs s n c.worker c.first c.round c.last cs same c.op c.reply
      (All-head (IsKnown t) c cs known) run.0
      (λ m h. seen_runs cs (sequential_after s c.op) m h (All-tail (IsKnown t) c cs known) run.1)
