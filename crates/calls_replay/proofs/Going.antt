-- The steps of a call.
use Rattle.std.proofs.Common.{◌≡◌, ◌≢◌, ℕ, suc, ◌-◌, ◌<◌, ◌==◌, true, false, cond}
use Rattle.std.proofs.Common.{List, [], ◌∷◌, ◌++◌, length, Option, Some, None, refl, sym, ap, ◌∙◌}
use Rattle.std.proofs.Common.{arith, append-nil}
use Rattle.std.proofs.lemmas.Bool.{eq-eqb, ne_eqb}
use Rattle.ec_count.specs.Tables.{Tables}
use Rattle.ec_core.specs.declared.act.Act.{Act}
use Rattle.ec_core.specs.declared.act.Act.TheVariants as acts
use Rattle.ec_core.specs.declared.act.Reply.{Reply}
use Rattle.ec_core.specs.declared.act.Reply.TheVariants as replies
use Rattle.ec_core.specs.declared.act.Entry.{Entry}
use Rattle.ec_core.specs.Calls.{CallSoFar, under_way, call_with_act, is_pending}
use Rattle.ec_core.specs.Rounds.{position_of}
use Rattle.ec_order.specs.Calls.{finished_calls, ended_by, call_of_entries}
use Rattle.calls_kernel.specs.Outside.{is_call}
use Rattle.calls_replay.specs.kept.Going.{IsFree, IsGoing, HasGone, Goes}
use Rattle.ec_core.proofs.shared.Stepping.{entry}

-- the pending call of w after its entry
abbrev left : ℕ → Act → Reply → List Entry → Option CallSoFar
left w act reply past = cond (is_pending reply) (call_with_act act past (under_way w past)) None

way_next : (v w : ℕ) (act : Act) (reply : Reply) (past : List Entry)
    → under_way v (entry w act reply ∷ past)
    ≡ cond (w == v) (left v act reply past) (under_way v past)
unfolding under_way
way_next v w act reply past = refl

way_own : (w : ℕ) (act : Act) (reply : Reply) (past : List Entry)
    → under_way w (entry w act reply ∷ past) ≡ left w act reply past
way_own w act reply past =
    way_next w w act reply past
    ∙ ap (λ b. cond b (left w act reply past) (under_way w past)) (eq-eqb w w refl)

way_other : (v w : ℕ) (act : Act) (reply : Reply) (past : List Entry) → v ≢ w
    → under_way v (entry w act reply ∷ past) ≡ under_way v past
way_other v w act reply past other =
    way_next v w act reply past
    ∙ ap (λ b. cond b (left v act reply past) (under_way v past))
    (ne_eqb w v (λ e. other (sym e)))

-- the act that begins a call begins one, whatever call was pending
begins : (act : Act) (past : List Entry) (o : Option CallSoFar) → is_call act ≡ true
    → call_with_act act past o ≡ Some (record { op = act; moments = past ∷ [] })
begins (acts.Advance e) past o c = refl
begins (acts.Read e) past o c = refl
begins (acts.Await e v) past o c = refl
begins (acts.Ticket q) past o c = refl
begins (acts.Put x v) past o c = refl
begins (acts.Get x) past o c = refl
begins acts.Go past o c = cc
begins (acts.Hand e b) past o c = cc

module _ (t : Tables) where
  finished_next : (w : ℕ) (act : Act) (reply : Reply) (past : List Entry) (o : Option CallSoFar)
      → call_with_act act past (under_way w past) ≡ o
      → finished_calls t (entry w act reply ∷ past)
      ≡ finished_calls t past ++ ended_by t (entry w act reply) o
  unfolding finished_calls
  finished_next w act reply past o is =
      ap (λ p. finished_calls t past ++ ended_by t (entry w act reply) p) is

  -- THE FIRST STEP

  first_goes : (past : List Entry) (w : ℕ) (act : Act) → is_call act ≡ true → IsFree past
      → IsGoing t past w act (entry w act replies.Pending ∷ past)
  first_goes past w act c free = record {
    moments = past ∷ [];
    own = way_own w act replies.Pending past ∙ begins act past (under_way w past) c;
    some = omega arith;
    first = refl;
    others = λ v other. way_other v w act replies.Pending past other ∙ free v;
    finished = finished_next w act replies.Pending past _ (begins act past (under_way w past) c)
        ∙ append-nil (finished_calls t past);
    longer = omega arith;
  }

  all_free : (v w : ℕ) (act : Act) (reply : Reply) (past : List Entry) → is_pending reply ≡ false
      → (v ≢ w → under_way v past ≡ None)
      → under_way v (entry w act reply ∷ past) ≡ None
  unfolding under_way
  all_free v w act reply past final others =
      elim (w == v) as (λ b. (w == v) ≡ b → cond b (left v act reply past) (under_way v past) ≡ None) [
        | true ↦ λ e.
            ap (λ b. cond b (call_with_act act past (under_way v past)) None) final
        | false ↦ λ e. others (λ same. absurd_of w v e (sym same))
      ] refl
    where
      absurd_of : (a b : ℕ) → (a == b) ≡ false → a ≡ b → ⊥
      absurd_of a b e same = (let yes = eq-eqb a b same in cc)

  first_gone : (past : List Entry) (w : ℕ) (act : Act) (reply : Reply) → is_call act ≡ true
      → is_pending reply ≡ false → IsFree past
      → HasGone t past w act (entry w act reply ∷ past) reply
  first_gone past w act reply c final free = record {
    call = call_of_entries t (entry w act reply) act (past ∷ []);
    finished = finished_next w act reply past _ (begins act past (under_way w past) c)
        ∙ ap (λ b. finished_calls t past ++ cond b []
        (call_of_entries t (entry w act reply) act (past ∷ []) ∷ [])) final;
    worker = refl;
    op = refl;
    reply_is = refl;
    first = refl;
    rises = omega arith;
    last = omega arith;
    free = λ v. all_free v w act reply past final (λ other. free v);
  }

  pub first_step : (past : List Entry) (w : ℕ) (act : Act) (reply : Reply) → is_call act ≡ true
      → IsFree past → Goes t past w act (entry w act reply ∷ past) reply
  first_step past w act replies.Pending c free = first_goes past w act c free
  first_step past w act replies.Done c free = first_gone past w act replies.Done c refl free
  first_step past w act (replies.Number n) c free =
      first_gone past w act (replies.Number n) c refl free

  -- THE OTHERS

  -- one more entry does not change the first position
  first_kept : (late : List Entry) (ms : List (List Entry)) → 0 < length ms
      → position_of (late ∷ ms) (length (late ∷ ms) - 1) ≡ position_of ms (length ms - 1)
  first_kept late [] h = absurd (omega arith)
  first_kept late (m ∷ ms) h =
      let long : length (late ∷ m ∷ ms) - 1 ≡ suc (length ms) = omega arith in
      let short : length (m ∷ ms) - 1 ≡ length ms = omega arith in
      ap (position_of (late ∷ m ∷ ms)) long ∙ ap (position_of (m ∷ ms)) (sym short)

  goes_on : (past : List Entry) (w : ℕ) (act : Act) (late : List Entry)
      → (g : IsGoing t past w act late)
      → call_with_act acts.Go late (under_way w late)
      ≡ Some (record { op = act; moments = late ∷ g.moments })
  goes_on past w act late g = ap (call_with_act acts.Go late) g.own

  next_goes : (past : List Entry) (w : ℕ) (act : Act) (late : List Entry)
      → IsGoing t past w act late
      → IsGoing t past w act (entry w acts.Go replies.Pending ∷ late)
  next_goes past w act late g = record {
    moments = late ∷ g.moments;
    own = way_own w acts.Go replies.Pending late ∙ goes_on past w act late g;
    some = omega arith;
    first = first_kept late g.moments g.some ∙ g.first;
    others = λ v other. way_other v w acts.Go replies.Pending late other ∙ g.others v other;
    finished = finished_next w acts.Go replies.Pending late _ (goes_on past w act late g)
        ∙ append-nil (finished_calls t late) ∙ g.finished;
    longer = (let l = g.longer in omega arith);
  }

  next_gone : (past : List Entry) (w : ℕ) (act : Act) (late : List Entry) (reply : Reply)
      → is_pending reply ≡ false → IsGoing t past w act late
      → HasGone t past w act (entry w acts.Go reply ∷ late) reply
  next_gone past w act late reply final g =
      let made = call_of_entries t (entry w acts.Go reply) act (late ∷ g.moments) in
      let began : made.first ≡ length past = first_kept late g.moments g.some ∙ g.first in
      record {
        call = made;
        finished = finished_next w acts.Go reply late _ (goes_on past w act late g)
            ∙ ap (λ b. finished_calls t late ++ cond b [] (made ∷ [])) final
            ∙ ap (λ cs. cs ++ made ∷ []) g.finished;
        worker = refl;
        op = refl;
        reply_is = refl;
        first = began;
        rises = (let l = g.longer in let last : made.last ≡ length late = refl in omega arith);
        last = (let last : made.last ≡ length late = refl in omega arith);
        free = λ v. all_free v w acts.Go reply late final (g.others v);
      }

  pub next_step : (past : List Entry) (w : ℕ) (act : Act) (late : List Entry) (reply : Reply)
      → IsGoing t past w act late → Goes t past w act (entry w acts.Go reply ∷ late) reply
  next_step past w act late replies.Pending g = next_goes past w act late g
  next_step past w act late replies.Done g = next_gone past w act late replies.Done refl g
  next_step past w act late (replies.Number n) g =
      next_gone past w act late (replies.Number n) refl g
