-- A call, made while no other call is pending.
use Rattle.std.proofs.Common.{◌≡◌, ℕ, ◌+◌, ◌<◌, ◌≤◌, Bool, true, false, not, ◌&&◌, ◌==◌}
use Rattle.std.proofs.Common.{cond, List, [], ◌∷◌, ◌++◌, length, Option, Some, None, is_some, Ok}
use Rattle.std.proofs.Common.{refl, ap, sym, ◌∙◌, arith, count_by, slice_get}
use Rattle.std.proofs.lemmas.Bool.{eqb-true, lt-leb}
use Rattle.ec_count.specs.Tables.{Tables, signallers, component_of}
use Rattle.ec_count.specs.Members.{index_of}
use Rattle.ec_count.proofs.shared.Declared.{found_there}
use Rattle.ec_core.specs.declared.act.Act.{Act}
use Rattle.ec_core.specs.declared.act.Act.TheVariants as acts
use Rattle.ec_core.specs.declared.act.Reply.{Reply as StepReply}
use Rattle.ec_core.specs.declared.act.Entry.{Entry}
use Rattle.ec_core.specs.Counts.{total, component_total, issued, cell_value, signallers_at}
use Rattle.ec_core.specs.Counts.{is_advance, is_ticket}
use Rattle.ec_core.specs.Calls.{CallSoFar, under_way, call_with_act, is_pending, is_go}
use Rattle.ec_core.specs.Acceptance.{IsAccepted, answer_of, refusal_of, refused_or, reply_of}
use Rattle.ec_core.specs.Acceptance.{has_right, is_too_large, is_at_limit, is_not_handable}
use Rattle.ec_core.specs.Acceptance.{names_unknown_object, signals_already}
use Rattle.ec_core.proofs.shared.Answering.{IsAllowed}
use Rattle.ec_order.specs.declared.call.Call.{Call as FinishedCall}
use Rattle.ec_order.specs.Calls.{finished_calls, ended_by, call_of_entries}
use Rattle.ec_order.specs.Sequential.{SequentialState, update_at}
use Rattle.calls_core.specs.declared.history.Call.{Call}
use Rattle.calls_kernel.specs.Made.{act_of_call, IsMadeAs, IsReplyOf}
use Rattle.calls_kernel.proofs.Steps.{entry, way_next}
use Rattle.calls_kernel.proofs.Runs.{Agrees}

-- ANSWERS

not_that : {F : Type 0} (b : Bool) (f : F) (o : Option F) → b ≡ false → o ≡ None
    → cond b (Some f) o ≡ None
not_that b f o h rest = ap (λ c. cond c (Some f) o) h ∙ rest

-- an act that passes each test is answered
pub answered : (t : Tables) (past : List Entry) (w : ℕ) (act : Act) (reply : StepReply)
    → IsAllowed t past w act → reply_of t past w act ≡ reply → answer_of t past w act ≡ Ok reply
unfolding answer_of
answered t past w act reply a is =
    let none : refusal_of t past w act ≡ None =
    not_that _ _ _ a.declared (not_that _ _ _ a.free (not_that _ _ _ a.going (not_that _ _ _ a.known
    (not_that _ _ _ a.right (not_that _ _ _ a.small (not_that _ _ _ a.room
    (not_that _ _ _ a.handable (not_that _ _ _ a.fresh refl)))))))) in
    ap (λ o. refused_or o (reply_of t past w act)) none ∙ ap Ok is

-- WHILE NO CALL IS PENDING

abbrev pub numbers_of : List Entry → SequentialState
numbers_of past = record {
  events = λ e. total e past;
  sequencers = λ q. issued q past;
  cells = λ x. cell_value x past;
}

abbrev pub advances_by : Tables → ℕ → ℕ → Call → Bool
advances_by t e w c = is_advance e (act_of_call t c) && (c.worker == w)

abbrev pub draws : Tables → ℕ → Call → Bool
draws t q c = is_ticket q (act_of_call t c)

-- the counts after the history so far: the objects have the numbers n, no right was handed over,
-- and the limit leaves room for the calls that are left
pub record HasRoom (t : Tables) (past : List Entry) (n : ℕ → ℕ → ℕ) (left : List Call) : Type 0
  where
    pub still : (e : ℕ) → signallers_at t e past ≡ signallers t e
    pub agrees : Agrees t (numbers_of past) n
    pub advances : (e w c : ℕ) → component_of t e w ≡ Some c
        → component_total t e c past + count_by (advances_by t e w) left ≤ t.limit
    pub tickets : (q : ℕ) → issued q past + count_by (draws t q) left ≤ t.limit

pub record IsClear (t : Tables) (past : List Entry) (n : ℕ → ℕ → ℕ) (left : List Call) : Type 0
  where
    pub accepted : IsAccepted t past
    pub free : (w : ℕ) → under_way w past ≡ None
    pub room : HasRoom t past n left

-- the call c was made after the history so far
pub record IsPlayed (t : Tables) (past : List Entry) (c : Call) (n : ℕ → ℕ → ℕ)
    (left : List Call) : Type 0 where
  pub late : List Entry
  pub clear : IsClear t late n left
  pub made : FinishedCall
  pub finished : finished_calls t late ≡ finished_calls t past ++ made ∷ []
  pub is : IsMadeAs t made c
  pub first : made.first ≡ length past
  pub rises : made.first ≤ made.last
  pub last : made.last + 1 ≡ length late

-- the rights after a history without hands are the declared ones
pub right_kept : (t : Tables) (past : List Entry) (w : ℕ) (act : Act)
    → ((e : ℕ) → signallers_at t e past ≡ signallers t e)
    → has_right t past w act ≡ has_right t [] w act
unfolding signallers_at
right_kept t past w (acts.Advance e) still = ap (λ ws. is_some (index_of w ws)) (still e)
right_kept t past w (acts.Hand e b) still = ap (λ ws. is_some (index_of w ws)) (still e)
right_kept t past w act still = refl

module _ (t : Tables) where
  -- the first act of a call is allowed
  pub allowed_first : (past : List Entry) (w : ℕ) (act : Act) → w < t.workers
      → under_way w past ≡ None → ((e : ℕ) → signallers_at t e past ≡ signallers t e)
      → is_go act ≡ false → names_unknown_object t act ≡ false → has_right t [] w act ≡ true
      → is_too_large act ≡ false → is_at_limit t past w act ≡ false
      → is_not_handable t act ≡ false → signals_already t past act ≡ false
      → IsAllowed t past w act
  allowed_first past w act lt free still go known right small room handable fresh = record {
    declared = lt-leb t.workers w lt;
    free = ap (λ o. is_some o && not (is_go act)) free;
    going = ap (λ o. not (is_some o) && is_go act) free ∙ go;
    known = known;
    right = ap not (right_kept t past w act still ∙ right);
    small = small;
    room = room;
    handable = handable;
    fresh = fresh;
  }

  none_both : (b : Bool) → cond {A = Option CallSoFar} b None None ≡ None
  none_both true = refl
  none_both false = refl

  -- a call of one entry
  pub played_once : (past : List Entry) (c : Call) (n m : ℕ → ℕ → ℕ) (left : List Call) (act : Act)
      (given : StepReply) → IsClear t past n (c ∷ left) → act ≡ act_of_call t c
      → IsAllowed t past c.worker act → reply_of t past c.worker act ≡ given
      → is_pending given ≡ false
      → call_with_act act past (under_way c.worker past)
      ≡ Some (record { op = act; moments = past ∷ [] })
      → IsReplyOf c.op c.reply given → HasRoom t (entry c.worker act given ∷ past) m left
      → IsPlayed t past c m left
  unfolding finished_calls
  played_once past c n m left act given clear is allowed right final gone as_reply room =
      let x = entry c.worker act given in
      let made = call_of_entries t x act (past ∷ []) in
      record {
        late = x ∷ past;
        clear = record {
          accepted = (answered t past c.worker act given allowed right, clear.accepted);
          free = λ v. way_next v c.worker act given past
              ∙ ap (λ b. cond (c.worker == v)
              (cond b (call_with_act act past (under_way c.worker past)) None) (under_way v past)) final
              ∙ ap (λ o. cond (c.worker == v) None o) (clear.free v) ∙ none_both (c.worker == v);
          room = room;
        };
        made = made;
        finished = ap (λ o. finished_calls t past ++ ended_by t x o) gone
            ∙ ap (λ b. finished_calls t past ++ cond b [] (made ∷ [])) final;
        is = record { worker = refl; act = is; reply = as_reply };
        first = refl;
        rises = omega arith;
        last = omega arith;
      }

  -- THE NUMBERS AFTER THE CALL

  pub agrees_same : (s r : SequentialState) (n : ℕ → ℕ → ℕ) → ((e : ℕ) → s.events e ≡ r.events e)
      → ((q : ℕ) → s.sequencers q ≡ r.sequencers q) → ((x : ℕ) → s.cells x ≡ r.cells x)
      → Agrees t s n → Agrees t r n
  agrees_same s r n e q x h = record {
    events = λ i lt. h.events i lt ∙ e i;
    sequencers = λ i lt. h.sequencers i lt ∙ q i;
    cells = λ i lt. h.cells i lt ∙ x i;
  }

  pub one_next : (i j : ℕ) (g : ℕ → ℕ) → update_at g i (g i + 1) j ≡ cond (i == j) 1 0 + g j
  one_next i j g =
      elim (i == j) as (λ b. (i == j) ≡ b → cond b (g i + 1) (g j) ≡ cond b 1 0 + g j) [
        | true ↦ λ e. (let same : g i ≡ g j = ap g (eqb-true i j e) in omega arith)
        | false ↦ λ e. omega arith
      ] refl

  -- no two workers have the same index
  pub same_place : (ws : List ℕ) (w v c : ℕ) → index_of w ws ≡ Some c → index_of v ws ≡ Some c
      → w ≡ v
  same_place ws w v c a b =
      let x = found_there w 0 c ws a in
      let y = found_there v 0 c ws b in
      let one : x.0 ≡ c = (let e : c ≡ 0 + x.0 = x.1 in omega arith) in
      let two : y.0 ≡ c = (let e : c ≡ 0 + y.0 = y.1 in omega arith) in
      some_same w v (sym x.2 ∙ ap (λ i. slice_get ws i) (one ∙ sym two) ∙ y.2)
    where
      some_same : (a b : ℕ) → Some a ≡ Some b → a ≡ b
      some_same a b h = cc
