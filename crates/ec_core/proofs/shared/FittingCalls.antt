-- A history conforms exactly if each worker's completed calls fit, one after another, and so does
-- its pending call.
use Rattle.std.proofs.Common.{◌≡◌, ℕ, Bool, true, false, not, ◌&&◌, ◌||◌, List, [], ◌∷◌, ◌++◌, Option, Some, None, is_some, refl, ap, sym, ◌∙◌, subst, cond, ◌==◌, ◌⊎◌, inl, inr}
use Rattle.std.proofs.lemmas.Bool.{eqb-true, eq-eqb}
use Rattle.ec_count.specs.Tables.{Tables, IsDeclared}
use Rattle.ec_core.specs.declared.act.Act.{Act}
use Rattle.ec_core.specs.declared.act.Act.TheVariants.{Advance, Read, Await, Go, Ticket, Put, Get, Hand}
use Rattle.ec_core.specs.declared.act.Reply.{Reply}
use Rattle.ec_core.specs.declared.act.Reply.TheVariants.{Done, Number, Pending}
use Rattle.ec_core.specs.declared.act.Entry.{Entry}
use Rattle.ec_core.specs.Calls.{CallSoFar, under_way, call_with_act, is_pending, is_go}
use Rattle.ec_core.specs.Acceptance.{IsAccepted}
use Rattle.ec_core.specs.Following.{CompletedCall, Rule, opening_act, extend_list, block_after, block, is_right, Follow}
use Rattle.ec_core.specs.JoinedLists.{completed_calls_of}
use Rattle.ec_core.proofs.shared.Answering.{allowed, call_reads, IsReading, IsReadingCall}
use Rattle.ec_core.proofs.shared.Following.{step_due, pending_after, op_at, other_block, own_block, right_call, IsRightCall}
use Rattle.ec_core.proofs.shared.Scans.{call_own, call_other}

-- CALLS ONE AFTER ANOTHER

-- the call is next in the list, or does not concern it
abbrev pub is_fitting : Rule → List CompletedCall → Act → Bool
is_fitting r b op = not (r.concerns b op) || r.fits b op

-- the part of its list that a worker has completed after these calls, given the part before them
abbrev pub list_after : Rule → List CompletedCall → List CompletedCall → List CompletedCall
list_after r b [] = b
list_after r b (c ∷ cs) = list_after r (extend_list r b c) cs

-- each call fits at its position
abbrev pub AreFitting : Rule → List CompletedCall → List CompletedCall → Type 0
AreFitting r b [] = Unit {0}
AreFitting r b (c ∷ cs) = (is_fitting r b c.op ≡ true) × AreFitting r (extend_list r b c) cs

-- the list after some calls and then others is that after the others, begun with what the first
-- leave
pub after_more : (r : Rule) (b xs ys : List CompletedCall) → list_after r b (xs ++ ys) ≡ list_after r (list_after r b xs) ys
after_more r b [] ys = refl
after_more r b (c ∷ xs) ys = after_more r (extend_list r b c) xs ys

-- calls that fit, and then calls that fit after them, fit as one list
pub fitting_more : (r : Rule) (b xs ys : List CompletedCall) → AreFitting r b xs → AreFitting r (list_after r b xs) ys → AreFitting r b (xs ++ ys)
fitting_more r b [] ys f g = g
fitting_more r b (c ∷ xs) ys f g = (f.0, fitting_more r (extend_list r b c) xs ys f.1 g)

pub fitting_front : (r : Rule) (b xs ys : List CompletedCall) → AreFitting r b (xs ++ ys)
    → AreFitting r b xs
fitting_front r b [] ys f = tt
fitting_front r b (c ∷ xs) ys f = (f.0, fitting_front r (extend_list r b c) xs ys f.1)

pub fitting_back : (r : Rule) (b xs ys : List CompletedCall) → AreFitting r b (xs ++ ys) → AreFitting r (list_after r b xs) ys
fitting_back r b [] ys f = f
fitting_back r b (c ∷ xs) ys f = fitting_back r (extend_list r b c) xs ys f.1

-- COMPLETED CALLS

-- an entry's call, as a completed one: the act that began it and the reply
abbrev pub told_at : Entry → List Entry → CompletedCall
told_at x past = record { op = op_at x past; reply = x.reply }

-- an entry leaves the completed calls of other workers as they are
pub finished_other : (w : ℕ) (x : Entry) (past : List Entry) → (x.worker == w) ≡ false → completed_calls_of w (x ∷ past) ≡ completed_calls_of w past
unfolding completed_calls_of
finished_other w x past h = rw h refl

-- an entry with the reply Pending leaves its worker's completed calls as they are
pub finished_same : (x : Entry) (past : List Entry) → is_pending x.reply ≡ true → completed_calls_of x.worker (x ∷ past) ≡ completed_calls_of x.worker past
unfolding completed_calls_of
finished_same x past h = rw (eq-eqb x.worker x.worker refl, h) refl

-- an entry with another reply adds its call to its worker's completed calls
pub finished_more : (x : Entry) (past : List Entry) → is_pending x.reply ≡ false → completed_calls_of x.worker (x ∷ past) ≡ completed_calls_of x.worker past ++ told_at x past ∷ []
unfolding completed_calls_of
finished_more x past h = rw (eq-eqb x.worker x.worker refl, h) refl

after_end : (r : Rule) (b : List CompletedCall) (op : Act) (reply : Reply) → is_pending reply ≡ false → block_after r b op reply ≡ extend_list r b (record { op = op; reply = reply })
after_end r b op Pending h = cc
after_end r b op Done h = refl
after_end r b op (Number n) h = refl

abbrev IsBlock : Rule → ℕ → List Entry → Type 0
IsBlock r w past = block r w past ≡ list_after r [] (completed_calls_of w past)

own_is : (r : Rule) (x : Entry) (past : List Entry) → IsBlock r x.worker past → IsBlock r x.worker (x ∷ past)
own_is r x past h =
    let w = x.worker in
    elim (is_pending x.reply) as (λ p. is_pending x.reply ≡ p → IsBlock r x.worker (x ∷ past)) [
      | true ↦ λ e. own_block r x past ∙ pending_after r (block r w past) (op_at x past) x.reply e ∙ h ∙ ap (list_after r []) (sym (finished_same x past e))
      | false ↦ λ e. own_block r x past ∙ after_end r (block r w past) (op_at x past) x.reply e ∙ ap (λ b. extend_list r b (told_at x past)) h
          ∙ sym (after_more r [] (completed_calls_of w past) (told_at x past ∷ [])) ∙ ap (list_after r []) (sym (finished_more x past e))
    ] refl

-- a worker's current list is that after its completed calls
pub block_is : (r : Rule) (w : ℕ) (past : List Entry) → block r w past ≡ list_after r [] (completed_calls_of w past)
unfolding block completed_calls_of
block_is r w [] = refl
block_is r w (x ∷ past) =
    elim (x.worker == w) as (λ b. (x.worker == w) ≡ b → IsBlock r w (x ∷ past)) [
      | true ↦ λ e.
          (let P : ℕ → Type 0 = λ v. IsBlock r v past → IsBlock r v (x ∷ past) in
          subst P (eqb-true x.worker w e) (own_is r x past) (block_is r w past))
      | false ↦ λ e. other_block r w x past e ∙ block_is r w past ∙ ap (list_after r []) (sym (finished_other w x past e))
    ] refl

-- THE PENDING CALL

-- a call, if there is one, is next in the list, or does not concern it
abbrev pub IsFittingCall : Rule → List CompletedCall → Option CallSoFar → Type 0
IsFittingCall r b None = Unit {0}
IsFittingCall r b (Some call) = is_fitting r b call.op ≡ true

-- a worker's completed calls fit, and so does its pending call
pub record FitsAlone (r : Rule) (w : ℕ) (past : List Entry) : Type 0 where
  pub calls : AreFitting r [] (completed_calls_of w past)
  pub going : IsFittingCall r (block r w past) (under_way w past)

-- FROM CONFORMANCE

due_fits : (c f : Bool) → (c ≡ false) ⊎ ((c ≡ true) × (f ≡ true)) → (not c || f) ≡ true
due_fits true f (inl h) = cc
due_fits true f (inr h) = h.1
due_fits false f h = refl

own_fits : (rules : ℕ → Rule) (t : Tables) (x : Entry) (past : List Entry) → IsDeclared t → IsAccepted t (x ∷ past) → Follow rules (x ∷ past)
    → AreFitting (rules x.worker) [] (completed_calls_of x.worker past) → AreFitting (rules x.worker) [] (completed_calls_of x.worker (x ∷ past))
own_fits rules t x past d acc f h =
    let r = rules x.worker in
    let w = x.worker in
    let P : List CompletedCall → Type 0 = λ cs. AreFitting (rules x.worker) [] cs in
    elim (is_pending x.reply) as (λ p. is_pending x.reply ≡ p → AreFitting (rules x.worker) [] (completed_calls_of x.worker (x ∷ past))) [
      | true ↦ λ e. subst P (sym (finished_same x past e)) h
      | false ↦ λ e.
          (let fits : is_fitting r (block r w past) (op_at x past) ≡ true = due_fits _ _ (step_due t rules x past d acc f) in
          let Q : List CompletedCall → Type 0 =
          λ b. is_fitting (rules x.worker) b (op_at x past) ≡ true in
          subst P (sym (finished_more x past e)) (fitting_more r [] (completed_calls_of w past) (told_at x past ∷ []) h (subst Q (block_is r w past) fits, tt)))
    ] refl

calls_fit : (rules : ℕ → Rule) (t : Tables) (past : List Entry) (w : ℕ) → IsDeclared t → IsAccepted t past → Follow rules past → AreFitting (rules w) [] (completed_calls_of w past)
unfolding completed_calls_of
calls_fit rules t [] w d acc f = tt
calls_fit rules t (x ∷ past) w d acc f =
    elim (x.worker == w) as (λ b. (x.worker == w) ≡ b → AreFitting (rules w) [] (completed_calls_of w (x ∷ past))) [
      | true ↦ λ e.
          (let P : ℕ → Type 0 = λ v. AreFitting (rules v) [] (completed_calls_of v past) → AreFitting (rules v) [] (completed_calls_of v (x ∷ past)) in
          subst P (eqb-true x.worker w e) (own_fits rules t x past d acc f) (calls_fit rules t past w d acc.1 f.1))
      | false ↦ λ e. subst (AreFitting (rules w) []) (sym (finished_other w x past e)) (calls_fit rules t past w d acc.1 f.1)
    ] refl

fitting_act : (t : Tables) (r : Rule) (b : List CompletedCall) (op : Act) → IsReading t op → is_right r b op ≡ true → is_fitting r b op ≡ true
fitting_act t r b Go reading h = absurd reading
fitting_act t r b (Advance e) reading h = h
fitting_act t r b (Read e) reading h = h
fitting_act t r b (Await e v) reading h = h
fitting_act t r b (Ticket q) reading h = h
fitting_act t r b (Put x v) reading h = h
fitting_act t r b (Get x) reading h = h
fitting_act t r b (Hand e f) reading h = h

fitting_call : (t : Tables) (r : Rule) (b : List CompletedCall) (o : Option CallSoFar) → IsReadingCall t o → IsRightCall r b o → IsFittingCall r b o
fitting_call t r b None reading h = tt
fitting_call t r b (Some call) reading h = fitting_act t r b call.op reading h

pub fits_alone : (rules : ℕ → Rule) (t : Tables) (past : List Entry) → IsDeclared t → IsAccepted t past → Follow rules past → (w : ℕ) → FitsAlone (rules w) w past
fits_alone rules t past d acc f w = record {
  calls = calls_fit rules t past w d acc f;
  going = fitting_call t (rules w) (block (rules w) w past) (under_way w past) (call_reads t past w acc) (right_call rules past w f);
}

-- AND BACK

gone_fits : (r : Rule) (b : List CompletedCall) (act : Act) (past : List Entry) (o : Option CallSoFar) → (not (is_some o) && is_go act) ≡ false
    → IsFittingCall r b (call_with_act act past o) → is_fitting r b (opening_act act o) ≡ true
gone_fits r b Go past None going h = cc
gone_fits r b Go past (Some call) going h = h
gone_fits r b (Advance e) past o going h = h
gone_fits r b (Read e) past o going h = h
gone_fits r b (Await e v) past o going h = h
gone_fits r b (Ticket q) past o going h = h
gone_fits r b (Put x v) past o going h = h
gone_fits r b (Get x) past o going h = h
gone_fits r b (Hand e f) past o going h = h

fits_before : (r : Rule) (b : List CompletedCall) (act : Act) (o : Option CallSoFar) → (is_some o && not (is_go act)) ≡ false → is_fitting r b (opening_act act o) ≡ true → IsFittingCall r b o
fits_before r b act None free h = tt
fits_before r b Go (Some call) free h = h
fits_before r b (Advance e) (Some call) free h = cc
fits_before r b (Read e) (Some call) free h = cc
fits_before r b (Await e v) (Some call) free h = cc
fits_before r b (Ticket q) (Some call) free h = cc
fits_before r b (Put x v) (Some call) free h = cc
fits_before r b (Get x) (Some call) free h = cc
fits_before r b (Hand e f) (Some call) free h = cc

right_act : (r : Rule) (b : List CompletedCall) (act : Act) (o : Option CallSoFar) → is_fitting r b (opening_act act o) ≡ true → is_right r b act ≡ true
right_act r b Go o h = refl
right_act r b (Advance e) o h = h
right_act r b (Read e) o h = h
right_act r b (Await e v) o h = h
right_act r b (Ticket q) o h = h
right_act r b (Put x v) o h = h
right_act r b (Get x) o h = h
right_act r b (Hand e f) o h = h

-- what fits after an entry of the worker: its calls before, and the call of the entry
pub record FitsWith (r : Rule) (x : Entry) (past : List Entry) : Type 0 where
  pub calls : AreFitting r [] (completed_calls_of x.worker past)
  pub op : is_fitting r (block r x.worker past) (op_at x past) ≡ true

fits_with : (r : Rule) (t : Tables) (x : Entry) (past : List Entry) → IsAccepted t (x ∷ past) → FitsAlone r x.worker (x ∷ past) → FitsWith r x past
fits_with r t x past acc f =
    let w = x.worker in
    let o = under_way x.worker past in
    let P : List CompletedCall → Type 0 = λ cs. AreFitting r [] cs in
    let Q : List CompletedCall → Type 0 = λ b. is_fitting r b (op_at x past) ≡ true in
    elim (is_pending x.reply) as (λ p. is_pending x.reply ≡ p → FitsWith r x past) [
      | true ↦ λ e.
          (let here : block r w (x ∷ past) ≡ block r w past = own_block r x past ∙ pending_after r (block r w past) (op_at x past) x.reply e in
          let call : under_way w (x ∷ past) ≡ call_with_act x.act past o = call_own x past ∙ ap (λ p. cond p (call_with_act x.act past o) None) e in
          let R : Option CallSoFar → Type 0 = λ c. IsFittingCall r (block r x.worker (x ∷ past)) c in
          let going = (allowed t past w x.act x.reply acc.0).0.going in
          record {
            calls = subst P (finished_same x past e) f.calls;
            op = subst Q here (gone_fits r (block r w (x ∷ past)) x.act past o going (subst R call f.going));
          })
      | false ↦ λ e.
          (let all : AreFitting r [] (completed_calls_of w past ++ told_at x past ∷ []) = subst P (finished_more x past e) f.calls in
          record {
            calls = fitting_front r [] (completed_calls_of w past) (told_at x past ∷ []) all;
            op = subst Q (sym (block_is r w past)) (fitting_back r [] (completed_calls_of w past) (told_at x past ∷ []) all).0;
          })
    ] refl

own_before : (r : Rule) (t : Tables) (x : Entry) (past : List Entry) → IsAccepted t (x ∷ past) → FitsAlone r x.worker (x ∷ past) → FitsAlone r x.worker past
own_before r t x past acc f =
    let k = fits_with r t x past acc f in
    record {
      calls = k.calls;
      going = fits_before r (block r x.worker past) x.act (under_way x.worker past) (allowed t past x.worker x.act x.reply acc.0).0.free k.op;
    }

other_before : (r : Rule) (w : ℕ) (x : Entry) (past : List Entry) → (x.worker == w) ≡ false → FitsAlone r w (x ∷ past) → FitsAlone r w past
other_before r w x past e f =
    let P : List CompletedCall → Option CallSoFar → Type 0 = λ b o. IsFittingCall r b o in
    let R : List CompletedCall → Type 0 = λ b. IsFittingCall r b (under_way w (x ∷ past)) in
    let Q : Option CallSoFar → Type 0 = λ o. IsFittingCall r (block r w past) o in
    record {
      calls = subst (AreFitting r []) (finished_other w x past e) f.calls;
      going = subst Q (call_other w x past e) (subst R (other_block r w x past e) f.going);
    }

all_before : (rules : ℕ → Rule) (t : Tables) (x : Entry) (past : List Entry) → IsAccepted t (x ∷ past) → ((w : ℕ) → FitsAlone (rules w) w (x ∷ past)) → (w : ℕ) → FitsAlone (rules w) w past
all_before rules t x past acc f w =
    elim (x.worker == w) as (λ b. (x.worker == w) ≡ b → FitsAlone (rules w) w past) [
      | true ↦ λ e. (let P : ℕ → Type 0 = λ v. FitsAlone (rules v) v past in subst P (eqb-true x.worker w e) (own_before (rules x.worker) t x past acc (f x.worker)))
      | false ↦ λ e. other_before (rules w) w x past e (f w)
    ] refl

-- an accepted history conforms if the calls of each worker fit
pub follow_alone : (rules : ℕ → Rule) (t : Tables) (past : List Entry) → IsAccepted t past → ((w : ℕ) → FitsAlone (rules w) w past) → Follow rules past
follow_alone rules t [] acc f = tt
follow_alone rules t (x ∷ past) acc f = (
  right_act (rules x.worker) (block (rules x.worker) x.worker past) x.act (under_way x.worker past) (fits_with (rules x.worker) t x past acc (f x.worker)).op,
  follow_alone rules t past acc.1 (all_before rules t x past acc f),
)
