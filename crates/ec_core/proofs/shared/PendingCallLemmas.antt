-- A pass over the entries of a history stores its pending calls.
use Rattle.std.proofs.Common.{◌≡◌, ℕ, suc, ◌+◌, ◌-◌, ◌%◌, ◌<◌, Bool, true, false, List, [], ◌∷◌, length, Option, Some, None, refl, ap, sym, ◌∙◌, arith, cond, ◌==◌, nat_le, slice_get, slice_set, add-one}
use Rattle.std.specs.Option.{option_map, option_map_or}
use Rattle.std.proofs.lemmas.Bool.{eqb-true}
use Rattle.std.proofs.Math.Nat.{zero-mod}
use Rattle.ec_count.specs.Tables.{Tables, IsDeclared}
use Rattle.ec_core.specs.declared.act.Act.{Act}
use Rattle.ec_core.specs.declared.act.Act.TheVariants.{Advance, Read, Await, Go, Ticket, Put, Get, Hand}
use Rattle.ec_core.specs.declared.act.Entry.{Entry}
use Rattle.ec_core.specs.declared.pending_calls.PendingCall.{PendingCall}
use Rattle.ec_core.specs.Acceptance.{IsAccepted}
use Rattle.ec_core.specs.Calls.{CallSoFar, under_way, call_with_act, call_with, is_pending}
use Rattle.ec_core.specs.Following.{opening_act}
use Rattle.ec_core.specs.PendingCalls.{call_after_act, call_after_reply, pending_call, AreCalls, Takes}
use Rattle.ec_core.specs.Rounds.{event_or, component_count, position_of}
use Rattle.ec_core.proofs.shared.Answering.{IsReadingCall, call_reads, reading_event, width_some, mod_next}
use Rattle.ec_core.proofs.shared.Scans.{set_is, call_own, call_other}

-- A CALL HAS AN ENTRY

-- the newest of a call's moments is that of its latest entry
abbrev pub IsGone : List Entry → Option CallSoFar → Type 0
IsGone past None = Unit {0}
IsGone past (Some call) = (rest : List (List Entry)) × (call.moments ≡ past ∷ rest)

pub gone_newest : (act : Act) (past : List Entry) (o : Option CallSoFar) → IsGone past (call_with_act act past o)
gone_newest Go past None = tt
gone_newest Go past (Some call) = (call.moments, refl)
gone_newest act past o = ([], refl)

abbrev HasMoment : Option CallSoFar → Type 0
HasMoment None = Unit {0}
HasMoment (Some call) = (l : ℕ) × (length call.moments ≡ suc l)

gone_moment : (past : List Entry) (o : Option CallSoFar) (b : Bool) → IsGone past o → HasMoment (cond b o None)
gone_moment past o false h = tt
gone_moment past None true h = tt
gone_moment past (Some call) true h = (length h.0, ap length h.1)

call_moment : (w : ℕ) (past : List Entry) → HasMoment (under_way w past)
unfolding under_way
call_moment w [] = tt
call_moment w (x ∷ past) =
    elim (x.worker == w) as (λ b. HasMoment (cond b (cond (is_pending x.reply) (call_with_act x.act past (under_way w past)) None) (under_way w past))) [
      | true ↦ gone_moment past (call_with_act x.act past (under_way w past)) (is_pending x.reply) (gone_newest x.act past (under_way w past))
      | false ↦ call_moment w past
    ]

-- ONE MORE ENTRY

abbrev going : Act → ℕ → ℕ → ℕ → PendingCall
going op f r c = record { op = op; first = f; round = r; index = c }

going_same : (op : Act) (f r c f' r' c' : ℕ) → f ≡ f' → r ≡ r' → c ≡ c' → going op f r c ≡ going op f' r' c'
going_same op f r c f' r' c' a b d = ap (λ x. going op x r c) a ∙ ap (λ y. going op f' y c) b ∙ ap (λ z. going op f' r' z) d

go_round : (op : Act) (past : List Entry) (ms : List (List Entry)) (f n l : ℕ) → 0 < n
    → cond (nat_le n (l % n + 1)) (going op f (length past) 0) (going op f (position_of ms (l % n)) (l % n + 1)) ≡ going op f (position_of (past ∷ ms) (suc l % n)) (suc l % n)
go_round op past ms f n l some =
    rw (mod_next n l some)
    (elim (nat_le n (l % n + 1)) as (λ b. cond b (going op f (length past) 0) (going op f (position_of ms (l % n)) (l % n + 1)) ≡ going op f (position_of (past ∷ ms) (cond b 0 (l % n + 1))) (cond b 0 (l % n + 1))) [
      | true ↦ refl
      | false ↦ rw add-one refl
    ])

went_go : (t : Tables) (past : List Entry) (op : Act) (ms : List (List Entry)) (l : ℕ) → length ms ≡ suc l → 0 < component_count t (event_or op)
    → call_after_act t Go (Some (pending_call t (record { op = op; moments = ms }))) (length past) ≡ Some (pending_call t (record { op = op; moments = past ∷ ms }))
went_go t past op ms l long some =
    let n = component_count t (event_or op) in
    let less : length ms - 1 ≡ l = omega arith in
    let all : suc (length ms) - 1 ≡ suc l = omega arith in
    ap Some (ap (λ k. cond (nat_le n (k % n + 1)) (going op (position_of ms k) (length past) 0) (going op (position_of ms k) (position_of ms (k % n)) (k % n + 1))) less
    ∙ go_round op past ms (position_of ms l) n l some
    ∙ ap (λ k. going op (position_of (past ∷ ms) k) (position_of (past ∷ ms) (k % n)) (k % n)) (sym all))

went_first : (t : Tables) (past : List Entry) (op : Act) → going op (length past) (length past) 0 ≡ pending_call t (record { op = op; moments = past ∷ [] })
went_first t past op =
    going_same op (length past) (length past) 0 (length past) (position_of (past ∷ []) (0 % component_count t (event_or op))) (0 % component_count t (event_or op)) refl
    (sym (ap (position_of (past ∷ [])) (zero-mod (component_count t (event_or op))))) (sym (zero-mod (component_count t (event_or op))))

went_is : (t : Tables) (past : List Entry) (act : Act) (o : Option CallSoFar) → IsDeclared t → HasMoment o → IsReadingCall t o
    → call_after_act t act (option_map (pending_call t) o) (length past) ≡ option_map (pending_call t) (call_with_act act past o)
went_is t past Go None d h r = refl
went_is t past Go (Some call) d h r = went_go t past call.op call.moments h.0 h.1 (width_some t (event_or call.op) d (reading_event t call.op r))
went_is t past act o d h r = ap Some (went_first t past act)

left_is : (t : Tables) (b : Bool) (o : Option CallSoFar) → cond b (option_map (pending_call t) o) None ≡ option_map (pending_call t) (cond b o None)
left_is t true o = refl
left_is t false o = refl

-- one more entry, in the words of the code
pub takes : (t : Tables) (calls : List (Option PendingCall)) (past : List Entry) (x : Entry) (i place : ℕ) (call after : Option PendingCall) → IsDeclared t → IsAccepted t past → place ≡ length past
    → AreCalls t calls past → i ≡ x.worker → i < 16 → ((was : Option PendingCall) → slice_get calls i ≡ Some was → call ≡ call_after_act t x.act was place) → after ≡ call_after_reply x.reply call
    → Takes t past x call (slice_set calls i after)
takes t calls past x i place call after d acc here s at small went is =
    let own : slice_get calls i ≡ Some (option_map (pending_call t) (under_way x.worker past)) = ap (slice_get calls) at ∙ s x.worker (omega arith) in
    let given : call ≡ option_map (pending_call t) (call_with x past) =
    went (option_map (pending_call t) (under_way x.worker past)) own ∙ ap (call_after_act t x.act (option_map (pending_call t) (under_way x.worker past))) here
    ∙ went_is t past x.act (under_way x.worker past) d (call_moment x.worker past) (call_reads t past x.worker acc) in
    let now : after ≡ option_map (pending_call t) (under_way x.worker (x ∷ past)) =
    is ∙ ap (call_after_reply x.reply) given ∙ left_is t (is_pending x.reply) (call_with x past) ∙ ap (option_map (pending_call t)) (sym (call_own x past)) in
    record {
      call = given;
      after = λ w lt. set_is calls i w _ (option_map (pending_call t) (under_way w past)) (option_map (pending_call t) (under_way w (x ∷ past))) own (s w lt) after
          (λ e. now ∙ ap (λ v. option_map (pending_call t) (under_way v (x ∷ past))) (sym at ∙ eqb-true i w e))
          (λ e. ap (option_map (pending_call t)) (sym (call_other w x past (ap (λ v. v == w) (sym at) ∙ e))));
    }

-- the same, as the pass has it
abbrev pub Taking : List (Option PendingCall) → ℕ → Entry → Option PendingCall → List (Option PendingCall) → Tables → Type 0
Taking calls place x given after t = (past : List Entry) → IsAccepted t past → place ≡ length past → AreCalls t calls past → Takes t past x given after

-- the act that began the call
pub opened_is : (t : Tables) (act : Act) (past : List Entry) (o : Option CallSoFar)
    → option_map_or (λ (c : PendingCall). c.op) (option_map (pending_call t) (call_with_act act past o)) Go ≡ opening_act act o
opened_is t Go past None = refl
opened_is t Go past (Some call) = refl
opened_is t (Advance e) past o = refl
opened_is t (Read e) past o = refl
opened_is t (Await e v) past o = refl
opened_is t (Ticket q) past o = refl
opened_is t (Put x v) past o = refl
opened_is t (Get x) past o = refl
opened_is t (Hand e f) past o = refl
