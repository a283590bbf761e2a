-- What a round has found, with one more entry.
use Rattle.std.proofs.Common.{◌≡◌, ℕ, zero, suc, ◌+◌, ◌%◌, ◌<◌, ◌≤◌, Bool, true, false, ◌==◌, List, []}
use Rattle.std.proofs.Common.{◌∷◌, ◌++◌, length, Option, Some, None, refl, ap, sym, ◌∙◌, arith}
use Rattle.std.proofs.Common.{cond, subst, nat_le, take, take_all, slice_get, length-append}
use Rattle.std.specs.Prelude.{option_map, OnOk, Result, Ok, Err}
use Rattle.std.specs.Option.{option_map_or}
use Rattle.std.proofs.Math.Nat.{mod-zero, zero-mod}
use Rattle.ec_count.specs.Tables.{Tables}
use Rattle.ec_core.specs.declared.act.Act.{Act}
use Rattle.ec_core.specs.declared.act.Act.TheVariants.{Advance, Read, Await, Go, Ticket, Put, Get}
use Rattle.ec_core.specs.declared.act.Act.TheVariants.{Hand}
use Rattle.ec_core.specs.declared.act.Entry.{Entry}
use Rattle.ec_core.specs.Calls.{CallSoFar, under_way, call_with_act, is_pending}
use Rattle.ec_core.specs.Rounds.{event_or, next_component, component_count}
use Rattle.std.proofs.lemmas.List.{length-reverse, length-take-le}
use Rattle.std.proofs.lemmas.Option.{slice_get_within}
use Rattle.ec_core.specs.Counts.{past_at}
use Rattle.ec_core.specs.Standing.{State, Represents, StandsFor}
use Rattle.ec_core.proofs.shared.Answering.{mod_next}
use Rattle.ec_core.proofs.shared.Moments.{past_next}
use Rattle.ec_core.proofs.shared.Stepping.{past_after}
use Rattle.ec_explain.specs.declared.round.Look.{Look}
use Rattle.ec_explain.specs.Rounds.{look_at, looks_in, looks_of, looks_through, looks_with, look_of}
use Rattle.ec_explain.specs.Rounds.{components_read, next_look, looks_after, KeepsRound}

-- COUNTING MODULO THE COMPONENTS

below_next : (b : Bool) (m c : ℕ) → cond b 0 (m + 1) ≡ suc c → m ≡ c
below_next true m c e = absurd (omega arith)
below_next false m c e = omega arith

next_is : (n k c : ℕ) → suc k % n ≡ suc c → k % n ≡ c
next_is zero k c e =
    let same : suc k ≡ suc c = sym (mod-zero (suc k)) ∙ e in
    let less : k ≡ c = omega arith in
    mod-zero k ∙ less
next_is (suc n) k c e =
    below_next (nat_le (suc n) (k % suc n + 1)) (k % suc n) c
    (sym (mod_next (suc n) k (omega arith)) ∙ e)

-- WHAT A ROUND HAS FOUND

few_looks : (t : Tables) (e n : ℕ) (moments : List (List Entry))
    → length (looks_in t e n moments) ≤ n
unfolding looks_in
few_looks t e zero moments = omega arith
few_looks t e (suc n) [] = omega arith
few_looks t e (suc n) (past ∷ moments) =
    let before = looks_in t e n moments in
    omega (arith, few_looks t e n moments, length-append before (look_at t e n past ∷ []))

-- one more component was read, and m are read then: that one too, or none of the next round
more : (t : Tables) (e : ℕ) (past : List Entry) (moments : List (List Entry)) (m : ℕ)
    → ((c : ℕ) → m ≡ suc c → next_component t e moments ≡ c)
    → take m (looks_in t e (suc (next_component t e moments)) (past ∷ moments))
    ≡ looks_in t e m (past ∷ moments)
unfolding looks_in
more t e past moments zero is = refl
more t e past moments (suc c) is =
    let looks = looks_in t e c moments ++ look_at t e c past ∷ [] in
    ap (λ k. take (suc c) (looks_in t e k moments ++ look_at t e k past ∷ [])) (is c refl)
    ∙ take_all (suc c) looks (few_looks t e (suc c) (past ∷ moments))

-- these looks begin with what the round of a call has found
abbrev Keeps : Tables → Option CallSoFar → List Look → Type 0
Keeps t o looks =
    take (option_map_or (components_read t) o 0) looks ≡ option_map_or (looks_of t) o []

-- AN ACT OF THE WORKER

through : (t : Tables) (op : Act) (past : List Entry) (moments : List (List Entry))
    → Keeps t (Some (record { op = op; moments = past ∷ moments }))
    (looks_through t op past moments)
through t op past moments =
    let e = event_or op in
    more t e past moments (next_component t e (past ∷ moments))
    (next_is (component_count t e) (length moments))

going : (t : Tables) (past : List Entry) (o : Option CallSoFar) → Keeps t (call_with_act Go past o)
    (option_map_or (λ (call : CallSoFar). looks_through t call.op past call.moments) o [])
going t past None = refl
going t past (Some call) = through t call.op past call.moments

-- the call after an act that may leave it pending
abbrev after : Act → List Entry → Option CallSoFar → Bool → Option CallSoFar
after act past o pending = cond pending (call_with_act act past o) None

step : (t : Tables) (w : ℕ) (past : List Entry) (act : Act) (pending : Bool)
    → Keeps t (after act past (under_way w past) pending) (looks_with t w past act)
step t w past act false = refl
step t w past Go true = going t past (under_way w past)
step t w past (Advance e) true = through t (Advance e) past []
step t w past (Read e) true = through t (Read e) past []
step t w past (Await e v) true = through t (Await e v) past []
step t w past (Ticket q) true = through t (Ticket q) past []
step t w past (Put x v) true = through t (Put x v) past []
step t w past (Get x) true = through t (Get x) past []
step t w past (Hand e b) true = through t (Hand e b) past []

looks_next : (t : Tables) (w : ℕ) (past : List Entry) (x : Entry) → (x.worker == w) ≡ true
    → KeepsRound t w (x ∷ past) (looks_with t w past x.act)
unfolding under_way
looks_next t w past x own =
    let now = after x.act past (under_way w past) (is_pending x.reply) in
    subst (λ (b : Bool). Keeps t (cond b now (under_way w past)) (looks_with t w past x.act))
    (sym own) (step t w past x.act (is_pending x.reply))

-- an entry of another worker
pub looks_stay : (t : Tables) (w : ℕ) (past : List Entry) (x : Entry) (looks : List Look)
    → (x.worker == w) ≡ false → KeepsRound t w past looks → KeepsRound t w (x ∷ past) looks
unfolding under_way
looks_stay t w past x looks other is =
    let now = after x.act past (under_way w past) (is_pending x.reply) in
    subst (λ (b : Bool). Keeps t (cond b now (under_way w past)) looks) (sym other) is

-- before the first entry
pub no_looks : (t : Tables) (w : ℕ) → KeepsRound t w [] []
unfolding under_way
no_looks t w = refl

-- THE LAST ACT

ended : (t : Tables) (e : ℕ) (past : List Entry)
    → look_at t e 0 past ∷ [] ≡ looks_in t e (suc (next_component t e [])) (past ∷ [])
unfolding looks_in
ended t e past =
    ap (λ j. looks_in t e j [] ++ look_at t e j past ∷ []) (sym (zero-mod (component_count t e)))

going_last : (t : Tables) (past : List Entry) (o : Option CallSoFar) (looks : List Look)
    → Keeps t o looks → looks_after (option_map (look_of t past) o) looks
    ≡ option_map_or (λ (call : CallSoFar). looks_through t call.op past call.moments) o []
unfolding looks_in
going_last t past None looks is = refl
going_last t past (Some call) looks is = ap (λ ls. ls ++ look_of t past call ∷ []) is

pub looks_last : (t : Tables) (w : ℕ) (past : List Entry) (act : Act) (looks : List Look)
    → KeepsRound t w past looks
    → looks_after (next_look t w past act) looks ≡ looks_with t w past act
looks_last t w past Go looks is = going_last t past (under_way w past) looks is
looks_last t w past (Advance e) looks is = ended t e past
looks_last t w past (Read e) looks is = ended t e past
looks_last t w past (Await e v) looks is = ended t e past
looks_last t w past (Ticket q) looks is = ended t 0 past
looks_last t w past (Put x v) looks is = ended t 0 past
looks_last t w past (Get x) looks is = ended t 0 past
looks_last t w past (Hand e b) looks is = ended t 0 past

-- what is kept with an entry of the worker
pub take_kept : {A E : Type 0} (r : Result A E) (t : Tables) (w : ℕ) (past : List Entry)
    (x : Entry) (look : Option Look) (old new : List Look) → (x.worker == w) ≡ true
    → look ≡ next_look t w past x.act → KeepsRound t w past old
    → OnOk r (new ≡ looks_after look old) → OnOk r (KeepsRound t w (x ∷ past) new)
take_kept (Ok u) t w past x look old new own found was is =
    subst (KeepsRound t w (x ∷ past))
    (sym (is ∙ ap (λ (l : Option Look). looks_after l old) found
    ∙ looks_last t w past x.act old was)) (looks_next t w past x own)
take_kept (Err e) t w past x look old new own found was is = tt

-- A WORLD

-- the world after the next entry of a history
pub stands_next : (s : State) (h : List Entry) (k : ℕ) (x : Entry) → slice_get h k ≡ Some x
    → StandsFor s (take k h ++ x ∷ []) → StandsFor s (take (k + 1) h)
stands_next s h k x at represents =
    let one : suc k ≡ k + 1 = omega arith in
    subst (Represents s) (past_after (take k h) x ∙ sym (past_next h k x at)
    ∙ ap (λ j. past_at j h) one) represents

pub long_past : (h : List Entry) (k : ℕ) (x : Entry) → slice_get h k ≡ Some x → k
    ≡ length (past_at k h)
long_past h k x at =
    let in' : k < length h = slice_get_within h k x at in
    sym (length-reverse (take k h) ∙ length-take-le k h (omega arith))

pub past_more : (h : List Entry) (k : ℕ) (x : Entry) → slice_get h k ≡ Some x → x ∷ past_at k h
    ≡ past_at (k + 1) h
past_more h k x at = (let one : suc k ≡ k + 1 = omega arith in sym (past_next h k x at)
    ∙ ap (λ j. past_at j h) one)

pub none_here : (h : List Entry) (i : ℕ) → slice_get h i ≡ None → i < length h → ⊥
none_here [] i e lt = omega arith
none_here (x ∷ h) zero e lt = cc
none_here (x ∷ h) (suc i) e lt = none_here h i e (omega arith)
