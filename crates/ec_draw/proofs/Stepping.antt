-- One entry more: the pending calls, and the dots.
use Rattle.std.proofs.Common.{◌≡◌, ℕ, zero, suc, ◌+◌, ◌<◌, ◌≤◌, true, false, List, []}
use Rattle.std.proofs.Common.{◌∷◌, ◌++◌, length, Option, Some, None, refl, ap, sym, ◌∙◌, arith}
use Rattle.std.proofs.Common.{cond, subst, take, drop, reverse, slice_get, append-nil, min, nat_le}
use Rattle.std.proofs.Common.{add-one}
use Rattle.std.specs.Option.{option_map, option_map_or}
use Rattle.std.proofs.lemmas.Bool.{leb-true, leb-false}
use Rattle.std.proofs.lemmas.Bool.Decides.{nat_tests}
use Rattle.std.proofs.lemmas.Int.{clamps}
use Rattle.std.proofs.lemmas.List.{length-append, length-reverse, length-take-le, reverse-append}
use Rattle.std.proofs.lemmas.List.{take_all, take-append-drop}
use Rattle.std.proofs.lemmas.Option.{slice_get_within}
use Rattle.ec_count.specs.Tables.{Tables}
use Rattle.ec_core.specs.declared.act.Entry.{Entry}
use Rattle.ec_core.specs.Calls.{CallSoFar}
use Rattle.ec_core.specs.Progress.{Progress}
use Rattle.ec_core.specs.Counts.{past_at}
use Rattle.ec_core.specs.declared.act.Reply.{Reply}
use Rattle.ec_core.specs.declared.act.Refusal.{Refusal}
use Rattle.ec_core.specs.Standing.{State, Represents, StandsFor, call_progress as progress}
use Rattle.ec_core.specs.Acceptance.{IsAccepted, answer_of}
use Rattle.ec_core.proofs.shared.Moments.{past_next, accepted_at}
use Rattle.ec_core.proofs.shared.Stepping.{past_after}
use Rattle.std.specs.Prelude.{Result, Ok, IfOk}
use Rattle.ec_draw.specs.declared.window.Window.{Window}
use Rattle.ec_draw.specs.declared.open.PendingBar.{PendingBar}
use Rattle.ec_draw.specs.declared.dot.Dot.{Dot}
use Rattle.ec_draw.specs.Windows.{shows}
use Rattle.ec_draw.specs.Open.{begins, begun_at, open_bars_of, pending_bars_of, open_of}
use Rattle.ec_draw.specs.Dots.{dot_of, dots_of}

-- MOMENTS

pub long_past : (h : List Entry) (k : ℕ) (x : Entry) → slice_get h k ≡ Some x
    → length (past_at k h) ≡ k
long_past h k x at =
    let in' : k < length h = slice_get_within h k x at in
    length-reverse (take k h) ∙ length-take-le k h (omega arith)

pub next_past : (h : List Entry) (k : ℕ) (x : Entry) → slice_get h k ≡ Some x
    → past_at (k + 1) h ≡ x ∷ past_at k h
next_past h k x at =
    (let one : k + 1 ≡ suc k = omega arith in ap (λ j. past_at j h) one ∙ past_next h k x at)

-- PENDING CALLS

-- a pending call, by its progress in the world
pub open_some : (t : Tables) (w : ℕ) (past : List Entry) (p : Progress) (first : ℕ)
    (o : Option CallSoFar) → Some p ≡ option_map (progress t) o → first ≡ begun_at w past
    → Some (record { worker = w; op = p.op; first = first }) ≡ option_map (open_of w past) o
open_some t w past p first None is at = cc
open_some t w past p first (Some call) is at =
    let same : p.op ≡ call.op =
    ap (λ (q : Option Progress). option_map_or (λ (r : Progress). r.op) q p.op) is in
    ap (λ op. Some (record { worker = w; op = op; first = first })) same
    ∙ ap (λ n. Some (record { worker = w; op = call.op; first = n })) at

pub open_none : (t : Tables) (w : ℕ) (past : List Entry) (o : Option CallSoFar)
    → None ≡ option_map (progress t) o → None ≡ option_map (open_of w past) o
open_none t w past None is = refl
open_none t w past (Some call) is = cc

-- if the entry at k begins no call of w, the latest one that does is the same before and after it;
-- if it begins one, it is the latest
pub begun_before : (w : ℕ) (h : List Entry) (k : ℕ) (x : Entry) → slice_get h k ≡ Some x
    → begins w x ≡ false → begun_at w (past_at (k + 1) h) ≡ begun_at w (past_at k h)
unfolding begun_at
begun_before w h k x at other = ap (begun_at w) (next_past h k x at)
    ∙ ap (λ b. cond b (length (past_at k h)) (begun_at w (past_at k h))) other

pub begun_here : (w : ℕ) (h : List Entry) (k : ℕ) (x : Entry) → slice_get h k ≡ Some x
    → begins w x ≡ true → begun_at w (past_at (k + 1) h) ≡ k
unfolding begun_at
begun_here w h k x at own = ap (begun_at w) (next_past h k x at)
    ∙ ap (λ b. cond b (length (past_at k h)) (begun_at w (past_at k h))) own ∙ long_past h k x at

pub begun_none : (w : ℕ) (h : List Entry) → begun_at w (past_at 0 h) ≡ 0
unfolding begun_at
begun_none w h = refl

pub no_open : (w : Window) (past : List Entry) → [] ≡ pending_bars_of w 0 past
unfolding pending_bars_of
no_open w past = refl

pub more_open : (w : Window) (past : List Entry) (n : ℕ) (os : List PendingBar)
    → os ≡ pending_bars_of w n past
    → os ++ open_bars_of w n past ≡ pending_bars_of w (n + 1) past
unfolding pending_bars_of
more_open w past n os is = ap (λ z. z ++ open_bars_of w n past) is
    ∙ ap (λ m. pending_bars_of w m past) (sym (add-one n))

-- DOTS

-- the dots after one entry more, if it is shown and if it is not
pub dots_yes : (t : Tables) (w : Window) (h : List Entry) (k : ℕ) (x : Entry) (ds : List Dot)
    (d : Dot) → slice_get h k ≡ Some x → shows w k ≡ true → ds ≡ dots_of t w (past_at k h)
    → d ≡ dot_of t (past_at k h) x → ds ++ d ∷ [] ≡ dots_of t w (past_at (k + 1) h)
unfolding dots_of
dots_yes t w h k x ds d at inside was is =
    let p = past_at k h in
    ap (λ z. z ++ d ∷ []) was ∙ ap (λ z. dots_of t w p ++ z ∷ []) is
    ∙ sym (ap (dots_of t w) (next_past h k x at)
    ∙ ap (λ n. dots_of t w p ++ cond (shows w n) (dot_of t p x ∷ []) []) (long_past h k x at)
    ∙ ap (λ b. dots_of t w p ++ cond b (dot_of t p x ∷ []) []) inside)

-- before the first entry that is shown there are none
pub dots_before : (t : Tables) (w : Window) (past : List Entry) → length past ≤ w.from
    → dots_of t w past ≡ []
unfolding dots_of
dots_before t w [] few = refl
dots_before t w (x ∷ past) few =
    let out : shows w (length past) ≡ false = grind (arith, nat_tests) in
    ap (λ z. z ++ cond (shows w (length past)) (dot_of t past x ∷ []) [])
    (dots_before t w past (omega arith)) ∙ ap (λ b. cond b (dot_of t past x ∷ []) []) out

-- after the last one that is shown there are no more
dots_after : (t : Tables) (w : Window) (ys past : List Entry) → w.to ≤ length past
    → dots_of t w (ys ++ past) ≡ dots_of t w past
unfolding dots_of
dots_after t w [] past most = refl
dots_after t w (y ∷ ys) past most =
    let long = length-append ys past in
    let out : shows w (length (ys ++ past)) ≡ false = grind (arith, nat_tests) in
    ap (λ b. dots_of t w (ys ++ past) ++ cond b (dot_of t (ys ++ past) y ∷ []) []) out
    ∙ append-nil (dots_of t w (ys ++ past)) ∙ dots_after t w ys past most

-- so the dots up to a moment are all, if it is after the window or the last one
pub dots_all : (t : Tables) (w : Window) (h : List Entry) (k : ℕ) → min w.to (length h) ≤ k
    → dots_of t w (past_at k h) ≡ dots_of t w (reverse h)
dots_all t w h k most =
    elim (nat_le (length h) k) as (λ b. nat_le (length h) k ≡ b
    → dots_of t w (past_at k h) ≡ dots_of t w (reverse h)) [
      | true ↦ λ e. ap (λ z. dots_of t w (reverse z)) (take_all k h (leb-true (length h) k e))
      | false ↦ λ e.
          (let below = leb-false (length h) k e in
          let long : length (past_at k h) ≡ k = length-reverse (take k h)
          ∙ length-take-le k h (omega arith) in
          sym (ap (λ z. dots_of t w (reverse z)) (sym (take-append-drop k h))
          ∙ ap (dots_of t w) (reverse-append (take k h) (drop k h))
          ∙ dots_after t w (reverse (drop k h)) (past_at k h) (omega (arith, clamps, long))))
    ] refl

pub none_here : {X : Type 0} (h : List X) (i : ℕ) → slice_get h i ≡ None → i < length h → ⊥
none_here [] i e lt = omega arith
none_here (x ∷ h) zero e lt = cc
none_here (x ∷ h) (suc i) e lt = none_here h i e (omega arith)

-- an entry in the window is shown
pub shows_from : (w : Window) (k n : ℕ) → w.from ≤ k → k < min w.to n → shows w k ≡ true
shows_from w k n low high =
    let below : k < w.to = omega (arith, clamps) in
    grind (arith, nat_tests)

-- a world after one entry more
pub stands_step : (t : Tables) (s s' : State) (done : List Entry) (x : Entry)
    (r : Result Reply Refusal) → IsAccepted t (x ∷ reverse done) → s.setup ≡ t
    → r ≡ answer_of s.setup (reverse done) x.worker x.act
    → IfOk r (λ reply. StandsFor s'
    (done ++ record { worker = x.worker; act = x.act; reply = reply } ∷ []))
    → StandsFor s' (done ++ x ∷ [])
stands_step t s s' done x r acc on returned after =
    let right : r ≡ Ok x.reply = returned ∙ ap (λ u. answer_of u (reverse done) x.worker x.act) on
    ∙ acc.0 in
    subst (λ q. IfOk q
    (λ reply. StandsFor s' (done ++ record { worker = x.worker; act = x.act; reply = reply } ∷ [])))
    right after

-- the same in a history
pub stands_next : (t : Tables) (s s' : State) (h : List Entry) (k : ℕ) (x : Entry)
    (r : Result Reply Refusal) → IsAccepted t (reverse h) → slice_get h k ≡ Some x → s.setup ≡ t
    → r ≡ answer_of s.setup (past_at k h) x.worker x.act
    → IfOk r (λ reply. StandsFor s'
    (take k h ++ record { worker = x.worker; act = x.act; reply = reply } ∷ []))
    → StandsFor s' (take (k + 1) h)
stands_next t s s' h k x r acc at on returned after =
    let right : r ≡ Ok x.reply = returned ∙ ap (λ u. answer_of u (past_at k h) x.worker x.act) on
    ∙ accepted_at t h k x acc at in
    let stood : StandsFor s' (take k h ++ x ∷ []) =
    subst (λ q. IfOk q
    (λ reply. StandsFor s' (take k h ++ record { worker = x.worker; act = x.act; reply = reply }
    ∷ []))) right after in
    subst (Represents s') (past_after (take k h) x ∙ sym (next_past h k x at)) stood
