-- The scan of a history finds its completed calls.
use Rattle.std.proofs.Common.{◌≡◌, ℕ, zero, suc, ◌+◌, ◌<◌, Bool, true, false, not, List, [], ◌∷◌, ◌++◌, length, Option, Some, None, refl, ap, sym, ◌∙◌, arith, cond, subst, take, drop, reverse, slice_get, get_or, count_by}
use Rattle.std.specs.Option.{option_map, option_to_list}
use Rattle.std.proofs.lemmas.List.{reverse-append, take-append-drop, take_more, length-reverse, length-take-le}
use Rattle.std.proofs.lemmas.Option.{slice_get_within, get_or_from_slice_get}
use Rattle.std.proofs.lemmas.List.Sums.{count_by_more_no, count_by_more_yes}
use Rattle.ec_count.specs.Tables.{Tables}
use Rattle.ec_core.specs.declared.act.Entry.{Entry}
use Rattle.ec_core.specs.declared.pending_calls.PendingCall.{PendingCall}
use Rattle.ec_core.specs.Calls.{CallSoFar, under_way, call_with, is_pending}
use Rattle.ec_core.specs.Rounds.{position_of}
use Rattle.ec_core.specs.Acceptance.{IsAccepted}
use Rattle.ec_core.specs.PendingCalls.{pending_call, AreCalls, Takes}
use Rattle.ec_core.proofs.shared.Moments.{accepted_before}
use Rattle.ec_core.proofs.shared.PendingCallLemmas.{IsGone, gone_newest}
use Rattle.ec_order.specs.declared.call.Call.{Call}
use Rattle.ec_order.specs.Calls.{call_of_entries, ended_by, finished_calls, call_from, call_ended_by, EndsCall, Ending}

-- PREFIXES

taken : (h : List Entry) (i : ℕ) (x : Entry) → slice_get h i ≡ Some x → take (i + 1) h ≡ take i h ++ x ∷ []
taken h i x at =
    let in' : i < length h = slice_get_within h i x at in
    take_more h i x in' ∙ ap (λ y. take i h ++ y ∷ []) (get_or_from_slice_get h i x x at)

pub prefix_more : (h : List Entry) (i : ℕ) (x : Entry) → slice_get h i ≡ Some x → reverse (take (i + 1) h) ≡ x ∷ reverse (take i h)
prefix_more h i x at = ap reverse (taken h i x at) ∙ reverse-append (take i h) (x ∷ [])

pub prefix_accepted : (t : Tables) (h : List Entry) (i : ℕ) → IsAccepted t (reverse h) → IsAccepted t (reverse (take i h))
prefix_accepted t h i acc =
    let whole : reverse h ≡ reverse (drop i h) ++ reverse (take i h) = ap reverse (sym (take-append-drop i h)) ∙ reverse-append (take i h) (drop i h) in
    accepted_before t (reverse (drop i h)) (reverse (take i h)) (subst (IsAccepted t) whole acc)

-- CALLS

-- the call that an entry ends
told_ended : (t : Tables) (x : Entry) (past : List Entry) (o : Option CallSoFar) → IsGone past o
    → option_to_list (call_ended_by x (length past) (option_map (pending_call t) o))
    ≡ ended_by t x o
told_ended t x past None h = elim (is_pending x.reply) as (λ b. option_to_list (cond b None (option_map (call_from x (length past)) None)) ≡ []) [ true ↦ refl | false ↦ refl ]
told_ended t x past (Some call) h =
    let last : position_of call.moments 0 ≡ length past = ap (λ ms. position_of ms 0) h.1 in
    let c : ℕ → Call = λ k. record (call_of_entries t x call.op call.moments) { last = k } in
    elim (is_pending x.reply) as (λ b. option_to_list (cond b None (Some (c (length past)))) ≡ cond b [] (call_of_entries t x call.op call.moments ∷ [])) [
      | true ↦ refl
      | false ↦ ap (λ k. c k ∷ []) (sym last)
    ]

pub prefix_long : (h : List Entry) (i : ℕ) (x : Entry) → slice_get h i ≡ Some x → i ≡ length (reverse (take i h))
prefix_long h i x at =
    let in' : i < length h = slice_get_within h i x at in
    sym (length-reverse (take i h) ∙ length-take-le i h (omega arith))

pub call_ended : (t : Tables) (past : List Entry) (x : Entry) (i : ℕ) (g : Option PendingCall) (returned : Option Call) (calls : List (Option PendingCall)) → i ≡ length past → returned ≡ call_ended_by x i g
    → Takes t past x g calls → EndsCall t past x returned calls
call_ended t past x i g returned calls here is taken = record {
  call = sym (ap option_to_list (is ∙ ap (call_ended_by x i) taken.call ∙ ap (λ k. call_ended_by x k (option_map (pending_call t) (call_with x past))) here)
      ∙ told_ended t x past (call_with x past) (gone_newest x.act past (under_way x.worker past)));
  after = taken.after;
}

-- a call that goes on does not end
pub call_going : (t : Tables) (past : List Entry) (x : Entry) (i : ℕ) (g : Option PendingCall) (calls : List (Option PendingCall)) → i ≡ length past → is_pending x.reply ≡ true
    → Takes t past x g calls → EndsCall t past x None calls
call_going t past x i g calls here is taken = call_ended t past x i g None calls here (sym (ap (λ b. cond b None (option_map (call_from x i) g)) is)) taken

pub ended_next : (t u : Tables) (h : List Entry) (i : ℕ) (x : Entry) (returned : Option Call) (calls calls' : List (Option PendingCall)) → IsAccepted t (reverse h)
    → Some x ≡ slice_get h i → AreCalls t calls (reverse (take i h)) → u ≡ t → Ending calls i x returned calls' u → EndsCall t (reverse (take i h)) x returned calls'
ended_next t u h i x returned calls calls' acc at s same ending =
    (subst (Ending calls i x returned calls') same ending).ends (reverse (take i h)) (prefix_accepted t h i acc) (prefix_long h i x (sym at)) s

-- what is so after the scan of the first i entries
pub record IsScanned (t : Tables) (h : List Entry) (i : ℕ) (cs : List Call) (calls : List (Option PendingCall)) : Type 0 where
  pub finished : cs ≡ finished_calls t (reverse (take i h))
  pub kept : AreCalls t calls (reverse (take i h))

pub none_past : (h : List Entry) (i : ℕ) → None ≡ slice_get h i → i < length h → ⊥
none_past [] i e lt = omega arith
none_past (x ∷ h) zero e lt = cc
none_past (x ∷ h) (suc i) e lt = none_past h i e (omega arith)

pub scanned : (t u : Tables) (h : List Entry) (i : ℕ) (x : Entry) (returned : Option Call) (cs cs' : List Call) (calls calls' : List (Option PendingCall)) → IsAccepted t (reverse h)
    → Some x ≡ slice_get h i → IsScanned t h i cs calls → u ≡ t → Ending calls i x returned calls' u → cs' ≡ cs ++ option_to_list returned → IsScanned t h (i + 1) cs' calls'
unfolding finished_calls
scanned t u h i x returned cs cs' calls calls' acc at s same ending e =
    let next = ended_next t u h i x returned calls calls' acc at s.kept same ending in
    let more = prefix_more h i x (sym at) in
    record {
      finished = e ∙ ap (λ z. z ++ option_to_list returned) s.finished ∙ ap (λ z. finished_calls t (reverse (take i h)) ++ z) (sym next.call) ∙ sym (ap (finished_calls t) more);
      kept = subst (AreCalls t calls') (sym more) next.after;
    }

-- one entry more to be counted, or not
abbrev ends_call : Entry → Bool
ends_call x = not (is_pending x.reply)

pub counted_yes : (h : List Entry) (i : ℕ) (x : Entry) (n : ℕ) → Some x ≡ slice_get h i → not (is_pending x.reply) ≡ true → n ≡ count_by ends_call (take i h) → n + 1 ≡ count_by ends_call (take (i + 1) h)
counted_yes h i x n at returned same =
    let in' : i < length h = slice_get_within h i x (sym at) in
    let here : ends_call (get_or h i x) ≡ true = ap ends_call (get_or_from_slice_get h i x x (sym at)) ∙ returned in
    ap (λ k. k + 1) same ∙ sym (count_by_more_yes ends_call h i x in' here)

pub counted_no : (h : List Entry) (i : ℕ) (x : Entry) (n : ℕ) → Some x ≡ slice_get h i → not (is_pending x.reply) ≡ false → n ≡ count_by ends_call (take i h) → n ≡ count_by ends_call (take (i + 1) h)
counted_no h i x n at returned same =
    let in' : i < length h = slice_get_within h i x (sym at) in
    let here : ends_call (get_or h i x) ≡ false = ap ends_call (get_or_from_slice_get h i x x (sym at)) ∙ returned in
    same ∙ sym (count_by_more_no ends_call h i x in' here)
