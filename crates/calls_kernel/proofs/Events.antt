-- The events of a history of steps, the newest first.
use Rattle.std.proofs.Common.{◌≡◌, ℕ, ◌+◌, Bool, true, false, cond, List, [], ◌∷◌, ◌++◌, length}
use Rattle.std.proofs.Common.{reverse, refl, ap, sym, ◌∙◌, arith, append_assoc, append-nil}
use Rattle.std.proofs.lemmas.List.{reverse-append, reverse-reverse, length-reverse}
use Rattle.ec_count.specs.Tables.{Tables}
use Rattle.ec_core.specs.declared.act.Entry.{Entry}
use Rattle.ec_core.specs.Calls.{is_pending}
use Rattle.calls_core.specs.declared.history.Event.{Event}
use Rattle.calls_kernel.specs.Outside.{is_call, is_of_call, invocation_at, response_at, events_from}
use Rattle.calls_kernel.specs.Outside.{events_of}

abbrev pub events_past : Tables → List Entry → List Event
events_past t [] = []
events_past t (x ∷ past) =
    response_at (length past) x ++ (invocation_at t (length past) x ++ events_past t past)

from_next : (t : Tables) (i n : ℕ) (xs : List Entry) (x : Entry) → n ≡ i + length xs
    → events_from t i (xs ++ x ∷ [])
    ≡ events_from t i xs ++ (invocation_at t n x ++ response_at n x)
from_next t i n [] x is =
    let same : i ≡ n = omega arith in
    ap (λ k. (invocation_at t k x ++ response_at k x) ++ []) same
    ∙ append-nil (invocation_at t n x ++ response_at n x)
from_next t i n (y ∷ xs) x is =
    ap (λ zs. (invocation_at t i y ++ response_at i y) ++ zs)
    (from_next t (i + 1) n xs x (omega arith))
    ∙ sym (append_assoc (invocation_at t i y ++ response_at i y) (events_from t (i + 1) xs)
    (invocation_at t n x ++ response_at n x))

one_turned : (b : Bool) (x : Event) → reverse (cond b (x ∷ []) []) ≡ cond b (x ∷ []) []
one_turned true x = refl
one_turned false x = refl

invocation_turned : (t : Tables) (n : ℕ) (x : Entry)
    → reverse (invocation_at t n x) ≡ invocation_at t n x
invocation_turned t n x = one_turned (is_call x.act) _

none_or : (b c : Bool) (x : Event)
    → reverse (cond b [] (cond c (x ∷ []) [])) ≡ cond b [] (cond c (x ∷ []) [])
none_or true c x = refl
none_or false c x = one_turned c x

response_turned : (n : ℕ) (x : Entry) → reverse (response_at n x) ≡ response_at n x
response_turned n x = none_or (is_pending x.reply) (is_of_call x.act) _

past_is : (t : Tables) (past : List Entry)
    → reverse (events_of t (reverse past)) ≡ events_past t past
past_is t [] = refl
past_is t (x ∷ past) =
    let n = length past in
    let inv = invocation_at t n x in
    let res = response_at n x in
    ap (λ h. reverse (events_of t h)) (reverse-append (x ∷ []) past)
    ∙ ap reverse (from_next t 0 n (reverse past) x (omega (arith, length-reverse past)))
    ∙ reverse-append (events_of t (reverse past)) (inv ++ res)
    ∙ ap (λ es. es ++ reverse (events_of t (reverse past))) (reverse-append inv res
    ∙ ap (λ es. es ++ reverse inv) (response_turned n x)
    ∙ ap (λ es. res ++ es) (invocation_turned t n x))
    ∙ ap (λ es. (res ++ inv) ++ es) (past_is t past)
    ∙ append_assoc res inv (events_past t past)

pub events_turned : (t : Tables) (h : List Entry)
    → reverse (events_of t h) ≡ events_past t (reverse h)
events_turned t h =
    ap (λ l. reverse (events_of t l)) (sym (reverse-reverse h)) ∙ past_is t (reverse h)
