-- The moments of a pending call came before.
use Rattle.std.proofs.Common.{◌≡◌, ℕ, Bool, true, false, List, [], ◌∷◌, ◌++◌, append_assoc, Option, Some, None, refl, ap, sym, ◌∙◌, cond, ◌==◌}
use Rattle.ec_core.specs.declared.act.Act.{Act}
use Rattle.ec_core.specs.declared.act.Act.TheVariants.{Advance, Read, Await, Go, Ticket, Put, Get, Hand}
use Rattle.ec_core.specs.declared.act.Reply.{Reply}
use Rattle.ec_core.specs.declared.act.Reply.TheVariants.{Done, Number, Pending}
use Rattle.ec_core.specs.declared.act.Entry.{Entry}
use Rattle.ec_core.specs.Calls.{CallSoFar, under_way, call_with_act, is_pending}
use Rattle.ec_core.specs.Rounds.{IsPastOf, EachIsPastOf}

-- each reversed history is a suffix of itself
pub past_itself : (past : List Entry) → IsPastOf past past
past_itself past = record { since = []; is = refl }

pub past_of_past : (p q r : List Entry) → IsPastOf p q → IsPastOf q r → IsPastOf p r
past_of_past p q r a b = record { since = b.since ++ a.since; is = b.is ∙ ap (λ x. b.since ++ x) a.is ∙ sym (append_assoc b.since a.since p) }

pub pending_is : (r : Reply) → is_pending r ≡ true → r ≡ Pending
pending_is Pending h = refl
pending_is Done h = cc
pending_is (Number n) h = cc

pub past_later : (p past : List Entry) (x : Entry) → IsPastOf p past → IsPastOf p (x ∷ past)
past_later p past x h = record { since = x ∷ h.since; is = ap (λ q. x ∷ q) h.is }

each_later : (ps : List (List Entry)) (past : List Entry) (x : Entry) → EachIsPastOf ps past → EachIsPastOf ps (x ∷ past)
each_later [] past x h = tt
each_later (p ∷ ps) past x h = (past_later p past x h.0, each_later ps past x h.1)

abbrev pub IsCallBefore : Option CallSoFar → List Entry → Type 0
IsCallBefore None late = Unit {0}
IsCallBefore (Some call) late = EachIsPastOf call.moments late

pub gone_before : (act : Act) (past : List Entry) (o : Option CallSoFar) → IsCallBefore o past → IsCallBefore (call_with_act act past o) past
gone_before Go past None h = tt
gone_before Go past (Some call) h = (past_itself past, h)
gone_before (Advance e) past o h = (past_itself past, tt)
gone_before (Read e) past o h = (past_itself past, tt)
gone_before (Await e v) past o h = (past_itself past, tt)
gone_before (Ticket q) past o h = (past_itself past, tt)
gone_before (Put x v) past o h = (past_itself past, tt)
gone_before (Get x) past o h = (past_itself past, tt)
gone_before (Hand e f) past o h = (past_itself past, tt)

call_later : (o : Option CallSoFar) (past : List Entry) (x : Entry) → IsCallBefore o past → IsCallBefore o (x ∷ past)
call_later None past x h = tt
call_later (Some call) past x h = each_later call.moments past x h

kept_before : (b : Bool) (o : Option CallSoFar) (past : List Entry) → IsCallBefore o past → IsCallBefore (cond b o None) past
kept_before true o past h = h
kept_before false o past h = tt

-- the moments of a pending call came before the moment at which it is pending
pub call_before : (w : ℕ) (past : List Entry) → IsCallBefore (under_way w past) past
unfolding under_way
call_before w [] = tt
call_before w (x ∷ past) =
    call_later (cond (x.worker == w) (cond (is_pending x.reply) (call_with_act x.act past (under_way w past)) None) (under_way w past)) past x
    (elim (x.worker == w) as (λ b. IsCallBefore (cond b (cond (is_pending x.reply) (call_with_act x.act past (under_way w past)) None) (under_way w past)) past) [
      | true ↦ kept_before (is_pending x.reply) (call_with_act x.act past (under_way w past)) past (gone_before x.act past (under_way w past) (call_before w past))
      | false ↦ call_before w past
    ])
