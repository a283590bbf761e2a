-- The entries of a call come one after another.
use Rattle.std.proofs.Common.{◌≡◌, ℕ, zero, suc, ◌+◌, ◌<◌, ◌≤◌, Bool, true, false, List, [], ◌∷◌, ◌++◌, length, Option, Some, None, refl, ap, sym, ◌∙◌, arith, cond, ◌==◌, take, get_or, append_assoc, length-append}
use Rattle.ec_count.specs.Tables.{Tables}
use Rattle.ec_core.specs.declared.act.Act.{Act}
use Rattle.ec_core.specs.declared.act.Act.TheVariants.{Go}
use Rattle.ec_core.specs.declared.act.Entry.{Entry}
use Rattle.ec_core.specs.Calls.{CallSoFar, under_way, call_with_act, is_pending}
use Rattle.ec_core.specs.Rounds.{sum_read, IsPastOf, IsPastOfEach, EachIsPastOf}
use Rattle.ec_core.specs.Counts.{component_total}
use Rattle.ec_core.proofs.shared.Pasts.{past_itself}

pub past_trans : (a b c : List Entry) → IsPastOf a b → IsPastOf b c → IsPastOf a c
past_trans a b c p q = record { since = q.since ++ p.since; is = q.is ∙ ap (λ z. q.since ++ z) p.is ∙ sym (append_assoc q.since p.since a) }

pub past_next : (x : Entry) (p late : List Entry) → IsPastOf p late → IsPastOf p (x ∷ late)
past_next x p late h = record { since = x ∷ h.since; is = ap (λ z. x ∷ z) h.is }

pub past_before : (x : Entry) (p late : List Entry) → IsPastOf (x ∷ p) late → IsPastOf p late
past_before x p late h = past_trans p (x ∷ p) late (past_next x p p (past_itself p)) h

pub past_shorter : (p late : List Entry) → IsPastOf p late → length p ≤ length late
past_shorter p late h = omega (arith, ap length h.is, length-append h.since p)

-- each is a past of the one before it in the list, and the first is a past of late
abbrev pub IsChain : List Entry → List (List Entry) → Type 0
IsChain late [] = Unit {0}
IsChain late (p ∷ ps) = IsPastOf p late × IsChain p ps

pub chain_later : (early late : List Entry) (ps : List (List Entry)) → IsPastOf early late → IsChain early ps → IsChain late ps
chain_later early late [] h c = tt
chain_later early late (p ∷ ps) h c = (past_trans p early late c.0 h, c.1)

pub chain_at : (late : List Entry) (ps : List (List Entry)) (i : ℕ) → IsChain late ps → i < length ps → IsPastOf (get_or ps i []) late
chain_at late [] i c h = absurd (omega arith)
chain_at late (p ∷ ps) zero c h = c.0
chain_at late (p ∷ ps) (suc i) c h = past_trans (get_or ps i []) p late (chain_at p ps i c.1 (omega arith)) c.0

pub chain_between : (late : List Entry) (ps : List (List Entry)) (i j : ℕ) → IsChain late ps → i ≤ j → j < length ps → IsPastOf (get_or ps j []) (get_or ps i [])
chain_between late [] i j c h k = absurd (omega arith)
chain_between late (p ∷ ps) zero zero c h k = past_itself p
chain_between late (p ∷ ps) zero (suc j) c h k = chain_at p ps j c.1 (omega arith)
chain_between late (p ∷ ps) (suc i) zero c h k = absurd (omega arith)
chain_between late (p ∷ ps) (suc i) (suc j) c h k = chain_between p ps i j c.1 (omega arith) (omega arith)

pub chain_each : (late : List Entry) (ps : List (List Entry)) (n : ℕ) → IsChain late ps → EachIsPastOf (take n ps) late
chain_each late ps zero c = tt
chain_each late [] (suc n) c = tt
chain_each late (p ∷ ps) (suc n) c = (c.0, chain_each late ps n (chain_later p late ps c.0 c.1))

pub chain_of_each : (late : List Entry) (ps : List (List Entry)) (n : ℕ) → IsChain late ps → n < length ps → IsPastOfEach (get_or ps n []) (take (suc n) ps)
chain_of_each late [] n c h = absurd (omega arith)
chain_of_each late (p ∷ ps) zero c h = (past_itself p, tt)
chain_of_each late (p ∷ ps) (suc n) c h = (chain_at p ps n c.1 (omega arith), chain_of_each p ps n c.1 (omega arith))

-- what is known of a call under way after a past
abbrev pub IsChained : List Entry → Option CallSoFar → Type 0
IsChained past None = Unit {0}
IsChained past (Some call) = IsChain past call.moments

-- what is known of a call after an entry with this past
abbrev pub IsGone : List Entry → Option CallSoFar → Type 0
IsGone past None = Unit {0}
IsGone past (Some call) = (rest : List (List Entry)) × (call.moments ≡ past ∷ rest) × IsChain past rest

pub gone_chain : (act : Act) (past : List Entry) (o : Option CallSoFar) → IsChained past o → IsGone past (call_with_act act past o)
gone_chain Go past None h = tt
gone_chain Go past (Some call) h = (call.moments, refl, h)
gone_chain act past o h = ([], refl, tt)

gone_kept : (x : Entry) (past : List Entry) (o : Option CallSoFar) (b : Bool) → IsGone past o → IsChained (x ∷ past) (cond b o None)
gone_kept x past o false h = tt
gone_kept x past None true h = tt
gone_kept x past (Some call) true h = rw h.1 (past_next x past past (past_itself past), h.2)

chained_later : (x : Entry) (past : List Entry) (o : Option CallSoFar) → IsChained past o → IsChained (x ∷ past) o
chained_later x past None h = tt
chained_later x past (Some call) h = chain_later past (x ∷ past) call.moments (past_next x past past (past_itself past)) h

pub call_chain : (w : ℕ) (past : List Entry) → IsChained past (under_way w past)
unfolding under_way
call_chain w [] = tt
call_chain w (x ∷ past) =
    elim (x.worker == w) as (λ b. IsChained (x ∷ past) (cond b (cond (is_pending x.reply) (call_with_act x.act past (under_way w past)) None) (under_way w past))) [
      | true ↦ gone_kept x past (call_with_act x.act past (under_way w past)) (is_pending x.reply) (gone_chain x.act past (under_way w past) (call_chain w past))
      | false ↦ chained_later x past (under_way w past) (call_chain w past)
    ]
