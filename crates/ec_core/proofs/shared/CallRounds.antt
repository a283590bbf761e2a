-- A round of a call of an accepted history lies between the totals at its ends.
use Rattle.std.proofs.Common.{◌≡◌, ℕ, zero, suc, ◌+◌, ◌-◌, ◌%◌, ◌<◌, ◌≤◌, Bool, true, false, List, [], ◌∷◌, ◌++◌, length, reverse, take, Option, Some, None, get_or, nat_le, refl, ap, sym, ◌∙◌, arith, subst, cond, ◌==◌}
use Rattle.std.proofs.Math.Nat.{mod-le}
use Rattle.std.proofs.lemmas.Bool.{leb-true, leb-false}
use Rattle.std.proofs.lemmas.Nat.{mod_below}
use Rattle.std.proofs.lemmas.List.{reverse-append, reverse-reverse, length-reverse, length-take-le}
use Rattle.std.proofs.Math.Seq.{take-append_seam}
use Rattle.ec_count.specs.Tables.{Tables}
use Rattle.ec_core.specs.declared.act.Act.{Act}
use Rattle.ec_core.specs.declared.act.Act.TheVariants.{Advance, Read, Await, Go, Ticket, Put, Get, Hand}
use Rattle.ec_core.specs.declared.act.Entry.{Entry}
use Rattle.ec_core.specs.Counts.{past_at, total}
use Rattle.ec_core.specs.Calls.{CallSoFar, under_way, call_with_act, is_pending}
use Rattle.ec_core.specs.Rounds.{component_count, sum_read, round_sum, round_start, read_event, IsPastOf, IsPastOfEach, EachIsPastOf}
use Rattle.ec_core.specs.Acceptance.{IsAccepted, names_unknown_object}
use Rattle.ec_core.specs.Laws.{RoundsOfCallsLieBetween}
use Rattle.ec_core.proofs.shared.Answering.{width_some, mod_next, allowed, call_reads, IsReading, IsReadingCall}
use Rattle.ec_core.proofs.shared.Moments.{accepted_at, accepted_of, moment_before}
use Rattle.ec_core.proofs.shared.Pasts.{past_itself, past_of_past, gone_before, call_before, IsCallBefore}
use Rattle.ec_core.proofs.shared.Totals.{round_between}

-- each moment came after all that follow it in the list
abbrev pub IsStacked : List (List Entry) → Type 0
IsStacked [] = Unit {0}
IsStacked (p ∷ ps) = EachIsPastOf ps p × IsStacked ps

abbrev pub IsCallStacked : Option CallSoFar → Type 0
IsCallStacked None = Unit {0}
IsCallStacked (Some call) = IsStacked call.moments

pub gone_stacked : (act : Act) (past : List Entry) (o : Option CallSoFar) → IsCallBefore o past → IsCallStacked o → IsCallStacked (call_with_act act past o)
gone_stacked Go past None before h = tt
gone_stacked Go past (Some call) before h = (before, h)
gone_stacked (Advance e) past o before h = (tt, tt)
gone_stacked (Read e) past o before h = (tt, tt)
gone_stacked (Await e v) past o before h = (tt, tt)
gone_stacked (Ticket q) past o before h = (tt, tt)
gone_stacked (Put x v) past o before h = (tt, tt)
gone_stacked (Get x) past o before h = (tt, tt)
gone_stacked (Hand e f) past o before h = (tt, tt)

kept_stacked : (b : Bool) (o : Option CallSoFar) → IsCallStacked o → IsCallStacked (cond b o None)
kept_stacked true o h = h
kept_stacked false o h = tt

pub call_stacked : (w : ℕ) (past : List Entry) → IsCallStacked (under_way w past)
unfolding under_way
call_stacked w [] = tt
call_stacked w (x ∷ past) =
    elim (x.worker == w) as (λ b. IsCallStacked (cond b (cond (is_pending x.reply) (call_with_act x.act past (under_way w past)) None) (under_way w past))) [
      | true ↦ kept_stacked (is_pending x.reply) (call_with_act x.act past (under_way w past)) (gone_stacked x.act past (under_way w past) (call_before w past) (call_stacked w past))
      | false ↦ call_stacked w past
    ]

each_at : (ps : List (List Entry)) (n : ℕ) (late : List Entry) → EachIsPastOf ps late → n < length ps → IsPastOf (get_or ps n []) late
each_at [] n late h lt = absurd (omega arith)
each_at (p ∷ ps) zero late h lt = h.0
each_at (p ∷ ps) (suc n) late h lt = each_at ps n late h.1 (omega arith)

-- the n-th moment came no later than each of those before it in the list
stack_low : (ps : List (List Entry)) (n : ℕ) → IsStacked ps → n < length ps → IsPastOfEach (get_or ps n []) (take (suc n) ps)
stack_low [] n h lt = absurd (omega arith)
stack_low (p ∷ ps) zero h lt = (past_itself p, tt)
stack_low (p ∷ ps) (suc n) h lt = (each_at ps n p h.0 (omega arith), stack_low ps n h.1 (omega arith))

each_taken : (ps : List (List Entry)) (n : ℕ) (late : List Entry) → EachIsPastOf ps late → EachIsPastOf (take n ps) late
each_taken ps zero late h = tt
each_taken [] (suc n) late h = tt
each_taken (p ∷ ps) (suc n) late h = (h.0, each_taken ps n late h.1)

pub sum_taken : (t : Tables) (e n : ℕ) (ps : List (List Entry)) → sum_read t e n (take n ps) ≡ sum_read t e n ps
unfolding sum_read
sum_taken t e zero ps = refl
sum_taken t e (suc n) [] = refl
sum_taken t e (suc n) (p ∷ ps) = (let rest = sum_taken t e n ps in cc)

-- a suffix of a reversed history is that at the moment of its length
pub past_by_length : (h : List Entry) (p : List Entry) → IsPastOf p (reverse h) → past_at (length p) h ≡ p
past_by_length h p is =
    let whole : h ≡ reverse p ++ reverse is.since = sym (reverse-reverse h) ∙ ap reverse is.is ∙ reverse-append is.since p in
    let prefix : take (length p) h ≡ reverse p =
    ap (take (length p)) whole ∙ ap (λ n. take n (reverse p ++ reverse is.since)) (sym (length-reverse p)) ∙ take-append_seam (reverse p) (reverse is.since) in
    ap reverse prefix ∙ reverse-reverse p

-- if a call has made whole rounds, its last entry is n - 1 entries after its round's first one
whole_rounds : (k n : ℕ) → 0 < n → suc k % n ≡ 0 → (k % n ≡ n - 1) × (n ≤ suc k)
whole_rounds k n some h =
    elim (nat_le n (k % n + 1)) as (λ b. nat_le n (k % n + 1) ≡ b → cond b 0 (k % n + 1) ≡ 0 → (k % n ≡ n - 1) × (n ≤ suc k)) [
      | true ↦ λ e g.
          (let le : n ≤ k % n + 1 = leb-true n (k % n + 1) e in
          let lt : k % n < n = mod_below k n some in
          let small : k % n ≤ k = mod-le k n in
          (omega arith, omega arith))
      | false ↦ λ e g. absurd (omega arith)
    ] refl (sym (mod_next n k some) ∙ h)

round_of : (t : Tables) (e : ℕ) (late : List Entry) (ps : List (List Entry)) (h : List Entry) → IsAccepted t (reverse h) → IsPastOf late (reverse h)
    → EachIsPastOf ps late → IsStacked ps → 0 < component_count t e → 0 < length ps → length ps % component_count t e ≡ 0
    → (total e (past_at (round_start t e ps) h) ≤ round_sum t e ps) × (round_sum t e ps ≤ total e late)
round_of t e late [] h acc is each stacked some more whole = absurd (omega arith)
round_of t e late (p ∷ ps) h acc is each stacked some more whole =
    let n = component_count t e in
    let k = whole_rounds (length ps) n some whole in
    let last : suc (length ps) - 1 ≡ length ps = omega arith in
    let start : (suc (length ps) - 1) % n ≡ n - 1 = ap (λ m. m % n) last ∙ k.0 in
    let early : List Entry = get_or (p ∷ ps) (n - 1) [] in
    let within : n - 1 < length (p ∷ ps) = omega arith in
    let next : suc (n - 1) ≡ n = omega arith in
    let Low : ℕ → Type 0 = λ m. IsPastOfEach early (take m (p ∷ ps)) in
    let low : IsPastOfEach early (take n (p ∷ ps)) = subst Low next (stack_low (p ∷ ps) (n - 1) stacked within) in
    let early_is : IsPastOf early (reverse h) = past_of_past early late (reverse h) (each_at (p ∷ ps) (n - 1) late each within) is in
    let at : past_at (round_start t e (p ∷ ps)) h ≡ early = ap (λ i. past_at (length (get_or (p ∷ ps) i [])) h) start ∙ past_by_length h early early_is in
    let between = round_between t e early late (take n (p ∷ ps)) (accepted_of t h early acc early_is) (accepted_of t h late acc is) (length-take-le n (p ∷ ps) k.1) low (each_taken (p ∷ ps) n late each) in
    let sum : sum_read t e n (take n (p ∷ ps)) ≡ round_sum t e (p ∷ ps) = sum_taken t e n (p ∷ ps) in
    (rw (at, ← sum) between.0, rw (← sum) between.1)

reading_is : (t : Tables) (op : Act) (e : ℕ) → IsReading t op → read_event op ≡ Some e → e < length t.events
reading_is t (Read f) e h is = (let same : f ≡ e = cc in omega arith)
reading_is t (Await f v) e h is = (let same : f ≡ e = cc in omega arith)
reading_is t (Advance f) e h is = absurd h
reading_is t Go e h is = absurd h
reading_is t (Ticket q) e h is = absurd h
reading_is t (Put x v) e h is = absurd h
reading_is t (Get x) e h is = absurd h
reading_is t (Hand f g) e h is = absurd h

-- what an accepted entry's call reads is declared
gone_reads : (t : Tables) (past : List Entry) (act : Act) (o : Option CallSoFar) (call : CallSoFar) (e : ℕ) → names_unknown_object t act ≡ false → IsReadingCall t o
    → call_with_act act past o ≡ Some call → read_event call.op ≡ Some e → e < length t.events
gone_reads t past Go None call e known reading is reads = cc
gone_reads t past Go (Some c) call e known reading is reads = (let same : c.op ≡ call.op = cc in reading_is t c.op e reading (ap read_event same ∙ reads))
gone_reads t past (Read f) o call e known reading is reads =
    (let op : Read f ≡ call.op = cc in let same : f ≡ e = cc in let lt : f < length t.events = leb-false (length t.events) f known in omega arith)
gone_reads t past (Await f v) o call e known reading is reads =
    (let op : Await f v ≡ call.op = cc in let same : f ≡ e = cc in let lt : f < length t.events = leb-false (length t.events) f known in omega arith)
gone_reads t past (Advance f) o call e known reading is reads = (let op : Advance f ≡ call.op = cc in cc)
gone_reads t past (Ticket q) o call e known reading is reads = (let op : Ticket q ≡ call.op = cc in cc)
gone_reads t past (Put x v) o call e known reading is reads = (let op : Put x v ≡ call.op = cc in cc)
gone_reads t past (Get x) o call e known reading is reads = (let op : Get x ≡ call.op = cc in cc)
gone_reads t past (Hand f g) o call e known reading is reads = (let op : Hand f g ≡ call.op = cc in cc)

one_long : (past : List Entry) (call : CallSoFar) → past ∷ [] ≡ call.moments → 0 < length call.moments
one_long past call same = (let long = ap length same in omega arith)

gone_some : (act : Act) (past : List Entry) (o : Option CallSoFar) (call : CallSoFar) → call_with_act act past o ≡ Some call → 0 < length call.moments
gone_some Go past None call is = cc
gone_some Go past (Some c) call is = (let same : past ∷ c.moments ≡ call.moments = cc in let long = ap length same in omega arith)
gone_some (Advance e) past o call is = one_long past call cc
gone_some (Read e) past o call is = one_long past call cc
gone_some (Await e v) past o call is = one_long past call cc
gone_some (Ticket q) past o call is = one_long past call cc
gone_some (Put x v) past o call is = one_long past call cc
gone_some (Get x) past o call is = one_long past call cc
gone_some (Hand e f) past o call is = one_long past call cc

pub rounds_of_calls : RoundsOfCallsLieBetween
rounds_of_calls t h k e x call d acc at is reads whole =
    let past : List Entry = past_at k h in
    let o : Option CallSoFar = under_way x.worker past in
    let each : IsCallBefore (Some call) past = subst (λ c. IsCallBefore c past) is (gone_before x.act past o (call_before x.worker past)) in
    let stacked : IsCallStacked (Some call) = subst IsCallStacked is (gone_stacked x.act past o (call_before x.worker past) (call_stacked x.worker past)) in
    let right = allowed t past x.worker x.act x.reply (accepted_at t h k x acc at) in
    let known : e < length t.events = gone_reads t past x.act o call e right.0.known (call_reads t past x.worker (accepted_of t h past acc (moment_before h k))) is reads in
    round_of t e past call.moments h acc (moment_before h k) each stacked (width_some t e d known) (gone_some x.act past o call is) whole
