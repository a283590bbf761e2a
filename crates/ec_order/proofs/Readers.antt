-- How many reads and awaits of an eventcount are pending, with one more entry.
use Rattle.std.proofs.Common.{◌≡◌, ◌≢◌, ℕ, zero, suc, ◌+◌, ◌<◌, ◌≤◌, true, false, not, ◌&&◌, is_some, List, [], ◌∷◌, Option, Some, None, refl, ap, sym, ◌∙◌, arith, cond, ◌==◌}
use Rattle.std.proofs.lemmas.Bool.{eqb-true, eqb-false, leb-false}
use Rattle.ec_count.specs.Tables.{Tables, IsDeclared}
use Rattle.ec_core.specs.declared.act.Act.{Act}
use Rattle.ec_core.specs.declared.act.Act.TheVariants.{Read, Await, Go}
use Rattle.ec_core.specs.declared.act.Entry.{Entry}
use Rattle.ec_core.specs.Acceptance.{IsAccepted}
use Rattle.ec_core.specs.Calls.{CallSoFar, under_way, call_with_act, call_with, is_go, is_pending}
use Rattle.ec_core.specs.Counts.{sum_to}
use Rattle.ec_core.specs.Rounds.{read_event}
use Rattle.ec_core.proofs.shared.Answering.{allowed}
use Rattle.ec_core.proofs.shared.Scans.{call_own, call_other}
use Rattle.ec_order.specs.declared.call.Call.{Call}
use Rattle.ec_order.specs.Calls.{call_of_entries, ended_by, is_one_entry_call}
use Rattle.ec_order.specs.AdvanceLogModel.{is_reading_of, reads_event, readers}
use Rattle.ec_order.specs.Walk.{is_one_entry_act}
use Rattle.ec_order.proofs.Gathering.{whole_leaves}

-- COUNTS OF WORKERS

sum_below : (f g : ℕ → ℕ) (n : ℕ) → ((w : ℕ) → w < n → f w ≡ g w) → sum_to f n ≡ sum_to g n
unfolding sum_to
sum_below f g zero h = refl
sum_below f g (suc n) h =
    let here : f n ≡ g n = h n (omega arith) in
    let rest : sum_to f n ≡ sum_to g n = sum_below f g n (λ w lt. h w (omega arith)) in
    omega arith

-- the sums of two functions that agree except at one worker differ only by their values there
sum_but_one : (f g : ℕ → ℕ) (v n : ℕ) → v < n → ((w : ℕ) → (v == w) ≡ false → f w ≡ g w) → sum_to f n + g v ≡ sum_to g n + f v
unfolding sum_to
sum_but_one f g v zero lt h = absurd (omega arith)
sum_but_one f g v (suc n) lt h =
    elim (v == n) as (λ b. (v == n) ≡ b → f n + sum_to f n + g v ≡ g n + sum_to g n + f v) [
      | true ↦ λ e.
          (let same : v ≡ n = eqb-true v n e in
          let rest : sum_to f n ≡ sum_to g n = sum_below f g n (λ w below. h w (grind arith)) in
          let left : f v ≡ f n = ap f same in
          let right : g v ≡ g n = ap g same in
          omega arith)
      | false ↦ λ e.
          (let other : v ≢ n = eqb-false v n e in
          let here : f n ≡ g n = h n e in
          let rest : sum_to f n + g v ≡ sum_to g n + f v = sum_but_one f g v n (omega arith) h in
          omega arith)
    ] refl

sum_none : (f : ℕ → ℕ) (n w : ℕ) → sum_to f n ≡ 0 → w < n → f w ≡ 0
unfolding sum_to
sum_none f zero w none lt = absurd (omega arith)
sum_none f (suc n) w none lt =
    elim (n == w) as (λ b. (n == w) ≡ b → f w ≡ 0) [
      | true ↦ λ e. (let same : f n ≡ f w = ap f (eqb-true n w e) in omega arith)
      | false ↦ λ e. (let other : n ≢ w = eqb-false n w e in sum_none f n w (omega arith) (omega arith))
    ] refl

sum_few : (f : ℕ → ℕ) (n : ℕ) → ((w : ℕ) → f w ≤ 1) → sum_to f n ≤ n
unfolding sum_to
sum_few f zero h = omega arith
sum_few f (suc n) h = (let here : f n ≤ 1 = h n in let rest : sum_to f n ≤ n = sum_few f n h in omega arith)

-- PENDING READS AND AWAITS

abbrev one_if : ℕ → Option CallSoFar → ℕ
one_if e o = cond (reads_event e o) 1 0

few_if : (e : ℕ) (o : Option CallSoFar) → one_if e o ≤ 1
few_if e o = elim (reads_event e o) as (λ b. cond b 1 0 ≤ 1) [ true ↦ omega arith | false ↦ omega arith ]

pub few_readers : (e : ℕ) (past : List Entry) → readers e past ≤ 16
few_readers e past = sum_few (λ w. one_if e (under_way w past)) 16 (λ w. few_if e (under_way w past))

pub no_readers : (e : ℕ) → readers e [] ≡ 0
unfolding sum_to under_way
no_readers e = refl

readers_same : (e : ℕ) (x : Entry) (past : List Entry) → ((w : ℕ) → under_way w (x ∷ past) ≡ under_way w past) → readers e (x ∷ past) ≡ readers e past
readers_same e x past same = sum_below (λ w. one_if e (under_way w (x ∷ past))) (λ w. one_if e (under_way w past)) 16 (λ w lt. ap (one_if e) (same w))

readers_next : (e : ℕ) (x : Entry) (past : List Entry) → x.worker < 16 → readers e (x ∷ past) + one_if e (under_way x.worker past) ≡ readers e past + one_if e (under_way x.worker (x ∷ past))
readers_next e x past lt =
    sum_but_one (λ w. one_if e (under_way w (x ∷ past))) (λ w. one_if e (under_way w past)) x.worker 16 lt (λ w other. ap (one_if e) (call_other w x past other))

-- if there is none, no call of a worker is one
pub none_reads : (e : ℕ) (past : List Entry) (w : ℕ) (call : CallSoFar) → readers e past ≡ 0 → w < 16 → under_way w past ≡ Some call → is_reading_of e call.op ≡ true → ⊥
none_reads e past w call none lt is reads =
    let zero_here : one_if e (under_way w past) ≡ 0 = sum_none (λ v. one_if e (under_way v past)) 16 w none lt in
    let one_here : one_if e (under_way w past) ≡ 1 = ap (one_if e) is ∙ ap (λ b. cond b 1 0) reads in
    omega arith

pub reads_read : (op : Act) (f e : ℕ) → read_event op ≡ Some e → is_reading_of f op ≡ (e == f)
reads_read (Read g) f e is = (let same : g ≡ e = cc in ap (λ k. k == f) same)
reads_read (Await g v) f e is = (let same : g ≡ e = cc in ap (λ k. k == f) same)
reads_read op f e is = cc

pub reads_none : (op : Act) (f : ℕ) → read_event op ≡ None → is_reading_of f op ≡ false
reads_none (Read g) f is = cc
reads_none (Await g v) f is = cc
reads_none op f is = refl

-- what an entry of a read or an await makes of its worker's call

abbrev IsFree : Act → Option CallSoFar → Type 0
IsFree act o = ((is_some o && not (is_go act)) ≡ false) × ((not (is_some o) && is_go act) ≡ false)

pending_adds : (e : ℕ) (act : Act) (past : List Entry) (o : Option CallSoFar) → is_one_entry_act act ≡ false → IsFree act o
    → one_if e (call_with_act act past o) ≡ one_if e o + cond (is_reading_of e act) 1 0
pending_adds e Go past None other free = (let busy = free.1 in cc)
pending_adds e Go past (Some call) other free = omega arith
pending_adds e (Read f) past None other free = omega arith
pending_adds e (Await f v) past None other free = omega arith
pending_adds e (Read f) past (Some call) other free = (let busy = free.0 in cc)
pending_adds e (Await f v) past (Some call) other free = (let busy = free.0 in cc)
pending_adds e act past o other free = cc

-- 1 if an entry with this act ends a call that was pending on e
abbrev pub left_on : ℕ → Act → Call → ℕ
left_on e act c = cond (is_go act && is_reading_of e c.op) 1 0

told_leaves : (t : Tables) (e : ℕ) (x : Entry) (act : Act) (past : List Entry) (o : Option CallSoFar) (c : Call) → is_one_entry_act act ≡ false → IsFree act o → is_pending x.reply ≡ false
    → ended_by t x (call_with_act act past o) ≡ c ∷ [] → one_if e o ≡ left_on e act c
told_leaves t e x Go past None c other free returned is = cc
told_leaves t e x Go past (Some call) c other free returned is =
    let the = call_of_entries t x call.op (past ∷ call.moments) in
    let same : the ∷ [] ≡ c ∷ [] = sym (ap (λ b. cond b [] (the ∷ [])) returned) ∙ is in
    let op : call.op ≡ c.op = cc in
    ap (λ op. cond (is_reading_of e op) 1 0) op
told_leaves t e x (Read f) past None c other free returned is = refl
told_leaves t e x (Await f v) past None c other free returned is = refl
told_leaves t e x (Read f) past (Some call) c other free returned is = (let busy = free.0 in cc)
told_leaves t e x (Await f v) past (Some call) c other free returned is = (let busy = free.0 in cc)
told_leaves t e x act past o c other free returned is = cc

-- whether the reply to an entry is Pending, by what it ends
some_gone : (act : Act) (past : List Entry) (o : Option CallSoFar) → is_one_entry_act act ≡ false → IsFree act o → (call : CallSoFar) × (call_with_act act past o ≡ Some call)
some_gone Go past None other free = (let busy = free.1 in cc)
some_gone Go past (Some call) other free = (record { op = call.op; moments = past ∷ call.moments }, refl)
some_gone (Read f) past o other free = (record { op = Read f; moments = past ∷ [] }, refl)
some_gone (Await f v) past o other free = (record { op = Await f v; moments = past ∷ [] }, refl)
some_gone act past o other free = cc

told_pending : (t : Tables) (x : Entry) (call : CallSoFar) → ended_by t x (Some call) ≡ [] → is_pending x.reply ≡ true
told_pending t x call none =
    elim (is_pending x.reply) as (λ b. cond b [] (call_of_entries t x call.op call.moments ∷ []) ≡ [] → b ≡ true) [
      | true ↦ λ h. refl
      | false ↦ λ h. cc
    ] none

pub told_final : (t : Tables) (x : Entry) (o : Option CallSoFar) (c : Call) → ended_by t x o ≡ c ∷ [] → is_pending x.reply ≡ false
told_final t x None c is = cc
told_final t x (Some call) c is =
    elim (is_pending x.reply) as (λ b. cond b [] (call_of_entries t x call.op call.moments ∷ []) ≡ c ∷ [] → b ≡ false) [
      | true ↦ λ h. cc
      | false ↦ λ h. refl
    ] is

pub few_workers : (t : Tables) (x : Entry) (past : List Entry) → IsDeclared t → IsAccepted t (x ∷ past) → x.worker < 16
few_workers t x past d acc =
    let k = (allowed t past x.worker x.act x.reply acc.0).0 in
    let below : x.worker < t.workers = leb-false t.workers x.worker k.declared in
    let few : t.workers ≤ 16 = d.few_workers in
    omega arith

free_at : (t : Tables) (x : Entry) (past : List Entry) → IsAccepted t (x ∷ past) → IsFree x.act (under_way x.worker past)
free_at t x past acc = (let k = (allowed t past x.worker x.act x.reply acc.0).0 in (k.free, k.going))

-- WITH ONE MORE ENTRY

-- a whole call
pub readers_whole : (t : Tables) (e : ℕ) (x : Entry) (past : List Entry) → IsDeclared t → IsAccepted t (x ∷ past) → is_one_entry_call x ≡ true → readers e (x ∷ past) ≡ readers e past
readers_whole t e x past d acc whole = readers_same e x past (λ w. whole_leaves t x past w d acc whole)

-- an entry of a read or an await, if it ends no call
pub readers_begun : (t : Tables) (e : ℕ) (x : Entry) (past : List Entry) → IsDeclared t → IsAccepted t (x ∷ past) → is_one_entry_act x.act ≡ false → ended_by t x (call_with x past) ≡ []
    → readers e (x ∷ past) ≡ readers e past + cond (is_reading_of e x.act) 1 0
readers_begun t e x past d acc other none =
    let o = under_way x.worker past in
    let free : IsFree x.act o = free_at t x past acc in
    let gone = some_gone x.act past o other free in
    let pending : is_pending x.reply ≡ true = told_pending t x gone.0 (sym (ap (ended_by t x) gone.1) ∙ none) in
    let after : under_way x.worker (x ∷ past) ≡ call_with x past = call_own x past ∙ ap (λ b. cond b (call_with x past) None) pending in
    let more : one_if e (under_way x.worker (x ∷ past)) ≡ one_if e o + cond (is_reading_of e x.act) 1 0 = ap (one_if e) after ∙ pending_adds e x.act past o other free in
    let next : readers e (x ∷ past) + one_if e o ≡ readers e past + one_if e (under_way x.worker (x ∷ past)) = readers_next e x past (few_workers t x past d acc) in
    omega arith

-- an entry of a read or an await, if it ends one
pub readers_told : (t : Tables) (e : ℕ) (x : Entry) (past : List Entry) (c : Call) → IsDeclared t → IsAccepted t (x ∷ past) → is_one_entry_act x.act ≡ false → ended_by t x (call_with x past) ≡ c ∷ []
    → readers e (x ∷ past) + left_on e x.act c ≡ readers e past
readers_told t e x past c d acc other is =
    let o = under_way x.worker past in
    let final : is_pending x.reply ≡ false = told_final t x (call_with x past) c is in
    let after : one_if e (under_way x.worker (x ∷ past)) ≡ 0 = ap (one_if e) (call_own x past ∙ ap (λ b. cond b (call_with x past) None) final) in
    let was : one_if e o ≡ left_on e x.act c = told_leaves t e x x.act past o c other (free_at t x past acc) final is in
    let next : readers e (x ∷ past) + one_if e o ≡ readers e past + one_if e (under_way x.worker (x ∷ past)) = readers_next e x past (few_workers t x past d acc) in
    omega arith
