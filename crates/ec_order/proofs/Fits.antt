-- Each completed call of an accepted history has its positions in order, and a point between them.
use Rattle.std.proofs.Common.{◌≡◌, ◌≢◌, ℕ, zero, suc, ◌+◌, ◌-◌, ◌%◌, ◌<◌, ◌≤◌, inl, inr, Bool, true, false, List, [], ◌∷◌, length, refl, ap, sym, ◌∙◌, arith, cond, subst, ◌==◌, take, get_or}
use Rattle.std.specs.List.{All}
use Rattle.std.proofs.lemmas.Bool.{cases_eq, eqb-false}
use Rattle.std.proofs.lemmas.List.{length-take-le}
use Rattle.std.proofs.lemmas.List.Elements.{All-nil, All-cons, All-append, All-weaker}
use Rattle.std.proofs.Math.Nat.{mod-le}
use Rattle.ec_count.specs.Tables.{Tables, IsDeclared}
use Rattle.ec_core.specs.declared.act.Act.{Act}
use Rattle.ec_core.specs.declared.act.Entry.{Entry}
use Rattle.ec_core.specs.Counts.{total}
use Rattle.ec_core.specs.Calls.{under_way, call_with_act}
use Rattle.ec_core.specs.Rounds.{event_or, component_count, sum_read, IsPastOf, IsPastOfEach, EachIsPastOf}
use Rattle.ec_core.specs.Acceptance.{IsAccepted}
use Rattle.ec_core.proofs.shared.Moments.{accepted_before}
use Rattle.ec_core.proofs.shared.Totals.{round_between}
use Rattle.ec_order.specs.declared.call.Call.{Call}
use Rattle.ec_order.specs.Calls.{call_of_entries, ended_by, finished_calls, is_reading}
use Rattle.ec_core.specs.CallLists.{reply_number}
use Rattle.ec_order.specs.Points.{first_entries, first_moment, point_of}
use Rattle.ec_core.specs.Rounds.{position_of}
use Rattle.ec_core.proofs.shared.Pasts.{past_itself}
use Rattle.ec_order.proofs.Chains.{past_next, past_shorter, IsChain, chain_at, chain_between, chain_each, chain_of_each}
use Rattle.ec_core.proofs.shared.CallRounds.{sum_taken as sum_take}
use Rattle.ec_order.proofs.Points.{first_next, first_of_past, total_step, first_is}
use Rattle.ec_order.proofs.Ends.{IsReturned, EndsRound, Ends, ends}

-- what is known of each completed call of a past
pub record Fits (past : List Entry) (c : Call) : Type 0 where
  pub began : c.first ≤ c.round
  pub round : c.round ≤ c.last
  pub last : c.last < length past
  pub low : is_reading c.op ≡ true → total (event_or c.op) (first_entries c.round past) ≤ reply_number c.reply
  pub high : is_reading c.op ≡ true → reply_number c.reply ≤ total (event_or c.op) (first_entries c.last past)
  pub returned : is_reading c.op ≡ true → IsReturned c.op c.reply
  pub known : is_reading c.op ≡ true → event_or c.op < 32

pub fits_later : (x : Entry) (past : List Entry) (c : Call) → Fits past c → Fits (x ∷ past) c
fits_later x past c f =
    (let a : c.round ≤ c.last = f.round in
    let b : c.last < length past = f.last in
    let low : first_entries c.round (x ∷ past) ≡ first_entries c.round past = first_next c.round x past (omega arith) in
    let high : first_entries c.last (x ∷ past) ≡ first_entries c.last past = first_next c.last x past (omega arith) in
    record {
      began = f.began;
      round = f.round;
      last = omega arith;
      low = λ r. rw low (f.low r);
      high = λ r. rw high (f.high r);
      returned = f.returned;
      known = f.known;
    })

-- the two bounds on a round's sum
round_bounds : (t : Tables) (e i : ℕ) (past : List Entry) (rest : List (List Entry)) → IsAccepted t past → IsChain past rest
    → suc i ≡ component_count t e → i ≤ length rest
    → (total e (get_or (past ∷ rest) i []) ≤ sum_read t e (component_count t e) (past ∷ rest)) × (sum_read t e (component_count t e) (past ∷ rest) ≤ total e past)
round_bounds t e i past rest acc chain whole in' =
    let ms = past ∷ rest in
    let early = get_or ms i [] in
    let all : IsChain past ms = (past_itself past, chain) in
    let p : IsPastOf early past = chain_at past ms i all (omega arith) in
    let acc_early : IsAccepted t early = accepted_before t p.since early (subst (IsAccepted t) p.is acc) in
    let P : ℕ → Type 0 = λ n. IsPastOfEach early (take n ms) in
    let low : IsPastOfEach early (take (component_count t e) ms) = subst P whole (chain_of_each past ms i all (omega arith)) in
    let high : EachIsPastOf (take (component_count t e) ms) past =
    chain_each past ms (component_count t e) all in
    let long : length (take (component_count t e) ms) ≡ component_count t e = length-take-le (component_count t e) ms (omega arith) in
    let b = round_between t e early past (take (component_count t e) ms) acc_early acc long low high in
    let Q : ℕ → Type 0 = λ s. (total e early ≤ s) × (s ≤ total e past) in
    subst Q (sum_take t e (component_count t e) ms) b

reading_fits : (t : Tables) (x : Entry) (past : List Entry) (op : Act) (rest : List (List Entry)) → IsAccepted t past → IsChain past rest → event_or op < 32
    → EndsRound t op past rest x.reply → Fits (x ∷ past) (call_of_entries t x op (past ∷ rest))
reading_fits t x past op rest acc chain known r =
    let ms = past ∷ rest in
    let n = component_count t (event_or op) in
    let one : suc (length rest) - 1 ≡ length rest = omega arith in
    let i = length rest % n in
    let within : i ≤ length rest = mod-le (length rest) n in
    let all : IsChain past ms = (past_itself past, chain) in
    let b = round_bounds t (event_or op) i past rest acc chain r.whole within in
    let e = event_or op in
    let begun : position_of ms (length rest) ≤ position_of ms i = past_shorter _ _ (chain_between past ms i (length rest) all within (omega arith)) in
    let p : IsPastOf (get_or ms i []) past = chain_at past ms i all (omega arith) in
    let ended' : position_of ms i ≤ length past = past_shorter _ _ p in
    let early : first_entries (position_of ms i) (x ∷ past) ≡ get_or ms i [] = first_of_past (get_or ms i []) (x ∷ past) (past_next x (get_or ms i []) past p) in
    let late : first_entries (length past) (x ∷ past) ≡ past = first_of_past past (x ∷ past) (past_next x past past (past_itself past)) in
    let low : total e (first_entries (position_of ms i) (x ∷ past)) ≤ reply_number x.reply = rw (early, r.number) b.0 in
    let high : reply_number x.reply ≤ total e (first_entries (length past) (x ∷ past)) = rw (late, r.number) b.1 in
    let T : ℕ → Type 0 = λ k. Fits (x ∷ past) (record { worker = x.worker; op = op; reply = x.reply; first = position_of ms k; round = position_of ms (k % n); last = length past }) in
    subst T (sym one) (record { began = begun; round = ended'; last = omega arith; low = λ _. low; high = λ _. high; returned = λ _. r.returned; known = λ _. known })

acting_fits : (t : Tables) (x : Entry) (past : List Entry) (op : Act) → is_reading op ≡ false → Fits (x ∷ past) (call_of_entries t x op (past ∷ []))
acting_fits t x past op h =
    let n = component_count t (event_or op) in
    let zero_mod : 0 % n ≡ 0 = (let le : 0 % n ≤ 0 = mod-le 0 n in omega arith) in
    let T : ℕ → Type 0 = λ k. Fits (x ∷ past) (record { worker = x.worker; op = op; reply = x.reply; first = length past; round = position_of (past ∷ []) k; last = length past }) in
    subst T (sym zero_mod) (record { began = omega arith; round = omega arith; last = omega arith; low = λ r. cc; high = λ r. cc; returned = λ r. cc; known = λ r. cc })

ended_fits : (t : Tables) (x : Entry) (past : List Entry) → IsAccepted t past → Ends t x past (under_way x.worker past)
    → All (Fits (x ∷ past)) (ended_by t x (call_with_act x.act past (under_way x.worker past)))
ended_fits t x past acc (inl n) = rw n.is (All-nil (Fits (x ∷ past)))
ended_fits t x past acc (inr (inl r)) = rw r.is (All-cons (Fits (x ∷ past)) (call_of_entries t x r.op (past ∷ r.rest)) [] (reading_fits t x past r.op r.rest acc r.chain r.known r.round) (All-nil (Fits (x ∷ past))))
ended_fits t x past acc (inr (inr a)) = rw a.is (All-cons (Fits (x ∷ past)) (call_of_entries t x x.act (past ∷ [])) [] (acting_fits t x past x.act a.acting) (All-nil (Fits (x ∷ past))))

pub all_fit : (t : Tables) (past : List Entry) → IsDeclared t → IsAccepted t past → All (Fits past) (finished_calls t past)
unfolding finished_calls
all_fit t [] d acc = All-nil (Fits [])
all_fit t (x ∷ past) d acc =
    All-append (Fits (x ∷ past)) (finished_calls t past) (ended_by t x (call_with_act x.act past (under_way x.worker past)))
    (All-weaker (Fits past) (Fits (x ∷ past)) (fits_later x past) (finished_calls t past) (all_fit t past d acc.1))
    (ended_fits t x past acc.1 (ends t x past d acc))

-- the point of a completed read or await is between the start of its last round and its response,
-- and the total is its answer then
pub record HasPoint (past : List Entry) (c : Call) : Type 0 where
  pub total : total (event_or c.op) (first_entries (point_of past c) past) ≡ reply_number c.reply
  pub low : c.round ≤ point_of past c
  pub high : point_of past c ≤ c.last

pub has_point : (past : List Entry) (c : Call) → Fits past c → is_reading c.op ≡ true → HasPoint past c
has_point past c f r =
    let e = event_or c.op in
    let a : c.round ≤ c.last = f.round in
    let b : c.last < length past = f.last in
    let whole : c.round + (c.last - c.round) ≡ c.last = omega arith in
    let high : reply_number c.reply ≤ total e (first_entries (c.round + (c.last - c.round)) past) = rw whole (f.high r) in
    let k = first_is (λ j. total e (first_entries j past)) (reply_number c.reply) c.round (c.last - c.round) (f.low r) high (λ j l h. total_step e j past (omega arith)) in
    let same : point_of past c ≡ first_moment (λ j. total e (first_entries j past) == reply_number c.reply) c.round (c.last - c.round) = ap (λ b. cond b (first_moment (λ j. total e (first_entries j past) == reply_number c.reply) c.round (c.last - c.round)) c.last) r in
    record {
      total = ap (λ j. total e (first_entries j past)) same ∙ k.0;
      low = rw same k.1;
      high = rw same (rw whole at k.2);
    }

-- the point of any other completed call is its position
pub acts_there : (past : List Entry) (c : Call) → is_reading c.op ≡ false → point_of past c ≡ c.last
acts_there past c r = ap (λ b. cond b (first_moment (λ j. total (event_or c.op) (first_entries j past) == reply_number c.reply) c.round (c.last - c.round)) c.last) r

-- the bounds of a point
pub point_bounds : (past : List Entry) (c : Call) → Fits past c → (c.first ≤ point_of past c) × (point_of past c ≤ c.last) × (point_of past c < length past)
point_bounds past c f =
    elim (is_reading c.op) as (λ b. is_reading c.op ≡ b → (c.first ≤ point_of past c) × (point_of past c ≤ c.last) × (point_of past c < length past)) [
      | true ↦ λ r. (let p = has_point past c f r in
          let a : c.first ≤ c.round = f.began in
          let low : c.round ≤ point_of past c = p.low in
          let high : point_of past c ≤ c.last = p.high in
          let last : c.last < length past = f.last in
          (omega arith, omega arith, omega arith))
      | false ↦ λ r. (let p : point_of past c ≡ c.last = acts_there past c r in
          let a : c.first ≤ c.round = f.began in
          let b : c.round ≤ c.last = f.round in
          let last : c.last < length past = f.last in
          (omega arith, omega arith, omega arith))
    ] refl

first_before : (test : ℕ → Bool) (k n j : ℕ) → k ≤ j → j < first_moment test k n → test j ≡ false
unfolding first_moment
first_before test k zero j low high = absurd (omega arith)
first_before test k (suc n) j low high =
    elim (test k) as (λ b. test k ≡ b → j < cond b k (first_moment test (k + 1) n) → test j ≡ false) [
      | true ↦ λ e h. absurd (omega arith)
      | false ↦ λ e h.
          (elim (cases_eq k j) [
            | inl same ↦ ap test (sym same) ∙ e
            | inr other ↦ first_before test (k + 1) n j (omega arith) h
          ])
    ] refl high

-- no moment between the last round's start and the point had that total
pub point_least : (past : List Entry) (c : Call) → is_reading c.op ≡ true → (j : ℕ) → c.round ≤ j → j < point_of past c → total (event_or c.op) (first_entries j past) ≢ reply_number c.reply
point_least past c r j low below =
    let f : ℕ → Bool = λ k. total (event_or c.op) (first_entries k past) == reply_number c.reply in
    let same : point_of past c ≡ first_moment f c.round (c.last - c.round) = ap (λ b. cond b (first_moment f c.round (c.last - c.round)) c.last) r in
    eqb-false (total (event_or c.op) (first_entries j past)) (reply_number c.reply) (first_before f c.round (c.last - c.round) j low (rw same at below))
