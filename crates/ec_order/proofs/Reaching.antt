-- The point of a read or an await is where the index of the advances says.
use Rattle.std.proofs.Common.{◌≡◌, ℕ, zero, suc, ◌+◌, ◌-◌, ◌<◌, ◌≤◌, inl, inr, max, Bool, true, false, List, [], ◌∷◌, ◌++◌, length, refl, ap, sym, ◌∙◌, arith, cond, ◌==◌, nat_le, get_or, length-append, append-nil}
use Rattle.std.proofs.lemmas.Bool.{leb-true, eq-eqb, ne_eqb, cases_lt, lt-leb, le-leb}
use Rattle.std.proofs.lemmas.List.{get_or_append_left, get_or_push}
use Rattle.ec_core.specs.declared.act.Entry.{Entry}
use Rattle.ec_core.specs.Counts.{total, is_advance}
use Rattle.ec_core.specs.Rounds.{event_or}
use Rattle.ec_numbers.specs.Numbers.{NumberListModel}
use Rattle.ec_order.specs.declared.call.Call.{Call}
use Rattle.ec_order.specs.declared.placed.Placed.{Placed}
use Rattle.ec_order.specs.Calls.{is_reading}
use Rattle.ec_core.specs.CallLists.{reply_number}
use Rattle.ec_order.specs.Points.{first_entries, first_moment, point_of, with_point}
use Rattle.ec_order.specs.Index.{advance_moments, moment_of_advance, moments_in, IsIndex, point_by, point_in, placed_in}
use Rattle.ec_order.proofs.Points.{first_at, first_next}
use Rattle.ec_order.proofs.Fits.{Fits, acts_there}

pub total_upto : (e k : ℕ) (past : List Entry) → total e (first_entries k past) ≤ total e past
unfolding total first_entries
total_upto e k [] = omega arith
total_upto e k (x ∷ past) =
    elim (nat_le k (length past)) as (λ b. total e (cond b (first_entries k past) (x ∷ past)) ≤ cond (is_advance e x.act) 1 0 + total e past) [
      | true ↦ (let up : total e (first_entries k past) ≤ total e past = total_upto e k past in omega arith)
      | false ↦ omega arith
    ]

pub first_all : (k : ℕ) (past : List Entry) → length past ≤ k → first_entries k past ≡ past
unfolding first_entries
first_all k [] h = refl
first_all k (x ∷ past) h = ap (λ b. cond b (first_entries k past) (x ∷ past)) (lt-leb k (length past) (omega arith))

pub total_mono : (e j k : ℕ) (past : List Entry) → j ≤ k → total e (first_entries j past) ≤ total e (first_entries k past)
unfolding first_entries
total_mono e j k [] h = omega arith
total_mono e j k (x ∷ past) h =
    elim (nat_le k (length past)) as (λ b. nat_le k (length past) ≡ b → total e (first_entries j (x ∷ past)) ≤ total e (cond b (first_entries k past) (x ∷ past))) [
      | true ↦ λ t. (let le : k ≤ length past = leb-true k (length past) t in rw (first_next j x past (omega arith)) (total_mono e j k past h))
      | false ↦ λ t. total_upto e j (x ∷ past)
    ] refl

pub length_advanced : (e : ℕ) (past : List Entry) → length (advance_moments e past) ≡ total e past
unfolding advance_moments total
length_advanced e [] = refl
length_advanced e (x ∷ past) =
    elim (is_advance e x.act) as (λ b. length (advance_moments e past ++ cond b ((length past + 1) ∷ []) []) ≡ cond b 1 0 + total e past) [
      | true ↦ (let rest : length (advance_moments e past) ≡ total e past = length_advanced e past in omega (arith, length-append (advance_moments e past) ((length past + 1) ∷ [])))
      | false ↦ (let rest : length (advance_moments e past) ≡ total e past = length_advanced e past in omega (arith, length-append (advance_moments e past) []))
    ]

-- m is the first moment at which the total is r
pub record IsReached (e r : ℕ) (past : List Entry) (m : ℕ) : Type 0 where
  pub within : m ≤ length past
  pub number : total e (first_entries m past) ≡ r
  pub before : (j : ℕ) → j < m → total e (first_entries j past) < r

reached_later : (e r m : ℕ) (x : Entry) (past : List Entry) → IsReached e r past m → IsReached e r (x ∷ past) m
reached_later e r m x past h =
    (let le : m ≤ length past = h.within in
    record {
      within = omega arith;
      number = ap (total e) (first_next m x past le) ∙ h.number;
      before = λ j lt. rw (first_next j x past (omega arith)) (h.before j lt);
    })

reached_now : (e r : ℕ) (x : Entry) (past : List Entry) → is_advance e x.act ≡ true → r ≡ suc (total e past) → IsReached e r (x ∷ past) (length past + 1)
unfolding total
reached_now e r x past h same =
    let next : length past + 1 ≡ suc (length past) = omega arith in
    let one : ℕ = cond (is_advance e x.act) 1 0 in
    let count : one ≡ 1 = ap (λ b. cond b (suc zero) zero) h in
    record {
      within = omega arith;
      number = ap (λ k. total e (first_entries k (x ∷ past))) next ∙ ap (total e) (first_at (x ∷ past)) ∙ (ap (λ k. k + total e past) count ∙ (let sum : 1 + total e past ≡ r = omega arith in sum));
      before = λ j lt. rw (first_next j x past (omega arith)) (let up : total e (first_entries j past) ≤ total e past = total_upto e j past in omega arith);
    }

first_none : (past : List Entry) → first_entries 0 past ≡ []
unfolding first_entries
first_none [] = refl
first_none (x ∷ past) = ap (λ b. cond b (first_entries 0 past) (x ∷ past)) (le-leb 0 (length past) (omega arith)) ∙ first_none past

-- the moment after the r-th advance
pub reached : (e r : ℕ) (past : List Entry) → r ≤ total e past → IsReached e r past (moment_of_advance (advance_moments e past) r)
unfolding advance_moments total
reached e zero past h = record { within = omega arith; number = (let none : total e (first_entries 0 past) ≡ 0 = ap (total e) (first_none past) in none); before = λ j lt. absurd (omega arith) }
reached e (suc r) [] h = absurd (omega arith)
reached e (suc r) (x ∷ past) h =
    elim (is_advance e x.act) as (λ b. is_advance e x.act ≡ b → suc r ≤ cond b 1 0 + total e past → IsReached e (suc r) (x ∷ past) (get_or (advance_moments e past ++ cond b ((length past + 1) ∷ []) []) r 0)) [
      | true ↦ λ is le.
          (let long : length (advance_moments e past) ≡ total e past = length_advanced e past in
          elim (cases_lt r (total e past)) [
            | inl lt ↦
                (let at : get_or (advance_moments e past ++ (length past + 1) ∷ []) r 0 ≡ get_or (advance_moments e past) r 0 = get_or_append_left (advance_moments e past) ((length past + 1) ∷ []) 0 r (omega arith) in
                rw at (reached_later e (suc r) (get_or (advance_moments e past) r 0) x past (reached e (suc r) past (omega arith))))
            | inr ge ↦
                (let at : get_or (advance_moments e past ++ (length past + 1) ∷ []) r 0 ≡ length past + 1 = get_or_push (advance_moments e past) (length past + 1) 0 r (omega arith) in
                rw at (reached_now e (suc r) x past is (omega arith)))
          ])
      | false ↦ λ is le.
          (let none : advance_moments e past ++ [] ≡ advance_moments e past =
          append-nil (advance_moments e past) in
          rw none (reached_later e (suc r) (get_or (advance_moments e past) r 0) x past (reached e (suc r) past (omega arith))))
    ] refl h

-- only one moment is the first to pass
first_unique : (test : ℕ → Bool) (m k n : ℕ) → test m ≡ true → k ≤ m → m ≤ k + n → ((j : ℕ) → k ≤ j → j < m → test j ≡ false) → first_moment test k n ≡ m
unfolding first_moment
first_unique test m k zero is low high before = omega arith
first_unique test m k (suc n) is low high before =
    elim (cases_lt k m) [
      | inl lt ↦ ap (λ b. cond b k (first_moment test (k + 1) n)) (before k (omega arith) lt) ∙ first_unique test m (k + 1) n is (omega arith) (omega arith) (λ j a b. before j (omega arith) b)
      | inr ge ↦
          (let same : m ≡ k = omega arith in
          ap (λ b. cond b k (first_moment test (k + 1) n)) (ap test (sym same) ∙ is) ∙ sym same)
    ]

pub not_later : (f : ℕ → ℕ) (r m k : ℕ) → ((j : ℕ) → j < m → f j < r) → r ≤ f k → m ≤ k
not_later f r m k before le =
    elim (cases_lt k m) [
      | inl lt ↦ (let less : f k < r = before k lt in absurd (omega arith))
      | inr ge ↦ ge
    ]

at_greater : (f : ℕ → ℕ) (r a b : ℕ) → (a ≤ b → f b ≡ r) → (b < a → f a ≡ r) → f (max a b) ≡ r
at_greater f r a b h g =
    elim (cases_lt b a) [
      | inl lt ↦ (let m : max a b ≡ a = omega arith in rw m (g lt))
      | inr ge ↦ (let m : max a b ≡ b = omega arith in rw m (h ge))
    ]

-- the point of a completed call, by the index
pub point_is : (past : List Entry) (c : Call) → Fits past c → point_of past c ≡ point_by (advance_moments (event_or c.op) past) c
point_is past c f =
    elim (is_reading c.op) as (λ b. is_reading c.op ≡ b → point_of past c ≡ cond b (max c.round (moment_of_advance (advance_moments (event_or c.op) past) (reply_number c.reply))) c.last) [
      | true ↦ λ r.
          (let e = event_or c.op in
          let n = reply_number c.reply in
          let total_at : ℕ → ℕ = λ k. total e (first_entries k past) in
          let low : total_at c.round ≤ n = f.low r in
          let high : n ≤ total_at c.last = f.high r in
          let order : c.round ≤ c.last = f.round in
          let up : total_at c.last ≤ total e past = total_upto e c.last past in
          let here : IsReached e n past (moment_of_advance (advance_moments e past) n) = reached e n past (omega arith) in
          let m = moment_of_advance (advance_moments e past) n in
          let at : total_at m ≡ n = here.number in
          let before_last : m ≤ c.last = not_later total_at n m c.last here.before high in
          let is : total_at (max c.round m) ≡ n = at_greater total_at n c.round m (λ le. at)
          (λ lt. (let mono : total_at m ≤ total_at c.round = total_mono e m c.round past (omega arith) in omega arith)) in
          ap (λ b. cond b (first_moment (λ j. total_at j == n) c.round (c.last - c.round)) c.last) r
          ∙ first_unique (λ j. total_at j == n) (max c.round m) c.round (c.last - c.round) (eq-eqb (total_at (max c.round m)) n is) (omega arith) (omega arith)
          (λ j a b. ne_eqb (total_at j) n (λ same. (let less : total_at j < n = here.before j (omega arith) in omega arith))))
      | false ↦ λ r. acts_there past c r
    ] refl

-- a call is placed as the index says
pub placed_is : (past : List Entry) (lists : List NumberListModel) (c : Call) → IsIndex past lists → Fits past c → placed_in lists c ≡ with_point past c
placed_is past lists c index f =
    let at : ℕ → Placed = λ k. record { call = c; point = k } in
    let same : point_in lists c ≡ point_of past c =
    elim (is_reading c.op) as (λ b. is_reading c.op ≡ b → point_in lists c ≡ point_of past c) [
      | true ↦ λ r. ap (λ ms. point_by ms c) (index (event_or c.op) (f.known r)) ∙ sym (point_is past c f)
      | false ↦ λ r. ap (λ b. cond b (max c.round (moment_of_advance (moments_in lists (event_or c.op)) (reply_number c.reply))) c.last) r ∙ sym (acts_there past c r)
    ] refl in
    ap at same
