-- The order of a scan whose slots are all taken is legal.
use Rattle.std.proofs.Common.{◌≡◌, ℕ, suc, ◌+◌, ◌<◌, ◌≤◌, inl, inr, Bool, true, false, ◌==◌, nat_le}
use Rattle.std.proofs.Common.{List, [], ◌∷◌, ◌++◌, length, Option, Some, None, refl, ap, sym, ◌∙◌}
use Rattle.std.proofs.Common.{arith, cond, subst, append_assoc, append-nil}
use Rattle.std.specs.List.{filter, cons_option}
use Rattle.std.specs.Option.{IfSome, option_to_list}
use Rattle.std.specs.List.Sorted.{IsPermutation}
use Rattle.std.proofs.lemmas.Bool.{eqb-true, ne_eqb, eq-eqb, le-leb, lt-leb, cases_order}
use Rattle.std.proofs.lemmas.List.{map-append, length-map}
use Rattle.std.proofs.lemmas.List.Sorted.{IsPermutation-refl, IsPermutation-cons}
use Rattle.std.proofs.lemmas.List.Sorted.{IsPermutation-trans, IsPermutation-sym}
use Rattle.std.proofs.lemmas.List.Sorted.{IsPermutation-middle, IsPermutation-append_left}
use Rattle.std.proofs.lemmas.List.Sorted.{IsPermutation-append_right, IsPermutation-append_comm}
use Rattle.std.proofs.lemmas.List.Sorted.{IsPermutation-map}
use Rattle.calls_core.specs.declared.history.Op.TheVariants.{Advance}
use Rattle.calls_core.specs.declared.history.Reply.TheVariants.{Done}
use Rattle.calls_core.specs.declared.history.Call.{Call}
use Rattle.calls_counts.specs.declared.state.Slot.{Slot}
use Rattle.calls_counts.specs.declared.state.PlacedRead.{PlacedRead}
use Rattle.calls_counts.specs.CountRuns.{CountGives, count_after, IsCountRun, IsCountOrder}
use Rattle.calls_counts.specs.Faults.{is_advance}
use Rattle.calls_core.specs.Lists.{Each, EachFrom, EachPair}
use Rattle.calls_counts.specs.ScanStates.{free, taken_calls, placed_calls, moments, Fits, IsSlotAt}
use Rattle.calls_counts.specs.ScanStates.{Rises, IsPlaced, IsReadAt, Enough, IsState}
use Rattle.calls_counts.specs.kept.Orders.{reads_at, reads_from, order_from, IsOrdering}
use Rattle.calls_core.proofs.Counting.{one_no}
use Rattle.calls_core.specs.Linearizations.{KeepsOrder}
use Rattle.calls_counts.proofs.Necessity.{after_one}
use Rattle.calls_core.proofs.Lists.{each_weaker, each_append, each_map, each_both, each_from_none}
use Rattle.calls_core.proofs.Lists.{each_filter, each_pair_append, each_pair_filter, each_pair_map}
use Rattle.calls_core.proofs.Lists.{each_pair_weaker, all_pairs_from_each}
use Rattle.calls_core.specs.declared.pending.NotedCall.{NotedCall}

-- WHAT A SLOT AND A READ HAVE

pub record Full (s : Slot) : Type 0 where
  pub call : Call
  pub is : s.taken ≡ Some call
  pub op : call.op ≡ Advance
  pub reply : call.reply ≡ Done
  pub first : call.first < s.moment
  pub last : s.moment ≤ call.last

pub full_slot : (t : ℕ) (s : Slot) → free s.taken ≡ false → IfSome s.taken (Fits t s.moment)
    → Full s
full_slot t s f h = go s.taken refl f h
  where
    go : (o : Option Call) → s.taken ≡ o → free o ≡ false → IfSome o (Fits t s.moment) → Full s
    go None e f h = absurd (cc)
    go (Some c) e f h = record {
      call = c;
      is = e;
      op = h.op;
      reply = h.reply;
      first = h.first;
      last = h.last;
    }

-- THE ORDER IS A LEGAL SEQUENTIAL HISTORY

run_reads : (n : ℕ) (ps : List PlacedRead) (cs : List Call)
    → Each (λ (p : PlacedRead). (is_advance p.call.op ≡ false)
    × CountGives n p.call.op p.call.reply) ps → IsCountRun n cs
    → IsCountRun n (placed_calls ps ++ cs)
run_reads n [] cs h r = r
run_reads n (p ∷ ps) cs h r =
    let same : n ≡ count_after n p.call.op = omega (
      arith,
      after_one n p.call.op,
      one_no
          (is_advance p.call.op) h.0.0,
    ) in
    (h.0.1, subst (λ k. IsCountRun k (placed_calls ps ++ cs)) same (run_reads n ps cs h.1 r))

abbrev Answered : ℕ → ℕ → PlacedRead → Type 0
Answered start top p = (is_advance p.call.op ≡ false) × CountGives (start + p.place) p.call.op
    p.call.reply × (p.place ≤ top)

given_at : (start n : ℕ) (p : PlacedRead) → is_advance p.call.op ≡ false
    → CountGives (start + p.place) p.call.op p.call.reply → p.place ≡ n
    → (is_advance p.call.op ≡ false) × CountGives (start + n) p.call.op p.call.reply
given_at start n p reading gives e = (
  reading,
  subst (λ k.
      CountGives (start + k) p.call.op p.call.reply) e gives,
)

run_from : (start k : ℕ) (slots : List Slot) (reads : List PlacedRead) → Each Full slots
    → Each (Answered start (k + length slots)) reads → IsCountRun (start + k)
    (order_from k slots reads)
run_from start k [] reads full returned =
    let ps = filter (λ (p : PlacedRead). p.place == k) reads in
    subst (IsCountRun (start + k)) (append-nil (placed_calls ps))
    (run_reads (start + k) ps []
    (each_weaker (λ p. Answered start (k + 0) p × ((p.place == k) ≡ true))
    (λ (p : PlacedRead). (is_advance p.call.op ≡ false)
    × CountGives (start + k) p.call.op p.call.reply) (λ p h.
    given_at start k p h.0.0 h.0.1 (eqb-true p.place k h.1)) ps
    (each_filter (Answered start (k + 0)) (λ (p : PlacedRead). p.place == k) reads returned)) tt)
run_from start k (s ∷ slots) reads full returned =
    let ps = filter (λ (p : PlacedRead). p.place == k) reads in
    let c = full.0.call in
    let rest : IsCountRun (start + (k + 1)) (order_from (k + 1) slots reads) =
    run_from start (k + 1) slots reads full.1 (each_weaker (Answered start (k + suc (length slots)))
    (Answered start (k + 1 + length slots)) (λ p h.
    (h.0, h.1, (let le : p.place ≤ k + suc (length slots) = h.2 in omega arith))) reads
    returned) in
    let same : start + (k + 1) ≡ (start + k) + 1 = omega arith in
    let next : start + (k + 1) ≡ count_after (start + k) c.op =
    same ∙ sym (ap (count_after (start + k)) full.0.op) in
    let one_step : CountGives (start + k) c.op c.reply =
    subst (λ o. CountGives (start + k) o c.reply) (sym full.0.op) full.0.reply in
    let run : IsCountRun (start + k) (c ∷ order_from (k + 1) slots reads) =
    (one_step, subst (λ n. IsCountRun n (order_from (k + 1) slots reads)) next rest) in
    run_reads (start + k) ps (option_to_list s.taken ++ order_from (k + 1) slots reads)
    (each_weaker (λ p. Answered start (k + suc (length slots)) p × ((p.place == k) ≡ true))
    (λ (p : PlacedRead). (is_advance p.call.op ≡ false)
    × CountGives (start + k) p.call.op p.call.reply)
    (λ p h. given_at start k p h.0.0 h.0.1 (eqb-true p.place k h.1)) ps
    (each_filter (Answered start (k + suc (length slots))) (λ (p : PlacedRead). p.place == k) reads
    returned))
    (subst (λ o. IsCountRun (start + k) (option_to_list o ++ order_from (k + 1) slots reads))
    (sym full.0.is) run)

-- THE REAL-TIME ORDER

abbrev LastFrom : ℕ → Call → Type 0
LastFrom m c = m ≤ c.last

-- the calls from place k on return no earlier than m, if their moments are no earlier
late_from : (k m : ℕ) (slots : List Slot) (reads : List PlacedRead) → Each Full slots
    → Each (λ (s : Slot). m ≤ s.moment) slots → Each (λ (p : PlacedRead). k ≤ p.place
    → m ≤ p.call.last) reads → Each (LastFrom m) (order_from k slots reads)
late_from k m [] reads full low h =
    each_map (λ (p : PlacedRead). p.call) (LastFrom m) (filter (λ (p : PlacedRead). p.place == k)
    reads)
    (each_weaker (λ (p : PlacedRead). (k ≤ p.place → m ≤ p.call.last) × ((p.place == k) ≡ true))
    (λ (p : PlacedRead). m ≤ p.call.last) (λ p g. g.0 (let e : p.place ≡ k =
    eqb-true p.place k g.1 in omega arith)) (filter (λ (p : PlacedRead). p.place == k) reads)
    (each_filter (λ (p : PlacedRead). k ≤ p.place → m ≤ p.call.last)
    (λ (p : PlacedRead). p.place == k) reads h))
late_from k m (s ∷ slots) reads full low h =
    let own : m ≤ full.0.call.last = (let a : m ≤ s.moment = low.0 in
    let b : s.moment ≤ full.0.call.last = full.0.last in omega arith) in
    let rest : Each (LastFrom m) (order_from (k + 1) slots reads) =
    late_from (k + 1) m slots reads full.1 low.1 (each_weaker (λ (p : PlacedRead). k ≤ p.place
    → m ≤ p.call.last) (λ (p : PlacedRead). k + 1 ≤ p.place → m ≤ p.call.last) (λ p g le.
    g (omega arith)) reads h) in
    each_append (LastFrom m) (reads_at k reads) (option_to_list s.taken ++ order_from
    (k + 1) slots reads)
    (each_map (λ (p : PlacedRead). p.call) (LastFrom m)
    (filter (λ (p : PlacedRead). p.place == k) reads)
    (each_weaker (λ (p : PlacedRead). (k ≤ p.place → m ≤ p.call.last) × ((p.place == k) ≡ true))
    (λ (p : PlacedRead). m ≤ p.call.last) (λ p g. g.0 (let e : p.place ≡ k =
    eqb-true p.place k g.1 in omega arith)) (filter (λ (p : PlacedRead). p.place == k) reads)
    (each_filter (λ (p : PlacedRead). k ≤ p.place → m ≤ p.call.last)
    (λ (p : PlacedRead). p.place == k) reads h)))
    (subst (λ o. Each (LastFrom m) (option_to_list o ++ order_from (k + 1) slots reads))
    (sym full.0.is) (own, rest))

keeps_later : (m : ℕ) (a : Call) → a.first < m → (b : Call) → LastFrom m b → KeepsOrder a b
keeps_later m a lt b le f = omega arith

Around : ℕ → List Slot → PlacedRead → Type 0
Around k slots p = EachFrom (IsPlaced p.place p.call.first p.call.last) k (moments slots)

reads_keep : (k : ℕ) (reads : List PlacedRead) → EachPair (λ (p q : PlacedRead). p.call.first
    < q.call.last) (filter (λ (p : PlacedRead). p.place == k) reads)
    → EachPair KeepsOrder (reads_at k reads)
reads_keep k reads up =
    each_pair_map (λ (p : PlacedRead). p.call) KeepsOrder
    (filter (λ (p : PlacedRead). p.place == k) reads)
    (each_pair_weaker (λ (p q : PlacedRead). p.call.first < q.call.last)
    (λ (p q : PlacedRead). KeepsOrder p.call q.call) (λ p q lt f. omega arith)
    (filter (λ (p : PlacedRead). p.place == k) reads) up)

keeps_from : (k : ℕ) (slots : List Slot) (reads : List PlacedRead) → Each Full slots
    → EachPair (λ (s z : Slot). s.moment ≤ z.moment) slots → Each (Around k slots) reads
    → ((j : ℕ) → EachPair (λ (p q : PlacedRead). p.call.first < q.call.last)
    (filter (λ (p : PlacedRead). p.place == j) reads))
    → EachPair KeepsOrder (order_from k slots reads)
unfolding Around
keeps_from k [] reads full rises around up = reads_keep k reads (up k)
keeps_from k (s ∷ slots) reads full rises around up =
    let m = s.moment in
    let c = full.0.call in
    let rest = order_from (k + 1) slots reads in
    let late : Each (LastFrom m) rest =
    late_from (k + 1) m slots reads full.1 rises.0
    (each_weaker (Around k (s ∷ slots)) (λ (p : PlacedRead). k + 1 ≤ p.place → m ≤ p.call.last)
    (λ p a le. a.0.0 (omega arith)) reads around) in
    let own : Each (LastFrom m) (c ∷ rest) = (full.0.last, late) in
    let after_it : EachPair KeepsOrder (c ∷ rest) = (
      each_weaker (LastFrom m) (KeepsOrder c) (keeps_later m c full.0.first) rest late,
      keeps_from (k + 1) slots reads full.1 rises.1 (each_weaker (Around k (s ∷ slots))
          (Around (k + 1) slots) (λ p a. a.1) reads around) up,
    ) in
    let ps = filter (λ (p : PlacedRead). p.place == k) reads in
    let early : Each (λ (p : PlacedRead). p.call.first < m) ps =
    each_weaker (λ p. Around k (s ∷ slots) p × ((p.place == k) ≡ true))
    (λ (p : PlacedRead). p.call.first < m) (λ p a. a.0.0.1 (let e : p.place ≡ k =
    eqb-true p.place k a.1 in omega arith)) ps
    (each_filter (Around k (s ∷ slots)) (λ (p : PlacedRead). p.place == k) reads around) in
    subst (λ o. EachPair KeepsOrder (reads_at k reads ++ (option_to_list o ++ rest)))
    (sym full.0.is)
    (each_pair_append KeepsOrder (reads_at k reads) (c ∷ rest)
    (reads_keep k reads (up k))
    after_it
    (each_map (λ (p : PlacedRead). p.call) (λ a. Each (KeepsOrder a) (c ∷ rest)) ps
    (each_weaker (λ (p : PlacedRead). p.call.first < m)
    (λ (p : PlacedRead). Each (KeepsOrder p.call) (c ∷ rest)) (λ p lt.
    each_weaker (LastFrom m) (KeepsOrder p.call) (keeps_later m p.call lt) (c ∷ rest) own) ps
    early)))

-- EACH ONCE

reads_cut : (k : ℕ) (reads : List PlacedRead) → IsPermutation
    (filter (λ (p : PlacedRead). nat_le k p.place) reads)
    (filter (λ (p : PlacedRead). p.place == k) reads ++ filter
    (λ (p : PlacedRead). nat_le (k + 1) p.place) reads)
reads_cut k [] = IsPermutation-refl []
reads_cut k (p ∷ reads) =
    let from = filter (λ (q : PlacedRead). nat_le k q.place) reads in
    let at = filter (λ (q : PlacedRead). q.place == k) reads in
    let next = filter (λ (q : PlacedRead). nat_le (k + 1) q.place) reads in
    let before = reads_cut k reads in
    let goal : Bool → Bool → Bool → Type 0 = λ a b d. IsPermutation (cond a (p ∷ from) from)
    (cond b (p ∷ at) at ++ cond d (p ∷ next) next) in
    let whole : (a b d : Bool) → nat_le k p.place ≡ a → (p.place == k) ≡ b
    → nat_le (k + 1) p.place ≡ d → goal a b d → goal (nat_le k p.place) (p.place == k)
    (nat_le (k + 1) p.place) =
    λ a b d ea eb ed g. subst (λ x. goal x (p.place == k) (nat_le (k + 1) p.place)) (sym ea)
    (subst (λ x. goal a x (nat_le (k + 1) p.place)) (sym eb)
    (subst (λ x. goal a b x) (sym ed) g)) in
    elim (cases_order k p.place) [
      | inl e ↦ whole true true false (le-leb k p.place (omega arith)) (eq-eqb p.place k (sym e))
          (lt-leb (k + 1) p.place (omega arith)) (IsPermutation-cons p from (at ++ next) before)
      | inr (inl lt) ↦ whole true false true (le-leb k p.place (omega arith))
          (ne_eqb p.place k (λ e. omega arith)) (le-leb (k + 1) p.place (omega arith))
          (IsPermutation-trans (p ∷ from) (p ∷ (at ++ next)) (at ++ p ∷ next)
          (IsPermutation-cons p from (at ++ next) before) (IsPermutation-sym (at ++ p ∷ next)
          (p ∷ (at ++ next)) (IsPermutation-middle at p next)))
      | inr (inr gt) ↦ whole false false false (lt-leb k p.place gt) (ne_eqb p.place k (λ e.
          omega arith)) (lt-leb (k + 1) p.place (omega arith)) before
    ]

cons_is : (o : Option Call) (cs : List Call) → cons_option o cs ≡ option_to_list o ++ cs
cons_is None cs = refl
cons_is (Some c) cs = refl

last_same : (k : ℕ) (reads : List PlacedRead) → Each (λ (p : PlacedRead). p.place ≤ k + 0) reads
    → filter (λ (p : PlacedRead). nat_le k p.place) reads ≡ filter
    (λ (p : PlacedRead). p.place == k) reads
last_same k [] h = refl
last_same k (p ∷ reads) h =
    let rest = last_same k reads h.1 in
    let le : p.place ≤ k + 0 = h.0 in
    elim (cases_order p.place k) [
      | inl e ↦ ap (λ b. cond b (p ∷ filter (λ (q : PlacedRead). nat_le k q.place) reads)
          (filter (λ (q : PlacedRead). nat_le k q.place) reads)) (le-leb k p.place (omega arith))
          ∙ ap (λ ps. p ∷ ps) rest
          ∙ sym (ap (λ b. cond b (p ∷ filter (λ (q : PlacedRead). q.place == k) reads)
          (filter (λ (q : PlacedRead). q.place == k) reads)) (eq-eqb p.place k e))
      | inr (inl lt) ↦ ap (λ b. cond b (p ∷ filter (λ (q : PlacedRead). nat_le k q.place) reads)
          (filter (λ (q : PlacedRead). nat_le k q.place) reads)) (lt-leb k p.place lt) ∙ rest
          ∙ sym (ap (λ b. cond b (p ∷ filter (λ (q : PlacedRead). q.place == k) reads)
          (filter (λ (q : PlacedRead). q.place == k) reads)) (ne_eqb p.place k (λ e.
          omega arith)))
      | inr (inr gt) ↦ absurd (omega arith)
    ]

once_from : (k : ℕ) (slots : List Slot) (reads : List PlacedRead)
    → Each (λ (p : PlacedRead). p.place ≤ k + length slots) reads
    → IsPermutation (taken_calls slots ++ reads_from k reads) (order_from k slots reads)
once_from k [] reads low = subst (λ ps. IsPermutation (placed_calls ps) (reads_at k reads))
    (sym (last_same k reads low)) (IsPermutation-refl (reads_at k reads))
once_from k (s ∷ slots) reads low =
    let A = reads_at k reads in
    let B = option_to_list s.taken in
    let C = taken_calls slots in
    let D = reads_from (k + 1) reads in
    let rest = order_from (k + 1) slots reads in
    let cut : IsPermutation (reads_from k reads) (A ++ D) =
    subst (IsPermutation (reads_from k reads)) (map-append (λ (p : PlacedRead). p.call)
    (filter (λ (p : PlacedRead). p.place == k) reads)
    (filter (λ (p : PlacedRead). nat_le (k + 1) p.place) reads))
    (IsPermutation-map (λ (p : PlacedRead). p.call) (filter (λ (p : PlacedRead). nat_le k p.place)
    reads) (filter (λ (p : PlacedRead). p.place == k) reads ++ filter
    (λ (p : PlacedRead). nat_le (k + 1) p.place) reads) (reads_cut k reads)) in
    let one : IsPermutation ((B ++ C) ++ reads_from k reads) ((B ++ C) ++ (A ++ D)) =
    IsPermutation-append_right (B ++ C) (reads_from k reads) (A ++ D) cut in
    let two : IsPermutation (((B ++ C) ++ A) ++ D) ((A ++ (B ++ C)) ++ D) =
    IsPermutation-append_left D ((B ++ C) ++ A) (A ++ (B ++ C))
    (IsPermutation-append_comm (B ++ C) A) in
    let three : IsPermutation (A ++ (B ++ (C ++ D))) (A ++ (B ++ rest)) =
    IsPermutation-append_right A (B ++ (C ++ D)) (B ++ rest) (IsPermutation-append_right B
    (C ++ D) rest (once_from (k + 1) slots reads (each_weaker (λ (p : PlacedRead). p.place ≤ k
    + suc (length slots)) (λ (p : PlacedRead). p.place ≤ k + 1 + length slots) (λ p le.
    omega arith) reads low))) in
    let join : (A ++ (B ++ C)) ++ D ≡ A ++ (B ++ (C ++ D)) = append_assoc A (B ++ C) D ∙ ap (λ zs.
    A ++ zs) (append_assoc B C D) in
    subst (λ zs. IsPermutation (zs ++ reads_from k reads) (A ++ (B ++ rest)))
    (sym (cons_is s.taken C))
    (IsPermutation-trans ((B ++ C) ++ reads_from k reads) ((B ++ C) ++ (A ++ D))
    (A ++ (B ++ rest)) one
    (IsPermutation-trans ((B ++ C) ++ (A ++ D)) ((A ++ (B ++ C)) ++ D) (A ++ (B ++ rest))
    (subst (λ zs. IsPermutation zs ((A ++ (B ++ C)) ++ D)) (append_assoc (B ++ C) A D) two)
    (subst (λ zs. IsPermutation zs (A ++ (B ++ rest))) (sym join) three)))

from_zero : (reads : List PlacedRead) → filter (λ (p : PlacedRead). nat_le 0 p.place) reads ≡ reads
from_zero [] = refl
from_zero (p ∷ reads) = ap (λ b. cond b (p ∷ filter (λ (q : PlacedRead). nat_le 0 q.place) reads)
    (filter (λ (q : PlacedRead). nat_le 0 q.place) reads)) (le-leb 0 p.place (omega arith)) ∙ ap
    (λ ps. p ∷ ps) (from_zero reads)

-- THE WHOLE ORDER

-- if no pending advance may take a free slot, no slot is free
pub all_taken : (f : ℕ → ℕ) (n i : ℕ) (slots : List Slot) → EachFrom (λ j (s : Slot). s.taken ≡ None
    → f j ≡ 0) i slots → Enough f n i slots → Each (λ (s : Slot). free s.taken ≡ false) slots
all_taken f n i [] e h = tt
all_taken f n i (s ∷ slots) e h = (
  go s.taken refl,
  all_taken f ((cond (free s.taken) 1 0) + n)
      (i + 1) slots e.1 h.1,
)
  where
    go : (o : Option Call) → s.taken ≡ o → free o ≡ false
    go None none = (let lt : n < f i = h.0 none in let zero_there : f i ≡ 0 = e.0 none in
        absurd (omega arith))
    go (Some c) some = refl

pub legal_order : (start : ℕ) (calls : List Call) (t a : ℕ) (slots : List Slot)
    (pending : List NotedCall) (reads : List PlacedRead) (cs : List Call)
    → IsState start calls t a slots pending reads → Each (λ (s : Slot). free s.taken ≡ false) slots
    → IsOrdering slots reads cs
    → IsCountOrder start calls cs
unfolding Around
legal_order start calls t a slots pending reads cs h taken o =
    let full : Each Full slots =
    each_both (λ (s : Slot). IfSome s.taken (Fits t s.moment)) (λ (s : Slot). free s.taken ≡ false)
    Full (λ s f e. full_slot t s e f) slots
    (each_from_none (IsSlotAt start calls t) (λ (s : Slot). IfSome s.taken (Fits t s.moment))
    (λ i s k. k.fits) 0 slots h.slot) taken in
    let long : length (moments slots) ≡ length slots = length-map slots (λ (s : Slot). s.moment) in
    let zero_more : start + 0 ≡ start = omega arith in
    let low : Each (λ (p : PlacedRead). p.place ≤ 0 + length slots) reads =
    each_weaker (IsReadAt start t (moments slots)) (λ (p : PlacedRead). p.place ≤ 0
    + length slots) (λ p k. (let le : p.place ≤ length (moments slots) = k.within in
    omega arith)) reads h.read in
    subst (IsCountOrder start calls) (sym o) (record {
      each_once = IsPermutation-trans calls (taken_calls slots ++ placed_calls reads)
          (order_from 0 slots reads) h.all
          (subst (λ ps. IsPermutation (taken_calls slots ++ placed_calls ps)
          (order_from 0 slots reads)) (from_zero reads) (once_from 0 slots reads low));
      in_order = all_pairs_from_each KeepsOrder (order_from 0 slots reads)
          (keeps_from 0 slots reads full
          (each_pair_weaker Rises (λ (s z : Slot). s.moment ≤ z.moment) (λ s z k. k.moments) slots
          h.rises)
          (each_weaker (IsReadAt start t (moments slots)) (Around 0 slots) (λ p k.
          k.around) reads h.read)
          (λ j. each_pair_filter (λ (p q : PlacedRead). p.call.first < q.call.last)
          (λ (p : PlacedRead). p.place == j) reads h.reads_rise));
      run = subst (λ n. IsCountRun n (order_from 0 slots reads)) zero_more
          (run_from start 0 slots reads full (each_weaker (IsReadAt start t (moments slots))
          (Answered start (0 + length slots)) (λ p k. (
            k.reading,
            k.gives,
            (let le : p.place ≤ length (moments slots) = k.within in omega arith),
          )) reads h.read));
    })
