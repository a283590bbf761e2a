-- A pending call consists of the worker's latest entries, and its rounds add their components.
use Rattle.std.proofs.Common.{◌≡◌, ℕ, zero, suc, ◌+◌, ◌-◌, ◌<◌, ◌≤◌, Bool, true, false, ◌&&◌, List, [], ◌∷◌, length, Option, Some, None, get_or, nat_le, refl, ap, sym, ◌∙◌, arith, cond, subst, ◌==◌, ◌≢◌, slice_get}
use Rattle.std.specs.Option.{option_map_or}
use Rattle.std.proofs.lemmas.Bool.{eqb-true, eqb-false, eq-eqb, le-leb, lt-leb}
use Rattle.ec_count.specs.Tables.{Tables}
use Rattle.ec_core.specs.declared.act.Act.{Act}
use Rattle.ec_core.specs.declared.act.Act.TheVariants.{Advance, Read, Await, Go, Ticket, Put, Get, Hand}
use Rattle.ec_core.specs.declared.act.Reply.TheVariants.{Pending}
use Rattle.ec_core.specs.declared.act.Entry.{Entry}
use Rattle.ec_core.specs.Counts.{past_at, component_total, sum_to}
use Rattle.ec_core.specs.Calls.{CallSoFar, under_way, call_with_act, is_go, is_pending}
use Rattle.ec_core.specs.CallsInOrder.{IsUnderWay, is_own_at, own_moments}
use Rattle.ec_core.specs.Rounds.{sum_read, read_event}
use Rattle.ec_core.specs.Laws.{CallsUnderWayAreCutInOrder, CallsUnderWayRead, RoundsAddTheirComponents}
use Rattle.ec_core.proofs.shared.Answering.{IsReading, IsReadingCall, call_reads}
use Rattle.ec_core.proofs.shared.Moments.{past_next, past_end, beginnings}
use Rattle.ec_core.proofs.shared.Pasts.{pending_is}
use Rattle.ec_core.proofs.shared.Totals.{sum_same}

-- if entry k is not w's, its moments are as before
pub moments_kept : (w : ℕ) (h : List Entry) (first k : ℕ) → is_own_at w h k ≡ false → own_moments w h first (suc k) ≡ own_moments w h first k
unfolding own_moments
moments_kept w h first k off =
    ap (λ b. cond (nat_le first k && b) (past_at k h ∷ own_moments w h first k) (own_moments w h first k)) off
    ∙ (elim (nat_le first k) as (λ b. cond (b && false) (past_at k h ∷ own_moments w h first k) (own_moments w h first k) ≡ own_moments w h first k) [ true ↦ refl | false ↦ refl ])

-- and if it is, they have one more
pub moments_more : (w : ℕ) (h : List Entry) (first k : ℕ) → first ≤ k → is_own_at w h k ≡ true → own_moments w h first (suc k) ≡ past_at k h ∷ own_moments w h first k
unfolding own_moments
moments_more w h first k le own =
    ap (λ b. cond (b && is_own_at w h k) (past_at k h ∷ own_moments w h first k) (own_moments w h first k)) (le-leb first k le)
    ∙ ap (λ b. cond (true && b) (past_at k h ∷ own_moments w h first k) (own_moments w h first k)) own

pub moments_none : (w : ℕ) (h : List Entry) (first k : ℕ) → k ≤ first → own_moments w h first k ≡ []
unfolding own_moments
moments_none w h first zero le = refl
moments_none w h first (suc k) le =
    ap (λ b. cond (b && is_own_at w h k) (past_at k h ∷ own_moments w h first k) (own_moments w h first k)) (lt-leb first k (omega arith)) ∙ moments_none w h first k (omega arith)

pub own_is : (w : ℕ) (h : List Entry) (k : ℕ) (x : Entry) (b : Bool) → slice_get h k ≡ Some x → (x.worker == w) ≡ b → is_own_at w h k ≡ b
own_is w h k x b at own = ap (λ o. option_map_or (λ (y : Entry). y.worker == w) o false) at ∙ own

-- an entry of w's before moment k + 1 is before moment k, if entry k is not w's
own_below : (w : ℕ) (h : List Entry) (k i : ℕ) (x : Entry) → is_own_at w h k ≡ false → i < suc k → slice_get h i ≡ Some x → x.worker ≡ w → i < k
own_below w h k i x off lt at own =
    elim (i == k) as (λ b. (i == k) ≡ b → i < k) [
      | true ↦ λ e.
          (let same : i ≡ k = eqb-true i k e in
          let on : is_own_at w h k ≡ true = ap (is_own_at w h) (sym same) ∙ own_is w h i x true at (eq-eqb x.worker w own) in
          cc)
      | false ↦ λ e. (let other : i ≢ k = eqb-false i k e in omega arith)
    ] refl

same_entry : (h : List Entry) (i k : ℕ) (x y : Entry) → i ≡ k → slice_get h k ≡ Some x → slice_get h i ≡ Some y → x ≡ y
same_entry h i k x y same at there = (let both : Some x ≡ Some y = sym at ∙ ap (slice_get h) (sym same) ∙ there in cc)

abbrev made : Act → List (List Entry) → CallSoFar
made op moments = record { op = op; moments = moments }

-- FROM THE DEFINITION TO THE ENTRIES

abbrev IsCut : ℕ → List Entry → ℕ → Option CallSoFar → Type 0
IsCut w h k None = Unit {0}
IsCut w h k (Some call) = IsUnderWay w h k call

-- another worker's entry, or none, changes nothing
kept : (w : ℕ) (h : List Entry) (k : ℕ) (o : Option CallSoFar) → is_own_at w h k ≡ false → IsCut w h k o → IsCut w h (suc k) o
kept w h k None off c = tt
kept w h k (Some call) off c = record {
  first = c.first;
  opening = c.opening;
  opens = c.opens;
  opener = c.opener;
  opening_act = c.opening_act;
  begins = c.begins;
  before = (let lt : c.first < k = c.before in omega arith);
  goes = λ i x after lt at own. c.goes i x after (own_below w h k i x off lt at own) at own;
  pending = λ i x from lt at own. c.pending i x from (own_below w h k i x off lt at own) at own;
  moments = c.moments ∙ sym (moments_kept w h c.first k off);
}

-- entry k begins a call
begun : (w : ℕ) (h : List Entry) (k : ℕ) (x : Entry) → slice_get h k ≡ Some x → x.worker ≡ w → x.reply ≡ Pending → is_go x.act ≡ false
    → IsUnderWay w h (suc k) (made x.act (past_at k h ∷ []))
begun w h k x at own returned begins = record {
  first = k;
  opening = x;
  opens = at;
  opener = own;
  opening_act = refl;
  begins = begins;
  before = omega arith;
  goes = λ i y after lt there mine. absurd (omega arith);
  pending = λ i y from lt there mine.
      (let same : i ≡ k = omega arith in
      ap (λ (z : Entry). z.reply) (sym (same_entry h i k x y same at there)) ∙ returned);
  moments = sym (moments_more w h k k (omega arith) (own_is w h k x true at (eq-eqb x.worker w own)) ∙ ap (λ ps. past_at k h ∷ ps) (moments_none w h k k (omega arith)));
}

-- entry k continues a call
went_on : (w : ℕ) (h : List Entry) (k : ℕ) (x : Entry) (call : CallSoFar) → slice_get h k ≡ Some x → x.worker ≡ w → x.reply ≡ Pending → x.act ≡ Go
    → IsUnderWay w h k call → IsUnderWay w h (suc k) (made call.op (past_at k h ∷ call.moments))
went_on w h k x call at own returned goes c = record {
  first = c.first;
  opening = c.opening;
  opens = c.opens;
  opener = c.opener;
  opening_act = c.opening_act;
  begins = c.begins;
  before = (let lt : c.first < k = c.before in omega arith);
  goes = λ i y after lt there mine.
      (elim (i == k) as (λ b. (i == k) ≡ b → y.act ≡ Go) [
        | true ↦ λ e. ap (λ (z : Entry). z.act) (sym (same_entry h i k x y (eqb-true i k e) at there)) ∙ goes
        | false ↦ λ e. (let other : i ≢ k = eqb-false i k e in c.goes i y after (omega arith) there mine)
      ] refl);
  pending = λ i y from lt there mine.
      (elim (i == k) as (λ b. (i == k) ≡ b → y.reply ≡ Pending) [
        | true ↦ λ e. ap (λ (z : Entry). z.reply) (sym (same_entry h i k x y (eqb-true i k e) at there)) ∙ returned
        | false ↦ λ e. (let other : i ≢ k = eqb-false i k e in c.pending i y from (omega arith) there mine)
      ] refl);
  moments = ap (λ ps. past_at k h ∷ ps) c.moments ∙ sym (moments_more w h c.first k (let lt : c.first < k = c.before in omega arith) (own_is w h k x true at (eq-eqb x.worker w own)));
}

gone : (w : ℕ) (h : List Entry) (k : ℕ) (x : Entry) (act : Act) (o : Option CallSoFar) → slice_get h k ≡ Some x → x.worker ≡ w → x.reply ≡ Pending → x.act ≡ act
    → IsCut w h k o → IsCut w h (suc k) (call_with_act act (past_at k h) o)
gone w h k x Go None at own returned is c = tt
gone w h k x Go (Some call) at own returned is c = went_on w h k x call at own returned is c
gone w h k x (Advance e) o at own returned is c = subst (λ act. IsUnderWay w h (suc k) (made act (past_at k h ∷ []))) is (begun w h k x at own returned (ap is_go is))
gone w h k x (Read e) o at own returned is c = subst (λ act. IsUnderWay w h (suc k) (made act (past_at k h ∷ []))) is (begun w h k x at own returned (ap is_go is))
gone w h k x (Await e v) o at own returned is c = subst (λ act. IsUnderWay w h (suc k) (made act (past_at k h ∷ []))) is (begun w h k x at own returned (ap is_go is))
gone w h k x (Ticket q) o at own returned is c = subst (λ act. IsUnderWay w h (suc k) (made act (past_at k h ∷ []))) is (begun w h k x at own returned (ap is_go is))
gone w h k x (Put y v) o at own returned is c = subst (λ act. IsUnderWay w h (suc k) (made act (past_at k h ∷ []))) is (begun w h k x at own returned (ap is_go is))
gone w h k x (Get y) o at own returned is c = subst (λ act. IsUnderWay w h (suc k) (made act (past_at k h ∷ []))) is (begun w h k x at own returned (ap is_go is))
gone w h k x (Hand e b) o at own returned is c = subst (λ act. IsUnderWay w h (suc k) (made act (past_at k h ∷ []))) is (begun w h k x at own returned (ap is_go is))

cut_next : (w : ℕ) (h : List Entry) (k : ℕ) (o : Option Entry) → slice_get h k ≡ o → IsCut w h k (under_way w (past_at k h)) → IsCut w h (suc k) (under_way w (past_at (suc k) h))
unfolding under_way
cut_next w h k None at c =
    let off : is_own_at w h k ≡ false = ap (λ o. option_map_or (λ (y : Entry). y.worker == w) o false) at in
    subst (λ past. IsCut w h (suc k) (under_way w past)) (sym (past_end h k at)) (kept w h k (under_way w (past_at k h)) off c)
cut_next w h k (Some x) at c =
    let o : Option CallSoFar = under_way w (past_at k h) in
    subst (λ past. IsCut w h (suc k) (under_way w past)) (sym (past_next h k x at))
    (elim (x.worker == w) as (λ b. (x.worker == w) ≡ b → IsCut w h (suc k) (cond b (cond (is_pending x.reply) (call_with_act x.act (past_at k h) o) None) o)) [
      | true ↦ λ own.
          (elim (is_pending x.reply) as (λ b. is_pending x.reply ≡ b → IsCut w h (suc k) (cond b (call_with_act x.act (past_at k h) o) None)) [
            | true ↦ λ returned. gone w h k x x.act o at (eqb-true x.worker w own) (pending_is x.reply returned) refl c
            | false ↦ λ returned. tt
          ] refl)
      | false ↦ λ other. kept w h k o (own_is w h k x false at other) c
    ] refl)

cut : (w k : ℕ) (h : List Entry) → IsCut w h k (under_way w (past_at k h))
unfolding under_way
cut w zero h = tt
cut w (suc k) h = cut_next w h k (slice_get h k) refl (cut w k h)

-- FROM THE ENTRIES TO THE DEFINITION

-- the same call a moment earlier, if entry k is not w's
shorter : (w : ℕ) (h : List Entry) (k : ℕ) (call : CallSoFar) → is_own_at w h k ≡ false → IsUnderWay w h (suc k) call → IsUnderWay w h k call
shorter w h k call off r = record {
  first = r.first;
  opening = r.opening;
  opens = r.opens;
  opener = r.opener;
  opening_act = r.opening_act;
  begins = r.begins;
  before = own_below w h k r.first r.opening off r.before r.opens r.opener;
  goes = λ i x after lt at own. r.goes i x after (omega arith) at own;
  pending = λ i x from lt at own. r.pending i x from (omega arith) at own;
  moments = r.moments ∙ moments_kept w h r.first k off;
}

-- the call before its entry k
without_last : (w : ℕ) (h : List Entry) (k : ℕ) (call : CallSoFar) (r : IsUnderWay w h (suc k) call) → r.first < k → IsUnderWay w h k (made call.op (own_moments w h r.first k))
without_last w h k call r lt = record {
  first = r.first;
  opening = r.opening;
  opens = r.opens;
  opener = r.opener;
  opening_act = r.opening_act;
  begins = r.begins;
  before = lt;
  goes = λ i x after below at own. r.goes i x after (omega arith) at own;
  pending = λ i x from below at own. r.pending i x from (omega arith) at own;
  moments = refl;
}

gone_begins : (act : Act) (past : List Entry) (o : Option CallSoFar) → is_go act ≡ false → call_with_act act past o ≡ Some (made act (past ∷ []))
gone_begins Go past o h = cc
gone_begins (Advance e) past o h = refl
gone_begins (Read e) past o h = refl
gone_begins (Await e v) past o h = refl
gone_begins (Ticket q) past o h = refl
gone_begins (Put x v) past o h = refl
gone_begins (Get x) past o h = refl
gone_begins (Hand e f) past o h = refl

made_is : (call : CallSoFar) (op : Act) (moments : List (List Entry)) → op ≡ call.op → moments ≡ call.moments → Some (made op moments) ≡ Some call
made_is call op moments a b = (let same : made op moments ≡ made call.op call.moments = cc in ap Some same)

back_own : (w : ℕ) (h : List Entry) (k : ℕ) (x : Entry) (call : CallSoFar) (r : IsUnderWay w h (suc k) call) → slice_get h k ≡ Some x → x.worker ≡ w
    → ((c : CallSoFar) → IsUnderWay w h k c → under_way w (past_at k h) ≡ Some c)
    → call_with_act x.act (past_at k h) (under_way w (past_at k h)) ≡ Some call
back_own w h k x call r at own ih =
    let own_at : is_own_at w h k ≡ true = own_is w h k x true at (eq-eqb x.worker w own) in
    elim (r.first == k) as (λ b. (r.first == k) ≡ b → call_with_act x.act (past_at k h) (under_way w (past_at k h)) ≡ Some call) [
      | true ↦ λ e.
          (let same : r.first ≡ k = eqb-true r.first k e in
          let act : x.act ≡ call.op = ap (λ (z : Entry). z.act) (same_entry h r.first k x r.opening same at r.opens) ∙ r.opening_act in
          let last : past_at k h ∷ [] ≡ call.moments = sym (r.moments ∙ ap (λ n. own_moments w h n (suc k)) same ∙ moments_more w h k k (omega arith) own_at ∙ ap (λ ps. past_at k h ∷ ps) (moments_none w h k k (omega arith))) in
          gone_begins x.act (past_at k h) (under_way w (past_at k h)) (ap is_go act ∙ r.begins) ∙ made_is call x.act (past_at k h ∷ []) act last)
      | false ↦ λ e.
          (let other : r.first ≢ k = eqb-false r.first k e in
          let early : r.first < k = (let lt : r.first < suc k = r.before in omega arith) in
          let act : x.act ≡ Go = r.goes k x early (omega arith) at own in
          let before : under_way w (past_at k h) ≡ Some (made call.op (own_moments w h r.first k)) = ih (made call.op (own_moments w h r.first k)) (without_last w h k call r early) in
          let last : past_at k h ∷ own_moments w h r.first k ≡ call.moments = sym (r.moments ∙ moments_more w h r.first k (omega arith) own_at) in
          ap (λ a. call_with_act a (past_at k h) (under_way w (past_at k h))) act ∙ ap (call_with_act Go (past_at k h)) before ∙ made_is call call.op (past_at k h ∷ own_moments w h r.first k) refl last)
    ] refl

back_next : (w : ℕ) (h : List Entry) (k : ℕ) (o : Option Entry) (call : CallSoFar) → slice_get h k ≡ o → IsUnderWay w h (suc k) call
    → ((c : CallSoFar) → IsUnderWay w h k c → under_way w (past_at k h) ≡ Some c) → under_way w (past_at (suc k) h) ≡ Some call
unfolding under_way
back_next w h k None call at r ih =
    let off : is_own_at w h k ≡ false = ap (λ o. option_map_or (λ (y : Entry). y.worker == w) o false) at in
    ap (under_way w) (past_end h k at) ∙ ih call (shorter w h k call off r)
back_next w h k (Some x) call at r ih =
    let o : Option CallSoFar = under_way w (past_at k h) in
    ap (under_way w) (past_next h k x at)
    ∙ (elim (x.worker == w) as (λ b. (x.worker == w) ≡ b → cond b (cond (is_pending x.reply) (call_with_act x.act (past_at k h) o) None) o ≡ Some call) [
      | true ↦ λ e.
          (let own : x.worker ≡ w = eqb-true x.worker w e in
          let from : r.first ≤ k = (let lt : r.first < suc k = r.before in omega arith) in
          let returned : x.reply ≡ Pending = r.pending k x from (omega arith) at own in
          ap (λ p. cond (is_pending p) (call_with_act x.act (past_at k h) o) None) returned ∙ back_own w h k x call r at own ih)
      | false ↦ λ e. ih call (shorter w h k call (own_is w h k x false at e) r)
    ] refl)

back : (w k : ℕ) (h : List Entry) (call : CallSoFar) → IsUnderWay w h k call → under_way w (past_at k h) ≡ Some call
back w zero h call r = (let lt : r.first < 0 = r.before in absurd (omega arith))
back w (suc k) h call r = back_next w h k (slice_get h k) call refl r (λ c s. back w k h c s)

pub calls_are_cut : CallsUnderWayAreCutInOrder
calls_are_cut w k h call = (λ is. subst (IsCut w h k) is (cut w k h), λ r. back w k h call r)

-- ROUNDS

pub rounds_add : RoundsAddTheirComponents
unfolding sum_read sum_to
rounds_add t e zero moments le = refl
rounds_add t e (suc n) [] le = absurd (omega arith)
rounds_add t e (suc n) (p ∷ moments) le =
    let f : ℕ → ℕ = λ c. component_total t e c (get_or (p ∷ moments) (suc n - 1 - c) []) in
    let newest : suc n - 1 - n ≡ 0 = omega arith in
    let here : component_total t e n p ≡ f n = ap (λ i. component_total t e n (get_or (p ∷ moments) i [])) (sym newest) in
    let each : (c : ℕ) → c < n → component_total t e c (get_or moments (n - 1 - c) []) ≡ f c =
    λ c lt. (let back_one : suc n - 1 - c ≡ suc (n - 1 - c) = omega arith in ap (λ i. component_total t e c (get_or (p ∷ moments) i [])) (sym back_one)) in
    let rest : sum_read t e n moments ≡ sum_to f n = rounds_add t e n moments (omega arith) ∙ sum_same n (λ c. component_total t e c (get_or moments (n - 1 - c) [])) f each in
    ap (λ m. m + sum_read t e n moments) here ∙ ap (λ m. f n + m) rest

-- WHAT IS PENDING

reads : (t : Tables) (op : Act) → IsReading t op → (e : ℕ) × (read_event op ≡ Some e) × (e < length t.events)
reads t (Read e) h = (e, refl, h)
reads t (Await e v) h = (e, refl, h)
reads t (Advance e) h = absurd h
reads t Go h = absurd h
reads t (Ticket q) h = absurd h
reads t (Put x v) h = absurd h
reads t (Get x) h = absurd h
reads t (Hand e f) h = absurd h

pub calls_read : CallsUnderWayRead
calls_read t w k h call acc is = reads t call.op (subst (IsReadingCall t) is (call_reads t (past_at k h) w (beginnings t k h acc)))
