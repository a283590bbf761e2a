-- An await whose next component is the first again has just ended a round that fell short.
use Rattle.std.proofs.Common.{◌≡◌, ◌≢◌, ℕ, zero, suc, ◌+◌, ◌%◌, ◌<◌, ◌≤◌, Bool, true, false, List, [], ◌∷◌, ◌++◌, length, reverse, Option, Some, None, nat_le, Ok, refl, ap, sym, ◌∙◌, arith, cond, subst, ◌==◌, slice_get, length-append}
use Rattle.std.specs.Option.{option_map}
use Rattle.std.proofs.lemmas.Bool.{eqb-true, eqb-false, eq-eqb, leb-true, leb-false}
use Rattle.std.proofs.lemmas.Nat.{mod_below}
use Rattle.std.proofs.Math.Nat.{add-mod_left, mod-eq_of_lt}
use Rattle.ec_count.specs.Tables.{Tables, IsDeclared}
use Rattle.ec_core.specs.declared.act.Act.{Act}
use Rattle.ec_core.specs.declared.act.Act.TheVariants.{Advance, Read, Await, Go, Ticket, Put, Get, Hand}
use Rattle.ec_core.specs.declared.act.Reply.{Reply}
use Rattle.ec_core.specs.declared.act.Reply.TheVariants.{Number, Pending}
use Rattle.ec_core.specs.declared.act.Entry.{Entry}
use Rattle.ec_core.specs.Counts.{past_at, component_total}
use Rattle.ec_core.specs.Calls.{CallSoFar, under_way, call_with_act, is_pending}
use Rattle.ec_core.specs.CallsInOrder.{IsUnderWay, is_own_at, own_moments}
use Rattle.ec_core.specs.Rounds.{event_or, component_count, sum_read, round_sum, round_reply, read_reply, next_component}
use Rattle.ec_core.specs.Acceptance.{answer_of, reply_of, names_unknown_object, IsAccepted}
use Rattle.ec_core.specs.Progress.{Progress}
use Rattle.ec_core.specs.Standing.{call_progress, progress_of}
use Rattle.ec_core.specs.Laws.{HasJustFallenShort, IndexZeroMeansFallenShort, IndexZeroIsAnAwait}
use Rattle.ec_core.proofs.shared.Answering.{allowed, call_reads, mod_next, width_some, IsReading, IsReadingCall}
use Rattle.ec_core.proofs.CallsCut.{calls_are_cut, moments_kept, moments_more, moments_none, own_is}
use Rattle.ec_core.proofs.shared.Following.{reply_read}
use Rattle.ec_core.proofs.shared.Moments.{beginnings}
use Rattle.ec_core.proofs.shared.Pasts.{pending_is}
use Rattle.ec_core.proofs.shared.Stepping.{entry}

-- THE END OF A ROUND

-- the entries of a pending read never make whole rounds, and a pending await whose entries do fell
-- short in the last one
abbrev FellShort : Tables → Act → List (List Entry) → Type 0
FellShort t (Read e) moments = length moments % component_count t e ≡ 0 → ⊥
FellShort t (Await e v) moments = length moments % component_count t e ≡ 0
    → round_sum t e moments < v
FellShort t _ moments = Unit {0}

abbrev FellShortCall : Tables → Option CallSoFar → Type 0
FellShortCall t None = Unit {0}
FellShortCall t (Some call) = FellShort t call.op call.moments

below : (e v s : ℕ) → round_reply (Await e v) s ≡ Pending → s < v
below e v s = elim (nat_le v s) as (λ b. nat_le v s ≡ b → cond b (Number s) Pending ≡ Pending → s < v) [
  | true ↦ λ h p. cc
  | false ↦ λ h p. leb-false v s h
] refl

fell_next : (t : Tables) (e v : ℕ) (past : List Entry) (moments : List (List Entry)) → 0 < component_count t e → read_reply t (Await e v) past moments ≡ Pending
    → FellShort t (Await e v) (past ∷ moments)
unfolding read_reply
fell_next t e v past moments some p whole =
    let n = component_count t e in
    let c = next_component t e moments in
    let next = sym (mod_next n (length moments) some) ∙ whole in
    elim (nat_le n (c + 1)) as (λ b. nat_le n (c + 1) ≡ b → cond b 0 (c + 1) ≡ 0 → cond b (round_reply (Await e v) (sum_read t e (suc c) (past ∷ moments))) Pending ≡ Pending → round_sum t e (past ∷ moments) < v) [
      | true ↦ λ h z q.
          (let le : n ≤ c + 1 = leb-true n (c + 1) h in
          let lt : c < n = mod_below (length moments) n some in
          let all : suc c ≡ n = omega arith in
          subst (λ m. sum_read t e m (past ∷ moments) < v) all (below e v (sum_read t e (suc c) (past ∷ moments)) q))
      | false ↦ λ h z q. absurd (omega arith)
    ] refl next p

read_next : (t : Tables) (e : ℕ) (past : List Entry) (moments : List (List Entry)) → 0 < component_count t e → read_reply t (Read e) past moments ≡ Pending
    → FellShort t (Read e) (past ∷ moments)
unfolding read_reply
read_next t e past moments some p whole =
    let n = component_count t e in
    let c = next_component t e moments in
    let next = sym (mod_next n (length moments) some) ∙ whole in
    elim (nat_le n (c + 1)) as (λ b. nat_le n (c + 1) ≡ b → cond b 0 (c + 1) ≡ 0 → cond b (round_reply (Read e) (sum_read t e (suc c) (past ∷ moments))) Pending ≡ Pending → ⊥) [
      | true ↦ λ h z q. cc
      | false ↦ λ h z q. absurd (omega arith)
    ] refl next p

fell_op : (t : Tables) (op : Act) (past : List Entry) (moments : List (List Entry)) → IsDeclared t → IsReading t op → read_reply t op past moments ≡ Pending → FellShort t op (past ∷ moments)
fell_op t (Await e v) past moments d r p = fell_next t e v past moments (width_some t e d r) p
fell_op t (Advance e) past moments d r p = tt
fell_op t (Read e) past moments d r p = read_next t e past moments (width_some t e d r) p
fell_op t Go past moments d r p = tt
fell_op t (Ticket q) past moments d r p = tt
fell_op t (Put y v) past moments d r p = tt
fell_op t (Get y) past moments d r p = tt
fell_op t (Hand e f) past moments d r p = tt

fell_gone : (t : Tables) (past : List Entry) (w : ℕ) (act : Act) (o : Option CallSoFar) → IsDeclared t → under_way w past ≡ o → names_unknown_object t act ≡ false → IsReadingCall t o
    → reply_of t past w act ≡ Pending → FellShortCall t (call_with_act act past o)
fell_gone t past w Go None d e known r p = tt
fell_gone t past w Go (Some call) d e known r p = fell_op t call.op past call.moments d r (sym (reply_read t past w Go (Some call) e r) ∙ p)
fell_gone t past w (Await f v) o d e known r p = fell_next t f v past [] (width_some t f d (leb-false (length t.events) f known)) p
fell_gone t past w (Read f) o d e known r p = read_next t f past [] (width_some t f d (leb-false (length t.events) f known)) p
fell_gone t past w (Advance f) o d e known r p = tt
fell_gone t past w (Ticket q) o d e known r p = tt
fell_gone t past w (Put y v) o d e known r p = tt
fell_gone t past w (Get y) o d e known r p = tt
fell_gone t past w (Hand f g) o d e known r p = tt

fell : (t : Tables) (w : ℕ) (past : List Entry) → IsDeclared t → IsAccepted t past → FellShortCall t (under_way w past)
unfolding under_way
fell t w [] d acc = tt
fell t w (x ∷ past) d acc =
    elim (x.worker == w) as (λ b. (x.worker == w) ≡ b → FellShortCall t (cond b (cond (is_pending x.reply) (call_with_act x.act past (under_way w past)) None) (under_way w past))) [
      | true ↦ λ h.
          (elim (is_pending x.reply) as (λ p. is_pending x.reply ≡ p → FellShortCall t (cond p (call_with_act x.act past (under_way w past)) None)) [
            | true ↦ λ k.
                (let P : ℕ → Type 0 = λ v. answer_of t past v x.act ≡ Ok x.reply in
                let a = allowed t past w x.act x.reply (subst P (eqb-true x.worker w h) acc.0) in
                fell_gone t past w x.act (under_way w past) d refl a.0.known (call_reads t past w acc.1) (a.1 ∙ pending_is x.reply k))
            | false ↦ λ k. tt
          ] refl)
      | false ↦ λ h. fell t w past d acc.1
    ] refl

-- A WORKER'S ENTRIES, CUT IN TWO

parted_next : (b : Bool) (w : ℕ) (h : List Entry) (first round k : ℕ) → is_own_at w h k ≡ b → first ≤ round → round ≤ k
    → own_moments w h first k ≡ own_moments w h round k ++ own_moments w h first round
    → own_moments w h first (suc k) ≡ own_moments w h round (suc k) ++ own_moments w h first round
parted_next true w h first round k own from to same =
    moments_more w h first k (omega arith) own ∙ ap (λ ps. past_at k h ∷ ps) same ∙ ap (λ ps. ps ++ own_moments w h first round) (sym (moments_more w h round k to own))
parted_next false w h first round k off from to same =
    moments_kept w h first k off ∙ same ∙ ap (λ ps. ps ++ own_moments w h first round) (sym (moments_kept w h round k off))

-- w's entries from first up to moment k are those from round on and those before it
parted : (w : ℕ) (h : List Entry) (first round k : ℕ) → first ≤ round → round ≤ k
    → own_moments w h first k ≡ own_moments w h round k ++ own_moments w h first round
unfolding own_moments
parted w h first round zero from to =
    let at : 0 ≡ round = omega arith in
    subst (λ r. own_moments w h first 0 ≡ own_moments w h r 0 ++ own_moments w h first r) at refl
parted w h first round (suc k) from to =
    elim (nat_le round k) as (λ b. nat_le round k ≡ b → own_moments w h first (suc k) ≡ own_moments w h round (suc k) ++ own_moments w h first round) [
      | true ↦ λ e.
          (let le : round ≤ k = leb-true round k e in
          parted_next (is_own_at w h k) w h first round k refl from le (parted w h first round k from le))
      | false ↦ λ e.
          (let past : k < round = leb-false round k e in
          let at : suc k ≡ round = omega arith in
          subst (λ r. own_moments w h first (suc k) ≡ own_moments w h r (suc k) ++ own_moments w h first r) at
          (ap (λ ps. ps ++ own_moments w h first (suc k)) (sym (moments_none w h (suc k) (suc k) (omega arith)))))
    ] refl

one_moment : (w : ℕ) (h : List Entry) (k : ℕ) → is_own_at w h k ≡ true → own_moments w h k (suc k) ≡ past_at k h ∷ []
one_moment w h k own = moments_more w h k k (omega arith) own ∙ ap (λ ps. past_at k h ∷ ps) (moments_none w h k k (omega arith))

-- from one of w's entries on there is an entry of w's
some_moment : (w : ℕ) (h : List Entry) (first k : ℕ) → is_own_at w h first ≡ true → first < k → 0 < length (own_moments w h first k)
some_moment w h first k own lt =
    let whole = ap length (parted w h first (suc first) k (omega arith) (omega arith)) ∙ length-append (own_moments w h (suc first) k) (own_moments w h first (suc first)) in
    let one = ap length (one_moment w h first own) in
    omega arith

-- an entry of w's, from which on w has n entries
record IsRoundOf (w : ℕ) (h : List Entry) (first n k : ℕ) : Type 0 where
  round : ℕ
  own : is_own_at w h round ≡ true
  from_first : first ≤ round
  before : round < k
  one : length (own_moments w h round k) ≡ n

round_later : (w : ℕ) (h : List Entry) (first n k : ℕ) → is_own_at w h k ≡ false → IsRoundOf w h first n k → IsRoundOf w h first n (suc k)
round_later w h first n k off r =
    let lt : r.round < k = r.before in
    record { round = r.round; own = r.own; from_first = r.from_first; before = omega arith; one = ap length (moments_kept w h r.round k off) ∙ r.one }

round_more : (w : ℕ) (h : List Entry) (first n k : ℕ) → is_own_at w h k ≡ true → IsRoundOf w h first n k → IsRoundOf w h first (suc n) (suc k)
round_more w h first n k own r =
    let lt : r.round < k = r.before in
    record { round = r.round; own = r.own; from_first = r.from_first; before = omega arith; one = ap length (moments_more w h r.round k (omega arith) own) ∙ ap suc r.one }

round_here : (w : ℕ) (h : List Entry) (first k : ℕ) → is_own_at w h k ≡ true → first ≤ k → IsRoundOf w h first 1 (suc k)
round_here w h first k own le = record { round = k; own = own; from_first = le; before = omega arith; one = ap length (one_moment w h k own) }

round_own : (w : ℕ) (h : List Entry) (first n k : ℕ) → is_own_at w h k ≡ true → first ≤ k → 0 < n → n ≤ suc (length (own_moments w h first k))
    → ((m : ℕ) → 0 < m → m ≤ length (own_moments w h first k) → IsRoundOf w h first m k) → IsRoundOf w h first n (suc k)
round_own w h first zero k own le some few more = absurd (omega arith)
round_own w h first (suc zero) k own le some few more = round_here w h first k own le
round_own w h first (suc (suc n)) k own le some few more = round_more w h first (suc n) k own (more (suc n) (omega arith) (omega arith))

round_if : (b : Bool) (w : ℕ) (h : List Entry) (first n k : ℕ) → is_own_at w h k ≡ b → first ≤ k → 0 < n → n ≤ length (own_moments w h first (suc k))
    → ((m : ℕ) → 0 < m → m ≤ length (own_moments w h first k) → IsRoundOf w h first m k) → IsRoundOf w h first n (suc k)
round_if true w h first n k own le some few more =
    let one = ap length (moments_more w h first k le own) in
    round_own w h first n k own le some (omega arith) more
round_if false w h first n k off le some few more =
    let same = ap length (moments_kept w h first k off) in
    round_later w h first n k off (more n some (omega arith))

round_from : (w : ℕ) (h : List Entry) (first k n : ℕ) → 0 < n → n ≤ length (own_moments w h first k) → IsRoundOf w h first n k
round_from w h first zero n some few = (let none = ap length (moments_none w h first 0 (omega arith)) in absurd (omega arith))
round_from w h first (suc k) n some few =
    elim (nat_le first k) as (λ b. nat_le first k ≡ b → IsRoundOf w h first n (suc k)) [
      | true ↦ λ e. round_if (is_own_at w h k) w h first n k refl (leb-true first k e) some few (round_from w h first k)
      | false ↦ λ e.
          (let past : k < first = leb-false first k e in
          let none = ap length (moments_none w h first (suc k) (omega arith)) in
          absurd (omega arith))
    ] refl

sum_front : (t : Tables) (e n : ℕ) (ps qs : List (List Entry)) → n ≤ length ps → sum_read t e n (ps ++ qs) ≡ sum_read t e n ps
unfolding sum_read
sum_front t e zero ps qs le = refl
sum_front t e (suc n) [] qs le = absurd (omega arith)
sum_front t e (suc n) (p ∷ ps) qs le = ap (λ m. component_total t e n p + m) (sum_front t e n ps qs (omega arith))

-- some entries that make whole rounds of n are at least n
round_within : (n k : ℕ) → 0 < k → k % n ≡ 0 → n ≤ k
round_within n k some whole =
    elim (nat_le n k) as (λ b. nat_le n k ≡ b → n ≤ k) [
      | true ↦ λ e. leb-true n k e
      | false ↦ λ e.
          (let lt : k < n = leb-false n k e in
          let same : k % n ≡ k = mod-eq_of_lt lt in
          absurd (omega arith))
    ] refl

-- BOTH DIRECTIONS

shown_back : (t : Tables) (o : Option CallSoFar) (p : Progress) → option_map (call_progress t) o ≡ Some p → (call : CallSoFar) × (o ≡ Some call) × (call_progress t call ≡ p)
shown_back t None p is = cc
shown_back t (Some call) p is = (call, refl, (cc))

entry_is : (x : Entry) (w : ℕ) (act : Act) (reply : Reply) → x.worker ≡ w → x.act ≡ act → x.reply ≡ reply → x ≡ entry w act reply
entry_is x w act reply a b c = (let same : entry x.worker x.act x.reply ≡ entry w act reply = cc in same)

fell_of : (t : Tables) (w : ℕ) (h : List Entry) (k e v : ℕ) (call : CallSoFar) → IsDeclared t → IsAccepted t (reverse h) → under_way w (past_at k h) ≡ Some call → call.op ≡ Await e v
    → length call.moments % component_count t e ≡ 0 → HasJustFallenShort t w h k e v
fell_of t w h k e v call d acc is op len =
    let u : IsUnderWay w h k call = (calls_are_cut w k h call).0 is in
    let lt : u.first < k = u.before in
    let n = component_count t e in
    let P : Act → Type 0 = λ a. IsReading t a in
    let known : e < length t.events = subst P op (subst (IsReadingCall t) is (call_reads t (past_at k h) w (beginnings t k h acc))) in
    let some : 0 < n = width_some t e d known in
    let all : length (own_moments w h u.first k) % n ≡ 0 = ap (λ ps. length ps % n) (sym u.moments) ∙ len in
    let own : is_own_at w h u.first ≡ true = own_is w h u.first u.opening true u.opens (eq-eqb u.opening.worker w u.opener) in
    let r = round_from w h u.first k n some (round_within n (length (own_moments w h u.first k)) (some_moment w h u.first k own lt) all) in
    let to : r.round < k = r.before in
    let cut = parted w h u.first r.round k r.from_first (omega arith) in
    let long : length (own_moments w h u.first k) ≡ n + length (own_moments w h u.first r.round) =
    ap length cut ∙ length-append (own_moments w h r.round k) (own_moments w h u.first r.round) ∙ ap (λ m. m + length (own_moments w h u.first r.round)) r.one in
    let Q : Act → Type 0 = λ a. FellShort t a call.moments in
    let low : round_sum t e call.moments < v = subst Q op (subst (FellShortCall t) is (fell t w (past_at k h) d (beginnings t k h acc))) len in
    let sum : round_sum t e call.moments ≡ round_sum t e (own_moments w h r.round k) =
    ap (round_sum t e) (u.moments ∙ cut) ∙ sum_front t e n (own_moments w h r.round k) (own_moments w h u.first r.round) (omega (arith, r.one)) in
    record {
      first = u.first;
      opens = u.opens ∙ ap (λ x. Some x) (entry_is u.opening w (Await e v) Pending u.opener (u.opening_act ∙ op) (u.pending u.first u.opening (omega arith) lt u.opens u.opener));
      goes = λ i x after before at mine. (u.goes i x after before at mine, u.pending i x (omega arith) before at mine);
      round = r.round;
      own = r.own;
      from_first = r.from_first;
      before = r.before;
      whole = sym (ap (λ m. m % n) long ∙ add-mod_left n (length (own_moments w h u.first r.round))) ∙ all;
      one = r.one;
      short = subst (λ s. s < v) sum low;
    }

forth : (t : Tables) (h : List Entry) (w k e v sum : ℕ) → IsDeclared t → IsAccepted t (reverse h)
    → progress_of t w (past_at k h) ≡ Some (record { op = Await e v; index = 0; sum = sum }) → HasJustFallenShort t w h k e v × (sum ≡ 0)
unfolding sum_read
forth t h w k e v sum d acc is =
    let c = shown_back t (under_way w (past_at k h)) (record { op = Await e v; index = 0; sum = sum }) is in
    let call = c.0 in
    let op : call.op ≡ Await e v = ap (λ (p : Progress). p.op) c.2 in
    let index : next_component t (event_or call.op) call.moments ≡ 0 = ap (λ (p : Progress). p.index) c.2 in
    let kept : sum_read t (event_or call.op) (next_component t (event_or call.op) call.moments) call.moments ≡ sum = ap (λ (p : Progress). p.sum) c.2 in
    let len : length call.moments % component_count t e ≡ 0 = ap (λ a. length call.moments % component_count t (event_or a)) (sym op) ∙ index in
    (fell_of t w h k e v call d acc c.1 op len, sym kept ∙ ap (λ i. sum_read t (event_or call.op) i call.moments) index)

opening_told : (h : List Entry) (first i : ℕ) (w e v : ℕ) (x : Entry) → slice_get h first ≡ Some (record { worker = w; act = Await e v; reply = Pending }) → i ≡ first
    → slice_get h i ≡ Some x → x.reply ≡ Pending
opening_told h first i w e v x opens same at =
    let both : Some x ≡ Some (record { worker = w; act = Await e v; reply = Pending }) = sym at ∙ ap (slice_get h) same ∙ opens in
    let is : x ≡ record { worker = w; act = Await e v; reply = Pending } = cc in
    ap (λ (y : Entry). y.reply) is

under_way_of : (t : Tables) (w : ℕ) (h : List Entry) (k e v : ℕ) (r : HasJustFallenShort t w h k e v)
    → IsUnderWay w h k (record { op = Await e v; moments = own_moments w h r.first k })
under_way_of t w h k e v r =
    let lt : r.round < k = r.before in
    let from : r.first ≤ r.round = r.from_first in
    record {
      first = r.first;
      opening = record { worker = w; act = Await e v; reply = Pending };
      opens = r.opens;
      opener = refl;
      opening_act = refl;
      begins = refl;
      before = omega arith;
      goes = λ i x after before at mine. (r.goes i x after before at mine).0;
      pending = λ i x since before at mine.
          (elim (i == r.first) as (λ b. (i == r.first) ≡ b → x.reply ≡ Pending) [
            | true ↦ λ same. opening_told h r.first i w e v x r.opens (eqb-true i r.first same) at
            | false ↦ λ other. (let apart : i ≢ r.first = eqb-false i r.first other in (r.goes i x (omega arith) before at mine).1)
          ] refl);
      moments = refl;
    }

back : (t : Tables) (h : List Entry) (w k e v sum : ℕ) → HasJustFallenShort t w h k e v → sum ≡ 0
    → progress_of t w (past_at k h) ≡ Some (record { op = Await e v; index = 0; sum = sum })
unfolding sum_read
back t h w k e v sum r none =
    let n = component_count t e in
    let ps = own_moments w h r.first k in
    let lt : r.round < k = r.before in
    let is : under_way w (past_at k h) ≡ Some (record { op = Await e v; moments = ps }) =
    (calls_are_cut w k h (record { op = Await e v; moments = ps })).1 (under_way_of t w h k e v r) in
    let long : length ps ≡ n + length (own_moments w h r.first r.round) =
    ap length (parted w h r.first r.round k r.from_first (omega arith)) ∙ length-append (own_moments w h r.round k) (own_moments w h r.first r.round)
    ∙ ap (λ m. m + length (own_moments w h r.first r.round)) r.one in
    let index : length ps % n ≡ 0 = ap (λ m. m % n) long ∙ add-mod_left n (length (own_moments w h r.first r.round)) ∙ r.whole in
    ap (option_map (call_progress t)) is
    ∙ ap (λ i. Some (record { op = Await e v; index = i; sum = sum_read t e i ps })) index
    ∙ ap (λ s. Some (record { op = Await e v; index = 0; sum = s })) (sym none)

pub index_zero : IndexZeroMeansFallenShort
index_zero t h w k e v sum d acc = (forth t h w k e v sum d acc, λ r. back t h w k e v sum r.0 r.1)

-- A PENDING READ IS NEVER AT THE FIRST COMPONENT

await_of : (t : Tables) (op : Act) (moments : List (List Entry)) → IsReading t op → FellShort t op moments → next_component t (event_or op) moments ≡ 0
    → (e : ℕ) × (v : ℕ) × (op ≡ Await e v)
await_of t (Await e v) moments r fell index = (e, v, refl)
await_of t (Read e) moments r fell index = absurd (fell index)
await_of t (Advance e) moments r fell index = absurd r
await_of t Go moments r fell index = absurd r
await_of t (Ticket q) moments r fell index = absurd r
await_of t (Put x v) moments r fell index = absurd r
await_of t (Get x) moments r fell index = absurd r
await_of t (Hand e f) moments r fell index = absurd r

pub index_zero_awaits : IndexZeroIsAnAwait
index_zero_awaits t h w k progress d acc is zero_index =
    let c = shown_back t (under_way w (past_at k h)) progress is in
    let call = c.0 in
    let early = beginnings t k h acc in
    let reading : IsReading t call.op = subst (IsReadingCall t) c.1 (call_reads t (past_at k h) w early) in
    let fell_now : FellShort t call.op call.moments = subst (FellShortCall t) c.1 (fell t w (past_at k h) d early) in
    let found = await_of t call.op call.moments reading fell_now (ap (λ (p : Progress). p.index) c.2 ∙ zero_index) in
    let op : progress.op ≡ call.op = sym (ap (λ (p : Progress). p.op) c.2) in
    let await : call.op ≡ Await found.0 found.1 = found.2 in
    (found.0, found.1, op ∙ await)
