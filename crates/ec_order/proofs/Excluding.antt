-- A good list has no fault.
use Rattle.std.proofs.Common.{◌≡◌, ℕ, zero, suc, ◌<◌, inl, inr, Bool, false, List, [], ◌∷◌, length, Some, refl, ap, sym, ◌∙◌, arith, subst, ◌==◌, get_or, take, slice_get}
use Rattle.std.specs.List.{All, AllPairs, Contains, IsDistinct}
use Rattle.std.proofs.lemmas.Bool.{eqb-false, eq-eqb, ne_eqb, cases_order}
use Rattle.std.proofs.lemmas.List.Elements.{recursion_from_All, All-from_recursion}
use Rattle.std.proofs.lemmas.List.Sorted.{Contains-permutation, IsPermutation-sym}
use Rattle.std.proofs.lemmas.Map.Keys.{IsDistinct-IsPermutation}
use Rattle.std.proofs.lemmas.Option.{slice_get_within, get_or_from_slice_get}
use Rattle.ec_count.specs.Tables.{Tables, IsDeclared}
use Rattle.ec_core.specs.declared.act.Entry.{Entry}
use Rattle.ec_core.specs.Acceptance.{IsAccepted}
use Rattle.ec_order.specs.declared.call.Call.{Call}
use Rattle.ec_order.specs.declared.placed.Placed.{Placed}
use Rattle.ec_order.specs.declared.verdict.Verdict.{Verdict}
use Rattle.ec_order.specs.declared.verdict.Verdict.TheVariants.{Good, Missing, Repeated, OutOfOrder, WrongReply, WrongPoint}
use Rattle.ec_order.specs.Calls.{finished_calls}
use Rattle.ec_order.specs.Points.{point_of}
use Rattle.ec_order.specs.Sequential.{SequentialState, zero_state, sequential_reply, sequential_after, sequential_after_all, IsLegalHistory}
use Rattle.ec_order.specs.Orders.{Precedes, calls_in}
use Rattle.ec_order.specs.Verdicts.{IsLinearizationWithPoints}
use Rattle.ec_order.specs.Verdicts.{IsSound, IsVerdict, IsLate}
use Rattle.ec_order.proofs.Checking.{EndsFirst, ends_rise}

abbrev same_end : Call → Call → Bool
same_end a b = a.last == b.last

pub swaps : (m n : ℕ) → (m == n) ≡ (n == m)
swaps m n =
    elim (cases_order m n) [
      | inl same ↦ eq-eqb m n same ∙ sym (eq-eqb n m (sym same))
      | inr (inl lt) ↦ ne_eqb m n (λ e. omega arith) ∙ sym (ne_eqb n m (λ e. omega arith))
      | inr (inr gt) ↦ ne_eqb m n (λ e. omega arith) ∙ sym (ne_eqb n m (λ e. omega arith))
    ]

distinct_from : (cs : List Call) → AllPairs EndsFirst cs → IsDistinct same_end cs
unfolding IsDistinct
distinct_from [] h = tt
distinct_from (c ∷ cs) h =
    let first : All (λ (d : Call). same_end c d ≡ false) cs = λ k e lt. (let less : c.last < (get_or cs k e).last = h zero (suc k) e (omega arith) (omega arith) in ne_eqb c.last (get_or cs k e).last (λ q. omega arith)) in
    let rest : AllPairs EndsFirst cs = λ i j e lt le. h (suc i) (suc j) e (omega arith) (omega arith) in
    (recursion_from_All (λ (d : Call). same_end c d ≡ false) cs first, distinct_from cs rest)

-- equal elements are at one place
distinct_at : (cs : List Call) → IsDistinct same_end cs → (i j : ℕ) (c : Call) → i < j → slice_get cs i ≡ Some c → slice_get cs j ≡ Some c → ⊥
unfolding IsDistinct
distinct_at [] d i j c lt a b = cc
distinct_at (x ∷ xs) d zero zero c lt a b = omega arith
distinct_at (x ∷ xs) d zero (suc j) c lt a b =
    let same : x ≡ c = cc in
    let all : All (λ (y : Call). same_end x y ≡ false) xs = All-from_recursion (λ (y : Call). same_end x y ≡ false) xs d.0 in
    let other : same_end x (get_or xs j c) ≡ false = all j c (slice_get_within xs j c b) in
    let here : get_or xs j c ≡ c = get_or_from_slice_get xs j c c b in
    eqb-false x.last (get_or xs j c).last other (ap (λ (y : Call). y.last) (same ∙ sym here))
distinct_at (x ∷ xs) d (suc i) zero c lt a b = omega arith
distinct_at (x ∷ xs) d (suc i) (suc j) c lt a b = distinct_at xs d.1 i j c (omega arith) a b

call_there : (ps : List Placed) (i : ℕ) (p : Placed) → slice_get ps i ≡ Some p → slice_get (calls_in ps) i ≡ Some p.call
call_there [] i p h = cc
call_there (q ∷ ps) zero p h = (let same : q ≡ p = cc in ap (λ (x : Placed). Some x.call) same)
call_there (q ∷ ps) (suc i) p h = call_there ps i p h

call_before : (ps : List Placed) (i : ℕ) (c : Call) → Contains (calls_in (take i ps)) c → (k : ℕ) × (k < i) × (slice_get (calls_in ps) k ≡ Some c)
call_before [] zero c (k, lt, e) = absurd (omega arith)
call_before [] (suc i) c (k, lt, e) = absurd (omega arith)
call_before (q ∷ ps) zero c (k, lt, e) = absurd (omega arith)
call_before (q ∷ ps) (suc i) c (zero, lt, e) = (zero, omega arith, ap Some e)
call_before (q ∷ ps) (suc i) c (suc k, lt, e) =
    (let r = call_before ps i c (k, (let l : k < length (calls_in (take i ps)) = omega arith in l), e) in
    (suc r.0, (let l : r.0 < i = r.1 in omega arith), r.2))

placed_before : (ps : List Placed) (i k : ℕ) (a : Placed) → k < length (take i ps) → get_or (take i ps) k a ≡ a → (k < i) × (slice_get ps k ≡ Some a)
placed_before [] zero k a lt e = absurd (omega arith)
placed_before [] (suc i) k a lt e = absurd (omega arith)
placed_before (q ∷ ps) zero k a lt e = absurd (omega arith)
placed_before (q ∷ ps) (suc i) zero a lt e = (omega arith, ap Some e)
placed_before (q ∷ ps) (suc i) (suc k) a lt e = (let r = placed_before ps i k a (omega arith) e in ((let l : k < i = r.0 in omega arith), r.1))

run_at : (o : SequentialState) (ps : List Placed) (i : ℕ) (p : Placed) → IsLegalHistory o (calls_in ps) → slice_get ps i ≡ Some p → sequential_reply (sequential_after_all o (calls_in (take i ps))) p.call.op ≡ Some p.call.reply
run_at o [] i p r h = cc
run_at o (q ∷ ps) zero p r h = (let same : q ≡ p = cc in subst (λ (x : Placed). sequential_reply o x.call.op ≡ Some x.call.reply) same r.0)
run_at o (q ∷ ps) (suc i) p r h = run_at (sequential_after o q.call.op) ps i p r.1 h

late_off : (t : Tables) (past : List Entry) (ps : List Placed) (i : ℕ) (p : Placed) → IsLinearizationWithPoints t past ps → slice_get (calls_in ps) i ≡ Some p.call → IsLate (take i ps) p → ⊥
late_off t past ps i p g here (k, a, lt, e, before) =
    let cs = calls_in ps in
    let r = placed_before ps i k a lt e in
    let less : k < i = r.0 in
    let there : get_or cs k p.call ≡ a.call = get_or_from_slice_get cs k a.call p.call (call_there ps k a r.1) in
    let now : get_or cs i p.call ≡ p.call = get_or_from_slice_get cs i p.call p.call here in
    let fact : Precedes (get_or cs i p.call) (get_or cs k p.call) → ⊥ = g.legal.in_order k i p.call less (slice_get_within cs i p.call here) in
    let later : p.call.last < a.call.first = before in
    let ends : (get_or cs i p.call).last ≡ p.call.last = ap (λ (c : Call). c.last) now in
    let begins : (get_or cs k p.call).first ≡ a.call.first = ap (λ (c : Call). c.first) there in
    fact (let less' : (get_or cs i p.call).last < (get_or cs k p.call).first = omega arith in less')

good_sound : (t : Tables) (past : List Entry) (ps : List Placed) (i : ℕ) (p : Placed) → IsDeclared t → IsAccepted t past → IsLinearizationWithPoints t past ps → slice_get ps i ≡ Some p → IsSound t past (take i ps) p
good_sound t past ps i p d acc g at =
    let cs = calls_in ps in
    let distinct : IsDistinct same_end cs = IsDistinct-IsPermutation same_end (λ a b. swaps a.last b.last) (finished_calls t past) cs g.legal.each_once (distinct_from (finished_calls t past) (ends_rise t past d acc)) in
    let here : slice_get cs i ≡ Some p.call = call_there ps i p at in
    let low : i < length cs = slice_get_within cs i p.call here in
    let in' : Contains cs p.call = (i, low, get_or_from_slice_get cs i p.call p.call here) in
    record {
      known = Contains-permutation cs (finished_calls t past) p.call (IsPermutation-sym (finished_calls t past) cs g.legal.each_once) in';
      once = λ h. (let r = call_before ps i p.call h in distinct_at cs distinct r.0 i p.call r.1 r.2 here);
      in_time = λ h. late_off t past ps i p g here h;
      right = run_at zero_state ps i p g.legal.run at;
      there = (let e : get_or ps i p ≡ p = get_or_from_slice_get ps i p p at in subst (λ (q : Placed). q.point ≡ point_of past q.call) e (g.points i p (slice_get_within ps i p at)));
    }

-- only the one verdict is right of a good list
pub only_good : (t : Tables) (past : List Entry) (ps : List Placed) (v : Verdict) → IsDeclared t → IsAccepted t past → IsLinearizationWithPoints t past ps → IsVerdict t past ps v → v ≡ Good
only_good t past ps Good d acc g h = refl
only_good t past ps (Missing i) d acc g (inl f) = absurd (f.fails (good_sound t past ps i f.place d acc g f.at).known)
only_good t past ps (Missing i) d acc g (inr (e, l)) = absurd (l.nowhere (Contains-permutation (finished_calls t past) (calls_in ps) l.call g.legal.each_once l.known))
only_good t past ps (Repeated i) d acc g f = absurd ((good_sound t past ps i f.place d acc g f.at).once f.fails.1)
only_good t past ps (OutOfOrder i) d acc g f = absurd ((good_sound t past ps i f.place d acc g f.at).in_time f.fails.2)
only_good t past ps (WrongReply i) d acc g f = absurd (f.fails.3 (good_sound t past ps i f.place d acc g f.at).right)
only_good t past ps (WrongPoint i) d acc g f = absurd (f.fails.4 (good_sound t past ps i f.place d acc g f.at).there)
