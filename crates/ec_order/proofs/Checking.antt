-- What a check of each place adds up to.
use Rattle.std.proofs.Common.{◌≡◌, ℕ, zero, suc, ◌+◌, ◌<◌, ◌≤◌, ◌⊎◌, inl, inr, List, [], ◌∷◌, ◌++◌, length, Some, ap, sym, ◌∙◌, arith, subst, get_or, take, slice_get}
use Rattle.std.specs.List.{All, AllPairs, Contains}
use Rattle.std.proofs.lemmas.List.{map-append, take_more, take_all, length-take-le, get_or-take, get_or_default}
use Rattle.std.proofs.lemmas.List.Elements.{All-weaker, All-contains}
use Rattle.std.proofs.lemmas.Option.{slice_get_within, slice_get-get_or, get_or_from_slice_get}
use Rattle.ec_count.specs.Tables.{Tables, IsDeclared}
use Rattle.ec_core.specs.declared.act.Entry.{Entry}
use Rattle.ec_core.specs.Calls.{under_way, call_with_act}
use Rattle.ec_core.specs.Acceptance.{IsAccepted}
use Rattle.ec_order.specs.declared.call.Call.{Call}
use Rattle.ec_order.specs.declared.placed.Placed.{Placed}
use Rattle.ec_order.specs.Calls.{finished_calls, ended_by}
use Rattle.ec_order.specs.Sequential.{zero_state, IsLegalHistory}
use Rattle.ec_order.specs.Orders.{Precedes, calls_in}
use Rattle.ec_order.specs.Verdicts.{IsLinearizationWithPoints}
use Rattle.ec_order.specs.Verdicts.{AreSound}
use Rattle.ec_order.proofs.Fits.{Fits, all_fit}
use Rattle.ec_order.proofs.Ends.{Ends, ends}
use Rattle.ec_order.proofs.Running.{run_append, ended_last}
use Rattle.ec_order.proofs.Sorting.{AllPairs-map, AllPairs-append}
use Rattle.ec_order.proofs.shared.Matching.{Has, Differ, has_from, contains_from, same_elements, at_index}

-- one place more
pub taken_more : (ps : List Placed) (i : ℕ) (p : Placed) → slice_get ps i ≡ Some p → take (i + 1) ps ≡ take i ps ++ p ∷ []
taken_more ps i p at =
    let in' : i < length ps = slice_get_within ps i p at in
    take_more ps i p in' ∙ ap (λ q. take i ps ++ q ∷ []) (get_or_from_slice_get ps i p p at)

pub calls_more : (ps : List Placed) (p : Placed) → calls_in (ps ++ p ∷ []) ≡ calls_in ps ++ p.call ∷ []
calls_more ps p = map-append (λ (q : Placed). q.call) ps (p ∷ [])

-- the calls at sound places are a legal sequential history
run_upto : (t : Tables) (past : List Entry) (ps : List Placed) (i : ℕ) → i ≤ length ps → AreSound t past ps i → IsLegalHistory zero_state (calls_in (take i ps))
run_upto t past ps zero h s = tt
run_upto t past ps (suc i) h s =
    let a = at_index ps i (omega arith) in
    let p = a.0 in
    let one : i + 1 ≡ suc i = omega arith in
    let more : take (suc i) ps ≡ take i ps ++ p ∷ [] = ap (λ n. take n ps) (sym one) ∙ taken_more ps i p a.1 in
    let here = s i p (omega arith) a.1 in
    let run : IsLegalHistory zero_state (calls_in (take i ps) ++ p.call ∷ []) =
    run_append zero_state (calls_in (take i ps)) (p.call ∷ []) (run_upto t past ps i (omega arith) (λ k q lt at. s k q (omega arith) at)) (here.right, tt) in
    subst (IsLegalHistory zero_state) (sym (ap calls_in more ∙ calls_more (take i ps) p)) run

-- sound places have different calls
has_last : {X : Type 0} (xs : List X) (x z : X) → Has (xs ++ x ∷ []) z → Has xs z ⊎ (x ≡ z)
has_last [] x z h = elim h [ inl e ↦ inr e | inr k ↦ absurd k ]
has_last (y ∷ ys) x z h = elim h [ inl e ↦ inl (inl e) | inr k ↦ elim (has_last ys x z k) [ inl a ↦ inl (inr a) | inr b ↦ inr b ] ]

differ_more : {X : Type 0} (xs : List X) (x : X) → Differ xs → (Has xs x → ⊥) → Differ (xs ++ x ∷ [])
differ_more [] x d h = (λ k. k, tt)
differ_more {X} (y ∷ ys) x d h =
    (λ k. elim (has_last ys x y k) [ inl a ↦ d.0 a | inr e ↦ h (inl (sym e)) ], differ_more ys x d.1 (λ k. h (inr k)))

differ_upto : (t : Tables) (past : List Entry) (ps : List Placed) (i : ℕ) → i ≤ length ps → AreSound t past ps i → Differ (calls_in (take i ps))
differ_upto t past ps zero h s = tt
differ_upto t past ps (suc i) h s =
    let a = at_index ps i (omega arith) in
    let p = a.0 in
    let one : i + 1 ≡ suc i = omega arith in
    let more : take (suc i) ps ≡ take i ps ++ p ∷ [] = ap (λ n. take n ps) (sym one) ∙ taken_more ps i p a.1 in
    let here = s i p (omega arith) a.1 in
    subst Differ (sym (ap calls_in more ∙ calls_more (take i ps) p))
    (differ_more (calls_in (take i ps)) p.call (differ_upto t past ps i (omega arith) (λ k q lt at. s k q (omega arith) at))
    (λ k. here.once (contains_from (calls_in (take i ps)) p.call k)))

known_upto : (t : Tables) (past : List Entry) (ps : List Placed) (i : ℕ) → i ≤ length ps → AreSound t past ps i → (z : Call) → Has (calls_in (take i ps)) z → Has (finished_calls t past) z
known_upto t past ps zero h s z k = absurd k
known_upto t past ps (suc i) h s z k =
    let a = at_index ps i (omega arith) in
    let p = a.0 in
    let one : i + 1 ≡ suc i = omega arith in
    let more : take (suc i) ps ≡ take i ps ++ p ∷ [] = ap (λ n. take n ps) (sym one) ∙ taken_more ps i p a.1 in
    let here = s i p (omega arith) a.1 in
    elim (has_last (calls_in (take i ps)) p.call z (subst (λ (zs : List Call). Has zs z) (ap calls_in more ∙ calls_more (take i ps) p) k)) [
      | inl b ↦ known_upto t past ps i (omega arith) (λ j q lt at. s j q (omega arith) at) z b
      | inr e ↦ subst (λ (c : Call). Has (finished_calls t past) c) e (has_from (finished_calls t past) p.call here.known)
    ]

-- the completed calls end one after another
abbrev pub EndsFirst : Call → Call → Type 0
EndsFirst a b = a.last < b.last

ended_alone : (t : Tables) (x : Entry) (past : List Entry) → Ends t x past (under_way x.worker past)
    → AllPairs EndsFirst (ended_by t x (call_with_act x.act past (under_way x.worker past))) × All (λ (c : Call). c.last ≡ length past) (ended_by t x (call_with_act x.act past (under_way x.worker past)))
ended_alone t x past (inl n) = rw n.is (λ i j d lt le. absurd (omega arith), λ k d lt. absurd (omega arith))
ended_alone t x past (inr (inl r)) = (rw r.is (λ i j d lt le. absurd (omega arith)), ended_last t x past (inr (inl r)))
ended_alone t x past (inr (inr a)) = (rw a.is (λ i j d lt le. absurd (omega arith)), ended_last t x past (inr (inr a)))

pub ends_rise : (t : Tables) (past : List Entry) → IsDeclared t → IsAccepted t past → AllPairs EndsFirst (finished_calls t past)
unfolding finished_calls
ends_rise t [] d acc = λ i j e lt le. absurd (omega arith)
ends_rise t (x ∷ past) d acc =
    let k = ended_alone t x past (ends t x past d acc) in
    AllPairs-append EndsFirst (finished_calls t past) (ended_by t x (call_with_act x.act past (under_way x.worker past))) (ends_rise t past d acc.1) k.0
    (All-weaker (Fits past) (λ c. All (EndsFirst c) (ended_by t x (call_with_act x.act past (under_way x.worker past))))
    (λ c f. All-weaker (λ (b : Call). b.last ≡ length past) (EndsFirst c) (λ b e. (let lt : c.last < length past = f.last in omega arith)) (ended_by t x (call_with_act x.act past (under_way x.worker past))) k.1)
    (finished_calls t past) (all_fit t past d acc.1))

differ_from : (cs : List Call) → AllPairs EndsFirst cs → Differ cs
differ_from [] h = tt
differ_from (c ∷ cs) h =
    let first : All (EndsFirst c) cs = λ k e lt. h zero (suc k) e (omega arith) (omega arith) in
    let rest : AllPairs EndsFirst cs = λ i j e lt le. h (suc i) (suc j) e (omega arith) (omega arith) in
    (λ k. (let lt : c.last < c.last = All-contains (EndsFirst c) cs c first (contains_from cs c k) in omega arith), differ_from cs rest)

in_time_at : (t : Tables) (past : List Entry) (ps : List Placed) → AreSound t past ps (length ps) → (i j : ℕ) (e : Placed) → i < j → j < length ps
    → Precedes (get_or ps j e).call (get_or ps i e).call → ⊥
in_time_at t past ps s i j e lt le h =
    let b = get_or ps j e in
    let a = get_or ps i e in
    let long : length (take j ps) ≡ j = length-take-le j ps (omega arith) in
    let there : get_or (take j ps) i a ≡ a = get_or-take j ps i a lt ∙ get_or_default ps i a e (omega arith) in
    (s j b le (slice_get-get_or ps j e le)).in_time (i, a, (let low : i < length (take j ps) = omega arith in low), there, h)

-- a list of sound places that lacks no completed call is good
pub sound_good : (t : Tables) (past : List Entry) (ps : List Placed) → IsDeclared t → IsAccepted t past → AreSound t past ps (length ps)
    → ((c : Call) → Contains (finished_calls t past) c → Contains (calls_in ps) c) → IsLinearizationWithPoints t past ps
sound_good t past ps d acc s all =
    let whole : take (length ps) ps ≡ ps = take_all (length ps) ps (omega arith) in
    let n = length ps in
    record {
      legal = record {
        each_once = same_elements (finished_calls t past) (calls_in ps) (differ_from (finished_calls t past) (ends_rise t past d acc))
            (subst (λ (zs : List Placed). Differ (calls_in zs)) whole (differ_upto t past ps n (omega arith) s))
            (λ z h. has_from (calls_in ps) z (all z (contains_from (finished_calls t past) z h)))
            (λ z h. known_upto t past ps n (omega arith) s z (subst (λ (zs : List Placed). Has (calls_in zs) z) (sym whole) h));
        in_order = AllPairs-map (λ a b. Precedes b a → ⊥) (λ (p : Placed). p.call) ps (λ i j e lt le h. in_time_at t past ps s i j e lt le h);
        run = subst (λ (zs : List Placed). IsLegalHistory zero_state (calls_in zs)) whole (run_upto t past ps n (omega arith) s);
      };
      points = λ k e lt. (s k (get_or ps k e) lt (slice_get-get_or ps k e lt)).there;
    }
