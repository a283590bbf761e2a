-- What has its point at a moment: the read or await that returns at once there, the others, and
-- then the act.
use Rattle.std.proofs.Common.{◌≡◌, ℕ, suc, ◌<◌, ◌==◌, inl, inr, Bool, true, false, not, ◌&&◌, List, [], ◌∷◌, ◌++◌, length, map, Some, refl, ap, sym, ◌∙◌, arith, cond, subst, append_assoc, append-nil, if◌then◌else◌}
use Rattle.std.specs.List.{All, filter}
use Rattle.std.proofs.lemmas.Bool.{cases_lt, eq-eqb, ne_eqb}
use Rattle.std.proofs.lemmas.List.Elements.{All-head, All-tail, All-map, All-weaker, filter-append}
use Rattle.ec_count.specs.Tables.{Tables, IsDeclared}
use Rattle.ec_core.specs.declared.act.Entry.{Entry}
use Rattle.ec_core.specs.Acceptance.{IsAccepted}
use Rattle.ec_core.specs.Calls.{under_way, call_with_act}
use Rattle.ec_core.proofs.shared.Moments.{accepted_before}
use Rattle.ec_order.specs.declared.placed.Placed.{Placed}
use Rattle.ec_order.specs.Calls.{ended_by, finished_calls, is_reading, is_one_entry_call}
use Rattle.ec_order.specs.Points.{acts_at, at_moment, point_of, reads_at, with_point}
use Rattle.ec_order.specs.Linearizer.{is_long, long_readings}
use Rattle.ec_order.specs.Walk.{alone_at, is_one_entry_act, own_calls, reads, readings}
use Rattle.ec_order.proofs.Ends.{ends}
use Rattle.ec_order.proofs.Fits.{Fits, all_fit, point_bounds}
use Rattle.ec_order.proofs.Gathering.{alone_whole, placed, placed_more, whole_parts}
use Rattle.ec_order.proofs.Inserting.{moment_reads}
use Rattle.ec_order.proofs.Positions.{entry_at, entry_before, entry_here, entry_within, find_entry, same_some}
use Rattle.ec_order.proofs.Sorting.{filter_none, filter_within}
use Rattle.ec_order.proofs.Walking.{acts_here}
use Rattle.ec_order.proofs.Wholes.{IsLongReading, long_read, not_long, others_long, placed_whole, reading_or_alone}

-- the call of one entry, whose position and point are k, if it is a read or an await that returns
-- at once
abbrev pub told_calls : ℕ → Entry → List Placed
told_calls k x =
    if is_one_entry_call x && not (is_one_entry_act x.act) then alone_at k x ∷ [] else []

-- whether a call is a read or an await of more entries whose point is k
abbrev long_at : ℕ → Placed → Bool
long_at k p = reads p && (is_long p && reads_at k p)

no_point : (a b c d : Bool) → a ≡ false → (b && (c && (a && d))) ≡ false
no_point true b c d h = cc
no_point false false c d h = refl
no_point false true false d h = refl
no_point false true true d h = refl

no_length : (a b c : Bool) → b ≡ false → (a && (b && c)) ≡ false
no_length false b c h = refl
no_length true true c h = cc
no_length true false c h = refl

-- BELOW A MOMENT

points_below : (t : Tables) (past : List Entry) → IsDeclared t → IsAccepted t past → All (λ (p : Placed). p.point < length past) (placed t past)
points_below t past d acc =
    All-map (λ (p : Placed). p.point < length past) (with_point past) (finished_calls t past)
    (All-weaker (Fits past) (λ c. point_of past c < length past) (λ c f. (point_bounds past c f).2) (finished_calls t past) (all_fit t past d acc))

none_reads : (n : ℕ) (ps : List Placed) → All (λ (p : Placed). p.point < n) ps → filter (reads_at n) ps ≡ []
none_reads n ps h =
    filter_none (reads_at n) ps (All-weaker (λ (p : Placed). p.point < n) (λ p. reads_at n p ≡ false) (λ p lt. ap (λ b. b && reads p) (ne_eqb p.point n (λ e. omega arith))) ps h)

none_long : (n : ℕ) (ps : List Placed) → All (λ (p : Placed). p.point < n) ps → filter (long_at n) ps ≡ []
none_long n ps h =
    filter_none (long_at n) ps
    (All-weaker (λ (p : Placed). p.point < n) (λ p. long_at n p ≡ false) (λ p lt. no_point (p.point == n) (reads p) (is_long p) (reads p) (ne_eqb p.point n (λ e. omega arith))) ps h)

-- WHAT ONE ENTRY ADDS

same_kept : (f g : Placed → Bool) (ps : List Placed) → All (λ p. f p ≡ g p) ps → filter f ps ≡ filter g ps
same_kept f g [] h = refl
same_kept f g (p ∷ ps) h =
    ap (λ b. cond b (p ∷ filter f ps) (filter f ps)) (All-head (λ q. f q ≡ g q) p ps h) ∙ ap (λ qs. cond (g p) (p ∷ qs) qs) (same_kept f g ps (All-tail (λ q. f q ≡ g q) p ps h))

both_long : (a b c : Bool) → b ≡ true → c ≡ true → (a && b) ≡ (b && (c && (a && b)))
both_long a true true h l = refl
both_long a false c h l = cc
both_long a true false h l = cc

-- an entry that is no whole call
part_adds : (t : Tables) (y : Entry) (past : List Entry) (k : ℕ) → IsDeclared t → IsAccepted t (y ∷ past) → is_one_entry_call y ≡ false
    → filter (reads_at k) (map (with_point (y ∷ past)) (ended_by t y (call_with_act y.act past (under_way y.worker past)))) ≡ filter (long_at k) (map (with_point (y ∷ past)) (ended_by t y (call_with_act y.act past (under_way y.worker past))))
part_adds t y past k d acc part =
    let f = with_point (y ∷ past) in
    let cs = ended_by t y (call_with_act y.act past (under_way y.worker past)) in
    same_kept (reads_at k) (long_at k) (map f cs)
    (All-map (λ p. reads_at k p ≡ long_at k p) f cs
    (All-weaker IsLongReading (λ c. reads_at k (f c) ≡ long_at k (f c)) (λ c l. both_long ((f c).point == k) (is_reading c.op) (is_long (f c)) l.0 l.1) cs (others_long t y past part (ends t y past d acc))))

whole_long : (k n : ℕ) (y : Entry) → filter (long_at k) (alone_at n y ∷ []) ≡ []
whole_long k n y =
    let q = alone_at n y in
    ap (λ b. cond b (q ∷ []) []) (no_length (reads q) (is_long q) (reads_at k q) (not_long n y))

-- an entry, at an earlier moment
adds_before : (t : Tables) (y : Entry) (past : List Entry) (k : ℕ) → IsDeclared t → IsAccepted t (y ∷ past) → k < length past
    → filter (reads_at k) (map (with_point (y ∷ past)) (ended_by t y (call_with_act y.act past (under_way y.worker past)))) ≡ filter (long_at k) (map (with_point (y ∷ past)) (ended_by t y (call_with_act y.act past (under_way y.worker past))))
adds_before t y past k d acc lt =
    elim (is_one_entry_call y) as (λ b. is_one_entry_call y ≡ b → filter (reads_at k) (map (with_point (y ∷ past)) (ended_by t y (call_with_act y.act past (under_way y.worker past)))) ≡ filter (long_at k) (map (with_point (y ∷ past)) (ended_by t y (call_with_act y.act past (under_way y.worker past))))) [
      | true ↦ λ whole.
          (let q = alone_at (length past) y in
          let is = placed_whole t y past (y ∷ past) whole in
          ap (filter (reads_at k)) is ∙ ap (λ b. cond (b && reads q) (q ∷ []) []) (ne_eqb (length past) k (λ e. omega arith))
          ∙ sym (ap (filter (long_at k)) is ∙ whole_long k (length past) y))
      | false ↦ λ part. part_adds t y past k d acc part
    ] refl

-- an entry, at its own moment
adds_here : (t : Tables) (y : Entry) (past : List Entry) → IsDeclared t → IsAccepted t (y ∷ past)
    → filter (reads_at (length past)) (map (with_point (y ∷ past)) (ended_by t y (call_with_act y.act past (under_way y.worker past))))
    ≡ told_calls (length past) y ++ filter (long_at (length past)) (map (with_point (y ∷ past)) (ended_by t y (call_with_act y.act past (under_way y.worker past))))
adds_here t y past d acc =
    let n = length past in
    let q = alone_at n y in
    let more = map (with_point (y ∷ past)) (ended_by t y (call_with_act y.act past (under_way y.worker past))) in
    elim (is_one_entry_call y) as (λ b. is_one_entry_call y ≡ b → filter (reads_at n) more ≡ cond (b && not (is_one_entry_act y.act)) (q ∷ []) [] ++ filter (long_at n) more) [
      | true ↦ λ whole.
          (let is : more ≡ q ∷ [] = placed_whole t y past (y ∷ past) whole in
          let reading : is_reading y.act ≡ not (is_one_entry_act y.act) = reading_or_alone y.act (whole_parts y whole).0 in
          let returned = cond (not (is_one_entry_act y.act)) (q ∷ []) [] in
          ap (filter (reads_at n)) is ∙ ap (λ b. cond (b && is_reading y.act) (q ∷ []) []) (eq-eqb n n refl) ∙ ap (λ b. cond b (q ∷ []) []) reading
          ∙ sym (ap (λ ps. returned ++ ps) (ap (filter (long_at n)) is ∙ whole_long n n y) ∙ append-nil returned))
      | false ↦ λ part. part_adds t y past n d acc part
    ] refl

-- THE READS AND AWAITS OF A MOMENT

reads_here : (t : Tables) (past : List Entry) (k : ℕ) (x : Entry) → IsDeclared t → IsAccepted t past → entry_at past k ≡ Some x
    → filter (reads_at k) (placed t past) ≡ told_calls k x ++ filter (long_at k) (placed t past)
reads_here t [] k x d acc at = (let in' : k < 0 = entry_within [] k x at in absurd (omega arith))
reads_here t (y ∷ past) k x d acc at =
    let n = length past in
    let ps = placed t past in
    let more = map (with_point (y ∷ past)) (ended_by t y (call_with_act y.act past (under_way y.worker past))) in
    let all : placed t (y ∷ past) ≡ ps ++ more = placed_more t y past d acc in
    let read : filter (reads_at k) (placed t (y ∷ past)) ≡ filter (reads_at k) ps ++ filter (reads_at k) more = ap (filter (reads_at k)) all ∙ filter-append (reads_at k) ps more in
    let long : filter (long_at k) (placed t (y ∷ past)) ≡ filter (long_at k) ps ++ filter (long_at k) more = ap (filter (long_at k)) all ∙ filter-append (long_at k) ps more in
    elim (cases_lt k n) [
      | inl lt ↦
          read ∙ ap (λ qs. qs ++ filter (reads_at k) more) (reads_here t past k x d acc.1 (sym (entry_before y past k lt) ∙ at)) ∙ ap (λ qs. (told_calls k x ++ filter (long_at k) ps) ++ qs) (adds_before t y past k d acc lt)
          ∙ append_assoc (told_calls k x) (filter (long_at k) ps) (filter (long_at k) more) ∙ ap (λ qs. told_calls k x ++ qs) (sym long)
      | inr ge ↦
          (let in' : k < suc n = entry_within (y ∷ past) k x at in
          let same : n ≡ k = omega arith in
          let is : y ≡ x = same_some y x (sym (entry_here y past) ∙ ap (entry_at (y ∷ past)) same ∙ at) in
          let below : All (λ (p : Placed). p.point < k) ps = subst (λ j. All (λ (p : Placed). p.point < j) ps) same (points_below t past d acc.1) in
          let here : filter (reads_at k) more ≡ told_calls k y ++ filter (long_at k) more = subst (λ j. filter (reads_at j) more ≡ told_calls j y ++ filter (long_at j) more) same (adds_here t y past d acc) in
          read ∙ ap (λ qs. qs ++ filter (reads_at k) more) (none_reads k ps below) ∙ here ∙ ap (λ z. told_calls k z ++ filter (long_at k) more) is
          ∙ ap (λ qs. told_calls k x ++ qs) (sym (long ∙ ap (λ qs. qs ++ filter (long_at k) more) (none_long k ps below))))
    ]

long_here : (t : Tables) (past : List Entry) (k : ℕ) → at_moment (long_readings t past) k ≡ filter (long_at k) (placed t past)
long_here t past k =
    moment_reads k (long_readings t past) (long_read t past) ∙ filter_within (reads_at k) is_long (readings t past) ∙ filter_within (λ p. is_long p && reads_at k p) reads (placed t past)

-- what is so at a moment, if these are all calls and the long ones, and this is its entry
pub record IsMoment (all longs : List Placed) (k : ℕ) (x : Entry) : Type 0 where
  pub calls : at_moment all k ≡ told_calls k x ++ (at_moment longs k ++ own_calls k x)
  pub whole : is_one_entry_act x.act ≡ true → is_one_entry_call x ≡ true

pub moment_of : (t : Tables) (past : List Entry) (k : ℕ) (x : Entry) → IsDeclared t → IsAccepted t past → entry_at past k ≡ Some x → IsMoment (placed t past) (long_readings t past) k x
moment_of t past k x d acc at =
    let all = placed t past in
    let f = find_entry past k x at in
    let acc' : IsAccepted t (x ∷ f.before) = accepted_before t f.in_late.since (x ∷ f.before) (subst (IsAccepted t) f.in_late.is acc) in
    record {
      calls = ap (λ ps. ps ++ filter (acts_at k) all) (reads_here t past k x d acc at) ∙ ap (λ ps. (told_calls k x ++ filter (long_at k) all) ++ ps) (acts_here t past k x d acc at)
          ∙ append_assoc (told_calls k x) (filter (long_at k) all) (own_calls k x) ∙ ap (λ ps. told_calls k x ++ (ps ++ own_calls k x)) (sym (long_here t past k));
      whole = λ one_entry_calls. alone_whole t x f.before one_entry_calls (ends t x f.before d acc');
    }
