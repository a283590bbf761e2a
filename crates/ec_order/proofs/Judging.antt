-- The state of the check of a list, and its verdicts.
use Rattle.std.proofs.Common.{◌≡◌, ℕ, ◌+◌, ◌<◌, ◌≤◌, ◌⊎◌, inl, inr, max, Bool, true, false, List, [], ◌∷◌, ◌++◌, length, Some, None, refl, ap, sym, ◌∙◌, arith, subst, cond, ◌==◌, nat_le, get_or, set, take, slice_get, slice_index, slice_set, length-set, get_or-set_same, get_or-set_other, length-append}
use Rattle.std.specs.List.{All, AllPairs, Any, Contains}
use Rattle.std.proofs.lemmas.Bool.{true≢false, eqb-true, eqb-false, cases_order, cases_eq, cases_lt}
use Rattle.std.proofs.lemmas.List.{set_past, take_all, get_or_append_left, get_or_push, get_or_past}
use Rattle.std.proofs.lemmas.List.Elements.{All-weaker, All-contains, All-push, Contains-append_left, Contains-push, Contains-push_cases}
use Rattle.std.proofs.lemmas.Option.{slice_get_within, slice_get-get_or, get_or_from_slice_get}
use Rattle.ec_count.specs.Tables.{Tables, IsDeclared}
use Rattle.ec_core.specs.declared.act.Act.{Act}
use Rattle.ec_core.specs.declared.act.Act.TheVariants.{Advance, Read, Await, Ticket, Put, Get}
use Rattle.ec_core.specs.declared.act.Reply.TheVariants.{Number}
use Rattle.ec_core.specs.declared.act.Entry.{Entry}
use Rattle.ec_core.specs.Acceptance.{IsAccepted}
use Rattle.ec_core.specs.kept.Fields.{IsNamed}
use Rattle.ec_core.proofs.shared.Places.{get_set}
use Rattle.ec_numbers.specs.Numbers.{NumberListModel}
use Rattle.ec_order.specs.declared.call.Call.{Call}
use Rattle.ec_order.specs.declared.placed.Placed.{Placed}
use Rattle.ec_order.specs.declared.numbers.Numbers.{Numbers}
use Rattle.ec_order.specs.declared.verdict.Verdict.TheVariants.{Good, Missing, Repeated, OutOfOrder, WrongReply, WrongPoint}
use Rattle.ec_order.specs.Calls.{finished_calls}
use Rattle.ec_order.specs.Points.{point_of}
use Rattle.ec_order.specs.Sequential.{SequentialState, zero_state, update_at, sequential_reply, sequential_after, sequential_after_all}
use Rattle.ec_order.specs.kept.Numbered.{reply_in, after_in, AreFew}
use Rattle.ec_order.specs.Orders.{calls_in}
use Rattle.ec_order.specs.Index.{IsIndex, point_in}
use Rattle.ec_order.specs.Verdicts.{IsSound, AreSound, IsVerdict, IsLate}
use Rattle.ec_order.proofs.shared.Matching.{none_in, at_index}
use Rattle.ec_order.proofs.Fits.{Fits, all_fit}
use Rattle.ec_order.proofs.Running.{after_append}
use Rattle.ec_order.proofs.Reaching.{placed_is}
use Rattle.ec_order.proofs.Checking.{taken_more, calls_more, sound_good, EndsFirst, ends_rise}

-- THE NUMBERS

pub record IsShown (n : Numbers) (o : SequentialState) : Type 0 where
  pub events : (e : ℕ) → e < 32 → slice_index n.events e ≡ o.events e
  pub sequencers : (q : ℕ) → q < 32 → slice_index n.sequencers q ≡ o.sequencers q
  pub cells : (x : ℕ) → x < 256 → slice_index n.cells x ≡ o.cells x
  pub long_events : length n.events ≡ 32
  pub long_sequencers : length n.sequencers ≡ 32
  pub long_cells : length n.cells ≡ 256

told_same : (n : Numbers) (o : SequentialState) (op : Act) → IsShown n o → IsNamed op → reply_in n op ≡ sequential_reply o op
told_same n o (Read e) s k = ap (λ v. Some (Number v)) (s.events e k)
told_same n o (Await e v) s k = ap (λ w. cond (nat_le v w) (Some (Number w)) None) (s.events e k)
told_same n o (Ticket q) s k = ap (λ v. Some (Number v)) (s.sequencers q k)
told_same n o (Get x) s k = ap (λ v. Some (Number v)) (s.cells x k)
told_same n o op s k = refl

put_same : (xs : List ℕ) (f : ℕ → ℕ) (n m v : ℕ) → n < length xs → get_or xs m 0 ≡ f m → get_or (set xs n v) m 0 ≡ update_at f n v m
put_same xs f n m v lt h =
    elim (n == m) as (λ b. (n == m) ≡ b → get_or (set xs n v) m 0 ≡ cond b v (f m)) [
      | true ↦ λ e. (let same : n ≡ m = eqb-true n m e in ap (λ k. get_or (set xs n v) k 0) (sym same) ∙ get_or-set_same xs n v 0 lt)
      | false ↦ λ e. get_or-set_other xs n m v 0 (λ same. eqb-false n m e (sym same)) ∙ h
    ] refl

shown_after : (n : Numbers) (o : SequentialState) (op : Act) → IsShown n o → IsNamed op → IsShown (after_in n op) (sequential_after o op)
shown_after n o (Advance e) s k = record {
  events = λ f lt. put_same n.events o.events e f (slice_index n.events e + 1) (let l : length n.events ≡ 32 = s.long_events in omega arith) (s.events f lt) ∙ ap (λ v. update_at o.events e (v + 1) f) (s.events e k);
  sequencers = s.sequencers;
  cells = s.cells;
  long_events = length-set n.events e (slice_index n.events e + 1) ∙ s.long_events;
  long_sequencers = s.long_sequencers;
  long_cells = s.long_cells;
}
shown_after n o (Ticket q) s k = record {
  events = s.events;
  sequencers = λ f lt. put_same n.sequencers o.sequencers q f (slice_index n.sequencers q + 1) (let l : length n.sequencers ≡ 32 = s.long_sequencers in omega arith) (s.sequencers f lt) ∙ ap (λ v. update_at o.sequencers q (v + 1) f) (s.sequencers q k);
  cells = s.cells;
  long_events = s.long_events;
  long_sequencers = length-set n.sequencers q (slice_index n.sequencers q + 1) ∙ s.long_sequencers;
  long_cells = s.long_cells;
}
shown_after n o (Put x v) s k = record {
  events = s.events;
  sequencers = s.sequencers;
  cells = λ f lt. put_same n.cells o.cells x f v (let l : length n.cells ≡ 256 = s.long_cells in omega arith) (s.cells f lt);
  long_events = s.long_events;
  long_sequencers = s.long_sequencers;
  long_cells = length-set n.cells x v ∙ s.long_cells;
}
shown_after n o op s k = s

few_set : (xs : List ℕ) (i n m : ℕ) → ((k : ℕ) → get_or xs k 0 ≤ i) → get_or (set xs n (get_or xs n 0 + 1)) m 0 ≤ i + 1
few_set xs i n m h =
    elim (cases_lt n (length xs)) [
      | inl lt ↦
          (elim (cases_eq m n) [
            | inl same ↦ (let here : get_or xs n 0 ≤ i = h n in rw (same, get_or-set_same xs n (get_or xs n 0 + 1) 0 lt) (omega arith))
            | inr other ↦ (let there : get_or xs m 0 ≤ i = h m in rw (get_or-set_other xs n m (get_or xs n 0 + 1) 0 other) (omega arith))
          ])
      | inr ge ↦ (let there : get_or xs m 0 ≤ i = h m in rw (set_past xs n (get_or xs n 0 + 1) ge) (omega arith))
    ]

few_next : (xs : List ℕ) (i m : ℕ) → ((k : ℕ) → get_or xs k 0 ≤ i) → get_or xs m 0 ≤ i + 1
few_next xs i m h = (let there : get_or xs m 0 ≤ i = h m in omega arith)

few_after : (n : Numbers) (i : ℕ) (op : Act) → AreFew n i → AreFew (after_in n op) (i + 1)
few_after n i (Advance e) f = record { events = λ k. few_set n.events i e k f.events; sequencers = λ k. few_next n.sequencers i k f.sequencers }
few_after n i (Ticket q) f = record { events = λ k. few_next n.events i k f.events; sequencers = λ k. few_set n.sequencers i q k f.sequencers }
few_after n i op f = record { events = λ k. few_next n.events i k f.events; sequencers = λ k. few_next n.sequencers i k f.sequencers }

-- THE CHECK OF THE FIRST i PLACES

-- a mark says whether a completed call is at an earlier place
abbrev pub Marks : List Call → List Bool → List Placed → Type 0
Marks cs seen before = (j : ℕ) (c : Call) → slice_get cs j ≡ Some c
    → (slice_get seen j ≡ Some true → Contains (calls_in before) c) × (slice_get seen j ≡ Some false → Contains (calls_in before) c → ⊥)

pub record IsChecked (t : Tables) (past : List Entry) (ps : List Placed) (i : ℕ) (cs : List Call) (seen : List Bool) (latest : ℕ) (n : Numbers) : Type 0 where
  pub sound : AreSound t past ps i
  pub long : length seen ≡ length cs
  pub marks : Marks cs seen (take i ps)
  pub above : All (λ (a : Placed). a.call.first ≤ latest) (take i ps)
  pub reached : (latest ≡ 0) ⊎ Any (λ (a : Placed). a.call.first ≡ latest) (take i ps)
  pub shown : IsShown n (sequential_after_all zero_state (calls_in (take i ps)))
  pub few : AreFew n i

-- what is given
pub record IsGiven (t : Tables) (past : List Entry) (cs : List Call) : Type 0 where
  pub declared : IsDeclared t
  pub accepted : IsAccepted t past
  pub calls : cs ≡ finished_calls t past

known_at : (t : Tables) (past : List Entry) (cs : List Call) (j : ℕ) (c : Call) → IsGiven t past cs → slice_get cs j ≡ Some c → Contains (finished_calls t past) c
known_at t past cs j c g at = subst (λ zs. Contains zs c) g.calls (j, slice_get_within cs j c at, get_or_from_slice_get cs j c c at)

late_any : (before : List Placed) (p : Placed) (latest : ℕ) → ((latest ≡ 0) ⊎ Any (λ (a : Placed). a.call.first ≡ latest) before) → p.call.last < latest → IsLate before p
late_any before p latest (inl e) lt = absurd (omega arith)
late_any before p latest (inr (k, a, low, at, e)) lt = (k, a, low, at, (let h : p.call.last < a.call.first = omega arith in h))

not_late : (before : List Placed) (p : Placed) (latest : ℕ) → All (λ (a : Placed). a.call.first ≤ latest) before → latest ≤ p.call.last → IsLate before p → ⊥
not_late before p latest all le (k, a, low, at, before') =
    let high : a.call.first ≤ latest = subst (λ (z : Placed). z.call.first ≤ latest) at (all k a low) in
    let less : p.call.last < a.call.first = before' in
    omega arith

-- the verdicts at place i
module _ (t : Tables) (past : List Entry) (ps : List Placed) (i : ℕ) (cs : List Call) (seen : List Bool) (latest : ℕ) (n : Numbers) (p : Placed)
    (g : IsGiven t past cs) (s : IsChecked t past ps i cs seen latest n) (at : slice_get ps i ≡ Some p) where
  pub missing_at : (Contains cs p.call → ⊥) → IsVerdict t past ps (Missing i)
  missing_at h = inl (record { sound = s.sound; place = p; at = at; fails = λ k. h (subst (λ zs. Contains zs p.call) (sym g.calls) k) })

  pub repeated_at : (j : ℕ) → slice_get cs j ≡ Some p.call → slice_get seen j ≡ Some true → IsVerdict t past ps (Repeated i)
  repeated_at j c m = record { sound = s.sound; place = p; at = at; fails = (known_at t past cs j p.call g c, (s.marks j p.call c).0 m) }

  pub late_at : (j : ℕ) → slice_get cs j ≡ Some p.call → slice_get seen j ≡ Some false → p.call.last < latest → IsVerdict t past ps (OutOfOrder i)
  late_at j c m lt = record { sound = s.sound; place = p; at = at; fails = (known_at t past cs j p.call g c, (s.marks j p.call c).1 m, late_any (take i ps) p latest s.reached lt) }

  pub wrong_reply_at : (j : ℕ) → slice_get cs j ≡ Some p.call → slice_get seen j ≡ Some false → latest ≤ p.call.last → IsNamed p.call.op → (reply_in n p.call.op ≡ Some p.call.reply → ⊥)
      → IsVerdict t past ps (WrongReply i)
  wrong_reply_at j c m le k h = record {
    sound = s.sound;
    place = p;
    at = at;
    fails = (
      known_at t past cs j p.call g c,
      (s.marks j p.call c).1 m,
      not_late (take i ps) p latest s.above le,
      λ e. h (told_same n (sequential_after_all zero_state (calls_in (take i ps))) p.call.op s.shown k ∙ e),
    );
  }

  point_same : (lists : List NumberListModel) (j : ℕ) → IsIndex past lists → slice_get cs j ≡ Some p.call → point_in lists p.call ≡ point_of past p.call
  point_same lists j index c =
      let f : Fits past p.call = All-contains (Fits past) (finished_calls t past) p.call (all_fit t past g.declared g.accepted) (known_at t past cs j p.call g c) in
      ap (λ (q : Placed). q.point) (placed_is past lists p.call index f)

  pub wrong_point_at : (lists : List NumberListModel) (j : ℕ) → IsIndex past lists → slice_get cs j ≡ Some p.call → slice_get seen j ≡ Some false → latest ≤ p.call.last → IsNamed p.call.op
      → reply_in n p.call.op ≡ Some p.call.reply → (p.point ≡ point_in lists p.call → ⊥) → IsVerdict t past ps (WrongPoint i)
  wrong_point_at lists j index c m le k r h = record {
    sound = s.sound;
    place = p;
    at = at;
    fails = (
      known_at t past cs j p.call g c,
      (s.marks j p.call c).1 m,
      not_late (take i ps) p latest s.above le,
      sym (told_same n (sequential_after_all zero_state (calls_in (take i ps))) p.call.op s.shown k) ∙ r,
      λ e. h (e ∙ sym (point_same lists j index c)),
    );
  }

  sound_here : (lists : List NumberListModel) (j : ℕ) → IsIndex past lists → slice_get cs j ≡ Some p.call → slice_get seen j ≡ Some false → latest ≤ p.call.last → IsNamed p.call.op
      → reply_in n p.call.op ≡ Some p.call.reply → p.point ≡ point_in lists p.call → IsSound t past (take i ps) p
  sound_here lists j index c m le k r e = record {
    known = known_at t past cs j p.call g c;
    once = (s.marks j p.call c).1 m;
    in_time = not_late (take i ps) p latest s.above le;
    right = sym (told_same n (sequential_after_all zero_state (calls_in (take i ps))) p.call.op s.shown k) ∙ r;
    there = e ∙ point_same lists j index c;
  }

-- a call is at one place
one_place : (cs : List Call) (j k : ℕ) (c : Call) → AllPairs EndsFirst cs → slice_get cs j ≡ Some c → slice_get cs k ≡ Some c → j ≡ k
one_place cs j k c rise a b =
    let ja : get_or cs j c ≡ c = get_or_from_slice_get cs j c c a in
    let kb : get_or cs k c ≡ c = get_or_from_slice_get cs k c c b in
    let lj : (get_or cs j c).last ≡ c.last = ap (λ (x : Call). x.last) ja in
    let lk : (get_or cs k c).last ≡ c.last = ap (λ (x : Call). x.last) kb in
    elim (cases_order j k) [
      | inl same ↦ same
      | inr (inl less) ↦ (let r : (get_or cs j c).last < (get_or cs k c).last = rise j k c less (slice_get_within cs k c b) in absurd (omega arith))
      | inr (inr more) ↦ (let r : (get_or cs k c).last < (get_or cs j c).last = rise k j c more (slice_get_within cs j c a) in absurd (omega arith))
    ]

marked : (cs : List Call) (seen : List Bool) (before : List Placed) (p : Placed) (j : ℕ) → AllPairs EndsFirst cs → slice_get cs j ≡ Some p.call → j < length seen → Marks cs seen before
    → Marks cs (slice_set seen j true) (before ++ p ∷ [])
marked cs seen before p j rise at low marks k c here =
    let more : calls_in (before ++ p ∷ []) ≡ calls_in before ++ p.call ∷ [] = calls_more before p in
    let mark : slice_get (slice_set seen j true) k ≡ cond (j == k) (Some true) (slice_get seen k) = get_set seen j k true low in
    elim (j == k) as (λ b. (j == k) ≡ b → (cond b (Some true) (slice_get seen k) ≡ Some true → Contains (calls_in before ++ p.call ∷ []) c) × (cond b (Some true) (slice_get seen k) ≡ Some false → Contains (calls_in before ++ p.call ∷ []) c → ⊥)
    → (slice_get (slice_set seen j true) k ≡ Some true → Contains (calls_in (before ++ p ∷ [])) c) × (slice_get (slice_set seen j true) k ≡ Some false → Contains (calls_in (before ++ p ∷ [])) c → ⊥)) [
      | true ↦ λ e f. rw (mark, more, e) f
      | false ↦ λ e f. rw (mark, more, e) f
    ] refl
    (elim (j == k) as (λ b. (j == k) ≡ b → (cond b (Some true) (slice_get seen k) ≡ Some true → Contains (calls_in before ++ p.call ∷ []) c) × (cond b (Some true) (slice_get seen k) ≡ Some false → Contains (calls_in before ++ p.call ∷ []) c → ⊥)) [
      | true ↦ λ e.
          (let same : j ≡ k = eqb-true j k e in
          let it : Some p.call ≡ Some c = sym at ∙ ap (slice_get cs) same ∙ here in
          let call : p.call ≡ c = cc in
          (λ _. subst (Contains (calls_in before ++ p.call ∷ [])) call (Contains-push (calls_in before) p.call), λ h. cc))
      | false ↦ λ e. (
        λ h. Contains-append_left (calls_in before) (p.call ∷ []) c ((marks k c here).0 h),
        λ h w. elim (Contains-push_cases (calls_in before) p.call c w) [
          | inl old ↦ (marks k c here).1 h old
          | inr same ↦ eqb-false j k e (one_place cs j k p.call rise at (here ∙ ap Some (sym same)))
        ],
      )
    ] refl)

above_more : (before : List Placed) (p : Placed) (latest : ℕ) → All (λ (a : Placed). a.call.first ≤ latest) before → All (λ (a : Placed). a.call.first ≤ max latest p.call.first) (before ++ p ∷ [])
above_more before p latest h =
    All-push (λ (a : Placed). a.call.first ≤ max latest p.call.first) before p
    (All-weaker (λ (a : Placed). a.call.first ≤ latest) (λ (a : Placed). a.call.first ≤ max latest p.call.first) (λ a le. omega arith) before h) (omega arith)

any_push : (P : Placed → Type 0) (before : List Placed) (p : Placed) → Any P before → Any P (before ++ p ∷ [])
any_push P before p (k, a, low, at, h) =
    (k, a, omega (arith, length-append before (p ∷ [])), get_or_append_left before (p ∷ []) a k low ∙ at, h)

any_last : (P : Placed → Type 0) (before : List Placed) (p : Placed) → P p → Any P (before ++ p ∷ [])
any_last P before p h = (length before, p, omega (arith, length-append before (p ∷ [])), get_or_push before p p (length before) refl, h)

reached_more : (before : List Placed) (p : Placed) (latest : ℕ) → ((latest ≡ 0) ⊎ Any (λ (a : Placed). a.call.first ≡ latest) before)
    → (max latest p.call.first ≡ 0) ⊎ Any (λ (a : Placed). a.call.first ≡ max latest p.call.first) (before ++ p ∷ [])
reached_more before p latest r =
    elim (cases_lt p.call.first latest) [
      | inl lt ↦
          (let same : max latest p.call.first ≡ latest = omega arith in
          elim r [
            | inl e ↦ inl (same ∙ e)
            | inr a ↦ inr (subst (λ m. Any (λ (q : Placed). q.call.first ≡ m) (before ++ p ∷ [])) (sym same) (any_push (λ (q : Placed). q.call.first ≡ latest) before p a))
          ])
      | inr ge ↦
          (let same : max latest p.call.first ≡ p.call.first = omega arith in
          inr (subst (λ m. Any (λ (q : Placed). q.call.first ≡ m) (before ++ p ∷ [])) (sym same) (any_last (λ (q : Placed). q.call.first ≡ p.call.first) before p refl)))
    ]

sound_next : (t : Tables) (past : List Entry) (ps : List Placed) (i : ℕ) (p : Placed) → AreSound t past ps i → slice_get ps i ≡ Some p → IsSound t past (take i ps) p → AreSound t past ps (i + 1)
sound_next t past ps i p s at here k q lt there =
    elim (cases_lt k i) [
      | inl less ↦ s k q less there
      | inr ge ↦
          (let same : k ≡ i = omega arith in
          let it : Some p ≡ Some q = sym at ∙ ap (slice_get ps) (sym same) ∙ there in
          let place : p ≡ q = cc in
          subst (λ n. IsSound t past (take n ps) q) (sym same) (subst (IsSound t past (take i ps)) place here))
    ]

pub checked_start : (t : Tables) (past : List Entry) (ps : List Placed) (cs : List Call) (seen : List Bool) (n : Numbers) → length seen ≡ length cs → All (λ (b : Bool). b ≡ false) seen
    → IsShown n zero_state → AreFew n 0 → IsChecked t past ps 0 cs seen 0 n
checked_start t past ps cs seen n long none shown few = record {
  sound = λ k p lt. absurd (omega arith);
  long = long;
  marks = λ j c at. (λ m. (let off : get_or seen j true ≡ false = none j true (slice_get_within seen j true m) in absurd (true≢false (sym (get_or_from_slice_get seen j true true m) ∙ off))), λ m h. none_in c h);
  above = λ k d lt. absurd (omega arith);
  reached = inl refl;
  shown = shown;
  few = few;
}

pub checked_more : (t : Tables) (past : List Entry) (ps : List Placed) (i : ℕ) (cs : List Call) (seen : List Bool) (latest : ℕ) (n : Numbers) (p : Placed) (lists : List NumberListModel) (j : ℕ)
    → IsGiven t past cs → IsChecked t past ps i cs seen latest n → slice_get ps i ≡ Some p
    → IsIndex past lists → slice_get cs j ≡ Some p.call → slice_get seen j ≡ Some false → latest ≤ p.call.last → IsNamed p.call.op
    → reply_in n p.call.op ≡ Some p.call.reply → p.point ≡ point_in lists p.call
    → IsChecked t past ps (i + 1) cs (slice_set seen j true) (max latest p.call.first) (after_in n p.call.op)
checked_more t past ps i cs seen latest n p lists j g s at index c m le k r e =
    let more : take (i + 1) ps ≡ take i ps ++ p ∷ [] = taken_more ps i p at in
    let rise : AllPairs EndsFirst cs = subst (AllPairs EndsFirst) (sym g.calls) (ends_rise t past g.declared g.accepted) in
    let o = sequential_after_all zero_state (calls_in (take i ps)) in
    let next : sequential_after_all zero_state (calls_in (take i ps ++ p ∷ [])) ≡ sequential_after o p.call.op = ap (sequential_after_all zero_state) (calls_more (take i ps) p) ∙ after_append zero_state (calls_in (take i ps)) (p.call ∷ []) in
    record {
      sound = λ q x lt there. sound_next t past ps i p s.sound at (sound_here t past ps i cs seen latest n p g s at lists j index c m le k r e) q x lt there;
      long = length-set seen j true ∙ s.long;
      marks = subst (Marks cs (slice_set seen j true)) (sym more) (marked cs seen (take i ps) p j rise c (slice_get_within seen j false m) s.marks);
      above = subst (All (λ (a : Placed). a.call.first ≤ max latest p.call.first)) (sym more) (above_more (take i ps) p latest s.above);
      reached = subst (λ zs. (max latest p.call.first ≡ 0) ⊎ Any (λ (a : Placed). a.call.first ≡ max latest p.call.first) zs) (sym more) (reached_more (take i ps) p latest s.reached);
      shown = subst (λ zs. IsShown (after_in n p.call.op) (sequential_after_all zero_state (calls_in zs))) (sym more) (subst (IsShown (after_in n p.call.op)) (sym next) (shown_after n o p.call.op s.shown k));
      few = few_after n i p.call.op s.few;
    }

-- the verdicts at the end
pub lacks_end : (t : Tables) (past : List Entry) (ps : List Placed) (cs : List Call) (seen : List Bool) (latest : ℕ) (n : Numbers) (j : ℕ) → IsGiven t past cs → IsChecked t past ps (length ps) cs seen latest n
    → slice_get seen j ≡ Some false → IsVerdict t past ps (Missing (length ps))
lacks_end t past ps cs seen latest n j g s m =
    let whole : take (length ps) ps ≡ ps = take_all (length ps) ps (omega arith) in
    let low : j < length cs = (let a : j < length seen = slice_get_within seen j false m in let b : length seen ≡ length cs = s.long in omega arith) in
    let c = at_index cs j low in
    inr (refl, record { sound = s.sound; call = c.0; known = known_at t past cs j c.0 g c.1; nowhere = subst (λ zs. Contains (calls_in zs) c.0 → ⊥) whole ((s.marks j c.0 c.1).1 m) })

pub good_end : (t : Tables) (past : List Entry) (ps : List Placed) (cs : List Call) (seen : List Bool) (latest : ℕ) (n : Numbers) → IsGiven t past cs → IsChecked t past ps (length ps) cs seen latest n
    → All (λ (b : Bool). b ≡ true) seen → IsVerdict t past ps Good
good_end t past ps cs seen latest n g s all =
    let whole : take (length ps) ps ≡ ps = take_all (length ps) ps (omega arith) in
    sound_good t past ps g.declared g.accepted s.sound
    (λ c k.
    (let k' : Contains cs c = subst (λ zs. Contains zs c) (sym g.calls) k in
    let at : slice_get cs k'.0 ≡ Some c = slice_get-get_or cs k'.0 c k'.1 ∙ ap Some k'.2 in
    let low : k'.0 < length seen = (let a : k'.0 < length cs = k'.1 in let b : length seen ≡ length cs = s.long in omega arith) in
    let mark : slice_get seen k'.0 ≡ Some true = slice_get-get_or seen k'.0 true low ∙ ap Some (all k'.0 true low) in
    subst (λ zs. Contains (calls_in zs) c) whole ((s.marks k'.0 c at).0 mark)))

pub read_is : {X : Type 0} (xs : List X) (i : ℕ) (x y : X) → i < length xs → x ≡ get_or xs i x → x ≡ y → slice_get xs i ≡ Some y
read_is xs i x y low at same = slice_get-get_or xs i x low ∙ ap Some (sym at ∙ same)

pub zeros : (xs : List ℕ) (n : ℕ) → length xs ≡ n → ((i : ℕ) → i < n → slice_get xs i ≡ Some 0) → (k : ℕ) → slice_index xs k ≡ 0
zeros xs n long at k =
    elim (cases_lt k n) [
      | inl lt ↦ get_or_from_slice_get xs k 0 0 (at k lt)
      | inr ge ↦ get_or_past xs k 0 (omega arith)
    ]

pub shown_fresh : (n : Numbers) → ((k : ℕ) → slice_index n.events k ≡ 0) → ((k : ℕ) → slice_index n.sequencers k ≡ 0) → ((k : ℕ) → slice_index n.cells k ≡ 0)
    → (length n.events ≡ 32) × (length n.sequencers ≡ 32) × (length n.cells ≡ 256) → IsShown n zero_state × AreFew n 0
shown_fresh n a b c l = (
  record { events = λ e _. a e; sequencers = λ q _. b q; cells = λ x _. c x; long_events = l.0; long_sequencers = l.1; long_cells = l.2 },
  record { events = λ k. (let z : slice_index n.events k ≡ 0 = a k in omega arith); sequencers = λ k. (let z : slice_index n.sequencers k ≡ 0 = b k in omega arith) },
)
