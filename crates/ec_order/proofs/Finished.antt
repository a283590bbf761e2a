-- The completed calls of an accepted history are exactly what it is cut into.
use Rattle.std.proofs.Common.{◌≡◌, ℕ, zero, suc, ◌+◌, ◌-◌, ◌*◌, ◌/◌, ◌%◌, ◌<◌, ◌≤◌, inl, inr, Bool, true, false, List, [], ◌∷◌, ◌++◌, length, Some, refl, ap, sym, ◌∙◌, arith, cond, subst, reverse, slice_get, get_or, append_assoc}
use Rattle.std.specs.Prelude.{MatchBool}
use Rattle.std.specs.List.{Contains}
use Rattle.std.proofs.lemmas.Bool.{cases_order, cases_lt}
use Rattle.std.proofs.lemmas.List.{reverse-reverse}
use Rattle.std.proofs.lemmas.List.Elements.{Contains-append_left, Contains-append_right, Contains-append_cases}
use Rattle.std.proofs.Math.Nat.{mod-le, mod-add-div'}
use Rattle.std.proofs.lemmas.Nat.{mod-mul-add}
use Rattle.ec_count.specs.Tables.{Tables, IsDeclared}
use Rattle.ec_core.specs.declared.act.Act.{Act}
use Rattle.ec_core.specs.declared.act.Act.TheVariants.{Go}
use Rattle.ec_core.specs.declared.act.Reply.TheVariants.{Pending}
use Rattle.ec_core.specs.declared.act.Entry.{Entry}
use Rattle.ec_core.specs.Acceptance.{IsAccepted}
use Rattle.ec_core.specs.Calls.{under_way, call_with_act, is_go, is_pending}
use Rattle.ec_core.specs.Rounds.{event_or, component_count, IsPastOf, position_of}
use Rattle.ec_order.specs.declared.call.Call.{Call}
use Rattle.ec_order.specs.Calls.{call_of_entries, ended_by, finished_calls, is_reading}
use Rattle.ec_order.specs.Cuts.{own_entries, IsLastRound, IsFinishedCall}
use Rattle.ec_order.specs.Laws.{CallsAreCutInOrder}
use Rattle.ec_order.specs.Points.{first_entries}
use Rattle.ec_order.proofs.Checking.{ends_rise}
use Rattle.ec_order.proofs.Chains.{past_trans, past_before, past_shorter}
use Rattle.ec_order.proofs.Points.{first_of_past}
use Rattle.ec_order.proofs.Ends.{Ends, ends}
use Rattle.ec_order.proofs.Natural.{first_is_past_at}
use Rattle.ec_order.proofs.shared.Matching.{none_in}
use Rattle.ec_order.proofs.Positions.{entry_at, entry_in, entry_since, entry_within, find_entry, past_of_both, same_past, same_some}
use Rattle.ec_order.proofs.Cutting.{own_count, own_rises, first_past, first_at_end, own_under_way, first_more, IsUnderWay, under_way_is, gone_begins, IsWhole, whole_alone, whole_from, so_far}

-- how many of the entries before a past of one history are the worker's
own_entries_is : (w : ℕ) (whole q : List Entry) → IsPastOf q whole → own_entries w (length q) (reverse whole) ≡ own_count w q
own_entries_is w whole q h =
    ap (own_count w) (sym (first_is_past_at (reverse whole) (length q)) ∙ ap (first_entries (length q)) (reverse-reverse whole) ∙ first_of_past q whole h)

-- EACH COMPLETED CALL IS CUT SO

-- the call that x ends, if these are its entries
module _ (t : Tables) (whole : List Entry) (op : Act) (x : Entry) (p : List Entry) (rest : List (List Entry))
    (in' : IsPastOf (x ∷ p) whole) (final : is_pending x.reply ≡ false) (k : IsWhole x.worker op x p rest) where
  abbrev the_call : Call
  the_call = call_of_entries t x op (p ∷ rest)

  first_is : the_call.first ≡ length (first_past (p ∷ rest))
  first_is =
      let one : suc (length rest) - 1 ≡ length rest = omega arith in
      ap (position_of (p ∷ rest)) one ∙ ap length (first_at_end p rest)

  first_before : length (first_past (p ∷ rest)) ≤ length p
  first_before = (let f = k.first in omega (arith, past_shorter (f.0 ∷ first_past (p ∷ rest)) (x ∷ p) f.1))

  pub cut_so : MatchBool (is_reading op) (IsLastRound t (reverse whole) the_call) ((the_call.first ≡ the_call.last) × (the_call.round ≡ the_call.last)) → IsFinishedCall t (reverse whole) the_call
  cut_so round =
      let f = k.first in
      let in_first : IsPastOf (f.0 ∷ first_past (p ∷ rest)) whole = past_trans (f.0 ∷ first_past (p ∷ rest)) (x ∷ p) whole f.1 in' in
      let here : (i : ℕ) (y : Entry) → i ≤ length p → slice_get (reverse whole) i ≡ Some y → entry_at (x ∷ p) i ≡ Some y =
      λ i y le at. sym (ap (λ l. entry_at l i) in'.is ∙ entry_since in'.since (x ∷ p) i (omega arith)) ∙ at in
      record {
        opening = f.0;
        opens = ap (entry_at whole) first_is ∙ entry_in (first_past (p ∷ rest)) whole f.0 in_first;
        opener = f.2;
        opening_act = f.3;
        begins = k.begins;
        closing = x;
        closes = entry_in p whole x in';
        closer = refl;
        closing_reply = refl;
        finished = final;
        from_first = omega (arith, first_is, first_before);
        goes = λ i y lt le at mine. k.goes i y (omega (arith, first_is)) le (here i y le at) mine;
        pending = λ i y le lt at mine. k.pending i y (omega (arith, first_is)) lt (here i y (omega arith) at) mine;
        round = round;
      }

  -- the last round, if it is whole
  pub last_round : suc (length rest % component_count t (event_or op)) ≡ component_count t (event_or op) → IsLastRound t (reverse whole) the_call
  last_round whole_is =
      let w = x.worker in
      let n = component_count t (event_or op) in
      let len = length rest in
      let i = len % n in
      let i_le : i ≤ len = mod-le len n in
      let one : suc len - 1 ≡ len = omega arith in
      let r : List Entry = get_or (p ∷ rest) i [] in
      let round_is : the_call.round ≡ length r = ap (λ j. position_of (p ∷ rest) (j % n)) one in
      let e = k.entry i i_le in
      let in_r : IsPastOf (e.0 ∷ r) whole = past_trans (e.0 ∷ r) (x ∷ p) whole e.1 in' in
      let in_r' : IsPastOf r whole = past_before e.0 r whole in_r in
      let q = first_past (p ∷ rest) in
      let f = k.first in
      let in_q : IsPastOf q whole = past_trans q (x ∷ p) whole (past_before f.0 q (x ∷ p) f.1) in' in
      let count_r : own_count w (x ∷ p) ≡ own_count w r + (i + 1) = k.count i i_le in
      let count_q : own_count w (x ∷ p) ≡ own_count w q + (len + 1) = k.count len (omega arith) ∙ ap (λ z. own_count w z + (len + 1)) (first_at_end p rest) in
      let parts : i + len / n * n ≡ len = mod-add-div' len n in
      let own_r : own_entries w the_call.round (reverse whole) ≡ own_count w r = ap (λ j. own_entries w j (reverse whole)) round_is ∙ own_entries_is w whole r in_r' in
      let own_q : own_entries w the_call.first (reverse whole) ≡ own_count w q = ap (λ j. own_entries w j (reverse whole)) first_is ∙ own_entries_is w whole q in_q in
      let next : length p + 1 ≡ length (x ∷ p) = omega arith in
      let own_x : own_entries w (length p + 1) (reverse whole) ≡ own_count w (x ∷ p) = ap (λ j. own_entries w j (reverse whole)) next ∙ own_entries_is w whole (x ∷ p) in' in
      let shorter : length q ≤ length r =
      elim (cases_lt (length r) (length q)) [
        | inl lt ↦ (let up : own_count w r < own_count w q = own_rises w r q whole e.0 e.2 in_r in_q lt in absurd (omega (arith, count_r, count_q, i_le)))
        | inr ge ↦ ge
      ] in
      record {
        entry = e.0;
        at = ap (entry_at whole) round_is ∙ entry_in r whole e.0 in_r;
        own = e.2;
        from_first = omega (arith, first_is, round_is, shorter);
        to_last = omega (arith, round_is, past_shorter (e.0 ∷ r) (x ∷ p) e.1);
        rounds = len / n;
        whole = omega (arith, own_r, own_q, count_r, count_q, parts);
        one = omega (arith, own_x, own_r, count_r, whole_is);
      }

one_in : (a c : Call) → Contains (a ∷ []) c → a ≡ c
one_in a c (zero, lt, e) = e
one_in a c (suc k, lt, e) = absurd (omega arith)

-- each call that x ends is cut so
ended_cut : (t : Tables) (whole : List Entry) (x : Entry) (p : List Entry) → IsPastOf (x ∷ p) whole → Ends t x p (under_way x.worker p)
    → (c : Call) → Contains (ended_by t x (call_with_act x.act p (under_way x.worker p))) c → IsFinishedCall t (reverse whole) c
ended_cut t whole x p in' (inl n) c h = absurd (none_in c (subst (λ zs. Contains zs c) n.is h))
ended_cut t whole x p in' (inr (inl r)) c h =
    let k : IsWhole x.worker r.op x p r.rest = whole_from x.worker x x.act p (under_way x.worker p) r.op r.rest refl refl (own_under_way x.worker p) r.gone in
    let is : call_of_entries t x r.op (p ∷ r.rest) ≡ c = one_in (call_of_entries t x r.op (p ∷ r.rest)) c (subst (λ zs. Contains zs c) r.is h) in
    let round : IsLastRound t (reverse whole) (call_of_entries t x r.op (p ∷ r.rest)) = last_round t whole r.op x p r.rest in' r.final k r.round.whole in
    let the = call_of_entries t x r.op (p ∷ r.rest) in
    let R : Bool → Type 0 = λ b. MatchBool b (IsLastRound t (reverse whole) the) ((the.first ≡ the.last) × (the.round ≡ the.last)) in
    subst (IsFinishedCall t (reverse whole)) is (cut_so t whole r.op x p r.rest in' r.final k (subst R (sym r.reading) round))
ended_cut t whole x p in' (inr (inr a)) c h =
    let k : IsWhole x.worker x.act x p [] = whole_alone x.worker x p refl a.begins in
    let the = call_of_entries t x x.act (p ∷ []) in
    let is : the ≡ c = one_in the c (subst (λ zs. Contains zs c) a.is h) in
    let n = component_count t (event_or x.act) in
    let zero_mod : 0 % n ≡ 0 = (let le : 0 % n ≤ 0 = mod-le 0 n in omega arith) in
    let round : the.round ≡ the.last = ap (position_of (p ∷ [])) zero_mod in
    let R : Bool → Type 0 = λ b. MatchBool b (IsLastRound t (reverse whole) the) ((the.first ≡ the.last) × (the.round ≡ the.last)) in
    subst (IsFinishedCall t (reverse whole)) is (cut_so t whole x.act x p [] in' a.final k (subst R (sym a.acting) (refl, round)))

pub each_cut : (t : Tables) (whole since past : List Entry) → IsDeclared t → IsAccepted t past → whole ≡ since ++ past → (c : Call) → Contains (finished_calls t past) c → IsFinishedCall t (reverse whole) c
unfolding finished_calls
each_cut t whole since [] d acc is c h = absurd (none_in c h)
each_cut t whole since (x ∷ past) d acc is c h =
    let here : IsPastOf (x ∷ past) whole = record { since = since; is = is } in
    let next : whole ≡ (since ++ x ∷ []) ++ past = is ∙ sym (append_assoc since (x ∷ []) past) in
    elim (Contains-append_cases (finished_calls t past) (ended_by t x (call_with_act x.act past (under_way x.worker past))) c h) [
      | inl a ↦ each_cut t whole (since ++ x ∷ []) past d acc.1 next c a
      | inr b ↦ ended_cut t whole x past here (ends t x past d acc) c b
    ]

-- WHATEVER IS CUT SO IS A COMPLETED CALL

-- what x ends is a completed call of the whole
ended_contained : (t : Tables) (since : List Entry) (x : Entry) (p : List Entry) (c : Call) → Contains (ended_by t x (call_with_act x.act p (under_way x.worker p))) c → Contains (finished_calls t (since ++ x ∷ p)) c
unfolding finished_calls
ended_contained t [] x p c h = Contains-append_right (finished_calls t p) (ended_by t x (call_with_act x.act p (under_way x.worker p))) c h
ended_contained t (y ∷ since) x p c h =
    let past = since ++ x ∷ p in
    Contains-append_left (finished_calls t past) (ended_by t y (call_with_act y.act past (under_way y.worker past))) c (ended_contained t since x p c h)

-- the entries of a call that is cut so
record Parts (c : Call) (x : Entry) (p q : List Entry) : Type 0 where
  pub rest : List (List Entry)
  pub gone : call_with_act x.act p (under_way x.worker p) ≡ Some (so_far c.op (p ∷ rest))
  pub first : first_past (p ∷ rest) ≡ q

parts_alone : (t : Tables) (whole : List Entry) (c : Call) (k : IsFinishedCall t (reverse whole) c) (p q : List Entry) → IsPastOf (k.closing ∷ p) whole → IsPastOf (k.opening ∷ q) whole
    → length p ≡ c.last → length q ≡ c.first → c.first ≡ c.last → Parts c k.closing p q
parts_alone t whole c k p q in_p in_q at_p at_q same =
    let x = k.closing in
    let one : k.opening ≡ x = same_some k.opening x (sym k.opens ∙ ap (entry_at whole) same ∙ k.closes) in
    let act : x.act ≡ c.op = ap (λ (z : Entry). z.act) (sym one) ∙ k.opening_act in
    let p_in : IsPastOf p whole = past_before x p whole in_p in
    let q_in : IsPastOf q whole = past_before k.opening q whole in_q in
    record {
      rest = [];
      gone = gone_begins x.act p (under_way x.worker p) (ap is_go act ∙ k.begins) ∙ ap (λ a. Some (so_far a (p ∷ []))) act;
      first = same_past p q whole p_in q_in (at_p ∙ sym same ∙ sym at_q);
    }

past_entry : (p whole : List Entry) (i : ℕ) (y : Entry) → IsPastOf p whole → entry_at p i ≡ Some y → (i < length p) × (slice_get (reverse whole) i ≡ Some y)
past_entry p whole i y in' at =
    let low : i < length p = entry_within p i y at in
    (low, ap (λ l. entry_at l i) in'.is ∙ entry_since in'.since p i low ∙ at)

entry_of : (q s p : List Entry) (i : ℕ) (y : Entry) → p ≡ s ++ q → entry_at (s ++ q) i ≡ Some y → entry_at p i ≡ Some y
entry_of q s p i y is at = ap (λ l. entry_at l i) is ∙ at

parts_of : (c : Call) (x : Entry) (p late q : List Entry) → p ≡ late → x.worker ≡ c.worker → x.act ≡ Go → IsUnderWay c.worker c.op late q → Parts c x p q
parts_of c x p late q is mine go r =
    let way : under_way x.worker p ≡ Some (so_far c.op r.rest) = ap (λ v. under_way v p) mine ∙ ap (under_way c.worker) is ∙ r.is in
    record {
      rest = r.rest;
      gone = ap (λ a. call_with_act a p (under_way x.worker p)) go ∙ ap (call_with_act Go p) way;
      first = first_more p late c.worker c.op r.rest r.own ∙ r.first;
    }

parts_from : (t : Tables) (whole : List Entry) (c : Call) (k : IsFinishedCall t (reverse whole) c) (p q s : List Entry) → IsPastOf p whole → p ≡ s ++ k.opening ∷ q
    → length p ≡ c.last → length q ≡ c.first → c.first < c.last → Parts c k.closing p q
parts_from t whole c k p q s p_in is at_p at_q less =
    let returned : k.opening.reply ≡ Pending = k.pending c.first k.opening (omega arith) less k.opens k.opener in
    let goes : (i : ℕ) (y : Entry) → length q < i → entry_at (s ++ k.opening ∷ q) i ≡ Some y → y.worker ≡ c.worker → (y.act ≡ Go) × (y.reply ≡ Pending) =
    λ i y lt at mine.
    (let g = past_entry p whole i y p_in (entry_of (k.opening ∷ q) s p i y is at) in
    let low : i < length p = g.0 in
    (k.goes i y (omega arith) (omega arith) g.1 mine, k.pending i y (omega arith) (omega arith) g.1 mine)) in
    parts_of c k.closing p (s ++ k.opening ∷ q) q is k.closer (k.goes c.last k.closing less (omega arith) k.closes k.closer)
    (under_way_is c.worker c.op s q k.opening k.opener k.opening_act returned k.begins goes)

parts_more : (t : Tables) (whole : List Entry) (c : Call) (k : IsFinishedCall t (reverse whole) c) (p q : List Entry) → IsPastOf (k.closing ∷ p) whole → IsPastOf (k.opening ∷ q) whole
    → length p ≡ c.last → length q ≡ c.first → c.first < c.last → Parts c k.closing p q
parts_more t whole c k p q in_p in_q at_p at_q less =
    let p_in : IsPastOf p whole = past_before k.closing p whole in_p in
    let both : IsPastOf (k.opening ∷ q) p = past_of_both (k.opening ∷ q) p whole in_q p_in (omega arith) in
    parts_from t whole c k p q both.since p_in both.is at_p at_q less

pub call_is : (a b : Call) → a.worker ≡ b.worker → a.op ≡ b.op → a.reply ≡ b.reply → a.first ≡ b.first → a.round ≡ b.round → a.last ≡ b.last → a ≡ b
call_is a b w o r f d l =
    let step1 : a ≡ record a { worker = b.worker } = ap (λ v. record a { worker = v }) w in
    let step2 = ap (λ v. record a { worker = b.worker; op = v }) o in
    let step3 = ap (λ v. record a { worker = b.worker; op = b.op; reply = v }) r in
    let step4 = ap (λ v. record a { worker = b.worker; op = b.op; reply = b.reply; first = v }) f in
    let step5 = ap (λ v. record a { worker = b.worker; op = b.op; reply = b.reply; first = b.first; round = v }) d in
    let step6 = ap (λ v. record a { worker = b.worker; op = b.op; reply = b.reply; first = b.first; round = b.round; last = v }) l in
    step1 ∙ step2 ∙ step3 ∙ step4 ∙ step5 ∙ step6

-- the last round is the one that is cut
module _ (t : Tables) (whole : List Entry) (c : Call) (x : Entry) (p q : List Entry) (rest : List (List Entry))
    (in_p : IsPastOf (x ∷ p) whole) (at_p : length p ≡ c.last) (at_q : length q ≡ c.first) (mine : x.worker ≡ c.worker)
    (first : first_past (p ∷ rest) ≡ q) (k : IsWhole x.worker c.op x p rest) where
  abbrev round_past : List Entry
  round_past = get_or (p ∷ rest) (length rest % component_count t (event_or c.op)) []

  round_at : (call_of_entries t x c.op (p ∷ rest)).round ≡ length round_past
  round_at =
      let one : suc (length rest) - 1 ≡ length rest = omega arith in
      ap (λ j. position_of (p ∷ rest) (j % component_count t (event_or c.op))) one

  counts : (own_count x.worker (x ∷ p) ≡ own_count x.worker round_past + (length rest % component_count t (event_or c.op) + 1)) × (own_count x.worker (x ∷ p) ≡ own_count x.worker q + (length rest + 1))
  counts = (
    k.count (length rest % component_count t (event_or c.op)) (mod-le (length rest) (component_count t (event_or c.op))),
    k.count (length rest) (omega arith) ∙ ap (λ z. own_count x.worker z + (length rest + 1)) (first_at_end p rest ∙ first),
  )

  -- the entry at which the last round begins
  round_entry : (y : Entry) × IsPastOf (y ∷ round_past) (x ∷ p) × (y.worker ≡ x.worker)
  round_entry = k.entry (length rest % component_count t (event_or c.op)) (mod-le (length rest) (component_count t (event_or c.op)))

  round_in : IsPastOf (round_entry.0 ∷ round_past) whole
  round_in = past_trans (round_entry.0 ∷ round_past) (x ∷ p) whole round_entry.1 in_p

  round_low : length q ≤ length round_past
  round_low =
      let w = x.worker in
      let f = k.first in
      let q_in : IsPastOf q (x ∷ p) = subst (λ z. IsPastOf z (x ∷ p)) first (past_before f.0 (first_past (p ∷ rest)) (x ∷ p) f.1) in
      let le : length rest % component_count t (event_or c.op) ≤ length rest = mod-le (length rest) (component_count t (event_or c.op)) in
      elim (cases_lt (length round_past) (length q)) [
        | inl lt ↦ (let up : own_count w round_past < own_count w q = own_rises w round_past q (x ∷ p) round_entry.0 round_entry.2 round_entry.1 q_in lt in absurd (omega (arith, counts.0, counts.1)))
        | inr ge ↦ ge
      ]

  round_high : length round_past ≤ length p
  round_high = omega (arith, past_shorter (round_entry.0 ∷ round_past) (x ∷ p) round_entry.1)

  -- of a call of one entry
  alone_is : (c.first ≡ c.last) × (c.round ≡ c.last) → (call_of_entries t x c.op (p ∷ rest)).round ≡ c.round
  alone_is h = omega (arith, round_at, round_low, round_high, at_p, at_q, h.0, h.1)

  reading_is : IsLastRound t (reverse whole) c → (call_of_entries t x c.op (p ∷ rest)).round ≡ c.round
  reading_is l =
      let w = x.worker in
      let n = component_count t (event_or c.op) in
      let len = length rest in
      let f = find_entry whole c.round l.entry l.at in
      let r = f.before in
      let own : l.entry.worker ≡ w = l.own ∙ sym mine in
      let r_in : IsPastOf r whole = past_before l.entry r whole f.in_late in
      let kf = k.first in
      let q_in : IsPastOf q whole = subst (λ z. IsPastOf z whole) first (past_trans (first_past (p ∷ rest)) (x ∷ p) whole (past_before kf.0 (first_past (p ∷ rest)) (x ∷ p) kf.1) in_p) in
      let at : (v : ℕ) → own_entries c.worker v (reverse whole) ≡ own_entries w v (reverse whole) = λ v. ap (λ u. own_entries u v (reverse whole)) (sym mine) in
      let own_r : own_entries c.worker c.round (reverse whole) ≡ own_count w r = at c.round ∙ ap (λ j. own_entries w j (reverse whole)) (sym f.here) ∙ own_entries_is w whole r r_in in
      let own_q : own_entries c.worker c.first (reverse whole) ≡ own_count w q = at c.first ∙ ap (λ j. own_entries w j (reverse whole)) (sym at_q) ∙ own_entries_is w whole q q_in in
      let next : c.last + 1 ≡ length (x ∷ p) = omega (arith, at_p) in
      let own_x : own_entries c.worker (c.last + 1) (reverse whole) ≡ own_count w (x ∷ p) = at (c.last + 1) ∙ ap (λ j. own_entries w j (reverse whole)) next ∙ own_entries_is w whole (x ∷ p) in_p in
      let to_last : c.round ≤ c.last = l.to_last in
      let up : own_count w r < own_count w (x ∷ p) = own_rises w r (x ∷ p) whole l.entry own f.in_late in_p (omega (arith, f.here, at_p, to_last)) in
      let a : ℕ = l.rounds * n in
      let whole_is : own_count w r ≡ own_count w q + a = sym own_r ∙ l.whole ∙ ap (λ z. z + a) own_q in
      let one : own_count w (x ∷ p) ≤ own_count w r + n = omega (arith, l.one, own_x, own_r) in
      let b : ℕ = len - a in
      let few : a ≤ len = omega (arith, up, whole_is, counts.1) in
      let less : b < n = omega (arith, one, whole_is, counts.1, few) in
      let parts : len ≡ a + b = omega (arith, few) in
      let i_is : len % n ≡ b = ap (λ z. z % n) parts ∙ mod-mul-add l.rounds n b less in
      let same : own_count w round_past ≡ own_count w r = omega (arith, counts.0, counts.1, whole_is, i_is, parts) in
      let round_whole : IsPastOf round_past whole = past_before round_entry.0 round_past whole round_in in
      let long : length round_past ≡ length r =
      elim (cases_order (length round_past) (length r)) [
        | inl e ↦ e
        | inr (inl lt) ↦ (let u : own_count w round_past < own_count w r = own_rises w round_past r whole round_entry.0 round_entry.2 round_in r_in lt in absurd (omega (arith, same)))
        | inr (inr gt) ↦ (let u : own_count w r < own_count w round_past = own_rises w r round_past whole l.entry own f.in_late round_whole gt in absurd (omega (arith, same)))
      ] in
      round_at ∙ long ∙ f.here

  pub cut_is : MatchBool (is_reading c.op) (IsLastRound t (reverse whole) c) ((c.first ≡ c.last) × (c.round ≡ c.last)) → x.reply ≡ c.reply → call_of_entries t x c.op (p ∷ rest) ≡ c
  cut_is h reply =
      let the = call_of_entries t x c.op (p ∷ rest) in
      let one : suc (length rest) - 1 ≡ length rest = omega arith in
      let first_is : the.first ≡ c.first = ap (position_of (p ∷ rest)) one ∙ ap length (first_at_end p rest ∙ first) ∙ at_q in
      let round_is : the.round ≡ c.round =
      elim (is_reading c.op) as (λ b. MatchBool b (IsLastRound t (reverse whole) c) ((c.first ≡ c.last) × (c.round ≡ c.last)) → the.round ≡ c.round) [
        | true ↦ λ l. reading_is l
        | false ↦ λ l. alone_is l
      ] h in
      call_is the c mine refl reply first_is round_is at_p

-- whatever is cut so is a completed call
every_from : (t : Tables) (whole : List Entry) (c : Call) (k : IsFinishedCall t (reverse whole) c) (p q : List Entry) → IsPastOf (k.closing ∷ p) whole
    → length p ≡ c.last → length q ≡ c.first → Parts c k.closing p q → Contains (finished_calls t whole) c
every_from t whole c k p q in_p at_p at_q r =
    let x = k.closing in
    let w : IsWhole x.worker c.op x p r.rest = whole_from x.worker x x.act p (under_way x.worker p) c.op r.rest refl refl (own_under_way x.worker p) r.gone in
    let is : call_of_entries t x c.op (p ∷ r.rest) ≡ c = cut_is t whole c x p q r.rest in_p at_p at_q k.closer r.first w k.round k.closing_reply in
    let the = call_of_entries t x c.op (p ∷ r.rest) in
    let final : is_pending x.reply ≡ false = ap is_pending k.closing_reply ∙ k.finished in
    let ended : ended_by t x (call_with_act x.act p (under_way x.worker p)) ≡ the ∷ [] = ap (ended_by t x) r.gone ∙ ap (λ b. cond b [] (the ∷ [])) final in
    let here : Contains (ended_by t x (call_with_act x.act p (under_way x.worker p))) c = subst (λ zs. Contains zs c) (sym ended) (zero, omega arith, is) in
    subst (λ z. Contains (finished_calls t z) c) (sym in_p.is) (ended_contained t in_p.since x p c here)

pub every_cut : (t : Tables) (whole : List Entry) (c : Call) → IsFinishedCall t (reverse whole) c → Contains (finished_calls t whole) c
every_cut t whole c k =
    let f = find_entry whole c.last k.closing k.closes in
    let g = find_entry whole c.first k.opening k.opens in
    let order : c.first ≤ c.last = k.from_first in
    elim (cases_lt c.first c.last) [
      | inl lt ↦ every_from t whole c k f.before g.before f.in_late f.here g.here (parts_more t whole c k f.before g.before f.in_late g.in_late f.here g.here lt)
      | inr ge ↦ every_from t whole c k f.before g.before f.in_late f.here g.here (parts_alone t whole c k f.before g.before f.in_late g.in_late f.here g.here (omega arith))
    ]

pub calls_cut : CallsAreCutInOrder
calls_cut t h d acc =
    let whole = reverse h in
    let back : reverse whole ≡ h = reverse-reverse h in
    record {
      each = λ c known. subst (λ z. IsFinishedCall t z c) back (each_cut t whole [] whole d acc refl c known);
      every = λ c k. every_cut t whole c (subst (λ z. IsFinishedCall t z c) (sym back) k);
      by_last = ends_rise t whole d acc;
    }
