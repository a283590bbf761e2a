-- The completed calls are what the workers' entries are cut into.
use Rattle.std.proofs.Common.{◌≡◌, ℕ, zero, suc, ◌+◌, ◌<◌, ◌≤◌, inl, inr, Bool, true, false, List, [], ◌∷◌, ◌++◌, length, Option, Some, None, refl, ap, sym, ◌∙◌, arith, cond, subst, ◌==◌, get_or, count_by, length-append}
use Rattle.std.specs.List.{All}
use Rattle.std.proofs.lemmas.Bool.{eqb-true, eq-eqb, cases_order, cases_lt}
use Rattle.std.proofs.lemmas.List.Elements.{All-nil, All-cons, All-head, All-tail}
use Rattle.std.proofs.lemmas.List.Sums.{sum_by-append}
use Rattle.ec_core.specs.declared.act.Act.{Act}
use Rattle.ec_core.specs.declared.act.Act.TheVariants.{Go}
use Rattle.ec_core.specs.declared.act.Reply.{Reply}
use Rattle.ec_core.specs.declared.act.Reply.TheVariants.{Done, Number, Pending}
use Rattle.ec_core.specs.declared.act.Entry.{Entry}
use Rattle.ec_core.specs.Calls.{CallSoFar, under_way, call_with_act, is_go, is_pending}
use Rattle.ec_core.specs.Rounds.{IsPastOf}
use Rattle.ec_core.proofs.shared.Pasts.{pending_is, past_itself}
use Rattle.ec_order.proofs.Chains.{past_trans, past_before, past_next}
use Rattle.ec_order.proofs.Positions.{entry_at, entry_here, entry_before, entry_since, entry_within, entry_in, find_entry, past_of_both, same_some}
use Rattle.ec_core.proofs.shared.Scans.{call_other as other_now}

-- a worker's entries

abbrev pub is_own : ℕ → Entry → Bool
is_own w x = x.worker == w

abbrev pub own_count : ℕ → List Entry → ℕ
own_count w p = count_by (is_own w) p

own_since : (w : ℕ) (s p : List Entry) → own_count w (s ++ p) ≡ own_count w s + own_count w p
own_since w s p = sum_by-append (λ x. cond (is_own w x) 1 0) s p

pub own_here : (w : ℕ) (x : Entry) (p : List Entry) → x.worker ≡ w → own_count w (x ∷ p) ≡ own_count w p + 1
own_here w x p h =
    let one : own_count w (x ∷ []) ≡ 1 = ap (λ b. 0 + cond b 1 0) (eq-eqb x.worker w h) in
    omega (arith, own_since w (x ∷ []) p, one)

own_other : (w : ℕ) (x : Entry) (p : List Entry) → (x.worker == w) ≡ false → own_count w (x ∷ p) ≡ own_count w p
own_other w x p h =
    let none : own_count w (x ∷ []) ≡ 0 = ap (λ b. 0 + cond b 1 0) h in
    omega (arith, own_since w (x ∷ []) p, none)

own_none : (w : ℕ) (s : List Entry) → All (λ (y : Entry). (y.worker == w) ≡ false) s → own_count w s ≡ 0
own_none w [] h = refl
own_none w (x ∷ s) h =
    own_other w x s (All-head (λ (y : Entry). (y.worker == w) ≡ false) x s h) ∙ own_none w s (All-tail (λ (y : Entry). (y.worker == w) ≡ false) x s h)

-- of two entries of one worker the later has more before it
pub own_rises : (w : ℕ) (p q late : List Entry) (x : Entry) → x.worker ≡ w → IsPastOf (x ∷ p) late → IsPastOf q late → length p < length q → own_count w p < own_count w q
own_rises w p q late x own a b lt =
    let c : IsPastOf (x ∷ p) q = past_of_both (x ∷ p) q late a b (omega arith) in
    omega (arith, ap (own_count w) c.is, own_since w c.since (x ∷ p), own_here w x p own)

-- THE ENTRIES OF A PENDING CALL

-- the worker's latest entry, with its past
pub record Latest (w : ℕ) (late p : List Entry) (act : Act) : Type 0 where
  pub others : List Entry
  pub entry : Entry
  pub is : late ≡ others ++ entry ∷ p
  pub own : entry.worker ≡ w
  pub act_is : entry.act ≡ act
  pub returned : entry.reply ≡ Pending
  pub none : All (λ (y : Entry). (y.worker == w) ≡ false) others

-- these are the pasts of the worker's latest entries, each with reply Pending: goes, back to one of
-- op
abbrev pub Own : ℕ → Act → List Entry → List (List Entry) → Type 0
Own w op late [] = ⊥
Own w op late (p ∷ []) = Latest w late p op
Own w op late (p ∷ q ∷ ps) = Latest w late p Go × Own w op p (q ∷ ps)

-- the past of the first entry
abbrev pub first_past : List (List Entry) → List Entry
first_past [] = []
first_past (p ∷ []) = p
first_past (p ∷ q ∷ ps) = first_past (q ∷ ps)

pub first_at_end : (p : List Entry) (ps : List (List Entry)) → get_or (p ∷ ps) (length ps) [] ≡ first_past (p ∷ ps)
first_at_end p [] = refl
first_at_end p (q ∷ ps) = first_at_end q ps

latest_in : (w : ℕ) (late p : List Entry) (act : Act) (s : Latest w late p act) → IsPastOf (s.entry ∷ p) late
latest_in w late p act s = record { since = s.others; is = s.is }

latest_count : (w : ℕ) (late p : List Entry) (act : Act) → Latest w late p act → own_count w late ≡ own_count w p + 1
latest_count w late p act s =
    omega (arith, ap (own_count w) s.is, own_since w s.others (s.entry ∷ p), own_none w s.others s.none, own_here w s.entry p s.own)

-- no entry of the worker's is later
none_later : (w : ℕ) (late p : List Entry) (act : Act) (i : ℕ) (y : Entry) → Latest w late p act → length p < i → entry_at late i ≡ Some y → y.worker ≡ w → ⊥
none_later w late p act i y s lt at own =
    let f = find_entry late i y at in
    let long : length f.before ≡ i = f.here in
    let shorter : IsPastOf f.before late = past_before y f.before late f.in_late in
    let up : own_count w p < own_count w f.before = own_rises w p f.before late s.entry s.own (latest_in w late p act s) shorter (omega arith) in
    let more : own_count w late ≡ own_count w f.in_late.since + own_count w (y ∷ f.before) = ap (own_count w) f.in_late.is ∙ own_since w f.in_late.since (y ∷ f.before) in
    omega (arith, latest_count w late p act s, own_here w y f.before own)

own_count_at : (w : ℕ) (op : Act) (late : List Entry) (ps : List (List Entry)) (i : ℕ) → Own w op late ps → i < length ps → own_count w late ≡ own_count w (get_or ps i []) + (i + 1)
own_count_at w op late [] i h lt = absurd h
own_count_at w op late (p ∷ []) zero h lt = latest_count w late p op h
own_count_at w op late (p ∷ []) (suc i) h lt = absurd (omega arith)
own_count_at w op late (p ∷ q ∷ ps) zero h lt = latest_count w late p Go h.0
own_count_at w op late (p ∷ q ∷ ps) (suc i) h lt = omega (arith, latest_count w late p Go h.0, own_count_at w op p (q ∷ ps) i h.1 (omega arith))

-- an entry of the worker's that has this past
pub record OwnEntry (w : ℕ) (late p : List Entry) : Type 0 where
  pub entry : Entry
  pub in_late : IsPastOf (entry ∷ p) late
  pub own : entry.worker ≡ w
  pub returned : entry.reply ≡ Pending

latest_entry : (w : ℕ) (late p : List Entry) (act : Act) → Latest w late p act → OwnEntry w late p
latest_entry w late p act s = record { entry = s.entry; in_late = latest_in w late p act s; own = s.own; returned = s.returned }

entry_later : (w : ℕ) (late p q : List Entry) (act : Act) → Latest w late p act → OwnEntry w p q → OwnEntry w late q
entry_later w late p q act s e = record {
  entry = e.entry;
  in_late = past_trans (e.entry ∷ q) p late e.in_late (past_before s.entry p late (latest_in w late p act s));
  own = e.own;
  returned = e.returned;
}

own_entry_at : (w : ℕ) (op : Act) (late : List Entry) (ps : List (List Entry)) (i : ℕ) → Own w op late ps → i < length ps → OwnEntry w late (get_or ps i [])
own_entry_at w op late [] i h lt = absurd h
own_entry_at w op late (p ∷ []) zero h lt = latest_entry w late p op h
own_entry_at w op late (p ∷ []) (suc i) h lt = absurd (omega arith)
own_entry_at w op late (p ∷ q ∷ ps) zero h lt = latest_entry w late p Go h.0
own_entry_at w op late (p ∷ q ∷ ps) (suc i) h lt = entry_later w late p (get_or (q ∷ ps) i []) Go h.0 (own_entry_at w op p (q ∷ ps) i h.1 (omega arith))

-- the first of them
pub record OwnFirst (w : ℕ) (op : Act) (late p : List Entry) : Type 0 where
  pub entry : Entry
  pub in_late : IsPastOf (entry ∷ p) late
  pub own : entry.worker ≡ w
  pub act_is : entry.act ≡ op
  pub returned : entry.reply ≡ Pending

pub own_first : (w : ℕ) (op : Act) (late : List Entry) (ps : List (List Entry)) → Own w op late ps → OwnFirst w op late (first_past ps)
own_first w op late [] h = absurd h
own_first w op late (p ∷ []) h = record { entry = h.entry; in_late = latest_in w late p op h; own = h.own; act_is = h.act_is; returned = h.returned }
own_first w op late (p ∷ q ∷ ps) h =
    let r = own_first w op p (q ∷ ps) h.1 in
    let s = h.0 in
    record {
      entry = r.entry;
      in_late = past_trans (r.entry ∷ first_past (q ∷ ps)) p late r.in_late (past_before s.entry p late (latest_in w late p Go s));
      own = r.own;
      act_is = r.act_is;
      returned = r.returned;
    }

-- after the first they are goes
own_goes : (w : ℕ) (op : Act) (late : List Entry) (ps : List (List Entry)) (i : ℕ) (y : Entry) → Own w op late ps → length (first_past ps) < i → entry_at late i ≡ Some y → y.worker ≡ w
    → (y.act ≡ Go) × (y.reply ≡ Pending)
own_goes w op late [] i y h lt at own = absurd h
own_goes w op late (p ∷ []) i y h lt at own = absurd (none_later w late p op i y h lt at own)
own_goes w op late (p ∷ q ∷ ps) i y h lt at own =
    let s = h.0 in
    let in' : IsPastOf (s.entry ∷ p) late = latest_in w late p Go s in
    elim (cases_order i (length p)) [
      | inl same ↦
          (let e : s.entry ≡ y = same_some s.entry y (sym (entry_in p late s.entry in') ∙ ap (entry_at late) (sym same) ∙ at) in
          (ap (λ (z : Entry). z.act) (sym e) ∙ s.act_is, ap (λ (z : Entry). z.reply) (sym e) ∙ s.returned))
      | inr (inl less) ↦
          (let in_p : IsPastOf p late = past_before s.entry p late in' in
          let here : entry_at p i ≡ Some y = sym (ap (λ l. entry_at l i) in_p.is ∙ entry_since in_p.since p i less) ∙ at in
          own_goes w op p (q ∷ ps) i y h.1 lt here own)
      | inr (inr more) ↦ absurd (none_later w late p Go i y s more at own)
    ]

latest_now : (w : ℕ) (x : Entry) (late : List Entry) (act : Act) → x.worker ≡ w → x.act ≡ act → x.reply ≡ Pending → Latest w (x ∷ late) late act
latest_now w x late act own is returned = record { others = []; entry = x; is = refl; own = own; act_is = is; returned = returned; none = All-nil (λ (y : Entry). (y.worker == w) ≡ false) }

latest_next : (w : ℕ) (x : Entry) (late p : List Entry) (act : Act) → (x.worker == w) ≡ false → Latest w late p act → Latest w (x ∷ late) p act
latest_next w x late p act other s = record {
  others = x ∷ s.others;
  entry = s.entry;
  is = ap (λ z. x ∷ z) s.is;
  own = s.own;
  act_is = s.act_is;
  returned = s.returned;
  none = All-cons (λ (y : Entry). (y.worker == w) ≡ false) x s.others other s.none;
}

-- what is known of a pending call
abbrev pub OwnCall : ℕ → List Entry → Option CallSoFar → Type 0
OwnCall w past None = Unit {0}
OwnCall w past (Some call) = Own w call.op past call.moments × (is_go call.op ≡ false)

own_next : (w : ℕ) (op : Act) (x : Entry) (late : List Entry) (ps : List (List Entry)) → (x.worker == w) ≡ false → Own w op late ps → Own w op (x ∷ late) ps
own_next w op x late [] other h = h
own_next w op x late (p ∷ []) other h = latest_next w x late p op other h
own_next w op x late (p ∷ q ∷ ps) other h = (latest_next w x late p Go other h.0, h.1)

own_more : (w : ℕ) (op : Act) (x : Entry) (late : List Entry) (ps : List (List Entry)) → x.worker ≡ w → x.act ≡ Go → x.reply ≡ Pending → Own w op late ps → Own w op (x ∷ late) (late ∷ ps)
own_more w op x late [] own go returned h = absurd h
own_more w op x late (p ∷ ps) own go returned h = (latest_now w x late Go own go returned, h)

own_gone : (w : ℕ) (x : Entry) (act : Act) (late : List Entry) (o : Option CallSoFar) → x.worker ≡ w → x.act ≡ act → x.reply ≡ Pending → OwnCall w late o → OwnCall w (x ∷ late) (call_with_act act late o)
own_gone w x Go late None own is returned h = tt
own_gone w x Go late (Some call) own is returned h = (own_more w call.op x late call.moments own is returned h.0, h.1)
own_gone w x act late o own is returned h = (latest_now w x late act own is returned, refl)

own_stays : (w : ℕ) (x : Entry) (late : List Entry) (o : Option CallSoFar) → (x.worker == w) ≡ false → OwnCall w late o → OwnCall w (x ∷ late) o
own_stays w x late None other h = tt
own_stays w x late (Some call) other h = (own_next w call.op x late call.moments other h.0, h.1)

pub own_under_way : (w : ℕ) (past : List Entry) → OwnCall w past (under_way w past)
unfolding under_way
own_under_way w [] = tt
own_under_way w (x ∷ past) =
    elim (x.worker == w) as (λ b. (x.worker == w) ≡ b → OwnCall w (x ∷ past) (cond b (cond (is_pending x.reply) (call_with_act x.act past (under_way w past)) None) (under_way w past))) [
      | true ↦ λ own.
          (elim (is_pending x.reply) as (λ b. is_pending x.reply ≡ b → OwnCall w (x ∷ past) (cond b (call_with_act x.act past (under_way w past)) None)) [
            | true ↦ λ returned. own_gone w x x.act past (under_way w past) (eqb-true x.worker w own) refl (pending_is x.reply returned) (own_under_way w past)
            | false ↦ λ returned. tt
          ] refl)
      | false ↦ λ other. own_stays w x past (under_way w past) other (own_under_way w past)
    ] refl

-- and a worker whose latest entries are so has that pending call
pub record IsUnderWay (w : ℕ) (op : Act) (late q : List Entry) : Type 0 where
  pub rest : List (List Entry)
  pub is : under_way w late ≡ Some (record { op = op; moments = rest })
  pub own : Own w op late rest
  pub first : first_past rest ≡ q

pub gone_begins : (act : Act) (past : List Entry) (o : Option CallSoFar) → is_go act ≡ false → call_with_act act past o ≡ Some (record { op = act; moments = past ∷ [] })
gone_begins Go past o h = cc
gone_begins act past o h = refl

own_now : (w : ℕ) (x : Entry) (past : List Entry) → x.worker ≡ w → x.reply ≡ Pending → under_way w (x ∷ past) ≡ call_with_act x.act past (under_way w past)
unfolding under_way
own_now w x past own returned =
    ap (λ b. cond b (cond (is_pending x.reply) (call_with_act x.act past (under_way w past)) None) (under_way w past)) (eq-eqb x.worker w own)
    ∙ ap (λ r. cond (is_pending r) (call_with_act x.act past (under_way w past)) None) returned

pub first_more : (p late : List Entry) (w : ℕ) (op : Act) (ps : List (List Entry)) → Own w op late ps → first_past (p ∷ ps) ≡ first_past ps
first_more p late w op [] h = absurd h
first_more p late w op (q ∷ ps) h = refl

pub under_way_is : (w : ℕ) (op : Act) (since q : List Entry) (x : Entry) → x.worker ≡ w → x.act ≡ op → x.reply ≡ Pending → is_go op ≡ false
    → ((i : ℕ) (y : Entry) → length q < i → entry_at (since ++ x ∷ q) i ≡ Some y → y.worker ≡ w → (y.act ≡ Go) × (y.reply ≡ Pending)) → IsUnderWay w op (since ++ x ∷ q) q
under_way_is w op [] q x own is returned begins goes = record {
  rest = q ∷ [];
  is = own_now w x q own returned ∙ ap (λ a. call_with_act a q (under_way w q)) is ∙ gone_begins op q (under_way w q) begins;
  own = latest_now w x q op own is returned;
  first = refl;
}
under_way_is w op (y ∷ since) q x own is returned begins goes =
    let late = since ++ x ∷ q in
    let long : length late ≡ length since + suc (length q) = length-append since (x ∷ q) in
    let r = under_way_is w op since q x own is returned begins
    (λ i z lt at mine. goes i z lt (entry_before y late i (entry_within late i z at) ∙ at) mine) in
    elim (y.worker == w) as (λ b. (y.worker == w) ≡ b → IsUnderWay w op (y ∷ late) q) [
      | true ↦ λ mine.
          (let same : y.worker ≡ w = eqb-true y.worker w mine in
          let g = goes (length late) y (omega arith) (entry_here y late) same in
          record {
            rest = late ∷ r.rest;
            is = own_now w y late same g.1 ∙ ap (λ a. call_with_act a late (under_way w late)) g.0 ∙ ap (call_with_act Go late) r.is;
            own = own_more w op y late r.rest same g.0 g.1 r.own;
            first = first_more late late w op r.rest r.own ∙ r.first;
          })
      | false ↦ λ other. record { rest = r.rest; is = other_now w y late other ∙ r.is; own = own_next w op y late r.rest other r.own; first = r.first }
    ] refl

-- THE ENTRIES OF A CALL THAT ENDS

-- what is known of all the entries of a call whose last one is x, with its past, and the rest of their pasts
pub record IsWhole (w : ℕ) (op : Act) (x : Entry) (p : List Entry) (rest : List (List Entry)) : Type 0 where
  pub count : (i : ℕ) → i ≤ length rest → own_count w (x ∷ p) ≡ own_count w (get_or (p ∷ rest) i []) + (i + 1)
  pub entry : (i : ℕ) → i ≤ length rest → (y : Entry) × IsPastOf (y ∷ get_or (p ∷ rest) i []) (x ∷ p) × (y.worker ≡ w)
  pub first : (y : Entry) × IsPastOf (y ∷ first_past (p ∷ rest)) (x ∷ p) × (y.worker ≡ w) × (y.act ≡ op)
  pub begins : is_go op ≡ false
  pub goes : (i : ℕ) (y : Entry) → length (first_past (p ∷ rest)) < i → i ≤ length p → entry_at (x ∷ p) i ≡ Some y → y.worker ≡ w → y.act ≡ Go
  pub pending : (i : ℕ) (y : Entry) → length (first_past (p ∷ rest)) ≤ i → i < length p → entry_at (x ∷ p) i ≡ Some y → y.worker ≡ w → y.reply ≡ Pending

pub whole_alone : (w : ℕ) (x : Entry) (p : List Entry) → x.worker ≡ w → is_go x.act ≡ false → IsWhole w x.act x p []
whole_alone w x p own begins = record {
  count = λ i le. (let zero_is : i ≡ 0 = omega arith in rw zero_is (own_here w x p own));
  entry = λ i le. (let zero_is : i ≡ 0 = omega arith in rw zero_is (x, past_itself (x ∷ p), own));
  first = (x, past_itself (x ∷ p), own, refl);
  begins = begins;
  goes = λ i y lt le at mine. absurd (omega arith);
  pending = λ i y le lt at mine. absurd (omega arith);
}

count_from : (w : ℕ) (op : Act) (x : Entry) (p q : List Entry) (ps : List (List Entry)) → x.worker ≡ w → Own w op p (q ∷ ps) → (i : ℕ) → i ≤ suc (length ps)
    → own_count w (x ∷ p) ≡ own_count w (get_or (p ∷ q ∷ ps) i []) + (i + 1)
count_from w op x p q ps own h zero le = own_here w x p own
count_from w op x p q ps own h (suc i) le = omega (arith, own_here w x p own, own_count_at w op p (q ∷ ps) i h (omega arith))

entry_from : (w : ℕ) (op : Act) (x : Entry) (p q : List Entry) (ps : List (List Entry)) → x.worker ≡ w → Own w op p (q ∷ ps) → (i : ℕ) → i ≤ suc (length ps)
    → (y : Entry) × IsPastOf (y ∷ get_or (p ∷ q ∷ ps) i []) (x ∷ p) × (y.worker ≡ w)
entry_from w op x p q ps own h zero le = (x, past_itself (x ∷ p), own)
entry_from w op x p q ps own h (suc i) le =
    (let e = own_entry_at w op p (q ∷ ps) i h (omega arith) in (e.entry, past_next x (e.entry ∷ get_or (q ∷ ps) i []) p e.in_late, e.own))

whole_more : (w : ℕ) (op : Act) (x : Entry) (p q : List Entry) (ps : List (List Entry)) → x.worker ≡ w → x.act ≡ Go → is_go op ≡ false → Own w op p (q ∷ ps) → IsWhole w op x p (q ∷ ps)
whole_more w op x p q ps own go begins h = record {
  count = count_from w op x p q ps own h;
  entry = entry_from w op x p q ps own h;
  first = (let f = own_first w op p (q ∷ ps) h in (f.entry, past_next x (f.entry ∷ first_past (q ∷ ps)) p f.in_late, f.own, f.act_is));
  begins = begins;
  goes = λ i y lt le at mine.
      elim (cases_lt i (length p)) [
        | inl less ↦ (own_goes w op p (q ∷ ps) i y h lt (sym (entry_before x p i less) ∙ at) mine).0
        | inr ge ↦
            (let here : i ≡ length p = omega arith in
            let e : x ≡ y = same_some x y (sym (entry_here x p) ∙ ap (entry_at (x ∷ p)) (sym here) ∙ at) in
            ap (λ (z : Entry). z.act) (sym e) ∙ go)
      ];
  pending = λ i y le lt at mine.
      (let here : entry_at p i ≡ Some y = sym (entry_before x p i lt) ∙ at in
      elim (cases_lt (length (first_past (q ∷ ps))) i) [
        | inl less ↦ (own_goes w op p (q ∷ ps) i y h less here mine).1
        | inr ge ↦
            (let f = own_first w op p (q ∷ ps) h in
            let same : length (first_past (q ∷ ps)) ≡ i = omega arith in
            let e : f.entry ≡ y = same_some f.entry y (sym (entry_in (first_past (q ∷ ps)) p f.entry f.in_late) ∙ ap (entry_at p) same ∙ here) in
            ap (λ (z : Entry). z.reply) (sym e) ∙ f.returned)
      ]);
}

some_same : (c d : CallSoFar) → Some c ≡ Some d → c ≡ d
some_same c d h = cc

-- a call so far, by its act and moments
abbrev pub so_far : Act → List (List Entry) → CallSoFar
so_far op moments = record { op = op; moments = moments }

same_op : (a b : Act) (ms ns : List (List Entry)) → Some (record { op = a; moments = ms }) ≡ Some (so_far b ns) → a ≡ b
same_op a b ms ns h = ap (λ (c : CallSoFar). c.op) (some_same (record { op = a; moments = ms }) (record { op = b; moments = ns }) h)

same_rest : (a b : Act) (p : List Entry) (ms ns : List (List Entry)) → Some (record { op = a; moments = p ∷ ms }) ≡ Some (so_far b (p ∷ ns)) → ms ≡ ns
same_rest a b p ms ns h =
    (let k : p ∷ ms ≡ p ∷ ns = ap (λ (c : CallSoFar). c.moments) (some_same (record { op = a; moments = p ∷ ms }) (record { op = b; moments = p ∷ ns }) h) in
    cc)

whole_begun : (w : ℕ) (x : Entry) (act : Act) (p : List Entry) (op : Act) (rest : List (List Entry)) → x.worker ≡ w → x.act ≡ act → is_go act ≡ false
    → Some (record { op = act; moments = p ∷ [] }) ≡ Some (so_far op (p ∷ rest)) → IsWhole w op x p rest
whole_begun w x act p op rest own is begins h =
    let a : x.act ≡ op = is ∙ same_op act op (p ∷ []) (p ∷ rest) h in
    let none : [] ≡ rest = same_rest act op p [] rest h in
    let one_entry_calls : IsWhole w x.act x p [] = whole_alone w x p own (ap is_go is ∙ begins) in
    subst (IsWhole w op x p) none (subst (λ o. IsWhole w o x p []) a one_entry_calls)

whole_gone : (w : ℕ) (x : Entry) (p : List Entry) (a op : Act) (ms rest : List (List Entry)) → x.worker ≡ w → x.act ≡ Go → Own w a p ms × (is_go a ≡ false)
    → Some (record { op = a; moments = p ∷ ms }) ≡ Some (so_far op (p ∷ rest)) → IsWhole w op x p rest
whole_gone w x p a op [] rest own go h gone = absurd h.0
whole_gone w x p a op (q ∷ ps) rest own go h gone =
    let same : a ≡ op = same_op a op (p ∷ q ∷ ps) (p ∷ rest) gone in
    let tail : q ∷ ps ≡ rest = same_rest a op p (q ∷ ps) rest gone in
    subst (IsWhole w op x p) tail (subst (λ o. IsWhole w o x p (q ∷ ps)) same (whole_more w a x p q ps own go h.1 h.0))

-- the entries before a go
pub rest_own : (w : ℕ) (p : List Entry) (o : Option CallSoFar) (op : Act) (rest : List (List Entry)) → OwnCall w p o → call_with_act Go p o ≡ Some (so_far op (p ∷ rest)) → Own w op p rest
rest_own w p None op rest h gone = cc
rest_own w p (Some call) op rest h gone =
    let same : call.op ≡ op = same_op call.op op (p ∷ call.moments) (p ∷ rest) gone in
    let tail : call.moments ≡ rest = same_rest call.op op p call.moments rest gone in
    subst (Own w op p) tail (subst (λ o. Own w o p call.moments) same h.0)

-- what the call is that x goes on with
pub whole_from : (w : ℕ) (x : Entry) (act : Act) (p : List Entry) (o : Option CallSoFar) (op : Act) (rest : List (List Entry)) → x.worker ≡ w → x.act ≡ act → OwnCall w p o
    → call_with_act act p o ≡ Some (so_far op (p ∷ rest)) → IsWhole w op x p rest
whole_from w x Go p None op rest own is h gone = cc
whole_from w x Go p (Some call) op rest own is h gone = whole_gone w x p call.op op call.moments rest own is h gone
whole_from w x act p o op rest own is h gone = whole_begun w x act p op rest own is refl gone
