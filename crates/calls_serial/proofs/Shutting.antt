-- A get that can return the value of no completed put.
use Rattle.std.proofs.Common.{◌≡◌, ℕ, zero, ◌<◌, ◌≤◌, ◌⊎◌, inl, inr, true, List}
use Rattle.std.proofs.Common.{[]}
use Rattle.std.proofs.Common.{◌∷◌, ◌++◌, Option, Some, None, refl, ap, sym, ◌∙◌, arith}
use Rattle.std.proofs.Common.{subst}
use Rattle.std.specs.List.{Contains}
use Rattle.std.proofs.lemmas.Option.{same_Some}
use Rattle.std.proofs.lemmas.List.{append_assoc}
use Rattle.std.proofs.lemmas.List.Elements.{Contains-append_right}
use Rattle.std.proofs.lemmas.List.Elements.{Contains-append_left}
use Rattle.std.proofs.lemmas.List.Sorted.{Contains-permutation, All-permutation, IsPermutation-sym}
use Rattle.calls_core.specs.declared.history.Op.TheVariants.{Put, Get}
use Rattle.calls_core.specs.declared.history.Reply.{Reply}
use Rattle.calls_core.specs.declared.history.Reply.TheVariants.{Done, Number}
use Rattle.calls_core.specs.declared.history.PendingCall.{PendingCall}
use Rattle.calls_core.specs.declared.history.Call.{Call}
use Rattle.calls_core.specs.Lists.{Each, EachPair}
use Rattle.calls_core.specs.Histories.{pending_of, without, completion}
use Rattle.calls_core.proofs.Lists.{each_weaker, each_append, each_left, each_right, each_both}
use Rattle.calls_core.proofs.Lists.{each_pair_right, each_pair_across, all_from_each}
use Rattle.calls_core.proofs.Filters.{each_from_all}
use Rattle.calls_serial.specs.declared.stage.Link.{Link}
use Rattle.calls_serial.specs.Faults.{IsShut, IsGone, HasOnly, Binds}
use Rattle.calls_serial.specs.kept.Stages.{StageView, put_calls, held_calls, all_calls, is_put, IsGot}
use Rattle.calls_serial.specs.kept.Stages.{IsPutAt}
use Rattle.calls_serial.specs.kept.Stages.{IsStored, IsHeld, IsOver, Follows, gets_of_link}
use Rattle.calls_serial.specs.kept.Stages.{IsLinked}
use Rattle.calls_serial.specs.kept.Stages.{IsBacked, Current, current, current_gets, current_puts}
use Rattle.calls_serial.specs.kept.Stages.{IsCurrent}
use Rattle.calls_serial.specs.kept.Stages.{IsPassed, NextEarlier, IsReason, AreStages}
use Rattle.calls_core.proofs.Positions.{each_without}
use Rattle.calls_serial.proofs.Growing.{each_put, contains_more}
use Rattle.calls_serial.proofs.Growing.{only_responded, leaves_grow, gathered_none}

get_is_no_put : (v : ℕ) → Get ≡ Put v → ⊥
get_is_no_put v e = cc

pub same_put : (v w : ℕ) → Put v ≡ Put w → v ≡ w
same_put v w e = cc

-- what holds of the puts of stages and of all gets holds of their calls
stages_each : (Q : Call → Type 0) (t : ℕ) (hs : List StageView)
    → Each (λ (h : StageView). (p : Call) → h.put ≡ Some p → Q p) hs
    → ((g : Call) → g.op ≡ Get → Q g) → Each (IsHeld t) hs → Each Q (all_calls hs)
stages_each Q t [] h f k = tt
stages_each Q t (a ∷ hs) h f k =
    each_append Q (held_calls a) (all_calls hs)
    (each_append Q (put_calls a.put) a.gets (by a.put h.0)
    (each_weaker (IsGot a.value a.moment t) Q (λ g e. f g e.op) a.gets k.0.gets))
    (stages_each Q t hs h.1 f k.1)
  where
    by : (put : Option Call) → ((p : Call) → put ≡ Some p → Q p) → Each Q (put_calls put)
    by None g = tt
    by (Some p) g = (g p refl, tt)

put_within : (prefix : List StageView) (e : StageView) (back : List StageView) (p : Call)
    → e.put ≡ Some p
    → Contains (all_calls (prefix ++ e ∷ back)) p
put_within [] e back p is =
    Contains-append_left (held_calls e) (all_calls back) p
    (subst (λ put. Contains (put_calls put ++ e.gets) p) (sym is) (zero, omega arith, refl))
put_within (a ∷ prefix) e back p is =
    Contains-append_right (held_calls a) (all_calls (prefix ++ e ∷ back)) p
    (put_within prefix e back p is)

module _ (end t : ℕ) (done : List Call) (os : List PendingCall) (prefix : List StageView) (e : StageView)
    (mid : List StageView) (now : Option Current) (ls : List Link)
    (s : AreStages end t done os (prefix ++ e ∷ mid) now ls)
    (early : Each (λ (c : Call). c.last < t) done)
    (w at x : ℕ) (r : Reply) (o : PendingCall) (ours : pending_of w os ≡ Some o)
    (get : o.op ≡ Get) (returned : r ≡ Number x) (first : o.first < t) (later : t ≤ at)
    (ended : at < end)
    (over : IsOver o.first e.put) (passed : Each (IsPassed o.first x) mid)
    (because : Option ℕ) (reason : IsReason o.first x e (mid ++ current now) because) where
  abbrev pub own : Call
  own = completion at r o

  abbrev pub more : List Call
  more = own ∷ done

  abbrev pub less : List PendingCall
  less = without w os

  rest : List StageView
  rest = mid ++ current now

  all_is : (prefix ++ e ∷ mid) ++ current now ≡ prefix ++ e ∷ (mid ++ current now)
  all_is = append_assoc prefix (e ∷ mid) (current now)

  each_all : Each (IsHeld t) (prefix ++ e ∷ (mid ++ current now))
  each_all = subst (Each (IsHeld t)) all_is s.each

  pairs_all : EachPair Follows (prefix ++ e ∷ (mid ++ current now))
  pairs_all = subst (EachPair Follows) all_is s.pairs

  backed_all : Each (IsBacked done os ls) (prefix ++ e ∷ (mid ++ current now))
  backed_all = subst (Each (IsBacked done os ls)) all_is s.backed

  e_held : IsHeld t e
  e_held = (each_right (IsHeld t) prefix (e ∷ (mid ++ current now)) each_all).0

  e_before : Each (Follows e) (mid ++ current now)
  e_before = (each_pair_right Follows prefix (e ∷ (mid ++ current now)) pairs_all).0

  before_e : Each (λ (a : StageView). Follows a e) prefix
  before_e = each_weaker (λ (a : StageView). Each (Follows a) (e ∷ (mid ++ current now)))
      (λ (a : StageView). Follows a e) (λ a k. k.0) prefix
      (each_pair_across Follows prefix (e ∷ (mid ++ current now)) pairs_all)

  -- a put of the stages is among the calls
  known : (p : Call) → e.put ≡ Some p → Contains more p
  known p is = contains_more own p done
      (Contains-permutation (all_calls (prefix ++ e ∷ mid) ++ current_gets now) done p
      (IsPermutation-sym _ _ s.once)
      (Contains-append_left (all_calls (prefix ++ e ∷ mid)) (current_gets now) p
      (put_within prefix e mid p is)))

  put_of : (p : Call) → e.put ≡ Some p → IsPutAt e.value e.moment p
  put_of p is = subst (IsStored e.value e.moment) is e_held.put

  over_of : (p : Call) → e.put ≡ Some p → p.last < o.first
  over_of p is = subst (IsOver o.first) is over

  -- WHY THE GET CANNOT RETURN THE VALUE AT ITS INVOCATION

  pub record IsClosing : Type 0 where
    pub bound : Option ℕ
    pub binds : Binds more less (gets_of_link because ls) own bound
    pub shut : (p : Call) → e.put ≡ Some p → p.op ≡ Put x → IsShut more bound own p
    pub gone : x ≡ 0 → IsGone more bound own

  by_value : (e.value ≡ x → ⊥) → because ≡ None → IsClosing
  by_value other none = record {
    bound = None;
    binds = subst (λ cs. Binds more less cs own None)
        (sym (ap (λ i. gets_of_link i ls) none ∙ gathered_none ls)) refl;
    shut = λ p is op. absurd (other (same_put e.value x (sym (put_of p is).op ∙ op)));
    gone = λ z. by_put e.put refl z;
  }
    where
      by_put : (put : Option Call) → e.put ≡ put → x ≡ 0 → IsGone more None own
      by_put None is z =
          (let stored : (e.value ≡ 0) × (e.moment ≡ 0) =
          subst (IsStored e.value e.moment) is e_held.put in
          absurd (other (stored.0 ∙ sym z)))
      by_put (Some p) is z = (p, e.value, known p is, (put_of p is).op, over_of p is)

  by_chain : (n : StageView) → Follows e n → n.moment < o.first
      → ((p : Call) → n.put ≡ Some p → p.last < o.first → ⊥) → IsBacked done os ls n
      → because ≡ n.link → IsClosing
  by_chain n f lt not_over backed is = by n.link refl (backed f.put f.is)
    where
      by : (l : Option ℕ) → n.link ≡ l → IsLinked done os ls n.moment f.put l → IsClosing
      by None same k = absurd (not_over f.put f.is
          (let last : n.moment ≡ f.put.last = k in omega arith))
      by (Some i) same k =
          (let chain = k.1 in
          let grown = leaves_grow done more os less t early
          (only_responded done os t w at r o ours) (chain.get ∷ chain.rest)
          (Some f.put.first) chain.leaves in
          record {
            bound = Some f.put.first;
            binds = subst (λ cs. Binds more less cs own (Some f.put.first))
                (sym (ap (λ j. gets_of_link j ls) (is ∙ same) ∙ chain.is)) (
                  refl,
                  (let last = chain.last in
                      let first : chain.get.last < o.first = omega arith in first),
                  grown,
                );
            shut = λ p q op. inr (inr (subst (IsOver f.put.first) q f.over));
            gone = λ z. tt;
          })

  pub closing : IsClosing
  closing =
      elim reason [
        | inl v ↦ by_value v.0 v.1
        | inr v ↦ by_next mid passed e_before
            (each_right (IsBacked done os ls) (prefix ++ e ∷ [])
            (mid ++ current now)
            (subst (Each (IsBacked done os ls))
            (sym (append_assoc prefix (e ∷ []) (mid ++ current now))) backed_all)) v.1
      ]
    where
      by_now : (k : Option Current) → IsCurrent end k → Each (Follows e) (current k)
          → Each (IsBacked done os ls) (current k) → NextEarlier o.first (current k) because
          → IsClosing
      by_now None c f b v = absurd v
      by_now (Some k) c f b v = by_chain k.stage f.0 v.0
          (λ p is lt. pending p (same_Some (completion end Done k.call) p (sym c ∙ is)) lt) b.0 v.1
        where
          pending : (p : Call) → completion end Done k.call ≡ p → p.last < o.first → ⊥
          pending p is lt =
              (let last : end ≡ p.last = ap (λ (z : Call). z.last) is in
              omega arith)

      by_next : (hs : List StageView) → Each (IsPassed o.first x) hs
          → Each (Follows e) (hs ++ current now) → Each (IsBacked done os ls) (hs ++ current now)
          → NextEarlier o.first (hs ++ current now) because → IsClosing
      by_next [] p f b v = by_now now s.put f b v
      by_next (n ∷ hs) p f b v =
          by_chain n f.0 v.0 (λ q is lt. p.0.over (subst (IsOver o.first) (sym is) lt)) b.0 v.1

  -- WHICH PUT IS LEFT

  overwritten : (h : StageView) → Follows h e → (p : Call) → h.put ≡ Some p → IsShut more None own p
  overwritten h f p is = inr (inl (record {
    put = f.put;
    value = e.value;
    known = known f.put f.is;
    is = (put_of f.put f.is).op;
    after = subst (IsOver f.put.first) is f.over;
    before = over_of f.put f.is;
  }))

  -- no completed put is left to the get
  pub left : (f : Option ℕ)
      → ((k : Current) → now ≡ Some k → k.call.op ≡ Put x → f ≡ Some k.call.first)
      → (b : Option ℕ) × Binds more less (gets_of_link because ls) own b × HasOnly more less b own f
  left f pending = (
    closing.bound,
    closing.binds,
    record {
      value = x;
      known = (zero, omega arith, refl);
      get = get;
      returned = returned;
      all_completed = ((λ op. absurd (get_is_no_put x (sym get ∙ op))), moved);
      all_pending = each_without
          (λ (p : PendingCall). p.op ≡ Put x → (at < p.first) ⊎ (f ≡ Some p.first)) w os
          (each_weaker (λ (p : PendingCall). is_put p.op ≡ true → Still p)
          (λ (p : PendingCall). p.op ≡ Put x → (at < p.first) ⊎ (f ≡ Some p.first))
          (λ p k op. inr (k (ap is_put op) op)) os
          (each_put (λ p. Still p) os (subst (Each (λ p. Still p)) (sym s.puts)
          (still now pending))));
      at_first = closing.gone;
    },
  )
    where
      Q : Call → Type 0
      Q p = p.op ≡ Put x → IsShut more closing.bound own p ⊎ (f ≡ Some p.first)

      Still : PendingCall → Type 0
      Still p = p.op ≡ Put x → f ≡ Some p.first

      still : (k : Option Current)
          → ((j : Current) → k ≡ Some j → j.call.op ≡ Put x → f ≡ Some j.call.first)
          → Each (λ p. Still p) (current_puts k)
      still None g = tt
      still (Some k) g = (g k refl, tt)

      wider : (b : Option ℕ) (p : Call) → IsShut more None own p → IsShut more b own p
      wider b p (inl h) = inl h
      wider b p (inr (inl h)) = inr (inl h)
      wider b p (inr (inr h)) = absurd h

      Puts : (h : StageView) → Type 0
      Puts h = (p : Call) → h.put ≡ Some p → Q p

      puts : Each (λ h. Puts h) (prefix ++ e ∷ mid)
      puts =
          each_append (λ h. Puts h) prefix (e ∷ mid)
          (each_weaker (λ (a : StageView). Follows a e) (λ h. Puts h)
          (λ h k p is op. inl (wider closing.bound p (overwritten h k p is))) prefix before_e) (
            (λ p is op. inl (closing.shut p is op)),
            each_both (IsPassed o.first x) (IsHeld t) (λ h. Puts h)
                (λ h k g p is op. absurd (k.other (other h g p is op))) mid passed
                (each_left (IsHeld t) mid (current now)
                (each_right (IsHeld t) prefix (e ∷ (mid ++ current now)) each_all).1),
          )
        where
          other : (h : StageView) → IsHeld t h → (p : Call) → h.put ≡ Some p → p.op ≡ Put x
              → h.value ≡ x
          other h g p is op =
              (let at : IsPutAt h.value h.moment p = subst (IsStored h.value h.moment) is g.put in
              same_put h.value x (sym at.op ∙ op))

      gets : (k : Option Current) → Each (IsHeld t) (current k) → Each (λ p. Q p) (current_gets k)
      gets None h = tt
      gets (Some k) h =
          each_weaker (IsGot k.stage.value k.stage.moment t) (λ p. Q p)
          (λ g j op. absurd (get_is_no_put x (sym j.op ∙ op))) k.stage.gets h.0.gets

      moved : Each (λ p. Q p) done
      moved =
          each_from_all (λ p. Q p) done
          (All-permutation (λ p. Q p) (all_calls (prefix ++ e ∷ mid) ++ current_gets now) done
          (IsPermutation-sym _ _ s.once)
          (all_from_each (λ p. Q p) (all_calls (prefix ++ e ∷ mid) ++ current_gets now)
          (each_append (λ p. Q p) (all_calls (prefix ++ e ∷ mid)) (current_gets now)
          (stages_each (λ p. Q p) t (prefix ++ e ∷ mid) puts
          (λ g op other. absurd (get_is_no_put x (sym op ∙ other)))
          (each_left (IsHeld t) (prefix ++ e ∷ mid) (current now) s.each))
          (gets now (each_right (IsHeld t) (prefix ++ e ∷ mid) (current now) s.each)))))
