-- The stages after each event.
use Rattle.std.proofs.Common.{◌≡◌, ℕ, ◌+◌, ◌<◌, ◌≤◌, ◌⊎◌, inl, inr, false}
use Rattle.std.proofs.Common.{List, [], ◌∷◌, ◌++◌, Option, Some, None, refl, ap, sym}
use Rattle.std.proofs.Common.{◌∙◌, arith, subst}
use Rattle.std.specs.List.Sorted.{IsPermutation}
use Rattle.std.proofs.lemmas.Option.{same_Some}
use Rattle.std.proofs.lemmas.List.{append-nil}
use Rattle.std.proofs.lemmas.List.Sorted.{IsPermutation-cons, IsPermutation-trans}
use Rattle.std.proofs.lemmas.List.Sorted.{IsPermutation-sym, IsPermutation-middle}
use Rattle.calls_core.specs.declared.history.Op.TheVariants.{Put, Get}
use Rattle.calls_core.specs.declared.history.Reply.{Reply}
use Rattle.calls_core.specs.declared.history.Reply.TheVariants.{Done, Number}
use Rattle.calls_core.specs.declared.history.PendingCall.{PendingCall}
use Rattle.calls_core.specs.declared.history.Call.{Call}
use Rattle.calls_core.specs.Lists.{Each, EachPair}
use Rattle.calls_core.specs.Histories.{pending_of, without, completion}
use Rattle.calls_core.specs.Calls.{Early}
use Rattle.calls_core.proofs.Lists.{each_weaker, each_append, each_left, each_right, each_both}
use Rattle.calls_core.proofs.Lists.{each_pair_append, each_pair_left}
use Rattle.calls_core.proofs.Lists.{each_pair_across}
use Rattle.calls_serial.specs.declared.stage.Link.{Link}
use Rattle.calls_serial.specs.kept.Stages.{StageView, is_put, IsGot, IsPutAt}
use Rattle.calls_serial.specs.kept.Stages.{IsStored}
use Rattle.calls_serial.specs.kept.Stages.{Sooner, IsHeld, IsOver, Follows, Begins}
use Rattle.calls_serial.specs.kept.Stages.{IsLinked, IsBacked, Current, current}
use Rattle.calls_serial.specs.kept.Stages.{pending_puts, IsOverAt, AreStages}
use Rattle.calls_serial.specs.kept.Stages.{open_stage}
use Rattle.calls_core.proofs.Positions.{each_call_by}
use Rattle.calls_serial.proofs.Growing.{puts_append, puts_no, puts_yes}
use Rattle.calls_serial.proofs.Growing.{held_later, over_later, backed_grow}
use Rattle.calls_serial.proofs.Growing.{only_invoked, only_responded}

-- LISTS

pub moves_into : {X : Type 0} (calls xs ys : List X) (c : X) → IsPermutation calls (xs ++ ys)
    → IsPermutation (c ∷ calls) (xs ++ c ∷ ys)
moves_into calls xs ys c h =
    IsPermutation-trans (c ∷ calls) (c ∷ (xs ++ ys)) (xs ++ c ∷ ys)
    (IsPermutation-cons c calls (xs ++ ys) h)
    (IsPermutation-sym (xs ++ c ∷ ys) (c ∷ (xs ++ ys)) (IsPermutation-middle xs c ys))

pub each_set : {X : Type 0} (P : X → Type 0) (prefix : List X) (x y : X) (back : List X)
    → (P x → P y)
    → Each P (prefix ++ x ∷ back) → Each P (prefix ++ y ∷ back)
each_set P [] x y back f h = (f h.0, h.1)
each_set P (a ∷ prefix) x y back f h = (h.0, each_set P prefix x y back f h.1)

pub pairs_set : {X : Type 0} (R : X → X → Type 0) (prefix : List X) (x y : X) (back : List X)
    → ((a : X) → R a x → R a y) → (Each (R x) back → Each (R y) back)
    → EachPair R (prefix ++ x ∷ back) → EachPair R (prefix ++ y ∷ back)
pairs_set R [] x y back f g h = (g h.0, h.1)
pairs_set R (a ∷ prefix) x y back f g h =
    (each_set (R a) prefix x y back (f a) h.0, pairs_set R prefix x y back f g h.1)

pub begins_more : (hs gs : List StageView) → Begins hs → Begins (hs ++ gs)
begins_more [] gs h = absurd h
begins_more (a ∷ hs) gs h = h

pub begins_set : (prefix : List StageView) (h k : StageView) (back : List StageView) → k.put ≡ h.put
    → Begins (prefix ++ h ∷ back) → Begins (prefix ++ k ∷ back)
begins_set [] h k back e b = e ∙ b
begins_set (a ∷ prefix) h k back e b = b

-- MOMENTS

pub stored_by : (v m t : ℕ) (put : Option Call) → IsStored v m put → IsOver t put → m ≤ t
stored_by v m t None s o = (let z = s.1 in omega arith)
stored_by v m t (Some p) s o =
    (let last = s.last in let lt : p.last < t = o in omega arith)

-- a later stage may follow a stage whose put is over
pub follows_late : (t : ℕ) (a b : StageView) (p : Call) → IsHeld t a → IsOverAt t a → b.put ≡ Some p
    → IsOver p.first a.put → t ≤ b.moment → Follows a b
follows_late t a b p h o is over le = record {
  put = p;
  is = is;
  over = over;
  moments = (let m = stored_by a.value a.moment t a.put h.put o in omega arith);
  gets = each_weaker (IsGot a.value a.moment t) (λ (g : Call). g.first ≤ b.moment)
      (λ g k. (let l = k.lasts in let e = k.early in omega arith)) a.gets h.gets;
}

module _ (end t : ℕ) (done : List Call) (os : List PendingCall) (stages : List StageView)
    (ls : List Link) where
  -- INVOCATIONS

  pub invoked_other : (now : Option Current) (o : PendingCall)
      → Each (λ (c : Call). c.last < t) done → t ≤ o.first → is_put o.op ≡ false
      → AreStages end t done os stages now ls
      → AreStages end (o.first + 1) done (os ++ o ∷ []) stages now ls
  invoked_other now o early le is_no s = record {
    begins = s.begins;
    each = each_weaker (IsHeld t) (IsHeld (o.first + 1))
        (λ h k. held_later t (o.first + 1) h (omega arith) k) (stages ++ current now) s.each;
    pairs = s.pairs;
    backed = each_weaker (IsBacked done os ls) (IsBacked done (os ++ o ∷ []) ls)
        (λ h k. backed_grow done done os (os ++ o ∷ []) t early (only_invoked done os t o le) ls h
        k)
        (stages ++ current now) s.backed;
    over = each_weaker (IsOverAt t) (IsOverAt (o.first + 1))
        (λ h k. over_later t (o.first + 1) h.put (omega arith) k) stages s.over;
    put = s.put;
    puts = puts_append os (o ∷ []) ∙ ap (λ zs. pending_puts os ++ zs) (puts_no o [] is_no)
        ∙ append-nil (pending_puts os) ∙ s.puts;
    once = s.once;
  }

  pub invoked_put : (o : PendingCall) (v : ℕ) → Each (λ (c : Call). c.last < t) done
      → t ≤ o.first → o.first < end → o.op ≡ Put v → AreStages end t done os stages None ls
      → AreStages end (o.first + 1) done (os ++ o ∷ []) stages
      (Some (record { call = o; stage = open_stage end v o })) ls
  invoked_put o v early le lt op s = record {
    begins = s.begins;
    each = each_append (IsHeld (o.first + 1)) stages (open_stage end v o ∷ [])
        (each_weaker (IsHeld t) (IsHeld (o.first + 1))
        (λ h k. held_later t (o.first + 1) h (omega arith) k) stages
        (each_left (IsHeld t) stages [] s.each)) (
          record {
            put = record { op = op; reply = refl; lasts = lt; first = lt; last = omega arith };
            gets = tt;
            sorted = tt;
          },
          tt,
        );
    pairs = each_pair_append Follows stages (open_stage end v o ∷ [])
        (each_pair_left Follows stages [] s.pairs) (tt, tt)
        (each_both (IsHeld t) (IsOverAt t) (λ (a : StageView). Each (Follows a) (open_stage end v o ∷ []))
        (λ a h k. (
          follows_late t a (open_stage end v o) (completion end Done o) h k refl
              (over_later t o.first a.put le k) (omega arith),
          tt,
        )) stages
        (each_left (IsHeld t) stages [] s.each) s.over);
    backed = each_append (IsBacked done (os ++ o ∷ []) ls) stages (open_stage end v o ∷ [])
        (each_weaker (IsBacked done os ls) (IsBacked done (os ++ o ∷ []) ls)
        (λ h k. backed_grow done done os (os ++ o ∷ []) t early (only_invoked done os t o le) ls h
        k)
        stages (each_left (IsBacked done os ls) stages [] s.backed))
        ((λ p is. ap (λ (z : Call). z.last) (same_Some (completion end Done o) p is)), tt);
    over = each_weaker (IsOverAt t) (IsOverAt (o.first + 1))
        (λ h k. over_later t (o.first + 1) h.put (omega arith) k) stages s.over;
    put = refl;
    puts = puts_append os (o ∷ []) ∙ ap (λ zs. zs ++ pending_puts (o ∷ [])) s.puts
        ∙ puts_yes o [] (ap is_put op);
    once = s.once;
  }

  -- RESPONSES

  module _ (w at : ℕ) (r : Reply) (o : PendingCall) (ours : pending_of w os ≡ Some o)
      (early : Each (λ (c : Call). c.last < t) done) (waiting : Each (Early t) os) (le : t ≤ at)
      (lt : at < end) where
    abbrev pub ended : Call
    ended = completion at r o

    pub grows : (h : StageView) → IsBacked done os ls h
        → IsBacked (ended ∷ done) (without w os) ls h
    grows h k = backed_grow done (ended ∷ done) os (without w os) t early
        (only_responded done os t w at r o ours) ls h k

    pub got : (v m x : ℕ) → o.op ≡ Get → r ≡ Number x → v ≡ x → m ≤ at → IsGot v m (at + 1) ended
    got v m x op is same after = record {
      op = op;
      reply = is ∙ ap Number (sym same);
      lasts = (let k : o.first < t = each_call_by (Early t) w os o waiting ours in omega arith);
      early = omega arith;
      after = after;
    }

    pub sooner : (v m : ℕ) (gs : List Call) → Each (IsGot v m t) gs → EachPair Sooner gs
        → EachPair Sooner (gs ++ ended ∷ [])
    sooner v m gs h k = each_pair_append Sooner gs (ended ∷ []) k (tt, tt)
        (each_weaker (IsGot v m t) (λ (g : Call). Each (Sooner g) (ended ∷ []))
        (λ g j. (let e = j.early in let l : g.last < at = omega arith in l, tt)) gs h)

    pub later : (hs : List StageView) → Each (IsHeld t) hs → Each (IsHeld (at + 1)) hs
    later hs h = each_weaker (IsHeld t) (IsHeld (at + 1))
        (λ a k. held_later t (at + 1) a (omega arith) k) hs h

    pub overs : Each (IsOverAt t) stages → Each (IsOverAt (at + 1)) stages
    overs h = each_weaker (IsOverAt t) (IsOverAt (at + 1))
        (λ a k. over_later t (at + 1) a.put (omega arith) k) stages h

  -- the last stage, of the pending put, is changed
  module _ (now : Current) (s : AreStages end t done os stages (Some now) ls) where
    pub before_now : Each (λ (a : StageView). Follows a now.stage) stages
    before_now = each_weaker (λ (a : StageView). Each (Follows a) (now.stage ∷ []))
        (λ (a : StageView). Follows a now.stage) (λ a k. k.0) stages
        (each_pair_across Follows stages (now.stage ∷ []) s.pairs)

    pub now_held : IsHeld t now.stage
    now_held = (each_right (IsHeld t) stages (now.stage ∷ []) s.each).0

    pub now_put : IsPutAt now.stage.value now.stage.moment (completion end Done now.call)
    now_put = subst (IsStored now.stage.value now.stage.moment) s.put now_held.put

    pub now_linked : IsLinked done os ls now.stage.moment (completion end Done now.call)
        now.stage.link
    now_linked = (each_right (IsBacked done os ls) stages (now.stage ∷ []) s.backed).0
        (completion end Done now.call) s.put

    pub changed : (h : StageView) (p : Call) → h.put ≡ Some p → p.first ≡ now.call.first
        → t ≤ h.moment
        ⊎ (h.moment ≡ now.stage.moment) → EachPair Follows (stages ++ h ∷ [])
    changed h p is same m = each_pair_append Follows stages (h ∷ [])
        (each_pair_left Follows stages (now.stage ∷ []) s.pairs) (tt, tt)
        (each_both (λ (a : StageView). IsHeld t a
        × IsOverAt t a) (λ (a : StageView). Follows a now.stage)
        (λ (a : StageView). Each (Follows a) (h ∷ []))
        (λ a k f. (one a k f m, tt)) stages
        (each_both (IsHeld t) (IsOverAt t) (λ (a : StageView). IsHeld t a × IsOverAt t a)
        (λ a x y. (x, y)) stages (each_left (IsHeld t) stages (now.stage ∷ []) s.each) s.over)
        before_now)
      where
        first : (a : StageView) → Follows a now.stage → IsOver p.first a.put
        first a f = subst (λ n. IsOver n a.put)
            (ap (λ (z : Call). z.first)
            (same_Some f.put (completion end Done now.call) (sym f.is ∙ s.put)) ∙ sym same) f.over

        one : (a : StageView) → IsHeld t a × IsOverAt t a → Follows a now.stage
            → (t ≤ h.moment ⊎ (h.moment ≡ now.stage.moment)) → Follows a h
        one a k f (inl le) = follows_late t a h p k.0 k.1 is (first a f) le
        one a k f (inr e) = record {
          put = p;
          is = is;
          over = first a f;
          moments = (let m = f.moments in omega arith);
          gets = subst (λ n. Each (λ (g : Call). g.first ≤ n) a.gets) (sym e) f.gets;
        }
