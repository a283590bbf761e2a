-- What stays true with one more event.
use Rattle.std.proofs.Common.{◌≡◌, ℕ, suc, ◌<◌, ◌≤◌, ◌⊎◌, inl, inr, Bool, true, false, ◌==◌}
use Rattle.std.proofs.Common.{cond, List, [], ◌∷◌, ◌++◌, length, Option, Some, None, refl, ap, sym}
use Rattle.std.proofs.Common.{◌∙◌, arith, subst}
use Rattle.std.specs.List.{Contains}
use Rattle.std.proofs.lemmas.Bool.{ne_eqb}
use Rattle.std.proofs.lemmas.Option.{same_Some, none-some}
use Rattle.std.proofs.lemmas.List.Elements.{All-contains, filter-append}
use Rattle.calls_core.specs.declared.history.Op.TheVariants.{Put}
use Rattle.calls_core.specs.declared.history.Reply.{Reply}
use Rattle.calls_core.specs.declared.history.PendingCall.{PendingCall}
use Rattle.calls_core.specs.declared.history.Call.{Call}
use Rattle.calls_core.specs.Lists.{Each}
use Rattle.calls_core.specs.Histories.{pending_of, without, completion}
use Rattle.calls_core.proofs.Positions.{each_without, each_call_by}
use Rattle.calls_core.proofs.Lists.{each_weaker, each_append, all_from_each}
use Rattle.calls_serial.specs.declared.stage.Link.{Link}
use Rattle.calls_serial.specs.Faults.{IsShut, IsGone, HasOnly, Binds}
use Rattle.calls_serial.specs.Faults.{Leaves}
use Rattle.calls_serial.specs.kept.Stages.{StageView, is_put, IsGot, IsHeld, IsOver, gets_of_link}
use Rattle.calls_serial.specs.kept.Stages.{IsChain}
use Rattle.calls_serial.specs.kept.Stages.{IsLinked, IsBacked, pending_puts}

-- PENDING PUTS

pub puts_no : (o : PendingCall) (os : List PendingCall) → is_put o.op ≡ false
    → pending_puts (o ∷ os) ≡ pending_puts os
puts_no o os e = ap (λ b. cond b (o ∷ pending_puts os) (pending_puts os)) e

pub puts_yes : (o : PendingCall) (os : List PendingCall) → is_put o.op ≡ true
    → pending_puts (o ∷ os) ≡ o ∷ pending_puts os
puts_yes o os e = ap (λ b. cond b (o ∷ pending_puts os) (pending_puts os)) e

pub puts_append : (os ps : List PendingCall)
    → pending_puts (os ++ ps) ≡ pending_puts os ++ pending_puts ps
puts_append = filter-append (λ (o : PendingCall). is_put o.op)

-- a call that is no put is removed
pub puts_without : (w : ℕ) (os : List PendingCall) (o : PendingCall) → pending_of w os ≡ Some o
    → is_put o.op ≡ false → pending_puts (without w os) ≡ pending_puts os
puts_without w [] o e is_no = absurd (none-some o e)
puts_without w (y ∷ os) o e is_no =
    elim (y.worker == w) as (λ b. cond b (Some y) (pending_of w os) ≡ Some o
    → pending_puts (cond b os (y ∷ without w os)) ≡ pending_puts (y ∷ os)) [
      | true ↦ λ is. sym (puts_no y os (ap (λ (z : PendingCall). is_put z.op) (same_Some y o is)
          ∙ is_no))
      | false ↦ λ is. ap (λ zs. cond (is_put y.op) (y ∷ zs) zs) (puts_without w os o is is_no)
    ] e

-- a pending put among the others
pub record IsAmong (os rest : List PendingCall) (o : PendingCall) : Type 0 where
  pub prefix : List PendingCall
  pub back : List PendingCall
  pub is : pending_puts os ≡ prefix ++ o ∷ back
  pub left : pending_puts rest ≡ prefix ++ back

among_more : (y : PendingCall) (os rest : List PendingCall) (o : PendingCall) → (b : Bool)
    → is_put y.op ≡ b → IsAmong os rest o → IsAmong (y ∷ os) (y ∷ rest) o
among_more y os rest o true e h = record {
  prefix = y ∷ h.prefix;
  back = h.back;
  is = puts_yes y os e ∙ ap (λ zs. y ∷ zs) h.is;
  left = puts_yes y rest e ∙ ap (λ zs. y ∷ zs) h.left;
}
among_more y os rest o false e h = record {
  prefix = h.prefix;
  back = h.back;
  is = puts_no y os e ∙ h.is;
  left = puts_no y rest e ∙ h.left;
}

among : (w : ℕ) (os : List PendingCall) (o : PendingCall) → pending_of w os ≡ Some o
    → is_put o.op ≡ true → IsAmong os (without w os) o
among w [] o e yes' = absurd (none-some o e)
among w (y ∷ os) o e yes' =
    elim (y.worker == w) as (λ b. cond b (Some y) (pending_of w os) ≡ Some o
    → IsAmong (y ∷ os) (cond b os (y ∷ without w os)) o) [
      | true ↦ λ is. record {
        prefix = [];
        back = pending_puts os;
        is = puts_yes y os (ap (λ (z : PendingCall). is_put z.op) (same_Some y o is) ∙ yes')
            ∙ ap (λ (z : PendingCall). z ∷ pending_puts os) (same_Some y o is);
        left = refl;
      }
      | false ↦ λ is. among_more y os (without w os) o (is_put y.op) refl (among w os o is yes')
    ] e

-- the only pending put is removed
pub only_put : (w : ℕ) (os : List PendingCall) (o p : PendingCall) → pending_of w os ≡ Some o
    → is_put o.op ≡ true → pending_puts os ≡ p ∷ []
    → (o ≡ p) × (pending_puts (without w os) ≡ [])
only_put w os o p e yes' one = (let s = among w os o e yes' in
    by s.prefix s.back (sym s.is ∙ one) s.left)
  where
    by : (prefix back : List PendingCall) → prefix ++ o ∷ back ≡ p ∷ []
        → pending_puts (without w os) ≡ prefix ++ back
        → (o ≡ p) × (pending_puts (without w os) ≡ [])
    by [] back is left = (let own : o ≡ p = cc in own, let none : back ≡ [] = cc in left ∙ none)
    by (y ∷ []) back is left = absurd (let no : o ∷ back ≡ [] = cc in cc)
    by (y ∷ z ∷ prefix) back is left = absurd (let no : z ∷ (prefix ++ o ∷ back) ≡ [] = cc in cc)

-- if a worker has a pending put, there are pending puts
pub no_put : (w : ℕ) (os : List PendingCall) (o : PendingCall) → pending_of w os ≡ Some o
    → is_put o.op ≡ true → pending_puts os ≡ [] → ⊥
no_put w os o e yes' none = (let s = among w os o e yes' in by s.prefix s.back (sym s.is ∙ none))
  where
    by : (prefix back : List PendingCall) → prefix ++ o ∷ back ≡ [] → ⊥
    by [] back is = cc
    by (y ∷ prefix) back is = cc

pub each_put : (Q : PendingCall → Type 0) (os : List PendingCall) → Each Q (pending_puts os)
    → Each (λ (o : PendingCall). is_put o.op ≡ true → Q o) os
each_put Q [] h = tt
each_put Q (o ∷ os) h =
    elim (is_put o.op) as (λ b. Each Q (cond b (o ∷ pending_puts os) (pending_puts os))
    → (b ≡ true → Q o) × Each (λ (o : PendingCall). is_put o.op ≡ true → Q o) os) [
      | true ↦ λ k. ((λ e. k.0), each_put Q os k.1)
      | false ↦ λ k. ((λ e. absurd (let no : false ≡ true = e in cc)), each_put Q os k)
    ] h

-- LATER MOMENTS

pub held_later : (t u : ℕ) (h : StageView) → t ≤ u → IsHeld t h → IsHeld u h
held_later t u h le k = record {
  put = k.put;
  gets = each_weaker (IsGot h.value h.moment t) (IsGot h.value h.moment u)
      (λ g e. record {
        op = e.op;
        reply = e.reply;
        lasts = e.lasts;
        early = (let lt = e.early in omega arith);
        after = e.after;
      }) h.gets k.gets;
  sorted = k.sorted;
}

pub over_later : (t u : ℕ) (put : Option Call) → t ≤ u → IsOver t put → IsOver u put
over_later t u None le h = tt
over_later t u (Some p) le h = (let lt : p.last < t = h in omega arith)

-- WHAT GETS SHOW

pub contains_more : {X : Type 0} (x y : X) (xs : List X) → Contains xs y → Contains (x ∷ xs) y
contains_more x y xs (k, lt, e) = (suc k, omega arith, e)

module _ (done more : List Call) (os less : List PendingCall) (t : ℕ)
    (early : Each (λ (c : Call). c.last < t) done)
    (grow : (b : Option ℕ) (c : Call) (f : Option ℕ) → c.last < t → HasOnly done os b c f
    → HasOnly more less b c f) where
  only_grows : (b : Option ℕ) (c : Call) (f : Option ℕ) → HasOnly done os b c f
      → HasOnly more less b c f
  only_grows b c f h = grow b c f
      (All-contains (λ (c : Call). c.last < t) done c
      (all_from_each (λ (c : Call). c.last < t) done early) h.known) h

  binds_grow : (cs : List Call) (c : Call) (b : Option ℕ) → Binds done os cs c b
      → Binds more less cs c b
  binds_grow [] c b h = h
  binds_grow (d ∷ cs) c b h = (
    h.0,
    h.1,
    (h.2.0, binds_grow cs d h.2.0 h.2.1, only_grows h.2.0 d b h.2.2),
  )

  pub leaves_grow : (cs : List Call) (f : Option ℕ) → Leaves done os cs f → Leaves more less cs f
  leaves_grow [] f h = h
  leaves_grow (c ∷ cs) f h = (h.0, binds_grow cs c h.0 h.1, only_grows h.0 c f h.2)

  pub backed_grow : (ls : List Link) (h : StageView) → IsBacked done os ls h
      → IsBacked more less ls h
  backed_grow ls h k p e = by h.link (k p e)
    where
      by : (l : Option ℕ) → IsLinked done os ls h.moment p l → IsLinked more less ls h.moment p l
      by None j = j
      by (Some i) j = (
        j.0,
        record {
          get = j.1.get;
          rest = j.1.rest;
          is = j.1.is;
          leaves = leaves_grow (j.1.get ∷ j.1.rest) (Some p.first) j.1.leaves;
          last = j.1.last;
        },
      )

pub only_invoked : (done : List Call) (os : List PendingCall) (t : ℕ) (o : PendingCall)
    → t ≤ o.first → (b : Option ℕ) (c : Call) (f : Option ℕ) → c.last < t → HasOnly done os b c f
    → HasOnly done (os ++ o ∷ []) b c f
only_invoked done os t o le b c f lt h = record {
  value = h.value;
  known = h.known;
  get = h.get;
  returned = h.returned;
  all_completed = h.all_completed;
  all_pending = each_append
      (λ (o : PendingCall). o.op ≡ Put h.value → (c.last < o.first) ⊎ (f ≡ Some o.first)) os
      (o ∷ []) h.all_pending ((λ e. inl (omega arith)), tt);
  at_first = h.at_first;
}

pub shut_more : (x : Call) (done : List Call) (b : Option ℕ) (c p : Call) → IsShut done b c p
    → IsShut (x ∷ done) b c p
shut_more x done b c p (inl late) = inl late
shut_more x done b c p (inr (inl o)) = inr (inl (record {
  put = o.put;
  value = o.value;
  known = contains_more x o.put done o.known;
  is = o.is;
  after = o.after;
  before = o.before;
}))
shut_more x done b c p (inr (inr e)) = inr (inr e)

gone_more : (x : Call) (done : List Call) (b : Option ℕ) (c : Call) → IsGone done b c
    → IsGone (x ∷ done) b c
gone_more x done None c h = (h.0, h.1, contains_more x h.0 done h.2, h.3, h.4)
gone_more x done (Some b) c h = tt

pub only_responded : (done : List Call) (os : List PendingCall) (t w at : ℕ) (r : Reply)
    (o : PendingCall) → pending_of w os ≡ Some o → (b : Option ℕ) (c : Call) (f : Option ℕ)
    → c.last < t → HasOnly done os b c f
    → HasOnly (completion at r o ∷ done) (without w os) b c f
only_responded done os t w at r o e b c f lt h = record {
  value = h.value;
  known = contains_more (completion at r o) c done h.known;
  get = h.get;
  returned = h.returned;
  all_completed = (
    (λ op. own (each_call_by
        (λ (o : PendingCall). o.op ≡ Put h.value → (c.last < o.first) ⊎ (f ≡ Some o.first)) w os o
        h.all_pending e op)),
    each_weaker (λ (p : Call). p.op ≡ Put h.value → IsShut done b c p ⊎ (f ≡ Some p.first))
        (λ (p : Call). p.op ≡ Put h.value
        → IsShut (completion at r o ∷ done) b c p ⊎ (f ≡ Some p.first))
        (λ p k op. elim (k op) [
          | inl s ↦ inl (shut_more (completion at r o) done b c p s)
          | inr s ↦ inr s
        ]) done h.all_completed,
  );
  all_pending = each_without
      (λ (o : PendingCall). o.op ≡ Put h.value → (c.last < o.first) ⊎ (f ≡ Some o.first)) w os
      h.all_pending;
  at_first = λ z. gone_more (completion at r o) done b c (h.at_first z);
}
  where
    own : (c.last < o.first) ⊎ (f ≡ Some o.first)
        → IsShut (completion at r o ∷ done) b c (completion at r o)
        ⊎ (f ≡ Some (completion at r o).first)
    own (inl a) = inl (inl a)
    own (inr s) = inr s

-- CHAINS

pub gathered_none : (ls : List Link) → gets_of_link None ls ≡ []
gathered_none [] = refl
gathered_none (l ∷ ls) = gathered_none ls

pub gathered_older : (i : ℕ) (l : Link) (ls : List Link) → i < length ls
    → gets_of_link (Some i) (l ∷ ls) ≡ gets_of_link (Some i) ls
gathered_older i l ls lt =
    ap (λ b. cond b (l.get ∷ gets_of_link l.because ls) (gets_of_link (Some i) ls))
    (ne_eqb i (length ls) (λ e. omega arith))

pub linked_older : (done : List Call) (os : List PendingCall) (l : Link) (ls : List Link) (m : ℕ)
    (p : Call) (i : Option ℕ) → IsLinked done os ls m p i → IsLinked done os (l ∷ ls) m p i
linked_older done os l ls m p None h = h
linked_older done os l ls m p (Some i) h = (
  let lt = h.0 in
      omega arith,
  subst (λ cs. IsChain done os cs p.first m) (sym (gathered_older i l ls h.0)) h.1,
)

pub backed_older : (done : List Call) (os : List PendingCall) (l : Link) (ls : List Link)
    (h : StageView) → IsBacked done os ls h → IsBacked done os (l ∷ ls) h
backed_older done os l ls h k p e = linked_older done os l ls h.moment p h.link (k p e)
