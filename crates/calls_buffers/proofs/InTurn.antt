-- Produces or consumes of which each returned before the next one was invoked.
use Rattle.std.proofs.Common.{◌≡◌, ℕ, suc, ◌+◌, ◌<◌, ◌≤◌, ◌⊎◌, inl, inr, Bool, true, false}
use Rattle.std.proofs.Common.{Option, Some, None, List, [], ◌∷◌, ◌++◌, length, get_or, refl, ap}
use Rattle.std.proofs.Common.{sym, ◌∙◌, subst, arith, count_by, IsTrue, length-append}
use Rattle.std.specs.List.{Contains}
use Rattle.std.specs.List.Sorted.{IsPermutation}
use Rattle.std.proofs.lemmas.Bool.{cases_lt}
use Rattle.std.proofs.lemmas.List.Sorted.{All-permutation, length_permutation}
use Rattle.std.proofs.lemmas.List.Elements.{Contains-append_right}
use Rattle.calls_core.specs.declared.history.Kind.TheVariants.{Buffer}
use Rattle.calls_core.specs.declared.history.Op.{Op}
use Rattle.calls_core.specs.declared.history.Reply.{Reply}
use Rattle.calls_core.specs.declared.history.PendingCall.{PendingCall}
use Rattle.calls_core.specs.declared.history.Call.{Call}
use Rattle.calls_core.specs.Lists.{Each, EachPair}
use Rattle.calls_core.specs.Calls.{IsCallOf, AreCallsOf, Early}
use Rattle.calls_core.proofs.Lists.{each_weaker, each_append, each_pair_append, all_from_each}
use Rattle.calls_core.proofs.Lists.{all_pairs_from_each}
use Rattle.calls_core.proofs.Filters.{each_from_all, along_permutation}
use Rattle.calls_core.proofs.Counting.{one, one_yes, one_no, count_cons}
use Rattle.calls_buffers.specs.declared.accesses.Access.{Access}
use Rattle.calls_buffers.specs.Counts.{any_item, is_put, is_take, produces, is_consume, all_puts}
use Rattle.calls_buffers.specs.Outcomes.{AreInTurn, AreAskedLast, AreTakenInTurn}
use Rattle.calls_buffers.specs.Turns.{puts_of, takes_of, AreApart, asking_of, asking, AreFewOrApart}
use Rattle.calls_buffers.specs.Accesses.{put_item, taken_item, produced_item}
use Rattle.calls_buffers.specs.Accesses.{access_of, accesses, asked_of, asked}
use Rattle.calls_buffers.specs.kept.Spans.{AreInvokedApart}
use Rattle.calls_buffers.specs.kept.InTurn.{ByFirst}
use Rattle.calls_buffers.proofs.Untaking.{passes, took_item}
use Rattle.calls_buffers.proofs.ByItems.{put_took, asked_item}
use Rattle.calls_buffers.proofs.Alongside.{short_pairs, each_moved}
use Rattle.calls_buffers.proofs.AreWindows.{each_contains}

-- NEIGHBOURS

abbrev pub AreLasting : List Access → Type 0
AreLasting list = Each (λ (a : Access). a.first ≤ a.last) list

pub apart_next : (list : List Access) → AreLasting list
    → ((k : ℕ) (d : Access) → k + 1 < length list
    → (get_or list k d).last < (get_or list (k + 1) d).first) → AreApart list
apart_next [] lasting h = tt
apart_next (a ∷ []) lasting h = (tt, tt)
apart_next (a ∷ b ∷ list) lasting h =
    let rest = apart_next (b ∷ list) lasting.1 (λ k d lt.
    let same : suc k + 1 ≡ suc (k + 1) = omega arith in
    subst (λ n. (get_or (b ∷ list) k d).last < (get_or (a ∷ b ∷ list) n d).first) same
    (h (suc k) d (omega arith))) in
    let first : a.last < b.first = h 0 a (omega arith) in
    let whole : b.first ≤ b.last = lasting.1.0 in (
      (
        first,
        each_weaker (λ (y : Access). b.last < y.first) (λ (y : Access). a.last < y.first)
            (λ y l. omega (arith, first, whole, l)) list rest.0,
      ),
      rest,
    )

pub apart_at : (list : List Access) (i j : ℕ) (d : Access) → AreApart list → i < j → j < length list
    → (get_or list i d).last < (get_or list j d).first
apart_at list i j d h lt within =
    all_pairs_from_each (λ (a b : Access). a.last < b.first) list h i j d lt within

-- WHAT HOLDS OF CALLS HOLDS OF THEIR ACCESSES

module _ (f : Op → Reply → Option ℕ) where
  abbrev pub HasItem : Call → Type 0
  HasItem c = passes any_item (f c.op c.reply) ≡ true

  pub each_accesses : (P : ℕ → ℕ → Type 0) (i : ℕ) (cs : List Call)
      → Each (λ (c : Call). HasItem c → P c.first c.last) cs
      → Each (λ (a : Access). P a.first a.last) (accesses f i cs)
  each_accesses P i [] h = tt
  each_accesses P i (c ∷ cs) h =
      each_append (λ (a : Access). P a.first a.last) (access_of i c (f c.op c.reply))
      (accesses f (i + 1) cs) (own (f c.op c.reply) refl) (each_accesses P (i + 1) cs h.1)
    where
      own : (o : Option ℕ) → f c.op c.reply ≡ o
          → Each (λ (a : Access). P a.first a.last) (access_of i c o)
      own None e = tt
      own (Some v) e = (h.0 (ap (passes any_item) e), tt)

  pub each_pair_accesses : (P : ℕ → ℕ → ℕ → ℕ → Type 0) (i : ℕ) (cs : List Call)
      → EachPair (λ (c d : Call). HasItem c → HasItem d → P c.first c.last d.first d.last) cs
      → EachPair (λ (a b : Access). P a.first a.last b.first b.last) (accesses f i cs)
  each_pair_accesses P i [] h = tt
  each_pair_accesses P i (c ∷ cs) h =
      let R : Access → Access → Type 0 = λ a b. P a.first a.last b.first b.last in
      each_pair_append R (access_of i c (f c.op c.reply)) (accesses f (i + 1) cs)
      (alone (f c.op c.reply)) (each_pair_accesses P (i + 1) cs h.1)
      (across (f c.op c.reply) refl)
    where
      alone : (o : Option ℕ)
          → EachPair (λ (a b : Access). P a.first a.last b.first b.last) (access_of i c o)
      alone None = tt
      alone (Some v) = (tt, tt)

      across : (o : Option ℕ) → f c.op c.reply ≡ o
          → Each (λ (a : Access). Each (λ (b : Access). P a.first a.last b.first b.last)
          (accesses f (i + 1) cs)) (access_of i c o)
      across None e = tt
      across (Some v) e = (
        each_accesses (P c.first c.last) (i + 1) cs
            (each_weaker (λ (d : Call). HasItem c → HasItem d → P c.first c.last d.first d.last)
            (λ (d : Call). HasItem d → P c.first c.last d.first d.last)
            (λ d k. k (ap (passes any_item) e)) cs h.0),
        tt,
      )

  pub count_all : (i : ℕ) (cs : List Call)
      → length (accesses f i cs) ≡ count_by (λ (c : Call). passes any_item (f c.op c.reply)) cs
  count_all i [] = refl
  count_all i (c ∷ cs) =
      let parts = count_cons (λ (x : Call). passes any_item (f x.op x.reply)) c cs in
      own (count_all (i + 1) cs) (f c.op c.reply) parts
    where
      own : (length (accesses f (i + 1) cs)
          ≡ count_by (λ (x : Call). passes any_item (f x.op x.reply)) cs) → (o : Option ℕ)
          → count_by (λ (x : Call). passes any_item (f x.op x.reply)) (c ∷ cs)
          ≡ one (passes any_item o)
          + count_by (λ (x : Call). passes any_item (f x.op x.reply)) cs
          → length (access_of i c o ++ accesses f (i + 1) cs)
          ≡ count_by (λ (x : Call). passes any_item (f x.op x.reply)) (c ∷ cs)
      own rest None e = omega (arith, e, rest)
      own rest (Some v) e = omega (arith, e, rest)

pub each_asked : (end : ℕ) (P : ℕ → ℕ → Type 0) (i : ℕ) (os : List PendingCall)
    → Each (λ (o : PendingCall). IsTrue (produces any_item o.op) → P o.first end) os
    → Each (λ (a : Access). P a.first a.last) (asked end i os)
each_asked end P i [] h = tt
each_asked end P i (o ∷ os) h =
    each_append (λ (a : Access). P a.first a.last) (asked_of end i o (produced_item o.op))
    (asked end (i + 1) os) (own (produced_item o.op) refl) (each_asked end P (i + 1) os h.1)
  where
    own : (p : Option ℕ) → produced_item o.op ≡ p
        → Each (λ (a : Access). P a.first a.last) (asked_of end i o p)
    own None e = tt
    own (Some v) e = (h.0 (asked_item any_item o.op ∙ ap (passes any_item) e), tt)

pub count_all_asked : (end i : ℕ) (os : List PendingCall)
    → length (asked end i os) ≡ count_by (λ (o : PendingCall). produces any_item o.op) os
count_all_asked end i [] = refl
count_all_asked end i (o ∷ os) =
    let parts = count_cons (λ (x : PendingCall). produces any_item x.op) o os in
    own (count_all_asked end (i + 1) os) (produced_item o.op) (ap one (asked_item any_item o.op))
    parts
  where
    own : (length (asked end (i + 1) os)
        ≡ count_by (λ (x : PendingCall). produces any_item x.op) os)
        → (p : Option ℕ) → one (produces any_item o.op) ≡ one (passes any_item p)
        → count_by (λ (x : PendingCall). produces any_item x.op) (o ∷ os)
        ≡ one (produces any_item o.op)
        + count_by (λ (x : PendingCall). produces any_item x.op) os
        → length (asked_of end i o p ++ asked end (i + 1) os)
        ≡ count_by (λ (x : PendingCall). produces any_item x.op) (o ∷ os)
    own rest None e q = omega (arith, e, q, rest)
    own rest (Some v) e q = omega (arith, e, q, rest)

-- EACH IS WHOLE

pub lasting_done : (f : Op → Reply → Option ℕ) (n end : ℕ) (done : List Call)
    (pending : List PendingCall) → AreCallsOf (Buffer n) done pending end
    → AreLasting (accesses f 0 done)
lasting_done f n end done pending calls = each_accesses f (λ a b. a ≤ b) 0 done
    (each_weaker (IsCallOf (Buffer n) end) (λ (c : Call). HasItem f c → c.first ≤ c.last)
    (λ c k has. omega (arith, k.lasts)) done calls.completed)

pub lasting_puts : (n end : ℕ) (done : List Call) (pending : List PendingCall)
    → AreCallsOf (Buffer n) done pending end → AreLasting (puts_of end done pending)
lasting_puts n end done pending calls =
    each_append (λ (a : Access). a.first ≤ a.last) (accesses put_item 0 done) (asked end 0 pending)
    (lasting_done put_item n end done pending calls)
    (each_asked end (λ a b. a ≤ b) 0 pending (each_weaker (Early end)
    (λ (o : PendingCall). IsTrue (produces any_item o.op) → o.first ≤ end)
    (λ o lt is. omega (arith, lt)) pending calls.early))

pub lasting_moved : (xs ys : List Access) → IsPermutation xs ys → AreLasting xs → AreLasting ys
lasting_moved xs ys moved h = each_from_all (λ (a : Access). a.first ≤ a.last) ys
    (All-permutation (λ (a : Access). a.first ≤ a.last) xs ys moved
    (all_from_each (λ (a : Access). a.first ≤ a.last) xs h))

-- HOW MANY THEY ARE

count_same : {X : Type 0} (p q : X → Bool) → ((x : X) → p x ≡ q x) → (xs : List X)
    → count_by p xs ≡ count_by q xs
count_same p q same [] = refl
count_same p q same (x ∷ xs) = omega (
  arith,
  count_cons p x xs,
  count_cons q x xs,
  ap one (same x),
  count_same p q same xs,
)

pub count_puts : (end : ℕ) (done : List Call) (pending : List PendingCall)
    → length (puts_of end done pending) ≡ all_puts any_item done pending
count_puts end done pending = omega (
  arith,
  length-append (accesses put_item 0 done) (asked end 0 pending),
  count_all put_item 0 done,
  count_same (λ (c : Call). passes any_item (put_item c.op c.reply)) (is_put any_item)
      (λ c. sym (put_took any_item c.op c.reply)) done,
  count_all_asked end 0 pending,
)

pub count_takes : (done : List Call)
    → length (takes_of done) ≡ count_by (is_take any_item) done
count_takes done = omega (
  arith,
  count_all taken_item 0 done,
  count_same (λ (c : Call). passes any_item (taken_item c.op c.reply)) (is_take any_item)
      (λ c. sym (took_item any_item c.op c.reply)) done,
)

-- ONE OF TWO IS BEFORE THE OTHER

abbrev Away : ℕ → ℕ → ℕ → ℕ → Type 0
Away first last from by = (last < from) ⊎ (by < first)

abbrev AreAway : Access → Access → Type 0
AreAway a b = Away a.first a.last b.first b.last

turned : (a b : Access) → AreAway a b → AreAway b a
turned a b (inl lt) = inr lt
turned a b (inr lt) = inl lt

away_moved : (xs ys : List Access) → IsPermutation xs ys → EachPair AreAway xs
    → EachPair AreAway ys
away_moved xs ys moved h =
    (along_permutation (λ (us vs : List Access). (EachPair AreAway us → EachPair AreAway vs)
    × ((x : Access) → Each (AreAway x) us → Each (AreAway x) vs)) (λ us. (λ k. k, λ x k. k))
    (λ x us vs r. (λ k. (r.1 x k.0, r.0 k.1), λ y k. (k.0, r.1 y k.1)))
    (λ x y us. (
      λ k. ((turned x y k.0.0, k.1.0), (k.0.1, k.1.1)),
      λ z k. (k.1.0, (k.0, k.1.1)),
    ))
    (λ us vs ws r s. (λ k. s.0 (r.0 k), λ x k. s.1 x (r.1 x k))) xs ys moved).0 h

each_pair_at : {X : Type 0} (R : X → X → Type 0) (xs : List X)
    → ((i j : ℕ) (d : X) → i < j → j < length xs → R (get_or xs i d) (get_or xs j d))
    → EachPair R xs
each_pair_at R [] h = tt
each_pair_at R (x ∷ xs) h = (
  each_contains (R x) xs (λ y k. subst (R x) k.2 (h 0 (suc k.0) y (omega arith)
      (let s = k.1 in omega arith))),
  each_pair_at R xs (λ i j d lt le. h (suc i) (suc j) d (omega arith) (omega arith)),
)

-- in the order of their invocations
apart_sorted : (list : List Access) → AreLasting list → ByFirst list → EachPair AreAway list
    → AreApart list
apart_sorted list lasting sorted away =
    each_pair_at (λ (a b : Access). a.last < b.first) list (λ i j d lt within.
    own i j d (sorted i j d (omega arith) within)
    (all_from_each (λ (a : Access). a.first ≤ a.last) list lasting j d within)
    (all_pairs_from_each AreAway list away i j d lt within))
  where
    own : (i j : ℕ) (d : Access) → (get_or list i d).first ≤ (get_or list j d).first
        → (get_or list j d).first ≤ (get_or list j d).last
        → AreAway (get_or list i d) (get_or list j d)
        → (get_or list i d).last < (get_or list j d).first
    own i j d le whole (inl lt) = lt
    own i j d le whole (inr lt) = absurd (omega (arith, le, whole, lt))

-- if no two calls were invoked at the same position
each_known : {X : Type 0} (P Q : X → Type 0) (xs : List X) → Each P xs
    → ((x : X) → Contains xs x → P x → Q x) → Each Q xs
each_known P Q [] h f = tt
each_known P Q (x ∷ xs) h f = (
  f x (0, omega arith, refl) h.0,
  each_known P Q xs h.1 (λ y k p. f y (Contains-append_right (x ∷ []) xs y k) p),
)

pub each_pair_both : {X : Type 0} (R S : X → X → Type 0) (xs : List X) → EachPair R xs
    → ((x y : X) → Contains xs x → Contains xs y → R x y → S x y) → EachPair S xs
each_pair_both R S [] h f = tt
each_pair_both R S (x ∷ xs) h f = (
  each_known (R x) (S x) xs h.0 (λ y k r. f x y (0, omega arith, refl)
      (Contains-append_right (x ∷ []) xs y k) r),
  each_pair_both R S xs h.1 (λ y z k l r. f y z (Contains-append_right (x ∷ []) xs y k)
      (Contains-append_right (x ∷ []) xs z l) r),
)

away_calls : (f : Op → Reply → Option ℕ) (done : List Call)
    → EachPair (λ (c d : Call). c.first ≡ d.first → ⊥) done
    → ((c d : Call) → Contains done c → Contains done d → HasItem f c → HasItem f d
    → c.first < d.first → c.last < d.first) → EachPair AreAway (accesses f 0 done)
away_calls f done invoked apart = each_pair_accesses f Away 0 done
    (each_pair_both (λ (c d : Call). c.first ≡ d.first → ⊥)
    (λ (c d : Call). HasItem f c → HasItem f d → Away c.first c.last d.first d.last) done invoked
    (λ c d k l differ has too. elim (cases_lt c.first d.first) [
      | inl lt ↦ inl (apart c d k l has too lt)
      | inr le ↦ inr (apart d c l k too has (less d.first c.first le differ))
    ]))
  where
    less : (m n : ℕ) → m ≤ n → (n ≡ m → ⊥) → m < n
    less m n le differ =
        elim (cases_lt m n) [ inl lt ↦ lt | inr ge ↦ absurd (differ (omega arith)) ]

pub puts_apart : (n end : ℕ) (done : List Call) (pending : List PendingCall) (list : List Access)
    → AreCallsOf (Buffer n) done pending end → AreInvokedApart done pending
    → AreInTurn done pending → IsPermutation (puts_of end done pending) list → ByFirst list
    → AreApart list
puts_apart n end done pending list calls invoked turns moved sorted =
    let put : (c : Call) → HasItem put_item c → IsTrue (is_put any_item c) =
    λ c has. put_took any_item c.op c.reply ∙ has in
    apart_sorted list (lasting_moved (puts_of end done pending) list moved
    (lasting_puts n end done pending calls)) sorted
    (away_moved (puts_of end done pending) list moved
    (each_pair_append AreAway (accesses put_item 0 done) (asked end 0 pending)
    (away_calls put_item done invoked.completed (λ c d k l has too.
    turns.apart c d k l (put c has) (put d too)))
    (short_pairs AreAway (asked end 0 pending)
    (omega (arith, turns.few, count_all_asked end 0 pending)))
    (each_accesses put_item (λ first last. Each (λ (b : Access). Away first last b.first b.last)
    (asked end 0 pending)) 0 done (each_contains (λ (c : Call). HasItem put_item c
    → Each (λ (b : Access). Away c.first c.last b.first b.last) (asked end 0 pending)) done
    (λ c k has. each_asked end (Away c.first c.last) 0 pending
    (each_contains (λ (o : PendingCall). IsTrue (produces any_item o.op)
    → Away c.first c.last o.first end) pending (λ o l is.
    inl (turns.last c o k l (put c has) is))))))))

takes_apart : (n end : ℕ) (done : List Call) (pending : List PendingCall) (list : List Access)
    → AreCallsOf (Buffer n) done pending end → AreInvokedApart done pending
    → AreTakenInTurn done pending → IsPermutation (takes_of done) list → ByFirst list
    → AreApart list
takes_apart n end done pending list calls invoked turns moved sorted =
    apart_sorted list (lasting_moved (takes_of done) list moved
    (lasting_done taken_item n end done pending calls)) sorted
    (away_moved (takes_of done) list moved (away_calls taken_item done invoked.completed
    (λ c d k l has too. turns.apart c d k l (took_item any_item c.op c.reply ∙ has)
    (took_item any_item d.op d.reply ∙ too))))

-- PENDING CONSUMES

each_asking : (end : ℕ) (P : ℕ → ℕ → Type 0) (i : ℕ) (os : List PendingCall)
    → Each (λ (o : PendingCall). IsTrue (is_consume o.op) → P o.first end) os
    → Each (λ (a : Access). P a.first a.last) (asking end i os)
each_asking end P i [] h = tt
each_asking end P i (o ∷ os) h =
    each_append (λ (a : Access). P a.first a.last) (asking_of end i o (is_consume o.op))
    (asking end (i + 1) os) (own (is_consume o.op) refl) (each_asking end P (i + 1) os h.1)
  where
    own : (b : Bool) → is_consume o.op ≡ b
        → Each (λ (a : Access). P a.first a.last) (asking_of end i o b)
    own false e = tt
    own true e = (h.0 e, tt)

count_asking : (end i : ℕ) (os : List PendingCall)
    → length (asking end i os) ≡ count_by (λ (o : PendingCall). is_consume o.op) os
count_asking end i [] = refl
count_asking end i (o ∷ os) = own (is_consume o.op) refl (count_asking end (i + 1) os)
    (count_cons (λ (p : PendingCall). is_consume p.op) o os)
  where
    own : (b : Bool) → is_consume o.op ≡ b
        → length (asking end (i + 1) os) ≡ count_by (λ (p : PendingCall). is_consume p.op) os
        → count_by (λ (p : PendingCall). is_consume p.op) (o ∷ os)
        ≡ one (is_consume o.op) + count_by (λ (p : PendingCall). is_consume p.op) os
        → length (asking_of end i o b ++ asking end (i + 1) os)
        ≡ count_by (λ (p : PendingCall). is_consume p.op) (o ∷ os)
    own false e rest q = omega (arith, q, rest, one_no (is_consume o.op) e)
    own true e rest q = omega (arith, q, rest, one_yes (is_consume o.op) e)

-- after those that returned an item
module _ (n end : ℕ) (done : List Call) (pending : List PendingCall) (list : List Access)
    (calls : AreCallsOf (Buffer n) done pending end) (moved : IsPermutation (takes_of done) list)
  where
    pub lasting_takes : AreLasting list
    lasting_takes = lasting_moved (takes_of done) list moved
        (lasting_done taken_item n end done pending calls)

    pub lasting_all : AreLasting (list ++ asking end 0 pending)
    lasting_all = each_append (λ (a : Access). a.first ≤ a.last) list (asking end 0 pending)
        lasting_takes (each_asking end (λ first last. first ≤ last) 0 pending
        (each_weaker (Early end) (λ (o : PendingCall). IsTrue (is_consume o.op) → o.first ≤ end)
        (λ o lt is. omega (arith, lt)) pending calls.early))

    apart_all : AreAskedLast done pending → AreApart list → AreApart (list ++ asking end 0 pending)
    apart_all turns apart =
        let others : List Access = asking end 0 pending in
        each_pair_append (λ (a b : Access). a.last < b.first) list others apart
        (short_pairs (λ (a b : Access). a.last < b.first) others
        (omega (arith, turns.few, count_asking end 0 pending)))
        (each_moved (λ (a : Access). Each (λ (b : Access). a.last < b.first) others) (takes_of done)
        list moved (each_accesses taken_item
        (λ first last. Each (λ (b : Access). last < b.first) others) 0 done
        (each_contains (λ (c : Call). HasItem taken_item c
        → Each (λ (b : Access). c.last < b.first) others) done
        (λ c k has. each_asking end (λ first last. c.last < first) 0 pending
        (each_contains (λ (o : PendingCall). IsTrue (is_consume o.op) → c.last < o.first) pending
        (λ o l is. turns.last c o k l (took_item any_item c.op c.reply ∙ has) is))))))

    pub in_turn : AreInvokedApart done pending → AreTakenInTurn done pending → ByFirst list
        → AreApart list
        × AreFewOrApart (length (puts_of end done pending)) list (asking end 0 pending)
    in_turn invoked turns sorted =
        let apart = takes_apart n end done pending list calls invoked turns moved sorted in (
          apart,
          elim turns.rest [
            | inl few ↦ inl (omega (
              arith,
              few,
              count_puts end done pending,
              count_takes done,
              length_permutation (takes_of done) list moved,
            ))
            | inr last ↦ inr (apart_all last apart)
          ],
        )

-- the produces, as they are listed
pub puts_listed : (end : ℕ) (done cs : List Call) (pending os : List PendingCall)
    (made all : List Access) → all ≡ made ++ asked end 0 os → made ≡ accesses put_item 0 cs
    → cs ≡ done → os ≡ pending → all ≡ puts_of end done pending
puts_listed end done cs pending os made all is completed d p =
    is ∙ ap (λ zs. zs ++ asked end 0 os) (completed ∙ ap (accesses put_item 0) d)
    ∙ ap (λ zs. accesses put_item 0 done ++ asked end 0 zs) p
