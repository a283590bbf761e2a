-- The windows of a history of distinct items.
use Rattle.std.proofs.Common.{◌≡◌, ℕ, zero, suc, ◌+◌, ◌<◌, ◌≤◌, ◌⊎◌, inl, inr}
use Rattle.std.proofs.Common.{nat_lt, true, false, cond, Option, Some, None, List, [], ◌∷◌}
use Rattle.std.proofs.Common.{◌++◌, length, get_or, refl, ap, sym, ◌∙◌, subst, arith, count_by}
use Rattle.std.specs.List.{Contains}
use Rattle.std.specs.List.Sorted.{IsPermutation}
use Rattle.std.specs.Option.{unwrap_or}
use Rattle.std.proofs.lemmas.Bool.{leb-true, lt-ltb}
use Rattle.std.proofs.lemmas.Bool.{ltb-true}
use Rattle.std.proofs.lemmas.List.Elements.{All-contains, Contains-append_left}
use Rattle.std.proofs.lemmas.List.Elements.{Contains-append_right, Contains-append_cases}
use Rattle.std.proofs.lemmas.List.Sorted.{Contains-permutation, IsPermutation-sym}
use Rattle.calls_core.specs.declared.history.Op.{Op}
use Rattle.calls_core.specs.declared.history.Op.TheVariants.{Advance, Read, Await, Ticket, P, V}
use Rattle.calls_core.specs.declared.history.Op.TheVariants.{PBoth, Put, Get, Produce, Consume}
use Rattle.calls_core.specs.declared.history.Reply.{Reply}
use Rattle.calls_core.specs.declared.history.Reply.TheVariants.{Done, Number, Timeout}
use Rattle.calls_core.specs.declared.history.PendingCall.{PendingCall}
use Rattle.calls_core.specs.declared.history.Call.{Call}
use Rattle.calls_core.specs.Lists.{Each, EachPair}
use Rattle.calls_core.proofs.Lists.{each_weaker, each_append, each_pair_append, all_from_each}
use Rattle.calls_core.proofs.Counting.{count_append, count_moved}
use Rattle.calls_buffers.specs.declared.accesses.Place.TheVariants.{Completed, Pending}
use Rattle.calls_buffers.specs.declared.accesses.Access.{Access}
use Rattle.calls_buffers.specs.declared.windows.Window.{Window}
use Rattle.calls_buffers.specs.Counts.{item, all_puts, is_put, is_take, put_one, took_one}
use Rattle.calls_buffers.specs.Counts.{produces}
use Rattle.calls_buffers.specs.Jobs.{IsProduceOf, IsConsumeOf}
use Rattle.calls_buffers.specs.Accesses.{taken_item, produced_item, put_item}
use Rattle.calls_buffers.specs.kept.Accesses.{Ascend}
use Rattle.calls_buffers.specs.Accesses.{access_of, accesses, asked_of, asked}
use Rattle.calls_buffers.specs.kept.Accesses.{find_access}
use Rattle.calls_buffers.specs.kept.Pairs.{with_take, without_take, window_of, window_list, fits_put, fits}
use Rattle.calls_buffers.specs.kept.Windows.{IsCompletedPut, IsPendingPut}
use Rattle.calls_buffers.specs.kept.Windows.{IsWindow, HasWindow, AreWindows}
use Rattle.calls_buffers.specs.Accesses.{AreWithin}
use Rattle.calls_buffers.proofs.Untaking.{took_item}
use Rattle.calls_buffers.proofs.ByItems.{of_item, find_known, find_none}
use Rattle.calls_buffers.proofs.ByItems.{count_once, put_took, count_items, find_own}
use Rattle.calls_buffers.proofs.ByItems.{count_asked_items}

-- WHOSE ACCESSES THEY ARE

pub record IsAccess (f : Op → Reply → Option ℕ) (i : ℕ) (cs : List Call) (a : Access) : Type 0 where
  pub index : ℕ
  pub call : Call
  pub within : index < length cs
  pub at : (d : Call) → get_or cs index d ≡ call
  pub place : a.place ≡ Completed (i + index)
  pub is : f call.op call.reply ≡ Some a.item
  pub first : call.first ≡ a.first
  pub last : call.last ≡ a.last

only_one : {X : Type 0} (x y : X) → Contains (x ∷ []) y → x ≡ y
only_one x y (zero, lt, e) = e
only_one x y (suc k, lt, e) = absurd (omega arith)

nothing : {X : Type 0} (y : X) → Contains [] y → ⊥
nothing y (k, lt, e) = omega arith

pub access_known : (f : Op → Reply → Option ℕ) (i : ℕ) (cs : List Call) (a : Access)
    → Contains (accesses f i cs) a → IsAccess f i cs a
access_known f i [] a h = absurd (nothing a h)
access_known f i (c ∷ cs) a h =
    elim (Contains-append_cases (access_of i c (f c.op c.reply)) (accesses f (i + 1) cs) a h) [
      | inl here ↦ own (f c.op c.reply) refl here
      | inr there ↦ (let r = access_known f (i + 1) cs a there in record {
        index = suc r.index;
        call = r.call;
        within = (let l : suc r.index < length (c ∷ cs) = omega (arith, r.within) in l);
        at = r.at;
        place = r.place
            ∙ ap Completed (let e : i + 1 + r.index ≡ i + suc r.index = omega arith in e);
        is = r.is;
        first = r.first;
        last = r.last;
      })
    ]
  where
    own : (o : Option ℕ) → f c.op c.reply ≡ o → Contains (access_of i c o) a
        → IsAccess f i (c ∷ cs) a
    own None e here = absurd (nothing a here)
    own (Some v) e here =
        let made : Access =
        record { item = v; place = Completed i; first = c.first; last = c.last } in
        let same : made ≡ a = only_one made a here in
        record {
          index = 0;
          call = c;
          within = omega arith;
          at = λ d. refl;
          place = ap (λ (x : Access). x.place) (sym same)
              ∙ ap Completed (let q : i ≡ i + 0 = omega arith in q);
          is = e ∙ ap (λ (x : Access). Some x.item) same;
          first = ap (λ (x : Access). x.first) same;
          last = ap (λ (x : Access). x.last) same;
        }

pub record HasAccess (list : List Access) (c : Call) (v : ℕ) : Type 0 where
  pub access : Access
  pub known : Contains list access
  pub item : access.item ≡ v
  pub first : access.first ≡ c.first
  pub last : access.last ≡ c.last

pub access_of_call : (f : Op → Reply → Option ℕ) (i : ℕ) (cs : List Call) (c : Call) (v : ℕ)
    → Contains cs c → f c.op c.reply ≡ Some v → HasAccess (accesses f i cs) c v
access_of_call f i [] c v h e = absurd (nothing c h)
access_of_call f i (x ∷ cs) c v (zero, lt, s) e =
    let made : Access = record { item = v; place = Completed i; first = x.first; last = x.last } in
    record {
      access = made;
      known = subst (λ o. Contains (access_of i x o ++ accesses f (i + 1) cs) made)
          (sym (ap (λ (y : Call). f y.op y.reply) s ∙ e)) (zero, omega arith, refl);
      item = refl;
      first = ap (λ (y : Call). y.first) s;
      last = ap (λ (y : Call). y.last) s;
    }
access_of_call f i (x ∷ cs) c v (suc k, lt, s) e =
    let r = access_of_call f (i + 1) cs c v
    (k, (let l : k < length cs = omega arith in l), s) e in
    record {
      access = r.access;
      known = Contains-append_right (access_of i x (f x.op x.reply)) (accesses f (i + 1) cs)
          r.access r.known;
      item = r.item;
      first = r.first;
      last = r.last;
    }

pub record IsAsked (end i : ℕ) (os : List PendingCall) (a : Access) : Type 0 where
  pub call : PendingCall
  pub known : Contains os call
  pub is : produced_item call.op ≡ Some a.item
  pub first : call.first ≡ a.first
  pub last : a.last ≡ end

pub asked_known : (end i : ℕ) (os : List PendingCall) (a : Access) → Contains (asked end i os) a
    → IsAsked end i os a
asked_known end i [] a h = absurd (nothing a h)
asked_known end i (o ∷ os) a h =
    elim (Contains-append_cases (asked_of end i o (produced_item o.op)) (asked end (i + 1) os) a
    h) [
      | inl here ↦ own (produced_item o.op) refl here
      | inr there ↦ (let r = asked_known end (i + 1) os a there in record {
        call = r.call;
        known = Contains-append_right (o ∷ []) os r.call r.known;
        is = r.is;
        first = r.first;
        last = r.last;
      })
    ]
  where
    own : (p : Option ℕ) → produced_item o.op ≡ p → Contains (asked_of end i o p) a
        → IsAsked end i (o ∷ os) a
    own None e here = absurd (nothing a here)
    own (Some v) e here =
        let made : Access = record { item = v; place = Pending i; first = o.first; last = end } in
        let same : made ≡ a = only_one made a here in
        record {
          call = o;
          known = (zero, omega arith, refl);
          is = e ∙ ap (λ (x : Access). Some x.item) same;
          first = ap (λ (x : Access). x.first) same;
          last = ap (λ (x : Access). x.last) (sym same);
        }

record IsPut (v : ℕ) (op : Op) (r : Reply) : Type 0 where
  asks : op ≡ Produce v
  returns : r ≡ Done

value_of : Op → ℕ
value_of (Produce v) = v
value_of op = 0

asked_op : (v : ℕ) (op : Op) → produced_item op ≡ Some v → op ≡ Produce v
asked_op v (Produce w) e = ap (λ o. Produce (unwrap_or o w)) e
asked_op v Consume e = absurd (cc)
asked_op v Advance e = absurd (cc)
asked_op v Read e = absurd (cc)
asked_op v (Await w) e = absurd (cc)
asked_op v Ticket e = absurd (cc)
asked_op v (P i) e = absurd (cc)
asked_op v (V i) e = absurd (cc)
asked_op v (PBoth i j) e = absurd (cc)
asked_op v (Put w) e = absurd (cc)
asked_op v Get e = absurd (cc)

pub put_is : (v : ℕ) (op : Op) (r : Reply) → put_item op r ≡ Some v → (op ≡ Produce v) × (r ≡ Done)
put_is v op Done e = (asked_op v op e, refl)
put_is v op (Number w) e = absurd (cc)
put_is v op Timeout e = absurd (cc)

pub taken_is : (v : ℕ) (op : Op) (r : Reply) → taken_item op r ≡ Some v
    → (op ≡ Consume) × (r ≡ Number v)
taken_is v Consume (Number w) e = (refl, ap (λ o. Number (unwrap_or o w)) e)
taken_is v Consume Done e = absurd (cc)
taken_is v Consume Timeout e = absurd (cc)
taken_is v (Produce w) r e = absurd (cc)
taken_is v Advance r e = absurd (cc)
taken_is v Read r e = absurd (cc)
taken_is v (Await w) r e = absurd (cc)
taken_is v Ticket r e = absurd (cc)
taken_is v (P i) r e = absurd (cc)
taken_is v (V i) r e = absurd (cc)
taken_is v (PBoth i j) r e = absurd (cc)
taken_is v (Put w) r e = absurd (cc)
taken_is v Get r e = absurd (cc)

-- THE LIST OF WINDOWS

pub each_window : (holds : Window → Type 0) (end : ℕ) (takes puts : List Access)
    → Each (λ p. (o : Option Access) → find_access takes p.item ≡ o
    → Each holds (window_of end p o))
    puts → Each holds (window_list end takes puts)
each_window holds end takes [] h = tt
each_window holds end takes (p ∷ puts) h =
    each_append holds (window_of end p (find_access takes p.item)) (window_list end takes puts)
    (h.0 (find_access takes p.item) refl) (each_window holds end takes puts h.1)

pub window_known : (end : ℕ) (takes puts : List Access) (p : Access) (w : Window)
    → Contains puts p → Contains (window_of end p (find_access takes p.item)) w
    → Contains (window_list end takes puts) w
window_known end takes [] p w h k = absurd (nothing p h)
window_known end takes (x ∷ puts) p w (zero, lt, e) k =
    Contains-append_left (window_of end x (find_access takes x.item)) (window_list end takes puts) w
    (subst (λ (y : Access). Contains (window_of end y (find_access takes y.item)) w) (sym e) k)
window_known end takes (x ∷ puts) p w (suc n, lt, e) k =
    Contains-append_right (window_of end x (find_access takes x.item)) (window_list end takes puts)
    w (window_known end takes puts p w (n, (let l : n < length puts = omega arith in l), e) k)

-- the windows of one produce are of its item
own_item : (holds : ℕ → Type 0) (end : ℕ) (p : Access) (o : Option Access) → holds p.item
    → Each (λ (w : Window). holds w.item) (window_of end p o)
own_item holds end p (Some t) h = (h, tt)
own_item holds end p None h =
    elim (nat_lt p.last end) as (λ b. Each (λ (w : Window). holds w.item)
    (cond b (without_take end p ∷ []) [])) [ true ↦ (h, tt) | false ↦ tt ]

later_items : (holds : ℕ → Type 0) (end : ℕ) (takes puts : List Access)
    → Each (λ (a : Access). holds a.item) puts
    → Each (λ (w : Window). holds w.item) (window_list end takes puts)
later_items holds end takes puts h = each_window (λ (w : Window). holds w.item) end takes puts
    (each_weaker (λ (a : Access). holds a.item) _ (λ p k o e. own_item holds end p o k) puts h)

pub windows_ascend : (end : ℕ) (takes puts : List Access) → Ascend puts
    → EachPair (λ (x y : Window). x.item < y.item) (window_list end takes puts)
windows_ascend end takes [] h = tt
windows_ascend end takes (p ∷ puts) h =
    each_pair_append (λ (x y : Window). x.item < y.item)
    (window_of end p (find_access takes p.item)) (window_list end takes puts)
    (alone (find_access takes p.item)) (windows_ascend end takes puts h.1)
    (own_item (λ n. Each (λ (y : Window). n < y.item) (window_list end takes puts)) end p
    (find_access takes p.item) (later_items (λ n. p.item < n) end takes puts h.0))
  where
    alone : (o : Option Access) → EachPair (λ (x y : Window). x.item < y.item) (window_of end p o)
    alone (Some t) = (tt, tt)
    alone None =
        elim (nat_lt p.last end) as (λ b. EachPair (λ (x y : Window). x.item < y.item)
        (cond b (without_take end p ∷ []) [])) [ true ↦ (tt, tt) | false ↦ tt ]

-- THE WINDOWS

pub each_contains : {X : Type 0} (holds : X → Type 0) (xs : List X)
    → ((x : X) → Contains xs x → holds x) → Each holds xs
each_contains holds [] h = tt
each_contains holds (x ∷ xs) h = (
  h x (zero, omega arith, refl),
  each_contains holds xs (λ y k. h y (Contains-append_right (x ∷ []) xs y k)),
)

pub one_of : {X : Type 0} (holds : X → Type 0) (xs : List X) (x : X) → Each holds xs → Contains xs x
    → holds x
one_of holds xs x h k = All-contains holds xs x (all_from_each holds xs h) k

module _ (end : ℕ) (done : List Call) (pending : List PendingCall) (puts takes : List Access)
    (puts_moved : IsPermutation (accesses put_item 0 done ++ asked end 0 pending) puts)
    (takes_moved : IsPermutation (accesses taken_item 0 done) takes) where
  pub puts_counted : (v : ℕ) → count_by (of_item v) puts ≡ all_puts (item v) done pending
  puts_counted v =
      let made = accesses put_item 0 done in
      let waiting = asked end 0 pending in
      let one : count_by (of_item v) made ≡ count_by (is_put (item v)) done =
      count_items put_item put_one put_took v 0 done in
      let two : count_by (of_item v) waiting
      ≡ count_by (λ (o : PendingCall). produces (item v) o.op) pending =
      count_asked_items end v 0 pending in
      omega (
        arith,
        count_moved (of_item v) (made ++ waiting) puts puts_moved,
        count_append (of_item v) made waiting,
        one,
        two,
      )

  pub takes_counted : (v : ℕ) → count_by (of_item v) takes ≡ count_by (is_take (item v)) done
  takes_counted v =
      let one : count_by (of_item v) (accesses taken_item 0 done)
      ≡ count_by (is_take (item v)) done = count_items taken_item took_one took_item v 0 done in
      count_moved (of_item v) (accesses taken_item 0 done) takes takes_moved ∙ one

  -- a consume that is listed
  pub record Take (t : Access) : Type 0 where
    pub call : Call
    pub consume : IsConsumeOf done t.item call
    pub first : call.first ≡ t.first
    pub last : call.last ≡ t.last
    pub index : ℕ
    pub at : t.place ≡ Completed index
    pub is : (d : Call) → get_or done index d ≡ call
    pub within : index < length done

  pub take_of : (t : Access) → Contains takes t → Take t
  take_of t h =
      let r = access_known taken_item 0 done t (Contains-permutation takes
      (accesses taken_item 0 done) t (IsPermutation-sym (accesses taken_item 0 done) takes
      takes_moved) h) in
      let is = taken_is t.item r.call.op r.call.reply r.is in
      record {
        call = r.call;
        consume = record {
          known = (r.index, r.within, r.at r.call);
          asks = is.0;
          returns = is.1;
        };
        first = r.first;
        last = r.last;
        index = r.index;
        at = r.place ∙ ap Completed (let e : 0 + r.index ≡ r.index = omega arith in e);
        is = r.at;
        within = r.within;
      }

  module _ (within : AreWithin end done pending) where
    -- a produce that is listed
    pub record IsListed (w : Window) (p : Access) : Type 0 where
      pub put : IsCompletedPut done w ⊎ IsPendingPut pending end w
      pub lasts : p.first ≤ p.last
      pub begun : p.first < end
      pub ends : p.last ≤ end

    pub put_of : (w : Window) (p : Access) → w.item ≡ p.item → p.first ≡ w.put_first
        → p.last ≡ w.put_last → Contains puts p → IsListed w p
    put_of w p item first last h =
        elim (Contains-append_cases (accesses put_item 0 done) (asked end 0 pending) p
        (Contains-permutation puts (accesses put_item 0 done ++ asked end 0 pending) p
        (IsPermutation-sym (accesses put_item 0 done ++ asked end 0 pending) puts puts_moved) h)) [
          | inl here ↦ completed (access_known put_item 0 done p here)
          | inr there ↦ waiting (asked_known end 0 pending p there)
        ]
      where
        completed : IsAccess put_item 0 done p → IsListed w p
        completed r =
            let known : Contains done r.call = (r.index, r.within, r.at r.call) in
            let is = put_is p.item r.call.op r.call.reply r.is in
            let times = one_of (λ (c : Call). (c.first < c.last) × (c.last < end)) done r.call
            within.completed known in
            record {
              put = inl (record {
                call = r.call;
                produce = record {
                  known = known;
                  asks = is.0 ∙ ap Produce (sym item);
                  returns = is.1;
                };
                first = r.first ∙ first;
                last = r.last ∙ last;
              });
              lasts = omega (arith, times.0, r.first, r.last);
              begun = omega (arith, times.0, times.1, r.first, r.last);
              ends = omega (arith, times.1, r.last);
            }

        waiting : IsAsked end 0 pending p → IsListed w p
        waiting r =
            let early = one_of (λ (o : PendingCall). o.first < end) pending r.call within.invoked
            r.known in
            record {
              put = inr (record {
                call = r.call;
                known = r.known;
                asks = asked_op p.item r.call.op r.is ∙ ap Produce (sym item);
                first = r.first ∙ first;
                last = sym last ∙ r.last;
              });
              lasts = omega (arith, early, r.first, r.last);
              begun = omega (arith, early, r.first);
              ends = omega (arith, r.last);
            }

    module _ (puts_ascend : Ascend puts) (takes_ascend : Ascend takes)
        (fit : Each (λ (t : Access). fits puts t ≡ true) takes) where
      follows : (p t : Access) → Contains puts p → Contains takes t → t.item ≡ p.item
          → p.first ≤ t.last
      follows p t h k e =
          let found : find_access puts t.item ≡ Some p =
          ap (find_access puts) e ∙ find_own puts p puts_ascend h in
          leb-true p.first t.last (sym (ap (fits_put t) found)
          ∙ one_of (λ (x : Access). fits puts x ≡ true) takes t fit k)

      window_with_take : (p t : Access) → Contains puts p → find_access takes p.item ≡ Some t
          → IsWindow done pending end (with_take p t)
      window_with_take p t h e =
          let known = find_known takes p.item t e in
          let put = put_of (with_take p t) p refl refl refl h in
          let take = take_of t known.0 in
          let times = one_of (λ (c : Call). (c.first < c.last) × (c.last < end)) done take.call
          within.completed take.consume.known in
          let after = follows p t h known.0 known.1 in
          record {
            put = put.put;
            take = inl (record {
              call = take.call;
              consume = record {
                known = take.consume.known;
                asks = take.consume.asks;
                returns = take.consume.returns ∙ ap Number known.1;
              };
              first = take.first;
              last = take.last;
            });
            some = omega (arith, times.1, take.last);
            first = put.begun;
            follows = after;
            within = record {
              put = put.lasts;
              take = omega (arith, times.0, take.first, take.last);
              put_last = put.ends;
              take_last = omega (arith, times.1, take.last);
            };
          }

      window_without_take : (p : Access) → Contains puts p → find_access takes p.item ≡ None
          → p.last < end → IsWindow done pending end (without_take end p)
      window_without_take p h e lt =
          let put = put_of (without_take end p) p refl refl refl h in
          record {
            put = put.put;
            take = inr (record {
              none = sym (takes_counted p.item) ∙ find_none takes p.item e;
              first = refl;
              last = refl;
            });
            some = omega (arith, lt);
            first = put.begun;
            follows = omega (arith, put.begun);
            within = record {
              put = put.lasts;
              take = omega arith;
              put_last = put.ends;
              take_last = omega arith;
            };
          }

      own_window : (p : Access) → Contains puts p → (o : Option Access)
          → find_access takes p.item ≡ o → Each (IsWindow done pending end) (window_of end p o)
      own_window p h (Some t) e = (window_with_take p t h e, tt)
      own_window p h None e =
          elim (nat_lt p.last end) as (λ b. nat_lt p.last end ≡ b
          → Each (IsWindow done pending end) (cond b (without_take end p ∷ []) [])) [
            | true ↦ λ q. (window_without_take p h e (ltb-true p.last end q), tt)
            | false ↦ λ q. tt
          ] refl

      has_with_take : (p t : Access) → Contains puts p → find_access takes p.item ≡ Some t
          → Contains (window_list end takes puts) (with_take p t)
      has_with_take p t h e = window_known end takes puts p (with_take p t) h
          (subst (λ o. Contains (window_of end p o) (with_take p t)) (sym e) (zero, omega arith, refl))

      has_without_take : (p : Access) → Contains puts p → find_access takes p.item ≡ None → p.last < end
          → Contains (window_list end takes puts) (without_take end p)
      has_without_take p h e lt = window_known end takes puts p (without_take end p) h
          (subst (λ o. Contains (window_of end p o) (without_take end p)) (sym e)
          (subst (λ b. Contains (cond b (without_take end p ∷ []) []) (without_take end p))
          (sym (lt-ltb p.last end lt)) (zero, omega arith, refl)))

      put_has : (v : ℕ) (c : Call) → IsProduceOf done v c → HasWindow (window_list end takes puts) v
      put_has v c h =
          let e : put_item c.op c.reply ≡ Some v =
          ap (λ op. put_item op c.reply) h.asks ∙ ap (put_item (Produce v)) h.returns in
          let r = access_of_call put_item 0 done c v h.known e in
          let there = Contains-permutation (accesses put_item 0 done ++ asked end 0 pending) puts
          r.access puts_moved (Contains-append_left (accesses put_item 0 done)
          (asked end 0 pending) r.access r.known) in
          let times = one_of (λ (x : Call). (x.first < x.last) × (x.last < end)) done c
          within.completed h.known in
          own r.access there r.item (omega (arith, r.last, times.1))
          (find_access takes r.access.item) refl
        where
          own : (p : Access) → Contains puts p → p.item ≡ v → p.last < end → (o : Option Access)
              → find_access takes p.item ≡ o → HasWindow (window_list end takes puts) v
          own p there item lt (Some t) q =
              record { window = with_take p t; known = has_with_take p t there q; is = item }
          own p there item lt None q =
              record { window = without_take end p; known = has_without_take p there q lt; is = item }

      take_has : (v : ℕ) (c : Call) → IsConsumeOf done v c
          → HasWindow (window_list end takes puts) v
      take_has v c h =
          let e : taken_item c.op c.reply ≡ Some v =
          ap (λ op. taken_item op c.reply) h.asks ∙ ap (taken_item Consume) h.returns in
          let r = access_of_call taken_item 0 done c v h.known e in
          let there = Contains-permutation (accesses taken_item 0 done) takes r.access takes_moved
          r.known in
          own r.access there r.item (one_of (λ (x : Access). fits puts x ≡ true) takes r.access fit
          there) (find_access puts r.access.item) refl
        where
          own : (t : Access) → Contains takes t → t.item ≡ v → fits puts t ≡ true
              → (o : Option Access) → find_access puts t.item ≡ o
              → HasWindow (window_list end takes puts) v
          own t there same good None q = absurd (let bad = sym good ∙ ap (fits_put t) q in cc)
          own t there same good (Some p) q =
              let known = find_known puts t.item p q in
              let found : find_access takes p.item ≡ Some t =
              ap (find_access takes) known.1 ∙ find_own takes t takes_ascend there in
              record {
                window = with_take p t;
                known = has_with_take p t known.0 found;
                is = known.1 ∙ same;
              }

      pub are_windows : AreWindows done pending end (window_list end takes puts)
      are_windows = record {
        each = each_window (IsWindow done pending end) end takes puts (each_contains
            (λ p. (o : Option Access) → find_access takes p.item ≡ o
            → Each (IsWindow done pending end) (window_of end p o)) puts own_window);
        ascend = windows_ascend end takes puts puts_ascend;
        puts = put_has;
        takes = take_has;
        put_once = λ v. omega (arith, puts_counted v, count_once v puts puts_ascend);
        taken_once = λ v. omega (arith, takes_counted v, count_once v takes takes_ascend);
      }
