-- The accesses of the calls of a linearization, in its order.
use Rattle.std.proofs.Common.{◌≡◌, ℕ, ◌+◌, ◌<◌, ◌≤◌, ◌⊎◌, inl, inr, Bool, true, false, List}
use Rattle.std.proofs.Common.{[], ◌∷◌, ◌++◌, map, Option, Some, None, refl, ap, sym, ◌∙◌}
use Rattle.std.proofs.Common.{subst, arith, append_assoc}
use Rattle.std.specs.List.Sorted.{IsPermutation}
use Rattle.std.proofs.lemmas.Option.{same_Some, none-some}
use Rattle.std.proofs.lemmas.List.{map-append}
use Rattle.std.proofs.lemmas.List.Sorted.{IsPermutation-refl, IsPermutation-trans}
use Rattle.std.proofs.lemmas.List.Sorted.{IsPermutation-append_left, IsPermutation-append_right}
use Rattle.std.proofs.lemmas.List.Sorted.{IsPermutation-append_comm}
use Rattle.calls_core.specs.declared.history.Kind.TheVariants.{Buffer}
use Rattle.calls_core.specs.declared.history.Op.{Op}
use Rattle.calls_core.specs.declared.history.Op.TheVariants.{Advance, Read, Await, Ticket, P, V}
use Rattle.calls_core.specs.declared.history.Op.TheVariants.{PBoth, Put, Get, Produce, Consume}
use Rattle.calls_core.specs.declared.history.Reply.{Reply}
use Rattle.calls_core.specs.declared.history.Reply.TheVariants.{Done, Number, Timeout}
use Rattle.calls_core.specs.declared.history.PendingCall.{PendingCall}
use Rattle.calls_core.specs.declared.history.Call.{Call}
use Rattle.calls_core.specs.Lists.{Each, EachPair}
use Rattle.calls_core.specs.Histories.{completion}
use Rattle.calls_core.specs.Linearizations.{IsLegalHistory, KeepsOrder, initial, IsLinearOrder}
use Rattle.calls_core.specs.Linearizations.{answered_one, answered_calls}
use Rattle.calls_core.specs.Calls.{AreCallsOf}
use Rattle.calls_core.proofs.Lists.{each_weaker, each_append}
use Rattle.calls_core.proofs.Filters.{permutation_same}
use Rattle.calls_turns.specs.declared.turn.Taker.{Taker}
use Rattle.calls_buffers.specs.declared.accesses.Place.TheVariants.{Pending}
use Rattle.calls_buffers.specs.declared.accesses.Access.{Access}
use Rattle.calls_buffers.specs.Counts.{is_consume}
use Rattle.calls_buffers.specs.Turns.{puts_of, takes_of, takers_of, asker_of, askers_of}
use Rattle.calls_buffers.specs.Accesses.{AreWithin}
use Rattle.calls_buffers.specs.Accesses.{produced_item, put_item, taken_item}
use Rattle.calls_buffers.specs.Accesses.{access_of, accesses, asked_of, asked}
use Rattle.calls_buffers.proofs.Alongside.{Both, both_append, both_moved, joined}
use Rattle.calls_buffers.proofs.Alongside.{joined_append, to_second, joined_moved, each_moved}
use Rattle.calls_buffers.proofs.AreWindows.{taken_is}
use Rattle.calls_buffers.proofs.Cuts.{Lasts, not_before}
use Rattle.calls_buffers.proofs.Flows.{put_by, taken_by, put_items, taken_items}
use Rattle.calls_buffers.proofs.Steps.{Times}
use Rattle.calls_buffers.proofs.Tallies.{all_last, all_keep, answered_each}

-- THE ACCESS OF A CALL

-- a pending call returns at `end`
pub record IsAccessOf (end v : ℕ) (c : Call) (a : Access) : Type 0 where
  pub item : a.item ≡ v
  pub first : a.first ≡ c.first
  pub last : (a.last ≡ c.last) ⊎ (a.last ≡ end)

-- these are the accesses of a call with this item
abbrev pub Match : ℕ → Call → Option ℕ → List Access → Type 0
Match end c None [] = Unit {0}
Match end c None (a ∷ xs) = ⊥
Match end c (Some v) [] = ⊥
Match end c (Some v) (a ∷ []) = IsAccessOf end v c a
Match end c (Some v) (a ∷ b ∷ xs) = ⊥

abbrev pub Matches : (Op → Reply → Option ℕ) → ℕ → List Access → Call → Type 0
Matches f end xs c = Match end c (f c.op c.reply) xs

-- what holds of the calls holds of their accesses
module _ (f : Op → Reply → Option ℕ) (end : ℕ) (A : Call → Type 0) (B : Access → Type 0)
    (over : (v : ℕ) (c : Call) (a : Access) → IsAccessOf end v c a → A c → B a) where
  own_accesses : (c : Call) (o : Option ℕ) (xs : List Access) → Match end c o xs → A c → Each B xs
  own_accesses c None [] h k = tt
  own_accesses c None (a ∷ xs) h k = absurd h
  own_accesses c (Some v) [] h k = absurd h
  own_accesses c (Some v) (a ∷ []) h k = (over v c a h k, tt)
  own_accesses c (Some v) (a ∷ b ∷ xs) h k = absurd h

  pub each_access : (cs : List Call) (ps : List (List Access)) → Both (Matches f end) ps cs
      → Each A cs → Each B (joined ps)
  each_access [] [] h k = tt
  each_access [] (xs ∷ ps) h k = absurd h
  each_access (c ∷ cs) [] h k = absurd h
  each_access (c ∷ cs) (xs ∷ ps) h k =
      each_append B xs (joined ps) (own_accesses c (f c.op c.reply) xs h.0 k.0)
      (each_access cs ps h.1 k.1)

-- they return at m or later
pub accesses_later : (f : Op → Reply → Option ℕ) (end m : ℕ) (cs : List Call)
    (ps : List (List Access)) → Both (Matches f end) ps cs → Times end m cs
    → Each (λ (a : Access). m ≤ a.last) (joined ps)
accesses_later f end m cs ps h k =
    each_access f end (λ (c : Call). m ≤ c.last) (λ (a : Access). m ≤ a.last)
    (λ v c a is le. last a c.last le is.last) cs ps h k.later
  where
    last : (a : Access) (n : ℕ) → m ≤ n → (a.last ≡ n) ⊎ (a.last ≡ end) → m ≤ a.last
    last a n le (inl e) = omega (arith, le, e)
    last a n le (inr e) = omega (arith, k.early, e)

-- one that did not take effect, or not yet
pub record IsOpen (end : ℕ) (a : Access) : Type 0 where
  pub first : a.first < end
  pub last : a.last ≡ end

-- the order of calls is one of their accesses
abbrev pub Behind : Access → Access → Type 0
Behind a b = b.last < a.first → ⊥

pub accesses_keep : (f : Op → Reply → Option ℕ) (end : ℕ) (rest : List Access) (cs : List Call)
    (ps : List (List Access)) → Both (Matches f end) ps cs → EachPair KeepsOrder cs
    → Each (λ (c : Call). c.first < end) cs → Each (IsOpen end) rest → EachPair Behind rest
    → EachPair Behind (joined ps ++ rest)
accesses_keep f end rest [] [] h k w o r = r
accesses_keep f end rest [] (xs ∷ ps) h k w o r = absurd h
accesses_keep f end rest (c ∷ cs) [] h k w o r = absurd h
accesses_keep f end rest (c ∷ cs) (xs ∷ ps) h k w o r =
    own (f c.op c.reply) xs h.0 (accesses_keep f end rest cs ps h.1 k.1 w.1 o r)
  where
    late : (a b : Access) (d : Call) → a.first ≡ c.first → KeepsOrder c d
        → (b.last ≡ d.last) ⊎ (b.last ≡ end) → Behind a b
    late a b d e keeps (inl l) lt = omega (arith, lt, e, l, not_before c d keeps)
    late a b d e keeps (inr l) lt = (let before : c.first < end = w.0 in
        omega (arith, lt, e, l, before))

    own : (p : Option ℕ) (bs : List Access) → Match end c p bs
        → EachPair Behind (joined ps ++ rest) → EachPair Behind ((bs ++ joined ps) ++ rest)
    own None [] m q = q
    own None (a ∷ bs) m q = absurd m
    own (Some v) [] m q = absurd m
    own (Some v) (a ∷ []) m q = (
      each_append (Behind a) (joined ps) rest
          (each_access f end (KeepsOrder c) (Behind a)
          (λ u d b is keeps. late a b d m.first keeps is.last) cs ps h.1 k.0)
          (each_weaker (IsOpen end) (Behind a) (λ b k lt. (let before : c.first < end = w.0 in
          omega (arith, lt, m.first, k.last, before))) rest o),
      q,
    )
    own (Some v) (a ∷ b ∷ bs) m q = absurd m

pub open_keep : (end : ℕ) (rest : List Access) → Each (IsOpen end) rest → EachPair Behind rest
open_keep end [] h = tt
open_keep end (a ∷ rest) h = (
  each_weaker (IsOpen end) (Behind a)
      (λ b k lt. omega (arith, lt, k.last, h.0.first)) rest h.1,
  open_keep end rest h.1,
)

-- THE ITEMS

abbrev listed : Option ℕ → List ℕ
listed None = []
listed (Some v) = v ∷ []

abbrev pub item_of : Access → ℕ
item_of a = a.item

module _ (f : Op → Reply → Option ℕ) (end : ℕ) (g : Op → Reply → List ℕ)
    (items : List Call → List ℕ) (none : items [] ≡ [])
    (more : (c : Call) (cs : List Call) → items (c ∷ cs) ≡ g c.op c.reply ++ items cs)
    (same : (op : Op) (r : Reply) → g op r ≡ listed (f op r)) where
  own_items : (c : Call) (o : Option ℕ) (xs : List Access) → Match end c o xs
      → map item_of xs ≡ listed o
  own_items c None [] h = refl
  own_items c None (a ∷ xs) h = absurd h
  own_items c (Some v) [] h = absurd h
  own_items c (Some v) (a ∷ []) h = ap (λ w. w ∷ []) h.item
  own_items c (Some v) (a ∷ b ∷ xs) h = absurd h

  items_of : (cs : List Call) (ps : List (List Access)) → Both (Matches f end) ps cs
      → map item_of (joined ps) ≡ items cs
  items_of [] [] h = sym none
  items_of [] (xs ∷ ps) h = absurd h
  items_of (c ∷ cs) [] h = absurd h
  items_of (c ∷ cs) (xs ∷ ps) h =
      map-append item_of xs (joined ps)
      ∙ ap (λ zs. zs ++ map item_of (joined ps)) (own_items c (f c.op c.reply) xs h.0)
      ∙ ap (λ zs. listed (f c.op c.reply) ++ zs) (items_of cs ps h.1)
      ∙ ap (λ zs. zs ++ items cs) (sym (same c.op c.reply)) ∙ sym (more c cs)

put_listed : (op : Op) (r : Reply) → put_by op r ≡ listed (put_item op r)
put_listed (Produce v) Done = refl
put_listed (Produce v) (Number w) = refl
put_listed (Produce v) Timeout = refl
put_listed Consume Done = refl
put_listed Consume (Number v) = refl
put_listed Consume Timeout = refl
put_listed Advance Done = refl
put_listed Advance (Number w) = refl
put_listed Advance Timeout = refl
put_listed Read Done = refl
put_listed Read (Number w) = refl
put_listed Read Timeout = refl
put_listed (Await v) Done = refl
put_listed (Await v) (Number w) = refl
put_listed (Await v) Timeout = refl
put_listed Ticket Done = refl
put_listed Ticket (Number w) = refl
put_listed Ticket Timeout = refl
put_listed (P i) Done = refl
put_listed (P i) (Number w) = refl
put_listed (P i) Timeout = refl
put_listed (V i) Done = refl
put_listed (V i) (Number w) = refl
put_listed (V i) Timeout = refl
put_listed (PBoth i j) Done = refl
put_listed (PBoth i j) (Number w) = refl
put_listed (PBoth i j) Timeout = refl
put_listed (Put v) Done = refl
put_listed (Put v) (Number w) = refl
put_listed (Put v) Timeout = refl
put_listed Get Done = refl
put_listed Get (Number w) = refl
put_listed Get Timeout = refl

taken_listed : (op : Op) (r : Reply) → taken_by op r ≡ listed (taken_item op r)
taken_listed Consume Done = refl
taken_listed Consume (Number v) = refl
taken_listed Consume Timeout = refl
taken_listed (Produce v) r = refl
taken_listed Advance r = refl
taken_listed Read r = refl
taken_listed (Await v) r = refl
taken_listed Ticket r = refl
taken_listed (P i) r = refl
taken_listed (V i) r = refl
taken_listed (PBoth i j) r = refl
taken_listed (Put v) r = refl
taken_listed Get r = refl

pub items_put : (end : ℕ) (cs : List Call) (ps : List (List Access))
    → Both (Matches put_item end) ps cs → map item_of (joined ps) ≡ put_items cs
items_put end cs ps h =
    items_of put_item end put_by put_items refl (λ c ds. refl) put_listed cs ps h

pub items_taken : (end : ℕ) (cs : List Call) (ps : List (List Access))
    → Both (Matches taken_item end) ps cs → map item_of (joined ps) ≡ taken_items cs
items_taken end cs ps h =
    items_of taken_item end taken_by taken_items refl (λ c ds. refl) taken_listed cs ps h

-- COMPLETED CALLS

lists : (Op → Reply → Option ℕ) → ℕ → List Call → List (List Access)
lists f i [] = []
lists f i (c ∷ cs) = access_of i c (f c.op c.reply) ∷ lists f (i + 1) cs

lists_joined : (f : Op → Reply → Option ℕ) (i : ℕ) (cs : List Call)
    → joined (lists f i cs) ≡ accesses f i cs
unfolding lists
lists_joined f i [] = refl
lists_joined f i (c ∷ cs) =
    ap (λ zs. access_of i c (f c.op c.reply) ++ zs) (lists_joined f (i + 1) cs)

list_match : (end i : ℕ) (c : Call) (o : Option ℕ) → Match end c o (access_of i c o)
list_match end i c None = tt
list_match end i c (Some v) = record { item = refl; first = refl; last = inl refl }

lists_match : (f : Op → Reply → Option ℕ) (end i : ℕ) (cs : List Call)
    → Both (Matches f end) (lists f i cs) cs
unfolding lists
lists_match f end i [] = tt
lists_match f end i (c ∷ cs) =
    (list_match end i c (f c.op c.reply), lists_match f end (i + 1) cs)

-- PENDING CALLS

-- the accesses of those that put an item in, and the others
record Asked (t end : ℕ) (i : ℕ) (os : List PendingCall) (cs : List Call) : Type 0 where
  lists : List (List Access)
  rest : List Access
  are : Both (Matches put_item end) lists cs
  left : Each (IsOpen end) rest
  all : IsPermutation (asked end i os) (joined lists ++ rest)

module _ (t end : ℕ) (answer : PendingCall → Option Reply) where
  opened : (i : ℕ) (o : PendingCall) (v : Option ℕ) → o.first < end
      → Each (IsOpen end) (asked_of end i o v)
  opened i o None lt = tt
  opened i o (Some v) lt = (record { first = lt; last = refl }, tt)

  asked_match : (i : ℕ) (o : PendingCall) (v : Option ℕ) → Match end (completion t Done o) v
      (asked_of end i o v)
  asked_match i o None = tt
  asked_match i o (Some v) = record { item = refl; first = refl; last = inr refl }

  -- one that puts nothing in
  left_out : (i : ℕ) (o : PendingCall) (os : List PendingCall) (cs : List Call) → o.first < end
      → Asked t end (i + 1) os cs → Asked t end i (o ∷ os) cs
  left_out i o os cs lt r =
      let own : List Access = asked_of end i o (produced_item o.op) in
      record {
        lists = r.lists;
        rest = own ++ r.rest;
        are = r.are;
        left = each_append (IsOpen end) own r.rest (opened i o (produced_item o.op) lt) r.left;
        all = IsPermutation-trans _ _ _
            (IsPermutation-append_right own (asked end (i + 1) os) (joined r.lists ++ r.rest) r.all)
            (to_second own (joined r.lists) r.rest);
      }

  nothing_more : (i : ℕ) (o : PendingCall) (os : List PendingCall) (c : Call) (cs : List Call)
      → put_item c.op c.reply ≡ None → Asked t end i os cs → Asked t end i os (c ∷ cs)
  nothing_more i o os c cs e r = record {
    lists = [] ∷ r.lists;
    rest = r.rest;
    are = (subst (λ p. Match end c p []) (sym e) tt, r.are);
    left = r.left;
    all = r.all;
  }

  own_asked : (i : ℕ) (o : PendingCall) (os : List PendingCall) (cs : List Call) → o.first < end
      → (r : Option Reply) → Asked t end (i + 1) os cs
      → Asked t end i (o ∷ os) (answered_one t o r ++ cs)
  own_asked i o os cs lt None r = left_out i o os cs lt r
  own_asked i o os cs lt (Some Done) r =
      let own : List Access = asked_of end i o (produced_item o.op) in
      record {
        lists = own ∷ r.lists;
        rest = r.rest;
        are = (asked_match i o (produced_item o.op), r.are);
        left = r.left;
        all = IsPermutation-trans _ _ _
            (IsPermutation-append_right own (asked end (i + 1) os) (joined r.lists ++ r.rest) r.all)
            (permutation_same (own ++ (joined r.lists ++ r.rest))
            ((own ++ joined r.lists) ++ r.rest) (sym (append_assoc own (joined r.lists) r.rest)));
      }
  own_asked i o os cs lt (Some (Number w)) r =
      nothing_more i o (o ∷ os) (completion t (Number w) o) cs refl (left_out i o os cs lt r)
  own_asked i o os cs lt (Some Timeout) r =
      nothing_more i o (o ∷ os) (completion t Timeout o) cs refl (left_out i o os cs lt r)

  asked_of_all : (i : ℕ) (os : List PendingCall) → Each (λ (o : PendingCall). o.first < end) os
      → Asked t end i os (answered_calls t answer os)
  asked_of_all i [] h = record {
    lists = [];
    rest = [];
    are = tt;
    left = tt;
    all = IsPermutation-refl [];
  }
  asked_of_all i (o ∷ os) h =
      own_asked i o os (answered_calls t answer os) h.0 (answer o) (asked_of_all (i + 1) os h.1)

-- TAKERS

pub record IsTakerOf (x : Taker) (a : Access) : Type 0 where
  pub item : (v : ℕ) → x.item ≡ Some v → v ≡ a.item
  pub from : x.from ≡ a.first
  pub by : x.by ≡ a.last

pub are_takers : (i : ℕ) (list : List Access) → Both IsTakerOf (takers_of i list) list
are_takers i [] = tt
are_takers i (a ∷ list) = (
  record { item = λ v e. sym (same_Some a.item v e); from = refl; by = refl },
  are_takers (i + 1) list,
)

-- the pending consumes that take an item out, and the others
record Askers (t end : ℕ) (i : ℕ) (os : List PendingCall) (cs : List Call) : Type 0 where
  lists : List (List Access)
  takers : List Taker
  rest : List Taker
  are : Both (Matches taken_item end) lists cs
  both : Both IsTakerOf takers (joined lists)
  left : Each (λ (x : Taker). end ≤ x.by) rest
  all : IsPermutation (askers_of end i os) (takers ++ rest)

module _ (t end : ℕ) (answer : PendingCall → Option Reply) where
  asker_left : (i : ℕ) (o : PendingCall) (b : Bool)
      → Each (λ (x : Taker). end ≤ x.by) (asker_of end i o b)
  asker_left i o false = tt
  asker_left i o true = (omega arith, tt)

  -- one that takes nothing
  without_one : (i : ℕ) (o : PendingCall) (os : List PendingCall) (cs : List Call)
      → Askers t end (i + 1) os cs → Askers t end i (o ∷ os) cs
  without_one i o os cs r =
      let own : List Taker = asker_of end i o (is_consume o.op) in
      record {
        lists = r.lists;
        takers = r.takers;
        rest = own ++ r.rest;
        are = r.are;
        both = r.both;
        left = each_append (λ (x : Taker). end ≤ x.by) own r.rest (asker_left i o (is_consume o.op))
            r.left;
        all = IsPermutation-trans _ _ _
            (IsPermutation-append_right own (askers_of end (i + 1) os) (r.takers ++ r.rest) r.all)
            (to_second own r.takers r.rest);
      }

  with_one : (i : ℕ) (o : PendingCall) (os : List PendingCall) (cs : List Call) (x : Reply)
      → Askers t end (i + 1) os cs → (v : Option ℕ) → taken_item o.op x ≡ v
      → Askers t end i (o ∷ os) (completion t x o ∷ cs)
  with_one i o os cs x r None e =
      let left = without_one i o os cs r in record {
        lists = [] ∷ left.lists;
        takers = left.takers;
        rest = left.rest;
        are = (subst (λ p. Match end (completion t x o) p []) (sym e) tt, left.are);
        both = left.both;
        left = left.left;
        all = left.all;
      }
  with_one i o os cs x r (Some v) e =
      let asks : is_consume o.op ≡ true = ap is_consume (taken_is v o.op x e).0 in
      let own : Taker = record { call = i; item = None; from = o.first; by = end } in
      let access : Access = record { item = v; place = Pending i; first = o.first; last = end } in
      record {
        lists = (access ∷ []) ∷ r.lists;
        takers = own ∷ r.takers;
        rest = r.rest;
        are = (
          subst (λ p. Match end (completion t x o) p (access ∷ [])) (sym e)
              (record { item = refl; first = refl; last = inr refl }),
          r.are,
        );
        both = (
          record { item = λ w q. absurd (none-some w q); from = refl; by = refl },
          r.both,
        );
        left = r.left;
        all = subst (λ b. IsPermutation (asker_of end i o b ++ askers_of end (i + 1) os)
            (own ∷ (r.takers ++ r.rest))) (sym asks)
            (IsPermutation-append_right (own ∷ []) (askers_of end (i + 1) os) (r.takers ++ r.rest)
            r.all);
      }

  one_asker : (i : ℕ) (o : PendingCall) (os : List PendingCall) (cs : List Call)
      → (r : Option Reply) → Askers t end (i + 1) os cs
      → Askers t end i (o ∷ os) (answered_one t o r ++ cs)
  one_asker i o os cs None r = without_one i o os cs r
  one_asker i o os cs (Some x) r = with_one i o os cs x r (taken_item o.op x) refl

  askers_of_all : (i : ℕ) (os : List PendingCall) → Askers t end i os (answered_calls t answer os)
  askers_of_all i [] = record {
    lists = [];
    takers = [];
    rest = [];
    are = tt;
    both = tt;
    left = tt;
    all = IsPermutation-refl [];
  }
  askers_of_all i (o ∷ os) =
      one_asker i o os (answered_calls t answer os) (answer o) (askers_of_all (i + 1) os)

-- ONE LINEARIZATION

-- the produces in its order, and those that put nothing in
pub record ArePutsOf (end : ℕ) (done : List Call) (pending : List PendingCall) (cs : List Call)
    : Type 0 where
  pub lists : List (List Access)
  pub rest : List Access
  pub are : Both (Matches put_item end) lists cs
  pub left : Each (IsOpen end) rest
  pub all : IsPermutation (puts_of end done pending) (joined lists ++ rest)

-- the consumes in its order: completed ones, and some that are pending
pub record AreTakesIn (end : ℕ) (done : List Call) (pending : List PendingCall) (cs : List Call)
    : Type 0 where
  pub lists : List (List Access)
  pub extra : List Access
  pub takers : List Taker
  pub rest : List Taker
  pub are : Both (Matches taken_item end) lists cs
  pub both : Both IsTakerOf takers extra
  pub left : Each (λ (x : Taker). end ≤ x.by) rest
  pub all : IsPermutation (takes_of done ++ extra) (joined lists)
  pub asks : IsPermutation (askers_of end 0 pending) (takers ++ rest)

-- those who take items out, in its order, and those who don't
pub record AreTakersIn (end : ℕ) (done : List Call) (pending : List PendingCall) (cs : List Call)
    : Type 0 where
  pub lists : List (List Access)
  pub order : List Taker
  pub rest : List Taker
  pub are : Both (Matches taken_item end) lists cs
  pub both : Both IsTakerOf order (joined lists)
  pub left : Each (λ (x : Taker). end ≤ x.by) rest
  pub all : IsPermutation (takers_of 0 (takes_of done) ++ askers_of end 0 pending) (order ++ rest)

module _ (n t : ℕ) (done : List Call) (pending : List PendingCall) (cs : List Call)
    (l : IsLinearOrder (IsLegalHistory (initial (Some (Buffer n)))) done pending t cs)
    (h : AreCallsOf (Buffer n) done pending t) (end : ℕ) (within : AreWithin end done pending) where
  abbrev answered : List Call
  answered = answered_calls t l.answer pending

  pub times : Times end 0 cs
  times = record {
    order = all_keep n t done pending cs l h;
    lasting = all_last n t done pending cs l h;
    within = each_moved (λ (c : Call). c.first < end) (answered ++ done) cs l.each_once
        (each_append (λ (c : Call). c.first < end) answered done
        (answered_each t l.answer (λ (o : PendingCall). o.first < end)
        (λ (c : Call). c.first < end) (λ o x lt. lt) pending within.invoked)
        (each_weaker (λ (c : Call). (c.first < c.last) × (c.last < end))
        (λ (c : Call). c.first < end) (λ c k. omega (arith, k.0, k.1)) done within.completed));
    later = each_weaker Lasts (λ (c : Call). 0 ≤ c.last) (λ c lt. omega arith) cs
        (all_last n t done pending cs l h);
    early = omega arith;
  }

  pub puts : ArePutsOf end done pending cs
  puts =
      let a = asked_of_all t end l.answer 0 pending within.invoked in
      let own : List (List Access) = lists put_item 0 done in
      let r = both_moved (Matches put_item end) (answered ++ done) cs l.each_once (a.lists ++ own)
      (both_append (Matches put_item end) a.lists own answered done a.are
      (lists_match put_item end 0 done)) in
      let done_puts : List Access = accesses put_item 0 done in
      record {
        lists = r.list;
        rest = a.rest;
        are = r.both;
        left = a.left;
        all = IsPermutation-trans _ _ _
            (IsPermutation-append_right done_puts (asked end 0 pending) (joined a.lists ++ a.rest)
            a.all)
            (IsPermutation-trans _ _ _ (to_second done_puts (joined a.lists) a.rest)
            (IsPermutation-trans _ _ _
            (permutation_same (joined a.lists ++ (done_puts ++ a.rest))
            (joined (a.lists ++ own) ++ a.rest)
            (sym (append_assoc (joined a.lists) done_puts a.rest)
            ∙ ap (λ zs. (joined a.lists ++ zs) ++ a.rest) (sym (lists_joined put_item 0 done))
            ∙ ap (λ zs. zs ++ a.rest) (sym (joined_append a.lists own))))
            (IsPermutation-append_left a.rest (joined (a.lists ++ own)) (joined r.list)
            (joined_moved (a.lists ++ own) r.list r.moved))));
      }

  pub takes : AreTakesIn end done pending cs
  takes =
      let a = askers_of_all t end l.answer 0 pending in
      let own : List (List Access) = lists taken_item 0 done in
      let r = both_moved (Matches taken_item end) (answered ++ done) cs l.each_once (a.lists ++ own)
      (both_append (Matches taken_item end) a.lists own answered done a.are
      (lists_match taken_item end 0 done)) in
      record {
        lists = r.list;
        extra = joined a.lists;
        takers = a.takers;
        rest = a.rest;
        are = r.both;
        both = a.both;
        left = a.left;
        all = IsPermutation-trans _ _ _
            (IsPermutation-append_comm (takes_of done) (joined a.lists))
            (IsPermutation-trans _ _ _
            (permutation_same (joined a.lists ++ takes_of done) (joined (a.lists ++ own))
            (ap (λ zs. joined a.lists ++ zs) (sym (lists_joined taken_item 0 done))
            ∙ sym (joined_append a.lists own)))
            (joined_moved (a.lists ++ own) r.list r.moved));
        asks = a.all;
      }

  pub takers_in : AreTakersIn end done pending cs
  takers_in =
      let q = takes in
      let done_takers : List Taker = takers_of 0 (takes_of done) in
      let s = both_moved IsTakerOf (takes_of done ++ q.extra) (joined q.lists) q.all
      (done_takers ++ q.takers) (both_append IsTakerOf done_takers q.takers (takes_of done) q.extra
      (are_takers 0 (takes_of done)) q.both) in
      record {
        lists = q.lists;
        order = s.list;
        rest = q.rest;
        are = q.are;
        both = s.both;
        left = q.left;
        all = IsPermutation-trans _ _ _
            (IsPermutation-append_right done_takers (askers_of end 0 pending) (q.takers ++ q.rest)
            q.asks)
            (IsPermutation-trans _ _ _
            (permutation_same (done_takers ++ (q.takers ++ q.rest))
            ((done_takers ++ q.takers) ++ q.rest)
            (sym (append_assoc done_takers q.takers q.rest)))
            (IsPermutation-append_left q.rest (done_takers ++ q.takers) s.list s.moved));
      }
