-- The windows of items that are taken out in turn.
use Rattle.std.proofs.Common.{◌≡◌, ℕ, zero, suc, ◌+◌, ◌<◌, ◌≤◌, ◌==◌, ◌⊎◌, inl, inr, min, Bool}
use Rattle.std.proofs.Common.{true, false, cond, nat_lt, Option, Some, None, slice_get}
use Rattle.std.proofs.Common.{List, [], ◌∷◌, ◌++◌, length, drop, count_by, refl, ap, sym, ◌∙◌}
use Rattle.std.proofs.Common.{subst, arith, get_or, add-one, append_assoc}
use Rattle.std.proofs.Math.Seq.{drop-cons}
use Rattle.std.specs.List.{Contains}
use Rattle.std.specs.List.Sorted.{IsPermutation}
use Rattle.std.specs.Option.{unwrap_or}
use Rattle.std.proofs.lemmas.Option.{none-some}
use Rattle.std.proofs.lemmas.Bool.{cases_lt, eq-eqb, eqb-true, ltb-true, lt-ltb, le-ltb}
use Rattle.std.proofs.lemmas.List.Elements.{Contains-append_left, Contains-append_right}
use Rattle.std.proofs.lemmas.List.Elements.{Contains-append_cases}
use Rattle.std.proofs.lemmas.List.Sorted.{All-permutation, Contains-permutation}
use Rattle.std.proofs.lemmas.List.Sorted.{IsPermutation-refl, IsPermutation-sym}
use Rattle.calls_core.specs.declared.history.Kind.TheVariants.{Buffer}
use Rattle.calls_core.specs.declared.history.Op.{Op}
use Rattle.calls_core.specs.declared.history.Op.TheVariants.{Produce, Consume}
use Rattle.calls_core.specs.declared.history.Reply.{Reply}
use Rattle.calls_core.specs.declared.history.Reply.TheVariants.{Done, Number}
use Rattle.calls_core.specs.declared.history.PendingCall.{PendingCall}
use Rattle.calls_core.specs.declared.history.Call.{Call}
use Rattle.calls_core.specs.Lists.{Each, EachFrom, EachPair}
use Rattle.calls_core.specs.Calls.{Earlier, AreCallsOf}
use Rattle.calls_core.proofs.Lists.{each_weaker, each_append, each_left, each_pair_append}
use Rattle.calls_core.proofs.Lists.{each_pair_left, all_from_each}
use Rattle.calls_core.proofs.Filters.{each_from_all}
use Rattle.calls_core.proofs.Counting.{one_yes, one_no, count_cons, count_moved}
use Rattle.calls_turns.specs.declared.turn.Turn.{Turn}
use Rattle.calls_turns.specs.declared.turn.Taker.{Taker}
use Rattle.calls_turns.specs.Turns.{MayTake, AreTakenBy, IsTaking}
use Rattle.calls_buffers.specs.declared.accesses.Place.{Place}
use Rattle.calls_buffers.specs.declared.accesses.Place.TheVariants.{Completed, Pending}
use Rattle.calls_buffers.specs.declared.accesses.Access.{Access}
use Rattle.calls_buffers.specs.declared.windows.Window.{Window}
use Rattle.calls_buffers.specs.Counts.{is_consume}
use Rattle.calls_buffers.specs.Jobs.{IsProduceOf, IsConsumeOf}
use Rattle.calls_buffers.specs.Turns.{puts_of, takes_of, AreApart, takers_of, last_or}
use Rattle.calls_buffers.specs.Turns.{asker_of, askers_of, taking_turns}
use Rattle.calls_buffers.specs.Accesses.{put_item, taken_item}
use Rattle.calls_buffers.specs.Accesses.{access_of, accesses, asked}
use Rattle.calls_buffers.specs.kept.Pairs.{with_take, without_take, window_of}
use Rattle.calls_buffers.specs.kept.Windows.{IsCompletedPut, IsPendingPut}
use Rattle.calls_buffers.specs.kept.Windows.{IsCompletedTake, MayPrecede}
use Rattle.calls_buffers.specs.Accesses.{AreWithin}
use Rattle.calls_buffers.specs.kept.Windows.{HaveRoom}
use Rattle.calls_buffers.specs.kept.Spans.{AreInvokedApart, HasPut, HasTake}
use Rattle.calls_buffers.specs.kept.Settling.{IsPendingTake, IsGiven, AreGiven}
use Rattle.calls_buffers.specs.kept.Takings.{take_by, take_of, taken_windows}
use Rattle.calls_buffers.proofs.Asking.{count_some, consumes}
use Rattle.calls_buffers.proofs.AreWindows.{IsAccess, access_known, IsAsked, asked_known}
use Rattle.calls_buffers.proofs.AreWindows.{put_is, taken_is, each_contains, one_of}
use Rattle.calls_buffers.proofs.JobsOf.{within_calls}
use Rattle.calls_buffers.proofs.Timing.{IsTimed, AreOneByOne, last_put_or, AreDue}
use Rattle.calls_buffers.proofs.Timing.{all_last, all_precede, all_have_room, room_left}
use Rattle.calls_buffers.proofs.Timing.{puts_differ}

pub none : {X : Type 0} (y : X) → Contains [] y → ⊥
none y (k, lt, e) = omega arith

-- DIFFERENT NUMBERS

abbrev pub Differ : {X : Type 0} → (X → ℕ) → List X → Type 0
Differ f xs = EachPair (λ x y. f x ≡ f y → ⊥) xs

abbrev is_at : {X : Type 0} → (X → ℕ) → ℕ → X → Bool
is_at f v x = f x == v

none_at : {X : Type 0} (f : X → ℕ) (v : ℕ) (xs : List X) → Each (λ x. v ≡ f x → ⊥) xs
    → count_by (is_at f v) xs ≡ 0
none_at f v [] h = refl
none_at f v (x ∷ xs) h =
    elim (f x == v) as (λ b. (f x == v) ≡ b → count_by (is_at f v) (x ∷ xs) ≡ 0) [
      | true ↦ λ q. absurd (h.0 (sym (eqb-true (f x) v q)))
      | false ↦ λ q. omega (
        arith,
        count_cons (is_at f v) x xs,
        one_no (is_at f v x) q,
        none_at f v xs h.1,
      )
    ] refl

once_at : {X : Type 0} (f : X → ℕ) (xs : List X) → Differ f xs → (v : ℕ)
    → count_by (is_at f v) xs ≤ 1
once_at f [] h v = omega arith
once_at f (x ∷ xs) h v =
    elim (f x == v) as (λ b. (f x == v) ≡ b → count_by (is_at f v) (x ∷ xs) ≤ 1) [
      | true ↦ λ q. omega (
        arith,
        count_cons (is_at f v) x xs,
        one_yes (is_at f v x) q,
        none_at f v xs (each_weaker (λ y. f x ≡ f y → ⊥) (λ y. v ≡ f y → ⊥)
            (λ y k e. k (eqb-true (f x) v q ∙ e)) xs h.0),
      )
      | false ↦ λ q. omega (
        arith,
        count_cons (is_at f v) x xs,
        one_no (is_at f v x) q,
        once_at f xs h.1 v,
      )
    ] refl

differ_once : {X : Type 0} (f : X → ℕ) (xs : List X)
    → ((v : ℕ) → count_by (is_at f v) xs ≤ 1) → Differ f xs
differ_once f [] h = tt
differ_once f (x ∷ xs) h = (
  each_contains (λ y. f x ≡ f y → ⊥) xs (λ y k e. omega (
    arith,
    h (f x),
    count_cons (is_at f (f x)) x xs,
    one_yes (is_at f (f x) x) (eq-eqb (f x) (f x) refl),
    count_some (is_at f (f x)) xs y k (eq-eqb (f y) (f x) (sym e)),
  )),
  differ_once f xs (λ v. omega (arith, h v, count_cons (is_at f v) x xs)),
)

pub differ_moved : {X : Type 0} (f : X → ℕ) (xs ys : List X) → IsPermutation xs ys → Differ f xs
    → Differ f ys
differ_moved f xs ys moved h = differ_once f ys (λ v. omega (
  arith,
  count_moved (is_at f v) xs ys moved,
  once_at f xs h v,
))

-- ACCESSES

pub each_access : (P : ℕ → Type 0) (f : Op → Reply → Option ℕ) (i : ℕ) (cs : List Call)
    → Each (λ (c : Call). P c.first) cs → Each (λ (a : Access). P a.first) (accesses f i cs)
each_access P f i [] h = tt
each_access P f i (c ∷ cs) h =
    each_append (λ (a : Access). P a.first) (access_of i c (f c.op c.reply))
    (accesses f (i + 1) cs) (own (f c.op c.reply)) (each_access P f (i + 1) cs h.1)
  where
    own : (o : Option ℕ) → Each (λ (a : Access). P a.first) (access_of i c o)
    own None = tt
    own (Some v) = (h.0, tt)

pub accesses_differ : (f : Op → Reply → Option ℕ) (i : ℕ) (cs : List Call)
    → Differ (λ (c : Call). c.first) cs → Differ (λ (a : Access). a.first) (accesses f i cs)
accesses_differ f i [] h = tt
accesses_differ f i (c ∷ cs) h =
    each_pair_append (λ (a b : Access). a.first ≡ b.first → ⊥) (access_of i c (f c.op c.reply))
    (accesses f (i + 1) cs) (alone (f c.op c.reply)) (accesses_differ f (i + 1) cs h.1)
    (across (f c.op c.reply))
  where
    alone : (o : Option ℕ) → EachPair (λ (a b : Access). a.first ≡ b.first → ⊥) (access_of i c o)
    alone None = tt
    alone (Some v) = (tt, tt)

    across : (o : Option ℕ) → Each (λ (a : Access). Each (λ (b : Access). a.first ≡ b.first → ⊥)
        (accesses f (i + 1) cs)) (access_of i c o)
    across None = tt
    across (Some v) = (each_access (λ n. c.first ≡ n → ⊥) f (i + 1) cs h.0, tt)

pub record HasAccessAt (list : List Access) (c : Call) (v : ℕ) : Type 0 where
  pub access : Access
  pub known : Contains list access
  pub item : access.item ≡ v
  pub first : access.first ≡ c.first
  pub last : access.last ≡ c.last

pub access_at : (f : Op → Reply → Option ℕ) (i : ℕ) (cs : List Call) (c : Call) (v : ℕ)
    → Contains cs c → f c.op c.reply ≡ Some v → HasAccessAt (accesses f i cs) c v
access_at f i [] c v h e = absurd (none c h)
access_at f i (x ∷ cs) c v (zero, lt, s) e = own (f x.op x.reply)
    (ap (λ (y : Call). f y.op y.reply) s ∙ e)
  where
    own : (o : Option ℕ) → o ≡ Some v
        → HasAccessAt (access_of i x o ++ accesses f (i + 1) cs) c v
    own None q = absurd (cc)
    own (Some w) q =
        let made : Access =
        record { item = w; place = Completed i; first = x.first; last = x.last } in
        record {
          access = made;
          known = (zero, omega arith, refl);
          item = ap (λ o. unwrap_or o w) q;
          first = ap (λ (y : Call). y.first) s;
          last = ap (λ (y : Call). y.last) s;
        }
access_at f i (x ∷ cs) c v (suc k, lt, s) e =
    let r = access_at f (i + 1) cs c v (k, (let l : k < length cs = omega arith in l), s) e in
    record {
      access = r.access;
      known = Contains-append_right (access_of i x (f x.op x.reply)) (accesses f (i + 1) cs)
          r.access r.known;
      item = r.item;
      first = r.first;
      last = r.last;
    }

-- TAKERS

-- the consume by which a taker takes out item v
record Takes (takes : List Access) (x : Taker) (v : ℕ) : Type 0 where
  take : Access
  at : take_by takes v x ≡ Some take
  from : x.from ≡ take.first
  by : x.by ≡ take.last

-- the consume of a taker, completed or pending
abbrev IsOf : List Call → List PendingCall → ℕ → Taker → Type 0
IsOf done pending end x = (w : Window) → ((v : ℕ) → x.item ≡ Some v → v ≡ w.item)
    → w.take_first ≡ x.from → w.take_last ≡ x.by
    → IsCompletedTake done w ⊎ IsPendingTake pending end w

record IsTaker (done : List Call) (pending : List PendingCall) (end : ℕ) (takes : List Access)
    (x : Taker) : Type 0 where
  takes_out : (v : ℕ) → Takes takes x v
  is : IsOf done pending end x
  lasts : x.from ≤ x.by
  begun : x.from < end

pub record HasTaker (list : List Taker) (a : Access) : Type 0 where
  pub taker : Taker
  pub known : Contains list taker
  pub item : taker.item ≡ Some a.item
  pub from : taker.from ≡ a.first
  pub by : taker.by ≡ a.last

pub taker_for : (i : ℕ) (takes : List Access) (a : Access) → Contains takes a
    → HasTaker (takers_of i takes) a
taker_for i [] a h = absurd (none a h)
taker_for i (x ∷ takes) a (zero, lt, e) = record {
  taker = record { call = i; item = Some x.item; from = x.first; by = x.last };
  known = (zero, omega arith, refl);
  item = ap (λ (y : Access). Some y.item) e;
  from = ap (λ (y : Access). y.first) e;
  by = ap (λ (y : Access). y.last) e;
}
taker_for i (x ∷ takes) a (suc k, lt, e) =
    let r = taker_for (i + 1) takes a (k, (let l : k < length takes = omega arith in l), e) in
    let first : Taker = record { call = i; item = Some x.item; from = x.first; by = x.last } in
    record {
      taker = r.taker;
      known = Contains-append_right (first ∷ []) (takers_of (i + 1) takes) r.taker r.known;
      item = r.item;
      from = r.from;
      by = r.by;
    }

each_taker : (P : ℕ → Type 0) (i : ℕ) (takes : List Access)
    → Each (λ (a : Access). P a.first) takes
    → Each (λ (x : Taker). P x.from) (takers_of i takes)
each_taker P i [] h = tt
each_taker P i (a ∷ takes) h = (h.0, each_taker P (i + 1) takes h.1)

pub takers_differ : (i : ℕ) (takes : List Access) → Differ (λ (a : Access). a.first) takes
    → Differ (λ (x : Taker). x.from) (takers_of i takes)
takers_differ i [] h = tt
takers_differ i (a ∷ takes) h = (
  each_taker (λ n. a.first ≡ n → ⊥) (i + 1) takes h.0,
  takers_differ (i + 1) takes h.1,
)

-- those of any item are not due before the end
pub takers_due : (end i : ℕ) (list : List Access)
    → Each (λ (x : Taker). x.item ≡ None → end ≤ x.by) (takers_of i list)
takers_due end i [] = tt
takers_due end i (a ∷ list) =
    (λ e. absurd (none-some a.item (sym e)), takers_due end (i + 1) list)

pub askers_due : (end i : ℕ) (os : List PendingCall)
    → Each (λ (x : Taker). x.item ≡ None → end ≤ x.by) (askers_of end i os)
askers_due end i [] = tt
askers_due end i (o ∷ os) =
    each_append (λ (x : Taker). x.item ≡ None → end ≤ x.by) (asker_of end i o (is_consume o.op))
    (askers_of end (i + 1) os) (own (is_consume o.op)) (askers_due end (i + 1) os)
  where
    own : (b : Bool) → Each (λ (x : Taker). x.item ≡ None → end ≤ x.by) (asker_of end i o b)
    own false = tt
    own true = (λ e. omega arith, tt)

each_asker : (P : ℕ → Type 0) (end i : ℕ) (os : List PendingCall)
    → Each (λ (o : PendingCall). P o.first) os
    → Each (λ (x : Taker). P x.from) (askers_of end i os)
each_asker P end i [] h = tt
each_asker P end i (o ∷ os) h =
    each_append (λ (x : Taker). P x.from) (asker_of end i o (is_consume o.op))
    (askers_of end (i + 1) os) (own (is_consume o.op)) (each_asker P end (i + 1) os h.1)
  where
    own : (b : Bool) → Each (λ (x : Taker). P x.from) (asker_of end i o b)
    own false = tt
    own true = (h.0, tt)

askers_differ : (end i : ℕ) (os : List PendingCall) → EachPair Earlier os
    → Differ (λ (x : Taker). x.from) (askers_of end i os)
askers_differ end i [] h = tt
askers_differ end i (o ∷ os) h =
    each_pair_append (λ (x y : Taker). x.from ≡ y.from → ⊥) (asker_of end i o (is_consume o.op))
    (askers_of end (i + 1) os) (alone (is_consume o.op)) (askers_differ end (i + 1) os h.1)
    (across (is_consume o.op))
  where
    alone : (b : Bool) → EachPair (λ (x y : Taker). x.from ≡ y.from → ⊥) (asker_of end i o b)
    alone false = tt
    alone true = (tt, tt)

    across : (b : Bool) → Each (λ (x : Taker). Each (λ (y : Taker). x.from ≡ y.from → ⊥)
        (askers_of end (i + 1) os)) (asker_of end i o b)
    across false = tt
    across true = (
      each_asker (λ m. o.first ≡ m → ⊥) end (i + 1) os (each_weaker (Earlier o)
          (λ (p : PendingCall). o.first ≡ p.first → ⊥) (λ p lt e. omega (arith, lt, e)) os h.0),
      tt,
    )

-- ALL WINDOWS, ALSO THAT OF A PENDING PRODUCE WHOSE ITEM IS NOT TAKEN

abbrev take_place : Option Access → Option Place
take_place None = None
take_place (Some t) = Some t.place

abbrev taken_from : ℕ → Option Access → ℕ
taken_from end None = end
taken_from end (Some t) = t.first

abbrev taken_by : ℕ → Option Access → ℕ
taken_by end None = end
taken_by end (Some t) = t.last

abbrev full : ℕ → Access → Option Access → Window
full end p o = record {
  item = p.item;
  put = p.place;
  put_first = p.first;
  put_last = p.last;
  take = take_place o;
  take_first = taken_from end o;
  take_last = taken_by end o;
}

abbrev all_windows : ℕ → List Access → List Access → List Taker → List Window
all_windows end takes [] order = []
all_windows end takes (p ∷ puts) [] = full end p None ∷ all_windows end takes puts []
all_windows end takes (p ∷ puts) (x ∷ order) =
    full end p (take_by takes p.item x) ∷ all_windows end takes puts order

-- one of them may not be there, the last one
abbrev Begin : List Window → List Window → Type 0
Begin ws all = (rest : List Window) × (ws ++ rest ≡ all)

last_window : (end : ℕ) (p : Access) (o : Option Access)
    → Begin (window_of end p o ++ []) (full end p o ∷ [])
last_window end p (Some t) = ([], refl)
last_window end p None =
    elim (nat_lt p.last end) as (λ b. Begin (cond b (without_take end p ∷ []) [] ++ [])
    (full end p None ∷ [])) [ true ↦ ([], refl) | false ↦ (full end p None ∷ [], refl) ]

next_window : (end : ℕ) (p : Access) (o : Option Access) (ws all : List Window) → p.last < end
    → Begin ws all → Begin (window_of end p o ++ ws) (full end p o ∷ all)
next_window end p (Some t) ws all lt h = (h.0, ap (λ zs. with_take p t ∷ zs) h.1)
next_window end p None ws all lt h =
    subst (λ b. Begin (cond b (without_take end p ∷ []) [] ++ ws) (full end p None ∷ all))
    (sym (lt-ltb p.last end lt)) (h.0, ap (λ zs. without_take end p ∷ zs) h.1)

begin_all : (end : ℕ) (takes puts : List Access) (order : List Taker)
    → Each (λ (a : Access). a.first < end) puts → AreApart puts
    → Begin (taken_windows end takes puts order) (all_windows end takes puts order)
begin_all end takes [] order h apart = ([], refl)
begin_all end takes (p ∷ []) [] h apart = last_window end p None
begin_all end takes (p ∷ []) (x ∷ order) h apart = last_window end p (take_by takes p.item x)
begin_all end takes (p ∷ q ∷ puts) [] h apart =
    next_window end p None (taken_windows end takes (q ∷ puts) [])
    (all_windows end takes (q ∷ puts) []) (omega (arith, apart.0.0, h.1.0))
    (begin_all end takes (q ∷ puts) [] h.1 apart.1)
begin_all end takes (p ∷ q ∷ puts) (x ∷ order) h apart =
    next_window end p (take_by takes p.item x) (taken_windows end takes (q ∷ puts) order)
    (all_windows end takes (q ∷ puts) order) (omega (arith, apart.0.0, h.1.0))
    (begin_all end takes (q ∷ puts) order h.1 apart.1)

each_put : (P : ℕ → Type 0) (end : ℕ) (takes puts : List Access) (order : List Taker)
    → Each (λ (a : Access). P a.first) puts
    → Each (λ (w : Window). P w.put_first) (all_windows end takes puts order)
each_put P end takes [] order h = tt
each_put P end takes (p ∷ puts) [] h = (h.0, each_put P end takes puts [] h.1)
each_put P end takes (p ∷ puts) (x ∷ order) h = (h.0, each_put P end takes puts order h.1)

all_apart : (end : ℕ) (takes puts : List Access) (order : List Taker) → AreApart puts
    → AreOneByOne (all_windows end takes puts order)
all_apart end takes [] order h = tt
all_apart end takes (p ∷ puts) [] h =
    (each_put (λ n. p.last < n) end takes puts [] h.0, all_apart end takes puts [] h.1)
all_apart end takes (p ∷ puts) (x ∷ order) h =
    (each_put (λ n. p.last < n) end takes puts order h.0, all_apart end takes puts order h.1)

-- where the produce returns that comes n later
same_last : (n end : ℕ) (takes puts : List Access) (order : List Taker)
    → last_put_or end (drop n (all_windows end takes puts order)) ≡ last_or end (drop n puts)
same_last zero end takes [] order = refl
same_last zero end takes (p ∷ puts) [] = refl
same_last zero end takes (p ∷ puts) (x ∷ order) = refl
same_last (suc n) end takes [] order = refl
same_last (suc n) end takes (p ∷ puts) [] = same_last n end takes puts []
same_last (suc n) end takes (p ∷ puts) (x ∷ order) = same_last n end takes puts order

-- THE MOMENTS

record IsTime (m end : ℕ) (moment time : ℕ → ℕ) : Type 0 where
  early : (k : ℕ) → k < m → time k ≡ min (moment k) end
  late : (k : ℕ) → m ≤ k → time k ≡ end

abbrev time_of : ℕ → ℕ → (ℕ → ℕ) → ℕ → ℕ
time_of m end moment k = cond (nat_lt k m) (min (moment k) end) end

is_time : (m end : ℕ) (moment : ℕ → ℕ) → IsTime m end moment (time_of m end moment)
is_time m end moment = record {
  early = λ k lt. ap (λ b. cond b (min (moment k) end) end) (lt-ltb k m lt);
  late = λ k le. ap (λ b. cond b (min (moment k) end) end) (le-ltb k m le);
}

time_rises : (m end : ℕ) (moment time : ℕ → ℕ)
    → ((i k : ℕ) → i ≤ k → k < m → moment i ≤ moment k) → IsTime m end moment time
    → (i k : ℕ) → i ≤ k → time i ≤ time k
time_rises m end moment time rises is i k le =
    elim (cases_lt k m) [
      | inl lt ↦ (let early : i < m = omega arith in
          omega (arith, is.early i early, is.early k lt, rises i k le lt))
      | inr ge ↦ elim (cases_lt i m) [
        | inl lt ↦ omega (arith, is.early i lt, is.late k ge)
        | inr high ↦ omega (arith, is.late i high, is.late k ge)
      ]
    ]

time_within : (m end : ℕ) (moment time : ℕ → ℕ) → IsTime m end moment time → (k : ℕ)
    → time k ≤ end
time_within m end moment time is k = elim (cases_lt k m) [
  | inl lt ↦ omega (arith, is.early k lt)
  | inr ge ↦ omega (arith, is.late k ge)
]

-- THE CALLS

pub record IsPut (done : List Call) (pending : List PendingCall) (end : ℕ) (p : Access) : Type 0
  where
    pub put : (w : Window) → w.item ≡ p.item → w.put_first ≡ p.first → w.put_last ≡ p.last
        → IsCompletedPut done w ⊎ IsPendingPut pending end w
    pub lasts : p.first ≤ p.last
    pub begun : p.first < end

module _ (n end : ℕ) (done : List Call) (pending : List PendingCall) (takes : List Access)
    (moment : ℕ → ℕ) where
  abbrev Taken : ℕ → List Access → List Taker → Type 0
  Taken k puts order = AreTakenBy moment end k (taking_turns n end puts) order

  abbrev Puts : List Access → Type 0
  Puts puts = Each (IsPut done pending end) puts

  abbrev Takers : List Taker → Type 0
  Takers order = Each (IsTaker done pending end takes) order

  module _ (m : ℕ) (time : ℕ → ℕ) (is : IsTime m end moment time) where
    all_timed_left : (k : ℕ) (puts : List Access) → Puts puts → m ≤ k
        → EachFrom (λ j w. IsTimed (time j) w) k (all_windows end takes puts [])
    all_timed_left k [] ps le = tt
    all_timed_left k (p ∷ puts) ps le =
        let late = is.late k le in (
          record {
            put = omega (arith, ps.0.begun, late);
            from = omega (arith, late);
            until = omega (arith, late);
            lasts = ps.0.lasts;
          },
          all_timed_left (k + 1) puts ps.1 (omega arith),
        )

    all_timed : (k : ℕ) (puts : List Access) (order : List Taker) → Taken k puts order
        → Puts puts → Takers order → m ≡ k + length order
        → EachFrom (λ j w. IsTimed (time j) w) k (all_windows end takes puts order)
    all_timed k [] order taken ps xs e = tt
    all_timed k (p ∷ puts) [] taken ps xs e = all_timed_left k (p ∷ puts) ps (omega arith)
    all_timed k (p ∷ puts) (x ∷ order) taken ps xs e =
        let early = is.early k (omega arith) in
        let given = xs.0.takes_out p.item in
        let first : taken_from end (take_by takes p.item x) ≡ given.take.first =
        ap (taken_from end) given.at in
        let last : taken_by end (take_by takes p.item x) ≡ given.take.last =
        ap (taken_by end) given.at in (
          record {
            put = omega (arith, ps.0.begun, early, taken.0.turn_from);
            from = omega (arith, early, first, given.from, taken.0.from, xs.0.begun);
            until = omega (arith, early, last, given.by, taken.0.by);
            lasts = ps.0.lasts;
          },
          all_timed (k + 1) puts order taken.1 ps.1 xs.1 (omega arith),
        )

    all_due_left : (rises : (i k : ℕ) → i ≤ k → time i ≤ time k) (k : ℕ) (puts : List Access)
        → Each (λ (t : Turn). end ≤ t.by) (taking_turns n end puts)
        → AreDue n end time rises k (all_windows end takes puts [])
    all_due_left rises k [] taken = tt
    all_due_left rises k (p ∷ puts) taken = (
      omega (
        arith,
        time_within m end moment time is k,
        taken.0,
        same_last n end takes (p ∷ puts) [],
      ),
      all_due_left rises (k + 1) puts taken.1,
    )

    all_due : (rises : (i k : ℕ) → i ≤ k → time i ≤ time k) (k : ℕ) (puts : List Access)
        (order : List Taker) → Taken k puts order → m ≡ k + length order
        → AreDue n end time rises k (all_windows end takes puts order)
    all_due rises k [] order taken e = tt
    all_due rises k (p ∷ puts) [] taken e = all_due_left rises k (p ∷ puts) taken
    all_due rises k (p ∷ puts) (x ∷ order) taken e = (
      omega (
        arith,
        is.early k (omega arith),
        taken.0.turn_by,
        same_last n end takes (p ∷ puts) (x ∷ order),
      ),
      all_due rises (k + 1) puts order taken.1 (omega arith),
    )

  -- THEIR CALLS

  left_given : (p : Access) → IsPut done pending end p
      → Each (IsGiven done pending end) (window_of end p None)
  left_given p h =
      elim (nat_lt p.last end) as (λ b. nat_lt p.last end ≡ b
      → Each (IsGiven done pending end) (cond b (without_take end p ∷ []) [])) [
        | true ↦ λ q. (
          record {
            put = h.put (without_take end p) refl refl refl;
            take = inr (inr (record {
              first = refl;
              last = refl;
              put = ltb-true p.last end q;
            }));
            first = h.begun;
            follows = omega (arith, h.begun);
          },
          tt,
        )
        | false ↦ λ q. tt
      ] refl

  given_with_take : (k : ℕ) (p : Access) (x : Taker) (t : Turn) → t.item ≡ Some p.item
      → t.from ≡ p.first → IsPut done pending end p → IsTaker done pending end takes x
      → MayTake (moment k) t x
      → Each (IsGiven done pending end) (window_of end p (take_by takes p.item x))
  given_with_take k p x t item from h g may =
      let given = g.takes_out p.item in
      subst (λ o. Each (IsGiven done pending end) (window_of end p o)) (sym given.at) (
        record {
          put = h.put (with_take p given.take) refl refl refl;
          take = elim (g.is (with_take p given.take) (λ v e. may.item v p.item e item)
              (sym given.from) (sym given.by)) [ inl q ↦ inl q | inr q ↦ inr (inl q) ];
          first = h.begun;
          follows = omega (arith, from, may.turn_from, may.by, given.by);
        },
        tt,
      )

  all_given : (k : ℕ) (puts : List Access) (order : List Taker) → Taken k puts order
      → Puts puts → Takers order
      → Each (IsGiven done pending end) (taken_windows end takes puts order)
  all_given k [] order taken ps xs = tt
  all_given k (p ∷ puts) [] taken ps xs =
      each_append (IsGiven done pending end) (window_of end p None)
      (taken_windows end takes puts []) (left_given p ps.0)
      (all_given (k + 1) puts [] taken.1 ps.1 xs)
  all_given k (p ∷ puts) (x ∷ order) taken ps xs =
      each_append (IsGiven done pending end) (window_of end p (take_by takes p.item x))
      (taken_windows end takes puts order)
      (given_with_take k p x _ refl refl ps.0 xs.0 taken.0)
      (all_given (k + 1) puts order taken.1 ps.1 xs.1)

  -- THOSE THAT ARE KEPT COME LAST

  abbrev Last : Window → Window → Type 0
  Last x y = x.take_first ≡ end → y.take_first ≡ end

  kept_window : (p : Access) → Each (λ (w : Window). w.take_first ≡ end) (window_of end p None)
  kept_window p =
      elim (nat_lt p.last end) as (λ b. Each (λ (w : Window). w.take_first ≡ end)
      (cond b (without_take end p ∷ []) [])) [ true ↦ (refl, tt) | false ↦ tt ]

  kept_windows : (puts : List Access)
      → Each (λ (w : Window). w.take_first ≡ end) (taken_windows end takes puts [])
  kept_windows [] = tt
  kept_windows (p ∷ puts) = each_append (λ (w : Window). w.take_first ≡ end)
      (window_of end p None) (taken_windows end takes puts []) (kept_window p) (kept_windows puts)

  all_kept : (ws : List Window) → Each (λ (w : Window). w.take_first ≡ end) ws → EachPair Last ws
  all_kept [] h = tt
  all_kept (w ∷ ws) h = (
    each_weaker (λ (y : Window). y.take_first ≡ end) (Last w) (λ y e own. e) ws h.1,
    all_kept ws h.1,
  )

  kept_last : (puts : List Access) (order : List Taker) → Takers order
      → EachPair Last (taken_windows end takes puts order)
  kept_last [] order xs = tt
  kept_last (p ∷ puts) [] xs =
      all_kept (taken_windows end takes (p ∷ puts) []) (kept_windows (p ∷ puts))
  kept_last (p ∷ puts) (x ∷ order) xs =
      let given = xs.0.takes_out p.item in
      let rest = taken_windows end takes puts order in
      subst (λ o. EachPair Last (window_of end p o ++ rest)) (sym given.at) (
        each_contains (Last (with_take p given.take)) rest
            (λ y k e. absurd (omega (arith, xs.0.begun, given.from, e))),
        kept_last puts order xs.1,
      )

  -- EACH CALL HAS ITS WINDOW

  own_put : (p : Access) (o : Option Access) (ws : List Window) → p.last < end
      → Contains (window_of end p o ++ ws) (full end p o)
  own_put p (Some t) ws lt = (zero, omega arith, refl)
  own_put p None ws lt =
      subst (λ b. Contains (cond b (without_take end p ∷ []) [] ++ ws) (full end p None))
      (sym (lt-ltb p.last end lt)) (zero, omega arith, refl)

  has_put : (puts : List Access) (order : List Taker) (p : Access) → Contains puts p
      → p.last < end → HasPut (taken_windows end takes puts order) p.item p.first
  has_put [] order p h lt = absurd (none p h)
  has_put (q ∷ puts) [] p (zero, l, e) lt = record {
    window = full end q None;
    known = own_put q None (taken_windows end takes puts [])
        (subst (λ (a : Access). a.last < end) (sym e) lt);
    is = ap (λ (a : Access). a.item) e;
    at = ap (λ (a : Access). a.first) e;
  }
  has_put (q ∷ puts) [] p (suc k, l, e) lt =
      let r = has_put puts [] p (k, (let b : k < length puts = omega arith in b), e) lt in record {
        window = r.window;
        known = Contains-append_right (window_of end q None) (taken_windows end takes puts [])
            r.window r.known;
        is = r.is;
        at = r.at;
      }
  has_put (q ∷ puts) (x ∷ order) p (zero, l, e) lt = record {
    window = full end q (take_by takes q.item x);
    known = own_put q (take_by takes q.item x) (taken_windows end takes puts order)
        (subst (λ (a : Access). a.last < end) (sym e) lt);
    is = ap (λ (a : Access). a.item) e;
    at = ap (λ (a : Access). a.first) e;
  }
  has_put (q ∷ puts) (x ∷ order) p (suc k, l, e) lt =
      let r = has_put puts order p (k, (let b : k < length puts = omega arith in b), e) lt in
      record {
        window = r.window;
        known = Contains-append_right (window_of end q (take_by takes q.item x))
            (taken_windows end takes puts order) r.window r.known;
        is = r.is;
        at = r.at;
      }

  has_take : (k : ℕ) (puts : List Access) (order : List Taker) → Taken k puts order
      → Takers order → (y : Taker) (v : ℕ) → y.item ≡ Some v → Contains order y
      → HasTake (taken_windows end takes puts order) v y.from
  has_take k puts [] taken xs y v own h = absurd (none y h)
  has_take k [] (x ∷ order) taken xs y v own h = absurd taken
  has_take k (p ∷ puts) (x ∷ order) taken xs y v own (zero, l, e) =
      let given = xs.0.takes_out p.item in record {
        window = with_take p given.take;
        known = subst (λ o. Contains (window_of end p o ++ taken_windows end takes puts order)
            (with_take p given.take)) (sym given.at) (zero, omega arith, refl);
        is = sym (taken.0.item v p.item (ap (λ (z : Taker). z.item) e ∙ own) refl);
        at = sym given.from ∙ ap (λ (z : Taker). z.from) e;
      }
  has_take k (p ∷ puts) (x ∷ order) taken xs y v own (suc j, l, e) =
      let r = has_take (k + 1) puts order taken.1 xs.1 y v own
      (j, (let b : j < length order = omega arith in b), e) in record {
        window = r.window;
        known = Contains-append_right (window_of end p (take_by takes p.item x))
            (taken_windows end takes puts order) r.window r.known;
        is = r.is;
        at = r.at;
      }

  -- THEY ARE TAKEN OUT BY DIFFERENT CALLS

  each_taken : (P : ℕ → Type 0) (puts : List Access) (order : List Taker) → P end → Takers order
      → Each (λ (x : Taker). P x.from) order
      → Each (λ (w : Window). P w.take_first) (all_windows end takes puts order)
  each_taken P [] order q xs h = tt
  each_taken P (p ∷ puts) [] q xs h = (q, each_taken P puts [] q xs h)
  each_taken P (p ∷ puts) (x ∷ order) q xs h =
      let given = xs.0.takes_out p.item in
      let same : x.from ≡ taken_from end (take_by takes p.item x) =
      given.from ∙ sym (ap (taken_from end) given.at) in
      (subst P same h.0, each_taken P puts order q xs.1 h.1)

  takes_apart : (puts : List Access) (order : List Taker) → Takers order
      → Differ (λ (x : Taker). x.from) order
      → EachPair (λ (x y : Window). x.take_first ≡ y.take_first → x.take_first ≡ end)
      (all_windows end takes puts order)
  takes_apart [] order xs h = tt
  takes_apart (p ∷ puts) [] xs h = (
    each_taken (λ v. end ≡ v → end ≡ end) puts [] (λ e. refl) xs tt,
    takes_apart puts [] xs tt,
  )
  takes_apart (p ∷ puts) (x ∷ order) xs h =
      let given = xs.0.takes_out p.item in
      let first = taken_from end (take_by takes p.item x) in
      let same : x.from ≡ taken_from end (take_by takes p.item x) =
      given.from ∙ sym (ap (taken_from end) given.at) in (
        each_taken (λ v. first ≡ v → first ≡ end) puts order (λ e. e) xs.1
            (each_weaker (λ (y : Taker). x.from ≡ y.from → ⊥)
            (λ (y : Taker). first ≡ y.from → first ≡ end) (λ y k e. absurd (k (same ∙ e)))
            order h.0),
        takes_apart puts order xs.1 h.1,
      )

-- WHOSE ACCESSES THEY ARE

module _ (end : ℕ) (done : List Call) (pending : List PendingCall)
    (within : AreWithin end done pending) where
  pub a_put : (p : Access) → Contains (puts_of end done pending) p → IsPut done pending end p
  a_put p h = elim (Contains-append_cases (accesses put_item 0 done) (asked end 0 pending) p h) [
    | inl here ↦ completed (access_known put_item 0 done p here)
    | inr there ↦ waiting (asked_known end 0 pending p there)
  ]
    where
      completed : IsAccess put_item 0 done p → IsPut done pending end p
      completed r =
          let known : Contains done r.call = (r.index, r.within, r.at r.call) in
          let is = put_is p.item r.call.op r.call.reply r.is in
          let times = one_of (λ (c : Call). (c.first < c.last) × (c.last < end)) done r.call
          within.completed known in
          record {
            put = λ w item first last. inl (record {
              call = r.call;
              produce = record {
                known = known;
                asks = is.0 ∙ ap Produce (sym item);
                returns = is.1;
              };
              first = r.first ∙ sym first;
              last = r.last ∙ sym last;
            });
            lasts = omega (arith, times.0, r.first, r.last);
            begun = omega (arith, times.0, times.1, r.first, r.last);
          }

      waiting : IsAsked end 0 pending p → IsPut done pending end p
      waiting r =
          let early = one_of (λ (o : PendingCall). o.first < end) pending r.call within.invoked
          r.known in
          record {
            put = λ w item first last. inr (record {
              call = r.call;
              known = r.known;
              asks = (put_is p.item r.call.op Done r.is).0 ∙ ap Produce (sym item);
              first = r.first ∙ sym first;
              last = last ∙ r.last;
            });
            lasts = omega (arith, early, r.first, r.last);
            begun = omega (arith, early, r.first);
          }

  -- a completed consume takes its item
  a_taker : (whole : List Access) (i : ℕ) (t : Access) → slice_get whole i ≡ Some t
      → Contains (takes_of done) t → IsTaker done pending end whole
      (record { call = i; item = Some t.item; from = t.first; by = t.last })
  a_taker whole i t at h =
      let r = access_known taken_item 0 done t h in
      let known : Contains done r.call = (r.index, r.within, r.at r.call) in
      let is = taken_is t.item r.call.op r.call.reply r.is in
      let times = one_of (λ (c : Call). (c.first < c.last) × (c.last < end)) done r.call
      within.completed known in
      record {
        takes_out = λ v. record { take = t; at = at; from = refl; by = refl };
        is = λ w item first last. inl (record {
          call = r.call;
          consume = record {
            known = known;
            asks = is.0;
            returns = is.1 ∙ ap Number (item t.item refl);
          };
          first = r.first ∙ sym first;
          last = r.last ∙ sym last;
        });
        lasts = omega (arith, times.0, r.first, r.last);
        begun = omega (arith, times.0, times.1, r.first, r.last);
      }

  all_takers : (whole : List Access) (i : ℕ) (takes : List Access)
      → ((k : ℕ) (t : Access) → slice_get takes k ≡ Some t → slice_get whole (i + k) ≡ Some t)
      → Each (Contains (takes_of done)) takes
      → Each (IsTaker done pending end whole) (takers_of i takes)
  all_takers whole i [] h known = tt
  all_takers whole i (a ∷ takes) h known = (
    a_taker whole i a (let same : i ≡ i + 0 = omega arith in
        ap (slice_get whole) same ∙ h 0 a refl) known.0,
    all_takers whole (i + 1) takes (λ k t e. (let same : i + 1 + k ≡ i + suc k = omega arith in
        ap (slice_get whole) same ∙ h (suc k) t e)) known.1,
  )

  -- a pending one takes any item
  an_asker : (whole : List Access) (i : ℕ) (o : PendingCall) → Contains pending o → (b : Bool)
      → is_consume o.op ≡ b → Each (IsTaker done pending end whole) (asker_of end i o b)
  an_asker whole i o known false e = tt
  an_asker whole i o known true e =
      let early = one_of (λ (p : PendingCall). p.first < end) pending o within.invoked known in (
        record {
          takes_out = λ v. record {
            take = record { item = v; place = Pending i; first = o.first; last = end };
            at = refl;
            from = refl;
            by = refl;
          };
          is = λ w item first last. inr (record {
            call = o;
            known = known;
            asks = consumes o.op e;
            first = sym first;
            last = last;
          });
          lasts = omega (arith, early);
          begun = early;
        },
        tt,
      )

  all_askers : (whole : List Access) (i : ℕ) (os : List PendingCall) → Each (Contains pending) os
      → Each (IsTaker done pending end whole) (askers_of end i os)
  all_askers whole i [] h = tt
  all_askers whole i (o ∷ os) h =
      each_append (IsTaker done pending end whole) (asker_of end i o (is_consume o.op))
      (askers_of end (i + 1) os) (an_asker whole i o h.0 (is_consume o.op) refl)
      (all_askers whole (i + 1) os h.1)

-- ONE PRODUCE MORE

head_window : (end : ℕ) (takes : List Access) (p : Access) (puts : List Access) (k : ℕ)
    (order : List Taker) → taken_windows end takes (p ∷ puts) (drop k order)
    ≡ window_of end p (take_of takes p.item (slice_get order k))
    ++ taken_windows end takes puts (drop (suc k) order)
head_window end takes p puts zero [] = refl
head_window end takes p puts zero (x ∷ order) = refl
head_window end takes p puts (suc k) [] = refl
head_window end takes p puts (suc k) (x ∷ order) = head_window end takes p puts k order

pub taken_step : (end : ℕ) (takes puts : List Access) (order : List Taker) (k : ℕ) (d : Access)
    (base next more whole : List Window) → k < length puts
    → more ≡ window_of end (get_or puts k d)
    (take_of takes (get_or puts k d).item (slice_get order k))
    → next ≡ base ++ more
    → base ++ taken_windows end takes (drop k puts) (drop k order) ≡ whole
    → next ++ taken_windows end takes (drop (k + 1) puts) (drop (k + 1) order) ≡ whole
taken_step end takes puts order k d base next more whole lt is e h =
    let left = λ (n : ℕ). taken_windows end takes (drop n puts) (drop n order) in
    ap (λ n. next ++ left n) (add-one k)
    ∙ ap (λ zs. zs ++ left (suc k)) e
    ∙ append_assoc base more (left (suc k))
    ∙ ap (λ zs. base ++ (zs ++ left (suc k))) is
    ∙ ap (λ zs. base ++ zs) (sym (ap (λ ps. taken_windows end takes ps (drop k order))
    (drop-cons puts k d lt) ∙ head_window end takes (get_or puts k d) (drop (suc k) puts) k order))
    ∙ h

-- ALL OF IT

module _ (n end : ℕ) (done : List Call) (pending : List PendingCall) (puts : List Access)
    (order : List Taker) (calls : AreCallsOf (Buffer n) done pending end)
    (different : AreInvokedApart done pending)
    (moved : IsPermutation (puts_of end done pending) puts) (apart : AreApart puts)
    (taking : IsTaking end (taking_turns n end puts)
    (takers_of 0 (takes_of done) ++ askers_of end 0 pending) order) where
  abbrev takes : List Access
  takes = takes_of done

  abbrev ws : List Window
  ws = taken_windows end takes puts order

  abbrev all : List Window
  all = all_windows end takes puts order

  within : AreWithin end done pending
  within = within_calls (Buffer n) done pending end calls

  is_put : Each (IsPut done pending end) puts
  is_put = each_contains (IsPut done pending end) puts (λ p h. a_put end done pending within p
      (Contains-permutation puts (puts_of end done pending) p
      (IsPermutation-sym (puts_of end done pending) puts moved) h))

  abbrev askers : List Taker
  askers = askers_of end 0 pending

  abbrev whole : List Taker
  whole = takers_of 0 takes ++ askers

  abbrev Is : Taker → Type 0
  Is = IsTaker done pending end takes

  is_taker : Each Is order
  is_taker =
      let done_takers : Each Is (takers_of 0 takes) = all_takers end done pending within takes 0
      takes (λ k t e. (let same : 0 + k ≡ k = omega arith in ap (slice_get takes) same ∙ e))
      (each_contains (Contains takes) takes (λ t k. k)) in
      let pending_takers : Each Is askers = all_askers end done pending within takes 0 pending
      (each_contains (Contains pending) pending (λ o k. k)) in
      each_left Is order taking.rest (each_from_all Is (order ++ taking.rest) (All-permutation Is
      whole (order ++ taking.rest) taking.all (all_from_each Is whole (each_append Is
      (takers_of 0 takes) askers done_takers pending_takers))))

  differ : Differ (λ (x : Taker). x.from) order
  differ =
      let one = takers_differ 0 takes (accesses_differ taken_item 0 done different.completed) in
      let two = askers_differ end 0 pending calls.rises in
      let across : Each (λ (x : Taker). Each (λ (y : Taker). x.from ≡ y.from → ⊥) askers)
      (takers_of 0 takes) = each_taker (λ m. Each (λ (y : Taker). m ≡ y.from → ⊥) askers) 0 takes
      (each_access (λ m. Each (λ (y : Taker). m ≡ y.from → ⊥) askers) taken_item 0 done
      (each_weaker (λ (c : Call). Each (λ (o : PendingCall). c.first ≡ o.first → ⊥) pending)
      (λ (c : Call). Each (λ (y : Taker). c.first ≡ y.from → ⊥) askers)
      (λ c h. each_asker (λ m. c.first ≡ m → ⊥) end 0 pending h) done different.across)) in
      each_pair_left (λ (x y : Taker). x.from ≡ y.from → ⊥) order taking.rest
      (differ_moved (λ (x : Taker). x.from) whole (order ++ taking.rest) taking.all
      (each_pair_append (λ (x y : Taker). x.from ≡ y.from → ⊥) (takers_of 0 takes) askers one two
      across))

  begin : Begin ws all
  begin = begin_all end takes puts order (each_weaker (IsPut done pending end)
      (λ (a : Access). a.first < end) (λ a h. h.begun) puts is_put) apart

  abbrev m : ℕ
  m = length order

  abbrev time : ℕ → ℕ
  time = time_of m end taking.moment

  is_timed : IsTime m end taking.moment time
  is_timed = is_time m end taking.moment

  rises : (i k : ℕ) → i ≤ k → time i ≤ time k
  rises = time_rises m end taking.moment time taking.rises is_timed

  timed : EachFrom (λ j w. IsTimed (time j) w) 0 all
  timed = all_timed n end done pending takes taking.moment m time is_timed 0 puts order
      taking.taken is_put is_taker (omega arith)

  due : AreDue n end time rises 0 all
  due = all_due n end done pending takes taking.moment m time is_timed rises 0 puts order
      taking.taken (omega arith)

  one_by_one : AreOneByOne all
  one_by_one = all_apart end takes puts order apart

  put_has : (v : ℕ) (c : Call) → IsProduceOf done v c → HasPut ws v c.first
  put_has v c h =
      let e : put_item c.op c.reply ≡ Some v =
      ap (λ op. put_item op c.reply) h.asks ∙ ap (put_item (Produce v)) h.returns in
      let r = access_at put_item 0 done c v h.known e in
      let times = one_of (λ (x : Call). (x.first < x.last) × (x.last < end)) done c
      within.completed h.known in
      let w = has_put n end done pending takes taking.moment puts order r.access
      (Contains-permutation (puts_of end done pending) puts r.access moved (Contains-append_left
      (accesses put_item 0 done) (asked end 0 pending) r.access r.known))
      (omega (arith, r.last, times.1)) in
      record {
        window = w.window;
        known = w.known;
        is = w.is ∙ r.item;
        at = w.at ∙ r.first;
      }

  take_has : (v : ℕ) (c : Call) → IsConsumeOf done v c → HasTake ws v c.first
  take_has v c h =
      let e : taken_item c.op c.reply ≡ Some v =
      ap (λ op. taken_item op c.reply) h.asks ∙ ap (taken_item Consume) h.returns in
      let r = access_at taken_item 0 done c v h.known e in
      let times = one_of (λ (x : Call). (x.first < x.last) × (x.last < end)) done c
      within.completed h.known in
      let x = taker_for 0 takes r.access r.known in
      let known = Contains-permutation whole (order ++ taking.rest) x.taker taking.all
      (Contains-append_left (takers_of 0 takes) askers x.taker x.known) in
      elim (Contains-append_cases order taking.rest x.taker known) [
        | inl here ↦ (let w = has_take n end done pending takes taking.moment 0 puts order
            taking.taken is_taker x.taker r.access.item x.item here in record {
              window = w.window;
              known = w.known;
              is = w.is ∙ r.item;
              at = w.at ∙ x.from ∙ r.first;
            })
        | inr there ↦ absurd (omega (
          arith,
          one_of (λ (y : Taker). end ≤ y.by) taking.rest x.taker taking.others there,
          x.by,
          r.last,
          times.1,
        ))
      ]

  pub taken_given : AreGiven n done pending end ws
  taken_given =
      let lasts = all_last n end time rises 0 all timed in
      let puts_differ_all : EachPair (λ (x y : Window). x.put_first ≡ y.put_first → ⊥)
      (ws ++ begin.0) = subst (EachPair (λ (x y : Window). x.put_first ≡ y.put_first → ⊥))
      (sym begin.1) (puts_differ all lasts one_by_one) in
      let takes_differ_all : EachPair
      (λ (x y : Window). x.take_first ≡ y.take_first → x.take_first ≡ end) (ws ++ begin.0) =
      subst (EachPair (λ (x y : Window). x.take_first ≡ y.take_first → x.take_first ≡ end))
      (sym begin.1) (takes_apart n end done pending takes taking.moment puts order is_taker differ)
      in record {
        each = all_given n end done pending takes taking.moment 0 puts order taking.taken is_put
            is_taker;
        puts = put_has;
        takes = take_has;
        puts_apart = each_pair_left (λ (x y : Window). x.put_first ≡ y.put_first → ⊥) ws begin.0
            puts_differ_all;
        takes_apart = each_pair_left
            (λ (x y : Window). x.take_first ≡ y.take_first → x.take_first ≡ end) ws begin.0
            takes_differ_all;
        kept_last = kept_last n end done pending takes taking.moment puts order is_taker;
        ranked = record {
          all = IsPermutation-refl ws;
          pairs = each_pair_left MayPrecede ws begin.0 (subst (EachPair MayPrecede) (sym begin.1)
              (all_precede n end time rises 0 all timed one_by_one));
          room = room_left n ws begin.0 (subst (HaveRoom n) (sym begin.1)
              (all_have_room n end time rises 0 all timed due one_by_one));
        };
      }
