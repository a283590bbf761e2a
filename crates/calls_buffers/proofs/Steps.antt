-- What each call of a linearization does to the queue, and the running maximum of the positions
-- from which its calls take effect.
use Rattle.std.proofs.Common.{◌≡◌, ℕ, ◌<◌, ◌≤◌, ◌⊎◌, inl, inr, List, [], ◌∷◌, ◌++◌, length}
use Rattle.std.proofs.Common.{Some, None, refl, ap, sym, arith}
use Rattle.std.proofs.lemmas.Bool.{cases_lt}
use Rattle.calls_core.specs.declared.history.Op.{Op}
use Rattle.calls_core.specs.declared.history.Op.TheVariants.{Advance, Read, Await, Ticket, P, V}
use Rattle.calls_core.specs.declared.history.Op.TheVariants.{PBoth, Put, Get, Produce, Consume}
use Rattle.calls_core.specs.declared.history.Reply.{Reply}
use Rattle.calls_core.specs.declared.history.Reply.TheVariants.{Done, Number, Timeout}
use Rattle.calls_core.specs.declared.history.Call.{Call}
use Rattle.calls_core.specs.Lists.{Each, EachPair}
use Rattle.calls_core.specs.Linearizations.{KeepsOrder}
use Rattle.calls_core.proofs.Lists.{each_weaker}
use Rattle.calls_buffers.specs.Queues.{Allows, items_after}
use Rattle.calls_buffers.specs.Accesses.{put_item, taken_item}
use Rattle.calls_buffers.proofs.Cuts.{Lasts, not_before}

-- ONE STEP

-- the call puts an item in
pub record Puts (n : ℕ) (items : List ℕ) (op : Op) (r : Reply) : Type 0 where
  pub value : ℕ
  pub put : put_item op r ≡ Some value
  pub took : taken_item op r ≡ None
  pub after : items_after items op r ≡ items ++ value ∷ []
  pub room : length items < n

-- it takes the oldest item out
pub record Takes (items : List ℕ) (op : Op) (r : Reply) : Type 0 where
  pub value : ℕ
  pub put : put_item op r ≡ None
  pub took : taken_item op r ≡ Some value
  pub before : items ≡ value ∷ items_after items op r

-- it does neither
pub record Stays (items : List ℕ) (op : Op) (r : Reply) : Type 0 where
  pub put : put_item op r ≡ None
  pub took : taken_item op r ≡ None
  pub after : items_after items op r ≡ items

stays : (n : ℕ) (items : List ℕ) (op : Op) (r : Reply) → put_item op r ≡ None
    → taken_item op r ≡ None → items_after items op r ≡ items
    → Puts n items op r ⊎ Takes items op r ⊎ Stays items op r
stays n items op r p t e = inr (inr (record { put = p; took = t; after = e }))

pub step : (n : ℕ) (items : List ℕ) (op : Op) (r : Reply) → Allows n items op r
    → Puts n items op r ⊎ Takes items op r ⊎ Stays items op r
step n items (Produce v) Done h =
    inl (record { value = v; put = refl; took = refl; after = refl; room = h })
step n items (Produce v) (Number w) h = absurd h
step n items (Produce v) Timeout h = stays n items (Produce v) Timeout refl refl refl
step n [] Consume Done h = absurd h
step n (x ∷ items) Consume Done h = absurd h
step n [] Consume (Number v) h = absurd h
step n (x ∷ items) Consume (Number v) h = inr (inl (record {
  value = v;
  put = refl;
  took = refl;
  before = ap (λ y. y ∷ items) (sym h);
}))
step n [] Consume Timeout h = stays n [] Consume Timeout refl refl refl
step n (x ∷ items) Consume Timeout h = stays n (x ∷ items) Consume Timeout refl refl refl
step n [] Advance r h = absurd h
step n [] Read r h = absurd h
step n [] (Await v) r h = absurd h
step n [] Ticket r h = absurd h
step n [] (P i) r h = absurd h
step n [] (V i) r h = absurd h
step n [] (PBoth i j) r h = absurd h
step n [] (Put v) r h = absurd h
step n [] Get r h = absurd h
step n (x ∷ items) Advance r h = absurd h
step n (x ∷ items) Read r h = absurd h
step n (x ∷ items) (Await v) r h = absurd h
step n (x ∷ items) Ticket r h = absurd h
step n (x ∷ items) (P i) r h = absurd h
step n (x ∷ items) (V i) r h = absurd h
step n (x ∷ items) (PBoth i j) r h = absurd h
step n (x ∷ items) (Put v) r h = absurd h
step n (x ∷ items) Get r h = absurd h

-- THE RUNNING MAXIMUM

-- the calls are invoked before `end`, and may all take effect at m or later
pub record Times (end m : ℕ) (cs : List Call) : Type 0 where
  pub order : EachPair KeepsOrder cs
  pub lasting : Each Lasts cs
  pub within : Each (λ (c : Call). c.first < end) cs
  pub later : Each (λ (c : Call). m ≤ c.last) cs
  pub early : m ≤ end

-- the first one takes effect at this moment, and the others may do so then or later
pub record Next (end m : ℕ) (c : Call) (cs : List Call) : Type 0 where
  pub moment : ℕ
  pub rises : m ≤ moment
  pub first : c.first ≤ moment
  pub last : moment ≤ c.last
  pub times : Times end moment cs

pub next : (end m : ℕ) (c : Call) (cs : List Call) → Times end m (c ∷ cs) → Next end m c cs
next end m c cs h =
    let lasts : c.first < c.last = h.lasting.0 in
    elim (cases_lt m c.first) [
      | inl lt ↦ record {
        moment = c.first;
        rises = omega (arith, lt);
        first = omega arith;
        last = omega (arith, lasts);
        times = record {
          order = h.order.1;
          lasting = h.lasting.1;
          within = h.within.1;
          later = each_weaker (KeepsOrder c) (λ (d : Call). c.first ≤ d.last) (not_before c) cs
              h.order.0;
          early = (let lt : c.first < end = h.within.0 in omega (arith, lt));
        };
      }
      | inr le ↦ record {
        moment = m;
        rises = omega arith;
        first = le;
        last = h.later.0;
        times = record {
          order = h.order.1;
          lasting = h.lasting.1;
          within = h.within.1;
          later = h.later.1;
          early = h.early;
        };
      }
    ]
