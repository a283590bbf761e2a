-- Where an order may be cut: at a position, and at the produce of an item.
use Rattle.std.proofs.Common.{◌≡◌, ℕ, ◌<◌, ◌≤◌, ◌⊎◌, inl, inr, List, [], ◌∷◌, ◌++◌, refl, ap}
use Rattle.std.proofs.Common.{sym, ◌∙◌, subst, arith}
use Rattle.std.proofs.lemmas.Bool.{cases_lt}
use Rattle.calls_core.specs.declared.history.Op.{Op}
use Rattle.calls_core.specs.declared.history.Op.TheVariants.{Advance, Read, Await, Ticket, P, V}
use Rattle.calls_core.specs.declared.history.Op.TheVariants.{PBoth, Put, Get, Produce, Consume}
use Rattle.calls_core.specs.declared.history.Reply.{Reply}
use Rattle.calls_core.specs.declared.history.Reply.TheVariants.{Done, Number, Timeout}
use Rattle.calls_core.specs.declared.history.Call.{Call}
use Rattle.calls_core.specs.Lists.{Each, EachPair}
use Rattle.calls_core.specs.Linearizations.{KeepsOrder}
use Rattle.calls_core.proofs.Lists.{each_weaker}
use Rattle.calls_buffers.proofs.Flows.{put_by, put_items}

abbrev pub Lasts : Call → Type 0
Lasts c = c.first < c.last

-- AT A POSITION

-- all calls of the front were invoked up to position n, and those of the back returned later
pub record Cut (n : ℕ) (cs : List Call) : Type 0 where
  pub prefix : List Call
  pub back : List Call
  pub is : cs ≡ prefix ++ back
  pub begun : Each (λ (c : Call). c.first ≤ n) prefix
  pub later : Each (λ (c : Call). n < c.last) back

pub not_before : (a b : Call) → KeepsOrder a b → a.first ≤ b.last
not_before a b h = elim (cases_lt b.last a.first) [ inl lt ↦ absurd (h lt) | inr le ↦ le ]

later_or_begun : (n m : ℕ) (cs : List Call) → Each (λ (c : Call). m ≤ c.last) cs
    → Each (λ (c : Call). n < c.last) cs ⊎ (m ≤ n)
later_or_begun n m [] h = inl tt
later_or_begun n m (c ∷ cs) h =
    elim (cases_lt n c.last) [
      | inr le ↦ inr (let first : m ≤ c.last = h.0 in omega arith)
      | inl lt ↦ elim (later_or_begun n m cs h.1) [
        | inl all ↦ inl (lt, all)
        | inr le ↦ inr le
      ]
    ]

with_front : (n : ℕ) (c : Call) (cs : List Call) → c.first ≤ n → Cut n cs → Cut n (c ∷ cs)
with_front n c cs le r = record {
  prefix = c ∷ r.prefix;
  back = r.back;
  is = ap (λ zs. c ∷ zs) r.is;
  begun = (le, r.begun);
  later = r.later;
}

pub cut : (n : ℕ) (cs : List Call) → Each Lasts cs → EachPair KeepsOrder cs → Cut n cs
cut n [] l h = record { prefix = []; back = []; is = refl; begun = tt; later = tt }
cut n (c ∷ cs) l h =
    let rest = cut n cs l.1 h.1 in
    let lasts : c.first < c.last = l.0 in
    elim (cases_lt n c.last) [
      | inr le ↦ with_front n c cs (omega arith) rest
      | inl lt ↦ elim (later_or_begun n c.first cs
          (each_weaker (KeepsOrder c) (λ (d : Call). c.first ≤ d.last) (not_before c) cs h.0)) [
            | inr le ↦ with_front n c cs le rest
            | inl all ↦ record {
              prefix = [];
              back = c ∷ cs;
              is = refl;
              begun = tt;
              later = (lt, all);
            }
          ]
    ]

-- AT THE PRODUCE OF AN ITEM

-- a produce of item y, before which these were put in
pub record PutAt (xs : List ℕ) (y : ℕ) (cs : List Call) : Type 0 where
  pub prefix : List Call
  pub put : Call
  pub back : List Call
  pub is : cs ≡ prefix ++ put ∷ back
  pub before : put_items prefix ≡ xs
  pub asks : put.op ≡ Produce y
  pub returns : put.reply ≡ Done

with_call : (c : Call) (xs : List ℕ) (y : ℕ) (cs : List Call) (r : PutAt xs y cs)
    → PutAt (put_by c.op c.reply ++ xs) y (c ∷ cs)
with_call c xs y cs r = record {
  prefix = c ∷ r.prefix;
  put = r.put;
  back = r.back;
  is = ap (λ zs. c ∷ zs) r.is;
  before = ap (λ zs. put_by c.op c.reply ++ zs) r.before;
  asks = r.asks;
  returns = r.returns;
}

at_put : (c : Call) (cs : List Call) (v : ℕ) → c.op ≡ Produce v → c.reply ≡ Done
    → put_by c.op c.reply ≡ v ∷ [] → (xs : List ℕ) (y : ℕ) (ys : List ℕ)
    → v ∷ put_items cs ≡ xs ++ y ∷ ys
    → ((zs : List ℕ) → put_items cs ≡ zs ++ y ∷ ys → PutAt zs y cs) → PutAt xs y (c ∷ cs)
at_put c cs v asks returns one [] y ys e rest = record {
  prefix = [];
  put = c;
  back = cs;
  is = refl;
  before = refl;
  asks = (let same : v ≡ y = cc in asks ∙ ap Produce same);
  returns = returns;
}
at_put c cs v asks returns one (x ∷ xs) y ys e rest =
    let same : v ≡ x = cc in
    let left : put_items cs ≡ xs ++ y ∷ ys = cc in
    subst (λ zs. PutAt (zs ++ xs) y (c ∷ cs)) (one ∙ ap (λ w. w ∷ []) same)
    (with_call c xs y cs (rest xs left))

put_cases : (op : Op) (r : Reply)
    → ((v : ℕ) × (op ≡ Produce v) × (r ≡ Done) × (put_by op r ≡ v ∷ [])) ⊎ (put_by op r ≡ [])
put_cases (Produce v) Done = inl (v, refl, refl, refl)
put_cases (Produce v) (Number w) = inr refl
put_cases (Produce v) Timeout = inr refl
put_cases Consume r = inr refl
put_cases Advance r = inr refl
put_cases Read r = inr refl
put_cases (Await v) r = inr refl
put_cases Ticket r = inr refl
put_cases (P i) r = inr refl
put_cases (V i) r = inr refl
put_cases (PBoth i j) r = inr refl
put_cases (Put v) r = inr refl
put_cases Get r = inr refl

nothing_put : (xs : List ℕ) (y : ℕ) (ys : List ℕ) → [] ≡ xs ++ y ∷ ys → PutAt xs y []
nothing_put [] y ys e = absurd (cc)
nothing_put (x ∷ xs) y ys e = absurd (cc)

pub put_at : (cs : List Call) (xs : List ℕ) (y : ℕ) (ys : List ℕ) → put_items cs ≡ xs ++ y ∷ ys
    → PutAt xs y cs
put_at [] xs y ys e = nothing_put xs y ys e
put_at (c ∷ cs) xs y ys e =
    elim (put_cases c.op c.reply) [
      | inr none ↦ (let rest : put_items cs ≡ xs ++ y ∷ ys =
          ap (λ zs. zs ++ put_items cs) (sym none) ∙ e in
          subst (λ zs. PutAt (zs ++ xs) y (c ∷ cs)) none
          (with_call c xs y cs (put_at cs xs y ys rest)))
      | inl p ↦ (let rest : p.0 ∷ put_items cs ≡ xs ++ y ∷ ys =
          ap (λ zs. zs ++ put_items cs) (sym p.3) ∙ e in
          at_put c cs p.0 p.1 p.2 p.3 xs y ys rest (λ zs q. put_at cs zs y ys q))
    ]
