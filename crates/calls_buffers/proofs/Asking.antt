-- Who puts items in and takes them out, and what is counted of them.
use Rattle.std.proofs.Common.{◌≡◌, ℕ, ◌<◌, Bool, true, false, ◌&&◌, nat_le, List, ◌∷◌}
use Rattle.std.proofs.Common.{get_or, refl, ap, ◌∙◌, arith, count_by}
use Rattle.std.specs.List.{Contains}
use Rattle.std.proofs.lemmas.Bool.{eq-eqb, eqb-true, and_from, and_parts}
use Rattle.std.proofs.lemmas.List.{get_or_default}
use Rattle.calls_core.specs.declared.history.Op.{Op}
use Rattle.calls_core.specs.declared.history.Op.TheVariants.{Advance, Read, Await, Ticket, P, V}
use Rattle.calls_core.specs.declared.history.Op.TheVariants.{PBoth, Put, Get, Produce, Consume}
use Rattle.calls_core.specs.declared.history.Reply.{Reply}
use Rattle.calls_core.specs.declared.history.Reply.TheVariants.{Done, Number, Timeout}
use Rattle.calls_core.specs.declared.history.Call.{Call}
use Rattle.calls_core.proofs.Counting.{one_yes, count_cons, count_append, count_none, split_at}
use Rattle.calls_buffers.specs.Counts.{item, produces, is_consume, put_one, took_one, is_take}
use Rattle.calls_buffers.specs.Counts.{invoked_takes, untaken}

-- WHO PUTS AND WHO TAKES

pub put_asked : (test : ℕ → Bool) (op : Op) (r : Reply) → put_one test op r ≡ true
    → produces test op ≡ true
put_asked test (Produce v) Done e = e
put_asked test (Produce v) (Number w) e = absurd (cc)
put_asked test (Produce v) Timeout e = absurd (cc)
put_asked test Consume r e = absurd (cc)
put_asked test Advance r e = absurd (cc)
put_asked test Read r e = absurd (cc)
put_asked test (Await v) r e = absurd (cc)
put_asked test Ticket r e = absurd (cc)
put_asked test (P i) r e = absurd (cc)
put_asked test (V i) r e = absurd (cc)
put_asked test (PBoth i j) r e = absurd (cc)
put_asked test (Put v) r e = absurd (cc)
put_asked test Get r e = absurd (cc)

-- the item that was taken
record Took (test : ℕ → Bool) (op : Op) (r : Reply) : Type 0 where
  value : ℕ
  asks : op ≡ Consume
  returns : r ≡ Number value
  passes : test value ≡ true

took : (test : ℕ → Bool) (op : Op) (r : Reply) → took_one test op r ≡ true → Took test op r
took test Consume (Number v) e =
    record { value = v; asks = refl; returns = refl; passes = e }
took test Consume Done e = absurd (cc)
took test Consume Timeout e = absurd (cc)
took test (Produce v) r e = absurd (cc)
took test Advance r e = absurd (cc)
took test Read r e = absurd (cc)
took test (Await v) r e = absurd (cc)
took test Ticket r e = absurd (cc)
took test (P i) r e = absurd (cc)
took test (V i) r e = absurd (cc)
took test (PBoth i j) r e = absurd (cc)
took test (Put v) r e = absurd (cc)
took test Get r e = absurd (cc)

pub consumes : (op : Op) → is_consume op ≡ true → op ≡ Consume
consumes Consume e = refl
consumes (Produce v) e = absurd (cc)
consumes Advance e = absurd (cc)
consumes Read e = absurd (cc)
consumes (Await v) e = absurd (cc)
consumes Ticket e = absurd (cc)
consumes (P i) e = absurd (cc)
consumes (V i) e = absurd (cc)
consumes (PBoth i j) e = absurd (cc)
consumes (Put v) e = absurd (cc)
consumes Get e = absurd (cc)

pub take_asked : (test : ℕ → Bool) (op : Op) (r : Reply) → took_one test op r ≡ true
    → is_consume op ≡ true
take_asked test op r e = ap is_consume (took test op r e).asks

-- COUNTS

pub count_some : {X : Type 0} (p : X → Bool) (xs : List X) (x : X) → Contains xs x → p x ≡ true
    → 0 < count_by p xs
count_some p xs x h e =
    let s = split_at xs x h in
    omega (
      arith,
      ap (count_by p) s.is,
      count_append p s.prefix (x ∷ s.back),
      count_cons p x s.back,
      one_yes (p x) e,
    )

no_or_yes : (b : Bool) → (b ≡ true → ⊥) → b ≡ false
no_or_yes true f = absurd (f refl)
no_or_yes false f = refl

-- what no consume returned, none returned
pub none_untaken : (u : ℕ) (done : List Call) → invoked_takes (untaken u done) u done ≡ 0
none_untaken u done =
    let test : Call → Bool = λ (c : Call). is_take (untaken u done) c && nat_le c.first u in
    count_none test done (λ k d lt. no_or_yes (test (get_or done k d)) (λ e.
    let c = get_or done k d in
    let here : Contains done c = (k, lt, get_or_default done k c d lt) in
    let parts = and_parts (is_take (untaken u done) c) (nat_le c.first u) e in
    let t = took (untaken u done) c.op c.reply parts.0 in
    let own : Call → Bool = λ (x : Call). is_take (item t.value) x && nat_le x.first u in
    let takes : is_take (item t.value) c ≡ true = ap (λ op. took_one (item t.value) op c.reply)
    t.asks ∙ ap (took_one (item t.value) Consume) t.returns ∙ eq-eqb t.value t.value refl in
    let more = count_some own done c here
    (and_from (is_take (item t.value) c) (nat_le c.first u) takes parts.1) in
    let none = eqb-true (invoked_takes (item t.value) u done) 0 t.passes in
    absurd (omega arith)))
