-- The items that were taken, with one call more.
use Rattle.std.proofs.Common.{◌≡◌, ℕ, ◌+◌, ◌<◌, ◌≤◌, ◌==◌, ◌&&◌, nat_eq, nat_le, Bool, true, false}
use Rattle.std.proofs.Common.{cond, not, List, [], ◌∷◌, Option, Some, None, length, take, get_or}
use Rattle.std.proofs.Common.{refl, ap, sym, ◌∙◌, arith, count_by}
use Rattle.std.proofs.lemmas.Bool.{le-leb, lt-leb, eqb-true, and_right}
use Rattle.std.proofs.lemmas.List.{take_more}
use Rattle.calls_core.specs.declared.history.Op.{Op}
use Rattle.calls_core.specs.declared.history.Op.TheVariants.{Advance, Read, Await, Ticket, P, V}
use Rattle.calls_core.specs.declared.history.Op.TheVariants.{PBoth, Put, Get, Produce, Consume}
use Rattle.calls_core.specs.declared.history.Reply.{Reply}
use Rattle.calls_core.specs.declared.history.Reply.TheVariants.{Done, Number, Timeout}
use Rattle.calls_core.specs.declared.history.Call.{Call}
use Rattle.calls_core.proofs.Counting.{one, count_cons, count_append}
use Rattle.calls_buffers.specs.Counts.{item, took_one, is_take, invoked_takes, untaken}
use Rattle.calls_buffers.specs.Accesses.{taken_item}

abbrev pub passes : (ℕ → Bool) → Option ℕ → Bool
passes test None = false
passes test (Some v) = test v

pub took_item : (test : ℕ → Bool) (op : Op) (r : Reply)
    → took_one test op r ≡ passes test (taken_item op r)
took_item test Consume (Number v) = refl
took_item test Consume Done = refl
took_item test Consume Timeout = refl
took_item test (Produce v) r = refl
took_item test Advance r = refl
took_item test Read r = refl
took_item test (Await v) r = refl
took_item test Ticket r = refl
took_item test (P i) r = refl
took_item test (V i) r = refl
took_item test (PBoth i j) r = refl
took_item test (Put v) r = refl
took_item test Get r = refl

counted_zero : (k m : ℕ) (b : Bool) → k ≡ m + one b → (k == 0) ≡ cond b false (m == 0)
counted_zero k m true e = nonzero (k == 0) refl
  where
    nonzero : (x : Bool) → (k == 0) ≡ x → x ≡ false
    nonzero true q = absurd (omega (arith, eqb-true k 0 q))
    nonzero false q = refl
counted_zero k m false e = (let same : k ≡ m = omega arith in ap (λ n. n == 0) same)

-- whether the call at place i took the item
untaken_more : (n v : ℕ) (done : List Call) (i : ℕ) (d : Call) (b : Bool) → i < length done
    → (is_take (item v) (get_or done i d) && nat_le (get_or done i d).first n) ≡ b
    → untaken n (take (i + 1) done) v ≡ cond b false (untaken n (take i done) v)
untaken_more n v done i d b lt e =
    let test : Call → Bool = λ (c : Call). is_take (item v) c && nat_le c.first n in
    let x = get_or done i d in
    counted_zero (invoked_takes (item v) n (take (i + 1) done))
    (invoked_takes (item v) n (take i done)) b (omega (
      arith,
      ap (count_by test) (take_more done i d lt),
      count_append test (take i done) (x ∷ []),
      count_cons test x [],
      ap one e,
    ))

pub untaken_late : (n v : ℕ) (done : List Call) (i : ℕ) (d : Call) → i < length done
    → n < (get_or done i d).first → untaken n (take (i + 1) done) v ≡ untaken n (take i done) v
untaken_late n v done i d lt late = untaken_more n v done i d false lt
    (and_right (is_take (item v) (get_or done i d)) (nat_le (get_or done i d).first n)
    (lt-leb (get_or done i d).first n late))

pub untaken_other : (n v : ℕ) (done : List Call) (i : ℕ) (d : Call) → i < length done
    → taken_item (get_or done i d).op (get_or done i d).reply ≡ None
    → untaken n (take (i + 1) done) v ≡ untaken n (take i done) v
untaken_other n v done i d lt e =
    let x = get_or done i d in
    untaken_more n v done i d false lt (ap (λ t. t && nat_le x.first n)
    (took_item (item v) x.op x.reply ∙ ap (passes (item v)) e))

-- it is there no longer, and the others are as before
pub untaken_item : (n v w : ℕ) (done : List Call) (i : ℕ) (d : Call) → i < length done
    → (get_or done i d).first ≤ n
    → taken_item (get_or done i d).op (get_or done i d).reply ≡ Some w → (old new : Bool)
    → new ≡ cond (nat_eq w v) true old → not old ≡ untaken n (take i done) v
    → not new ≡ untaken n (take (i + 1) done) v
untaken_item n v w done i d lt le e old new is before =
    let x = get_or done i d in
    let takes : is_take (item v) x ≡ (w == v) =
    took_item (item v) x.op x.reply ∙ ap (passes (item v)) e in
    let both : (is_take (item v) x && nat_le x.first n) ≡ (w == v) =
    ap (λ t. is_take (item v) x && t) (le-leb x.first n le)
    ∙ and_true (is_take (item v) x) ∙ takes in
    ap not is ∙ inserted (w == v) ∙ sym (untaken_more n v done i d (w == v) lt both)
  where
    and_true : (b : Bool) → (b && true) ≡ b
    and_true true = refl
    and_true false = refl

    inserted : (b : Bool) → not (cond b true old) ≡ cond b false (untaken n (take i done) v)
    inserted true = refl
    inserted false = before
