-- What a read or an await says about the count.
use Rattle.std.proofs.Common.{max, ◌≡◌, ℕ, zero, suc, ◌+◌, ◌<◌, ◌≤◌, inl, inr, false, List, [], ◌∷◌}
use Rattle.std.proofs.Common.{length, Some, refl, ap, sym, arith, subst, slice_get, get_or}
use Rattle.std.proofs.Common.{append-nil, ◌↔◌, ◌-◌, nat_lt, IsTrue, count_by, nat_le}
use Rattle.std.specs.List.{Contains}
use Rattle.std.proofs.lemmas.List.{get_or-map, length-map}
use Rattle.std.proofs.lemmas.Bool.{ltb-true, lt-ltb}
use Rattle.std.proofs.lemmas.Option.{get_or_from_slice_get}
use Rattle.calls_core.specs.declared.history.Op.{Op}
use Rattle.calls_core.specs.declared.history.Op.TheVariants.{Advance, Read, Await}
use Rattle.calls_core.specs.declared.history.Reply.{Reply}
use Rattle.calls_core.specs.declared.history.Reply.TheVariants.{Done, Number, Timeout}
use Rattle.calls_core.specs.declared.history.Call.{Call}
use Rattle.calls_counts.specs.declared.fault.Fault.TheVariants.{Many}
use Rattle.calls_counts.specs.declared.state.Slot.{Slot}
use Rattle.calls_counts.specs.declared.state.PlacedRead.{PlacedRead}
use Rattle.calls_core.specs.Histories.{Suits}
use Rattle.calls_counts.specs.CountRuns.{CountGives}
use Rattle.calls_counts.specs.Faults.{is_advance, least, most, Contradicts, made_between}
use Rattle.calls_counts.specs.ScanStates.{placed_calls, taken_calls}
use Rattle.calls_counts.specs.Scanning.{IsRaised, IsFewer, IsTooLittle, IsReckoned, AreInvocations}

-- NEW SLOTS

pub none_raised : (slots : List Slot) (n m : ℕ) → IsRaised slots slots n m
none_raised slots n m = record {
  more = [];
  is = sym (append-nil slots);
  each = tt;
  few = λ h.
      absurd (omega arith);
}

-- TOO LITTLE

abbrev pub NotFewer : List Slot → List PlacedRead → Call → ℕ → ℕ → Type 0
NotFewer slots reads call number k = (p : PlacedRead) → slice_get reads k ≡ Some p
    → IsFewer slots p.call call number → ⊥

pub not_fewer : (slots : List Slot) (reads : List PlacedRead) (call : Call) (number k : ℕ)
    (d : PlacedRead) → (IsFewer slots (get_or reads k d).call call number → ⊥)
    → NotFewer slots reads call number k
not_fewer slots reads call number k d h = λ p at. subst (λ (z : PlacedRead). IsFewer slots z.call
    call number → ⊥) (get_or_from_slice_get reads k p d at) h

pub contains_placed : (reads : List PlacedRead) (k : ℕ) (d : PlacedRead) → k < length reads
    → Contains (placed_calls reads) (get_or reads k d).call
contains_placed reads k d lt = (
  k,
  omega (arith, length-map reads (λ (p : PlacedRead). p.call)),
  get_or-map
      (λ (p : PlacedRead). p.call) reads k d (get_or reads k d).call lt,
)

placed_at : (reads : List PlacedRead) (c : Call) → Contains (placed_calls reads) c → (k : ℕ)
    × (p : PlacedRead) × (k < length reads) × (slice_get reads k ≡ Some p) × (p.call ≡ c)
placed_at [] c (k, lt, e) = absurd (omega arith)
placed_at (p ∷ reads) c (zero, lt, e) = (zero, p, omega arith, refl, e)
placed_at (p ∷ reads) c (suc k, lt, e) =
    (let r = placed_at reads c (k, (let l : k < length (placed_calls reads) = omega arith in l), e)
    in
    let l : r.0 < length reads = r.2 in (suc r.0, r.1, omega arith, r.3, r.4))

pub many_shown : (start : ℕ) (slots : List Slot) (reads : List PlacedRead) (call : Call)
    (number k : ℕ) → length reads ≤ k → ((j : ℕ) → j < k → NotFewer slots reads call number j)
    → (n : ℕ) → number < n → IsReckoned start slots reads call.first n
    → IsTooLittle start slots reads call number (Many call)
many_shown start slots reads call number k le none n lt r =
    elim r.source [
      | inl b ↦ (
        refl,
        (let zero_from : r.from ≡ 0 = b.0 in
            let zero_base : r.base ≡ start = b.1 in
            let same : made_between r.from call.first (taken_calls slots)
            ≡ made_between 0 call.first (taken_calls slots) =
            ap (λ f. made_between f call.first (taken_calls slots)) zero_from in
            omega (arith, r.counted)),
      )
      | inr s ↦
          (let at = placed_at reads s.call s.known in
          let same : made_between r.from call.first (taken_calls slots) ≡ made_between
          (s.call.last + 1) call.first (taken_calls slots) =
          ap (λ f. made_between f call.first (taken_calls slots)) s.from_is in
          let fewer : IsFewer slots s.call call number = record {
            before = s.before;
            fewer =
                omega (arith, r.counted, s.base_is);
          } in
          let here : at.0 < length reads = at.2 in
          absurd (none at.0 (omega arith) at.1 at.3 (subst (λ (z : Call). IsFewer slots z call
          number) (sym at.4) fewer)))
    ]

pub fewer_by : (slots : List Slot) (firsts : List ℕ) (s call : Call) (number n m : ℕ)
    → AreInvocations slots call.first firsts → s.last < call.first → n ≡ least s.op s.reply
    → n ≤ number → m ≡ count_by (λ f. nat_le (s.last + 1) f) firsts → IsTrue (nat_lt (number - n) m)
    ↔ IsFewer slots s call number
fewer_by slots firsts s call number n m invocations before is le count = (
  λ e. (let lt : number - n < m = ltb-true (number - n) m e in record {
    before = before;
    fewer =
        omega (arith, invocations (s.last + 1));
  }),
  λ f. lt-ltb (number - n) m (omega (arith, f.fewer, invocations (s.last + 1))),
)

-- WHAT IS GIVEN

-- a count between the least and the greatest gives the reply, unless the call is wrong by itself
pub reply_gives : (op : Op) (r : Reply) (n : ℕ) → is_advance op ≡ false → Suits op r
    → (Contradicts op r → ⊥) → least op r ≤ n → ((m : ℕ) → most op r ≡ Some m → n ≤ m)
    → CountGives n op r
reply_gives Advance r n reading s b low high = cc
reply_gives Read Done n reading s b low high = absurd s
reply_gives Read (Number k) n reading s b low high = (let le : k ≤ n = low in let ge : n ≤ k =
    high k refl in ap Number (omega arith))
reply_gives Read Timeout n reading s b low high = absurd s
reply_gives (Await v) Done n reading s b low high = low
reply_gives (Await v) (Number k) n reading s b low high = (let le : k ≤ n = low in let ge : n ≤ k =
    high k refl in let reached : v ≤ k = not_less k v b in (omega arith, omega arith))
  where
    not_less : (k v : ℕ) → (k < v → ⊥) → v ≤ k
    not_less k v b = omega arith
reply_gives (Await v) Timeout n reading s b low high = (let le : n ≤ v - 1 = high (v - 1) refl in
    let some : 0 < v = positive v b in omega arith)
  where
    positive : (v : ℕ) → (v ≡ 0 → ⊥) → 0 < v
    positive v b = omega arith
reply_gives op r n reading s b low high = tt

least_most : (op : Op) (r : Reply) (m : ℕ) → most op r ≡ Some m → least op r ≤ m
least_most Read (Number k) m e = (let same : k ≡ m = grind arith in omega arith)
least_most (Await v) (Number k) m e = (let same : k ≡ m = grind arith in omega arith)
least_most (Await v) Timeout m e = omega arith
least_most op r m e = cc

-- the count at the place of a read gives its reply
pub placed_gives : (start : ℕ) (op : Op) (r : Reply) (noted place : ℕ) → is_advance op ≡ false
    → Suits op r → (Contradicts op r → ⊥) → ((m : ℕ) → most op r ≡ Some m → start + noted ≤ m)
    → place ≡ max (least op r - start) noted → CountGives (start + place) op r
placed_gives start op r noted place reading s b high is =
    reply_gives op r (start + place) reading s b (omega (arith, is)) (λ m e.
    omega (arith, is, high m e, least_most op r m e))
