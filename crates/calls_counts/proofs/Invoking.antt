-- The invocation of a call.
use Rattle.std.proofs.Common.{◌≡◌, ℕ, suc, ◌+◌, ◌<◌, ◌≤◌, ◌⊎◌, inl, inr, true, false, ◌&&◌, nat_le}
use Rattle.std.proofs.Common.{nat_lt, List, [], ◌∷◌, ◌++◌, length, Option, Some, None, refl, ap}
use Rattle.std.proofs.Common.{◌∙◌, arith, subst, length-append}
use Rattle.std.specs.List.{cons_option}
use Rattle.std.specs.Option.{IfSome}
use Rattle.std.specs.List.Sorted.{IsPermutation}
use Rattle.std.proofs.lemmas.Bool.{le-leb, lt-ltb, and_from}
use Rattle.std.proofs.lemmas.List.{length-map}
use Rattle.calls_core.specs.declared.history.PendingCall.{PendingCall}
use Rattle.calls_core.specs.declared.history.Call.{Call}
use Rattle.calls_counts.specs.declared.state.Slot.{Slot}
use Rattle.calls_counts.specs.declared.state.PlacedRead.{PlacedRead}
use Rattle.calls_counts.specs.Faults.{Reached, is_advance, least, lies_between, made_between}
use Rattle.calls_core.specs.Lists.{Each, EachFrom, EachPair}
use Rattle.calls_counts.specs.ScanStates.{free, taken_calls, placed_calls, moments, Fits, IsSlotAt}
use Rattle.calls_counts.specs.ScanStates.{Rises, IsAround, IsNotedCall, may_take, takers, IsReadAt}
use Rattle.calls_counts.specs.ScanStates.{IsState}
use Rattle.calls_core.proofs.Counting.{one, one_yes, count_cons, count_append, count_moved}
use Rattle.calls_core.proofs.Lists.{each_from_weaker, each_weaker, each_append, each_from_right}
use Rattle.calls_core.proofs.Lists.{each_from_none, each_both, each_map, each_from_short}
use Rattle.calls_core.proofs.Lists.{each_pair_right}
use Rattle.calls_core.specs.declared.pending.NotedCall.{NotedCall}
use Rattle.calls_counts.proofs.Slots.{slot_later, pending_later, read_later, taken_free}
use Rattle.calls_counts.proofs.Slots.{enough_more}

-- BY COUNTING, THE COUNT WAS AT LEAST THE NUMBER OF SLOTS

abbrev Counts : ℕ → ℕ → Option Call → Type 0
Counts a d None = ⊥
Counts a d (Some c) = lies_between a d c ≡ true

counted_one : (a d : ℕ) (o : Option Call) (cs : List Call) (n : ℕ) → Counts a d o
    → made_between a d cs ≡ n → made_between a d (cons_option o cs) ≡ n + 1
counted_one a d None cs n h e = absurd h
counted_one a d (Some c) cs n h e = omega (
  arith,
  count_cons (lies_between a d) c cs,
  one_yes
      (lies_between a d c) h,
)

counted : (a d : ℕ) (slots : List Slot) → Each (λ (s : Slot). Counts a d s.taken) slots
    → made_between a d (taken_calls slots) ≡ length slots
counted a d [] h = refl
counted a d (s ∷ slots) h = omega (
  arith,
  counted_one a d s.taken (taken_calls slots)
      (length slots) h.0 (counted a d slots h.1),
)

counts_one : (a t d m : ℕ) (o : Option Call) → t ≤ d → free o ≡ false → IfSome o (Fits t m)
    → IfSome o (λ (c : Call). a ≤ c.first) → Counts a d o
counts_one a t d m None le f h k = absurd (cc)
counts_one a t d m (Some c) le f h k =
    and_from (is_advance c.op) (nat_le a c.first && nat_lt c.last d) (ap is_advance h.op)
    (and_from (nat_le a c.first) (nat_lt c.last d) (le-leb a c.first k)
    (lt-ltb c.last d (let early : c.last < t = h.early in omega arith)))

record LastFree (slots : List Slot) : Type 0 where
  pub prefix : List Slot
  pub slot : Slot
  pub back : List Slot
  pub is : slots ≡ prefix ++ slot ∷ back
  pub none : slot.taken ≡ None
  pub full : Each (λ (s : Slot). free s.taken ≡ false) back

last_free : (slots : List Slot) → Each (λ (s : Slot). free s.taken ≡ false) slots ⊎ LastFree slots
last_free [] = inl tt
last_free (s ∷ slots) =
    elim (last_free slots) [
      | inr l ↦ inr (record {
        prefix = s ∷ l.prefix;
        slot = l.slot;
        back = l.back;
        is =
            ap (λ zs. s ∷ zs) l.is;
        none = l.none;
        full = l.full;
      })
      | inl full ↦
          elim s.taken as (λ o. s.taken ≡ o → Each (λ (z : Slot). free z.taken ≡ false) (s ∷ slots)
          ⊎ LastFree (s ∷ slots)) [
            | None ↦ λ e. inr (record {
              prefix = [];
              slot = s;
              back = slots;
              is = refl;
              none = e;
              full = full;
            })
            | Some c ↦ λ e. inl (ap free e, full)
          ] refl
    ]

made_of_taken : (calls : List Call) (slots : List Slot) (reads : List PlacedRead) (a d : ℕ)
    → IsPermutation calls (taken_calls slots ++ placed_calls reads)
    → made_between a d (taken_calls slots) ≤ made_between a d calls
made_of_taken calls slots reads a d h =
    omega (
      arith,
      count_moved (lies_between a d) calls (taken_calls slots ++ placed_calls reads) h,
      count_append (lies_between a d) (taken_calls slots) (placed_calls reads),
    )

full_reached : (start : ℕ) (calls : List Call) (t d a : ℕ) (slots : List Slot)
    (pending : List NotedCall) (reads : List PlacedRead) → t ≤ d
    → IsState start calls t a slots pending reads
    → Each (λ (s : Slot). free s.taken ≡ false) slots → Reached start calls d (start + length slots)
full_reached start calls t d a slots pending reads le h full =
    let all : made_between 0 d (taken_calls slots) ≡ length slots =
    counted 0 d slots
    (each_both (λ (s : Slot). IfSome s.taken (Fits t s.moment)) (λ (s : Slot). free s.taken ≡ false)
    (λ (s : Slot). Counts 0 d s.taken)
    (λ s f e. counts_one 0 t d s.moment s.taken le e f (from_start s.taken)) slots
    (each_from_none (IsSlotAt start calls t) (λ (s : Slot). IfSome s.taken (Fits t s.moment))
    (λ i s k. k.fits) 0 slots h.slot) full) in
    record {
      from = 0;
      base = start;
      source = inl (refl, refl);
      counted =
          omega (arith, all, made_of_taken calls slots reads 0 d h.all);
    }
  where
    from_start : (o : Option Call) → IfSome o (λ (c : Call). 0 ≤ c.first)
    from_start None = tt
    from_start (Some c) = omega arith

since_reached : (start : ℕ) (calls : List Call) (t d a : ℕ) (slots : List Slot)
    (pending : List NotedCall) (reads : List PlacedRead) → t ≤ d
    → IsState start calls t a slots pending reads
    → LastFree slots → Reached start calls d (start + length slots)
since_reached start calls t d a slots pending reads le h l =
    let at : EachFrom (IsSlotAt start calls t) (length l.prefix) (l.slot ∷ l.back) =
    each_from_right (IsSlotAt start calls t) 0 (length l.prefix) l.prefix (l.slot ∷ l.back)
    (omega arith) (subst (EachFrom (IsSlotAt start calls t) 0) l.is h.slot) in
    let pairs : EachPair Rises (l.slot ∷ l.back) = each_pair_right Rises l.prefix (l.slot ∷ l.back)
    (subst (EachPair Rises) l.is h.rises) in
    let r = at.0.raised l.none in
    let m = l.slot.moment in
    let later : Each (λ (z : Slot). IfSome z.taken (λ (c : Call). m + 1 ≤ c.first)) l.back =
    each_weaker (Rises l.slot) (λ (z : Slot). IfSome z.taken (λ (c : Call). m + 1 ≤ c.first))
    (λ z k. next z.taken m (k.later l.none)) l.back pairs.0 in
    let fits : Each (λ (z : Slot). IfSome z.taken (Fits t z.moment)) l.back =
    each_from_none (IsSlotAt start calls t) (λ (z : Slot). IfSome z.taken (Fits t z.moment))
    (λ i z k. k.fits) (length l.prefix + 1) l.back at.1 in
    let both : Each (λ (z : Slot). IfSome z.taken (Fits t z.moment)
    × IfSome z.taken (λ (c : Call). m + 1 ≤ c.first)) l.back =
    each_both (λ (z : Slot). IfSome z.taken (Fits t z.moment)) (λ (z : Slot). IfSome z.taken
    (λ (c : Call). m + 1 ≤ c.first)) (λ (z : Slot). IfSome z.taken (Fits t z.moment)
    × IfSome z.taken (λ (c : Call). m + 1 ≤ c.first)) (λ z f k. (f, k)) l.back fits later in
    let all : made_between (m + 1) d (taken_calls l.back) ≡ length l.back =
    counted (m + 1) d l.back
    (each_both (λ (z : Slot). IfSome z.taken (Fits t z.moment)
    × IfSome z.taken (λ (c : Call). m + 1 ≤ c.first)) (λ (z : Slot). free z.taken ≡ false)
    (λ (z : Slot). Counts (m + 1) d z.taken)
    (λ z f e. counts_one (m + 1) t d z.moment z.taken le e f.0 f.1) l.back both l.full) in
    let split : taken_calls slots ≡ taken_calls l.prefix ++ taken_calls l.back =
    ap taken_calls l.is ∙ taken_free l.prefix l.slot l.back l.none in
    let within : made_between (m + 1) d (taken_calls slots) ≡ made_between (m + 1) d
    (taken_calls l.prefix) + made_between (m + 1) d (taken_calls l.back) =
    ap (made_between (m + 1) d) split ∙ count_append (lies_between (m + 1) d) (taken_calls l.prefix)
    (taken_calls l.back) in
    let long : length slots ≡ length l.prefix + suc (length l.back) =
    ap length l.is ∙ length-append l.prefix (l.slot ∷ l.back) in
    let early : l.slot.moment < t = at.0.early in
    let beyond : start + length l.prefix < least r.call.op r.call.reply = r.beyond in
    let returned : r.call.last ≡ m = r.at in
    record {
      from = m + 1;
      base = least r.call.op r.call.reply;
      source = inr (record {
        call = r.call;
        known = r.known;
        reading = r.reading;
        before =
            omega arith;
        from_is = omega arith;
        base_is = refl;
      });
      counted = omega (
        arith,
        all,
        within,
        long,
        beyond,
        made_of_taken calls slots reads
            (m + 1) d h.all,
      );
    }
  where
    next : (o : Option Call) (m : ℕ) → IfSome o (λ (c : Call). m < c.first)
        → IfSome o (λ (c : Call). m + 1 ≤ c.first)
    next None m h = tt
    next (Some c) m h = omega (arith, h)

pub all_reached : (start : ℕ) (calls : List Call) (t d a : ℕ) (slots : List Slot)
    (pending : List NotedCall) (reads : List PlacedRead) → t ≤ d
    → IsState start calls t a slots pending reads → Reached start calls d (start + length slots)
all_reached start calls t d a slots pending reads le h =
    elim (last_free slots) [
      | inl full ↦ full_reached start calls t d a slots pending reads le h full
      | inr l ↦ since_reached start calls t d a slots pending reads le h l
    ]

-- ONE MORE PENDING CALL

pub early_moments : (start : ℕ) (calls : List Call) (t : ℕ) (slots : List Slot)
    → EachFrom (IsSlotAt start calls t) 0 slots → Each (λ m. m < t) (moments slots)
early_moments start calls t slots h =
    each_map (λ (s : Slot). s.moment) (λ m. m < t) slots (each_from_none (IsSlotAt start calls t)
    (λ (s : Slot). s.moment < t) (λ i s k. k.early) 0 slots h)

pub state_invoked : (start : ℕ) (calls : List Call) (t a b at : ℕ) (slots : List Slot)
    (pending : List NotedCall) (reads : List PlacedRead) (o : PendingCall) → t ≤ at → o.first ≡ at
    → b ≡ a + one (is_advance o.op) → IsState start calls t a slots pending reads
    → IsState start calls (at + 1) b slots (pending ++ record { call = o; noted = length slots }
    ∷ []) reads
state_invoked start calls t a b at slots pending reads o le first more h =
    let u : NotedCall = record { call = o; noted = length slots } in
    let ms = moments slots in
    let long : length ms ≡ length slots = length-map slots (λ (s : Slot). s.moment) in
    record {
      all = h.all;
      total = omega (
        arith,
        more,
        h.total,
        count_append (λ (w : NotedCall). is_advance w.call.op)
            pending (u ∷ []),
        count_cons (λ (w : NotedCall). is_advance w.call.op) u [],
      );
      slot = each_from_weaker (IsSlotAt start calls t) (IsSlotAt start calls (at + 1))
          ((slot_later start) [] calls t (at + 1) (omega arith)) 0 slots h.slot;
      rises = h.rises;
      call = each_append (IsNotedCall start calls (at + 1) ms) pending (u ∷ [])
          (each_weaker (IsNotedCall start calls t ms) (IsNotedCall start calls (at + 1) ms)
          ((pending_later start) [] calls t (at + 1) (omega arith) ms) pending h.call) (
            record {
              early = omega arith;
              within = omega arith;
              around = each_from_short (IsAround (length slots) o.first) (λ m. m < t) (length slots)
                  (λ i m lt e. (λ k. omega arith, λ k. absurd (omega arith))) 0 ms (omega arith)
                  (early_moments start calls t slots h.slot);
              reached = all_reached start calls t o.first a slots pending reads (omega arith) h;
            },
            tt,
          );
      enough = enough_more (takers pending) (takers (pending ++ u ∷ [])) (λ i.
          omega (arith, count_append (may_take i) pending (u ∷ []))) 0 0 slots h.enough;
      read = each_weaker (IsReadAt start t ms) (IsReadAt start (at + 1) ms)
          ((read_later start) [] calls t (at + 1) (omega arith) ms) reads h.read;
      reads_rise = h.reads_rise;
    }
