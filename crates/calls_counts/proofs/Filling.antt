-- The response of an advance.
use Rattle.std.proofs.Common.{◌≡◌, ℕ, ◌+◌, ◌<◌, ◌≤◌, true, nat_le, List, [], ◌∷◌, ◌++◌, length}
use Rattle.std.proofs.Common.{None, refl, ap, sym, ◌∙◌, arith, cond, subst, append_assoc}
use Rattle.std.proofs.Common.{length-append}
use Rattle.std.specs.List.Sorted.{IsPermutation}
use Rattle.std.proofs.lemmas.Bool.{le-leb, lt-leb, and_from, and_right}
use Rattle.std.proofs.lemmas.List.{map-append, length-map}
use Rattle.calls_core.specs.declared.history.Op.TheVariants.{Advance}
use Rattle.calls_core.specs.declared.history.Reply.TheVariants.{Done}
use Rattle.calls_core.specs.declared.history.Call.{Call}
use Rattle.calls_counts.specs.declared.state.Slot.{Slot}
use Rattle.calls_counts.specs.declared.state.PlacedRead.{PlacedRead}
use Rattle.calls_counts.specs.Faults.{is_advance}
use Rattle.calls_core.specs.Lists.{Each, EachFrom, EachPair}
use Rattle.calls_counts.specs.ScanStates.{free, frees, taken_calls, placed_calls, moments, Fits}
use Rattle.calls_counts.specs.ScanStates.{IsSlotAt, Rises, IsAround, IsNotedCall, may_take, takers}
use Rattle.calls_counts.specs.ScanStates.{Enough, IsPlaced, IsReadAt, IsState}
use Rattle.calls_counts.specs.Scanning.{FreeBelow, slot_of_call}
use Rattle.calls_core.proofs.Counting.{one, one_yes, one_no}
use Rattle.calls_core.proofs.Lists.{each_from_weaker, each_weaker, each_append, each_left}
use Rattle.calls_core.proofs.Lists.{each_right, each_from_left, each_from_right, each_from_append}
use Rattle.calls_core.proofs.Lists.{each_from_past, each_from_none, each_pair_append}
use Rattle.calls_core.proofs.Lists.{each_pair_left, each_pair_right, each_pair_across}
use Rattle.calls_core.specs.declared.pending.NotedCall.{NotedCall}
use Rattle.calls_counts.proofs.Slots.{slot_later, pending_later, read_later, taken_free, taken_some}
use Rattle.calls_counts.proofs.Slots.{moves_into, count_out, enough_same, enough_less, enough_left}
use Rattle.calls_counts.proofs.Slots.{enough_right, enough_append}

-- ONE PENDING CALL LESS

pub each_without : {X : Type 0} (P : X → Type 0) (xs : List X) (y : X) (ys : List X)
    → Each P (xs ++ y ∷ ys) → Each P (xs ++ ys)
each_without P xs y ys h = each_append P xs ys (each_left P xs (y ∷ ys) h)
    (each_right P xs (y ∷ ys) h).1

pub each_middle : {X : Type 0} (P : X → Type 0) (xs : List X) (y : X) (ys : List X)
    → Each P (xs ++ y ∷ ys) → P y
each_middle P xs y ys h = (each_right P xs (y ∷ ys) h).0

-- WITH LATER MOMENTS

pub pending_longer : (start : ℕ) (calls : List Call) (t m : ℕ) (ms new : List ℕ) (w : NotedCall)
    → t ≤ m
    → Each (λ z. z ≡ m) new → IsNotedCall start calls t ms w
    → IsNotedCall start calls t (ms ++ new) w
pending_longer start calls t m ms new w le later h =
    let early : w.call.first < t = h.early in
    record {
      early = h.early;
      within = omega (arith, h.within, length-append ms new);
      around = each_from_append (IsAround w.noted w.call.first) 0 (length ms) ms new
          (omega arith) h.around
          (each_from_past (IsAround w.noted w.call.first) (λ z. z ≡ m) (length ms) (λ i z low e.
          (λ lt. absurd (omega (arith, h.within)), λ k. omega arith)) (length ms) new
          (omega arith) later);
      reached = h.reached;
    }

pub read_longer : (start : ℕ) (t m : ℕ) (ms new : List ℕ) (p : PlacedRead) → t ≤ m
    → Each (λ z. z ≡ m) new → IsReadAt start t ms p → IsReadAt start t (ms ++ new) p
read_longer start t m ms new p le later h =
    let early : p.call.first < p.call.last = h.early in
    let returned : p.call.last < t = h.returned in
    record {
      early = h.early;
      returned = h.returned;
      within = omega (arith, h.within, length-append ms new);
      reading = h.reading;
      gives = h.gives;
      around = each_from_append (IsPlaced p.place p.call.first p.call.last) 0 (length ms) ms new
          (omega arith) h.around
          (each_from_past (IsPlaced p.place p.call.first p.call.last) (λ z. z ≡ m) (length ms)
          (λ i z low e. (λ lt. absurd (omega (arith, h.within)), λ k. omega arith))
          (length ms) new (omega arith) later);
    }

-- THE ADVANCE TAKES A FREE SLOT

pub moments_same : (xs : List Slot) (s : Slot) (c : Call) (ys : List Slot)
    → moments (xs ++ slot_of_call s.moment c ∷ ys) ≡ moments (xs ++ s ∷ ys)
moments_same [] s c ys = refl
moments_same (x ∷ xs) s c ys = ap (λ ms. x.moment ∷ ms) (moments_same xs s c ys)

front_rises : (n f m : ℕ) (c : Call) (i : ℕ) (xs : List Slot) → c.first ≡ f
    → EachFrom (FreeBelow n) i xs → EachFrom (IsAround n f) i (moments xs)
    → Each (λ (z : Slot). z.moment ≤ m) xs
    → Each (λ (z : Slot). Rises z (slot_of_call m c)) xs
front_rises n f m c i [] e k a le = tt
front_rises n f m c i (z ∷ xs) e k a le = (
  record {
    moments = le.0;
    later = λ none. (let lt : z.moment < f = a.0.0 (k.0 none) in
        omega arith);
  },
  front_rises n f m c (i + 1) xs e k.1 a.1 le.1,
)

-- a free slot before index u.noted may be taken by the same pending advances without u
front_takers : (u : NotedCall) (f g : ℕ → ℕ) (i : ℕ) (xs : List Slot)
    → ((j : ℕ) → f j ≡ one (may_take j u) + g j) → EachFrom (FreeBelow u.noted) i xs
    → EachFrom (λ j (s : Slot). s.taken ≡ None → f j ≡ g j) i xs
front_takers u f g i xs e h =
    each_from_weaker (FreeBelow u.noted) (λ j (s : Slot). s.taken ≡ None → f j ≡ g j)
    (λ j s k none. (let lt : j < u.noted = k none in omega (
      arith,
      e j,
      one_no (may_take j u)
          (and_right (is_advance u.call.op) (nat_le u.noted j) (lt-leb u.noted j lt)),
    ))) i xs h

fits_returned : (t m : ℕ) (c : Call) (f : ℕ) → c.op ≡ Advance → c.reply ≡ Done → c.first ≡ f → f < m
    → m ≤ c.last → c.last < t → Fits t m c
fits_returned t m c f op reply first lt le e = record {
  op = op;
  reply = reply;
  first = omega arith;
  last = le;
  early = omega arith;
}

-- the advance takes the first free slot from the index noted at its invocation on
pub state_filled_by : (start : ℕ) (calls : List Call) (t v a : ℕ) (xs : List Slot) (s : Slot)
    (ys : List Slot) (before : List NotedCall) (u : NotedCall) (behind : List NotedCall)
    (reads : List PlacedRead) (c : Call)
    → t ≤ v → c.last < v → s.moment ≤ c.last → c.op ≡ Advance → c.reply ≡ Done
    → c.first ≡ u.call.first → is_advance u.call.op ≡ true
    → s.taken ≡ None → u.noted ≤ length xs → EachFrom (FreeBelow u.noted) 0 xs
    → IsState start calls t a (xs ++ s ∷ ys) (before ++ u ∷ behind) reads
    → IsState start (c ∷ calls) v a (xs ++ slot_of_call s.moment c ∷ ys) (before ++ behind) reads
state_filled_by start calls t v a xs s ys before u behind reads c le past moment op reply first
    advance none low below h =
    let old = moments (xs ++ s ∷ ys) in
    let same : moments (xs ++ slot_of_call s.moment c ∷ ys) ≡ old = moments_same xs s c ys in
    let own = each_middle (IsNotedCall start calls t old) before u behind h.call in
    let slots : EachFrom (IsSlotAt start (c ∷ calls) v) 0 (xs ++ s ∷ ys) =
    each_from_weaker (IsSlotAt start calls t) (IsSlotAt start (c ∷ calls) v)
    (slot_later start (c ∷ []) calls t v (omega arith)) 0 (xs ++ s ∷ ys) h.slot in
    let at : EachFrom (IsSlotAt start (c ∷ calls) v) (length xs) (s ∷ ys) =
    each_from_right (IsSlotAt start (c ∷ calls) v) 0 (length xs) xs (s ∷ ys)
    (omega arith) slots in
    let moved : moments (xs ++ s ∷ ys) ≡ moments xs ++ s.moment ∷ moments ys =
    map-append (λ (z : Slot). z.moment) xs (s ∷ ys) in
    let around : EachFrom (IsAround u.noted u.call.first) 0 (moments xs ++ s.moment ∷ moments ys) =
    subst (EachFrom (IsAround u.noted u.call.first) 0) moved own.around in
    let here : IsAround u.noted u.call.first (length xs) s.moment =
    (each_from_right (IsAround u.noted u.call.first) 0 (length xs) (moments xs)
    (s.moment ∷ moments ys) (omega (arith, length-map xs (λ (z : Slot). z.moment))) around).0 in
    let started : u.call.first < s.moment = here.1 low in
    let pairs : EachPair Rises (s ∷ ys) = each_pair_right Rises xs (s ∷ ys) h.rises in
    let across : Each (λ x. Each (Rises x) (s ∷ ys)) xs =
    each_pair_across Rises xs (s ∷ ys) h.rises in
    let ahead : Each (λ (z : Slot). Rises z (slot_of_call s.moment c)) xs =
    front_rises u.noted u.call.first s.moment c 0 xs first below
    (each_from_left (IsAround u.noted u.call.first) 0 (moments xs) (s.moment ∷ moments ys)
    around)
    (each_weaker (λ x. Each (Rises x) (s ∷ ys)) (λ (z : Slot). z.moment ≤ s.moment) (λ z k.
    k.0.moments) xs across) in
    let f = takers (before ++ u ∷ behind) in
    let g = takers (before ++ behind) in
    let less : (j : ℕ) → f j ≡ one (may_take j u) + g j = λ j.
    count_out (may_take j) before u behind in
    let tail : Enough f (frees xs + 0) (length xs) (s ∷ ys) =
    enough_right f 0 (frees xs + 0) 0 (length xs) xs (s ∷ ys) (omega arith)
    (omega arith) h.enough in
    record {
      all = subst (IsPermutation (c ∷ calls)) (sym (ap (λ zs. zs ++ placed_calls reads)
          (taken_some xs s.moment c ys) ∙ append_assoc (taken_calls xs) (c ∷ taken_calls ys)
          (placed_calls reads)))
          (moves_into calls (taken_calls xs) (taken_calls ys ++ placed_calls reads) c
          (subst (IsPermutation calls) (ap (λ zs. zs ++ placed_calls reads)
          (taken_free xs s ys none) ∙ append_assoc (taken_calls xs) (taken_calls ys)
          (placed_calls reads)) h.all));
      total = omega (
        arith,
        h.total,
        ap length (taken_free xs s ys none),
        ap length (taken_some xs s.moment c ys),
        length-append (taken_calls xs) (taken_calls ys),
        length-append (taken_calls xs) (c ∷ taken_calls ys),
        count_out (λ (w : NotedCall). is_advance w.call.op) before u behind,
        one_yes (is_advance u.call.op) advance,
      );
      slot = each_from_append (IsSlotAt start (c ∷ calls) v) 0 (length xs) xs
          (slot_of_call s.moment c ∷ ys) (omega arith) (each_from_left (IsSlotAt start (c ∷ calls) v) 0 xs
          (s ∷ ys) slots) (
            record {
              early = at.0.early;
              fits = fits_returned v s.moment c u.call.first op reply first started moment past;
              raised = λ e. absurd (cc);
            },
            at.1,
          );
      rises = each_pair_append Rises xs (slot_of_call s.moment c ∷ ys)
          (each_pair_left Rises xs (s ∷ ys) h.rises) (
            each_weaker (Rises s) (Rises (slot_of_call s.moment c)) (λ z k. record {
              moments = k.moments;
              later = λ e. absurd (cc);
            }) ys pairs.0,
            pairs.1,
          )
          (both xs (slot_of_call s.moment c) s ys ahead across);
      call = subst (λ ms. Each (IsNotedCall start (c ∷ calls) v ms) (before ++ behind)) (sym same)
          (each_weaker (IsNotedCall start calls t old) (IsNotedCall start (c ∷ calls) v old)
          (pending_later start (c ∷ []) calls t v (omega arith) old) (before ++ behind)
          (each_without (IsNotedCall start calls t old) before u behind h.call));
      enough = enough_append g 0 (frees xs + 0) 0 (length xs) xs (slot_of_call s.moment c ∷ ys)
          (omega arith) (omega arith)
          (enough_same f g 0 0 xs (front_takers u f g 0 xs less below)
          (enough_left f 0 0 xs (s ∷ ys) h.enough)) (
            λ e. absurd (cc),
            enough_less f g ((cond (free s.taken) 1 0) + (frees xs + 0)) (0 + (frees xs + 0))
                (length xs + 1) ys (omega (arith, one_yes (free s.taken) (ap free none)))
                (λ j far. omega (
                  arith,
                  less j,
                  one_yes (may_take j u)
                      (and_from (is_advance u.call.op) (nat_le u.noted j) advance
                      (le-leb u.noted j (omega arith))),
                )) tail.1,
          );
      read = subst (λ ms. Each (IsReadAt start v ms) reads) (sym same)
          (each_weaker (IsReadAt start t old) (IsReadAt start v old)
          (read_later start (c ∷ []) calls t v (omega arith) old) reads h.read);
      reads_rise = h.reads_rise;
    }
  where
    both : (xs : List Slot) (y z : Slot) (ys : List Slot) → Each (λ x. Rises x y) xs
        → Each (λ x. Each (Rises x) (z ∷ ys)) xs → Each (λ x. Each (Rises x) (y ∷ ys)) xs
    both [] y z ys h k = tt
    both (x ∷ xs) y z ys h k = ((h.0, k.0.1), both xs y z ys h.1 k.1)

-- the same, if the advance returns after all moments
pub state_filled : (start : ℕ) (calls : List Call) (t a : ℕ) (xs : List Slot) (s : Slot)
    (ys : List Slot) (before : List NotedCall) (u : NotedCall) (behind : List NotedCall)
    (reads : List PlacedRead) (c : Call)
    → t ≤ c.last → c.op ≡ Advance → c.reply ≡ Done → c.first ≡ u.call.first
    → is_advance u.call.op ≡ true
    → s.taken ≡ None → u.noted ≤ length xs → EachFrom (FreeBelow u.noted) 0 xs
    → IsState start calls t a (xs ++ s ∷ ys) (before ++ u ∷ behind) reads
    → IsState start (c ∷ calls) (c.last + 1) a (xs ++ slot_of_call s.moment c ∷ ys)
    (before ++ behind) reads
state_filled start calls t a xs s ys before u behind reads c le op reply first advance none low
    below h =
    let moment : s.moment < t = (each_from_right (IsSlotAt start calls t) 0 (length xs) xs (s ∷ ys)
    (omega arith) h.slot).0.early in
    state_filled_by start calls t (c.last + 1) a xs s ys before u behind reads c (omega arith)
    (omega arith) (omega arith) op reply first advance none low below h

-- THE ADVANCE TAKES EFFECT AT ITS RESPONSE

pub state_forced : (start : ℕ) (calls : List Call) (t a : ℕ) (slots : List Slot)
    (before : List NotedCall) (u : NotedCall) (behind : List NotedCall) (reads : List PlacedRead) (c : Call)
    → t ≤ c.last → c.op ≡ Advance → c.reply ≡ Done → c.first ≡ u.call.first
    → is_advance u.call.op ≡ true → EachFrom (FreeBelow u.noted) 0 slots
    → IsState start calls t a slots (before ++ u ∷ behind) reads
    → IsState start (c ∷ calls) (c.last + 1) a (slots ++ slot_of_call c.last c ∷ [])
    (before ++ behind) reads
state_forced start calls t a slots before u behind reads c le op reply first advance below h =
    let v = c.last + 1 in
    let ms = moments slots in
    let more : moments (slots ++ slot_of_call c.last c ∷ []) ≡ ms ++ c.last ∷ [] =
    map-append (λ (z : Slot). z.moment) slots (slot_of_call c.last c ∷ []) in
    let own = each_middle (IsNotedCall start calls t ms) before u behind h.call in
    let early : u.call.first < t = own.early in
    let f = takers (before ++ u ∷ behind) in
    let g = takers (before ++ behind) in
    let less : (j : ℕ) → f j ≡ one (may_take j u) + g j = λ j.
    count_out (may_take j) before u behind in
    let ahead : Each (λ (z : Slot). Rises z (slot_of_call c.last c)) slots =
    front_rises u.noted u.call.first c.last c 0 slots first below own.around
    (each_from_none (IsSlotAt start calls t) (λ (z : Slot). z.moment ≤ c.last) (λ i z k.
    (let e : z.moment < t = k.early in omega arith)) 0 slots h.slot) in
    record {
      all = subst (IsPermutation (c ∷ calls)) (sym (ap (λ zs. zs ++ placed_calls reads)
          (taken_some slots c.last c []) ∙ append_assoc (taken_calls slots) (c ∷ [])
          (placed_calls reads)))
          (moves_into calls (taken_calls slots) (placed_calls reads) c h.all);
      total = omega (
        arith,
        h.total,
        ap length (taken_some slots c.last c []),
        length-append (taken_calls slots) (c ∷ []),
        count_out (λ (w : NotedCall). is_advance w.call.op) before u behind,
        one_yes (is_advance u.call.op) advance,
      );
      slot = each_from_append (IsSlotAt start (c ∷ calls) v) 0 (length slots) slots
          (slot_of_call c.last c ∷ []) (omega arith)
          (each_from_weaker (IsSlotAt start calls t) (IsSlotAt start (c ∷ calls) v)
          (slot_later start (c ∷ []) calls t v (omega arith)) 0 slots h.slot) (
            record {
              early = omega arith;
              fits = fits_returned v c.last c u.call.first op reply first (omega arith)
                  (omega arith) (omega arith);
              raised = λ e. absurd (cc);
            },
            tt,
          );
      rises = each_pair_append Rises slots (slot_of_call c.last c ∷ []) h.rises (tt, tt)
          (each_weaker (λ z. Rises z (slot_of_call c.last c)) (λ z. Each (Rises z) (slot_of_call c.last c ∷ []))
          (λ z k. (k, tt)) slots ahead);
      call = subst (λ ns. Each (IsNotedCall start (c ∷ calls) v ns) (before ++ behind)) (sym more)
          (each_weaker (IsNotedCall start calls t ms) (IsNotedCall start (c ∷ calls) v
          (ms ++ c.last ∷ []))
          (λ w k. pending_later start (c ∷ []) calls t v (omega arith) (ms ++ c.last ∷ []) w
          (pending_longer start calls t c.last ms (c.last ∷ []) w le (refl, tt) k))
          (before ++ behind) (each_without (IsNotedCall start calls t ms) before u behind
          h.call));
      enough = enough_append g 0 (frees slots + 0) 0 (length slots) slots (slot_of_call c.last c ∷ [])
          (omega arith) (omega arith)
          (enough_same f g 0 0 slots (front_takers u f g 0 slots less below) h.enough) (
            λ e.
                absurd (cc),
            tt,
          );
      read = subst (λ ns. Each (IsReadAt start v ns) reads) (sym more)
          (each_weaker (IsReadAt start t ms) (IsReadAt start v (ms ++ c.last ∷ [])) (λ p k.
          read_later start (c ∷ []) calls t v (omega arith) (ms ++ c.last ∷ []) p
          (read_longer start t c.last ms (c.last ∷ []) p le (refl, tt) k)) reads h.read);
      reads_rise = h.reads_rise;
    }
