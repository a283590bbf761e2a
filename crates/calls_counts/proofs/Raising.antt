-- The response of a read or an await.
use Rattle.std.proofs.Common.{◌≡◌, ℕ, zero, suc, ◌+◌, ◌<◌, ◌≤◌, Bool, true, false, ◌&&◌, nat_le}
use Rattle.std.proofs.Common.{List, [], ◌∷◌, ◌++◌, length, Option, Some, None, refl, ap, sym, ◌∙◌}
use Rattle.std.proofs.Common.{arith, cond, subst, append_assoc, append-nil, length-append}
use Rattle.std.specs.List.{cons_option}
use Rattle.std.specs.Option.{IfSome}
use Rattle.std.specs.List.Sorted.{IsPermutation}
use Rattle.std.proofs.lemmas.Bool.{le-leb, and_left}
use Rattle.std.proofs.lemmas.List.{map-append, length-map}
use Rattle.std.proofs.lemmas.List.Elements.{filter_map-append}
use Rattle.calls_core.specs.declared.history.Call.{Call}
use Rattle.calls_counts.specs.declared.state.Slot.{Slot}
use Rattle.calls_counts.specs.declared.state.PlacedRead.{PlacedRead}
use Rattle.calls_counts.specs.CountRuns.{CountGives}
use Rattle.calls_counts.specs.Faults.{is_advance, least}
use Rattle.calls_core.specs.Lists.{Each, EachPair}
use Rattle.calls_counts.specs.ScanStates.{free, frees, taken_calls, placed_calls, moments, Fits}
use Rattle.calls_counts.specs.ScanStates.{IsSlotAt, Rises, IsAround, IsNotedCall, may_take, takers}
use Rattle.calls_counts.specs.ScanStates.{advancing, Enough, IsPlaced, IsReadAt, IsState}
use Rattle.calls_counts.specs.Scanning.{IsNew}
use Rattle.calls_core.proofs.Counting.{one, one_no, count_cons}
use Rattle.calls_core.proofs.Lists.{each_from_weaker, each_weaker, each_append, each_from_append}
use Rattle.calls_core.proofs.Lists.{each_from_past, each_from_range, each_from_none, each_from_both}
use Rattle.calls_core.proofs.Lists.{each_map, each_pair_append}
use Rattle.calls_core.specs.declared.pending.NotedCall.{NotedCall}
use Rattle.calls_counts.proofs.Slots.{slot_later, pending_later, read_later, moves_into, count_out}
use Rattle.calls_counts.proofs.Slots.{slots_counted, enough_more, enough_append}
use Rattle.calls_counts.proofs.Invoking.{early_moments}
use Rattle.calls_counts.proofs.Filling.{each_without, each_middle, pending_longer, read_longer}

-- NEW SLOTS

none_taken : (m : ℕ) (new : List Slot) → Each (IsNew m) new → taken_calls new ≡ []
none_taken m [] h = refl
none_taken m (s ∷ new) h = ap (λ o. cons_option o (taken_calls new)) h.0.none ∙ none_taken m new h.1

if_none : (P : Call → Type 0) (o : Option Call) → o ≡ None → IfSome o P
if_none P None e = tt
if_none P (Some c) e = absurd (cc)

rises_new : (m : ℕ) (z s : Slot) → z.moment ≤ m → IsNew m s → Rises z s
rises_new m z s le h = record {
  moments = omega (arith, h.moment);
  later = λ e.
      if_none (λ (c : Call). z.moment < c.first) s.taken h.none;
}

new_rises : (m : ℕ) (new : List Slot) → Each (IsNew m) new → EachPair Rises new
new_rises m [] h = tt
new_rises m (s ∷ new) h = (
  each_weaker (IsNew m) (Rises s) (λ z k.
      rises_new m s z (omega (arith, h.0.moment)) k) new h.1,
  new_rises m new h.1,
)

one_at_most : (b : Bool) → one b ≤ 1
one_at_most true = omega arith
one_at_most false = omega arith

new_enough : (m : ℕ) (g : ℕ → ℕ) (b n i : ℕ) (new : List Slot) → Each (IsNew m) new
    → (0 < length new → n + length new ≤ b) → ((j : ℕ) → i ≤ j → b ≤ g j) → Enough g n i new
new_enough m g b n i [] h k l = tt
new_enough m g b n i (s ∷ new) h k l =
    let room : n + suc (length new) ≤ b = k (omega arith) in (
      λ e. (let le : b ≤ g i = l i (omega arith) in omega arith),
      new_enough m g b ((cond (free s.taken) 1 0) + n) (i + 1) new h.1 (λ some.
          omega (arith, one_at_most (free s.taken))) (λ j le. l j (omega arith)),
    )

-- every pending advance may take a slot after them all
takers_all : (start : ℕ) (calls : List Call) (t : ℕ) (ms : List ℕ) (j : ℕ) (pending : List NotedCall)
    → length ms ≤ j → Each (IsNotedCall start calls t ms) pending
    → takers pending j ≡ advancing pending
takers_all start calls t ms j [] le h = refl
takers_all start calls t ms j (w ∷ pending) le h =
    omega (
      arith,
      count_cons (may_take j) w pending,
      count_cons (λ (u : NotedCall). is_advance u.call.op) w pending,
      (takers_all start) calls t ms j pending le h.1,
      same_one (is_advance w.call.op) (nat_le w.noted j)
          (le-leb w.noted j (omega (arith, h.0.within))),
    )
  where
    same_one : (a b : Bool) → b ≡ true → one (a && b) ≡ one a
    same_one true b e = ap one e
    same_one false b e = refl

-- the state after the response of a read or an await, with its place and the new free slots
pub state_raised : (start : ℕ) (calls : List Call) (t a : ℕ) (slots new : List Slot)
    (before : List NotedCall) (u : NotedCall) (behind : List NotedCall) (reads : List PlacedRead) (c : Call)
    (place : ℕ)
    → t ≤ c.last → c.first ≡ u.call.first → is_advance c.op ≡ false → is_advance u.call.op ≡ false
    → Each (IsNew c.last) new → place ≤ length slots + length new → u.noted ≤ place
    → CountGives (start + place) c.op c.reply
    → (0 < length new → start + (length slots + length new) ≤ least c.op c.reply)
    → (0 < length new → length slots + length new ≤ a)
    → IsState start calls t a slots (before ++ u ∷ behind) reads
    → IsState start (c ∷ calls) (c.last + 1) a (slots ++ new) (before ++ behind)
    (reads ++ record { call = c; place = place } ∷ [])
state_raised start calls t a slots new before u behind reads c place le first readingC readingU
    isnew within noted gives least_is room h =
    let v = c.last + 1 in
    let p : PlacedRead = record { call = c; place = place } in
    let ms = moments slots in
    let ns = moments new in
    let more : moments (slots ++ new) ≡ ms ++ ns = map-append (λ (z : Slot). z.moment) slots new in
    let later : Each (λ m. m ≡ c.last) ns = each_map (λ (s : Slot). s.moment) (λ m. m ≡ c.last) new
    (each_weaker (IsNew c.last) (λ (s : Slot). s.moment ≡ c.last) (λ s k. k.moment) new isnew)
    in
    let taken : taken_calls (slots ++ new) ≡ taken_calls slots =
    filter_map-append (λ (z : Slot). z.taken) slots new ∙ ap (λ zs. taken_calls slots ++ zs)
    (none_taken c.last new isnew) ∙ append-nil (taken_calls slots) in
    let returned : placed_calls (reads ++ p ∷ []) ≡ placed_calls reads ++ c ∷ [] =
    map-append (λ (q : PlacedRead). q.call) reads (p ∷ []) in
    let own = each_middle (IsNotedCall start calls t ms) before u behind h.call in
    let early : u.call.first < t = own.early in
    let others : Each (IsNotedCall start calls t ms) (before ++ behind) =
    each_without (IsNotedCall start calls t ms) before u behind h.call in
    let f = takers (before ++ u ∷ behind) in
    let g = takers (before ++ behind) in
    let less : (j : ℕ) → f j ≤ g j = λ j. omega (
      arith,
      count_out (may_take j) before u behind,
      one_no (may_take j u) (and_left (is_advance u.call.op) (nat_le u.noted j) readingU),
    ) in
    let total : a ≡ length (taken_calls slots) + advancing (before ++ behind) =
    omega (
      arith,
      h.total,
      count_out (λ (w : NotedCall). is_advance w.call.op) before u behind,
      one_no
          (is_advance u.call.op) readingU,
    ) in
    let all : IsPermutation (c ∷ calls) ((taken_calls slots ++ placed_calls reads) ++ c ∷ []) =
    moves_into calls (taken_calls slots ++ placed_calls reads) [] c (subst (IsPermutation calls)
    (sym (append-nil (taken_calls slots ++ placed_calls reads))) h.all) in
    let long : length ms ≡ length slots = length-map slots (λ (z : Slot). z.moment) in
    let longer : length ns ≡ length new = length-map new (λ (z : Slot). z.moment) in
    record {
      all = subst (IsPermutation (c ∷ calls)) (append_assoc (taken_calls slots) (placed_calls reads)
          (c ∷ []) ∙ sym (ap (λ zs. zs ++ placed_calls (reads ++ p ∷ [])) taken ∙ ap (λ zs.
          taken_calls slots ++ zs) returned)) all;
      total = total ∙ sym (ap (λ zs. length zs + advancing (before ++ behind)) taken);
      slot = each_from_append (IsSlotAt start (c ∷ calls) v) 0 (length slots) slots new
          (omega arith)
          (each_from_weaker (IsSlotAt start calls t) (IsSlotAt start (c ∷ calls) v)
          (slot_later start (c ∷ []) calls t v (omega arith)) 0 slots h.slot)
          (each_from_range (IsSlotAt start (c ∷ calls) v) (IsNew c.last) (length slots)
          (length slots + length new)
          (λ i s low high k. record {
            early = omega (arith, k.moment);
            fits = if_none (Fits v s.moment) s.taken k.none;
            raised = λ e. record {
              call = c;
              known = (zero, omega arith, refl);
              reading = readingC;
              at = sym k.moment;
              beyond = omega (arith, least_is (omega arith));
            };
          }) (length slots) new (omega arith) refl isnew);
      rises = each_pair_append Rises slots new h.rises (new_rises c.last new isnew)
          (each_from_none (IsSlotAt start calls t) (λ z. Each (Rises z) new)
          (λ i z k. each_weaker (IsNew c.last) (Rises z) (λ s n.
          rises_new c.last z s (let e : z.moment < t = k.early in omega arith) n) new isnew) 0
          slots h.slot);
      call = subst (λ ks. Each (IsNotedCall start (c ∷ calls) v ks) (before ++ behind)) (sym more)
          (each_weaker (IsNotedCall start calls t ms) (IsNotedCall start (c ∷ calls) v (ms ++ ns))
          (λ w k. pending_later start (c ∷ []) calls t v (omega arith) (ms ++ ns) w
          (pending_longer start calls t c.last ms ns w le later k)) (before ++ behind) others);
      enough = enough_append g 0 (frees slots + 0) 0 (length slots) slots new (omega arith)
          (omega arith) (enough_more f g less 0 0 slots h.enough)
          (new_enough c.last g (advancing (before ++ behind)) (frees slots + 0)
          (length slots) new isnew (λ some. omega (
            arith,
            room some,
            total,
            slots_counted
                slots,
          ))
          (λ j low. omega (
            arith,
            (takers_all start) calls t ms j (before ++ behind)
                (omega arith) others,
          )));
      read = subst (λ ks. Each (IsReadAt start v ks) (reads ++ p ∷ [])) (sym more)
          (each_append (IsReadAt start v (ms ++ ns)) reads (p ∷ [])
          (each_weaker (IsReadAt start t ms) (IsReadAt start v (ms ++ ns)) (λ q k.
          read_later start (c ∷ []) calls t v (omega arith) (ms ++ ns) q
          (read_longer start t c.last ms ns q le later k)) reads h.read) (
            record {
              early = omega arith;
              returned = omega arith;
              within = omega (arith, length-append ms ns);
              reading = readingC;
              gives = gives;
              around = each_from_append (IsPlaced place c.first c.last) 0 (length ms) ms ns
                  (omega arith)
                  (each_from_both (IsAround u.noted u.call.first) (λ i m.
                  m < t) (IsPlaced place c.first c.last)
                  (λ i m k e. (
                    λ lt. omega arith,
                    λ far. (let count_after : u.call.first < m =
                        k.1 (omega arith) in omega arith),
                  )) 0 ms own.around
                  (each_from_past (λ i m. m < t) (λ m. m < t) 0 (λ i m low e. e) 0 ms (omega arith)
                  (early_moments start calls t slots h.slot)))
                  (each_from_past (IsPlaced place c.first c.last) (λ m. m ≡ c.last) 0 (λ i m low e.
                  (λ lt. omega arith, λ far. omega arith)) (length ms) ns (omega arith) later);
            },
            tt,
          ));
      reads_rise = each_pair_append (λ (q r : PlacedRead). q.call.first < r.call.last) reads
          (p ∷ []) h.reads_rise (tt, tt)
          (each_weaker (IsReadAt start t ms) (λ q. Each (λ (r : PlacedRead). q.call.first
          < r.call.last) (p ∷ [])) (λ q k. (
            (let e : q.call.first < q.call.last = k.early in
                let l : q.call.last < t = k.returned in omega arith),
            tt,
          )) reads h.read);
    }
