-- The steps of a monitor, which has the number of the slots and the indices of the free ones.
use Rattle.std.proofs.Common.{Bool, true, false, ◌&&◌, cond, ◌≡◌, ℕ, zero, suc, ◌+◌, ◌-◌, ◌<◌, ◌≤◌}
use Rattle.std.proofs.Common.{inl, List, [], ◌∷◌, ◌++◌, length, Option, Some, None, refl, ap, sym}
use Rattle.std.proofs.Common.{◌∙◌, arith, subst, get_or, Result, Ok, Err, append-nil, length-append}
use Rattle.std.specs.List.{remove, range_with_len as places}
use Rattle.std.proofs.lemmas.List.Sums.{count_by-le-length}
use Rattle.calls_core.specs.declared.history.Kind.TheVariants.{Eventcount}
use Rattle.calls_core.specs.declared.history.Event.{Event}
use Rattle.calls_core.specs.declared.history.Reply.{Reply}
use Rattle.calls_core.specs.declared.history.Call.{Call}
use Rattle.calls_counts.specs.declared.state.Slot.{Slot}
use Rattle.calls_core.specs.Lists.{Each, EachFrom}
use Rattle.calls_core.specs.declared.history.Action.TheVariants.{Invoke, Respond}
use Rattle.calls_core.specs.declared.history.Op.{Op}
use Rattle.calls_counts.specs.declared.monitor.Monitor.{Monitor}
use Rattle.calls_counts.specs.declared.fault.Fault.{Fault}
use Rattle.calls_counts.specs.declared.fault.Fault.TheVariants.{Below, Few}
use Rattle.calls_core.specs.Histories.{clock, completed_calls, completion, invoked_by, IsHistoryOf}
use Rattle.calls_counts.specs.Faults.{Reached, Contradicts, is_advance, least, most}
use Rattle.calls_counts.specs.ScanStates.{free, frees, taken_calls, advancing, may_take, takers}
use Rattle.calls_counts.specs.ScanStates.{Enough}
use Rattle.calls_counts.specs.Scanning.{FreeBelow, slot_of_call, IsNew, IsRefused}
use Rattle.calls_core.specs.declared.history.TheConstants.{WORKERS}
use Rattle.calls_core.specs.Outcomes.{HasOrderOf}
use Rattle.calls_counts.specs.declared.monitor.Refusal.{Refusal}
use Rattle.calls_counts.specs.declared.monitor.Refusal.TheVariants.{Below as IsBelow, Few as IsFew}
use Rattle.calls_counts.specs.declared.monitor.Refusal.TheVariants.{Many as IsMany}
use Rattle.calls_counts.specs.Watching.{AllBelow, IsFirstPlace, own_place, free_places}
use Rattle.calls_counts.specs.Watching.{Watching, IsPossible, IsImpossible}
use Rattle.calls_counts.specs.Monitors.{Explains, refused_call, IsRefusedAt, IsTaken}
use Rattle.calls_core.proofs.Counting.{one, count_cons, count_less}
use Rattle.calls_core.specs.declared.pending.NotedCall.{NotedCall}
use Rattle.calls_core.specs.Pending.{IsNotedOf}
use Rattle.calls_counts.proofs.Slots.{slots_counted}
use Rattle.calls_counts.proofs.Necessity.{least_given, no_order}
use Rattle.calls_counts.proofs.Stepping.{invoked_into, turn, Turn, filled_into, forced_into}
use Rattle.calls_counts.proofs.Stepping.{observed_into, refused_into, noted_in, reached_in}
use Rattle.calls_counts.proofs.Deciding.{starts, First, kept_has_order}
use Rattle.calls_counts.proofs.Exactly.{too_few, seen_by}

-- INDICES OF FREE SLOTS

free_append : (i n : ℕ) (xs ys : List Slot) → n ≡ i + length xs
    → free_places i (xs ++ ys) ≡ free_places i xs ++ free_places n ys
free_append i n [] ys e = ap (λ k. free_places k ys) (let same : i ≡ n = omega arith in same)
free_append i n (s ∷ xs) ys e = go s.taken (free_append (i + 1) n xs ys (omega arith))
  where
    go : (o : Option Call) → free_places (i + 1) (xs ++ ys) ≡ free_places (i + 1) xs
        ++ free_places n ys → own_place i o (free_places (i + 1) (xs ++ ys)) ≡ own_place i o
        (free_places (i + 1) xs) ++ free_places n ys
    go None h = ap (λ ps. i ∷ ps) h
    go (Some c) h = h

free_new : (m i : ℕ) (new : List Slot) → Each (IsNew m) new
    → free_places i new ≡ places i (length new)
free_new m i [] h = refl
free_new m i (s ∷ new) h = ap (λ o. own_place i o (free_places (i + 1) new)) h.0.none ∙ ap (λ ps.
    i ∷ ps) (free_new m (i + 1) new h.1)

pub free_counted : (i : ℕ) (slots : List Slot) → length (free_places i slots) ≡ frees slots
free_counted i [] = refl
free_counted i (s ∷ slots) = go s.taken (free_counted (i + 1) slots) ∙ sym
    (count_cons (λ (z : Slot). free z.taken) s slots)
  where
    go : (o : Option Call) → length (free_places (i + 1) slots) ≡ frees slots
        → length (own_place i o (free_places (i + 1) slots)) ≡ one (free o) + frees slots
    go None h = omega (arith, h)
    go (Some c) h = omega (arith, h)

pub free_raised : (m : ℕ) (slots new : List Slot) → Each (IsNew m) new
    → free_places 0 (slots ++ new) ≡ free_places 0 slots ++ places (length slots) (length new)
free_raised m slots new h = free_append 0 (length slots) slots new (omega arith) ∙ ap (λ ps.
    free_places 0 slots ++ ps) (free_new m (length slots) new h)

pub free_forced : (slots : List Slot) (m : ℕ) (c : Call)
    → free_places 0 (slots ++ slot_of_call m c ∷ [])
    ≡ free_places 0 slots
free_forced slots m c = free_append 0 (length slots) slots (slot_of_call m c ∷ []) (omega arith)
    ∙ append-nil (free_places 0 slots)

-- THE FIRST FREE SLOT FROM INDEX n ON

pub record Pick (n i k : ℕ) (slots : List Slot) (ps : List ℕ) : Type 0 where
  pub first : First n i slots
  pub rest : (c : Call)
      → free_places i (first.prefix ++ slot_of_call first.slot.moment c ∷ first.back)
      ≡ remove ps k

pub pick : (n i : ℕ) (slots : List Slot) (k : ℕ) (ps : List ℕ) → ps ≡ free_places i slots
    → k < length ps → n ≤ get_or ps k 0 → AllBelow ps n k → Pick n i k slots ps
pick n i [] k ps e lt ge below = absurd (omega (arith, ap length e))
pick n i (s ∷ slots) k ps e lt ge below = go s.taken refl k lt ge below (λ j qs.
    pick n (i + 1) slots j qs)
  where
    tail : List ℕ
    tail = free_places (i + 1) slots

    go : (o : Option Call) → s.taken ≡ o → (k : ℕ) → k < length ps → n ≤ get_or ps k 0
        → AllBelow ps n k
        → ((j : ℕ) (qs : List ℕ) → qs ≡ free_places (i + 1) slots → j < length qs
        → n ≤ get_or qs j 0 → AllBelow qs n j → Pick n (i + 1) j slots qs)
        → Pick n i k (s ∷ slots) ps
    go (Some d) t k lt ge below rec =
        let r = rec k ps (e ∙ ap (λ o. own_place i o (free_places (i + 1) slots)) t) lt ge below in
        let f = r.first in
        record {
          first = record {
            prefix = s ∷ f.prefix;
            slot = f.slot;
            back = f.back;
            is =
                ap (λ zs. s ∷ zs) f.is;
            none = f.none;
            low = omega (arith, f.low);
            below =
                (λ none. absurd (let both : Some d ≡ None = sym t ∙ none in cc), f.below);
          };
          rest = λ c. ap (λ o. own_place i o (free_places (i + 1) (f.prefix
              ++ slot_of_call f.slot.moment c
              ∷ f.back))) t ∙ r.rest c;
        }
    go None t zero lt ge below rec =
        let is : ps ≡ i ∷ free_places (i + 1) slots = e ∙ ap (λ o.
        own_place i o (free_places (i + 1) slots)) t in
        record {
          first = record {
            prefix = [];
            slot = s;
            back = slots;
            is = refl;
            none = t;
            low =
                omega (arith, ap (λ qs. get_or qs 0 0) is);
            below = tt;
          };
          rest = λ c. ap (λ qs. remove qs 0) (sym is);
        }
    go None t (suc j) lt ge below rec =
        let is : ps ≡ i ∷ free_places (i + 1) slots = e ∙ ap (λ o.
        own_place i o (free_places (i + 1) slots)) t in
        let r = rec j (free_places (i + 1) slots) refl (omega (arith, ap length is))
        (subst (λ qs. n ≤ get_or qs (suc j) 0) is ge)
        (λ l less. subst (λ qs. get_or qs (suc l) 0 < n) is (below (suc l) (omega arith))) in
        let f = r.first in
        let own : i < n = subst (λ qs. get_or qs 0 0 < n) is (below 0 (omega arith)) in
        record {
          first = record {
            prefix = s ∷ f.prefix;
            slot = f.slot;
            back = f.back;
            is =
                ap (λ zs. s ∷ zs) f.is;
            none = f.none;
            low = omega (arith, f.low);
            below =
                (λ none. own, f.below);
          };
          rest = λ c. ap (λ o. own_place i o (free_places (i + 1) (f.prefix
              ++ slot_of_call f.slot.moment c
              ∷ f.back))) t ∙ ap (λ qs. i ∷ qs) (r.rest c) ∙ ap (λ qs. remove qs (suc j)) (sym is);
        }

pub none_from : (n i : ℕ) (slots : List Slot) (ps : List ℕ) → ps ≡ free_places i slots
    → AllBelow ps n (length ps) → EachFrom (FreeBelow n) i slots
none_from n i [] ps e below = tt
none_from n i (s ∷ slots) ps e below = go s.taken refl (λ qs. none_from n (i + 1) slots qs)
  where
    go : (o : Option Call) → s.taken ≡ o → ((qs : List ℕ) → qs ≡ free_places (i + 1) slots
        → AllBelow qs n (length qs) → EachFrom (FreeBelow n) (i + 1) slots)
        → EachFrom (FreeBelow n) i (s ∷ slots)
    go (Some d) t rec = (
      λ none. absurd (let both : Some d ≡ None = sym t ∙ none in
          cc),
      rec ps (e ∙ ap (λ o. own_place i o (free_places (i + 1) slots)) t) below,
    )
    go None t rec =
        (let is : ps ≡ i ∷ free_places (i + 1) slots = e ∙ ap (λ o.
        own_place i o (free_places (i + 1) slots)) t in (
          λ none. subst (λ qs. get_or qs 0 0 < n) is (below 0 (omega (arith, ap length is))),
          rec (free_places (i + 1) slots) refl (λ l less. subst (λ qs. get_or qs (suc l) 0 < n) is
              (below (suc l) (omega (arith, ap length is)))),
        ))

-- NO MORE FREE SLOTS THAN PENDING ADVANCES

enough_few : (f : ℕ → ℕ) (b : ℕ) → ((i : ℕ) → f i ≤ b) → (n i : ℕ) (slots : List Slot)
    → Enough f n i slots → 0 < frees slots → n + frees slots ≤ b
enough_few f b bound n i [] h some = absurd (omega arith)
enough_few f b bound n i (s ∷ slots) h some =
    go s.taken refl (cond (free s.taken) 1 0) (count_cons (λ (z : Slot). free z.taken) s slots)
    (λ e. ap (λ o. cond (free o) 1 0) e) (λ c e. ap (λ o. cond (free o) 1 0) e)
    (enough_few f b bound ((cond (free s.taken) 1 0) + n) (i + 1) slots h.1)
  where
    few_or : (k m e : ℕ) → (0 < k → (e + n) + k ≤ b) → e ≡ 1 → m ≡ 1 + k → n < f i → f i ≤ b
        → n + m ≤ b
    few_or zero m e rest own count lt le = omega (arith, own, count, lt, le)
    few_or (suc k) m e rest own count lt le = (let left : (e + n) + suc k ≤ b =
        rest (omega arith) in omega (arith, left, own, count))

    go : (o : Option Call) → s.taken ≡ o → (e : ℕ) → frees (s ∷ slots) ≡ one (free s.taken)
        + frees slots → (s.taken ≡ None → e ≡ 1) → ((c : Call) → s.taken ≡ Some c → e ≡ 0)
        → (0 < frees slots → (e + n) + frees slots ≤ b) → n + frees (s ∷ slots) ≤ b
    go (Some c) t e count own none rest =
        (let count_none : frees (s ∷ slots) ≡ 0 + frees slots =
        count ∙ ap (λ o. one (free o) + frees slots) t in
        let zero_more : e ≡ 0 = none c t in
        let left : (e + n) + frees slots ≤ b = rest (omega (arith, count_none, some)) in
        omega (arith, left, zero_more, count_none))
    go None t e count own none rest =
        few_or (frees slots) (frees (s ∷ slots)) e rest (own t) (count ∙ ap (λ o.
        one (free o) + frees slots) t) (h.0 t) (bound i)

few_of : (k b : ℕ) → (0 < k → 0 + k ≤ b) → k ≤ b
few_of zero b h = omega arith
few_of (suc k) b h = (let le : 0 + suc k ≤ b = h (omega arith) in omega arith)

takers_few : (pending : List NotedCall) (i : ℕ) → takers pending i ≤ advancing pending
takers_few pending i = count_less (may_take i) (λ (u : NotedCall). is_advance u.call.op) pending
    (λ k u lt. first_of_two _ _)
  where
    first_of_two : (a b : Bool) → (a && b) ≡ true → a ≡ true
    first_of_two true b e = refl
    first_of_two false b e = e

pub places_few : (start : ℕ) (past : List Event) (begun total : ℕ) (free : List ℕ)
    (pending : List NotedCall) → Watching start past begun total free pending
    → length free ≤ advancing pending
places_few start past begun total free pending w =
    let le = few_of (frees w.slots) (advancing pending) (enough_few (takers pending)
    (advancing pending) (takers_few pending) 0 0 w.slots w.holds.state.enough) in
    omega (arith, le, ap length w.free_is, free_counted 0 w.slots)

pub total_few : (start : ℕ) (past : List Event) (begun total : ℕ) (free : List ℕ)
    (pending : List NotedCall) → Watching start past begun total free pending → total ≤ begun
total_few start past begun total free pending w =
    let le = places_few start past begun total free pending w in
    let all : begun ≡ length (taken_calls w.slots) + advancing pending = w.holds.state.total in
    omega (
      arith,
      le,
      all,
      ap length w.free_is,
      free_counted 0 w.slots,
      slots_counted w.slots,
      w.total_is,
    )

-- STEPS

counted_exactly : (n start place total long more : ℕ) → n ≤ start + place → place ≤ long + more
    → (0 < more → start + (long + more) ≤ n) → total ≡ long → more ≡ (n - start) - total
counted_exactly n start place total long zero low within exact same = omega arith
counted_exactly n start place total long (suc more) low within exact same =
    (let le : start + (long + suc more) ≤ n = exact (omega arith) in omega arith)

pub watched_start : (start : ℕ) → Watching start [] 0 0 [] []
watched_start start = record {
  slots = [];
  reads = [];
  holds = starts start;
  total_is = refl;
  free_is = refl;
}

pub watched_order : (start : ℕ) (past : List Event) (begun total : ℕ) (free : List ℕ)
    (pending : List NotedCall) → IsHistoryOf (Eventcount start) past
    → Watching start past begun total free pending → HasOrderOf (Eventcount start) past
watched_order start past begun total free pending history w =
    kept_has_order start past begun w.slots pending w.reads history w.holds

pub watched_invoked : (start : ℕ) (past : List Event) (x : Event) (j : ℕ) (op : Op)
    (begun b total : ℕ) (free : List ℕ) (pending later : List NotedCall) → x.action ≡ Invoke j op
    → b ≡ begun + one (is_advance op)
    → later ≡ pending ++ record { call = invoked_by x j op; noted = total } ∷ []
    → IsHistoryOf (Eventcount start) (x ∷ past) → Watching start past begun total free pending
    → Watching start (x ∷ past) b total free later
watched_invoked start past x j op begun b total free pending later e more is history w = record {
  slots = w.slots;
  reads = w.reads;
  holds = invoked_into start past x j op begun b w.slots pending later w.reads total e more
      w.total_is is history w.holds;
  total_is = w.total_is;
  free_is = w.free_is;
}

module _ (start : ℕ) (past : List Event) (x : Event) (r : Reply) (begun total : ℕ) (free : List ℕ)
    (pending rest : List NotedCall) (i : ℕ) (u : NotedCall) (e : x.action ≡ Respond r)
    (k : IsNotedOf pending x.worker i) (read : u ≡ get_or pending i u) (is : rest ≡ remove pending i)
    (history : IsHistoryOf (Eventcount start) (x ∷ past))
    (w : Watching start past begun total free pending) where
  turned : Turn past x r pending rest i u
  turned = turn start past x r begun w.slots pending rest w.reads i u e k read is history w.holds

  pub watched_filled : (j : ℕ) (more : List ℕ) → is_advance u.call.op ≡ true
      → IsFirstPlace free u.noted j → more ≡ remove free j
      → Watching start (x ∷ past) begun total more rest
  watched_filled j more adds f gone =
      (let p = pick u.noted 0 w.slots j free w.free_is f.within f.high f.below in
      let c = completion x.at r u.call in
      let prefix = p.first.prefix in
      let back = p.first.back in
      let s = p.first.slot in
      let later : List Slot = prefix ++ slot_of_call s.moment c ∷ back in
      record {
        slots = later;
        reads = w.reads;
        holds = filled_into start past x r begun w.slots pending rest w.reads i u turned w.holds
            later adds
            (record {
              prefix = prefix;
              slot = s;
              back = back;
              was = p.first.is;
              is = refl;
              none =
                  p.first.none;
              low = omega (arith, p.first.low);
              below = p.first.below;
            });
        total_is = omega (
          arith,
          w.total_is,
          ap length p.first.is,
          length-append prefix
              (s ∷ back),
          length-append prefix (slot_of_call s.moment c ∷ back),
        );
        free_is = gone ∙ sym (p.rest c);
      })

  pub watched_forced : (later : ℕ) → is_advance u.call.op ≡ true
      → AllBelow free u.noted (length free) → later ≡ total + 1
      → Watching start (x ∷ past) begun later free rest
  watched_forced later adds below one_more =
      (let c = completion x.at r u.call in
      record {
        slots = w.slots ++ slot_of_call x.at c ∷ [];
        reads = w.reads;
        holds = forced_into start past x r begun w.slots pending rest w.reads i u turned w.holds
            w.slots (w.slots ++ slot_of_call x.at c ∷ []) adds
            (none_from u.noted 0 w.slots free w.free_is below) refl refl;
        total_is = omega (arith, w.total_is, one_more, length-append w.slots (slot_of_call x.at c ∷ []));
        free_is = w.free_is ∙ sym (free_forced w.slots x.at c);
      })

  pub watched_observed : (later : ℕ) (more : List ℕ) → is_advance u.call.op ≡ false
      → length pending ≤ WORKERS → IsPossible start begun total later free more u.noted
      (completion x.at r u.call)
      → Watching start (x ∷ past) begun later more rest
  watched_observed later more other few p =
      (let c = completion x.at r u.call in
      let seen = seen_by start begun u.noted c w.slots w.reads other turned.returned.suits
      (noted_in start past x r begun w.slots pending rest w.reads i u turned w.holds) p.fine
      p.few p.high in
      let o = seen.is in
      let n = least c.op c.reply in
      let low : n ≤ start + o.place = least_given (start + o.place) c.op c.reply o.gives in
      let new : length o.more ≡ (n - start) - total = counted_exactly n start o.place total
      (length w.slots) (length o.more) low o.within o.least_is w.total_is in
      let frees_are : length free ≡ frees w.slots = ap length w.free_is ∙ free_counted 0 w.slots in
      let all : begun ≡ length (taken_calls w.slots) + advancing pending = w.holds.state.total in
      let at_most : advancing pending ≤ length pending =
      count_by-le-length (λ (v : NotedCall). is_advance v.call.op) pending in
      let enough : n ≤ start + begun = p.few in
      let room : total < n - start → length free + ((n - start) - total) ≤ WORKERS = λ lt.
      omega (arith, lt, frees_are, all, at_most, enough, slots_counted w.slots, w.total_is, few)
      in
      record {
        slots = seen.later;
        reads = seen.more;
        holds = observed_into start past x r begun w.slots pending rest w.reads i u turned w.holds
            seen.later seen.more other o;
        total_is = omega (
          arith,
          p.later_is,
          w.total_is,
          new,
          ap length o.slots_are,
          length-append
              w.slots o.more,
        );
        free_is = p.more_is room ∙ ap (λ ps. ps ++ places total ((n - start) - total)) w.free_is
            ∙ ap (λ m. free_places 0 w.slots ++ places total m) (sym new) ∙ ap (λ m.
            free_places 0 w.slots ++ places m (length o.more)) w.total_is
            ∙ sym (free_raised c.last w.slots o.more o.each) ∙ ap (free_places 0) (sym o.slots_are);
      })

  refused_by : (f : Fault) (why : Refusal) → is_advance u.call.op ≡ false
      → IsRefused start begun u.noted (completion x.at r u.call) w.slots w.reads f
      → refused_call why ≡ completion x.at r u.call → Explains start past why
      → IsRefusedAt start past x why
  refused_by f why other h same explains =
      (let shows = refused_into start past x r begun w.slots pending rest w.reads i u turned w.holds
      f other h in
      record {
        fault = f;
        shows = shows;
        none = λ o. no_order start (x ∷ past) f (clock (x ∷ past)) o.0 history shows o.1;
        ended = subst (λ y. completed_calls (y ∷ past) ≡ completion x.at r u.call
            ∷ completed_calls past) (sym turned.event) turned.returned.ended
            ∙ ap (λ c. c ∷ completed_calls past) (sym same);
        explains = explains;
      })

  pub watched_refused : (why : Refusal) → is_advance u.call.op ≡ false
      → IsImpossible start begun u.noted (completion x.at r u.call) why
      → IsRefusedAt start past x why
  watched_refused (IsBelow c) other h =
      refused_by (Below (completion x.at r u.call)) (IsBelow c) other (inl (refl, h.1)) h.0
      (subst (λ (z : Call). Contradicts z.op z.reply) (sym h.0) h.1)
  watched_refused (IsFew c low invoked) other h =
      refused_by (Few (completion x.at r u.call)) (IsFew c low invoked) other
      (inl (refl, omega (arith, h.1, h.3))) h.0 (
        subst (λ (z : Call). low ≡ least z.op z.reply) (sym h.0) h.1,
        h.2 ∙ w.holds.begun_is,
        omega
            (arith, h.2, h.3),
      )
  watched_refused (IsMany c high made) other h =
      (let f = too_few start begun u.noted (completion x.at r u.call) w.slots w.reads other
      turned.returned.suits (noted_in start past x r begun w.slots pending rest w.reads i u
      turned w.holds) high h.1 h.3 in
      let reached = reached_in start past x r begun w.slots pending rest w.reads i u turned w.holds
      in
      refused_by f.fault (IsMany c high made) other f.is h.0 (
        subst (λ (z : Call). most z.op z.reply ≡ Some high) (sym h.0) h.1,
        omega (arith, h.2, h.3),
        subst (λ (z : Call). Reached start (completed_calls past) z.first (start + made)) (sym h.0)
            (subst (λ n. Reached start (completed_calls past) u.call.first (start + n))
            (sym h.2) reached),
      ))

pub taken_by : (start : ℕ) (past : List Event) (new : Monitor) → new.start ≡ start
    → IsHistoryOf (Eventcount start) past → Watching start past new.begun new.total new.free.items
    new.pending.items → IsTaken start past new
taken_by start past new e history w = record {
  same = e;
  watches = subst (λ z. Watching z past new.begun new.total new.free.items new.pending.items)
      (sym e) w;
  order = watched_order start past new.begun new.total new.free.items new.pending.items history w;
  begun = w.holds.begun_is;
  counted = total_few start past new.begun new.total new.free.items new.pending.items w;
}

pub by_result : (A B : Result Unit Refusal → Type 0) → ((u : Unit) → A (Ok u) → B (Ok u))
    → ((f : Refusal) → A (Err f) → B (Err f)) → (res : Result Unit Refusal) → A res → B res
by_result A B f g (Ok u) h = f u h
by_result A B f g (Err e) h = g e h
