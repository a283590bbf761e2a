-- A history that shows a fault has no linearization.
use Rattle.std.proofs.Common.{◌≡◌, ℕ, zero, ◌+◌, ◌-◌, Some, ◌<◌, ◌≤◌, inl, inr, Bool, true, false}
use Rattle.std.proofs.Common.{◌&&◌, nat_le, nat_lt, List, [], ◌∷◌, ◌++◌, refl, ap, sym, ◌∙◌, arith}
use Rattle.std.proofs.Common.{subst, count_by, append_assoc}
use Rattle.std.specs.List.{All, AllPairs, Contains}
use Rattle.std.proofs.lemmas.Bool.{le-ltb, le-leb, lt-leb, cases_lt, and_left, and_right}
use Rattle.std.proofs.lemmas.List.Elements.{All-weaker, All-contains, Contains-append_right}
use Rattle.std.proofs.lemmas.List.Sorted.{Contains-permutation}
use Rattle.calls_core.specs.declared.history.Kind.TheVariants.{Eventcount}
use Rattle.calls_core.specs.declared.history.Op.{Op}
use Rattle.calls_core.specs.declared.history.Op.TheVariants.{Advance, Read, Await}
use Rattle.calls_core.specs.declared.history.Reply.{Reply}
use Rattle.calls_core.specs.declared.history.Reply.TheVariants.{Done, Number, Timeout}
use Rattle.calls_core.specs.declared.history.Event.{Event}
use Rattle.calls_core.specs.declared.history.Call.{Call}
use Rattle.calls_counts.specs.declared.fault.Fault.{Fault}
use Rattle.calls_counts.specs.declared.fault.Fault.TheVariants.{Below, Few, Many, Since}
use Rattle.calls_core.specs.Histories.{clock, pending_calls, completed_calls, IsHistoryOf}
use Rattle.calls_counts.specs.CountRuns.{CountGives, count_after, IsCountRun, IsCountOrder}
use Rattle.calls_core.specs.Linearizations.{KeepsOrder, answered_calls, initial}
use Rattle.calls_counts.specs.Laws.{AFaultLeavesNoOrder}
use Rattle.calls_counts.proofs.Runs.{counting, each_moved}
use Rattle.calls_core.specs.Lists.{Each}
use Rattle.calls_core.proofs.Lists.{each_append}
use Rattle.calls_counts.specs.Faults.{is_advance, invoked_upto, lies_between, made_between, least}
use Rattle.calls_counts.specs.Faults.{most, Contradicts, FromSince, FromFew, FromMany, Shows}
use Rattle.calls_core.proofs.Counting.{one, one_no, count_cons, count_append, count_moved}
use Rattle.calls_core.proofs.Counting.{count_less, count_none, Split, split_at, in_either}
use Rattle.calls_core.proofs.Counting.{pairs_left, pairs_right}
use Rattle.calls_counts.proofs.Events.{Spans, all_span, CallFits, pending_fit, completed_fit}
use Rattle.calls_counts.proofs.Events.{answered_fit, begun_call, begun_few}

-- THE OBJECT

pub least_given : (n : ℕ) (op : Op) (r : Reply) → CountGives n op r → least op r ≤ n
least_given n Read (Number m) h = (let e : m ≡ n = grind arith in omega arith)
least_given n (Await v) Done h = h
least_given n (Await v) (Number m) h = (let e : m ≡ n = h.1 in omega arith)
least_given n op r h = omega arith

pub most_given : (n : ℕ) (op : Op) (r : Reply) (m : ℕ) → most op r ≡ Some m → CountGives n op r
    → n ≤ m
most_given n Read (Number k) m e h = (let same : k ≡ m = grind arith in let is : k ≡ n =
    grind arith in omega arith)
most_given n (Await v) (Number k) m e h = (let same : k ≡ m = grind arith in let is : k ≡ n = h.1 in
    omega arith)
most_given n (Await v) Timeout m e h = (let same : v - 1 ≡ m = grind arith in let lt : n < v = h in
    omega arith)
most_given n op r m e h = cc

pub none_given : (n : ℕ) (op : Op) (r : Reply) → Contradicts op r → CountGives n op r → ⊥
none_given n (Await v) (Number m) b h = (let lt : m < v = b in let le : v ≤ n = h.0 in
    let e : m ≡ n = h.1 in omega arith)
none_given n (Await v) Timeout b h = (let e : v ≡ 0 = b in let lt : n < v = h in omega arith)
none_given n op r b h = absurd b

abbrev pub advances : List Call → ℕ
advances cs = count_by (λ (c : Call). is_advance c.op) cs

pub after_one : (n : ℕ) (op : Op) → count_after n op ≡ n + one (is_advance op)
after_one n Advance = refl
after_one n op = omega arith

-- a call in a legal sequential history returns what the count before it gives
run_at : (n m : ℕ) (xs : List Call) (c : Call) (ys : List Call) → m ≡ n + advances xs
    → IsCountRun n (xs ++ c ∷ ys) → CountGives m c.op c.reply
run_at n m [] c ys e run = (let same : n ≡ m = omega arith in
    subst (λ k. CountGives k c.op c.reply) same run.0)
run_at n m (x ∷ xs) c ys e run =
    run_at (count_after n x.op) m xs c ys (omega (
      arith,
      after_one n x.op,
      count_cons
          (λ (y : Call). is_advance y.op) x xs,
    )) run.1

-- A CALL IN AN ORDER, AND THE CALLS BEFORE AND AFTER IT

record Placing (start : ℕ) (calls : List Call) (c : Call) (xs ys : List Call) : Type 0 where
  pub gives : CountGives (start + advances xs) c.op c.reply
  pub before : All (λ a. KeepsOrder a c) xs
  pub behind : All (KeepsOrder c) ys
  pub counts : (p : Call → Bool) → count_by p calls ≡ count_by p xs + (one (p c) + count_by p ys)

placing : (start : ℕ) (calls cs : List Call) (c : Call) (xs ys : List Call)
    → IsCountOrder start calls cs → cs ≡ xs ++ c ∷ ys → Placing start calls c xs ys
placing start calls cs c xs ys legal is =
    let ordered : AllPairs KeepsOrder (xs ++ c ∷ ys) = subst (AllPairs KeepsOrder) is legal.in_order
    in
    record {
      gives = run_at start (start + advances xs) xs c ys (omega arith)
          (subst (IsCountRun start) is legal.run);
      before = pairs_left KeepsOrder xs c ys ordered;
      behind = pairs_right KeepsOrder xs c ys ordered;
      counts = λ p. sym (count_moved p calls cs legal.each_once) ∙ ap (count_by p) is
          ∙ count_append p xs (c ∷ ys) ∙ ap (λ n. count_by p xs + n) (count_cons p c ys);
    }

place_of : (start : ℕ) (calls cs : List Call) (c : Call) → IsCountOrder start calls cs
    → Contains calls c → Split cs c
place_of start calls cs c legal known = split_at cs c (Contains-permutation calls cs c
    legal.each_once known)

-- FEW

begun_early : (c a : Call) → KeepsOrder a c → is_advance a.op ≡ true → begun_call c.last a ≡ true
begun_early c a h e = ap (λ b. b && nat_le a.first c.last) e ∙ le-leb a.first c.last
    (elim (cases_lt c.last a.first) [ inl lt ↦ absurd (h lt) | inr le ↦ le ])

few : (start : ℕ) (past : List Event) (more cs : List Call) (c : Call)
    → count_by (begun_call c.last) (more ++ completed_calls past) ≤ invoked_upto c.last past
    → IsCountOrder start (more ++ completed_calls past) cs → FromFew start past c → ⊥
few start past more cs c begun legal f =
    let s = place_of start (more ++ completed_calls past) cs c legal
    (Contains-append_right more (completed_calls past) c f.known) in
    let p = placing start (more ++ completed_calls past) cs c s.prefix s.back legal s.is in
    let low : least c.op c.reply ≤ start + advances s.prefix =
    least_given (start + advances s.prefix) c.op c.reply p.gives in
    let all : advances s.prefix ≤ count_by (begun_call c.last) s.prefix =
    count_less (λ (a : Call). is_advance a.op) (begun_call c.last) s.prefix (All-weaker (λ a.
    KeepsOrder a c) (λ (a : Call). is_advance a.op ≡ true → begun_call c.last a ≡ true)
    (begun_early c) s.prefix p.before) in
    omega (arith, low, all, f.more, p.counts (begun_call c.last), begun)

-- MANY

-- a call after c in the order has no response before its invocation
behind_none : (a : ℕ) (c x : Call) → KeepsOrder c x → lies_between a c.first x ≡ false
behind_none a c x h =
    and_right (is_advance x.op) (nat_le a x.first && nat_lt x.last c.first)
    (and_right (nat_le a x.first) (nat_lt x.last c.first)
    (le-ltb x.last c.first (elim (cases_lt x.last c.first) [
      | inl lt ↦ absurd (h lt)
      | inr le ↦
          le
    ])))

-- advances with responses before the invocation of c are before it in the order
made_before : (start : ℕ) (more done : List Call) (a : ℕ) (c : Call) (xs ys : List Call)
    → is_advance c.op ≡ false → Placing start (more ++ done) c xs ys
    → made_between a c.first done ≤ made_between a c.first xs
made_before start more done a c xs ys reading p =
    let behind : made_between a c.first ys ≡ 0 =
    count_none (lies_between a c.first) ys (All-weaker (KeepsOrder c) (λ x.
    lies_between a c.first x ≡ false) (behind_none a c) ys p.behind) in
    let own : one (lies_between a c.first c) ≡ 0 = one_no (lies_between a c.first c)
    (and_left (is_advance c.op) (nat_le a c.first && nat_lt c.last c.first) reading) in
    omega (
      arith,
      behind,
      own,
      p.counts (lies_between a c.first),
      count_append
          (lies_between a c.first) more done,
    )

pub first_part : (b d : Bool) → (b && d) ≡ true → b ≡ true
first_part true d h = refl
first_part false d h = h

lies_advance : (a d : ℕ) (xs : List Call) → made_between a d xs ≤ advances xs
lies_advance a d xs = count_less (lies_between a d) (λ (c : Call). is_advance c.op) xs (λ k e lt.
    first_part _ _)

many : (start : ℕ) (past : List Event) (more cs : List Call) (c : Call)
    → IsCountOrder start (more ++ completed_calls past) cs → FromMany start past c → ⊥
many start past more cs c legal f =
    let done = completed_calls past in
    let s = place_of start (more ++ done) cs c legal (Contains-append_right more done c
    f.call.known) in
    let p = placing start (more ++ done) cs c s.prefix s.back legal s.is in
    let same : start + advances s.prefix ≤ f.number = most_given (start + advances s.prefix) c.op
    c.reply f.number f.call.number p.gives in
    omega (
      arith,
      same,
      f.fewer,
      made_before start more done 0 c s.prefix s.back f.call.reading p,
      lies_advance 0 c.first s.prefix,
    )

-- SINCE

contains_split : (xs : List Call) (x : Call) → Split xs x → Contains xs x
contains_split xs x r = subst (λ (zs : List Call). Contains zs x) (sym r.is)
    (Contains-append_right r.prefix (x ∷ r.back) x (zero, omega arith, refl))

-- a call before s in the order was not invoked after its response
before_none : (d : ℕ) (s x : Call) → KeepsOrder x s → lies_between (s.last + 1) d x ≡ false
before_none d s x h =
    and_right (is_advance x.op) (nat_le (s.last + 1) x.first && nat_lt x.last d)
    (and_left (nat_le (s.last + 1) x.first) (nat_lt x.last d)
    (elim (cases_lt s.last x.first) [
      | inl lt ↦ absurd (h lt)
      | inr le ↦
          lt-leb (s.last + 1) x.first (omega arith)
    ]))

since_after : (start : ℕ) (more done cs : List Call) (c s : Call) (number : ℕ)
    (xs ys us vs : List Call) → IsCountOrder start (more ++ done) cs → is_advance c.op ≡ false
    → is_advance s.op ≡ false → Placing start (more ++ done) c xs ys → cs ≡ xs ++ c ∷ ys
    → xs ≡ us ++ s ∷ vs → start + advances xs ≤ number → number < least s.op s.reply + made_between
    (s.last + 1) c.first done → ⊥
since_after start more done cs c s number xs ys us vs legal reading readingS p is in_front same
    fewer =
    let whole : cs ≡ us ++ s ∷ (vs ++ c ∷ ys) = is ∙ ap (λ zs. zs ++ c ∷ ys) in_front
    ∙ append_assoc us (s ∷ vs) (c ∷ ys) in
    let q = placing start (more ++ done) cs s us (vs ++ c ∷ ys) legal whole in
    let low : least s.op s.reply ≤ start + advances us =
    least_given (start + advances us) s.op s.reply q.gives in
    let none : made_between (s.last + 1) c.first us ≡ 0 =
    count_none (lies_between (s.last + 1) c.first) us (All-weaker (λ x. KeepsOrder x s) (λ x.
    lies_between (s.last + 1) c.first x ≡ false) (before_none c.first s) us q.before) in
    let own : one (lies_between (s.last + 1) c.first s) ≡ 0 =
    one_no (lies_between (s.last + 1) c.first s) (and_left (is_advance s.op)
    (nat_le (s.last + 1) s.first && nat_lt s.last c.first) readingS) in
    let parts : made_between (s.last + 1) c.first xs ≡ made_between (s.last + 1) c.first us +
    (one (lies_between (s.last + 1) c.first s) + made_between (s.last + 1) c.first vs) =
    ap (made_between (s.last + 1) c.first) in_front ∙ count_append
    (lies_between (s.last + 1) c.first) us (s ∷ vs) ∙ ap (λ n.
    made_between (s.last + 1) c.first us + n) (count_cons (lies_between (s.last + 1) c.first) s
    vs) in
    let all : advances xs ≡ advances us + (one (is_advance s.op) + advances vs) =
    ap advances in_front ∙ count_append (λ (y : Call). is_advance y.op) us (s ∷ vs) ∙ ap (λ n.
    advances us + n) (count_cons (λ (y : Call). is_advance y.op) s vs) in
    omega (
      arith,
      low,
      none,
      own,
      parts,
      all,
      same,
      fewer,
      made_before start more done
          (s.last + 1) c xs ys reading p,
      lies_advance (s.last + 1) c.first vs,
    )

since : (start : ℕ) (past : List Event) (more cs : List Call) (c s : Call)
    → IsHistoryOf (Eventcount start) past → IsCountOrder start (more ++ completed_calls past) cs
    → FromSince past c s → ⊥
since start past more cs c s history legal f =
    let done = completed_calls past in
    let i = place_of start (more ++ done) cs c legal (Contains-append_right more done c
    f.call.known) in
    let p = placing start (more ++ done) cs c i.prefix i.back legal i.is in
    let same : start + advances i.prefix ≤ f.number = most_given (start + advances i.prefix) c.op
    c.reply f.number f.call.number p.gives in
    let before : s.last < c.first = f.before in
    let spans : Spans (clock past) c = All-contains (Spans (clock past)) done c
    (all_span (Eventcount start) past history) f.call.known in
    let known : Contains cs s = Contains-permutation (more ++ done) cs s legal.each_once
    (Contains-append_right more done s f.known) in
    elim (in_either i.prefix c i.back s (subst (λ (zs : List Call). Contains zs s) i.is known)) [
      | inl r ↦ since_after start more done cs c s f.number i.prefix i.back r.prefix r.back legal
          f.call.reading f.reading p i.is r.is same f.fewer
      | inr (inl e) ↦ (let own : c.last < c.first = subst (λ (z : Call). z.last < c.first)
          (sym e) before in absurd (omega arith))
      | inr (inr r) ↦ absurd (All-contains (KeepsOrder c) i.back s p.behind
          (contains_split i.back s r) before)
    ]

-- EACH FAULT

pub shown : (start : ℕ) (past : List Event) (more cs : List Call) (f : Fault)
    → IsHistoryOf (Eventcount start) past
    → ((d : ℕ) → count_by (begun_call d) (more ++ completed_calls past) ≤ invoked_upto d past)
    → IsCountOrder start (more ++ completed_calls past) cs → Shows start past f → ⊥
shown start past more cs (Below c) history begun legal f =
    (let calls = more ++ completed_calls past in
    let s = place_of start calls cs c legal (Contains-append_right more (completed_calls past) c
    f.known) in
    none_given (start + advances s.prefix) c.op c.reply f.below
    (placing start calls cs c s.prefix s.back legal s.is).gives)
shown start past more cs (Few c) history begun legal f =
    few start past more cs c (begun c.last) legal f
shown start past more cs (Many c) history begun legal f = many start past more cs c legal f
shown start past more cs (Since c s) history begun legal f =
    since start past more cs c s history legal f

pub no_order : AFaultLeavesNoOrder
no_order start past f t cs history shows l =
    let more = answered_calls t l.answer (pending_calls past) in
    let kind = Eventcount start in
    let fits : Each (CallFits kind) (more ++ completed_calls past) =
    each_append (CallFits kind) more (completed_calls past) (answered_fit kind t l.answer
    (pending_calls past) (pending_fit kind past history)) (completed_fit kind past history) in
    shown start past more cs f history (λ d. begun_few kind d t l.answer past history)
    (record {
      each_once = l.each_once;
      in_order = l.in_order;
      run =
          counting start cs (each_moved (CallFits kind) (more ++ completed_calls past) cs
          l.each_once
          fits) (initial (Some kind)) l.run;
    }) shows
