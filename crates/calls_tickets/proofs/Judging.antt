-- The state of a monitor decides whether the events so far have a linearization.
use Rattle.std.proofs.Common.{◌≡◌, ℕ, ◌+◌, ◌<◌, ◌≤◌, ◌⊎◌, inl, inr, ◌==◌, Bool, true, false, nat_le}
use Rattle.std.proofs.Common.{List, [], ◌∷◌, map, refl, ap, sym, arith, subst, count_by}
use Rattle.std.specs.List.{Contains}
use Rattle.std.proofs.lemmas.Bool.{cases_lt, le-leb, lt-leb, leb-true, eq-eqb}
use Rattle.calls_core.specs.declared.history.Kind.TheVariants.{Sequencer}
use Rattle.calls_core.specs.declared.history.Event.{Event}
use Rattle.calls_core.specs.declared.history.PendingCall.{PendingCall}
use Rattle.calls_core.specs.declared.history.Call.{Call}
use Rattle.calls_core.specs.Lists.{Each, EachPair}
use Rattle.calls_core.specs.Histories.{clock, pending_calls, completed_calls, IsHistoryOf}
use Rattle.calls_core.specs.Calls.{AreCallsOf, Earlier}
use Rattle.calls_core.specs.Outcomes.{HasOrderOf}
use Rattle.calls_core.proofs.Lists.{each_weaker, each_both, all_from_each}
use Rattle.calls_core.proofs.Counting.{one, one_yes, one_no, one_less, count_cons, count_less}
use Rattle.calls_core.proofs.Counting.{count_none}
use Rattle.calls_core.proofs.Positions.{are_calls_of}
use Rattle.calls_core.specs.declared.pending.NotedCall.{NotedCall}
use Rattle.calls_core.specs.Pending.{noted_calls}
use Rattle.calls_tickets.specs.declared.fault.Fault.{Fault}
use Rattle.calls_tickets.specs.declared.fault.Fault.TheVariants.{Twice, Turned, Drawn}
use Rattle.calls_tickets.specs.Faults.{number, FromTwice, FromDrawn, Shows}
use Rattle.calls_tickets.specs.kept.Watching.{IsTop, Paired, Unpaired, Following}
use Rattle.calls_tickets.proofs.Wholes.{decided}
use Rattle.calls_tickets.proofs.Histories.{tickets_until}
use Rattle.calls_tickets.proofs.Numbering.{each_contains, contains_first, contains_later, count_two}
use Rattle.calls_tickets.proofs.Numbering.{each_to, hole_free, tops_rise}

-- LISTS

pub each_unmap : {X Y : Type 0} (f : X → Y) (P : Y → Type 0) (xs : List X) → Each P (map f xs)
    → Each (λ x. P (f x)) xs
each_unmap f P [] h = tt
each_unmap f P (x ∷ xs) h = (h.0, each_unmap f P xs h.1)

each_pair_unmap : {X Y : Type 0} (f : X → Y) (R : Y → Y → Type 0) (xs : List X)
    → EachPair R (map f xs) → EachPair (λ x y. R (f x) (f y)) xs
each_pair_unmap f R [] h = tt
each_pair_unmap f R (x ∷ xs) h = (each_unmap f (R (f x)) xs h.0, each_pair_unmap f R xs h.1)

count_map : {X Y : Type 0} (f : X → Y) (p : Y → Bool) (xs : List X)
    → count_by p (map f xs) ≡ count_by (λ x. p (f x)) xs
count_map f p [] = refl
count_map f p (x ∷ xs) = omega (
  arith,
  count_cons p (f x) (map f xs),
  count_cons (λ y.
      p (f y)) x xs,
  count_map f p xs,
)

abbrev invoked_to : ℕ → List NotedCall → ℕ
invoked_to n us = count_by (λ (u : NotedCall). nat_le u.call.first n) us

abbrev noted_to : ℕ → List NotedCall → ℕ
noted_to n us = count_by (λ (u : NotedCall). nat_le u.noted n) us

abbrev holes_to : ℕ → List ℕ → ℕ
holes_to n holes = count_by (λ (h : ℕ). nat_le h n) holes

invoked_calls : (n : ℕ) (us : List NotedCall) → count_by (λ (o : PendingCall). nat_le o.first n)
    (noted_calls us) ≡ invoked_to n us
invoked_calls n us = count_map (λ (u : NotedCall). u.call)
    (λ (o : PendingCall). nat_le o.first n) us

-- WITH A PENDING TICKET FOR EACH HOLE NO FAULT IS SHOWN

module _ (past : List Event) (history : IsHistoryOf Sequencer past) (top : ℕ) (holes : List ℕ)
    (us : List NotedCall) (f : Following past top holes us) where
  done : List Call
  done = completed_calls past

  calls : AreCallsOf Sequencer (completed_calls past) (pending_calls past) (clock past)
  calls = are_calls_of Sequencer past history

  paired_few : (c : Call) → Contains (completed_calls past) c
      → (hs : List ℕ) (vs : List NotedCall) → Each (λ (u : NotedCall). IsTop
      (completed_calls past) u.call.first u.noted) vs → Paired hs vs
      → holes_to (number c) hs ≤ invoked_to c.last vs
  paired_few c known [] vs t p = omega arith
  paired_few c known (h ∷ hs) [] t p = absurd p
  paired_few c known (h ∷ hs) (u ∷ vs) t p =
      omega (
        arith,
        count_cons (λ (g : ℕ). nat_le g (number c)) h hs,
        count_cons (λ (v : NotedCall). nat_le v.call.first c.last) u vs,
        paired_few c known hs vs t.1 p.1,
        one_less (nat_le h (number c)) (nat_le u.call.first c.last) (λ e.
            le-leb u.call.first c.last (invoked (leb-true h (number c) e))),
      )
    where
      invoked : h ≤ number c → u.call.first ≤ c.last
      invoked le = elim (cases_lt c.last u.call.first) [
        | inl before ↦
            let less : number c < u.noted = each_contains (λ (d : Call). d.last < u.call.first
            → number d < u.noted) (completed_calls past) c t.0.above known before in
            absurd (omega (arith, p.0))
        | inr le ↦ le
      ]

  not_drawn : Paired holes us → (c : Call) → FromDrawn (completed_calls past) (pending_calls past) c
      → ⊥
  not_drawn p c d =
      let lt : number c < top = each_contains (λ (d : Call). number d < top) (completed_calls past)
      c f.holes_are.below d.known in
      absurd (omega (
        arith,
        d.few,
        each_to (completed_calls past) top holes f.holes_are (number c) lt,
        paired_few c d.known holes us f.noted p,
        invoked_calls c.last us,
        ap (count_by (λ (o : PendingCall). nat_le o.first c.last)) f.pending_is,
      ))

  not_twice : (a b : Call) → FromTwice (completed_calls past) a b → ⊥
  not_twice a b t =
      let lt : number a < top = each_contains (λ (d : Call). number d < top) (completed_calls past)
      a f.holes_are.below t.first in
      absurd (omega (
        arith,
        f.holes_are.each_once (number a) lt,
        count_two (λ (d : Call). number d == number a) (completed_calls past) a b t.first t.second
            (eq-eqb (number a) (number a) refl)
            (eq-eqb (number b) (number a) (sym t.same)) (λ e.
            t.apart (ap (λ (c : Call). c.last) e)),
      ))

  no_fault : Paired holes us → (g : Fault) → Shows past g → ⊥
  no_fault p (Twice a b) h = not_twice a b h
  no_fault p (Turned a b) h = f.straight a b h
  no_fault p (Drawn c) h = not_drawn p c h

  pub watched_order : Paired holes us → HasOrderOf Sequencer past
  watched_order p = go (decided (completed_calls past) (pending_calls past) (clock past)
      (tickets_until past (clock past) history (omega arith)))
    where
      go : HasOrderOf Sequencer past ⊎ ((g : Fault) × Shows past g) → HasOrderOf Sequencer past
      go (inl l) = l
      go (inr g) = absurd (no_fault p g.0 g.1)

  -- A HOLE WITH TOO FEW PENDING TICKETS

  record First (h : ℕ) (cs : List Call) : Type 0 where
    call : Call
    known : Contains cs call
    high : h < number call
    first : Each (λ (d : Call). h < number d → call.last ≤ d.last) cs

  -- the first ticket that returned a number above h, if one did
  first_above : (h : ℕ) (cs : List Call) → EachPair (λ (a b : Call). b.last < a.last) cs
      → First h cs ⊎ Each (λ (d : Call). number d ≤ h) cs
  first_above h [] falls = inr tt
  first_above h (c ∷ cs) falls = go (first_above h cs falls.1)
    where
      go : First h cs ⊎ Each (λ (d : Call). number d ≤ h) cs → First h (c ∷ cs)
          ⊎ Each (λ (d : Call). number d ≤ h) (c ∷ cs)
      go (inl r) =
          (let later : r.call.last < c.last = each_contains (λ (b : Call). b.last < c.last) cs
          r.call falls.0 r.known in
          inl (record {
            call = r.call;
            known = contains_later c cs r.call r.known;
            high = r.high;
            first = (λ lt. omega arith, r.first);
          }))
      go (inr none) = elim (cases_lt h (number c)) [
        | inl lt ↦ inl (record {
          call = c;
          known = contains_first c cs;
          high = lt;
          first = (
            λ l. omega arith,
            each_weaker (λ (d : Call). number d ≤ h)
                (λ (d : Call). h < number d → c.last ≤ d.last) (λ d le l.
                absurd (omega arith)) cs none,
          );
        })
        | inr le ↦ inr (le, none)
      ]

  noted_rise : EachPair (λ (u v : NotedCall). u.noted ≤ v.noted) us
  noted_rise = rise us f.noted (each_pair_unmap (λ (u : NotedCall). u.call) Earlier us
      (subst (EachPair Earlier) f.pending_is calls.rises))
    where
      rise : (vs : List NotedCall) → Each (λ (u : NotedCall). IsTop (completed_calls past)
          u.call.first u.noted) vs → EachPair (λ (u v : NotedCall). u.call.first < v.call.first)
          vs → EachPair (λ (u v : NotedCall). u.noted ≤ v.noted) vs
      rise [] t r = tt
      rise (u ∷ vs) t r = (
        each_both (λ (v : NotedCall). IsTop (completed_calls past) v.call.first v.noted)
            (λ (v : NotedCall). u.call.first < v.call.first) (λ (v : NotedCall). u.noted
            ≤ v.noted)
            (λ (v : NotedCall) a lt. tops_rise (completed_calls past) u.call.first v.call.first
            u.noted v.noted t.0 a (omega arith)) vs t.1 r.0,
        rise vs t.1 r.1,
      )

  record Lack (hs : List ℕ) (vs : List NotedCall) : Type 0 where
    hole : ℕ
    known : Contains hs hole
    few : noted_to hole vs < holes_to hole hs

  lack : (hs : List ℕ) (vs : List NotedCall) → EachPair (λ (g h : ℕ). g < h) hs
      → EachPair (λ (u v : NotedCall). u.noted ≤ v.noted) vs → Unpaired hs vs → Lack hs vs
  lack [] vs rises noted u = absurd u
  lack (h ∷ hs) [] rises noted u = record {
    hole = h;
    known = contains_first h hs;
    few =
        omega (
          arith,
          count_cons (λ (g : ℕ). nat_le g h) h hs,
          one_yes (nat_le h h)
              (le-leb h h (omega arith)),
        );
  }
  lack (h ∷ hs) (v ∷ vs) rises noted (inl lt) = record {
    hole = h;
    known = contains_first h hs;
    few =
        (let none : noted_to h vs ≡ 0 = count_none (λ (w : NotedCall). nat_le w.noted h) vs
        (all_from_each (λ (w : NotedCall). nat_le w.noted h ≡ false) vs
        (each_weaker (λ (w : NotedCall). v.noted ≤ w.noted)
        (λ (w : NotedCall). nat_le w.noted h ≡ false)
        (λ (w : NotedCall) le. lt-leb w.noted h (omega arith)) vs noted.0)) in
        omega (
          arith,
          none,
          count_cons (λ (g : ℕ). nat_le g h) h hs,
          one_yes (nat_le h h) (le-leb h h (omega arith)),
          count_cons (λ (w : NotedCall). nat_le w.noted h) v vs,
          one_no (nat_le v.noted h) (lt-leb v.noted h lt),
        ));
  }
  lack (h ∷ hs) (v ∷ vs) rises noted (inr u) =
      (let r = lack hs vs rises.1 noted.1 u in
      let less : h < r.hole = each_contains (λ (g : ℕ). h < g) hs r.hole rises.0 r.known in
      record {
        hole = r.hole;
        known = contains_later h hs r.hole r.known;
        few = omega (
          arith,
          r.few,
          count_cons (λ (g : ℕ). nat_le g r.hole) h hs,
          one_yes (nat_le h r.hole) (le-leb h r.hole (omega arith)),
          count_cons (λ (w : NotedCall). nat_le w.noted r.hole) v vs,
          one_most (nat_le v.noted r.hole),
        );
      })
    where
      one_most : (b : Bool) → one b ≤ 1
      one_most true = omega arith
      one_most false = omega arith

  drawn_at : (h : ℕ) → Contains holes h → noted_to h us < holes_to h holes
      → First h (completed_calls past) → (g : Fault) × Shows past g
  drawn_at h hole few e =
      let c = e.call in
      let lt : number c < top = each_contains (λ (d : Call). number d < top) (completed_calls past)
      c f.holes_are.below e.known in
      let invoked : invoked_to c.last us ≤ noted_to h us =
      count_less (λ (u : NotedCall). nat_le u.call.first c.last)
      (λ (u : NotedCall). nat_le u.noted h) us
      (all_from_each (λ (u : NotedCall). nat_le u.call.first c.last ≡ true
      → nat_le u.noted h ≡ true) us
      (each_weaker (λ (u : NotedCall). IsTop (completed_calls past) u.call.first u.noted)
      (λ (u : NotedCall). nat_le u.call.first c.last ≡ true → nat_le u.noted h ≡ true)
      (λ (u : NotedCall) t is. le-leb u.noted h (low u (leb-true u.call.first c.last is)
      t.reached)) us f.noted)) in
      let more : holes_to h holes ≤ holes_to (number c) holes =
      count_less (λ (g : ℕ). nat_le g h) (λ (g : ℕ). nat_le g (number c)) holes
      (all_from_each (λ (g : ℕ). nat_le g h ≡ true → nat_le g (number c) ≡ true) holes
      (each_weaker (λ (g : ℕ). g < top) (λ (g : ℕ). nat_le g h ≡ true → nat_le g (number c) ≡ true)
      (λ g l is. (let le : g ≤ h = leb-true g h is in le-leb g (number c) (omega (arith, e.high))))
      holes f.holes_are.inside)) in (
        Drawn c,
        record {
          known = e.known;
          few = omega (
            arith,
            few,
            invoked,
            more,
            each_to (completed_calls past) top holes f.holes_are (number c) lt,
            invoked_calls c.last us,
            ap (count_by (λ (o : PendingCall). nat_le o.first c.last)) f.pending_is,
          );
        },
      )
    where
      low : (u : NotedCall) → u.call.first ≤ e.call.last → (u.noted ≡ 0)
          ⊎ ((d : Call) × Contains (completed_calls past) d × (d.last < u.call.first)
          × (u.noted ≡ number d + 1)) → u.noted ≤ h
      low u le (inl is) = omega arith
      low u le (inr (d, known, before, is)) = elim (cases_lt (number d) h) [
        | inl lt ↦ omega arith
        | inr high ↦ elim (cases_lt h (number d)) [
          | inl above ↦
              let late : e.call.last ≤ d.last = each_contains (λ (d : Call). h < number d
              → e.call.last ≤ d.last) (completed_calls past) d e.first known above in
              absurd (omega arith)
          | inr same ↦ absurd (hole_free (completed_calls past) top holes h f.holes_are hole d known
              (omega arith))
        ]
      ]

  pub unpaired_shows : Unpaired holes us → (g : Fault) × Shows past g
  unpaired_shows u =
      (let r = lack holes us f.holes_are.rises noted_rise u in
      elim (first_above r.hole (completed_calls past) calls.falls) [
        | inl e ↦ drawn_at r.hole r.known r.few e
        | inr none ↦ absurd (below r.hole r.known none f.top_is.reached)
      ])
    where
      below : (h : ℕ) → Contains holes h → Each (λ (d : Call). number d ≤ h) (completed_calls past)
          → (top ≡ 0) ⊎ ((d : Call) × Contains (completed_calls past) d × (d.last < clock past)
          × (top ≡ number d + 1)) → ⊥
      below h known none (inl is) = (let lt : h < top =
          each_contains (λ (g : ℕ). g < top) holes h f.holes_are.inside known in
          absurd (omega arith))
      below h known none (inr (d, there, before, is)) =
          (let lt : h < top = each_contains (λ (g : ℕ). g < top) holes h f.holes_are.inside known in
          let le : number d ≤ h = each_contains (λ (d : Call). number d ≤ h) (completed_calls past)
          d none there in
          hole_free (completed_calls past) top holes h f.holes_are known d there (omega arith))
