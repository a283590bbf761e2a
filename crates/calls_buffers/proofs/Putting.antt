-- Items are put in in the order of the consumes, if no two of these overlap, and then those that
-- nobody returned. A linearization takes the turns.
use Rattle.std.proofs.Common.{◌≡◌, ℕ, zero, suc, ◌+◌, ◌-◌, ◌<◌, ◌≤◌, ◌⊎◌, inl, inr, Bool, true}
use Rattle.std.proofs.Common.{false, if◌then◌else◌, get_or, List, [], ◌∷◌, ◌++◌, length, map, Some}
use Rattle.std.proofs.Common.{None, refl, ap, sym, ◌∙◌, subst, arith, append_assoc, append-nil}
use Rattle.std.proofs.Common.{length-append}
use Rattle.std.proofs.Math.ListN.{get_or-map}
use Rattle.std.specs.List.Sorted.{IsPermutation}
use Rattle.std.proofs.lemmas.Bool.{cases_lt, le-leb, lt-leb}
use Rattle.std.proofs.lemmas.Option.{same_Some, none-some}
use Rattle.std.proofs.lemmas.List.{map-append, length-map, get_or_append_left, nil_from_length}
use Rattle.std.proofs.lemmas.List.Sorted.{IsPermutation-sym, IsPermutation-trans}
use Rattle.std.proofs.lemmas.List.Sorted.{IsPermutation-append_left, IsPermutation-map}
use Rattle.std.proofs.lemmas.List.Sorted.{length_permutation}
use Rattle.calls_core.specs.declared.history.Kind.TheVariants.{Buffer}
use Rattle.calls_core.specs.declared.history.PendingCall.{PendingCall}
use Rattle.calls_core.specs.declared.history.Call.{Call}
use Rattle.calls_core.specs.Lists.{Each}
use Rattle.calls_core.specs.Linearizations.{IsLegalHistory, initial, IsLinearOrder}
use Rattle.calls_core.specs.Calls.{AreCallsOf}
use Rattle.calls_core.proofs.Lists.{each_weaker, each_append, each_left, each_right, all_from_each}
use Rattle.calls_core.proofs.Lists.{each_pair_append, each_pair_right}
use Rattle.calls_core.proofs.Lists.{each_pair_across}
use Rattle.calls_turns.specs.declared.turn.Turn.{Turn}
use Rattle.calls_turns.specs.declared.turn.Taker.{Taker}
use Rattle.calls_turns.specs.Turns.{IsTaking}
use Rattle.calls_buffers.specs.declared.accesses.Access.{Access}
use Rattle.calls_buffers.specs.Queues.{IsQueueRun, items_after}
use Rattle.calls_buffers.specs.Counts.{is_consume}
use Rattle.calls_buffers.specs.Turns.{takers_of, puts_of, takes_of, askers_of, asker_of, AreApart}
use Rattle.calls_buffers.specs.Turns.{asking, asking_of, absent, first_before, putting_turns}
use Rattle.calls_buffers.specs.Turns.{spare_turns, turns_in, ArePut}
use Rattle.calls_buffers.specs.Accesses.{put_item, taken_item}
use Rattle.calls_buffers.specs.Accesses.{AreWithin}
use Rattle.calls_buffers.proofs.Alongside.{Both, both_parted, both_each, both_moved, joined}
use Rattle.calls_buffers.proofs.Alongside.{short_pairs, one_order}
use Rattle.calls_buffers.proofs.Flows.{Leaves, leaves}
use Rattle.calls_buffers.proofs.Matched.{IsAccessOf, Match, Matches, accesses_later, accesses_keep}
use Rattle.calls_buffers.proofs.Matched.{IsOpen, item_of, items_put, items_taken, IsTakerOf}
use Rattle.calls_buffers.proofs.Matched.{are_takers, times, puts, ArePutsOf, takes, AreTakesIn}
use Rattle.calls_buffers.proofs.Moments.{AreTakenFrom, from_earlier, moment, moments_rise, taken_at}
use Rattle.calls_buffers.proofs.Steps.{Puts, Takes, Stays, step, Times, Next, next}
use Rattle.calls_buffers.proofs.Tallies.{queue}

-- where each of them was invoked
abbrev first_of : Access → ℕ
first_of a = a.first

-- WHEN THERE IS ROOM

-- the consume n before item number k is one of those that were done
room_from : (n end p k : ℕ) (all : List Access) (gone rest : List ℕ)
    → map first_of all ≡ gone ++ rest → k < length gone + n
    → Each (λ (f : ℕ). f ≤ p) gone → first_before n end all k ≤ p
room_from n end p k all gone rest is lt h =
    elim (cases_lt k n) [
      | inl short ↦ omega (
        arith,
        ap (λ b. if b then (get_or all (k - n) (absent end)).first else 0) (lt-leb n k short),
      )
      | inr le ↦ (let within : k - n < length gone = omega (arith, lt, le) in omega (
        arith,
        ap (λ b. if b then (get_or all (k - n) (absent end)).first else 0) (le-leb n k le),
        get_or-map first_of all (k - n) (absent end),
        ap (λ zs. get_or zs (k - n) end) is,
        get_or_append_left gone rest end (k - n) within,
        all_from_each (λ (f : ℕ). f ≤ p) gone h (k - n) end within,
      ))
    ]

spares_late : (n end : ℕ) (all : List Access) (k left : ℕ)
    → Each (λ (t : Turn). end ≤ t.by) (spare_turns n end all k left)
spares_late n end all k zero = tt
spares_late n end all k (suc left) = (omega arith, spares_late n end all (k + 1) left)

-- CALL BY CALL

module _ (n end : ℕ) (all extra : List Access) (unused : List ℕ) where
  -- of the consumes to come, so many take out what is inside, and then those of these turns follow
  record AreYet (ts coming : List Access) (size : ℕ) : Type 0 where
    inside : List Access
    is : coming ≡ inside ++ (ts ++ extra)
    many : length inside ≡ size

  -- while there are such turns
  abbrev Yet : List Access → List Access → ℕ → Type 0
  Yet [] coming size = Unit {0}
  Yet (d ∷ ts) coming size = AreYet (d ∷ ts) coming size

  begins : (ts : List Access) → Yet ts (ts ++ extra) 0
  begins [] = tt
  begins (d ∷ ts) = record { inside = []; is = refl; many = refl }

  one_put : (d : Access) (ts coming : List Access) (size more : ℕ) → more ≡ size + 1
      → AreYet (d ∷ ts) coming size → Yet ts coming more
  one_put d [] coming size more e h = tt
  one_put d (b ∷ ts) coming size more e h = record {
    inside = h.inside ++ d ∷ [];
    is = h.is ∙ sym (append_assoc h.inside (d ∷ []) (b ∷ (ts ++ extra)));
    many = omega (arith, e, h.many, length-append h.inside (d ∷ []));
  }

  one_taken : (b : Access) (ts coming : List Access) (size less : ℕ) → size ≡ less + 1
      → Yet ts (b ∷ coming) size → Yet ts coming less
  one_taken b [] coming size less e h = tt
  one_taken b (d ∷ ts) coming size less e h = own h.inside h.is h.many
    where
      own : (inside : List Access) → b ∷ coming ≡ inside ++ (d ∷ (ts ++ extra))
          → length inside ≡ size → AreYet (d ∷ ts) coming less
      own [] is many = absurd (omega (arith, e, many))
      own (x ∷ inside) is many = record {
        inside = inside;
        is = (let rest : coming ≡ inside ++ (d ∷ (ts ++ extra)) = cc in rest);
        many = omega (arith, e, many);
      }

  -- the next item is number k. These turns are left, and so many spare ones, of which the first is
  -- number b; and these items are left over
  record State (m k b left : ℕ) (items gone over : List ℕ) (ts : List Access) (cs : List Call)
      (ps qs : List (List Access)) (xs : List Taker) : Type 0 where
    run : IsQueueRun n items cs
    is : map first_of all ≡ gone ++ (map first_of (joined qs) ++ unused)
    at : k ≡ length gone + length items
    base : b ≡ k + length ts
    took : Each (λ (f : ℕ). f ≤ m) gone
    yet : Yet ts (joined qs) (length items)
    more : map item_of (joined ps) ≡ map item_of ts ++ over
    enough : length over ≤ left
    times : Times end m cs
    puts : Both (Matches put_item end) ps cs
    takes : Both (Matches taken_item end) qs cs
    takers : Both IsTakerOf xs (joined ps)

  abbrev turns_left : ℕ → ℕ → List Access → ℕ → List Turn
  turns_left k b ts left = putting_turns n end all k ts ++ spare_turns n end all b left

  abbrev Goes : List Call → Type 0
  Goes cs = (m k b left : ℕ) (items gone over : List ℕ) (ts : List Access)
      (ps qs : List (List Access)) (xs : List Taker)
      → State m k b left items gone over ts cs ps qs xs
      → AreTakenFrom end m (turns_left k b ts left) xs

  module _ (c : Call) (cs : List Call) (goes : Goes cs) (m k b : ℕ) (items gone : List ℕ)
      (ps qs : List (List Access)) (u : Next end m c cs)
      (run : IsQueueRun n (items_after items c.op c.reply) cs)
      (at : k ≡ length gone + length items) (took : Each (λ (f : ℕ). f ≤ m) gone)
      (puts : Both (Matches put_item end) ps cs) (takes : Both (Matches taken_item end) qs cs) where
    still : Each (λ (f : ℕ). f ≤ u.moment) gone
    still = each_weaker (λ (f : ℕ). f ≤ m) (λ (f : ℕ). f ≤ u.moment)
        (λ f le. omega (arith, le, u.rises)) gone took

    in_time : (a : Access) → (a.last ≡ c.last) ⊎ (a.last ≡ end) → u.moment ≤ a.last
    in_time a (inl e) = omega (arith, e, u.last)
    in_time a (inr e) = omega (arith, e, u.times.early)

    -- the item of the next turn is put in
    put_known : (g : Puts n items c.op c.reply) (d a : Access) (ts : List Access) (over : List ℕ)
        (left : ℕ) (x : Taker) (xs : List Taker) → IsAccessOf end g.value c a
        → map first_of all ≡ gone ++ (map first_of (joined qs) ++ unused)
        → AreYet (d ∷ ts) (joined qs) (length items) → b ≡ k + length (d ∷ ts)
        → a.item ∷ map item_of (joined ps) ≡ d.item ∷ (map item_of ts ++ over)
        → length over ≤ left → IsTakerOf x a → Both IsTakerOf xs (joined ps)
        → AreTakenFrom end m (turns_left k b (d ∷ ts) left) (x ∷ xs)
    put_known g d a ts over left x xs p is yet base more enough t h =
        let head : a.item ≡ d.item = cc in
        let tail : map item_of (joined ps) ≡ map item_of ts ++ over = cc in
        let size : length (items_after items c.op c.reply) ≡ length items + 1 =
        omega (arith, ap length g.after, length-append items (g.value ∷ [])) in
        let later : Each (λ (a : Access). u.moment ≤ a.last) (yet.inside ++ (d ∷ (ts ++ extra))) =
        subst (Each (λ (a : Access). u.moment ≤ a.last)) yet.is
        (accesses_later taken_item end u.moment cs qs takes u.times) in
        let own = each_right (λ (a : Access). u.moment ≤ a.last) yet.inside (d ∷ (ts ++ extra))
        later in (
          u.moment,
          u.rises,
          record {
            item = λ v w e f. t.item v e ∙ head ∙ same_Some d.item w f;
            turn_from = room_from n end u.moment k all gone (map first_of (joined qs) ++ unused) is
                (omega (arith, at, g.room)) still;
            turn_by = own.0;
            from = omega (arith, t.from, p.first, u.first);
            by = omega (arith, t.by, in_time a p.last);
          },
          goes u.moment (k + 1) b left (items_after items c.op c.reply) gone over ts ps qs xs
              (record {
                run = run;
                is = is;
                at = omega (arith, at, size);
                base = omega (arith, base);
                took = still;
                yet = one_put d ts (joined qs) (length items) _ size yet;
                more = tail;
                enough = enough;
                times = u.times;
                puts = puts;
                takes = takes;
                takers = h;
              }),
        )

    -- an item is put in that is left over
    put_spare : (g : Puts n items c.op c.reply) (a : Access) (v : ℕ) (over : List ℕ) (left : ℕ)
        (x : Taker) (xs : List Taker) → IsAccessOf end g.value c a
        → map first_of all ≡ gone ++ (map first_of (joined qs) ++ unused) → b ≡ k + 0
        → a.item ∷ map item_of (joined ps) ≡ v ∷ over → length over ≤ left → IsTakerOf x a
        → Both IsTakerOf xs (joined ps)
        → AreTakenFrom end m (turns_left k b [] (suc left)) (x ∷ xs)
    put_spare g a v over left x xs p is base more enough t h =
        let tail : map item_of (joined ps) ≡ over = cc in
        let size : length (items_after items c.op c.reply) ≡ length items + 1 =
        omega (arith, ap length g.after, length-append items (g.value ∷ [])) in (
          u.moment,
          u.rises,
          record {
            item = λ v w e f. absurd (none-some w f);
            turn_from = room_from n end u.moment b all gone (map first_of (joined qs) ++ unused) is
                (omega (arith, at, base, g.room)) still;
            turn_by = u.times.early;
            from = omega (arith, t.from, p.first, u.first);
            by = omega (arith, t.by, in_time a p.last);
          },
          goes u.moment (k + 1) (b + 1) left (items_after items c.op c.reply) gone over [] ps qs xs
              (record {
                run = run;
                is = is;
                at = omega (arith, at, size);
                base = omega (arith, base);
                took = still;
                yet = tt;
                more = tail;
                enough = enough;
                times = u.times;
                puts = puts;
                takes = takes;
                takers = h;
              }),
        )

    on_put : (g : Puts n items c.op c.reply) (ts ds bs : List Access) (over : List ℕ) (left : ℕ)
        (xs : List Taker) → Match end c (Some g.value) ds → Match end c None bs
        → map first_of all ≡ gone ++ (map first_of (bs ++ joined qs) ++ unused)
        → Yet ts (bs ++ joined qs) (length items) → b ≡ k + length ts
        → map item_of (ds ++ joined ps) ≡ map item_of ts ++ over → length over ≤ left
        → Both IsTakerOf xs (ds ++ joined ps)
        → AreTakenFrom end m (turns_left k b ts left) xs
    on_put g ts [] bs over left xs p t is yet base more enough h = absurd p
    on_put g ts (a ∷ d ∷ ds) bs over left xs p t is yet base more enough h = absurd p
    on_put g ts (a ∷ []) (d ∷ bs) over left xs p t is yet base more enough h = absurd t
    on_put g ts (a ∷ []) [] over left [] p t is yet base more enough h = absurd h
    on_put g (d ∷ ts) (a ∷ []) [] over left (x ∷ xs) p t is yet base more enough h =
        put_known g d a ts over left x xs p is yet base more enough h.0 h.1
    on_put g [] (a ∷ []) [] [] left (x ∷ xs) p t is yet base more enough h = absurd (cc)
    on_put g [] (a ∷ []) [] (v ∷ over) zero (x ∷ xs) p t is yet base more enough h =
        absurd (omega (arith, enough))
    on_put g [] (a ∷ []) [] (v ∷ over) (suc left) (x ∷ xs) p t is yet base more enough h =
        put_spare g a v over left x xs p is base more (omega (arith, enough)) h.0 h.1

    on_stay : (g : Stays items c.op c.reply) (ts ds bs : List Access) (over : List ℕ) (left : ℕ)
        (xs : List Taker) → Match end c None ds → Match end c None bs
        → map first_of all ≡ gone ++ (map first_of (bs ++ joined qs) ++ unused)
        → Yet ts (bs ++ joined qs) (length items) → b ≡ k + length ts
        → map item_of (ds ++ joined ps) ≡ map item_of ts ++ over → length over ≤ left
        → Both IsTakerOf xs (ds ++ joined ps)
        → AreTakenFrom end m (turns_left k b ts left) xs
    on_stay g ts (a ∷ ds) bs over left xs p t is yet base more enough h = absurd p
    on_stay g ts [] (d ∷ bs) over left xs p t is yet base more enough h = absurd t
    on_stay g ts [] [] over left xs p t is yet base more enough h =
        from_earlier end m u.moment (turns_left k b ts left) xs u.rises
        (goes u.moment k b left (items_after items c.op c.reply) gone over ts ps qs xs (record {
          run = run;
          is = is;
          at = at ∙ ap (λ zs. length gone + length zs) (sym g.after);
          base = base;
          took = still;
          yet = subst (λ zs. Yet ts (joined qs) (length zs)) (sym g.after) yet;
          more = more;
          enough = enough;
          times = u.times;
          puts = puts;
          takes = takes;
          takers = h;
        }))

    -- the oldest item is taken out
    on_take : (g : Takes items c.op c.reply) (ts ds bs : List Access) (over : List ℕ) (left : ℕ)
        (xs : List Taker) → Match end c None ds → Match end c (Some g.value) bs
        → map first_of all ≡ gone ++ (map first_of (bs ++ joined qs) ++ unused)
        → Yet ts (bs ++ joined qs) (length items) → b ≡ k + length ts
        → map item_of (ds ++ joined ps) ≡ map item_of ts ++ over → length over ≤ left
        → Both IsTakerOf xs (ds ++ joined ps)
        → AreTakenFrom end m (turns_left k b ts left) xs
    on_take g ts (a ∷ ds) bs over left xs p t is yet base more enough h = absurd p
    on_take g ts [] [] over left xs p t is yet base more enough h = absurd t
    on_take g ts [] (a ∷ d ∷ bs) over left xs p t is yet base more enough h = absurd t
    on_take g ts [] (a ∷ []) over left xs p t is yet base more enough h =
        let size : length items ≡ length (items_after items c.op c.reply) + 1 =
        omega (arith, ap length g.before) in
        let done : List ℕ = gone ++ a.first ∷ [] in
        from_earlier end m u.moment (turns_left k b ts left) xs u.rises
        (goes u.moment k b left (items_after items c.op c.reply) done over ts ps qs xs (record {
          run = run;
          is = is ∙ sym (append_assoc gone (a.first ∷ []) (map first_of (joined qs) ++ unused));
          at = omega (arith, at, size, length-append gone (a.first ∷ []));
          base = base;
          took = each_append (λ (f : ℕ). f ≤ u.moment) gone (a.first ∷ []) still
              (omega (arith, t.first, u.first), tt);
          yet = one_taken a ts (joined qs) (length items) _ size yet;
          more = more;
          enough = enough;
          times = u.times;
          puts = puts;
          takes = takes;
          takers = h;
        }))

  each_goes : (cs : List Call) → Goes cs
  each_goes [] m k b left items gone over ts (ds ∷ ps) qs xs s = absurd s.puts
  each_goes [] m k b left items gone over ts [] qs (x ∷ xs) s = absurd s.takers
  each_goes [] m k b left items gone over (d ∷ ts) [] qs [] s =
      absurd (let e : [] ≡ d.item ∷ (map item_of ts ++ over) = s.more in cc)
  each_goes [] m k b left items gone over [] [] qs [] s = spares_late n end all b left
  each_goes (c ∷ cs) m k b left items gone over ts [] qs xs s = absurd s.puts
  each_goes (c ∷ cs) m k b left items gone over ts (ds ∷ ps) [] xs s = absurd s.takes
  each_goes (c ∷ cs) m k b left items gone over ts (ds ∷ ps) (bs ∷ qs) xs s =
      let u = next end m c cs s.times in
      elim (step n items c.op c.reply s.run.0) [
        | inl g ↦ on_put c cs (each_goes cs) m k b items gone ps qs u s.run.1 s.at s.took s.puts.1
            s.takes.1 g ts ds bs over left xs
            (subst (λ o. Match end c o ds) g.put s.puts.0)
            (subst (λ o. Match end c o bs) g.took s.takes.0) s.is s.yet s.base s.more s.enough
            s.takers
        | inr (inl g) ↦ on_take c cs (each_goes cs) m k b items gone ps qs u s.run.1 s.at s.took
            s.puts.1 s.takes.1 g ts ds bs over left xs
            (subst (λ o. Match end c o ds) g.put s.puts.0)
            (subst (λ o. Match end c o bs) g.took s.takes.0) s.is s.yet s.base s.more s.enough
            s.takers
        | inr (inr g) ↦ on_stay c cs (each_goes cs) m k b items gone ps qs u s.run.1 s.at s.took
            s.puts.1 s.takes.1 g ts ds bs over left xs
            (subst (λ o. Match end c o ds) g.put s.puts.0)
            (subst (λ o. Match end c o bs) g.took s.takes.0) s.is s.yet s.base s.more s.enough
            s.takers
      ]

-- PENDING CONSUMES

abbrev from_of : Taker → ℕ
from_of x = x.from

-- as takers and as accesses
same_one : (end i : ℕ) (o : PendingCall) (b : Bool)
    → map from_of (asker_of end i o b) ≡ map first_of (asking_of end i o b)
same_one end i o false = refl
same_one end i o true = refl

same_firsts : (end i : ℕ) (os : List PendingCall)
    → map from_of (askers_of end i os) ≡ map first_of (asking end i os)
same_firsts end i [] = refl
same_firsts end i (o ∷ os) =
    let b : Bool = is_consume o.op in
    map-append from_of (asker_of end i o b) (askers_of end (i + 1) os)
    ∙ ap (λ zs. zs ++ map from_of (askers_of end (i + 1) os)) (same_one end i o b)
    ∙ ap (λ zs. map first_of (asking_of end i o b) ++ zs) (same_firsts end (i + 1) os)
    ∙ sym (map-append first_of (asking_of end i o b) (asking end (i + 1) os))

both_firsts : (xs : List Taker) (list : List Access) → Both IsTakerOf xs list
    → map from_of xs ≡ map first_of list
both_firsts [] [] h = refl
both_firsts [] (a ∷ list) h = absurd h
both_firsts (x ∷ xs) [] h = absurd h
both_firsts (x ∷ xs) (a ∷ list) h =
    ap (λ f. f ∷ map from_of xs) h.0.from ∙ ap (λ zs. a.first ∷ zs) (both_firsts xs list h.1)

pub asking_open : (end i : ℕ) (os : List PendingCall)
    → Each (λ (o : PendingCall). o.first < end) os → Each (IsOpen end) (asking end i os)
asking_open end i [] h = tt
asking_open end i (o ∷ os) h =
    each_append (IsOpen end) (asking_of end i o (is_consume o.op)) (asking end (i + 1) os)
    (own (is_consume o.op)) (asking_open end (i + 1) os h.1)
  where
    own : (b : Bool) → Each (IsOpen end) (asking_of end i o b)
    own false = tt
    own true = (record { first = h.0; last = refl }, tt)

-- there is at most one
alone : (end : ℕ) (list : List Access) → Each (IsOpen end) list → AreApart list → length list ≤ 1
alone end [] h apart = omega arith
alone end (a ∷ []) h apart = omega arith
alone end (a ∷ b ∷ list) h apart = absurd (omega (arith, h.0.last, h.1.0.first, apart.0.0))

-- LISTS

short_same : (xs ys : List ℕ) → IsPermutation xs ys → length xs ≤ 1 → ys ≡ xs
short_same xs ys h le =
    one_order (λ (a b : ℕ). ⊥) xs ys h (short_pairs (λ (a b : ℕ). ⊥ → ⊥) xs le)
    (short_pairs (λ (a b : ℕ). ⊥) ys (omega (arith, le, length_permutation xs ys h)))

to_firsts : (P : ℕ → Type 0) (list : List Access) → Each (λ (a : Access). P a.first) list
    → Each P (map first_of list)
to_firsts P [] h = tt
to_firsts P (a ∷ list) h = (h.0, to_firsts P list h.1)

from_firsts : (P : ℕ → Type 0) (list : List Access) → Each P (map first_of list)
    → Each (λ (a : Access). P a.first) list
from_firsts P [] h = tt
from_firsts P (a ∷ list) h = (h.0, from_firsts P list h.1)

-- ONE LINEARIZATION

module _ (n t : ℕ) (done : List Call) (pending : List PendingCall) (cs : List Call)
    (l : IsLinearOrder (IsLegalHistory (initial (Some (Buffer n)))) done pending t cs)
    (h : AreCallsOf (Buffer n) done pending t) (end : ℕ) (within : AreWithin end done pending)
    (turns : List Turn) (takers : List Taker) (are : ArePut n end done pending turns takers) where
  p : ArePutsOf end done pending cs
  p = puts n t done pending cs l h end within

  q : AreTakesIn end done pending cs
  q = takes n t done pending cs l h end within

  all_times : Times end 0 cs
  all_times = times n t done pending cs l h end within

  abbrev others : List Access
  others = asking end 0 pending

  abbrev all : List Access
  all = are.takes ++ others

  abbrev listed : List Access
  listed = joined q.lists

  abbrev put : List Access
  put = joined p.lists

  abbrev whole : List Access
  whole = puts_of end done pending

  flow : Leaves n [] cs
  flow = leaves n [] cs (omega arith) (queue n t done pending cs l h)

  same_items : map item_of put ≡ map item_of listed ++ flow.left
  same_items = items_put end cs p.lists p.are ∙ flow.same
      ∙ ap (λ zs. zs ++ flow.left) (sym (items_taken end cs q.lists q.are))

  put_fewer : length put ≤ length whole
  put_fewer =
      omega (arith, length_permutation whole (put ++ p.rest) p.all, length-append put p.rest)

  moved : IsPermutation (are.takes ++ q.extra) listed
  moved = IsPermutation-trans _ _ _ (IsPermutation-append_left q.extra are.takes (takes_of done)
      (IsPermutation-sym (takes_of done) are.takes are.all)) q.all

  -- the pending ones that take an item out come after the others
  record IsListed : Type 0 where
    unused : List ℕ
    is : listed ≡ are.takes ++ q.extra
    firsts : map first_of all ≡ map first_of listed ++ unused

  listed_by : (unused : List ℕ) → AreApart (are.takes ++ q.extra)
      → map first_of q.extra ++ unused ≡ map first_of others → IsListed
  listed_by unused apart e =
      let same : are.takes ++ q.extra ≡ listed ++ [] =
      one_order (λ (a b : Access). a.last < b.first) (listed ++ []) (are.takes ++ q.extra)
      (subst (λ zs. IsPermutation zs (are.takes ++ q.extra)) (sym (append-nil listed))
      (IsPermutation-sym (are.takes ++ q.extra) listed moved))
      (accesses_keep taken_item end [] cs q.lists q.are all_times.order all_times.within tt tt)
      apart in
      let is : listed ≡ are.takes ++ q.extra = sym (same ∙ append-nil listed) in
      record {
        unused = unused;
        is = is;
        firsts = map-append first_of are.takes others
            ∙ ap (λ zs. map first_of are.takes ++ zs) (sym e)
            ∙ sym (append_assoc (map first_of are.takes) (map first_of q.extra) unused)
            ∙ ap (λ zs. zs ++ unused) (sym (map-append first_of are.takes q.extra))
            ∙ ap (λ zs. map first_of zs ++ unused) (sym is);
      }

  none_more : length whole ≤ length are.takes → IsListed
  none_more few =
      let none : q.extra ≡ [] = nil_from_length q.extra (omega (
        arith,
        few,
        put_fewer,
        length_permutation (are.takes ++ q.extra) listed moved,
        length-append are.takes q.extra,
        ap length same_items,
        length-append (map item_of listed) flow.left,
        length-map put item_of,
        length-map listed item_of,
      )) in
      listed_by (map first_of others)
      (subst AreApart (sym (ap (λ zs. are.takes ++ zs) none ∙ append-nil are.takes)) are.apart)
      (ap (λ zs. map first_of zs ++ map first_of others) none)

  one_more : AreApart all → IsListed
  one_more apart =
      let few : length others ≤ 1 = alone end others (asking_open end 0 pending within.invoked)
      (each_pair_right (λ (a b : Access). a.last < b.first) are.takes others apart) in
      let askers : List Taker = askers_of end 0 pending in
      let unused : List ℕ = map from_of q.rest in
      let same : map first_of q.extra ++ unused ≡ map first_of others =
      ap (λ zs. zs ++ unused) (sym (both_firsts q.takers q.extra q.both))
      ∙ sym (map-append from_of q.takers q.rest)
      ∙ short_same (map from_of askers) (map from_of (q.takers ++ q.rest))
      (IsPermutation-map from_of askers (q.takers ++ q.rest) q.asks)
      (omega (arith, few, ap length (same_firsts end 0 pending), length-map others first_of))
      ∙ same_firsts end 0 pending in
      let short : length q.extra ≤ 1 = omega (
        arith,
        few,
        ap length same,
        length-append (map first_of q.extra) unused,
        length-map q.extra first_of,
        length-map others first_of,
      ) in
      listed_by unused (each_pair_append (λ (a b : Access). a.last < b.first) are.takes q.extra
      are.apart (short_pairs (λ (a b : Access). a.last < b.first) q.extra short)
      (each_weaker (λ (a : Access). Each (λ (b : Access). a.last < b.first) others)
      (λ (a : Access). Each (λ (b : Access). a.last < b.first) q.extra)
      (λ a lt. from_firsts (λ f. a.last < f) q.extra (each_left (λ f. a.last < f)
      (map first_of q.extra) unused (subst (Each (λ f. a.last < f)) (sym same)
      (to_firsts (λ f. a.last < f) others lt)))) are.takes
      (each_pair_across (λ (a b : Access). a.last < b.first) are.takes others apart))) same

  in_list : IsListed
  in_list = elim are.rest [ inl few ↦ none_more few | inr apart ↦ one_more apart ]

  pub outrun_in : (order : List Taker) × IsTaking end turns takers order
  outrun_in =
      let r = in_list in
      let over : List ℕ = map item_of q.extra ++ flow.left in
      let more : map item_of put ≡ map item_of are.takes ++ over =
      same_items ∙ ap (λ zs. map item_of zs ++ flow.left) r.is
      ∙ ap (λ zs. zs ++ flow.left) (map-append item_of are.takes q.extra)
      ∙ append_assoc (map item_of are.takes) (map item_of q.extra) flow.left in
      let moved = both_moved IsTakerOf whole (put ++ p.rest) p.all (takers_of 0 whole)
      (are_takers 0 whole) in
      let parts = both_parted IsTakerOf moved.list put p.rest moved.both in
      let left : ℕ = length whole - length are.takes in
      let taken : AreTakenFrom end 0 (turns_in n end are.takes all (length whole)) parts.front =
      each_goes n end all q.extra r.unused cs 0 0 (length are.takes) left [] [] over are.takes
      p.lists q.lists parts.front (record {
        run = queue n t done pending cs l h;
        is = r.firsts;
        at = omega arith;
        base = omega arith;
        took = tt;
        yet = subst (λ zs. Yet n end all q.extra r.unused are.takes zs 0) (sym r.is)
            (begins n end all q.extra r.unused are.takes);
        more = more;
        enough = omega (
          arith,
          put_fewer,
          ap length more,
          length-append (map item_of are.takes) over,
          length-map put item_of,
          length-map are.takes item_of,
        );
        times = all_times;
        puts = p.are;
        takes = q.are;
        takers = parts.here;
      }) in
      let turned : AreTakenFrom end 0 turns parts.front =
      subst (λ ts. AreTakenFrom end 0 ts parts.front) (sym are.turns_are) taken in
      let at : ℕ → ℕ = moment end 0 turns parts.front turned in (
        parts.front,
        record {
          rest = parts.back;
          all = subst (λ xs. IsPermutation xs (parts.front ++ parts.back)) (sym are.takers_are)
              (subst (IsPermutation (takers_of 0 whole)) parts.is moved.moved);
          others = both_each IsTakerOf (IsOpen end) (λ (x : Taker). end ≤ x.by)
              (λ x a is o. omega (arith, is.by, o.last)) parts.back p.rest parts.there p.left;
          moment = at;
          rises = λ i k le lt. moments_rise end 0 turns parts.front turned i k le;
          taken = taken_at at 0 end 0 turns parts.front turned
              (λ i. let same : 0 + i ≡ i = omega arith in ap at same);
        },
      )
