-- Items are taken out in the order of the produces, if no two of these overlap. A linearization
-- takes the turns.
use Rattle.std.proofs.Common.{◌≡◌, ℕ, zero, suc, ◌+◌, ◌<◌, ◌≤◌, ◌⊎◌, inl, inr, List, [], ◌∷◌, ◌++◌}
use Rattle.std.proofs.Common.{length, map, drop, Some, None, refl, ap, sym, ◌∙◌, subst, arith}
use Rattle.std.proofs.Common.{append_assoc, length-append}
use Rattle.std.specs.List.Sorted.{IsPermutation}
use Rattle.std.proofs.lemmas.Option.{same_Some}
use Rattle.std.proofs.lemmas.List.{map-append, length-map}
use Rattle.std.proofs.lemmas.List.Sorted.{IsPermutation-sym, IsPermutation-trans}
use Rattle.calls_core.specs.declared.history.Kind.TheVariants.{Buffer}
use Rattle.calls_core.specs.declared.history.PendingCall.{PendingCall}
use Rattle.calls_core.specs.declared.history.Call.{Call}
use Rattle.calls_core.specs.Lists.{Each}
use Rattle.calls_core.specs.Linearizations.{IsLegalHistory, initial, IsLinearOrder}
use Rattle.calls_core.specs.Calls.{AreCallsOf}
use Rattle.calls_core.proofs.Lists.{each_weaker, each_append}
use Rattle.calls_turns.specs.declared.turn.Turn.{Turn}
use Rattle.calls_turns.specs.declared.turn.Taker.{Taker}
use Rattle.calls_turns.specs.Turns.{IsTaking}
use Rattle.calls_buffers.specs.declared.accesses.Access.{Access}
use Rattle.calls_buffers.specs.Queues.{IsQueueRun, items_after}
use Rattle.calls_buffers.specs.Turns.{last_or, taking_turns}
use Rattle.calls_buffers.specs.Turns.{AreTaken}
use Rattle.calls_buffers.specs.Accesses.{put_item, taken_item}
use Rattle.calls_buffers.specs.Accesses.{AreWithin}
use Rattle.calls_buffers.proofs.Alongside.{Both, joined, one_order}
use Rattle.calls_buffers.proofs.Matched.{Match, Matches, accesses_later, accesses_keep}
use Rattle.calls_buffers.proofs.Matched.{IsOpen, open_keep, item_of, IsTakerOf}
use Rattle.calls_buffers.proofs.Matched.{times, puts, takers_in}
use Rattle.calls_buffers.proofs.Moments.{AreTakenFrom, from_earlier, moment, moments_rise, taken_at}
use Rattle.calls_buffers.proofs.Steps.{Puts, Takes, Stays, step, Times, Next, next}
use Rattle.calls_buffers.proofs.Tallies.{queue}

-- WHEN A TURN IS DUE

late_tail : (p end n : ℕ) (tail : List Access) → Each (λ (a : Access). p ≤ a.last) tail → p ≤ end
    → p ≤ last_or end (drop n tail)
late_tail p end zero [] h le = le
late_tail p end (suc n) [] h le = le
late_tail p end zero (a ∷ tail) h le = h.0
late_tail p end (suc n) (a ∷ tail) h le = late_tail p end n tail h.1 le

late : (p end n : ℕ) (inside tail : List Access) → length inside ≤ n
    → Each (λ (a : Access). p ≤ a.last) tail → p ≤ end → p ≤ last_or end (drop n (inside ++ tail))
late p end n [] tail fits h le = late_tail p end n tail h le
late p end zero (a ∷ inside) tail fits h le = absurd (omega (arith, fits))
late p end (suc n) (a ∷ inside) tail fits h le =
    late p end n inside tail (omega (arith, fits)) h le

not_due : (end n : ℕ) (inside rest : List Access) → length inside ≤ n
    → Each (λ (a : Access). end ≤ a.last) rest
    → Each (λ (t : Turn). end ≤ t.by) (taking_turns n end (inside ++ rest))
not_due end n [] [] fits h = tt
not_due end n [] (a ∷ rest) fits h = (
  late end end n [] (a ∷ rest) fits h (omega arith),
  not_due end n [] rest fits h.1,
)
not_due end n (a ∷ inside) rest fits h = (
  late end end n (a ∷ inside) rest fits h (omega arith),
  not_due end n inside rest (omega (arith, fits)) h,
)

-- CALL BY CALL

module _ (n end : ℕ) (rest : List Access) (later : Each (IsOpen end) rest) where
  -- the accesses of some produces are inside, and the others are yet to come
  record State (m : ℕ) (items : List ℕ) (inside : List Access) (cs : List Call)
      (ps qs : List (List Access)) (xs : List Taker) : Type 0 where
    run : IsQueueRun n items cs
    fits : length inside ≤ n
    hold : map item_of inside ≡ items
    put : Each (λ (a : Access). a.first ≤ m) inside
    times : Times end m cs
    puts : Both (Matches put_item end) ps cs
    takes : Both (Matches taken_item end) qs cs
    takers : Both IsTakerOf xs (joined qs)

  abbrev turns_left : List Access → List (List Access) → List Turn
  turns_left inside ps = taking_turns n end (inside ++ (joined ps ++ rest))

  abbrev Goes : List Call → Type 0
  Goes cs = (m : ℕ) (items : List ℕ) (inside : List Access) (ps qs : List (List Access))
      (xs : List Taker) → State m items inside cs ps qs xs
      → AreTakenFrom end m (turns_left inside ps) xs

  module _ (c : Call) (cs : List Call) (goes : Goes cs) (m : ℕ) (items : List ℕ)
      (inside : List Access) (ps qs : List (List Access)) (u : Next end m c cs)
      (run : IsQueueRun n (items_after items c.op c.reply) cs) (fits : length inside ≤ n)
      (hold : map item_of inside ≡ items) (put : Each (λ (a : Access). a.first ≤ m) inside)
      (puts : Both (Matches put_item end) ps cs) (takes : Both (Matches taken_item end) qs cs) where
    still : Each (λ (a : Access). a.first ≤ u.moment) inside
    still = each_weaker (λ (a : Access). a.first ≤ m) (λ (a : Access). a.first ≤ u.moment)
        (λ a le. omega (arith, le, u.rises)) inside put

    on_put : (k : Puts n items c.op c.reply) (ds bs : List Access) (xs : List Taker)
        → Match end c (Some k.value) ds → Match end c None bs
        → Both IsTakerOf xs (bs ++ joined qs) → AreTakenFrom end m (turns_left inside (ds ∷ ps)) xs
    on_put k [] bs xs p t h = absurd p
    on_put k (a ∷ b ∷ ds) bs xs p t h = absurd p
    on_put k (a ∷ []) (b ∷ bs) xs p t h = absurd t
    on_put k (a ∷ []) [] xs p t h =
        let more : List Access = inside ++ a ∷ [] in
        subst (λ zs. AreTakenFrom end m (taking_turns n end zs) xs)
        (append_assoc inside (a ∷ []) (joined ps ++ rest))
        (from_earlier end m u.moment (turns_left more ps) xs u.rises
        (goes u.moment (items_after items c.op c.reply) more ps qs xs (record {
          run = run;
          fits = omega (
            arith,
            k.room,
            ap length hold,
            length-map inside item_of,
            length-append inside (a ∷ []),
          );
          hold = map-append item_of inside (a ∷ []) ∙ ap (λ zs. zs ++ a.item ∷ []) hold
              ∙ ap (λ v. items ++ v ∷ []) p.item ∙ sym k.after;
          put = each_append (λ (b : Access). b.first ≤ u.moment) inside (a ∷ []) still
              (omega (arith, p.first, u.first), tt);
          times = u.times;
          puts = puts;
          takes = takes;
          takers = h;
        })))

    on_stay : (k : Stays items c.op c.reply) (ds bs : List Access) (xs : List Taker)
        → Match end c None ds → Match end c None bs
        → Both IsTakerOf xs (bs ++ joined qs) → AreTakenFrom end m (turns_left inside (ds ∷ ps)) xs
    on_stay k (a ∷ ds) bs xs p t h = absurd p
    on_stay k [] (b ∷ bs) xs p t h = absurd t
    on_stay k [] [] xs p t h =
        from_earlier end m u.moment (turns_left inside ps) xs u.rises
        (goes u.moment (items_after items c.op c.reply) inside ps qs xs (record {
          run = run;
          fits = fits;
          hold = hold ∙ sym k.after;
          put = still;
          times = u.times;
          puts = puts;
          takes = takes;
          takers = h;
        }))

  -- the oldest item is taken out
  module _ (c : Call) (cs : List Call) (goes : Goes cs) (m : ℕ) (items : List ℕ)
      (ps qs : List (List Access)) (u : Next end m c cs)
      (run : IsQueueRun n (items_after items c.op c.reply) cs) (k : Takes items c.op c.reply)
      (puts : Both (Matches put_item end) ps cs) (takes : Both (Matches taken_item end) qs cs) where
    in_time : (a : Access) → (a.last ≡ c.last) ⊎ (a.last ≡ end) → u.moment ≤ a.last
    in_time a (inl e) = omega (arith, e, u.last)
    in_time a (inr e) = omega (arith, e, u.times.early)

    yet : Each (λ (a : Access). u.moment ≤ a.last) (joined ps ++ rest)
    yet = each_append (λ (a : Access). u.moment ≤ a.last) (joined ps) rest
        (accesses_later put_item end u.moment cs ps puts u.times)
        (each_weaker (IsOpen end) (λ (a : Access). u.moment ≤ a.last)
        (λ a o. omega (arith, o.last, u.times.early)) rest later)

    on_take : (inside ds bs : List Access) (xs : List Taker) → length inside ≤ n
        → map item_of inside ≡ items → Each (λ (a : Access). a.first ≤ m) inside
        → Match end c None ds → Match end c (Some k.value) bs
        → Both IsTakerOf xs (bs ++ joined qs) → AreTakenFrom end m (turns_left inside (ds ∷ ps)) xs
    on_take inside (a ∷ ds) bs xs fits hold put p t h = absurd p
    on_take inside [] [] xs fits hold put p t h = absurd t
    on_take inside [] (b ∷ d ∷ bs) xs fits hold put p t h = absurd t
    on_take inside [] (b ∷ []) [] fits hold put p t h = absurd h
    on_take [] [] (b ∷ []) (x ∷ xs) fits hold put p t h =
        absurd (let e : [] ≡ k.value ∷ items_after items c.op c.reply = hold ∙ k.before in cc)
    on_take (q ∷ inside) [] (b ∷ []) (x ∷ xs) fits hold put p t h =
        let e : q.item ∷ map item_of inside ≡ k.value ∷ items_after items c.op c.reply =
        hold ∙ k.before in
        let head : q.item ≡ k.value = cc in
        let tail : map item_of inside ≡ items_after items c.op c.reply = cc in (
          u.moment,
          u.rises,
          record {
            item = λ v w e f. h.0.item v e ∙ t.item ∙ sym head ∙ same_Some q.item w f;
            turn_from = omega (arith, put.0, u.rises);
            turn_by = late u.moment end n (q ∷ inside) (joined ps ++ rest) fits yet u.times.early;
            from = omega (arith, h.0.from, t.first, u.first);
            by = omega (arith, h.0.by, in_time b t.last);
          },
          goes u.moment (items_after items c.op c.reply) inside ps qs xs (record {
            run = run;
            fits = omega (arith, fits);
            hold = tail;
            put = each_weaker (λ (a : Access). a.first ≤ m) (λ (a : Access). a.first ≤ u.moment)
                (λ a le. omega (arith, le, u.rises)) inside put.1;
            times = u.times;
            puts = puts;
            takes = takes;
            takers = h.1;
          }),
        )

  each_goes : (cs : List Call) → Goes cs
  each_goes [] m items inside (ds ∷ ps) qs xs s = absurd s.puts
  each_goes [] m items inside [] (bs ∷ qs) xs s = absurd s.takes
  each_goes [] m items inside [] [] (x ∷ xs) s = absurd s.takers
  each_goes [] m items inside [] [] [] s = not_due end n inside rest s.fits
      (each_weaker (IsOpen end) (λ (a : Access). end ≤ a.last) (λ a o. omega (arith, o.last)) rest
      later)
  each_goes (c ∷ cs) m items inside [] qs xs s = absurd s.puts
  each_goes (c ∷ cs) m items inside (ds ∷ ps) [] xs s = absurd s.takes
  each_goes (c ∷ cs) m items inside (ds ∷ ps) (bs ∷ qs) xs s =
      let u = next end m c cs s.times in
      elim (step n items c.op c.reply s.run.0) [
        | inl k ↦ on_put c cs (each_goes cs) m items inside ps qs u s.run.1 s.fits s.hold s.put
            s.puts.1 s.takes.1 k ds bs xs
            (subst (λ o. Match end c o ds) k.put s.puts.0)
            (subst (λ o. Match end c o bs) k.took s.takes.0) s.takers
        | inr (inl k) ↦ on_take c cs (each_goes cs) m items ps qs u s.run.1 k s.puts.1 s.takes.1
            inside ds bs xs s.fits s.hold s.put
            (subst (λ o. Match end c o ds) k.put s.puts.0)
            (subst (λ o. Match end c o bs) k.took s.takes.0) s.takers
        | inr (inr k) ↦ on_stay c cs (each_goes cs) m items inside ps qs u s.run.1 s.fits s.hold
            s.put s.puts.1 s.takes.1 k ds bs xs
            (subst (λ o. Match end c o ds) k.put s.puts.0)
            (subst (λ o. Match end c o bs) k.took s.takes.0) s.takers
      ]

-- ONE LINEARIZATION

module _ (n t : ℕ) (done : List Call) (pending : List PendingCall) (cs : List Call)
    (l : IsLinearOrder (IsLegalHistory (initial (Some (Buffer n)))) done pending t cs)
    (h : AreCallsOf (Buffer n) done pending t) (end : ℕ) (within : AreWithin end done pending)
    (turns : List Turn) (takers : List Taker) (are : AreTaken n end done pending turns takers) where
  pub outrun_out : (order : List Taker) × IsTaking end turns takers order
  outrun_out =
      let p = puts n t done pending cs l h end within in
      let q = takers_in n t done pending cs l h end within in
      let all : Times end 0 cs = times n t done pending cs l h end within in
      let listed : List Access = joined p.lists ++ p.rest in
      let same : are.puts ≡ listed = one_order (λ (a b : Access). a.last < b.first) listed are.puts
      (IsPermutation-trans _ _ _ (IsPermutation-sym _ _ p.all) are.all)
      (accesses_keep put_item end p.rest cs p.lists p.are all.order all.within p.left
      (open_keep end p.rest p.left)) are.apart in
      let taken : AreTakenFrom end 0 (taking_turns n end listed) q.order =
      each_goes n end p.rest p.left cs 0 [] [] p.lists q.lists q.order (record {
        run = queue n t done pending cs l h;
        fits = omega arith;
        hold = refl;
        put = tt;
        times = all;
        puts = p.are;
        takes = q.are;
        takers = q.both;
      }) in
      let turned : AreTakenFrom end 0 turns q.order =
      subst (λ ts. AreTakenFrom end 0 ts q.order)
      (sym (are.turns_are ∙ ap (taking_turns n end) same)) taken in
      let at : ℕ → ℕ = moment end 0 turns q.order turned in (
        q.order,
        record {
          rest = q.rest;
          all = subst (λ xs. IsPermutation xs (q.order ++ q.rest)) (sym are.takers_are) q.all;
          others = q.left;
          moment = at;
          rises = λ i k le lt. moments_rise end 0 turns q.order turned i k le;
          taken = taken_at at 0 end 0 turns q.order turned
              (λ i. let same : 0 + i ≡ i = omega arith in ap at same);
        },
      )
