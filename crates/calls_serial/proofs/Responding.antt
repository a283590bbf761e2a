-- The stages after each response.
use Rattle.std.proofs.Common.{◌≡◌, ℕ, ◌+◌, ◌<◌, ◌≤◌, ◌⊎◌, inl, inr, true}
use Rattle.std.proofs.Common.{cond, List, [], ◌∷◌, ◌++◌, length, Option, Some, None, refl, ap, sym}
use Rattle.std.proofs.Common.{◌∙◌, arith, subst}
use Rattle.std.specs.List.Sorted.{IsPermutation}
use Rattle.std.proofs.lemmas.Bool.{eq-eqb, cases_lt}
use Rattle.std.proofs.lemmas.Option.{same_Some}
use Rattle.std.proofs.lemmas.List.{append_assoc, append-nil}
use Rattle.std.proofs.lemmas.List.Elements.{All-contains}
use Rattle.calls_core.specs.declared.history.Op.TheVariants.{Get}
use Rattle.calls_core.specs.declared.history.Reply.{Reply}
use Rattle.calls_core.specs.declared.history.Reply.TheVariants.{Done, Number}
use Rattle.calls_core.specs.declared.history.PendingCall.{PendingCall}
use Rattle.calls_core.specs.declared.history.Call.{Call}
use Rattle.calls_core.specs.Lists.{Each, EachPair}
use Rattle.calls_core.specs.Histories.{pending_of, without, completion}
use Rattle.calls_core.specs.Calls.{Early}
use Rattle.calls_core.proofs.Lists.{each_weaker, each_append, each_left, each_right, each_both}
use Rattle.calls_core.proofs.Lists.{each_pair_right, each_kept, all_from_each}
use Rattle.calls_serial.specs.declared.stage.Link.{Link}
use Rattle.calls_serial.specs.Faults.{Leaves}
use Rattle.calls_serial.specs.kept.Stages.{StageView, held_calls, all_calls, is_put, IsGot}
use Rattle.calls_serial.specs.kept.Stages.{IsPutAt, IsStored, IsHeld, IsOver, Follows, gets_of_link}
use Rattle.calls_serial.specs.kept.Stages.{IsChain}
use Rattle.calls_serial.specs.kept.Stages.{IsLinked, IsBacked, Current, current, current_gets}
use Rattle.calls_serial.specs.kept.Stages.{current_puts, pending_puts, IsOverAt, AreStages, moment_bound}
use Rattle.calls_serial.specs.kept.Stages.{link_index}
use Rattle.calls_serial.specs.kept.Stages.{links_with, with_get, with_late, with_response}
use Rattle.calls_serial.specs.kept.Stages.{NextLater}
use Rattle.calls_serial.proofs.Ordering.{all_calls_append}
use Rattle.calls_serial.proofs.Growing.{puts_without, only_put, backed_older}
use Rattle.calls_serial.proofs.Stepping.{moves_into, each_set, pairs_set, begins_more, begins_set}
use Rattle.calls_serial.proofs.Stepping.{stored_by, grows, got, sooner, later, overs}
use Rattle.calls_serial.proofs.Stepping.{now_held, now_put, now_linked, changed}

-- the moments of later stages are no earlier than the invocation of a get
later_moments : (t f : ℕ) (h : StageView) (rest : List StageView) → Each (IsHeld t) rest
    → Each (Follows h) rest → EachPair Follows rest
    → ((IsOver f h.put → ⊥) ⊎ NextLater f rest) → Each (λ (b : StageView). f ≤ b.moment) rest
later_moments t f h rest held follow pairs (inl must) =
    each_both (IsHeld t) (Follows h) (λ (b : StageView). f ≤ b.moment)
    (λ b k g. by h.put refl b g.put (subst (IsStored b.value b.moment) g.is k.put) g.over) rest held
    follow
  where
    by : (put : Option Call) → h.put ≡ put → (b : StageView) → (q : Call)
        → IsPutAt b.value b.moment q → IsOver q.first h.put → f ≤ b.moment
    by None is b q k over = absurd (must (subst (IsOver f) (sym is) tt))
    by (Some p) is b q k over =
        (let first = k.first in
        let before : p.last < q.first = subst (IsOver q.first) is over in
        elim (cases_lt p.last f) [
          | inl lt ↦ absurd (must (subst (IsOver f) (sym is) lt))
          | inr le ↦ omega arith
        ])
later_moments t f h [] held follow pairs (inr next) = tt
later_moments t f h (b ∷ rest) held follow pairs (inr next) = (
  next,
  each_weaker (Follows b) (λ (c : StageView). f ≤ c.moment)
      (λ c k. (let m = k.moments in omega arith)) rest pairs.0,
)

module _ (end t : ℕ) (done : List Call) (os : List PendingCall) (ls : List Link) (w at : ℕ)
    (r : Reply) (o : PendingCall) (ours : pending_of w os ≡ Some o)
    (early : Each (λ (c : Call). c.last < t) done) (waiting : Each (Early t) os) (le : t ≤ at)
    (lt : at < end) where
  own : Call
  own = completion at r o

  -- a get of the value of a completed put, or of the initial value
  module _ (prefix : List StageView) (h : StageView) (back : List StageView) (now : Option Current) (x : ℕ)
      (op : o.op ≡ Get) (is : r ≡ Number x) (value : h.value ≡ x)
      (may : (IsOver o.first h.put → ⊥) ⊎ NextLater o.first (back ++ current now))
      (s : AreStages end t done os (prefix ++ h ∷ back) now ls) where
    changes : StageView
    changes = with_get (completion at r o) h

    all_is : (k : StageView) → (prefix ++ k ∷ back) ++ current now ≡ prefix
        ++ k ∷ (back ++ current now)
    all_is k = append_assoc prefix (k ∷ back) (current now)

    set_each : (P : StageView → Type 0) → (P h → P (with_get (completion at r o) h))
        → Each P ((prefix ++ h ∷ back) ++ current now)
        → Each P ((prefix ++ with_get (completion at r o) h ∷ back) ++ current now)
    set_each P f k =
        subst (Each P) (sym (all_is (with_get (completion at r o) h)))
        (each_set P prefix h (with_get (completion at r o) h) (back ++ current now) f
        (subst (Each P) (all_is h) k))

    own_over : IsOver t h.put
    own_over = (each_right (IsOverAt t) prefix (h ∷ back) s.over).0

    own_held : IsHeld (at + 1) h → IsHeld (at + 1) (with_get (completion at r o) h)
    own_held k =
        (let old : IsHeld t h = (each_right (IsHeld t) prefix (h ∷ (back ++ current now))
        (subst (Each (IsHeld t)) (all_is h) s.each)).0 in
        let moment = stored_by h.value h.moment t h.put k.put own_over in
        record {
          put = k.put;
          gets = each_append (IsGot h.value h.moment (at + 1)) h.gets (completion at r o ∷ [])
              k.gets (
                got end t done os (prefix ++ h ∷ back) ls w at r o ours early waiting le lt h.value
                    h.moment x op is value (omega arith),
                tt,
              );
          sorted = sooner end t done os (prefix ++ h ∷ back) ls w at r o ours early waiting le lt
              h.value h.moment h.gets old.gets old.sorted;
        })

    moments : Each (λ (b : StageView). o.first ≤ b.moment) (back ++ current now)
    moments =
        (let pairs = each_pair_right Follows prefix (h ∷ (back ++ current now))
        (subst (EachPair Follows) (all_is h) s.pairs) in
        let held = each_right (IsHeld t) prefix (h ∷ (back ++ current now))
        (subst (Each (IsHeld t)) (all_is h) s.each) in
        later_moments t o.first h (back ++ current now) held.1 pairs.0 pairs.1 may)

    calls_are : all_calls (prefix ++ with_get (completion at r o) h ∷ back) ++ current_gets now
        ≡ (all_calls prefix ++ held_calls h)
        ++ completion at r o ∷ (all_calls back ++ current_gets now)
    calls_are =
        ap (λ zs. zs ++ current_gets now)
        (all_calls_append prefix (with_get (completion at r o) h ∷ back))
        ∙ simp append_assoc

    calls_were : all_calls (prefix ++ h ∷ back) ++ current_gets now
        ≡ (all_calls prefix ++ held_calls h) ++ (all_calls back ++ current_gets now)
    calls_were =
        ap (λ zs. zs ++ current_gets now) (all_calls_append prefix (h ∷ back)) ∙ simp append_assoc

    pub placed : AreStages end (at + 1) (completion at r o ∷ done) (without w os)
        (prefix ++ with_get (completion at r o) h ∷ back) now ls
    placed = record {
      begins = begins_set prefix h (with_get (completion at r o) h) back refl s.begins;
      each = set_each (IsHeld (at + 1)) own_held
          (later end t done os (prefix ++ h ∷ back) ls w at r o ours early waiting le lt
          ((prefix ++ h ∷ back) ++ current now) s.each);
      pairs = subst (EachPair Follows) (sym (all_is (with_get (completion at r o) h)))
          (pairs_set Follows prefix h (with_get (completion at r o) h) (back ++ current now)
          (λ a k. record {
            put = k.put;
            is = k.is;
            over = k.over;
            moments = k.moments;
            gets = k.gets;
          })
          (λ k. each_both (Follows h) (λ (b : StageView). o.first ≤ b.moment)
          (Follows (with_get (completion at r o) h))
          (λ b f m. record {
            put = f.put;
            is = f.is;
            over = f.over;
            moments = f.moments;
            gets = each_append (λ (g : Call). g.first ≤ b.moment) h.gets (completion at r o ∷ [])
                f.gets (m, tt);
          }) (back ++ current now) k moments)
          (subst (EachPair Follows) (all_is h) s.pairs));
      backed = set_each (IsBacked (completion at r o ∷ done) (without w os) ls) (λ k. k)
          (each_weaker (IsBacked done os ls)
          (IsBacked (completion at r o ∷ done) (without w os) ls)
          (λ a k. grows end t done os (prefix ++ h ∷ back) ls w at r o ours early waiting le lt a k)
          ((prefix ++ h ∷ back) ++ current now) s.backed);
      over = each_set (IsOverAt (at + 1)) prefix h (with_get (completion at r o) h) back (λ k. k)
          (overs end t done os (prefix ++ h ∷ back) ls w at r o ours early waiting le lt s.over);
      put = s.put;
      puts = puts_without w os o ours (ap is_put op) ∙ s.puts;
      once = subst (IsPermutation (completion at r o ∷ done)) (sym calls_are)
          (moves_into done (all_calls prefix ++ held_calls h) (all_calls back ++ current_gets now)
          (completion at r o) (subst (IsPermutation done) calls_were s.once));
    }

  -- THE PENDING PUT

  module _ (stages : List StageView) (now : Current)
      (s : AreStages end t done os stages (Some now) ls) where
    before_first : now.call.first < t
    before_first =
        (let k : Each (Early t) (current_puts (Some now)) =
        subst (Each (Early t)) s.puts
        (each_kept (Early t) (λ (p : PendingCall). is_put p.op) os waiting) in
        k.0)

    held : IsHeld t now.stage
    held = now_held end t done os stages ls now s

    link_is : IsLinked done os ls now.stage.moment (completion end Done now.call) now.stage.link
    link_is = now_linked end t done os stages ls now s

    -- a stage without a link has no get yet
    moment_held : (l : Option ℕ) → IsLinked done os ls now.stage.moment
        (completion end Done now.call) l
        → Each (IsGot now.stage.value (moment_bound l now.stage.moment at) (at + 1)) now.stage.gets
    moment_held None k =
        each_weaker (IsGot now.stage.value now.stage.moment t)
        (IsGot now.stage.value at (at + 1))
        (λ g j. absurd (let a = j.early in let b = j.after in
        let c : now.stage.moment ≡ end = k in omega arith)) now.stage.gets held.gets
    moment_held (Some i) k =
        each_weaker (IsGot now.stage.value now.stage.moment t)
        (IsGot now.stage.value now.stage.moment (at + 1))
        (λ g j. record {
          op = j.op;
          reply = j.reply;
          lasts = j.lasts;
          early = (let e = j.early in omega arith);
          after = j.after;
        }) now.stage.gets held.gets

    -- the get of a link is completed
    moment_early : (l : Option ℕ) → IsLinked done os ls now.stage.moment
        (completion end Done now.call) l → moment_bound l now.stage.moment at ≤ at
    moment_early None k = omega arith
    moment_early (Some i) k =
        (let chain = k.1 in
        let e : chain.get.last < t = All-contains (λ (c : Call). c.last < t) done chain.get
        (all_from_each (λ (c : Call). c.last < t) done early) chain.leaves.2.known in
        let m = chain.last in
        omega arith)

    moment_first : (l : Option ℕ) → now.call.first < moment_bound l now.stage.moment at
    moment_first None = (let k = before_first in omega arith)
    moment_first (Some i) = (now_put end t done os stages ls now s).first

    moment_moves : (l : Option ℕ) → (t ≤ moment_bound l now.stage.moment at)
        ⊎ (moment_bound l now.stage.moment at ≡ now.stage.moment)
    moment_moves None = inl le
    moment_moves (Some i) = inr refl

    stages_grown : Each (IsBacked (completion at r o ∷ done) (without w os) ls)
        (stages ++ now.stage ∷ [])
    stages_grown =
        each_weaker (IsBacked done os ls)
        (IsBacked (completion at r o ∷ done) (without w os) ls)
        (λ a k. grows end t done os stages ls w at r o ours early waiting le lt a k)
        (stages ++ now.stage ∷ []) s.backed

    link_grown : IsLinked (completion at r o ∷ done) (without w os) ls now.stage.moment
        (completion end Done now.call) now.stage.link
    link_grown = (each_right (IsBacked (completion at r o ∷ done) (without w os) ls) stages
        (now.stage ∷ []) stages_grown).0 (completion end Done now.call) s.put

    stages_later : Each (IsHeld (at + 1)) stages
    stages_later = later end t done os stages ls w at r o ours early waiting le lt stages
        (each_left (IsHeld t) stages (now.stage ∷ []) s.each)

    -- a get returns the value of the pending put
    module _ (x : ℕ) (op : o.op ≡ Get) (is : r ≡ Number x) (value : now.stage.value ≡ x)
        (because : Option ℕ) (leaves : Leaves (completion at r o ∷ done) (without w os)
        (completion at r o ∷ gets_of_link because ls) (Some now.call.first)) where
      abbrev pub new_link : Link
      new_link = record { get = completion at r o; because = because }

      abbrev pub late_stage : StageView
      late_stage = with_late (completion at r o) (length ls) now.stage

      late_held : IsHeld (at + 1) late_stage
      late_held = record {
        put = subst (IsStored now.stage.value (moment_bound now.stage.link now.stage.moment at))
            (sym s.put)
            (let old = now_put end t done os stages ls now s in
            let early' = moment_early now.stage.link link_is in
            record {
              op = old.op;
              reply = old.reply;
              lasts = old.lasts;
              first = moment_first now.stage.link;
              last = omega arith;
            });
        gets = each_append
            (IsGot now.stage.value (moment_bound now.stage.link now.stage.moment at) (at + 1))
            now.stage.gets (completion at r o ∷ []) (moment_held now.stage.link link_is) (
              got end t done os stages ls w at r o ours early waiting le lt now.stage.value
                  (moment_bound now.stage.link now.stage.moment at) x op is value
                  (moment_early now.stage.link link_is),
              tt,
            );
        sorted = sooner end t done os stages ls w at r o ours early waiting le lt now.stage.value
            now.stage.moment now.stage.gets held.gets held.sorted;
      }

      older : (l : Option ℕ) (h : StageView)
          → IsBacked (completion at r o ∷ done) (without w os) ls h
          → IsBacked (completion at r o ∷ done) (without w os) (links_with l new_link ls) h
      older None h k =
          backed_older (completion at r o ∷ done) (without w os) new_link ls h k
      older (Some i) h k = k

      late_linked : (l : Option ℕ) → IsLinked (completion at r o ∷ done) (without w os) ls
          now.stage.moment (completion end Done now.call) l
          → IsLinked (completion at r o ∷ done) (without w os) (links_with l new_link ls)
          (moment_bound l now.stage.moment at) (completion end Done now.call) (link_index l (length ls))
      late_linked None k = (
        omega arith,
        record {
          get = completion at r o;
          rest = gets_of_link because ls;
          is = ap (λ b. cond b (completion at r o ∷ gets_of_link because ls)
              (gets_of_link (Some (length ls)) ls)) (eq-eqb (length ls) (length ls) refl);
          leaves = leaves;
          last = refl;
        },
      )
      late_linked (Some i) k = k

      pub late : AreStages end (at + 1) (completion at r o ∷ done) (without w os) stages
          (Some (record {
            call = now.call;
            stage = with_late (completion at r o) (length ls)
                now.stage;
          })) (links_with now.stage.link (record {
            get = completion at r o;
            because = because;
          }) ls)
      late = record {
        begins = s.begins;
        each = each_append (IsHeld (at + 1)) stages (late_stage ∷ []) stages_later (late_held, tt);
        pairs = changed end t done os stages ls now s late_stage (completion end Done now.call)
            s.put refl (moment_moves now.stage.link);
        backed = each_append
            (IsBacked (completion at r o ∷ done) (without w os)
            (links_with now.stage.link new_link ls)) stages (late_stage ∷ [])
            (each_weaker (IsBacked (completion at r o ∷ done) (without w os) ls)
            (IsBacked (completion at r o ∷ done) (without w os)
            (links_with now.stage.link new_link ls)) (older now.stage.link) stages
            (each_left (IsBacked (completion at r o ∷ done) (without w os) ls) stages
            (now.stage ∷ []) stages_grown)) (
              (λ p e. subst
                  (λ (z : Call). IsLinked (completion at r o ∷ done) (without w os)
                  (links_with now.stage.link new_link ls)
                  (moment_bound now.stage.link now.stage.moment at) z
                  (link_index now.stage.link (length ls)))
                  (same_Some (completion end Done now.call) p (sym s.put ∙ e))
                  (late_linked now.stage.link link_grown)),
              tt,
            );
        over = overs end t done os stages ls w at r o ours early waiting le lt s.over;
        put = s.put;
        puts = puts_without w os o ours (ap is_put op) ∙ s.puts;
        once = permuted;
      }
        where
          permuted : IsPermutation (completion at r o ∷ done)
              (all_calls stages ++ (now.stage.gets ++ completion at r o ∷ []))
          permuted = subst (IsPermutation (completion at r o ∷ done))
              (append_assoc (all_calls stages) now.stage.gets (completion at r o ∷ []))
              (moves_into done (all_calls stages ++ now.stage.gets) [] (completion at r o)
              (subst (IsPermutation done) (sym (append-nil (all_calls stages ++ now.stage.gets)))
              s.once))

    -- the pending put is completed
    module _ (op : is_put o.op ≡ true) (is : r ≡ Done) where
      abbrev pub full_stage : StageView
      full_stage = with_response (completion at r o) now.stage

      same : (o ≡ now.call) × (pending_puts (without w os) ≡ [])
      same = only_put w os o now.call ours op s.puts

      full_held : IsHeld (at + 1) full_stage
      full_held = record {
        put =
            (let old = now_put end t done os stages ls now s in
            let at_first : o.first ≡ now.call.first = ap (λ (p : PendingCall). p.first) same.0 in
            let early' = before_first in
            let first' = moment_first now.stage.link in
            record {
              op = ap (λ (p : PendingCall). p.op) same.0 ∙ old.op;
              reply = is;
              lasts = omega arith;
              first = omega arith;
              last = moment_early now.stage.link link_is;
            });
        gets = moment_held now.stage.link link_is;
        sorted = held.sorted;
      }

      full_linked : (l : Option ℕ) → IsLinked (completion at r o ∷ done) (without w os) ls
          now.stage.moment (completion end Done now.call) l
          → IsLinked (completion at r o ∷ done) (without w os) ls
          (moment_bound l now.stage.moment at) (completion at r o) l
      full_linked None k = refl
      full_linked (Some i) k = (
        k.0,
        subst
            (λ n. IsChain (completion at r o ∷ done) (without w os) (gets_of_link (Some i) ls) n
            now.stage.moment) (sym (ap (λ (p : PendingCall). p.first) same.0)) k.1,
      )

      pub full : AreStages end (at + 1) (completion at r o ∷ done) (without w os)
          (stages ++ with_response (completion at r o) now.stage ∷ []) None ls
      full = record {
        begins = begins_more stages (full_stage ∷ []) s.begins;
        each = each_append (IsHeld (at + 1)) (stages ++ full_stage ∷ []) []
            (each_append (IsHeld (at + 1)) stages (full_stage ∷ []) stages_later (full_held, tt))
            tt;
        pairs = subst (EachPair Follows) (sym (append-nil (stages ++ full_stage ∷ [])))
            (changed end t done os stages ls now s full_stage (completion at r o) refl
            (ap (λ (p : PendingCall). p.first) same.0) (moment_moves now.stage.link));
        backed = each_append (IsBacked (completion at r o ∷ done) (without w os) ls)
            (stages ++ full_stage ∷ []) []
            (each_append (IsBacked (completion at r o ∷ done) (without w os) ls) stages
            (full_stage ∷ [])
            (each_left (IsBacked (completion at r o ∷ done) (without w os) ls) stages
            (now.stage ∷ []) stages_grown) (
              (λ p e. subst
                  (λ (z : Call). IsLinked (completion at r o ∷ done) (without w os) ls
                  (moment_bound now.stage.link now.stage.moment at) z now.stage.link)
                  (same_Some (completion at r o) p e) (full_linked now.stage.link link_grown)),
              tt,
            )) tt;
        over = each_append (IsOverAt (at + 1)) stages (full_stage ∷ [])
            (overs end t done os stages ls w at r o ours early waiting le lt s.over)
            ((let k : at < at + 1 = omega arith in k), tt);
        put = tt;
        puts = same.1;
        once = subst (IsPermutation (completion at r o ∷ done)) calls_are
            (moves_into done (all_calls stages) now.stage.gets (completion at r o) s.once);
      }
        where
          calls_are : all_calls stages ++ completion at r o ∷ now.stage.gets
              ≡ all_calls (stages ++ with_response (completion at r o) now.stage ∷ []) ++ []
          calls_are =
              ap (λ zs. all_calls stages ++ completion at r o ∷ zs)
              (sym (append-nil now.stage.gets))
              ∙ sym (all_calls_append stages (with_response (completion at r o) now.stage ∷ []))
              ∙ sym (append-nil
              (all_calls (stages ++ with_response (completion at r o) now.stage ∷ [])))
