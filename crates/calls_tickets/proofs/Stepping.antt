-- The state after one more event.
use Rattle.std.proofs.Common.{◌≡◌, ℕ, zero, suc, ◌+◌, ◌<◌, ◌≤◌, ◌⊎◌, inl, inr, ◌==◌, true, List, []}
use Rattle.std.proofs.Common.{◌∷◌, ◌++◌, length, Some, slice_get, refl, ap, sym, ◌∙◌, arith, subst}
use Rattle.std.proofs.Common.{count_by}
use Rattle.std.specs.List.{Contains, remove}
use Rattle.std.proofs.lemmas.Bool.{cases_lt, eqb-true}
use Rattle.std.proofs.lemmas.List.{length-map, map-append}
use Rattle.std.proofs.lemmas.List.Sums.{count_by-le-length}
use Rattle.std.specs.Prelude.{nat_le}
use Rattle.calls_core.specs.declared.history.Kind.TheVariants.{Sequencer}
use Rattle.calls_core.specs.declared.history.Op.{Op}
use Rattle.calls_core.specs.declared.history.Reply.{Reply}
use Rattle.calls_core.specs.declared.history.Action.TheVariants.{Invoke, Respond}
use Rattle.calls_core.specs.declared.history.Event.{Event}
use Rattle.calls_core.specs.declared.history.PendingCall.{PendingCall}
use Rattle.calls_core.specs.declared.history.Call.{Call}
use Rattle.calls_core.specs.Lists.{Each}
use Rattle.calls_core.specs.Histories.{clock, completion, invoked_by, pending_of, without}
use Rattle.calls_core.specs.Histories.{pending_calls, pending_after, completed_calls, ended_call}
use Rattle.calls_core.specs.Histories.{IsHistoryOf}
use Rattle.calls_core.specs.Calls.{IsCallOf, Early}
use Rattle.calls_core.proofs.Lists.{each_weaker, each_both, each_append}
use Rattle.calls_core.proofs.Positions.{are_calls_of, early_calls}
use Rattle.calls_core.specs.declared.pending.NotedCall.{NotedCall}
use Rattle.calls_core.specs.Pending.{noted_calls, IsNotedOf}
use Rattle.calls_tickets.specs.declared.fault.Fault.{Fault}
use Rattle.calls_tickets.specs.declared.fault.Fault.TheVariants.{Twice, Turned, Drawn}
use Rattle.calls_tickets.specs.Faults.{ticket_number, number, FromTurned, ShowsIn, Shows}
use Rattle.calls_tickets.specs.kept.Watching.{IsTop, AreHoles, Paired, Following}
use Rattle.calls_tickets.specs.kept.Watching.{Watching, IsHoleAt, NoHole, Fills}
use Rattle.calls_tickets.specs.kept.Watching.{Raises, CannotTake, IsTaken}
use Rattle.calls_tickets.proofs.Histories.{calls_few, IsResponse, response}
use Rattle.calls_tickets.proofs.Numbering.{each_contains, contains_first, contains_later, each_at}
use Rattle.calls_tickets.proofs.Numbering.{each_remove, remove_long, count_some, none_is}
use Rattle.calls_tickets.proofs.Numbering.{holes_start, holes_filled, holes_raised, hole_free}
use Rattle.calls_tickets.proofs.Numbering.{tops_rise}
use Rattle.calls_tickets.proofs.Judging.{each_unmap}

-- TOPS

-- the top at position p is the top at q, if all tickets returned before p
top_later : (done : List Call) (p q n : ℕ) → Each (λ (d : Call). d.last < p) done → p ≤ q
    → IsTop done p n → IsTop done q n
top_later done p q n early le t = record {
  above = each_both (λ (d : Call). d.last < p) (λ (d : Call). d.last < p → number d < n)
      (λ (d : Call). d.last < q → number d < n) (λ d lt f l. f lt) done early t.above;
  reached = go t.reached;
}
  where
    go : (n ≡ 0) ⊎ ((d : Call) × Contains done d × (d.last < p) × (n ≡ number d + 1)) → (n ≡ 0)
        ⊎ ((d : Call) × Contains done d × (d.last < q) × (n ≡ number d + 1))
    go (inl e) = inl e
    go (inr (d, known, lt, e)) = inr (d, known, omega arith, e)

-- a response from p on doesn't change the top at p
top_kept : (done : List Call) (c : Call) (p n : ℕ) → p ≤ c.last → IsTop done p n
    → IsTop (c ∷ done) p n
top_kept done c p n le t = record {
  above = (λ lt. absurd (omega arith), t.above);
  reached =
      go t.reached;
}
  where
    go : (n ≡ 0) ⊎ ((d : Call) × Contains done d × (d.last < p) × (n ≡ number d + 1)) → (n ≡ 0)
        ⊎ ((d : Call) × Contains (c ∷ done) d × (d.last < p) × (n ≡ number d + 1))
    go (inl e) = inl e
    go (inr (d, known, lt, e)) = inr (d, contains_later c done d known, lt, e)

-- AN INVOCATION

pub paired_more : (hs : List ℕ) (us vs : List NotedCall) → Paired hs us → Paired hs (us ++ vs)
paired_more [] us vs p = tt
paired_more (h ∷ hs) [] vs p = absurd p
paired_more (h ∷ hs) (u ∷ us) vs p = (p.0, paired_more hs us vs p.1)

pub invoked : (past : List Event) (x : Event) (k : ℕ) (op : Op) (top : ℕ) (holes : List ℕ)
    (us later : List NotedCall) → x.action ≡ Invoke k op
    → later ≡ us ++ record { call = invoked_by x k op; noted = top } ∷ []
    → IsHistoryOf Sequencer (x ∷ past) → Watching past top holes us
    → Watching (x ∷ past) top holes later
invoked past x k op top holes us later e is history w =
    let f = w.follows in
    let new : NotedCall = record { call = invoked_by x k op; noted = top } in
    let same : completed_calls past ≡ completed_calls (x ∷ past) =
    ap (λ a. ended_call x a (pending_of x.worker (pending_calls past)) ++ completed_calls past)
    (sym e) in
    let le : clock past ≤ x.at = history.0 in
    let early = early_calls Sequencer past history.2 in
    record {
      follows = record {
        pending_is = ap (λ a. pending_after x a (pending_calls past)) e ∙ ap (λ os.
            os ++ invoked_by x k op ∷ []) f.pending_is ∙ sym
            (map-append (λ (u : NotedCall). u.call) us (new ∷ [])) ∙ ap noted_calls (sym is);
        holes_are = subst (λ ds. AreHoles ds top holes) same f.holes_are;
        top_is = subst (λ ds. IsTop ds (x.at + 1) top) same (top_later (completed_calls past)
            (clock past) (x.at + 1) top early (omega arith) f.top_is);
        noted = subst (λ ds. Each (λ (u : NotedCall). IsTop ds u.call.first u.noted) later) same
            (subst (Each (λ (u : NotedCall). IsTop (completed_calls past) u.call.first u.noted))
            (sym is)
            (each_append (λ (u : NotedCall). IsTop (completed_calls past) u.call.first u.noted)
            us (new ∷ []) f.noted (
              top_later (completed_calls past) (clock past) x.at top early
                  le f.top_is,
              tt,
            )));
        straight = λ a b t. f.straight a b (subst (λ ds. FromTurned ds a b) (sym same) t);
      };
      paired = subst (Paired holes) (sym is) (paired_more holes us (new ∷ []) w.paired);
    }

contains_at : (hs : List ℕ) (j n : ℕ) → slice_get hs j ≡ Some n → Contains hs n
contains_at [] j n at = absurd cc
contains_at (h ∷ hs) zero n at = (let same : h ≡ n = cc in (zero, omega arith, same))
contains_at (h ∷ hs) (suc j) n at = contains_later h hs n (contains_at hs j n at)

-- A RESPONSE

module _ (past : List Event) (x : Event) (r : Reply) (top : ℕ) (holes : List ℕ)
    (us rest : List NotedCall) (i : ℕ) (u : NotedCall) (e : x.action ≡ Respond r)
    (k : IsNotedOf us x.worker i) (read : slice_get us i ≡ Some u) (is : rest ≡ remove us i)
    (history : IsHistoryOf Sequencer (x ∷ past)) (f : Following past top holes us) where
  abbrev call : Call
  call = completion x.at r u.call

  abbrev old : List Call
  old = completed_calls past

  own : k.call ≡ u
  own = (let both : Some k.call ≡ Some u = sym k.at ∙ read in cc)

  is_response : IsResponse x r past u.call
  is_response = response x r past u.call e (ap (pending_of x.worker) f.pending_is ∙ k.first ∙ ap
      (λ (v : NotedCall). Some v.call) own) history

  pub ended : completed_calls (x ∷ past) ≡ completion x.at r u.call ∷ completed_calls past
  ended = is_response.ended

  pub left : pending_calls (x ∷ past) ≡ noted_calls rest
  left = is_response.left ∙ ap (without x.worker) f.pending_is ∙ k.others ∙ ap noted_calls (sym is)

  early : Each (λ (d : Call). d.last < clock past) (completed_calls past)
  early = early_calls Sequencer past history.2

  invoked_early : Each (λ (v : NotedCall). v.call.first < clock past) us
  invoked_early = each_unmap (λ (v : NotedCall). v.call) (Early (clock past)) us
      (subst (Each (Early (clock past))) f.pending_is (are_calls_of Sequencer past history.2).early)

  u_early : u.call.first < clock past
  u_early = each_at (λ (v : NotedCall). v.call.first < clock past) us i u read invoked_early

  u_noted : IsTop (completed_calls past) u.call.first u.noted
  u_noted = each_at (λ (v : NotedCall). IsTop (completed_calls past) v.call.first v.noted) us i
      u read f.noted

  last_early : (d : Call) → Contains (completed_calls past) d → d.last < clock past
  last_early d h = each_contains (λ (d : Call). d.last < clock past) (completed_calls past) d early
      h

  -- no greater number was returned before the ticket's invocation
  straight_more : u.noted ≤ ticket_number r → (a b : Call) → FromTurned
      (completion x.at r u.call ∷ completed_calls past) a b → ⊥
  straight_more low a b t = go t.first t.second
    where
      known_at : (d : Call) → Contains (completion x.at r u.call ∷ completed_calls past) d
          → (completion x.at r u.call ≡ d) ⊎ Contains (completed_calls past) d
      known_at d (zero, lt, same) = inl same
      known_at d (suc j, lt, same) = inr (
        j,
        (let l : j < length (completed_calls past) =
            omega arith in l),
        same,
      )

      apart : (completion x.at r u.call ≡ a) ⊎ Contains (completed_calls past) a
          → (completion x.at r u.call ≡ b) ⊎ Contains (completed_calls past) b → ⊥
      apart (inr ka) (inr kb) = f.straight a b (record {
        first = ka;
        second = kb;
        before = t.before;
        more = t.more;
      })
      apart (inl sa) (inl sb) = (let same : number a ≡ number b = ap number (sym sa ∙ sb) in
          absurd (omega (arith, t.more)))
      apart (inl sa) (inr kb) =
          (let lasts : Each (λ (d : Call). d.first < d.last) (completed_calls past) =
          each_weaker (IsCallOf Sequencer (clock past)) (λ (d : Call). d.first < d.last)
          (λ (d : Call) c. c.lasts) (completed_calls past)
          (are_calls_of Sequencer past history.2).completed in
          let own_last : b.first < b.last = each_contains (λ (d : Call). d.first < d.last)
          (completed_calls past) b lasts kb in
          let late : x.at ≡ a.last = ap (λ (c : Call). c.last) sa in
          absurd (omega (arith, t.before, last_early b kb, is_response.later)))
      apart (inr ka) (inl sb) =
          (let first : u.call.first ≡ b.first = ap (λ (c : Call). c.first) sb in
          let same : ticket_number r ≡ number b = ap number sb in
          let less : number a < u.noted = each_contains (λ (d : Call). d.last < u.call.first
          → number d < u.noted) (completed_calls past) a u_noted.above ka
          (omega (arith, t.before)) in
          absurd (omega (arith, t.more)))

      go : Contains (completion x.at r u.call ∷ completed_calls past) a
          → Contains (completion x.at r u.call ∷ completed_calls past) b → ⊥
      go ha hb = apart (known_at a ha) (known_at b hb)

  follow : (later : ℕ) (more : List ℕ) → AreHoles (completion x.at r u.call ∷ completed_calls past)
      later more
      → (later ≡ 0) ⊎ ((d : Call) × Contains (completion x.at r u.call ∷ completed_calls past) d
      × (d.last < x.at + 1) × (later ≡ number d + 1))
      → u.noted ≤ ticket_number r → Following (x ∷ past) later more rest
  follow later more a reached low = record {
    pending_is = left;
    holes_are = subst (λ ds. AreHoles ds later more) (sym ended) a;
    top_is = subst (λ ds. IsTop ds (x.at + 1) later) (sym ended) (record {
      above = each_weaker (λ (d : Call). number d < later) (λ (d : Call). d.last < x.at + 1
          → number d < later) (λ d lt l. lt) (completion x.at r u.call ∷ completed_calls past)
          a.below;
      reached = reached;
    });
    noted = subst (λ ds. Each (λ (v : NotedCall). IsTop ds v.call.first v.noted) rest)
        (sym ended)
        (subst (Each (λ (v : NotedCall). IsTop (completion x.at r u.call ∷ completed_calls past)
        v.call.first v.noted)) (sym is)
        (each_remove (λ (v : NotedCall). IsTop (completion x.at r u.call ∷ completed_calls past)
        v.call.first v.noted) us i
        (each_both (λ (v : NotedCall). v.call.first < clock past) (λ (v : NotedCall). IsTop
        (completed_calls past) v.call.first v.noted) (λ (v : NotedCall). IsTop
        (completion x.at r u.call ∷ completed_calls past) v.call.first v.noted)
        (λ (v : NotedCall) lt t. top_kept (completed_calls past) (completion x.at r u.call)
        v.call.first v.noted (omega (arith, is_response.later)) t) us invoked_early f.noted)));
    straight = λ a b t. straight_more low a b (subst (λ ds. FromTurned ds a b) ended t);
  }

  rest_long : length rest + 1 ≡ length us
  rest_long = ap (λ zs. length zs + 1) is ∙ remove_long us i u read

  -- THE NUMBER IS POSSIBLE

  filled : (later : ℕ) (more : List ℕ) → ticket_number r < top → later ≡ top
      → Fills holes more u.noted (ticket_number r) → Following (x ∷ past) later more rest
  filled later more lt same (j, at, low, gone) =
      follow later more
      (subst (λ n. AreHoles (completion x.at r u.call ∷ completed_calls past) n more) (sym same)
      (subst (AreHoles (completion x.at r u.call ∷ completed_calls past) top) (sym gone)
      (holes_filled (completed_calls past) top holes (completion x.at r u.call) j
      (ticket_number r) f.holes_are refl at)))
      (go f.top_is.reached) low
    where
      go : (top ≡ 0) ⊎ ((d : Call) × Contains (completed_calls past) d × (d.last < clock past)
          × (top ≡ number d + 1))
          → (later ≡ 0) ⊎ ((d : Call) × Contains (completion x.at r u.call ∷ completed_calls past) d
          × (d.last < x.at + 1) × (later ≡ number d + 1))
      go (inl z) = inl (same ∙ z)
      go (inr (d, known, before, z)) = inr (
        d,
        contains_later (completion x.at r u.call)
            (completed_calls past) d known,
        omega (arith, is_response.later),
        same ∙ z,
      )

  u_low : u.noted ≤ top
  u_low = tops_rise (completed_calls past) u.call.first (clock past) u.noted top u_noted f.top_is
      (omega (arith, u_early))

  -- the number is less than the position of its response
  small : top ≤ ticket_number r → length holes + ticket_number r ≤ length rest + top
      → ticket_number r + 1 ≤ x.at
  small high few =
      omega (
        arith,
        f.holes_are.total,
        rest_long,
        calls_few past history.2,
        ap length f.pending_is,
        length-map us (λ (v : NotedCall). v.call),
        is_response.later,
      )

  raised : (later : ℕ) (more : List ℕ) → x.at ≤ 18446744073709551615
      → Raises top later holes more (length rest) (ticket_number r)
      → Following (x ∷ past) later more rest
  raised later more fits m =
      let next : later ≡ ticket_number r + 1 = omega (arith, m.later_is, small m.high m.few) in
      follow later more
      (subst (λ n. AreHoles (completion x.at r u.call ∷ completed_calls past) n more) (sym next)
      (subst (AreHoles (completion x.at r u.call ∷ completed_calls past) (ticket_number r + 1))
      (sym m.more_is)
      (holes_raised (completed_calls past) top holes (completion x.at r u.call)
      (ticket_number r) f.holes_are refl m.high)))
      (inr (
        completion x.at r u.call,
        contains_first (completion x.at r u.call)
            (completed_calls past),
        omega arith,
        next,
      ))
      (omega (arith, u_low, m.high))

  pub taken : (later : ℕ) (more : List ℕ) → x.at ≤ 18446744073709551615
      → IsTaken top later holes more (length rest) u.noted (ticket_number r) true
      → Following (x ∷ past) later more rest
  taken later more fits (inl (lt, same, g)) = filled later more lt same g
  taken later more fits (inr m) = raised later more fits m

  -- THE NUMBER IS IMPOSSIBLE

  shows_here : (g : Fault) → ShowsIn (completion x.at r u.call ∷ completed_calls past)
      (noted_calls rest) g → Shows (x ∷ past) g
  shows_here g s = subst (λ ds. ShowsIn ds (pending_calls (x ∷ past)) g) (sym ended)
      (subst (λ os. ShowsIn (completion x.at r u.call ∷ completed_calls past) os g) (sym left) s)

  twice : ticket_number r < top → NoHole holes (ticket_number r) → (g : Fault) × Shows (x ∷ past) g
  twice lt none =
      let some = count_some (λ (d : Call). number d == ticket_number r) (completed_calls past)
      (omega (
        arith,
        f.holes_are.each_once (ticket_number r) lt,
        none_is (λ h.
            h) (ticket_number r) holes none,
      )) in
      let a = some.0 in (
        Twice (completion x.at r u.call) a,
        shows_here (Twice (completion x.at r u.call) a) (record {
          first = contains_first (completion x.at r u.call) (completed_calls past);
          second = contains_later (completion x.at r u.call) (completed_calls past) a some.1;
          same = sym (eqb-true (number a) (ticket_number r) some.2);
          apart = λ s. absurd (omega (arith, last_early a some.1, is_response.later));
        }),
      )

  turned : (j : ℕ) → IsHoleAt holes (ticket_number r) j → ticket_number r < u.noted → (g : Fault)
      × Shows (x ∷ past) g
  turned j at lt = go u_noted.reached
    where
      go : (u.noted ≡ 0) ⊎ ((d : Call) × Contains (completed_calls past) d × (d.last < u.call.first)
          × (u.noted ≡ number d + 1)) → (g : Fault) × Shows (x ∷ past) g
      go (inl z) = absurd (omega arith)
      go (inr (d, known, before, z)) = (
        Turned d (completion x.at r u.call),
        shows_here (Turned d (completion x.at r u.call)) (record {
          first = contains_later (completion x.at r u.call) (completed_calls past) d known;
          second = contains_first (completion x.at r u.call) (completed_calls past);
          before = before;
          more = elim (cases_lt (ticket_number r) (number d)) [
            | inl less ↦ less
            | inr le ↦ absurd (hole_free (completed_calls past) top holes (ticket_number r) f.holes_are
                (contains_at holes j (ticket_number r) at) d known (omega arith))
          ];
        }),
      )

  drawn : top ≤ ticket_number r → length rest + top < length holes + ticket_number r → (g : Fault)
      × Shows (x ∷ past) g
  drawn high few = (
    Drawn (completion x.at r u.call),
    shows_here (Drawn (completion x.at r u.call)) (record {
      known = contains_first (completion x.at r u.call) (completed_calls past);
      few =
          (let all : count_by (λ (d : Call). nat_le (number d) (ticket_number r))
          (completion x.at r u.call ∷ completed_calls past) ≤ suc
          (length (completed_calls past)) =
          count_by-le-length (λ (d : Call). nat_le (number d) (ticket_number r))
          (completion x.at r u.call ∷ completed_calls past) in
          omega (
            arith,
            all,
            count_by-le-length (λ (o : PendingCall). nat_le o.first x.at) (noted_calls rest),
            length-map rest (λ (v : NotedCall). v.call),
            f.holes_are.total,
          ));
    }),
  )

  pub not_taken : CannotTake top holes (length rest) u.noted (ticket_number r) → (g : Fault)
      × Shows (x ∷ past) g
  not_taken (inl (lt, none)) = twice lt none
  not_taken (inr (inl (j, at, lt))) = turned j at lt
  not_taken (inr (inr (high, few))) = drawn high few
