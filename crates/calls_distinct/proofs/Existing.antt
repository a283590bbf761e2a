-- Groups, sorted zones and a verdict exist for each history.
use Rattle.std.proofs.Common.{◌≡◌, ℕ, zero, suc, ◌<◌, ◌≤◌, ◌⊎◌, inl, inr, Bool, true}
use Rattle.std.proofs.Common.{false, not, ◌&&◌, ◌==◌, nat_le, Option, Some, None}
use Rattle.std.proofs.Common.{List, [], ◌∷◌, ◌++◌, length, refl, ap, sym, ◌∙◌, arith, subst}
use Rattle.std.proofs.Common.{count_by, append_assoc, append-nil}
use Rattle.std.specs.List.{Contains}
use Rattle.std.specs.List.Sorted.{IsPermutation}
use Rattle.std.proofs.lemmas.Bool.{cases_eq, cases_lt, eq-eqb, le-leb, and_from, false≢true}
use Rattle.std.proofs.lemmas.List.Sorted.{IsPermutation-refl, IsPermutation-trans}
use Rattle.std.proofs.lemmas.List.Sorted.{IsPermutation-cons}
use Rattle.calls_core.specs.declared.history.Kind.{Kind}
use Rattle.calls_core.specs.declared.history.Event.{Event}
use Rattle.calls_core.specs.declared.history.Call.{Call}
use Rattle.calls_core.specs.Lists.{Each, EachPair}
use Rattle.calls_core.specs.Histories.{clock, IsHistoryOf}
use Rattle.calls_core.specs.Linearizations.{Precedes}
use Rattle.calls_core.specs.Outcomes.{IsOrderOf}
use Rattle.calls_core.proofs.Lists.{each_weaker}
use Rattle.calls_core.proofs.Filters.{permutation_turn}
use Rattle.calls_core.proofs.Counting.{one_yes, one_no, count_cons}
use Rattle.calls_distinct.specs.declared.cell.Fault.{Fault}
use Rattle.calls_distinct.specs.declared.cell.Fault.TheVariants.{Nowhere}
use Rattle.calls_distinct.specs.declared.zone.Group.{Group}
use Rattle.calls_distinct.specs.declared.zone.GroupedCall.{GroupedCall}
use Rattle.calls_distinct.specs.declared.zone.Zone.{Zone}
use Rattle.calls_distinct.specs.Cells.{is_put, value, put_call, gets, IsStore}
use Rattle.calls_distinct.specs.Cells.{IsStoreHistory, IsDistinctHistory, Shows}
use Rattle.calls_distinct.specs.Outcomes.{is_put_at}
use Rattle.calls_distinct.specs.kept.Zones.{NotAfter, AreCrossed, crossing_fault, KeepZoneOrder, zone_calls}
use Rattle.calls_distinct.specs.kept.Groups.{with_call, IsGroup, IsGroupOf, grouped_calls, AreGrouped}
use Rattle.calls_distinct.specs.kept.Groups.{lacks_put, zones_of}
use Rattle.calls_distinct.specs.kept.Verdicts.{calls_of_history}
use Rattle.calls_distinct.proofs.Facing.{either}
use Rattle.calls_distinct.proofs.Faults.{put_call_is, put_value}
use Rattle.calls_distinct.proofs.Checked.{gets_own}
use Rattle.calls_distinct.proofs.Sorting.{zone_less, zones_ranked, not_after}
use Rattle.calls_distinct.proofs.Grouping.{group_more, group_new, other_more}
use Rattle.calls_distinct.proofs.Listing.{cons_in, each_from_contains}
use Rattle.calls_distinct.proofs.Judging.{nowhere_shows, crossing_shows, order_is}

-- GROUPS

pub one_call : (c : Call) → (g : Group) × IsGroup (c ∷ []) (value c) g
one_call c =
    elim (either (is_put c.op)) [
      | inl p ↦
          (let own = put_call_is (value c) c p refl in
          let no : gets (value c) c ≡ false = ap (λ b. not b && (value c == value c)) p in
          let none_got : count_by (gets (value c)) (c ∷ []) ≡ 0 =
          omega (arith, count_cons (gets (value c)) c [], one_no (gets (value c) c) no) in (
            record { got = false; puts = 1; put = c.first; early = c; late = c },
            record {
              got = sym (ap (nat_le 1) none_got);
              puts = omega (
                arith,
                count_cons (put_call (value c)) c [],
                one_yes
                    (put_call (value c) c) own,
              );
              put = λ lt. omega (
                arith,
                count_cons (is_put_at (value c) c.first) c [],
                one_yes
                    (is_put_at (value c) c.first c) (and_from (put_call (value c) c) _ own
                    (eq-eqb c.first c.first refl)),
              );
              known_early = (zero, omega arith, refl);
              known_late = (zero, omega arith, refl);
              early = refl;
              late = refl;
              least = ((λ e. omega arith), tt);
              most = ((λ e. omega arith), tt);
            },
          ))
      | inr p ↦
          (let no : put_call (value c) c ≡ false = elim (either (put_call (value c) c)) [
            | inr e ↦
                e
            | inl e ↦ absurd (false≢true (sym p ∙ (put_value (value c) c.op c.reply e).0))
          ] in (
            record { got = true; puts = 0; put = 0; early = c; late = c },
            record {
              got = sym (le-leb 1 (count_by (gets (value c)) (c ∷ []))
                  (omega (
                    arith,
                    count_cons (gets (value c)) c [],
                    one_yes (gets (value c) c)
                        (gets_own c p),
                  )));
              puts = omega (
                arith,
                count_cons (put_call (value c)) c [],
                one_no (put_call (value c) c)
                    no,
              );
              put = λ lt. absurd (omega arith);
              known_early = (zero, omega arith, refl);
              known_late = (zero, omega arith, refl);
              early = refl;
              late = refl;
              least = ((λ e. omega arith), tt);
              most = ((λ e. omega arith), tt);
            },
          ))
    ]

one_more_group : (seen : List Call) (call : Call) → ((v : ℕ) → (o : Option Group)
    × IsGroupOf seen v o) → (v : ℕ) → (o : Option Group) × IsGroupOf (seen ++ call ∷ []) v o
one_more_group seen call h v =
    elim (cases_eq (value call) v) [
      | inl same ↦ subst (λ n. (o : Option Group) × IsGroupOf (seen ++ call ∷ []) n o) same
          (own (h (value call)).0 (h (value call)).1)
      | inr ne ↦ ((h v).0, other_more seen call v (h v).0 ne (h v).1)
    ]
  where
    own : (o : Option Group) → IsGroupOf seen (value call) o → (o : Option Group)
        × IsGroupOf (seen ++ call ∷ []) (value call) o
    own None k = (let g = one_call call in (Some g.0, group_new seen call None g.0 k refl g.1))
    own (Some g) k = (Some (with_call g call), group_more seen call g k)

all_groups : (seen rest : List Call) → ((v : ℕ) → (o : Option Group) × IsGroupOf seen v o) → (v : ℕ)
    → (o : Option Group) × IsGroupOf (seen ++ rest) v o
all_groups seen [] h v = subst (λ cs. (o : Option Group) × IsGroupOf cs v o) (sym (append-nil seen))
    (h v)
all_groups seen (c ∷ rest) h v = subst (λ cs. (o : Option Group) × IsGroupOf cs v o)
    (append_assoc seen (c ∷ []) rest) (all_groups (seen ++ c ∷ []) rest (one_more_group seen c h) v)

each_call : {X : Type 0} (P : X → Type 0) (xs : List X) → Each P xs → (x : X) → Contains xs x → P x
each_call P [] h x (k, lt, e) = absurd (omega arith)
each_call P (y ∷ xs) h x (zero, lt, e) = subst P e h.0
each_call P (y ∷ xs) h x (suc k, lt, e) = each_call P xs h.1 x (
  k,
  (let l : k < length xs =
      omega arith in l),
  e,
)

pub all_grouped : (calls : List Call) → (zs : List GroupedCall) × AreGrouped calls calls zs
all_grouped calls = (let r = go calls (each_from_contains (λ (c : Call). Contains calls c) calls
    (λ c k. k)) in (r.0, record { calls = r.1; groups = r.2 }))
  where
    some : (v : ℕ) (c : Call) (o : Option Group) → Contains calls c → value c ≡ v
        → IsGroupOf calls v o → (g : Group) × IsGroup calls v g
    some v c None k e h = absurd (each_call (λ (d : Call). value d ≡ v → ⊥) calls h c k e)
    some v c (Some g) k e h = (g, h)

    go : (cs : List Call) → Each (λ (c : Call). Contains calls c) cs → (zs : List GroupedCall)
        × (grouped_calls zs ≡ cs)
        × Each (λ (z : GroupedCall). IsGroup calls (value z.call) z.group) zs
    go [] h = ([], refl, tt)
    go (c ∷ cs) h =
        let o = all_groups [] calls (λ v. (None, tt)) (value c) in
        let g = some (value c) c o.0 h.0 refl o.1 in
        let r = go cs h.1 in
        (record { call = c; group = g.0 } ∷ r.0, ap (λ ys. c ∷ ys) r.1, (g.1, r.2))

-- SORTED ZONES

record IsPlaced (z : Zone) (zs ys : List Zone) : Type 0 where
  moved : IsPermutation (z ∷ zs) ys
  sorted : EachPair NotAfter ys
  after_all : (x : Zone) → NotAfter x z → Each (NotAfter x) zs → Each (NotAfter x) ys

either_way : (x y : Zone) → NotAfter x y ⊎ NotAfter y x
either_way x y = elim (either (zone_less y x)) [
  | inr e ↦ inl (not_after x y e)
  | inl e ↦
      inr (not_after y x (zones_ranked.one_way y x e))
]

not_after_far : (x y z : Zone) → NotAfter x y → NotAfter y z → NotAfter x z
not_after_far x y z a b =
    let ka = a.keys in
    let kb = b.keys in
    record {
      keys = omega arith;
      values = λ k. (let va = a.values (omega arith) in let vb = b.values (omega arith) in
          omega arith);
      ranks = λ k v. (let va = a.values (omega arith) in let vb = b.values (omega arith) in let ra =
          a.ranks (omega arith) (omega arith) in let rb = b.ranks (omega arith) (omega arith) in
          omega arith);
    }

put_in : (z : Zone) (zs : List Zone) → EachPair NotAfter zs → (ys : List Zone) × IsPlaced z zs ys
put_in z [] h = (
  z ∷ [],
  record {
    moved = IsPermutation-refl (z ∷ []);
    sorted = (tt, tt);
    after_all = λ y p k. (p, tt);
  },
)
put_in z (x ∷ zs) h =
    elim (either_way z x) [
      | inl first ↦ (
        z ∷ x ∷ zs,
        record {
          moved = IsPermutation-refl (z ∷ x ∷ zs);
          sorted = (
            (
              first,
              each_weaker (NotAfter x) (NotAfter z) (λ y k.
                  not_after_far z x y first k) zs h.0,
            ),
            h,
          );
          after_all = λ y p k. (p, k);
        },
      )
      | inr later ↦ (let r = put_in z zs h.1 in (
        x ∷ r.0,
        record {
          moved = IsPermutation-trans (z ∷ x ∷ zs) (x ∷ z ∷ zs) (x ∷ r.0) (permutation_turn z x zs)
              (IsPermutation-cons x (z ∷ zs) r.0 r.1.moved);
          sorted = (r.1.after_all x later h.0, r.1.sorted);
          after_all = λ y p k. (k.0, r.1.after_all y p k.1);
        },
      ))
    ]

pub all_sorted : (zs : List Zone) → (ys : List Zone) × IsPermutation zs ys × EachPair NotAfter ys
all_sorted [] = ([], IsPermutation-refl [], tt)
all_sorted (z ∷ zs) =
    let r = all_sorted zs in
    let p = put_in z r.0 r.2 in (
      p.0,
      IsPermutation-trans (z ∷ zs) (z ∷ r.0) p.0 (IsPermutation-cons z zs r.0 r.1) p.1.moved,
      p.1.sorted,
    )

-- IN ORDER, OR NOT

one_side : (x : Zone) (ys : List Zone) → Each (NotAfter x) ys → Each (KeepZoneOrder x) ys
    ⊎ ((z : Zone) × Contains ys z × NotAfter x z × Precedes z.call x.call)
one_side x [] k = inl tt
one_side x (z ∷ ys) k =
    elim (cases_lt z.call.last x.call.first) [
      | inl lt ↦ inr (z, (zero, omega arith, refl), k.0, lt)
      | inr ge ↦ elim (one_side x ys k.1) [
        | inl rest ↦ inl (
          (λ f. (let lt : z.call.last < x.call.first = f in absurd (omega arith))),
          rest,
        )
        | inr r ↦ inr (r.0, cons_in z r.0 ys r.1, r.2, r.3)
      ]
    ]

kept_or_crossed : (zs : List Zone) → EachPair NotAfter zs → EachPair KeepZoneOrder zs
    ⊎ ((x : Zone) × (z : Zone) × AreCrossed zs x z)
kept_or_crossed [] h = inl tt
kept_or_crossed (x ∷ zs) h =
    elim (one_side x zs h.0) [
      | inr r ↦ inr (
        x,
        r.0,
        record {
          known_x = (zero, omega arith, refl);
          known_z =
              cons_in x r.0 zs r.1;
          sorted = r.2;
          crossed = r.3;
        },
      )
      | inl kept ↦ elim (kept_or_crossed zs h.1) [
        | inl rest ↦ inl (kept, rest)
        | inr c ↦ inr (
          c.0,
          c.1,
          record {
            known_x = cons_in x c.0 zs c.2.known_x;
            known_z =
                cons_in x c.1 zs c.2.known_z;
            sorted = c.2.sorted;
            crossed = c.2.crossed;
          },
        )
      ]
    ]

none_or_one : {X : Type 0} (p : X → Bool) (xs : List X) → Each (λ (x : X). p x ≡ false) xs
    ⊎ ((x : X) × Contains xs x × (p x ≡ true))
none_or_one p [] = inl tt
none_or_one p (x ∷ xs) =
    elim (either (p x)) [
      | inl e ↦ inr (x, (zero, omega arith, refl), e)
      | inr e ↦ elim (none_or_one p xs) [
        | inl rest ↦ inl (e, rest)
        | inr r ↦
            inr (r.0, cons_in x r.0 xs r.1, r.2)
      ]
    ]

-- EVERY HISTORY

pub every_one_decided : (kind : Kind) (past : List Event) (t : ℕ) → IsStore kind
    → IsHistoryOf kind past → IsDistinctHistory past → clock past ≤ t
    → ((cs : List Call) × IsOrderOf kind past t cs) ⊎ ((fault : Fault) × Shows past fault)
every_one_decided kind past t store history distinct le =
    let h : IsStoreHistory past = (kind, store, history) in
    let g = all_grouped (calls_of_history past t) in
    elim (none_or_one lacks_put g.0) [
      | inr r ↦ inr (Nowhere r.0.call, nowhere_shows past t h le distinct g.0 g.1 r.0 r.1 r.2)
      | inl none ↦
          (let s = all_sorted (zones_of t g.0) in
          elim (kept_or_crossed s.0 s.2) [
            | inl kept ↦ inl (
              zone_calls s.0,
              order_is past t h le distinct g.0 g.1 none s.0 s.1 s.2
                  kept kind store,
            )
            | inr c ↦ inr (
              crossing_fault c.0 c.1,
              crossing_shows past t h le distinct g.0 g.1 none
                  s.0 s.1 s.2 c.0 c.1 c.2,
            )
          ])
    ]
