-- One more call in the groups.
use Rattle.std.proofs.Common.{◌≡◌, ◌≢◌, ℕ, zero, ◌+◌, ◌≤◌, inl, inr, Bool, true, ◌||◌}
use Rattle.std.proofs.Common.{false, cond, not, ◌&&◌, ◌==◌, nat_lt, nat_le, Option, Some, None}
use Rattle.std.proofs.Common.{subst, List, [], ◌∷◌, ◌++◌, refl, ap, sym}
use Rattle.std.proofs.Common.{◌∙◌, arith, count_by}
use Rattle.std.specs.List.{Contains}
use Rattle.std.proofs.lemmas.Bool.{eq-eqb, eqb-true, le-leb, ltb-true}
use Rattle.std.proofs.lemmas.Bool.{ltb-false, and_from, cases_eq, false≢true}
use Rattle.std.proofs.lemmas.List.Elements.{Contains-append_left, Contains-append_right}
use Rattle.calls_core.specs.declared.history.Call.{Call}
use Rattle.calls_core.specs.Lists.{Each}
use Rattle.calls_core.proofs.Lists.{each_weaker, each_append}
use Rattle.calls_core.proofs.Counting.{one, one_yes, one_no, count_cons, count_append}
use Rattle.calls_distinct.specs.declared.zone.Group.{Group}
use Rattle.calls_distinct.specs.Cells.{is_put, value, put_call, gets}
use Rattle.calls_distinct.specs.Outcomes.{is_put_at}
use Rattle.calls_distinct.specs.kept.Groups.{earlier, later, with_call, IsGroup, IsGroupOf}
use Rattle.calls_distinct.proofs.Faults.{put_call_is, put_value}
use Rattle.calls_distinct.proofs.Facing.{either}
use Rattle.calls_distinct.proofs.Checked.{gets_own, gets_parts}

count_one_more : {X : Type 0} (p : X → Bool) (xs : List X) (x : X)
    → count_by p (xs ++ x ∷ []) ≡ count_by p xs + one (p x)
count_one_more p xs x = omega (arith, count_append p xs (x ∷ []), count_cons p x [])

at_end : {X : Type 0} (xs : List X) (x : X) → Contains (xs ++ x ∷ []) x
at_end xs x = Contains-append_right xs (x ∷ []) x (zero, omega arith, refl)

module _ (seen : List Call) (call : Call) (g : Group) (h : IsGroup seen (value call) g) where
  early_more : (Contains (seen ++ call ∷ []) (earlier g.early call))
      × (value (earlier g.early call) ≡ value call)
      × Each (λ (c : Call). value c ≡ value call → (earlier g.early call).last ≤ c.last)
      (seen ++ call ∷ [])
  early_more = elim (nat_lt call.last g.early.last) as (λ b. nat_lt call.last g.early.last ≡ b
      → (Contains (seen ++ call ∷ []) (cond b call g.early))
      × (value (cond b call g.early) ≡ value call)
      × Each (λ (c : Call). value c ≡ value call → (cond b call g.early).last ≤ c.last)
      (seen ++ call ∷ [])) [
        | true ↦ λ e. (let lt = ltb-true call.last g.early.last e in (
          at_end seen call,
          refl,
          each_append (λ (c : Call). value c ≡ value call
              → call.last ≤ c.last) seen (call ∷ [])
              (each_weaker (λ (c : Call). value c ≡ value call → g.early.last ≤ c.last)
              (λ (c : Call). value c ≡ value call → call.last ≤ c.last) (λ c k s.
              (let le = k s in omega arith)) seen h.least) ((λ s. omega arith), tt),
        ))
        | false ↦ λ e. (let ge = ltb-false call.last g.early.last e in (
          Contains-append_left seen (call ∷ []) g.early h.known_early,
          h.early,
          each_append
              (λ (c : Call). value c ≡ value call → g.early.last ≤ c.last) seen (call ∷ []) h.least
              ((λ s. ge), tt),
        ))
      ] refl

  late_more : (Contains (seen ++ call ∷ []) (later g.late call))
      × (value (later g.late call) ≡ value call)
      × Each (λ (c : Call). value c ≡ value call → c.first ≤ (later g.late call).first)
      (seen ++ call ∷ [])
  late_more = elim (nat_lt g.late.first call.first) as (λ b. nat_lt g.late.first call.first ≡ b
      → (Contains (seen ++ call ∷ []) (cond b call g.late))
      × (value (cond b call g.late) ≡ value call)
      × Each (λ (c : Call). value c ≡ value call → c.first ≤ (cond b call g.late).first)
      (seen ++ call ∷ [])) [
        | true ↦ λ e. (let lt = ltb-true g.late.first call.first e in (
          at_end seen call,
          refl,
          each_append (λ (c : Call). value c ≡ value call
              → c.first ≤ call.first) seen (call ∷ [])
              (each_weaker (λ (c : Call). value c ≡ value call → c.first ≤ g.late.first)
              (λ (c : Call). value c ≡ value call → c.first ≤ call.first) (λ c k s.
              (let le = k s in omega arith)) seen h.most) ((λ s. omega arith), tt),
        ))
        | false ↦ λ e. (let ge = ltb-false g.late.first call.first e in (
          Contains-append_left seen (call ∷ []) g.late h.known_late,
          h.late,
          each_append
              (λ (c : Call). value c ≡ value call → c.first ≤ g.late.first) seen (call ∷ []) h.most
              ((λ s. ge), tt),
        ))
      ] refl

  pub group_more : IsGroup (seen ++ call ∷ []) (value call) (with_call g call)
  group_more =
      let v = value call in
      let gets_more = count_one_more (gets v) seen call in
      let puts_more = count_one_more (put_call v) seen call in
      let at_more = λ (n : ℕ). count_one_more (is_put_at v n) seen call in
      let early = early_more in
      let late = late_more in
      elim (is_put call.op) as (λ b. is_put call.op ≡ b → IsGroup (seen ++ call ∷ []) v (record {
        got = not b || g.got;
        puts = cond b (g.puts + 1) g.puts;
        put = cond b call.first g.put;
        early = earlier g.early call;
        late = later g.late call;
      })) [
        | true ↦ λ p.
            (let own = put_call_is v call p refl in
            let no : gets v call ≡ false = ap (λ b. not b && (value call == v)) p in
            record {
              got = h.got ∙ ap (nat_le 1) (omega (arith, gets_more, one_no (gets v call) no));
              puts = omega (arith, h.puts, puts_more, one_yes (put_call v call) own);
              put = λ lt. omega (
                arith,
                at_more call.first,
                one_yes (is_put_at v call.first call)
                    (and_from (put_call v call) (call.first == call.first) own
                    (eq-eqb call.first call.first refl)),
              );
              known_early = early.0;
              early = early.1;
              least = early.2;
              known_late = late.0;
              late = late.1;
              most = late.2;
            })
        | false ↦ λ p.
            record {
              got = sym (le-leb 1 (count_by (gets v) (seen ++ call ∷ []))
                  (omega (arith, gets_more, one_yes (gets v call) (gets_own call p))));
              puts = omega (arith, h.puts, puts_more, one_no (put_call v call) (no_put v call p));
              put = λ lt. (let some = h.put lt in omega (arith, at_more g.put));
              known_early = early.0;
              early = early.1;
              least = early.2;
              known_late = late.0;
              late = late.1;
              most = late.2;
            }
      ] refl
    where
      no_put : (v : ℕ) (c : Call) → is_put c.op ≡ false → put_call v c ≡ false
      no_put v c p = elim (either (put_call v c)) [
        | inr e ↦ e
        | inl e ↦
            absurd (false≢true (sym p ∙ (put_value v c.op c.reply e).0))
      ]

-- a call of another value leaves the group as it is
pub other_more : (seen : List Call) (call : Call) (v : ℕ) (g : Option Group) → value call ≢ v
    → IsGroupOf seen v g → IsGroupOf (seen ++ call ∷ []) v g
other_more seen call v None ne h = each_append (λ (c : Call). value c ≡ v → ⊥) seen (call ∷ []) h
    (ne, tt)
other_more seen call v (Some g) ne h =
    let no_get : gets v call ≡ false = elim (either (gets v call)) [
      | inr e ↦ e
      | inl e ↦
          absurd (ne (gets_parts v call e).1)
    ] in
    let no_put : put_call v call ≡ false = elim (either (put_call v call)) [
      | inr e ↦ e
      | inl e ↦
          absurd (ne (put_value v call.op call.reply e).1)
    ] in
    record {
      got = h.got ∙ ap (nat_le 1) (omega (
        arith,
        count_one_more (gets v) seen call,
        one_no
            (gets v call) no_get,
      ));
      puts = omega (
        arith,
        h.puts,
        count_one_more (put_call v) seen call,
        one_no
            (put_call v call) no_put,
      );
      put = λ lt. (let some =
          h.put lt in omega (arith, count_one_more (is_put_at v g.put) seen call));
      known_early = Contains-append_left seen (call ∷ []) g.early h.known_early;
      known_late = Contains-append_left seen (call ∷ []) g.late h.known_late;
      early = h.early;
      late = h.late;
      least = each_append (λ (c : Call). value c ≡ v → g.early.last ≤ c.last) seen
          (call ∷ []) h.least ((λ e. absurd (ne e)), tt);
      most = each_append (λ (c : Call). value c ≡ v → c.first ≤ g.late.first) seen
          (call ∷ []) h.most ((λ e. absurd (ne e)), tt);
    }

same_key : (k v : ℕ) → k ≡ v → (k == v) ≡ true
same_key k v e = eq-eqb k v e

other_key : (k v : ℕ) → k ≢ v → (k == v) ≡ false
other_key k v ne = elim (either (k == v)) [
  | inl e ↦ absurd (ne (eqb-true k v e))
  | inr e ↦ e
]

pub groups_more : (seen : List Call) (call : Call) (old new : ℕ → Option Group) (k : ℕ) (g : Group)
    → ((v : ℕ) → IsGroupOf seen v (old v)) → k ≡ value call
    → IsGroup (seen ++ call ∷ []) (value call) g
    → ((q : ℕ) → new q ≡ cond (k == q) (Some g) (old q)) → (v : ℕ)
    → IsGroupOf (seen ++ call ∷ []) v (new v)
groups_more seen call old new k g h e own is v =
    elim (cases_eq (value call) v) [
      | inl same ↦ subst (IsGroupOf (seen ++ call ∷ []) v)
          (sym (is v ∙ ap (λ b. cond b (Some g) (old v)) (same_key k v (e ∙ same))))
          (subst (λ n. IsGroup (seen ++ call ∷ []) n g) same own)
      | inr ne ↦ subst (IsGroupOf (seen ++ call ∷ []) v)
          (sym (is v ∙ ap (λ b. cond b (Some g) (old v)) (other_key k v (λ q. ne (sym e ∙ q)))))
          (other_more seen call v (old v) ne (h v))
    ]

pub group_kept : (seen : List Call) (call : Call) (old : Option Group) (g new : Group)
    → IsGroupOf seen (value call) old → old ≡ Some g → new ≡ with_call g call
    → IsGroup (seen ++ call ∷ []) (value call) new
group_kept seen call old g new h e is = subst (IsGroup (seen ++ call ∷ []) (value call)) (sym is)
    (group_more seen call g (subst (IsGroupOf seen (value call)) e h))

pub group_new : (seen : List Call) (call : Call) (old : Option Group) (new : Group)
    → IsGroupOf seen (value call) old → old ≡ None → IsGroup (call ∷ []) (value call) new
    → IsGroup (seen ++ call ∷ []) (value call) new
group_new seen call old new h e own =
    let none : Each (λ (c : Call). value c ≡ value call → ⊥) seen =
    subst (IsGroupOf seen (value call)) e h in
    let v = value call in
    record {
      got = own.got ∙ ap (nat_le 1) (omega (
        arith,
        count_append (gets v) seen (call ∷ []),
        nobody
            (gets v) (λ c q. (gets_parts v c q).1) seen none,
      ));
      puts = omega (
        arith,
        own.puts,
        count_append (put_call v) seen (call ∷ []),
        nobody (put_call v)
            (λ c q. (put_value v c.op c.reply q).1) seen none,
      );
      put = λ lt. (let some = own.put lt in omega (
        arith,
        count_append (is_put_at v new.put) seen
            (call ∷ []),
      ));
      known_early = Contains-append_right seen (call ∷ []) new.early own.known_early;
      known_late = Contains-append_right seen (call ∷ []) new.late own.known_late;
      early = own.early;
      late = own.late;
      least = each_append (λ (c : Call). value c ≡ v → new.early.last ≤ c.last) seen (call ∷ [])
          (each_weaker (λ (c : Call). value c ≡ v → ⊥) (λ (c : Call). value c ≡ v
          → new.early.last ≤ c.last) (λ c n s. absurd (n s)) seen none) own.least;
      most = each_append (λ (c : Call). value c ≡ v → c.first ≤ new.late.first) seen (call ∷ [])
          (each_weaker (λ (c : Call). value c ≡ v → ⊥) (λ (c : Call). value c ≡ v
          → c.first ≤ new.late.first) (λ c n s. absurd (n s)) seen none) own.most;
    }
  where
    nobody : (p : Call → Bool) → ((c : Call) → p c ≡ true → value c ≡ value call) → (xs : List Call)
        → Each (λ (c : Call). value c ≡ value call → ⊥) xs → count_by p xs ≡ 0
    nobody p f [] k = refl
    nobody p f (x ∷ xs) k = omega (
      arith,
      count_cons p x xs,
      one_no (p x)
          (elim (either (p x)) [ inr q ↦ q | inl q ↦ absurd (k.0 (f x q)) ]),
      nobody p f xs k.1,
    )
