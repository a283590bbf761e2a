-- Calls sorted by zones are a legal sequential history.
use Rattle.std.proofs.Common.{◌≡◌, ◌≢◌, ℕ, zero, suc, ◌<◌, ◌⊎◌, inl, inr, min}
use Rattle.std.proofs.Common.{true, false, List, [], ◌∷◌, ◌++◌, length, refl, ap, sym}
use Rattle.std.proofs.Common.{◌∙◌, arith, subst, append_assoc}
use Rattle.std.specs.List.{Contains}
use Rattle.std.specs.List.Sorted.{IsPermutation}
use Rattle.std.proofs.lemmas.Bool.{cases_eq}
use Rattle.std.proofs.lemmas.List.Elements.{All-contains}
use Rattle.std.proofs.lemmas.List.Sorted.{Contains-permutation}
use Rattle.calls_core.specs.declared.history.Op.{Op}
use Rattle.calls_core.specs.declared.history.Op.TheVariants.{Advance, Read, Await, Ticket, P, V}
use Rattle.calls_core.specs.declared.history.Op.TheVariants.{PBoth, Put, Get, Produce, Consume}
use Rattle.calls_core.specs.declared.history.Reply.{Reply}
use Rattle.calls_core.specs.declared.history.Reply.TheVariants.{Done, Number, Timeout}
use Rattle.calls_core.specs.declared.history.PendingCall.{PendingCall}
use Rattle.calls_core.specs.declared.history.Call.{Call}
use Rattle.calls_core.specs.Lists.{Each, EachPair}
use Rattle.calls_core.specs.Histories.{Suits}
use Rattle.calls_core.specs.Linearizations.{Gives, after, IsLegalHistory}
use Rattle.calls_core.proofs.Lists.{each_weaker, each_pair_right, each_pair_left}
use Rattle.calls_core.proofs.Lists.{each_pair_across, all_from_each}
use Rattle.calls_core.proofs.Counting.{Split, in_either}
use Rattle.calls_distinct.specs.declared.zone.Zone.{Zone}
use Rattle.calls_distinct.specs.Cells.{is_put, value_put_or_returned, value, gets, is_got}
use Rattle.calls_distinct.specs.kept.Zones.{key, NotAfter, IsZone, zone_calls}
use Rattle.calls_distinct.proofs.Accesses.{IsAccess}
use Rattle.calls_distinct.proofs.Facing.{AreChecked, either, rank_put, rank_get, gets_of, gets_is}
use Rattle.calls_distinct.proofs.Facing.{key_zero, key_other, one_early}

one_gives : (m : ℕ → ℕ) (op : Op) (r : Reply) → IsAccess op → Suits op r
    → (is_put op ≡ false → value_put_or_returned op r ≡ m 0) → Gives m op r
    × (after m op r 0 ≡ value_put_or_returned op r)
one_gives m (Put v) Done a u h = (refl, refl)
one_gives m (Put v) (Number n) a u h = absurd u
one_gives m (Put v) Timeout a u h = absurd u
one_gives m Get Done a u h = absurd u
one_gives m Get (Number n) a u h = (ap Number (h refl), sym (h refl))
one_gives m Get Timeout a u h = absurd u
one_gives m Advance r a u h = absurd a
one_gives m Read r a u h = absurd a
one_gives m (Await v) r a u h = absurd a
one_gives m Ticket r a u h = absurd a
one_gives m (P i) r a u h = absurd a
one_gives m (V i) r a u h = absurd a
one_gives m (PBoth i j) r a u h = absurd a
one_gives m (Produce v) r a u h = absurd a
one_gives m Consume r a u h = absurd a

no_get : (c : Call) → is_put c.op ≡ true → gets 0 c ≡ false
no_get c p = elim (either (gets 0 c)) [
  | inl e ↦ (let is = gets_is c e in let both : true ≡ false =
      sym p ∙ is.0 in cc)
  | inr e ↦ e
]

no_zero_get : (c : Call) → value c ≢ 0 → gets 0 c ≡ false
no_zero_get c ne = elim (either (gets 0 c)) [
  | inl e ↦ (let is = gets_is c e in absurd (ne is.1))
  | inr e ↦ e
]

in_zones : (zs : List Zone) (c : Call) → Contains (zone_calls zs) c → (z : Zone) × Contains zs z
    × (z.call ≡ c)
in_zones [] c (k, lt, e) = absurd (omega arith)
in_zones (z ∷ zs) c (zero, lt, e) = (z, (zero, omega arith, refl), e)
in_zones (z ∷ zs) c (suc k, lt, e) =
    let r = in_zones zs c (k, (let l : k < length (zone_calls zs) = omega arith in l), e) in
    (r.0, (suc r.1.0, (let l : r.1.0 < length zs = r.1.1 in omega arith), r.1.2), r.2)

pub each_of : {X : Type 0} (Q : X → Type 0) (xs : List X) (x : X) → Each Q xs → Contains xs x → Q x
each_of Q xs x h k = All-contains Q xs x (all_from_each Q xs h) k

pub middle : {X : Type 0} (us : List X) (x : X) (ws : List X) → Contains (us ++ x ∷ ws) x
middle [] x ws = (zero, omega arith, refl)
middle (u ∷ us) x ws = (let r = middle us x ws in (
  suc r.0,
  (let lt : r.0 < length (us ++ x ∷ ws) =
      r.1 in omega arith),
  r.2,
))

of_split : {X : Type 0} (xs : List X) (x : X) → Split xs x → Contains xs x
of_split xs x s = subst (λ zs. Contains zs x) (sym s.is) (middle s.prefix x s.back)

-- s is the value that is stored after these calls
record IsLast (xs : List Zone) (s : ℕ) : Type 0 where
  prefix : List Zone
  w : Zone
  is : xs ≡ prefix ++ w ∷ []
  value_is : value w.call ≡ s

module _ (all done : List Call) (pending : List PendingCall) (t : ℕ)
    (checked : AreChecked all done pending t) (order : List Zone)
    (zones : Each (IsZone all done) order) (sorted : EachPair NotAfter order)
    (moved : IsPermutation all (zone_calls order)) where
  one_zone : (z : Zone) → Contains order z → IsZone all done z
  one_zone z k = each_of (IsZone all done) order z zones k

  -- a get returns the value that is stored before it
  stored : (xs : List Zone) (z : Zone) (ys : List Zone) (s : ℕ) → order ≡ xs ++ z ∷ ys
      → ((xs ≡ []) × (s ≡ 0)) ⊎ IsLast xs s → is_put z.call.op ≡ false → value z.call ≡ s
  stored xs z ys s is last get =
      let pairs : EachPair NotAfter (xs ++ z ∷ ys) = subst (EachPair NotAfter) is sorted in
      let before : Each (λ x. NotAfter x z) xs = each_weaker (λ x. Each (NotAfter x) (z ∷ ys)) (λ x.
      NotAfter x z) (λ x h. h.0) xs (each_pair_across NotAfter xs (z ∷ ys) pairs) in
      let behind : Each (NotAfter z) ys = (each_pair_right NotAfter xs (z ∷ ys) pairs).0 in
      let here : Contains order z = subst (λ zs. Contains zs z) (sym is) (middle xs z ys) in
      let hz = one_zone z here in
      elim (cases_eq (value z.call) 0) [
        | inl none ↦ elim last [
          | inl start ↦ none ∙ sym start.1
          | inr r ↦
              (let n : NotAfter r.w z = each_of (λ x. NotAfter x z) xs r.w before
              (subst (λ zs. Contains zs r.w) (sym r.is) (middle r.prefix r.w [])) in
              let kz = key_zero z (gets_of z.call get none) in
              let keys = n.keys in
              let same : key r.w ≡ key z = omega arith in
              let le = n.values same in
              let at = r.value_is in
              omega arith)
        ]
        | inr some ↦
            (let p = checked.put_there z.call hz.known get some in
            let got : is_got done (value z.call) ≡ true = checked.get_got z.call hz.known get in
            let f = in_zones order p.0 (Contains-permutation all (zone_calls order) p.0 moved p.1)
            in
            let q = f.0 in
            let hq = one_zone q f.1 in
            let put_q : is_put q.call.op ≡ true = ap (λ (c : Call). is_put c.op) f.2 ∙ p.2 in
            let value_q : value q.call ≡ value z.call = ap value f.2 ∙ p.3 in
            let same = one_early all done pending t checked z q hz hq got (sym value_q) in
            let keys : key z ≡ key q = key_other z (no_zero_get z.call some) ∙ ap (λ m.
            min m z.late.first) same.0 ∙ ap (λ m. min q.early.last m) same.1 ∙ sym
            (key_other q (no_get q.call put_q)) in
            elim (in_either xs z ys q (subst (λ zs. Contains zs q) is f.1)) [
              | inl prefix ↦ elim last [
                | inl start ↦ (let e : [] ≡ prefix.prefix ++ q ∷ prefix.back =
                    sym start.0 ∙ prefix.is in absurd (nothing prefix.prefix q prefix.back e))
                | inr r ↦
                    (let n : NotAfter r.w z = each_of (λ x. NotAfter x z) xs r.w before
                    (subst (λ zs. Contains zs r.w) (sym r.is) (middle r.prefix r.w [])) in
                    elim (in_either r.prefix r.w [] q (subst (λ zs. Contains zs q) r.is
                    (of_split xs q prefix))) [
                      | inl early ↦
                          (let own : EachPair NotAfter (r.prefix ++ r.w ∷ []) =
                          subst (EachPair NotAfter) r.is
                          (each_pair_left NotAfter xs (z ∷ ys) pairs) in
                          let up : Each (λ x. NotAfter x r.w) r.prefix =
                          each_weaker (λ x. Each (NotAfter x) (r.w ∷ [])) (λ x. NotAfter x r.w)
                          (λ x h. h.0) r.prefix (each_pair_across NotAfter r.prefix
                          (r.w ∷ []) own) in
                          let m : NotAfter q r.w = each_of (λ x. NotAfter x r.w) r.prefix q up
                          (of_split r.prefix q early) in
                          let a = m.keys in
                          let b = n.keys in
                          let c = m.values (omega arith) in
                          let d = n.values (omega arith) in
                          let at = r.value_is in
                          omega arith)
                      | inr rest ↦ elim rest [
                        | inl eq ↦ sym value_q ∙ ap (λ (y : Zone). value y.call) (sym eq)
                            ∙ r.value_is
                        | inr none ↦ absurd (nothing none.prefix q none.back none.is)
                      ]
                    ])
              ]
              | inr rest ↦ elim rest [
                | inl eq ↦ (let both : true ≡ false = sym put_q ∙ ap
                    (λ (y : Zone). is_put y.call.op) (sym eq) ∙ get in cc)
                | inr late ↦
                    (let n : NotAfter z q = each_of (NotAfter z) ys q behind (of_split ys q late) in
                    let r = n.ranks keys (sym value_q) in
                    absurd (omega (arith, rank_get z.call get, rank_put q.call put_q)))
              ]
            ])
      ]
    where
      nothing : (us : List Zone) (q : Zone) (ws : List Zone) → [] ≡ us ++ q ∷ ws → ⊥
      nothing [] q ws e = cc
      nothing (u ∷ us) q ws e = cc

  run_from : (xs ys : List Zone) (m : ℕ → ℕ) → order ≡ xs ++ ys → ((xs ≡ []) × (m 0 ≡ 0))
      ⊎ IsLast xs (m 0) → IsLegalHistory m (zone_calls ys)
  run_from xs [] m is last = tt
  run_from xs (z ∷ ys) m is last =
      let hz = one_zone z (subst (λ zs. Contains zs z) (sym is) (middle xs z ys)) in
      let g = one_gives m z.call.op z.call.reply (checked.access z.call hz.known)
      (checked.suits z.call hz.known) (stored xs z ys (m 0) is last) in (
        g.0,
        run_from (xs ++ z ∷ []) ys (after m z.call.op z.call.reply)
            (is ∙ sym (append_assoc xs (z ∷ []) ys)) (inr (record {
              prefix = xs;
              w = z;
              is = refl;
              value_is = sym g.1;
            })),
      )

  pub run_sorted : (m : ℕ → ℕ) → m 0 ≡ 0 → IsLegalHistory m (zone_calls order)
  run_sorted m e = run_from [] order m refl (inl (refl, e))
