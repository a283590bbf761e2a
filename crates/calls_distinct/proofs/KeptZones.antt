-- One more zone, whose call keeps the order with those before it.
use Rattle.std.proofs.Common.{◌≡◌, ℕ, zero, suc, ◌+◌, ◌<◌, ◌≤◌, true, false, cond, nat_lt}
use Rattle.std.proofs.Common.{Option, Some, None, List, [], ◌∷◌, ◌++◌, length, take, drop, get_or}
use Rattle.std.proofs.Common.{refl, ap, sym, ◌∙◌, arith, subst}
use Rattle.std.specs.List.{Contains}
use Rattle.std.proofs.lemmas.Bool.{ltb-true, ltb-false}
use Rattle.std.proofs.lemmas.List.{take_more}
use Rattle.std.proofs.lemmas.List.Elements.{Contains-append_left, Contains-append_right}
use Rattle.calls_core.specs.Lists.{Each, EachPair}
use Rattle.calls_core.proofs.Lists.{each_weaker, each_append, each_pair_append, each_pair_across}
use Rattle.calls_distinct.specs.declared.zone.Zone.{Zone}
use Rattle.calls_distinct.specs.kept.Zones.{NotAfter, AreCrossed, KeepZoneOrder, IsLatest, latest}
use Rattle.calls_distinct.proofs.Sorted.{each_of}
use Rattle.calls_distinct.proofs.Steps.{contains_at}

latest_append : (zs : List Zone) (x : Option Zone) (z : Zone) → IsLatest zs x
    → IsLatest (zs ++ z ∷ []) (Some (latest x z))
latest_append zs None z h = subst (λ ys. IsLatest (ys ++ z ∷ []) (Some z)) (sym h)
    ((zero, omega arith, refl), (omega arith, tt))
latest_append zs (Some x) z h =
    elim (nat_lt x.call.first z.call.first) as (λ b. nat_lt x.call.first z.call.first ≡ b
    → IsLatest (zs ++ z ∷ []) (Some (cond b z x))) [
      | true ↦ λ e. (let lt = ltb-true x.call.first z.call.first e in (
        Contains-append_right zs (z ∷ []) z (zero, omega arith, refl),
        each_append (λ (y : Zone). y.call.first ≤ z.call.first) zs (z ∷ [])
            (each_weaker (λ (y : Zone). y.call.first ≤ x.call.first)
            (λ (y : Zone). y.call.first ≤ z.call.first) (λ y k. omega arith) zs h.1)
            (omega arith, tt),
      ))
      | false ↦ λ e. (let ge = ltb-false x.call.first z.call.first e in (
        Contains-append_left zs (z ∷ []) x h.0,
        each_append
            (λ (y : Zone). y.call.first ≤ x.call.first) zs (z ∷ []) h.1 (ge, tt),
      ))
    ] refl

pub latest_more : (zs : List Zone) (i : ℕ) (d : Zone) (o x : Option Zone) (y : Zone) → i < length zs
    → IsLatest (take i zs) o → x ≡ o → y ≡ latest x (get_or zs i d)
    → IsLatest (take (i + 1) zs) (Some y)
latest_more zs i d o x y lt h same e = subst (λ v. IsLatest (take (i + 1) zs) (Some v)) (sym e)
    (subst (λ ys. IsLatest ys (Some (latest x (get_or zs i d)))) (sym (take_more zs i d lt))
    (latest_append (take i zs) x (get_or zs i d) (subst (IsLatest (take i zs)) (sym same) h)))

pub kept_none : (zs : List Zone) (i : ℕ) (d : Zone) (x : Option Zone) → i < length zs
    → IsLatest (take i zs) x → x ≡ None → EachPair KeepZoneOrder (take (i + 1) zs)
kept_none zs i d x lt h e =
    let none : take i zs ≡ [] = subst (IsLatest (take i zs)) e h in
    subst (EachPair KeepZoneOrder) (sym (take_more zs i d lt ∙ ap (λ ys.
    ys ++ get_or zs i d ∷ []) none)) (tt, tt)

pub kept_more : (zs : List Zone) (i : ℕ) (d : Zone) (o : Option Zone) (x : Zone) → i < length zs
    → IsLatest (take i zs) o → o ≡ Some x → EachPair KeepZoneOrder (take i zs)
    → x.call.first ≤ (get_or zs i d).call.last → EachPair KeepZoneOrder (take (i + 1) zs)
kept_more zs i d o x lt h e kept le =
    let z = get_or zs i d in
    let late : IsLatest (take i zs) (Some x) = subst (IsLatest (take i zs)) e h in
    subst (EachPair KeepZoneOrder) (sym (take_more zs i d lt)) (each_pair_append KeepZoneOrder (take i zs)
    (z ∷ []) kept (tt, tt)
    (each_weaker (λ (y : Zone). y.call.first ≤ x.call.first) (λ (y : Zone). Each (KeepZoneOrder y)
    (z ∷ [])) (λ y k. ((λ f. (let before : z.call.last < y.call.first = f in omega arith)), tt))
    (take i zs) late.1))

both_parts : {X : Type 0} (xs : List X) (i : ℕ) (d : X) → i < length xs
    → xs ≡ take i xs ++ get_or xs i d ∷ drop (suc i) xs
both_parts [] i d lt = absurd (omega arith)
both_parts (x ∷ xs) zero d lt = refl
both_parts (x ∷ xs) (suc i) d lt = ap (λ zs. x ∷ zs) (both_parts xs i d (omega arith))

pub crossed_at : (zs : List Zone) (i : ℕ) (d : Zone) (o : Option Zone) (x : Zone) → i < length zs
    → EachPair NotAfter zs → IsLatest (take i zs) o → o ≡ Some x
    → (get_or zs i d).call.last < x.call.first → AreCrossed zs x (get_or zs i d)
crossed_at zs i d o x lt pairs h e crossed =
    let z = get_or zs i d in
    let late : IsLatest (take i zs) (Some x) = subst (IsLatest (take i zs)) e h in
    let parts = both_parts zs i d lt in
    let across = each_pair_across NotAfter (take i zs) (z ∷ drop (suc i) zs)
    (subst (EachPair NotAfter) parts pairs) in
    record {
      known_x = subst (λ ys. Contains ys x) (sym parts) (Contains-append_left (take i zs)
          (z ∷ drop (suc i) zs) x late.0);
      known_z = contains_at zs i d lt;
      sorted = (each_of (λ (y : Zone). Each (NotAfter y) (z ∷ drop (suc i) zs)) (take i zs) x across
          late.0).0;
      crossed = crossed;
    }
