-- Lists of calls that suit a rule: what a worker has done of them is right by the rule, and a whole list ends where the rule's does.
use Rattle.std.proofs.Common.{◌≡◌, Bool, true, false, not, ◌||◌, cond, List, [], ◌∷◌, ◌++◌, length, slice_get, Option, Some, None, is_some, refl, sym, ◌∙◌, ap, subst, append_assoc, arith}
use Rattle.std.proofs.lemmas.List.{append-nil}
use Rattle.std.proofs.Math.Seq.{take-append_seam}
use Rattle.ec_core.specs.declared.act.Act.{Act}
use Rattle.ec_core.specs.Following.{CompletedCall, Rule, extend_list}
use Rattle.ec_core.specs.Procedures.{IsWritten}
use Rattle.ec_core.proofs.shared.Joining.{get_back}
use Rattle.ec_script_theorems.proofs.Tests.{turned}
use Rattle.ec_core.proofs.shared.FittingCalls.{is_fitting, list_after, AreFitting, after_more}
use Rattle.ec_core.proofs.shared.JoinedLists.{fitting_off as fits_off, fitting_of as fits_on}

-- ASKED AND ALLOWED CALLS

-- each of the calls is one that their worker may begin
abbrev pub AreAllowed : (Act → Type 0) → List CompletedCall → Type 0
AreAllowed may [] = Unit {0}
AreAllowed may (c ∷ calls) = may c.op × AreAllowed may calls

pub allowed_more : (may : Act → Type 0) (xs ys : List CompletedCall) → AreAllowed may xs → AreAllowed may ys → AreAllowed may (xs ++ ys)
allowed_more may [] ys a b = b
allowed_more may (c ∷ xs) ys a b = (a.0, allowed_more may xs ys a.1 b)

pub allowed_front : (may : Act → Type 0) (xs ys : List CompletedCall) → AreAllowed may (xs ++ ys) → AreAllowed may xs
allowed_front may [] ys a = tt
allowed_front may (c ∷ xs) ys a = (a.0, allowed_front may xs ys a.1)

pub allowed_back : (may : Act → Type 0) (xs ys : List CompletedCall) → AreAllowed may (xs ++ ys) → AreAllowed may ys
allowed_back may [] ys a = a
allowed_back may (c ∷ xs) ys a = allowed_back may xs ys a.1

-- the calls are those that the list has next after the ones that are done
abbrev pub AreAsked : (List CompletedCall → Option Act) → List CompletedCall → List CompletedCall
    → Type 0
AreAsked list done [] = Unit {0}
AreAsked list done (c ∷ calls) = (list done ≡ Some c.op) × AreAsked list (done ++ c ∷ []) calls

asked_from : (list : List CompletedCall → Option Act) (done calls : List CompletedCall) → IsWritten list (done ++ calls) → AreAsked list done calls
asked_from list done [] written = tt
asked_from list done (c ∷ calls) written =
    let at : slice_get (done ++ c ∷ calls) (length done) ≡ Some c = get_back done (c ∷ calls) (length done) 0 (omega arith) in (
      ap list (sym (take-append_seam done (c ∷ calls))) ∙ written (length done) c at,
      asked_from list (done ++ c ∷ []) calls (subst (IsWritten list) (sym (append_assoc done (c ∷ []) calls)) written),
    )

pub asked_all : (list : List CompletedCall → Option Act) (calls : List CompletedCall) → IsWritten list calls → AreAsked list [] calls
asked_all list calls written = asked_from list [] calls written

asked_more : (list : List CompletedCall → Option Act) (done calls : List CompletedCall) (c : CompletedCall) → AreAsked list done calls → list (done ++ calls) ≡ Some c.op → AreAsked list done (calls ++ c ∷ [])
asked_more list done [] c asked next = (ap list (sym (append-nil done)) ∙ next, tt)
asked_more list done (d ∷ calls) c asked next =
    (asked.0, asked_more list (done ++ d ∷ []) calls c asked.1 (ap list (append_assoc done (d ∷ []) calls) ∙ next))

-- LISTS THAT SUIT A RULE

-- of a list whose calls the worker may begin, each call fits in its place, and after the whole list
-- no list of the rule is begun
pub record Suits (may : Act → Type 0) (r : Rule) (list : List CompletedCall
    → Option Act) : Type 0 where
  pub next : (calls : List CompletedCall) (op : Act) → AreAsked list [] calls → AreAllowed may calls → may op → list calls ≡ Some op → is_fitting r (list_after r [] calls) op ≡ true
  pub ends : (calls : List CompletedCall) → AreAsked list [] calls → AreAllowed may calls → list calls ≡ None → list_after r [] calls ≡ []

fits_from : (may : Act → Type 0) (r : Rule) (list : List CompletedCall → Option Act) → Suits may r list → (done calls : List CompletedCall) → AreAsked list [] done → AreAllowed may done
    → AreAsked list done calls → AreAllowed may calls → AreFitting r (list_after r [] done) calls
fits_from may r list suits done [] before might asked allowed = tt
fits_from may r list suits done (c ∷ calls) before might asked allowed =
    let more : AreFitting r (list_after r [] (done ++ c ∷ [])) calls =
    fits_from may r list suits (done ++ c ∷ []) calls (asked_more list [] done c before asked.0) (allowed_more may done (c ∷ []) might (allowed.0, tt)) asked.1 allowed.1 in (
      suits.next done c.op before might allowed.0 asked.0,
      subst (λ b. AreFitting r b calls) (after_more r [] done (c ∷ [])) more,
    )

-- what was done of such a list fits
pub suited : (may : Act → Type 0) (r : Rule) (list : List CompletedCall → Option Act) (calls : List CompletedCall) → Suits may r list → AreAsked list [] calls → AreAllowed may calls → AreFitting r [] calls
suited may r list calls suits asked allowed = fits_from may r list suits [] calls tt tt asked allowed

-- a list whose first call the worker may not begin
pub blocked : (may : Act → Type 0) (r : Rule) (list : List CompletedCall → Option Act) → ((op : Act) → list [] ≡ Some op → may op → ⊥) → Suits may r list
blocked may r list none = record { next = next; ends = ends }
  where
    next : (calls : List CompletedCall) (op : Act) → AreAsked list [] calls → AreAllowed may calls → may op → list calls ≡ Some op → is_fitting r (list_after r [] calls) op ≡ true
    next [] op asked allowed may_op is = absurd (none op is may_op)
    next (c ∷ calls) op asked allowed may_op is = absurd (none c.op asked.0 allowed.0)

    ends : (calls : List CompletedCall) → AreAsked list [] calls → AreAllowed may calls → list calls ≡ None → list_after r [] calls ≡ []
    ends [] asked allowed is = refl
    ends (c ∷ calls) asked allowed is = absurd (none c.op asked.0 allowed.0)

-- BY THE PLACE IN THE RULE'S LIST

-- the calls of the rule's list that a worker is in after these calls of its own list
pub record Tracks (r : Rule) (list : List CompletedCall → Option Act) (place : List CompletedCall → List CompletedCall) : Type 0 where
  pub starts : place [] ≡ []
  pub fits : (calls : List CompletedCall) (op : Act) → AreAsked list [] calls → list calls ≡ Some op → is_fitting r (place calls) op ≡ true
  pub goes : (calls : List CompletedCall) (c : CompletedCall) → list calls ≡ Some c.op → extend_list r (place calls) c ≡ place (calls ++ c ∷ [])
  pub ends : (calls : List CompletedCall) → list calls ≡ None → place calls ≡ []

tracked_from : (r : Rule) (list : List CompletedCall → Option Act) (place : List CompletedCall → List CompletedCall) → Tracks r list place → (done calls : List CompletedCall) → AreAsked list done calls
    → list_after r (place done) calls ≡ place (done ++ calls)
tracked_from r list place tracks done [] asked = ap place (sym (append-nil done))
tracked_from r list place tracks done (c ∷ calls) asked =
    ap (λ b. list_after r b calls) (tracks.goes done c asked.0) ∙ tracked_from r list place tracks (done ++ c ∷ []) calls asked.1 ∙ ap place (append_assoc done (c ∷ []) calls)

tracked : (r : Rule) (list : List CompletedCall → Option Act) (place : List CompletedCall → List CompletedCall) → Tracks r list place → (calls : List CompletedCall) → AreAsked list [] calls → list_after r [] calls ≡ place calls
tracked r list place tracks calls asked = ap (λ b. list_after r b calls) (sym tracks.starts) ∙ tracked_from r list place tracks [] calls asked

pub suits_tracked : (may : Act → Type 0) (r : Rule) (list : List CompletedCall → Option Act) (place : List CompletedCall → List CompletedCall) → Tracks r list place → Suits may r list
suits_tracked may r list place tracks = record {
  next = λ calls op asked allowed may_op is. ap (λ b. is_fitting r b op) (tracked r list place tracks calls asked) ∙ tracks.fits calls op asked is;
  ends = λ calls asked allowed is. tracked r list place tracks calls asked ∙ tracks.ends calls is;
}

pub extended_off : (r : Rule) (b : List CompletedCall) (c : CompletedCall) → r.concerns b c.op ≡ false → extend_list r b c ≡ b
extended_off r b c is = rw is refl

pub extended_on : (r : Rule) (b : List CompletedCall) (c : CompletedCall) → r.concerns b c.op ≡ true → extend_list r b c ≡ cond (r.ends (b ++ c ∷ [])) [] (b ++ c ∷ [])
extended_on r b c is = rw is refl

pub fitting : (r : Rule) (b : List CompletedCall) (op : Act) → r.fits b op ≡ true
    → is_fitting r b op ≡ true
fitting r b op is = fits_on (r.concerns b op) (r.fits b op) is

pub unconcerned : (r : Rule) (b : List CompletedCall) (op : Act) → r.concerns b op ≡ false → is_fitting r b op ≡ true
unconcerned r b op is = fits_off (r.concerns b op) (r.fits b op) is

-- what holds of the act that a list has next holds of the act that comes
pub at_op : (P : Act → Type 0) (a op : Act) → Some a ≡ Some op → P a → P op
at_op P a op is h = let same : a ≡ op = cc in subst P same h

-- a list without calls that concern the rule
pub suits_apart : (may : Act → Type 0) (r : Rule) (list : List CompletedCall → Option Act) → ((calls : List CompletedCall) (op : Act) → list calls ≡ Some op → r.concerns [] op ≡ false) → Suits may r list
suits_apart may r list off = suits_tracked may r list (λ calls. []) (record {
  starts = refl;
  fits = λ calls op asked is. fits_off (r.concerns [] op) (r.fits [] op) (off calls op is);
  goes = λ calls c is. extended_off r [] c (off calls c.op is);
  ends = λ calls is. refl;
})

-- a list that is the rule's own
pub record IsOwn (r : Rule) (list : List CompletedCall → Option Act) : Type 0 where
  pub concerns : (calls : List CompletedCall) (op : Act) → list calls ≡ Some op
      → r.concerns calls op ≡ true
  pub fits : (calls : List CompletedCall) (op : Act) → list calls ≡ Some op → r.fits calls op ≡ true
  pub ends : (calls : List CompletedCall) (c : CompletedCall) → list calls ≡ Some c.op → r.ends (calls ++ c ∷ []) ≡ not (is_some (list (calls ++ c ∷ [])))

own_place : (List CompletedCall → Option Act) → List CompletedCall → List CompletedCall
own_place list calls = cond (is_some (list calls)) calls []

none_left : (b : Bool) (xs : List CompletedCall) → cond b xs xs ≡ xs
none_left true xs = refl
none_left false xs = refl

pub suits_own : (may : Act → Type 0) (r : Rule) (list : List CompletedCall → Option Act) → IsOwn r list → Suits may r list
unfolding own_place
suits_own may r list own = suits_tracked may r list (own_place list) (record {
  starts = none_left (is_some (list [])) [];
  fits = λ calls op asked is. ap (λ (o : Option Act). is_fitting r (cond (is_some o) calls []) op) is ∙ fits_on (r.concerns calls op) (r.fits calls op) (own.fits calls op is);
  goes = λ calls c is.
      ap (λ (o : Option Act). extend_list r (cond (is_some o) calls []) c) is
      ∙ extended_on r calls c (own.concerns calls c.op is)
      ∙ ap (λ b. cond b [] (calls ++ c ∷ [])) (own.ends calls c is)
      ∙ turned (is_some (list (calls ++ c ∷ []))) [] (calls ++ c ∷ []);
  ends = λ calls is. ap (λ (o : Option Act). cond (is_some o) calls []) is;
})
