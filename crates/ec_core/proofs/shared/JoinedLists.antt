-- A worker conforms exactly if its calls are whole lists joined end to end, then a prefix of a
-- list.
use Rattle.std.proofs.Common.{◌≡◌, ℕ, ◌<◌, Bool, true, false, not, ◌||◌, List, [], ◌∷◌, ◌++◌, All, append_assoc, length, reverse, take, slice_get, Option, Some, None, IfSome, refl, ap, sym, ◌∙◌, arith, subst, cond, ◌⊎◌, inl, inr}
use Rattle.std.specs.List.{flat_map}
use Rattle.std.proofs.lemmas.List.{append-nil, take-append-le}
use Rattle.std.proofs.lemmas.List.Elements.{All-cons, All-nil}
use Rattle.std.proofs.Math.Seq.{take-append_seam}
use Rattle.ec_core.specs.declared.act.Act.{Act}
use Rattle.ec_core.specs.declared.act.Entry.{Entry}
use Rattle.ec_core.specs.Calls.{CallSoFar, under_way}
use Rattle.ec_core.specs.Following.{CompletedCall, Rule, extend_list, block}
use Rattle.ec_core.specs.JoinedLists.{completed_calls_of, is_whole, ComesNext, IsListPrefix, IsWholeList, IsJoined, SpeaksOf, calls_on, going_on, op_of, IsOther, MayComeNext, IsSideBySide, IsUnbroken}
use Rattle.ec_core.specs.Laws.{FollowingMeansJoinedLists, FollowingMeansUnbrokenLists}
use Rattle.ec_core.proofs.shared.Joining.{get_back, last_get}
use Rattle.std.proofs.lemmas.List.Elements.{All-head, All-tail}
use Rattle.ec_core.proofs.shared.FittingCalls.{is_fitting, list_after, AreFitting, after_more, fitting_more, block_is, IsFittingCall, FitsAlone, fits_alone, follow_alone}

-- PREFIXES

nothing_begun : (r : Rule) → IsListPrefix r []
nothing_begun r k c at = cc

begun_more : (r : Rule) (b : List CompletedCall) (c : CompletedCall) → IsListPrefix r b → ComesNext r b c.op → IsListPrefix r (b ++ c ∷ [])
begun_more r b c h next k d at =
    elim (last_get b c d k at) [
      | inl p ↦
          (let lt : k < length b = p.1 in
          let P : List CompletedCall → Type 0 = λ z. ComesNext r z d.op in
          subst P (sym (take-append-le k b (c ∷ []) (omega arith))) (h k d p.0))
      | inr p ↦
          (let here : take k (b ++ c ∷ []) ≡ b = ap (λ n. take n (b ++ c ∷ [])) p.0 ∙ take-append_seam b (c ∷ []) in
          let P : List CompletedCall → Type 0 = λ z. ComesNext r z d.op in
          let Q : CompletedCall → Type 0 = λ e. ComesNext r b e.op in
          subst P (sym here) (subst Q p.1 next))
    ]

-- the call after b is next there
begun_next : (r : Rule) (b : List CompletedCall) (c : CompletedCall) (cs : List CompletedCall) → IsListPrefix r (b ++ c ∷ cs) → ComesNext r b c.op
begun_next r b c cs h =
    let at : slice_get (b ++ c ∷ cs) (length b) ≡ Some c = get_back b (c ∷ cs) (length b) 0 (omega arith) in
    let P : List CompletedCall → Type 0 = λ z. ComesNext r z c.op in
    subst P (take-append_seam b (c ∷ cs)) (h (length b) c at)

whole_more : (r : Rule) (b : List CompletedCall) (c : CompletedCall)
    → is_whole r (b ++ c ∷ []) ≡ r.ends (b ++ c ∷ [])
whole_more r [] c = refl
whole_more r (d ∷ b) c = refl

extended_off : (r : Rule) (b : List CompletedCall) (c : CompletedCall) → r.concerns b c.op ≡ false → extend_list r b c ≡ b
extended_off r b c h = rw h refl

extended_on : (r : Rule) (b : List CompletedCall) (c : CompletedCall) → r.concerns b c.op ≡ true → extend_list r b c ≡ cond (r.ends (b ++ c ∷ [])) [] (b ++ c ∷ [])
extended_on r b c h = rw h refl

fits_of : (c f : Bool) → (not c || f) ≡ true → c ≡ true → f ≡ true
fits_of true f h e = h
fits_of false f h e = cc

pub fitting_of : (c f : Bool) → f ≡ true → (not c || f) ≡ true
fitting_of true f h = h
fitting_of false f h = refl

pub fitting_off : (c f : Bool) → c ≡ false → (not c || f) ≡ true
fitting_off true f h = cc
fitting_off false f h = refl

cons_after : (b : List CompletedCall) (c : CompletedCall) (cs : List CompletedCall) → b
    ++ c ∷ cs ≡ (b ++ c ∷ []) ++ cs
cons_after b c cs = sym (append_assoc b (c ∷ []) cs)

-- CALLS THAT FIT ARE CUT INTO PIECES

-- calls that come after b are cut into pieces and a prefix of a list
record IsCut (P : List CompletedCall → Type 0) (r : Rule) (b cs : List CompletedCall) : Type 0 where
  pieces : List (List CompletedCall)
  last : List CompletedCall
  order : b ++ cs ≡ flat_map (λ p. p) pieces ++ last
  each : All P pieces
  begun : IsListPrefix r last
  after : list_after r b cs ≡ last
  goes_on : is_whole r last ≡ false

cut_end : (P : List CompletedCall → Type 0) (r : Rule) (b : List CompletedCall) → IsListPrefix r b → is_whole r b ≡ false → IsCut P r b []
cut_end P r b begun goes = record { pieces = []; last = b; order = append-nil b; each = All-nil P; begun = begun; after = refl; goes_on = goes }

-- the first piece is cut off
cut_first : (P : List CompletedCall → Type 0) (r : Rule) (b : List CompletedCall) (c : CompletedCall) (cs p : List CompletedCall) → b ++ c ∷ cs ≡ p ++ cs → P p → extend_list r b c ≡ [] → IsCut P r [] cs → IsCut P r b (c ∷ cs)
cut_first P r b c cs p whole here ends rest = record {
  pieces = p ∷ rest.pieces;
  last = rest.last;
  order = whole ∙ ap (λ z. p ++ z) rest.order ∙ sym (append_assoc p (flat_map (λ q. q) rest.pieces) rest.last);
  each = All-cons P p rest.pieces here rest.each;
  begun = rest.begun;
  after = ap (λ z. list_after r z cs) ends ∙ rest.after;
  goes_on = rest.goes_on;
}

-- a call is added to the list
cut_on : (P : List CompletedCall → Type 0) (r : Rule) (b : List CompletedCall) (c : CompletedCall) (cs : List CompletedCall) → extend_list r b c ≡ b ++ c ∷ [] → IsCut P r (b ++ c ∷ []) cs → IsCut P r b (c ∷ cs)
cut_on P r b c cs goes rest = record {
  pieces = rest.pieces;
  last = rest.last;
  order = cons_after b c cs ∙ rest.order;
  each = rest.each;
  begun = rest.begun;
  after = ap (λ z. list_after r z cs) goes ∙ rest.after;
  goes_on = rest.goes_on;
}

-- a call that concerns the list and fits ends it or continues it
cut_call : (P : List CompletedCall → Type 0) (r : Rule) (b : List CompletedCall) (c : CompletedCall) (cs : List CompletedCall) → ((l : List CompletedCall) → IsWholeList r l → P l)
    → IsListPrefix r b → is_whole r b ≡ false → r.concerns b c.op ≡ true
    → is_fitting r b c.op ≡ true
    → (IsListPrefix r (extend_list r b c) → is_whole r (extend_list r b c) ≡ false → IsCut P r (extend_list r b c) cs) → IsCut P r b (c ∷ cs)
cut_call P r b c cs whole begun goes on fits rest =
    let next : ComesNext r b c.op = record { fits = fits_of _ _ fits on; goes_on = goes } in
    let more : IsListPrefix r (b ++ c ∷ []) = begun_more r b c begun next in
    let B : List CompletedCall → Type 0 = λ z. IsListPrefix r z in
    let C : List CompletedCall → Type 0 = λ z. IsCut P r z cs in
    elim (r.ends (b ++ c ∷ [])) as (λ v. r.ends (b ++ c ∷ []) ≡ v → IsCut P r b (c ∷ cs)) [
      | true ↦ λ e.
          (let now : extend_list r b c ≡ [] = extended_on r b c on ∙ ap (λ v. cond v [] (b ++ c ∷ [])) e in
          let l : IsWholeList r (b ++ c ∷ []) = record { each = more; whole = whole_more r b c ∙ e } in
          cut_first P r b c cs (b ++ c ∷ []) (cons_after b c cs) (whole (b ++ c ∷ []) l) now
          (subst C now (rest (subst B (sym now) (nothing_begun r)) (ap (is_whole r) now))))
      | false ↦ λ e.
          (let now : extend_list r b c ≡ b ++ c ∷ [] = extended_on r b c on ∙ ap (λ v. cond v [] (b ++ c ∷ [])) e in
          cut_on P r b c cs now (subst C now (rest (subst B (sym now) more) (ap (is_whole r) now ∙ whole_more r b c ∙ e))))
    ] refl

-- AND PIECES FIT

abbrev settled : Rule → List CompletedCall → List CompletedCall
settled r b = cond (is_whole r b) [] b

-- each of the calls concerns the list at its position
abbrev AllConcern : Rule → List CompletedCall → List CompletedCall → Type 0
AllConcern r b [] = Unit {0}
AllConcern r b (c ∷ cs) = (r.concerns b c.op ≡ true) × AllConcern r (b ++ c ∷ []) cs

record IsRun (r : Rule) (b cs after : List CompletedCall) : Type 0 where
  fits : AreFitting r b cs
  after_is : list_after r b cs ≡ after

run_call : (r : Rule) (b : List CompletedCall) (c : CompletedCall) → r.concerns b c.op ≡ true → extend_list r b c ≡ settled r (b ++ c ∷ [])
run_call r b c on = extended_on r b c on ∙ ap (λ v. cond v [] (b ++ c ∷ [])) (sym (whole_more r b c))

-- the calls of a list, or of a prefix of one, fit
run : (r : Rule) (b cs : List CompletedCall) → AllConcern r b cs → IsListPrefix r (b ++ cs) → is_whole r b ≡ false → IsRun r b cs (settled r (b ++ cs))
run r b [] on begun goes = record {
  fits = tt;
  after_is = sym (ap (settled r) (append-nil b) ∙ ap (λ v. cond v [] b) goes);
}
run r b (c ∷ []) on begun goes =
    let next = begun_next r b c [] begun in
    record { fits = (fitting_of _ _ next.fits, tt); after_is = run_call r b c on.0 }
run r b (c ∷ d ∷ cs) on begun goes =
    let next = begun_next r b c (d ∷ cs) begun in
    let B : List CompletedCall → Type 0 = λ z. IsListPrefix r z in
    let begun' : IsListPrefix r ((b ++ c ∷ []) ++ d ∷ cs) = subst B (cons_after b c (d ∷ cs)) begun in
    let goes' : is_whole r (b ++ c ∷ []) ≡ false = (begun_next r (b ++ c ∷ []) d cs begun').goes_on in
    let now : extend_list r b c ≡ b ++ c ∷ [] = run_call r b c on.0 ∙ ap (λ v. cond v [] (b ++ c ∷ [])) goes' in
    let rest : IsRun r (b ++ c ∷ []) (d ∷ cs) (settled r ((b ++ c ∷ []) ++ d ∷ cs)) = run r (b ++ c ∷ []) (d ∷ cs) on.1 begun' goes' in
    let F : List CompletedCall → Type 0 = λ z. AreFitting r z (d ∷ cs) in
    record {
      fits = (fitting_of _ _ next.fits, subst F (sym now) rest.fits);
      after_is = ap (λ z. list_after r z (d ∷ cs)) now ∙ rest.after_is ∙ ap (settled r) (sym (cons_after b c (d ∷ cs)));
    }

run_whole : (r : Rule) (l : List CompletedCall) → AllConcern r [] l → IsWholeList r l
    → IsRun r [] l []
run_whole r l on whole =
    let k = run r [] l on whole.each refl in
    record { fits = k.fits; after_is = k.after_is ∙ ap (λ v. cond v [] l) whole.whole }

-- one sequence of fitting calls after another
run_both : (r : Rule) (xs ys after : List CompletedCall) → IsRun r [] xs [] → IsRun r [] ys after → IsRun r [] (xs ++ ys) after
run_both r xs ys after a b =
    let F : List CompletedCall → Type 0 = λ z. AreFitting r z ys in
    record {
      fits = fitting_more r [] xs ys a.fits (subst F (sym a.after_is) b.fits);
      after_is = after_more r [] xs ys ∙ ap (λ z. list_after r z ys) a.after_is ∙ b.after_is;
    }

-- pieces, each of which fits and leaves no list open, and a prefix of a list
run_pieces : (P : List CompletedCall → Type 0) (r : Rule) (pieces : List (List CompletedCall)) (last : List CompletedCall) → ((p : List CompletedCall) → P p → IsRun r [] p []) → All P pieces
    → IsRun r [] last (settled r last) → IsRun r [] (flat_map (λ p. p) pieces ++ last) (settled r last)
run_pieces P r [] last one each end = end
run_pieces P r (p ∷ ps) last one each end =
    let rest : IsRun r [] (flat_map (λ q. q) ps ++ last) (settled r last) = run_pieces P r ps last one (All-tail P p ps each) end in
    let R : List CompletedCall → Type 0 = λ z. IsRun r [] z (settled r last) in
    subst R (sym (append_assoc p (flat_map (λ q. q) ps) last)) (run_both r p (flat_map (λ q. q) ps ++ last) (settled r last) (one p (All-head P p ps each)) rest)

-- RULES THAT CONCERN THE CALLS ON A GROUP

abbrev AllOn : (Act → Bool) → List CompletedCall → Type 0
AllOn is_on [] = Unit {0}
AllOn is_on (c ∷ cs) = (is_on c.op ≡ true) × AllOn is_on cs

all_on : (is_on : Act → Bool) (cs : List CompletedCall) → AllOn is_on (calls_on is_on cs)
all_on is_on [] = tt
all_on is_on (c ∷ cs) =
    elim (is_on c.op) as (λ v. is_on c.op ≡ v → AllOn is_on (cond v (c ∷ calls_on is_on cs) (calls_on is_on cs))) [
      | true ↦ λ e. (e, all_on is_on cs)
      | false ↦ λ e. all_on is_on cs
    ] refl

on_parts : (is_on : Act → Bool) (xs ys : List CompletedCall) → AllOn is_on (xs ++ ys) → AllOn is_on xs × AllOn is_on ys
on_parts is_on [] ys h = (tt, h)
on_parts is_on (x ∷ xs) ys h = (let k = on_parts is_on xs ys h.1 in ((h.0, k.0), k.1))

on_concern : (r : Rule) (is_on : Act → Bool) (b cs : List CompletedCall) → SpeaksOf r is_on → AllOn is_on cs → AllConcern r b cs
on_concern r is_on b [] speaks on = tt
on_concern r is_on b (c ∷ cs) speaks on = (speaks b c.op ∙ on.0, on_concern r is_on (b ++ c ∷ []) cs speaks on.1)

-- calls on other objects change nothing
after_on : (r : Rule) (is_on : Act → Bool) (b cs : List CompletedCall) → SpeaksOf r is_on → list_after r b cs ≡ list_after r b (calls_on is_on cs)
after_on r is_on b [] speaks = refl
after_on r is_on b (c ∷ cs) speaks =
    elim (is_on c.op) as (λ v. is_on c.op ≡ v → list_after r (extend_list r b c) cs ≡ list_after r b (cond v (c ∷ calls_on is_on cs) (calls_on is_on cs))) [
      | true ↦ λ e. after_on r is_on (extend_list r b c) cs speaks
      | false ↦ λ e. ap (λ z. list_after r z cs) (extended_off r b c (speaks b c.op ∙ e)) ∙ after_on r is_on b cs speaks
    ] refl

fitting_on : (r : Rule) (is_on : Act → Bool) (b cs : List CompletedCall) → SpeaksOf r is_on → AreFitting r b cs → AreFitting r b (calls_on is_on cs)
fitting_on r is_on b [] speaks f = tt
fitting_on r is_on b (c ∷ cs) speaks f =
    elim (is_on c.op) as (λ v. is_on c.op ≡ v → AreFitting r b (cond v (c ∷ calls_on is_on cs) (calls_on is_on cs))) [
      | true ↦ λ e. (f.0, fitting_on r is_on (extend_list r b c) cs speaks f.1)
      | false ↦ λ e.
          (let F : List CompletedCall → Type 0 = λ z. AreFitting r z cs in
          fitting_on r is_on b cs speaks (subst F (extended_off r b c (speaks b c.op ∙ e)) f.1))
    ] refl

fitting_all : (r : Rule) (is_on : Act → Bool) (b cs : List CompletedCall) → SpeaksOf r is_on → AreFitting r b (calls_on is_on cs) → AreFitting r b cs
fitting_all r is_on b [] speaks f = tt
fitting_all r is_on b (c ∷ cs) speaks f =
    elim (is_on c.op) as (λ v. is_on c.op ≡ v → AreFitting r b (cond v (c ∷ calls_on is_on cs) (calls_on is_on cs)) → AreFitting r b (c ∷ cs)) [
      | true ↦ λ e g. (g.0, fitting_all r is_on (extend_list r b c) cs speaks g.1)
      | false ↦ λ e g.
          (let F : List CompletedCall → Type 0 = λ z. AreFitting r z cs in
          let off : r.concerns b c.op ≡ false = speaks b c.op ∙ e in
          (fitting_off _ _ off, subst F (sym (extended_off r b c off)) (fitting_all r is_on b cs speaks g)))
    ] refl f

cut_lists : (r : Rule) (is_on : Act → Bool) (b cs : List CompletedCall) → SpeaksOf r is_on → AllOn is_on cs → AreFitting r b cs → IsListPrefix r b → is_whole r b ≡ false
    → IsCut (IsWholeList r) r b cs
cut_lists r is_on b [] speaks on f begun goes = cut_end (IsWholeList r) r b begun goes
cut_lists r is_on b (c ∷ cs) speaks on f begun goes =
    cut_call (IsWholeList r) r b c cs (λ l h. h) begun goes (speaks b c.op ∙ on.0) f.0
    (λ begun' goes'. cut_lists r is_on (extend_list r b c) cs speaks on.1 f.1 begun' goes')

next_fits : (r : Rule) (is_on : Act → Bool) (b last : List CompletedCall) (o : Option CallSoFar) → SpeaksOf r is_on → b ≡ last → is_whole r last ≡ false → IsFittingCall r b o
    → IfSome (going_on is_on o) (ComesNext r last)
next_fits r is_on b last None speaks same goes h = tt
next_fits r is_on b last (Some call) speaks same goes h =
    elim (is_on call.op) as (λ v. is_on call.op ≡ v → IfSome (cond v (Some call.op) None) (ComesNext r last)) [
      | true ↦ λ e.
          (let F : List CompletedCall → Type 0 = λ z. is_fitting r z call.op ≡ true in
          record { fits = fits_of _ _ (subst F same h) (speaks last call.op ∙ e); goes_on = goes })
      | false ↦ λ e. tt
    ] refl

fits_next : (r : Rule) (is_on : Act → Bool) (b last : List CompletedCall) (o : Option CallSoFar) → SpeaksOf r is_on → b ≡ settled r last → IfSome (going_on is_on o) (ComesNext r last)
    → IsFittingCall r b o
fits_next r is_on b last None speaks same h = tt
fits_next r is_on b last (Some call) speaks same h =
    elim (is_on call.op) as (λ v. is_on call.op ≡ v → IfSome (cond v (Some call.op) None) (ComesNext r last) → is_fitting r b call.op ≡ true) [
      | true ↦ λ e next.
          (let here : last ≡ b = sym (same ∙ ap (λ v. cond v [] last) next.goes_on) in
          let F : List CompletedCall → Type 0 = λ z. is_fitting r z call.op ≡ true in
          subst F here (fitting_of _ _ next.fits))
      | false ↦ λ e next. fitting_off _ _ (speaks b call.op ∙ e)
    ] refl h

joined_from : (r : Rule) (is_on : Act → Bool) (w : ℕ) (past : List Entry) → SpeaksOf r is_on → FitsAlone r w past
    → IsJoined r (calls_on is_on (completed_calls_of w past)) (going_on is_on (under_way w past))
joined_from r is_on w past speaks f =
    let cs = completed_calls_of w past in
    let cut : IsCut (IsWholeList r) r [] (calls_on is_on (completed_calls_of w past)) =
    cut_lists r is_on [] (calls_on is_on cs) speaks (all_on is_on cs) (fitting_on r is_on [] cs speaks f.calls) (nothing_begun r) refl in
    record {
      lists = cut.pieces;
      last = cut.last;
      order = cut.order;
      whole = cut.each;
      begun = cut.begun;
      next = next_fits r is_on (block r w past) cut.last (under_way w past) speaks (block_is r w past ∙ after_on r is_on [] cs speaks ∙ cut.after) cut.goes_on f.going;
    }

-- lists of calls on the group
record IsListOn (r : Rule) (is_on : Act → Bool) (l : List CompletedCall) : Type 0 where
  whole : IsWholeList r l
  on : AllOn is_on l

record AreListsOn (r : Rule) (is_on : Act → Bool) (ls : List (List CompletedCall)) (last : List CompletedCall) : Type 0 where
  lists : All (IsListOn r is_on) ls
  end : AllOn is_on last

lists_on : (r : Rule) (is_on : Act → Bool) (ls : List (List CompletedCall)) (last : List CompletedCall) → All (IsWholeList r) ls → AllOn is_on (flat_map (λ p. p) ls ++ last) → AreListsOn r is_on ls last
lists_on r is_on [] last whole on = record { lists = All-nil (IsListOn r is_on); end = on }
lists_on r is_on (l ∷ ls) last whole on =
    let O : List CompletedCall → Type 0 = λ z. AllOn is_on z in
    let k = on_parts is_on l (flat_map (λ p. p) ls ++ last) (subst O (append_assoc l (flat_map (λ p. p) ls) last) on) in
    let rest = lists_on r is_on ls last (All-tail (IsWholeList r) l ls whole) k.1 in
    record { lists = All-cons (IsListOn r is_on) l ls (record { whole = All-head (IsWholeList r) l ls whole; on = k.0 }) rest.lists; end = rest.end }

joined_fits : (r : Rule) (is_on : Act → Bool) (w : ℕ) (past : List Entry) → SpeaksOf r is_on
    → IsJoined r (calls_on is_on (completed_calls_of w past)) (going_on is_on (under_way w past)) → FitsAlone r w past
joined_fits r is_on w past speaks j =
    let cs = completed_calls_of w past in
    let O : List CompletedCall → Type 0 = λ z. AllOn is_on z in
    let on = lists_on r is_on j.lists j.last j.whole (subst O j.order (all_on is_on cs)) in
    let end = run r [] j.last (on_concern r is_on [] j.last speaks on.end) j.begun refl in
    let all = run_pieces (IsListOn r is_on) r j.lists j.last (λ l h. run_whole r l (on_concern r is_on [] l speaks h.on) h.whole) on.lists end in
    let F : List CompletedCall → Type 0 = λ z. AreFitting r [] z in
    let after : block r w past ≡ settled r j.last = block_is r w past ∙ after_on r is_on [] cs speaks ∙ ap (list_after r []) j.order ∙ all.after_is in
    record {
      calls = fitting_all r is_on [] cs speaks (subst F (sym j.order) all.fits);
      going = fits_next r is_on (block r w past) j.last (under_way w past) speaks after j.next;
    }

-- to conform is to make, on the group, whole lists of calls joined end to end, then a prefix of one
-- more
pub following_joins : FollowingMeansJoinedLists
following_joins t rules is_on h d acc speaks = (
  λ f w. joined_from (rules w) (is_on w) w (reverse h) (speaks w) (fits_alone rules t (reverse h) d acc f w),
  λ j. follow_alone rules t (reverse h) acc (λ w. joined_fits (rules w) (is_on w) w (reverse h) (speaks w) (j w)),
)

-- LISTS WITHIN WHICH THE WORKER MAKES NO OTHER CALL

abbrev IsPiece : Rule → (Act → Bool) → List CompletedCall → Type 0
IsPiece r is_on p = IsOther is_on p ⊎ IsWholeList r p

-- a call that is not on the group is a piece of its own
cut_other : (r : Rule) (is_on : Act → Bool) (b : List CompletedCall) (c : CompletedCall) (cs : List CompletedCall) → IsUnbroken r is_on → r.concerns b c.op ≡ false
    → IsCut (IsPiece r is_on) r (extend_list r b c) cs → IsCut (IsPiece r is_on) r b (c ∷ cs)
cut_other r is_on [] c cs u e rest =
    let none : extend_list r [] c ≡ [] = extended_off r [] c e in
    let C : List CompletedCall → Type 0 = λ z. IsCut (IsPiece r is_on) r z cs in
    cut_first (IsPiece r is_on) r [] c cs (c ∷ []) refl (inl (record { call = c; is = refl; off = sym (u.between c.op) ∙ e })) none (subst C none rest)
cut_other r is_on (d ∷ b) c cs u e rest = (let on : r.concerns (d ∷ b) c.op ≡ true = u.within d b c.op in cc)

off_same : (r : Rule) (b : List CompletedCall) (c : CompletedCall) → r.concerns b c.op ≡ false → IsListPrefix r b → IsListPrefix r (extend_list r b c)
off_same r b c e begun = (let B : List CompletedCall → Type 0 = λ z. IsListPrefix r z in subst B (sym (extended_off r b c e)) begun)

cut_pieces : (r : Rule) (is_on : Act → Bool) (b cs : List CompletedCall) → IsUnbroken r is_on → AreFitting r b cs → IsListPrefix r b → is_whole r b ≡ false → IsCut (IsPiece r is_on) r b cs
cut_pieces r is_on b [] u f begun goes = cut_end (IsPiece r is_on) r b begun goes
cut_pieces r is_on b (c ∷ cs) u f begun goes =
    elim (r.concerns b c.op) as (λ v. r.concerns b c.op ≡ v → IsCut (IsPiece r is_on) r b (c ∷ cs)) [
      | true ↦ λ e. cut_call (IsPiece r is_on) r b c cs (λ l h. inr h) begun goes e f.0 (λ begun' goes'. cut_pieces r is_on (extend_list r b c) cs u f.1 begun' goes')
      | false ↦ λ e. cut_other r is_on b c cs u e
          (cut_pieces r is_on (extend_list r b c) cs u f.1 (off_same r b c e begun) (ap (is_whole r) (extended_off r b c e) ∙ goes))
    ] refl

may_next : (r : Rule) (is_on : Act → Bool) (last : List CompletedCall) (op : Act) → IsUnbroken r is_on → is_whole r last ≡ false → is_fitting r last op ≡ true → MayComeNext r is_on last op
may_next r is_on [] op u goes h =
    elim (is_on op) as (λ v. is_on op ≡ v → MayComeNext r is_on [] op) [
      | true ↦ λ e. inr (record { fits = fits_of _ _ h (u.between op ∙ e); goes_on = refl })
      | false ↦ λ e. inl e
    ] refl
may_next r is_on (c ∷ cs) op u goes h = record { fits = fits_of _ _ h (u.within c cs op); goes_on = goes }

next_may : (r : Rule) (is_on : Act → Bool) (last : List CompletedCall) (op : Act) → IsUnbroken r is_on → MayComeNext r is_on last op → is_fitting r (settled r last) op ≡ true
next_may r is_on [] op u (inl off) = fitting_off _ _ (u.between op ∙ off)
next_may r is_on [] op u (inr next) = fitting_of _ _ next.fits
next_may r is_on (c ∷ cs) op u next =
    let here : c ∷ cs ≡ settled r (c ∷ cs) = sym (ap (λ v. cond v [] (c ∷ cs)) next.goes_on) in
    let F : List CompletedCall → Type 0 = λ z. is_fitting r z op ≡ true in
    subst F here (fitting_of _ _ next.fits)

first_concerns : (r : Rule) (is_on : Act → Bool) (b : List CompletedCall) (op : Act) → IsUnbroken r is_on → r.fits b op ≡ true → r.concerns b op ≡ true
first_concerns r is_on [] op u fits = u.between op ∙ u.first op fits
first_concerns r is_on (c ∷ b) op u fits = u.within c b op

begun_concern : (r : Rule) (is_on : Act → Bool) (b cs : List CompletedCall) → IsUnbroken r is_on → IsListPrefix r (b ++ cs) → AllConcern r b cs
begun_concern r is_on b [] u begun = tt
begun_concern r is_on b (c ∷ cs) u begun =
    let B : List CompletedCall → Type 0 = λ z. IsListPrefix r z in
    (first_concerns r is_on b c.op u (begun_next r b c cs begun).fits, begun_concern r is_on (b ++ c ∷ []) cs u (subst B (cons_after b c cs) begun))

run_other : (r : Rule) (is_on : Act → Bool) (c : CompletedCall) → IsUnbroken r is_on → is_on c.op ≡ false → IsRun r [] (c ∷ []) []
run_other r is_on c u off =
    let e : r.concerns [] c.op ≡ false = u.between c.op ∙ off in
    record { fits = (fitting_off _ _ e, tt); after_is = extended_off r [] c e }

run_piece : (r : Rule) (is_on : Act → Bool) (p : List CompletedCall) → IsUnbroken r is_on → IsPiece r is_on p → IsRun r [] p []
run_piece r is_on p u (inl other) = (let R : List CompletedCall → Type 0 = λ z. IsRun r [] z [] in subst R (sym other.is) (run_other r is_on other.call u other.off))
run_piece r is_on p u (inr whole) = run_whole r p (begun_concern r is_on [] p u whole.each) whole

some_next : (r : Rule) (is_on : Act → Bool) (b last : List CompletedCall) (o : Option CallSoFar) → IsUnbroken r is_on → b ≡ last → is_whole r last ≡ false → IsFittingCall r b o
    → IfSome (op_of o) (MayComeNext r is_on last)
some_next r is_on b last None u same goes h = tt
some_next r is_on b last (Some call) u same goes h =
    (let F : List CompletedCall → Type 0 = λ z. is_fitting r z call.op ≡ true in may_next r is_on last call.op u goes (subst F same h))

next_some : (r : Rule) (is_on : Act → Bool) (b last : List CompletedCall) (o : Option CallSoFar) → IsUnbroken r is_on → b ≡ settled r last → IfSome (op_of o) (MayComeNext r is_on last)
    → IsFittingCall r b o
next_some r is_on b last None u same h = tt
next_some r is_on b last (Some call) u same h =
    (let F : List CompletedCall → Type 0 = λ z. is_fitting r z call.op ≡ true in subst F (sym same) (next_may r is_on last call.op u h))

side_from : (r : Rule) (is_on : Act → Bool) (w : ℕ) (past : List Entry) → IsUnbroken r is_on → FitsAlone r w past
    → IsSideBySide r is_on (completed_calls_of w past) (op_of (under_way w past))
side_from r is_on w past u f =
    let cut : IsCut (IsPiece r is_on) r [] (completed_calls_of w past) = cut_pieces r is_on [] (completed_calls_of w past) u f.calls (nothing_begun r) refl in
    record {
      pieces = cut.pieces;
      last = cut.last;
      order = cut.order;
      each = cut.each;
      begun = cut.begun;
      next = some_next r is_on (block r w past) cut.last (under_way w past) u (block_is r w past ∙ cut.after) cut.goes_on f.going;
    }

side_fits : (r : Rule) (is_on : Act → Bool) (w : ℕ) (past : List Entry) → IsUnbroken r is_on
    → IsSideBySide r is_on (completed_calls_of w past) (op_of (under_way w past))
    → FitsAlone r w past
side_fits r is_on w past u j =
    let end = run r [] j.last (begun_concern r is_on [] j.last u j.begun) j.begun refl in
    let all = run_pieces (IsPiece r is_on) r j.pieces j.last (λ p h. run_piece r is_on p u h) j.each end in
    let F : List CompletedCall → Type 0 = λ z. AreFitting r [] z in
    let after : block r w past ≡ settled r j.last = block_is r w past ∙ ap (list_after r []) j.order ∙ all.after_is in
    record {
      calls = subst F (sym j.order) all.fits;
      going = next_some r is_on (block r w past) j.last (under_way w past) u after j.next;
    }

-- to conform is to make whole lists with calls on other objects between them, then a prefix of one
-- more
pub following_stands : FollowingMeansUnbrokenLists
following_stands t rules is_on h d acc u = (
  λ f w. side_from (rules w) (is_on w) w (reverse h) (u w) (fits_alone rules t (reverse h) d acc f w),
  λ j. follow_alone rules t (reverse h) acc (λ w. side_fits (rules w) (is_on w) w (reverse h) (u w) (j w)),
)
