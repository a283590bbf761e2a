-- The first violation of the call lists.
use Rattle.std.proofs.Common.{◌≡◌, ℕ, zero, suc, ◌+◌, ◌≤◌, Bool, true, false, List, [], ◌∷◌, ◌++◌, Option, Some, None, refl, ap, sym, ◌∙◌, arith, subst, add-one, slice_get, reverse, take, drop, length, ◌⊎◌, inl, inr}
use Rattle.std.proofs.Math.Seq.{take-append_seam}
use Rattle.std.proofs.lemmas.List.{take-append-drop, reverse-append}
use Rattle.ec_core.specs.declared.act.Entry.{Entry}
use Rattle.ec_core.specs.Counts.{past_at}
use Rattle.ec_core.specs.Rounds.{IsPastOf}
use Rattle.ec_core.specs.Following.{Rule, block, is_right, Follow, BreaksAt}
use Rattle.ec_core.specs.Laws.{FollowingHoldsOfPrefixes, FollowsOrBreaks, BreaksAreFirst}
use Rattle.ec_core.proofs.shared.Joining.{get_back}
use Rattle.ec_core.proofs.shared.Moments.{past_next, past_end, moment_before}

-- a suffix of a reversed history that conforms does so
pub follow_before : (rules : ℕ → Rule) (since early : List Entry) → Follow rules (since ++ early) → Follow rules early
follow_before rules [] early h = h
follow_before rules (x ∷ since) early h = follow_before rules since early h.1

-- the same of a history that is reversed here
pub follow_of : (rules : ℕ → Rule) (h p : List Entry) → Follow rules (reverse h) → IsPastOf p (reverse h) → Follow rules p
follow_of rules h p f is = follow_before rules is.since p (subst (Follow rules) is.is f)

pub follow_beginnings : FollowingHoldsOfPrefixes
follow_beginnings rules k h f = follow_of rules h (past_at k h) f (moment_before h k)

-- no history both conforms and has a first violation
pub follow_or_break : (rules : ℕ → Rule) (h : List Entry) (w k : ℕ) → BreaksAt rules h w k → Follow rules (reverse h) → ⊥
follow_or_break rules h w k b f = b.breaks (follow_of rules h (past_at (k + 1) h) f (moment_before h (k + 1)))

-- the entry that comes after these, and what came before it
pub comes_next : (h done others : List Entry) (x : Entry) → done ++ x ∷ others ≡ h → (slice_get h (length done) ≡ Some x) × (past_at (length done) h ≡ reverse done)
comes_next h done others x is = (
  ap (λ l. slice_get l (length done)) (sym is) ∙ get_back done (x ∷ others) (length done) 0 (omega arith),
  ap (λ l. reverse (take (length done) l)) (sym is) ∙ ap reverse (take-append_seam done (x ∷ others)),
)

-- an entry that is not right after entries that conform is the first violation
pub break_at : (rules : ℕ → Rule) (h done others : List Entry) (x : Entry) (k : ℕ) → done ++ x ∷ others ≡ h → k ≡ length done → Follow rules (reverse done)
    → is_right (rules x.worker) (block (rules x.worker) x.worker (reverse done)) x.act ≡ false → BreaksAt rules h x.worker k
break_at rules h done others x k order at follow wrong =
    let next = comes_next h done others x order in
    let is : slice_get h k ≡ Some x = ap (slice_get h) at ∙ next.0 in
    let past : past_at k h ≡ reverse done = ap (λ n. past_at n h) at ∙ next.1 in
    let after : past_at (k + 1) h ≡ x ∷ reverse done = ap (λ n. past_at n h) (add-one k) ∙ past_next h k x is ∙ ap (λ p. x ∷ p) past in
    record {
      entry = x;
      is = is;
      by = refl;
      before = subst (Follow rules) (sym past) follow;
      breaks = λ f. (let right = (subst (Follow rules) after f).0 in cc);
    }

-- one more entry: what was found stays, or the entry is right, or it is the first violation
abbrev FollowsUpTo : (ℕ → Rule) → List Entry → ℕ → Type 0
FollowsUpTo rules h k = Follow rules (past_at k h) ⊎ ((w : ℕ) × (i : ℕ) × BreaksAt rules h w i)

right_or_not : (rules : ℕ → Rule) (h : List Entry) (k : ℕ) (x : Entry) (b : Bool) → slice_get h k ≡ Some x → Follow rules (past_at k h)
    → is_right (rules x.worker) (block (rules x.worker) x.worker (past_at k h)) x.act ≡ b → FollowsUpTo rules h (suc k)
right_or_not rules h k x true at f right = inl (subst (Follow rules) (sym (past_next h k x at)) (right, f))
right_or_not rules h k x false at f wrong =
    let after : past_at (k + 1) h ≡ x ∷ past_at k h = ap (λ n. past_at n h) (add-one k) ∙ past_next h k x at in
    inr (x.worker, k, record { entry = x; is = at; by = refl; before = f; breaks = λ g. (let right = (subst (Follow rules) after g).0 in cc) })

next_found : (rules : ℕ → Rule) (h : List Entry) (k : ℕ) (o : Option Entry) → slice_get h k ≡ o → FollowsUpTo rules h k → FollowsUpTo rules h (suc k)
next_found rules h k o at (inr b) = inr b
next_found rules h k None at (inl f) = inl (subst (Follow rules) (sym (past_end h k at)) f)
next_found rules h k (Some x) at (inl f) = right_or_not rules h k x (is_right (rules x.worker) (block (rules x.worker) x.worker (past_at k h)) x.act) at f refl

found : (rules : ℕ → Rule) (h : List Entry) (k : ℕ) → FollowsUpTo rules h k
found rules h zero = inl tt
found rules h (suc k) = next_found rules h k (slice_get h k) refl (found rules h k)

take_all : (h : List Entry) → take (length h) h ≡ h
take_all [] = refl
take_all (y ∷ ys) = ap (λ zs. y ∷ zs) (take_all ys)

pub follow_or_breaks : FollowsOrBreaks
follow_or_breaks rules h =
    elim (found rules h (length h)) [
      | inl f ↦ inl (subst (λ l. Follow rules (reverse l)) (take_all h) f)
      | inr b ↦ inr b
    ]

take_take : (h : List Entry) (i k : ℕ) → i ≤ k → take i (take k h) ≡ take i h
take_take h zero k le = refl
take_take h (suc i) zero le = absurd (omega arith)
take_take [] (suc i) (suc k) le = refl
take_take (y ∷ ys) (suc i) (suc k) le = ap (λ zs. y ∷ zs) (take_take ys i k (omega arith))

-- of the reversed histories at two moments the earlier is a suffix of the later
earlier : (h : List Entry) (i k : ℕ) → i ≤ k → IsPastOf (past_at i h) (past_at k h)
earlier h i k le = record {
  since = reverse (drop i (take k h));
  is = ap reverse (sym (take-append-drop i (take k h))) ∙ reverse-append (take i (take k h)) (drop i (take k h))
      ∙ ap (λ l. reverse (drop i (take k h)) ++ reverse l) (take_take h i k le);
}

-- the prefixes before a first violation conform, and longer ones don't
pub breaks_first : BreaksAreFirst
breaks_first rules h w k b i = (
  λ le. (let p = earlier h i k le in follow_before rules p.since (past_at i h) (subst (Follow rules) p.is b.before)),
  λ lt f. (let p = earlier h (k + 1) i (omega arith) in b.breaks (follow_before rules p.since (past_at (k + 1) h) (subst (Follow rules) p.is f))),
)
