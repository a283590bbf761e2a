-- The states of all groups in one pass over the run.
use Rattle.std.proofs.Common.{◌≡◌, ℕ, zero, suc, ◌+◌, ◌≤◌, List, [], ◌∷◌, ◌++◌, length, take, Some}
use Rattle.std.proofs.Common.{refl, ap, sym, ◌∙◌, arith, subst, slice_get, append-nil, append_assoc}
use Rattle.std.specs.List.{flat_map}
use Rattle.std.proofs.lemmas.List.{take_all}
use Rattle.std.proofs.lemmas.List.Concat.{flat_map-append}
use Rattle.ec_count.specs.Tables.{Tables}
use Rattle.ec_core.specs.declared.act.Act.{Act}
use Rattle.ec_core.specs.declared.act.Entry.{Entry}
use Rattle.ec_core.specs.Calls.{under_way}
use Rattle.ec_core.specs.Following.{opening_act}
use Rattle.ec_semaphore.specs.Shapes.{Semaphore}
use Rattle.ec_heading.specs.declared.group.Group.{Group}
use Rattle.ec_heading.specs.declared.group.Group.TheVariants as groups
use Rattle.ec_walk.specs.Walks.{AreIndependent}
use Rattle.ec_draw.specs.declared.window.Window.{Window}
use Rattle.ec_draw.specs.declared.balance.BothState.{BothState}
use Rattle.ec_draw.specs.declared.finding.GroupState.{GroupState}
use Rattle.ec_draw.specs.declared.finding.GroupState.TheVariants as finds
use Rattle.ec_draw.specs.Balances.{BalanceState, BalanceStatesOn}
use Rattle.ec_draw.specs.Shades.{TriesModel, TriesOn}
use Rattle.ec_draw.specs.Arrows.{MovesModel, MovesOn}
use Rattle.ec_draw.specs.kept.Findings.{FindsFor, EachFinds, BothOn, group_of, FindsOn}

-- ONE ENTRY

module _ (place : ℕ) (op : Act) (x : Entry) where
  -- a state has processed an entry
  abbrev Takes : {A : Type 0} → (A → A → List Entry → Type 0) → A → A → Type 0
  Takes {A} represents old new = (start : A) (past : List Entry) → place ≡ length past
      → op ≡ opening_act x.act (under_way x.worker past) → represents start old past
      → represents start new (x ∷ past)

  pub takes_balance : (a b : BalanceState) → Takes BalanceStatesOn a b
      → Takes FindsOn (finds.Balance a) (finds.Balance b)
  takes_balance a b take (finds.Balance s) past at is represents = take s past at is represents
  takes_balance a b take start past at is represents = absurd represents

  pub takes_both : (a b : BothState) → Takes BothOn a b
      → Takes FindsOn (finds.Both a) (finds.Both b)
  takes_both a b take (finds.Both s) past at is represents = take s past at is represents
  takes_both a b take start past at is represents = absurd represents

  pub takes_tries : (a b : TriesModel) → Takes TriesOn a b
      → Takes FindsOn (finds.Tries a) (finds.Tries b)
  takes_tries a b take (finds.Tries s) past at is represents = take s past at is represents
  takes_tries a b take start past at is represents = absurd represents

  pub takes_moves : (a b : MovesModel) → Takes MovesOn a b
      → Takes FindsOn (finds.Moves a) (finds.Moves b)
  takes_moves a b take (finds.Moves s) past at is represents = take s past at is represents
  takes_moves a b take start past at is represents = absurd represents

-- THE WHOLE PASS

module _ (t : Tables) (all : List Semaphore) (w : Window) where
  -- before the first entry
  finds_first : (g : Group) (a : GroupState) → FindsFor t all w g a []
      → (group_of a ≡ g) × FindsOn a a []
  finds_first (groups.Buffer b) (finds.Moves a) is = (ap groups.Buffer is.0, (refl, refl, is.2))
  finds_first (groups.Database d) (finds.Tries a) is =
      (ap groups.Database is.0, (refl, refl, refl, is.3))
  finds_first (groups.Semaphore s) (finds.Balance a) is =
      (ap groups.Semaphore is.0, (refl, refl, is.2))
  finds_first (groups.Both c) (finds.Both a) is =
      (ap groups.Both is.3, ((refl, refl, is.2), (refl, refl, is.5)))
  finds_first (groups.Buffer b) a is = absurd is
  finds_first (groups.Database d) a is = absurd is
  finds_first (groups.Semaphore s) a is = absurd is
  finds_first (groups.Both c) a is = absurd is

  pub walk_begins : (gs : List Group) (list : List GroupState) → EachFinds t all w gs list []
      → AreIndependent group_of FindsOn gs list list []
  walk_begins gs list each =
      λ i g at. (let here = each i g at in let first = finds_first g here.0 here.2 in
      (here.0, here.0, here.1, here.1, first.0, first.1))

  -- after the last entry
  finds_last : (g : Group) (a b : GroupState) (past : List Entry) → FindsFor t all w g a []
      → FindsOn a b past → FindsFor t all w g b past
  finds_last (groups.Buffer s) (finds.Moves a) (finds.Moves b) past is on =
      (on.0 ∙ is.0, on.1 ∙ is.1, on.2)
  finds_last (groups.Database d) (finds.Tries a) (finds.Tries b) past is on =
      (on.0 ∙ is.0, on.1 ∙ is.1, on.2 ∙ is.2, on.3)
  finds_last (groups.Semaphore s) (finds.Balance a) (finds.Balance b) past is on =
      (on.1 ∙ is.0, on.0 ∙ is.1, on.2)
  finds_last (groups.Both c) (finds.Both a) (finds.Both b) past is on =
      (on.0.1 ∙ is.0, on.0.0 ∙ is.1, on.0.2, on.1.0 ∙ is.3, on.1.1 ∙ is.4, on.1.2)
  finds_last (groups.Buffer s) (finds.Moves a) b past is on = absurd on
  finds_last (groups.Database d) (finds.Tries a) b past is on = absurd on
  finds_last (groups.Semaphore s) (finds.Balance a) b past is on = absurd on
  finds_last (groups.Both c) (finds.Both a) b past is on = absurd on
  finds_last (groups.Buffer s) a b past is on = absurd is
  finds_last (groups.Database d) a b past is on = absurd is
  finds_last (groups.Semaphore s) a b past is on = absurd is
  finds_last (groups.Both c) a b past is on = absurd is

  pub walk_ends : (gs : List Group) (starts list : List GroupState) (past : List Entry)
      → EachFinds t all w gs starts [] → AreIndependent group_of FindsOn gs starts list past
      → EachFinds t all w gs list past
  walk_ends gs starts list past each walked = λ i g at.
      (let was = each i g at in
      let now = walked i g at in
      let same : now.0 ≡ was.0 = (let one = now.2 in let two = was.1 in cc) in (
        now.1,
        now.3,
        finds_last g was.0 now.1 past was.2 (subst (λ a. FindsOn a now.1 past) same now.5),
      ))

-- WHAT IS ADDED

-- one more element of a list
pub taken : {X : Type 0} (gs : List X) (n : ℕ) (g : X) → slice_get gs n ≡ Some g
    → take (suc n) gs ≡ take n gs ++ g ∷ []
taken [] n g at = cc
taken (x ∷ gs) zero g at = (let same : x ≡ g = cc in ap (λ z. z ∷ []) same)
taken (x ∷ gs) (suc n) g at = ap (λ zs. x ∷ zs) (taken gs n g at)

pub found_more : {X Y : Type 0} (f : X → List Y) (gs : List X) (n : ℕ) (g : X)
    (old mid new : List Y) → slice_get gs n ≡ Some g → mid ≡ old ++ flat_map f (take n gs)
    → new ≡ mid ++ f g
    → new ≡ old ++ flat_map f (take (n + 1) gs)
found_more f gs n g old mid new at was more =
    let one : suc n ≡ n + 1 = omega arith in
    more ∙ ap (λ l. l ++ f g) was ∙ append_assoc old (flat_map f (take n gs)) (f g)
    ∙ ap (λ l. old ++ (flat_map f (take n gs) ++ l)) (sym (append-nil (f g)))
    ∙ ap (λ l. old ++ l) (sym (flat_map-append f (take n gs) (g ∷ [])))
    ∙ ap (λ l. old ++ flat_map f l) (sym (taken gs n g at))
    ∙ ap (λ k. old ++ flat_map f (take k gs)) one

-- what is found of all elements
pub found_all : {X Y : Type 0} (f : X → List Y) (gs : List X) (n : ℕ) (old new : List Y)
    → length gs ≤ n → new ≡ old ++ flat_map f (take n gs) → new ≡ old ++ flat_map f gs
found_all f gs n old new all was = was ∙ ap (λ l. old ++ flat_map f l) (take_all n gs all)

pub nil_of : {X : Type 0} (xs : List X) → length xs ≡ 0 → xs ≡ []
nil_of [] none = refl
nil_of (x ∷ xs) none = absurd (omega (arith, none))
