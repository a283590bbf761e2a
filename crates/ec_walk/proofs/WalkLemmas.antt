-- Each entry is passed to the audits of the groups that its call is on, and the others are
-- unchanged.
use Rattle.std.proofs.Common.{◌≡◌, ◌≢◌, ℕ, ◌+◌, ◌<◌, ◌≤◌, Bool, true, false, List, ◌∷◌, length, Some, refl, ap, sym, ◌∙◌, subst, arith, true≢false, cond, ◌==◌, ◌||◌, ◌&&◌, not, leb, ◌⊎◌, inl, inr, Option, None, [], get_or, slice_get, slice_set, below_more}
use Rattle.std.specs.Option.{option_map_or}
use Rattle.std.proofs.lemmas.Bool.{eqb-true, eqb-false, eq-eqb, lt-ltb, le-ltb}
use Rattle.std.proofs.lemmas.Bool.Decides.{leb_tells}
use Rattle.std.proofs.lemmas.Option.{slice_get_within, slice_get_cases, slice_get-get_or}
use Rattle.std.proofs.Math.ListN.{length-set}
use Rattle.ec_core.specs.declared.act.Act.{Act}
use Rattle.ec_core.specs.declared.act.Act.TheVariants.{Advance, Read, Await, Ticket, Put, Get, Hand}
use Rattle.ec_core.specs.declared.act.Entry.{Entry}
use Rattle.ec_core.specs.Calls.{is_intermediate}
use Rattle.ec_core.proofs.shared.Following.{op_at}
use Rattle.ec_core.proofs.shared.Places.{get_set}
use Rattle.ec_heading.specs.declared.group.Group.{Group}
use Rattle.ec_heading.specs.declared.group.Group.TheVariants as groups
use Rattle.ec_walk.specs.declared.group_table.Span.{Span}
use Rattle.ec_walk.specs.declared.group_table.GroupTable.{GroupTable}
use Rattle.ec_walk.specs.Walks.{names, sees_every_call, act_on, is_on, is_on_at, is_asked_at, passes_at, CoversFirst, Covers, CoversAct, CoversAt, IsTable, Dispatches, DispatchesWhere, DispatchesTo, DispatchesAmong, DispatchesOn, goes_to, IsDispatched, AreHanded, AreIndependent}

-- THE TABLE

-- one more group, which passes the test
pub covers_on : (gs : List Group) (test : Group → Bool) (span new : Span) (n : ℕ) (g : Group)
    → slice_get gs n ≡ Some g → test g ≡ true → CoversFirst gs test span n
    → (span.end ≤ span.first → new.first ≡ n) → (span.first < span.end → new.first ≡ span.first)
    → new.end ≡ n + 1 → CoversFirst gs test new (n + 1)
covers_on gs test span new n g at on c alone more end = record {
  among = below_more P n
      (λ i less h got yes. (let was = c.among i less h got yes in let same = more (omega (arith, was.0, was.1)) in (omega (arith, was.0), omega arith)))
      (λ h got yes. (low, omega arith));
  within = omega arith;
  lowest = λ some. lowest_by (leb_tells span.end span.first);
  highest = λ i is. (let same : n ≡ i = omega arith in subst (λ k. passes_at gs test k ≡ true) same here);
}
  where
    P : ℕ → Type 0
    P i = (h : Group) → slice_get gs i ≡ Some h → test h ≡ true → (new.first ≤ i) × (i < new.end)

    here : passes_at gs test n ≡ true
    here = ap (λ o. option_map_or test o false) at ∙ on

    low_by : ((leb span.end span.first ≡ true) × (span.end ≤ span.first))
        ⊎ ((leb span.end span.first ≡ false) × (span.first < span.end)) → new.first ≤ n
    low_by (inl p) = (let same = alone p.1 in omega arith)
    low_by (inr p) = (let same = more p.1 in let least = c.within in let less = p.1 in omega arith)

    low : new.first ≤ n
    low = low_by (leb_tells span.end span.first)

    lowest_by : ((leb span.end span.first ≡ true) × (span.end ≤ span.first))
        ⊎ ((leb span.end span.first ≡ false) × (span.first < span.end))
        → passes_at gs test new.first ≡ true
    lowest_by (inl p) = ap (passes_at gs test) (alone p.1) ∙ here
    lowest_by (inr p) = ap (passes_at gs test) (more p.1) ∙ c.lowest p.1

-- one more group, which does not
pub covers_off : (gs : List Group) (test : Group → Bool) (span : Span) (n : ℕ) (g : Group)
    → CoversFirst gs test span n → slice_get gs n ≡ Some g → test g ≡ false
    → CoversFirst gs test span (n + 1)
covers_off gs test span n g c is off = record {
  among = below_more (λ i. (f : Group) → slice_get gs i ≡ Some f → test f ≡ true → (span.first ≤ i) × (i < span.end)) n c.among
      (λ f at on.
      (let same : f ≡ g = cc in
      absurd (true≢false (sym on ∙ ap test same ∙ off))));
  within = (let was = c.within in omega arith);
  lowest = c.lowest;
  highest = c.highest;
}

-- the span of an object, for an act that is on the same groups
pub covers_at : (gs : List Group) (table : GroupTable) (act read : Act) (n : ℕ) (any : Span)
    → IsTable gs table → n < 320 → n < length table.objects → act_on n ≡ read
    → ((g : Group) → names g act ≡ names g read) → CoversAct gs act (get_or table.objects n any)
covers_at gs table act read n any t less room is same = record {
  among = λ i less g is on. was.among i less g is (sym (same g) ∙ on);
  within = was.within;
  lowest = λ some. over (slice_get gs span.first) (was.lowest some);
  highest = λ i is. over (slice_get gs i) (was.highest i is);
}
  where
    span : Span
    span = get_or table.objects n any

    was : CoversAct gs read span
    was = subst (λ a. CoversAct gs a span) is (t.objects n less span (slice_get-get_or table.objects n any room))

    over : (o : Option Group) → option_map_or (λ g. names g read) o false ≡ true → option_map_or (λ g. names g act) o false ≡ true
    over None on = on
    over (Some g) on = same g ∙ on

-- one more position of a table is filled
pub covers_more : (gs : List Group) (acts : ℕ → Act) (spans : List Span) (n : ℕ) (span : Span)
    → n < length spans → ((e : ℕ) → e < n → CoversAt gs (acts e) spans e)
    → CoversAct gs (acts n) span
    → (e : ℕ) → e < n + 1 → CoversAt gs (acts e) (slice_set spans n span) e
covers_more gs acts spans n span room before here =
    below_more (λ e. CoversAt gs (acts e) (slice_set spans n span) e) n
    (λ e less s at. before e less s (sym (get_set spans n e span room ∙ other e less) ∙ at))
    (λ s at.
    (let got : Some span ≡ Some s = sym (get_set spans n n span room ∙ own) ∙ at in
    let one : span ≡ s = cc in
    subst (CoversAct gs (acts n)) one here))
  where
    other : (e : ℕ) → e < n → cond (n == e) (Some span) (slice_get spans e) ≡ slice_get spans e
    other e less =
        elim (n == e) as (λ b. (n == e) ≡ b → cond b (Some span) (slice_get spans e) ≡ slice_get spans e) [
          | true ↦ λ h. (let same : n ≡ e = eqb-true n e h in absurd (omega arith))
          | false ↦ λ h. refl
        ] refl

    own : cond (n == n) (Some span) (slice_get spans n) ≡ Some span
    own = rw (eq-eqb n n refl) refl

-- an act on an eventcount names the groups that a read of it names
same_event : (g : Group) (e : ℕ) → (names g (Advance e) ≡ names g (Read e))
    × ((v : ℕ) → names g (Await e v) ≡ names g (Read e))
    × ((b : ℕ) → names g (Hand e b) ≡ names g (Read e))
same_event (groups.Buffer s) e = (refl, λ v. refl, λ b. refl)
same_event (groups.Database s) e = (refl, λ v. refl, λ b. refl)
same_event (groups.Semaphore s) e = (refl, λ v. refl, λ b. refl)
same_event (groups.Both s) e = (refl, λ v. refl, λ b. refl)

pub on_event : (e : ℕ) (act : Act) (g : Group) → (act ≡ Advance e) ⊎ ((act ≡ Read e) ⊎ (((v : ℕ) × (act ≡ Await e v)) ⊎ ((b : ℕ) × (act ≡ Hand e b))))
    → names g act ≡ names g (Read e)
on_event e act g (inl is) = ap (names g) is ∙ (same_event g e).0
on_event e act g (inr (inl is)) = ap (names g) is
on_event e act g (inr (inr (inl is))) = ap (names g) is.1 ∙ (same_event g e).1 is.0
on_event e act g (inr (inr (inr is))) = ap (names g) is.1 ∙ (same_event g e).2 is.0

-- a put names the groups that a get of its cell names
same_cell : (g : Group) (y v : ℕ) → names g (Put y v) ≡ names g (Get y)
same_cell (groups.Buffer s) y v = refl
same_cell (groups.Database s) y v = refl
same_cell (groups.Semaphore s) y v = refl
same_cell (groups.Both s) y v = refl

pub on_cell : (y : ℕ) (act : Act) (g : Group) → ((v : ℕ) × (act ≡ Put y v)) ⊎ (act ≡ Get y)
    → names g act ≡ names g (Get y)
on_cell y act g (inl is) = ap (names g) is.1 ∙ same_cell g y is.0
on_cell y act g (inr is) = ap (names g) is

-- the objects by number
pub event_at : (n : ℕ) → n < 32 → act_on n ≡ Read n
event_at n less = rw (lt-ltb n 32 less) refl

pub sequencer_at : (n : ℕ) → n < 32 → act_on (32 + n) ≡ Ticket n
sequencer_at n less = rw (le-ltb (32 + n) 32 (omega arith), lt-ltb (32 + n) 64 (omega arith)) (ap Ticket (omega arith))

pub cell_at : (n : ℕ) → act_on (64 + n) ≡ Get n
cell_at n = rw (le-ltb (64 + n) 32 (omega arith), le-ltb (64 + n) 64 (omega arith)) (ap Get (omega arith))

-- WHICH GROUPS ARE ASKED

-- a group that an act names, and that is not wide
pub asked_named : (gs : List Group) (op : Act) (i : ℕ) → passes_at gs (λ g. names g op) i ≡ true → passes_at gs sees_every_call i ≡ false → is_asked_at gs false op i ≡ true
asked_named gs op i = go (slice_get gs i)
  where
    go : (o : Option Group) → option_map_or (λ g. names g op) o false ≡ true → option_map_or sees_every_call o false ≡ false → option_map_or (λ g. not (sees_every_call g) && names g op) o false ≡ true
    go None on narrow = on
    go (Some g) on narrow = ap (λ b. not b && names g op) narrow ∙ on

-- a wide group is only selected as such
pub asked_once : (gs : List Group) (op : Act) (i : ℕ) → passes_at gs sees_every_call i ≡ true
    → is_asked_at gs false op i ≡ true → ⊥
asked_once gs op i = go (slice_get gs i)
  where
    go : (o : Option Group) → option_map_or sees_every_call o false ≡ true
        → option_map_or (λ g. not (sees_every_call g) && names g op) o false ≡ true → ⊥
    go None w on = true≢false (sym w)
    go (Some g) w on = true≢false (sym on ∙ ap (λ b. not b && names g op) w)

-- a call is on each group that is selected
pub asked_is_on : (gs : List Group) (op : Act) (i : ℕ) → is_asked_at gs false op i ≡ true
    → is_on_at gs op i ≡ true
asked_is_on gs op i = go (slice_get gs i)
  where
    by : (w n : Bool) → (not w && n) ≡ true → (w || n) ≡ true
    by true n on = refl
    by false n on = on

    go : (o : Option Group) → option_map_or (λ g. not (sees_every_call g) && names g op) o false ≡ true → option_map_or (λ g. is_on g op) o false ≡ true
    go None on = on
    go (Some g) on = by (sees_every_call g) (names g op) on

pub wide_is_on : (gs : List Group) (op : Act) (i : ℕ) → passes_at gs sees_every_call i ≡ true
    → is_on_at gs op i ≡ true
wide_is_on gs op i = go (slice_get gs i)
  where
    go : (o : Option Group) → option_map_or sees_every_call o false ≡ true
        → option_map_or (λ g. is_on g op) o false ≡ true
    go None on = on
    go (Some g) on = ap (λ b. b || names g op) on

-- a group that a call is on is among the wide ones, or among those that it names
pub on_is_asked : (gs : List Group) (op : Act) (named wide : Span) (i : ℕ) → CoversAct gs op named
    → Covers gs sees_every_call wide → is_on_at gs op i ≡ true
    → ((named.first ≤ i) × (i < named.end) × (is_asked_at gs false op i ≡ true) → ⊥)
    → ((wide.first ≤ i) × (i < wide.end) × (is_asked_at gs true op i ≡ true) → ⊥) → ⊥
on_is_asked gs op named wide i covers wides on one other = by_group (slice_get_cases gs i).1
  where
    by_group : ((g : Group) × (i < length gs) × (slice_get gs i ≡ Some g) × (get_or gs i g ≡ g))
        ⊎ ((length gs ≤ i) × (slice_get gs i ≡ None)) → ⊥
    by_group (inr none) = true≢false (sym on ∙ ap (λ o. option_map_or (λ h. is_on h op) o false) none.1)
    by_group (inl (g, less, here, same)) = by_width (sees_every_call g) refl
      where
        by_width : (b : Bool) → sees_every_call g ≡ b → ⊥
        by_width true w = (let in_span = wides.among i less g here w in other (in_span.0, in_span.1, ap (λ o. option_map_or sees_every_call o false) here ∙ w))
        by_width false w =
            (let named_here : names g op ≡ true = sym (ap (λ b. b || names g op) w) ∙ sym (ap (λ o. option_map_or (λ h. is_on h op) o false) here) ∙ on in
            let in_span = covers.among i less g here named_here in
            one (in_span.0, in_span.1, asked_named gs op i (ap (λ o. option_map_or (λ h. names h op) o false) here ∙ named_here) (ap (λ o. option_map_or sees_every_call o false) here ∙ w)))

-- WHICH AUDITS ARE PASSED AN ENTRY

module _ {A : Type 0} (represents : A → A → List Entry
    → Type 0) (place : ℕ) (op : Act) (x : Entry) where
  -- one audit has processed the entry
  pub hands_one : (old : List A) (n : ℕ) (a b : A) → n < length old → slice_get old n ≡ Some a
      → Dispatches represents place op x a b
      → DispatchesTo represents n place op x old (slice_set old n b)
  hands_one old n a b room is hands = (
    length-set old n b,
    λ i o at.
        elim (n == i) as (λ t. (n == i) ≡ t → (p : A) × (slice_get (slice_set old n b) i ≡ Some p) × (((i ≡ n) × Dispatches represents place op x o p) ⊎ ((i ≡ n → ⊥) × (p ≡ o)))) [
          | true ↦ λ e.
              (let same : n ≡ i = eqb-true n i e in
              let both : Some a ≡ Some o = sym is ∙ ap (slice_get old) same ∙ at in
              let one : a ≡ o = cc in
              (b, get_set old n i b room ∙ ap (λ t. cond t (Some b) (slice_get old i)) e, inl (sym same, subst (λ z. Dispatches represents place op x z b) one hands)))
          | false ↦ λ e. (o, get_set old n i b room ∙ ap (λ t. cond t (Some b) (slice_get old i)) e ∙ at, inr (λ same. eqb-false n i e (sym same), refl))
        ] refl,
  )

  -- none is picked
  pub hands_nobody : (IsPicked : ℕ → Type 0) (old : List A) → ((i : ℕ) → i < length old → IsPicked i
      → ⊥) → DispatchesWhere represents IsPicked place op x old old
  hands_nobody IsPicked old none = (refl, λ i a at. (a, at, inr (none i (slice_get_within old i a at), refl)))

  -- the same are picked
  pub hands_same : (P Q : ℕ → Type 0) (old new : List A) → ((i : ℕ) → P i → Q i) → ((i : ℕ) → Q i
      → P i) → DispatchesWhere represents P place op x old new
      → DispatchesWhere represents Q place op x old new
  hands_same P Q old new there back h = (
    h.0,
    λ i a at.
        (let k = h.1 i a at in (
          k.0,
          k.1,
          elim k.2 [
            | inl p ↦ inl (there i p.0, p.1)
            | inr q ↦ inr (λ on. q.0 (back i on), q.1)
          ],
        )),
  )

  -- first some, then others
  pub hands_then : (P Q R : ℕ → Type 0) (old mid new : List A) → ((i : ℕ) → P i → Q i → ⊥)
      → ((i : ℕ) → P i → R i) → ((i : ℕ) → Q i → R i)
      → ((i : ℕ) → R i → (P i → ⊥) → (Q i → ⊥) → ⊥)
      → DispatchesWhere represents P place op x old mid
      → DispatchesWhere represents Q place op x mid new
      → DispatchesWhere represents R place op x old new
  hands_then P Q R old mid new apart one other all first second = (second.0 ∙ first.0, λ i a at. (let k = first.1 i a at in go i a k.0 k.2 (second.1 i k.0 k.1)))
    where
      go : (i : ℕ) (a b : A)
          → ((P i × Dispatches represents place op x a b) ⊎ ((P i → ⊥) × (b ≡ a)))
          → (c : A) × (slice_get new i ≡ Some c)
          × ((Q i × Dispatches represents place op x b c) ⊎ ((Q i
          → ⊥) × (c ≡ b)))
          → (c : A) × (slice_get new i ≡ Some c)
          × ((R i × Dispatches represents place op x a c) ⊎ ((R i
          → ⊥) × (c ≡ a)))
      go i a b (inl k) (c, got, inl s) = absurd (apart i k.0 s.0)
      go i a b (inl k) (c, got, inr s) = (c, got, inl (one i k.0, subst (λ z. Dispatches represents place op x a z) (sym s.1) k.1))
      go i a b (inr k) (c, got, inl s) = (c, got, inl (other i s.0, subst (λ z. Dispatches represents place op x z c) k.1 s.1))
      go i a b (inr k) (c, got, inr s) = (c, got, inr (λ on. all i on k.0 s.0, s.1 ∙ k.1))

  -- one more number
  pub hands_more : (gs : List Group) (wide : Bool) (first n : ℕ) (old now new : List A) → first ≤ n
      → DispatchesAmong represents gs wide first n place op x old now
      → ((is_asked_at gs wide op n ≡ true) × DispatchesTo represents n place op x now new)
      ⊎ ((is_asked_at gs wide op n ≡ false) × (new ≡ now))
      → DispatchesAmong represents gs wide first (n + 1) place op x old new
  hands_more gs wide first n old now new from before here =
      hands_then (λ i. (first ≤ i) × (i < n) × (is_asked_at gs wide op i ≡ true)) Here
      (λ i. (first ≤ i) × (i < n + 1) × (is_asked_at gs wide op i ≡ true)) old now new
      (λ i p q. (let less : i < n = p.1 in let here : i ≡ n = q.0 in omega arith))
      (λ i p. (let less : i < n = p.1 in (p.0, omega arith, p.2)))
      (λ i q. (let here : i ≡ n = q.0 in (omega arith, omega arith, q.1)))
      (λ i r no_earlier not_here.
      elim (i == n) as (λ t. (i == n) ≡ t → ⊥) [
        | true ↦ λ e. not_here (eqb-true i n e, r.2)
        | false ↦ λ e. (let other : i ≢ n = eqb-false i n e in let less : i < n + 1 = r.1 in no_earlier (r.0, omega arith, r.2))
      ] refl) before (by here)
    where
      Here : ℕ → Type 0
      Here i = (i ≡ n) × (is_asked_at gs wide op i ≡ true)

      by : ((is_asked_at gs wide op n ≡ true) × DispatchesTo represents n place op x now new)
          ⊎ ((is_asked_at gs wide op n ≡ false) × (new ≡ now))
          → DispatchesWhere represents Here place op x now new
      by (inl p) = hands_same (λ i. i ≡ n) Here now new (λ i same. (same, ap (is_asked_at gs wide op) same ∙ p.0)) (λ i q. q.0) p.1
      by (inr p) =
          subst (λ l. DispatchesWhere represents Here place op x now l) (sym p.1)
          (hands_nobody Here now (λ i less q. true≢false (sym q.1 ∙ ap (is_asked_at gs wide op) q.0 ∙ p.0)))

  -- up to the end, or none if that is before the first
  pub hands_all : (gs : List Group) (wide : Bool) (first end n : ℕ) (old new : List A) → end ≤ n
      → (end < n → n ≡ first) → DispatchesAmong represents gs wide first n place op x old new
      → DispatchesAmong represents gs wide first end place op x old new
  hands_all gs wide first end n old new all none =
      hands_same (λ i. (first ≤ i) × (i < n) × (is_asked_at gs wide op i ≡ true)) (λ i. (first ≤ i) × (i < end) × (is_asked_at gs wide op i ≡ true)) old new
      (λ i p. (p.0, before i p.0 p.1 (leb_tells n end), p.2)) (λ i q. (let less : i < end = q.1 in (q.0, omega arith, q.2)))
    where
      before : (i : ℕ) → first ≤ i → i < n → ((leb n end ≡ true) × (n ≤ end))
          ⊎ ((leb n end ≡ false) × (end < n)) → i < end
      before i from less (inl p) = (let up : n ≤ end = p.1 in omega arith)
      before i from less (inr p) = (let same : n ≡ first = none p.1 in absurd (omega arith))

  -- there are none
  pub hands_nowhere : (gs : List Group) (wide : Bool) (first end : ℕ) (old : List A) → end ≤ first
      → DispatchesAmong represents gs wide first end place op x old old
  hands_nowhere gs wide first end old none =
      hands_nobody (λ i. (first ≤ i) × (i < end) × (is_asked_at gs wide op i ≡ true)) old (λ i less p. (let from : first ≤ i = p.0 in let before : i < end = p.1 in omega arith))

  -- the one that is named
  pub hands_named : (gs : List Group) (named : Span) (old new : List A) → CoversAct gs op named
      → named.end ≡ named.first + 1 → passes_at gs sees_every_call named.first ≡ false
      → DispatchesTo represents named.first place op x old new
      → DispatchesAmong represents gs false named.first named.end place op x old new
  hands_named gs named old new covers one narrow =
      hands_same (λ i. i ≡ named.first) (λ i. (named.first ≤ i) × (i < named.end) × (is_asked_at gs false op i ≡ true)) old new
      (λ i same. (omega arith, omega arith, ap (is_asked_at gs false op) same ∙ asked_named gs op named.first (covers.lowest (omega arith)) narrow))
      (λ i q. (let from : named.first ≤ i = q.0 in let before : i < named.end = q.1 in omega arith))

  -- it is wide
  pub hands_wide : (gs : List Group) (named : Span) (old : List A) → named.end ≡ named.first + 1
      → passes_at gs sees_every_call named.first ≡ true
      → DispatchesAmong represents gs false named.first named.end place op x old old
  hands_wide gs named old one wide =
      hands_nobody (λ i. (named.first ≤ i) × (i < named.end) × (is_asked_at gs false op i ≡ true)) old
      (λ i less q.
      (let from : named.first ≤ i = q.0 in
      let before : i < named.end = q.1 in
      let same : i ≡ named.first = omega arith in
      asked_once gs op i (ap (passes_at gs sees_every_call) same ∙ wide) q.2))

  -- those that are named, and then the wide ones
  pub hands_both : (gs : List Group) (named wide : Span) (old mid new : List A)
      → CoversAct gs op named → Covers gs sees_every_call wide
      → DispatchesAmong represents gs false named.first named.end place op x old mid
      → DispatchesAmong represents gs true wide.first wide.end place op x mid new
      → DispatchesOn represents gs place op x old new
  hands_both gs named wide old mid new covers wides =
      hands_then (λ i. (named.first ≤ i) × (i < named.end) × (is_asked_at gs false op i ≡ true)) (λ i. (wide.first ≤ i) × (i < wide.end) × (is_asked_at gs true op i ≡ true))
      (λ i. is_on_at gs op i ≡ true) old mid new (λ i p q. asked_once gs op i q.2 p.2) (λ i p. asked_is_on gs op i p.2) (λ i q. wide_is_on gs op i q.2)
      (λ i on one other. on_is_asked gs op named wide i covers wides on one other)

-- A PASS

-- without groups an entry goes nowhere
goes_nowhere : (gs : List Group) (i : ℕ) (x : Entry) (past : List Entry) → length gs ≡ 0
    → goes_to gs i x past ≡ false
goes_nowhere (g ∷ gs) i x past none = absurd (omega arith)
goes_nowhere [] i x past none = by (is_intermediate x)
  where
    by : (b : Bool) → (not b && false) ≡ false
    by true = refl
    by false = refl

-- so all audits are as at first
pub handed_nowhere : {A : Type 0} (represents : A → A → List Entry
    → Type 0) (gs : List Group) (starts : List A) (past : List Entry) → length gs ≡ 0
    → AreHanded represents gs starts starts past
handed_nowhere {A} represents gs starts past none =
    (refl, λ i start at. (start, at, go i start past))
  where
    go : (i : ℕ) (start : A) (past : List Entry)
        → IsDispatched represents (goes_to gs i) start start past
    go i start [] = refl
    go i start (x ∷ past) = (start, go i start past, inr (goes_nowhere gs i x past none, refl))

-- an entry that is passed to no audit
pub handed_none : {A : Type 0} (represents : A → A → List Entry
    → Type 0) (gs : List Group) (starts now : List A) (x : Entry) (past : List Entry) → ((i : ℕ)
    → goes_to gs i x past ≡ false)
    → AreHanded represents gs starts now past → AreHanded represents gs starts now (x ∷ past)
handed_none represents gs starts now x past none h = (h.0, λ i start at. (let k = h.1 i start at in (k.0, k.1, (k.0, k.2, inr (none i, refl)))))

-- a go that ends no call leaves each audit unchanged
pub each_stays : {A : Type 0} (group : A → Group) (represents : A → A → List Entry
    → Type 0) (stays : (start now : A) (x : Entry) (past : List Entry) → is_intermediate x ≡ true
    → represents start now past → represents start now (x ∷ past))
    (gs : List Group) (starts now : List A) (x : Entry) (past : List Entry)
    → is_intermediate x ≡ true
    → AreIndependent group represents gs starts now past
    → AreIndependent group represents gs starts now (x ∷ past)
each_stays group represents stays gs starts now x past on each = λ i g here. (let k = each i g here in (k.0, k.1, k.2, k.3, k.4, stays k.0 k.1 x past on k.5))

-- such a go is passed to no audit
pub goes_on_to_none : (gs : List Group) (i : ℕ) (x : Entry) (past : List Entry)
    → is_intermediate x ≡ true
    → goes_to gs i x past ≡ false
goes_on_to_none gs i x past on = ap (λ b. not b && is_on_at gs (op_at x past) i) on

module _ {A : Type 0} (group : A → Group) (represents : A → A → List Entry → Type 0)
    (passes : (start now : A) (x : Entry) (past : List Entry)
    → is_on (group start) (op_at x past) ≡ false → represents start now past
    → represents start now (x ∷ past))
    (gs : List Group) (place : ℕ) (op : Act) (x : Entry) (past : List Entry) (at : place ≡ length past) (is : op ≡ op_at x past) where
  -- each group's audit has processed the entry, or is as before and the entry's call is not on the
  -- group
  pub each_taken : (starts old new : List A) → DispatchesOn represents gs place op x old new
      → AreIndependent group represents gs starts old past
      → AreIndependent group represents gs starts new (x ∷ past)
  each_taken starts old new hands each = λ i g here. (let was = each i g here in go i g here was.0 was.1 was.2 was.4 was.5 (hands.1 i was.1 was.3))
    where
      Stands : ℕ → Group → Type 0
      Stands i g = (start : A) × (now : A) × (slice_get starts i ≡ Some start) × (slice_get new i ≡ Some now) × (group start ≡ g) × represents start now (x ∷ past)

      at_group : (i : ℕ) (g : Group) (b : Bool) → slice_get gs i ≡ Some g → is_on_at gs op i ≡ b
          → is_on g op ≡ b
      at_group i g b here is = sym (ap (λ o. option_map_or (λ h. is_on h op) o false) here) ∙ is

      none : (i : ℕ) (b : Bool) → is_on_at gs op i ≡ b → (is_on_at gs op i ≡ true → ⊥)
          → is_on_at gs op i ≡ false
      none i true e off = absurd (off e)
      none i false e off = e

      go : (i : ℕ) (g : Group) → slice_get gs i ≡ Some g → (start now : A)
          → slice_get starts i ≡ Some start → group start ≡ g → represents start now past
          → (b : A) × (slice_get new i ≡ Some b) × (((is_on_at gs op i ≡ true) × Dispatches represents place op x now b) ⊎ ((is_on_at gs op i ≡ true → ⊥) × (b ≡ now))) → Stands i g
      go i g here start now first of was (b, got, inl p) = (start, b, first, got, of, p.1 start past at is was)
      go i g here start now first of was (b, got, inr q) = (
        start,
        b,
        first,
        got,
        of,
        subst (λ z. represents start z (x ∷ past)) (sym q.1)
            (passes start now x past (ap (λ (k : Group). is_on k (op_at x past)) of ∙ ap (is_on g) (sym is) ∙ at_group i g false here (none i (is_on_at gs op i) refl q.0)) was),
      )

  -- each audit was passed the entry if that is to be passed to its group
  pub handed_taken : (starts old new : List A) → is_intermediate x ≡ false
      → DispatchesOn represents gs place op x old new → AreHanded represents gs starts old past
      → AreHanded represents gs starts new (x ∷ past)
  handed_taken starts old new ends hands h = (hands.0 ∙ h.0, λ i start first. (let k = h.1 i start first in go i start k.0 k.2 (hands.1 i k.0 k.1)))
    where
      goes : (i : ℕ) → goes_to gs i x past ≡ is_on_at gs op i
      goes i = ap (λ b. not b && is_on_at gs (op_at x past) i) ends ∙ ap (λ a. is_on_at gs a i) (sym is)

      none : (i : ℕ) (b : Bool) → is_on_at gs op i ≡ b → (is_on_at gs op i ≡ true → ⊥)
          → is_on_at gs op i ≡ false
      none i true e off = absurd (off e)
      none i false e off = e

      own : (a b : A) → Dispatches represents place op x a b
          → Dispatches represents (length past) (op_at x past) x a b
      own a b h = subst (λ n. Dispatches represents n (op_at x past) x a b) at (subst (λ o. Dispatches represents place o x a b) is h)

      go : (i : ℕ) (start now : A) → IsDispatched represents (goes_to gs i) start now past
          → (b : A) × (slice_get new i ≡ Some b) × (((is_on_at gs op i ≡ true) × Dispatches represents place op x now b) ⊎ ((is_on_at gs op i ≡ true → ⊥) × (b ≡ now)))
          → (b : A) × (slice_get new i ≡ Some b)
          × IsDispatched represents (goes_to gs i) start b (x ∷ past)
      go i start now was (b, got, inl p) = (b, got, (now, was, inl (goes i ∙ p.0, own now b p.1)))
      go i start now was (b, got, inr q) = (b, got, (now, was, inr (goes i ∙ none i (is_on_at gs op i) refl q.0, q.1)))
