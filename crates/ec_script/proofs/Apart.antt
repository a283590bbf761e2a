-- No object belongs to two groups of a header: each declaration uses the objects that come next.
use Rattle.std.proofs.Common.{◌≡◌, ◌⊎◌, inl, inr, ℕ, ◌+◌, ◌<◌, ◌≤◌, List, [], ◌∷◌, ◌++◌, length, true, ◌&&◌, ◌||◌, Option, Some, None, sym, ◌∙◌, subst, arith, append-nil, length-append, nat_le, nat_lt, eqb, eqb-true, leb-true, ltb-true}
use Rattle.std.specs.List.{Contains, cons_option}
use Rattle.std.proofs.lemmas.Bool.{and_parts, or_cases}
use Rattle.std.proofs.lemmas.List.{length-replicate}
use Rattle.std.proofs.lemmas.List.Elements.{Contains-push_cases}
use Rattle.ec_count.specs.Tables.{Tables}
use Rattle.ec_count.specs.declared.setup.Rights.{Rights}
use Rattle.ec_count.specs.declared.setup.Access.{Access}
use Rattle.ec_heading.specs.declared.group.Group.{Group}
use Rattle.ec_heading.specs.declared.decl_kind.DeclKind.{DeclKind}
use Rattle.ec_heading.specs.declared.decl_kind.DeclKind.TheVariants as sorts
use Rattle.ec_heading.specs.Objects.{group_of_declaration}
use Rattle.ec_heading.specs.HeaderTree.{with_objects}
use Rattle.ec_script.specs.declared.object.Object.{Object}
use Rattle.ec_script.specs.declared.object.Object.TheVariants.{Event, Sequencer, Cell, Handed}
use Rattle.ec_script.specs.Objects.{owns}
use Rattle.ec_script.specs.Confined.{AreApart}

-- TABLES

-- the tables have the object
abbrev pub IsOf : Tables → Object → Type 0
IsOf t (Event e) = e < length t.events
IsOf t (Sequencer q) = q < length t.takers
IsOf t (Cell x) = x < length t.cells
IsOf t (Handed e b) = e < length t.events
IsOf t _ = Unit {0}

pub record Grow (t u : Tables) : Type 0 where
  pub events : length t.events ≤ length u.events
  pub takers : length t.takers ≤ length u.takers
  pub cells : length t.cells ≤ length u.cells

pub stays : (t u : Tables) (o : Object) → Grow t u → IsOf t o → IsOf u o
stays t u (Event e) grow of = omega (arith, grow.events, of)
stays t u (Sequencer q) grow of = omega (arith, grow.takers, of)
stays t u (Cell x) grow of = omega (arith, grow.cells, of)
stays t u (Handed e b) grow of = omega (arith, grow.events, of)
stays t u _ grow of = tt

pub tables_grow : (s : DeclKind) (t : Tables) (n : ℕ) (first second : List ℕ) → Grow t (with_objects s t n first second)
tables_grow sorts.EventCount t n first second = record { events = omega (arith, length-append {A = Rights}); takers = omega arith; cells = omega arith }
tables_grow sorts.Sequencer t n first second = record { events = omega arith; takers = omega (arith, length-append {A = List ℕ}); cells = omega arith }
tables_grow sorts.Cells t n first second = record { events = omega arith; takers = omega arith; cells = omega (arith, length-append {A = Access}) }
tables_grow sorts.Buffer t n first second = record { events = omega (arith, length-append {A = Rights}); takers = omega (arith, length-append {A = List ℕ}); cells = omega (arith, length-append {A = Access}) }
tables_grow sorts.Database t n first second = record { events = omega (arith, length-append {A = Rights}); takers = omega (arith, length-append {A = List ℕ}); cells = omega (arith, length-append {A = Access}) }
tables_grow sorts.Semaphore t n first second = record { events = omega (arith, length-append {A = Rights}); takers = omega (arith, length-append {A = List ℕ}); cells = omega arith }
tables_grow sorts.Both t n first second = record { events = omega (arith, length-append {A = Rights}); takers = omega (arith, length-append {A = List ℕ}); cells = omega arith }

-- A NEW GROUP

-- its objects are in the new tables and not in the old ones
abbrev pub IsNew : Tables → Tables → Group → Type 0
IsNew t u g = (o : Object) → owns o g ≡ true → (IsOf t o → ⊥) × IsOf u o

abbrev pub AreNew : Tables → Tables → Option Group → Type 0
AreNew t u None = Unit {0}
AreNew t u (Some g) = IsNew t u g

one_is : (a e : ℕ) → eqb a e ≡ true → e ≡ a
one_is a e is = sym (eqb-true a e is)

either_is : (a b e : ℕ) → (eqb a e || eqb b e) ≡ true → (e ≡ a) ⊎ (e ≡ b)
either_is a b e is = elim (or_cases (eqb a e) (eqb b e) is) [ inl f ↦ inl (one_is a e f) | inr f ↦ inr (one_is b e f) ]

within : (first n x : ℕ) → (nat_le first x && nat_lt x (first + n)) ≡ true → (first ≤ x) × (x < first + n)
within first n x is = let p = and_parts (nat_le first x) (nat_lt x (first + n)) is in (leb-true first x p.0, ltb-true x (first + n) p.1)

buffer_events : (t : Tables) (n : ℕ) (first second : List ℕ) (e : ℕ) → (eqb (length t.events) e || eqb (length t.events + 1) e) ≡ true → (e < length t.events → ⊥) × (e < length (with_objects sorts.Buffer t n first second).events)
buffer_events t n first second e own =
    let i = either_is (length t.events) (length t.events + 1) e own in
    ((λ of. omega (arith, i, of)), omega (arith, i, length-append {A = Rights}))

buffer_new : (t : Tables) (n : ℕ) (first second : List ℕ) → AreNew t (with_objects sorts.Buffer t n first second) (group_of_declaration sorts.Buffer t n)
buffer_new t n first second (Event e) own = buffer_events t n first second e own
buffer_new t n first second (Handed e b) own = buffer_events t n first second e own
buffer_new t n first second (Sequencer q) own =
    let i = either_is (length t.takers) (length t.takers + 1) q own in
    ((λ of. omega (arith, i, of)), omega (arith, i, length-append {A = List ℕ}))
buffer_new t n first second (Cell x) own =
    let i = within (length t.cells) n x own in
    ((λ of. omega (arith, i, of)), omega (arith, i, length-append {A = Access}, length-replicate {A = Access}))
buffer_new t n first second _ own = cc

database_events : (t : Tables) (n : ℕ) (first second : List ℕ) (e : ℕ) → (eqb (length t.events) e || eqb (length t.events + 1) e) ≡ true → (e < length t.events → ⊥) × (e < length (with_objects sorts.Database t n first second).events)
database_events t n first second e own =
    let i = either_is (length t.events) (length t.events + 1) e own in
    ((λ of. omega (arith, i, of)), omega (arith, i, length-append {A = Rights}))

database_new : (t : Tables) (n : ℕ) (first second : List ℕ) → AreNew t (with_objects sorts.Database t n first second) (group_of_declaration sorts.Database t n)
database_new t n first second (Event e) own = database_events t n first second e own
database_new t n first second (Handed e b) own = database_events t n first second e own
database_new t n first second (Sequencer q) own =
    let i = one_is (length t.takers) q own in
    ((λ of. omega (arith, i, of)), omega (arith, i, length-append {A = List ℕ}))
database_new t n first second (Cell x) own =
    let i = within (length t.cells) n x own in
    ((λ of. omega (arith, i, of)), omega (arith, i, length-append {A = Access}, length-replicate {A = Access}))
database_new t n first second _ own = cc

semaphore_events : (t : Tables) (n : ℕ) (first second : List ℕ) (e : ℕ) → eqb (length t.events) e ≡ true → (e < length t.events → ⊥) × (e < length (with_objects sorts.Semaphore t n first second).events)
semaphore_events t n first second e own =
    let i = one_is (length t.events) e own in
    ((λ of. omega (arith, i, of)), omega (arith, i, length-append {A = Rights}))

semaphore_new : (t : Tables) (n : ℕ) (first second : List ℕ) → AreNew t (with_objects sorts.Semaphore t n first second) (group_of_declaration sorts.Semaphore t n)
semaphore_new t n first second (Event e) own = semaphore_events t n first second e own
semaphore_new t n first second (Handed e b) own = semaphore_events t n first second e own
semaphore_new t n first second (Sequencer q) own =
    let i = one_is (length t.takers) q own in
    ((λ of. omega (arith, i, of)), omega (arith, i, length-append {A = List ℕ}))
semaphore_new t n first second _ own = cc

both_events : (t : Tables) (n : ℕ) (first second : List ℕ) (e : ℕ) → eqb (length t.events) e ≡ true → (e < length t.events → ⊥) × (e < length (with_objects sorts.Both t n first second).events)
both_events t n first second e own =
    let i = one_is (length t.events) e own in
    ((λ of. omega (arith, i, of)), omega (arith, i, length-append {A = Rights}))

both_new : (t : Tables) (n : ℕ) (first second : List ℕ) → AreNew t (with_objects sorts.Both t n first second) (group_of_declaration sorts.Both t n)
both_new t n first second (Event e) own = both_events t n first second e own
both_new t n first second (Handed e b) own = both_events t n first second e own
both_new t n first second (Sequencer q) own =
    let i = one_is (length t.takers) q own in
    ((λ of. omega (arith, i, of)), omega (arith, i, length-append {A = List ℕ}))
both_new t n first second _ own = cc

pub group_new : (s : DeclKind) (t : Tables) (n : ℕ) (first second : List ℕ) → AreNew t (with_objects s t n first second) (group_of_declaration s t n)
group_new sorts.EventCount t n first second = tt
group_new sorts.Sequencer t n first second = tt
group_new sorts.Cells t n first second = tt
group_new sorts.Buffer t n first second = buffer_new t n first second
group_new sorts.Database t n first second = database_new t n first second
group_new sorts.Semaphore t n first second = semaphore_new t n first second
group_new sorts.Both t n first second = both_new t n first second

-- GROUPS

-- their objects are declared, and no two share one
pub record KeepApart (t : Tables) (gs : List Group) : Type 0 where
  pub below : (o : Object) (g : Group) → Contains gs g → owns o g ≡ true → IsOf t o
  pub apart : AreApart gs

pub none_apart : (t : Tables) → KeepApart t []
none_apart t = record { below = λ o g c own. absurd (omega (arith, c.1)); apart = λ o g k c d own also. absurd (omega (arith, c.1)) }

apart_push : (t u : Tables) (gs : List Group) (g : Group) → Grow t u → IsNew t u g → KeepApart t gs → KeepApart u (gs ++ g ∷ [])
apart_push t u gs g grow new keep = record {
  below = λ o k c own. elim (Contains-push_cases gs g k c) [
    | inl old ↦ stays t u o grow (keep.below o k old own)
    | inr is ↦ (new o (subst (λ (x : Group). owns o x ≡ true) (sym is) own)).1
  ];
  apart = λ o k l c d own also. elim (Contains-push_cases gs g k c) [
    | inl old ↦ elim (Contains-push_cases gs g l d) [
      | inl older ↦ keep.apart o k l old older own also
      | inr is ↦ absurd ((new o (subst (λ (x : Group). owns o x ≡ true) (sym is) also)).0 (keep.below o k old own))
    ]
    | inr is ↦ elim (Contains-push_cases gs g l d) [
      | inl old ↦ absurd ((new o (subst (λ (x : Group). owns o x ≡ true) (sym is) own)).0 (keep.below o l old also))
      | inr too ↦ sym is ∙ too
    ]
  ];
}

apart_more : (t u : Tables) (gs : List Group) (o : Option Group) → Grow t u → AreNew t u o → KeepApart t gs → KeepApart u (gs ++ cons_option o [])
apart_more t u gs None grow new keep = subst (KeepApart u) (sym (append-nil gs)) (record { below = λ o g c own. stays t u o grow (keep.below o g c own); apart = keep.apart })
apart_more t u gs (Some g) grow new keep = apart_push t u gs g grow new keep

-- so it stays with one more declaration
pub declared_apart : (s : DeclKind) (t : Tables) (n : ℕ) (first second : List ℕ) (gs : List Group) → KeepApart t gs → KeepApart (with_objects s t n first second) (gs ++ cons_option (group_of_declaration s t n) [])
declared_apart s t n first second gs keep = apart_more t (with_objects s t n first second) gs (group_of_declaration s t n) (tables_grow s t n first second) (group_new s t n first second) keep
