-- No act is on two groups of a header: each declaration uses the objects that come next.
use Rattle.std.proofs.Common.{◌≡◌, ◌⊎◌, inl, inr, ℕ, ◌+◌, ◌<◌, ◌≤◌, List, [], ◌∷◌, ◌++◌, length, true, ◌&&◌, ◌||◌, ◌==◌, Option, Some, None, sym, ◌∙◌, subst, arith, append-nil, length-append, nat_le, nat_lt, eqb-true, leb-true, ltb-true}
use Rattle.std.specs.List.{Contains, cons_option}
use Rattle.std.proofs.lemmas.Bool.{and_parts, or_cases}
use Rattle.std.proofs.lemmas.List.{length-replicate}
use Rattle.std.proofs.lemmas.List.Elements.{Contains-push_cases}
use Rattle.ec_count.specs.Tables.{Tables}
use Rattle.ec_count.specs.declared.setup.Rights.{Rights}
use Rattle.ec_count.specs.declared.setup.Access.{Access}
use Rattle.ec_core.specs.declared.act.Act.{Act}
use Rattle.ec_core.specs.declared.act.Act.TheVariants.{Advance, Read, Await, Go, Ticket, Put, Get, Hand}
use Rattle.ec_heading.specs.declared.group.Group.{Group}
use Rattle.ec_heading.specs.declared.decl_kind.DeclKind.{DeclKind}
use Rattle.ec_heading.specs.declared.decl_kind.DeclKind.TheVariants as sorts
use Rattle.ec_heading.specs.Objects.{group_of_declaration}
use Rattle.ec_heading.specs.HeadingModel.{HeadingModel}
use Rattle.ec_heading.specs.HeaderTree.{Declaration, HeaderTree, with_objects, empty_heading, with_declaration, with_declarations}
use Rattle.ec_heading.specs.HeadingInvariant.{IsHeading}
use Rattle.ec_script_theorems.proofs.Owned.{acts_on, AreApart}

-- TABLES

-- the tables have what the act names
abbrev IsOf : Tables → Act → Type 0
IsOf t (Advance e) = e < length t.events
IsOf t (Read e) = e < length t.events
IsOf t (Await e v) = e < length t.events
IsOf t Go = Unit {0}
IsOf t (Ticket q) = q < length t.takers
IsOf t (Put x v) = x < length t.cells
IsOf t (Get x) = x < length t.cells
IsOf t (Hand e b) = e < length t.events

record Grow (t u : Tables) : Type 0 where
  events : length t.events ≤ length u.events
  takers : length t.takers ≤ length u.takers
  cells : length t.cells ≤ length u.cells

stays : (t u : Tables) (act : Act) → Grow t u → IsOf t act → IsOf u act
stays t u (Advance e) grow of = omega (arith, grow.events, of)
stays t u (Read e) grow of = omega (arith, grow.events, of)
stays t u (Await e v) grow of = omega (arith, grow.events, of)
stays t u Go grow of = tt
stays t u (Ticket q) grow of = omega (arith, grow.takers, of)
stays t u (Put x v) grow of = omega (arith, grow.cells, of)
stays t u (Get x) grow of = omega (arith, grow.cells, of)
stays t u (Hand e b) grow of = omega (arith, grow.events, of)

tables_grow : (s : DeclKind) (t : Tables) (n : ℕ) (first second : List ℕ) → Grow t (with_objects s t n first second)
tables_grow sorts.EventCount t n first second = record { events = omega (arith, length-append {A = Rights}); takers = omega arith; cells = omega arith }
tables_grow sorts.Sequencer t n first second = record { events = omega arith; takers = omega (arith, length-append {A = List ℕ}); cells = omega arith }
tables_grow sorts.Cells t n first second = record { events = omega arith; takers = omega arith; cells = omega (arith, length-append {A = Access}) }
tables_grow sorts.Buffer t n first second = record { events = omega (arith, length-append {A = Rights}); takers = omega (arith, length-append {A = List ℕ}); cells = omega (arith, length-append {A = Access}) }
tables_grow sorts.Database t n first second = record { events = omega (arith, length-append {A = Rights}); takers = omega (arith, length-append {A = List ℕ}); cells = omega (arith, length-append {A = Access}) }
tables_grow sorts.Semaphore t n first second = record { events = omega (arith, length-append {A = Rights}); takers = omega (arith, length-append {A = List ℕ}); cells = omega arith }
tables_grow sorts.Both t n first second = record { events = omega (arith, length-append {A = Rights}); takers = omega (arith, length-append {A = List ℕ}); cells = omega arith }

-- A NEW GROUP

-- its objects are in the new tables and not in the old ones
record IsNew (t u : Tables) (g : Group) : Type 0 where
  counts : (e : ℕ) → acts_on g (Advance e) ≡ true → (length t.events ≤ e) × (e < length u.events)
  lines : (q : ℕ) → acts_on g (Ticket q) ≡ true → (length t.takers ≤ q) × (q < length u.takers)
  cells : (x : ℕ) → acts_on g (Get x) ≡ true → (length t.cells ≤ x) × (x < length u.cells)

abbrev AreNew : Tables → Tables → Option Group → Type 0
AreNew t u None = Unit {0}
AreNew t u (Some g) = IsNew t u g

one_is : (a e : ℕ) → (a == e) ≡ true → e ≡ a
one_is a e is = sym (eqb-true a e is)

either_is : (a b e : ℕ) → (a == e || b == e) ≡ true → (e ≡ a) ⊎ (e ≡ b)
either_is a b e is = elim (or_cases (a == e) (b == e) is) [ inl f ↦ inl (one_is a e f) | inr f ↦ inr (one_is b e f) ]

within : (first n x : ℕ) → (nat_le first x && nat_lt x (first + n)) ≡ true → (first ≤ x) × (x < first + n)
within first n x is = let p = and_parts (nat_le first x) (nat_lt x (first + n)) is in (leb-true first x p.0, ltb-true x (first + n) p.1)

group_new : (s : DeclKind) (t : Tables) (n : ℕ) (first second : List ℕ) → AreNew t (with_objects s t n first second) (group_of_declaration s t n)
group_new sorts.EventCount t n first second = tt
group_new sorts.Sequencer t n first second = tt
group_new sorts.Cells t n first second = tt
group_new sorts.Buffer t n first second = record {
  counts = λ e on. (let i = either_is (length t.events) (length t.events + 1) e on in omega (arith, i, length-append {A = Rights}));
  lines = λ q on. (let i = either_is (length t.takers) (length t.takers + 1) q on in omega (arith, i, length-append {A = List ℕ}));
  cells = λ x on. (let i = within (length t.cells) n x on in omega (arith, i, length-append {A = Access}, length-replicate {A = Access}));
}
group_new sorts.Database t n first second = record {
  counts = λ e on. (let i = either_is (length t.events) (length t.events + 1) e on in omega (arith, i, length-append {A = Rights}));
  lines = λ q on. (let i = one_is (length t.takers) q on in omega (arith, i, length-append {A = List ℕ}));
  cells = λ x on. (let i = within (length t.cells) n x on in omega (arith, i, length-append {A = Access}, length-replicate {A = Access}));
}
group_new sorts.Semaphore t n first second = record {
  counts = λ e on. (let i = one_is (length t.events) e on in omega (arith, i, length-append {A = Rights}));
  lines = λ q on. (let i = one_is (length t.takers) q on in omega (arith, i, length-append {A = List ℕ}));
  cells = λ x on. cc;
}
group_new sorts.Both t n first second = record {
  counts = λ e on. (let i = one_is (length t.events) e on in omega (arith, i, length-append {A = Rights}));
  lines = λ q on. (let i = one_is (length t.takers) q on in omega (arith, i, length-append {A = List ℕ}));
  cells = λ x on. cc;
}

new_act : (t u : Tables) (g : Group) (act : Act) → IsNew t u g → acts_on g act ≡ true → (IsOf t act → ⊥) × IsOf u act
new_act t u g (Advance e) new on = let k = new.counts e on in ((λ of. absurd (omega (arith, k.0, of))), k.1)
new_act t u g (Read e) new on = let k = new.counts e on in ((λ of. absurd (omega (arith, k.0, of))), k.1)
new_act t u g (Await e v) new on = let k = new.counts e on in ((λ of. absurd (omega (arith, k.0, of))), k.1)
new_act t u g Go new on = cc
new_act t u g (Ticket q) new on = let k = new.lines q on in ((λ of. absurd (omega (arith, k.0, of))), k.1)
new_act t u g (Put x v) new on = let k = new.cells x on in ((λ of. absurd (omega (arith, k.0, of))), k.1)
new_act t u g (Get x) new on = let k = new.cells x on in ((λ of. absurd (omega (arith, k.0, of))), k.1)
new_act t u g (Hand e b) new on = let k = new.counts e on in ((λ of. absurd (omega (arith, k.0, of))), k.1)

-- ALL GROUPS

-- the tables have their objects, and no act is on two
record KeepApart (t : Tables) (gs : List Group) : Type 0 where
  below : (act : Act) (g : Group) → Contains gs g → acts_on g act ≡ true → IsOf t act
  apart : AreApart gs

none_apart : (t : Tables) → KeepApart t []
none_apart t = record { below = λ act g c on. absurd (omega (arith, c.1)); apart = λ act k g c d on also. absurd (omega (arith, c.1)) }

apart_push : (t u : Tables) (gs : List Group) (g : Group) → Grow t u → IsNew t u g → KeepApart t gs → KeepApart u (gs ++ g ∷ [])
apart_push t u gs g grow new keep = record {
  below = λ act k c on. elim (Contains-push_cases gs g k c) [
    | inl old ↦ stays t u act grow (keep.below act k old on)
    | inr is ↦ (new_act t u g act new (subst (λ (x : Group). acts_on x act ≡ true) (sym is) on)).1
  ];
  apart = λ act k l c d on also. elim (Contains-push_cases gs g k c) [
    | inl old ↦ elim (Contains-push_cases gs g l d) [
      | inl older ↦ keep.apart act k l old older on also
      | inr is ↦ absurd ((new_act t u g act new (subst (λ (x : Group). acts_on x act ≡ true) (sym is) also)).0 (keep.below act k old on))
    ]
    | inr is ↦ elim (Contains-push_cases gs g l d) [
      | inl old ↦ absurd ((new_act t u g act new (subst (λ (x : Group). acts_on x act ≡ true) (sym is) on)).0 (keep.below act l old also))
      | inr too ↦ sym is ∙ too
    ]
  ];
}

apart_more : (t u : Tables) (gs : List Group) (o : Option Group) → Grow t u → AreNew t u o → KeepApart t gs → KeepApart u (gs ++ cons_option o [])
apart_more t u gs None grow new keep = subst (KeepApart u) (sym (append-nil gs)) (record { below = λ act g c on. stays t u act grow (keep.below act g c on); apart = keep.apart })
apart_more t u gs (Some g) grow new keep = apart_push t u gs g grow new keep

all_apart : (h : HeadingModel) (ds : List Declaration) → KeepApart h.setup h.groups → KeepApart (with_declarations h ds).setup (with_declarations h ds).groups
all_apart h [] keep = keep
all_apart h (d ∷ ds) keep =
    all_apart (with_declaration h d) ds
    (apart_more h.setup (with_objects d.sort h.setup d.number d.first d.second) h.groups (group_of_declaration d.sort h.setup d.number)
    (tables_grow d.sort h.setup d.number d.first d.second) (group_new d.sort h.setup d.number d.first d.second) keep)

pub heading_apart : (h : HeadingModel) → IsHeading h → AreApart h.groups
heading_apart h (inl (is, within)) = subst (λ (g : HeadingModel). AreApart g.groups) (sym is) (none_apart h.setup).apart
heading_apart h (inr has) =
    let o : HeaderTree = has.outline in
    subst (λ (g : HeadingModel). AreApart g.groups) has.declares (all_apart (empty_heading o.version o.limit o.workers) o.declarations (none_apart (empty_heading o.version o.limit o.workers).setup)).apart
