-- Each group of a header has one name.
use Rattle.std.proofs.Common.{◌≡◌, ◌⊎◌, inl, inr, ℕ, zero, suc, ◌+◌, ◌<◌, ◌≤◌, List, [], ◌∷◌, ◌++◌, length, true, false, cond, Option, Some, None, refl, sym, ap, ◌∙◌, subst, arith, bytes_eq, append-nil, length-append}
use Rattle.std.specs.List.{AllByRecursion, cons_option, slice_get}
use Rattle.std.specs.Option.{option_map_or}
use Rattle.std.proofs.lemmas.Bool.{false_from_ne_true}
use Rattle.std.proofs.lemmas.Slice.Eq.{bytes_eq-Decides}
use Rattle.ec_count.specs.Names.{find_name}
use Rattle.ec_count.specs.Tables.{Tables}
use Rattle.ec_count.specs.declared.target.Target.{Target}
use Rattle.ec_count.specs.declared.target.Target.TheVariants as targets
use Rattle.ec_heading.specs.declared.version.Version.{Version}
use Rattle.ec_heading.specs.declared.group.Group.{Group}
use Rattle.ec_heading.specs.declared.decl_kind.DeclKind.{DeclKind}
use Rattle.ec_heading.specs.declared.decl_kind.DeclKind.TheVariants as sorts
use Rattle.ec_heading.specs.DeclKinds.{has_name}
use Rattle.ec_heading.specs.Objects.{Next, target_of, group_of_declaration}
use Rattle.ec_heading.specs.HeadingModel.{HeadingModel}
use Rattle.ec_heading.specs.HeaderTree.{Declaration, HeaderTree, empty_heading, number_names, next_ids, named_as, with_declaration, with_declarations, heading_of_tree, with_objects}
use Rattle.ec_heading.proofs.shared.ReadNames.{found_all}
use Rattle.ec_script.specs.declared.object.Object.{Object}
use Rattle.ec_script.specs.Objects.{group_place, owns}
use Rattle.ec_script.specs.Spelling.{is_owner, owner_word}
use Rattle.ec_script.proofs.Apart.{IsOf, tables_grow, stays, IsNew, AreNew, group_new, Grow}
use Rattle.ec_heading.proofs.shared.Listed.{Named}

-- NAMES OF GROUPS

-- each name of a group is one of the first n
abbrev AreFirst : ℕ → Named → Type 0
AreFirst n names = AllByRecursion (λ (e : List ℕ × Target). (i : ℕ) → group_place e.1 ≡ Some i → i < n) names

-- no name there is of the same group
abbrev IsApartFrom : Target → Named → Type 0
IsApartFrom t names = AllByRecursion (λ (d : List ℕ × Target). (i : ℕ) → group_place t ≡ Some i → group_place d.1 ≡ Some i → ⊥) names

abbrev AreSingle : Named → Type 0
AreSingle [] = Unit {0}
AreSingle (e ∷ es) = IsApartFrom e.1 es × AreSingle es

all_push : {X : Type 0} (P : X → Type 0) (xs : List X) (x : X) → AllByRecursion P xs → P x → AllByRecursion P (xs ++ x ∷ [])
all_push P [] x all one = (one, tt)
all_push P (y ∷ xs) x all one = (all.0, all_push P xs x all.1 one)

first_more : (m n : ℕ) (names : Named) → m ≤ n → AreFirst m names → AreFirst n names
first_more m n [] more all = tt
first_more m n (e ∷ es) more all = ((λ i is. (let low = all.0 i is in omega (arith, low, more))), first_more m n es more all.1)

single_push : (m : ℕ) (names : Named) (name : List ℕ) (t : Target) → AreFirst m names → ((i : ℕ) → group_place t ≡ Some i → i ≡ m) → AreSingle names → AreSingle (names ++ (name, t) ∷ [])
single_push m [] name t first new single = (tt, tt)
single_push m (e ∷ es) name t first new single = (
  all_push (λ (d : List ℕ × Target). (i : ℕ) → group_place e.1 ≡ Some i → group_place d.1 ≡ Some i → ⊥) es (name, t) single.0 (λ i is too. (let low = first.0 i is in let same = new i too in omega (arith, low, same))),
  single_push m es name t first.1 new single.1,
)

workers_first : (m n : ℕ) (ws : List (List ℕ)) → AreFirst m (number_names n ws)
workers_first m n [] = tt
workers_first m n (w ∷ ws) = ((λ i is. cc), workers_first m (n + 1) ws)

worker_apart : (n : ℕ) (names : Named) → IsApartFrom (targets.Worker n) names
worker_apart n [] = tt
worker_apart n (e ∷ es) = ((λ i is too. cc), worker_apart n es)

workers_single : (n : ℕ) (ws : List (List ℕ)) → AreSingle (number_names n ws)
workers_single n [] = tt
workers_single n (w ∷ ws) = (worker_apart n (number_names (n + 1) ws), workers_single (n + 1) ws)

-- the group of a declaration comes next
next_place : (s : DeclKind) (k : Next) (n i : ℕ) → group_place (target_of s k n) ≡ Some i
    → i ≡ k.group
next_place sorts.EventCount k n i is = cc
next_place sorts.Sequencer k n i is = cc
next_place sorts.Cells k n i is = cc
next_place sorts.Buffer k n i is = cc
next_place sorts.Database k n i is = cc
next_place sorts.Semaphore k n i is = cc
next_place sorts.Both k n i is = cc

groups_grow : (s : DeclKind) (t : Tables) (k : Next) (n i : ℕ) (gs : List Group) → group_place (target_of s k n) ≡ Some i → length gs < length (gs ++ cons_option (group_of_declaration s t n) [])
groups_grow sorts.EventCount t k n i gs is = cc
groups_grow sorts.Sequencer t k n i gs is = cc
groups_grow sorts.Cells t k n i gs is = cc
groups_grow sorts.Buffer t k n i gs is = omega (arith, length-append {A = Group})
groups_grow sorts.Database t k n i gs is = omega (arith, length-append {A = Group})
groups_grow sorts.Semaphore t k n i gs is = omega (arith, length-append {A = Group})
groups_grow sorts.Both t k n i gs is = omega (arith, length-append {A = Group})

-- GROUPS BY THEIR PLACES

pub get_push : (xs : List Group) (x : Group) (i : ℕ) (y : Group) → slice_get (xs ++ x ∷ []) i ≡ Some y → (slice_get xs i ≡ Some y) ⊎ ((i ≡ length xs) × (x ≡ y))
get_push [] x zero y is = inr (refl, cc)
get_push [] x (suc i) y is = cc
get_push (z ∷ xs) x zero y is = inl is
get_push (z ∷ xs) x (suc i) y is = elim (get_push xs x i y is) [ inl old ↦ inl old | inr new ↦ inr (ap suc new.0, new.1) ]

-- an object belongs to one group at most, and then is declared
record Owned (t : Tables) (gs : List Group) : Type 0 where
  below : (o : Object) (i : ℕ) (g : Group) → slice_get gs i ≡ Some g → owns o g ≡ true → IsOf t o
  one : (o : Object) (i j : ℕ) (g k : Group) → slice_get gs i ≡ Some g → slice_get gs j ≡ Some k → owns o g ≡ true → owns o k ≡ true → i ≡ j

owned_push : (t u : Tables) (gs : List Group) (g : Group) → Grow t u → IsNew t u g → Owned t gs → Owned u (gs ++ g ∷ [])
owned_push t u gs g grow new is = record {
  below = λ o i k at own. elim (get_push gs g i k at) [
    | inl old ↦ stays t u o grow (is.below o i k old own)
    | inr one ↦ (new o (subst (λ (x : Group). owns o x ≡ true) (sym one.1) own)).1
  ];
  one = λ o i j k l at also own too. elim (get_push gs g i k at) [
    | inl old ↦ elim (get_push gs g j l also) [
      | inl older ↦ is.one o i j k l old older own too
      | inr one ↦ absurd ((new o (subst (λ (x : Group). owns o x ≡ true) (sym one.1) too)).0 (is.below o i k old own))
    ]
    | inr one ↦ elim (get_push gs g j l also) [
      | inl old ↦ absurd ((new o (subst (λ (x : Group). owns o x ≡ true) (sym one.1) own)).0 (is.below o j l old too))
      | inr both ↦ one.0 ∙ sym both.0
    ]
  ];
}

owned_more : (t u : Tables) (gs : List Group) (o : Option Group) → Grow t u → AreNew t u o → Owned t gs → Owned u (gs ++ cons_option o [])
owned_more t u gs None grow new is = subst (Owned u) (sym (append-nil gs)) (record { below = λ o i g at own. stays t u o grow (is.below o i g at own); one = is.one })
owned_more t u gs (Some g) grow new is = owned_push t u gs g grow new is

-- A HEADER

pub record Owning (h : HeadingModel) : Type 0 where
  first : AreFirst (length h.groups) h.names
  single : AreSingle h.names
  groups : Owned h.setup h.groups

owning_opened : (version : Version) (limit : ℕ) (ws : List (List ℕ)) → Owning (empty_heading version limit ws)
owning_opened version limit ws = record {
  first = workers_first 0 0 ws;
  single = workers_single 0 ws;
  groups = record { below = λ o i g at own. cc; one = λ o i j g k at also own too. cc };
}

first_named : (n : ℕ) (s : DeclKind) (names : Named) (name : List ℕ) (t : Target) → AreFirst n names → ((i : ℕ) → group_place t ≡ Some i → i < n) → AreFirst n (names ++ named_as s name t)
first_named n s names name t first new = elim (has_name s) as (λ b. AreFirst n (names ++ cond b ((name, t) ∷ []) [])) [
  | true ↦ all_push (λ (e : List ℕ × Target). (i : ℕ) → group_place e.1 ≡ Some i → i < n) names (name, t) first new
  | false ↦ subst (AreFirst n) (sym (append-nil names)) first
]

single_named : (m : ℕ) (s : DeclKind) (names : Named) (name : List ℕ) (t : Target) → AreFirst m names → ((i : ℕ) → group_place t ≡ Some i → i ≡ m) → AreSingle names → AreSingle (names ++ named_as s name t)
single_named m s names name t first new single = elim (has_name s) as (λ b. AreSingle (names ++ cond b ((name, t) ∷ []) [])) [
  | true ↦ single_push m names name t first new single
  | false ↦ subst AreSingle (sym (append-nil names)) single
]

owning_more : (h : HeadingModel) (d : Declaration) → Owning h → Owning (with_declaration h d)
owning_more h d is =
    let t : Target = target_of d.sort (next_ids h) d.number in
    let grown : length h.groups ≤ length (h.groups ++ cons_option (group_of_declaration d.sort h.setup d.number) []) = omega (arith, length-append h.groups (cons_option (group_of_declaration d.sort h.setup d.number) [])) in
    record {
      first = first_named (length (h.groups ++ cons_option (group_of_declaration d.sort h.setup d.number) [])) d.sort h.names d.name (target_of d.sort (next_ids h) d.number) (first_more _ _ h.names grown is.first)
          (λ i at. (let e = next_place d.sort (next_ids h) d.number i at in let g = groups_grow d.sort h.setup (next_ids h) d.number i h.groups at in omega (arith, e, g)));
      single = single_named (length h.groups) d.sort h.names d.name (target_of d.sort (next_ids h) d.number) is.first (λ i at. next_place d.sort (next_ids h) d.number i at) is.single;
      groups = owned_more h.setup (with_objects d.sort h.setup d.number d.first d.second) h.groups (group_of_declaration d.sort h.setup d.number) (tables_grow d.sort h.setup d.number d.first d.second) (group_new d.sort h.setup d.number d.first d.second) is.groups;
    }

owning_all : (h : HeadingModel) (ds : List Declaration) → Owning h → Owning (with_declarations h ds)
owning_all h [] is = is
owning_all h (d ∷ ds) is = owning_all (with_declaration h d) ds (owning_more h d is)

pub owning : (o : HeaderTree) → Owning (heading_of_tree o)
owning o = owning_all (empty_heading o.version o.limit o.workers) o.declarations (owning_opened o.version o.limit o.workers)

-- THE NAME OF A GROUP

record Owner (gs : List Group) (o : Object) (t : Target) : Type 0 where
  place : ℕ
  group : Group
  at : group_place t ≡ Some place
  is : slice_get gs place ≡ Some group
  own : owns o group ≡ true

owner_at : (gs : List Group) (o : Object) (i : ℕ) (x : Option Group) → slice_get gs i ≡ x → option_map_or (owns o) x false ≡ true → Owner gs o (targets.Group i)
owner_at gs o i None at is = cc
owner_at gs o i (Some g) at is = record { place = i; group = g; at = refl; is = at; own = is }

owner_back : (gs : List Group) (o : Object) (t : Target) → is_owner gs o t ≡ true → Owner gs o t
owner_back gs o (targets.Group i) is = owner_at gs o i (slice_get gs i) refl is
owner_back gs o _ is = cc

owner_found : (t : Tables) (gs : List Group) (names : Named) (word : List ℕ) (i : ℕ) (g : Group) (o : Object) → Owned t gs → AreSingle names → find_name word names ≡ Some (targets.Group i) → slice_get gs i ≡ Some g → owns o g ≡ true
    → owner_word gs names o ≡ word
owner_found t gs [] word i g o owned single found at own = cc
owner_found t gs (x ∷ xs) word i g o owned single found at own =
    elim (bytes_eq word x.0) as (λ b. bytes_eq word x.0 ≡ b → cond b (Some x.1) (find_name word xs) ≡ Some (targets.Group i) → cond (is_owner gs o x.1) x.0 (owner_word gs xs o) ≡ word) [
      | true ↦ λ q f.
          (let same : x.1 ≡ targets.Group i = cc in
          let yes : is_owner gs o x.1 ≡ true = ap (is_owner gs o) same ∙ ap (λ y. option_map_or (owns o) y false) at ∙ own in
          ap (λ b. cond b x.0 (owner_word gs xs o)) yes ∙ sym ((bytes_eq-Decides word x.0).0 q))
      | false ↦ λ q f.
          (let no : is_owner gs o x.1 ≡ false = false_from_ne_true _ (λ yes.
          (let w : Owner gs o x.1 = owner_back gs o x.1 yes in
          let same : w.place ≡ i = owned.one o w.place i w.group g w.is at w.own own in
          found_all (λ d. (j : ℕ) → group_place x.1 ≡ Some j → group_place d ≡ Some j → ⊥) xs word (targets.Group i) single.0 f i (w.at ∙ ap Some same) refl)) in
          ap (λ b. cond b x.0 (owner_word gs xs o)) no ∙ owner_found t gs xs word i g o owned single.1 f at own)
    ] refl found

-- a group that is found by a word has that name
pub group_spelled : (h : HeadingModel) (word : List ℕ) (i : ℕ) (g : Group) (o : Object) → Owning h → find_name word h.names ≡ Some (targets.Group i) → slice_get h.groups i ≡ Some g → owns o g ≡ true → owner_word h.groups h.names o ≡ word
group_spelled h word i g o is found at own = owner_found h.setup h.groups h.names word i g o is.groups is.single found at own
