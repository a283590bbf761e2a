-- Each declared semaphore of a header has one name: its name is new, and so are its objects.
use Rattle.std.proofs.Common.{◌≡◌, ◌⊎◌, inl, inr, ℕ, zero, suc, ◌+◌, ◌<◌, List, [], ◌∷◌, ◌++◌, length, true, false, cond, if◌then◌else◌, Option, Some, None, slice_get, option_and_then, refl, sym, ap, ◌∙◌, subst, arith, bytes_eq, length-append}
use Rattle.std.specs.List.{cons_option}
use Rattle.std.proofs.lemmas.Option.{same_Some}
use Rattle.ec_count.specs.Tables.{Tables}
use Rattle.ec_count.specs.Names.{find_name}
use Rattle.ec_count.specs.declared.setup.Rights.{Rights}
use Rattle.ec_count.specs.declared.target.Target.{Target}
use Rattle.ec_count.specs.declared.target.Target.TheVariants as target
use Rattle.ec_semaphore.specs.Shapes.{Semaphore, next_semaphore}
use Rattle.ec_heading.specs.declared.version.Version.{Version}
use Rattle.ec_heading.specs.declared.group.Group.{Group}
use Rattle.ec_heading.specs.declared.group.Group.TheVariants as groups
use Rattle.ec_heading.specs.declared.decl_kind.DeclKind.{DeclKind}
use Rattle.ec_heading.specs.declared.decl_kind.DeclKind.TheVariants as sorts
use Rattle.ec_heading.specs.DeclKinds.{has_name}
use Rattle.ec_heading.specs.Objects.{Next, target_of, group_of_declaration}
use Rattle.ec_heading.specs.HeadingModel.{HeadingModel}
use Rattle.ec_heading.specs.HeaderTree.{Declaration, with_objects, named_as, next_ids, number_names, empty_heading, with_declaration, with_declarations, HeaderTree}
use Rattle.ec_heading.specs.HeadingInvariant.{IsHeading}
use Rattle.ec_heading.proofs.shared.TreeGrows.{objects_grow}
use Rattle.ec_heading.proofs.shared.Phrases.{same_word}
use Rattle.ec_script.specs.Objects.{group_place, group_in, semaphore_in}
use Rattle.ec_heading.specs.Groups.{semaphore_of}
use Rattle.ec_heading.proofs.shared.Listed.{Named}
use Rattle.ec_core.proofs.shared.Joining.{get_front as still_at}

-- WORDS AND PLACES IN A LONGER LIST

find_cases : (w : List ℕ) (names more : Named) (t : Target) → find_name w (names ++ more) ≡ Some t → (find_name w names ≡ Some t) ⊎ (find_name w more ≡ Some t)
find_cases w [] more t is = inr is
find_cases w (e ∷ names) more t is =
    elim (bytes_eq w e.0) as (λ b. cond b (Some e.1) (find_name w (names ++ more)) ≡ Some t → (cond b (Some e.1) (find_name w names) ≡ Some t) ⊎ (find_name w more ≡ Some t)) [
      | true ↦ λ here. inl here
      | false ↦ λ later. find_cases w names more t later
    ] is

only_name : (w name : List ℕ) (t u : Target) → find_name w ((name, t) ∷ []) ≡ Some u → (w ≡ name) × (t ≡ u)
only_name w name t u is =
    elim (bytes_eq w name) as (λ b. bytes_eq w name ≡ b → cond b (Some t) None ≡ Some u → (w ≡ name) × (t ≡ u)) [
      | true ↦ λ same here. (same_word w name same, same_Some t u here)
      | false ↦ λ differ none. cc
    ] refl is

new_name : (s : DeclKind) (w name : List ℕ) (t u : Target) → find_name w (named_as s name t) ≡ Some u → (w ≡ name) × (t ≡ u)
new_name s w name t u is =
    elim (has_name s) as (λ b. find_name w (if b then (name, t) ∷ [] else []) ≡ Some u → (w ≡ name) × (t ≡ u)) [
      | true ↦ λ there. only_name w name t u there
      | false ↦ λ none. cc
    ] is

at_end : {X : Type 0} (xs : List X) (o : Option X) → slice_get (xs ++ cons_option o []) (length xs) ≡ o
at_end [] None = refl
at_end [] (Some x) = refl
at_end (x ∷ xs) o = at_end xs o

-- A NAMED SEMAPHORE

-- the word names the group at this place, and it is this semaphore
record IsPlaced (h : HeadingModel) (w : List ℕ) (s : Semaphore) : Type 0 where
  place : ℕ
  named : find_name w h.names ≡ Some (target.Group place)
  there : slice_get h.groups place ≡ Some (groups.Semaphore s)

target_placed : (h : HeadingModel) (w : List ℕ) (g : Group) (t : Target) → find_name w h.names ≡ Some t → option_and_then (λ i. slice_get h.groups i) (group_place t) ≡ Some g
    → (i : ℕ) × (find_name w h.names ≡ Some (target.Group i)) × (slice_get h.groups i ≡ Some g)
target_placed h w g (target.Group i) named there = (i, named, there)
target_placed h w g t named there = cc

group_placed : (h : HeadingModel) (w : List ℕ) (g : Group) → group_in h w ≡ Some g → (i : ℕ) × (find_name w h.names ≡ Some (target.Group i)) × (slice_get h.groups i ≡ Some g)
group_placed h w g is =
    elim (find_name w h.names) as (λ o. find_name w h.names ≡ o → option_and_then (λ i. slice_get h.groups i) (option_and_then group_place o) ≡ Some g
    → (i : ℕ) × (find_name w h.names ≡ Some (target.Group i)) × (slice_get h.groups i ≡ Some g)) [
      | None ↦ λ named there. cc
      | Some t ↦ λ named there. target_placed h w g t named there
    ] refl is

of_group : (h : HeadingModel) (w : List ℕ) (s : Semaphore) (g : Group) → group_in h w ≡ Some g → semaphore_of g ≡ Some s → IsPlaced h w s
of_group h w s (groups.Semaphore u) is same =
    let p = group_placed h w (groups.Semaphore u) is in
    record { place = p.0; named = p.1; there = p.2 ∙ ap (λ (x : Semaphore). Some (groups.Semaphore x)) (same_Some u s same) }
of_group h w s g is same = cc

placed : (h : HeadingModel) (w : List ℕ) (s : Semaphore) → semaphore_in h w ≡ Some s
    → IsPlaced h w s
placed h w s is =
    elim (group_in h w) as (λ o. group_in h w ≡ o → option_and_then semaphore_of o ≡ Some s → IsPlaced h w s) [
      | None ↦ λ found same. cc
      | Some g ↦ λ found same. of_group h w s g found same
    ] refl is

-- A NEW DECLARATION

next_group : (s : DeclKind) (k : Next) (n i : ℕ) → target_of s k n ≡ target.Group i → i ≡ k.group
next_group sorts.EventCount k n i is = cc
next_group sorts.Sequencer k n i is = cc
next_group sorts.Cells k n i is = cc
next_group sorts.Buffer k n i is = cc
next_group sorts.Database k n i is = cc
next_group sorts.Semaphore k n i is = cc
next_group sorts.Both k n i is = cc

one_group : (s : DeclKind) (t : Tables) (k : Next) (n i : ℕ) → target_of s k n ≡ target.Group i → length (cons_option (group_of_declaration s t n) []) ≡ 1
one_group sorts.EventCount t k n i is = cc
one_group sorts.Sequencer t k n i is = cc
one_group sorts.Cells t k n i is = cc
one_group sorts.Buffer t k n i is = refl
one_group sorts.Database t k n i is = refl
one_group sorts.Semaphore t k n i is = refl
one_group sorts.Both t k n i is = refl

-- the eventcount of a new semaphore comes next
new_count : (s : DeclKind) (t : Tables) (n : ℕ) (first second : List ℕ) (u : Semaphore) → group_of_declaration s t n ≡ Some (groups.Semaphore u)
    → (u.count ≡ length t.events) × (length t.events < length (with_objects s t n first second).events)
new_count sorts.EventCount t n first second u is = cc
new_count sorts.Sequencer t n first second u is = cc
new_count sorts.Cells t n first second u is = cc
new_count sorts.Buffer t n first second u is = cc
new_count sorts.Database t n first second u is = cc
new_count sorts.Semaphore t n first second u is =
    let same : next_semaphore t n ≡ u = cc in
    (ap (λ (x : Semaphore). x.count) (sym same), omega (arith, length-append {A = Rights}))
new_count sorts.Both t n first second u is = cc

-- ALL DECLARATIONS

record AreNamedOnce (h : HeadingModel) : Type 0 where
  within : (w : List ℕ) (i : ℕ) → find_name w h.names ≡ Some (target.Group i) → i < length h.groups
  below : (w : List ℕ) (s : Semaphore) → IsPlaced h w s → s.count < length h.setup.events
  one : (w v : List ℕ) (s u : Semaphore) → IsPlaced h w s → IsPlaced h v u → s.count ≡ u.count → w ≡ v

no_group : (n : ℕ) (ws : List (List ℕ)) (w : List ℕ) (i : ℕ) → find_name w (number_names n ws) ≡ Some (target.Group i) → ⊥
no_group n [] w i is = cc
no_group n (v ∷ ws) w i is =
    elim (bytes_eq w v) as (λ b. cond b (Some (target.Worker n)) (find_name w (number_names (n + 1) ws)) ≡ Some (target.Group i) → ⊥) [
      | true ↦ λ here. cc
      | false ↦ λ later. no_group (n + 1) ws w i later
    ] is

opened_once : (version : Version) (limit : ℕ) (ws : List (List ℕ)) → AreNamedOnce (empty_heading version limit ws)
opened_once version limit ws = record {
  within = λ w i is. absurd (no_group 0 ws w i is);
  below = λ w s p. absurd (no_group 0 ws w p.place p.named);
  one = λ w v s u p q same. absurd (no_group 0 ws w p.place p.named);
}

-- the word is the new name, and the semaphore the new one
record IsNew (h : HeadingModel) (d : Declaration) (w : List ℕ) (s : Semaphore) : Type 0 where
  word : w ≡ d.name
  count : s.count ≡ length h.setup.events
  more : length h.setup.events < length (with_declaration h d).setup.events

new_placed : (h : HeadingModel) (d : Declaration) (w : List ℕ) (s : Semaphore) (i : ℕ) → find_name w (named_as d.sort d.name (target_of d.sort (next_ids h) d.number)) ≡ Some (target.Group i)
    → slice_get (with_declaration h d).groups i ≡ Some (groups.Semaphore s) → IsNew h d w s
new_placed h d w s i named there =
    let n = new_name d.sort w d.name (target_of d.sort (next_ids h) d.number) (target.Group i) named in
    let at : i ≡ length h.groups = next_group d.sort (next_ids h) d.number i n.1 in
    let is : group_of_declaration d.sort h.setup d.number ≡ Some (groups.Semaphore s) = sym (at_end h.groups (group_of_declaration d.sort h.setup d.number)) ∙ ap (slice_get (with_declaration h d).groups) (sym at) ∙ there in
    let c = new_count d.sort h.setup d.number d.first d.second s is in
    record { word = n.0; count = c.0; more = c.1 }

placed_cases : (h : HeadingModel) (d : Declaration) (w : List ℕ) (s : Semaphore) → AreNamedOnce h → IsPlaced (with_declaration h d) w s → IsPlaced h w s ⊎ IsNew h d w s
placed_cases h d w s once p =
    elim (find_cases w h.names (named_as d.sort d.name (target_of d.sort (next_ids h) d.number)) (target.Group p.place) p.named) [
      | inl old ↦ inl (record {
        place = p.place;
        named = old;
        there = sym (still_at h.groups (cons_option (group_of_declaration d.sort h.setup d.number) []) p.place (once.within w p.place old)) ∙ p.there;
      })
      | inr new ↦ inr (new_placed h d w s p.place new p.there)
    ]

within_more : (h : HeadingModel) (d : Declaration) (w : List ℕ) (i : ℕ) → AreNamedOnce h → find_name w (with_declaration h d).names ≡ Some (target.Group i) → i < length (with_declaration h d).groups
within_more h d w i once is =
    let t = target_of d.sort (next_ids h) d.number in
    let new = cons_option (group_of_declaration d.sort h.setup d.number) [] in
    elim (find_cases w h.names (named_as d.sort d.name (target_of d.sort (next_ids h) d.number)) (target.Group i) is) [
      | inl old ↦ (let low = once.within w i old in omega (arith, low, length-append h.groups (cons_option (group_of_declaration d.sort h.setup d.number) [])))
      | inr added ↦
          (let n = new_name d.sort w d.name (target_of d.sort (next_ids h) d.number) (target.Group i) added in
          let at : i ≡ length h.groups = next_group d.sort (next_ids h) d.number i n.1 in
          let long = one_group d.sort h.setup (next_ids h) d.number i n.1 in
          omega (arith, at, long, length-append h.groups (cons_option (group_of_declaration d.sort h.setup d.number) [])))
    ]

below_more : (h : HeadingModel) (d : Declaration) (w : List ℕ) (s : Semaphore) → AreNamedOnce h → IsPlaced (with_declaration h d) w s → s.count < length (with_declaration h d).setup.events
below_more h d w s once p =
    let grow = objects_grow d.sort h.setup d.number d.first d.second in
    elim (placed_cases h d w s once p) [
      | inl old ↦ (let low = once.below w s old in omega (arith, low, grow.events))
      | inr new ↦ omega (arith, new.count, new.more)
    ]

one_more : (h : HeadingModel) (d : Declaration) (w v : List ℕ) (s u : Semaphore) → AreNamedOnce h → IsPlaced (with_declaration h d) w s → IsPlaced (with_declaration h d) v u → s.count ≡ u.count → w ≡ v
one_more h d w v s u once p q same =
    elim (placed_cases h d w s once p) [
      | inl old ↦ elim (placed_cases h d v u once q) [
        | inl older ↦ once.one w v s u old older same
        | inr new ↦ absurd (let low = once.below w s old in omega (arith, low, same, new.count))
      ]
      | inr new ↦ elim (placed_cases h d v u once q) [
        | inl old ↦ absurd (let low = once.below v u old in omega (arith, low, same, new.count))
        | inr too ↦ new.word ∙ sym too.word
      ]
    ]

all_once : (h : HeadingModel) (ds : List Declaration) → AreNamedOnce h
    → AreNamedOnce (with_declarations h ds)
all_once h [] once = once
all_once h (d ∷ ds) once =
    all_once (with_declaration h d) ds
    (record { within = λ w i is. within_more h d w i once is; below = λ w s p. below_more h d w s once p; one = λ w v s u p q same. one_more h d w v s u once p q same })

heading_once : (h : HeadingModel) → IsHeading h → AreNamedOnce h
heading_once h (inl (is, within)) = subst AreNamedOnce (sym is) (opened_once h.version h.setup.limit [])
heading_once h (inr has) =
    let o : HeaderTree = has.outline in
    subst AreNamedOnce has.declares (all_once (empty_heading o.version o.limit o.workers) o.declarations (opened_once o.version o.limit o.workers))

-- words that name semaphores with one eventcount are one
pub one_name : (h : HeadingModel) (w v : List ℕ) (s u : Semaphore) → IsHeading h → semaphore_in h w ≡ Some s → semaphore_in h v ≡ Some u → s.count ≡ u.count → w ≡ v
one_name h w v s u is p q same = (heading_once h is).one w v s u (placed h w s p) (placed h v u q) same
