-- A group of a header has at most one name.
use Rattle.std.proofs.Common.{◌≡◌, ◌⊎◌, inl, inr, ℕ, ◌+◌, ◌≤◌, List, [], ◌∷◌, ◌++◌, true}
use Rattle.std.proofs.Common.{false, cond, if◌then◌else◌, Option, Some, None, unwrap_or, refl}
use Rattle.std.proofs.Common.{sym, ap, ◌∙◌, subst, arith, bytes_eq, codes, ne_eqb, eq-eqb}
use Rattle.std.proofs.lemmas.Slice.Eq.{bytes_eq-Decides}
use Rattle.ec_count.specs.Names.{find_name, name_of, same_target}
use Rattle.ec_count.specs.declared.target.Target.{Target}
use Rattle.ec_count.specs.declared.target.Target.TheVariants as target
use Rattle.ec_heading.specs.declared.decl_kind.DeclKind.{DeclKind}
use Rattle.ec_heading.specs.declared.decl_kind.DeclKind.TheVariants as sorts
use Rattle.ec_heading.specs.DeclKinds.{has_name}
use Rattle.ec_heading.specs.Objects.{Next, target_of}
use Rattle.ec_heading.specs.HeadingModel.{HeadingModel}
use Rattle.ec_heading.specs.HeaderTree.{Declaration, HeaderTree, AreDeclarable, named_as, next_ids}
use Rattle.ec_heading.specs.HeaderTree.{number_names, empty_heading, with_declaration, with_declarations}
use Rattle.ec_heading.specs.HeadingInvariant.{HasHeaderTree}
use Rattle.ec_heading.proofs.shared.TreeNames.{IsOld, AreOld, old_after, workers_old}
use Rattle.ec_heading.proofs.shared.TreeGrows.{name_of-append_none}
use Rattle.calls_text.specs.Spelling.{group_word}
use Rattle.ec_heading.proofs.shared.Listed.{Named}

-- NAMES IN A LONGER LIST

find_cases : (w : List ℕ) (names more : Named) (t : Target)
    → find_name w (names ++ more) ≡ Some t
    → (find_name w names ≡ Some t) ⊎ (find_name w more ≡ Some t)
find_cases w [] more t is = inr is
find_cases w (e ∷ names) more t is =
    elim (bytes_eq w e.0) as (λ b. cond b (Some e.1) (find_name w (names ++ more)) ≡ Some t
    → (cond b (Some e.1) (find_name w names) ≡ Some t) ⊎ (find_name w more ≡ Some t)) [
      | true ↦ λ here. inl here
      | false ↦ λ later. find_cases w names more t later
    ] is

name_kept : (t : Target) (names more : Named) (w : List ℕ) → name_of t names ≡ Some w
    → name_of t (names ++ more) ≡ Some w
name_kept t [] more w is = cc
name_kept t (e ∷ names) more w is =
    elim (same_target e.1 t) as (λ b. cond b (Some e.0) (name_of t names) ≡ Some w
    → cond b (Some e.0) (name_of t (names ++ more)) ≡ Some w) [
      | true ↦ λ here. here
      | false ↦ λ later. name_kept t names more w later
    ] is

only_name : (w name : List ℕ) (t u : Target) → find_name w ((name, t) ∷ []) ≡ Some u
    → (w ≡ name) × (t ≡ u)
only_name w name t u is =
    elim (bytes_eq w name) as (λ b. bytes_eq w name ≡ b → cond b (Some t) None ≡ Some u
    → (w ≡ name) × (t ≡ u)) [
      | true ↦ λ same here. ((bytes_eq-Decides w name).0 same, cc)
      | false ↦ λ differ none. cc
    ] refl is

-- THE GROUP OF A DECLARATION

next_group : (s : DeclKind) (k : Next) (n i : ℕ) → target_of s k n ≡ target.Group i → i ≡ k.group
next_group sorts.EventCount k n i is = cc
next_group sorts.Sequencer k n i is = cc
next_group sorts.Cells k n i is = cc
next_group sorts.Buffer k n i is = cc
next_group sorts.Database k n i is = cc
next_group sorts.Semaphore k n i is = cc
next_group sorts.Both k n i is = cc

old_group : (k : Next) (t : Target) (i : ℕ) → IsOld k t → k.group ≤ i
    → same_target t (target.Group i) ≡ false
old_group k (target.Group j) i old le = ne_eqb j i (λ same. (omega (arith, old)))
old_group k _ i old le = refl

no_name_yet : (k : Next) (names : Named) (i : ℕ) → AreOld k names → k.group ≤ i
    → name_of (target.Group i) names ≡ None
no_name_yet k [] i old le = refl
no_name_yet k (e ∷ names) i old le =
    ap (λ b. cond b (Some e.0) (name_of (target.Group i) names)) (old_group k e.1 i old.0 le)
    ∙ no_name_yet k names i old.1 le

-- a word that is found as a group is the first name of that group
abbrev IsNamedOnce : Named → Type 0
IsNamedOnce names = (w : List ℕ) (i : ℕ) → find_name w names ≡ Some (target.Group i)
    → name_of (target.Group i) names ≡ Some w

new_named : (s : DeclKind) (k : Next) (n : ℕ) (name w : List ℕ) (i : ℕ) (names : Named)
    → AreOld k names
    → find_name w (named_as s name (target_of s k n)) ≡ Some (target.Group i)
    → name_of (target.Group i) (names ++ named_as s name (target_of s k n)) ≡ Some w
new_named s k n name w i names old is =
    elim (has_name s) as (λ b.
    find_name w (if b then (name, target_of s k n) ∷ [] else []) ≡ Some (target.Group i)
    → name_of (target.Group i) (names ++ (if b then (name, target_of s k n) ∷ [] else []))
    ≡ Some w) [
      | true ↦ λ there.
          (let o = only_name w name (target_of s k n) (target.Group i) there in
          let at : i ≡ k.group = next_group s k n i o.1 in
          let none : name_of (target.Group i) names ≡ None =
          no_name_yet k names i old (omega arith) in
          let itself : same_target (target_of s k n) (target.Group i) ≡ true =
          ap (λ (t : Target). same_target t (target.Group i)) o.1 ∙ eq-eqb i i refl in
          name_of-append_none (target.Group i) names ((name, target_of s k n) ∷ []) none
          ∙ ap (λ b. cond b (Some name) None) itself ∙ ap Some (sym o.0))
      | false ↦ λ none. cc
    ] is

once_more : (h : HeadingModel) (d : Declaration) → AreOld (next_ids h) h.names → IsNamedOnce h.names
    → IsNamedOnce (with_declaration h d).names
once_more h d old once = λ w i is.
    elim (find_cases w h.names (named_as d.sort d.name (target_of d.sort (next_ids h) d.number))
    (target.Group i) is) [
      | inl before ↦ name_kept (target.Group i) h.names _ w (once w i before)
      | inr new ↦ new_named d.sort (next_ids h) d.number d.name w i h.names old new
    ]

all_once : (h : HeadingModel) (ds : List Declaration) → AreDeclarable h ds
    → AreOld (next_ids h) h.names
    → IsNamedOnce h.names → IsNamedOnce (with_declarations h ds).names
all_once h [] may old once = once
all_once h (d ∷ ds) may old once =
    all_once (with_declaration h d) ds may.1 (old_after h d may.0.range old) (once_more h d old once)

no_group : (n : ℕ) (ws : List (List ℕ)) (w : List ℕ) (i : ℕ)
    → find_name w (number_names n ws) ≡ Some (target.Group i) → ⊥
no_group n [] w i is = cc
no_group n (v ∷ ws) w i is =
    elim (bytes_eq w v) as (λ b. cond b (Some (target.Worker n)) (find_name w (number_names (n + 1) ws))
    ≡ Some (target.Group i) → ⊥) [
      | true ↦ λ here. cc
      | false ↦ λ later. no_group (n + 1) ws w i later
    ] is

opened_once : (ws : List (List ℕ)) → IsNamedOnce (number_names 0 ws)
opened_once ws = λ w i is. absurd (no_group 0 ws w i is)

outlined_once : (h : HeadingModel) → HasHeaderTree h → IsNamedOnce h.names
outlined_once h has =
    let o : HeaderTree = has.outline in
    subst (λ (g : HeadingModel). IsNamedOnce g.names) has.declares
    (all_once (empty_heading o.version o.limit o.workers) o.declarations has.is.declarations
    (workers_old (next_ids (empty_heading o.version o.limit o.workers)) 0 o.workers)
    (opened_once o.workers))

-- a word that names a group is the word of that group
pub group_back : (h : HeadingModel) (w : List ℕ) (i : ℕ) → HasHeaderTree h
    → find_name w h.names ≡ Some (target.Group i) → group_word h i ≡ w
group_back h w i has is =
    ap (λ (o : Option (List ℕ)). unwrap_or o (codes "both")) (outlined_once h has w i is)
