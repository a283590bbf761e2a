-- The common semaphore of a header: it has initial value 1, and no object of another group.
use Rattle.std.proofs.Common.{◌≡◌, inl, inr, ℕ, suc, ◌==◌, false, List, [], ◌∷◌, ◌++◌, Some, refl, sym, ap, ◌∙◌, subst, arith}
use Rattle.std.specs.List.{AllByRecursion, Contains, cons_option}
use Rattle.std.proofs.lemmas.Bool.{eq-eqb, false_from_ne_true}
use Rattle.std.proofs.lemmas.Option.{same_Some}
use Rattle.ec_count.specs.Tables.{Tables}
use Rattle.ec_semaphore.specs.Shapes.{Semaphore}
use Rattle.ec_heading.specs.declared.group.Group.{Group}
use Rattle.ec_heading.specs.declared.group.Group.TheVariants as groups
use Rattle.ec_heading.specs.declared.decl_kind.DeclKind.{DeclKind}
use Rattle.ec_heading.specs.declared.decl_kind.DeclKind.TheVariants as sorts
use Rattle.ec_heading.specs.Objects.{group_of_declaration}
use Rattle.ec_heading.specs.HeadingModel.{HeadingModel}
use Rattle.ec_heading.specs.HeaderTree.{Declaration, HeaderTree, empty_heading, with_declaration, with_declarations}
use Rattle.ec_heading.specs.HeadingInvariant.{IsHeading}
use Rattle.ec_script.specs.declared.object.Object.TheVariants.{Event}
use Rattle.ec_heading.specs.Groups.{both_of}
use Rattle.ec_script.specs.Confined.{AreApart}
use Rattle.ec_script.proofs.Apart.{KeepApart, none_apart, declared_apart}

-- ITS INITIAL VALUE

abbrev StartsAtOne : Group → Type 0
StartsAtOne (groups.Both s) = s.initial ≡ 1
StartsAtOne _ = Unit {0}

new_starts : (s : DeclKind) (t : Tables) (n : ℕ) → AllByRecursion StartsAtOne (cons_option (group_of_declaration s t n) [])
new_starts sorts.EventCount t n = tt
new_starts sorts.Sequencer t n = tt
new_starts sorts.Cells t n = tt
new_starts sorts.Buffer t n = (tt, tt)
new_starts sorts.Database t n = (tt, tt)
new_starts sorts.Semaphore t n = (tt, tt)
new_starts sorts.Both t n = (refl, tt)

starts_more : (gs ks : List Group) → AllByRecursion StartsAtOne gs → AllByRecursion StartsAtOne ks → AllByRecursion StartsAtOne (gs ++ ks)
starts_more [] ks a b = b
starts_more (g ∷ gs) ks a b = (a.0, starts_more gs ks a.1 b)

all_start : (h : HeadingModel) (ds : List Declaration) → AllByRecursion StartsAtOne h.groups → AllByRecursion StartsAtOne (with_declarations h ds).groups
all_start h [] start = start
all_start h (d ∷ ds) start =
    all_start (with_declaration h d) ds (starts_more h.groups (cons_option (group_of_declaration d.sort h.setup d.number) []) start (new_starts d.sort h.setup d.number))

heading_starts : (h : HeadingModel) → IsHeading h → AllByRecursion StartsAtOne h.groups
heading_starts h (inl (is, within)) = subst (λ (g : HeadingModel). AllByRecursion StartsAtOne g.groups) (sym is) tt
heading_starts h (inr has) =
    let o : HeaderTree = has.outline in
    subst (λ (g : HeadingModel). AllByRecursion StartsAtOne g.groups) has.declares (all_start (empty_heading o.version o.limit o.workers) o.declarations tt)

both_starts : (gs : List Group) (s : Semaphore) → AllByRecursion StartsAtOne gs → both_of gs ≡ Some s → s.initial ≡ 1
both_starts [] s start is = cc
both_starts (groups.Buffer b ∷ gs) s start is = both_starts gs s start.1 is
both_starts (groups.Database d ∷ gs) s start is = both_starts gs s start.1 is
both_starts (groups.Semaphore u ∷ gs) s start is = both_starts gs s start.1 is
both_starts (groups.Both u ∷ gs) s start is = ap (λ (x : Semaphore). x.initial) (sym (same_Some u s is)) ∙ start.0

pub common_starts : (h : HeadingModel) (s : Semaphore) → IsHeading h → both_of h.groups ≡ Some s → s.initial ≡ 1
common_starts h s is both = both_starts h.groups s (heading_starts h is) both

-- ITS OBJECTS

all_apart : (h : HeadingModel) (ds : List Declaration) → KeepApart h.setup h.groups → KeepApart (with_declarations h ds).setup (with_declarations h ds).groups
all_apart h [] keep = keep
all_apart h (d ∷ ds) keep = all_apart (with_declaration h d) ds (declared_apart d.sort h.setup d.number d.first d.second h.groups keep)

heading_apart : (h : HeadingModel) → IsHeading h → AreApart h.groups
heading_apart h (inl (is, within)) = subst (λ (g : HeadingModel). AreApart g.groups) (sym is) (none_apart h.setup).apart
heading_apart h (inr has) =
    let o : HeaderTree = has.outline in
    subst (λ (g : HeadingModel). AreApart g.groups) has.declares (all_apart (empty_heading o.version o.limit o.workers) o.declarations (none_apart (empty_heading o.version o.limit o.workers).setup)).apart

later_there : (g k : Group) (gs : List Group) → Contains gs k → Contains (g ∷ gs) k
later_there g k gs c = (suc c.0, omega (arith, c.1), c.2)

pub both_there : (gs : List Group) (s : Semaphore) → both_of gs ≡ Some s → Contains gs (groups.Both s)
both_there [] s is = cc
both_there (groups.Buffer b ∷ gs) s is = later_there (groups.Buffer b) (groups.Both s) gs (both_there gs s is)
both_there (groups.Database d ∷ gs) s is = later_there (groups.Database d) (groups.Both s) gs (both_there gs s is)
both_there (groups.Semaphore u ∷ gs) s is = later_there (groups.Semaphore u) (groups.Both s) gs (both_there gs s is)
both_there (groups.Both u ∷ gs) s is = (0, omega arith, ap groups.Both (same_Some u s is))

-- its eventcount is not that of a declared semaphore
pub common_counts : (h : HeadingModel) (common s : Semaphore) → IsHeading h → both_of h.groups ≡ Some common → Contains h.groups (groups.Semaphore s) → (common.count == s.count) ≡ false
common_counts h common s is both there =
    false_from_ne_true (common.count == s.count) (λ same.
    (let e : groups.Both common ≡ groups.Semaphore s =
    heading_apart h is (Event s.count) (groups.Both common) (groups.Semaphore s) (both_there h.groups common both) there same (eq-eqb s.count s.count refl) in cc))
