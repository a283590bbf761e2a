-- The buffers of a header are shapes.
use Rattle.std.proofs.Common.{◌≡◌, ℕ, ◌+◌, ◌==◌, ◌||◌, nat_lt, List, [], ◌∷◌, ◌++◌, length, All, None, inl, inr, sym, subst, arith, ne_eqb}
use Rattle.std.specs.List.{AllByRecursion, cons_option}
use Rattle.std.proofs.lemmas.Bool.{or_parts, ltb-false, eqb-false}
use Rattle.std.proofs.lemmas.List.Elements.{All-from_recursion}
use Rattle.ec_count.specs.Tables.{Tables}
use Rattle.ec_count.proofs.shared.Disjoint.{roles_of}
use Rattle.ec_buffer.specs.Shapes as buffers
use Rattle.ec_heading.specs.declared.decl_kind.DeclKind.{DeclKind}
use Rattle.ec_heading.specs.declared.decl_kind.DeclKind.TheVariants as sorts
use Rattle.ec_heading.specs.declared.group.Group.{Group}
use Rattle.ec_heading.specs.Objects.{group_of_declaration}
use Rattle.ec_heading.specs.HeadingModel.{HeadingModel}
use Rattle.ec_heading.specs.HeaderTree.{Declaration, HeaderTree, AreDeclarable, objects_fault, empty_heading, with_declaration, with_declarations, heading_of_tree}
use Rattle.ec_heading.specs.HeadingInvariant.{IsHeading}
use Rattle.ec_script_theorems.proofs.Confining.{IsShaped}

buffer_shaped : (t : Tables) (n : ℕ) (first second : List ℕ) → buffers.buffer_fault t n first second ≡ None → buffers.IsShape (buffers.next_buffer t n)
buffer_shaped t n first second none =
    let p = roles_of t (buffers.lacks_room t n) first second (n == 0) none in
    let rooms = or_parts (nat_lt 32 (length t.events + 2) || nat_lt 32 (length t.takers + 2)) (nat_lt 256 (length t.cells + n)) p.0 in
    let few_cells = ltb-false 256 (length t.cells + n) rooms.1 in
    let some = eqb-false n 0 p.1 in
    record {
      counts = ne_eqb (length t.events) (length t.events + 1) (λ e. omega (arith, e));
      sequencers = ne_eqb (length t.takers) (length t.takers + 1) (λ e. omega (arith, e));
      some = omega (arith, some);
      room = few_cells;
    }

new_shaped : (s : DeclKind) (t : Tables) (n : ℕ) (first second : List ℕ) → objects_fault s t n first second ≡ None → AllByRecursion IsShaped (cons_option (group_of_declaration s t n) [])
new_shaped sorts.EventCount t n first second none = tt
new_shaped sorts.Sequencer t n first second none = tt
new_shaped sorts.Cells t n first second none = tt
new_shaped sorts.Buffer t n first second none = (buffer_shaped t n first second none, tt)
new_shaped sorts.Database t n first second none = (tt, tt)
new_shaped sorts.Semaphore t n first second none = (tt, tt)
new_shaped sorts.Both t n first second none = (tt, tt)

shaped_more : (gs ks : List Group) → AllByRecursion IsShaped gs → AllByRecursion IsShaped ks → AllByRecursion IsShaped (gs ++ ks)
shaped_more [] ks a b = b
shaped_more (g ∷ gs) ks a b = (a.0, shaped_more gs ks a.1 b)

all_shaped : (h : HeadingModel) (ds : List Declaration) → AllByRecursion IsShaped h.groups → AreDeclarable h ds → AllByRecursion IsShaped (with_declarations h ds).groups
all_shaped h [] shaped may = shaped
all_shaped h (d ∷ ds) shaped may =
    all_shaped (with_declaration h d) ds
    (shaped_more h.groups (cons_option (group_of_declaration d.sort h.setup d.number) []) shaped (new_shaped d.sort h.setup d.number d.first d.second may.0.taken))
    may.1

pub heading_shaped : (h : HeadingModel) → IsHeading h → All IsShaped h.groups
heading_shaped h (inl (is, within)) = subst (λ (g : HeadingModel). All IsShaped g.groups) (sym is) (All-from_recursion IsShaped [] tt)
heading_shaped h (inr has) =
    let o : HeaderTree = has.outline in
    subst (λ (g : HeadingModel). All IsShaped g.groups) has.declares
    (All-from_recursion IsShaped (heading_of_tree o).groups (all_shaped (empty_heading o.version o.limit o.workers) o.declarations tt has.is.declarations))
