-- The blocks of cells of a header end within the bound.
use Rattle.std.proofs.Common.{◌≡◌, ℕ, ◌+◌, ◌<◌, ◌≤◌, List, [], ◌∷◌, ◌++◌, length, Bool, true, false, cond, Option, Some, None, option_and_then, sym, ap, subst, ◌∙◌, arith, inl, inr, bytes_eq, zero-le, IsSome, IfSome, ◌↔◌, lt-ltb, nat_lt}
use Rattle.std.proofs.lemmas.Bool.{ltb-false, or_parts, cond-true, true≢false}
use Rattle.ec_count.specs.Names.{find_name}
use Rattle.ec_count.specs.declared.target.Target.{Target}
use Rattle.ec_count.specs.declared.target.Target.TheVariants.{Worker, Event, Sequencer, Cells, Group}
use Rattle.ec_heading.specs.DeclKinds.{second_opener}
use Rattle.ec_heading.specs.HeadingModel.{HeadingModel}
use Rattle.ec_heading.specs.Objects.{objects_of, spelled_objects}
use Rattle.ec_heading.specs.HeaderTree.{Declaration, AreDeclarable, empty_heading, number_names, next_ids, with_declaration, with_declarations, objects_fault, fits_form}
use Rattle.ec_heading.specs.HeadingInvariant.{IsHeading}
use Rattle.ec_heading.specs.EntryWords.{block_of, cell_at, cell_of}
use Rattle.ec_heading.specs.declared.decl_kind.DeclKind.{DeclKind}
use Rattle.ec_heading.specs.declared.decl_kind.DeclKind.TheVariants as sorts
use Rattle.ec_heading.proofs.shared.Declarable.{has_room}
use Rattle.ec_heading.proofs.shared.Listed.{Named}

abbrev end_of : Target → ℕ
end_of (Cells first n) = first + n
end_of _ = 0

abbrev AreSmall : Named → Type 0
AreSmall [] = Unit {0}
AreSmall (e ∷ es) = (end_of e.1 ≤ 256) × AreSmall es

small_workers : (n : ℕ) (ws : List (List ℕ)) → AreSmall (number_names n ws)
small_workers n [] = tt
small_workers n (w ∷ ws) = (zero-le, small_workers (n + 1) ws)

small-append : (xs ys : Named) → AreSmall xs → AreSmall ys → AreSmall (xs ++ ys)
small-append [] ys h k = k
small-append (x ∷ xs) ys h k = (h.0, small-append xs ys h.1 k)

small_spelled : (name : List ℕ) (os : Named) → AreSmall os → AreSmall (spelled_objects name os)
small_spelled name [] h = tt
small_spelled name (o ∷ os) h = (h.0, small_spelled name os h.1)

objects_end : (s : DeclKind) (h : HeadingModel) (n : ℕ) (first second : List ℕ) → fits_form (second_opener s) second ≡ true → objects_fault s h.setup n first second ≡ None → AreSmall (objects_of s (next_ids h) n)
objects_end sorts.EventCount h n first second form taken = (zero-le, tt)
objects_end sorts.Sequencer h n first second form taken = (zero-le, tt)
objects_end sorts.Cells h n first second form taken = (ltb-false 256 (length h.setup.cells + n) (has_room sorts.Cells h.setup n first second form taken).room, tt)
objects_end sorts.Buffer h n first second form taken =
    let room = (has_room sorts.Buffer h.setup n first second form taken).room in
    let cells = (or_parts _ (nat_lt 256 (length h.setup.cells + n)) room).1 in
    (zero-le, (zero-le, (zero-le, (zero-le, (ltb-false 256 (length h.setup.cells + n) cells, tt)))))
objects_end sorts.Database h n first second form taken =
    let room = (has_room sorts.Database h.setup n first second form taken).room in
    let cells = (or_parts _ (nat_lt 256 (length h.setup.cells + n)) room).1 in
    (zero-le, (zero-le, (zero-le, (ltb-false 256 (length h.setup.cells + n) cells, tt))))
objects_end sorts.Semaphore h n first second form taken = (zero-le, (zero-le, (zero-le, tt)))
objects_end sorts.Both h n first second form taken = (zero-le, (zero-le, (zero-le, tt)))

small_all : (h : HeadingModel) (ds : List Declaration) → AreSmall h.words → AreDeclarable h ds → AreSmall (with_declarations h ds).words
small_all h [] small may = small
small_all h (d ∷ ds) small may =
    small_all (with_declaration h d) ds
    (small-append h.words (spelled_objects d.name (objects_of d.sort (next_ids h) d.number)) small (small_spelled d.name (objects_of d.sort (next_ids h) d.number) (objects_end d.sort h d.number d.first d.second may.0.form may.0.taken)))
    may.1

small_heading : (h : HeadingModel) → IsHeading h → AreSmall h.words
small_heading h (inl (is, within)) = subst (λ (g : HeadingModel). AreSmall g.words) (sym is) tt
small_heading h (inr has) =
    let o = has.outline in
    subst (λ (g : HeadingModel). AreSmall g.words) has.declares (small_all (empty_heading o.version o.limit o.workers) o.declarations (small_workers 0 o.workers) has.is.declarations)

end_found : (t : Target) (first n : ℕ) → end_of t ≤ 256 → block_of t ≡ Some (first, n) → first + n ≤ 256
end_found (Cells f m) first n small e =
    let a : f ≡ first = ap (λ (o : Option (ℕ × ℕ)). elim o as (λ p. ℕ) [ Some p ↦ p.0 | None ↦ 0 ]) e in
    let b : m ≡ n = ap (λ (o : Option (ℕ × ℕ)). elim o as (λ p. ℕ) [ Some p ↦ p.1 | None ↦ 0 ]) e in
    omega (arith, small)
end_found (Worker w) first n small e = (cc)
end_found (Event w) first n small e = (cc)
end_found (Sequencer w) first n small e = (cc)
end_found (Group w) first n small e = (cc)

small_found : (es : Named) (w : List ℕ) (first n : ℕ) → AreSmall es → option_and_then block_of (find_name w es) ≡ Some (first, n) → first + n ≤ 256
small_found [] w first n small e = (cc)
small_found (d ∷ es) w first n small e =
    let P : Bool → Type 0 = λ b. option_and_then block_of (cond b (Some d.1) (find_name w es)) ≡ Some (first, n) → first + n ≤ 256 in
    let go : P (bytes_eq w d.0) = elim (bytes_eq w d.0) as P [ true ↦ λ f. end_found d.1 first n small.0 f | false ↦ λ f. small_found es w first n small.1 f ] in
    go e

-- a block that a name denotes ends at cell 256 or before
pub block_ends : (h : HeadingModel) (w : List ℕ) (first n : ℕ) → IsHeading h → option_and_then block_of (find_name w h.words) ≡ Some (first, n) → first + n ≤ 256
block_ends h w first n is e = small_found h.words w first n (small_heading h is) e

-- an id that is made of a number below its bound
pub made : (r : Option ℕ) (x bound : ℕ) → IsSome r ↔ (x < bound) → IfSome r (λ y. y ≡ x) → x < bound → r ≡ Some x
made None x bound variant value small = absurd (true≢false (sym (variant.1 small)))
made (Some y) x bound variant value small = ap Some value

-- the cell with a number below the number of cells of its block
pub cell_found : (names : Named) (name : List ℕ) (i first n : ℕ) → option_and_then block_of (find_name name names) ≡ Some (first, n) → i < n → cell_of names name i ≡ Some (first + i)
cell_found names name i first n e lt = ap (option_and_then (cell_at i)) e ∙ cond-true _ _ _ (lt-ltb i n lt)
