-- The names and the words in a header that a syntax tree declares.
use Rattle.std.proofs.Common.{◌≡◌, ℕ, zero, suc, ◌+◌, ◌<◌, ◌≤◌, ◌==◌, ◌&&◌, List, [], ◌∷◌, ◌++◌, length, map, Bool, true, false, cond, if◌then◌else◌, Option, Some, None, refl, sym, ap, ◌∙◌, append_assoc, arith, slice_index_or, length-append, zero-add, replicate}
use Rattle.std.specs.Option.{unwrap_or}
use Rattle.std.specs.List.{range_with_len}
use Rattle.std.proofs.lemmas.List.{ext_get_or, length_push, length-replicate}
use Rattle.ec_count.specs.declared.setup.Rights.{Rights}
use Rattle.ec_count.specs.declared.setup.Access.{Access}
use Rattle.std.proofs.lemmas.List.FromFn.{length-map-range_with_len, get_or-map-range_with_len}
use Rattle.std.proofs.lemmas.Bool.Decides.{nat_tests}
use Rattle.ec_count.specs.Names.{name_of, same_target}
use Rattle.ec_count.specs.Targets.{targets_decide}
use Rattle.ec_count.specs.declared.target.Target.{Target}
use Rattle.ec_count.specs.declared.target.Target.TheVariants.{Worker, Event, Sequencer, Cells, Group}
use Rattle.ec_buffer.specs.Shapes.{next_buffer}
use Rattle.ec_database.specs.Shapes.{next_database}
use Rattle.ec_semaphore.specs.Shapes.{next_semaphore}
use Rattle.ec_heading.specs.declared.group.Group.TheVariants as groups
use Rattle.ec_heading.specs.declared.decl_kind.DeclKind.{DeclKind}
use Rattle.ec_heading.specs.declared.decl_kind.DeclKind.TheVariants as sorts
use Rattle.ec_heading.specs.HeadingModel.{HeadingModel}
use Rattle.ec_heading.specs.DeclKinds.{has_name, is_in_range}
use Rattle.ec_heading.specs.Objects.{Next, target_of}
use Rattle.ec_heading.specs.HeaderTree.{Declaration, next_ids, named_as, with_declaration, number_names}
use Rattle.ec_heading.specs.Spelling.{NameTable, target_name, list_words}
use Rattle.ec_heading.specs.Recalled.{names_of}
use Rattle.ec_heading.proofs.shared.TreeGrows.{NamesNoWorker, IsLater, grown_length, name_of-append_none, one_later}

-- what a name denotes has a lower number than those that come next
abbrev pub IsOld : Next → Target → Type 0
IsOld k (Event e) = e < k.event
IsOld k (Sequencer q) = q < k.sequencer
IsOld k (Cells x n) = x < k.cell
IsOld k (Group i) = i < k.group
IsOld k (Worker w) = Unit {0}

abbrev pub AreOld : Next → NameTable → Type 0
AreOld k [] = Unit {0}
AreOld k (e ∷ es) = IsOld k e.1 × AreOld k es

record IsAfter (k l : Next) : Type 0 where
  event : k.event ≤ l.event
  sequencer : k.sequencer ≤ l.sequencer
  cell : k.cell ≤ l.cell
  group : k.group ≤ l.group

later_after : (h l : HeadingModel) → IsLater h l → IsAfter (next_ids h) (next_ids l)
later_after h l i = record { event = i.tables.events; sequencer = i.tables.takers; cell = i.tables.cells; group = grown_length h.groups l.groups i.groups }

still_old : (k l : Next) (target : Target) → IsAfter k l → IsOld k target → IsOld l target
still_old k l (Worker w) g h = tt
still_old k l (Event e) g h = omega (arith, g.event)
still_old k l (Sequencer q) g h = omega (arith, g.sequencer)
still_old k l (Cells x n) g h = omega (arith, g.cell)
still_old k l (Group i) g h = omega (arith, g.group)

still_all_old : (k l : Next) (names : NameTable) → IsAfter k l → AreOld k names → AreOld l names
still_all_old k l [] g h = tt
still_all_old k l (e ∷ es) g h = (still_old k l e.1 g h.0, still_all_old k l es g h.1)

old-append : (k : Next) (xs ys : NameTable) → AreOld k xs → AreOld k ys → AreOld k (xs ++ ys)
old-append k [] ys h i = i
old-append k (x ∷ xs) ys h i = (h.0, old-append k xs ys h.1 i)

pub some_cells : (n : ℕ) → is_in_range sorts.Cells n ≡ true → 0 < n
some_cells n h = grind (arith, nat_tests)

-- a declaration's own target is declared with it
new_is_old : (s : DeclKind) (h : HeadingModel) (d : Declaration) → d.sort ≡ s → is_in_range s d.number ≡ true → IsOld (next_ids (with_declaration h (record d { sort = s }))) (target_of s (next_ids h) d.number)
new_is_old sorts.EventCount h d is range = let r : Rights = record { signal = d.first; observe = d.second; fixed = false } in omega (arith, length_push h.setup.events r)
new_is_old sorts.Sequencer h d is range = omega (arith, length_push h.setup.takers d.first)
new_is_old sorts.Cells h d is range =
    let a : Access = record { write = d.first; read = d.second } in
    omega (arith, length-append h.setup.cells (replicate d.number a), length-replicate d.number a, some_cells d.number range)
new_is_old sorts.Buffer h d is range = omega (arith, length_push h.groups (groups.Buffer (next_buffer h.setup d.number)))
new_is_old sorts.Database h d is range = omega (arith, length_push h.groups (groups.Database (next_database h.setup d.number)))
new_is_old sorts.Semaphore h d is range = omega (arith, length_push h.groups (groups.Semaphore (next_semaphore h.setup d.number)))
new_is_old sorts.Both h d is range = omega (arith, length_push h.groups (groups.Both (next_semaphore h.setup 1)))

named_old : (s : DeclKind) (k : Next) (name : List ℕ) (t : Target) → IsOld k t → AreOld k (named_as s name t)
named_old s k name t old = elim (has_name s) as (λ b. AreOld k (if b then (name, t) ∷ [] else [])) [ true ↦ (old, tt) | false ↦ tt ]

pub old_after : (h : HeadingModel) (d : Declaration) → is_in_range d.sort d.number ≡ true → AreOld (next_ids h) h.names → AreOld (next_ids (with_declaration h d)) (with_declaration h d).names
old_after h d range old =
    let t : Target = target_of d.sort (next_ids h) d.number in
    old-append (next_ids (with_declaration h d)) h.names (named_as d.sort d.name (target_of d.sort (next_ids h) d.number))
    (still_all_old (next_ids h) (next_ids (with_declaration h d)) h.names (later_after h (with_declaration h d) (one_later h d)) old)
    (named_old d.sort (next_ids (with_declaration h d)) d.name t (new_is_old d.sort h d refl range))

pub workers_old : (k : Next) (n : ℕ) (ws : List (List ℕ)) → AreOld k (number_names n ws)
workers_old k n [] = tt
workers_old k n (w ∷ ws) = (tt, workers_old k (n + 1) ws)

below_not : (i n : ℕ) → i < n → (i == n) ≡ false
below_not i n lt = grind (arith, nat_tests)

equal_is : (i n : ℕ) → i ≡ n → (i == n) ≡ true
equal_is i n e = grind (arith, nat_tests)

-- what comes next
abbrev IsComing : Next → Target → Type 0
IsComing k (Event e) = e ≡ k.event
IsComing k (Sequencer q) = q ≡ k.sequencer
IsComing k (Cells x n) = x ≡ k.cell
IsComing k (Group i) = i ≡ k.group
IsComing k (Worker w) = ⊥

comes : (s : DeclKind) (k : Next) (n : ℕ) → IsComing k (target_of s k n)
comes sorts.EventCount k n = refl
comes sorts.Sequencer k n = refl
comes sorts.Cells k n = refl
comes sorts.Buffer k n = refl
comes sorts.Database k n = refl
comes sorts.Semaphore k n = refl
comes sorts.Both k n = refl

-- is none of what was there
old_differs : (k : Next) (u t : Target) → IsOld k u → IsComing k t → same_target u t ≡ false
old_differs k (Event d) (Event e) h c = below_not d e (omega (arith, h, c))
old_differs k (Sequencer p) (Sequencer q) h c = below_not p q (omega (arith, h, c))
old_differs k (Cells x m) (Cells y n) h c = ap (λ (b : Bool). b && (m == n)) (below_not x y (omega (arith, h, c)))
old_differs k (Group i) (Group j) h c = below_not i j (omega (arith, h, c))
old_differs k u (Worker w) h c = absurd c
old_differs k _ _ h c = refl

not_same : (u : Target) (s : DeclKind) (k : Next) (n : ℕ) → IsOld k u → same_target u (target_of s k n) ≡ false
not_same u s k n h = old_differs k u (target_of s k n) h (comes s k n)

-- no name denotes yet what comes next
no_name_yet : (s : DeclKind) (k : Next) (n : ℕ) (names : NameTable) → AreOld k names → name_of (target_of s k n) names ≡ None
no_name_yet s k n [] h = refl
no_name_yet s k n (e ∷ es) h = ap (λ (b : Bool). cond b (Some e.0) (name_of (target_of s k n) es)) (not_same e.1 s k n h.0) ∙ no_name_yet s k n es h.1

pub same_itself : (t : Target) → same_target t t ≡ true
same_itself t = (targets_decide t t).1 refl

-- the name of a declaration, whatever was declared after it
pub name_found : (h : HeadingModel) (d : Declaration) (names more : NameTable) → has_name d.sort ≡ true → AreOld (next_ids h) h.names → names ≡ (with_declaration h d).names ++ more
    → target_name names (target_of d.sort (next_ids h) d.number) ≡ d.name
name_found h d names more has old e =
    let t = target_of d.sort (next_ids h) d.number in
    let one : named_as d.sort d.name t ≡ (d.name, t) ∷ [] = ap (λ (b : Bool). if b then (d.name, t) ∷ [] else []) has in
    ap (λ (r : NameTable). target_name r t) (e ∙ ap (λ (r : NameTable). (h.names ++ r) ++ more) one ∙ append_assoc h.names ((d.name, t) ∷ []) more)
    ∙ ap (λ (o : Option (List ℕ)). unwrap_or o []) (name_of-append_none t h.names ((d.name, t) ∷ more) (no_name_yet d.sort (next_ids h) d.number h.names old))
    ∙ ap (λ (b : Bool). unwrap_or (cond b (Some d.name) (name_of t more)) []) (same_itself t)

-- the workers' names
at_number : (n i k : ℕ) (ws : List (List ℕ)) (more : NameTable) → k ≡ n + i → NamesNoWorker more → target_name (number_names n ws ++ more) (Worker k) ≡ slice_index_or ws i []
at_number n i k [] more e h = ap (λ (o : Option (List ℕ)). unwrap_or o []) (h k)
at_number n zero k (w ∷ ws) more e h =
    ap (λ (b : Bool). unwrap_or (cond b (Some w) (name_of (Worker k) (number_names (n + 1) ws ++ more))) []) (equal_is n k (omega arith))
at_number n (suc i) k (w ∷ ws) more e h =
    ap (λ (b : Bool). unwrap_or (cond b (Some w) (name_of (Worker k) (number_names (n + 1) ws ++ more))) []) (below_not n k (omega arith))
    ∙ at_number (n + 1) i k ws more (omega arith) h

pub worker_found : (ws : List (List ℕ)) (names more : NameTable) (i : ℕ) → names ≡ number_names 0 ws ++ more → NamesNoWorker more → target_name names (Worker i) ≡ slice_index_or ws i []
worker_found ws names more i e h = ap (λ (r : NameTable). target_name r (Worker i)) e ∙ at_number 0 i i ws more (sym (zero-add i)) h

-- if each worker has the name at its index, a list of workers has the names at their indices
pub workers_found : (ws : List (List ℕ)) (names : NameTable) (ids : List ℕ) → ((i : ℕ) → target_name names (Worker i) ≡ slice_index_or ws i []) → names_of names ids ≡ list_words ws ids
workers_found ws names [] h = refl
workers_found ws names (i ∷ ids) h = let rest = workers_found ws names ids h in let first = h i in (cc)

-- the names at all indices of a list, in order, are the list
pub all_workers : (ws : List (List ℕ)) → list_words ws (range_with_len 0 (length ws)) ≡ ws
all_workers ws =
    let f : ℕ → List ℕ = λ i. slice_index_or ws i [] in
    ext_get_or [] (map f (range_with_len 0 (length ws))) ws (length-map-range_with_len f 0 (length ws))
    (λ i lt. get_or-map-range_with_len f 0 (length ws) i i [] (omega (arith, length-map-range_with_len f 0 (length ws))) (zero-add i))
