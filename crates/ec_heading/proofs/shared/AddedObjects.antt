-- What the objects of a declaration are, kind by kind: they come after those before, are disjoint,
-- are all that the tables gain, and preserve what is true of the tables.
use Rattle.std.proofs.Common.{◌≡◌, ◌≢◌, ℕ, ◌+◌, ◌<◌, ◌≤◌, List, [], ◌∷◌, ◌++◌, length, Bool, true, false, eqb, ltb, ◌||◌, None, Some, refl, sym, ap, subst, arith, nat_lt, nat_le, inl, inr, ◌⊎◌, replicate, length-append, zero, suc, zero-add, slice_get, ◌∙◌, ne_eqb}
use Rattle.std.specs.List.{AllByRecursion, list_any}
use Rattle.std.proofs.lemmas.Bool.{true≢false, and_from, and_right, or_parts, or_from, or_left, ltb-true, lt-ltb, le-ltb, leb-true, le-leb, ltb-false, cases_lt}
use Rattle.std.proofs.lemmas.List.{length-replicate}
use Rattle.ec_count.specs.Names.{same_target}
use Rattle.ec_count.specs.Targets.{targets_decide}
use Rattle.ec_count.specs.Tables.{Tables, KeepsTables, with_rights, with_event, with_fixed_event, with_cells}
use Rattle.ec_count.specs.Declares.{with_sequencer}
use Rattle.ec_count.specs.Members.{is_faulty, is_faulty_pair, has_repeat}
use Rattle.ec_count.specs.declared.setup.Rights.{Rights}
use Rattle.ec_count.specs.declared.target.Target.{Target}
use Rattle.ec_count.specs.declared.target.Target.TheVariants.{Worker, Event, Sequencer, Cells, Group}
use Rattle.ec_count.proofs.shared.Declared.{more_cells}
use Rattle.ec_count.proofs.shared.Disjoint.{joined_sound, roles_of}
use Rattle.ec_count.proofs.shared.Keeping.{still_there}
use Rattle.ec_buffer.specs.Shapes.{DeclaresBuffer, buffer_fault, lacks_room, next_buffer, with_buffer}
use Rattle.ec_database.specs.Shapes as databases
use Rattle.ec_database.specs.Shapes.{DeclaresDatabase, database_fault, next_database, with_database}
use Rattle.ec_semaphore.specs.Shapes.{DeclaresSemaphore, next_semaphore, with_semaphore}
use Rattle.ec_heading.specs.HeadingModel.{HeadingModel}
use Rattle.ec_heading.specs.Objects.{objects_of, group_of_declaration}
use Rattle.ec_heading.specs.HeaderTree.{next_ids, with_objects}
use Rattle.ec_heading.specs.declared.decl_kind.DeclKind.{DeclKind}
use Rattle.ec_heading.specs.declared.decl_kind.DeclKind.TheVariants as sorts
use Rattle.ec_heading.specs.Spelling.{cell_in}
use Rattle.ec_heading.specs.EntryWords.{NameTable}
use Rattle.ec_heading.proofs.shared.Declarable.{HasRoom}
use Rattle.ec_heading.proofs.shared.Listed.{known_below}
use Rattle.ec_heading.proofs.shared.TreeFound.{found_at}
use Rattle.ec_heading.proofs.shared.TreeGrows.{TablesGrow}
use Rattle.ec_heading.proofs.shared.ReadNames.{is_shared, AreApart, HasName, is_celled}

-- TARGETS WITHIN THE TABLES

-- whether a target is within the tables and groups of a header
abbrev pub is_below : HeadingModel → Target → Bool
is_below h (Worker w) = nat_lt w h.setup.workers
is_below h (Event e) = nat_lt e (length h.setup.events)
is_below h (Sequencer q) = nat_lt q (length h.setup.takers)
is_below h (Cells x n) = nat_le (x + n) (length h.setup.cells)
is_below h (Group i) = nat_lt i (length h.groups)

-- whether a target is after the ends of the tables and groups of a header
abbrev pub is_beyond : HeadingModel → Target → Bool
is_beyond h (Worker w) = false
is_beyond h (Event e) = nat_le (length h.setup.events) e
is_beyond h (Sequencer q) = nat_le (length h.setup.takers) q
is_beyond h (Cells x n) = nat_le (length h.setup.cells) x
is_beyond h (Group i) = nat_le (length h.groups) i

-- a target within is disjoint from one after the ends
pub beyond_apart : (h : HeadingModel) (x y : Target) → is_below h x ≡ true → is_beyond h y ≡ true → is_shared x y ≡ false
beyond_apart h (Event d) (Event e) b a = (let low = ltb-true _ _ b in let high = leb-true _ _ a in ne_eqb d e (λ same. omega arith))
beyond_apart h (Sequencer p) (Sequencer q) b a = (let low = ltb-true _ _ b in let high = leb-true _ _ a in ne_eqb p q (λ same. omega arith))
beyond_apart h (Cells x m) (Cells y n) b a = (let low = leb-true _ _ b in let high = leb-true _ _ a in and_right (nat_lt x (y + n)) (nat_lt y (x + m)) (le-ltb _ _ (omega arith)))
beyond_apart h (Group i) (Group j) b a = (let low = ltb-true _ _ b in let high = leb-true _ _ a in ne_eqb i j (λ same. omega arith))
beyond_apart h x (Worker w) b a = absurd (true≢false (sym a))
beyond_apart h _ _ b a = refl

itself_beyond : (n : ℕ) → nat_le n n ≡ true
itself_beyond n = le-leb n n (omega arith)

next_beyond : (n : ℕ) → nat_le n (n + 1) ≡ true
next_beyond n = le-leb n (n + 1) (omega arith)

pub objects_beyond : (s : DeclKind) (h : HeadingModel) (n : ℕ) → AllByRecursion (λ (o : List ℕ × Target). is_beyond h o.1 ≡ true) (objects_of s (next_ids h) n)
objects_beyond sorts.EventCount h n = (itself_beyond (length h.setup.events), tt)
objects_beyond sorts.Sequencer h n = (itself_beyond (length h.setup.takers), tt)
objects_beyond sorts.Cells h n = (itself_beyond (length h.setup.cells), tt)
objects_beyond sorts.Buffer h n =
    (itself_beyond (length h.setup.events), (next_beyond (length h.setup.events), (itself_beyond (length h.setup.takers), (next_beyond (length h.setup.takers), (itself_beyond (length h.setup.cells), tt)))))
objects_beyond sorts.Database h n =
    (itself_beyond (length h.setup.events), (next_beyond (length h.setup.events), (itself_beyond (length h.setup.takers), (itself_beyond (length h.setup.cells), tt))))
objects_beyond sorts.Semaphore h n = (itself_beyond (length h.setup.events), (itself_beyond (length h.setup.takers), (itself_beyond (length h.groups), tt)))
objects_beyond sorts.Both h n = (itself_beyond (length h.setup.events), (itself_beyond (length h.setup.takers), (itself_beyond (length h.groups), tt)))

other_number : (n : ℕ) → eqb n (n + 1) ≡ false
other_number n = ne_eqb n (n + 1) (λ e. omega arith)

-- the objects of a declaration are disjoint
pub objects_apart : (s : DeclKind) (h : HeadingModel) (n : ℕ)
    → AreApart (objects_of s (next_ids h) n)
objects_apart sorts.EventCount h n = (tt, tt)
objects_apart sorts.Sequencer h n = (tt, tt)
objects_apart sorts.Cells h n = (tt, tt)
objects_apart sorts.Buffer h n =
    ((other_number (length h.setup.events), (refl, (refl, (refl, tt)))), ((refl, (refl, (refl, tt))), ((other_number (length h.setup.takers), (refl, tt)), ((refl, tt), (tt, tt)))))
objects_apart sorts.Database h n =
    ((other_number (length h.setup.events), (refl, (refl, tt))), ((refl, (refl, tt)), ((refl, tt), (tt, tt))))
objects_apart sorts.Semaphore h n = ((refl, (refl, tt)), ((refl, tt), (tt, tt)))
objects_apart sorts.Both h n = ((refl, (refl, tt)), ((refl, tt), (tt, tt)))

pub below_grows : (h l : HeadingModel) (x : Target) → TablesGrow h.setup l.setup → length h.groups ≤ length l.groups → is_below h x ≡ true → is_below l x ≡ true
below_grows h l (Worker w) g more b = ap (nat_lt w) g.workers ∙ b
below_grows h l (Event e) g more b = (let low = ltb-true _ _ b in lt-ltb _ _ (omega (arith, g.events)))
below_grows h l (Sequencer q) g more b = (let low = ltb-true _ _ b in lt-ltb _ _ (omega (arith, g.takers)))
below_grows h l (Cells x n) g more b = (let low = leb-true _ _ b in le-leb _ _ (omega (arith, g.cells)))
below_grows h l (Group i) g more b = (let low = ltb-true _ _ b in lt-ltb _ _ (omega arith))

-- WHAT THE TABLES HAVE AFTER A DECLARATION, KIND BY KIND

pub counted : {X : Type 0} (xs : List X) (x : X) → length (xs ++ x ∷ []) ≡ length xs + 1
counted xs x = length-append xs (x ∷ [])

pub counted_twice : {X : Type 0} (xs : List X) (x y : X) → length ((xs ++ x ∷ []) ++ y ∷ []) ≡ length xs + 2
counted_twice xs x y = omega (arith, length-append (xs ++ x ∷ []) (y ∷ []), length-append xs (x ∷ []))

pub counted_cells : {X : Type 0} (xs : List X) (n : ℕ) (x : X) → length (xs ++ replicate n x) ≡ length xs + n
counted_cells xs n x = omega (arith, length-append xs (replicate n x), length-replicate n x)

-- the objects of a declaration are all that the tables gain
pub record Covers (h : HeadingModel) (u : Tables) (os : NameTable) : Type 0 where
  pub events : (e : ℕ) → e < length u.events → (e < length h.setup.events) ⊎ HasName os (Event e)
  pub sequencers : (q : ℕ) → q < length u.takers → (q < length h.setup.takers) ⊎ HasName os (Sequencer q)
  pub cells : (x : ℕ) → x < length u.cells → (x < length h.setup.cells) ⊎ (is_celled x os ≡ true)

-- a number of one or two more
one_more : (n k : ℕ) (P : ℕ → Type 0) → P n → k < n + 1 → (k < n) ⊎ P k
one_more n k P new lt = elim (cases_lt k n) [
  | inl below ↦ inl below
  | inr above ↦ inr (subst P (let e : n ≡ k = omega arith in e) new)
]

two_more : (n k : ℕ) (P : ℕ → Type 0) → P n → P (n + 1) → k < n + 2 → (k < n) ⊎ P k
two_more n k P new next lt = elim (cases_lt k n) [
  | inl below ↦ inl below
  | inr above ↦ elim (cases_lt k (n + 1)) [
    | inl first ↦ inr (subst P (let e : n ≡ k = omega arith in e) new)
    | inr second ↦ inr (subst P (let e : n + 1 ≡ k = omega arith in e) next)
  ]
]

cells_more : (first n x : ℕ) → x < first + n → (x < first) ⊎ (cell_in x (Cells first n) ≡ true)
cells_more first n x lt = elim (cases_lt x first) [
  | inl below ↦ inl below
  | inr above ↦ inr (and_from _ _ (le-leb _ _ above) (lt-ltb _ _ lt))
]

pub name_first : (x : List ℕ × Target) (xs : NameTable) (t : Target) → same_target x.1 t ≡ true → HasName (x ∷ xs) t
name_first x xs t q = record { word = x.0; is = rw q refl }

pub name_next : (x : List ℕ × Target) (xs : NameTable) (t : Target) → same_target x.1 t ≡ false → HasName xs t → HasName (x ∷ xs) t
name_next x xs t q h = record { word = h.word; is = rw q h.is }

pub name_right : (names more : NameTable) (t : Target) → HasName more t → HasName (names ++ more) t
name_right [] more t h = h
name_right (x ∷ xs) more t h =
    elim (same_target x.1 t) as (λ b. same_target x.1 t ≡ b → HasName ((x ∷ xs) ++ more) t) [
      | true ↦ λ q. name_first x (xs ++ more) t q
      | false ↦ λ q. name_next x (xs ++ more) t q (name_right xs more t h)
    ] refl

names_itself : (w : List ℕ) (t : Target) (rest : NameTable) → HasName ((w, t) ∷ rest) t
names_itself w t rest = name_first (w, t) rest t ((targets_decide t t).1 refl)

names_later : (e : List ℕ × Target) (rest : NameTable) (t : Target) → HasName rest t → HasName (e ∷ rest) t
names_later e rest t h = name_right (e ∷ []) rest t h

block_more : (first n x : ℕ) → x < first + n → (x < first) ⊎ ((cell_in x (Cells first n) || false) ≡ true)
block_more first n x lt = elim (cells_more first n x lt) [ inl below ↦ inl below | inr inside ↦ inr (or_left (cell_in x (Cells first n)) false inside) ]

users_cover : (h : HeadingModel) (ws : List ℕ) → Covers h (with_semaphore h.setup ws) (objects_of sorts.Semaphore (next_ids h) 0)
users_cover h ws = record {
  events = λ e lt. one_more (length h.setup.events) e (λ k. HasName (objects_of sorts.Semaphore (next_ids h) 0) (Event k)) (names_itself _ (Event (length h.setup.events)) _)
      (omega (arith, counted h.setup.events (record { signal = ws; observe = ws; fixed = true })));
  sequencers = λ q lt. one_more (length h.setup.takers) q (λ k. HasName (objects_of sorts.Semaphore (next_ids h) 0) (Sequencer k))
      (names_later _ _ _ (names_itself _ (Sequencer (length h.setup.takers)) _))
      (omega (arith, counted h.setup.takers ws));
  cells = λ x lt. inl lt;
}

pub covers : (s : DeclKind) (h : HeadingModel) (n : ℕ) (ws vs : List ℕ) → Covers h (with_objects s h.setup n ws vs) (objects_of s (next_ids h) n)
covers sorts.EventCount h n ws vs = record {
  events = λ e lt. one_more (length h.setup.events) e (λ k. HasName (objects_of sorts.EventCount (next_ids h) n) (Event k)) (names_itself [] (Event (length h.setup.events)) [])
      (omega (arith, counted h.setup.events (record { signal = ws; observe = vs; fixed = false })));
  sequencers = λ q lt. inl lt;
  cells = λ x lt. inl lt;
}
covers sorts.Sequencer h n ws vs = record {
  events = λ e lt. inl lt;
  sequencers = λ q lt. one_more (length h.setup.takers) q (λ k. HasName (objects_of sorts.Sequencer (next_ids h) n) (Sequencer k)) (names_itself [] (Sequencer (length h.setup.takers)) [])
      (omega (arith, counted h.setup.takers ws));
  cells = λ x lt. inl lt;
}
covers sorts.Cells h n ws vs = record {
  events = λ e lt. inl lt;
  sequencers = λ q lt. inl lt;
  cells = λ x lt. block_more (length h.setup.cells) n x (omega (arith, counted_cells h.setup.cells n (record { write = ws; read = vs })));
}
covers sorts.Buffer h n ws vs = record {
  events = λ e lt. two_more (length h.setup.events) e (λ k. HasName (objects_of sorts.Buffer (next_ids h) n) (Event k))
      (names_itself _ (Event (length h.setup.events)) _)
      (names_later _ _ (Event (length h.setup.events + 1)) (names_itself _ (Event (length h.setup.events + 1)) _))
      (omega (arith, counted_twice h.setup.events (record { signal = ws; observe = ws ++ vs; fixed = true }) (record { signal = vs; observe = ws ++ vs; fixed = true })));
  sequencers = λ q lt. two_more (length h.setup.takers) q (λ k. HasName (objects_of sorts.Buffer (next_ids h) n) (Sequencer k))
      (names_later _ _ _ (names_later _ _ _ (names_itself _ (Sequencer (length h.setup.takers)) _)))
      (names_later _ _ _ (names_later _ _ _ (names_later _ _ _ (names_itself _ (Sequencer (length h.setup.takers + 1)) _))))
      (omega (arith, counted_twice h.setup.takers ws vs));
  cells = λ x lt. block_more (length h.setup.cells) n x (omega (arith, counted_cells h.setup.cells n (record { write = ws; read = vs })));
}
covers sorts.Database h n ws vs = record {
  events = λ e lt. two_more (length h.setup.events) e (λ k. HasName (objects_of sorts.Database (next_ids h) n) (Event k))
      (names_itself _ (Event (length h.setup.events)) _)
      (names_later _ _ (Event (length h.setup.events + 1)) (names_itself _ (Event (length h.setup.events + 1)) _))
      (omega (arith, counted_twice h.setup.events (record { signal = ws; observe = vs; fixed = true }) (record { signal = ws; observe = ws ++ vs; fixed = true })));
  sequencers = λ q lt. one_more (length h.setup.takers) q (λ k. HasName (objects_of sorts.Database (next_ids h) n) (Sequencer k))
      (names_later _ _ _ (names_later _ _ _ (names_itself _ (Sequencer (length h.setup.takers)) _)))
      (omega (arith, counted h.setup.takers ws));
  cells = λ x lt. block_more (length h.setup.cells) n x (omega (arith, counted_cells h.setup.cells n (record { write = ws; read = vs })));
}
covers sorts.Semaphore h n ws vs = users_cover h ws
covers sorts.Both h n ws vs = users_cover h ws

-- and each of them is in the tables then
cells_there : (h l : HeadingModel) (n : ℕ) (ws vs : List ℕ) → l.setup.cells ≡ h.setup.cells ++ replicate n (record { write = ws; read = vs }) → is_below l (Cells (length h.setup.cells) n) ≡ true
cells_there h l n ws vs is = (let c : length l.setup.cells ≡ length h.setup.cells + n = ap length is ∙ counted_cells h.setup.cells n (record { write = ws; read = vs }) in le-leb (length h.setup.cells + n) (length l.setup.cells) (omega arith))

there : (n m k : ℕ) → k ≡ m → n < m → nat_lt n k ≡ true
there n m k e lt = lt-ltb n k (omega arith)

users_below : (h l : HeadingModel) (ws : List ℕ) → l.setup ≡ with_semaphore h.setup ws → length h.groups < length l.groups → AllByRecursion (λ (o : List ℕ × Target). is_below l o.1 ≡ true) (objects_of sorts.Semaphore (next_ids h) 0)
users_below h l ws is more =
    let e : length l.setup.events ≡ length h.setup.events + 1 = ap (λ (t : Tables). length t.events) is ∙ counted h.setup.events (record { signal = ws; observe = ws; fixed = true }) in
    let q : length l.setup.takers ≡ length h.setup.takers + 1 = ap (λ (t : Tables). length t.takers) is ∙ counted h.setup.takers ws in
    (there (length h.setup.events) _ _ e (omega arith), (there (length h.setup.takers) _ _ q (omega arith), (lt-ltb (length h.groups) (length l.groups) more, tt)))

pub objects_below : (s : DeclKind) (h l : HeadingModel) (n : ℕ) (ws vs : List ℕ) → l.setup ≡ with_objects s h.setup n ws vs → (group_of_declaration s h.setup n ≢ None → length h.groups < length l.groups) → AllByRecursion (λ (o : List ℕ × Target). is_below l o.1 ≡ true) (objects_of s (next_ids h) n)
objects_below sorts.EventCount h l n ws vs is more = (there (length h.setup.events) (length h.setup.events + 1) (length l.setup.events) (ap (λ (t : Tables). length t.events) is ∙ counted h.setup.events (record { signal = ws; observe = vs; fixed = false })) (omega arith), tt)
objects_below sorts.Sequencer h l n ws vs is more = (there (length h.setup.takers) (length h.setup.takers + 1) (length l.setup.takers) (ap (λ (t : Tables). length t.takers) is ∙ counted h.setup.takers ws) (omega arith), tt)
objects_below sorts.Cells h l n ws vs is more = (cells_there h l n ws vs (ap (λ (t : Tables). t.cells) is), tt)
objects_below sorts.Buffer h l n ws vs is more =
    let e : length l.setup.events ≡ length h.setup.events + 2 = ap (λ (t : Tables). length t.events) is ∙ counted_twice h.setup.events (record { signal = ws; observe = ws ++ vs; fixed = true }) (record { signal = vs; observe = ws ++ vs; fixed = true }) in
    let q : length l.setup.takers ≡ length h.setup.takers + 2 = ap (λ (t : Tables). length t.takers) is ∙ counted_twice h.setup.takers ws vs in (
      there (length h.setup.events) _ _ e (omega arith),
      (
        there (length h.setup.events + 1) _ _ e (omega arith),
        (
          there (length h.setup.takers) _ _ q (omega arith),
          (there (length h.setup.takers + 1) _ _ q (omega arith), (cells_there h l n ws vs (ap (λ (t : Tables). t.cells) is), tt)),
        ),
      ),
    )
objects_below sorts.Database h l n ws vs is more =
    let e : length l.setup.events ≡ length h.setup.events + 2 = ap (λ (t : Tables). length t.events) is ∙ counted_twice h.setup.events (record { signal = ws; observe = vs; fixed = true }) (record { signal = ws; observe = ws ++ vs; fixed = true }) in
    let q : length l.setup.takers ≡ length h.setup.takers + 1 = ap (λ (t : Tables). length t.takers) is ∙ counted h.setup.takers ws in (
      there (length h.setup.events) _ _ e (omega arith),
      (
        there (length h.setup.events + 1) _ _ e (omega arith),
        (there (length h.setup.takers) _ _ q (omega arith), (cells_there h l n ws vs (ap (λ (t : Tables). t.cells) is), tt)),
      ),
    )
objects_below sorts.Semaphore h l n ws vs is more = users_below h l ws is (more (λ e. (cc)))
objects_below sorts.Both h l n ws vs is more = users_below h l ws is (more (λ e. (cc)))

-- WHAT IS TRUE OF THE TABLES

abbrev pub Kept : Tables → Type 0
Kept t = KeepsTables t.workers t.events t.takers t.cells

-- a list of declared workers, each once
pub record IsList (t : Tables) (ws : List ℕ) : Type 0 where
  pub sound : is_faulty t.workers ws ≡ false
  pub some : eqb (length ws) 0 ≡ false

any_push : {X : Type 0} (p : X → Bool) (xs : List X) (y : X) → list_any p xs ≡ false → p y ≡ false → list_any p (xs ++ y ∷ []) ≡ false
any_push p [] y h k = or_from (p y) false k refl
any_push p (x ∷ xs) y h k = let q = or_parts (p x) (list_any p xs) h in or_from (p x) (list_any p (xs ++ y ∷ [])) q.0 (any_push p xs y q.1 k)

kept_rights : (t : Tables) (row : Rights) → IsList t row.signal → is_faulty t.workers row.observe ≡ false → Kept t → Kept (with_rights t row)
kept_rights t row l others k = record {
  few_workers = k.few_workers;
  rights_fit = any_push (λ (r : Rights). is_faulty_pair t.workers r.signal r.observe) t.events row k.rights_fit (or_from _ _ (or_from _ _ l.sound others) l.some);
  takers_fit = k.takers_fit;
  access_fits = k.access_fits;
}

kept_event : (t : Tables) (ws vs : List ℕ) → IsList t ws → is_faulty t.workers vs ≡ false → Kept t → Kept (with_event t ws vs)
kept_event t ws vs l others k = kept_rights t (record { signal = ws; observe = vs; fixed = false }) l others k

kept_fixed_event : (t : Tables) (ws vs : List ℕ) → IsList t ws → is_faulty t.workers vs ≡ false → Kept t → Kept (with_fixed_event t ws vs)
kept_fixed_event t ws vs l others k = kept_rights t (record { signal = ws; observe = vs; fixed = true }) l others k

kept_sequencer : (t : Tables) (ws : List ℕ) → IsList t ws → Kept t → Kept (with_sequencer t ws)
kept_sequencer t ws l k = record {
  few_workers = k.few_workers;
  rights_fit = k.rights_fit;
  takers_fit = any_push (λ (vs : List ℕ). is_faulty t.workers vs || eqb (length vs) 0) t.takers ws k.takers_fit (or_from _ _ l.sound l.some);
  access_fits = k.access_fits;
}

kept_cells : (t : Tables) (n : ℕ) (ws vs : List ℕ) → IsList t ws → is_faulty t.workers vs ≡ false → Kept t → Kept (with_cells t n ws vs)
kept_cells t n ws vs l others k = record {
  few_workers = k.few_workers;
  rights_fit = k.rights_fit;
  takers_fit = k.takers_fit;
  access_fits = more_cells t.workers n t.cells (record { write = ws; read = vs }) k.access_fits (l.sound, others, l.some);
}

sound_list : (t : Tables) (ws : List ℕ) → list_any (λ w. nat_le t.workers w) ws ≡ false → has_repeat ws ≡ false → ltb 16 (length ws) ≡ false → is_faulty t.workers ws ≡ false
sound_list t ws known once few = or_from (list_any (λ w. nat_le t.workers w) ws || has_repeat ws) (ltb 16 (length ws)) (or_from (list_any (λ w. nat_le t.workers w) ws) (has_repeat ws) known once) few

first_list : (s : DeclKind) (t : Tables) (n : ℕ) (ws vs : List ℕ) → HasRoom s t n ws vs
    → IsList t ws
first_list s t n ws vs r = record { sound = sound_list t ws (known_below t.workers ws r.known_first) r.once_first r.few_first; some = r.some }

second_sound : (s : DeclKind) (t : Tables) (n : ℕ) (ws vs : List ℕ) → HasRoom s t n ws vs → is_faulty t.workers vs ≡ false
second_sound s t n ws vs r = sound_list t vs (known_below t.workers vs r.known_second) r.once_second r.few_second

kept_users : (t : Tables) (ws : List ℕ) → IsList t ws → Kept t → Kept (with_semaphore t ws)
kept_users t ws l k = kept_sequencer (with_fixed_event t ws ws) ws (record { sound = l.sound; some = l.some }) (kept_fixed_event t ws ws l l.sound k)

pub kept_more : (s : DeclKind) (t : Tables) (n : ℕ) (ws vs : List ℕ) → HasRoom s t n ws vs → Kept t → Kept (with_objects s t n ws vs)
kept_more sorts.EventCount t n ws vs r k = kept_event t ws vs (first_list sorts.EventCount t n ws vs r) (second_sound sorts.EventCount t n ws vs r) k
kept_more sorts.Sequencer t n ws vs r k = kept_sequencer t ws (first_list sorts.Sequencer t n ws vs r) k
kept_more sorts.Cells t n ws vs r k = kept_cells t n ws vs (first_list sorts.Cells t n ws vs r) (second_sound sorts.Cells t n ws vs r) k
kept_more sorts.Buffer t n ws vs r k =
    let first : IsList t ws = first_list sorts.Buffer t n ws vs r in
    let second : IsList t vs = record { sound = second_sound sorts.Buffer t n ws vs r; some = r.needed } in
    let both : is_faulty t.workers (ws ++ vs) ≡ false = joined_sound t.workers ws vs k.few_workers first.sound second.sound r.apart in
    let one : Tables = with_fixed_event t ws (ws ++ vs) in
    let two : Tables = with_fixed_event (with_fixed_event t ws (ws ++ vs)) vs (ws ++ vs) in
    let three : Tables = with_sequencer (with_fixed_event (with_fixed_event t ws (ws ++ vs)) vs (ws ++ vs)) ws in
    let four : Tables = with_sequencer (with_sequencer (with_fixed_event (with_fixed_event t ws (ws ++ vs)) vs (ws ++ vs)) ws) vs in
    kept_cells four n ws vs (record { sound = first.sound; some = first.some }) second.sound
    (kept_sequencer three vs (record { sound = second.sound; some = second.some })
    (kept_sequencer two ws (record { sound = first.sound; some = first.some })
    (kept_fixed_event one vs (ws ++ vs) (record { sound = second.sound; some = second.some }) both
    (kept_fixed_event t ws (ws ++ vs) first both k))))
kept_more sorts.Database t n ws vs r k =
    let first : IsList t ws = first_list sorts.Database t n ws vs r in
    let others : is_faulty t.workers vs ≡ false = second_sound sorts.Database t n ws vs r in
    let both : is_faulty t.workers (ws ++ vs) ≡ false = joined_sound t.workers ws vs k.few_workers first.sound others r.apart in
    let one : Tables = with_fixed_event t ws vs in
    let two : Tables = with_fixed_event (with_fixed_event t ws vs) ws (ws ++ vs) in
    let three : Tables = with_sequencer (with_fixed_event (with_fixed_event t ws vs) ws (ws ++ vs)) ws in
    kept_cells three n ws vs (record { sound = first.sound; some = first.some }) others
    (kept_sequencer two ws (record { sound = first.sound; some = first.some })
    (kept_fixed_event one ws (ws ++ vs) (record { sound = first.sound; some = first.some }) both
    (kept_fixed_event t ws vs first others k)))
kept_more sorts.Semaphore t n ws vs r k = kept_users t ws (first_list sorts.Semaphore t n ws vs r) k
kept_more sorts.Both t n ws vs r k = kept_users t ws (first_list sorts.Both t n ws vs r) k

-- the bounds of the three tables
pub record Bounds (t : Tables) : Type 0 where
  pub events : length t.events ≤ 32
  pub sequencers : length t.takers ≤ 32
  pub cells : length t.cells ≤ 256

bounded_users : (t : Tables) (ws : List ℕ) → (nat_lt 31 (length t.events) || nat_lt 31 (length t.takers)) ≡ false → Bounds t → Bounds (with_semaphore t ws)
bounded_users t ws room b =
    let rooms = or_parts (nat_lt 31 (length t.events)) (nat_lt 31 (length t.takers)) room in
    let e : length t.events ≤ 31 = ltb-false 31 (length t.events) rooms.0 in
    let q : length t.takers ≤ 31 = ltb-false 31 (length t.takers) rooms.1 in
    record {
      events = omega (arith, counted t.events (record { signal = ws; observe = ws; fixed = true }));
      sequencers = omega (arith, counted t.takers ws);
      cells = b.cells;
    }

pub bounds_more : (s : DeclKind) (t : Tables) (n : ℕ) (ws vs : List ℕ) → HasRoom s t n ws vs → Bounds t → Bounds (with_objects s t n ws vs)
bounds_more sorts.EventCount t n ws vs r b = record {
  events = (let l : length t.events ≤ 31 = ltb-false 31 (length t.events) r.room in omega (arith, counted t.events (record { signal = ws; observe = vs; fixed = false })));
  sequencers = b.sequencers;
  cells = b.cells;
}
bounds_more sorts.Sequencer t n ws vs r b = record {
  events = b.events;
  sequencers = (let l : length t.takers ≤ 31 = ltb-false 31 (length t.takers) r.room in omega (arith, counted t.takers ws));
  cells = b.cells;
}
bounds_more sorts.Cells t n ws vs r b = record {
  events = b.events;
  sequencers = b.sequencers;
  cells = (let l : length t.cells + n ≤ 256 = ltb-false 256 (length t.cells + n) r.room in omega (arith, counted_cells t.cells n (record { write = ws; read = vs })));
}
bounds_more sorts.Buffer t n ws vs r b =
    let rooms = or_parts (nat_lt 32 (length t.events + 2) || nat_lt 32 (length t.takers + 2)) (nat_lt 256 (length t.cells + n)) r.room in
    let tables = or_parts (nat_lt 32 (length t.events + 2)) (nat_lt 32 (length t.takers + 2)) rooms.0 in
    let e : length t.events + 2 ≤ 32 = ltb-false 32 (length t.events + 2) tables.0 in
    let q : length t.takers + 2 ≤ 32 = ltb-false 32 (length t.takers + 2) tables.1 in
    let x : length t.cells + n ≤ 256 = ltb-false 256 (length t.cells + n) rooms.1 in
    record {
      events = omega (arith, counted_twice t.events (record { signal = ws; observe = ws ++ vs; fixed = true }) (record { signal = vs; observe = ws ++ vs; fixed = true }));
      sequencers = omega (arith, counted_twice t.takers ws vs);
      cells = omega (arith, counted_cells t.cells n (record { write = ws; read = vs }));
    }
bounds_more sorts.Database t n ws vs r b =
    let rooms = or_parts (nat_lt 32 (length t.events + 2) || nat_lt 32 (length t.takers + 1)) (nat_lt 256 (length t.cells + n)) r.room in
    let tables = or_parts (nat_lt 32 (length t.events + 2)) (nat_lt 32 (length t.takers + 1)) rooms.0 in
    let e : length t.events + 2 ≤ 32 = ltb-false 32 (length t.events + 2) tables.0 in
    let q : length t.takers + 1 ≤ 32 = ltb-false 32 (length t.takers + 1) tables.1 in
    let x : length t.cells + n ≤ 256 = ltb-false 256 (length t.cells + n) rooms.1 in
    record {
      events = omega (arith, counted_twice t.events (record { signal = ws; observe = vs; fixed = true }) (record { signal = ws; observe = ws ++ vs; fixed = true }));
      sequencers = omega (arith, counted t.takers ws);
      cells = omega (arith, counted_cells t.cells n (record { write = ws; read = vs }));
    }
bounds_more sorts.Semaphore t n ws vs r b = bounded_users t ws r.room b
bounds_more sorts.Both t n ws vs r b = bounded_users t ws r.room b

-- THE GROUPS

pub at_end : {A : Type 0} (xs : List A) (x : A) → slice_get (xs ++ x ∷ []) (length xs) ≡ Some x
at_end xs x = found_at xs x []

at_second : {A : Type 0} (xs : List A) (x y : A) → slice_get ((xs ++ x ∷ []) ++ y ∷ []) (length xs + 1) ≡ Some y
at_second xs x y = ap (slice_get ((xs ++ x ∷ []) ++ y ∷ [])) (sym (counted xs x)) ∙ at_end (xs ++ x ∷ []) y

at_first : {A : Type 0} (xs : List A) (x y : A) → slice_get ((xs ++ x ∷ []) ++ y ∷ []) (length xs) ≡ Some x
at_first xs x y = still_there (xs ++ x ∷ []) (y ∷ []) (length xs) x (at_end xs x)

replicated_at : {A : Type 0} (n k : ℕ) (x : A) → k < n → slice_get (replicate n x) k ≡ Some x
replicated_at zero k x lt = absurd (omega arith)
replicated_at (suc n) zero x lt = refl
replicated_at (suc n) (suc k) x lt = replicated_at n k x (omega arith)

behind : {A : Type 0} (xs ys : List A) (k : ℕ) → slice_get (xs ++ ys) (length xs + k) ≡ slice_get ys k
behind [] ys k = ap (slice_get ys) (zero-add k)
behind (x ∷ xs) ys k = (let e : suc (length xs) + k ≡ suc (length xs + k) = omega arith in ap (slice_get (x ∷ (xs ++ ys))) e ∙ behind xs ys k)

-- a buffer that was added is declared
pub buffer_there : (t : Tables) (n : ℕ) (ws vs : List ℕ) → buffer_fault t n ws vs ≡ None → DeclaresBuffer (next_buffer t n) (with_buffer t n ws vs) ws vs
buffer_there t n ws vs none =
    let both : List ℕ = ws ++ vs in
    record {
      in_count = at_first t.events (record { signal = ws; observe = both; fixed = true }) (record { signal = vs; observe = both; fixed = true });
      out_count = at_second t.events (record { signal = ws; observe = both; fixed = true }) (record { signal = vs; observe = both; fixed = true });
      put_seq = at_first t.takers ws vs;
      take_seq = at_second t.takers ws vs;
      cells = λ k lt. behind t.cells (replicate n (record { write = ws; read = vs })) k ∙ replicated_at n k (record { write = ws; read = vs }) lt;
      apart = (roles_of t (lacks_room t n) ws vs (eqb n 0) none).2.apart;
    }

-- and a semaphore
pub semaphore_there : (t : Tables) (initial : ℕ) (ws : List ℕ) → DeclaresSemaphore (next_semaphore t initial) (with_semaphore t ws) ws
semaphore_there t initial ws = record { count = at_end t.events (record { signal = ws; observe = ws; fixed = true }); line = at_end t.takers ws }
