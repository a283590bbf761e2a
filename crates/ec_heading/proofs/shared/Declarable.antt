-- A declaration is allowed exactly if its line has no fault.
use Rattle.std.proofs.Common.{◌≡◌, ℕ, ◌+◌, ◌≤◌, List, [], ◌∷◌, ◌++◌, length, Bool, true, false, not, ◌||◌, ◌&&◌, Option, Some, None, is_some, unwrap_or, Err, refl, sym, ap, subst, ◌∙◌, arith, eqb, nat_le, nat_lt, leb, ltb, append_assoc, append-nil, eqb-true, lit≤}
use Rattle.std.proofs.lemmas.Bool.{true≢false, or_parts, or_from, and_parts, and_left, and_right, ltb-false, le-ltb, leb-false, lt-leb, leb-true, not-false, not_from_true, ne_eqb}
use Rattle.ec_count.specs.declared.setup.SetupFault.TheVariants as setups
use Rattle.ec_count.specs.Tables.{Tables, first_that, list_fault, names_unknown}
use Rattle.ec_count.specs.Members.{has_repeat, is_member}
use Rattle.std.specs.List.{list_any}
use Rattle.ec_count.specs.Names.{find_name}
use Rattle.ec_count.specs.Roles.{roles_fault, shares_worker as shares}
use Rattle.ec_semaphore.specs.Shapes.{semaphore_fault}
use Rattle.ec_semaphore.specs.declared.shape.TheConstants.{INITIAL_MAX}
use Rattle.ec_text.specs.Words.{number_in_word}
use Rattle.ec_heading.specs.DeclKinds.{has_number, second_opener, needs_disjoint_lists, needs_second, is_called, is_in_range}
use Rattle.ec_heading.specs.Objects.{Next, objects_of, spelled_objects}
use Rattle.ec_heading.specs.declared.version.Version.{Version}
use Rattle.ec_heading.specs.HeadingModel.{HeadingModel}
use Rattle.ec_heading.specs.HeaderTree.{Declaration, IsDeclarable, empty_heading, number_names, next_ids, with_declaration, with_declarations, objects_fault, with_objects, fits_form}
use Rattle.ec_heading.specs.Form.{Phrase}
use Rattle.ec_heading.specs.Heading.{FailsAs}
use Rattle.ec_heading.specs.Kinds.{declaration_of, declaration_fault, kind_of, size_in, second_list, is_full_for, is_bad_number, is_too_many, is_taken, has_unknown_word, has_two_roles}
use Rattle.ec_heading.specs.Lists.{ids_in, has_unknown}
use Rattle.ec_heading.specs.declared.decl_kind.DeclKind.{DeclKind}
use Rattle.ec_heading.specs.declared.decl_kind.DeclKind.TheVariants as sorts
use Rattle.ec_heading.specs.declared.heading.HeadFault.{HeadFault}
use Rattle.ec_heading.specs.declared.heading.HeadFault.TheVariants as faults
use Rattle.ec_heading.specs.Phrased.{IsSpelled, SecondFits, NumberFits, HasWords}
use Rattle.ec_heading.proofs.shared.DeclKindFacts.{zero_in_range, number_small}
use Rattle.ec_heading.proofs.shared.Listed.{Named, HasNoWorker, no_worker-append, with_others, AreBelow, known_below, below_known, ids_below, ids_some}

-- A LIST OF TESTS

-- if a list of tests has no fault, its first test does not hold, and the others have none
pub passed : {F : Type 0} (b : Bool) (f : F) (rest : List (Bool × F)) → first_that ((b, f) ∷ rest) ≡ None → (b ≡ false) × (first_that rest ≡ None)
passed true f rest e = cc
passed false f rest e = (refl, e)

-- a list of tests has no fault if its first test does not hold, and the others have none
pub pass : {F : Type 0} (b : Bool) (f : F) (rest : List (Bool × F)) → b ≡ false → first_that rest ≡ None → first_that ((b, f) ∷ rest) ≡ None
pass true f rest b e = absurd (true≢false b)
pass false f rest b e = e

-- THE HEADERS WITH A SYNTAX TREE'S WORKERS

-- the workers of the header have these names, and its other words denote no worker
pub record Heads (ws : List (List ℕ)) (h : HeadingModel) : Type 0 where
  pub count : h.setup.workers ≡ length ws
  pub others : Named
  pub words : h.words ≡ with_others ws others
  pub none : HasNoWorker others

-- the workers of a header without declarations are those that it was opened with
pub heads_opened : (version : Version) (limit : ℕ) (ws : List (List ℕ)) → Heads ws (empty_heading version limit ws)
heads_opened version limit ws = record { count = refl; others = []; words = sym (append-nil (number_names 0 ws)); none = tt }

pub keeps_workers : (s : DeclKind) (t : Tables) (n : ℕ) (first second : List ℕ) → (with_objects s t n first second).workers ≡ t.workers
keeps_workers sorts.EventCount t n first second = refl
keeps_workers sorts.Sequencer t n first second = refl
keeps_workers sorts.Cells t n first second = refl
keeps_workers sorts.Buffer t n first second = refl
keeps_workers sorts.Database t n first second = refl
keeps_workers sorts.Semaphore t n first second = refl
keeps_workers sorts.Both t n first second = refl

no_worker_there : (s : DeclKind) (k : Next) (n : ℕ) → HasNoWorker (objects_of s k n)
no_worker_there sorts.EventCount k n = (refl, tt)
no_worker_there sorts.Sequencer k n = (refl, tt)
no_worker_there sorts.Cells k n = (refl, tt)
no_worker_there sorts.Buffer k n = (refl, (refl, (refl, (refl, (refl, tt)))))
no_worker_there sorts.Database k n = (refl, (refl, (refl, (refl, tt))))
no_worker_there sorts.Semaphore k n = (refl, (refl, (refl, tt)))
no_worker_there sorts.Both k n = (refl, (refl, (refl, tt)))

no_worker_spelled : (name : List ℕ) (os : Named) → HasNoWorker os → HasNoWorker (spelled_objects name os)
no_worker_spelled name [] h = tt
no_worker_spelled name (o ∷ os) h = (h.0, no_worker_spelled name os h.1)

pub heads_more : (ws : List (List ℕ)) (h : HeadingModel) (d : Declaration) → Heads ws h → Heads ws (with_declaration h d)
heads_more ws h d heads =
    let objects : Named = objects_of d.sort (next_ids h) d.number in
    record {
      count = keeps_workers d.sort h.setup d.number d.first d.second ∙ heads.count;
      others = heads.others ++ spelled_objects d.name (objects_of d.sort (next_ids h) d.number);
      words =
          ap (λ (es : Named). es ++ spelled_objects d.name (objects_of d.sort (next_ids h) d.number)) heads.words
          ∙ append_assoc (number_names 0 ws) heads.others (spelled_objects d.name (objects_of d.sort (next_ids h) d.number));
      none = no_worker-append heads.others (spelled_objects d.name (objects_of d.sort (next_ids h) d.number)) heads.none (no_worker_spelled d.name objects (no_worker_there d.sort (next_ids h) d.number));
    }

-- declarations don't change the workers of a header
pub heads_all : (ws : List (List ℕ)) (h : HeadingModel) (ds : List Declaration) → Heads ws h → Heads ws (with_declarations h ds)
heads_all ws h [] heads = heads
heads_all ws h (d ∷ ds) heads = heads_all ws (with_declaration h d) ds (heads_more ws h d heads)

-- WHAT THE TABLES REQUIRE

-- the tests of a declaration's objects, all passed
pub record HasRoom (s : DeclKind) (t : Tables) (n : ℕ) (first second : List ℕ) : Type 0 where
  pub room : is_full_for s t n ≡ false
  pub few_first : ltb 16 (length first) ≡ false
  pub few_second : ltb 16 (length second) ≡ false
  pub known_first : AreBelow t.workers first
  pub known_second : AreBelow t.workers second
  pub once_first : has_repeat first ≡ false
  pub once_second : has_repeat second ≡ false
  pub some : eqb (length first) 0 ≡ false
  pub needed : (needs_second s && eqb (length second) 0) ≡ false
  pub apart : (needs_disjoint_lists s && shares first second) ≡ false

full_32 : (n : ℕ) → ltb 31 n ≡ false → leb 32 n ≡ false
full_32 n e = lt-leb 32 n (omega (arith, ltb-false 31 n e))

room_32 : (n : ℕ) → leb 32 n ≡ false → ltb 31 n ≡ false
room_32 n e = le-ltb 31 n (omega (arith, leb-false 32 n e))

none_zero : (n : ℕ) → 1 ≤ n → eqb n 0 ≡ false
none_zero n some = ne_eqb n 0 (λ e. (omega arith))

-- four tests, of which none holds
four : {F : Type 0} (a b c d : Bool) (f g h i : F) → a ≡ false → b ≡ false → c ≡ false → d ≡ false → first_that ((a, f) ∷ (b, g) ∷ (c, h) ∷ (d, i) ∷ []) ≡ None
four a b c d f g h i p q r s = pass a f ((b, g) ∷ (c, h) ∷ (d, i) ∷ []) p (pass b g ((c, h) ∷ (d, i) ∷ []) q (pass c h ((d, i) ∷ []) r (pass d i [] s refl)))

from_four : {F : Type 0} (a b c d : Bool) (f g h i : F) → first_that ((a, f) ∷ (b, g) ∷ (c, h) ∷ (d, i) ∷ []) ≡ None → (a ≡ false) × (b ≡ false) × (c ≡ false) × (d ≡ false)
from_four a b c d f g h i e =
    let p = passed a f ((b, g) ∷ (c, h) ∷ (d, i) ∷ []) e in
    let q = passed b g ((c, h) ∷ (d, i) ∷ []) p.1 in
    let r = passed c h ((d, i) ∷ []) q.1 in
    let s = passed d i [] r.1 in
    (p.0, q.0, r.0, s.0)

-- and five
five : {F : Type 0} (a b c d e : Bool) (f g h i j : F) → a ≡ false → b ≡ false → c ≡ false → d ≡ false → e ≡ false → first_that ((a, f) ∷ (b, g) ∷ (c, h) ∷ (d, i) ∷ (e, j) ∷ []) ≡ None
five a b c d e f g h i j p q r s t = pass a f ((b, g) ∷ (c, h) ∷ (d, i) ∷ (e, j) ∷ []) p (four b c d e g h i j q r s t)

from_five : {F : Type 0} (a b c d e : Bool) (f g h i j : F) → first_that ((a, f) ∷ (b, g) ∷ (c, h) ∷ (d, i) ∷ (e, j) ∷ []) ≡ None → (a ≡ false) × (b ≡ false) × (c ≡ false) × (d ≡ false) × (e ≡ false)
from_five a b c d e f g h i j k =
    let p = passed a f ((b, g) ∷ (c, h) ∷ (d, i) ∷ (e, j) ∷ []) k in
    let q = from_four b c d e g h i j p.1 in
    (p.0, q.0, q.1, q.2, q.3)

abbrev long : List ℕ → Bool
long ws = nat_lt 16 (length ws)

abbrev unknown : Tables → List ℕ → Bool
unknown t ws = names_unknown t ws

abbrev empty : List ℕ → Bool
empty ws = eqb (length ws) 0

-- two lists that have to be disjoint
roles_taken : (s : DeclKind) (t : Tables) (n : ℕ) (first second : List ℕ) → needs_second s ≡ true → needs_disjoint_lists s ≡ true → eqb n 0 ≡ false → HasRoom s t n first second → roles_fault t (is_full_for s t n) first second (eqb n 0) ≡ None
roles_taken s t n first second needs keeps more h =
    let other : empty second ≡ false = ap (λ (b : Bool). b && empty second) (sym needs) ∙ h.needed in
    let apart : shares first second ≡ false = ap (λ (b : Bool). b && shares first second) (sym keeps) ∙ h.apart in
    five (is_full_for s t n || long first || long second) (unknown t first || unknown t second) (has_repeat first || has_repeat second) (eqb n 0 || empty first || empty second) (shares first second) setups.TooMany setups.UnknownWorker setups.Repeated setups.Empty setups.TwoRoles
    (or_from _ _ (or_from _ _ h.room h.few_first) h.few_second)
    (or_from _ _ (known_below t.workers first h.known_first) (known_below t.workers second h.known_second))
    (or_from _ _ h.once_first h.once_second)
    (or_from _ _ (or_from _ _ more h.some) other)
    apart

roles_room : (s : DeclKind) (t : Tables) (n : ℕ) (first second : List ℕ) → roles_fault t (is_full_for s t n) first second (eqb n 0) ≡ None → HasRoom s t n first second
roles_room s t n first second e =
    let p = from_five (is_full_for s t n || long first || long second) (unknown t first || unknown t second) (has_repeat first || has_repeat second) (eqb n 0 || empty first || empty second) (shares first second) setups.TooMany setups.UnknownWorker setups.Repeated setups.Empty setups.TwoRoles e in
    let a = or_parts (is_full_for s t n || long first) (long second) p.0 in
    let b = or_parts (is_full_for s t n) (long first) a.0 in
    let u = or_parts (unknown t first) (unknown t second) p.1 in
    let r = or_parts (has_repeat first) (has_repeat second) p.2 in
    let l = or_parts (eqb n 0 || empty first) (empty second) p.3 in
    let m = or_parts (eqb n 0) (empty first) l.0 in
    record {
      room = b.0;
      few_first = b.1;
      few_second = a.1;
      known_first = below_known t.workers first u.0;
      known_second = below_known t.workers second u.1;
      once_first = r.0;
      once_second = r.1;
      some = m.1;
      needed = and_right _ _ l.1;
      apart = and_right _ _ p.4;
    }

-- two lists that may share workers
lists_taken : (s : DeclKind) (t : Tables) (n : ℕ) (first second : List ℕ) (full none : Bool) → full ≡ false → none ≡ false → HasRoom s t n first second
    → first_that ((full || long first || long second, setups.TooMany) ∷ (unknown t first || unknown t second, setups.UnknownWorker) ∷ (has_repeat first || has_repeat second, setups.Repeated) ∷ (none, setups.Empty) ∷ []) ≡ None
lists_taken s t n first second full none room some h =
    four (full || long first || long second) (unknown t first || unknown t second) (has_repeat first || has_repeat second) none setups.TooMany setups.UnknownWorker setups.Repeated setups.Empty
    (or_from _ _ (or_from _ _ room h.few_first) h.few_second)
    (or_from _ _ (known_below t.workers first h.known_first) (known_below t.workers second h.known_second))
    (or_from _ _ h.once_first h.once_second)
    some

lists_room : (s : DeclKind) (t : Tables) (n : ℕ) (first second : List ℕ) (full none : Bool) → needs_second s ≡ false → needs_disjoint_lists s ≡ false → (full ≡ false → is_full_for s t n ≡ false) → (none ≡ false → empty first ≡ false)
    → first_that ((full || long first || long second, setups.TooMany) ∷ (unknown t first || unknown t second, setups.UnknownWorker) ∷ (has_repeat first || has_repeat second, setups.Repeated) ∷ (none, setups.Empty) ∷ []) ≡ None → HasRoom s t n first second
lists_room s t n first second full none needs keeps room some e =
    let p = from_four (full || long first || long second) (unknown t first || unknown t second) (has_repeat first || has_repeat second) none setups.TooMany setups.UnknownWorker setups.Repeated setups.Empty e in
    let a = or_parts (full || long first) (long second) p.0 in
    let b = or_parts full (long first) a.0 in
    let u = or_parts (unknown t first) (unknown t second) p.1 in
    let r = or_parts (has_repeat first) (has_repeat second) p.2 in
    record {
      room = room b.0;
      few_first = b.1;
      few_second = a.1;
      known_first = below_known t.workers first u.0;
      known_second = below_known t.workers second u.1;
      once_first = r.0;
      once_second = r.1;
      some = some p.3;
      needed = and_left _ _ needs;
      apart = and_left _ _ keeps;
    }

-- one list
list_taken : (s : DeclKind) (t : Tables) (n : ℕ) (first second : List ℕ) (full : Bool) → full ≡ false → HasRoom s t n first second → list_fault t full first (empty first) ≡ None
list_taken s t n first second full room h =
    four (full || long first) (unknown t first) (has_repeat first) (empty first) setups.TooMany setups.UnknownWorker setups.Repeated setups.Empty
    (or_from _ _ room h.few_first)
    (known_below t.workers first h.known_first)
    h.once_first
    h.some

list_room : (s : DeclKind) (t : Tables) (n : ℕ) (first second : List ℕ) (full : Bool) → second ≡ [] → needs_second s ≡ false → needs_disjoint_lists s ≡ false → (full ≡ false → is_full_for s t n ≡ false) → list_fault t full first (empty first) ≡ None → HasRoom s t n first second
list_room s t n first second full none needs keeps room e =
    let p = from_four (full || long first) (unknown t first) (has_repeat first) (empty first) setups.TooMany setups.UnknownWorker setups.Repeated setups.Empty e in
    let b = or_parts full (long first) p.0 in
    record {
      room = room b.0;
      few_first = b.1;
      few_second = ap long none;
      known_first = below_known t.workers first p.1;
      known_second = subst (AreBelow t.workers) (sym none) tt;
      once_first = p.2;
      once_second = ap has_repeat none;
      some = p.3;
      needed = and_left _ _ needs;
      apart = and_left _ _ keeps;
    }

-- the users of a semaphore
users_taken : (s : DeclKind) (t : Tables) (n initial : ℕ) (users second : List ℕ) → initial ≤ 1000000 → (nat_lt 31 (length t.events) || nat_lt 31 (length t.takers)) ≡ false → HasRoom s t n users second → semaphore_fault t initial users ≡ None
users_taken s t n initial users second small room h =
    let rooms = or_parts (nat_lt 31 (length t.events)) (nat_lt 31 (length t.takers)) room in
    list_taken s t n users second (nat_lt INITIAL_MAX initial || nat_le 32 (length t.events) || nat_le 32 (length t.takers))
    (or_from _ _ (or_from _ _ (le-ltb INITIAL_MAX initial small) (full_32 _ rooms.0)) (full_32 _ rooms.1)) h

users_room : (t : Tables) (initial : ℕ) → (nat_lt INITIAL_MAX initial || nat_le 32 (length t.events) || nat_le 32 (length t.takers)) ≡ false → (nat_lt 31 (length t.events) || nat_lt 31 (length t.takers)) ≡ false
users_room t initial full =
    let b = or_parts (nat_lt INITIAL_MAX initial || nat_le 32 (length t.events)) (nat_le 32 (length t.takers)) full in
    let c = or_parts (nat_lt INITIAL_MAX initial) (nat_le 32 (length t.events)) b.0 in
    or_from _ _ (room_32 _ c.1) (room_32 _ b.1)

pub objects_taken : (s : DeclKind) (t : Tables) (n : ℕ) (first second : List ℕ) → is_in_range s n ≡ true → HasRoom s t n first second → objects_fault s t n first second ≡ None
objects_taken sorts.EventCount t n first second range h = lists_taken sorts.EventCount t n first second (nat_le 32 (length t.events)) (empty first) (full_32 _ h.room) h.some h
objects_taken sorts.Sequencer t n first second range h = list_taken sorts.Sequencer t n first second (nat_le 32 (length t.takers)) (full_32 _ h.room) h
objects_taken sorts.Cells t n first second range h =
    let p = and_parts (leb 1 n) (leb n 256) range in
    lists_taken sorts.Cells t n first second (nat_lt 256 (length t.cells + n)) (eqb n 0 || empty first) h.room (or_from _ _ (none_zero n (leb-true 1 n p.0)) h.some) h
objects_taken sorts.Buffer t n first second range h =
    let p = and_parts (leb 1 n) (leb n 256) range in
    roles_taken sorts.Buffer t n first second refl refl (none_zero n (leb-true 1 n p.0)) h
objects_taken sorts.Database t n first second range h =
    let p = and_parts (leb 1 n) (leb n 256) range in
    roles_taken sorts.Database t n first second refl refl (none_zero n (leb-true 1 n p.0)) h
objects_taken sorts.Semaphore t n first second range h = users_taken sorts.Semaphore t n n first second (number_small sorts.Semaphore n range) h.room h
objects_taken sorts.Both t n first second range h = users_taken sorts.Both t n 1 first second (lit≤ tt) h.room h

pub none_listed : (ids : List ℕ) → eqb (length ids) 0 ≡ true → ids ≡ []
none_listed [] e = refl
none_listed (i ∷ ids) e = absurd (omega (arith, eqb-true (length (i ∷ ids)) 0 e))

pub has_room : (s : DeclKind) (t : Tables) (n : ℕ) (first second : List ℕ) → fits_form (second_opener s) second ≡ true → objects_fault s t n first second ≡ None → HasRoom s t n first second
has_room sorts.EventCount t n first second form e = lists_room sorts.EventCount t n first second (nat_le 32 (length t.events)) (empty first) refl refl (room_32 _) (λ some. some) e
has_room sorts.Sequencer t n first second form e = list_room sorts.Sequencer t n first second (nat_le 32 (length t.takers)) (none_listed second form) refl refl (room_32 _) e
has_room sorts.Cells t n first second form e = lists_room sorts.Cells t n first second (nat_lt 256 (length t.cells + n)) (eqb n 0 || empty first) refl refl (λ room. room) (λ some. (or_parts (eqb n 0) (empty first) some).1) e
has_room sorts.Buffer t n first second form e = roles_room sorts.Buffer t n first second e
has_room sorts.Database t n first second form e = roles_room sorts.Database t n first second e
has_room sorts.Semaphore t n first second form e = list_room sorts.Semaphore t n first second _ (none_listed second form) refl refl (users_room t n) e
has_room sorts.Both t n first second form e = list_room sorts.Both t n first second _ (none_listed second form) refl refl (users_room t 1) e

-- THE TESTS OF A LINE

-- the tests that a line of this phrase and declaration passes
pub record IsClean (t : Tables) (words : Named) (p : Phrase) (d : Declaration) : Type 0 where
  pub word : is_called d.sort d.name ≡ true
  pub new : find_name d.name words ≡ None
  pub once_first : has_repeat d.first ≡ false
  pub once_second : has_repeat d.second ≡ false
  pub known_first : has_unknown words p.first ≡ false
  pub known_second : has_unknown words (second_list p) ≡ false
  pub number : is_bad_number p.sort (number_in_word p.number) ≡ false
  pub few_first : ltb 16 (length d.first) ≡ false
  pub few_second : ltb 16 (length d.second) ≡ false
  pub room : is_full_for d.sort t d.number ≡ false
  pub apart : has_two_roles d ≡ false

pub is_none_from : {A : Type 0} (o : Option A) → is_some o ≡ false → o ≡ None
is_none_from None e = refl
is_none_from (Some x) e = absurd (true≢false e)

pub clean : (t : Tables) (words : Named) (p : Phrase) (d : Declaration) → kind_of t words p d ≡ None → IsClean t words p d
clean t words p d e =
    let l5 : List (Bool × HeadFault) = (has_two_roles d, faults.TwoRoles) ∷ [] in
    let l4 : List (Bool × HeadFault) = (is_too_many t d, faults.TooMany) ∷ l5 in
    let l3 : List (Bool × HeadFault) = (is_bad_number p.sort (number_in_word p.number), faults.BadNumber) ∷ l4 in
    let l2 : List (Bool × HeadFault) = (has_unknown_word words p, faults.UnknownName) ∷ l3 in
    let l1 : List (Bool × HeadFault) = (is_taken words d, faults.NameTaken) ∷ l2 in
    let p1 = passed (not (is_called d.sort d.name)) faults.BadName l1 e in
    let p2 = passed (is_taken words d) faults.NameTaken l2 p1.1 in
    let p3 = passed (has_unknown_word words p) faults.UnknownName l3 p2.1 in
    let p4 = passed (is_bad_number p.sort (number_in_word p.number)) faults.BadNumber l4 p3.1 in
    let p5 = passed (is_too_many t d) faults.TooMany l5 p4.1 in
    let p6 = passed (has_two_roles d) faults.TwoRoles [] p5.1 in
    let taken = or_parts (is_some (find_name d.name words)) (has_repeat d.first || has_repeat d.second) p2.0 in
    let once = or_parts (has_repeat d.first) (has_repeat d.second) taken.1 in
    let known = or_parts (has_unknown words p.first) (has_unknown words (second_list p)) p3.0 in
    let many = or_parts (ltb 16 (length d.first) || ltb 16 (length d.second)) (is_full_for d.sort t d.number) p5.0 in
    let few = or_parts (ltb 16 (length d.first)) (ltb 16 (length d.second)) many.0 in
    record {
      word = not-false _ p1.0;
      new = is_none_from (find_name d.name words) taken.0;
      once_first = once.0;
      once_second = once.1;
      known_first = known.0;
      known_second = known.1;
      number = p4.0;
      few_first = few.0;
      few_second = few.1;
      room = many.1;
      apart = p6.0;
    }

pub no_kind : (t : Tables) (words : Named) (p : Phrase) (d : Declaration) → IsClean t words p d → kind_of t words p d ≡ None
no_kind t words p d h =
    let l5 : List (Bool × HeadFault) = (has_two_roles d, faults.TwoRoles) ∷ [] in
    let l4 : List (Bool × HeadFault) = (is_too_many t d, faults.TooMany) ∷ l5 in
    let l3 : List (Bool × HeadFault) = (is_bad_number p.sort (number_in_word p.number), faults.BadNumber) ∷ l4 in
    let l2 : List (Bool × HeadFault) = (has_unknown_word words p, faults.UnknownName) ∷ l3 in
    let l1 : List (Bool × HeadFault) = (is_taken words d, faults.NameTaken) ∷ l2 in
    pass (not (is_called d.sort d.name)) faults.BadName l1 (not_from_true _ h.word)
    (pass (is_taken words d) faults.NameTaken l2 (or_from _ _ (ap is_some h.new) (or_from _ _ h.once_first h.once_second))
    (pass (has_unknown_word words p) faults.UnknownName l3 (or_from _ _ h.known_first h.known_second)
    (pass (is_bad_number p.sort (number_in_word p.number)) faults.BadNumber l4 h.number
    (pass (is_too_many t d) faults.TooMany l5 (or_from _ _ (or_from _ _ h.few_first h.few_second) h.room)
    (pass (has_two_roles d) faults.TwoRoles [] h.apart refl)))))

-- THE NUMBER

good_number : (s : DeclKind) (o : Option ℕ) → has_number s ≡ true → is_bad_number s o ≡ false → is_in_range s (unwrap_or o 0) ≡ true
good_number s None has e = absurd (true≢false (sym has ∙ e))
good_number s (Some n) has e = not-false _ (ap (λ (b : Bool). b && not (is_in_range s n)) (sym has) ∙ e)

good_range : (s : DeclKind) (word : List ℕ) → NumberFits s word → is_bad_number s (number_in_word word) ≡ false → is_in_range s (unwrap_or (number_in_word word) 0) ≡ true
good_range s word fits e = elim (has_number s) as (λ b. has_number s ≡ b → is_in_range s (unwrap_or (number_in_word word) 0) ≡ true) [
  | true ↦ λ q. good_number s (number_in_word word) q e
  | false ↦ λ q. ap (λ (w : List ℕ). is_in_range s (unwrap_or (number_in_word w) 0)) (fits.none q) ∙ zero_in_range s q
] refl

-- A LINE WITHOUT FAULT DECLARES

second_form : (needs : Bool) (o : Option (List ℕ)) (names : Named) (q : Option (List (List ℕ))) → SecondFits needs o q → fits_form o (ids_in names (unwrap_or q [])) ≡ true
second_form needs None names None fits = refl
second_form needs None names (Some vs) fits = absurd fits
second_form needs (Some stop) names q fits = refl

first_some : (words : Named) (ws : List (List ℕ)) → HasWords ws → has_unknown words ws ≡ false → eqb (length (ids_in words ws)) 0 ≡ false
first_some words ws (v, vs, is) known =
    subst (λ (us : List (List ℕ)). eqb (length (ids_in words us)) 0 ≡ false) (sym is) (ids_some words v vs (subst (λ (us : List (List ℕ)). has_unknown words us ≡ false) is known))

-- a second list that must be there names a worker
second_some : (needs : Bool) (o : Option (List ℕ)) (words : Named) (q : Option (List (List ℕ))) → SecondFits needs o q → has_unknown words (unwrap_or q []) ≡ false → (needs && eqb (length (ids_in words (unwrap_or q []))) 0) ≡ false
second_some needs o words None fits known = and_left _ _ fits
second_some needs None words (Some vs) fits known = absurd fits
second_some needs (Some stop) words (Some vs) fits known = and_right _ _ (first_some words vs fits known)

ids_within : (ws : List (List ℕ)) (h : HeadingModel) (vs : List (List ℕ)) → Heads ws h → AreBelow h.setup.workers (ids_in h.words vs)
ids_within ws h vs heads =
    subst (λ (n : ℕ). AreBelow n (ids_in h.words vs)) (sym heads.count)
    (subst (λ (words : Named). AreBelow (length ws) (ids_in words vs)) (sym heads.words) (ids_below ws heads.others vs heads.none))

pub may_declare : (ws : List (List ℕ)) (h : HeadingModel) (words : List (List ℕ)) (p : Phrase) → Heads ws h → IsSpelled words p → declaration_fault h.setup h.words p ≡ None → IsDeclarable h (declaration_of h.words p)
may_declare ws h words p heads is none =
    let c : IsClean h.setup h.words p (declaration_of h.words p) = clean h.setup h.words p (declaration_of h.words p) none in
    let range : is_in_range p.sort (size_in p) ≡ true = good_range p.sort p.number is.number c.number in
    record {
      word = c.word;
      new = c.new;
      range = range;
      form = second_form (needs_second p.sort) (second_opener p.sort) h.words p.second is.second;
      taken = objects_taken p.sort h.setup (size_in p) (ids_in h.words p.first) (ids_in h.words (second_list p)) range (record {
        room = c.room;
        few_first = c.few_first;
        few_second = c.few_second;
        known_first = ids_within ws h p.first heads;
        known_second = ids_within ws h (second_list p) heads;
        once_first = c.once_first;
        once_second = c.once_second;
        some = first_some h.words p.first is.first c.known_first;
        needed = second_some (needs_second p.sort) (second_opener p.sort) h.words p.second is.second c.known_second;
        apart = c.apart;
      });
    }

-- and what may be declared passes the tests, if its number is good and the words of its lists are known
pub is_clean : (h : HeadingModel) (p : Phrase) (d : Declaration) → IsDeclarable h d → is_bad_number p.sort (number_in_word p.number) ≡ false → has_unknown h.words p.first ≡ false → has_unknown h.words (second_list p) ≡ false → IsClean h.setup h.words p d
is_clean h p d may number first second =
    let r : HasRoom d.sort h.setup d.number d.first d.second = has_room d.sort h.setup d.number d.first d.second may.form may.taken in
    record {
      word = may.word;
      new = may.new;
      once_first = r.once_first;
      once_second = r.once_second;
      known_first = first;
      known_second = second;
      number = number;
      few_first = r.few_first;
      few_second = r.few_second;
      room = r.room;
      apart = r.apart;
    }

-- no worker is in a list and in an empty one
shares_none : (ws : List ℕ) → shares ws [] ≡ false
shares_none [] = refl
shares_none (w ∷ ws) = shares_none ws

pub no_second : (b : Bool) (first second : List ℕ) → second ≡ [] → false ≡ (b && shares first second)
no_second b first second none = sym (and_right b (shares first second) (ap (shares first) none ∙ shares_none first))

-- the fault of a line is never out of memory
one_of : (b : Bool) (g f : HeadFault) (rest : List (Bool × HeadFault)) → FailsAs g (Err g) → (first_that rest ≡ Some f → FailsAs f (Err f)) → first_that ((b, g) ∷ rest) ≡ Some f → FailsAs f (Err f)
one_of true g f rest own others e = (let same : g ≡ f = cc in subst (λ (k : HeadFault). FailsAs k (Err k)) same own)
one_of false g f rest own others e = others e

none_of : (f : HeadFault) → first_that [] ≡ Some f → FailsAs f (Err f)
none_of f e = cc

pub fault_fails : (t : Tables) (words : Named) (p : Phrase) (f : HeadFault) → declaration_fault t words p ≡ Some f → FailsAs f (Err f)
fault_fails t words p f e =
    let d : Declaration = declaration_of words p in
    let l5 : List (Bool × HeadFault) = (has_two_roles (declaration_of words p), faults.TwoRoles) ∷ [] in
    let l4 : List (Bool × HeadFault) = (is_too_many t (declaration_of words p), faults.TooMany) ∷ l5 in
    let l3 : List (Bool × HeadFault) = (is_bad_number p.sort (number_in_word p.number), faults.BadNumber) ∷ l4 in
    let l2 : List (Bool × HeadFault) = (has_unknown_word words p, faults.UnknownName) ∷ l3 in
    let l1 : List (Bool × HeadFault) = (is_taken words (declaration_of words p), faults.NameTaken) ∷ l2 in
    one_of (not (is_called p.sort p.name)) faults.BadName f l1 refl
    (one_of (is_taken words d) faults.NameTaken f l2 refl
    (one_of (has_unknown_word words p) faults.UnknownName f l3 refl
    (one_of (is_bad_number p.sort (number_in_word p.number)) faults.BadNumber f l4 refl
    (one_of (is_too_many t d) faults.TooMany f l5 refl
    (one_of (has_two_roles d) faults.TwoRoles f [] refl (none_of f)))))) e
