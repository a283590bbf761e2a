-- Which kinds hold of a limit, of a line of workers and of a declaration: what the tests of headers
-- decide.
use Rattle.std.proofs.Common.{◌≡◌, ◌≢◌, ◌⊎◌, inl, inr, ℕ, ◌+◌, ◌<◌, ◌≤◌, ◌||◌, ◌&&◌, List, [], ◌∷◌, ◌++◌, length, Bool, true, false, not, Option, Some, None, option_map, is_some, is_none, refl, arith, decimal, nat_le, nat_lt, length-append, replicate}
use Rattle.std.specs.Bool.{Decides}
use Rattle.std.specs.List.{Any, Contains, list_any}
use Rattle.std.specs.Option.{option_map_or}
use Rattle.std.proofs.lemmas.Bool.{and_parts, ltb-true, lt-ltb, leb-true}
use Rattle.std.proofs.lemmas.Bool.Decides.{Decides-like, Decides-or, Decides-and, Decides-at, Decides-ltb}
use Rattle.ec_count.specs.Members.{is_member, has_repeat}
use Rattle.ec_count.specs.Names.{find_name}
use Rattle.ec_count.specs.Reserved.{is_name}
use Rattle.ec_count.specs.Tables.{Tables, first_that}
use Rattle.ec_text.specs.Words.{number_in_word}
use Rattle.ec_heading.specs.Versions.{is_limit}
use Rattle.ec_heading.specs.declared.version.Version.{Version}
use Rattle.ec_heading.proofs.shared.VersionFacts.{limit_low, limit_from, limit_parts}
use Rattle.ec_heading.specs.declared.heading.HeadFault.TheVariants as heads
use Rattle.ec_heading.specs.declared.decl_kind.DeclKind.{DeclKind}
use Rattle.ec_heading.specs.declared.decl_kind.DeclKind.TheVariants as sorts
use Rattle.ec_heading.specs.Form as headings
use Rattle.ec_heading.specs.HeadingModel.{HeadingModel}
use Rattle.ec_heading.specs.Kinds.{workers_fault, declaration_fault, declaration_of, second_list, is_taken, has_unknown_word, is_bad_number, is_full_for, is_too_many, has_two_roles}
use Rattle.ec_heading.specs.Lists.{worker_in, ids_in, has_unknown, has_word_twice}
use Rattle.ec_heading.specs.HeaderTree.{Declaration, with_objects}
use Rattle.ec_heading.specs.DeclKinds.{has_number, needs_disjoint_lists, is_called, is_in_range, least as least_number, greatest}
use Rattle.ec_heading.proofs.shared.AddedObjects.{counted_cells as filled, counted_twice as pushed_twice, counted as pushed, Bounds}
use Rattle.ec_script.specs.declared.fault.Kind.{Kind}
use Rattle.ec_script.specs.declared.fault.Kind.TheVariants as kinds
use Rattle.ec_script.specs.Faults.{kind_of_head}
use Rattle.ec_script.specs.Holding.{LimitHas, WorkersHave, IsTaken, IsOver, PassesBounds, SharesWorker, DeclarationHas}
use Rattle.ec_script.proofs.Deciding.{never, decides_none, decides_some, decides_not, decides_itself, decides_any, decides_member, decides_repeat, decides_word_twice, decides_number}
use Rattle.ec_script.proofs.Least.{least}
use Rattle.ec_heading.proofs.shared.DeclKindFacts.{greatest_small as few_numbers}

-- THE LIMIT

abbrev pub limit_tests : Version → List ℕ → Kind → Bool
limit_tests v digits kinds.BadNumber =
    not (option_map_or (is_limit v) (number_in_word digits) false)
limit_tests v digits _ = false

limit_few : (v : Version) (n : ℕ) → is_limit v n ≡ true → n < 1000000000000000000
limit_few v n on = omega (arith, limit_low v n (limit_parts v n on).1)

limit_number : (v : Version) (digits : List ℕ) → Decides (not (option_map_or (is_limit v) (number_in_word digits) false)) (LimitHas v digits kinds.BadNumber)
limit_number v digits =
    Decides-like (not (option_map_or (is_limit v) (number_in_word digits) false)) (λ h n low high. h n (limit_from v n low high))
    (λ h n on. (let p = limit_parts v n on in h n p.0 p.1))
    (decides_number (is_limit v) (limit_few v) digits)

pub limit_decided : (v : Version) (digits : List ℕ) (k : Kind) → Decides (limit_tests v digits k) (LimitHas v digits k)
limit_decided v digits kinds.BadNumber = limit_number v digits
limit_decided v digits _ = never (λ t. t)

-- THE WORKERS

abbrev pub workers_tests : List (List ℕ) → Kind → Bool
workers_tests names kinds.BadName = list_any (λ w. not (is_name w)) names
workers_tests names kinds.NameTaken = has_word_twice names
workers_tests names kinds.TooMany = nat_lt 16 (length names)
workers_tests names _ = false

pub workers_decided : (names : List (List ℕ)) (k : Kind) → Decides (workers_tests names k) (WorkersHave names k)
workers_decided names kinds.BadName = decides_any (λ w. not (is_name w)) (λ w. is_name w ≡ false) (λ w. decides_not (is_name w)) names
workers_decided names kinds.NameTaken = decides_word_twice names
workers_decided names kinds.TooMany = Decides-ltb 16 (length names)
workers_decided names _ = never (λ t. t)

three : (a b c : Bool) → option_map kind_of_head (first_that ((a, heads.BadName) ∷ (b, heads.NameTaken) ∷ (c, heads.TooMany) ∷ [])) ≡ first_that ((a, kinds.BadName) ∷ (b, kinds.NameTaken) ∷ (c, kinds.TooMany) ∷ [])
three true b c = refl
three false true c = refl
three false false true = refl
three false false false = refl

pub workers_least : (names : List (List ℕ)) → option_map kind_of_head (workers_fault names) ≡ least (workers_tests names)
workers_least names = three (list_any (λ w. not (is_name w)) names) (has_word_twice names) (nat_lt 16 (length names))

-- A DECLARATION

abbrev pub declaration_tests : HeadingModel → headings.Phrase → Kind → Bool
declaration_tests h p kinds.BadName = not (is_called p.sort p.name)
declaration_tests h p kinds.NameTaken = is_taken h.words (declaration_of h.words p)
declaration_tests h p kinds.UnknownName = has_unknown_word h.words p
declaration_tests h p kinds.BadNumber = is_bad_number p.sort (number_in_word p.number)
declaration_tests h p kinds.TooMany = is_too_many h.setup (declaration_of h.words p)
declaration_tests h p kinds.TwoRoles = has_two_roles (declaration_of h.words p)
declaration_tests h p _ = false

six : (a b c d e f : Bool)
    → option_map kind_of_head (first_that ((a, heads.BadName) ∷ (b, heads.NameTaken) ∷ (c, heads.UnknownName) ∷ (d, heads.BadNumber) ∷ (e, heads.TooMany) ∷ (f, heads.TwoRoles) ∷ []))
    ≡ first_that ((a, kinds.BadName) ∷ (b, kinds.NameTaken) ∷ (c, kinds.UnknownName) ∷ (d, kinds.BadNumber) ∷ (e, kinds.TooMany) ∷ (f, kinds.TwoRoles) ∷ [])
six true b c d e f = refl
six false true c d e f = refl
six false false true d e f = refl
six false false false true e f = refl
six false false false false true f = refl
six false false false false false true = refl
six false false false false false false = refl

pub declaration_least : (h : HeadingModel) (p : headings.Phrase) → option_map kind_of_head (declaration_fault h.setup h.words p) ≡ least (declaration_tests h p)
declaration_least h p =
    six (not (is_called p.sort p.name)) (is_taken h.words (declaration_of h.words p)) (has_unknown_word h.words p) (is_bad_number p.sort (number_in_word p.number)) (is_too_many h.setup (declaration_of h.words p))
    (has_two_roles (declaration_of h.words p))

taken_decided : (h : HeadingModel) (p : headings.Phrase) → Decides (is_taken h.words (declaration_of h.words p)) (IsTaken h p)
taken_decided h p =
    Decides-or (is_some (find_name p.name h.words)) (has_repeat (ids_in h.words p.first) || has_repeat (ids_in h.words (second_list p))) (decides_some (find_name p.name h.words))
    (Decides-or (has_repeat (ids_in h.words p.first)) (has_repeat (ids_in h.words (second_list p))) (decides_repeat (ids_in h.words p.first)) (decides_repeat (ids_in h.words (second_list p))))

pub unknown_decided : (h : HeadingModel) (ws : List (List ℕ)) → Decides (has_unknown h.words ws) (Any (λ w. worker_in h.words w ≡ None) ws)
unknown_decided h ws = decides_any (λ w. is_none (worker_in h.words w)) (λ w. worker_in h.words w ≡ None) (λ w. decides_none (worker_in h.words w)) ws

small_number : (s : DeclKind) (n : ℕ) → is_in_range s n ≡ true → n < 1000000000000000000
small_number s n on = (let high : n ≤ greatest s = leb-true n (greatest s) (and_parts (nat_le (least_number s) n) (nat_le n (greatest s)) on).1 in omega (arith, few_numbers s, high))

and_true : (b : Bool) → b ≡ (b && true)
and_true true = refl
and_true false = refl

bad_number : (s : DeclKind) (o : Option ℕ) → is_bad_number s o ≡ (has_number s && not (option_map_or (is_in_range s) o false))
bad_number s None = and_true (has_number s)
bad_number s (Some n) = refl

number_decided : (s : DeclKind) (w : List ℕ) → Decides (is_bad_number s (number_in_word w)) ((has_number s ≡ true) × ((n : ℕ) → is_in_range s n ≡ true → w ≢ decimal n))
number_decided s w =
    Decides-at (is_bad_number s (number_in_word w)) (has_number s && not (option_map_or (is_in_range s) (number_in_word w) false)) (bad_number s (number_in_word w))
    (Decides-and (has_number s) (not (option_map_or (is_in_range s) (number_in_word w) false)) (decides_itself (has_number s)) (decides_number (is_in_range s) (small_number s) w))

roles_decided : (h : HeadingModel) (p : headings.Phrase) → Decides (has_two_roles (declaration_of h.words p)) ((needs_disjoint_lists p.sort ≡ true) × SharesWorker h p)
roles_decided h p =
    let first : List ℕ = ids_in h.words p.first in
    let second : List ℕ = ids_in h.words (second_list p) in
    Decides-and (needs_disjoint_lists p.sort) (list_any (λ w. is_member w second) first) (decides_itself (needs_disjoint_lists p.sort))
    (Decides-like (list_any (λ w. is_member w second) first) (λ a. (a.1, (a.0, a.2, a.3), a.4)) (λ s. (s.1.0, s.0, s.1.1, s.1.2, s.2))
    (decides_any (λ w. is_member w second) (λ w. Contains second w) (λ w. decides_member w second) first))

-- ROOM

decides_over : (m n k : ℕ) → k ≡ n → Decides (nat_lt m n) (m < k)
decides_over m n k is = ((λ e. (let lt = ltb-true m n e in omega (arith, is, lt))), λ lt. lt-ltb m n (omega (arith, is, lt)))

-- the tables grow by these numbers
record Grown (t u : Tables) (a b c : ℕ) : Type 0 where
  events : length u.events ≡ length t.events + a
  takers : length u.takers ≡ length t.takers + b
  cells : length u.cells ≡ length t.cells + c

event_over : (t u : Tables) → Bounds t → Grown t u 1 0 0 → Decides (nat_lt 31 (length t.events)) (IsOver u)
event_over t u b g = (
  (λ e. (let lt = ltb-true 31 (length t.events) e in inl (omega (arith, g.events, lt)))),
  λ h. lt-ltb 31 (length t.events) (elim h [
    | inl over ↦ omega (arith, g.events, over)
    | inr more ↦ elim more [ inl over ↦ absurd (omega (arith, g.takers, b.sequencers, over)) | inr over ↦ absurd (omega (arith, g.cells, b.cells, over)) ]
  ]),
)

taker_over : (t u : Tables) → Bounds t → Grown t u 0 1 0 → Decides (nat_lt 31 (length t.takers)) (IsOver u)
taker_over t u b g = (
  (λ e. (let lt = ltb-true 31 (length t.takers) e in inr (inl (omega (arith, g.takers, lt))))),
  λ h. lt-ltb 31 (length t.takers) (elim h [
    | inl over ↦ absurd (omega (arith, g.events, b.events, over))
    | inr more ↦ elim more [ inl over ↦ omega (arith, g.takers, over) | inr over ↦ absurd (omega (arith, g.cells, b.cells, over)) ]
  ]),
)

cells_over : (t u : Tables) (n : ℕ) → Bounds t → Grown t u 0 0 n → Decides (nat_lt 256 (length t.cells + n)) (IsOver u)
cells_over t u n b g = (
  (λ e. (let lt = ltb-true 256 (length t.cells + n) e in inr (inr (omega (arith, g.cells, lt))))),
  λ h. lt-ltb 256 (length t.cells + n) (elim h [
    | inl over ↦ absurd (omega (arith, g.events, b.events, over))
    | inr more ↦ elim more [ inl over ↦ absurd (omega (arith, g.takers, b.sequencers, over)) | inr over ↦ omega (arith, g.cells, over) ]
  ]),
)

other_way : {A B C : Type 0} → (A ⊎ B) ⊎ C → A ⊎ (B ⊎ C)
other_way (inl (inl a)) = inl a
other_way (inl (inr b)) = inr (inl b)
other_way (inr c) = inr (inr c)

one_way : {A B C : Type 0} → A ⊎ (B ⊎ C) → (A ⊎ B) ⊎ C
one_way (inl a) = inl (inl a)
one_way (inr (inl b)) = inl (inr b)
one_way (inr (inr c)) = inr c

group_over : (t u : Tables) (a b c : ℕ) → Grown t u a b c → Decides ((nat_lt 32 (length t.events + a) || nat_lt 32 (length t.takers + b)) || nat_lt 256 (length t.cells + c)) (IsOver u)
group_over t u a b c g =
    Decides-like ((nat_lt 32 (length t.events + a) || nat_lt 32 (length t.takers + b)) || nat_lt 256 (length t.cells + c)) other_way one_way
    (Decides-or (nat_lt 32 (length t.events + a) || nat_lt 32 (length t.takers + b)) (nat_lt 256 (length t.cells + c))
    (Decides-or (nat_lt 32 (length t.events + a)) (nat_lt 32 (length t.takers + b)) (decides_over 32 (length t.events + a) (length u.events) g.events) (decides_over 32 (length t.takers + b) (length u.takers) g.takers))
    (decides_over 256 (length t.cells + c) (length u.cells) g.cells))

pair_over : (t u : Tables) → Bounds t → Grown t u 1 1 0 → Decides (nat_lt 31 (length t.events) || nat_lt 31 (length t.takers)) (IsOver u)
pair_over t u b g =
    Decides-like (nat_lt 31 (length t.events) || nat_lt 31 (length t.takers))
    (λ h. elim h as (λ x. IsOver u) [ inl over ↦ inl (omega (arith, g.events, over)) | inr over ↦ inr (inl (omega (arith, g.takers, over))) ])
    (λ h. elim h as (λ x. (31 < length t.events) ⊎ (31 < length t.takers)) [
      | inl over ↦ inl (omega (arith, g.events, over))
      | inr more ↦ elim more as (λ x. (31 < length t.events) ⊎ (31 < length t.takers)) [ inl over ↦ inr (omega (arith, g.takers, over)) | inr over ↦ absurd (omega (arith, g.cells, b.cells, over)) ]
    ])
    (Decides-or (nat_lt 31 (length t.events)) (nat_lt 31 (length t.takers)) (Decides-ltb 31 (length t.events)) (Decides-ltb 31 (length t.takers)))

full_decided : (s : DeclKind) (t : Tables) (n : ℕ) (ws vs : List ℕ) → Bounds t → Decides (is_full_for s t n) (IsOver (with_objects s t n ws vs))
full_decided sorts.EventCount t n ws vs b = event_over t (with_objects sorts.EventCount t n ws vs) b (record { events = pushed t.events _; takers = omega arith; cells = omega arith })
full_decided sorts.Sequencer t n ws vs b = taker_over t (with_objects sorts.Sequencer t n ws vs) b (record { events = omega arith; takers = pushed t.takers _; cells = omega arith })
full_decided sorts.Cells t n ws vs b = cells_over t (with_objects sorts.Cells t n ws vs) n b (record { events = omega arith; takers = omega arith; cells = filled t.cells n _ })
full_decided sorts.Buffer t n ws vs b = group_over t (with_objects sorts.Buffer t n ws vs) 2 2 n (record { events = pushed_twice t.events _ _; takers = pushed_twice t.takers _ _; cells = filled t.cells n _ })
full_decided sorts.Database t n ws vs b = group_over t (with_objects sorts.Database t n ws vs) 2 1 n (record { events = pushed_twice t.events _ _; takers = pushed t.takers _; cells = filled t.cells n _ })
full_decided sorts.Semaphore t n ws vs b = pair_over t (with_objects sorts.Semaphore t n ws vs) b (record { events = pushed t.events _; takers = pushed t.takers _; cells = omega arith })
full_decided sorts.Both t n ws vs b = pair_over t (with_objects sorts.Both t n ws vs) b (record { events = pushed t.events _; takers = pushed t.takers _; cells = omega arith })

many_decided : (h : HeadingModel) (p : headings.Phrase) → Bounds h.setup → Decides (is_too_many h.setup (declaration_of h.words p)) (PassesBounds h p)
many_decided h p b =
    let d : Declaration = declaration_of h.words p in
    Decides-or (nat_lt 16 (length d.first) || nat_lt 16 (length d.second)) (is_full_for d.sort h.setup d.number)
    (Decides-or (nat_lt 16 (length d.first)) (nat_lt 16 (length d.second)) (Decides-ltb 16 (length d.first)) (Decides-ltb 16 (length d.second)))
    (full_decided d.sort h.setup d.number d.first d.second b)

pub declaration_decided : (h : HeadingModel) (p : headings.Phrase) (k : Kind) → Bounds h.setup → Decides (declaration_tests h p k) (DeclarationHas h p k)
declaration_decided h p kinds.BadName b = decides_not (is_called p.sort p.name)
declaration_decided h p kinds.NameTaken b = taken_decided h p
declaration_decided h p kinds.UnknownName b = Decides-or (has_unknown h.words p.first) (has_unknown h.words (second_list p)) (unknown_decided h p.first) (unknown_decided h (second_list p))
declaration_decided h p kinds.BadNumber b = number_decided p.sort p.number
declaration_decided h p kinds.TooMany b = many_decided h p b
declaration_decided h p kinds.TwoRoles b = roles_decided h p
declaration_decided h p _ b = never (λ t. t)
