-- The lines of totals, one after another.
use Rattle.std.proofs.Common.{◌≡◌, ◌≤◌, ℕ, zero, suc, ◌+◌, ◌-◌, ◌==◌, nat_lt, Bool, true, false}
use Rattle.std.proofs.Common.{List, [], ◌∷◌, ◌++◌, Option, Some, None, refl, ap, sym, ◌∙◌, subst}
use Rattle.std.proofs.Common.{arith, add-one, append_assoc, append-nil, codes, if◌then◌else◌}
use Rattle.std.proofs.Common.{length, take, slice_get, get_or}
use Rattle.std.specs.List.{flat_map}
use Rattle.std.specs.Option.{option_map_or}
use Rattle.std.proofs.lemmas.List.{take_all}
use Rattle.std.proofs.lemmas.List.Concat.{flat_map-append}
use Rattle.std.proofs.lemmas.Bool.{ne_eqb}
use Rattle.ec_count.specs.declared.target.Target.{Target}
use Rattle.ec_count.specs.declared.target.Target.TheVariants.{Event, Sequencer}
use Rattle.ec_heading.specs.HeadingModel.{HeadingModel}
use Rattle.ec_heading.specs.declared.group.Group as kinds
use Rattle.ec_heading.specs.declared.group.Group.TheVariants as groups
use Rattle.ec_buffer.specs.Shapes.{Buffer}
use Rattle.ec_database.specs.Shapes.{Database}
use Rattle.ec_text.specs.Puts.{Puts, OutputModel}
use Rattle.ec_text.proofs.shared.PutLemmas.{puts_then}
use Rattle.calls_core.specs.declared.history.Placed.{Placed}
use Rattle.ec_heading.specs.Groups.{has_event, has_sequencer}
use Rattle.calls_text.specs.Recordings.{RecordingModel, first_group}
use Rattle.calls_text.specs.Spelling.{numbers_of_list}
use Rattle.calls_report.specs.Totals.{effects, group_event, group_sequencer, event_total}
use Rattle.calls_report.specs.Totals.{produced, consumed}
use Rattle.calls_report.specs.Totals.{sequencer_total, cell_total, count_line, cell_line}
use Rattle.calls_report.specs.Totals.{cell_lines, word_totals, totals_at, totals_text}

-- GROUPS

-- an eventcount of a database
pub database_event : (h : HeadingModel) (order : List Placed) (e i : ℕ) (g : kinds.Group) (d : Database)
    (n : ℕ) → g ≡ groups.Database d → has_event g e ≡ true → n ≡ effects order (first_group h + i)
    → Some n ≡ group_event h order e i g
database_event h order e i g d n is has count =
    let has' : has_event (groups.Database d) e ≡ true = ap (λ k. has_event k e) (sym is) ∙ has in
    rw is (rw (has', count) refl)

pub database_sequencer : (h : HeadingModel) (order : List Placed) (q i : ℕ) (g : kinds.Group)
    (d : Database) (n : ℕ) → g ≡ groups.Database d → has_sequencer g q ≡ true
    → n ≡ effects order (first_group h + i) → Some n ≡ group_sequencer h order q i g
database_sequencer h order q i g d n is has count =
    let has' : has_sequencer (groups.Database d) q ≡ true = ap (λ k. has_sequencer k q) (sym is) ∙ has in
    rw is (rw (has', count) refl)

-- an eventcount of a buffer
pub buffer_event : (h : HeadingModel) (order : List Placed) (e i : ℕ) (g : kinds.Group) (b : Buffer)
    (t : Bool) (n : ℕ) → g ≡ groups.Buffer b → has_event g e ≡ true → t ≡ (b.in_count == e)
    → n ≡ (if t then length (produced order (first_group h + i))
    else consumed order (first_group h + i))
    → Some n ≡ group_event h order e i g
buffer_event h order e i g b t n is has put count =
    let has' : has_event (groups.Buffer b) e ≡ true = ap (λ k. has_event k e) (sym is) ∙ has in
    rw is (rw (has', count, put) refl)

pub buffer_sequencer : (h : HeadingModel) (order : List Placed) (q i : ℕ) (g : kinds.Group)
    (b : Buffer) (t : Bool) (n : ℕ) → g ≡ groups.Buffer b → has_sequencer g q ≡ true
    → t ≡ (b.put_seq == q)
    → n ≡ (if t then length (produced order (first_group h + i))
    else consumed order (first_group h + i))
    → Some n ≡ group_sequencer h order q i g
buffer_sequencer h order q i g b t n is has put count =
    let has' : has_sequencer (groups.Buffer b) q ≡ true = ap (λ k. has_sequencer k q) (sym is) ∙ has in
    rw is (rw (has', count, put) refl)

no_list : (lists : List (List ℕ)) (k : ℕ) → None ≡ slice_get lists k → get_or lists k [] ≡ []
no_list [] k none = refl
no_list (l ∷ lists) zero none = cc
no_list (l ∷ lists) (suc k) none = no_list lists k none

-- a list that is not stored has zeros
pub no_number : (lists : List (List ℕ)) (cells n m i : ℕ) → n ≡ m → (n ≡ 0 → ⊥)
    → None ≡ slice_get lists (n - 1) → 0 ≡ get_or (numbers_of_list lists cells m) i 0
no_number lists cells n m i is some none =
    let test : (m == 0) ≡ false = ne_eqb m 0 (λ e. some (is ∙ e)) in
    let empty : get_or lists (m - 1) [] ≡ [] =
    no_list lists (m - 1) (none ∙ ap (λ k. slice_get lists (k - 1)) is) in
    rw (test, empty) refl

-- CELLS

-- the line of the cell at an index of a block, if there is one
abbrev line_at : RecordingModel → List Placed → List ℕ → ℕ → ℕ → List ℕ
line_at r order word first i =
    if nat_lt (first + i) 256 then cell_line word i (cell_total r order (first + i)) else []

lines_next : (r : RecordingModel) (order : List Placed) (word : List ℕ) (first i n : ℕ)
    → cell_lines r order word first i (suc n)
    ≡ cell_lines r order word first i n ++ line_at r order word first (i + n)
unfolding cell_lines
lines_next r order word first i zero =
    let same : i + zero ≡ i = omega arith in
    rw same (append-nil (line_at r order word first i))
lines_next r order word first i (suc n) =
    let same : i + suc n ≡ i + 1 + n = omega arith in
    rw same (ap (λ t. line_at r order word first i ++ t) (lines_next r order word first (i + 1) n)
    ∙ sym (append_assoc (line_at r order word first i) (cell_lines r order word first (i + 1) n) _))

pub no_lines : (now : OutputModel) (r : RecordingModel) (order : List Placed) (word : List ℕ) (first : ℕ)
    → Puts now now (cell_lines r order word first 0 0)
unfolding cell_lines
no_lines now r order word first = λ begun all h. rw append-nil h

at_option : (b : Bool) (f : ℕ → List ℕ) (x : ℕ)
    → option_map_or f (if b then Some x else None) [] ≡ (if b then f x else [])
at_option true f x = refl
at_option false f x = refl

pub line_put : (a b c : OutputModel) (r : RecordingModel) (order : List Placed) (word : List ℕ)
    (first n : ℕ) (cell : Option ℕ) → Puts a b (cell_lines r order word first 0 n)
    → cell ≡ (if nat_lt (first + n) 256 then Some (first + n) else None)
    → Puts b c (option_map_or (λ x. cell_line word n (cell_total r order x)) cell [])
    → Puts a c (cell_lines r order word first 0 (n + 1))
line_put a b c r order word first n cell before is now =
    let line : option_map_or (λ x. cell_line word n (cell_total r order x)) cell []
    ≡ line_at r order word first n =
    ap (λ (o : Option ℕ). option_map_or (λ x. cell_line word n (cell_total r order x)) o []) is
    ∙ at_option (nat_lt (first + n) 256) (λ x. cell_line word n (cell_total r order x))
    (first + n) in
    let next : cell_lines r order word first 0 (n + 1)
    ≡ cell_lines r order word first 0 n ++ line_at r order word first n =
    ap (λ k. cell_lines r order word first 0 k) (add-one n) ∙ lines_next r order word first 0 n
    ∙ ap (λ k. cell_lines r order word first 0 n ++ line_at r order word first k) (add-zero n) in
    subst (Puts a c) (sym next) (puts_then a b c _ _ before (subst (Puts b c) line now))
  where
    add-zero : (k : ℕ) → 0 + k ≡ k
    add-zero k = omega arith

-- WORDS

pub event_put : (a b : OutputModel) (r : RecordingModel) (order : List Placed) (word : List ℕ)
    (target : Target) (e n : ℕ) → target ≡ Event e → n ≡ event_total r order e
    → Puts a b (count_line (codes "eventcount ") word n)
    → Puts a b (word_totals r order word target)
event_put a b r order word target e n at is put =
    subst (Puts a b) (ap (count_line (codes "eventcount ") word) is
    ∙ ap (word_totals r order word) (sym at)) put

pub sequencer_put : (a b : OutputModel) (r : RecordingModel) (order : List Placed) (word : List ℕ)
    (target : Target) (q n : ℕ) → target ≡ Sequencer q → n ≡ sequencer_total r order q
    → Puts a b (count_line (codes "sequencer ") word n)
    → Puts a b (word_totals r order word target)
sequencer_put a b r order word target q n at is put =
    subst (Puts a b) (ap (count_line (codes "sequencer ") word) is
    ∙ ap (word_totals r order word) (sym at)) put

-- the lines of these words
abbrev pub lines_of : RecordingModel → List Placed → List (List ℕ × Target) → List ℕ
lines_of r order words = flat_map (λ (e : List ℕ × Target). word_totals r order e.0 e.1) words

take_more : {A : Type 0} (xs : List A) (k : ℕ) (x : A) → slice_get xs k ≡ Some x
    → take (suc k) xs ≡ take k xs ++ x ∷ []
take_more [] k x h = cc
take_more (y ∷ ys) zero x h = let same : y ≡ x = cc in ap (λ z. z ∷ []) same
take_more (y ∷ ys) (suc k) x h = ap (λ t. y ∷ t) (take_more ys k x h)

take_past : {A : Type 0} (xs : List A) (k : ℕ) → slice_get xs k ≡ None
    → take (suc k) xs ≡ take k xs
take_past [] zero h = refl
take_past [] (suc k) h = refl
take_past (y ∷ ys) zero h = cc
take_past (y ∷ ys) (suc k) h = ap (λ t. y ∷ t) (take_past ys k h)

word_more : (r : RecordingModel) (order : List Placed) (words : List (List ℕ × Target))
    (e : List ℕ × Target) → lines_of r order (words ++ e ∷ [])
    ≡ lines_of r order words ++ word_totals r order e.0 e.1
word_more r order words e =
    flat_map-append (λ (d : List ℕ × Target). word_totals r order d.0 d.1) words (e ∷ [])
    ∙ ap (λ t. lines_of r order words ++ t) (append-nil (word_totals r order e.0 e.1))

one_more : (r : RecordingModel) (order : List Placed) (words : List (List ℕ × Target)) (k : ℕ)
    → lines_of r order (take (suc k) words)
    ≡ lines_of r order (take k words) ++ totals_at r order (slice_get words k)
one_more r order words k =
    elim (slice_get words k) as (λ o. slice_get words k ≡ o → lines_of r order (take (suc k) words)
    ≡ lines_of r order (take k words) ++ totals_at r order o) [
      | None ↦ λ q. ap (lines_of r order) (take_past words k q)
          ∙ sym (append-nil (lines_of r order (take k words)))
      | Some e ↦ λ q. ap (lines_of r order) (take_more words k e q)
          ∙ word_more r order (take k words) e
    ] refl

pub word_put : (a b c : OutputModel) (r : RecordingModel) (order : List Placed)
    (words : List (List ℕ × Target)) (k : ℕ) → Puts a b (lines_of r order (take k words))
    → Puts b c (totals_at r order (slice_get words k))
    → Puts a c (lines_of r order (take (k + 1) words))
word_put a b c r order words k before now =
    subst (Puts a c) (sym (ap (λ n. lines_of r order (take n words)) (add-one k)
    ∙ one_more r order words k)) (puts_then a b c _ _ before now)

pub words_put : (a b : OutputModel) (r : RecordingModel) (order : List Placed)
    (words : List (List ℕ × Target)) (k : ℕ) → length words ≤ k → words ≡ r.heading.words
    → Puts a b (lines_of r order (take k words)) → Puts a b (totals_text r order)
words_put a b r order words k far all put =
    subst (Puts a b) (ap (lines_of r order) (take_all k words far ∙ all)) put
