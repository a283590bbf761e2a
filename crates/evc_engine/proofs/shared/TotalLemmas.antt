-- The lines of totals, one after another.
use Rattle.std.proofs.Common.{◌≡◌, ℕ, zero, suc, ◌+◌, List, [], ◌∷◌, ◌++◌, ap, sym, ◌∙◌, arith, add-one, append_assoc, append-nil, subst, codes, Some, take, slice_get, None, inl, inr, length, ◌≤◌, map}
use Rattle.std.specs.List.{flat_map}
use Rattle.std.proofs.lemmas.List.Concat.{flat_map-append}
use Rattle.ec_count.specs.declared.target.Target.{Target}
use Rattle.ec_count.specs.declared.target.Target.TheVariants.{Event, Sequencer, Cells}
use Rattle.ec_core.specs.declared.act.Entry.{Entry}
use Rattle.ec_core.specs.Counts.{total, issued, cell_value}
use Rattle.ec_text.specs.Puts.{Puts, OutputModel}
use Rattle.ec_text.proofs.shared.PutLemmas.{puts_then}
use Rattle.ec_heading.specs.HeadingModel.{HeadingModel}
use Rattle.std.proofs.lemmas.List.{take_all, take_more, map-append}
use Rattle.std.proofs.lemmas.Option.{slice_get_cases, slice_get_within, get_or_from_slice_get}
use Rattle.ec_heading.specs.Spelling.{NameTable, lines_text, ended_line}
use Rattle.evc_engine.specs.Texts.{cell_line, cell_lines, count_line, totals_of, totals_by}

-- a prefix that is one longer has the element at the next index too
pub take_next : {A : Type 0} (xs : List A) (k : ℕ) (x : A) → slice_get xs k ≡ Some x → take (k + 1) xs ≡ take k xs ++ x ∷ []
take_next xs k x h = take_more xs k x (slice_get_within xs k x h) ∙ ap (λ z. take k xs ++ z ∷ []) (get_or_from_slice_get xs k x x h)

-- one more line at the end
pub cells_next : (name : List ℕ) (past : List Entry) (first i n : ℕ)
    → lines_text (cell_lines name past first i (suc n)) ≡ lines_text (cell_lines name past first i n) ++ ended_line (cell_line name (i + n) (cell_value (first + (i + n)) past))
unfolding cell_lines
cells_next name past first i zero =
    (let same : i + zero ≡ i = omega arith in
    rw same (append-nil (ended_line (cell_line name i (cell_value (first + i) past)))))
cells_next name past first i (suc n) =
    (let same : i + suc n ≡ i + 1 + n = omega arith in
    rw same (ap (λ t. ended_line (cell_line name i (cell_value (first + i) past)) ++ t) (cells_next name past first (i + 1) n)
    ∙ sym (append_assoc (ended_line (cell_line name i (cell_value (first + i) past))) (lines_text (cell_lines name past first (i + 1) n)) _)))

pub none_put : (now : OutputModel) (name : List ℕ) (past : List Entry) (first : ℕ) → Puts now now (lines_text (cell_lines name past first 0 0))
unfolding cell_lines
none_put now name past first = λ first all h. rw append-nil h

pub cell_put : (a b c : OutputModel) (name : List ℕ) (past : List Entry) (first n value : ℕ)
    → Puts a b (lines_text (cell_lines name past first 0 n)) → value ≡ cell_value (first + n) past → Puts b c (cell_line name n value ++ 10 ∷ [])
    → Puts a c (lines_text (cell_lines name past first 0 (n + 1)))
cell_put a b c name past first n value before is now =
    (let at : 0 + n ≡ n = omega arith in
    let next : lines_text (cell_lines name past first 0 (n + 1)) ≡ lines_text (cell_lines name past first 0 n) ++ ended_line (cell_line name n value)
    = ap (λ k. lines_text (cell_lines name past first 0 k)) (add-one n) ∙ cells_next name past first 0 n
    ∙ ap (λ k. lines_text (cell_lines name past first 0 n) ++ ended_line (cell_line name k (cell_value (first + k) past))) at
    ∙ ap (λ v. lines_text (cell_lines name past first 0 n) ++ ended_line (cell_line name n v)) (sym is) in
    subst (Puts a c) (sym next) (puts_then a b c _ _ before now))

-- the one line of a word
pub one_put : (a b : OutputModel) (past : List Entry) (word : List ℕ) (target : Target) (line : List ℕ) → totals_of past word target ≡ line ∷ []
    → Puts a b (line ++ 10 ∷ []) → Puts a b (lines_text (totals_of past word target))
one_put a b past word target line is put =
    subst (Puts a b) (sym (ap lines_text is ∙ append-nil (ended_line line))) put

pub event_put : (a b : OutputModel) (past : List Entry) (word : List ℕ) (target : Target) (e n : ℕ) → target ≡ Event e → n ≡ total e past
    → Puts a b (count_line (codes "eventcount ") word n ++ 10 ∷ []) → Puts a b (lines_text (totals_of past word target))
event_put a b past word target e n at is put =
    one_put a b past word target (count_line (codes "eventcount ") word n)
    (ap (totals_of past word) at ∙ ap (λ k. count_line (codes "eventcount ") word k ∷ []) (sym is)) put

pub sequencer_put : (a b : OutputModel) (past : List Entry) (word : List ℕ) (target : Target) (q n : ℕ) → target ≡ Sequencer q → n ≡ issued q past
    → Puts a b (count_line (codes "sequencer ") word n ++ 10 ∷ []) → Puts a b (lines_text (totals_of past word target))
sequencer_put a b past word target q n at is put =
    one_put a b past word target (count_line (codes "sequencer ") word n)
    (ap (totals_of past word) at ∙ ap (λ k. count_line (codes "sequencer ") word k ∷ []) (sym is)) put

pub cells_put : (a b : OutputModel) (past : List Entry) (word : List ℕ) (target : Target) (first n : ℕ) → target ≡ Cells first n
    → Puts a b (lines_text (cell_lines word past first 0 n)) → Puts a b (lines_text (totals_of past word target))
cells_put a b past word target first n at put = subst (Puts a b) (ap (λ t. lines_text (totals_of past word t)) (sym at)) put

nothing_put : (now : OutputModel) → Puts now now []
nothing_put now = λ first all h. rw append-nil h

pub nothing_put_for : (now : OutputModel) (lines : List (List ℕ)) → lines ≡ [] → Puts now now (lines_text lines)
nothing_put_for now lines none = subst (λ ls. Puts now now (lines_text ls)) (sym none) (nothing_put now)

-- after the last element a prefix gets no longer
pub none_at : {A : Type 0} (xs : List A) (k : ℕ) → slice_get xs k ≡ None → take (k + 1) xs ≡ take k xs
none_at xs k none = elim (slice_get_cases xs k).1 [
  | inl p ↦ (let got = p.2 in cc)
  | inr past ↦ take_all (k + 1) xs (let far = past.0 in omega arith) ∙ sym (take_all k xs past.0)
]

-- what is listed for one more element
pub flat_next : {A B : Type 0} (f : A → List B) (xs : List A) (k : ℕ) (x : A) → slice_get xs k ≡ Some x → flat_map f (take (k + 1) xs) ≡ flat_map f (take k xs) ++ f x
flat_next f xs k x is = ap (flat_map f) (take_next xs k x is) ∙ flat_map-append f (take k xs) (x ∷ []) ∙ ap (λ t. flat_map f (take k xs) ++ t) (append-nil (f x))

-- the totals of one more word
pub totals_put : (a b c : OutputModel) (past : List Entry) (words : NameTable) (k : ℕ) (e : List ℕ × Target) → slice_get words k ≡ Some e
    → Puts a b (lines_text (totals_by past (take k words))) → Puts b c (lines_text (totals_of past e.0 e.1))
    → Puts a c (lines_text (totals_by past (take (k + 1) words)))
totals_put a b c past words k e is before now =
    (let text : lines_text (totals_by past (take (k + 1) words)) ≡ lines_text (totals_by past (take k words)) ++ lines_text (totals_of past e.0 e.1)
    = ap lines_text (flat_next (λ (d : List ℕ × Target). totals_of past d.0 d.1) words k e is) ∙ flat_map-append ended_line (totals_by past (take k words)) (totals_of past e.0 e.1) in
    subst (Puts a c) (sym text) (puts_then a b c _ _ before now))

-- if the lines of each word are put, all lines of totals are put
pub totals_all : (a b : OutputModel) (past : List Entry) (words : NameTable) (k : ℕ) (heading : HeadingModel) → length words ≤ k → words ≡ heading.words
    → Puts a b (lines_text (totals_by past (take k words))) → Puts a b (lines_text (totals_by past heading.words))
totals_all a b past words k heading far all put =
    subst (Puts a b) (ap (λ ws. lines_text (totals_by past ws)) (take_all k words far ∙ all)) put

-- one more line of a list
pub line_put : {P : Type 0} (a b c : OutputModel) (f : P → List ℕ) (ps : List P) (p : P)
    → Puts a b (lines_text (map f ps)) → Puts b c (f p ++ 10 ∷ []) → Puts a c (lines_text (map f (ps ++ p ∷ [])))
line_put {P} a b c f ps p before now =
    (let text : lines_text (map f (ps ++ p ∷ [])) ≡ lines_text (map f ps) ++ (f p ++ 10 ∷ [])
    = ap lines_text (map-append f ps (p ∷ [])) ∙ flat_map-append ended_line (map f ps) (f p ∷ []) ∙ ap (λ t. lines_text (map f ps) ++ t) (append-nil (ended_line (f p))) in
    subst (Puts a c) (sym text) (puts_then a b c _ _ before now))
