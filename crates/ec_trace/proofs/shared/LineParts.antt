-- The parts of the lines of a header.
use Rattle.std.proofs.Common.{◌≡◌, ℕ, List, [], ◌∷◌, ◌++◌, ◌+◌, ◌<◌, length, take, get_or, slice_get, arith, ◌∙◌, ap, sym, append_assoc, append-nil, zero-add, map, codes, decimal, refl, Option, Some, None}
use Rattle.std.specs.List.{cons_option, filter_map, range_with_len, join_with_byte}
use Rattle.std.proofs.lemmas.List.{map-append, take_more}
use Rattle.std.proofs.lemmas.Option.{slice_get-get_or}
use Rattle.std.proofs.lemmas.List.Concat.{flat_map-append}
use Rattle.std.proofs.lemmas.List.Elements.{filter_map-append}
use Rattle.std.proofs.lemmas.List.FromFn.{map-range_with_len_more}
use Rattle.ec_heading.specs.DeclKinds.{sort_word, opener, second_opener}
use Rattle.ec_heading.specs.HeaderTree.{Declaration}
use Rattle.ec_heading.specs.HeadingModel.{HeadingModel}
use Rattle.ec_count.specs.declared.target.Target.{Target}
use Rattle.ec_count.specs.declared.target.Target.TheVariants.{Worker}
use Rattle.ec_core.specs.declared.act.Entry.{Entry}
use Rattle.ec_heading.specs.Spelling.{entry_line, NameTable, name_words, number_words, target_name, lines_text, ended_line, limit_line, workers_line, trace_header}
use Rattle.ec_heading.specs.Recalled.{with_spaces, names_of, second_names, declared_line, declared_text, declaration_of, declarations_of, heading_text, opening_text, entry_text}

pub spaced-append : (xs ys : List (List ℕ)) → with_spaces (xs ++ ys) ≡ with_spaces xs
    ++ with_spaces ys
spaced-append xs ys = flat_map-append (λ (w : List ℕ). 32 ∷ w) xs ys

regroup : (x n o a b : List ℕ) → ((x ++ n) ++ (o ++ a)) ++ b ≡ (((x ++ n) ++ o) ++ a) ++ b
regroup x n o a b = simp append_assoc

spaced_parts : (d n : List (List ℕ)) (o : List ℕ) (a b : List (List ℕ)) → with_spaces ((d ++ n ++ o ∷ a) ++ b) ≡ (((with_spaces d ++ with_spaces n) ++ 32 ∷ o) ++ with_spaces a) ++ with_spaces b
spaced_parts d n o a b =
    spaced-append (d ++ n ++ o ∷ a) b
    ∙ ap (λ (r : List ℕ). r ++ with_spaces b) (spaced-append (d ++ n) (o ∷ a))
    ∙ ap (λ (r : List ℕ). (r ++ with_spaces (o ∷ a)) ++ with_spaces b) (spaced-append d n)
    ∙ regroup (with_spaces d) (with_spaces n) (32 ∷ o) (with_spaces a) (with_spaces b)

after : (all s x n o a b : List ℕ) → all ++ (s ++ ((((x ++ n) ++ o) ++ a) ++ b)) ≡ (((((all ++ s) ++ x) ++ n) ++ o) ++ a) ++ b
after all s x n o a b = simp append_assoc

pub line_parts : (names : NameTable) (d : Declaration) (all : List ℕ)
    → all ++ declared_line names d ≡ (((((all ++ sort_word d.sort) ++ with_spaces (name_words d.sort d.name)) ++ with_spaces (number_words d.sort d.number)) ++ 32 ∷ opener d.sort) ++ with_spaces (names_of names d.first)) ++ with_spaces (second_names names (second_opener d.sort) d.second)
line_parts names d all =
    let x = name_words d.sort d.name in
    let n = number_words d.sort d.number in
    let a = names_of names d.first in
    let b = second_names names (second_opener d.sort) d.second in
    ap (λ (r : List ℕ). all ++ (sort_word d.sort ++ r)) (spaced_parts x n (opener d.sort) a b)
    ∙ after all (sort_word d.sort) (with_spaces x) (with_spaces n) (32 ∷ opener d.sort) (with_spaces a) (with_spaces b)

-- words joined by spaces are the first, and then the others with a space before each
pub join_spaced : (w : List ℕ) (ws : List (List ℕ)) → join_with_byte 32 (w ∷ ws) ≡ w
    ++ with_spaces ws
join_spaced w [] = sym (append-nil w)
join_spaced w (v ∷ ws) = ap (λ (r : List ℕ). w ++ 32 ∷ r) (join_spaced v ws)

pub one_more_worker : (names : NameTable) (n : ℕ) (all : List ℕ)
    → all ++ with_spaces (names_of names (range_with_len 0 (n + 1))) ≡ (all ++ with_spaces (names_of names (range_with_len 0 n))) ++ 32 ∷ target_name names (Worker n)
one_more_worker names n all =
    let f : ℕ → List ℕ = λ i. target_name names (Worker i) in
    let before = with_spaces (map f (range_with_len 0 n)) in
    ap (λ (ws : List (List ℕ)). all
    ++ with_spaces ws) (map-range_with_len_more f 0 n n (zero-add n))
    ∙ ap (λ (r : List ℕ). all ++ r) (spaced-append (map f (range_with_len 0 n)) (f n ∷ []))
    ∙ ap (λ (r : List ℕ). all ++ (before ++ 32 ∷ r)) (append-nil (f n))
    ∙ sym (append_assoc all before (32 ∷ f n))

-- the text of two lists of lines is that of the first, and then that of the second
pub text_of-append : (xs ys : List (List ℕ)) → lines_text (xs ++ ys) ≡ lines_text xs
    ++ lines_text ys
text_of-append xs ys = flat_map-append ended_line xs ys

text_of_one : (names : NameTable) (o : Option Declaration) → lines_text (map (declared_line names) (cons_option o [])) ≡ declared_text names o
text_of_one names None = refl
text_of_one names (Some d) = append-nil (declared_line names d ++ 10 ∷ [])

pub one_more_target : (names : NameTable) (h : HeadingModel) (ts : List Target) (t : Target) (all : List ℕ)
    → all ++ lines_text (map (declared_line names) (filter_map (declaration_of h) (ts ++ t ∷ []))) ≡ (all ++ lines_text (map (declared_line names) (filter_map (declaration_of h) ts))) ++ declared_text names (declaration_of h t)
one_more_target names h ts t all =
    let line = declared_line names in
    let f = declaration_of h in
    let before = lines_text (map line (filter_map f ts)) in
    ap (λ (ds : List Declaration). all
    ++ lines_text (map line ds)) (filter_map-append f ts (t ∷ []))
    ∙ ap (λ (ls : List (List ℕ)). all ++ lines_text ls) (map-append line (filter_map f ts) (cons_option (f t) []))
    ∙ ap (λ (r : List ℕ). all ++ r) (text_of-append (map line (filter_map f ts)) (map line (cons_option (f t) [])))
    ∙ ap (λ (r : List ℕ). all ++ (before ++ r)) (text_of_one names (f t))
    ∙ sym (append_assoc all before (declared_text names (f t)))

headed_parts : (all lf b n c ws ds e : List ℕ)
    → all ++ (((b ++ n) ++ lf) ++ (((c ++ ws) ++ lf) ++ (ds ++ e))) ≡ ((((((all ++ b) ++ n) ++ (lf ++ c)) ++ ws) ++ lf) ++ ds) ++ e
headed_parts all lf b n c ws ds e = simp append_assoc

pub heading_parts : (names : NameTable) (h : HeadingModel) (all : List ℕ)
    → all ++ heading_text names h ≡ ((((((all ++ codes "limit ") ++ decimal h.setup.limit) ++ codes "\nworkers") ++ with_spaces (names_of names (range_with_len 0 h.setup.workers))) ++ 10 ∷ []) ++ lines_text (map (declared_line names) (declarations_of h))) ++ codes "run\n"
unfolding heading_text
heading_parts names h all =
    let ws = names_of names (range_with_len 0 h.setup.workers) in
    let lines = map (declared_line names) (declarations_of h) in
    ap (λ (r : List ℕ). all ++ ((limit_line h.setup.limit ++ 10 ∷ []) ++ ((workers_line ws ++ 10 ∷ []) ++ r))) (text_of-append lines (codes "run" ∷ []))
    ∙ ap (λ (r : List ℕ). all ++ ((limit_line h.setup.limit ++ 10 ∷ []) ++ ((r ++ 10 ∷ []) ++ (lines_text lines ++ codes "run\n")))) (join_spaced (codes "workers") ws)
    ∙ headed_parts all (10 ∷ []) (codes "limit ") (decimal h.setup.limit) (codes "workers") (with_spaces ws) (lines_text lines) (codes "run\n")

opened : (all a lf r : List ℕ) → all ++ ((a ++ lf) ++ r) ≡ ((all ++ a) ++ lf) ++ r
opened all a lf r = simp append_assoc

pub opening_parts : (names : NameTable) (h : HeadingModel) (all : List ℕ)
    → all ++ opening_text names h ≡ ((all ++ trace_header h.version) ++ 10 ∷ []) ++ heading_text names h
unfolding opening_text heading_text
opening_parts names h all = opened all (trace_header h.version) (10 ∷ []) _

ended : (a b c : List ℕ) → a ++ (b ++ (c ++ [])) ≡ (a ++ b) ++ c
ended a b c = simp (append_assoc, append-nil)

pub one_more_entry : (names : NameTable) (es : List Entry) (i : ℕ) (all : List ℕ) → i < length es
    → all ++ lines_text (map (entry_line names) (take (i + 1) es)) ≡ (all ++ lines_text (map (entry_line names) (take i es))) ++ entry_text names (slice_get es i)
one_more_entry names [] i all lt = absurd (omega arith)
one_more_entry names (d ∷ ds) i all lt =
    let es = d ∷ ds in
    let e = get_or es i d in
    let line = entry_line names in
    ap (λ (xs : List Entry). all ++ lines_text (map line xs)) (take_more es i d lt)
    ∙ ap (λ (ls : List (List ℕ)). all ++ lines_text ls) (map-append line (take i es) (e ∷ []))
    ∙ ap (λ (r : List ℕ). all ++ r) (text_of-append (map line (take i es)) (line e ∷ []))
    ∙ ended all (lines_text (map line (take i es))) (line e ++ 10 ∷ [])
    ∙ ap (λ (o : Option Entry). (all ++ lines_text (map line (take i es))) ++ entry_text names o) (sym (slice_get-get_or es i d lt))
