-- The text of a trace, by the names of its header, is the trace of the header's syntax tree.
use Rattle.std.proofs.Common.{◌≡◌, ℕ, List, [], ◌∷◌, ◌++◌, map, Option, Some, None, refl, sym, ap, ◌∙◌, append_assoc, codes}
use Rattle.std.specs.List.{join_with_byte}
use Rattle.ec_core.specs.declared.act.Entry.{Entry}
use Rattle.ec_heading.specs.DeclKinds.{sort_word, opener, second_opener}
use Rattle.ec_heading.specs.declared.version.Version.{Version}
use Rattle.ec_heading.specs.HeaderTree.{Declaration, HeaderTree, IsHeaderTree, heading_of_tree}
use Rattle.ec_heading.specs.Spelling.{NameTable, list_words, second_words, name_words, number_words, declaration_line, limit_line, workers_line, trace_header, entry_line, heading_lines, ended_line, lines_text, trace_text}
use Rattle.ec_heading.specs.Recalled.{names_of, second_names, declared_line, declarations_of, worker_names, heading_text, opening_text, written_text}
use Rattle.ec_trace.proofs.shared.LineParts.{join_spaced, text_of-append}
use Rattle.ec_heading.proofs.shared.TreeNames.{workers_found}
use Rattle.ec_heading.proofs.shared.TreeFound.{declarations_found, name_of_worker, version_found, limit_found, worker_names_found}

second_same : (ws : List (List ℕ)) (names : NameTable) (o : Option (List ℕ)) (ids : List ℕ) → ((is : List ℕ) → names_of names is ≡ list_words ws is) → second_names names o ids ≡ second_words ws o ids
second_same ws names None ids h = refl
second_same ws names (Some word) [] h = refl
second_same ws names (Some word) (i ∷ ids) h = ap (λ (r : List (List ℕ)). word ∷ r) (h (i ∷ ids))

line_same : (ws : List (List ℕ)) (names : NameTable) (d : Declaration) → ((is : List ℕ) → names_of names is ≡ list_words ws is) → declared_line names d ≡ declaration_line ws d
line_same ws names d h =
    sym (join_spaced (sort_word d.sort) _)
    ∙ ap (λ (r : List (List ℕ)). join_with_byte 32 (sort_word d.sort ∷ (name_words d.sort d.name ++ number_words d.sort d.number ++ opener d.sort ∷ r) ++ second_names names (second_opener d.sort) d.second)) (h d.first)
    ∙ ap (λ (r : List (List ℕ)). join_with_byte 32 (sort_word d.sort ∷ (name_words d.sort d.name ++ number_words d.sort d.number ++ opener d.sort ∷ list_words ws d.first) ++ r)) (second_same ws names (second_opener d.sort) d.second h)

lines_same : (ws : List (List ℕ)) (names : NameTable) (ds : List Declaration) → ((is : List ℕ) → names_of names is ≡ list_words ws is) → map (declared_line names) ds ≡ map (declaration_line ws) ds
lines_same ws names [] h = refl
lines_same ws names (d ∷ ds) h = let first = line_same ws names d h in let rest = lines_same ws names ds h in (cc)

regroup : (a run es e : List (List ℕ)) → (lines_text (a ++ run) ++ lines_text es) ++ lines_text e ≡ lines_text ((a ++ (run ++ es)) ++ e)
regroup a run es e =
    ap (λ (r : List ℕ). r ++ lines_text e) (sym (text_of-append (a ++ run) es))
    ∙ sym (text_of-append ((a ++ run) ++ es) e)
    ∙ ap (λ (r : List (List ℕ)). lines_text (r ++ e)) (append_assoc a run es)

pub heading_found : (o : HeaderTree) → IsHeaderTree o → heading_text (heading_of_tree o).words (heading_of_tree o) ≡ lines_text (heading_lines o ++ codes "run" ∷ [])
unfolding heading_text
heading_found o is =
    let h = heading_of_tree o in
    let named : (ids : List ℕ) → names_of h.words ids ≡ list_words o.workers ids = λ ids. workers_found o.workers h.words ids (name_of_worker o) in
    let limit = limit_found o in
    let workers = worker_names_found o in
    let lines : map (declared_line h.words) (declarations_of h) ≡ map (declaration_line o.workers) o.declarations =
    ap (map (declared_line h.words)) (declarations_found o is) ∙ lines_same o.workers h.words o.declarations named in
    let prefix : limit_line h.setup.limit ∷ workers_line (worker_names h) ∷ map (declared_line h.words) (declarations_of h) ≡ heading_lines o = cc in
    ap (λ (a : List (List ℕ)). lines_text (a ++ codes "run" ∷ [])) prefix

pub text_found : (o : HeaderTree) (entries : List Entry) → IsHeaderTree o → written_text (heading_of_tree o).words (heading_of_tree o) entries ≡ trace_text o entries
unfolding opening_text trace_text
text_found o entries is =
    let h = heading_of_tree o in
    let whole : List ℕ → List ℕ = λ r. r ++ lines_text (map (entry_line h.words) entries) ++ codes "end\n" in
    ap (λ (r : List ℕ). whole (ended_line (trace_header h.version) ++ r)) (heading_found o is)
    ∙ ap (λ (v : Version). whole (ended_line (trace_header v) ++ lines_text (heading_lines o ++ codes "run" ∷ []))) (version_found o)
    ∙ regroup (trace_header o.version ∷ heading_lines o) (codes "run" ∷ []) (map (entry_line h.words) entries) (codes "end" ∷ [])
