-- A trace is read as what it encodes, and nothing else is read.
use Rattle.std.proofs.Common.{◌≡◌, ℕ, ◌<◌, ◌≤◌, ◌^◌, List, [], ◌∷◌, ◌++◌, length, cond, true, false, eqb, Option, Some, None, Result, Ok, Err, map, refl, sym, ap, ap₂, subst, ◌∙◌, arith, codes, decimal, append_assoc, reverse, nat_lt, leb, ◌&&◌}
use Rattle.std.specs.Prelude.{bytes_eq, not, IfSome, IfOk, IfErr}
use Rattle.std.specs.Option.{option_and_then}
use Rattle.std.specs.List.{AllByRecursion, join_with_byte, list_all}
use Rattle.std.proofs.lemmas.Bool.{false_from_ne_true, and_parts, and_left, lt-ltb, ltb-true, leb-true}
use Rattle.std.proofs.lemmas.List.Elements.{All-from_recursion, recursion_from_All}
use Rattle.std.proofs.lemmas.Slice.Eq.{bytes_eq-Decides}
use Rattle.ec_core.specs.Acceptance.{IsAccepted}
use Rattle.ec_core.specs.declared.act.Entry.{Entry}
use Rattle.ec_text.specs.Words.{words_of, number_in_word}
use Rattle.ec_text.proofs.shared.WordLemmas.{words_join, split_join, literal_word}
use Rattle.ec_text.proofs.shared.NumberLemmas.{number_again, number_takes, guarded}
use Rattle.ec_heading.specs.declared.version.Version.{Version}
use Rattle.ec_heading.specs.declared.version.Version.TheVariants.{One, Two}
use Rattle.ec_heading.specs.Versions.{greatest_limit}
use Rattle.ec_heading.specs.Versions.{is_limit, as_limit, can_spell, CanSpellAll, version_of}
use Rattle.ec_heading.specs.HeadingModel.{HeadingModel}
use Rattle.ec_heading.specs.HeaderTree.{HeaderTree, IsHeaderTree, empty_heading, heading_of_tree}
use Rattle.ec_heading.specs.Form.{parts_in}
use Rattle.ec_heading.specs.Heading.{head_step, opened_by, declared_or}
use Rattle.ec_heading.specs.HeadingLaws.{LinesLead, Outlines, outline_lines}
use Rattle.ec_heading.specs.declared.heading.HeadFault.{HeadFault}
use Rattle.ec_heading.specs.declared.heading.HeadFault.TheVariants as head_faults
use Rattle.ec_trace.specs.declared.fault.LineFault.{LineFault}
use Rattle.ec_trace.specs.Stages.{Stage, Opening, Limiting, Declaring, Running, Ended}
use Rattle.ec_trace.specs.declared.fault.TraceFault.{TraceFault}
use Rattle.ec_trace.specs.declared.fault.TraceFault.TheVariants.{Read, Memory}
use Rattle.ec_trace.specs.TraceModel.{TraceModel}
use Rattle.ec_trace.specs.Outcome.{parse_result, Returns}
use Rattle.ec_heading.specs.Spelling.{limit_line, trace_header, entry_line, trace_lines, trace_text, lines_text}
use Rattle.ec_trace.specs.Grammar.{IsTrace}
use Rattle.ec_heading.proofs.shared.VersionFacts.{limit_low, limit_from, limit_parts, version_back}
use Rattle.ec_trace.specs.Step.{step, limit_of, limit_in, stage_of_version, after_limit, after_declaration}
use Rattle.ec_trace.specs.ReadingLaws.{TraceIsRead, IsTraceOf, IsNoTrace, Refuses, ReadIsTrace, TraceHasOneMeaning, TracesArePrefixFree}
use Rattle.ec_trace.specs.declared.read.TheConstants.{TRACE_MAX}
use Rattle.ec_heading.proofs.shared.Declarable.{Heads, heads_opened, heads_all}
use Rattle.ec_heading.specs.Recalled.{outline_of}
use Rattle.ec_heading.proofs.shared.TreeFound.{outline_found, version_found}
use Rattle.ec_heading.proofs.shared.LeadLines.{outline_leads, leads_outline}
use Rattle.ec_trace.specs.FirstFault.{IsLine, Leads}
use Rattle.ec_trace.proofs.Leads.{leads_append, IsText, text_read, no_front, one_meaning, text_back}
use Rattle.ec_heading.proofs.shared.Each.{each_append}
use Rattle.ec_trace.proofs.TraceLines.{line_is, literal_lacks, heading_lines_are, limit_line_is}
use Rattle.ec_heading.proofs.shared.ReadHeadings.{IsSound, sound}
use Rattle.ec_trace.proofs.ReadEntries.{number_word}
use Rattle.ec_trace.proofs.ReadRuns.{EachInVersion, entries_lead, entries_are_lines, end_leads, IsRunOf, run_back}

-- THE LINE OF THE LIMIT

limit_again : (v : Version) (n : ℕ) → 1 ≤ n → n ≤ greatest_limit v → limit_of v (limit_line n) ≡ Some n
unfolding limit_of
limit_again v n low high =
    let small : n < 2 ^ 48 = limit_low v n high in
    let words : words_of (limit_line n) ≡ codes "limit" ∷ decimal n ∷ [] = words_join (codes "limit") (decimal n ∷ []) (literal_word (codes "limit") refl, (number_word n (omega arith), tt)) in
    ap (limit_in v) words ∙ ap (option_and_then (as_limit v)) (number_again n (omega arith)) ∙ ap (λ b. cond b (Some n) None) (limit_from v n low high)

limit_leads : (v : Version) (n : ℕ) → 1 ≤ n → n ≤ greatest_limit v → step (Limiting v) (limit_line n) ≡ Ok (Declaring (empty_heading v n []))
unfolding step
limit_leads v n low high = ap (after_limit v) (limit_again v n low high)

-- such words give a limit that the version allows
pub record IsLimit (v : Version) (words : List (List ℕ)) (n : ℕ) : Type 0 where
  pub are : words ≡ codes "limit" ∷ decimal n ∷ []
  pub low : 1 ≤ n
  pub high : n ≤ greatest_limit v

range_back : (v : Version) (m n : ℕ) → as_limit v m ≡ Some n → (m ≡ n) × (1 ≤ n) × (n ≤ greatest_limit v)
range_back v m n e =
    let g = guarded (is_limit v m) (Some m) n e in
    let same : m ≡ n = cc in
    let p = subst (λ (k : ℕ). (1 ≤ k) × (k ≤ greatest_limit v)) same (limit_parts v m g.0) in
    (same, p.0, p.1)

digits_back : (v : Version) (o : Option ℕ) (n : ℕ) → option_and_then (as_limit v) o ≡ Some n → (o ≡ Some n) × (1 ≤ n) × (n ≤ greatest_limit v)
digits_back v None n e = cc
digits_back v (Some m) n e = (let r = range_back v m n e in (ap Some r.0, r.1, r.2))

pub limit_back : (v : Version) (words : List (List ℕ)) (n : ℕ) → limit_in v words ≡ Some n → IsLimit v words n
limit_back v [] n e = cc
limit_back v (w ∷ []) n e = cc
limit_back v (w ∷ d ∷ []) n e =
    let g = guarded (bytes_eq w (codes "limit")) (option_and_then (as_limit v) (number_in_word d)) n e in
    let r = digits_back v (number_in_word d) n g.1 in
    let word : w ≡ codes "limit" = (bytes_eq-Decides w (codes "limit")).0 g.0 in
    let digits : d ≡ decimal n = (number_takes d n r.0).0 in
    record { are = ap₂ (λ (x : List ℕ) (y : List ℕ). x ∷ y ∷ []) word digits; low = r.1; high = r.2 }
limit_back v (w ∷ d ∷ x ∷ words) n e = cc

pub limited_back : (v : Version) (o : Option ℕ) (s : Stage) → after_limit v o ≡ Ok s → (n : ℕ) × (o ≡ Some n) × (s ≡ Declaring (empty_heading v n []))
limited_back v None s e = cc
limited_back v (Some n) s e = (n, refl, cc)

-- THE LINES OF THE HEADER

-- `run` is no line of a header
not_heading : (h : HeadingModel) → head_step h (codes "run") ≡ Err head_faults.BadLine
unfolding head_step parts_in
not_heading h = elim (eqb h.setup.workers 0) as (λ b. cond b (opened_by h.version h.setup.limit None) (declared_or h None) ≡ Err head_faults.BadLine) [ true ↦ refl | false ↦ refl ]

not_run : (h next : HeadingModel) (line : List ℕ) → head_step h line ≡ Ok next → bytes_eq line (codes "run") ≡ false
not_run h next line e =
    false_from_ne_true _ (λ same.
    let k : Err head_faults.BadLine ≡ Ok next = sym (not_heading h) ∙ ap (head_step h) (sym ((bytes_eq-Decides line (codes "run")).0 same)) ∙ e in
    cc)

declares_so : (h next : HeadingModel) (line : List ℕ) → head_step h line ≡ Ok next → step (Declaring h) line ≡ Ok (Declaring next)
unfolding step
declares_so h next line e =
    let other : (bytes_eq line (codes "run") && nat_lt 0 h.setup.workers) ≡ false = and_left _ _ (not_run h next line e) in
    rw other (ap after_declaration e)

heading_leads : (h end : HeadingModel) (lines : List (List ℕ)) → LinesLead h lines end → Leads (Declaring h) lines (Declaring end)
heading_leads h end [] leads = ap Declaring leads
heading_leads h end (line ∷ lines) leads = (Declaring leads.0, declares_so h leads.0 line leads.1, heading_leads leads.0 end lines leads.2)

pub run_leads : (h : HeadingModel) → 0 < h.setup.workers → step (Declaring h) (codes "run") ≡ Ok (Running (record { heading = h; entries = [] }))
unfolding step
run_leads h some = let l : nat_lt 0 h.setup.workers ≡ true = lt-ltb _ _ some in rw l refl

-- the lines of a header, `run`, and what follows
record IsHeaded (h : HeadingModel) (lines : List (List ℕ)) (t : TraceModel) : Type 0 where
  head : List (List ℕ)
  rest : List (List ℕ)
  end : HeadingModel
  lines_are : lines ≡ head ++ codes "run" ∷ rest
  heads : LinesLead h head end
  some : 0 < end.setup.workers
  runs : Leads (Running (record { heading = end; entries = [] })) rest (Ended t)

pub declared_back : (r : Result HeadingModel HeadFault) (s : Stage) → after_declaration r ≡ Ok s → (h : HeadingModel) × (r ≡ Ok h) × (s ≡ Declaring h)
declared_back (Ok h) s e = (h, refl, cc)
declared_back (Err f) s e = cc

headed_here : (h : HeadingModel) (line : List ℕ) (lines : List (List ℕ)) (t : TraceModel) → line ≡ codes "run" → 0 < h.setup.workers → Leads (Running (record { heading = h; entries = [] })) lines (Ended t) → IsHeaded h (line ∷ lines) t
headed_here h line lines t is some leads = record { head = []; rest = lines; end = h; lines_are = ap (λ (l : List ℕ). l ∷ lines) is; heads = refl; some = some; runs = leads }

headed_along : (h next : HeadingModel) (line : List ℕ) (lines : List (List ℕ)) (t : TraceModel) → head_step h line ≡ Ok next → IsHeaded next lines t → IsHeaded h (line ∷ lines) t
headed_along h next line lines t e r = record {
  head = line ∷ r.head;
  rest = r.rest;
  end = r.end;
  lines_are = ap (λ (ls : List (List ℕ)). line ∷ ls) r.lines_are;
  heads = (next, e, r.heads);
  some = r.some;
  runs = r.runs;
}

ok_is : (x y : Stage) → ◌≡◌ {A = Result Stage LineFault} (Ok x) (Ok y) → y ≡ x
ok_is x y e = cc

heading_back : (h : HeadingModel) (lines : List (List ℕ)) (t : TraceModel) → Leads (Declaring h) lines (Ended t) → IsHeaded h lines t
unfolding step
heading_back h [] t leads = cc
heading_back h (line ∷ lines) t (next, taken, leads) =
    elim (bytes_eq line (codes "run") && nat_lt 0 h.setup.workers) as (λ b. (bytes_eq line (codes "run") && nat_lt 0 h.setup.workers) ≡ b → cond b (Ok (Running (record { heading = h; entries = [] }))) (after_declaration (head_step h line)) ≡ Ok next → IsHeaded h (line ∷ lines) t) [
      | true ↦ λ q g.
          (let p = and_parts (bytes_eq line (codes "run")) (nat_lt 0 h.setup.workers) q in
          headed_here h line lines t ((bytes_eq-Decides line (codes "run")).0 p.0) (ltb-true _ _ p.1) (subst (λ (s : Stage). Leads s lines (Ended t)) (ok_is (Running (record { heading = h; entries = [] })) next g) leads))
      | false ↦ λ q g.
          (let d = declared_back (head_step h line) next g in
          headed_along h d.0 line lines t d.1 (heading_back d.0 lines t (subst (λ (s : Stage). Leads s lines (Ended t)) d.2 leads)))
    ] refl taken

-- ENCODINGS ARE READ

first_line_leads : (v : Version) → step Opening (trace_header v) ≡ Ok (Limiting v)
unfolding step
first_line_leads One = refl
first_line_leads Two = refl

has_workers : (o : HeaderTree) → IsHeaderTree o → 0 < (heading_of_tree o).setup.workers
has_workers o is =
    let h : Heads o.workers (heading_of_tree o) = heads_all o.workers (empty_heading o.version o.limit o.workers) o.declarations (heads_opened o.version o.limit o.workers) in
    omega (arith, h.count, is.workers.some)

abbrev recount : HeaderTree → List Entry → TraceModel
recount o es = record { heading = heading_of_tree o; entries = es }

-- the lines after the first two
abbrev behind : HeaderTree → List Entry → List (List ℕ)
behind o es = (outline_lines o ++ codes "run" ∷ map (entry_line (heading_of_tree o).words) es) ++ codes "end" ∷ []

-- what the version of a syntax tree allows, the version of its header allows
each_in_version : (o : HeaderTree) (es : List Entry) → CanSpellAll o.version es → EachInVersion (heading_of_tree o) es
each_in_version o es can = subst (λ (v : Version). AllByRecursion (λ (e : Entry). can_spell v e.act ≡ true) es) (sym (version_found o)) (recursion_from_All (λ (e : Entry). can_spell o.version e.act ≡ true) es can)

all_in_version : (o : HeaderTree) (es : List Entry) → EachInVersion (heading_of_tree o) es → CanSpellAll o.version es
all_in_version o es can = All-from_recursion (λ (e : Entry). can_spell o.version e.act ≡ true) es (subst (λ (v : Version). AllByRecursion (λ (e : Entry). can_spell v e.act ≡ true) es) (version_found o) can)

behind_leads : (o : HeaderTree) (es : List Entry) → IsHeaderTree o → CanSpellAll o.version es → IsAccepted (heading_of_tree o).setup (reverse es) → Leads (Declaring (empty_heading o.version o.limit [])) (behind o es) (Ended (recount o es))
behind_leads o es is can acc =
    leads_append (Declaring (empty_heading o.version o.limit [])) (Running (recount o es)) (Ended (recount o es)) (outline_lines o ++ codes "run" ∷ map (entry_line (heading_of_tree o).words) es) (codes "end" ∷ [])
    (leads_append (Declaring (empty_heading o.version o.limit [])) (Declaring (heading_of_tree o)) (Running (recount o es)) (outline_lines o) (codes "run" ∷ map (entry_line (heading_of_tree o).words) es)
    (heading_leads (empty_heading o.version o.limit []) (heading_of_tree o) (outline_lines o) (outline_leads o is))
    (Running (recount o []), run_leads (heading_of_tree o) (has_workers o is), entries_lead (heading_of_tree o) [] es (sound o is) (each_in_version o es can) acc))
    (end_leads (recount o es))

all_lead : (o : HeaderTree) (es : List Entry) → IsHeaderTree o → CanSpellAll o.version es → IsAccepted (heading_of_tree o).setup (reverse es) → Leads Opening (trace_lines o es) (Ended (recount o es))
all_lead o es is can acc =
    (Limiting o.version, first_line_leads o.version, (Declaring (empty_heading o.version o.limit []), limit_leads o.version o.limit is.low is.high, behind_leads o es is can acc))

literal_is : (line : List ℕ) → list_all (λ b. not (eqb b 10)) line ≡ true → leb (length line) 8192 ≡ true → IsLine line
literal_is line clean short = line_is line (literal_lacks line clean) (leb-true _ _ short)

first_line_is : (v : Version) → IsLine (trace_header v)
first_line_is One = literal_is (codes "evc-trace 1") refl refl
first_line_is Two = literal_is (codes "evc-trace 2") refl refl

all_lines : (o : HeaderTree) (es : List Entry) → IsHeaderTree o → IsAccepted (heading_of_tree o).setup (reverse es) → AllByRecursion IsLine (trace_lines o es)
all_lines o es is acc = (
  first_line_is o.version,
  (
    limit_line_is o.limit (limit_low o.version o.limit is.high),
    each_append IsLine (outline_lines o ++ codes "run" ∷ map (entry_line (heading_of_tree o).words) es) (codes "end" ∷ [])
        (each_append IsLine (outline_lines o) (codes "run" ∷ map (entry_line (heading_of_tree o).words) es)
        (heading_lines_are o (empty_heading o.version o.limit []) (heading_of_tree o) is (outline_leads o is))
        (literal_is (codes "run") refl refl, entries_are_lines (heading_of_tree o) [] es (sound o is) acc))
        (literal_is (codes "end") refl refl, tt),
  ),
)

is_text : (bytes : List ℕ) (o : HeaderTree) (es : List Entry) → IsTrace bytes o es → IsText bytes (trace_lines o es) (recount o es)
unfolding trace_text
is_text bytes o es h = record { spelled = h.text; each = all_lines o es h.heading h.accepted; leads = all_lead o es h.heading h.spelled h.accepted }

pub trace_is_read : TraceIsRead
trace_is_read bytes o es h = text_read TRACE_MAX bytes (trace_lines o es) (recount o es) h.within (is_text bytes o es h)

pub traces_are_prefix_free : TracesArePrefixFree
traces_are_prefix_free bytes more o p es fs h k = no_front bytes more (trace_lines o es) (trace_lines p fs) (recount o es) (recount p fs) (is_text bytes o es h) (is_text (bytes ++ more) p fs k)

pub trace_has_one_meaning : TraceHasOneMeaning
trace_has_one_meaning bytes o p es fs h k =
    let same : recount o es ≡ recount p fs = one_meaning bytes (trace_lines o es) (trace_lines p fs) (recount o es) (recount p fs) (is_text bytes o es h) (is_text bytes p fs k) in
    let heading : heading_of_tree o ≡ heading_of_tree p = ap (λ (t : TraceModel). t.heading) same in
    (sym (outline_found o h.heading) ∙ ap outline_of heading ∙ outline_found p k.heading, ap (λ (t : TraceModel). t.entries) same)

-- WHAT IS READ IS AN ENCODING

-- the lines that were read are those of a trace
record AreOf (lines : List (List ℕ)) (t : TraceModel) : Type 0 where
  outline : HeaderTree
  is : IsHeaderTree outline
  declares : heading_of_tree outline ≡ t.heading
  accepted : IsAccepted (heading_of_tree outline).setup (reverse t.entries)
  can : CanSpellAll outline.version t.entries
  lines_are : lines ≡ trace_lines outline t.entries

-- the header of such lines has a syntax tree
head_outline : (v : Version) (n : ℕ) (head : List (List ℕ)) (end : HeadingModel) → 1 ≤ n → n ≤ greatest_limit v → 0 < end.setup.workers → LinesLead (empty_heading v n []) head end → Outlines v n head end
head_outline v n [] end low high some leads = absurd (let e : (empty_heading v n []).setup.workers ≡ end.setup.workers = ap (λ (h : HeadingModel). h.setup.workers) leads in omega arith)
head_outline v n (line ∷ lines) end low high some leads = leads_outline v n line lines end low high leads

put_together : (v : Version) (n : ℕ) (head rest : List (List ℕ)) (end : HeadingModel) (t : TraceModel) → Outlines v n head end → IsRunOf end [] rest t → AreOf (trace_header v ∷ limit_line n ∷ (head ++ codes "run" ∷ rest)) t
put_together v n head rest end t o r =
    let heading : t.heading ≡ end = ap (λ (u : TraceModel). u.heading) r.ends in
    let entries : t.entries ≡ r.entries = ap (λ (u : TraceModel). u.entries) r.ends in
    let names : map (entry_line end.words) r.entries ≡ map (entry_line (heading_of_tree o.outline).words) t.entries =
    ap₂ (λ (h : HeadingModel) (es : List Entry). map (entry_line h.words) es) o.end_is (sym entries) in
    let tail : rest ≡ map (entry_line (heading_of_tree o.outline).words) t.entries ++ codes "end" ∷ [] = r.lines_are ∙ ap (λ (ls : List (List ℕ)). ls ++ codes "end" ∷ []) names in
    let body : head ++ codes "run" ∷ rest ≡ behind o.outline t.entries =
    ap₂ (λ (a b : List (List ℕ)). a ++ codes "run" ∷ b) o.lines_are tail
    ∙ sym (append_assoc (outline_lines o.outline) (codes "run" ∷ map (entry_line (heading_of_tree o.outline).words) t.entries) (codes "end" ∷ [])) in
    record {
      outline = o.outline;
      is = o.is;
      declares = sym o.end_is ∙ sym heading;
      accepted = subst (λ (es : List Entry). IsAccepted (heading_of_tree o.outline).setup (reverse es)) (sym entries) (subst (λ (h : HeadingModel). IsAccepted h.setup (reverse r.entries)) o.end_is r.accepted);
      can = subst (CanSpellAll o.outline.version) (sym entries) (all_in_version o.outline r.entries (subst (λ (h : HeadingModel). EachInVersion h r.entries) o.end_is r.can));
      lines_are =
          ap (λ (w : Version). trace_header w ∷ limit_line n ∷ (head ++ codes "run" ∷ rest)) (sym o.version_is)
          ∙ ap₂ (λ (m : ℕ) (ls : List (List ℕ)). trace_header o.outline.version ∷ limit_line m ∷ ls) (sym o.limit_is) body;
    }

-- after the limit
declaring_back : (v : Version) (n : ℕ) (lines : List (List ℕ)) (t : TraceModel) → 1 ≤ n → n ≤ greatest_limit v → Leads (Declaring (empty_heading v n [])) lines (Ended t) → AreOf (trace_header v ∷ limit_line n ∷ lines) t
declaring_back v n lines t low high leads =
    let h = heading_back (empty_heading v n []) lines t leads in
    let o = head_outline v n h.head h.end low high h.some h.heads in
    let s : IsSound h.end = subst IsSound (sym o.end_is) (sound o.outline o.is) in
    let r = run_back h.end [] h.rest t s tt h.runs in
    subst (λ (ls : List (List ℕ)). AreOf (trace_header v ∷ limit_line n ∷ ls) t) (sym h.lines_are) (put_together v n h.head h.rest h.end t o r)

-- after the first line
behind_first : (v : Version) (lines : List (List ℕ)) (t : TraceModel) → Leads (Limiting v) lines (Ended t) → AreOf (trace_header v ∷ lines) t
unfolding step limit_of
behind_first v [] t leads = cc
behind_first v (line ∷ lines) t (next, taken, leads) =
    let l = limited_back v (limit_of v line) next taken in
    let k = limit_back v (words_of line) l.0 l.1 in
    let is : line ≡ limit_line l.0 = sym (split_join line) ∙ ap (join_with_byte 32) k.are in
    subst (λ (x : List ℕ). AreOf (trace_header v ∷ x ∷ lines) t) (sym is) (declaring_back v l.0 lines t k.low k.high (subst (λ (s : Stage). Leads s lines (Ended t)) l.2 leads))

limiting_back : (o : Option Version) (s : Stage) → stage_of_version o ≡ Ok s → (v : Version) × (o ≡ Some v) × (s ≡ Limiting v)
limiting_back None s e = cc
limiting_back (Some v) s e = (v, refl, cc)

pub first_back : (line : List ℕ) (next : Stage) → step Opening line ≡ Ok next → (v : Version) × (line ≡ trace_header v) × (next ≡ Limiting v)
unfolding step
first_back line next e = (let l = limiting_back (version_of trace_header line) next e in (l.0, version_back trace_header line l.0 l.1, l.2))

opening_back : (lines : List (List ℕ)) (t : TraceModel) → Leads Opening lines (Ended t) → AreOf lines t
opening_back [] t leads = cc
opening_back (line ∷ lines) t (next, taken, leads) =
    let f = first_back line next taken in
    subst (λ (x : List ℕ). AreOf (x ∷ lines) t) (sym f.1) (behind_first f.0 lines t (subst (λ (s : Stage). Leads s lines (Ended t)) f.2 leads))

-- bytes that are read as a header and a history are the trace of these
pub read_is_trace : ReadIsTrace
unfolding trace_text
read_is_trace bytes t e =
    let r = text_back TRACE_MAX bytes t e in
    let a = opening_back r.0.lines t r.0.leads in record {
      outline = a.outline;
      trace = record { heading = a.is; accepted = a.accepted; spelled = a.can; text = r.0.spelled ∙ ap lines_text a.lines_are; within = r.1 };
      declares = a.declares;
    }

-- WHAT A RESULT SAYS OF THE BYTES

pub told_trace : (a left : Option (List ℕ)) (r : Result TraceModel TraceFault) → IfSome a (λ bytes. Returns TRACE_MAX bytes left r) → IfSome a (λ bytes. IfOk r (IsTraceOf bytes))
told_trace None left r h = tt
told_trace (Some bytes) left (Ok t) h = read_is_trace bytes t h
told_trace (Some bytes) left (Err f) h = tt

pub trace_refuses : (bytes : List ℕ) (f : TraceFault) → parse_result TRACE_MAX bytes ≡ Err f → IsNoTrace bytes
trace_refuses bytes f e o es h = (let k : Ok (recount o es) ≡ Err f = sym (trace_is_read bytes o es h) ∙ e in cc)

fault_refuses : (bytes : List ℕ) (left : Option (List ℕ)) (f : TraceFault) → Returns TRACE_MAX bytes left (Err f) → Refuses f bytes
fault_refuses bytes left Memory h = tt
fault_refuses bytes left Read h = tt
fault_refuses bytes left f h = trace_refuses bytes f h

pub told_fault : (a left : Option (List ℕ)) (r : Result TraceModel TraceFault) → IfSome a (λ bytes. Returns TRACE_MAX bytes left r) → IfSome a (λ bytes. IfErr r (λ f. Refuses f bytes))
told_fault None left r h = tt
told_fault (Some bytes) left (Ok t) h = tt
told_fault (Some bytes) left (Err f) h = fault_refuses bytes left f h

-- what is written is read as what was written
pub written_is_read : (o : HeaderTree) (entries : List Entry) → IsHeaderTree o → IsAccepted (heading_of_tree o).setup (reverse entries) → CanSpellAll o.version entries → length (trace_text o entries) ≤ TRACE_MAX
    → parse_result TRACE_MAX (trace_text o entries) ≡ Ok (record { heading = heading_of_tree o; entries = entries })
written_is_read o entries outline accepted can within =
    trace_is_read (trace_text o entries) o entries (record { heading = outline; accepted = accepted; spelled = can; text = refl; within = within })
