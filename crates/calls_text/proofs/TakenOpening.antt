-- The lines before `run` of a history that keeps the rules are accepted.
use Rattle.std.proofs.Common.{◌≡◌, ℕ, zero, suc, ◌<◌, ◌≤◌, List, [], ◌∷◌, ◌++◌, length, map, Bool}
use Rattle.std.proofs.Common.{true, false, cond, eqb, nat_lt, nat_le, ◌&&◌, Option, Some, None, Ok}
use Rattle.std.proofs.Common.{Err, if◌then◌else◌, refl, sym, ap, ◌∙◌, subst, arith, codes, decimal}
use Rattle.std.proofs.Common.{bytes_eq, get_or, ne_eqb, append_assoc, append-nil, length-append}
use Rattle.std.specs.List.{AllByRecursion, join_with_byte}
use Rattle.std.proofs.lemmas.Bool.{true≢false, and_parts, and_from, or_parts, or_right, lt-ltb}
use Rattle.std.proofs.lemmas.Bool.{le-leb, false_from_ne_true, ltb-true, and_left}
use Rattle.std.proofs.lemmas.List.Elements.{All-from_recursion, recursion_from_All}
use Rattle.std.proofs.lemmas.Slice.Eq.{bytes_eq-Decides}
use Rattle.ec_count.specs.Reserved.{is_name, is_name_byte, is_reserved}
use Rattle.ec_text.specs.Words.{words_of, number_in_word, is_number_form}
use Rattle.ec_text.proofs.shared.NumberLemmas.{number_again, number_is_form}
use Rattle.ec_heading.specs.declared.decl_kind.DeclKind.{DeclKind}
use Rattle.ec_heading.specs.declared.version.Version.TheVariants.{Two}
use Rattle.ec_heading.specs.declared.heading.HeadFault.TheVariants as heads
use Rattle.ec_heading.specs.Versions.{is_limit, greatest_limit}
use Rattle.ec_heading.specs.Form.{parts_in}
use Rattle.ec_heading.specs.HeadingModel.{HeadingModel}
use Rattle.ec_heading.specs.Heading.{head_step, is_no_line, words_step, opened_by, declared_or}
use Rattle.ec_heading.specs.Heading.{workers_in}
use Rattle.ec_heading.specs.HeadingLaws.{LinesLead, outline_lines}
use Rattle.ec_heading.specs.HeaderTree.{Declaration, HeaderTree, IsHeaderTree, IsDeclarable, AreDeclarable}
use Rattle.ec_heading.specs.HeaderTree.{empty_heading}
use Rattle.ec_heading.specs.HeaderTree.{with_declaration}
use Rattle.ec_heading.specs.HeadingInvariant.{HasHeaderTree}
use Rattle.ec_heading.specs.DeclKinds.{sort_word, has_name, has_number, opener, second_opener}
use Rattle.ec_heading.specs.DeclKinds.{is_called}
use Rattle.ec_heading.specs.EntryWords.{event_in}
use Rattle.ec_heading.specs.Spelling.{limit_line, declaration_line, declaration_words, list_words}
use Rattle.ec_heading.specs.Spelling.{name_words, number_words, second_words}
use Rattle.ec_heading.proofs.shared.Each.{each_append, each_weaker}
use Rattle.ec_heading.proofs.shared.DeclKindFacts.{is_literal, literal, literal_lacks as letters_lack}
use Rattle.ec_heading.proofs.shared.DeclKindFacts.{is_stop, other_stop, sort_literal}
use Rattle.ec_heading.proofs.shared.DeclKindFacts.{opener_literal, number_small, name_called}
use Rattle.ec_heading.proofs.shared.DeclKindFacts.{called}
use Rattle.ec_heading.proofs.shared.VersionFacts.{limit_from}
use Rattle.calls_text.specs.Reading.{Draft, Stage, Opening, Limiting, Declaring, Running, step}
use Rattle.calls_text.specs.Reading.{draft_of, limit_step, with_start, from_step, opens_from}
use Rattle.calls_text.specs.Reading.{is_from, recorded_of}
use Rattle.calls_text.specs.Spelling.{event_word}
use Rattle.calls_text.specs.Grammar.{from_line, from_lines}
use Rattle.calls_text.specs.kept.Leading.{Leads}
use Rattle.calls_text.specs.Rules.{IsStart, AreStarts}
use Rattle.calls_text.proofs.TextParts.{IsPart}
use Rattle.calls_text.proofs.FineWords.{Lacks, lacks_join, decimal_lacks, literal_lacks}
use Rattle.calls_text.proofs.FineWords.{IsFine, literal_fine, number_fine, IsLineOf, fine_line}
use Rattle.calls_text.proofs.Finding.{event_found}

-- LINES THAT ARE ACCEPTED

-- lines without an LF lead from one stage to another
pub record AreTaken (s : Stage) (lines : List (List ℕ)) (t : Stage) : Type 0 where
  pub each : AllByRecursion IsPart lines
  pub leads : Leads s lines t

leads_on : (s t u : Stage) (xs ys : List (List ℕ)) → Leads s xs t → Leads t ys u
    → Leads s (xs ++ ys) u
leads_on s t u [] ys one other = subst (λ (k : Stage). Leads k ys u) (sym one) other
leads_on s t u (x ∷ xs) ys (next, is, one) other = (next, is, leads_on next t u xs ys one other)

pub taken_on : (s t u : Stage) (xs ys : List (List ℕ)) → AreTaken s xs t → AreTaken t ys u
    → AreTaken s (xs ++ ys) u
taken_on s t u xs ys one other = record {
  each = each_append IsPart xs ys one.each other.each;
  leads = leads_on s t u xs ys one.leads other.leads;
}

pub one_taken : (s t u : Stage) (line : List ℕ) (lines : List (List ℕ)) → IsPart line
    → step s line ≡ Ok t → AreTaken t lines u → AreTaken s (line ∷ lines) u
one_taken s t u line lines part is rest = record {
  each = (part, rest.each);
  leads = (t, is, rest.leads);
}

pub none_taken : (s : Stage) → AreTaken s [] s
none_taken s = record { each = tt; leads = refl }

pub lacks_part : (line : List ℕ) → Lacks 10 line → IsPart line
lacks_part line all = All-from_recursion (λ b. eqb b 10 ≡ false) line all

-- THE FIRST LINE AND THE LIMIT

pub header_taken : step Opening (codes "evc-calls 1") ≡ Ok Limiting
unfolding step
header_taken = refl

pub header_part : IsPart (codes "evc-calls 1")
header_part = lacks_part (codes "evc-calls 1") (literal_lacks 10 (codes "evc-calls 1") refl)

limit_words : (n : ℕ) → n < 1000000000000000000
    → IsLineOf (limit_line n) (codes "limit" ∷ decimal n ∷ [])
limit_words n small =
    let f : IsFine (decimal n) = number_fine n small in
    fine_line (codes "limit") (decimal n ∷ [])
    (literal_fine (codes "limit") refl refl refl refl, (f, tt))
    (omega (arith, f.short, length-append (32 ∷ decimal n) []))

pub limit_part : (n : ℕ) → n < 1000000000000000000 → IsPart (limit_line n)
limit_part n small = (limit_words n small).part

pub limit_taken : (n : ℕ) → 1 ≤ n → n ≤ greatest_limit Two
    → step Limiting (limit_line n) ≡ Ok (Declaring (draft_of (empty_heading Two n [])))
unfolding step limit_step
limit_taken n low high =
    let small : n < 1000000000000000000 = omega (arith, high) in
    let l : IsLineOf (limit_line n) (codes "limit" ∷ decimal n ∷ []) = limit_words n small in
    let short : nat_lt 8192 (length (limit_line n)) ≡ false =
    (or_parts (nat_lt 8192 (length (limit_line n))) _ l.good).0 in
    let number : number_in_word (decimal n) ≡ Some n = number_again n small in
    let form : is_number_form (decimal n) ≡ true = (number_is_form (decimal n) n number).0 in
    let may : is_limit Two n ≡ true = limit_from Two n low high in
    rw short (rw l.words (rw form (rw number (rw may refl))))

-- THE HEADER

-- `run` is no line of a header
not_heading : (h : HeadingModel) → head_step h (codes "run") ≡ Err heads.BadLine
unfolding head_step parts_in
not_heading h =
    elim (eqb h.setup.workers 0) as (λ b.
    cond b (opened_by h.version h.setup.limit None) (declared_or h None) ≡ Err heads.BadLine) [
      | true ↦ refl
      | false ↦ refl
    ]

not_run : (h next : HeadingModel) (line : List ℕ) → head_step h line ≡ Ok next
    → bytes_eq line (codes "run") ≡ false
not_run h next line e =
    false_from_ne_true _ (λ same. (
    let k : Err heads.BadLine ≡ Ok next =
    sym (not_heading h) ∙ ap (head_step h) (sym ((bytes_eq-Decides line (codes "run")).0 same)) ∙ e
    in cc))

-- nor is a line that begins with `from`, once the workers are declared
words_fail : (h : HeadingModel) (ws : List (List ℕ)) → opens_from ws ≡ true → 0 < h.setup.workers
    → words_step h ws ≡ Err heads.BadLine
unfolding parts_in
words_fail h [] opens some = cc
words_fail h (w ∷ ws) opens some =
    let other : eqb h.setup.workers 0 ≡ false = ne_eqb _ _ (λ e. (omega (arith, e, some))) in
    let same : w ≡ codes "from" = (bytes_eq-Decides w (codes "from")).0 opens in
    ap (λ (x : List ℕ). words_step h (x ∷ ws)) same
    ∙ ap (λ (b : Bool). cond b (opened_by h.version h.setup.limit (workers_in (codes "from" ∷ ws)))
    (declared_or h (parts_in (codes "from" ∷ ws)))) other

head_fails : (h : HeadingModel) (line : List ℕ) → words_step h (words_of line) ≡ Err heads.BadLine
    → head_step h line ≡ Err heads.BadLine
unfolding head_step
head_fails h line fails =
    elim (is_no_line line) as (λ b. cond b (Err heads.BadLine) (words_step h (words_of line))
    ≡ Err heads.BadLine) [
      | true ↦ refl
      | false ↦ fails
    ]

not_from : (h next : HeadingModel) (line : List ℕ) → head_step h line ≡ Ok next
    → (opens_from (words_of line) && nat_lt 0 h.setup.workers) ≡ false
not_from h next line e =
    false_from_ne_true _ (λ both. (
    let p = and_parts (opens_from (words_of line)) (nat_lt 0 h.setup.workers) both in
    let k : Err heads.BadLine ≡ Ok next =
    sym (head_fails h line (words_fail h (words_of line) p.0 (ltb-true _ _ p.1))) ∙ e in
    cc))

heading_step : (h next : HeadingModel) (line : List ℕ) → head_step h line ≡ Ok next
    → step (Declaring (draft_of h)) line ≡ Ok (Declaring (draft_of next))
unfolding step
heading_step h next line is =
    let other : (bytes_eq line (codes "run") && nat_lt 0 h.setup.workers) ≡ false =
    and_left _ _ (not_run h next line is) in
    let own : (opens_from (words_of line) && nat_lt 0 h.setup.workers) ≡ false =
    not_from h next line is in
    rw other (rw own (rw is refl))

pub heading_leads : (h end : HeadingModel) (lines : List (List ℕ)) → LinesLead h lines end
    → Leads (Declaring (draft_of h)) lines (Declaring (draft_of end))
heading_leads h end [] leads = ap (λ (g : HeadingModel). Declaring (draft_of g)) leads
heading_leads h end (line ∷ lines) (next, is, leads) =
    (Declaring (draft_of next), heading_step h next line is, heading_leads next end lines leads)

-- no line of a header has an LF

bytes_clean : (word : List ℕ) → AllByRecursion (λ b. is_name_byte b ≡ true) word → Lacks 10 word
bytes_clean [] all = tt
bytes_clean (b ∷ word) all =
    (ne_eqb b 10 (λ e. true≢false (sym all.0 ∙ ap is_name_byte e)), bytes_clean word all.1)

one_clean : (workers : List (List ℕ)) (i : ℕ) → AllByRecursion (Lacks 10) workers
    → Lacks 10 (get_or workers i [])
one_clean [] i all = tt
one_clean (w ∷ ws) zero all = all.0
one_clean (w ∷ ws) (suc i) all = one_clean ws i all.1

list_clean : (workers : List (List ℕ)) (ids : List ℕ) → AllByRecursion (Lacks 10) workers
    → AllByRecursion (Lacks 10) (list_words workers ids)
list_clean workers [] all = tt
list_clean workers (i ∷ ids) all = (one_clean workers i all, list_clean workers ids all)

text_clean : (w : List ℕ) → is_literal w ≡ true → Lacks 10 w
text_clean w is = letters_lack 10 w refl (literal w is).letters

name_words_clean : (s : DeclKind) (name : List ℕ) → is_called s name ≡ true
    → AllByRecursion (Lacks 10) (name_words s name)
name_words_clean s name is =
    elim (has_name s) as (λ b. AllByRecursion (Lacks 10) (if b then name ∷ [] else [])) [
      | true ↦ (bytes_clean name (called s name is).bytes, tt)
      | false ↦ tt
    ]

number_words_clean : (s : DeclKind) (n : ℕ) → n < 1000000000000000000
    → AllByRecursion (Lacks 10) (number_words s n)
number_words_clean s n small =
    elim (has_number s) as (λ b. AllByRecursion (Lacks 10) (if b then decimal n ∷ [] else [])) [
      | true ↦ (decimal_lacks 10 n small (λ r. omega arith), tt)
      | false ↦ tt
    ]

second_clean : (o : Option (List ℕ)) (workers : List (List ℕ)) (ids : List ℕ) → is_stop o ≡ true
    → AllByRecursion (Lacks 10) workers → AllByRecursion (Lacks 10) (second_words workers o ids)
second_clean None workers ids stops all = tt
second_clean (Some stop) workers [] stops all = tt
second_clean (Some stop) workers (i ∷ ids) stops all = (
  text_clean stop (and_parts (is_literal stop) (is_reserved stop) stops).0,
  list_clean workers (i ∷ ids) all,
)

declaration_clean : (workers : List (List ℕ)) (h : HeadingModel) (d : Declaration)
    → AllByRecursion (Lacks 10) workers → IsDeclarable h d
    → Lacks 10 (declaration_line workers d)
declaration_clean workers h d all may =
    let small : d.number < 1000000000000000000 =
    omega (arith, number_small d.sort d.number may.range) in
    lacks_join (declaration_words workers d)
    (each_append (Lacks 10) (sort_word d.sort ∷ name_words d.sort d.name
    ++ number_words d.sort d.number ++ opener d.sort ∷ list_words workers d.first)
    (second_words workers (second_opener d.sort) d.second)
    (each_append (Lacks 10) (sort_word d.sort ∷ name_words d.sort d.name
    ++ number_words d.sort d.number) (opener d.sort ∷ list_words workers d.first)
    (each_append (Lacks 10) (sort_word d.sort ∷ name_words d.sort d.name)
    (number_words d.sort d.number)
    (text_clean (sort_word d.sort) (sort_literal d.sort), name_words_clean d.sort d.name may.word)
    (number_words_clean d.sort d.number small))
    (text_clean (opener d.sort) (opener_literal d.sort), list_clean workers d.first all))
    (second_clean (second_opener d.sort) workers d.second (other_stop d.sort) all))

declarations_clean : (workers : List (List ℕ)) (h : HeadingModel) (ds : List Declaration)
    → AllByRecursion (Lacks 10) workers → AreDeclarable h ds
    → AllByRecursion IsPart (map (declaration_line workers) ds)
declarations_clean workers h [] all may = tt
declarations_clean workers h (d ∷ ds) all may = (
  lacks_part (declaration_line workers d) (declaration_clean workers h d all may.0),
  declarations_clean workers (with_declaration h d) ds all may.1,
)

pub outline_parts : (o : HeaderTree) → IsHeaderTree o → AllByRecursion IsPart (outline_lines o)
outline_parts o is =
    let all : AllByRecursion (Lacks 10) o.workers =
    each_weaker (λ w. is_name w ≡ true) (Lacks 10)
    (λ w name. bytes_clean w (name_called w name).bytes) o.workers
    (recursion_from_All (λ w. is_name w ≡ true) o.workers is.workers.each) in (
      lacks_part (join_with_byte 32 (codes "workers" ∷ o.workers))
          (lacks_join (codes "workers" ∷ o.workers)
          (literal_lacks 10 (codes "workers") refl, all)),
      declarations_clean o.workers (empty_heading o.version o.limit o.workers) o.declarations all
          is.declarations,
    )

-- INITIAL COUNTS

start_words : (h : HeadingModel) (p : ℕ × ℕ) → HasHeaderTree h → p.0 < length h.setup.events
    → p.1 < 1000000000000000000
    → IsLineOf (from_line h p) (codes "from" ∷ event_word h p.0 ∷ decimal p.1 ∷ [])
start_words h p has declared small =
    let e : IsFine (event_word h p.0) = (event_found h p.0 has declared).1 in
    let f : IsFine (decimal p.1) = number_fine p.1 small in
    fine_line (codes "from") (event_word h p.0 ∷ decimal p.1 ∷ [])
    (literal_fine (codes "from") refl refl refl refl, (e, (f, tt)))
    (omega (
      arith,
      e.short,
      f.short,
      length-append (32 ∷ decimal p.1) [],
      length-append (32 ∷ event_word h p.0) ((32 ∷ decimal p.1) ++ []),
    ))

start_steps : (d : Draft) (p : ℕ × ℕ) → HasHeaderTree d.heading → p.1 < 1000000000000000000
    → IsStart d.heading d.from p → from_step d (from_line d.heading p) ≡ Ok (with_start d p.0 p.1)
unfolding from_step
start_steps d p has small is =
    let l = start_words d.heading p has is.declared small in
    let number : number_in_word (decimal p.1) ≡ Some p.1 = number_again p.1 small in
    let form : is_number_form (decimal p.1) ≡ true = (number_is_form (decimal p.1) p.1 number).0 in
    let found : event_in d.heading.words (event_word d.heading p.0) ≡ Some p.0 =
    (event_found d.heading p.0 has is.declared).0 in
    let low : nat_le 1 p.1 ≡ true = le-leb _ _ is.low in
    let high : nat_le p.1 d.heading.setup.limit ≡ true = le-leb _ _ is.high in
    rw l.good (rw l.words (rw form (rw found (rw number (rw low (rw high
    (rw is.free (rw is.later refl))))))))

-- a line of three words is not `run`
not_run_line : (line w v : List ℕ) (ws : List (List ℕ)) → words_of line ≡ w ∷ v ∷ ws
    → bytes_eq line (codes "run") ≡ false
not_run_line line w v ws words =
    false_from_ne_true _ (λ same. (
    let one : words_of line ≡ codes "run" ∷ [] =
    ap words_of ((bytes_eq-Decides line (codes "run")).0 same) in
    let two : w ∷ v ∷ ws ≡ codes "run" ∷ [] = sym words ∙ one in
    cc))

start_taken : (d : Draft) (p : ℕ × ℕ) → HasHeaderTree d.heading → p.1 < 1000000000000000000
    → 0 < d.heading.setup.workers → IsStart d.heading d.from p
    → step (Declaring d) (from_line d.heading p) ≡ Ok (Declaring (with_start d p.0 p.1))
unfolding step
start_taken d p has small some is =
    let l = start_words d.heading p has is.declared small in
    let other : (bytes_eq (from_line d.heading p) (codes "run")
    && nat_lt 0 d.heading.setup.workers) ≡ false =
    and_left (bytes_eq (from_line d.heading p) (codes "run")) (nat_lt 0 d.heading.setup.workers)
    (not_run_line (from_line d.heading p) (codes "from") (event_word d.heading p.0)
    (decimal p.1 ∷ []) l.words) in
    let opens : (opens_from (words_of (from_line d.heading p))
    && nat_lt 0 d.heading.setup.workers) ≡ true =
    and_from _ _ (ap opens_from l.words) (lt-ltb _ _ some) in
    let from : is_from d (from_line d.heading p) ≡ true =
    or_right _ _ opens in
    rw other (rw from (rw (start_steps d p has small is) refl))

pub starts_taken : (h : HeadingModel) (from ps : List (ℕ × ℕ)) → HasHeaderTree h
    → h.setup.limit < 1000000000000000000 → 0 < h.setup.workers → AreStarts h from ps
    → AreTaken (Declaring (record { heading = h; from = from })) (from_lines h ps)
    (Declaring (record { heading = h; from = from ++ ps }))
starts_taken h from [] has low some are =
    subst (λ (f : List (ℕ × ℕ)). AreTaken (Declaring (record { heading = h; from = from })) []
    (Declaring (record { heading = h; from = f }))) (sym (append-nil from))
    (none_taken (Declaring (record { heading = h; from = from })))
starts_taken h from (p ∷ ps) has low some are =
    let small : p.1 < 1000000000000000000 = omega (arith, low, are.0.high) in
    let d : Draft = record { heading = h; from = from } in
    one_taken (Declaring (record { heading = h; from = from }))
    (Declaring (record { heading = h; from = from ++ p ∷ [] }))
    (Declaring (record { heading = h; from = from ++ p ∷ ps })) (from_line h p) (from_lines h ps)
    (start_words h p has are.0.declared small).part
    (start_taken (record { heading = h; from = from }) p has small some are.0)
    (subst (λ (f : List (ℕ × ℕ)). AreTaken
    (Declaring (record { heading = h; from = from ++ p ∷ [] })) (from_lines h ps)
    (Declaring (record { heading = h; from = f }))) (append_assoc from (p ∷ []) ps)
    (starts_taken h (from ++ p ∷ []) ps has low some are.1))

-- RUN

pub run_taken : (d : Draft) → 0 < d.heading.setup.workers
    → step (Declaring d) (codes "run") ≡ Ok (Running (recorded_of d))
unfolding step
run_taken d some =
    let few : nat_lt 0 d.heading.setup.workers ≡ true = lt-ltb _ _ some in rw few refl
