-- Lines that lead from one stage to another, and texts of lines.
use Rattle.std.proofs.Common.{◌≡◌, ℕ, ◌+◌, ◌≤◌, List, [], ◌∷◌, ◌++◌, length, take, cond, Bool, true, false, eqb, ltb, refl, sym, ap, subst, ◌∙◌, arith, Result, Ok, Err, append_assoc, append-nil, le-ltb, ltb-false, ◌&&◌}
use Rattle.std.specs.List.{AllByRecursion, join_with_byte}
use Rattle.std.proofs.lemmas.Bool.{and_right, cond-false, eqb-true}
use Rattle.std.proofs.lemmas.List.{take_all}
use Rattle.std.proofs.lemmas.List.Splits.{join_with_byte-slice_split}
use Rattle.ec_trace.specs.declared.fault.LineFault.{LineFault}
use Rattle.ec_trace.specs.declared.fault.TraceFault.{TraceFault}
use Rattle.ec_trace.specs.declared.fault.TraceFault.TheVariants.{BadLine, TooLarge, Unfinished}
use Rattle.ec_trace.specs.Stages.{Stage, Opening, Limiting, Declaring, Running, Ended}
use Rattle.ec_trace.specs.FirstFault.{IsLine, Leads}
use Rattle.ec_trace.specs.TraceModel.{TraceModel}
use Rattle.ec_heading.specs.Spelling.{lines_text, ended_line}
use Rattle.ec_trace.specs.Step.{step, is_ended}
use Rattle.ec_trace.specs.Outcome.{ReadState, lines_of_text, parse_from, goes_from, after_line, is_bad_rest, start, parse_result, trace_or_fault, ended_at, traced_in}
use Rattle.ec_trace.proofs.Goes.{goes_line, goes_ended, HasFirst, has_first}
use Rattle.ec_heading.proofs.shared.Declarable.{none_listed as no_rest}

pub leads_append : (s t u : Stage) (xs ys : List (List ℕ)) → Leads s xs t → Leads t ys u → Leads s (xs ++ ys) u
leads_append s t u [] ys a b = subst (λ (k : Stage). Leads k ys u) (sym a) b
leads_append s t u (x ∷ xs) ys a b = (a.0, a.1, leads_append a.0 t u xs ys a.2 b)

-- lines that lead to t are read, whatever follows
pub goes_lines : (n : ℕ) (s t : Stage) (lines : List (List ℕ)) (more : List ℕ) → AllByRecursion IsLine lines → Leads s lines t → parse_from n s (lines_of_text (lines_text lines ++ more)) ≡ parse_from (n + length lines) t (lines_of_text more)
goes_lines n s t [] more each leads = ap (λ (k : ℕ). parse_from k s (lines_of_text more)) (omega arith) ∙ ap (λ (k : Stage). parse_from (n + 0) k (lines_of_text more)) leads
goes_lines n s t (line ∷ lines) more each leads =
    let grouped : (ended_line line ++ lines_text lines) ++ more ≡ line ++ 10 ∷ (lines_text lines ++ more) =
    append_assoc (ended_line line) (lines_text lines) more ∙ append_assoc line (10 ∷ []) (lines_text lines ++ more) in
    let short : ltb 8192 (length line) ≡ false = le-ltb _ _ each.0.short in
    let now : parse_from n s (lines_of_text ((ended_line line ++ lines_text lines) ++ more)) ≡ cond (ltb 8192 (length line)) (Err (BadLine n)) (after_line n (step s line) (λ k. parse_from (n + 1) k (lines_of_text (lines_text lines ++ more)))) =
    ap (λ (bytes : List ℕ). parse_from n s (lines_of_text bytes)) grouped ∙ goes_line n s line (lines_text lines ++ more) each.0.no_lf in
    let next : parse_from (n + 1) leads.0 (lines_of_text (lines_text lines ++ more)) ≡ parse_from (n + (1 + length lines)) t (lines_of_text more) =
    goes_lines (n + 1) leads.0 t lines more each.1 leads.2 ∙ ap (λ (k : ℕ). parse_from k t (lines_of_text more)) (omega arith) in
    let count : 1 + length lines ≡ length (line ∷ lines) = omega arith in
    now ∙ rw (short, leads.1) next ∙ ap (λ (k : ℕ). parse_from (n + k) t (lines_of_text more)) count

goes_nothing : (n : ℕ) (s : Stage) → parse_from n s (lines_of_text []) ≡ Ok (record { stage = s; number = n; part = [] })
unfolding parse_from
goes_nothing n s = let e : (is_ended s && false) ≡ false = and_right (is_ended s) false refl in rw e refl

-- the bytes are the text of these lines, the last of which ends it
pub record IsText (bytes : List ℕ) (lines : List (List ℕ)) (t : TraceModel) : Type 0 where
  pub spelled : bytes ≡ lines_text lines
  pub each : AllByRecursion IsLine lines
  pub leads : Leads Opening lines (Ended t)

reads_back : (bytes : List ℕ) (lines : List (List ℕ)) (t : TraceModel) → IsText bytes lines t → goes_from start bytes ≡ Ok (record { stage = Ended t; number = 1 + length lines; part = [] })
unfolding start
reads_back bytes lines t h =
    ap (λ (b : List ℕ). parse_from 1 Opening (lines_of_text b)) (h.spelled
    ∙ sym (append-nil (lines_text lines)))
    ∙ goes_lines 1 Opening (Ended t) lines [] h.each h.leads ∙ goes_nothing (1 + length lines) (Ended t)

-- a text within the bound is read as what its lines lead to
pub text_read : (max : ℕ) (bytes : List ℕ) (lines : List (List ℕ)) (t : TraceModel) → length bytes ≤ max → IsText bytes lines t → parse_result max bytes ≡ Ok t
unfolding parse_result
text_read max bytes lines t within h =
    let whole : take max bytes ≡ bytes = take_all max bytes within in
    let large : ltb max (length bytes) ≡ false = le-ltb _ _ within in
    ap (trace_or_fault max bytes) (ap (goes_from start) whole ∙ reads_back bytes lines t h) ∙ cond-false _ _ _ large

apart : (p : ReadState) (f : TraceFault) → Ok p ≡ Err f → ⊥
apart p f e = cc

same_end : (p q : ReadState) (t u : TraceModel) (r : Result ReadState TraceFault) → p.stage ≡ Ended t → q.stage ≡ Ended u → r ≡ Ok p → r ≡ Ok q → t ≡ u
same_end p q t u r a b e f = (let one : p ≡ q = cc in let s : Ended t ≡ Ended u = sym a ∙ ap (λ (k : ReadState). k.stage) one ∙ b in cc)

ended_is : (u : TraceModel) → is_ended (Ended u) ≡ true
unfolding is_ended
ended_is u = refl

-- no text is a proper prefix of another
pub no_front : (a x : List ℕ) (lines lines' : List (List ℕ)) (t t' : TraceModel) → IsText a lines t → IsText (a ++ x) lines' t' → x ≡ []
unfolding start
no_front a [] lines lines' t t' h k = refl
no_front a (b ∷ x) lines lines' t t' h k =
    let whole = reads_back (a ++ b ∷ x) lines' t' k in
    let ended : is_ended (Ended t) ≡ true = ended_is t in
    let fault : parse_from 1 Opening (lines_of_text (a ++ b ∷ x))
    ≡ Err (BadLine (1 + length lines)) =
    ap (λ (c : List ℕ). parse_from 1 Opening (lines_of_text (c ++ b ∷ x))) h.spelled
    ∙ goes_lines 1 Opening (Ended t) lines (b ∷ x) h.each h.leads
    ∙ goes_ended (1 + length lines) (Ended t) b x ended in
    absurd (apart _ _ (sym whole ∙ fault))

-- a text has one meaning
pub one_meaning : (bytes : List ℕ) (lines lines' : List (List ℕ)) (t t' : TraceModel) → IsText bytes lines t → IsText bytes lines' t' → t ≡ t'
one_meaning bytes lines lines' t t' h k =
    same_end (record { stage = Ended t; number = 1 + length lines; part = [] }) (record { stage = Ended t'; number = 1 + length lines'; part = [] }) t t' (goes_from start bytes) refl refl
    (reads_back bytes lines t h) (reads_back bytes lines' t' k)

-- WHAT IS READ IS A TEXT

-- if a choice between a fault and a result is Ok, it is the result
not_fault : {X : Type 0} (b : Bool) (f : TraceFault) (r : Result X TraceFault) (p : X) → cond b (Err f) r ≡ Ok p → (b ≡ false) × (r ≡ Ok p)
not_fault true f r p e = cc
not_fault false f r p e = (refl, e)

was_taken : (n : ℕ) (r : Result Stage LineFault) (others : Stage → Result ReadState TraceFault) (p : ReadState) → after_line n r others ≡ Ok p → (t : Stage) × (r ≡ Ok t) × (others t ≡ Ok p)
was_taken n (Ok t) others p e = (t, refl, e)
was_taken n (Err f) others p e = cc

record Reads (s : Stage) (parts : List (List ℕ)) (p : ReadState) : Type 0 where
  lines : List (List ℕ)
  parts_are : parts ≡ lines ++ p.part ∷ []
  leads : Leads s lines p.stage

reads : (n : ℕ) (s : Stage) (parts : List (List ℕ)) (p : ReadState) → parse_from n s parts ≡ Ok p → (parts ≡ [] → ⊥) → Reads s parts p
unfolding parse_from
reads n s [] p e some = absurd (some refl)
reads n s (line ∷ []) p e some =
    let r = not_fault (is_bad_rest s line) (BadLine n) (Ok (record { stage = s; number = n; part = line })) p e in
    let is : record { stage = s; number = n; part = line } ≡ p = cc in
    record { lines = []; parts_are = ap (λ (q : ReadState). q.part ∷ []) is; leads = ap (λ (q : ReadState). q.stage) is }
reads n s (line ∷ next ∷ others) p e some =
    let r = not_fault (ltb 8192 (length line)) (BadLine n) (after_line n (step s line) (λ t. parse_from (n + 1) t (next ∷ others))) p e in
    let t = was_taken n (step s line) (λ t. parse_from (n + 1) t (next ∷ others)) p r.1 in
    let rest = reads (n + 1) t.0 (next ∷ others) p t.2 (λ none. (cc)) in record {
      lines = line ∷ rest.lines;
      parts_are = ap (λ (q : List (List ℕ)). line ∷ q) rest.parts_are;
      leads = (t.0, t.1, rest.leads);
    }

-- parts that are joined by LFs are lines with their LFs, and a rest
pub joined : (lines : List (List ℕ)) (rest : List ℕ) → join_with_byte 10 (lines ++ rest ∷ []) ≡ lines_text lines ++ rest
joined [] rest = refl
joined (line ∷ []) rest = sym (append_assoc (ended_line line) [] rest ∙ append_assoc line (10 ∷ []) rest)
joined (line ∷ next ∷ lines) rest =
    ap (λ (r : List ℕ). line ++ 10 ∷ r) (joined (next ∷ lines) rest)
    ∙ sym (append_assoc (ended_line line) (lines_text (next ∷ lines)) rest ∙ append_assoc line (10 ∷ []) (lines_text (next ∷ lines) ++ rest))

ended_stage : (s : Stage) (t : TraceModel) → traced_in s ≡ Ok t → s ≡ Ended t
ended_stage (Ended u) t e = (let is : u ≡ t = cc in ap Ended is)
ended_stage Opening t e = cc
ended_stage (Limiting v) t e = cc
ended_stage (Declaring h) t e = cc
ended_stage (Running u) t e = cc

chosen : {X : Type 0} (b : Bool) (r : Result X TraceFault) (f : TraceFault) (x : X) → cond b r (Err f) ≡ Ok x → (b ≡ true) × (r ≡ Ok x)
chosen true r f x e = (refl, e)
chosen false r f x e = cc

-- lines that were read, and end
pub record IsRead (bytes : List ℕ) (t : TraceModel) : Type 0 where
  pub lines : List (List ℕ)
  pub spelled : bytes ≡ lines_text lines
  pub leads : Leads Opening lines (Ended t)

read_at : (bytes : List ℕ) (p : ReadState) (t : TraceModel) → goes_from start bytes ≡ Ok p → ended_at p ≡ Ok t → IsRead bytes t
unfolding start
read_at bytes p t e h =
    let f : HasFirst bytes = has_first bytes in
    let r : Reads Opening (lines_of_text bytes) p = reads 1 Opening (lines_of_text bytes) p e (λ none. (let k : f.first ∷ f.others ≡ [] = sym f.is ∙ none in cc)) in
    let c = chosen (eqb (length p.part) 0) (traced_in p.stage) Unfinished t h in
    let part : p.part ≡ [] = no_rest p.part c.0 in record {
      lines = r.lines;
      spelled =
          sym (join_with_byte-slice_split 10 bytes) ∙ ap (join_with_byte 10) r.parts_are ∙ joined r.lines p.part
          ∙ ap (λ (x : List ℕ). lines_text r.lines ++ x) part ∙ append-nil (lines_text r.lines);
      leads = subst (λ (s : Stage). Leads Opening r.lines s) (ended_stage p.stage t c.1) r.leads;
    }

bounded_back : (max : ℕ) (bytes : List ℕ) (r : Result ReadState TraceFault) (t : TraceModel) → trace_or_fault max bytes r ≡ Ok t → (p : ReadState) × (r ≡ Ok p) × (length bytes ≤ max) × (ended_at p ≡ Ok t)
bounded_back max bytes (Ok p) t e = (let k = not_fault (ltb max (length bytes)) TooLarge (ended_at p) t e in (p, refl, ltb-false _ _ k.0, k.1))
bounded_back max bytes (Err f) t e = cc

-- what is read is the text of lines
pub text_back : (max : ℕ) (bytes : List ℕ) (t : TraceModel) → parse_result max bytes ≡ Ok t → IsRead bytes t × (length bytes ≤ max)
unfolding parse_result
text_back max bytes t e =
    let b = bounded_back max bytes (goes_from start (take max bytes)) t e in
    let whole : take max bytes ≡ bytes = take_all max bytes b.2 in
    (read_at bytes b.0 t (ap (goes_from start) (sym whole) ∙ b.1) b.3, b.2)
