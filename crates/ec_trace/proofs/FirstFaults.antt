-- A reported fault of a line is that of the first faulty line.
use Rattle.std.proofs.Common.{◌≡◌, ◌≢◌, ℕ, ◌+◌, ◌<◌, ◌≤◌, List, [], ◌∷◌, ◌++◌, length, take, cond, Bool, true, false, eqb, ltb, refl, sym, ap, ◌∙◌, arith, Result, Ok, Err, append_assoc, append-nil, ltb-true, ltb-false, ◌&&◌, inl, inr, ◌⊎◌}
use Rattle.std.specs.List.{All, AllByRecursion, join_with_byte, onto_first}
use Rattle.std.proofs.lemmas.Bool.{and_parts, or_cases, eqb-false}
use Rattle.std.proofs.lemmas.List.Elements.{All-nil, All-cons}
use Rattle.std.proofs.lemmas.List.Splits.{join_with_byte-slice_split}
use Rattle.ec_trace.specs.declared.fault.LineFault.{LineFault}
use Rattle.ec_trace.specs.declared.fault.LineFault.TheVariants.{Bad, Refused, WrongReply}
use Rattle.ec_trace.specs.declared.fault.TraceFault.{TraceFault}
use Rattle.ec_trace.specs.declared.fault.TraceFault.TheVariants as faults
use Rattle.ec_trace.specs.Stages.{Stage, Opening, Limiting, Declaring, Running, Ended}
use Rattle.ec_trace.specs.declared.read.TheConstants.{TRACE_MAX}
use Rattle.ec_heading.specs.Spelling.{lines_text, ended_line}
use Rattle.ec_trace.specs.Step.{step, is_ended}
use Rattle.ec_trace.specs.Outcome.{ReadState, lines_of_text, parse_from, goes_from, after_line, is_bad_rest, fault_of_line, start, parse_result, trace_or_fault, ended_at, traced_in}
use Rattle.ec_trace.specs.FirstFault.{IsLine, Leads, IsTooLong, IsBehindTheEnd, IsRefusedThere, IsFirstFault, LineFaultIsTheFirst, FaultOfTheWhole}

-- FAULTS WITH NUMBERS

numbered_is : (m n : ℕ) (f g : LineFault) → fault_of_line m f ≡ fault_of_line n g → (m ≡ n)
    × (f ≡ g)
numbered_is m n Bad Bad e = (cc, refl)
numbered_is m n (Refused q) (Refused r) e = (cc, cc)
numbered_is m n (WrongReply q) (WrongReply r) e = (cc, cc)
numbered_is m n _ _ e = cc

same_fault : {X : Type 0} (f g : TraceFault) → ◌≡◌ {A = Result X TraceFault} (Err f) (Err g) → f ≡ g
same_fault f g e = cc

onto_clean : (b : ℕ) (parts : List (List ℕ)) → b ≢ 10 → AllByRecursion (λ part. All (λ c. c ≢ 10) part) parts → AllByRecursion (λ part. All (λ c. c ≢ 10) part) (onto_first b parts)
onto_clean b [] apart all = (All-cons (λ x. x ≢ 10) b [] apart (All-nil (λ x. x ≢ 10)), tt)
onto_clean b (part ∷ parts) apart all = (All-cons (λ x. x ≢ 10) b part apart all.0, all.1)

part_clean : (t : Bool) (b : ℕ) (parts : List (List ℕ)) → eqb b 10 ≡ t → AllByRecursion (λ part. All (λ c. c ≢ 10) part) parts → AllByRecursion (λ part. All (λ c. c ≢ 10) part) (cond t ([] ∷ parts) (onto_first b parts))
part_clean true b parts is all = (All-nil (λ x. x ≢ 10), all)
part_clean false b parts is all = onto_clean b parts (eqb-false b 10 is) all

parts_clean : (bytes : List ℕ)
    → AllByRecursion (λ part. All (λ c. c ≢ 10) part) (lines_of_text bytes)
parts_clean [] = (All-nil (λ x. x ≢ 10), tt)
parts_clean (b ∷ bytes) = part_clean (eqb b 10) b (lines_of_text bytes) refl (parts_clean bytes)

-- THE FIRST FAULTY PART

-- why a part is at fault before these others
abbrev Why : Stage → List ℕ → List (List ℕ) → LineFault → Type 0
Why s line others f = IsTooLong line f ⊎ (((others ≡ []) × (is_ended s ≡ true) × (0 < length line) × (f ≡ Bad)) ⊎ ((length line ≤ 8192) × (next : List ℕ) × (rest : List (List ℕ)) × (others ≡ next ∷ rest) × (step s line ≡ Err f)))

record FaultyAt (s : Stage) (parts : List (List ℕ)) (n m : ℕ) (f : LineFault) : Type 0 where
  before : List (List ℕ)
  stage : Stage
  line : List ℕ
  others : List (List ℕ)
  parts_are : parts ≡ before ++ line ∷ others
  number : n + length before ≡ m
  each : AllByRecursion IsLine before
  leads : Leads s before stage
  no_lf : All (λ b. b ≢ 10) line
  why : Why stage line others f

here : (s : Stage) (line : List ℕ) (others : List (List ℕ)) (n m : ℕ) (f : LineFault) → All (λ b. b ≢ 10) line → n ≡ m → Why s line others f → FaultyAt s (line ∷ others) n m f
here s line others n m f clean is why = record { before = []; stage = s; line = line; others = others; parts_are = refl; number = omega arith; each = tt; leads = refl; no_lf = clean; why = why }

along : (s next : Stage) (line : List ℕ) (parts : List (List ℕ)) (n m : ℕ) (f : LineFault) → IsLine line → step s line ≡ Ok next → FaultyAt next parts (n + 1) m f → FaultyAt s (line ∷ parts) n m f
along s next line parts n m f is takes r = record {
  before = line ∷ r.before;
  stage = r.stage;
  line = r.line;
  others = r.others;
  parts_are = ap (λ (q : List (List ℕ)). line ∷ q) r.parts_are;
  number = omega (arith, r.number);
  each = (is, r.each);
  leads = (next, takes, r.leads);
  no_lf = r.no_lf;
  why = r.why;
}

bad_here : (m n : ℕ) (f : LineFault) → ◌≡◌ {A = Result ReadState TraceFault} (Err (fault_of_line n Bad)) (Err (fault_of_line m f)) → (n ≡ m) × (Bad ≡ f)
bad_here m n f e = numbered_is n m Bad f (same_fault (fault_of_line n Bad) (fault_of_line m f) e)

rest_faulty : (b : Bool) (n m : ℕ) (f : LineFault) (p : ReadState) → cond b (Err (fault_of_line n Bad)) (Ok p) ≡ Err (fault_of_line m f) → (b ≡ true) × (n ≡ m) × (Bad ≡ f)
rest_faulty true n m f p e = (let k = bad_here m n f e in (refl, k.0, k.1))
rest_faulty false n m f p e = cc

rest_why : (s : Stage) (line : List ℕ) (f : LineFault) → is_bad_rest s line ≡ true → Bad ≡ f → Why s line [] f
rest_why s line f bad is = elim (or_cases (ltb 8192 (length line)) (is_ended s && ltb 0 (length line)) bad) [
  | inl long ↦ inl (ltb-true _ _ long, sym is)
  | inr behind ↦ (let p = and_parts (is_ended s) (ltb 0 (length line)) behind in inr (inl (refl, p.0, ltb-true _ _ p.1, sym is)))
]

step_faulty : (n m : ℕ) (s : Stage) (line next : List ℕ) (others : List (List ℕ)) (f : LineFault) → All (λ b. b ≢ 10) line → length line ≤ 8192
    → (r : Result Stage LineFault) → step s line ≡ r → after_line n r (λ t. parse_from (n + 1) t (next ∷ others)) ≡ Err (fault_of_line m f)
    → ((t : Stage) → parse_from (n + 1) t (next ∷ others) ≡ Err (fault_of_line m f) → FaultyAt t (next ∷ others) (n + 1) m f)
    → FaultyAt s (line ∷ next ∷ others) n m f
step_faulty n m s line next others f clean short (Err h) is g later =
    let k = numbered_is n m h f (same_fault (fault_of_line n h) (fault_of_line m f) g) in
    here s line (next ∷ others) n m f clean k.0 (inr (inr (short, next, others, refl, is ∙ ap Err k.1)))
step_faulty n m s line next others f clean short (Ok t) is g later =
    along s t line (next ∷ others) n m f (record { no_lf = clean; short = short }) is (later t g)

faulty : (n : ℕ) (s : Stage) (parts : List (List ℕ)) (m : ℕ) (f : LineFault) → AllByRecursion (λ part. All (λ c. c ≢ 10) part) parts → parse_from n s parts ≡ Err (fault_of_line m f) → FaultyAt s parts n m f
unfolding parse_from
faulty n s [] m f clean e = cc
faulty n s (line ∷ []) m f clean e =
    let r = rest_faulty (is_bad_rest s line) n m f (record { stage = s; number = n; part = line }) e in
    here s line [] n m f clean.0 r.1 (rest_why s line f r.0 r.2)
faulty n s (line ∷ next ∷ others) m f clean e =
    elim (ltb 8192 (length line)) as (λ b. ltb 8192 (length line) ≡ b → cond b (Err (fault_of_line n Bad)) (after_line n (step s line) (λ t. parse_from (n + 1) t (next ∷ others))) ≡ Err (fault_of_line m f) → FaultyAt s (line ∷ next ∷ others) n m f) [
      | true ↦ λ q g. (let r = bad_here m n f g in here s line (next ∷ others) n m f clean.0 r.0 (inl (ltb-true _ _ q, sym r.1)))
      | false ↦ λ q g. step_faulty n m s line next others f clean.0 (ltb-false _ _ q) (step s line) refl g (λ t h. faulty (n + 1) t (next ∷ others) m f clean.1 h)
    ] refl e

-- AS A TEXT

-- what follows the first of some parts
abbrev behind_of : List (List ℕ) → List ℕ
behind_of [] = []
behind_of (next ∷ rest) = 10 ∷ join_with_byte 10 (next ∷ rest)

join_first : (line : List ℕ) (others : List (List ℕ)) → join_with_byte 10 (line ∷ others) ≡ line ++ behind_of others
join_first line [] = sym (append-nil line)
join_first line (next ∷ rest) = refl

join_before : (before : List (List ℕ)) (line : List ℕ) (others : List (List ℕ)) → join_with_byte 10 (before ++ line ∷ others) ≡ lines_text before ++ (line ++ behind_of others)
join_before [] line others = join_first line others
join_before (x ∷ []) line others =
    ap (λ (r : List ℕ). x ++ 10 ∷ r) (join_first line others)
    ∙ sym (append_assoc (ended_line x) [] (line ++ behind_of others) ∙ append_assoc x (10 ∷ []) (line ++ behind_of others))
join_before (x ∷ y ∷ before) line others =
    ap (λ (r : List ℕ). x ++ 10 ∷ r) (join_before (y ∷ before) line others)
    ∙ sym (append_assoc (ended_line x) (lines_text (y ∷ before)) (line ++ behind_of others) ∙ append_assoc x (10 ∷ []) (lines_text (y ∷ before) ++ (line ++ behind_of others)))

why_there : (s : Stage) (line : List ℕ) (others : List (List ℕ)) (f : LineFault) → Why s line others f → IsTooLong line f ⊎ (IsBehindTheEnd s line (behind_of others) f ⊎ IsRefusedThere s line (behind_of others) f)
why_there s line others f (inl long) = inl long
why_there s line others f (inr (inl h)) = inr (inl (ap behind_of h.0, h.1, h.2, h.3))
why_there s line others f (inr (inr h)) = inr (inr (h.0, join_with_byte 10 (h.1 ∷ h.2), ap behind_of h.3, h.4))

text_faulty : (text : List ℕ) (n : ℕ) (f : LineFault) → goes_from start text ≡ Err (fault_of_line n f) → IsFirstFault text n f
unfolding start
text_faulty text n f e =
    let r = faulty 1 Opening (lines_of_text text) n f (parts_clean text) e in
    record {
      before = r.before;
      stage = r.stage;
      line = r.line;
      behind = behind_of r.others;
      whole = sym (join_with_byte-slice_split 10 text) ∙ ap (join_with_byte 10) r.parts_are ∙ join_before r.before r.line r.others;
      number = omega (arith, r.number);
      each = r.each;
      leads = r.leads;
      no_lf = r.no_lf;
      why = why_there r.stage r.line r.others f r.why;
    }

-- a text whose lines have no fault
no_number : (n : ℕ) (f : LineFault) (g : TraceFault) → g ≡ faults.TooLarge ⊎ (g ≡ faults.Unfinished) → g ≡ fault_of_line n f → ⊥
no_number n Bad g (inl h) e = cc
no_number n (Refused r) g (inl h) e = cc
no_number n (WrongReply r) g (inl h) e = cc
no_number n Bad g (inr h) e = cc
no_number n (Refused r) g (inr h) e = cc
no_number n (WrongReply r) g (inr h) e = cc

traced_fault : (s : Stage) (g : TraceFault) → traced_in s ≡ Err g → g ≡ faults.Unfinished
traced_fault (Ended t) g e = cc
traced_fault Opening g e = cc
traced_fault (Limiting v) g e = cc
traced_fault (Declaring h) g e = cc
traced_fault (Running t) g e = cc

ended_fault : (b : Bool) (s : Stage) (g : TraceFault) → cond b (traced_in s) (Err faults.Unfinished) ≡ Err g → g ≡ faults.Unfinished
ended_fault true s g e = traced_fault s g e
ended_fault false s g e = cc

-- what such a text is read as
whole_fault : (b : Bool) (p : ReadState) (g : TraceFault) → cond b (Err faults.TooLarge) (ended_at p) ≡ Err g → ((b ≡ true) × (g ≡ faults.TooLarge)) ⊎ ((b ≡ false) × (g ≡ faults.Unfinished))
whole_fault true p g e = inl (refl, cc)
whole_fault false p g e = inr (refl, ended_fault (eqb (length p.part) 0) p.stage g e)

bounded_fault : (max : ℕ) (bytes : List ℕ) (r : Result ReadState TraceFault) (n : ℕ) (f : LineFault) → trace_or_fault max bytes r ≡ Err (fault_of_line n f) → r ≡ Err (fault_of_line n f)
bounded_fault max bytes (Err g) n f e = ap Err (same_fault g (fault_of_line n f) e)
bounded_fault max bytes (Ok p) n f e = elim (whole_fault (ltb max (length bytes)) p (fault_of_line n f) e) [
  | inl h ↦ absurd (no_number n f (fault_of_line n f) (inl h.1) refl)
  | inr h ↦ absurd (no_number n f (fault_of_line n f) (inr h.1) refl)
]

pub line_fault_is_the_first : LineFaultIsTheFirst
unfolding parse_result
line_fault_is_the_first bytes n f e = text_faulty (take TRACE_MAX bytes) n f (bounded_fault TRACE_MAX bytes (goes_from start (take TRACE_MAX bytes)) n f e)

-- every fault of a line has a number
rest_numbered : (b : Bool) (n : ℕ) (g : TraceFault) (p : ReadState) → cond b (Err (faults.BadLine n)) (Ok p) ≡ Err g → (m : ℕ) × (f : LineFault) × (g ≡ fault_of_line m f)
rest_numbered true n g p e = (n, Bad, sym (same_fault (faults.BadLine n) g e))
rest_numbered false n g p e = cc

step_numbered : (b : Bool) (n : ℕ) (g : TraceFault) (r : Result Stage LineFault) (others : Stage → Result ReadState TraceFault)
    → ((t : Stage) → others t ≡ Err g → (m : ℕ) × (f : LineFault) × (g ≡ fault_of_line m f))
    → cond b (Err (faults.BadLine n)) (after_line n r others) ≡ Err g → (m : ℕ) × (f : LineFault) × (g ≡ fault_of_line m f)
step_numbered true n g r others later e = (n, Bad, sym (same_fault (faults.BadLine n) g e))
step_numbered false n g (Err f) others later e = (n, f, sym (same_fault (fault_of_line n f) g e))
step_numbered false n g (Ok t) others later e = later t e

always_numbered : (n : ℕ) (s : Stage) (parts : List (List ℕ)) (g : TraceFault) → parse_from n s parts ≡ Err g → (m : ℕ) × (f : LineFault) × (g ≡ fault_of_line m f)
unfolding parse_from
always_numbered n s [] g e = cc
always_numbered n s (line ∷ []) g e = rest_numbered (is_bad_rest s line) n g (record { stage = s; number = n; part = line }) e
always_numbered n s (line ∷ next ∷ others) g e =
    step_numbered (ltb 8192 (length line)) n g (step s line) (λ t. parse_from (n + 1) t (next ∷ others)) (λ t h. always_numbered (n + 1) t (next ∷ others) g h) e

not_numbered : (g h : TraceFault) → h ≡ faults.TooLarge ⊎ (h ≡ faults.Unfinished) → g ≡ h → (m : ℕ) × (f : LineFault) × (g ≡ fault_of_line m f) → ⊥
not_numbered g h is same k = no_number k.0 k.1 h is (sym same ∙ k.2)

large_fault : (max : ℕ) (bytes : List ℕ) (r : Result ReadState TraceFault) → ((g : TraceFault) → r ≡ Err g → (m : ℕ) × (f : LineFault) × (g ≡ fault_of_line m f)) → trace_or_fault max bytes r ≡ Err faults.TooLarge → max < length bytes
large_fault max bytes (Err g) all e = absurd (not_numbered g faults.TooLarge (inl refl) (same_fault g faults.TooLarge e) (all g refl))
large_fault max bytes (Ok p) all e = elim (whole_fault (ltb max (length bytes)) p faults.TooLarge e) [
  | inl h ↦ ltb-true _ _ h.0
  | inr h ↦ absurd (let k : faults.TooLarge ≡ faults.Unfinished = h.1 in cc)
]

unfinished_fault : (max : ℕ) (bytes : List ℕ) (r : Result ReadState TraceFault) → ((g : TraceFault) → r ≡ Err g → (m : ℕ) × (f : LineFault) × (g ≡ fault_of_line m f)) → trace_or_fault max bytes r ≡ Err faults.Unfinished → length bytes ≤ max
unfinished_fault max bytes (Err g) all e = absurd (not_numbered g faults.Unfinished (inr refl) (same_fault g faults.Unfinished e) (all g refl))
unfinished_fault max bytes (Ok p) all e = elim (whole_fault (ltb max (length bytes)) p faults.Unfinished e) [
  | inl h ↦ absurd (let k : faults.Unfinished ≡ faults.TooLarge = h.1 in cc)
  | inr h ↦ ltb-false _ _ h.0
]

pub fault_of_the_whole : FaultOfTheWhole
unfolding parse_result
fault_of_the_whole bytes =
    let r : Result ReadState TraceFault = goes_from start (take TRACE_MAX bytes) in
    let all : (g : TraceFault) → r ≡ Err g → (m : ℕ) × (f : LineFault) × (g ≡ fault_of_line m f) = λ g e. always_numbered start.number start.stage (lines_of_text (start.part ++ take TRACE_MAX bytes)) g e in
    (large_fault TRACE_MAX bytes r all, unfinished_fault TRACE_MAX bytes r all)
