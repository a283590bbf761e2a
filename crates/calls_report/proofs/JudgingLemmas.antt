-- How histories are judged, one after another.
use Rattle.std.proofs.Common.{◌≡◌, ◌<◌, ◌≤◌, inl, inr, ℕ, ◌+◌, List, [], ◌∷◌, ◌++◌, Result, Ok, Err}
use Rattle.std.proofs.Common.{Bool, true, false, cond, eqb, if◌then◌else◌, refl, ap, sym, ◌∙◌, subst, arith}
use Rattle.std.proofs.Common.{codes, ◌==◌}
use Rattle.std.proofs.Common.{append-nil, length}
use Rattle.std.specs.List.{onto_first}
use Rattle.std.proofs.lemmas.List.Concat.{flat_map-append}
use Rattle.ec_text.specs.Puts.{OutputModel, Puts}
use Rattle.ec_text.proofs.shared.PutLemmas.{puts_then}
use Rattle.ec_heading.specs.HeadingModel.{HeadingModel}
use Rattle.calls_core.specs.declared.history.Placed.{Placed}
use Rattle.calls_text.specs.declared.fault.FaultKind.{FaultKind}
use Rattle.calls_text.specs.declared.fault.TextFault.{TextFault}
use Rattle.calls_text.specs.declared.fault.TextFault.TheVariants as faults
use Rattle.calls_text.specs.Recordings.{RecordingModel}
use Rattle.calls_text.specs.Reading.{Stage, Opening, Limiting, Declaring, Running, Ended, step}
use Rattle.calls_text.specs.Reading.{is_ended}
use Rattle.calls_text.specs.Outcomes.{OneRead, ParseResult, LineAt, lines_of_text, parse_from, after_line, parse_end}
use Rattle.calls_text.specs.Outcomes.{ReturnsFault}
use Rattle.calls_report.specs.declared.checking.Stop.{Stop}
use Rattle.calls_report.specs.declared.checking.Stop.TheVariants as stops
use Rattle.calls_report.specs.declared.status.Status.{Status}
use Rattle.calls_report.specs.declared.status.Status.TheVariants as statuses
use Rattle.calls_report.specs.Notes.{fault_note}
use Rattle.calls_report.specs.Orders.{order_lines}
use Rattle.calls_report.specs.Remarks.{remarks_text}
use Rattle.calls_report.specs.Checks.{JudgedHistory, HasOrder, AreJudged, texts_of, remarks_on}
use Rattle.calls_report.specs.Checks.{history_text, IsNoEnd, Ends}
use Rattle.calls_report.specs.kept.Judging.{PutsOrder, StopsBy, status_by, EndsBy, fault_status}
use Rattle.calls_report.specs.kept.Judging.{Judges, IsJudgedSoFar, JudgesOne, IsLast}
use Rattle.calls_text.proofs.TextParts.{by_rest, by_line}

pub same_lines : (a b : OutputModel) (h k : HeadingModel) (ls ms : List (List ℕ)) (n m : ℕ)
    (order : List Placed) → h ≡ k → ls ≡ ms → n ≡ m → Puts a b (order_lines h ls n order)
    → Puts a b (order_lines k ms m order)
same_lines a b h k ls ms n m order e f q put =
    subst (λ x. Puts a b (order_lines x ms m order)) e
    (subst (λ x. Puts a b (order_lines h x m order)) f
    (subst (λ x. Puts a b (order_lines h ls x order)) q put))

-- NUMBERS OF LINES

by_none : (n : ℕ) (s : Stage) → is_ended s ≡ false → parse_from n s [] ≡ parse_end n s []
unfolding parse_from is_ended
by_none n Opening going = refl
by_none n Limiting going = refl
by_none n (Declaring d) going = refl
by_none n (Running r) going = refl
by_none n (Ended r) going = cc

one_read : (x y : OneRead) → ◌≡◌ {A = ParseResult} (Ok x) (Ok y) → x ≡ y
one_read x y same = cc

no_read : {P : Type 0} (f : LineAt) (y : OneRead) → ◌≡◌ {A = ParseResult} (Err f) (Ok y) → P
no_read f y same = absurd (let never : ⊥ = cc in never)

at_end : (n : ℕ) (s : Stage) (ps : List (List ℕ)) (o : OneRead) → is_ended s ≡ true
    → parse_from n s ps ≡ Ok o → n ≤ o.number
unfolding parse_from is_ended
at_end n Opening ps o over is = cc
at_end n Limiting ps o over is = cc
at_end n (Declaring d) ps o over is = cc
at_end n (Running r) ps o over is = cc
at_end n (Ended r) ps o over is =
    let same : n ≡ o.number = ap (λ (x : OneRead). x.number)
    (one_read (record { recorded = r; number = n; rest = ps }) o is) in
    omega arith

takes_on : (n : ℕ) (line : List ℕ) (r : Result Stage FaultKind) (others : Stage
    → ParseResult) (o : OneRead)
    → ((t : Stage) → others t ≡ Ok o → n + 1 ≤ o.number) → after_line n line r others ≡ Ok o
    → n + 1 ≤ o.number
takes_on n line (Ok t) others o more is = more t is
takes_on n line (Err kind) others o more is = no_read _ o is

ended_on : (n : ℕ) (s : Stage) (rest : List ℕ) (o : OneRead) → parse_end n s rest ≡ Ok o
    → n + 1 ≤ o.number
ended_on n s [] o is = no_read _ o is
ended_on n s (b ∷ bs) o is =
    takes_on n (b ∷ bs) (step s (b ∷ bs)) _ o (λ t e. no_read _ o e) is

either_way : (b : Bool) (n m : ℕ) → (if b then n else n + 1) ≤ m → n ≤ m
either_way true n m most = most
either_way false n m most = omega arith

-- a history ends on a later line than it begins, unless it has ended there
goes_on : (b : Bool) (ps : List (List ℕ)) (n : ℕ) (s : Stage) (o : OneRead) → is_ended s ≡ b
    → parse_from n s ps ≡ Ok o → (if b then n else n + 1) ≤ o.number
goes_on true ps n s o over is = at_end n s ps o over is
goes_on false [] n s o going is = ended_on n s [] o (sym (by_none n s going) ∙ is)
goes_on false (rest ∷ []) n s o going is = ended_on n s rest o (sym (by_rest n s rest going) ∙ is)
goes_on false (line ∷ next ∷ others) n s o going is =
    takes_on n line (step s line) (λ t. parse_from (n + 1) t (next ∷ others)) o
    (λ t e. either_way (is_ended t) (n + 1) o.number
    (goes_on (is_ended t) (next ∷ others) (n + 1) t o refl e))
    (sym (by_line n s line next others going) ∙ is)

pub goes_past : (n : ℕ) (ps : List (List ℕ)) (o : OneRead) → parse_from n Opening ps ≡ Ok o
    → n + 1 ≤ o.number
unfolding is_ended
goes_past n ps o is = goes_on false ps n Opening o refl is

-- THE END OF A TEXT

no_parts : (b : ℕ) (ps : List (List ℕ)) → onto_first b ps ≡ [] → ⊥
no_parts b [] none = cc
no_parts b (p ∷ ps) none = cc

some_parts : (bytes : List ℕ) → lines_of_text bytes ≡ [] → ⊥
some_parts [] none = cc
some_parts (b ∷ bytes) none =
    let P : Bool → Type 0 =
    λ t. cond t ([] ∷ lines_of_text bytes) (onto_first b (lines_of_text bytes)) ≡ [] → ⊥ in
    let w : P (eqb b 10) = elim (eqb b 10) as P [
      | true ↦ λ e. (let never : ⊥ = cc in never)
      | false ↦ λ e. no_parts b (lines_of_text bytes) e
    ] in
    w none

long_parts : (b : ℕ) (ps : List (List ℕ)) → onto_first b ps ≡ [] ∷ [] → ⊥
long_parts b [] one = cc
long_parts b (p ∷ ps) one = cc

tail_none : (p : List ℕ) (ps : List (List ℕ)) → p ∷ ps ≡ [] ∷ [] → ps ≡ []
tail_none p ps one = cc

more_parts : (b : ℕ) (bytes : List ℕ) → lines_of_text (b ∷ bytes) ≡ [] ∷ [] → ⊥
more_parts b bytes one =
    let P : Bool → Type 0 =
    λ t. cond t ([] ∷ lines_of_text bytes) (onto_first b (lines_of_text bytes)) ≡ [] ∷ [] → ⊥ in
    let w : P (eqb b 10) = elim (eqb b 10) as P [
      | true ↦ λ e. some_parts bytes (tail_none [] (lines_of_text bytes) e)
      | false ↦ λ e. long_parts b (lines_of_text bytes) e
    ] in
    w one

by_bytes : (rest : List ℕ) → 0 < length rest → lines_of_text rest ≡ [] ∷ [] → ⊥
by_bytes [] some none = omega (arith, some)
by_bytes (b ∷ bytes) some none = more_parts b bytes none

-- if bytes are left after a history, the text does not end there
pub no_end : (n : ℕ) (rest : List ℕ) → (1 < n → 0 < length rest) → IsNoEnd n (lines_of_text rest)
no_end n rest left = λ past none. by_bytes rest (left past) none

-- ONE HISTORY MORE

judged_more : (n : ℕ) (ps : List (List ℕ)) (js : List JudgedHistory) (m : ℕ) (qs : List (List ℕ))
    (j : JudgedHistory) → AreJudged n ps js m qs → parse_from m Opening qs ≡ Ok j.read
    → HasOrder j.read.recorded j.order
    → AreJudged n ps (js ++ j ∷ []) j.read.number j.read.rest
judged_more n ps [] m qs j are reads has = (
  ap (λ k. parse_from k Opening ps) are.0 ∙ ap (parse_from m Opening) are.1
      ∙ reads,
  has,
  (refl, refl),
)
judged_more n ps (k ∷ js) m qs j are reads has =
    (are.0, are.1, judged_more k.read.number k.read.rest js m qs j are.2 reads has)

texts_more : (js : List JudgedHistory) (j : JudgedHistory) → texts_of (js ++ j ∷ [])
    ≡ texts_of js ++ history_text j.read.recorded j.order
texts_more js j =
    flat_map-append (λ (k : JudgedHistory). history_text k.read.recorded k.order) js (j ∷ [])
    ∙ ap (λ t. texts_of js ++ t) (append-nil (history_text j.read.recorded j.order))

remarks_more : (js : List JudgedHistory) (j : JudgedHistory) → remarks_on (js ++ j ∷ [])
    ≡ remarks_on js ++ remarks_text j.read.number j.read.recorded
remarks_more js j =
    flat_map-append (λ (k : JudgedHistory). remarks_text k.read.number k.read.recorded) js (j ∷ [])
    ∙ ap (λ t. remarks_on js ++ t) (append-nil (remarks_text j.read.number j.read.recorded))

pub so_far_more : (text : List ℕ) (n : ℕ) (rest : List ℕ) (old mid new before among after : OutputModel)
    (r : RecordingModel) (m : ℕ) (more : List ℕ) → IsJudgedSoFar text n rest old mid before among
    → parse_from n Opening (lines_of_text rest)
    ≡ Ok (record { recorded = r; number = m; rest = lines_of_text more })
    → PutsOrder r mid new → Puts among after (remarks_text m r)
    → IsJudgedSoFar text m more old new before after
so_far_more text n rest old mid new before among after r m more so reads put remarked =
    let j : JudgedHistory = record {
      read = record { recorded = r; number = m; rest = lines_of_text more };
      order = put.0;
    } in record {
      judged = so.judged ++ j ∷ [];
      judged_are =
          judged_more 1 (lines_of_text text) so.judged n (lines_of_text rest) j so.judged_are reads
          put.1;
      texts = subst (Puts old new) (sym (texts_more so.judged j))
          (puts_then old mid new _ _ so.texts put.2);
      remarks = subst (Puts before after) (sym (remarks_more so.judged j))
          (puts_then before among after _ _ so.remarks remarked);
    }

none_put : (now : OutputModel) → Puts now now []
none_put now = λ first all h. rw append-nil h

-- THE END

same_put : (a b c : OutputModel) (bs : List ℕ) → c ≡ b → Puts a b bs → Puts a c bs
same_put a b c bs same put = subst (λ k. Puts a k bs) (sym same) put

-- after the histories so far it ended so
ended : (status : Status) (text : List ℕ) (n : ℕ) (rest : List ℕ)
    (old new before among after : OutputModel) → IsJudgedSoFar text n rest old new before among
    → Ends status n (lines_of_text rest) among after → Judges status text old new before after
ended status text n rest old new before among after so ends = (
  so.judged,
  record {
    number = n;
    rest = lines_of_text rest;
    judged_are = so.judged_are;
    remarked = among;
    remarks = so.remarks;
    ends = ends;
  },
  so.texts,
)

pub judges_unread : (text : List ℕ) (n : ℕ) (rest : List ℕ) (old new before among after : OutputModel)
    (fault : TextFault) → IsJudgedSoFar text n rest old new before among
    → IsNoEnd n (lines_of_text rest)
    → ReturnsFault (parse_from n Opening (lines_of_text rest)) fault
    → Puts among after (fault_note fault)
    → Judges (fault_status fault) text old new before after
judges_unread text n rest old new before among after (faults.At m kind cause) so goes_on tells says =
    ended statuses.Refused text n rest old new before among after so (inl (
      fault_note (faults.At m kind cause),
      (m, kind, tells.0, tells.1, ap (λ c. fault_note (faults.At m kind c)) tells.2),
      goes_on,
      says,
    ))
judges_unread text n rest old new before among after faults.Memory so goes_on tells says =
    ended statuses.Memory text n rest old new before among after so says

pub judges_stopped : (text : List ℕ) (n : ℕ) (rest : List ℕ)
    (old new before among mid after : OutputModel) (o : OneRead) (stop : Stop)
    → IsJudgedSoFar text n rest old new before among
    → parse_from n Opening (lines_of_text rest) ≡ Ok o
    → StopsBy o.number o.recorded among mid stop → EndsBy stop mid after
    → Judges (status_by stop) text old new before after
judges_stopped text n rest old new before among mid after o stops.Refused so reads stop same =
    ended statuses.Refused text n rest old new before among after so (inr (
      o,
      stop.0,
      reads,
      stop.1,
      (stop.2.0, stop.2.1, same_put among mid after _ same stop.2.2),
    ))
judges_stopped text n rest old new before among mid after o stops.NotDecided so reads stop same =
    ended statuses.NotDecided text n rest old new before among after so
    (o, stop.0, reads, stop.1, same_put among mid after _ same stop.2)
judges_stopped text n rest old new before among mid after o stops.Memory so reads stop says =
    ended statuses.Memory text n rest old new before among after so
    (subst (λ k. Puts k after (codes "no memory\n")) stop says)

pub judges_all : (text : List ℕ) (n : ℕ) (rest : List ℕ) (old new before after : OutputModel)
    → IsJudgedSoFar text n rest old new before after → 1 < n → rest ≡ []
    → Judges statuses.Done text old new before after
judges_all text n rest old new before after so past none =
    ended statuses.Done text n rest old new before after after so
    (past, ap lines_of_text none, refl)

-- the last history of a text, after the others
pub judges_last : (text : List ℕ) (n : ℕ) (rest : List ℕ) (old mid before among : OutputModel)
    (r : RecordingModel) (m : ℕ) (more : List ℕ) → IsJudgedSoFar text n rest old mid before among
    → 1 ≤ n
    → parse_from n Opening (lines_of_text rest)
    ≡ Ok (record { recorded = r; number = m; rest = lines_of_text more }) → more ≡ []
    → IsLast text m r old mid before among
judges_last text n rest old mid before among r m more so first reads none status new after (inl d) =
    let o : OneRead = record { recorded = r; number = m; rest = lines_of_text more } in
    let past : n + 1 ≤ m = goes_past n (lines_of_text rest) o reads in
    subst (λ (s : Status). Judges s text old new before after) (sym d.0)
    (judges_all text m more old new before after
    (so_far_more text n rest old mid new before among after r m more so reads d.1 d.2)
    (omega (arith, past, first)) none)
judges_last text n rest old mid before among r m more so first reads none status new after (inr e) =
    let o : OneRead = record { recorded = r; number = m; rest = lines_of_text more } in
    subst (λ (s : Status). Judges s text old new before after) (sym e.2)
    (judges_stopped text n rest old new before among e.1 after o e.0
    (subst (λ (k : OutputModel). IsJudgedSoFar text n rest old k before among) (sym e.3) so)
    reads e.4 e.5)

pub nothing : (xs : List ℕ) → length xs ≡ 0 → xs ≡ []
nothing [] none = refl
nothing (x ∷ xs) none = absurd (omega (arith, none))

pub something : (xs : List ℕ) → (length xs == 0) ≡ false → 0 < length xs
something [] none = absurd (cc)
something (x ∷ xs) none = omega arith
