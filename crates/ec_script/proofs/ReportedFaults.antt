-- A fault is reported for a text exactly if it is that of its first faulty line, or of line 1 if
-- the text is too long.
use Rattle.std.proofs.Common.{◌≡◌, ◌≢◌, ◌⊎◌, inl, inr, ℕ, ◌+◌, ◌<◌, ◌≤◌, List, [], ◌∷◌, ◌++◌, length, Some, None, Err, refl, sym, ap, ◌∙◌, subst, arith, append_assoc, append-nil}
use Rattle.std.specs.List.{AllByRecursion}
use Rattle.std.proofs.lemmas.Bool.{cases_lt}
use Rattle.ec_script.specs.declared.fault.Kind.{Kind}
use Rattle.ec_script.specs.declared.fault.Kind.TheVariants as kinds
use Rattle.ec_script.specs.declared.parsing.TheConstants.{SCRIPT_MAX}
use Rattle.ec_script.specs.declared.stage.Stage.{Stage}
use Rattle.ec_script.specs.declared.stage.Stage.TheVariants.{Opening}
use Rattle.ec_script.specs.Reading.{step}
use Rattle.ec_script.specs.Outcome.{lines_of_text, plan_or_fault, after_line, parse_end, parse_from, parse_result, first_or_empty, long_by, long_kind}
use Rattle.ec_script.specs.Grammar.{IsLine, Leads, IsRefused, IsCutOff, IsFirstFault, IsLongFault, IsFault, FaultsAreReported}
use Rattle.ec_heading.specs.Spelling.{lines_text}
use Rattle.ec_script.proofs.Lines.{HasFirst, has_first, parts_line, parts_rest, goes_line, goes_rest}
use Rattle.ec_heading.specs.Versions.{version_of}
use Rattle.ec_script.specs.Headers.{script_header}
use Rattle.ec_heading.specs.declared.version.Version.{Version}
use Rattle.ec_heading.specs.declared.version.Version.TheVariants.{One, Two}
use Rattle.ec_heading.proofs.shared.VersionFacts.{version_back, version_none, version_none_from}
use Rattle.ec_script.proofs.shared.Texts.{within_goes, long_goes, fault_is_first, long_is_line_1, whole, line_at, are_lines, behind_of}

-- THE FIRST FAULTY LINE

rest_ended : (n : ℕ) (s : Stage) (line : List ℕ) → 0 < length line → parse_end n s line ≡ after_line n (step s line) (λ t. Err (n, kinds.Unfinished))
rest_ended n s [] some = absurd (omega arith)
rest_ended n s (b ∷ bs) some = refl

-- the text ends in a line
last_line : (n : ℕ) (s : Stage) (line behind : List ℕ) → IsLine line → behind ≡ [] → parse_from n s (lines_of_text (line ++ behind)) ≡ parse_end n s line
last_line n s line behind plain none = ap (λ (r : List ℕ). parse_from n s (lines_of_text (line ++ r))) none ∙ ap (λ (r : List ℕ). parse_from n s (lines_of_text r)) (append-nil line) ∙ goes_rest n s line plain

refused_goes : (n : ℕ) (s : Stage) (line behind : List ℕ) (kind : Kind) → IsLine line → IsRefused s line behind kind → parse_from n s (lines_of_text (line ++ behind)) ≡ Err (n, kind)
refused_goes n s line behind kind plain (inl (more, is), refused) =
    ap (λ (r : List ℕ). parse_from n s (lines_of_text (line ++ r))) is ∙ goes_line n s line more plain ∙ ap (λ r. after_line n r (λ t. parse_from (n + 1) t (lines_of_text more))) refused
refused_goes n s line behind kind plain (inr (none, some), refused) =
    last_line n s line behind plain none ∙ rest_ended n s line some ∙ ap (λ r. after_line n r (λ t. Err (n, kinds.Unfinished))) refused

cut_goes : (n : ℕ) (s : Stage) (line behind : List ℕ) (kind : Kind) → IsLine line → IsCutOff s line behind kind → parse_from n s (lines_of_text (line ++ behind)) ≡ Err (n, kind)
cut_goes n s line behind kind plain (none, is, inl (some, (next, taken_on))) =
    last_line n s line behind plain none ∙ rest_ended n s line some ∙ ap (λ r. after_line n r (λ t. Err (n, kinds.Unfinished))) taken_on ∙ ap (λ k. Err (n, k)) (sym is)
cut_goes n s line behind kind plain (none, is, inr (empty, no_plan)) =
    last_line n s line behind plain none ∙ ap (parse_end n s) empty ∙ ap (plan_or_fault n) no_plan ∙ ap (λ k. Err (n, k)) (sym is)

at_fault : (n : ℕ) (s : Stage) (line behind : List ℕ) (kind : Kind) → IsLine line → IsRefused s line behind kind ⊎ IsCutOff s line behind kind → parse_from n s (lines_of_text (line ++ behind)) ≡ Err (n, kind)
at_fault n s line behind kind plain (inl refused) = refused_goes n s line behind kind plain refused
at_fault n s line behind kind plain (inr cut) = cut_goes n s line behind kind plain cut

faulty_goes : (n : ℕ) (s t : Stage) (before : List (List ℕ)) (line behind : List ℕ) (kind : Kind) → AllByRecursion IsLine before → Leads s before t → IsLine line → IsRefused t line behind kind ⊎ IsCutOff t line behind kind
    → parse_from n s (lines_of_text (lines_text before ++ (line ++ behind)))
    ≡ Err (n + length before, kind)
faulty_goes n s t [] line behind kind each leads plain why =
    ap (λ (u : Stage). parse_from n u (lines_of_text (line ++ behind))) leads ∙ at_fault n t line behind kind plain why ∙ ap (λ (m : ℕ). Err (m, kind)) (omega arith)
faulty_goes n s t (l ∷ before) line behind kind each leads plain why =
    let e : lines_text (l ∷ before) ++ (line ++ behind) ≡ l ++ 10 ∷ (lines_text before ++ (line ++ behind)) =
    append_assoc (l ++ 10 ∷ []) (lines_text before) (line ++ behind) ∙ append_assoc l (10 ∷ []) (lines_text before ++ (line ++ behind)) in
    ap (λ (bs : List ℕ). parse_from n s (lines_of_text bs)) e
    ∙ goes_line n s l (lines_text before ++ (line ++ behind)) each.0
    ∙ ap (λ r. after_line n r (λ u. parse_from (n + 1) u (lines_of_text (lines_text before ++ (line ++ behind))))) leads.1
    ∙ faulty_goes (n + 1) leads.0 t before line behind kind each.1 leads.2 plain why
    ∙ ap (λ (m : ℕ). Err (m, kind)) (omega arith)

first_is_told : (text : List ℕ) (n : ℕ) (kind : Kind) → length text ≤ SCRIPT_MAX → IsFirstFault text n kind → parse_result text ≡ Err (n, kind)
first_is_told text n kind within is =
    within_goes text within
    ∙ ap (λ (bs : List ℕ). parse_from 1 Opening (lines_of_text bs)) is.whole
    ∙ faulty_goes 1 Opening is.stage is.before is.line is.behind kind is.each is.leads is.plain is.why
    ∙ ap (λ (m : ℕ). Err (m, kind)) (omega (arith, is.number))

-- A TEXT THAT IS TOO LONG

-- its first line
first_is : (line behind : List ℕ) → IsLine line → ((more : List ℕ) × (behind ≡ 10 ∷ more)) ⊎ (behind ≡ []) → first_or_empty (lines_of_text (line ++ behind)) ≡ line
first_is line behind plain (inl (more, is)) = ap (λ (r : List ℕ). first_or_empty (lines_of_text (line ++ r))) is ∙ ap first_or_empty (parts_line line more plain)
first_is line behind plain (inr none) = ap (λ (r : List ℕ). first_or_empty (lines_of_text (line ++ r))) none ∙ ap (λ (r : List ℕ). first_or_empty (lines_of_text r)) (append-nil line) ∙ ap first_or_empty (parts_rest line plain)

header_told : (v : Version) → version_of script_header (script_header v) ≡ Some v
header_told One = refl
header_told Two = refl

long_kind_is : (line : List ℕ) (kind : Kind) → ((v : Version) × (line ≡ script_header v) × (kind ≡ kinds.TooMany)) ⊎ (((v : Version) → line ≢ script_header v) × (kind ≡ kinds.BadHeader)) → long_kind line ≡ kind
long_kind_is line kind (inl (v, is, many)) = ap long_by (ap (version_of script_header) is ∙ header_told v) ∙ sym many
long_kind_is line kind (inr (other, bad)) = ap long_by (version_none_from script_header line other) ∙ sym bad

long_is_told : (text : List ℕ) (n : ℕ) (kind : Kind) → SCRIPT_MAX < length text → IsLongFault text n kind → parse_result text ≡ Err (n, kind)
long_is_told text n kind long is =
    let first : first_or_empty (lines_of_text text) ≡ is.line = ap (λ (t : List ℕ). first_or_empty (lines_of_text t)) is.whole ∙ first_is is.line is.behind is.plain is.ends in
    let kind_is : long_kind (first_or_empty (lines_of_text text)) ≡ kind = ap long_kind first ∙ long_kind_is is.line kind is.why in
    long_goes text long ∙ ap (λ k. Err (1, k)) kind_is ∙ ap (λ (m : ℕ). Err (m, kind)) (sym is.number)

behind_ends : (after : List (List ℕ)) → ((more : List ℕ) × (behind_of after ≡ 10 ∷ more)) ⊎ (behind_of after ≡ [])
behind_ends [] = inr refl
behind_ends (p ∷ ps) = inl (_, refl)

why_long : (line : List ℕ) (kind : Kind) → kind ≡ long_kind line → ((v : Version) × (line ≡ script_header v) × (kind ≡ kinds.TooMany)) ⊎ (((v : Version) → line ≢ script_header v) × (kind ≡ kinds.BadHeader))
why_long line kind is =
    (elim (version_of script_header line) as (λ o. version_of script_header line ≡ o → kind ≡ long_by o → ((v : Version) × (line ≡ script_header v) × (kind ≡ kinds.TooMany)) ⊎ (((v : Version) → line ≢ script_header v) × (kind ≡ kinds.BadHeader))) [
      | Some v ↦ λ q k. inl (v, version_back script_header line v q, k)
      | None ↦ λ q k. inr (version_none script_header line q, k)
    ]) refl is

long_fault : (text : List ℕ) (n : ℕ) (kind : Kind) → SCRIPT_MAX < length text → parse_result text ≡ Err (n, kind) → IsLongFault text n kind
long_fault text n kind long is =
    let f : HasFirst text = has_first text in
    let q = long_is_line_1 text n kind long is in
    record {
      line = f.first;
      behind = behind_of f.others;
      whole = whole text [] f.first f.others f.is;
      plain = line_at [] f.first f.others (subst (AllByRecursion IsLine) f.is (are_lines text));
      ends = behind_ends f.others;
      number = q.0;
      why = why_long f.first kind (q.1 ∙ ap (λ ps. long_kind (first_or_empty ps)) f.is);
    }

-- BOTH

fault_of : (text : List ℕ) (n : ℕ) (kind : Kind) → parse_result text ≡ Err (n, kind) → IsFault text n kind
fault_of text n kind is = elim (cases_lt SCRIPT_MAX (length text)) [
  | inl long ↦ inr (long, long_fault text n kind long is)
  | inr within ↦ inl (within, fault_is_first text n kind within is)
]

fault_is_told : (text : List ℕ) (n : ℕ) (kind : Kind) → IsFault text n kind → parse_result text ≡ Err (n, kind)
fault_is_told text n kind (inl (within, is)) = first_is_told text n kind within is
fault_is_told text n kind (inr (long, is)) = long_is_told text n kind long is

pub faults_are_reported : FaultsAreReported
faults_are_reported text n kind = (fault_of text n kind, fault_is_told text n kind)
