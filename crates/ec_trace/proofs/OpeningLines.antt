-- What a line before the entries does.
use Rattle.std.proofs.Common.{◌≡◌, ◌≤◌, ℕ, List, [], true, false, Option, Some, None, Ok, Err, sym, ap, ◌∙◌, subst}
use Rattle.std.proofs.lemmas.Bool.{cond-true, cond-false}
use Rattle.ec_heading.specs.HeadingModel.{HeadingModel}
use Rattle.ec_heading.specs.Heading.{head_step}
use Rattle.ec_heading.specs.HeaderTree.{empty_heading}
use Rattle.ec_heading.specs.Spelling.{trace_header}
use Rattle.ec_heading.specs.Versions.{version_of}
use Rattle.ec_heading.specs.declared.heading.HeadFault.{HeadFault}
use Rattle.ec_heading.specs.declared.version.Version.{Version}
use Rattle.ec_trace.specs.Outcome.{Returns}
use Rattle.ec_trace.specs.Reading.{LinesModel, HasLine, Declares, is_run}
use Rattle.ec_trace.specs.Stages.{Opening, Limiting, Declaring, Running}
use Rattle.ec_trace.specs.Step.{step, limit_of, stage_of_version, after_limit, after_declaration}
use Rattle.ec_trace.specs.declared.fault.LineFault.TheVariants.{Bad}
use Rattle.ec_trace.specs.declared.fault.TraceFault.{TraceFault}
use Rattle.ec_trace.specs.declared.fault.TraceFault.TheVariants.{Memory}
use Rattle.ec_trace.specs.declared.read.TheConstants.{TRACE_MAX}
use Rattle.ec_trace.proofs.Readings.{line_refused}

pub version_line : (line : List ℕ) (v : Version) → version_of trace_header line ≡ Some v → step Opening line ≡ Ok (Limiting v)
unfolding step
version_line line v e = ap stage_of_version e

pub no_version_line : (line : List ℕ) → version_of trace_header line ≡ None → step Opening line ≡ Err Bad
unfolding step
no_version_line line e = ap stage_of_version e

pub limit_line : (v : Version) (line : List ℕ) (n : ℕ) → limit_of v line ≡ Some n → step (Limiting v) line ≡ Ok (Declaring (empty_heading v n []))
unfolding step
limit_line v line n e = ap (after_limit v) e

pub no_limit_line : (v : Version) (line : List ℕ) → limit_of v line ≡ None → step (Limiting v) line ≡ Err Bad
unfolding step
no_limit_line v line e = ap (after_limit v) e

pub run_line : (h : HeadingModel) (line : List ℕ) → is_run h line ≡ true → step (Declaring h) line ≡ Ok (Running (record { heading = h; entries = [] }))
unfolding step
run_line h line e = cond-true _ _ _ e

pub declared_line : (h new : HeadingModel) (line : List ℕ) → is_run h line ≡ false → head_step h line ≡ Ok new → step (Declaring h) line ≡ Ok (Declaring new)
unfolding step
declared_line h new line other e = cond-false _ _ _ other ∙ ap after_declaration e

no_declared_line : (h : HeadingModel) (fault : HeadFault) (line : List ℕ) → is_run h line ≡ false → head_step h line ≡ Err fault → step (Declaring h) line ≡ Err Bad
unfolding step
no_declared_line h fault line other e = cond-false _ _ _ other ∙ ap after_declaration e

-- a line that declares nothing is reported as bad
pub undeclared : (xs : List ℕ) (left : Option (List ℕ)) (r : LinesModel) (h new : HeadingModel) (f : TraceFault) → HasLine xs left r r.line (Declaring h) → is_run h r.line ≡ false → r.taken ≤ TRACE_MAX → Declares (Err f) h new r → Returns TRACE_MAX xs left (Err f)
undeclared xs left r h new Memory b other small d = tt
undeclared xs left r h new f b other small d =
    subst (λ (k : TraceFault). Returns TRACE_MAX xs left (Err k)) (sym d.0)
    (line_refused xs left r r.line (Declaring h) Bad b (no_declared_line h d.1 r.line other d.2) small)
