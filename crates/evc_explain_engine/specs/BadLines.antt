-- Where the faulty line of a trace is, and what is wrong with it there.
use Rattle.std.specs.Prelude.{◌≡◌, ℕ, ◌-◌, ◌<◌, ◌≤◌, Bool, true, false, bytes_eq, List, []}
use Rattle.std.specs.Prelude.{◌++◌, length, Option, Some, None, Err, codes}
use Rattle.ec_heading.specs.HeadingModel.{HeadingModel}
use Rattle.ec_heading.specs.Heading.{head_step}
use Rattle.ec_heading.specs.HeaderTree.{empty_heading}
use Rattle.ec_heading.specs.declared.version.Version.TheVariants.{One}
use Rattle.ec_trace.specs.Outcome.{parse_result}
use Rattle.ec_trace.specs.Reading.{LinesModel, IsOpened}
use Rattle.ec_trace.specs.TraceModel.{TraceModel}
use Rattle.ec_trace.specs.declared.read.TheConstants.{TRACE_MAX}
use Rattle.ec_trace.specs.declared.fault.TraceFault.{TraceFault}
use Rattle.ec_trace.specs.declared.fault.TraceFault.TheVariants as faults
use Rattle.ec_explain.specs.TextLines.{line_at, text_before_line}
use Rattle.ec_explain.specs.declared.cause.Cause.TheVariants as causes
use Rattle.ec_explain.specs.declared.finding.Finding.{Finding}
use Rattle.ec_explain.specs.declared.site.Site.{Site}
use Rattle.ec_explain.specs.declared.site.Site.TheVariants as sites
use Rattle.ec_explain.specs.Findings.{finding_of_line, finding_of_text, finding_of_refusal, finding_of_wrong_reply, find_missing_end}
use Rattle.evc_explain_engine.specs.Reasons.{trace_before}

-- the header of a text, up to its line `run`, is this
abbrev pub Opens : List ℕ → HeadingModel → Type 0
Opens text h = (left : Option (List ℕ)) × (r : LinesModel) × IsOpened text left r h

-- the lines before line n, and then `run` and `end`
abbrev pub up_to : ℕ → List ℕ → List ℕ
up_to n text = text_before_line n text ++ codes "run\nend\n"

-- the header of a text, up to its line `run`; or None, and then the text is no trace
abbrev pub Heads : List ℕ → Option HeadingModel → Type 0
Heads text (Some h) = Opens text h
Heads text None = (fault : TraceFault) × (parse_result TRACE_MAX text ≡ Err fault)

-- whether line n follows the line `end`
abbrev pub follows_end : ℕ → List ℕ → Bool
follows_end n text = bytes_eq (line_at (n - 1) text) (codes "end")

-- line n is the first faulty one of a text and bad, and is before `run`: it doesn't follow `end`,
-- and the lines before it, with `end`, are no trace
pub record IsInHeading (text : List ℕ) (n : ℕ) : Type 0 where
  pub bad : parse_result TRACE_MAX text ≡ Err (faults.BadLine n)
  pub before : trace_before n text ≡ None
  pub early : follows_end n text ≡ false

-- where line n of a text is: the first and the second by their numbers; the third as the line of
-- the workers, with its lowest fault; one after the declarations of those before it, with its
-- lowest fault there; one after `run`, if those before it, with `end`, are a trace; and one after
-- `end`. It is not known where it is only if those before it, with `run` and `end`, are too large a
-- text
abbrev pub IsSite : List ℕ → ℕ → Site → Type 0
IsSite text n sites.First = n ≤ 1
IsSite text n sites.Limit = n ≡ 2
IsSite text n (sites.Workers fault) = (n ≡ 3)
    × (head_step (empty_heading One 1 []) (line_at n text) ≡ Err fault)
IsSite text n (sites.Declaration h fault) = Opens (up_to n text) h.now
    × (head_step h.now (line_at n text) ≡ Err fault)
IsSite text n (sites.Entry h) = (follows_end n text ≡ false)
    × (t : TraceModel) × (trace_before n text ≡ Some t) × (h.now ≡ t.heading)
IsSite text n sites.Behind = follows_end n text ≡ true
IsSite text n sites.Unknown = TRACE_MAX < length (up_to n text)

-- what is found of a bad line: the first cause that holds of the line at its site
pub record FindsBad (text : List ℕ) (n : ℕ) (f : Finding) : Type 0 where
  pub site : Site
  pub represents : IsSite text n site
  pub found : f ≡ finding_of_line site n (line_at n text)

-- what is found of a text that has this fault as a trace
abbrev pub Finds : List ℕ → TraceFault → Finding → Type 0
Finds text (faults.BadLine n) f = FindsBad text n f
Finds text (faults.Refused n refusal) f = f ≡ finding_of_refusal n refusal text
Finds text (faults.WrongReply n right) f = f ≡ finding_of_wrong_reply n right text
Finds text faults.Unfinished f = f ≡ find_missing_end text
Finds text faults.TooLarge f = f ≡ finding_of_text causes.TooLarge
Finds text faults.Read f = Unit {0}
Finds text faults.Memory f = Unit {0}
