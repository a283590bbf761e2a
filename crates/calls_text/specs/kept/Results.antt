-- What functions return for a line.
use Rattle.std.specs.Prelude.{◌≡◌, ℕ, [], Result, Ok, Err}
use Rattle.ec_heading.specs.declared.version.Version.TheVariants.{Two}
use Rattle.ec_heading.specs.HeaderTree.{empty_heading}
use Rattle.calls_text.specs.declared.fault.FaultKind.{FaultKind}
use Rattle.calls_text.specs.declared.fault.LineFault.{LineFault}
use Rattle.calls_text.specs.Reading.{Draft, draft_of, StepFails}

-- the limit of a header, or the kind of fault
abbrev pub IsLimit : Result ℕ FaultKind → Result Draft FaultKind → Type 0
IsLimit (Ok n) stepped = stepped ≡ Ok (draft_of (empty_heading Two n []))
IsLimit (Err kind) stepped = stepped ≡ Err kind

abbrev pub Opens : Result Draft LineFault → Result Draft FaultKind → Type 0
Opens (Ok d) stepped = stepped ≡ Ok d
Opens (Err e) stepped = StepFails e stepped
