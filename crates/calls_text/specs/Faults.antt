-- The kinds of faults, by number and by name, and those of headers among them.
use Rattle.std.specs.Prelude.{ℕ, List, codes}
use Rattle.calls_text.specs.declared.fault.FaultKind.{FaultKind}
use Rattle.calls_text.specs.declared.fault.FaultKind.TheVariants as kinds
use Rattle.calls_text.specs.declared.fault.LineFault.{LineFault}
use Rattle.calls_text.specs.declared.fault.LineFault.TheVariants as faults
use Rattle.ec_heading.specs.declared.heading.HeadFault.{HeadFault}
use Rattle.ec_heading.specs.declared.heading.HeadFault.TheVariants as heads

abbrev pub kind_number : FaultKind → ℕ
kind_number kinds.BadHeader = 1
kind_number kinds.BadLine = 2
kind_number kinds.BadName = 3
kind_number kinds.NameTaken = 4
kind_number kinds.UnknownName = 5
kind_number kinds.BadNumber = 6
kind_number kinds.TooMany = 7
kind_number kinds.Hidden = 8
kind_number kinds.TwoRoles = 9
kind_number kinds.NoRight = 10
kind_number kinds.BadOrder = 11
kind_number kinds.Unfinished = 12
kind_number kinds.Busy = 13
kind_number kinds.Idle = 14
kind_number kinds.Unsuited = 15
kind_number kinds.AtLimit = 16

abbrev pub kind_name : FaultKind → List ℕ
kind_name kinds.BadHeader = codes "BadHeader"
kind_name kinds.BadLine = codes "BadLine"
kind_name kinds.BadName = codes "BadName"
kind_name kinds.NameTaken = codes "NameTaken"
kind_name kinds.UnknownName = codes "UnknownName"
kind_name kinds.BadNumber = codes "BadNumber"
kind_name kinds.TooMany = codes "TooMany"
kind_name kinds.Hidden = codes "Hidden"
kind_name kinds.TwoRoles = codes "TwoRoles"
kind_name kinds.NoRight = codes "NoRight"
kind_name kinds.BadOrder = codes "BadOrder"
kind_name kinds.Unfinished = codes "Unfinished"
kind_name kinds.Busy = codes "Busy"
kind_name kinds.Idle = codes "Idle"
kind_name kinds.Unsuited = codes "Unsuited"
kind_name kinds.AtLimit = codes "AtLimit"

-- the kind of a fault of a header line. `line_fault` passes no `Memory`, which is no fault of a
-- line
abbrev pub kind_of_head : HeadFault → FaultKind
kind_of_head heads.BadLine = kinds.BadLine
kind_of_head heads.BadName = kinds.BadName
kind_of_head heads.NameTaken = kinds.NameTaken
kind_of_head heads.UnknownName = kinds.UnknownName
kind_of_head heads.BadNumber = kinds.BadNumber
kind_of_head heads.TooMany = kinds.TooMany
kind_of_head heads.TwoRoles = kinds.TwoRoles
kind_of_head heads.Memory = kinds.BadLine

-- the error of a line, given that of the header
abbrev pub line_fault : HeadFault → LineFault
line_fault heads.Memory = faults.Memory
line_fault fault = faults.Of (kind_of_head fault)
