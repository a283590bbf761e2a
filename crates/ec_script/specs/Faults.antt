-- The kinds of faults, by number and by name, and those of headers among them.
use Rattle.std.specs.Prelude.{◌≡◌, ℕ, List, Some, codes}
use Rattle.ec_script.specs.declared.fault.Kind.{Kind}
use Rattle.ec_script.specs.declared.fault.Kind.TheVariants as kinds
use Rattle.ec_script.specs.declared.fault.StageFault.{StageFault}
use Rattle.ec_script.specs.declared.fault.StageFault.TheVariants as faults
use Rattle.ec_heading.specs.declared.heading.HeadFault.{HeadFault}
use Rattle.ec_heading.specs.declared.heading.HeadFault.TheVariants as heads
use Rattle.ec_heading.specs.Kinds.{fault_number}

abbrev pub kind_number : Kind → ℕ
kind_number kinds.BadHeader = 1
kind_number kinds.BadLine = 2
kind_number kinds.BadName = 3
kind_number kinds.NameTaken = 4
kind_number kinds.UnknownName = 5
kind_number kinds.BadNumber = 6
kind_number kinds.TooMany = 7
kind_number kinds.Hidden = 8
kind_number kinds.TwoRoles = 9
kind_number kinds.NoRight = 10
kind_number kinds.BadNesting = 11
kind_number kinds.Unfinished = 12

abbrev pub kind_name : Kind → List ℕ
kind_name kinds.BadHeader = codes "BadHeader"
kind_name kinds.BadLine = codes "BadLine"
kind_name kinds.BadName = codes "BadName"
kind_name kinds.NameTaken = codes "NameTaken"
kind_name kinds.UnknownName = codes "UnknownName"
kind_name kinds.BadNumber = codes "BadNumber"
kind_name kinds.TooMany = codes "TooMany"
kind_name kinds.Hidden = codes "Hidden"
kind_name kinds.TwoRoles = codes "TwoRoles"
kind_name kinds.NoRight = codes "NoRight"
kind_name kinds.BadNesting = codes "BadNesting"
kind_name kinds.Unfinished = codes "Unfinished"

-- the kind of a fault of a header's line; the last case is never used, since out of memory is no
-- fault of a line
abbrev pub kind_of_head : HeadFault → Kind
kind_of_head heads.BadLine = kinds.BadLine
kind_of_head heads.BadName = kinds.BadName
kind_of_head heads.NameTaken = kinds.NameTaken
kind_of_head heads.UnknownName = kinds.UnknownName
kind_of_head heads.BadNumber = kinds.BadNumber
kind_of_head heads.TooMany = kinds.TooMany
kind_of_head heads.TwoRoles = kinds.TwoRoles
kind_of_head heads.Memory = kinds.BadLine

-- a fault of a header's line has the number of its kind among the faults of scripts
abbrev pub HeadFaultsKeepTheirNumbers : Type 0
HeadFaultsKeepTheirNumbers = (fault : HeadFault) (n : ℕ) → fault_number fault ≡ Some n → kind_number (kind_of_head fault) ≡ n

-- the fault of a line that a header rejected
abbrev pub stage_fault : HeadFault → StageFault
stage_fault heads.Memory = faults.Memory
stage_fault fault = faults.Of (kind_of_head fault)
