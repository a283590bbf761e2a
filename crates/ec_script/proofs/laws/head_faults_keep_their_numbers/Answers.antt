use Rattle.std.proofs.Common.{◌≡◌, ℕ, Some}
use Rattle.ec_heading.specs.declared.heading.HeadFault.{HeadFault}
use Rattle.ec_heading.specs.declared.heading.HeadFault.TheVariants as heads
use Rattle.ec_heading.specs.Kinds.{fault_number}
use Rattle.ec_script.specs.Faults.{kind_number, kind_of_head}
use Rattle.ec_script.proofs.laws.head_faults_keep_their_numbers.Goals as goal

same : (fault : HeadFault) (n : ℕ) → fault_number fault ≡ Some n → kind_number (kind_of_head fault) ≡ n
same heads.BadLine n is = cc
same heads.BadName n is = cc
same heads.NameTaken n is = cc
same heads.UnknownName n is = cc
same heads.BadNumber n is = cc
same heads.TooMany n is = cc
same heads.TwoRoles n is = cc
same heads.Memory n is = cc

pub returns : goal.returns
returns c = same
