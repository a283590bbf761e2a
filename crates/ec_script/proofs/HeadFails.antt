-- Lines that a header rejected, as lines of a script.
use Rattle.std.proofs.Common.{◌≡◌, Result, Ok, Err, IsOk, refl, ap, sym, subst, ◌∙◌}
use Rattle.ec_heading.specs.HeadingModel.{HeadingModel}
use Rattle.ec_heading.specs.Heading.{FailsAs}
use Rattle.ec_heading.specs.declared.heading.HeadFault.{HeadFault}
use Rattle.ec_heading.specs.declared.heading.HeadFault.TheVariants as heads
use Rattle.ec_script.specs.declared.fault.Kind.{Kind}
use Rattle.ec_script.specs.declared.fault.StageFault.{StageFault}
use Rattle.ec_script.specs.Faults.{kind_of_head, stage_fault}
use Rattle.ec_script.specs.Reading.{StepFails, map_heading, stage_of_heading}
use Rattle.ec_script.specs.ScriptModel.{ScriptModel}

-- what becomes of a header's line, if that is accepted as the line is, and a fault has its kind
module _ {S : Type 0} (f : Result HeadingModel HeadFault → Result S Kind) (ok : (h : HeadingModel) → IsOk (f (Ok h))) (err : (fault : HeadFault) → f (Err fault) ≡ Err (kind_of_head fault)) where
  fails : (fault : HeadFault) (stepped : Result HeadingModel HeadFault) → FailsAs fault stepped → StepFails (stage_fault fault) (f stepped)
  fails heads.Memory (Ok h) is = ok h
  fails heads.Memory (Err e) is = cc
  fails heads.BadLine stepped is = ap f is ∙ err heads.BadLine
  fails heads.BadName stepped is = ap f is ∙ err heads.BadName
  fails heads.NameTaken stepped is = ap f is ∙ err heads.NameTaken
  fails heads.UnknownName stepped is = ap f is ∙ err heads.UnknownName
  fails heads.BadNumber stepped is = ap f is ∙ err heads.BadNumber
  fails heads.TooMany stepped is = ap f is ∙ err heads.TooMany
  fails heads.TwoRoles stepped is = ap f is ∙ err heads.TwoRoles

-- a declaration
pub fails_on : (s : ScriptModel) (fault : HeadFault) (stepped : Result HeadingModel HeadFault) (e : StageFault) → e ≡ stage_fault fault → FailsAs fault stepped → StepFails e (map_heading s stepped)
fails_on s fault stepped e is failed = subst (λ (k : StageFault). StepFails k (map_heading s stepped)) (sym is) (fails (map_heading s) (λ h. refl) (λ e. refl) fault stepped failed)

-- the line of the workers
pub fails_named : (fault : HeadFault) (stepped : Result HeadingModel HeadFault) (e : StageFault) → e ≡ stage_fault fault → FailsAs fault stepped → StepFails e (stage_of_heading stepped)
fails_named fault stepped e is failed = subst (λ (k : StageFault). StepFails k (stage_of_heading stepped)) (sym is) (fails stage_of_heading (λ h. refl) (λ e. refl) fault stepped failed)
