-- The groups of a header: programs that use their objects only by the groups' own procedures follow
-- them all, and so do the reports of plans that were run.
use Rattle.std.specs.Prelude.{ℕ, ◌<◌, List, reverse}
use Rattle.std.specs.List.{All}
use Rattle.ec_core.specs.declared.act.Entry.{Entry}
use Rattle.ec_core.specs.Acceptance.{IsAccepted}
use Rattle.ec_machine.specs.declared.command.Command.{Command}
use Rattle.ec_machine.specs.Follows.{Follows}
use Rattle.ec_heading.specs.HeadingModel.{HeadingModel}
use Rattle.ec_heading.specs.HeadingInvariant.{IsHeading}
use Rattle.ec_heading.specs.Rules.{FollowsGroup}
use Rattle.ec_script.specs.Confined.{AreConfinedPrograms}
use Rattle.ec_runner.specs.declared.report.Report.{Report}
use Rattle.ec_runner.specs.Reported.{IsReport}
use Rattle.ec_runner.specs.RunReports.{IsReportOf}

-- if each command of the programs, unrolled, uses the objects of a header's groups only by the
-- groups' procedures, then every accepted history in which each declared worker's entries are a run
-- of its program follows every group
abbrev pub GroupsAreFollowed : Type 0
GroupsAreFollowed = (heading : HeadingModel) (programs : List (List Command)) (h : List Entry) → IsHeading heading → AreConfinedPrograms heading.groups programs
    → IsAccepted heading.setup (reverse h) → ((w : ℕ) → w < heading.setup.workers → Follows programs h w) → All (FollowsGroup heading.setup heading.groups (reverse h)) heading.groups

-- if a schedule of confined programs was played, the run follows every group of the header
abbrev pub PlayedGroupsAreFollowed : Type 0
PlayedGroupsAreFollowed = (heading : HeadingModel) (programs : List (List Command)) (schedule : List ℕ) (report : Report) → IsHeading heading
    → AreConfinedPrograms heading.groups programs → IsReport heading.setup programs schedule report
    → All (FollowsGroup heading.setup heading.groups (reverse report.run.entries)) heading.groups

-- if workers ran confined programs on threads, and the run that is reported is accepted, it follows
-- every group of the header
abbrev pub ReportedGroupsAreFollowed : Type 0
ReportedGroupsAreFollowed = (heading : HeadingModel) (programs : List (List Command)) (turns : ℕ) (report : Report) → IsHeading heading
    → AreConfinedPrograms heading.groups programs → IsAccepted heading.setup (reverse report.run.entries) → IsReportOf heading.setup programs turns report
    → All (FollowsGroup heading.setup heading.groups (reverse report.run.entries)) heading.groups
