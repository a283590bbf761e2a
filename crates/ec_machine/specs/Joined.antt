-- Runs of programs in terms of whole call lists only, without the state of an interpreter; in both
-- directions.
use Rattle.std.specs.Prelude.{◌≡◌, ◌↔◌, ℕ, List, [], ◌∷◌, ◌++◌, reverse, Option, Some, IfSome, is_some}
use Rattle.std.specs.List.{flat_map}
use Rattle.ec_count.specs.Tables.{Tables}
use Rattle.ec_core.specs.declared.act.Act.{Act}
use Rattle.ec_core.specs.declared.act.Entry.{Entry}
use Rattle.ec_core.specs.Acceptance.{IsAccepted}
use Rattle.ec_core.specs.Calls.{is_go, under_way}
use Rattle.ec_core.specs.Following.{CompletedCall}
use Rattle.ec_core.specs.JoinedLists.{completed_calls_of, op_of}
use Rattle.ec_machine.specs.declared.command.Command.{Command}
use Rattle.ec_machine.specs.Unrolled.{unroll}
use Rattle.ec_machine.specs.Steps.{opening, completed_calls}
use Rattle.ec_machine.specs.Runs.{next_in, IsRunOf}
use Rattle.ec_machine.specs.Follows.{program_at, Follows}
use Rattle.ec_machine.specs.Laws.{AreWhole, IsProgramPrefix, number_after_lists}

-- the completed calls are whole lists of calls joined end to end, one for each of the first
-- commands of the unrolled program, and then a proper prefix of the list of the command that
-- follows; and the pending call, if one is, is the one that comes next in it
pub record AreListsOf (cs : List Command) (calls : List CompletedCall) (going : Option Act) : Type 0 where
  pub done : List Command
  pub left : List Command
  pub lists : List (List CompletedCall)
  pub last : List CompletedCall
  pub commands : unroll cs ≡ done ++ left
  pub order : calls ≡ flat_map (λ b. b) lists ++ last
  pub whole : AreWhole 0 done lists
  pub begun : IsProgramPrefix (number_after_lists lists) left last
  pub next : IfSome going (λ op. next_in left (number_after_lists lists) last ≡ Some op)

-- steps as they are cut into calls: each is a go exactly if a call is pending
unfoldable pub AreSteps : List Entry → Type 0
AreSteps [] = Unit {0}
AreSteps (x ∷ past) = (is_go x.act ≡ is_some (opening past)) × AreSteps past

-- steps are a run of a program exactly if their calls are such lists
abbrev pub RunsMeanWholeLists : Type 0
RunsMeanWholeLists = (cs : List Command) (past : List Entry) → AreSteps past → IsRunOf cs past ↔ AreListsOf cs (completed_calls past) (opening past)

-- in an accepted history the entries of w are a run of its program exactly if its calls are such lists
abbrev pub FollowingMeansWholeLists : Type 0
FollowingMeansWholeLists = (t : Tables) (programs : List (List Command)) (h : List Entry) (w : ℕ) → IsAccepted t (reverse h)
    → Follows programs h w ↔ AreListsOf (program_at programs w) (completed_calls_of w (reverse h)) (op_of (under_way w (reverse h)))
