-- How a script ends if its workers go on in turn after its schedule.
use Rattle.std.specs.Prelude.{◌≡◌, ◌⊎◌, ℕ, ◌<◌, Bool, true, false, List, [], ◌++◌, reverse, codes}
use Rattle.std.specs.Prelude.{if◌then◌else◌}
use Rattle.std.specs.List.{All, list_any, list_all}
use Rattle.ec_heading.specs.Spelling.{NameTable}
use Rattle.ec_runner.specs.declared.report.Report.{Report}
use Rattle.ec_runner.specs.Reported.{IsReport}
use Rattle.ec_script.specs.declared.plan.Plan.{Plan}
use Rattle.evc_explain_engine.specs.WorkerEnds.{ends_from, ends_text, can_continue}
use Rattle.evc_explain_engine.specs.declared.worker_ends.End.{End}
use Rattle.evc_explain_engine.specs.declared.worker_ends.End.TheVariants as ends

-- a schedule that begins with another one, and then has turns of the first n workers
abbrev pub Continues : ℕ → List ℕ → List ℕ → Type 0
Continues n old new = (more : List ℕ) × (new ≡ old ++ more) × All (λ w. w < n) more

-- the states of the workers after the run of a schedule
abbrev pub ends_after : List ℕ → Report → List End
ends_after schedule r =
    ends_from r.run.setup (reverse r.run.entries) schedule 0 r.outcomes.items

-- the run of a schedule that begins with the script's own one, and after which no worker can go on
pub record IsMaximalRun (p : Plan) (schedule : List ℕ) (r : Report) : Type 0 where
  pub continues : Continues p.heading.setup.workers p.schedule.items schedule
  pub report : IsReport p.heading.setup p.programs.items schedule r
  pub still : list_any can_continue (ends_after schedule r) ≡ false

-- the workers have these states after some such run
abbrev pub AreFinalEnds : Plan → List End → Type 0
AreFinalEnds p es =
    (schedule : List ℕ) × (r : Report) × IsMaximalRun p schedule r × (es ≡ ends_after schedule r)

abbrev pub is_over : End → Bool
is_over ends.Over = true
is_over _ = false

-- these states, in words
unfoldable pub final_ends_text : NameTable → List End → List ℕ
final_ends_text names es =
    if list_all is_over es then codes "If the workers go on in turn, all finish.\n"
    else codes "If the workers go on in turn:\n" ++ ends_text names es

-- what is written on a script beyond its schedule: nothing, or the final states of its workers
abbrev pub IsContinuationText : Plan → List ℕ → Type 0
IsContinuationText p bytes =
    (bytes ≡ []) ⊎ ((es : List End) × AreFinalEnds p es
    × (bytes ≡ final_ends_text p.heading.words es))
