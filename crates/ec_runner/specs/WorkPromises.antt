-- What threads promise to return, and what they returned.
use Rattle.std.specs.Prelude.{◌≡◌, ℕ, Bool, true, false, List, [], ◌∷◌, ◌++◌, Option, Some, None, Result, Ok, Err, MatchResult}
use Rattle.std.specs.Global.{Vec}
use Rattle.std.specs.declared.thread.PromisedHandle.{PromisedHandle}
use Rattle.ec_machine.specs.declared.command.Command.{Command}
use Rattle.ec_runner.specs.declared.run_fault.RunFault.{RunFault}
use Rattle.ec_runner.specs.declared.run_fault.RunFault.TheVariants as faults
use Rattle.ec_runner.specs.declared.work_promise.WorkPromise.{WorkPromise}
use Rattle.ec_runner.specs.declared.summary.Summary.{Summary}
use Rattle.ec_runner.specs.Works.{IsSummaryOf}

abbrev pub Handle : Type 0
Handle = PromisedHandle Summary WorkPromise

-- a thread, if it was started, promises the summary of this program
abbrev pub IsFor : Option Handle → List Command → ℕ → Type 0
IsFor None cs turns = Unit {0}
IsFor (Some h) cs turns = (h.promise.program.now ≡ cs) × (h.promise.turns ≡ turns)

abbrev pub AreFor : List (Option Handle) → List (List Command) → ℕ → Type 0
AreFor [] [] turns = Unit {0}
AreFor [] (cs ∷ programs) turns = ⊥
AreFor (h ∷ hs) [] turns = ⊥
AreFor (h ∷ hs) (cs ∷ programs) turns = IsFor h cs turns × AreFor hs programs turns

-- what a thread returned: the summary that it promised, and nothing if it was not started
abbrev pub IsJoinResult : Option Handle → Option Summary → Type 0
IsJoinResult None None = Unit {0}
IsJoinResult None (Some t) = ⊥
IsJoinResult (Some h) None = ⊥
IsJoinResult (Some h) (Some t) = IsSummaryOf h.promise.program.now h.promise.turns t

-- each thread was started, and returned the summary that it promised
abbrev pub AreAllJoined : List (Option Handle) → List Summary → Type 0
AreAllJoined [] [] = Unit {0}
AreAllJoined [] (t ∷ summaries) = ⊥
AreAllJoined (h ∷ hs) [] = ⊥
AreAllJoined (h ∷ hs) (t ∷ summaries) = IsJoinResult h (Some t) × AreAllJoined hs summaries

-- whether some thread was not started
abbrev pub some_not_started : List (Option Handle) → Bool
some_not_started [] = false
some_not_started (None ∷ hs) = true
some_not_started (Some h ∷ hs) = some_not_started hs

-- the result of the joins: Spawn exactly if a thread was not started, so Memory only if all were
abbrev pub AreJoinResults : List (Option Handle) → Result (Vec Summary) RunFault → Type 0
AreJoinResults hs (Ok summaries) = AreAllJoined hs summaries.items
AreJoinResults hs (Err faults.Spawn) = some_not_started hs ≡ true
AreJoinResults hs (Err faults.Memory) = some_not_started hs ≡ false
AreJoinResults hs (Err (faults.Mismatch w)) = ⊥

-- one more summary, after the others; a thread that was not started is reported rather than out of
-- memory
abbrev pub IsOneMore : Result (Vec Summary) RunFault → Option Summary → Result (Vec Summary) RunFault → Type 0
IsOneMore summaries None all = all ≡ Err faults.Spawn
IsOneMore (Err fault) (Some summary) all = all ≡ Err fault
IsOneMore (Ok summaries) (Some summary) all = MatchResult all (λ v. v.items ≡ summaries.items ++ summary ∷ []) (λ fault. fault ≡ faults.Memory)

-- each summary is of its own program
abbrev pub AreSummariesOf : List (List Command) → ℕ → List Summary → Type 0
AreSummariesOf [] turns [] = Unit {0}
AreSummariesOf [] turns (t ∷ summaries) = ⊥
AreSummariesOf (cs ∷ programs) turns [] = ⊥
AreSummariesOf (cs ∷ programs) turns (t ∷ summaries) = IsSummaryOf cs turns t
    × AreSummariesOf programs turns summaries

-- threads report no mismatch: only the comparison does
abbrev pub IsThreadFault : RunFault → Type 0
IsThreadFault faults.Spawn = Unit {0}
IsThreadFault faults.Memory = Unit {0}
IsThreadFault (faults.Mismatch w) = ⊥
