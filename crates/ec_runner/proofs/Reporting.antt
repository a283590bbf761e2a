-- The report of a schedule that was played.
use Rattle.std.proofs.Common.{◌≡◌, ℕ, List, [], ◌∷◌, length, map, reverse, get_or, Some, Result, Ok, Err, MatchResult, inl, inr, Vec, Global, refl, sym, ◌∙◌, ap, subst, arith}
use Rattle.std.specs.Prelude.{slice_get}
use Rattle.std.specs.Option.{option_map}
use Rattle.std.proofs.lemmas.Option.{slice_get-get_or, slice_get-map}
use Rattle.std.proofs.lemmas.List.{length-map}
use Rattle.ec_count.specs.Tables.{Tables}
use Rattle.ec_core.specs.declared.act.Entry.{Entry}
use Rattle.ec_core.specs.RunModel.{RunModel}
use Rattle.ec_machine.specs.declared.command.Command.{Command}
use Rattle.ec_machine.specs.declared.machine.Machine.{Machine}
use Rattle.ec_machine.specs.declared.outcome.Outcome.{Outcome}
use Rattle.ec_machine.specs.Standing.{machine_outcome}
use Rattle.ec_runner.specs.declared.report.Report.{Report}
use Rattle.ec_runner.specs.declared.report.SimFault.{SimFault}
use Rattle.ec_runner.specs.declared.report.SimFault.TheVariants.{Ended, Memory}
use Rattle.ec_runner.specs.kept.Machines.{AreMachines, IsPlayed, IsPlayFault, PlaysAll}
use Rattle.ec_runner.specs.Reported.{AreLogs, AreOutcomes, IsReport, IsSimFault}
use Rattle.ec_runner.specs.Schedules.{Turn, outcome_after}

-- at first nothing has been played
pub nothing_played : (programs : List (List Command)) (run : RunModel) (machines : List Machine) → run.entries ≡ [] → AreMachines programs [] machines
    → IsPlayed run.setup programs [] [] run machines
nothing_played programs run machines none each = record {
  plays = record { workers = refl; each = tt };
  made = record { setup = refl; entries = ap reverse none };
  each = each;
}

-- why it was not played to its end
pub not_played : (t : Tables) (programs : List (List Command)) (schedule : List ℕ) (run : RunModel) (machines : List Machine) (fault : SimFault)
    → PlaysAll (Err fault) t programs schedule run machines → IsPlayFault t programs schedule fault
not_played t programs schedule run machines (Ended place w) h = h
not_played t programs schedule run machines Memory h = inl h

-- it was, and there is no report
pub not_reported : (t : Tables) (programs : List (List Command)) (schedule : List ℕ) (run : RunModel) (machines : List Machine)
    → (turns : List Turn) × IsPlayed t programs schedule turns run machines → IsPlayFault t programs schedule Memory
not_reported t programs schedule run machines so_far = inr (so_far.0, so_far.1.plays)

pub play_answers : (t : Tables) (programs : List (List Command)) (schedule : List ℕ) (r : Result Report SimFault)
    → MatchResult r (IsReport t programs schedule) (IsPlayFault t programs schedule) → MatchResult r (IsReport t programs schedule) (IsSimFault t programs schedule)
play_answers t programs schedule (Ok r) h = h
play_answers t programs schedule (Err (Ended place w)) h = h
play_answers t programs schedule (Err Memory) h = tt

outcomes_are : (programs : List (List Command)) (n : ℕ) (turns : List Turn) (machines : List Machine) (outcomes : List Outcome) → length machines ≡ n → AreMachines programs turns machines
    → outcomes ≡ map machine_outcome machines → AreOutcomes programs n turns outcomes
outcomes_are programs n turns machines outcomes count each is = record {
  each = ap length is ∙ length-map machines machine_outcome ∙ count;
  after = λ w within.
      elim machines as (λ ms. machines ≡ ms → slice_get outcomes w ≡ Some (outcome_after programs w turns)) [
        | [] ↦ λ none. absurd (omega (arith, ap length none))
        | m ∷ ms ↦ λ some.
            let at : slice_get machines w ≡ Some (get_or machines w m) = slice_get-get_or machines w m (omega (arith, count)) in
            ap (λ os. slice_get os w) is ∙ slice_get-map machine_outcome machines w ∙ ap (option_map machine_outcome) at
            ∙ ap (λ o. Some o) (each w (get_or machines w m) at).outcome
      ] refl;
}

-- the schedule has been played
pub all_played : (t : Tables) (programs : List (List Command)) (schedule : List ℕ) (run : RunModel) (machines : List Machine) (r : Report)
    → (turns : List Turn) × IsPlayed t programs schedule turns run machines → length machines ≡ t.workers → r.run ≡ run
    → AreLogs run.setup.workers run.entries (map (λ (log : Vec Entry Global). log.items) r.logs.items) → r.outcomes.items ≡ map machine_outcome machines
    → IsReport t programs schedule r
all_played t programs schedule run machines r so_far count same logs outcomes =
    let turns = so_far.0 in
    let played = so_far.1 in
    record {
      turns = turns;
      plays = played.plays;
      setup = ap (λ (x : RunModel). x.setup) same ∙ played.made.setup;
      entries = ap (λ (x : RunModel). reverse x.entries) same ∙ played.made.entries;
      logs = subst (λ (x : RunModel). AreLogs t.workers x.entries (map (λ (log : Vec Entry Global). log.items) r.logs.items)) (sym same)
          (subst (λ (s : Tables). AreLogs s.workers run.entries (map (λ (log : Vec Entry Global). log.items) r.logs.items)) played.made.setup logs);
      outcomes = outcomes_are programs t.workers turns machines r.outcomes.items count played.each outcomes;
    }
