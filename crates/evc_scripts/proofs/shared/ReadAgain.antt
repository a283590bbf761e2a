-- The history that a schedule's turns make is accepted, and its trace is parsed back.
use Rattle.std.proofs.Common.{◌≡◌, ◌≤◌, ℕ, List, [], ◌∷◌, reverse, length, Result, Ok, Err, ap, sym, subst, ◌∙◌}
use Rattle.std.proofs.lemmas.List.{reverse-reverse}
use Rattle.ec_count.specs.Tables.{Tables}
use Rattle.ec_core.specs.declared.act.Act.{Act}
use Rattle.ec_core.specs.declared.act.Entry.{Entry}
use Rattle.ec_core.specs.declared.act.Refusal.{Refusal}
use Rattle.ec_core.specs.declared.act.Reply.{Reply}
use Rattle.ec_core.specs.Acceptance.{IsAccepted, answer_of}
use Rattle.ec_machine.specs.declared.command.Command.{Command}
use Rattle.ec_heading.specs.HeadingModel.{HeadingModel}
use Rattle.ec_heading.specs.declared.version.Version.{Version}
use Rattle.ec_heading.specs.Versions.{CanSpellAll}
use Rattle.ec_heading.proofs.shared.TreeFound.{version_found}
use Rattle.ec_trace.specs.Outcome.{parse_result}
use Rattle.ec_trace.specs.declared.read.TheConstants.{TRACE_MAX}
use Rattle.ec_trace.proofs.shared.ReadTraces.{written_is_read}
use Rattle.ec_runner.specs.Schedules.{Turn, AreTurns, entries_of, with_answer}
use Rattle.evc_scripts.specs.Sims.{IsTraceUnder}
use Rattle.evc_scripts.specs.SimLaws.{SimulatedIsReadAgain, RanIsReadAgain}

answered : (t : Tables) (past : List Entry) (w : ℕ) (act : Act) (a : Result Reply Refusal) → answer_of t past w act ≡ a → IsAccepted t past → IsAccepted t (with_answer w act a past)
answered t past w act (Ok reply) is accepted = (is, accepted)
answered t past w act (Err r) is accepted = accepted

pub accepted_turns : (t : Tables) (programs : List (List Command)) (turns : List Turn) → AreTurns t programs turns → IsAccepted t (entries_of turns)
accepted_turns t programs [] each = tt
accepted_turns t programs (x ∷ turns) each = answered t (entries_of turns) x.worker x.act x.answer each.0.answer (accepted_turns t programs turns each.1)

-- the trace of an accepted history with a header, within the bound, is parsed to these two
pub read_under : (h : HeadingModel) (entries : List Entry) (trace : List ℕ) → IsAccepted h.setup (reverse entries) → IsTraceUnder h entries trace → length trace ≤ TRACE_MAX
    → parse_result TRACE_MAX trace ≡ Ok (record { heading = h; entries = entries })
read_under h entries trace accepted under short =
    let o = under.outline in
    let version : h.version ≡ o.version = sym (ap (λ (k : HeadingModel). k.version) under.declares) ∙ version_found o in
    subst (λ (k : HeadingModel). parse_result TRACE_MAX trace ≡ Ok (record { heading = k; entries = entries })) under.declares
    (rw under.text (written_is_read o entries under.is (subst (λ (k : HeadingModel). IsAccepted k.setup (reverse entries)) (sym under.declares) accepted)
    (subst (λ (v : Version). CanSpellAll v entries) version under.spelled) (rw under.text at short)))

-- the trace of a schedule that was played, within the bound, is parsed to the history of its turns
pub simulated_again : SimulatedIsReadAgain
simulated_again p trace note played short =
    let past = entries_of played.turns in
    let accepted = accepted_turns p.heading.setup played.played.programs played.turns played.played.plays.each in
    read_under p.heading (reverse past) trace (subst (IsAccepted p.heading.setup) (sym (reverse-reverse past)) accepted) played.written short

-- the trace of workers on threads, within the bound, is parsed to the history of their run
pub ran_again : RanIsReadAgain
ran_again p turns status trace note ran short =
    let entries = ran.report.run.entries in
    read_under p.heading entries trace ran.accepted ran.written short
