-- What the line of an entry does to a history.
use Rattle.std.proofs.Common.{◌≡◌, ◌≤◌, List, [], ◌∷◌, ◌++◌, ℕ, true, false, cond, Option, Some, None, Result, Ok, Err, IsOk, MatchResult, reverse, codes, arith, refl, ap, sym, subst, ◌∙◌}
use Rattle.std.specs.Prelude.{bytes_eq}
use Rattle.std.proofs.lemmas.Bool.{cond-true, cond-false}
use Rattle.std.proofs.lemmas.Bool.Decides.{nat_tests}
use Rattle.ec_core.specs.Acceptance.{answer_of}
use Rattle.ec_core.specs.declared.act.Entry.{Entry}
use Rattle.ec_core.specs.RunModel.{RunModel}
use Rattle.ec_core.specs.declared.act.Reply.{Reply}
use Rattle.ec_core.specs.declared.act.Reply.TheVariants.{Done, Number, Pending}
use Rattle.ec_core.specs.declared.act.Refusal.{Refusal}
use Rattle.ec_heading.specs.Versions.{can_spell}
use Rattle.ec_heading.specs.HeadingModel.{HeadingModel}
use Rattle.ec_trace.specs.Entries.{entry_of}
use Rattle.ec_trace.specs.EntrySinks.{history_of}
use Rattle.ec_trace.specs.Outcome.{parse_result, fault_at, Returns}
use Rattle.ec_trace.specs.Reading.{LinesModel, Reaches, HasLine, TakesEntry, Recounts}
use Rattle.ec_trace.specs.TraceModel.{TraceModel}
use Rattle.ec_trace.specs.Stages.{Running, Ended}
use Rattle.ec_trace.specs.Step.{step, entry_step, after_entry, after_answer, same_reply, map_running, IsAnswered}
use Rattle.ec_trace.specs.declared.fault.LineFault.{LineFault}
use Rattle.ec_trace.specs.declared.fault.StageFault.{StageFault}
use Rattle.ec_trace.specs.declared.fault.StageFault.TheVariants as stage_faults
use Rattle.ec_trace.specs.declared.fault.TraceFault.{TraceFault}
use Rattle.ec_trace.specs.declared.read.TheConstants.{TRACE_MAX}
use Rattle.ec_trace.proofs.Readings.{line_taken, line_refused}
use Rattle.ec_trace.specs.declared.fault.LineFault.TheVariants.{Bad, Refused, WrongReply}

pub spells_none : (t : TraceModel) (line : List ℕ) → entry_of t.heading.words line ≡ None → entry_step t line ≡ Err Bad
unfolding entry_step
spells_none t line e = ap (after_entry t) e

-- the step of an entry that is not refused is made, whether its reply is right or wrong
answered_is : (t : TraceModel) (e : Entry) (answer : Result Reply Refusal) → IsOk answer → IsAnswered (after_answer t e answer)
answered_is t e (Ok right) ok =
    elim (same_reply right e.reply) as (λ b. IsAnswered {S = TraceModel} (cond b (Ok (record { heading = t.heading; entries = t.entries ++ e ∷ [] })) (Err (WrongReply right)))) [ true ↦ tt | false ↦ tt ]
answered_is t e (Err r) ok = cc

module _ (t : TraceModel) (line : List ℕ) (e : Entry) (spells : entry_of t.heading.words line ≡ Some e) where
  pub other_version : can_spell t.heading.version e.act ≡ false → entry_step t line ≡ Err Bad
  unfolding entry_step
  other_version may = ap (after_entry t) spells ∙ cond-false _ _ _ may

  answers : can_spell t.heading.version e.act ≡ true → entry_step t line ≡ after_answer t e (answer_of t.heading.setup (reverse t.entries) e.worker e.act)
  unfolding entry_step
  answers may = ap (after_entry t) spells ∙ cond-true _ _ _ may

  pub entry_refused : (r : Refusal) → can_spell t.heading.version e.act ≡ true → answer_of t.heading.setup (reverse t.entries) e.worker e.act ≡ Err r → entry_step t line ≡ Err (Refused r)
  entry_refused r may answer = answers may ∙ ap (after_answer t e) answer

  pub reply_wrong : (right : Reply) → can_spell t.heading.version e.act ≡ true → answer_of t.heading.setup (reverse t.entries) e.worker e.act ≡ Ok right → same_reply right e.reply ≡ false → entry_step t line ≡ Err (WrongReply right)
  reply_wrong right may answer other = answers may ∙ ap (after_answer t e) answer ∙ cond-false _ _ _ other

  pub entry_right : (right : Reply) → can_spell t.heading.version e.act ≡ true → answer_of t.heading.setup (reverse t.entries) e.worker e.act ≡ Ok right → same_reply right e.reply ≡ true
      → entry_step t line ≡ Ok (record { heading = t.heading; entries = t.entries ++ e ∷ [] })
  entry_right right may answer same = answers may ∙ ap (after_answer t e) answer
      ∙ cond-true _ _ _ same

  pub entry_answered : can_spell t.heading.version e.act ≡ true → IsOk (answer_of t.heading.setup (reverse t.entries) e.worker e.act) → IsAnswered (entry_step t line)
  entry_answered may ok =
      subst (λ (r : Result TraceModel LineFault). IsAnswered r) (sym (answers may)) (answered_is t e (answer_of t.heading.setup (reverse t.entries) e.worker e.act) ok)

-- LINES

module _ (xs : List ℕ) (left : Option (List ℕ)) (r : LinesModel) (h : HeadingModel) (entries : List Entry) where
  abbrev returned : TraceModel
  returned = record { heading = h; entries = entries }

  pub entry_line_taken : (next : List Entry) → HasLine xs left r r.line (Running returned) → bytes_eq r.line (codes "end") ≡ false → entry_step returned r.line ≡ Ok (record { heading = h; entries = next }) → Reaches xs left r (Running (record { heading = h; entries = next }))
  unfolding step
  entry_line_taken next b other e = line_taken xs left r r.line (Running returned) (Running (record { heading = h; entries = next })) b (cond-false _ _ _ other ∙ ap map_running e)

  pub entry_line_refused : (after : List Entry → Type 0) (fault : StageFault) → HasLine xs left r r.line (Running returned) → bytes_eq r.line (codes "end") ≡ false → r.taken ≤ TRACE_MAX → TakesEntry h after (entry_step returned r.line) (Err fault) → Returns TRACE_MAX xs left (Err (fault_at r.number fault))
  unfolding step
  entry_line_refused after stage_faults.Memory b other small e = tt
  entry_line_refused after (stage_faults.Line f) b other small e = line_refused xs left r r.line (Running returned) f b (cond-false _ _ _ other ∙ ap map_running e) small

  pub end_line_taken : HasLine xs left r r.line (Running returned) → bytes_eq r.line (codes "end") ≡ true → Reaches xs left r (Ended returned)
  unfolding step
  end_line_taken b is = line_taken xs left r r.line (Running returned) (Ended returned) b (cond-true _ _ _ is)

-- the end of the text, after the last line
pub recounts : (xs : List ℕ) (left : Option (List ℕ)) (h : HeadingModel) (entries : List Entry) (after : RunModel → Type 0) (r : Result (Unit {0}) TraceFault) → MatchResult r (λ _. parse_result TRACE_MAX xs ≡ Ok (record { heading = h; entries = entries })) (λ f. Returns TRACE_MAX xs left (Err f)) → after (history_of h entries) → Recounts xs left h after r
recounts xs left h entries after (Ok x) e represents = (entries, e, represents)
recounts xs left h entries after (Err f) e represents = e
