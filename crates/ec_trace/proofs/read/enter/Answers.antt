use Rattle.std.proofs.Common.{◌≡◌, ◌++◌, ◌∷◌, [], true, false, Err, ap, sym, ◌∙◌, subst, rules}
use Rattle.ec_core.specs.declared.run.StepFault.TheVariants.{Refused, Memory}
use Rattle.ec_heading.specs.Versions.{can_spell}
use Rattle.ec_trace.specs.declared.fault.LineFault.TheVariants as line_faults
use Rattle.ec_trace.specs.EntrySinks.{Enters, history_of}
use Rattle.ec_trace.specs.TraceModel.{TraceModel}
use Rattle.ec_trace.specs.Step.{same_reply}
use Rattle.ec_trace.proofs.EntrySteps.{other_version, entry_refused, reply_wrong, entry_right, entry_answered}
use Rattle.ec_trace.proofs.ReadRuns.{same_is as is_same}
use Rattle.ec_trace.proofs.read.enter.Goals as goal

pub returns-then-not-can_spell : goal.returns-then-not-can_spell
returns-then-not-can_spell g c = λ line spells first entries represents.
    other_version (record { heading = c.args.heading.now; entries = entries }) line _ spells
    (sym c.if-not-can_spell.ensures)

pub returns-then-eq : goal.returns-then-eq
returns-then-eq g c = λ line spells first entries represents.
    let t : TraceModel = record { heading = c.args.heading.now; entries = entries } in
    let may : can_spell c.args.heading.now.version c.args.entry.now.act ≡ true = sym c.if-not-can_spell.ensures in
    let same : same_reply c.in-Ok.right c.args.entry.now.reply ≡ true = search rules in
    let entered = c.in-Ok.ensures first (history_of c.args.heading.now entries) represents in (
      entries ++ c.args.entry.now ∷ [],
      entry_right t line _ spells c.in-Ok.right may entered.0 same,
      subst (λ r. g.H.EntrySink.represents first c.enter.new.self (history_of c.args.heading.now (entries ++ record { worker = c.args.entry.now.worker; act = c.args.entry.now.act; reply = r } ∷ []))) (is_same c.in-Ok.right c.args.entry.now.reply same) entered.1,
    )

pub returns-else-eq : goal.returns-else-eq
returns-else-eq g c = λ line spells first entries represents.
    let t : TraceModel = record { heading = c.args.heading.now; entries = entries } in
    let may : can_spell c.args.heading.now.version c.args.entry.now.act ≡ true = sym c.if-not-can_spell.ensures in
    let other : same_reply c.in-Ok.right c.args.entry.now.reply ≡ false = search rules in
    let entered = c.in-Ok.ensures first (history_of c.args.heading.now entries) represents in
    reply_wrong t line _ spells c.in-Ok.right may entered.0 other

pub returns-in-Err-Refused : goal.returns-in-Err-Refused
returns-in-Err-Refused g c = λ line spells first entries represents.
    let t : TraceModel = record { heading = c.args.heading.now; entries = entries } in
    let may : can_spell c.args.heading.now.version c.args.entry.now.act ≡ true = sym c.if-not-can_spell.ensures in
    let entered : Enters (g.H.EntrySink.represents first c.enter.new.self) (history_of c.args.heading.now entries) c.args.entry.now.worker c.args.entry.now.act (Err (Refused c.in-Err-Refused.refusal)) =
    subst (λ f. Enters (g.H.EntrySink.represents first c.enter.new.self) (history_of c.args.heading.now entries) c.args.entry.now.worker c.args.entry.now.act (Err f)) c.in-Err-Refused.field-0-is (c.in-Err-Refused.ensures first (history_of c.args.heading.now entries) represents) in
    entry_refused t line _ spells c.in-Err-Refused.refusal may entered.0 ∙ ap (λ r. Err (line_faults.Refused r)) (sym c.in-Err-Refused.refusal-is)

pub returns-in-Err-Memory : goal.returns-in-Err-Memory
returns-in-Err-Memory g c = λ line spells first entries represents.
    let t : TraceModel = record { heading = c.args.heading.now; entries = entries } in
    let may : can_spell c.args.heading.now.version c.args.entry.now.act ≡ true = sym c.if-not-can_spell.ensures in
    let entered : Enters (g.H.EntrySink.represents first c.enter.new.self) (history_of c.args.heading.now entries) c.args.entry.now.worker c.args.entry.now.act (Err Memory) =
    subst (λ f. Enters (g.H.EntrySink.represents first c.enter.new.self) (history_of c.args.heading.now entries) c.args.entry.now.worker c.args.entry.now.act (Err f)) c.in-Err-Memory.field-0-is (c.in-Err-Memory.ensures first (history_of c.args.heading.now entries) represents) in
    entry_answered t line _ spells may entered.0
