use Rattle.std.proofs.Common.{◌≡◌, List, ℕ, Ok, Err, subst}
use Rattle.std.proofs.KnownBytes.{Keeps-refl}
use Rattle.ec_script.specs.Outcome.{parse_result, shown_plan}
use Rattle.evc_scripts.proofs.Ends.{plan_sims, sim_refused}
use Rattle.evc_scripts.proofs.simulating.sim.Goals as goal

pub returns-in-Ok-clause-ends : goal.returns-in-Ok-clause-ends
returns-in-Ok-clause-ends g c =
    plan_sims (g.R.Read.remaining c.args.reader.now) (g.R.Read.remaining c.read_up_to.new.reader) c.in-Ok-Whole.text.items (shown_plan c.in-Ok.plan) c.sim_plan.result
    (record { out = g.W.Write.contents c.args.out.now; notes = c.args.notes.now })
    (record { out = g.W.Write.contents c.sim_plan.new.out; notes = c.sim_plan.new.notes })
    (rw c.in-Ok-Whole.field-0-is at c.in-Ok-Whole.ensures)
    (subst (λ (text : List ℕ). parse_result text ≡ Ok (shown_plan c.in-Ok.plan)) c.as_slice.ensures.value c.in-Ok.ensures.tells)
    c.sim_plan.ensures.ends

pub returns-in-Err-At-clause-ends : goal.returns-in-Err-At-clause-ends
returns-in-Err-At-clause-ends g c =
    sim_refused (g.R.Read.remaining c.args.reader.now) (g.R.Read.remaining c.read_up_to.new.reader) c.in-Ok-Whole.text.items c.in-Err-At.line c.in-Err-At.kind
    (record { out = g.W.Write.contents c.args.out.now; notes = c.args.notes.now })
    (record { out = g.W.Write.contents c.args.out.now; notes = c.note_kind.new.notes })
    (rw c.in-Ok-Whole.field-0-is at c.in-Ok-Whole.ensures)
    (subst (λ (text : List ℕ). parse_result text ≡ Err (c.in-Err-At.line, c.in-Err-At.kind)) c.as_slice.ensures.value (rw c.in-Err-At.field-0-is at c.in-Err-At.ensures.tells))
    (Keeps-refl (g.W.Write.contents c.args.out.now), (rw c.in-Err-At.field-0-is at c.note_kind.ensures.puts, c.note_kind.ensures.written))
