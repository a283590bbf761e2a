use Rattle.std.proofs.KnownBytes.{Keeps-refl}
use Rattle.evc_scripts.proofs.Ends.{fault_ends, names_worker}
use Rattle.evc_scripts.proofs.running.run_plan.Goals as goal

pub returns-in-Err-clause-ends : goal.returns-in-Err-clause-ends
returns-in-Err-clause-ends g c =
    fault_ends c.args.plan.now c.args.turns c.in-Err.fault c.note_fault.result
    (record { out = g.W.Write.contents c.args.out.now; notes = c.args.notes.now })
    (record { out = g.W.Write.contents c.args.out.now; notes = c.note_fault.new.notes })
    c.in-Err.ensures.fault
    (names_worker c.args.plan.now.heading.setup c.in-Err.fault c.requires.some c.in-Err.ensures.named)
    c.note_fault.ensures.status
    (Keeps-refl (g.W.Write.contents c.args.out.now), (c.note_fault.ensures.note, c.note_fault.ensures.written))
