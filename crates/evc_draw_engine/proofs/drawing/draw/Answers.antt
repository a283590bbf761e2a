use Rattle.std.proofs.Common.{List, ℕ, subst, IfSome, rules}
use Rattle.ec_text.specs.Inputs.{IsInput}
use Rattle.ec_text.specs.declared.input.Input.{Input}
use Rattle.ec_trace.specs.declared.read.TheConstants.{TRACE_MAX}
use Rattle.evc_draw_engine.specs.Draws.{DrawsText}
use Rattle.evc_draw_engine.proofs.Whole.{want_drawn, whole_drawn}
use Rattle.evc_draw_engine.proofs.drawing.draw.Goals as goal

pub returns-in-Ok-Whole-clause-ends : goal.returns-in-Ok-Whole-clause-ends
returns-in-Ok-Whole-clause-ends g c =
    whole_drawn c.args.view.now (g.R.Read.remaining c.args.reader.now)
    (g.R.Read.remaining c.read_up_to.new.reader) c.in-Ok-Whole.text.items c.draw_text.result
    (record { out = g.W.Write.contents c.args.out.now; notes = c.args.notes.now })
    (record { out = g.W.Write.contents c.draw_text.new.out; notes = c.draw_text.new.notes })
    (subst (λ (i : Input). IfSome (g.R.Read.remaining c.args.reader.now)
    (λ bytes. IsInput TRACE_MAX bytes (g.R.Read.remaining c.read_up_to.new.reader) i))
    c.in-Ok-Whole.field-0-is c.in-Ok-Whole.ensures)
    (subst (λ (text : List ℕ). DrawsText c.args.view.now text c.draw_text.result
    (record { out = g.W.Write.contents c.args.out.now; notes = c.args.notes.now })
    (record { out = g.W.Write.contents c.draw_text.new.out; notes = c.draw_text.new.notes }))
    c.as_slice.ensures.value c.draw_text.ensures.ends)

pub returns-in-Err-clause-ends : goal.returns-in-Err-clause-ends
returns-in-Err-clause-ends g c =
    want_drawn c.args.view.now (g.R.Read.remaining c.args.reader.now)
    (g.R.Read.remaining c.read_up_to.new.reader) c.report_no_memory.result
    (record { out = g.W.Write.contents c.args.out.now; notes = c.args.notes.now })
    (record { out = g.W.Write.contents c.args.out.now; notes = c.report_no_memory.new.notes })
    c.report_no_memory.ensures.memory (search rules, (c.report_no_memory.ensures.puts, c.report_no_memory.ensures.written))
