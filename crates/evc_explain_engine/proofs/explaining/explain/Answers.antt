use Rattle.std.proofs.Common.{List, ℕ, subst, IfSome}
use Rattle.ec_text.specs.Inputs.{IsInput}
use Rattle.ec_text.specs.declared.input.Input.{Input}
use Rattle.ec_trace.specs.declared.read.TheConstants.{TRACE_MAX}
use Rattle.evc_explain_engine.specs.Explains.{ExplainsText}
use Rattle.evc_explain_engine.proofs.Whole.{whole_explained}
use Rattle.evc_explain_engine.proofs.explaining.explain.Goals as goal

pub returns-in-Ok-Whole-clause-ends : goal.returns-in-Ok-Whole-clause-ends
returns-in-Ok-Whole-clause-ends g c =
    whole_explained (g.R.Read.remaining c.args.reader.now)
    (g.R.Read.remaining c.read_up_to.new.reader) c.in-Ok-Whole.text.items c.explain_text.result
    (record { out = g.W.Write.contents c.args.out.now; notes = c.args.notes.now })
    (record { out = g.W.Write.contents c.explain_text.new.out; notes = c.explain_text.new.notes })
    (subst (λ (i : Input).
    IfSome (g.R.Read.remaining c.args.reader.now)
    (λ bytes. IsInput TRACE_MAX bytes (g.R.Read.remaining c.read_up_to.new.reader) i))
    c.in-Ok-Whole.field-0-is c.in-Ok-Whole.ensures)
    (subst (λ (text : List ℕ). ExplainsText text c.explain_text.result
    (record { out = g.W.Write.contents c.args.out.now; notes = c.args.notes.now })
    (record { out = g.W.Write.contents c.explain_text.new.out; notes = c.explain_text.new.notes }))
    c.as_slice.ensures.value c.explain_text.ensures.ends)
