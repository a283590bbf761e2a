use Rattle.std.proofs.Common.{[], ap, sym, subst, ◌∙◌}
use Rattle.ec_text.specs.Puts.{Puts}
use Rattle.ec_text.proofs.shared.PutLemmas.{puts_then}
use Rattle.ec_heading.specs.Spelling.{trace_header}
use Rattle.ec_trace.proofs.shared.LineParts.{opening_parts}
use Rattle.ec_trace.proofs.write_heading.put_opening.Goals as goal

pub returns : goal.returns
returns g c =
    subst (Puts c.args.out.now c.put_heading.new.out)
    (sym (opening_parts c.args.spellings.now c.args.heading.now []))
    (puts_then _ _ _ _ _
    (puts_then _ _ _ _ _
    (subst (Puts c.args.out.now c.put.new.self) (c.first_line.ensures ∙ ap trace_header c.version.ensures) c.put.ensures.puts)
    c.put_byte.ensures.puts)
    c.put_heading.ensures.words)
