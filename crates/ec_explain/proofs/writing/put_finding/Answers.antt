use Rattle.std.proofs.Common.{sym}
use Rattle.ec_text.proofs.shared.PutLemmas.{puts_then}
use Rattle.ec_explain.specs.Findings.{finding_text}
use Rattle.ec_explain.proofs.writing.put_finding.Goals as goal

pub returns : goal.returns
unfolding finding_text
returns g c =
    rw (sym c.sentence.ensures, sym c.remedy.ensures)
    (puts_then _ _ _ _ _
    (puts_then _ _ _ _ _
    (puts_then _ _ _ _ _
    (puts_then _ _ _ _ _
    (puts_then _ _ _ _ _ c.put_spot_or_none.ensures c.put_line.ensures)
    c.put_right.ensures)
    c.put_see.ensures)
    c.put.ensures.puts)
    c.put_line-2.ensures)
