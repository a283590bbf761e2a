use Rattle.std.proofs.Common.{ap, ◌∙◌}
use Rattle.ec_explain.specs.Findings.{finding_of_line}
use Rattle.evc_explain_engine.proofs.bad_lines.found_at.Goals as goal

pub returns : goal.returns
returns c = record {
  site = c.args.site.now;
  represents = c.requires;
  found = c.finding_of_line.ensures
      ∙ ap (finding_of_line c.args.site.now c.args.number) c.line_at.ensures;
}
