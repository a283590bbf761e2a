use Rattle.std.proofs.Common.{sym, ◌∙◌}
use Rattle.evc_explain_engine.proofs.bad_lines.bad_line.Goals as goal

pub found_at-requires-in-Some : goal.found_at-requires-in-Some
found_at-requires-in-Some c = (
  sym c.follows_end.ensures ∙ c.if-follows_end.false,
  c.in-Some.traced,
  sym c.in_ok-traced.ensures ∙ c.in-Some.is,
  c.heading.ensures,
)
