use Rattle.std.proofs.Common.{List, ◌+◌, map, take, sym, subst, ◌∙◌}
use Rattle.ec_database.specs.Tries.{AcceptedTry}
use Rattle.ec_text.specs.Puts.{Puts}
use Rattle.ec_heading.specs.Spelling.{lines_text}
use Rattle.evc_engine.specs.AuditTexts.{version_line}
use Rattle.evc_engine.proofs.shared.AuditLemmas.{line_at}
use Rattle.evc_engine.proofs.shared.TotalLemmas.{none_at}
use Rattle.evc_engine.proofs.audit_text.put_versions.Goals.{in-Some, in_default}
use Rattle.evc_engine.proofs.audit_text.put_versions.Goals as goal

pub loop-place-preserved : goal.loop-place-preserved
loop-place-preserved g c =
    let tries = c.args.tries.now.list in
    let k = c.loop-place.place in
    let line = version_line c.args.spellings.now c.args.name.now in
    elim c.match-get.branch [
      | in-Some w ↦ subst (λ o. Puts c.args.out.now o (lines_text (map line (take (k + 1) tries)))) (sym w.out-is)
          (line_at _ _ _ line tries k w.in-Some.accepted (sym c.get.ensures ∙ w.in-Some.is) c.loop-place.invariant w.put_version.ensures)
      | in_default w ↦ subst (λ o. Puts c.args.out.now o (lines_text (map line (take (k + 1) tries)))) (sym w.out-is)
          (subst (λ (ts : List AcceptedTry). Puts c.args.out.now c.loop-place.out (lines_text (map line ts))) (sym (none_at tries k (sym c.get.ensures ∙ w.in_default.is))) c.loop-place.invariant)
    ]
