use Rattle.std.proofs.Common.{refl, subst, ap, ◌∙◌, List, ℕ}
use Rattle.std.proofs.lemmas.Option.{slice_get_read}
use Rattle.std.proofs.lemmas.List.{take_all}
use Rattle.ec_text.specs.Puts.{Puts}
use Rattle.ec_heading.specs.Spelling.{lines_text}
use Rattle.evc_engine.specs.AuditTexts.{group_word, audited_lines, groups_lines}
use Rattle.evc_engine.proofs.shared.AuditLemmas.{group_put, no_groups_put, taken_length}
use Rattle.evc_engine.proofs.audit_text.put_groups.Goals as goal

pub loop-i-init : goal.loop-i-init
loop-i-init g c = no_groups_put _ c.args.heading.now

pub loop-i-preserved : goal.loop-i-preserved
loop-i-preserved g c =
    let at = slice_get_read c.args.found.now _ c.loop-i.i c.index-found-i.result refl c.loop-i-test.true c.index-found-i.is in
    group_put _ _ _ c.args.heading.now c.args.found.now c.loop-i.i c.index-found-i.result at (taken_length c.args.found.now c.loop-i.i c.index-found-i.result at)
    c.loop-i.invariant
    (subst (λ (name : List ℕ). Puts c.loop-i.out c.put_audited.new.out (lines_text (audited_lines c.args.heading.now name c.index-found-i.result)))
    (c.group_word-name.ensures ∙ ap (λ names. group_word names c.loop-i.i) c.names.ensures) c.put_audited.ensures)

pub returns : goal.returns
returns g c =
    subst (λ xs. Puts c.args.out.now c.loop-i.out (lines_text (groups_lines c.args.heading.now 0 xs)))
    (take_all c.loop-i.i c.args.found.now c.loop-i-test.false) c.loop-i.invariant
