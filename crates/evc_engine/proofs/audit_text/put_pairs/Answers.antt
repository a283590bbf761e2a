use Rattle.std.proofs.Common.{refl, subst, map}
use Rattle.std.proofs.lemmas.Option.{slice_get_read}
use Rattle.std.proofs.lemmas.List.{take_all}
use Rattle.ec_text.specs.Puts.{Puts}
use Rattle.ec_heading.specs.Spelling.{lines_text}
use Rattle.evc_engine.specs.AuditTexts.{pair_line, semaphore_word}
use Rattle.evc_engine.proofs.shared.AuditLemmas.{line_at}
use Rattle.evc_engine.proofs.audit_text.put_pairs.Goals as goal

pub loop-pair-preserved : goal.loop-pair-preserved
loop-pair-preserved g c =
    line_at _ _ _ (pair_line c.args.spellings.now (semaphore_word c.args.heading.now.names 0 c.args.heading.now.groups)) c.args.list.now c.loop-pair.pair-index c.pair-item.result
    (slice_get_read c.args.list.now _ c.loop-pair.pair-index c.pair-item.result refl c.loop-pair-test.true c.pair-item.is)
    c.loop-pair.invariant c.put_pair.ensures

pub returns : goal.returns
returns g c =
    subst (λ xs. Puts c.args.out.now c.loop-pair.out (lines_text (map (pair_line c.args.spellings.now (semaphore_word c.args.heading.now.names 0 c.args.heading.now.groups)) xs)))
    (take_all c.loop-pair.pair-index c.args.list.now c.loop-pair-test.false) c.loop-pair.invariant
