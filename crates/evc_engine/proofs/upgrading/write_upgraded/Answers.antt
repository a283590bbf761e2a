use Rattle.std.proofs.Common.{List, refl, sym, ap, subst, ◌∙◌}
use Rattle.std.specs.Io.KnownBytes.{Appends}
use Rattle.ec_text.specs.Puts.{AppendsPrefix}
use Rattle.ec_core.specs.declared.act.Entry.{Entry}
use Rattle.ec_core.specs.RunModel.{RunModel}
use Rattle.ec_heading.specs.Spelling.{trace_text}
use Rattle.ec_heading.specs.Upgrade.{upgraded_outline}
use Rattle.ec_heading.proofs.shared.Upgrades.{upgraded_is}
use Rattle.ec_trace.specs.TraceModel.{TraceModel}
use Rattle.evc_engine.proofs.UpgradeLemmas.{headed_so}
use Rattle.evc_engine.proofs.upgrading.write_upgraded.Goals as goal

pub returns-in-Ok-clause-ends : goal.returns-in-Ok-clause-ends
returns-in-Ok-clause-ends g c =
    let entries = ap (λ (r : RunModel). r.entries) c.run.ensures ∙ ap (λ (t : TraceModel). t.entries) c.upgrade-traced.ensures in
    let heading = c.heading.ensures ∙ ap (λ (t : TraceModel). t.heading) c.upgrade-traced.ensures in (
      λ o is e. subst (λ (es : List Entry). Appends (g.W.Write.contents c.args.out.now) (g.W.Write.contents c.write_trace.new.writer) (trace_text (upgraded_outline o) es)) entries
          (c.in-Ok.ensures.ok (upgraded_outline o) (upgraded_is o is) (headed_so o _ e ∙ sym heading)),
      refl,
    )

pub returns-clause-ends : goal.returns-clause-ends
returns-clause-ends g c =
    let entries = ap (λ (r : RunModel). r.entries) c.run.ensures ∙ ap (λ (t : TraceModel). t.entries) c.upgrade-traced.ensures in
    let heading = c.heading.ensures ∙ ap (λ (t : TraceModel). t.heading) c.upgrade-traced.ensures in (
      λ o is e. subst (λ (es : List Entry). AppendsPrefix (g.W.Write.contents c.args.out.now) (g.W.Write.contents c.write_trace.new.writer) (trace_text (upgraded_outline o) es)) entries
          (c.in-Err.ensures.err (upgraded_outline o) (upgraded_is o is) (headed_so o _ e ∙ sym heading)),
      (c.say.ensures.puts, c.say.ensures.written),
    )
