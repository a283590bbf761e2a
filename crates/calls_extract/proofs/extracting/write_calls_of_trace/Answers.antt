use Rattle.std.proofs.Common.{refl, sym, subst, ◌∙◌, rules}
use Rattle.std.specs.Io.KnownBytes.{Appends}
use Rattle.ec_core.specs.RunModel.{RunModel}
use Rattle.ec_trace.specs.TraceModel.{TraceModel}
use Rattle.calls_kernel.specs.Outside.{HasOutsideHistory}
use Rattle.calls_extract.specs.Lines.{calls_text}
use Rattle.calls_extract.specs.Extracts.{HasCalls}
use Rattle.calls_extract.proofs.extracting.write_calls_of_trace.Goals as goal

pub returns-in-Ok-clause-ends : goal.returns-in-Ok-clause-ends
returns-in-Ok-clause-ends g c =
    let t : TraceModel = c.args.traced.now in
    let seen : HasOutsideHistory t.heading.setup t.entries =
    subst (λ (r : RunModel). HasOutsideHistory r.setup r.entries) c.run-run.ensures
    (c.calls_of_accepted_histories_are_linearizable.ensures c.run-run.result.now.setup
    c.run-run.result.now.entries c.invariant.ensures.declared c.invariant.ensures.accepted) in
    let all : HasCalls t = search rules in (
      all,
      seen,
      λ o is e. subst (λ (r : RunModel). Appends (g.W.Write.contents c.args.out.now)
          (g.W.Write.contents c.write_calls.new.writer) (calls_text o r.entries)) c.run-run.ensures
          (c.in-Ok.ensures.ok o is (e ∙ sym c.heading-heading.ensures)),
      refl,
    )
