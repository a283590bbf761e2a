use Rattle.std.proofs.Common.{◌≤◌, length, ap, arith, refl}
use Rattle.evc_explain_engine.specs.Continuation.{AreFinalEnds}
use Rattle.evc_explain_engine.proofs.Ending.{given, says_beyond}
use Rattle.evc_explain_engine.proofs.continuation.continuation_bytes.Goals as goal

pub final_ends_bytes-requires : goal.final_ends_bytes-requires
final_ends_bytes-requires c =
    let few : length c.in-Some.ends.items ≤ 16 =
    given c.in_ok-ends.field-0 c.in-Some.ends c.in-Some.is (λ ends. length ends.items ≤ 16)
    c.in_ok-ends.ensures.few in
    omega (arith, few, ap length c.as_slice.ensures.value)

pub returns : goal.returns
returns c =
    says_beyond c.args.plan.now c.final_ends.new.plan.heading.words c.in-Some.ends.items
    c.as_slice.result.now c.final_ends_bytes.result
    (given c.in_ok-ends.field-0 c.in-Some.ends c.in-Some.is
    (λ ends. AreFinalEnds c.args.plan.now ends.items) c.in_ok-ends.ensures.ends)
    c.as_slice.ensures.value (rw c.in_ok-ends.ensures.heading refl) c.final_ends_bytes.ensures
