use Rattle.std.proofs.Common.{ℕ, Ok, length, arith, ap, subst}
use Rattle.ec_trace.specs.Reading.{ReadsPart}
use Rattle.ec_trace.proofs.Readings.{part_cleared, part_whole}
use Rattle.ec_trace.proofs.lines.Lines.next_over_pieces.Goals as goal

pub loop-fault-init : goal.loop-fault-init
loop-fault-init g c = record {
  taken = omega (arith, ap (λ r. r.taken) c.clear_part.ensures);
  begins = λ xs s going reached. part_cleared xs (g.R.Read.remaining c.args.reader.now) c.args.self.now c.clear_part.new.self s c.clear_part.ensures reached;
}

pub returns-in-Err-clause-comes : goal.returns-in-Err-clause-comes
returns-in-Err-clause-comes g c = λ xs s going reached. c.in-Err.ensures.holds xs (g.R.Read.remaining c.loop-fault.reader) s going (c.loop-fault.invariant.begins xs s going reached)

pub returns-in-Err-go_on-clause-comes : goal.returns-in-Err-go_on-clause-comes
returns-in-Err-go_on-clause-comes g c = λ xs s going reached.
    c.in-Err-go_on.ensures.goes xs s going
    (subst (λ whole. ReadsPart xs (g.R.Read.remaining c.loop-fault.reader) c.hold.new.self s (Ok whole)) c.in-Ok-false.field-0-test
    (c.in-Ok-false.ensures.holds xs (g.R.Read.remaining c.loop-fault.reader) s going (c.loop-fault.invariant.begins xs s going reached)))

pub loop-fault-preserved : goal.loop-fault-preserved
loop-fault-preserved g c =
    let h = c.in-Ok-false.ensures.all c.in-Ok-false.field-0-test in
    let m = c.in_default.ensures.more in
    record {
      taken = omega (arith, c.loop-fault.invariant.taken, h.0, m.0);
      begins = λ xs s going reached.
          c.in_default.ensures.goes xs s going
          (subst (λ whole. ReadsPart xs (g.R.Read.remaining c.loop-fault.reader) c.hold.new.self s (Ok whole)) c.in-Ok-false.field-0-test
          (c.in-Ok-false.ensures.holds xs (g.R.Read.remaining c.loop-fault.reader) s going (c.loop-fault.invariant.begins xs s going reached)));
    }

pub loop-fault-smaller : goal.loop-fault-smaller
loop-fault-smaller g c =
    let h = c.in-Ok-false.ensures.all c.in-Ok-false.field-0-test in
    let m = c.in_default.ensures.more in
    omega (arith, h.0, h.1, ap (length {A = ℕ}) h.2, m.0, m.1)

pub returns-clause-comes : goal.returns-clause-comes
returns-clause-comes g c = λ xs s going reached.
    part_whole xs (g.R.Read.remaining c.loop-fault.reader) c.hold.new.self _ s c.set_apart.ensures
    (subst (λ whole. ReadsPart xs (g.R.Read.remaining c.loop-fault.reader) c.hold.new.self s (Ok whole)) c.in-Ok-true.field-0-test
    (c.in-Ok-true.ensures.holds xs (g.R.Read.remaining c.loop-fault.reader) s going (c.loop-fault.invariant.begins xs s going reached)))
