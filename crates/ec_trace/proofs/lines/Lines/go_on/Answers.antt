use Rattle.std.proofs.Common.{sym, subst, arith}
use Rattle.ec_trace.specs.Reading.{Begins, Refills, Stays}
use Rattle.ec_trace.proofs.Readings.{line_refilled, line_unfinished, line_cut_off}
use Rattle.ec_trace.proofs.lines.Lines.go_on.Goals as goal

pub returns-in-Ok-true-clause-goes : goal.returns-in-Ok-true-clause-goes
returns-in-Ok-true-clause-goes g c = λ xs s going begins.
    let came : Refills c.args.self.now c.refill.new.self (g.R.Read.remaining c.args.reader.now) (g.R.Read.remaining c.refill.new.reader) c.in-Ok-true.field-0 = c.in-Ok-true.ensures in
    subst (λ part. Begins xs (g.R.Read.remaining c.refill.new.reader) c.refill.new.self part s) (sym came.part)
    (line_refilled xs (g.R.Read.remaining c.args.reader.now) (g.R.Read.remaining c.refill.new.reader) c.args.self.now c.refill.new.self _ c.args.self.now.part s begins c.requires.taken c.requires.within came)

pub returns-in-Ok-false-clause-goes : goal.returns-in-Ok-false-clause-goes
returns-in-Ok-false-clause-goes g c = λ xs s going begins.
    let came : Refills c.args.self.now c.refill.new.self (g.R.Read.remaining c.args.reader.now) (g.R.Read.remaining c.refill.new.reader) c.in-Ok-false.field-0 = c.in-Ok-false.ensures in
    let none = came.none c.in-Ok-false.field-0-test in
    let now = subst (λ part. Begins xs (g.R.Read.remaining c.refill.new.reader) c.refill.new.self part s) (sym came.part)
    (line_refilled xs (g.R.Read.remaining c.args.reader.now) (g.R.Read.remaining c.refill.new.reader) c.args.self.now c.refill.new.self c.in-Ok-false.field-0 c.args.self.now.part s begins c.requires.taken c.requires.within came) in
    line_unfinished xs c.refill.new.self s c.refill.new.self.part (g.R.Read.remaining c.refill.new.reader) now going none.0 none.1 none.2 (omega (arith, came.within.bound)) came.within.plain came.within.short

pub returns-in-Err-clause-goes : goal.returns-in-Err-clause-goes
returns-in-Err-clause-goes g c = λ xs s going begins.
    let kept : Stays c.args.self.now c.refill.new.self (g.R.Read.remaining c.args.reader.now) (g.R.Read.remaining c.refill.new.reader) = c.in-Err.ensures in
    line_cut_off xs c.args.self.now s c.args.self.now.part (g.R.Read.remaining c.args.reader.now) (g.R.Read.remaining c.refill.new.reader) begins going c.requires.taken c.requires.within kept.kept (omega (arith, kept.within.bound, kept.taken)) (rw (← kept.part) kept.within.plain) (rw (← kept.part) kept.within.short)
