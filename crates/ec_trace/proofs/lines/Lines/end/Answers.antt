use Rattle.std.proofs.Common.{[], refl, arith}
use Rattle.ec_trace.specs.Stages.{Ended}
use Rattle.ec_trace.specs.Reading.{Refills, Stays}
use Rattle.ec_trace.proofs.Readings.{line_refilled, text_whole, text_cut_off}
use Rattle.ec_trace.proofs.lines.Lines.end.Goals as goal

pub returns-then-not-is_taken : goal.returns-then-not-is_taken
returns-then-not-is_taken g c = λ xs t reached. c.behind_the_end.ensures xs (g.R.Read.remaining c.args.reader.now) t reached

pub returns-in-Ok-true : goal.returns-in-Ok-true
returns-in-Ok-true g c = λ xs t reached.
    let used = c.if-not-is_taken.ensures.all refl in
    let came : Refills c.args.self.now c.refill.new.self (g.R.Read.remaining c.args.reader.now) (g.R.Read.remaining c.refill.new.reader) c.in-Ok-true.field-0 = c.in-Ok-true.ensures in
    c.behind_the_end-in-Ok-true.ensures xs (g.R.Read.remaining c.refill.new.reader) t
    (line_refilled xs (g.R.Read.remaining c.args.reader.now) (g.R.Read.remaining c.refill.new.reader) c.args.self.now c.refill.new.self c.in-Ok-true.field-0 [] (Ended t) reached used.0 used.1 came)

pub returns-in-Ok-false : goal.returns-in-Ok-false
returns-in-Ok-false g c = λ xs t reached.
    let used = c.if-not-is_taken.ensures.all refl in
    let came : Refills c.args.self.now c.refill.new.self (g.R.Read.remaining c.args.reader.now) (g.R.Read.remaining c.refill.new.reader) c.in-Ok-false.field-0 = c.in-Ok-false.ensures in
    let none = came.none c.in-Ok-false.field-0-test in
    text_whole xs c.refill.new.self t (g.R.Read.remaining c.refill.new.reader)
    (line_refilled xs (g.R.Read.remaining c.args.reader.now) (g.R.Read.remaining c.refill.new.reader) c.args.self.now c.refill.new.self c.in-Ok-false.field-0 [] (Ended t) reached used.0 used.1 came) none.0 none.1 none.2 (omega (arith, came.within.bound))

pub returns-in-Err : goal.returns-in-Err
returns-in-Err g c = λ xs t reached.
    let used = c.if-not-is_taken.ensures.all refl in
    let kept : Stays c.args.self.now c.refill.new.self (g.R.Read.remaining c.args.reader.now) (g.R.Read.remaining c.refill.new.reader) = c.in-Err.ensures in
    text_cut_off xs c.args.self.now t (g.R.Read.remaining c.args.reader.now) (g.R.Read.remaining c.refill.new.reader) reached used.0 used.1 kept.kept (omega (arith, kept.within.bound, kept.taken))
