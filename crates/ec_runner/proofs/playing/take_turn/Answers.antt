use Rattle.std.proofs.Common.{sym}
use Rattle.ec_runner.proofs.Turning.{not_set, turn_made, turn_refused, turn_short}
use Rattle.ec_runner.proofs.playing.take_turn.Goals as goal

pub returns-in-Ok : goal.returns-in-Ok
returns-in-Ok c = λ t programs turns of machine.
    turn_made t programs turns c.args.worker c.args.run.now c.step.new.self c.args.machine.now c.take.new.self c.in-Some.act c.in-Ok.reply of machine
    (sym c.in-Some.ensures.some)
    (sym (c.in-Some.ensures.due _ _ machine.represents (not_set _ (sym c.in-Some.ensures.some))))
    c.in-Ok.ensures.answer c.in-Ok.ensures.ok
    (c.take.ensures.represents _ _ c.args.worker c.in-Some.act machine.represents (sym c.in-Some.ensures.value)) c.take.ensures.unset

pub returns-in-Err-Refused : goal.returns-in-Err-Refused
returns-in-Err-Refused c = λ t programs turns of machine.
    turn_refused t programs turns c.args.worker c.args.run.now c.step.new.self c.args.machine.now c.refuse.new.self c.in-Some.act c.in-Err-Refused.refusal of machine
    (sym c.in-Some.ensures.some)
    (sym (c.in-Some.ensures.due _ _ machine.represents (not_set _ (sym c.in-Some.ensures.some))))
    (rw c.in-Err-Refused.field-0-is at c.in-Err-Refused.ensures.answer) c.in-Err-Refused.ensures.err
    (c.refuse.ensures.represents _ _ machine.represents) c.refuse.ensures.outcome

pub returns-in-Err-Memory : goal.returns-in-Err-Memory
returns-in-Err-Memory c = λ t programs turns of machine.
    turn_short t programs turns c.args.worker c.args.run.now c.args.machine.now c.in-Some.act of machine
    (sym c.in-Some.ensures.some)
    (sym (c.in-Some.ensures.due _ _ machine.represents (not_set _ (sym c.in-Some.ensures.some))))
    (rw c.in-Err-Memory.field-0-is at c.in-Err-Memory.ensures.answer)
