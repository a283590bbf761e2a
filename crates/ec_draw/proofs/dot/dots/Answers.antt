use Rattle.std.proofs.Common.{◌≡◌, ◌+◌, Some, sym, arith, ap, ◌∙◌, subst, slice_get, take, Vec}
use Rattle.std.proofs.Common.{Global, length}
use Rattle.std.proofs.lemmas.List.{length-reverse}
use Rattle.ec_core.specs.Counts.{past_at}
use Rattle.ec_core.specs.Standing.{State, Represents}
use Rattle.ec_draw.specs.declared.dot.Dot.{Dot}
use Rattle.ec_draw.specs.Dots.{dot_of}
use Rattle.ec_draw.proofs.Counting.{take-few}
use Rattle.ec_draw.proofs.Stepping.{none_here, dots_before, dots_all, dots_yes, shows_from}
use Rattle.ec_draw.proofs.Stepping.{long_past, stands_next}
use Rattle.ec_draw.proofs.dot.dots.Goals as goal
use Rattle.ec_draw.proofs.dot.dots.Goals.{in-Some+in_ok-push, in_default}

pub loop-position-init : goal.loop-position-init
loop-position-init c =
    let h = c.args.run.now.entries in
    let few = take-few c.args.window.from h in
    let long = length-reverse (take c.args.window.from h) in
    record {
      setup = c.requires.setup;
      represents = c.requires.represents;
      dots = c.new-dots.ensures.items
          ∙ sym (dots_before c.args.run.now.setup c.args.window (past_at c.args.window.from h)
          (omega arith));
    }

pub loop-position-preserved : goal.loop-position-preserved
loop-position-preserved c =
    elim c.match-entry.branch [
      | in-Some+in_ok-push w ↦
          (let t = c.args.run.now.setup in
          let h = c.args.run.now.entries in
          let k = c.loop-position.position in
          let x = w.in-Some.entry in
          let was = c.loop-position.invariant in
          let at : slice_get h k ≡ Some x = sym w.in-Some.ensures in
          record {
            setup = ap (λ (s : State). s.setup) w.world-is ∙ w.step-reply.ensures.setup ∙ was.setup;
            represents = subst (λ (s : State). Represents s (past_at (k + 1) h)) (sym w.world-is)
                (stands_next t c.loop-position.world w.step-reply.new.self h k x w.step-reply.result
                c.invariant.ensures.accepted at was.setup
                (w.step-reply.ensures.answer (take k h) was.represents)
                (w.step-reply.ensures.after (take k h) was.represents));
            dots = ap (λ (v : Vec Dot Global). v.items) w.dots-is ∙ w.in_ok-push.ensures.items
                ∙ dots_yes t c.args.window h k x c.loop-position.dots.items w.dot_of.result at
                (shows_from c.args.window k (length h) (omega arith) (omega arith)) was.dots
                (w.dot_of.ensures (take k h) was.represents (sym (long_past h k x at))
                ∙ ap (λ u. dot_of u (past_at k h) x) was.setup);
          })
      | in_default w ↦
          absurd (none_here c.args.run.now.entries c.loop-position.position (sym c.entry.ensures
          ∙ w.in_default.is) (omega arith))
    ]

pub returns : goal.returns
returns c = c.loop-position.invariant.dots
    ∙ dots_all c.args.run.now.setup c.args.window c.args.run.now.entries c.loop-position.position
    (omega arith)
