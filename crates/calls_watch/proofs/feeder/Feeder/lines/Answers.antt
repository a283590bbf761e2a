use Rattle.std.proofs.Common.{◌++◌, Ok, Err}
use Rattle.calls_watch.proofs.PieceLemmas.{fed_plainly, plainly_fed, line_in, gather_fed}
use Rattle.calls_watch.proofs.feeder.Feeder.lines.Goals as goal

pub lines-init : goal.lines-init
lines-init c = record {
  none = c.requires;
  watching = λ ps rest fed.
      fed_plainly ps (c.args.piece.now ++ rest) c.args.self.now c.requires fed;
}

pub lines-preserved : goal.lines-preserved
lines-preserved c = record {
  none = c.lines.invariant.none;
  watching = λ ps rest fed.
      line_in ps c.in-Some.line.now c.in-Some.behind.now c.lines.left.now rest c.lines.self.watcher
      c.line.new.self (Ok tt) c.in-Some.ensures.whole c.in-Some.ensures.plain
      (c.lines.invariant.watching ps rest fed) (λ qs q. c.in_default-line.ensures ps qs q);
}

pub returns-in-Err : goal.returns-in-Err
returns-in-Err c = λ ps rest fed.
    line_in ps c.in-Some.line.now c.in-Some.behind.now c.lines.left.now rest c.lines.self.watcher
    c.line.new.self (Err c.in-Err.stop) c.in-Some.ensures.whole c.in-Some.ensures.plain
    (c.lines.invariant.watching ps rest fed) (λ qs q. c.in-Err.ensures ps qs q)

pub returns : goal.returns
returns c = λ ps rest fed.
    gather_fed ps c.lines.left.now rest c.lines.self c.gather.new.self c.gather.result
    (plainly_fed ps (c.lines.left.now ++ rest) c.lines.self c.lines.invariant.none
    (c.lines.invariant.watching ps rest fed))
    c.in_default.ensures.none c.gather.ensures
