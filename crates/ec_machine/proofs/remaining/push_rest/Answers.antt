use Rattle.std.proofs.Common.{arith, sym, ◌∙◌}
use Rattle.ec_machine.proofs.Frames.{left_push, fit_push, begun_again, block_done, some_left}
use Rattle.ec_machine.proofs.remaining.push_rest.Goals as goal

pub returns-then-not-is_empty-clause-left : goal.returns-then-not-is_empty-clause-left
returns-then-not-is_empty-clause-left c = rw c.push.ensures.items (left_push _ _)

pub returns-then-not-is_empty-clause-fit : goal.returns-then-not-is_empty-clause-fit
returns-then-not-is_empty-clause-fit c = rw c.push.ensures.items (fit_push _ _ _ c.requires.fit (record {
  rest_some = some_left _ (sym c.is_empty.ensures ∙ c.if-not-is_empty.true);
  block_some = c.requires.block_some;
  rest_sound = c.requires.sound.0;
  block_sound = c.requires.sound.1;
  rest_nesting = omega arith;
  block_nesting = omega arith;
}))

pub returns-then-times-gt0-clause-left : goal.returns-then-times-gt0-clause-left
returns-then-times-gt0-clause-left c = rw c.push-then-times-gt0.ensures.items (begun_again _ (record { rest = c.args.block; block = c.args.block; times = 0 }) _ _ (sym c.is_empty.ensures ∙ c.if-not-is_empty.false) c.if-times-gt0.true)

pub returns-then-times-gt0-clause-fit : goal.returns-then-times-gt0-clause-fit
returns-then-times-gt0-clause-fit c = rw c.push-then-times-gt0.ensures.items (fit_push _ _ _ c.requires.fit (record {
  rest_some = c.requires.block_some;
  block_some = c.requires.block_some;
  rest_sound = c.requires.sound.1;
  block_sound = c.requires.sound.1;
  rest_nesting = omega arith;
  block_nesting = omega arith;
}))

pub returns-else-times-gt0-clause-left : goal.returns-else-times-gt0-clause-left
returns-else-times-gt0-clause-left c = block_done _ _ _ _ (sym c.is_empty.ensures ∙ c.if-not-is_empty.false) c.if-times-gt0.false
