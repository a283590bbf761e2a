-- The command that an interpreter is executing.
use Rattle.std.specs.Prelude.{Bool, false, List, Option, None, if◌then◌else◌}
use Rattle.ec_core.specs.declared.act.Act.{Act}
use Rattle.ec_core.specs.Following.{CompletedCall}
use Rattle.ec_buffer.specs.contracts.produce.ProduceProcedure.TheImpl as produce
use Rattle.ec_buffer.specs.contracts.consume.ConsumeProcedure.TheImpl as consume
use Rattle.ec_database.specs.contracts.write.WriteAllProcedure.TheImpl as write
use Rattle.ec_database.specs.contracts.snapshot.SnapshotProcedure.TheImpl as snapshot
use Rattle.ec_semaphore.specs.contracts.down.DownProcedure.TheImpl as down
use Rattle.ec_semaphore.specs.contracts.down_both.DownBothProcedure.TheImpl as both
use Rattle.ec_machine.specs.declared.one_call.OneCall.{OneCall}
use Rattle.ec_machine.specs.declared.small_task.SmallTask.{SmallTask}
use Rattle.ec_machine.specs.declared.small_task.SmallTask.TheVariants as small
use Rattle.ec_machine.specs.declared.large_task.LargeTask.{LargeTask}
use Rattle.ec_machine.specs.declared.large_task.LargeTask.TheVariants as large
use Rattle.ec_machine.specs.declared.task.Task.{Task}
use Rattle.ec_machine.specs.Runs.{one_call}

abbrev pub one_rest : OneCall → List CompletedCall → Option Act
one_rest s calls = if s.is_over then None else one_call s.act calls

-- the call that comes after these further calls of the command, or none
abbrev pub small_rest : SmallTask → List CompletedCall → Option Act
small_rest small.Nothing calls = None
small_rest (small.One s) calls = one_rest s calls
small_rest (small.Produce s) calls = produce.ghosts.rest s calls
small_rest (small.Consume s) calls = consume.ghosts.rest s calls
small_rest (small.Down s) calls = down.ghosts.rest s calls
small_rest (small.DownBoth s) calls = both.ghosts.rest s calls

abbrev pub large_rest : LargeTask → List CompletedCall → Option Act
large_rest large.Nothing calls = None
large_rest (large.WriteAll s) calls = write.ghosts.rest s calls
large_rest (large.Snapshot s) calls = snapshot.ghosts.rest s calls

abbrev pub task_rest : Task → List CompletedCall → Option Act
task_rest t calls = if t.is_large then large_rest t.large calls else small_rest t.small calls

-- whether its last reply was Pending
abbrev pub small_going : SmallTask → Bool
small_going small.Nothing = false
small_going (small.One s) = s.going
small_going (small.Produce s) = produce.ghosts.is_going s
small_going (small.Consume s) = consume.ghosts.is_going s
small_going (small.Down s) = down.ghosts.is_going s
small_going (small.DownBoth s) = both.ghosts.is_going s

abbrev pub large_going : LargeTask → Bool
large_going large.Nothing = false
large_going (large.WriteAll s) = write.ghosts.is_going s
large_going (large.Snapshot s) = snapshot.ghosts.is_going s

abbrev pub task_going : Task → Bool
task_going t = if t.is_large then large_going t.large else small_going t.small
