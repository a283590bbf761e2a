use Rattle.ec_machine.proofs.large_task.LargeTaskProcedure.take.Goals as goal

pub returns-in-WriteAll-clause-returned : goal.returns-in-WriteAll-clause-returned
returns-in-WriteAll-clause-returned c = rw c.in-WriteAll.is (c.take.ensures.returned)

pub returns-in-Snapshot-clause-returned : goal.returns-in-Snapshot-clause-returned
returns-in-Snapshot-clause-returned c = rw c.in-Snapshot.is (c.take-in-Snapshot.ensures.returned)
