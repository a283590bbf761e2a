-- What is written for each cause: one sentence on what is wrong, and one on how to mend it.
use Rattle.std.specs.Prelude.{ℕ, List, ◌++◌, codes}
use Rattle.ec_explain.specs.declared.cause.Cause.{Cause}
use Rattle.ec_explain.specs.declared.cause.Cause.TheVariants as causes

abbrev pub sentence : Cause → List ℕ
sentence causes.Long = codes "The line has more than 8192 bytes."
sentence causes.Mark = codes "The line begins with a byte order mark."
sentence causes.Return = codes "The line ends in a carriage return."
sentence causes.Tab = codes "The line has a tab."
sentence causes.Empty = codes "The line is empty."
sentence causes.Comment = codes "The line looks like a comment."
sentence causes.SpaceBefore = codes "The line begins with a space."
sentence causes.SpaceAfter = codes "The line ends with a space."
sentence causes.TwoSpaces = codes "The line has two spaces in a row."
sentence causes.OtherVersion = codes "There is no such version."
sentence causes.NoHeader = codes "The first line does not say what the text is."
sentence causes.NoLimit = codes "The second line gives the limit, and this one does not."
sentence causes.LimitWords = codes "The limit is one number."
sentence causes.LimitNoNumber = codes "The limit is no number."
sentence causes.LimitZero = codes "The limit is 0."
sentence causes.LimitLarge = codes "The limit is too large."
sentence causes.NoWorkers = codes "The third line names the workers, and this one does not."
sentence causes.LongName = codes "The name is too long."
sentence causes.ReservedName = codes "The name is a word that the texts use themselves."
sentence causes.BadName = codes "The word is no name."
sentence causes.NameTaken = codes "A name was used before."
sentence causes.UnknownName = codes "The word is not the name of a worker."
sentence causes.BadNumber = codes "The number is out of its range."
sentence causes.TooMany = codes "There are too many."
sentence causes.TwoRoles = codes "A worker stands in both lists."
sentence causes.EntryBeforeRun =
    codes "The line begins with a worker, and no line run came before it."
sentence causes.NoDeclaration = codes "The first word begins no declaration."
sentence causes.DeclarationForm = codes "The line is not a whole declaration."
sentence causes.NoWorker = codes "The first word is not the name of a worker."
sentence causes.NoAct = codes "The second word is no act."
sentence causes.HandInOne = codes "A text of version 1 has no hand."
sentence causes.NoObject =
    codes "The word after the act is no declared object that the act may name."
sentence causes.NoValue = codes "The value is no number."
sentence causes.NoReceiver = codes "The last word of the act is not the name of a worker."
sentence causes.NoEquals = codes "The sign = is expected here."
sentence causes.NoReply = codes "The word is no reply."
sentence causes.EntryWords = codes "There are words after the reply."
sentence causes.AfterEnd = codes "The line stands after the line end."
sentence causes.Busy = codes "The act is refused: a call of the worker is under way."
sentence causes.Idle =
    codes "The act is refused: no call of the worker is under way, and go goes on with one."
sentence causes.NoRight = codes "The act is refused: the worker lacks the right."
sentence causes.AtLimit = codes "The act is refused: the count is at the limit."
sentence causes.NotHandable = codes "The act is refused: the eventcount belongs to a group."
sentence causes.AlreadySignals =
    codes "The act is refused: the receiver signals the eventcount already."
sentence causes.WrongReply = codes "The act has another reply."
sentence causes.EmptyText = codes "The text is empty."
sentence causes.NoLastLf = codes "The last line has no LF at its end."
sentence causes.NoEnd = codes "The text stops before the line end."
sentence causes.TooLarge = codes "The text has more than 67108864 bytes."
sentence causes.ScriptForm = codes "No line of this form may stand here in a script."
sentence causes.ReplyWords = codes "No reply follows the word returns."
sentence causes.NoCallWord = codes "The second word is neither calls nor returns."
sentence causes.NoOperation = codes "The third word is no operation."
sentence causes.CallWords = codes "The words after the operation do not suit it."
sentence causes.FromForm = codes "No declared eventcount and number follow the word from."
sentence causes.AfterFrom = codes "Declarations come before the lines from."
sentence causes.FromRange = codes "The first count is out of its range."
sentence causes.UnknownWorker = codes "The first word is no declared worker."
sentence causes.NotDeclared = codes "Nothing of this name is declared."
sentence causes.OtherSort = codes "The operation takes no such object."
sentence causes.NoBoth = codes "No line both says who may call pboth."
sentence causes.UnknownWord =
    codes "A word names nothing that is declared, or something of another sort."
sentence causes.OutOfRange = codes "A number is out of its range."
sentence causes.Full = codes "A bound is passed."
sentence causes.Hidden = codes "The object belongs to a group, and may not be named by itself."
sentence causes.TwoUses = codes "The line names one semaphore twice."
sentence causes.NoRole = codes "The worker may not do this."
sentence causes.BadNesting = codes "The line may not stand at this place of a block."
sentence causes.StopsEarly = codes "The text stops too early."
sentence causes.BadOrder = codes "The from lines are not in the order of the declarations."
sentence causes.CallPending = codes "The worker calls, and its last call has not returned."
sentence causes.NoPendingCall = codes "The worker returns, and has no pending call."
sentence causes.Unsuited = codes "The reply does not suit the call."
sentence causes.CallLimit = codes "The limit is passed."
sentence causes.NoOrder = codes "The calls have no linearization."
sentence causes.NotDecided = codes "It is not decided whether the calls have a linearization."
sentence causes.TurnOfEnded = codes "The schedule has a turn of a worker that has ended."
sentence causes.Other = codes "No line of this form may stand here."

abbrev pub remedy : Cause → List ℕ
remedy causes.Long = codes "Look for a missing LF: a line has at most 8192 bytes."
remedy causes.Mark = codes "Save the text without one."
remedy causes.Return = codes "End each line with LF alone, for example by: tr -d '\\r'"
remedy causes.Tab = codes "Separate words by one space."
remedy causes.Empty = codes "Remove it: a text has no empty lines."
remedy causes.Comment = codes "Remove it: a text has no comments."
remedy causes.SpaceBefore = codes "Remove the space: lines are not indented."
remedy causes.SpaceAfter = codes "Remove the space."
remedy causes.TwoSpaces = codes "Separate words by one space."
remedy causes.OtherVersion =
    codes "The versions are evc-trace 1, evc-trace 2, evc-script 1, evc-script 2 and evc-calls 1."
remedy causes.NoHeader =
    codes "Begin a trace with evc-trace 1, a script with evc-script 1, a history of calls with "
    ++ codes "evc-calls 1."
remedy causes.NoLimit = codes "Write the word limit and a number, as in: limit 100"
remedy causes.LimitWords = codes "Write the word limit and a number, as in: limit 100"
remedy causes.LimitNoNumber = codes "Write it in digits, without a sign and without leading zeros."
remedy causes.LimitZero = codes "Write 1 or more: it says how far each count may go."
remedy causes.LimitLarge =
    codes "It is at most 4294967295 in version 1, and at most 281474976710655 in version 2."
remedy causes.NoWorkers = codes "Write the word workers and 1 to 16 names, as in: workers a b"
remedy causes.LongName = codes "A name has at most 16 letters, digits and underscores."
remedy causes.ReservedName = codes "Choose another name."
remedy causes.BadName = codes "A name is a letter, followed by letters, digits and underscores."
remedy causes.NameTaken =
    codes "Use each name once, name each worker once in a list, and give a worker one block."
remedy causes.UnknownName = codes "Name the worker in the line of the workers, or mend the word."
remedy causes.BadNumber =
    codes "Cells, buffers and databases have 1 to 256 cells; a semaphore begins with 0 to 1000000."
remedy causes.TooMany =
    codes "A text has at most 16 workers, 32 eventcounts, 32 sequencers and 256 cells, those of "
    ++ codes "groups among them."
remedy causes.TwoRoles = codes "The two lists of a buffer or a database share no worker."
remedy causes.EntryBeforeRun = codes "Write the line run after the last declaration."
remedy causes.NoDeclaration =
    codes "Write eventcount, sequencer, cells, buffer, database, semaphore or both; the line "
    ++ codes "run ends the declarations."
remedy causes.DeclarationForm =
    codes "Name the object, then the workers in lists, as in: eventcount E signal a b observe c"
remedy causes.NoWorker =
    codes "An entry is a worker, an act, the sign = and a reply, as in: a advance E = done"
remedy causes.NoAct = codes "The acts are advance, read, await, go, ticket, put, get and hand."
remedy causes.HandInOne = codes "Write evc-trace 2 in the first line."
remedy causes.NoObject =
    codes "advance, read, await and hand name an eventcount, ticket a sequencer, put and get a "
    ++ codes "cell, as in: X[0]"
remedy causes.NoValue = codes "Write at most 18 digits, without leading zeros."
remedy causes.NoReceiver =
    codes "Name the worker that is handed the component, as in: a hand E b = done"
remedy causes.NoEquals = codes "Write the act, one space, the sign =, one space, and the reply."
remedy causes.NoReply =
    codes "A reply is done, pending, or at most 18 digits without leading zeros."
remedy causes.EntryWords = codes "Remove them: a line is one entry."
remedy causes.AfterEnd = codes "Remove it: the line end is the last one."
remedy causes.Busy = codes "Let the worker go on with that call by go, until it returns."
remedy causes.Idle = codes "Begin a read or an await before it, or remove the line."
remedy causes.NoRight =
    codes "Name the worker in the list of the declaration: signal to advance, observe to read "
    ++ codes "and await, take, write, read."
remedy causes.AtLimit = codes "Raise the limit in the second line."
remedy causes.NotHandable =
    codes "Hand over components of eventcounts that a line eventcount declares."
remedy causes.AlreadySignals = codes "Hand the component to a worker that has none at that moment."
remedy causes.WrongReply =
    codes "Write the right reply; if the program recorded this one, the program or its record "
    ++ codes "is wrong."
remedy causes.EmptyText =
    codes "Look whether the program that writes it ran, and wrote to this file."
remedy causes.NoLastLf = codes "End each line with LF, also the last."
remedy causes.NoEnd = codes "Write the line end as the last one: it shows that the record is whole."
remedy causes.TooLarge = codes "Record a shorter run."
remedy causes.ScriptForm =
    codes "Declarations come first, then blocks, each from worker a to end, then the lines "
    ++ codes "schedule a b."
remedy causes.ReplyWords =
    codes "A reply is done, timeout, or a number without leading zeros; to a snapshot a number "
    ++ codes "for each cell."
remedy causes.NoCallWord =
    codes "An event is as: a calls read E, or: a returns 1; the line end is the last one."
remedy causes.NoOperation =
    codes "The operations are advance, read, await, ticket, put, get, p, v, pboth, write, "
    ++ codes "snapshot, produce and consume."
remedy causes.CallWords =
    codes "An object comes first; then await, put and produce have a number in digits, write "
    ++ codes "numbers, pboth a second semaphore."
remedy causes.FromForm = codes "Write the eventcount and its first count, as in: from E 3"
remedy causes.AfterFrom = codes "Move the line before the first line from."
remedy causes.FromRange =
    codes "It is at least 1 and at most the limit in the second line of the history."
remedy causes.UnknownWorker = codes "Name it in the line of the workers, or mend the word."
remedy causes.NotDeclared = codes "Declare it before the line run, or mend the word."
remedy causes.OtherSort =
    codes "advance, read and await take an eventcount, ticket a sequencer, put and get a cell "
    ++ codes "as X[0], produce and consume a buffer, write and snapshot a database, p, v and pboth "
    ++ codes "semaphores."
remedy causes.NoBoth = codes "Write it after the semaphores, as in: both use a b"
remedy causes.UnknownWord = codes "Declare it or mend the word; a cell is written as: X[0]"
remedy causes.OutOfRange =
    codes "A value is at most 999999999999999999; a snapshot has 1 to 1000 tries, a repeat 1 to "
    ++ codes "1000000; write has a value for each cell."
remedy causes.Full =
    codes "A text has at most 16 workers, 32 eventcounts, 32 sequencers and 256 cells; a script "
    ++ codes "4096 commands a worker, 65536 turns and 1048576 bytes."
remedy causes.Hidden =
    codes "Use the calls of the group: produce, consume, write, snapshot, p, v and pboth."
remedy causes.TwoUses = codes "A pboth is of two semaphores that differ."
remedy causes.NoRole = codes "Name the worker in the list of the declaration that gives the right."
remedy causes.BadNesting =
    codes "Close a block by end before worker or schedule; a repeat has a command, and at most "
    ++ codes "four stand in one another."
remedy causes.StopsEarly =
    codes "A script needs its line of workers and an end for each block and each repeat; a "
    ++ codes "history of calls the line end."
remedy causes.BadOrder = codes "Write them in that order, one for each eventcount at most."
remedy causes.CallPending =
    codes "Record the line returns of that call before it; each worker is one thread."
remedy causes.NoPendingCall = codes "Record the line calls of the call before it."
remedy causes.Unsuited =
    codes "advance, put, v, p, pboth, write and produce return done, read, ticket, get and "
    ++ codes "consume a number, snapshot a number for each cell."
remedy causes.CallLimit = codes "Raise the limit in the second line of the history."
remedy causes.NoOrder = codes "Look in the program for what these calls do; evc-draw draws them."
remedy causes.NotDecided =
    codes "Record puts of different values, and none of 0; of a buffer different items, and "
    ++ codes "no pending consume."
remedy causes.TurnOfEnded = codes "Remove the turn, or give the worker more commands."
remedy causes.Other = codes "Look into docs/REFERENCE.md, or the manual page evc-trace."
