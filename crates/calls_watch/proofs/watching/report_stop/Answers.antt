use Rattle.std.proofs.Common.{sym, subst}
use Rattle.calls_report.specs.declared.status.Status.{Status}
use Rattle.calls_watch.specs.declared.stop.Stop.{Stop}
use Rattle.calls_watch.specs.kept.Watching.{Stops}
use Rattle.calls_watch.specs.kept.Endings.{SaysStop}
use Rattle.calls_watch.proofs.EndLemmas.{unread_says, refused_says, refused_end_says}
use Rattle.calls_watch.proofs.EndLemmas.{open_end_says, too_large_says}
use Rattle.calls_watch.proofs.watching.report_stop.Goals as goal

pub returns-in-Unread-clause-says : goal.returns-in-Unread-clause-says
returns-in-Unread-clause-says g c = λ ps s.
    subst (λ (status : Status). SaysStop ps status c.args.notes.now c.note_unread.new.notes)
    (sym c.note_unread.ensures.status)
    (unread_says ps c.args.watcher.now c.in-Unread.fault c.args.notes.now c.note_unread.new.notes
    (subst (λ (stop : Stop). Stops stop ps c.args.watcher.now) c.in-Unread.is s)
    c.note_unread.ensures.puts)

pub returns-in-Refused-clause-says : goal.returns-in-Refused-clause-says
returns-in-Refused-clause-says g c = λ ps s.
    refused_says ps c.args.watcher.now c.in-Refused.event c.in-Refused.refused c.report_refused.result
    c.args.notes.now c.report_refused.new.notes c.report_refused.ensures.says
    (subst (λ (stop : Stop). Stops stop ps c.args.watcher.now) c.in-Refused.is s)

pub returns-in-RefusedAtEnd-clause-says : goal.returns-in-RefusedAtEnd-clause-says
returns-in-RefusedAtEnd-clause-says g c = λ ps s.
    refused_end_says ps c.args.watcher.now c.report_decided.result c.args.notes.now
    c.report_decided.new.notes c.report_decided.ensures.says
    (subst (λ (stop : Stop). Stops stop ps c.args.watcher.now) c.in-RefusedAtEnd.is s)

pub returns-in-NotDecided-clause-says : goal.returns-in-NotDecided-clause-says
returns-in-NotDecided-clause-says g c = λ ps s.
    open_end_says ps c.args.watcher.now c.report_decided-in-NotDecided.result c.args.notes.now
    c.report_decided-in-NotDecided.new.notes c.report_decided-in-NotDecided.ensures.says
    (subst (λ (stop : Stop). Stops stop ps c.args.watcher.now) c.in-NotDecided.is s)

pub returns-in-TooLarge-clause-says : goal.returns-in-TooLarge-clause-says
returns-in-TooLarge-clause-says g c = λ ps s.
    too_large_says ps c.args.watcher.now c.args.notes.now c.say.new.self c.say.ensures.puts
    (subst (λ (stop : Stop). Stops stop ps c.args.watcher.now) c.in-TooLarge.is s)
