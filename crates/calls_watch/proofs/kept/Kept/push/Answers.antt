use Rattle.calls_watch.proofs.TextLemmas.{text_pushed}
use Rattle.calls_watch.proofs.kept.Kept.push.Goals as goal

pub returns-in-Text-clause-holds : goal.returns-in-Text-clause-holds
returns-in-Text-clause-holds c =
    text_pushed c.args.self.now c.args.line.now c.in-Text.text c.push_line.new.text
    c.push_line.result c.in-Text.is c.push_line.ensures.pushed c.push_line.ensures.plain
