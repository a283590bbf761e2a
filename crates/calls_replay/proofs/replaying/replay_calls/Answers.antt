use Rattle.std.proofs.Common.{List, ℕ, subst, IfSome}
use Rattle.ec_text.specs.Inputs.{IsInput}
use Rattle.ec_text.specs.declared.input.Input.{Input}
use Rattle.calls_report.specs.declared.checking.TheConstants.{TEXT_MAX}
use Rattle.calls_replay.specs.kept.Ends.{ReplaysWhole}
use Rattle.calls_replay.proofs.Ends.{text_known}
use Rattle.calls_replay.proofs.replaying.replay_calls.Goals as goal

pub returns-in-Ok-Whole-clause-ends : goal.returns-in-Ok-Whole-clause-ends
returns-in-Ok-Whole-clause-ends g c =
    text_known (g.R.Read.remaining c.args.reader.now) (g.R.Read.remaining c.read_up_to.new.reader)
    c.in-Ok-Whole.text.items c.replay_whole.result
    (record { out = g.W.Write.contents c.args.out.now; notes = c.args.notes.now })
    (record { out = g.W.Write.contents c.replay_whole.new.out; notes = c.replay_whole.new.notes })
    (subst (λ (i : Input). IfSome (g.R.Read.remaining c.args.reader.now) (λ bytes.
    IsInput TEXT_MAX bytes (g.R.Read.remaining c.read_up_to.new.reader) i))
    c.in-Ok-Whole.field-0-is c.in-Ok-Whole.ensures)
    (subst (λ (text : List ℕ). ReplaysWhole c.replay_whole.result text
    (record { out = g.W.Write.contents c.args.out.now; notes = c.args.notes.now })
    (record { out = g.W.Write.contents c.replay_whole.new.out; notes = c.replay_whole.new.notes }))
    c.as_slice.ensures.value c.replay_whole.ensures.ends)
