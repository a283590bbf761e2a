use Rattle.calls_report.proofs.checking.judge_freely.Goals as goal

pub returns-in-Ok-clause-judges : goal.returns-in-Ok-clause-judges
returns-in-Ok-clause-judges g c = c.in-Ok.ensures.last _ _ _ c.judge_last.ensures.judges
