use Rattle.calls_report.proofs.checking.judge_all.Goals as goal

pub returns-clause-judges : goal.returns-clause-judges
returns-clause-judges g c = c.in-Ok.ensures.last _ _ _ c.judge_last-status.ensures.judges
