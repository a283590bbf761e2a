use Rattle.calls_report.proofs.refusal.Site.put_raised.Goals as goal

pub returns : goal.returns
returns g c = c.put_many.ensures
