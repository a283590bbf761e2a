use Rattle.ec_draw.proofs.balance.BothStateAudit.take.Goals as goal

pub returns : goal.returns
returns c = λ start past at is represents. (
  c.take.ensures start.state past at is represents.0,
  c.take-2.ensures start.pairs past at is represents.1,
)
