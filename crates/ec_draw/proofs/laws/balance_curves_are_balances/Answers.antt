use Rattle.ec_draw.proofs.Telling.{curves_are_lefts, lefts_are_balances}
use Rattle.ec_draw.proofs.laws.balance_curves_are_balances.Goals as goal

pub returns-clause-curve : goal.returns-clause-curve
returns-clause-curve c = curves_are_lefts

pub returns-clause-balance : goal.returns-clause-balance
returns-clause-balance c = lefts_are_balances
