use Rattle.std.proofs.Common.{rules}
use Rattle.evc_engine.proofs.text.write_text.Goals as goal

pub returns-clause-ok : goal.returns-clause-ok
returns-clause-ok g c = λ entries represents. let put = c.put_text.ensures entries represents in search (rules, put)

pub returns-clause-err : goal.returns-clause-err
returns-clause-err g c = λ entries represents. let put = c.put_text.ensures entries represents in search (rules, put)
