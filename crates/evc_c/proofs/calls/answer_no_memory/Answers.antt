use Rattle.evc_c.proofs.Grown.{no_memory_answers}
use Rattle.evc_c.proofs.calls.answer_no_memory.Goals as goal

pub returns-clause-answers : goal.returns-clause-answers
returns-clause-answers c = λ calls. no_memory_answers calls _ _ _ c.code.ensures c.copy_prefix-written.ensures.prefix
