use Rattle.ec_text.proofs.shared.WordLemmas.{front_none}
use Rattle.ec_text.proofs.words.first_word_length.Goals as goal

pub returns-then-line-ge16-clause-none : goal.returns-then-line-ge16-clause-none
returns-then-line-ge16-clause-none c = front_none c.args.line.now 16 c.first_word_length_of.result c.first_word_length_of.ensures

pub returns-then-line-ge8-clause-none : goal.returns-then-line-ge8-clause-none
returns-then-line-ge8-clause-none c = front_none c.args.line.now 8 c.first_word_length_of-then-line-ge8.result c.first_word_length_of-then-line-ge8.ensures
