use Rattle.std.proofs.Common.{List, ℕ, [], Option, ap, option_map}
use Rattle.std.specs.Option.{unwrap_or}
use Rattle.std.specs.Borrow.{Bor}
use Rattle.ec_text.specs.Words.{words_of}
use Rattle.ec_heading.specs.Lists.{ids_in}
use Rattle.ec_heading.proofs.shared.Declarable.{no_second}
use Rattle.ec_heading.proofs.kinds.has_two_roles.Goals as goal

pub returns-in-None : goal.returns-in-None
returns-in-None c = no_second _ _ _ (ap (λ (o : Option (Bor (List ℕ))). ids_in c.args.words.now (unwrap_or (option_map (λ s. words_of s.now) o) [])) c.in-None.is)
