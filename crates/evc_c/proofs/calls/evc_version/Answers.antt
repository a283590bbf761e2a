use Rattle.std.proofs.Common.{ℕ, ◌++◌, [], ◌∷◌, ◌∙◌, List, ap, codes, lit<, refl, sym}
use Rattle.std.specs.Prelude.{decimal}
use Rattle.std.proofs.lemmas.Fmt.{decimal_digit}
use Rattle.evc_c.proofs.calls.evc_version.Goals as goal

pub returns-clause-returned : goal.returns-clause-returned
returns-clause-returned c = record {
  first = 0;
  second = 2;
  rest = codes "proved and built with rattle-kit-13";
  spelled = sym (
      ap (λ (d : List ℕ). d ++ codes "." ++ decimal 2 ++ codes "\n" ++ codes "proved and built with rattle-kit-13") (decimal_digit 0 (lit< tt))
      ∙ ap (λ (d : List ℕ). (48 ∷ []) ++ codes "." ++ d ++ codes "\n" ++ codes "proved and built with rattle-kit-13") (decimal_digit 2 (lit< tt))
      );
  number = refl;
}
