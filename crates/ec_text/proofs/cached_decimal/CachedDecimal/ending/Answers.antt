use Rattle.std.proofs.Common.{◌+◌, ◌<◌, ◌/◌, ◌%◌, ◌≡◌, length, decimal, sym, ap, subst, ◌∙◌, arith}
use Rattle.ec_text.proofs.shared.DecimalLemmas.{last_changed, some_digit}
use Rattle.ec_text.proofs.cached_decimal.CachedDecimal.ending.Goals as goal

pub returns-clause-some : goal.returns-clause-some
returns-clause-some c =
    let d = c.self.inside in
    subst (λ ds. 0 < length ds) (sym c.self.invariant.3) (some_digit d.tens (omega (arith, c.self.invariant.2)))

pub returns-clause-digits : goal.returns-clause-digits
returns-clause-digits c =
    let d = c.self.inside in
    let i = c.self.invariant in
    let n = d.tens + d.last in
    let same : n / 10 ≡ d.tens / 10 = omega (arith, i.0, i.1) in
    let last : 48 + d.last ≡ 48 + n % 10 = omega (arith, i.0, i.1) in
    last_changed d.tens n (48 + d.last) d.digits (omega (arith, i.2)) i.2 i.3 same last ∙ ap decimal c.self.view_is
