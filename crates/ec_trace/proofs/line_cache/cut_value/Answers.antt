use Rattle.std.proofs.Common.{rules, ◌≡◌, ◌-◌, true, take, drop, length, codes}
use Rattle.std.specs.Prelude.{bytes_eq}
use Rattle.ec_trace.proofs.CacheLemmas.{value_so}
use Rattle.ec_trace.proofs.line_cache.cut_value.Goals as goal

pub returns : goal.returns
returns c =
    let prefix = c.args.prefix.now in
    let head = c.in_ok-head.head.now in
    let same : bytes_eq (drop (length prefix - length (codes " =")) prefix) (codes " =") ≡ true = search rules in
    let is : head ≡ take (length prefix - length (codes " =")) prefix = search rules in
    value_so prefix head c.in_ok-space.space c.in_ok-space.value same is c.in_ok-space.ensures.ends
