use Rattle.std.proofs.Common.{rules, ◌≡◌, true}
use Rattle.ec_trace.specs.kept.LineCache.{has_value}
use Rattle.ec_trace.proofs.CacheLemmas.{opens}
use Rattle.ec_trace.proofs.line_cache.LineCache.store_part.Goals as goal

pub returns : goal.returns
returns c names line kept has h =
    let valued : has_value c.args.entry.now.act ≡ true = search rules in
    c.store-2.ensures names kept (opens names line _ _ _ _ has c.in-Some.ensures h valued)
