use Rattle.std.proofs.Common.{rules, ◌≡◌, false}
use Rattle.ec_trace.specs.kept.LineCache.{has_value}
use Rattle.ec_trace.proofs.CacheLemmas.{entry_of_cached}
use Rattle.ec_trace.proofs.line_cache.LineCache.entry_with_reply.Goals as goal

pub returns : goal.returns
returns c names line kept ends =
    let plain : has_value c.in_ok-known.known.now.act ≡ false = search rules in
    entry_of_cached names line _ _ _ _ ends (c.in_ok-known.ensures names kept) plain
