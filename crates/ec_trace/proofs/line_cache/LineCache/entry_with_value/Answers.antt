use Rattle.std.proofs.Common.{rules, ◌≡◌, ◌∙◌, true, Some, sym, ap}
use Rattle.ec_core.specs.declared.act.Act.{Act}
use Rattle.ec_core.specs.declared.act.Entry.{Entry}
use Rattle.ec_trace.specs.kept.LineCache.{has_value}
use Rattle.ec_trace.proofs.CacheLemmas.{opened}
use Rattle.ec_trace.proofs.line_cache.LineCache.entry_with_value.Goals as goal

pub returns : goal.returns
returns c names line prefix kept ends has =
    let valued : has_value c.in_ok-known.known.now.act ≡ true = search rules in
    opened names line _ _ _ _ _ _ ends has (c.in_ok-known.ensures names kept) valued
    ∙ ap (λ (a : Act). let e : Entry = record { worker = c.in_ok-known.known.now.worker; act = a; reply = c.args.reply } in Some e) (sym c.with_value.ensures)
