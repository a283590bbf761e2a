use Rattle.std.proofs.Common.{ℕ, List, [], refl, sym, ◌∙◌, subst}
use Rattle.ec_heading.specs.HeadingModel.{HeadingModel}
use Rattle.calls_monitor.specs.kept.Watching as monitors
use Rattle.calls_watch.specs.Spsc.{AreListed}
use Rattle.calls_watch.proofs.LineLemmas.{opened_same}
use Rattle.calls_watch.proofs.watcher.Watcher.begin.Goals as goal

pub returns : goal.returns
returns c = λ r is. (
  c.in-Ok-open.monitor,
  refl,
  opened_same c.in-Some.recording.now r c.in-Ok-open.monitor (sym (c.in-Some.ensures []) ∙ is)
      (record {
        kinds = c.kinds.result.now;
        are = c.kinds.ensures.objects;
        spsc = c.in-Ok.spsc.items;
        listed = subst (λ (h : HeadingModel). AreListed h c.in-Ok.spsc.items) c.heading.ensures
            c.in-Ok.ensures;
        watches = subst (λ (ks : List ℕ).
            monitors.Watches c.kinds.result.now ks [] c.in-Ok-open.monitor)
            c.deref.ensures.value c.in-Ok-open.ensures;
      }),
  refl,
  refl,
  refl,
  refl,
  (c.needs_text-needed.result, c.keep_if.ensures),
)
