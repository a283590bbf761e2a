use Rattle.std.proofs.Common.{◌<◌, map, subst, sym}
use Rattle.calls_core.proofs.Lists.{all_from_each}
use Rattle.calls_buffers.specs.declared.windows.Window.{Window}
use Rattle.calls_buffers.specs.kept.Windows.{in_by, IsWithin}
use Rattle.calls_buffers.specs.kept.Jobs.{early_reach, late_reach, Climbs}
use Rattle.calls_buffers.proofs.JobsOf.{jobs_step}
use Rattle.calls_buffers.proofs.jobs.jobs_of.Goals as goal

pub loop-window-preserved : goal.loop-window-preserved
loop-window-preserved c = λ room within inside.
    let l = c.loop-window in
    let end = c.args.end in
    let ws = c.args.windows.now in
    let before : Climbs (map early_reach ws) c.deref.result.now =
    subst (Climbs (map early_reach ws)) (sym c.deref.ensures.value)
    (subst (λ zs. Climbs zs c.in_ok-before.before.items) c.in_ok-early_reaches.ensures
    c.in_ok-before.ensures) in
    let after : Climbs (map (late_reach end) ws) c.deref-in-loop-window.result.now =
    subst (Climbs (map (late_reach end) ws)) (sym c.deref-in-loop-window.ensures.value)
    (subst (λ zs. Climbs zs c.in_ok-after.after.items) c.in_ok-late_reaches.ensures
    c.in_ok-after.ensures) in
    jobs_step ws l.window-index _ l.jobs.items _ c.job_of.result c.loop-window-test.true
    (l.invariant room within inside)
    (c.job_of.ensures ws before after room within
    (all_from_each (IsWithin end) ws within l.window-index _ c.loop-window-test.true)
    (all_from_each (λ (w : Window). in_by w < end) ws inside l.window-index _
    c.loop-window-test.true)) c.in_ok-push.ensures.items
