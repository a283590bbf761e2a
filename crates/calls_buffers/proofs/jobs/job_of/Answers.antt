use Rattle.std.proofs.Common.{◌≡◌, ◌-◌, max, arith, refl, ap, ◌∙◌, subst, map}
use Rattle.calls_buffers.specs.kept.Windows.{in_by}
use Rattle.calls_buffers.specs.kept.Jobs.{late_reach, IsTop}
use Rattle.calls_buffers.proofs.JobsOf.{job_is}
use Rattle.calls_buffers.proofs.jobs.job_of.Goals as goal

pub returns : goal.returns
returns c = λ ws before after room within own inside.
    let end = c.args.end in
    let w = c.args.window.now in
    let a = c.top_before-early.result in
    let b = c.top_before-left.result in
    let late = c.saturating_sub-late.result in
    let at : c.saturating_sub.result ≡ end - in_by w =
    c.saturating_sub.ensures ∙ ap (λ n. end - n) c.in_by-in_by.ensures in
    job_is end ws w within own inside a b late _ (c.top_before-early.ensures _ before)
    (subst (λ n. IsTop (map (late_reach end) ws) n b) at (c.top_before-left.ensures _ after))
    (c.saturating_sub-late.ensures
    ∙ ap (λ n. end - n) (c.max.ensures ∙ ap (max b) c.saturating_sub-2.ensures)) refl
    (c.max-2.ensures ∙ ap (λ n. max n a) c.out_from.ensures)
    (omega (arith, c.saturating_add.ensures, c.in_by-in_by.ensures, inside, room))
    (omega (arith, c.saturating_add-2.ensures, c.saturating_sub-late.ensures, room))
