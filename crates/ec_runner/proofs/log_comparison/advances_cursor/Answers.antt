use Rattle.std.proofs.Common.{◌≡◌, ◌≢◌, ◌<◌, ℕ, ◌∷◌, ◌++◌, [], Some, length, slice_get, slice_set, slice_index, sym, ◌∙◌, ap, subst, ◌+◌}
use Rattle.ec_runner.specs.kept.LogComparison.{AreComparedSoFar}
use Rattle.ec_runner.proofs.Walking.{index_is, walks, unlike}
use Rattle.ec_runner.proofs.log_comparison.advances_cursor.Goals as goal

pub returns-then-not-is_entry_at-clause-no : goal.returns-then-not-is_entry_at-clause-no
returns-then-not-is_entry_at-clause-no c = λ done rest walked no.
    (let summary = c.index-summaries-w.result in
    let summaries = c.args.summaries.now in
    let cursors = c.args.cursors.now in
    let x = c.args.entry.now in
    let w = c.get-w.result in
    let is : w ≡ x.worker = c.get-w.ensures.value in
    let within : w < length summaries =
    subst (λ (v : ℕ). v < length summaries) (sym is) c.requires in
    let there : slice_get summaries x.worker ≡ Some summary = ap (slice_get summaries) (sym is) ∙ index_is summaries w summary c.index-summaries-w.is within in
    let not : slice_get summary.log.items (slice_index cursors x.worker) ≢ Some x =
    λ e.
    (let yes = c.is_entry_at.ensures.value.1
    (ap (λ xs. slice_get xs (slice_index cursors w)) c.as_slice.ensures.value ∙ ap (λ v. slice_get summary.log.items (slice_index cursors v)) is ∙ e) in
    let false_is = c.if-not-is_entry_at.true in
    cc) in
    unlike summaries cursors done rest x summary walked there not)

pub returns-clause-yes : goal.returns-clause-yes
returns-clause-yes c = λ done walked yes.
    (let summary = c.index-summaries-w.result in
    let summaries = c.args.summaries.now in
    let cursors = c.args.cursors.now in
    let x = c.args.entry.now in
    let w = c.get-w.result in
    let is : w ≡ x.worker = c.get-w.ensures.value in
    let within : w < length summaries =
    subst (λ (v : ℕ). v < length summaries) (sym is) c.requires in
    let next : slice_get summary.log.items (slice_index cursors w) ≡ Some x =
    ap (λ xs. slice_get xs (slice_index cursors w)) (sym c.as_slice.ensures.value) ∙ c.is_entry_at.ensures.value.0 c.if-not-is_entry_at.false in
    subst (λ (v : ℕ). AreComparedSoFar summaries (slice_set cursors v (slice_index cursors v + 1)) (done ++ x ∷ [])) (sym is)
    (walks summaries cursors done x summary walked (subst (λ (v : ℕ). v < 16) is c.get-w.ensures.small)
    (ap (slice_get summaries) (sym is) ∙ index_is summaries w summary c.index-summaries-w.is within)
    (ap (λ v. slice_get summary.log.items (slice_index cursors v)) (sym is) ∙ next)))
