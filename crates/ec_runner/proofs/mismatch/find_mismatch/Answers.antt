use Rattle.std.proofs.Common.{inl, inr, ap, sym, ◌∙◌}
use Rattle.ec_count.specs.Tables.{Tables}
use Rattle.ec_runner.proofs.Walking.{then_match}
use Rattle.ec_runner.proofs.mismatch.find_mismatch.Goals as goal

pub first_log_mismatch-requires-clause-each : goal.first_log_mismatch-requires-clause-each
first_log_mismatch-requires-clause-each c = c.requires.each ∙ ap (λ (t : Tables). t.workers) (sym (c.are_same.ensures.0 c.if-not-are_same.false) ∙ c.setup.ensures)

pub returns-then-not-are_same : goal.returns-then-not-are_same
returns-then-not-are_same c = inl (
  λ same. (let yes = c.are_same.ensures.1 (c.setup.ensures ∙ same) in let no = c.if-not-are_same.true in cc),
  c.nth_worker.ensures,
)

pub returns-in-Some : goal.returns-in-Some
returns-in-Some c =
    let u = c.in-Some.ensures in
    inr (record { summary = u.summary; at = u.at; not = λ fits. u.not fits.entries })

pub returns-in-None : goal.returns-in-None
returns-in-None c =
    let logs = c.in-None.ensures in
    then_match c.first_not_borne_out.result
    (λ each. record {
      setup = sym c.setup.ensures ∙ c.are_same.ensures.0 c.if-not-are_same.false;
      each = λ w summary is. record { entries = logs w summary is; ended = each w summary is };
    })
    (λ w u. inr (record { summary = u.summary; at = u.at; not = λ fits. u.not fits.ended }))
    c.first_not_borne_out.ensures
