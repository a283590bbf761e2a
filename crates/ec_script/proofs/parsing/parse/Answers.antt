use Rattle.std.proofs.Common.{sym, subst, arith}
use Rattle.ec_script.specs.Outcome.{Returns}
use Rattle.ec_script.proofs.shared.Texts.{within_goes}
use Rattle.ec_script.proofs.shared.Keeping.{told_plan, told_commands, told_version}
use Rattle.ec_script.proofs.parsing.parse.Goals as goal

pub returns-clause-plan : goal.returns-clause-plan
returns-clause-plan c =
    told_plan c.args.text.now c.parse_lines.result (subst (λ o. Returns o c.parse_lines.result) (sym (within_goes c.args.text.now (omega (arith, c.if-text-gt-SCRIPT_MAX.false)))) c.parse_lines.ensures)

pub returns-clause-commands : goal.returns-clause-commands
returns-clause-commands c =
    told_commands c.args.text.now c.parse_lines.result (subst (λ o. Returns o c.parse_lines.result) (sym (within_goes c.args.text.now (omega (arith, c.if-text-gt-SCRIPT_MAX.false)))) c.parse_lines.ensures)

pub returns-clause-version : goal.returns-clause-version
returns-clause-version c =
    told_version c.args.text.now c.parse_lines.result (subst (λ o. Returns o c.parse_lines.result) (sym (within_goes c.args.text.now (omega (arith, c.if-text-gt-SCRIPT_MAX.false)))) c.parse_lines.ensures)
