use Rattle.std.proofs.Common.{Option, refl, reverse, subst, sym}
use Rattle.ec_core.specs.declared.audit.AuditFault.{AuditFault}
use Rattle.ec_core.specs.Scanning.{IsFinding, TrackerModel, IsTrackerModel}
use Rattle.ec_core.proofs.shared.Tracking.{found_first, found_either}
use Rattle.ec_core.proofs.tracker.Tracker.finding.Goals as goal

pub returns-in-None : goal.returns-in-None
returns-in-None c rules keeps h tracked =
    let P : TrackerModel → Type 0 = λ z. IsTrackerModel rules keeps z (reverse h) in
    let Q : Option AuditFault → Type 0 = λ o. IsFinding rules o (reverse h) in
    let inside = subst P (sym c.self.view_is) tracked in
    ((λ e. subst Q c.in-None.is inside.finding, λ f. refl), tt)

pub returns-in-Some : goal.returns-in-Some
returns-in-Some c rules keeps h tracked =
    let P : TrackerModel → Type 0 = λ z. IsTrackerModel rules keeps z (reverse h) in
    let Q : Option AuditFault → Type 0 = λ o. IsFinding rules o (reverse h) in
    let inside = subst P (sym c.self.view_is) tracked in
    let finding = subst Q c.in-Some.is inside.finding in
    ((λ e. cc, λ f. absurd (found_either rules c.in-Some.fault h finding f)), found_first rules c.in-Some.fault h finding)
