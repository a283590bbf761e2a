-- The audits of groups in one pass over the entries.
use Rattle.std.proofs.Common.{sym, ◌≡◌, ℕ, List, [], ◌∷◌, length, refl, ap, ◌∙◌, subst}
use Rattle.ec_count.specs.Tables.{Tables}
use Rattle.ec_core.specs.declared.act.Act.{Act}
use Rattle.ec_core.specs.declared.act.Entry.{Entry}
use Rattle.ec_core.specs.Calls.{under_way}
use Rattle.ec_core.specs.Following.{opening_act}
use Rattle.ec_buffer.specs.Auditing.{DeliveryAuditModel, DeliversOn}
use Rattle.ec_database.specs.Auditing.{VersionAuditModel, VersionsOn}
use Rattle.ec_semaphore.specs.Auditing.{BalanceAuditModel, BalancesOn}
use Rattle.ec_semaphore.specs.Shapes.{Semaphore}
use Rattle.ec_heading.specs.declared.group.Group.{Group}
use Rattle.ec_heading.specs.declared.group.Group.TheVariants as groups
use Rattle.ec_walk.specs.Walks.{AreIndependent}
use Rattle.evc_engine.specs.declared.walked.Auditing.{Auditing}
use Rattle.evc_engine.specs.declared.walked.Auditing.TheVariants as audits
use Rattle.evc_engine.specs.declared.walked.BothAudit.{BothAudit}
use Rattle.evc_engine.specs.kept.Walks.{AuditRepresents, EachRepresents, group_of, BothOn, AuditsOn}

-- ONE ENTRY

module _ (place : ℕ) (op : Act) (x : Entry) where
  -- an audit has processed an entry
  abbrev Takes : {A : Type 0} → (A → A → List Entry → Type 0) → A → A → Type 0
  Takes {A} represents old new = (start : A) (past : List Entry) → place ≡ length past → op ≡ opening_act x.act (under_way x.worker past) → represents start old past → represents start new (x ∷ past)

  pub takes_deliveries : (a b : DeliveryAuditModel) → Takes DeliversOn a b → Takes AuditsOn (audits.Deliveries a) (audits.Deliveries b)
  takes_deliveries a b take (audits.Deliveries s) past at is represents =
      take s past at is represents
  takes_deliveries a b take start past at is represents = absurd represents

  pub takes_versions : (a b : VersionAuditModel) → Takes VersionsOn a b → Takes AuditsOn (audits.Versions a) (audits.Versions b)
  takes_versions a b take (audits.Versions s) past at is represents = take s past at is represents
  takes_versions a b take start past at is represents = absurd represents

  pub takes_balance : (a b : BalanceAuditModel) → Takes BalancesOn a b → Takes AuditsOn (audits.Balance a) (audits.Balance b)
  takes_balance a b take (audits.Balance s) past at is represents = take s past at is represents
  takes_balance a b take start past at is represents = absurd represents

  pub takes_both : (a b : BothAudit) → Takes BothOn a b → Takes AuditsOn (audits.Both a) (audits.Both b)
  takes_both a b take (audits.Both s) past at is represents = take s past at is represents
  takes_both a b take start past at is represents = absurd represents

-- THE WHOLE PASS

-- before the first entry
stands_first : (t : Tables) (all : List Semaphore) (g : Group) (a : Auditing) → AuditRepresents t all g a [] → (group_of a ≡ g) × AuditsOn a a []
stands_first t all (groups.Buffer b) (audits.Deliveries a) represents = (ap groups.Buffer represents.0, (refl, refl, represents.2))
stands_first t all (groups.Database d) (audits.Versions a) represents = (ap groups.Database represents.0, (refl, refl, represents.2))
stands_first t all (groups.Semaphore s) (audits.Balance a) represents = (ap groups.Semaphore represents.0, (refl, represents.1))
stands_first t all (groups.Both c) (audits.Both a) represents = (ap groups.Both represents.2, ((refl, represents.1), (refl, refl, represents.4), represents.5 ∙ sym represents.0))
stands_first t all g a represents = absurd represents

pub walk_begins : (t : Tables) (all : List Semaphore) (gs : List Group) (list : List Auditing) → EachRepresents t all gs list [] → AreIndependent group_of AuditsOn gs list list []
walk_begins t all gs list each = λ i g at. (let here = each i g at in let first = stands_first t all g here.0 here.2 in (here.0, here.0, here.1, here.1, first.0, first.1))

-- after the last entry
stands_last : (t : Tables) (all : List Semaphore) (g : Group) (a b : Auditing) (past : List Entry) → AuditRepresents t all g a [] → AuditsOn a b past → AuditRepresents t all g b past
stands_last t all (groups.Buffer s) (audits.Deliveries a) (audits.Deliveries b) past represents on = (on.0 ∙ represents.0, on.1 ∙ represents.1, on.2)
stands_last t all (groups.Database d) (audits.Versions a) (audits.Versions b) past represents on = (on.0 ∙ represents.0, on.1 ∙ represents.1, on.2)
stands_last t all (groups.Semaphore s) (audits.Balance a) (audits.Balance b) past represents on = (on.0 ∙ represents.0, on.1)
stands_last t all (groups.Both c) (audits.Both a) (audits.Both b) past represents on =
    (on.0.0 ∙ represents.0, on.0.1, on.1.0 ∙ represents.2, on.1.1 ∙ represents.3, on.1.2, on.2 ∙ on.0.0 ∙ represents.0)
stands_last t all (groups.Buffer s) (audits.Deliveries a) b past represents on = absurd on
stands_last t all (groups.Database d) (audits.Versions a) b past represents on = absurd on
stands_last t all (groups.Semaphore s) (audits.Balance a) b past represents on = absurd on
stands_last t all (groups.Both c) (audits.Both a) b past represents on = absurd on
stands_last t all g a b past represents on = absurd represents

pub walk_ends : (t : Tables) (all : List Semaphore) (gs : List Group) (starts list : List Auditing) (past : List Entry)
    → EachRepresents t all gs starts [] → AreIndependent group_of AuditsOn gs starts list past → EachRepresents t all gs list past
walk_ends t all gs starts list past each walked = λ i g at.
    (let was = each i g at in
    let now = walked i g at in
    let same : now.0 ≡ was.0 = (let one = now.2 in let two = was.1 in cc) in
    (now.1, now.3, stands_last t all g was.0 now.1 past was.2 (subst (λ a. AuditsOn a now.1 past) same now.5)))
