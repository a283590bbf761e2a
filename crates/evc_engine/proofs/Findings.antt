-- What the audits of groups find after all entries of a history.
use Rattle.std.proofs.Common.{◌≡◌, ℕ, ◌+◌, ◌<◌, ◌^◌, [], List, length, Some, slice_get, reverse, sym, subst, refl, ap, ap₂, ◌∙◌, arith, inl, inr}
use Rattle.std.proofs.lemmas.Option.{slice_get_cases, slice_get_within, get_or_from_slice_get}
use Rattle.ec_count.specs.Tables.{Tables, IsDeclared}
use Rattle.ec_core.specs.Acceptance.{IsAccepted}
use Rattle.ec_core.specs.Counts.{total}
use Rattle.ec_core.specs.Ending.{EndsAt}
use Rattle.ec_core.specs.Standing.{State, StandsFor as StandsAfter}
use Rattle.ec_core.specs.declared.act.Entry.{Entry}
use Rattle.ec_buffer.specs.Auditing.{DeliveryAuditModel, RepresentsDeliveries}
use Rattle.ec_buffer.specs.Shapes.{Buffer}
use Rattle.ec_database.specs.Auditing.{VersionAuditModel, RepresentsVersions}
use Rattle.ec_database.specs.Shapes.{Database}
use Rattle.ec_semaphore.specs.Auditing.{BalanceAuditModel, RepresentsBalance, RepresentsPairs}
use Rattle.ec_semaphore.specs.Balances.{balance_parts}
use Rattle.ec_semaphore.specs.Shapes.{Semaphore}
use Rattle.ec_semaphore.specs.declared.parts.Balance.{Balance}
use Rattle.ec_semaphore.proofs.shared.Smallness.{total_small}
use Rattle.ec_heading.specs.HeadingModel.{HeadingModel}
use Rattle.ec_heading.specs.Rules.{semaphores_of}
use Rattle.ec_heading.specs.declared.group.Group.{Group}
use Rattle.ec_heading.specs.declared.group.Group.TheVariants as groups
use Rattle.std.specs.List.{All}
use Rattle.ec_heading.specs.Groups.{FitsGroup}
use Rattle.evc_engine.specs.kept.Walks.{EndsFor, EachRepresents, EachEndsFor, group_of, AuditsOn}
use Rattle.evc_engine.proofs.WalkLemmas.{walk_ends}
use Rattle.ec_walk.specs.Walks.{AreIndependent, GroupAuditsModel, WalksOn}
use Rattle.evc_engine.specs.declared.walked.Auditing.{Auditing}
use Rattle.evc_engine.specs.declared.walked.Auditing.TheVariants as audits
use Rattle.evc_engine.specs.declared.walked.BothAudit.{BothAudit}

module _ (h : HeadingModel) (entries : List Entry) where
  -- what holds of an audit's own declarations holds of those of the header
  ends_at : (t : Tables) (P : List Entry → Type 0) → t ≡ h.setup → IsDeclared h.setup → IsAccepted h.setup (reverse entries) → P (reverse entries) → EndsAt t P entries
  ends_at t P same declared accepted represents = record {
    declared = subst IsDeclared (sym same) declared;
    accepted = subst (λ (u : Tables). IsAccepted u (reverse entries)) (sym same) accepted;
    represents = represents;
  }

  -- of a buffer
  pub of_buffer : (g : Group) (a : DeliveryAuditModel) (P : Tables → Buffer → Type 0) → EndsFor h entries g (audits.Deliveries a) → (EndsAt a.setup (RepresentsDeliveries a) entries → P a.setup a.shape)
      → (b : Buffer) × (g ≡ groups.Buffer b) × P h.setup b
  of_buffer (groups.Buffer b) a P e so =
      (b, refl, subst (λ t. P t b) e.represents.1 (subst (λ s. P a.setup s) e.represents.0 (so (ends_at a.setup (RepresentsDeliveries a) e.represents.1 e.declared e.accepted e.represents.2))))
  of_buffer g a P e so = absurd e.represents

  -- of a database
  pub of_database : (g : Group) (a : VersionAuditModel) (P : Tables → Database → Type 0) → EndsFor h entries g (audits.Versions a) → (EndsAt a.setup (RepresentsVersions a) entries → P a.setup a.shape)
      → (d : Database) × (g ≡ groups.Database d) × P h.setup d
  of_database (groups.Database d) a P e so =
      (d, refl, subst (λ t. P t d) e.represents.1 (subst (λ s. P a.setup s) e.represents.0 (so (ends_at a.setup (RepresentsVersions a) e.represents.1 e.declared e.accepted e.represents.2))))
  of_database g a P e so = absurd e.represents

  -- of a semaphore
  pub of_semaphore : (g : Group) (a : BalanceAuditModel) (P : Semaphore → Type 0) → EndsFor h entries g (audits.Balance a) → (EndsAt h.setup (RepresentsBalance a) entries → P a.shape)
      → (s : Semaphore) × (g ≡ groups.Semaphore s) × P s
  of_semaphore (groups.Semaphore s) a P e so =
      (s, refl, subst P e.represents.0 (so (ends_at h.setup (RepresentsBalance a) refl e.declared e.accepted e.represents.1)))
  of_semaphore g a P e so = absurd e.represents

  -- of `both`
  pub of_both : (g : Group) (a : BothAudit) (P : Semaphore → List Semaphore → Semaphore → Type 0) → EndsFor h entries g (audits.Both a)
      → (EndsAt h.setup (RepresentsBalance a.balance) entries → EndsAt h.setup (RepresentsPairs a.pairs) entries → P a.pairs.common a.pairs.shapes a.balance.shape)
      → (c : Semaphore) × (g ≡ groups.Both c) × P c (semaphores_of h.groups) c
  of_both (groups.Both c) a P e so = (
    c,
    refl,
    subst (λ s. P c (semaphores_of h.groups) s) e.represents.0 (subst (λ all. P c all a.balance.shape) e.represents.3 (subst (λ s. P s a.pairs.shapes a.balance.shape) e.represents.2
        (so (ends_at h.setup (RepresentsBalance a.balance) refl e.declared e.accepted e.represents.1) (ends_at h.setup (RepresentsPairs a.pairs) refl e.declared e.accepted e.represents.4)))),
  )
  of_both g a P e so = absurd e.represents

-- what the audit of the common semaphore of `both` has counted
pub record CountsBoth (a : BothAudit) (entries : List Entry) : Type 0 where
  pub parts : record { initial = a.balance.shape.initial; downs = a.balance.downs; ups = a.balance.ups } ≡ balance_parts a.balance.shape (reverse entries)
  pub small : a.balance.shape.initial + a.balance.ups < 2 ^ 64

pub counts_both : (h : HeadingModel) (entries : List Entry) (g : Group) (a : BothAudit) → EndsFor h entries g (audits.Both a) → CountsBoth a entries
counts_both h entries (groups.Both c) a e =
    let counted = e.represents.1 in
    let one : a.balance.shape.initial ≡ 1 = ap (λ (s : Semaphore). s.initial) e.represents.0 ∙ e.fits.1 in
    let few : total a.balance.shape.count (reverse entries) < 2 ^ 53 = total_small h.setup a.balance.shape.count (reverse entries) e.declared e.accepted in
    record {
      parts = ap₂ (λ d u. let b : Balance = record { initial = a.balance.shape.initial; downs = d; ups = u } in b) counted.downs counted.ups;
      small = omega (arith, one, counted.ups, few);
    }
counts_both h entries g a e = absurd e.represents

-- there is a group with each number below the number of groups
pub group_at : (gs : List Group) (n : ℕ) → n < length gs → (g : Group) × (slice_get gs n ≡ Some g)
group_at gs n low = elim (slice_get_cases gs n).1 [
  | inl p ↦ (p.0, p.2)
  | inr past ↦ absurd (omega arith)
]

-- THE WHOLE PASS

-- each group of a header has its audit after an accepted history
pub each_ends : (h : HeadingModel) (entries : List Entry) (list : List Auditing) → IsDeclared h.setup → IsAccepted h.setup (reverse entries) → All (FitsGroup h.setup) h.groups
    → EachRepresents h.setup (semaphores_of h.groups) h.groups list (reverse entries) → EachEndsFor h entries list
each_ends h entries list declared accepted fits each = λ i g at.
    (let own = each i g at in
    (own.0, own.1, record { declared = declared; accepted = accepted; fits = subst (FitsGroup h.setup) (get_or_from_slice_get h.groups i g g at) (fits i g (slice_get_within h.groups i g at)); represents = own.2 }))

-- the audits of a header's groups, to each of which the entries were passed whose calls are on its
-- group
pub walk_finds : (h : HeadingModel) (entries : List Entry) (all : List Semaphore) (starts : List Auditing) (first now : GroupAuditsModel Auditing) (world : State)
    → StandsAfter world entries → world.setup ≡ h.setup → WalksOn group_of AuditsOn first now (reverse entries) → first.groups ≡ h.groups → first.audits ≡ starts → all ≡ semaphores_of h.groups
    → EachRepresents h.setup all h.groups starts [] → All (FitsGroup h.setup) h.groups → EachEndsFor h entries now.audits
walk_finds h entries all starts first now world represents same walks groups audits every each fits =
    (let walked : AreIndependent group_of AuditsOn h.groups starts now.audits (reverse entries) =
    subst (λ l. AreIndependent group_of AuditsOn h.groups l now.audits (reverse entries)) audits (subst (λ gs. AreIndependent group_of AuditsOn gs first.audits now.audits (reverse entries)) groups walks.1) in
    each_ends h entries now.audits (subst IsDeclared same represents.declared) (subst (λ (t : Tables). IsAccepted t (reverse entries)) same represents.accepted) fits
    (subst (λ l. EachRepresents h.setup l h.groups now.audits (reverse entries)) every (walk_ends h.setup all h.groups starts now.audits (reverse entries) each walked)))
