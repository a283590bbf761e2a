-- One pass over the entries of a run, for the audits of all groups.
use Rattle.std.specs.Prelude.{◌≡◌, ◌⊎◌, ℕ, ◌+◌, ◌-◌, ◌<◌, ◌≤◌, nat_lt, if◌then◌else◌, Bool, true, false, ◌||◌, ◌&&◌, not, List, [], ◌∷◌, length, Some, slice_get}
use Rattle.std.specs.Option.{option_map_or}
use Rattle.ec_core.specs.declared.act.Act.{Act}
use Rattle.ec_core.specs.declared.act.Act.TheVariants.{Read, Ticket, Get}
use Rattle.ec_core.specs.declared.act.Entry.{Entry}
use Rattle.ec_core.specs.Calls.{under_way, is_intermediate}
use Rattle.ec_core.specs.Following.{opening_act}
use Rattle.ec_buffer.specs.Follows as buffers
use Rattle.ec_database.specs.Following as databases
use Rattle.ec_semaphore.specs.Uses as semaphores
use Rattle.ec_heading.specs.declared.group.Group.{Group}
use Rattle.ec_heading.specs.declared.group.Group.TheVariants as groups
use Rattle.ec_walk.specs.declared.group_table.Span.{Span}
use Rattle.ec_walk.specs.declared.group_table.GroupTable.{GroupTable}

-- WHICH GROUPS

-- whether an act names an object of a group; `both` has those of its common semaphore
abbrev pub names : Group → Act → Bool
names (groups.Buffer b) act = buffers.is_on b act
names (groups.Database d) act = databases.is_on d act
names (groups.Semaphore s) act = semaphores.is_on s act
names (groups.Both s) act = semaphores.is_on s act

-- whether a group is wide: about each call of its users, whatever it names. Within a critical
-- section of `both` a worker makes no other call
abbrev pub sees_every_call : Group → Bool
sees_every_call (groups.Buffer b) = false
sees_every_call (groups.Database d) = false
sees_every_call (groups.Semaphore s) = false
sees_every_call (groups.Both s) = true

-- whether a call that an act begins is on a group
abbrev pub is_on : Group → Act → Bool
is_on g act = sees_every_call g || names g act

-- whether there is a group with this number, and it passes a test
abbrev pub passes_at : List Group → (Group → Bool) → ℕ → Bool
passes_at gs test i = option_map_or test (slice_get gs i) false

-- whether a call that an act begins is on it
abbrev pub is_on_at : List Group → Act → ℕ → Bool
is_on_at gs act i = passes_at gs (λ g. is_on g act) i

-- whether it is selected: whether it is wide, if the flag is true; otherwise whether it is another
-- of which the act names an object
abbrev pub is_asked_at : List Group → Bool → Act → ℕ → Bool
is_asked_at gs true act i = passes_at gs sees_every_call i
is_asked_at gs false act i = passes_at gs (λ g. not (sees_every_call g) && names g act) i

-- THE TABLE

-- the least span of those of the first n groups that pass a test: if it is not empty, the groups at
-- its two ends pass it
pub record CoversFirst (gs : List Group) (test : Group → Bool) (span : Span) (n : ℕ) : Type 0 where
  pub among : (i : ℕ) → i < n → (g : Group) → slice_get gs i ≡ Some g → test g ≡ true
      → (span.first ≤ i) × (i < span.end)
  pub within : span.end ≤ n
  pub lowest : span.first < span.end → passes_at gs test span.first ≡ true
  pub highest : (i : ℕ) → span.end ≡ i + 1 → passes_at gs test i ≡ true

-- the least span of the groups that pass a test
abbrev pub Covers : List Group → (Group → Bool) → Span → Type 0
Covers gs test span = CoversFirst gs test span (length gs)

-- the least span of the groups of which an act names an object
abbrev pub CoversAct : List Group → Act → Span → Type 0
CoversAct gs act span = Covers gs (λ g. names g act) span

-- the span at a position of a table is such a span
abbrev pub CoversAt : List Group → Act → List Span → ℕ → Type 0
CoversAt gs act spans place = (span : Span) → slice_get spans place ≡ Some span → CoversAct gs act span

-- an act on the object with this number: eventcounts first, then sequencers, then cells
abbrev pub act_on : ℕ → Act
act_on n = if nat_lt n 32 then Read n else if nat_lt n 64 then Ticket (n - 32) else Get (n - 64)

-- the least span of the groups of each object, and that of the wide groups
pub record IsTable (gs : List Group) (table : GroupTable) : Type 0 where
  pub objects : (n : ℕ) → n < 320 → CoversAt gs (act_on n) table.objects n
  pub wide : Covers gs sees_every_call table.wide

-- THE AUDITS. `represents start now past` says that an audit is now after the reversed history
-- past, if it was start before, as `Audit` of ec_core has it. `group start` is the group that it
-- audits

-- an audit has processed an entry, given the entry's position and the act that began its call
abbrev pub Dispatches : {A : Type 0} → (A → A → List Entry → Type 0) → ℕ → Act → Entry → A → A
    → Type 0
Dispatches {A} represents place op x old new =
    (start : A) (past : List Entry) → place ≡ length past
    → op ≡ opening_act x.act (under_way x.worker past) → represents start old past → represents start new (x ∷ past)

-- of a list of audits, those with the numbers that are picked have processed an entry; the others
-- are as before, and none is added or removed
abbrev pub DispatchesWhere : {A : Type 0} → (A → A → List Entry → Type 0) → (ℕ → Type 0) → ℕ → Act → Entry
    → List A → List A → Type 0
DispatchesWhere {A} represents IsPicked place op x old new = (length new ≡ length old)
    × ((i : ℕ) (a : A) → slice_get old i ≡ Some a → (b : A) × (slice_get new i ≡ Some b)
    × ((IsPicked i × Dispatches represents place op x a b) ⊎ ((IsPicked i → ⊥) × (b ≡ a))))

-- only the audit with this number has processed it
abbrev pub DispatchesTo : {A : Type 0} → (A → A → List Entry → Type 0) → ℕ → ℕ → Act → Entry
    → List A
    → List A → Type 0
DispatchesTo represents number = DispatchesWhere represents (λ i. i ≡ number)

-- exactly the audits of the selected groups from `first` on, before `end`, have processed it
abbrev pub DispatchesAmong : {A : Type 0} → (A → A → List Entry → Type 0) → List Group → Bool → ℕ
    → ℕ → ℕ
    → Act → Entry → List A → List A → Type 0
DispatchesAmong represents gs wide first end place op x old new =
    DispatchesWhere represents (λ i. (first ≤ i) × (i < end) × (is_asked_at gs wide op i ≡ true)) place op x old new

-- exactly the audits of the groups that a call is on have processed it
abbrev pub DispatchesOn : {A : Type 0} → (A → A → List Entry → Type 0) → List Group → ℕ → Act
    → Entry
    → List A → List A → Type 0
DispatchesOn represents gs place op x old new =
    DispatchesWhere represents (λ i. is_on_at gs op i ≡ true) place op x old new

-- whether an entry after past is passed to the audit of the group with this number: it ends its
-- call or is not a go, and the call is on the group
abbrev pub goes_to : List Group → ℕ → Entry → List Entry → Bool
goes_to gs i x past =
    not (is_intermediate x) && is_on_at gs (opening_act x.act (under_way x.worker past)) i

-- an audit, which was start, is now after it was passed exactly the entries of past that are picked
abbrev pub IsDispatched : {A : Type 0} → (A → A → List Entry → Type 0) → (Entry → List Entry → Bool)
    → A
    → A → List Entry → Type 0
IsDispatched represents picks start now [] = now ≡ start
IsDispatched {A} represents picks start now (x ∷ past) = (before : A) × IsDispatched represents picks start before past
    × (((picks x past ≡ true) × Dispatches represents (length past) (opening_act x.act (under_way x.worker past)) x before now)
    ⊎ ((picks x past ≡ false) × (now ≡ before)))

-- each audit of a list was passed exactly the entries whose calls are on its own group, except the
-- gos that end no call; the audits are in the same order, and none was added or removed
abbrev pub AreHanded : {A : Type 0} → (A → A → List Entry → Type 0) → List Group → List A → List A
    → List Entry → Type 0
AreHanded {A} represents gs starts list past = (length list ≡ length starts)
    × ((i : ℕ) (start : A) → slice_get starts i ≡ Some start
    → (now : A) × (slice_get list i ≡ Some now)
    × IsDispatched represents (goes_to gs i) start now past)

-- each group had its audit, in order, and has it after past, as it would be after a pass of its own
abbrev pub AreIndependent : {A : Type 0} → (A → Group) → (A → A → List Entry → Type 0) → List Group → List A
    → List A → List Entry → Type 0
AreIndependent {A} group represents gs starts list past = (i : ℕ) (g : Group)
    → slice_get gs i ≡ Some g
    → (start : A) × (now : A) × (slice_get starts i ≡ Some start) × (slice_get list i ≡ Some now)
    × (group start ≡ g) × represents start now past

-- the state of a pass in contracts: the groups, and their audits in order
pub record GroupAuditsModel (A : Type 0) : Type 0 where
  pub groups : List Group
  pub audits : List A

-- the pass has processed past
abbrev pub WalksOn : {A : Type 0} → (A → Group) → (A → A → List Entry → Type 0) → GroupAuditsModel A → GroupAuditsModel A
    → List Entry → Type 0
WalksOn group represents start now past = (now.groups ≡ start.groups)
    × AreIndependent group represents start.groups start.audits now.audits past
    × AreHanded represents start.groups start.audits now.audits past
