-- What it means to follow the protocol of a group.
use Rattle.std.specs.Prelude.{ℕ, List, [], ◌∷◌}
use Rattle.ec_count.specs.Tables.{Tables}
use Rattle.ec_core.specs.declared.act.Entry.{Entry}
use Rattle.ec_core.specs.Following.{Rule, Follow}
use Rattle.ec_buffer.specs.Follows.{buffer_rules}
use Rattle.ec_database.specs.Following.{database_rules}
use Rattle.ec_semaphore.specs.Shapes.{Semaphore}
use Rattle.ec_semaphore.specs.Uses.{use_rules}
use Rattle.ec_semaphore.specs.Both.{is_semaphore_sequencer, both_rules}
use Rattle.ec_heading.specs.declared.group.Group.{Group}
use Rattle.ec_heading.specs.declared.group.Group.TheVariants as groups

-- the semaphores among these groups, except the common one of `both`
abbrev pub semaphores_of : List Group → List Semaphore
semaphores_of [] = []
semaphores_of (groups.Semaphore s ∷ gs) = s ∷ semaphores_of gs
semaphores_of (g ∷ gs) = semaphores_of gs

-- the protocol of each worker on a group, if these are all the groups
abbrev pub group_rules : Tables → List Group → Group → ℕ → Rule
group_rules t gs (groups.Buffer b) = buffer_rules t b
group_rules t gs (groups.Database d) = database_rules t d
group_rules t gs (groups.Semaphore s) = use_rules s
group_rules t gs (groups.Both c) = both_rules c (is_semaphore_sequencer c (semaphores_of gs))

-- a reversed history follows the protocol of the group
abbrev pub FollowsGroup : Tables → List Group → List Entry → Group → Type 0
FollowsGroup t gs past g = Follow (group_rules t gs g) past
