-- What it is to follow a database: a writer's calls on it are writes of all cells joined end to
-- end, a reader's are tries of snapshots, and the last of them may be incomplete.
use Rattle.std.specs.Prelude.{ℕ, ◌+◌, List, Bool, ◌==◌, ◌&&◌, ◌||◌, nat_le, nat_lt, [], is_some, if◌then◌else◌}
use Rattle.ec_count.specs.Tables.{Tables, component_of}
use Rattle.ec_core.specs.declared.act.Act.{Act}
use Rattle.ec_core.specs.declared.act.Entry.{Entry}
use Rattle.ec_core.specs.Following.{Rule, Follow}
use Rattle.ec_core.specs.CallLists.{rule_of, is_among}
use Rattle.ec_database.specs.Shapes.{Database}
use Rattle.ec_database.specs.Calls.{write_call, try_call}

-- whether x is a cell of the database
abbrev pub is_cell : Database → ℕ → Bool
is_cell d x = nat_le d.first_cell x && nat_lt x (d.first_cell + d.cells)

-- whether an act names an object of the database
abbrev pub is_on : Database → Act → Bool
is_on d act = is_among (λ e. e == d.start || e == d.done) (λ q. q == d.turn) (is_cell d) act

-- whether w is one of its writers, by the eventcount of starts: if the database fits the tables, they signal both
abbrev pub writes : Tables → Database → ℕ → Bool
writes t d w = is_some (component_of t d.start w)

-- a writer may put any values
abbrev pub write_rule : Database → Rule
write_rule d = rule_of (is_on d) (write_call d [])

abbrev pub try_rule : Database → Rule
try_rule d = rule_of (is_on d) (try_call d)

-- the rule of each worker, given which of them are writers
abbrev pub rules : Database → (ℕ → Bool) → ℕ → Rule
rules d writers w = if writers w then write_rule d else try_rule d

-- the rule of each worker on a declared database
abbrev pub database_rules : Tables → Database → ℕ → Rule
database_rules t d = rules d (writes t d)

-- the history, its newest entry first, follows the database
abbrev pub FollowsDatabase : Tables → Database → List Entry → Type 0
FollowsDatabase t d past = Follow (database_rules t d) past
