-- Which histories follow a buffer: each producer's calls on it are lists of producing one item,
-- each consumer's are lists of consuming one, joined end to end, and the last list may be
-- incomplete. A producer may put any value.
use Rattle.std.specs.Prelude.{ℕ, ◌+◌, Bool, ◌==◌, ◌&&◌, ◌||◌, nat_le, nat_lt, List, if◌then◌else◌}
use Rattle.ec_count.specs.Tables.{Tables, may_take}
use Rattle.ec_core.specs.declared.act.Act.{Act}
use Rattle.ec_core.specs.declared.act.Entry.{Entry}
use Rattle.ec_core.specs.CallLists.{is_among, rule_of}
use Rattle.ec_core.specs.Following.{Rule, Follow}
use Rattle.ec_buffer.specs.Shapes.{Buffer}
use Rattle.ec_buffer.specs.CallLists.{produce_call, consume_call}

-- whether x is one of the buffer's cells
abbrev pub is_cell : Buffer → ℕ → Bool
is_cell b x = nat_le b.first_cell x && nat_lt x (b.first_cell + b.cells)

-- whether an act names an object of the buffer
abbrev pub is_on : Buffer → Act → Bool
is_on b act = is_among (λ e. e == b.in_count || e == b.out_count) (λ q. q == b.put_seq || q == b.take_seq) (is_cell b) act

abbrev pub produce_rule : Buffer → Rule
produce_rule b = rule_of (is_on b) (produce_call b 0)

abbrev pub consume_rule : Buffer → Rule
consume_rule b = rule_of (is_on b) (consume_call b)

-- the rule of each worker, given which of them are producers
abbrev pub role_rules : Buffer → (ℕ → Bool) → ℕ → Rule
role_rules b produces w = if produces w then produce_rule b else consume_rule b

-- the rule of each worker under these declarations: the producers are those that take from the sequencer of puts
abbrev pub buffer_rules : Tables → Buffer → ℕ → Rule
buffer_rules t b = role_rules b (may_take t b.put_seq)

-- a history so far follows the buffer
abbrev pub FollowsBuffer : Tables → Buffer → List Entry → Type 0
FollowsBuffer t b past = Follow (buffer_rules t b) past
