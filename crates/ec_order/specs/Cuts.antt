-- What a completed call is, by the history in its natural order: the oldest entry first.
use Rattle.std.specs.Prelude.{◌≡◌, ℕ, ◌+◌, ◌*◌, ◌<◌, ◌≤◌, false, ◌==◌, List, Some, slice_get, count_by, MatchBool}
use Rattle.ec_count.specs.Tables.{Tables}
use Rattle.ec_core.specs.declared.act.Act.TheVariants.{Go}
use Rattle.ec_core.specs.declared.act.Reply.TheVariants.{Pending}
use Rattle.ec_core.specs.declared.act.Entry.{Entry}
use Rattle.ec_core.specs.Counts.{past_at}
use Rattle.ec_core.specs.Calls.{is_go, is_pending}
use Rattle.ec_core.specs.Rounds.{event_or, component_count}
use Rattle.ec_order.specs.declared.call.Call.{Call}
use Rattle.ec_order.specs.Calls.{is_reading}

-- how many of the first k entries are w's
abbrev pub own_entries : ℕ → ℕ → List Entry → ℕ
own_entries w k h = count_by (λ (x : Entry). x.worker == w) (past_at k h)

-- the last round of a read or an await: it began at an entry of the worker's, before which whole rounds had been read,
-- and from which on there is no more than one
pub record IsLastRound (t : Tables) (h : List Entry) (c : Call) : Type 0 where
  pub entry : Entry
  pub at : slice_get h c.round ≡ Some entry
  pub own : entry.worker ≡ c.worker
  pub from_first : c.first ≤ c.round
  pub to_last : c.round ≤ c.last
  pub rounds : ℕ
  pub whole : own_entries c.worker c.round h ≡ own_entries c.worker c.first h + rounds * component_count t (event_or c.op)
  pub one : own_entries c.worker (c.last + 1) h ≤ own_entries c.worker c.round h + component_count t (event_or c.op)

-- the entry at first is the invocation, and no go; the one at last is the response, whose reply is
-- not Pending; the worker's entries after the first are goes, and all replies but the last are
-- Pending; and a call that is no read or await has one entry
pub record IsFinishedCall (t : Tables) (h : List Entry) (c : Call) : Type 0 where
  pub opening : Entry
  pub opens : slice_get h c.first ≡ Some opening
  pub opener : opening.worker ≡ c.worker
  pub opening_act : opening.act ≡ c.op
  pub begins : is_go c.op ≡ false
  pub closing : Entry
  pub closes : slice_get h c.last ≡ Some closing
  pub closer : closing.worker ≡ c.worker
  pub closing_reply : closing.reply ≡ c.reply
  pub finished : is_pending c.reply ≡ false
  pub from_first : c.first ≤ c.last
  pub goes : (i : ℕ) (x : Entry) → c.first < i → i ≤ c.last → slice_get h i ≡ Some x → x.worker ≡ c.worker → x.act ≡ Go
  pub pending : (i : ℕ) (x : Entry) → c.first ≤ i → i < c.last → slice_get h i ≡ Some x → x.worker ≡ c.worker → x.reply ≡ Pending
  pub round : MatchBool (is_reading c.op) (IsLastRound t h c) ((c.first ≡ c.last) × (c.round ≡ c.last))
