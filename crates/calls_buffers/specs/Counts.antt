-- Counts of the calls of a buffer. Each is about the items that pass a test. A call that timed out
-- has no effect, and is not counted; `returned` and `invoked` are said of the others.
use Rattle.std.specs.Prelude.{ℕ, ◌+◌, ◌==◌, Bool, true, false, ◌&&◌, nat_le, nat_lt, count_by}
use Rattle.std.specs.Prelude.{List}
use Rattle.calls_core.specs.declared.history.Op.{Op}
use Rattle.calls_core.specs.declared.history.Op.TheVariants.{Produce, Consume}
use Rattle.calls_core.specs.declared.history.Reply.{Reply}
use Rattle.calls_core.specs.declared.history.Reply.TheVariants.{Done, Number}
use Rattle.calls_core.specs.declared.history.PendingCall.{PendingCall}
use Rattle.calls_core.specs.declared.history.Call.{Call}

-- every item
abbrev pub any_item : ℕ → Bool
any_item v = true

-- this item
abbrev pub item : ℕ → ℕ → Bool
item v w = w == v

-- whether this asks to produce an item that passes the test
abbrev pub produces : (ℕ → Bool) → Op → Bool
produces test (Produce v) = test v
produces test op = false

abbrev pub is_consume : Op → Bool
is_consume Consume = true
is_consume op = false

-- whether a call put an item into the buffer that passes the test
abbrev pub put_one : (ℕ → Bool) → Op → Reply → Bool
put_one test (Produce v) Done = test v
put_one test op r = false

-- whether a call took an item out of the buffer that passes the test
abbrev pub took_one : (ℕ → Bool) → Op → Reply → Bool
took_one test Consume (Number v) = test v
took_one test op r = false

abbrev pub is_put : (ℕ → Bool) → Call → Bool
is_put test c = put_one test c.op c.reply

abbrev pub is_take : (ℕ → Bool) → Call → Bool
is_take test c = took_one test c.op c.reply

-- PUT INTO THE BUFFER

-- how many produces had returned up to position n
abbrev pub returned_puts : (ℕ → Bool) → ℕ → List Call → ℕ
returned_puts test n done = count_by (λ (c : Call). is_put test c && nat_le c.last n) done

-- how many produces that put an item in had been invoked up to position n
abbrev pub completed_puts : (ℕ → Bool) → ℕ → List Call → ℕ
completed_puts test n done = count_by (λ (c : Call). is_put test c && nat_le c.first n) done

-- how many pending produces had been invoked up to position n
abbrev pub pending_puts : (ℕ → Bool) → ℕ → List PendingCall → ℕ
pending_puts test n pending =
    count_by (λ (o : PendingCall). produces test o.op && nat_le o.first n) pending

-- how many produces had been invoked up to position n, and may have taken effect
abbrev pub invoked_puts : (ℕ → Bool) → ℕ → List Call → List PendingCall → ℕ
invoked_puts test n done pending = completed_puts test n done + pending_puts test n pending

-- how many produces there are that may take effect
abbrev pub all_puts : (ℕ → Bool) → List Call → List PendingCall → ℕ
all_puts test done pending =
    count_by (is_put test) done + count_by (λ (o : PendingCall). produces test o.op) pending

-- TAKEN OUT OF THE BUFFER

-- how many consumes had returned up to position n
abbrev pub returned_takes : (ℕ → Bool) → ℕ → List Call → ℕ
returned_takes test n done = count_by (λ (c : Call). is_take test c && nat_le c.last n) done

-- how many consumes that returned an item had been invoked up to position n
abbrev pub invoked_takes : (ℕ → Bool) → ℕ → List Call → ℕ
invoked_takes test n done = count_by (λ (c : Call). is_take test c && nat_le c.first n) done

-- how many of them were invoked later
abbrev pub later_takes : (ℕ → Bool) → ℕ → List Call → ℕ
later_takes test n done = count_by (λ (c : Call). is_take test c && nat_lt n c.first) done

-- how many consumes that are pending had been invoked up to position n
abbrev pub pending_takes : ℕ → List PendingCall → ℕ
pending_takes n pending =
    count_by (λ (o : PendingCall). is_consume o.op && nat_le o.first n) pending

-- whether no consume that had been invoked up to position n returned this item
abbrev pub untaken : ℕ → List Call → ℕ → Bool
untaken n done v = invoked_takes (item v) n done == 0
