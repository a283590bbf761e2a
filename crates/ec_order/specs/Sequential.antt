-- The sequential object: one number for each eventcount, sequencer and cell, all 0 at first, if each call is one
-- step.
use Rattle.std.specs.Prelude.{◌≡◌, ℕ, ◌+◌, ◌==◌, nat_le, List, [], ◌∷◌, Option, Some, None, if◌then◌else◌}
use Rattle.ec_core.specs.declared.act.Act.{Act}
use Rattle.ec_core.specs.declared.act.Act.TheVariants.{Advance, Read, Await, Go, Ticket, Put, Get, Hand}
use Rattle.ec_core.specs.declared.act.Reply.{Reply}
use Rattle.ec_core.specs.declared.act.Reply.TheVariants.{Done, Number}
use Rattle.ec_order.specs.declared.call.Call.{Call}

-- the number of each eventcount, sequencer and cell
pub record SequentialState : Type 0 where
  pub events : ℕ → ℕ
  pub sequencers : ℕ → ℕ
  pub cells : ℕ → ℕ

abbrev pub zero_state : SequentialState
zero_state = record { events = λ e. 0; sequencers = λ q. 0; cells = λ x. 0 }

-- the reply to a call: Done to an advance, a put and a hand; a read returns the number, and so does
-- an await, which is possible only if the number has reached its threshold; a ticket and a get
-- return theirs. No call begins with a go
abbrev pub sequential_reply : SequentialState → Act → Option Reply
sequential_reply s (Advance e) = Some Done
sequential_reply s (Read e) = Some (Number (s.events e))
sequential_reply s (Await e v) = if nat_le v (s.events e) then Some (Number (s.events e)) else None
sequential_reply s (Ticket q) = Some (Number (s.sequencers q))
sequential_reply s (Put x v) = Some Done
sequential_reply s (Get x) = Some (Number (s.cells x))
sequential_reply s (Hand e b) = Some Done
sequential_reply s Go = None

-- f with v at n
abbrev pub update_at : (ℕ → ℕ) → ℕ → ℕ → ℕ → ℕ
update_at f n v m = if n == m then v else f m

-- the state after a call: an advance and a ticket add one, a put stores, and the others change nothing
abbrev pub sequential_after : SequentialState → Act → SequentialState
sequential_after s (Advance e) = record s { events = update_at s.events e (s.events e + 1) }
sequential_after s (Ticket q) =
    record s { sequencers = update_at s.sequencers q (s.sequencers q + 1) }
sequential_after s (Put x v) = record s { cells = update_at s.cells x v }
sequential_after s _ = s

-- the state after these calls, one after another
abbrev pub sequential_after_all : SequentialState → List Call → SequentialState
sequential_after_all s [] = s
sequential_after_all s (c ∷ cs) = sequential_after_all (sequential_after s c.op) cs

-- a legal sequential history: the calls, one after another, are possible and get the replies that
-- they had
abbrev pub IsLegalHistory : SequentialState → List Call → Type 0
IsLegalHistory s [] = Unit {0}
IsLegalHistory s (c ∷ cs) = (sequential_reply s c.op ≡ Some c.reply) × IsLegalHistory (sequential_after s c.op) cs
