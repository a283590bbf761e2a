-- What the users of a semaphore do: P, which takes one, and V, which gives one back, each a list of calls.
use Rattle.std.specs.Prelude.{ℕ, ◌+◌, ◌-◌, Bool, true, false, ◌==◌, ◌||◌, List, [], ◌∷◌, Option, Some, None}
use Rattle.ec_core.specs.declared.act.Act.{Act}
use Rattle.ec_core.specs.declared.act.Act.TheVariants.{Advance, Await, Ticket}
use Rattle.ec_core.specs.Counts.{is_advance}
use Rattle.ec_core.specs.Following.{CompletedCall, Rule}
use Rattle.ec_core.specs.CallLists.{is_among, is_due, reply_number}
use Rattle.ec_semaphore.specs.Shapes.{Semaphore}

-- the total that a P with this ticket waits for
abbrev pub threshold : Semaphore → ℕ → ℕ
threshold s ticket = ticket + 1 - s.initial

-- P: the call that comes after these completed calls, or none
abbrev pub down_call : Semaphore → List CompletedCall → Option Act
down_call s [] = Some (Ticket s.line)
down_call s (t ∷ []) = Some (Await s.count (threshold s (reply_number t.reply)))
down_call s (t ∷ a ∷ rest) = None

-- V: the same
abbrev pub up_call : Semaphore → List CompletedCall → Option Act
up_call s [] = Some (Advance s.count)
up_call s (v ∷ rest) = None

-- whether the calls are a whole V or a whole P
abbrev pub is_whole : Semaphore → List CompletedCall → Bool
is_whole s [] = false
is_whole s (c ∷ []) = is_advance s.count c.op
is_whole s (c ∷ d ∷ rest) = true

-- whether an act names an object of the semaphore
abbrev pub is_on : Semaphore → Act → Bool
is_on s act = is_among (λ e. e == s.count) (λ q. q == s.line) (λ x. false) act

-- a user's calls on the semaphore are P and V, one after another
abbrev pub use_rule : Semaphore → Rule
use_rule s = record {
  concerns = λ b op. is_on s op;
  fits = λ b op. is_due (down_call s b) op || is_due (up_call s b) op;
  ends = λ b. is_whole s b;
}

abbrev pub use_rules : Semaphore → ℕ → Rule
use_rules s w = use_rule s
