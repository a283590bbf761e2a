-- Following a semaphore, and `both`, in terms of each worker's calls: they are whole lists, and a
-- prefix of one more.
use Rattle.std.specs.Prelude.{◌≡◌, ◌≢◌, ◌↔◌, ◌⊎◌, ℕ, Bool, true, List, [], ◌∷◌, length, reverse}
use Rattle.ec_count.specs.Tables.{Tables, IsDeclared}
use Rattle.ec_core.specs.declared.act.Act.TheVariants.{Advance, Await, Ticket}
use Rattle.ec_core.specs.declared.act.Entry.{Entry}
use Rattle.ec_core.specs.Acceptance.{IsAccepted}
use Rattle.ec_core.specs.Calls.{under_way}
use Rattle.ec_core.specs.CallLists.{reply_number}
use Rattle.ec_core.specs.Following.{CompletedCall, Follow}
use Rattle.ec_core.specs.JoinedLists.{completed_calls_of, calls_on, going_on, op_of, IsWholeList, IsJoined, IsSideBySide}
use Rattle.ec_core.specs.Procedures.{IsWritten}
use Rattle.ec_semaphore.specs.Shapes.{Semaphore}
use Rattle.ec_semaphore.specs.Uses.{threshold, down_call, up_call, is_on, use_rule, use_rules}
use Rattle.ec_semaphore.specs.Both.{is_semaphore_sequencer, down_both_call, both_rule, both_rules}

-- the calls are a P: a ticket, and the wait for the total that the ticket says
pub record IsDown (s : Semaphore) (calls : List CompletedCall) : Type 0 where
  pub ticket : CompletedCall
  pub wait : CompletedCall
  pub are : calls ≡ ticket ∷ wait ∷ []
  pub draws : ticket.op ≡ Ticket s.line
  pub waits : wait.op ≡ Await s.count (threshold s (reply_number ticket.reply))

-- the calls are a V: an advance
pub record IsUp (s : Semaphore) (calls : List CompletedCall) : Type 0 where
  pub advance : CompletedCall
  pub are : calls ≡ advance ∷ []
  pub advances : advance.op ≡ Advance s.count

-- the calls are a critical section: a ticket of the common semaphore, the wait for its turn,
-- tickets of two different ones of these sequencers, and the advance that lets the next worker in
pub record IsCriticalSection (c : Semaphore) (lines : ℕ
    → Bool) (calls : List CompletedCall) : Type 0 where
  pub ticket : CompletedCall
  pub wait : CompletedCall
  pub first : CompletedCall
  pub second : CompletedCall
  pub advance : CompletedCall
  pub are : calls ≡ ticket ∷ wait ∷ first ∷ second ∷ advance ∷ []
  pub one : ℕ
  pub other : ℕ
  pub known_one : lines one ≡ true
  pub known_other : lines other ≡ true
  pub apart : one ≢ other
  pub draws : ticket.op ≡ Ticket c.line
  pub waits : wait.op ≡ Await c.count (reply_number ticket.reply)
  pub draws_one : first.op ≡ Ticket one
  pub draws_other : second.op ≡ Ticket other
  pub advances : advance.op ≡ Advance c.count

-- the whole lists of a semaphore's users are P and V
abbrev pub UsesAreDownsAndUps : Type 0
UsesAreDownsAndUps = (s : Semaphore) (calls : List CompletedCall) → IsWholeList (use_rule s) calls ↔ (IsDown s calls ⊎ IsUp s calls)

-- an accepted history follows a semaphore exactly if each worker's calls on it are such lists
-- joined end to end, and a prefix of one more
abbrev pub FollowingMeansUses : Type 0
FollowingMeansUses = (s : Semaphore) (t : Tables) (h : List Entry) → IsDeclared t → IsAccepted t (reverse h)
    → Follow (use_rules s) (reverse h)
    ↔ ((w : ℕ) → IsJoined (use_rule s) (calls_on (is_on s) (completed_calls_of w (reverse h))) (going_on (is_on s) (under_way w (reverse h))))

-- the whole lists of `both` are critical sections
abbrev pub WholeListsAreCriticalSections : Type 0
WholeListsAreCriticalSections = (c : Semaphore) (lines : ℕ → Bool) (calls : List CompletedCall) → IsWholeList (both_rule c lines) calls ↔ IsCriticalSection c lines calls

-- an accepted history follows `both` exactly if the calls of each worker are critical sections,
-- with calls on other objects between them, and a prefix of one more
abbrev pub BothMeansCriticalSections : Type 0
BothMeansCriticalSections = (c : Semaphore) (shapes : List Semaphore) (t : Tables) (h : List Entry) → IsDeclared t → IsAccepted t (reverse h)
    → Follow (both_rules c (is_semaphore_sequencer c shapes)) (reverse h)
    ↔ ((w : ℕ) → IsSideBySide (both_rule c (is_semaphore_sequencer c shapes)) (is_on c) (completed_calls_of w (reverse h)) (op_of (under_way w (reverse h))))

-- the calls that a procedure Down has made once it is over are a P, and those of an Up are a V
abbrev pub DownIsWritten : Type 0
DownIsWritten = (s : Semaphore) (calls : List CompletedCall) → IsWritten (down_call s) calls → length calls ≡ 2 → IsDown s calls

abbrev pub UpIsWritten : Type 0
UpIsWritten = (s : Semaphore) (calls : List CompletedCall) → IsWritten (up_call s) calls → length calls ≡ 1 → IsUp s calls

-- the calls of a P on two semaphores: a critical section, and on each of the two the calls of a P
pub record IsDownBoth (c one other : Semaphore) (lines : ℕ → Bool) (calls : List CompletedCall) : Type 0 where
  pub sections : List CompletedCall
  pub wait_one : CompletedCall
  pub wait_other : CompletedCall
  pub part : IsCriticalSection c lines sections
  pub are : calls ≡ part.ticket ∷ part.wait ∷ part.first ∷ part.second ∷ part.advance ∷ wait_one ∷ wait_other ∷ []
  pub down_one : IsDown one (part.first ∷ wait_one ∷ [])
  pub down_other : IsDown other (part.second ∷ wait_other ∷ [])

-- the calls that a DownBoth on two different semaphores has made once it is over are those
abbrev pub DownBothIsWritten : Type 0
DownBothIsWritten = (c one other : Semaphore) (lines : ℕ → Bool) (calls : List CompletedCall) → lines one.line ≡ true → lines other.line ≡ true → one.line ≢ other.line
    → IsWritten (down_both_call c one other) calls → length calls ≡ 7 → IsDownBoth c one other lines calls
