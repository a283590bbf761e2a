-- The caller's buffers, as writers.
use Rattle.std.specs.Prelude.{◌≡◌, ℕ, List, [], ◌∷◌, take, Option}
use Rattle.ec_text.specs.Puts.{OutputModel, IsWrittenOut}
use Rattle.evc_c.specs.declared.room.Room.{Room}
use Rattle.evc_c.specs.Answers.{ContractBy}

-- the contents of a buffer, as a writer
abbrev pub room_holds : Room → List ℕ
room_holds r = r.bytes.ghost_name ∷ take r.len r.bytes.now

-- what a command did to a buffer in which nothing had been written, and to the notes: it is the
-- same buffer, and what is written in it is what the command writes; and the notes are written out,
-- if they were at first
pub record FillsBy {S O : Type 0} (outputs : List ℕ → OutputModel → O) (Does : ContractBy S O) (bytes : List ℕ) (status : S) (r new : Room)
    (first last : OutputModel) : Type 0 where
  pub same : new.bytes.ghost_name ≡ r.bytes.ghost_name
  pub left : Option (List ℕ)
  pub ends : Does bytes left status (outputs [] first) (outputs (take new.len new.bytes.now) last)
  pub written : IsWrittenOut first → IsWrittenOut last
