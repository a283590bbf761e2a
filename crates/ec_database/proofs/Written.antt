-- What a write put into a cell, found in a history so far.
use Rattle.std.proofs.Common.{◌≡◌, ℕ, zero, suc, ◌+◌, Bool, ◌==◌, List, [], ◌∷◌, Option, Some, None, cond}
use Rattle.ec_core.specs.declared.act.Entry.{Entry}
use Rattle.ec_core.specs.Counts.{put_in}
use Rattle.ec_core.specs.Following.{block}
use Rattle.ec_database.specs.Shapes.{Database}
use Rattle.ec_database.specs.Calls.{drawn_turn}
use Rattle.ec_database.specs.Following.{rules}

abbrev pub chosen_if : Bool → Option ℕ → Option ℕ → Option ℕ
chosen_if mine None others = others
chosen_if mine (Some v) others = cond mine (Some v) others

-- the value put into cell j by the write of a turn
unfoldable pub written : Database → (ℕ → Bool) → ℕ → ℕ → List Entry → Option ℕ
written d writers j turn [] = None
written d writers j turn (x ∷ past) =
    chosen_if (drawn_turn (block (rules d writers x.worker) x.worker past) == turn) (put_in (d.first_cell + j) x.act) (written d writers j turn past)

-- value j of a version is v
abbrev pub IsVersionIn : Database → (ℕ → Bool) → ℕ → ℕ → ℕ → List Entry → Type 0
IsVersionIn d writers zero j v past = v ≡ 0
IsVersionIn d writers (suc turn) j v past = written d writers j turn past ≡ Some v
