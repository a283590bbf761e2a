-- Whether the history so far follows its workers' rules, as a decision.
use Rattle.std.specs.Prelude.{ℕ, Bool, true, ◌&&◌, List, [], ◌∷◌}
use Rattle.ec_core.specs.declared.act.Entry.{Entry}
use Rattle.ec_core.specs.Following.{Rule, block, is_right}

-- whether each entry is right by its worker's rule
unfoldable pub follows : (ℕ → Rule) → List Entry → Bool
follows rules [] = true
follows rules (x ∷ past) = is_right (rules x.worker) (block (rules x.worker) x.worker past) x.act
    && follows rules past
