-- Who put and who got what, as functions of a history so far.
use Rattle.std.proofs.Common.{ℕ, ◌+◌, Bool, ◌==◌, List, [], ◌∷◌, Option, Some, None, is_some}
use Rattle.std.specs.Prelude.{if◌then◌else◌}
use Rattle.std.specs.Option.{option_map_or}
use Rattle.ec_core.specs.declared.act.Entry.{Entry}
use Rattle.ec_core.specs.CallLists.{reply_number}
use Rattle.ec_core.specs.Counts.{put_in}
use Rattle.ec_core.specs.Following.{block}
use Rattle.ec_buffer.specs.Shapes.{Buffer}
use Rattle.ec_buffer.specs.CallLists.{drawn_ticket}
use Rattle.ec_buffer.specs.Follows.{role_rules}
use Rattle.ec_buffer.specs.Items.{put_on, is_get_on}

-- the puts, and the gets
unfoldable pub puts : Buffer → List Entry → ℕ
puts b [] = 0
puts b (x ∷ past) = (if is_some (put_on b x.act) then 1 else 0) + puts b past

unfoldable pub gets : Buffer → List Entry → ℕ
gets b [] = 0
gets b (x ∷ past) = (if is_get_on b x.act then 1 else 0) + gets b past

-- an item, and who put or got it
pub record Moved : Type 0 where
  pub worker : ℕ
  pub item : ℕ

abbrev pub moved_if : Bool → ℕ → Option ℕ → Option Moved → Option Moved
moved_if mine w None others = others
moved_if mine w (Some v) others = if mine then Some (record { worker = w; item = v }) else others

-- the item last put with ticket i
unfoldable pub produced : Buffer → (ℕ → Bool) → ℕ → List Entry → Option Moved
produced b produces i [] = None
produced b produces i (x ∷ past) =
    moved_if (drawn_ticket (block (role_rules b produces x.worker) x.worker past) == i) x.worker (put_on b x.act) (produced b produces i past)

-- the item last got with ticket i
unfoldable pub delivered : Buffer → (ℕ → Bool) → ℕ → List Entry → Option Moved
delivered b produces i [] = None
delivered b produces i (x ∷ past) =
    moved_if (drawn_ticket (block (role_rules b produces x.worker) x.worker past) == i) x.worker
    (if is_get_on b x.act then Some (reply_number x.reply) else None) (delivered b produces i past)

-- what was last put into a cell, and who put it
unfoldable pub standing : ℕ → List Entry → Moved
standing y [] = record { worker = 0; item = 0 }
standing y (x ∷ past) = option_map_or (λ (v : ℕ). record { worker = x.worker; item = v }) (put_in y x.act) (standing y past)
