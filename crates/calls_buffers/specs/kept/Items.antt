-- The items that a count is about.
use Rattle.std.specs.Prelude.{ℕ, ◌==◌, nat_eq, Bool, true, not}
use Rattle.std.specs.HashSet as hash
use Rattle.calls_buffers.specs.declared.items.Items.{Items}
use Rattle.calls_buffers.specs.declared.items.Items.TheVariants.{Any, One, Without}

-- whether an item is counted
abbrev pub counts : Items → ℕ → Bool
counts Any v = true
counts (One w) v = v == w
counts (Without set) v = not (hash.contains nat_eq set v)
