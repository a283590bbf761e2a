use Rattle.std.specs.Prelude.{ℕ, ◌+◌, ◌==◌, if◌then◌else◌}

-- a count and its limit
pub record CountModel : Type 0 where
  pub value : ℕ
  pub limit : ℕ

-- one more, up to the limit
abbrev pub count_up : CountModel → CountModel
count_up n = if n.value == n.limit then n else record { value = n.value + 1; limit = n.limit }
