-- Lists whose elements correspond, in order.
use Rattle.std.specs.Prelude.{◌≡◌, ℕ, ◌+◌, List, Some, slice_get}

-- each element from number n on corresponds to one of the other list, in order
abbrev pub EachFrom : {G A : Type 0} → (G → A → Type 0) → List G → ℕ → List A → Type 0
EachFrom {G} {A} R gs n list = (i : ℕ) (g : G) → slice_get gs (n + i) ≡ Some g → (a : A) × (slice_get list i ≡ Some a) × R g a

-- each element corresponds to one of the other list, in order
abbrev pub Each : {G A : Type 0} → (G → A → Type 0) → List G → List A → Type 0
Each {G} {A} R gs list = (i : ℕ) (g : G) → slice_get gs i ≡ Some g → (a : A) × (slice_get list i ≡ Some a) × R g a
