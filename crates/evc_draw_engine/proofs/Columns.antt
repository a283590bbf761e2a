-- The columns of a picture.
use Rattle.std.proofs.Common.{◌≡◌, ◌<◌, ◌≤◌, ◌-◌, ℕ, false, arith}
use Rattle.std.specs.Prelude.{nat_lt}
use Rattle.std.proofs.lemmas.Bool.Decides.{nat_tests}
use Rattle.std.proofs.lemmas.Int.{clamps}
use Rattle.ec_draw.specs.declared.window.TheConstants.{COLUMNS_MAX}
use Rattle.evc_draw_cli.specs.declared.choice.Range.{Range}
use Rattle.evc_draw_engine.specs.Windows.{is_wide, window_for}

-- the last column is shown if the range has its position
pub has_column : (r : Range) (n : ℕ) → r.from < n → n ≤ r.to → ((window_for r n).from < n)
    × ((window_for r n).to ≡ n)
has_column r n low high = (omega (arith, clamps), omega (arith, clamps))

-- there are no more columns than a picture can have
pub is_narrow : (r : Range) (n : ℕ) → is_wide (window_for r n) ≡ false
is_narrow r n =
    let few : (window_for r n).to - (window_for r n).from ≤ COLUMNS_MAX = omega (arith, clamps) in
    grind (arith, nat_tests)
