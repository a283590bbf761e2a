-- Workers that wait for good.
use Rattle.std.proofs.Common.{◌≡◌, ◌<◌, ◌↔◌, ℕ, Bool, true, false, nat_lt, Option, Some, None, is_some, IsTrue, cond, refl, ap, ◌∙◌, arith}
use Rattle.std.proofs.lemmas.Bool.Decides.{nat_tests}
use Rattle.ec_core.specs.Counts.{total}
use Rattle.ec_core.specs.RunModel.{RunModel}
use Rattle.ec_runner.specs.declared.wait.Wait.{Wait}
use Rattle.ec_runner.specs.BoardModel.{await_fallen_short, past_of, unmet}
use Rattle.ec_runner.specs.RunReports.{WaitsForever}
use Rattle.ec_runner.proofs.Boarding.{lt_of as is_below}

below_is : (x y : ℕ) → x < y → nat_lt x y ≡ true
below_is x y h = grind (arith, nat_tests)

kept_if : (b : Bool) (a : Wait) → is_some (cond b (Some a) None) ≡ true → b ≡ true
kept_if true a h = refl
kept_if false a h = cc

caught : (run : RunModel) (w : ℕ) (o : Option Wait) → await_fallen_short run.setup w (past_of run) ≡ o → is_some (unmet (past_of run) o) ≡ true → WaitsForever run w
caught run w None is h = cc
caught run w (Some a) is h = record {
  wait = a;
  short = is;
  above = is_below (total a.event (past_of run)) a.threshold (kept_if (nat_lt (total a.event (past_of run)) a.threshold) a h);
}

-- a worker whose await is unmet at the end waits for good, and no other does
pub waits_forever : (run : RunModel) (w : ℕ) → IsTrue (is_some (unmet (past_of run) (await_fallen_short run.setup w (past_of run)))) ↔ WaitsForever run w
waits_forever run w = (
  λ yes. caught run w (await_fallen_short run.setup w (past_of run)) refl yes,
  λ c.
      ap (λ o. is_some (unmet (past_of run) o)) c.short
      ∙ ap (λ (b : Bool). is_some (cond b (Some c.wait) None)) (below_is (total c.wait.event (past_of run)) c.wait.threshold c.above),
)
