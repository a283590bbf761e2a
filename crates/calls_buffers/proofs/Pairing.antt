-- Produces paired with consumes.
use Rattle.std.proofs.Common.{◌≡◌, ℕ, suc, ◌+◌, ◌<◌}
use Rattle.std.proofs.Common.{true, List}
use Rattle.std.proofs.Common.{◌++◌, length, drop, get_or, ap, sym, ◌∙◌, subst}
use Rattle.std.proofs.Common.{append_assoc, add-one}
use Rattle.std.proofs.Math.Seq.{drop-cons}
use Rattle.calls_core.specs.Lists.{Each}
use Rattle.calls_buffers.specs.declared.accesses.Access.{Access}
use Rattle.calls_buffers.specs.declared.windows.Window.{Window}
use Rattle.calls_buffers.specs.kept.Accesses.{find_access}
use Rattle.calls_buffers.specs.kept.Pairs.{window_of, window_list, fits}

-- one produce more
pub windows_step : (end : ℕ) (takes puts : List Access) (i : ℕ) (d : Access)
    (base next more whole : List Window) → i < length puts
    → more ≡ window_of end (get_or puts i d) (find_access takes (get_or puts i d).item)
    → next ≡ base ++ more → base ++ window_list end takes (drop i puts) ≡ whole
    → next ++ window_list end takes (drop (i + 1) puts) ≡ whole
windows_step end takes puts i d base next more whole lt is e h =
    let all = window_list end takes in
    ap (λ n. next ++ all (drop n puts)) (add-one i)
    ∙ ap (λ zs. zs ++ all (drop (suc i) puts)) e
    ∙ append_assoc base more (all (drop (suc i) puts))
    ∙ ap (λ zs. base ++ (zs ++ all (drop (suc i) puts))) is
    ∙ ap (λ zs. base ++ all zs) (sym (drop-cons puts i d lt)) ∙ h

-- one consume more that fits
pub fits_step : (puts takes : List Access) (i : ℕ) (d : Access) → i < length takes
    → fits puts (get_or takes i d) ≡ true
    → (Each (λ (t : Access). fits puts t ≡ true) (drop i takes)
    → Each (λ (t : Access). fits puts t ≡ true) takes)
    → Each (λ (t : Access). fits puts t ≡ true) (drop (i + 1) takes)
    → Each (λ (t : Access). fits puts t ≡ true) takes
fits_step puts takes i d lt is h rest =
    let P : Access → Type 0 = λ t. fits puts t ≡ true in
    h (subst (Each P) (sym (drop-cons takes i d lt)) (
      is,
      subst (λ n. Each P (drop n takes))
          (add-one i) rest,
    ))
