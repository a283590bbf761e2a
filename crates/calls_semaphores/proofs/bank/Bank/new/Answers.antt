use Rattle.std.proofs.Common.{ℕ, zero, suc, ◌≤◌, replicate, slice_index, rules, arith, subst, sym}
use Rattle.std.proofs.Common.{◌∙◌}
use Rattle.std.proofs.lemmas.List.{map-id}
use Rattle.std.proofs.lemmas.Slice.Zip.{AllZip-map}
use Rattle.calls_semaphores.specs.Monitors.{UpTo}
use Rattle.calls_semaphores.proofs.bank.Bank.new.Goals as goal

zeros : (n i : ℕ) → slice_index (replicate n 0) i ≤ 0
zeros zero i = omega arith
zeros (suc n) zero = omega arith
zeros (suc n) (suc i) = zeros n i

pub returns : goal.returns
returns c =
    let e = c.in_ok-vec.ensures.items_if_clones_equal (λ y h. search rules) in
    let xs = c.args.units.now.items in
    record {
      same = search rules;
      first = AllZip-map (λ (n : ℕ). n) xs c.in_ok-clone.field-0.items c.in_ok-clone.ensures.cases.0
          ∙ map-id xs;
      none = subst (UpTo 0) (sym e) (λ i. zeros c.len.result i);
    }
