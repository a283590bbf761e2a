use Rattle.std.proofs.Common.{refl, subst}
use Rattle.calls_counts.specs.Scanning.{NoneFree, IsFirstFree, Skips}
use Rattle.calls_counts.proofs.Searching.{filled_from}
use Rattle.calls_counts.proofs.Skipping.{skips_filled}
use Rattle.calls_counts.proofs.find.fill.Goals as goal

pub returns-in-Some : goal.returns-in-Some
returns-in-Some c = λ s.
    (let found = subst (λ zs. Skips zs c.args.next.now.items → Skips zs c.first_free.new.next.items
    × IsFirstFree zs c.args.noted c.in-Some.k) c.deref.ensures.value c.in-Some.ensures.found in
    let k = found s in
    let f = filled_from c.args.slots.now.items c.args.noted c.in-Some.k c.args.call
    c.index_mut.result.now c.index_mut.ensures.value k.1 in (
      skips_filled c.args.slots.now.items _ c.first_free.new.next.items c.args.noted c.args.call f
          k.0,
      f,
    ))

pub returns-in-None : goal.returns-in-None
returns-in-None c = λ s.
    (let found = subst (λ zs. Skips zs c.args.next.now.items → Skips zs c.first_free.new.next.items
    × NoneFree zs c.args.noted) c.deref.ensures.value c.in-None.ensures.found in
    let k = found s in
    (k.0, (refl, k.1)))
