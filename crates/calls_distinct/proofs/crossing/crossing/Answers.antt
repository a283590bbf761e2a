use Rattle.std.proofs.Common.{◌≡◌, ◌<◌, ◌≤◌, ap, sym, refl, subst, inl, inr}
use Rattle.std.specs.Prelude.{option_copied}
use Rattle.std.proofs.lemmas.Bool.{cases_lt, false≢true}
use Rattle.calls_distinct.specs.declared.zone.Zone.{Zone}
use Rattle.calls_distinct.specs.kept.Zones.{AreCrossed, latest}
use Rattle.calls_distinct.proofs.KeptZones.{latest_more, kept_none, kept_more, crossed_at}
use Rattle.calls_distinct.proofs.crossing.crossing.Goals as goal
use Rattle.calls_distinct.proofs.crossing.crossing.Goals.{in-Some+else-precedes, in_default}

pub returns-then-precedes : goal.returns-then-precedes
returns-then-precedes c =
    let z = c.z-item.result in
    let x = c.in-Some.x.now in
    subst (AreCrossed c.args.zs.now x) (sym c.z-item.is)
    (crossed_at c.args.zs.now c.loop-z.z-index z (option_copied c.loop-z.late) x
    c.loop-z-test.true c.requires c.loop-z.invariant.latest (ap option_copied c.in-Some.is)
    (subst (λ (y : Zone). y.call.last < x.call.first) c.z-item.is (c.if-precedes.ensures.0 refl)))

pub loop-z-preserved : goal.loop-z-preserved
loop-z-preserved c =
    let z = c.z-item.result in
    let late = option_copied c.loop-z.late in
    let more = latest_more c.args.zs.now c.loop-z.z-index z late late c.latest.result.now
    c.loop-z-test.true c.loop-z.invariant.latest refl
    (subst (λ (y : Zone). c.latest.result.now ≡ latest late y) c.z-item.is c.latest.ensures) in
    elim c.match-late.branch [
      | in-Some+else-precedes w ↦ record {
        latest = more;
        kept = kept_more c.args.zs.now c.loop-z.z-index z late w.in-Some.x.now c.loop-z-test.true
            c.loop-z.invariant.latest (ap option_copied w.in-Some.is) c.loop-z.invariant.kept
            (subst (λ (y : Zone). w.in-Some.x.now.call.first ≤ y.call.last) c.z-item.is
            (elim (cases_lt z.call.last w.in-Some.x.now.call.first) [
              | inl lt ↦ absurd (false≢true (w.if-precedes.ensures.1 lt))
              | inr ge ↦ ge
            ]));
      }
      | in_default w ↦ record {
        latest = more;
        kept = kept_none c.args.zs.now c.loop-z.z-index z late c.loop-z-test.true
            c.loop-z.invariant.latest (ap option_copied w.in_default.is);
      }
    ]
