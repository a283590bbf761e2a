use Rattle.std.proofs.Common.{List, ◌≡◌, ◌<◌, ◌∙◌, ◌+◌, ap, subst, sym, length, map, reverse, take, get_or}
use Rattle.std.proofs.Common.{arith, ℕ}
use Rattle.std.specs.Global.{Vec}
use Rattle.calls_core.specs.declared.history.Event.{Event}
use Rattle.calls_core.specs.Lists.{EachFrom}
use Rattle.calls_core.specs.Parts.{events_at}
use Rattle.calls_verdict.specs.kept.Parts.{IsPart, IsAdded, IsFollowed}
use Rattle.calls_verdict.proofs.Adding.{added_more, unadded_more, followed_more, event_read}
use Rattle.calls_verdict.proofs.splitting.split.Goals as goal
use Rattle.calls_verdict.proofs.splitting.split.Goals.{in-Some+in_ok-add, in_default}

pub loop-i-preserved : goal.loop-i-preserved
loop-i-preserved c =
    let events = c.args.events.now in
    let i = c.loop-i.i in
    let x = c.at.result in
    let lt : i < length events = omega (arith, c.loop-i-test.true, c.len-i-end.ensures) in
    let read : x ≡ get_or events i x = c.at.ensures x in
    let followed = subst (λ (y : Event). IsFollowed c.loop-i.pending.items c.follow.new.pending.items
    y c.in_ok-object.field-0) read c.in_ok-object.ensures in
    record {
      count = elim c.match-branch-3.branch [
        | in-Some+in_ok-add w ↦
            ap (λ (v : Vec (List ℕ)). length v.items) w.parts-is ∙ w.in_ok-add.ensures.count
            ∙ c.loop-i.invariant.count
        | in_default w ↦ ap (λ (v : Vec (List ℕ)). length v.items) w.parts-is
            ∙ c.loop-i.invariant.count
      ];
      each = elim c.match-branch-3.branch [
        | in-Some+in_ok-add w ↦
            subst (λ (v : Vec (List ℕ)). EachFrom (IsPart (reverse (take (i + 1) events))) 0
            (map (events_at events) v.items)) (sym w.parts-is)
            (added_more events i x lt _ _ _ _ _ _ c.loop-i.invariant.pending followed w.in-Some.is
            (subst (λ y. IsAdded w.in-Some.object y (map (events_at events) c.loop-i.parts.items)
            (map (events_at events) w.add.new.parts.items)) (event_read events i x lt read)
            (w.in_ok-add.ensures.added events)) c.loop-i.invariant.each)
        | in_default w ↦
            subst (λ (v : Vec (List ℕ)). EachFrom (IsPart (reverse (take (i + 1) events))) 0
            (map (events_at events) v.items)) (sym w.parts-is)
            (unadded_more events i x lt _ _ _ _ c.loop-i.invariant.pending followed w.in_default.is
            c.loop-i.invariant.each)
      ];
      pending = followed_more events i x lt _ _ _ c.loop-i.invariant.pending followed;
    }
