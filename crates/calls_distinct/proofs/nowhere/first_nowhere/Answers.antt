use Rattle.std.proofs.Common.{◌≡◌, false, nat_eq, sym, ◌∙◌, arith, subst}
use Rattle.std.proofs.lemmas.Option.{same_Some}
use Rattle.calls_core.specs.declared.history.Call.{Call}
use Rattle.std.specs.HashSet as hash
use Rattle.calls_distinct.specs.kept.Nowhere.{is_nowhere}
use Rattle.calls_distinct.proofs.NeverPut.{watched_to, watched_more, watched_whole}
use Rattle.calls_distinct.proofs.nowhere.first_nowhere.Goals.{in-Some+else-is_nowhere, in_default}
use Rattle.calls_distinct.proofs.nowhere.first_nowhere.Goals as goal

pub returns-then-is_nowhere : goal.returns-then-is_nowhere
returns-then-is_nowhere c =
    watched_to c.requires.history.0 c.args.events.now c.requires.history.2 c.loop-i.i
    c.at-x.result (omega (arith, c.loop-i-test.true, c.len-i-end.ensures))
    (c.at-x.ensures c.at-x.result) c.loop-i.pending.items c.follow.new.pending.items
    (hash.contains nat_eq c.loop-i.put) (hash.contains nat_eq c.note_put.new.put)
    c.loop-i.invariant c.in_ok-ended.ended c.in_ok-ended.ensures.call
    c.in_ok-ended.ensures.pending c.in_ok-note_put.ensures c.in-Some.call c.in-Some.is
    (sym c.is_nowhere.ensures ∙ c.if-is_nowhere.true)

pub loop-i-preserved : goal.loop-i-preserved
loop-i-preserved c =
    watched_more c.requires.history.0 c.args.events.now c.requires.history.2 c.loop-i.i
    c.at-x.result (omega (arith, c.loop-i-test.true, c.len-i-end.ensures))
    (c.at-x.ensures c.at-x.result) c.loop-i.pending.items c.follow.new.pending.items
    (hash.contains nat_eq c.loop-i.put) (hash.contains nat_eq c.note_put.new.put)
    c.loop-i.invariant c.in_ok-ended.ended c.in_ok-ended.ensures.call
    c.in_ok-ended.ensures.pending c.in_ok-note_put.ensures
    (elim c.match-ended.branch [
      | in-Some+else-is_nowhere w ↦ λ d is. subst (λ (z : Call).
          is_nowhere (hash.contains nat_eq c.note_put.new.put) z ≡ false)
          (same_Some w.in-Some.call d (sym w.in-Some.is ∙ is))
          (sym w.is_nowhere.ensures ∙ w.if-is_nowhere.false)
      | in_default w ↦ λ d is. absurd (w.in_default.not-Some d is)
    ])

pub returns : goal.returns
returns c = watched_whole c.args.events.now c.loop-i.i c.loop-i.pending.items
    (hash.contains nat_eq c.loop-i.put) (omega (arith, c.loop-i-test.false, c.len-i-end.ensures))
    c.loop-i.invariant
