-- A response.
use Rattle.std.proofs.Common.{◌≡◌, ◌+◌, ◌∷◌, ◌≤◌, false, refl, sym, ◌∙◌, subst, length}
use Rattle.calls_core.specs.Histories.{completion}
use Rattle.calls_counts.specs.Faults.{is_advance}
use Rattle.calls_counts.specs.Watching.{AllBelow, IsFirstPlace, IsJudged}
use Rattle.calls_counts.specs.Monitors.{Verdict}
use Rattle.calls_core.specs.declared.history.TheConstants.{WORKERS}
use Rattle.calls_core.specs.Pending.{IsNotedOf}
use Rattle.calls_counts.specs.declared.monitor.Monitor.{Monitor}
use Rattle.calls_counts.proofs.Watching.{watched_filled, watched_forced, watched_observed}
use Rattle.calls_counts.proofs.Watching.{watched_refused, taken_by, by_result}
use Rattle.calls_counts.proofs.monitor.Monitor.respond.Goals as goal

pub returns-in-Some-place_from : goal.returns-in-Some-place_from
returns-in-Some-place_from c = λ past history w.
    (let s = c.args.self.now in
    let u = c.remove-u.result in
    taken_by s.start (c.args.event ∷ past) (record {
      start = s.start;
      begun = s.begun;
      total =
          s.total;
      free = c.remove.new.self;
      pending = c.remove-u.new.self;
    }) refl history
    (watched_filled s.start past c.args.event c.args.reply s.begun s.total s.free.items
    s.pending.items c.remove-u.new.self.items c.in-Some.i u c.requires.action
    (subst (λ us. IsNotedOf us c.args.event.worker c.in-Some.i) c.as_slice.ensures.value
    c.in-Some.ensures) c.remove-u.ensures.value c.remove-u.ensures.items history w
    c.in-Some-place_from.k c.remove.new.self.items (sym c.is_advance.ensures
    ∙ c.if-not-is_advance.false)
    (subst (λ fs. IsFirstPlace fs u.noted c.in-Some-place_from.k) c.as_slice-2.ensures.value
    c.in-Some-place_from.ensures) c.remove.ensures.items))

pub returns-in-None : goal.returns-in-None
returns-in-None c = λ past history w.
    (let s = c.args.self.now in
    let u = c.remove-u.result in
    taken_by s.start (c.args.event ∷ past) (record {
      start = s.start;
      begun = s.begun;
      total =
          s.total + 1;
      free = s.free;
      pending = c.remove-u.new.self;
    }) refl history
    (watched_forced s.start past c.args.event c.args.reply s.begun s.total s.free.items
    s.pending.items c.remove-u.new.self.items c.in-Some.i u c.requires.action
    (subst (λ us. IsNotedOf us c.args.event.worker c.in-Some.i) c.as_slice.ensures.value
    c.in-Some.ensures) c.remove-u.ensures.value c.remove-u.ensures.items history w
    (s.total + 1) (sym c.is_advance.ensures ∙ c.if-not-is_advance.false)
    (subst (λ fs. AllBelow fs u.noted (length fs)) c.as_slice-2.ensures.value c.in-None.ensures)
    refl))

pub returns-then-not-is_advance : goal.returns-then-not-is_advance
returns-then-not-is_advance c = λ past history w.
    (let s = c.args.self.now in
    let x = c.args.event in
    let u = c.remove-u.result in
    let r = c.args.reply in
    let call = completion x.at r u.call in
    let new : Monitor = record {
      start = s.start;
      begun = s.begun;
      total = c.observe.new.total;
      free = c.observe.new.free;
      pending = c.remove-u.new.self;
    } in
    let other : is_advance u.call.op ≡ false = sym c.is_advance.ensures ∙ c.if-not-is_advance.true
    in
    let at : IsNotedOf s.pending.items x.worker c.in-Some.i =
    subst (λ us. IsNotedOf us x.worker c.in-Some.i) c.as_slice.ensures.value c.in-Some.ensures in
    by_result (IsJudged s.start s.begun s.total c.observe.new.total s.free.items
    c.observe.new.free.items u.noted call) (Verdict s.start past x new)
    (λ o possible.
    taken_by s.start (x ∷ past) new refl history
    (watched_observed s.start past x r s.begun s.total s.free.items s.pending.items
    c.remove-u.new.self.items c.in-Some.i u c.requires.action at c.remove-u.ensures.value
    c.remove-u.ensures.items history w
    c.observe.new.total c.observe.new.free.items other (subst (λ us.
    length us ≤ WORKERS) c.as_slice.ensures.value c.as_slice.ensures.fits) possible))
    (λ f impossible.
    watched_refused s.start past x r s.begun s.total s.free.items s.pending.items
    c.remove-u.new.self.items c.in-Some.i u c.requires.action at c.remove-u.ensures.value
    c.remove-u.ensures.items history w
    f other impossible) c.observe.result
    (subst (λ z. IsJudged s.start s.begun s.total c.observe.new.total s.free.items
    c.observe.new.free.items u.noted z c.observe.result) c.complete-call.ensures c.observe.ensures))
