-- An invocation.
use Rattle.std.proofs.Common.{◌≡◌, ◌+◌, ◌++◌, ◌∷◌, [], true, false, refl, ap, sym, ◌∙◌, arith}
use Rattle.calls_core.specs.declared.history.PendingCall.{PendingCall}
use Rattle.calls_counts.specs.Faults.{is_advance}
use Rattle.calls_core.proofs.Counting.{one_yes, one_no}
use Rattle.calls_counts.proofs.Watching.{watched_invoked, taken_by}
use Rattle.calls_counts.proofs.monitor.Monitor.invoke.Goals as goal

pub returns-then-is_advance : goal.returns-then-is_advance
returns-then-is_advance c = λ past history w.
    (let s = c.args.self.now in
    let added = c.push.ensures.items ∙ ap (λ (o : PendingCall).
    s.pending.items ++ record { call = o; noted = s.total } ∷ []) c.new-call.ensures in
    let adds : is_advance c.args.op ≡ true = sym c.is_advance.ensures ∙ c.if-is_advance.true in
    taken_by s.start (c.args.event ∷ past) (record {
      start = s.start;
      begun = s.begun + 1;
      total =
          s.total;
      free = s.free;
      pending = c.push.new.self;
    }) refl history
    (watched_invoked s.start past c.args.event c.args.object c.args.op s.begun (s.begun + 1) s.total
    s.free.items s.pending.items c.push.new.self.items c.requires.action
    (omega (arith, one_yes (is_advance c.args.op) adds)) added history w))

pub returns-else-is_advance : goal.returns-else-is_advance
returns-else-is_advance c = λ past history w.
    (let s = c.args.self.now in
    let added = c.push.ensures.items ∙ ap (λ (o : PendingCall).
    s.pending.items ++ record { call = o; noted = s.total } ∷ []) c.new-call.ensures in
    let none : is_advance c.args.op ≡ false = sym c.is_advance.ensures ∙ c.if-is_advance.false in
    taken_by s.start (c.args.event ∷ past) (record {
      start = s.start;
      begun = s.begun;
      total =
          s.total;
      free = s.free;
      pending = c.push.new.self;
    }) refl history
    (watched_invoked s.start past c.args.event c.args.object c.args.op s.begun s.begun s.total
    s.free.items s.pending.items c.push.new.self.items c.requires.action
    (omega (arith, one_no (is_advance c.args.op) none)) added history w))
