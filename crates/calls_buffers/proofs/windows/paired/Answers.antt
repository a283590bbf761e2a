use Rattle.std.proofs.Common.{◌++◌, ◌∷◌, [], ap, sym, ◌∙◌, get_or, append-nil}
use Rattle.std.proofs.Common.{cond}
use Rattle.std.proofs.lemmas.Bool.{lt-ltb, le-ltb}
use Rattle.calls_buffers.specs.declared.accesses.Place.TheVariants.{Completed}
use Rattle.calls_buffers.specs.declared.accesses.Access.{Access}
use Rattle.calls_buffers.specs.kept.Pairs.{with_take, without_take, window_of}
use Rattle.calls_buffers.proofs.Pairing.{windows_step}
use Rattle.calls_buffers.proofs.windows.paired.Goals as goal
use Rattle.calls_buffers.proofs.windows.paired.Goals.{in-Some+in_ok-push-in-Some, in-None+else-put-end}
use Rattle.calls_buffers.proofs.windows.paired.Goals.{in-None+then-put-end+in_ok-push-in-None}

pub loop-put-preserved : goal.loop-put-preserved
loop-put-preserved c = λ up.
    let l = c.loop-put in
    let base = l.list.items in
    let end = c.args.end in
    let d : Access = record { item = 0; place = Completed 0; first = 0; last = 0 } in
    let put = get_or c.args.puts.now l.put-index d in
    elim c.match-find.branch [
      | in-Some+in_ok-push-in-Some w ↦ windows_step end c.args.takes.now c.args.puts.now l.put-index
          d base _ (with_take put w.in-Some.take ∷ []) _ c.loop-put-test.true
          (ap (window_of end put) (sym w.in-Some.is ∙ c.find.ensures up))
          (ap (λ v. v.items) w.list-is ∙ w.in_ok-push-in-Some.ensures.items
          ∙ ap (λ x. base ++ x ∷ []) w.with_take.ensures) (l.invariant up)
      | in-None+then-put-end+in_ok-push-in-None w ↦ windows_step end c.args.takes.now
          c.args.puts.now l.put-index d base _ (without_take end put ∷ []) _ c.loop-put-test.true
          (ap (λ b. cond b (without_take end put ∷ []) []) (sym (lt-ltb put.last end w.if-put-end.true))
          ∙ ap (window_of end put) (sym w.in-None.is ∙ c.find.ensures up))
          (ap (λ v. v.items) w.list-is ∙ w.in_ok-push-in-None.ensures.items
          ∙ ap (λ x. base ++ x ∷ []) w.without_take.ensures) (l.invariant up)
      | in-None+else-put-end w ↦ windows_step end c.args.takes.now c.args.puts.now l.put-index d
          base _ [] _ c.loop-put-test.true
          (ap (λ b. cond b (without_take end put ∷ []) []) (sym (le-ltb put.last end w.if-put-end.false))
          ∙ ap (window_of end put) (sym w.in-None.is ∙ c.find.ensures up))
          (ap (λ v. v.items) w.list-is ∙ sym (append-nil base)) (l.invariant up)
    ]
