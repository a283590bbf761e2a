use Rattle.std.proofs.Common.{◌≡◌, ◌+◌, ◌∷◌, refl, rules}
use Rattle.calls_watch.specs.declared.watcher.Watcher.{Watcher}
use Rattle.calls_watch.proofs.LineLemmas.{line_goes, fault_stops}
use Rattle.calls_watch.proofs.watcher.Watcher.line.Goals as goal

pub returns-in-Err : goal.returns-in-Err
returns-in-Err c = λ ps qs q w.
    fault_stops ps (q ∷ qs) c.args.line.now c.args.self.now _ w c.in-Err.fault (λ none more. (cc))
    (c.in-Err.ensures w.events w.seen)

pub returns : goal.returns
returns c = λ ps qs q w.
    let mid : Watcher = record c.args.self.now {
      follower = c.line.new.self;
      number = c.in-Some.next;
      kept = c.push.new.self;
    } in
    let count : c.in-Some.next ≡ c.args.self.now.number + 1 = search rules in
    line_goes ps qs q c.args.line.now c.args.self.now mid c.go_on.new.self w count refl refl refl
    (c.in-Ok-push.ensures.holds w.reached.lines w.kept)
    c.in-Ok.followed c.go_on.result (c.in-Ok.ensures w.events w.seen) c.go_on.ensures
