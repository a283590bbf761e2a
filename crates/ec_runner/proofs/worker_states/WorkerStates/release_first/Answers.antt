use Rattle.std.proofs.Common.{◌≡◌, ◌∙◌, ap, sym, slice_get, slice_set, map}
use Rattle.ec_runner.specs.WorkerStates.{state_at_total}
use Rattle.ec_runner.specs.declared.worker_state.WorkerState.TheVariants.{Running}
use Rattle.ec_runner.proofs.Lining.{let_go, none_let_go, lines_again}
use Rattle.ec_runner.proofs.worker_states.WorkerStates.release_first.Goals as goal

pub invariant_of-self : goal.invariant_of-self
invariant_of-self c =
    let i = c.self.inside in
    let k = let_go i.table i.queues c.args.event c.args.total c.in-Some.waiter c.self.invariant c.pop_ready.ensures.event c.in-Some.ensures.first in
    rw (c.get.ensures.value, c.in-Some.ensures.rest) k.keeps

pub invariant_of-self-in-None : goal.invariant_of-self-in-None
invariant_of-self-in-None c =
    let i = c.self.inside in
    rw c.in-None.ensures.rest (lines_again i.table i.queues c.args.event c.self.invariant c.pop_ready.ensures.event)

pub returns-in-Some-clause-yes : goal.returns-in-Some-clause-yes
returns-in-Some-clause-yes c = λ _.
    (let i = c.self.inside in
    let x = c.in-Some.waiter in
    let k = let_go i.table i.queues c.args.event c.args.total x c.self.invariant c.pop_ready.ensures.event c.in-Some.ensures.first in
    record {
      worker = x.worker;
      threshold = x.threshold;
      waits = ap (λ xs. slice_get xs x.worker) (sym c.self.view_is) ∙ k.waits;
      reached = k.reached;
      states = ap (λ w. slice_set i.table w Running) c.get.ensures.value ∙ ap (λ xs. slice_set xs x.worker Running) c.self.view_is;
    })

pub returns-in-None-clause-no : goal.returns-in-None-clause-no
returns-in-None-clause-no c = λ _.
    (let i = c.self.inside in
    let none : map (state_at_total c.args.event c.args.total) i.table ≡ i.table = none_let_go i.table i.queues c.args.event c.args.total c.self.invariant c.pop_ready.ensures.event c.in-None.ensures.first in
    (c.self.view_is, ap (map (state_at_total c.args.event c.args.total)) (sym c.self.view_is) ∙ none ∙ c.self.view_is))
