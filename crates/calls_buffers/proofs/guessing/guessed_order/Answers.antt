use Rattle.std.proofs.Common.{◌≡◌, ◌++◌, List, subst, ap, ◌∙◌, reverse}
use Rattle.std.specs.List.Sorted.{IsPermutation}
use Rattle.std.proofs.lemmas.List.Sorted.{IsPermutation-trans, IsPermutation-sym}
use Rattle.std.proofs.lemmas.List.Sorted.{IsPermutation-append_left, IsPermutation-reverse}
use Rattle.calls_core.specs.declared.history.Call.{Call}
use Rattle.calls_buffers.specs.kept.Orders.{answered_from}
use Rattle.calls_buffers.proofs.guessing.guessed_order.Goals as goal

pub returns : goal.returns
returns c =
    let done = c.args.calls.done in
    let more : List Call = answered_from c.args.end c.in-Some.field-0.answers.items 0
    c.args.calls.pending.items in
    let added : c.add_calls.new.list ≡ done ++ more =
    c.in_ok-add_calls.ensures ∙ ap (λ cs. done ++ cs) (c.deref-3.ensures.value
    ∙ c.in_ok-answered.ensures
    ∙ ap (λ zs. answered_from c.args.end zs 0 c.deref.result.now) c.deref-2.ensures.value
    ∙ ap (answered_from c.args.end c.in-Some.field-0.answers.items 0) c.deref.ensures.value) in
    record {
      answers = c.in-Some.field-0.answers.items;
      moved = IsPermutation-trans _ _ _
          (IsPermutation-append_left more (reverse done) done
          (IsPermutation-sym done (reverse done) (IsPermutation-reverse done)))
          (subst (λ cs. IsPermutation cs c.arrange.new.calls) added c.arrange.ensures);
      legal = c.in_ok-verify.ensures.0 c.if-not-branch.false;
    }
