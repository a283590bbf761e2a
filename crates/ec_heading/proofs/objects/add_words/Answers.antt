use Rattle.std.proofs.Common.{rules, ◌≡◌, ◌+◌, ◌∙◌, ◌++◌, ◌∷◌, [], ap, subst, drop, sym, List, ℕ}
use Rattle.ec_count.specs.Names.{find_name}
use Rattle.ec_count.specs.declared.target.Target.{Target}
use Rattle.ec_heading.specs.Objects.{AreNew, shown_objects, spelling}
use Rattle.ec_heading.proofs.AddedWords.{next_new, next_added}
use Rattle.ec_heading.proofs.objects.add_words.Goals as goal

pub spelling-word-requires : goal.spelling-word-requires
spelling-word-requires c = (next_new c.args.name.now c.loop-object.words c.args.objects.now c.loop-object.object-index c.object-item.result c.loop-object-test.true c.object-item.is c.loop-object.invariant.new).0

pub add-requires-clause-new : goal.add-requires-clause-new
add-requires-clause-new c =
    ap (λ (w : List ℕ). find_name w c.loop-object.words) (c.as_slice.ensures.value ∙ c.spelling-word.ensures)
    ∙ (next_new c.args.name.now c.loop-object.words c.args.objects.now c.loop-object.object-index c.object-item.result c.loop-object-test.true c.object-item.is c.loop-object.invariant.new).1

pub loop-object-preserved : goal.loop-object-preserved
loop-object-preserved c =
    let o = c.object-item.result in
    let added : c.add.new.self ≡ c.loop-object.words ++ (c.as_slice.result.now, c.object-item.result.target) ∷ [] = search rules in
    let word : c.as_slice.result.now ≡ spelling c.args.name.now c.object-item.result.word.now = c.as_slice.ensures.value ∙ c.spelling-word.ensures in
    let is : c.add.new.self ≡ c.loop-object.words ++ (spelling c.args.name.now c.object-item.result.word.now, c.object-item.result.target) ∷ [] =
    added ∙ ap (λ (w : List ℕ). c.loop-object.words ++ (w, c.object-item.result.target) ∷ []) word in
    record {
      before = c.loop-object.invariant.before;
      added = is ∙ next_added c.args.name.now c.args.words.now c.loop-object.words c.args.objects.now c.loop-object.object-index o c.loop-object-test.true c.object-item.is c.loop-object.invariant.added;
      new = subst (λ (ws : List (List ℕ × Target)). AreNew c.args.name.now ws (drop (c.loop-object.object-index + 1) (shown_objects c.args.objects.now))) (sym is)
          (next_new c.args.name.now c.loop-object.words c.args.objects.now c.loop-object.object-index o c.loop-object-test.true c.object-item.is c.loop-object.invariant.new).2;
    }
