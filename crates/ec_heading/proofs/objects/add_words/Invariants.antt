use Rattle.std.proofs.Common.{◌≡◌, ◌++◌, length, take, drop}
use Rattle.ec_heading.specs.Objects.{AreNew, shown_objects, spelled_objects}
use Rattle.ec_heading.proofs.objects.add_words.Given as goal

abbrev pub invariant-loop-object : goal.invariant-loop-object
invariant-loop-object l = record {
  before : l.before ≡ length l.initial.words;
  added : l.words ≡ l.initial.words ++ spelled_objects l.name (take l.object-index (shown_objects l.objects));
  new : AreNew l.name l.words (drop l.object-index (shown_objects l.objects));
}
