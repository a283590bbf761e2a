use Rattle.std.proofs.Common.{[], ◌∙◌, sym, ap, subst, Some, arith}
use Rattle.std.proofs.lemmas.List.{take_all}
use Rattle.std.proofs.lemmas.Option.{slice_get-get_or}
use Rattle.ec_runner.specs.kept.Machines.{IsPlayed}
use Rattle.ec_runner.proofs.Turning.{place_more}
use Rattle.ec_runner.proofs.playing.play_places.Goals as goal

pub loop-place-init : goal.loop-place-init
loop-place-init c = λ t programs played. ([], played)

pub returns-in-Ended : goal.returns-in-Ended
returns-in-Ended c = λ t programs played.
    let so_far = c.loop-place.invariant t programs played in
    record {
      turns = so_far.0;
      plays = so_far.1.plays;
      named = slice_get-get_or _ _ c.index-schedule-place.result c.loop-place-test.true ∙ ap (λ w. Some w) (sym c.index-schedule-place.is);
      ended = c.in-Ended.ensures t programs so_far.0 so_far.1.made so_far.1.each;
    }

pub returns-in-Memory : goal.returns-in-Memory
returns-in-Memory c = λ t programs played.
    let so_far = c.loop-place.invariant t programs played in
    record {
      place = c.loop-place.place;
      w = c.index-schedule-place.result;
      turns = so_far.0;
      plays = so_far.1.plays;
      named = slice_get-get_or _ _ c.index-schedule-place.result c.loop-place-test.true ∙ ap (λ w. Some w) (sym c.index-schedule-place.is);
      due = c.in-Memory.ensures t programs so_far.0 so_far.1.made so_far.1.each;
    }

pub loop-place-preserved : goal.loop-place-preserved
loop-place-preserved c = λ t programs played.
    place_more t programs c.args.schedule.now c.loop-place.place c.index-schedule-place.result _ _ _ _ c.loop-place-test.true c.index-schedule-place.is
    (c.loop-place.invariant t programs played) (λ turns before. c.in-Made.ensures t programs turns before.made before.each)

pub returns : goal.returns
returns c = λ t programs played.
    let so_far = c.loop-place.invariant t programs played in
    (so_far.0, subst (λ schedule. IsPlayed t programs schedule so_far.0 c.loop-place.run c.loop-place.machines) (take_all c.loop-place.place c.args.schedule.now (omega arith)) so_far.1)
