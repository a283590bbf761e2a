use Rattle.std.proofs.Common.{sym, subst}
use Rattle.std.specs.Prelude.{slice_set}
use Rattle.std.proofs.lemmas.Option.{slice_get-get_or}
use Rattle.ec_runner.specs.kept.Machines.{PlaysOne}
use Rattle.ec_runner.proofs.Turning.{place_played}
use Rattle.ec_runner.proofs.playing.play_place.Goals as goal

pub returns : goal.returns
returns c = λ t programs turns made each.
    subst (λ k. PlaysOne c.take_turn.result t programs turns c.args.worker c.take_turn.new.run (slice_set c.args.machines.now k c.take_turn.new.machine)) (sym c.get.ensures.value)
    (place_played t programs turns c.args.machines.now c.args.worker c.take_turn.new.run c.take_turn.new.machine c.take_turn.result c.requires each
    ((rw c.get.ensures.value at c.take_turn.ensures) t programs turns made
    (each c.args.worker _ (slice_get-get_or c.args.machines.now c.args.worker c.index-machines-get.result c.requires))))
