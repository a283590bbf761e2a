use Rattle.std.proofs.Common.{◌++◌, ◌∷◌, [], sym, ap, arith, ◌∙◌, option_map, Vec, Global}
use Rattle.ec_count.specs.declared.target.Target.{Target}
use Rattle.ec_draw.specs.Chosen.{chosen_targets}
use Rattle.ec_draw.proofs.Choosing.{drawn_next}
use Rattle.ec_draw.proofs.Stepping.{none_here}
use Rattle.ec_draw.proofs.chosen.Selection.new.Goals as goal
use Rattle.ec_draw.proofs.chosen.Selection.new.Goals.{in-Some+in_ok-add_drawn, in_default}

pub loop-place-preserved : goal.loop-place-preserved
loop-place-preserved c =
    let v = c.args.choice.now in
    let ws = c.args.words.now in
    let n = c.loop-place.place in
    elim c.match-at.branch [
      | in-Some+in_ok-add_drawn w ↦ ap (λ (s : Vec Target Global). s.items) w.targets-is
          ∙ w.in_ok-add_drawn.ensures
          ∙ ap (λ z. z ++ chosen_targets v ((w.in-Some.word.now, w.in-Some.target) ∷ []))
          c.loop-place.invariant
          ∙ sym (drawn_next v ws n (w.in-Some.word.now, w.in-Some.target) (sym w.in-Some.ensures))
      | in_default w ↦
          absurd (none_here ws n (sym c.at.ensures
          ∙ ap (λ o. option_map (λ e. (e.0.now, e.1)) o) w.in_default.is) (omega arith))
    ]
