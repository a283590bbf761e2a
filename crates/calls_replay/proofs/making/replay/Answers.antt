use Rattle.std.proofs.Common.{◌≡◌, ◌<◌, [], ◌∷◌, ◌++◌, List, length, reverse, take, refl, sym, ap, ◌∙◌}
use Rattle.std.proofs.Common.{subst, arith}
use Rattle.std.specs.List.{filter}
use Rattle.calls_core.specs.declared.history.Placed.{Placed}
use Rattle.ec_count.specs.Tables.{Tables}
use Rattle.ec_core.specs.declared.act.Entry.{Entry}
use Rattle.ec_core.specs.RunModel.{RunModel}
use Rattle.calls_replay.specs.kept.Going.{AreMadeIn}
use Rattle.calls_replay.specs.Made.{made_of, is_made}
use Rattle.calls_replay.proofs.Rows.{nothing_made, one_more}
use Rattle.calls_replay.proofs.making.replay.Goals as goal

pub loop-index-init : goal.loop-index-init
loop-index-init c =
    let none : c.in-Ok.run'.entries ≡ [] = ap (λ (r : RunModel). r.entries) c.in-Ok.ensures in (
      ap (λ (r : RunModel). r.setup) c.in-Ok.ensures ∙ c.copy.ensures ∙ c.setup.ensures,
      subst (λ (es : List Entry). AreMadeIn c.args.heading.now.setup [] (reverse es)) (sym none)
          (nothing_made c.args.heading.now.setup),
    )

pub loop-index-preserved : goal.loop-index-preserved
loop-index-preserved c =
    let t : Tables = c.args.heading.now.setup in
    let before = c.loop-index.invariant in
    let limit : c.get-limit.result ≡ t.limit =
    c.get-limit.ensures.value ∙ c.limit.ensures ∙ ap (λ (s : Tables). s.limit) c.setup-2.ensures in
    let order = c.args.order.now in
    let x = c.at.result in
    let lt : c.loop-index.index < length order =
    omega (arith, c.loop-index-test.true, c.len-index-end.ensures) in
    let now : AreMadeIn c.loop-index.run.setup
    (made_of t.limit (take c.loop-index.index c.args.order.now))
    (reverse c.loop-index.run.entries) =
    subst (λ (s : Tables). AreMadeIn s (made_of t.limit (take c.loop-index.index c.args.order.now))
    (reverse c.loop-index.run.entries)) (sym before.0) before.1 in (
      c.in_ok-make_next.ensures.setup ∙ before.0,
      one_more t.limit order c.loop-index.index x t c.loop-index.run.setup
          c.get-limit.result (reverse c.make_next.new.run.entries) refl limit before.0 lt
          (subst (λ (y : Placed). AreMadeIn c.loop-index.run.setup
          (made_of t.limit (take c.loop-index.index order)
          ++ filter (is_made c.get-limit.result) (y.call ∷ [])) (reverse c.make_next.new.run.entries))
          (c.at.ensures x) (c.in_ok-make_next.ensures.made _ now)),
    )
