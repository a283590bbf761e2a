use Rattle.std.proofs.Common.{◌≡◌, ◌+◌, ◌∙◌, ◌∷◌, List, [], Option, Some, Ok, Vec, Global, ap, sym}
use Rattle.std.proofs.Common.{arith, subst, reverse, slice_get, take, take_all}
use Rattle.std.proofs.lemmas.List.{length-reverse}
use Rattle.ec_count.specs.Tables.{Tables}
use Rattle.ec_core.specs.declared.act.Entry.{Entry}
use Rattle.ec_core.specs.Acceptance.{answer_of}
use Rattle.ec_core.specs.Counts.{past_at}
use Rattle.ec_core.specs.Standing.{State, StandsFor}
use Rattle.ec_core.proofs.shared.Moments.{accepted_at}
use Rattle.ec_explain.specs.declared.round.Look.{Look}
use Rattle.ec_explain.specs.Rounds.{KeepsRound, looks_after, next_look}
use Rattle.ec_explain.proofs.Rounds.{long_past, looks_last, no_looks, none_here, past_more}
use Rattle.ec_explain.proofs.Rounds.{stands_next}
use Rattle.ec_explain.proofs.round.looks_with.Goals as goal
use Rattle.ec_explain.proofs.round.looks_with.Goals.{in-Some+in_ok-take, in_default}

pub loop-position-init : goal.loop-position-init
loop-position-init c = record {
  setup = c.open-world.ensures.setup ∙ c.copy.ensures ∙ c.setup.ensures;
  represents = c.open-world.ensures.history;
  looks = subst (KeepsRound c.args.run.now.setup c.args.worker []) (sym c.new-looks.ensures.items)
      (no_looks c.args.run.now.setup c.args.worker);
}

pub loop-position-preserved : goal.loop-position-preserved
loop-position-preserved c =
    elim c.match-entry.branch [
      | in-Some+in_ok-take w ↦
          (let t = c.args.run.now.setup in
          let h = c.args.run.now.entries in
          let k = c.loop-position.position in
          let x = w.in-Some.entry in
          let before = c.loop-position.world in
          let was = c.loop-position.invariant in
          let at : slice_get h k ≡ Some x = sym w.in-Some.ensures in
          let right : answer_of before.setup (past_at k h) x.worker x.act ≡ Ok x.reply =
          ap (λ (u : Tables). answer_of u (past_at k h) x.worker x.act) was.setup
          ∙ accepted_at t h k x c.invariant.ensures.accepted at in
          record {
            setup = ap (λ (s : State). s.setup) w.world-is ∙ w.take.ensures.setup ∙ was.setup;
            represents = subst (λ (s : State). StandsFor s (take (k + 1) h)) (sym w.world-is)
                (stands_next w.take.new.world h k x at
                (w.take.ensures.represents (take k h) was.represents right));
            looks = subst (λ (v : Vec Look Global).
                KeepsRound t c.args.worker (past_at (k + 1) h) v.items) (sym w.looks-is)
                (subst (λ (p : List Entry). KeepsRound t c.args.worker p w.take.new.looks.items)
                (past_more h k x at)
                (subst (λ (u : Tables).
                KeepsRound u c.args.worker (x ∷ past_at k h) w.take.new.looks.items) was.setup
                (w.in_ok-take.ensures.looks (take k h) was.represents right (long_past h k x at)
                (subst (λ (u : Tables).
                KeepsRound u c.args.worker (past_at k h) c.loop-position.looks.items)
                (sym was.setup) was.looks))));
          })
      | in_default w ↦
          absurd (none_here c.args.run.now.entries c.loop-position.position
          (sym c.entry.ensures ∙ w.in_default.is) (omega arith))
    ]

pub returns : goal.returns
returns c =
    let t = c.args.run.now.setup in
    let h = c.args.run.now.entries in
    let w = c.args.worker in
    let act = c.args.act.now in
    let looks = c.loop-position.looks.items in
    let found : c.next_look-look.result ≡ next_look t w (reverse h) act =
    c.next_look-look.ensures h c.world.ensures.represents (c.len.ensures ∙ sym (length-reverse h))
    ∙ ap (λ (u : Tables). next_look u w (reverse h) act) c.world.ensures.setup in
    let all : take c.loop-position.position h ≡ h = take_all c.loop-position.position h
    (omega (arith, c.loop-position-test.false, c.len-position-end.ensures)) in
    c.in_ok-add_look.ensures ∙ ap (λ (l : Option Look). looks_after l looks) found
    ∙ looks_last t w (reverse h) act looks
    (subst (λ (g : List Entry). KeepsRound t w (reverse g) looks) all c.loop-position.invariant.looks)
