use Rattle.std.proofs.Common.{arith, ◌≡◌, ap, ◌∙◌, sym, subst, length, reverse, None}
use Rattle.std.proofs.Common.{◌∷◌, take}
use Rattle.std.proofs.lemmas.List.{length-map, length-reverse}
use Rattle.calls_serial.specs.declared.stage.Stage.{Stage}
use Rattle.calls_serial.specs.Faults.{Leaves}
use Rattle.calls_serial.specs.kept.Stages.{StageView, helds, stage_view, Begins, IsAt, IsShutOut, gets_of_link}
use Rattle.calls_serial.proofs.Ending.{completed_is, begins_taken, placed_for, late_for, fault_for}
use Rattle.calls_serial.proofs.Finding.{stage_is}
use Rattle.calls_core.specs.Histories.{without}
use Rattle.calls_serial.proofs.responses.end_get.Goals as goal
use Rattle.calls_serial.proofs.responses.end_get.Goals.{else-m-n-via-then-m-n+else-index-value}
use Rattle.calls_serial.proofs.responses.end_get.Goals.{else-m-n-via-else-m-n}

pub returns-in_ok-add_get-in-At : goal.returns-in_ok-add_get-in-At
returns-in_ok-add_get-in-At c end t done pending w at r o g op is same pend hold =
    (let hs = helds c.args.pass.now.stages.items in
    let ls = reverse c.args.pass.now.links.items in
    let m = completed_is end t done pending w at o hs ls g op hold c.deref.result.now
    c.completed_stages-m.result c.len-n.result (c.deref.ensures.value ∙ pend)
    (omega (
      arith,
      c.len-n.ensures,
      c.args.pass.now.stages.ok.0,
      length-map c.args.pass.now.stages.items stage_view,
    )) c.completed_stages-m.ensures in (
      pend,
      placed_for end t done pending w at o hs ls g op hold c.args.value
          c.completed_stages-m.result r is m c.args.get same c.in-At.i _
          (subst (λ ss. Begins (take c.completed_stages-m.result (helds ss))
          → IsAt (helds ss) c.completed_stages-m.result c.args.get.first c.args.value c.in-At.i)
          c.deref-2.ensures.value c.in-At.ensures.found
          (begins_taken end t done pending w at o hs ls g op hold c.completed_stages-m.result m))
          c.in_ok-add_get-in-At.ensures,
    ))

pub returns-then-index-value : goal.returns-then-index-value
returns-then-index-value c end t done pending w at r o g op is same pend hold =
    (let hs = helds c.args.pass.now.stages.items in
    let ls = reverse c.args.pass.now.links.items in
    let long : c.len-n.result ≡ length hs =
    omega (
      arith,
      c.len-n.ensures,
      c.args.pass.now.stages.ok.0,
      length-map c.args.pass.now.stages.items stage_view,
    ) in
    let m = completed_is end t done pending w at o hs ls g op hold c.deref.result.now
    c.completed_stages-m.result c.len-n.result (c.deref.ensures.value ∙ pend) long
    c.completed_stages-m.ensures in (
      pend,
      late_for end t done pending w at o hs ls g op hold c.args.value
          c.completed_stages-m.result r is m c.args.get same c.in-Shut.because
          (subst (λ ss. Begins (take c.completed_stages-m.result (helds ss))
          → IsShutOut (helds ss) c.completed_stages-m.result c.args.get.first c.args.value
          c.in-Shut.because) c.deref-2.ensures.value c.in-Shut.ensures.found
          (begins_taken end t done pending w at o hs ls g op hold c.completed_stages-m.result m))
          (omega (arith, c.if-m-n.true, long))
          (λ h here. ap (λ (z : StageView). z.value)
          (sym (stage_is c.args.pass.now.stages.items c.completed_stages-m.result
          c.index.result.now h
          (omega (arith, c.if-m-n.true, c.len-n.ensures, c.args.pass.now.stages.ok.0))
          here))
          ∙ sym (ap (λ (z : Stage). z.value) c.index.ensures) ∙ c.if-index-value.true)
          _ _ (length c.args.pass.now.links.items) (sym
          (length-reverse c.args.pass.now.links.items))
          c.in_ok-add_late-in-Shut.ensures,
    ))

pub returns-in_ok-gets-in-Shut : goal.returns-in_ok-gets-in-Shut
returns-in_ok-gets-in-Shut c end t done pending w at r o g op is same pend hold =
    (let hs = helds c.args.pass.now.stages.items in
    let ls = reverse c.args.pass.now.links.items in
    let long : c.len-n.result ≡ length hs =
    omega (
      arith,
      c.len-n.ensures,
      c.args.pass.now.stages.ok.0,
      length-map c.args.pass.now.stages.items stage_view,
    ) in
    let m = completed_is end t done pending w at o hs ls g op hold c.deref.result.now
    c.completed_stages-m.result c.len-n.result (c.deref.ensures.value ∙ pend) long
    c.completed_stages-m.ensures in
    subst (λ gets. Leaves (c.args.get ∷ done) (without w pending) gets None)
    (sym (c.in_ok-gets-in-Shut.ensures
    ∙ ap (λ ls. c.args.get ∷ gets_of_link c.in-Shut.because (reverse ls))
    c.deref-in-Shut.ensures.value))
    (fault_for end t done pending w at o hs ls g op hold c.args.value
    c.completed_stages-m.result r is m c.args.get same c.in-Shut.because
    (subst (λ ss. Begins (take c.completed_stages-m.result (helds ss))
    → IsShutOut (helds ss) c.completed_stages-m.result c.args.get.first c.args.value
    c.in-Shut.because) c.deref-2.ensures.value c.in-Shut.ensures.found
    (begins_taken end t done pending w at o hs ls g op hold c.completed_stages-m.result m))
    (λ lt h here value. elim c.else-m-n.branch [
      | else-m-n-via-then-m-n+else-index-value v ↦ v.if-index-value.false
          (ap (λ (z : Stage). z.value) v.index.ensures ∙ ap (λ (z : StageView). z.value)
          (stage_is c.args.pass.now.stages.items c.completed_stages-m.result v.index.result.now h
          (omega (arith, lt, length-map c.args.pass.now.stages.items stage_view)) here) ∙ value)
      | else-m-n-via-else-m-n v ↦
          omega (arith, lt, v.if-m-n.false, long)
    ])))
