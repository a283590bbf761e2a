use Rattle.std.proofs.Common.{◌≡◌, ◌<◌, ◌∙◌, arith, ap, reverse, slice_get}
use Rattle.std.proofs.Math.ListN.{get_or}
use Rattle.std.proofs.lemmas.Option.{get_or_from_slice_get}
use Rattle.ec_core.specs.Counts.{signallers_at}
use Rattle.ec_core.specs.Standing.{State}
use Rattle.ec_core.proofs.world.World.signaller.Goals as goal

pub returns : goal.returns
returns c = λ h st.
    (let small : c.args.event < 32 = omega arith in
    let s = c.args.self.now in
    let signal : c.self.inside.signal ≡ s.signal = ap (λ (s : State). s.signal) c.self.view_is in
    let event : c.get.result ≡ c.args.event = c.get.ensures.value in
    let d = c.index-self-get.result in
    c.get-2.ensures ∙ ap (λ us. slice_get us c.args.component)
    (ap (λ g. get_or g c.get.result d) signal ∙ ap (λ e. get_or s.signal e d) event
    ∙ get_or_from_slice_get s.signal c.args.event (signallers_at s.setup c.args.event (reverse h)) d (st.signal c.args.event small)))
