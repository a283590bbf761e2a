use Rattle.std.proofs.Common.{◌≡◌, ℕ, List, length, Option, option_map, ap, ◌∙◌, rules}
use Rattle.ec_heading.specs.HeadingModel.{HeadingModel}
use Rattle.ec_script.specs.declared.kinds.BlockContext.{BlockContext}
use Rattle.ec_script.specs.Forms.{phrase_of_parts}
use Rattle.ec_script.specs.Kinds.{LineContextModel, phrase_fault}
use Rattle.ec_script.specs.ScriptModel.{ScriptModel}
use Rattle.ec_script.specs.Reading.{view_of_block, context_of_script}
use Rattle.ec_script.proofs.script.Script.fault.Goals as goal

abbrev made : HeadingModel → List ℕ → Option BlockContext → ℕ → LineContextModel
made h w n k = record { heading = h; named = w; block = n; scheduled = k }

seen_same : (h : HeadingModel) (w : List ℕ) (n : Option BlockContext) (k : ℕ) (s : ScriptModel) → h ≡ s.heading → w ≡ s.named → n ≡ option_map view_of_block s.block → k ≡ length s.schedule → made h w n k ≡ context_of_script s
seen_same h w n k s a b c d =
    ap (λ x. made x w n k) a ∙ ap (λ x. made s.heading x n k) b ∙ ap (λ x. made s.heading s.named x k) c ∙ ap (λ x. made s.heading s.named (option_map view_of_block s.block) x) d

pub returns : goal.returns
returns c =
    let v = c.self.view_is in
    let long : c.len.result ≡ length c.self.inside.schedule.items = search rules in
    let e = seen_same c.self.inside.heading c.as_slice.result.now c.block_view.result c.len.result c.args.self.now
    (ap (λ (s : ScriptModel). s.heading) v) (c.as_slice.ensures.value ∙ ap (λ (s : ScriptModel). s.named) v) c.block_view.ensures (long ∙ ap (λ (s : ScriptModel). length s.schedule) v) in
    c.phrase_fault.ensures ∙ ap (λ (s : LineContextModel). phrase_fault s (phrase_of_parts c.args.parts.now) c.args.found.now) e
