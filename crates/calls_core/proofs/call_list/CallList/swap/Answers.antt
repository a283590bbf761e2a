use Rattle.std.proofs.Common.{◌≡◌, List, subst, ap, sym, ◌∙◌, map, length, arith}
use Rattle.std.specs.List.Sorted.{IsPermutation}
use Rattle.std.proofs.lemmas.List.{length-map}
use Rattle.std.proofs.lemmas.List.Sorted.{IsPermutation-swap, IsPermutation-map}
use Rattle.calls_core.specs.declared.history.Call.{Call}
use Rattle.calls_core.specs.kept.Packed.{calls_in, unpack_call}
use Rattle.calls_core.proofs.call_list.CallList.swap.Goals.{in-Narrow, in-Wide}
use Rattle.calls_core.proofs.call_list.CallList.swap.Goals as goal

pub returns : goal.returns
returns c = elim c.match-self.branch [
  | in-Narrow w ↦
      (let ps = w.in-Narrow.list.items in
      let is : map unpack_call ps ≡ c.args.self.now = ap calls_in (sym w.in-Narrow.is)
      ∙ c.self.view_is in
      subst (λ v. IsPermutation c.args.self.now (calls_in v.list)) (sym w.self-inside-is)
      (subst (λ cs. IsPermutation cs (map unpack_call w.swap.new.self.items)) is
      (IsPermutation-map unpack_call ps w.swap.new.self.items
      (IsPermutation-swap ps w.swap.new.self.items c.args.i c.args.j
      (omega (arith, ap length is, length-map ps unpack_call, c.requires.first))
      (omega (arith, ap length is, length-map ps unpack_call, c.requires.second))
      w.swap.ensures.items))))
  | in-Wide w ↦
      (let ps = w.in-Wide.list.items in
      let is : ps ≡ c.args.self.now = ap calls_in (sym w.in-Wide.is) ∙ c.self.view_is in
      subst (λ v. IsPermutation c.args.self.now (calls_in v.list)) (sym w.self-inside-is)
      (subst (λ cs. IsPermutation cs w.swap-in-Wide.new.self.items) is
      (IsPermutation-swap ps w.swap-in-Wide.new.self.items c.args.i c.args.j
      (omega (arith, ap length is, c.requires.first))
      (omega (arith, ap length is, c.requires.second))
      w.swap-in-Wide.ensures.items)))
]
