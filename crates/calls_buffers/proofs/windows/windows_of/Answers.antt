use Rattle.std.proofs.Common.{◌≡◌, ℕ, ◌++◌, List, subst, sym}
use Rattle.std.specs.List.Sorted.{IsPermutation}
use Rattle.calls_core.specs.declared.history.PendingCall.{PendingCall}
use Rattle.calls_core.specs.declared.history.Call.{Call}
use Rattle.calls_buffers.specs.declared.accesses.Access.{Access}
use Rattle.calls_buffers.specs.Accesses.{put_item, taken_item}
use Rattle.calls_buffers.specs.kept.Accesses.{ByItem}
use Rattle.calls_buffers.specs.Accesses.{accesses, asked}
use Rattle.calls_buffers.specs.kept.Pairs.{ArePaired, AreNotPaired}
use Rattle.calls_buffers.proofs.Unproduced.{windows_sound, windows_exact}
use Rattle.calls_buffers.proofs.windows.windows_of.Goals as goal

puts_moved : (end : ℕ) (cs done : List Call) (os pending : List PendingCall) (puts : List Access)
    → cs ≡ done → os ≡ pending
    → IsPermutation (accesses put_item 0 cs ++ asked end 0 os) puts
    → IsPermutation (accesses put_item 0 done ++ asked end 0 pending) puts
puts_moved end cs done os pending puts d p h =
    subst (λ zs. IsPermutation (accesses put_item 0 zs ++ asked end 0 pending) puts) d
    (subst (λ zs. IsPermutation (accesses put_item 0 cs ++ asked end 0 zs) puts) p h)

pub returns-clause-sound : goal.returns-clause-sound
returns-clause-sound c = λ within yes.
    let done = c.args.calls.now.done.items in
    let pending = c.args.calls.now.pending.items in
    let puts = c.in_ok-puts.puts.items in
    let takes = c.in_ok-takes.takes.items in
    let ws = c.in_ok-windows.windows.list.items in
    let paired : ArePaired c.args.end c.deref-4.result.now c.deref-5.result.now ws =
    c.in_ok-windows.ensures.sound
    (subst ByItem (sym c.deref-4.ensures.value) c.in_ok-puts.ensures.sorted)
    (subst ByItem (sym c.deref-5.ensures.value) c.in_ok-takes.ensures.sorted) yes in
    windows_sound c.args.end done pending puts takes
    (puts_moved c.args.end _ done _ pending puts c.deref.ensures.value c.deref-2.ensures.value
    c.in_ok-puts.ensures.moved)
    (subst (λ zs. IsPermutation (accesses taken_item 0 zs) takes) c.deref-3.ensures.value
    c.in_ok-takes.ensures.moved) ws within
    (subst (λ zs. ArePaired c.args.end zs takes ws) c.deref-4.ensures.value
    (subst (λ zs. ArePaired c.args.end c.deref-4.result.now zs ws) c.deref-5.ensures.value paired))

pub returns-clause-exact : goal.returns-clause-exact
returns-clause-exact c = λ once e.
    let done = c.args.calls.now.done.items in
    let pending = c.args.calls.now.pending.items in
    let puts = c.in_ok-puts.puts.items in
    let takes = c.in_ok-takes.takes.items in
    let alone = c.in_ok-windows.windows.alone in
    let unpaired : AreNotPaired c.deref-4.result.now c.deref-5.result.now alone =
    c.in_ok-windows.ensures.exact
    (subst ByItem (sym c.deref-4.ensures.value) c.in_ok-puts.ensures.sorted)
    (subst ByItem (sym c.deref-5.ensures.value) c.in_ok-takes.ensures.sorted) e in
    windows_exact c.args.end done pending puts takes
    (puts_moved c.args.end _ done _ pending puts c.deref.ensures.value c.deref-2.ensures.value
    c.in_ok-puts.ensures.moved)
    (subst (λ zs. IsPermutation (accesses taken_item 0 zs) takes) c.deref-3.ensures.value
    c.in_ok-takes.ensures.moved) alone c.in_ok-puts.ensures.sorted c.in_ok-takes.ensures.sorted once
    (subst (λ zs. AreNotPaired zs takes alone) c.deref-4.ensures.value
    (subst (λ zs. AreNotPaired c.deref-4.result.now zs alone) c.deref-5.ensures.value unpaired))
