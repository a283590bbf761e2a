-- A new monitor is written to memory that has its size.
use Rattle.evc_c.proofs.MonitorSteps.{[], ◌∷◌, refl, proved, full_share, id⊢, sep, ftrue, vunit, WpFn, fact, tables, sem, ‵, raw, ◌⊛◌, some, later, prop, ◌$◌, ◌∵◌, !, qed, done, move, keep, drop, use1, use2, split, join, feq_i, pick, await, regoal, suffices, frame, show, enter, no_more, and_then, stop, returns, of_opd, unit_lit, init, assigns, alloc_all, pass_all, free_all, look_at, get, through, sets, lands_as, yes, Is, shows, part_at, Ptr, ptr_val, RawPtr, block_ptr, lies_at, room_at, in_a_block, rawptr_vals, rawptr_Tells, plain, nothing, heard, peeks, calls_at, lasts, triple_of, framed, says, Stays, walk_of, stay_dropped, Goes-dropped, ends_at, part_in, Heap, R, Monitor}
use Rattle.evc_c.specs.contracts.monitor_calls.evc_monitor_open as f
use Rattle.evc_c.proofs.monitor_calls.evc_monitor_open.Statement.{statement}
use Rattle.evc_c.proofs.monitor_calls.evc_monitor_open.Code as code
use Rattle.evc_c.specs.contracts.monitor.Monitor.new as g
use Rattle.evc_c.proofs.monitor.Monitor.new.Met.{met}
use Rattle.std.proofs.alloc.Global.TheLaws as heap_laws
use Rattle.evc_c.proofs.monitor.Monitor.TheLaws.{the_row_laws}
use Rattle.evc_c.specs.Monitors.{IsOpen}

abbrev stayed : Stays f.ended.signature.params f.ended.kept
stayed = (stay_dropped _ yes, (stay_dropped _ yes, tt))

pub evc_monitor_open_spec : {M : Type 1} → statement M
evc_monitor_open_spec 𝓤 𝓛 𝓜 𝓡 wired =
    let c = f.clauses 𝓛 𝓜.mem 𝓡.returns in let W = walk_of 𝓛 f.ended stayed c in let 𝓣
    = tables 𝓤 𝓛.H 𝓜 𝓡 𝓡.env in
    proved 𝓛 f.ended stayed c 𝓜 𝓡 (
      Goes-dropped 𝓛 0 (plain (λ _. Heap)) yes (λ κs x w. refl),
      (Goes-dropped 𝓛 0 (plain (λ _. RawPtr)) yes (λ κs x w. refl), tt),
    )
    f.Key.name code.function (code.unfolded 𝓤 𝓛.H 𝓜 𝓡 wired)
    (λ κs. ((λ d. heap_laws.lowers.lowered d ∷ []), (rawptr_vals, tt))) (λ κs.
    (heap_laws.lowers.val_is, (rawptr_Tells, tt))) (λ κs qs bounds a _ are.
    let heap = heap_laws.lowers.lowered a.0 in
    let y : Ptr → W.Ghost = λ p. (
      (
        κs,
        qs,
        bounds,
        (a.0, (p, tt)),
        (
          heap ∷ [],
          (rawptr_vals p, tt),
        ),
      ),
      tt,
    ) in
    qed 𝓛 ((‵ ftrue ⊛ ‵ (Heap.own_val a.0 (heap ∷ [])) ⊛ ‵ (RawPtr.own_val a.1.0
    (rawptr_vals a.1.0)) ⊛ ‵ ftrue) ∷ ‵ (room_at R a.1.0) ∷ []) ∵
    split ! $ drop ! $ split ! $ keep ! (2 ∷ 0 ∷ []) $
    in_a_block ! a.1.0 (λ p. room_at R p) (id⊢ 𝓤 _) (λ b o e.
    regoal ! (λ p. prop (WpFn 𝓤 𝓛.H 𝓣.C 𝓣.Λ code.function (heap ∷ ptr_val p ∷ []) (W.post
    (y p)))) e refl $
    enter ! _ _ _ _ _ $ alloc_all ! (λ l. pass_all ! refl
    (((heap_laws.the_row_laws.lawful 𝓛).typed a.0 _ are.0).0, ((tt, tt), tt)) $
    -- [the room; the allocator; the locals]
    sets ! (of_opd ! (get ! refl)) refl (tt, tt) $
    let G = triple_of 𝓛 g.signature (g.spec 𝓛 𝓜.mem 𝓡.returns) in
    let z : G.Ghost = ((tt, tt, tt, (a.0, tt), (heap ∷ [], tt)), tt) in
    nothing ! $ move ! (2 ∷ 0 ∷ []) $ join ! $ nothing ! $ join ! $ nothing ! $
    move ! (1 ∷ 0 ∷ []) $ use2 𝓛 (raw (G.pre z)) (id⊢ 𝓤 _) $
    calls_at ! (framed 𝓤 𝓛.H 𝓜 (tables 𝓤 𝓛.H 𝓜 𝓡 𝓡.env)) G (met 𝓤 𝓛 𝓜 𝓡
    (code.calls-evc_c::monitor::Monitor::new 𝓡.env wired)) z
    (and_then ! (get ! refl) (no_more !)) (λ v.
    use1 𝓛 (later (some (λ (r : Monitor). (‵ ftrue ⊛ ‵ (R.own_val r (v ∷ []))) ⊛
    some (λ (ws : Unit {0} × Unit {0}). ‵ (lasts g.ended z.0.0 z.0.3 ws) ⊛ raw (fact 𝓤
    (IsOpen r)))))) (id⊢ 𝓤 _) $
    await ! tt $ pick ! (λ r. split ! $ split ! $ drop ! $ move ! (1 ∷ []) $
    pick ! (λ ws. split ! $ drop ! $ heard ! _ (λ opened.
    -- [what the monitor owns; the room; the locals]
    peeks ! R (Is R) (shows 𝓛 R) r (v ∷ []) (λ is. let t =
    ((the_row_laws.lawful 𝓛).typed r _ is).0 in
    lands_as ! refl refl t $
    assigns ! (of_opd ! (get ! refl)) (through ! refl (stop !)) (init ! 1 refl t) $
    sets ! (of_opd ! (unit_lit !)) refl (tt, tt) $
    returns ! (look_at ! 0 refl) $ free_all ! refl $ move ! (1 ∷ 0 ∷ []) $
    use2 𝓛 (‵ (part_at R full_share r b o)) (part_in 𝓛 R refl full_share r b o v) $
    suffices ! _ (ends_at 𝓛 f.ended stayed c (y (block_ptr b o)) vunit tt (tt, (tt, tt)) (
      tt,
      (tt, tt),
    )) $
    feq_i ! _ (vunit ∷ []) _ refl $ nothing ! $ nothing ! $ join ! $ nothing ! $ join ! $
    join ! $ nothing ! $ join ! $ frame ! $
    show ! (λ (new : Monitor). sep 𝓤 (sem 𝓛 (lies_at R full_share (block_ptr b o) new)) (fact 𝓤
    (IsOpen new))) r $
    says ! opened $ done !))))))))
