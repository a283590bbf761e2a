-- The monitor is borrowed for the call, and is in its memory again after it.
use Rattle.evc_c.proofs.MonitorSteps.{ℕ, List, [], ◌∷◌, refl, ap, proved, full_share, id⊢, sep, ftrue, flft, flent, named, vptr, vunit, WpFn, fact, tables, sem, ‵, raw, ◌⊛◌, some, later, prop, ◌$◌, ◌∵◌, !, qed, done, move, keep, drop, use1, use2, use3, split, join, fsplit, feq_i, feq_l, pick, await, regoal, suffices, frame, show, lft_new, lft_end, Body, enter, addr, no_more, and_then, stop, returns, of_opd, unit_lit, alloc_all, pass_all, free_all, look_at, get, through, sets, lands_as, unit, yes, part_at, mem, Ptr, ptr_val, RawPtr, block_ptr, lies_at, in_a_block, rawptr_vals, rawptr_Tells, MutRef, mut_vals, mut_Tells, lends_ref, ref_back, plain, nothing, only, heard, calls_at, lasts, triple_of, framed, says, Stays, walk_of, stay_dropped, Goes-dropped, gave_ref, Goes-gave_ref, ends_at, R, Monitor, lent}
use Rattle.evc_c.specs.contracts.monitor_calls.evc_monitor_load as f
use Rattle.evc_c.proofs.monitor_calls.evc_monitor_load.Statement.{statement}
use Rattle.evc_c.proofs.monitor_calls.evc_monitor_load.Code as code
use Rattle.evc_c.specs.contracts.monitor.Monitor.load as g
use Rattle.evc_c.proofs.monitor.Monitor.load.Met.{met}
use Rattle.evc_c.specs.contracts.monitor.EvcLoad.{the_row as L}
use Rattle.evc_c.specs.declared.monitor.EvcLoad.{EvcLoad}
use Rattle.evc_c.specs.Monitors.{ReportsLoad}

abbrev stayed : Stays f.ended.signature.params f.ended.kept
stayed = (stay_dropped _ yes, (gave_ref (0 ∷ []) tt (plain (λ _. L)), tt))

pub evc_monitor_load_spec : {M : Type 1} → statement M
evc_monitor_load_spec 𝓤 𝓛 𝓜 𝓡 wired =
    let c = f.clauses 𝓛 𝓜.mem 𝓡.returns in let W = walk_of 𝓛 f.ended stayed c in let 𝓣
    = tables 𝓤 𝓛.H 𝓜 𝓡 𝓡.env in
    proved 𝓛 f.ended stayed c 𝓜 𝓡 (
      Goes-dropped 𝓛 1 (plain (λ _. RawPtr)) yes (λ κs x w. refl),
      (Goes-gave_ref 𝓛 1 0 tt (plain (λ _. L)), tt),
    )
    f.Key.name code.function (code.unfolded 𝓤 𝓛.H 𝓜 𝓡 wired)
    (λ κs. (rawptr_vals, (mut_vals, tt))) (λ κs. (rawptr_Tells, (mut_Tells (named 0) κs.0 L, tt)))
    (λ κs qs bounds a old are.
    let y : Ptr → W.Ghost = λ p. (
      (
        κs,
        qs,
        bounds,
        (p, a.1),
        (
          rawptr_vals p,
          (mut_vals a.1.0, tt),
        ),
      ),
      old,
    ) in
    let Passed = ‵ ((MutRef (named 0) κs.0 L).own_val a.1.0 (mut_vals a.1.0)) in
    qed 𝓛 (((‵ (flft κs.0 qs.0) ⊛ ‵ ftrue) ⊛ ‵ (RawPtr.own_val a.0 (rawptr_vals a.0)) ⊛ Passed ⊛
    ‵ ftrue) ∷ ‵ (lies_at R full_share a.0 old) ∷ []) ∵
    split ! $ split ! $ move ! (2 ∷ []) $ split ! $ drop ! $ split ! $ keep ! (4 ∷ 2 ∷ 0 ∷ []) $
    in_a_block ! a.0 (λ p. lies_at R full_share p old) (id⊢ 𝓤 _) (λ b o e.
    regoal ! (λ p. prop (WpFn 𝓤 𝓛.H 𝓣.C 𝓣.Λ code.function (ptr_val p
    ∷ vptr a.1.0.ref_ptr.0 a.1.0.ref_ptr.1 ∷ []) (W.post (y p)))) e refl $
    let Ref = λ (κ' : List ℕ) (δ : ℕ). (MutRef (named 0) κ' R).own_val (lent b o δ old)
    (vptr b o ∷ []) in
    enter ! _ _ _ _ _ $ alloc_all ! (λ l. pass_all ! refl ((tt, tt), ((tt, tt), tt)) $
    -- [the monitor; the token of what else is passed; that; the locals]
    sets ! (of_opd ! (get ! refl)) refl (tt, tt) $
    sets ! (addr ! (through ! refl (stop !))) refl (tt, tt) $
    sets ! (addr ! (through ! refl (stop !))) refl (tt, tt) $
    lft_new ! tt (λ α. move ! (1 ∷ []) $
    use1 𝓛 (later (some (λ (δ : ℕ). ‵ (Ref (α ∷ []) δ) ⊛ ‵ (flent (α ∷ []) (Body
    (mem R) b o δ))))) (lends_ref 𝓛 R (named 0) (α ∷ []) old b o) $ await ! tt $
    pick ! (λ δ. split ! $
    let G = triple_of 𝓛 g.signature (g.spec 𝓛 𝓜.mem 𝓡.returns) in
    -- [the loan; what the lender keeps; the token of α; that of what else is passed; that]
    let z : G.Ghost = (
      (
        (α ∷ [], κs),
        (full_share, qs),
        tt,
        (lent b o δ old, a.1),
        (vptr b o ∷ [], (mut_vals a.1.0, tt)),
      ),
      tt,
    ) in
    nothing ! $ move ! (5 ∷ 0 ∷ []) $ join ! $ move ! (1 ∷ 0 ∷ []) $ join ! $
    nothing ! $ move ! (4 ∷ 0 ∷ []) $ join ! $ move ! (3 ∷ 0 ∷ []) $ join ! $ join ! $
    nothing ! $ move ! (1 ∷ 0 ∷ []) $ use2 𝓛 (raw (G.pre z)) (id⊢ 𝓤 _) $
    calls_at ! (framed 𝓤 𝓛.H 𝓜 (tables 𝓤 𝓛.H 𝓜 𝓡 𝓡.env)) G (met 𝓤 𝓛 𝓜 𝓡
    (code.calls-evc_c::monitor::Monitor::load 𝓡.env wired)) z
    (and_then ! (get ! refl) (and_then ! (get ! refl) (no_more !))) (λ v.
    use1 𝓛 (later (some (λ (r : Unit {0}). ((‵ (flft (α ∷ []) full_share) ⊛ (‵ (flft κs.0 qs.0) ⊛
    ‵ ftrue)) ⊛ ‵ (unit.own_val r (v ∷ []))) ⊛
    some (λ (ws : Monitor × (EvcLoad × Unit {0})). ‵ (lasts g.ended z.0.0 z.0.3 ws) ⊛ raw (fact 𝓤
    (ReportsLoad old ws.0 ws.1.0)))))) (id⊢ 𝓤 _) $
    await ! tt $ pick ! (λ r. split ! $ split ! $ split ! $ lft_end ! tt $ move ! (3 ∷ []) $
    pick ! (λ ws. split ! $
    move ! (1 ∷ []) $ heard ! _ (λ done_so. fsplit ! $ fsplit ! $
    -- [the last value; its borrow; the others' last values; α is over; the other token; the result;
    -- what the lender keeps]
    move ! (3 ∷ 6 ∷ 0 ∷ []) $
    use3 𝓛 (later (‵ (part_at R full_share ws.0 b o))) (ref_back 𝓛 R (α ∷ []) δ ws.0 b o) $
    await ! tt $
    -- [the monitor; its borrow; the others' last values; the other token; the result]
    move ! (4 ∷ []) $ feq_l ! (λ is. lands_as ! (ap only is) refl (tt, tt) $
    sets ! (of_opd ! (unit_lit !)) refl (tt, tt) $
    returns ! (look_at ! 0 refl) $ free_all ! refl $
    feq_i ! _ (vunit ∷ []) _ refl $
    move ! (3 ∷ []) $
    suffices ! _ (ends_at 𝓛 f.ended stayed c (y (block_ptr b o)) vunit tt (tt, (ws.1.0, tt)) (
      tt,
      (tt, tt),
    )) $
    -- [the result; the monitor; its borrow; the others' last values; the other token]
    -- [the load's last value; the result; the monitor; its borrow; the token]
    nothing ! $ join ! $ join ! $ move ! (3 ∷ 0 ∷ []) $ join ! $ frame ! $ keep ! (0 ∷ []) $
    show ! (λ (new : Monitor). sep 𝓤 (sem 𝓛 (lies_at R full_share (block_ptr b o) new)) (fact 𝓤
    (ReportsLoad old new ws.1.0))) ws.0 $
    says ! done_so $ done !))))))))))
