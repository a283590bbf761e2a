-- Lists of packed events, and what they unpack to.
use Rattle.std.proofs.Common.{◌≡◌, ℕ, zero, suc, ◌+◌, ◌<◌, List, [], ◌∷◌, ◌++◌, length, get_or, take, refl, ap, sym, ◌∙◌, arith}
use Rattle.std.proofs.lemmas.List.{length-take-le, take_more}
use Rattle.calls_core.specs.declared.history.Event.{Event}
use Rattle.calls_core.specs.declared.packed.OpTag.TheVariants.{Advance}
use Rattle.calls_core.specs.declared.packed.ActionTag.TheVariants.{Invoke}
use Rattle.calls_core.specs.declared.packed.PackedEvent.{PackedEvent}
use Rattle.calls_core.specs.kept.Packed.{unpack_event, unpack_from}

pub length_unpacked : (i : ℕ) (ps : List PackedEvent) → length (unpack_from i ps) ≡ length ps
length_unpacked i [] = refl
length_unpacked i (p ∷ ps) = ap suc (length_unpacked (i + 1) ps)

pub unpacked_more : (i : ℕ) (ps : List PackedEvent) (p : PackedEvent) → unpack_from i (ps ++ p ∷ [])
    ≡ unpack_from i ps ++ unpack_event (i + length ps) p ∷ []
unpacked_more i [] p =
    let none : i ≡ i + 0 = omega arith in
    ap (λ n. unpack_event n p ∷ []) none
unpacked_more i (q ∷ ps) p =
    let index : (i + 1) + length ps ≡ i + suc (length ps) = omega arith in
    ap (λ xs. unpack_event i q ∷ xs) (unpacked_more (i + 1) ps p
    ∙ ap (λ n. unpack_from (i + 1) ps ++ unpack_event n p ∷ []) index)

unpacked_at : (i : ℕ) (ps : List PackedEvent) (k : ℕ) (p : PackedEvent) (d : Event)
    → k < length ps → p ≡ get_or ps k p
    → unpack_event (i + k) p ≡ get_or (unpack_from i ps) k d
unpacked_at i [] k p d lt is = absurd (omega arith)
unpacked_at i (q ∷ ps) zero p d lt is =
    let none : i + 0 ≡ i = omega arith in
    ap (λ n. unpack_event n p) none ∙ ap (unpack_event i) is
unpacked_at i (q ∷ ps) (suc k) p d lt is =
    let index : i + suc k ≡ (i + 1) + k = omega arith in
    ap (λ n. unpack_event n p) index ∙ unpacked_at (i + 1) ps k p d (omega arith) is

pub unpacked_first : (ps : List PackedEvent) (k : ℕ) (p : PackedEvent) (d : Event)
    → k < length ps → p ≡ get_or ps k p → unpack_event k p ≡ get_or (unpack_from 0 ps) k d
unpacked_first ps k p d lt is =
    let index : k ≡ 0 + k = omega arith in
    ap (λ n. unpack_event n p) index ∙ unpacked_at 0 ps k p d lt is

unpacked_step : (ps : List PackedEvent) (k : ℕ) (d : PackedEvent) → k < length ps
    → unpack_from 0 (take (k + 1) ps) ≡ unpack_from 0 (take k ps) ++ unpack_event k (get_or ps k d) ∷ []
unpacked_step ps k d lt =
    let index : 0 + length (take k ps) ≡ k = omega (arith, length-take-le k ps (omega arith)) in
    ap (unpack_from 0) (take_more ps k d lt) ∙ unpacked_more 0 (take k ps) (get_or ps k d)
    ∙ ap (λ n. unpack_from 0 (take k ps) ++ unpack_event n (get_or ps k d) ∷ []) index

-- the event that stands for one that is not in a list
abbrev pub no_event : PackedEvent
no_event = record { value = 0; object = 0; worker = 0; action = Invoke Advance }

-- one more event is widened: those before it are xs, and those up to it are ys
pub widened_more : (ps qs : List PackedEvent) (k : ℕ) (x : Event) (xs ys : List Event) → qs ≡ ps
    → k < length qs → xs ≡ unpack_from 0 (take k ps) → x ≡ unpack_event k (get_or qs k no_event)
    → ys ≡ xs ++ x ∷ [] → ys ≡ unpack_from 0 (take (k + 1) ps)
widened_more ps qs k x xs ys same lt before event more =
    more ∙ ap (λ zs. zs ++ x ∷ []) before
    ∙ ap (λ y. unpack_from 0 (take k ps) ++ y ∷ []) (event
    ∙ ap (λ zs. unpack_event k (get_or zs k no_event)) same)
    ∙ sym (unpacked_step ps k no_event (omega (arith, ap length same)))
