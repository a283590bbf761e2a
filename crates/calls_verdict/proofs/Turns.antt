-- The requirements of the decision on the object with the next index.
use Rattle.std.proofs.Common.{◌≡◌, ℕ, zero, suc, ◌+◌, ◌<◌, ◌≤◌, ◌^◌, List, [], ◌∷◌, length, reverse}
use Rattle.std.proofs.Common.{get_or, map, Some, refl, ap, sym, ◌∙◌, arith, subst, slice_get}
use Rattle.std.proofs.lemmas.Option.{slice_get_read}
use Rattle.std.proofs.lemmas.List.{get_or-map, length-map}
use Rattle.calls_core.specs.declared.history.Kind.{Kind}
use Rattle.calls_core.specs.declared.history.Event.{Event}
use Rattle.calls_core.specs.Lists.{EachFrom}
use Rattle.calls_core.specs.Parts.{events_at}
use Rattle.calls_core.specs.Histories.{clock, part, IsHistory, IsHistoryOf}
use Rattle.calls_local.proofs.Parts.{part_history_of, part_clock}
use Rattle.calls_verdict.specs.declared.verdict.Decision.{Decision}
use Rattle.calls_verdict.specs.declared.verdict.Decision.TheVariants.{Ordered, Refused, Open}
use Rattle.calls_verdict.specs.Verdicts.{IsDecision}
use Rattle.calls_verdict.specs.kept.Parts.{IsPart, AreParts}
use Rattle.calls_verdict.specs.kept.Findings.{HasRoom}

each_at : (past : List Event) (i k : ℕ) (parts : List (List Event)) (own : List Event)
    → k < length parts
    → own ≡ get_or parts k own → EachFrom (IsPart past) i parts
    → reverse own ≡ part (i + k) past
each_at past i k [] own lt is h = absurd (omega arith)
each_at past i zero (p ∷ parts) own lt is h =
    (let same : i + 0 ≡ i = omega arith in
    ap reverse is ∙ h.0 ∙ ap (λ j. part j past) (sym same))
each_at past i (suc k) (p ∷ parts) own lt is h =
    (let same : i + 1 + k ≡ i + suc k = omega arith in
    each_at past (i + 1) k parts own (omega arith) is h.1 ∙ ap (λ j. part j past) same)

-- the index in a refusal is that of an event
pub decision_room : (kind : Kind) (own : List Event) (t : ℕ) (d : Decision)
    → IsHistoryOf kind (reverse own)
    → clock (reverse own) ≤ t → t < 2 ^ 64 → IsDecision kind own t d → HasRoom own d
decision_room kind own t (Refused i f) h le fits is = is.within
decision_room kind own t (Open i u) h le fits is = tt
decision_room kind own t (Ordered cs) h le fits is = tt

module _ (kinds : List Kind) (events : List Event) (h : IsHistory kinds (reverse events))
    (parts : List (List ℕ))
    (p : AreParts (length kinds) (reverse events) (map (events_at events) parts)) (k : ℕ)
    (lt : k < length kinds) (kind : Kind)
    (read : kind ≡ get_or kinds k kind) (own : List ℕ) (of : own ≡ get_or parts k own)
    (list : List Event) (is : list ≡ events_at events own) where
  within : k < length (map (events_at events) parts)
  within = omega (arith, p.count)

  own_at : events_at events own ≡ get_or (map (events_at events) parts) k (events_at events own)
  own_at = ap (events_at events) of
      ∙ sym (get_or-map (events_at events) parts k own (events_at events own)
      (omega (arith, within, length-map parts (events_at events))))

  pub turn_kind : slice_get kinds k ≡ Some kind
  turn_kind = slice_get_read kinds (length kinds) k kind refl lt read

  pub turn_part : reverse list ≡ part k (reverse events)
  turn_part =
      (let zero_plus : 0 + k ≡ k = omega arith in
      ap reverse is
      ∙ each_at (reverse events) 0 k (map (events_at events) parts) (events_at events own) within
      own_at p.each ∙ ap (λ j. part j (reverse events)) zero_plus)

  pub turn_history : IsHistoryOf kind (reverse list)
  turn_history = subst (IsHistoryOf kind) (sym turn_part) (part_history_of kinds k kind
      (reverse events) h turn_kind)

  pub turn_end : clock (reverse list) ≤ clock (reverse events)
  turn_end = subst (λ q. clock q ≤ clock (reverse events)) (sym turn_part)
      (part_clock kinds k (reverse events) h)

  pub turn_added : (end : ℕ) (d : Decision) → end ≡ clock (reverse events)
      → clock (reverse events) < 2 ^ 64
      → IsDecision kind list end d → HasRoom list d
  turn_added end d same fits is =
      decision_room kind list end d turn_history (omega (arith, turn_end)) (omega arith) is
