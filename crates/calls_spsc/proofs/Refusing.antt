-- Histories whose items do not flow.
use Rattle.std.proofs.Common.{◌≡◌, inl, inr, ℕ, ◌+◌, ◌<◌, List, [], ◌∷◌, ◌++◌, length}
use Rattle.std.proofs.Common.{sym, ◌∙◌, arith, append-nil, append_assoc, length-append, slice_get}
use Rattle.std.proofs.Common.{Some, ap}
use Rattle.std.proofs.Math.Seq.{get_or-append_seam}
use Rattle.std.proofs.lemmas.Option.{slice_get-get_or}
use Rattle.calls_core.specs.declared.history.Event.{Event}
use Rattle.calls_spsc.specs.Flows.{put_items, taken_items, asked_items, Flows}
use Rattle.calls_spsc.specs.Monitors.{produced_items, IsOverfull, IsShort}

flows_length : (n : ℕ) (past : List Event) (f : Flows n past)
    → length (put_items past) + length f.late_puts
    ≡ length (taken_items past) + length f.late_takes + length f.left
flows_length n past f =
    sym (length-append (put_items past) f.late_puts) ∙ ap length f.order
    ∙ length-append (taken_items past ++ f.late_takes) f.left
    ∙ ap (λ k. k + length f.left) (length-append (taken_items past) f.late_takes)

pub overfull_stops : (n : ℕ) (past : List Event) → IsOverfull n past → Flows n past → ⊥
overfull_stops n past over f =
    let few = f.few_takes in
    let room = f.room in
    let e = flows_length n past f in
    omega arith

pub short_stops : (n : ℕ) (past : List Event) → IsShort past → Flows n past → ⊥
short_stops n past short f =
    let e = flows_length n past f in
    let all = length-append (put_items past) (asked_items past) in
    elim f.asked [
      | inl none ↦ (let z : length f.late_puts ≡ 0 = ap length none in omega arith)
      | inr some ↦ (let z : length f.late_puts ≡ length (asked_items past) = ap length some in
          omega arith)
    ]

pub at_seam : (xs : List ℕ) (v : ℕ) (ys : List ℕ)
    → slice_get (xs ++ v ∷ ys) (length xs) ≡ Some v
at_seam xs v ys =
    let e = length-append xs (v ∷ ys) in
    let in_it : length xs < length (xs ++ v ∷ ys) = omega arith in
    slice_get-get_or (xs ++ v ∷ ys) (length xs) v in_it
    ∙ ap (λ w. Some w) (get_or-append_seam xs v ys v)

-- the consume returned v, but h was next
pub other_stops : (n : ℕ) (past : List Event) (xs : List ℕ) (v h : ℕ)
    → taken_items past ≡ xs ++ v ∷ [] → slice_get (produced_items past) (length xs) ≡ Some h
    → (v ≡ h → ⊥) → Flows n past → ⊥
other_stops n past xs v h taken next ne f =
    let all : (zs : List ℕ) → produced_items past ≡ (put_items past ++ f.late_puts) ++ zs → ⊥ =
    λ zs is. (let flow : produced_items past ≡ xs ++ v ∷ (f.late_takes ++ (f.left ++ zs)) =
    is ∙ ap (λ ys. ys ++ zs) (f.order ∙ ap (λ ts. (ts ++ f.late_takes) ++ f.left) taken)
    ∙ regroup f.late_takes f.left zs in
    let both : Some v ≡ Some h = sym (at_seam xs v (f.late_takes ++ (f.left ++ zs)))
    ∙ ap (λ ys. slice_get ys (length xs)) (sym flow) ∙ next in ne cc) in
    elim f.asked [
      | inl none ↦ all (asked_items past) (ap (λ ys. ys ++ asked_items past)
          (sym (append-nil (put_items past)) ∙ ap (λ ys. put_items past ++ ys) (sym none)))
      | inr some ↦ all [] (ap (λ ys. put_items past ++ ys) (sym some)
          ∙ sym (append-nil (put_items past ++ f.late_puts)))
    ]
  where
    regroup : (ys zs us : List ℕ)
        → (((xs ++ v ∷ []) ++ ys) ++ zs) ++ us ≡ xs ++ v ∷ (ys ++ (zs ++ us))
    regroup ys zs us = simp append_assoc
