-- The calls that were answered are a prefix of the written list.
use Rattle.std.proofs.Common.{◌≡◌, ◌<◌, List, [], ◌∷◌, ◌++◌, append_assoc, length, take, Option, Some, ap, sym, ◌∙◌, arith, inl, inr}
use Rattle.std.proofs.lemmas.List.{append-nil, take-append-le}
use Rattle.std.proofs.Math.Seq.{take-append_seam}
use Rattle.ec_core.specs.declared.act.Act.{Act}
use Rattle.ec_core.specs.Following.{CompletedCall}
use Rattle.ec_core.specs.Procedures.{IsWritten}
use Rattle.ec_core.specs.Laws.{AnsweredCallsAreWritten}
use Rattle.ec_core.proofs.shared.Joining.{last_get}

-- a prefix of a written list, and the call that the list has next, are a prefix of it
pub written_more : (list : List CompletedCall → Option Act) (done : List CompletedCall) (c : CompletedCall) → IsWritten list done → list done ≡ Some c.op → IsWritten list (done ++ c ∷ [])
written_more list done c h next k d at =
    elim (last_get done c d k at) [
      | inl p ↦ (let lt : k < length done = p.1 in ap list (take-append-le k done (c ∷ []) (omega arith)) ∙ h k d p.0)
      | inr p ↦
          (let here : take k (done ++ c ∷ []) ≡ done = ap (λ n. take n (done ++ c ∷ [])) p.0 ∙ take-append_seam done (c ∷ []) in
          ap list here ∙ next ∙ ap (λ (e : CompletedCall). Some e.op) p.1)
    ]

pub answered : AnsweredCallsAreWritten
answered list rest after done op reply written represents due next = (
  written_more list done (record { op = op; reply = reply }) written (ap list (sym (append-nil done)) ∙ sym (represents []) ∙ due),
  λ calls. next calls ∙ represents (record { op = op; reply = reply } ∷ calls) ∙ ap list (sym (append_assoc done (record { op = op; reply = reply } ∷ []) calls)),
)
