-- The steps of a call, by the entries of the run before and after it.
use Rattle.std.proofs.Common.{◌≡◌, ℕ, List, [], ◌∷◌, ◌++◌, reverse, sym, ap, ◌∙◌, subst, true}
use Rattle.std.proofs.lemmas.List.{reverse-append}
use Rattle.ec_count.specs.Tables.{Tables}
use Rattle.ec_core.specs.declared.act.Act.{Act}
use Rattle.ec_core.specs.declared.act.Act.TheVariants as acts
use Rattle.ec_core.specs.declared.act.Reply.{Reply}
use Rattle.ec_core.specs.declared.act.Reply.TheVariants as replies
use Rattle.ec_core.specs.declared.act.Entry.{Entry}
use Rattle.calls_kernel.specs.Outside.{is_call}
use Rattle.calls_replay.specs.kept.Going.{IsFree, IsGoing, Goes}
use Rattle.calls_replay.proofs.Going.{first_step, next_step}
use Rattle.ec_core.proofs.shared.Stepping.{entry}

newest : (es : List Entry) (x : Entry) → reverse (es ++ x ∷ []) ≡ x ∷ reverse es
newest es x = reverse-append es (x ∷ [])

-- the first step
pub begun : (t : Tables) (es late : List Entry) (w : ℕ) (act : Act) (reply : Reply)
    → late ≡ es ++ entry w act reply ∷ [] → is_call act ≡ true → IsFree (reverse es)
    → Goes t (reverse es) w act (reverse late) reply
begun t es late w act reply is c free =
    subst (λ (l : List Entry). Goes t (reverse es) w act l reply)
    (sym (ap reverse is ∙ newest es (entry w act reply)))
    (first_step t (reverse es) w act reply c free)

-- one more step
pub gone_on : (t : Tables) (es now late : List Entry) (w : ℕ) (act : Act) (before reply : Reply)
    → late ≡ now ++ entry w acts.Go reply ∷ [] → before ≡ replies.Pending
    → Goes t (reverse es) w act (reverse now) before
    → Goes t (reverse es) w act (reverse late) reply
gone_on t es now late w act before reply is pending g =
    let going : IsGoing t (reverse es) w act (reverse now) =
    subst (λ (r : Reply). Goes t (reverse es) w act (reverse now) r) pending g in
    subst (λ (l : List Entry). Goes t (reverse es) w act l reply)
    (sym (ap reverse is ∙ newest now (entry w acts.Go reply)))
    (next_step t (reverse es) w act (reverse now) reply going)
