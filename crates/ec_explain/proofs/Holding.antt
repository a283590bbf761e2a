-- One more worker that has a right.
use Rattle.std.proofs.Common.{◌≡◌, ℕ, ◌+◌, List, [], ◌∷◌, ◌++◌, refl, ap, sym, ◌∙◌, cond, add-one}
use Rattle.ec_count.specs.Tables.{Tables}
use Rattle.ec_core.specs.Acceptance.{has_right}
use Rattle.ec_core.specs.declared.act.Act.{Act}
use Rattle.ec_core.specs.declared.act.Entry.{Entry}
use Rattle.ec_explain.specs.Rights.{holders_of}

pub no_holder : (t : Tables) (past : List Entry) (act : Act) → [] ≡ holders_of t past act 0
unfolding holders_of
no_holder t past act = refl

pub more_holders : (t : Tables) (past : List Entry) (act : Act) (n : ℕ) (ws : List ℕ)
    → ws ≡ holders_of t past act n
    → ws ++ cond (has_right t past n act) (n ∷ []) [] ≡ holders_of t past act (n + 1)
unfolding holders_of
more_holders t past act n ws is =
    ap (λ z. z ++ cond (has_right t past n act) (n ∷ []) []) is
    ∙ ap (λ m. holders_of t past act m) (sym (add-one n))
