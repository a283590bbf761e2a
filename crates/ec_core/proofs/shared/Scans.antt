-- What a pass stores of a worker, after one more entry.
use Rattle.std.proofs.Common.{◌≡◌, ℕ, ◌<◌, true, false, List, ◌∷◌, Some, None, refl, ap, sym, ◌∙◌, subst, cond, ◌==◌, slice_get, slice_set}
use Rattle.std.proofs.lemmas.Bool.{eqb-true, eq-eqb}
use Rattle.ec_core.specs.declared.act.Entry.{Entry}
use Rattle.ec_core.specs.declared.protocol.ListProgress.{ListProgress}
use Rattle.ec_core.specs.Calls.{under_way, call_with_act, is_pending}
use Rattle.ec_core.specs.Following.{CompletedCall, Rule, opening_act, block_after, block}
use Rattle.ec_core.specs.Scanning.{AreListProgress}
use Rattle.std.proofs.lemmas.Option.{slice_get_within}
use Rattle.ec_core.proofs.shared.Places.{get_set}
use Rattle.ec_core.proofs.shared.Following.{other_block, own_block}

pub call_own : (x : Entry) (past : List Entry) → under_way x.worker (x ∷ past) ≡ cond (is_pending x.reply) (call_with_act x.act past (under_way x.worker past)) None
unfolding under_way
call_own x past = rw (eq-eqb x.worker x.worker refl) refl

-- an entry leaves the pending calls of other workers as they are
pub call_other : (w : ℕ) (x : Entry) (past : List Entry) → (x.worker == w) ≡ false → under_way w (x ∷ past) ≡ under_way w past
unfolding under_way
call_other w x past h = rw h refl

pub set_is : {X : Type 0} (xs : List X) (i j : ℕ) (y was now : X) → slice_get xs i ≡ Some y → slice_get xs j ≡ Some was → (z : X) → ((i == j) ≡ true → z ≡ now) → ((i == j) ≡ false → was ≡ now) → slice_get (slice_set xs i z) j ≡ Some now
set_is {X} xs i j y was now at here z same other =
    get_set xs i j z (slice_get_within xs i y at)
    ∙ elim (i == j) as (λ b. (i == j) ≡ b → cond b (Some z) (slice_get xs j) ≡ Some now) [
      | true ↦ λ h. ap Some (same h)
      | false ↦ λ h. here ∙ ap Some (other h)
    ] refl

-- the progress in the lists, with that of its worker updated by an entry
pub lists_after : (rules : ℕ → Rule) (keeps : List CompletedCall → ListProgress) (kept : List ListProgress) (x : Entry) (past : List Entry) (k : ListProgress)
    → AreListProgress rules keeps kept past → x.worker < 16
    → k ≡ keeps (block_after (rules x.worker) (block (rules x.worker) x.worker past) (opening_act x.act (under_way x.worker past)) x.reply)
    → AreListProgress rules keeps (slice_set kept x.worker k) (x ∷ past)
lists_after rules keeps kept x past k s lt ek =
    λ w small. set_is kept x.worker w _ (keeps (block (rules w) w past)) (keeps (block (rules w) w (x ∷ past))) (s x.worker lt) (s w small) k
    (λ h. (let P : ℕ → Type 0 = λ v. k ≡ keeps (block (rules v) v (x ∷ past)) in subst P (eqb-true x.worker w h) (ek ∙ ap keeps (sym (own_block (rules x.worker) x past)))))
    (λ h. ap keeps (sym (other_block (rules w) w x past h)))
