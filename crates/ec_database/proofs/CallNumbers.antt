-- How many calls on a group a worker has completed.
use Rattle.std.proofs.Common.{◌≡◌, ℕ, ◌+◌, ◌≤◌, Bool, true, false, List, [], ◌∷◌, ◌++◌, length, append_assoc, refl, ap, sym, ◌∙◌, arith, subst, cond, ◌==◌}
use Rattle.std.proofs.lemmas.Bool.{eqb-true}
use Rattle.std.proofs.lemmas.List.{length-append, append-nil}
use Rattle.std.proofs.lemmas.List.Elements.{filter-append}
use Rattle.ec_core.specs.declared.act.Act.{Act}
use Rattle.ec_core.specs.declared.act.Entry.{Entry}
use Rattle.ec_core.specs.Calls.{is_pending}
use Rattle.ec_core.specs.Following.{CompletedCall, Rule, block}
use Rattle.ec_core.specs.JoinedLists.{completed_calls_of, calls_on}
use Rattle.ec_core.proofs.shared.FittingCalls.{list_after, told_at, block_is, finished_other, finished_same, finished_more}
use Rattle.ec_core.proofs.shared.Following.{op_at}
use Rattle.ec_core.proofs.shared.Reading.{began, began_block}

abbrev pub number : (Act → Bool) → ℕ → List Entry → ℕ
number on w past = length (calls_on on (completed_calls_of w past))

pub number_other : (on : Act → Bool) (w : ℕ) (x : Entry) (past : List Entry) → (x.worker == w) ≡ false → number on w (x ∷ past) ≡ number on w past
number_other on w x past h = ap (λ cs. length (calls_on on cs)) (finished_other w x past h)

pub number_pending : (on : Act → Bool) (x : Entry) (past : List Entry) → is_pending x.reply ≡ true → number on x.worker (x ∷ past) ≡ number on x.worker past
number_pending on x past h = ap (λ cs. length (calls_on on cs)) (finished_same x past h)

number_more : (on : Act → Bool) (x : Entry) (past : List Entry) → is_pending x.reply ≡ false
    → number on x.worker (x ∷ past) ≡ number on x.worker past + length (calls_on on (told_at x past ∷ []))
number_more on x past h =
    let before = completed_calls_of x.worker past in
    let new = told_at x past ∷ [] in
    ap (λ cs. length (calls_on on cs)) (finished_more x past h) ∙ ap length (filter-append (λ (c : CompletedCall). on c.op) before new) ∙ length-append (calls_on on before) (calls_on on new)

pub number_on : (on : Act → Bool) (x : Entry) (past : List Entry) → is_pending x.reply ≡ false → on (op_at x past) ≡ true → number on x.worker (x ∷ past) ≡ number on x.worker past + 1
number_on on x past h is = number_more on x past h ∙ ap (λ b. number on x.worker past + length (cond b (told_at x past ∷ []) [])) is

pub number_off : (on : Act → Bool) (x : Entry) (past : List Entry) → is_pending x.reply ≡ false → on (op_at x past) ≡ false → number on x.worker (x ∷ past) ≡ number on x.worker past
number_off on x past h is =
    (let same : number on x.worker (x ∷ past) ≡ number on x.worker past + 0 = number_more on x past h ∙ ap (λ b. number on x.worker past + length (cond b (told_at x past ∷ []) [])) is in
    omega arith)

pub number_rises : (on : Act → Bool) (w : ℕ) (x : Entry) (past : List Entry) → number on w past ≤ number on w (x ∷ past)
number_rises on w x past =
    elim (x.worker == w) as (λ b. (x.worker == w) ≡ b → number on w past ≤ number on w (x ∷ past)) [
      | true ↦ λ e.
          (let P : ℕ → Type 0 = λ v. number on v past ≤ number on v (x ∷ past) in
          subst P (eqb-true x.worker w e)
          (elim (is_pending x.reply) as (λ b. is_pending x.reply ≡ b → number on x.worker past ≤ number on x.worker (x ∷ past)) [
            | true ↦ λ p. (let same = number_pending on x past p in omega arith)
            | false ↦ λ p. (let more = number_more on x past p in omega arith)
          ] refl))
      | false ↦ λ e. (let same = number_other on w x past e in omega arith)
    ] refl

-- a list without end that each call is on
abbrev all_calls : Rule
all_calls = record { concerns = λ b op. true; fits = λ b op. true; ends = λ b. false }

after_all : (b calls : List CompletedCall) → list_after all_calls b calls ≡ b ++ calls
after_all b [] = sym (append-nil b)
after_all b (c ∷ calls) = after_all (b ++ c ∷ []) calls ∙ append_assoc b (c ∷ []) calls

all_finished : (w : ℕ) (past : List Entry) → block all_calls w past ≡ completed_calls_of w past
all_finished w past = block_is all_calls w past ∙ after_all [] (completed_calls_of w past)

-- as many are completed as when the call that an entry is part of began
pub number_began : (on : Act → Bool) (x : Entry) (past : List Entry) → number on x.worker (began x past) ≡ number on x.worker past
number_began on x past =
    ap (λ cs. length (calls_on on cs)) (sym (all_finished x.worker (began x past)) ∙ began_block all_calls x past ∙ all_finished x.worker past)
