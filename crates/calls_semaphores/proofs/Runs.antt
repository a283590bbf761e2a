-- Legal sequential histories of a bank, by counting.
use Rattle.std.proofs.Common.{◌≡◌, ℕ, ◌+◌, ◌-◌, ◌<◌, ◌==◌, Bool, true, false, List, [], ◌∷◌, ◌++◌}
use Rattle.std.proofs.Common.{Some, refl, arith, count_by, Vec, cond, ◌&&◌, ◌||◌, subst, ap}
use Rattle.std.specs.declared.alloc.Global.{Global}
use Rattle.std.proofs.lemmas.Bool.{eqb-true}
use Rattle.calls_core.specs.declared.history.Kind.TheVariants.{Semaphores}
use Rattle.calls_core.specs.declared.history.Op.{Op}
use Rattle.calls_core.specs.declared.history.Op.TheVariants.{Advance, Read, Await, Ticket, P, V}
use Rattle.calls_core.specs.declared.history.Op.TheVariants.{PBoth, Put, Get, Produce, Consume}
use Rattle.calls_core.specs.declared.history.Reply.{Reply}
use Rattle.calls_core.specs.declared.history.Reply.TheVariants.{Done, Number, Timeout}
use Rattle.calls_core.specs.declared.history.Call.{Call}
use Rattle.calls_core.specs.Lists.{Each}
use Rattle.calls_core.specs.Histories.{Takes}
use Rattle.calls_core.specs.Linearizations.{Gives, after, set_at, IsLegalHistory}
use Rattle.calls_semaphores.specs.Banks.{adds, took}
use Rattle.calls_core.proofs.Counting.{one, count_cons}

abbrev pub took_of : ℕ → Call → Bool
took_of i c = took i c.op c.reply

abbrev pub added_of : ℕ → Call → Bool
added_of i c = adds i c.op

abbrev pub took_in : ℕ → List Call → ℕ
took_in i cs = count_by (took_of i) cs

abbrev pub added_in : ℕ → List Call → ℕ
added_in i cs = count_by (added_of i) cs

abbrev pub state_after : (ℕ → ℕ) → List Call → ℕ → ℕ
state_after m [] = m
state_after m (c ∷ cs) = state_after (after m c.op c.reply) cs

module _ (units : Vec ℕ Global) where
  abbrev pub IsOp : Op → Type 0
  IsOp op = Takes (Some (Semaphores units)) op

  -- one unit less at j
  less_at : (m : ℕ → ℕ) (i j : ℕ) → 0 < m j → set_at j (m j - 1) m i + one (j == i) ≡ m i
  less_at m i j lt =
      elim (j == i) as (λ b. (j == i) ≡ b → cond b (m j - 1) (m i) + one b ≡ m i) [
        | true ↦ λ e. subst (λ k. m j - 1 + 1 ≡ m k) (eqb-true j i e) (omega arith)
        | false ↦ λ e. omega arith
      ] refl

  more_at : (m : ℕ → ℕ) (i j : ℕ) → set_at j (m j + 1) m i ≡ m i + one (j == i)
  more_at m i j =
      elim (j == i) as (λ b. (j == i) ≡ b → cond b (m j + 1) (m i) ≡ m i + one b) [
        | true ↦ λ e. ap (λ k. m k + 1) (eqb-true j i e)
        | false ↦ λ e. omega arith
      ] refl

  both_at : (m : ℕ → ℕ) (i j k : ℕ) → 0 < m j → 0 < m k
      → set_at j (m j - 1) (set_at k (m k - 1) m) i + one ((j == i) || (k == i)) ≡ m i
  both_at m i j k lj lk =
      elim (j == i) as (λ b. (j == i) ≡ b → cond b (m j - 1) (set_at k (m k - 1) m i) + one
      (b || (k == i)) ≡ m i) [
        | true ↦ λ e. subst (λ n. m j - 1 + 1 ≡ m n) (eqb-true j i e) (omega arith)
        | false ↦ λ e. less_at m i k lk
      ] refl

  with_done : (b : Bool) → (b && true) ≡ b
  with_done true = refl
  with_done false = refl

  without_done : (b : Bool) → (b && false) ≡ false
  without_done true = refl
  without_done false = refl

  one_step : (m : ℕ → ℕ) (i : ℕ) (op : Op) (r : Reply) → IsOp op → Gives m op r
      → after m op r i + one (took i op r) ≡ m i + one (adds i op)
  one_step m i (P j) Done s g = omega (arith, less_at m i j g, ap one (with_done (j == i)))
  one_step m i (P j) (Number n) s g = absurd g
  one_step m i (P j) Timeout s g = omega (arith, ap one (without_done (j == i)))
  one_step m i (V j) r s g = omega (arith, more_at m i j)
  one_step m i (PBoth j k) Done s g = omega (
    arith,
    both_at m i j k g.0 g.1,
    ap one
        (with_done ((j == i) || (k == i))),
  )
  one_step m i (PBoth j k) (Number n) s g = absurd g
  one_step m i (PBoth j k) Timeout s g = omega (arith, ap one (without_done ((j == i) || (k == i))))
  one_step m i Advance r s g = absurd s
  one_step m i Read r s g = absurd s
  one_step m i (Await v) r s g = absurd s
  one_step m i Ticket r s g = absurd s
  one_step m i (Put v) r s g = absurd s
  one_step m i Get r s g = absurd s
  one_step m i (Produce v) r s g = absurd s
  one_step m i Consume r s g = absurd s

  pub run_count : (m : ℕ → ℕ) (i : ℕ) (cs : List Call) → Each (λ c. IsOp c.op) cs
      → IsLegalHistory m cs
      → state_after m cs i + took_in i cs ≡ m i + added_in i cs
  run_count m i [] s run = refl
  run_count m i (c ∷ cs) s run =
      omega (
        arith,
        run_count (after m c.op c.reply) i cs s.1 run.1,
        one_step m i c.op c.reply s.0 run.0,
        count_cons (took_of i) c cs,
        count_cons (added_of i) c cs,
      )

pub run_left : (m : ℕ → ℕ) (xs ys : List Call) → IsLegalHistory m (xs ++ ys) → IsLegalHistory m xs
run_left m [] ys run = tt
run_left m (x ∷ xs) ys run = (run.0, run_left (after m x.op x.reply) xs ys run.1)

pub run_more : (m : ℕ → ℕ) (xs : List Call) (c : Call) → IsLegalHistory m xs
    → Gives (state_after m xs) c.op c.reply → IsLegalHistory m (xs ++ c ∷ [])
run_more m [] c run g = (g, tt)
run_more m (x ∷ xs) c run g = (run.0, run_more (after m x.op x.reply) xs c run.1 g)

-- a call is replaced by one with the same operation and reply
pub run_changed : (m : ℕ → ℕ) (xs : List Call) (c d : Call) (ys : List Call) → c.op ≡ d.op
    → c.reply ≡ d.reply
    → IsLegalHistory m (xs ++ c ∷ ys) → IsLegalHistory m (xs ++ d ∷ ys)
run_changed m [] c d ys e f run = (
  subst (λ o. Gives m o d.reply) e (subst (λ r. Gives m c.op r) f run.0),
  subst (λ o. IsLegalHistory (after m o d.reply) ys) e
      (subst (λ r. IsLegalHistory (after m c.op r) ys) f run.1),
)
run_changed m (x ∷ xs) c d ys e f run = (
  run.0,
  run_changed (after m x.op x.reply) xs c d ys e f
      run.1,
)
