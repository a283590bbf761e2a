-- Each value of a version is put once.
use Rattle.std.proofs.Common.{◌≡◌, ℕ, zero, suc, ◌+◌, ◌-◌, ◌<◌, ◌≤◌, true, false, List, [], ◌∷◌, Some, None, nat_lt, refl, ap, sym, ◌∙◌, arith, subst, cond, slice_get}
use Rattle.std.proofs.lemmas.Bool.{ltb-true, ltb-false}
use Rattle.ec_count.specs.Tables.{Tables}
use Rattle.ec_core.specs.declared.act.Entry.{Entry}
use Rattle.ec_core.specs.Counts.{past_at}
use Rattle.ec_core.specs.Following.{block}
use Rattle.ec_core.proofs.shared.Moments.{past_next, past_end, accepted_of}
use Rattle.ec_core.specs.Acceptance.{IsAccepted}
use Rattle.ec_database.specs.Shapes.{Database}
use Rattle.ec_database.specs.Calls.{drawn_turn}
use Rattle.ec_database.specs.Following.{writes, write_rule, try_rule, FollowsDatabase}
use Rattle.ec_database.specs.Versions.{PutsValue}
use Rattle.ec_database.specs.Laws.{IsFollowed, VersionsArePutOnce}
use Rattle.ec_database.proofs.Counting.{puts_at}
use Rattle.ec_database.proofs.Writing.{put_in_op}
use Rattle.ec_database.proofs.Turns.{put_turn, puts_more, puts_later}
use Rattle.ec_database.proofs.Undisturbed.{here, follow_of}

-- the puts into a cell at a later moment are as many at least
puts_step : (d : Database) (i : ℕ) (h : List Entry) (n : ℕ) → puts_at d i (past_at n h) ≤ puts_at d i (past_at (suc n) h)
puts_step d i h n =
    elim (slice_get h n) as (λ o. slice_get h n ≡ o → puts_at d i (past_at n h) ≤ puts_at d i (past_at (suc n) h)) [
      | Some x ↦ λ at.
          (let P : List Entry → Type 0 = λ p. puts_at d i (past_at n h) ≤ puts_at d i p in
          subst P (sym (past_next h n x at)) (puts_later d i (x ∷ []) (past_at n h)))
      | None ↦ λ at. (let same : puts_at d i (past_at (suc n) h) ≡ puts_at d i (past_at n h) = ap (puts_at d i) (past_end h n at) in omega arith)
    ] refl

puts_after : (d : Database) (i : ℕ) (h : List Entry) (m n : ℕ) → puts_at d i (past_at m h) ≤ puts_at d i (past_at (m + n) h)
puts_after d i h m zero = (let same : puts_at d i (past_at (m + 0) h) ≡ puts_at d i (past_at m h) = ap (λ k. puts_at d i (past_at k h)) (let z : m + 0 ≡ m = omega arith in z) in omega arith)
puts_after d i h m (suc n) =
    let before = puts_after d i h m n in
    let next = puts_step d i h (m + n) in
    let same : puts_at d i (past_at (m + suc n) h) ≡ puts_at d i (past_at (suc (m + n)) h) = ap (λ k. puts_at d i (past_at k h)) (let z : m + suc n ≡ suc (m + n) = omega arith in z) in
    omega arith

-- a put's turn is the number of puts into its cell before it
turn_is_count : (t : Tables) (d : Database) (h : List Entry) (k turn i v : ℕ) → IsFollowed t d h → i < d.cells → PutsValue t d h k turn i v → puts_at d i (past_at k h) ≡ turn
turn_is_count t d h k turn i v f lt p =
    let x = p.entry in
    let past = past_at k h in
    let with_past = here h k x p.is in
    let acc : IsAccepted t (x ∷ past) = accepted_of t h (x ∷ past) f.accepted with_past in
    let fol : FollowsDatabase t d (x ∷ past) = follow_of t d h (x ∷ past) f.followed with_past in
    sym (put_turn d (writes t d) t x past i v f.shape f.declared acc fol lt (sym (put_in_op (d.first_cell + i) t x past acc) ∙ p.puts))
    ∙ ap (λ b. drawn_turn (block (cond b (write_rule d) (try_rule d)) x.worker past)) p.writer ∙ p.drawn

-- a later put has a later turn
later_turn : (t : Tables) (d : Database) (h : List Entry) (j k turn i v w : ℕ) → IsFollowed t d h → i < d.cells → PutsValue t d h j turn i v → PutsValue t d h k turn i w → k ≤ j
later_turn t d h j k turn i v w f lt p q =
    elim (nat_lt j k) as (λ b. nat_lt j k ≡ b → k ≤ j) [
      | true ↦ λ e.
          (let before : j < k = ltb-true j k e in
          let a : puts_at d i (past_at j h) ≡ turn = turn_is_count t d h j turn i v f lt p in
          let b : puts_at d i (past_at k h) ≡ turn = turn_is_count t d h k turn i w f lt q in
          let more : puts_at d i (past_at (suc j) h) ≡ suc (puts_at d i (past_at j h)) = ap (puts_at d i) (past_next h j p.entry p.is) ∙ puts_more d i v p.entry (past_at j h) p.puts in
          let later : puts_at d i (past_at (suc j) h) ≤ puts_at d i (past_at (suc j + (k - suc j)) h) = puts_after d i h (suc j) (k - suc j) in
          let same : puts_at d i (past_at (suc j + (k - suc j)) h) ≡ puts_at d i (past_at k h) = ap (λ n. puts_at d i (past_at n h)) (let z : suc j + (k - suc j) ≡ k = omega arith in z) in
          absurd (omega arith))
      | false ↦ λ e. ltb-false j k e
    ] refl

pub put_once : VersionsArePutOnce
put_once t d h f j k turn i v w lt p q =
    let a = later_turn t d h j k turn i v w f lt p q in
    let b = later_turn t d h k j turn i w v f lt q p in
    omega arith
