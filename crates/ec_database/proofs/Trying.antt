-- The phase of a snapshot by index is its state by calls.
use Rattle.std.proofs.Common.{◌≡◌, ◌≢◌, ℕ, suc, ◌+◌, ◌-◌, ◌<◌, ◌≤◌, Bool, true, false, not, ◌&&◌, List, [], ◌∷◌, ◌++◌, length, map, take, drop, Some, None, is_some, nat_lt, refl, ap, sym, ◌∙◌, arith, subst, cond, ◌==◌}
use Rattle.std.proofs.lemmas.Bool.{eqb-true, eqb-false, eq-eqb, ne_eqb, ltb-true, ltb-false, lt-ltb, le-ltb}
use Rattle.std.proofs.lemmas.List.{length-append, map-append, take_all, take-append-le}
use Rattle.std.proofs.Math.Seq.{drop-append_seam}
use Rattle.ec_core.specs.declared.act.Act.TheVariants.{Read, Get}
use Rattle.ec_core.specs.Following.{CompletedCall}
use Rattle.ec_core.specs.CallLists.{reply_number}
use Rattle.ec_database.specs.declared.ending.SnapshotEnd.TheVariants.{Accepted, Disturbed}
use Rattle.ec_database.specs.Shapes.{Database}
use Rattle.ec_database.specs.Calls.{first_number, try_call}
use Rattle.ec_database.specs.Snapshots.{is_whole, version_read, values_got, agrees, TryState, try_again, after_call, trying_after, trying, snapshot_call, end_of_calls, snapshot_end}
use Rattle.ec_database.specs.SnapshotPhases.{SnapshotPhase, try_at, phase_at_end, next_phase, phase_after, snapshot_rest, end_at}

-- a try is whole after its second read
pub whole_is : (d : Database) (calls : List CompletedCall) → is_whole d calls ≡ nat_lt (d.cells + 2) (length calls)
whole_is d [] = sym (le-ltb (d.cells + 2) 0 (omega arith))
whole_is d (w ∷ []) = sym (le-ltb (d.cells + 2) 1 (omega arith))
whole_is d (w ∷ a ∷ gets) =
    elim (nat_lt (length gets) d.cells) as (λ b. nat_lt (length gets) d.cells ≡ b
    → not (is_some (cond b (Some (Get (d.first_cell + length gets))) (cond (length gets == d.cells) (Some (Read d.start)) None))) ≡ nat_lt (d.cells + 2) (length (w ∷ a ∷ gets))) [
      | true ↦ λ h. (let lt : length gets < d.cells = ltb-true (length gets) d.cells h in sym (le-ltb (d.cells + 2) (length (w ∷ a ∷ gets)) (omega arith)))
      | false ↦ λ h.
          (let ge : d.cells ≤ length gets = ltb-false (length gets) d.cells h in
          elim (length gets == d.cells) as (λ b. (length gets == d.cells) ≡ b → not (is_some (cond b (Some (Read d.start)) None)) ≡ nat_lt (d.cells + 2) (length (w ∷ a ∷ gets))) [
            | true ↦ λ e. (let same : length gets ≡ d.cells = eqb-true (length gets) d.cells e in sym (le-ltb (d.cells + 2) (length (w ∷ a ∷ gets)) (omega arith)))
            | false ↦ λ e. (let other : length gets ≢ d.cells = eqb-false (length gets) d.cells e in sym (lt-ltb (d.cells + 2) (length (w ∷ a ∷ gets)) (omega arith)))
          ] refl)
    ] refl

-- the phase is that of the calls
pub record IsPlaced (d : Database) (p : SnapshotPhase) (s : TryState) : Type 0 where
  pub left : p.left ≡ s.left
  pub at : p.at ≡ length s.calls
  pub few : length s.calls ≤ d.cells + 3
  pub version : 0 < length s.calls → p.version ≡ version_read s.calls
  pub values : p.values ≡ values_got d s.calls
  pub agreed : length s.calls ≡ d.cells + 3 → p.agreed ≡ agrees d s.calls

lt_two : (n c : ℕ) → nat_lt (suc (suc n)) (c + 2) ≡ nat_lt n c
lt_two n c =
    elim (nat_lt n c) as (λ b. nat_lt n c ≡ b → nat_lt (suc (suc n)) (c + 2) ≡ b) [
      | true ↦ λ h. (let lt : n < c = ltb-true n c h in lt-ltb (suc (suc n)) (c + 2) (omega arith))
      | false ↦ λ h. (let ge : c ≤ n = ltb-false n c h in le-ltb (suc (suc n)) (c + 2) (omega arith))
    ] refl

eq_two : (n c : ℕ) → (suc (suc n) == c + 2) ≡ (n == c)
eq_two n c =
    elim (n == c) as (λ b. (n == c) ≡ b → (suc (suc n) == c + 2) ≡ b) [
      | true ↦ λ h. (let same : n ≡ c = eqb-true n c h in eq-eqb (suc (suc n)) (c + 2) (omega arith))
      | false ↦ λ h. (let other : n ≢ c = eqb-false n c h in ne_eqb (suc (suc n)) (c + 2) (λ e. other (omega arith)))
    ] refl

try_at_get : (d : Database) (n v : ℕ) → try_at d (suc (suc n)) v ≡ cond (nat_lt n d.cells) (Some (Get (d.first_cell + n))) (cond (n == d.cells) (Some (Read d.start)) None)
try_at_get d n v =
    let zeroth : (suc (suc n) == 0) ≡ false = ne_eqb (suc (suc n)) 0 (λ e. omega arith) in
    let first : (suc (suc n) == 1) ≡ false = ne_eqb (suc (suc n)) 1 (λ e. omega arith) in
    let back : suc (suc n) - 2 ≡ n = omega arith in
    rw (zeroth, first, lt_two n d.cells, eq_two n d.cells, back) refl

same_call : (d : Database) (p : SnapshotPhase) (left : ℕ) (calls : List CompletedCall) → IsPlaced d p (record { left = left; calls = calls }) → try_at d p.at p.version ≡ try_call d calls
same_call d p left [] h = ap (λ n. try_at d n p.version) h.at
same_call d p left (w ∷ []) h = ap (λ n. try_at d n p.version) h.at ∙ ap (λ v. try_at d 1 v) (h.version (omega arith))
same_call d p left (w ∷ a ∷ gets) h = ap (λ n. try_at d n p.version) h.at ∙ try_at_get d (length gets) p.version

whole_at : (c n : ℕ) → n ≤ c + 3 → (n == c + 3) ≡ nat_lt (c + 2) n
whole_at c n le =
    elim (nat_lt (c + 2) n) as (λ b. nat_lt (c + 2) n ≡ b → (n == c + 3) ≡ b) [
      | true ↦ λ h. (let lt : c + 2 < n = ltb-true (c + 2) n h in eq-eqb n (c + 3) (omega arith))
      | false ↦ λ h. (let ge : n ≤ c + 2 = ltb-false (c + 2) n h in ne_eqb n (c + 3) (λ e. omega arith))
    ] refl

same_end : (d : Database) (p : SnapshotPhase) (s : TryState) → IsPlaced d p s
    → end_at d p ≡ end_of_calls d s.calls
same_end d p s h =
    let few : length s.calls ≤ d.cells + 3 = h.few in
    let test : (p.at == d.cells + 3) ≡ is_whole d s.calls = ap (λ n. n == d.cells + 3) h.at ∙ whole_at d.cells (length s.calls) few ∙ sym (whole_is d s.calls) in
    elim (is_whole d s.calls) as (λ b. is_whole d s.calls ≡ b → cond (p.at == d.cells + 3) (Some (cond p.agreed (Accepted p.version (record { items = p.values })) Disturbed)) None
    ≡ cond b (Some (cond (agrees d s.calls) (Accepted (version_read s.calls) (record { items = values_got d s.calls })) Disturbed)) None) [
      | true ↦ λ e.
          (let lt : d.cells + 2 < length s.calls = ltb-true (d.cells + 2) (length s.calls) (sym (whole_is d s.calls) ∙ e) in
          let agreed : p.agreed ≡ agrees d s.calls = h.agreed (omega arith) in
          let version : p.version ≡ version_read s.calls = h.version (omega arith) in
          rw (test ∙ e, agreed, version, h.values) refl)
      | false ↦ λ e. (rw (test ∙ e) refl)
    ] refl

-- ONE MORE CALL

next_first : (d : Database) (p : SnapshotPhase) (n : ℕ) → p.at ≡ 0 → next_phase d p n ≡ record p { at = 1; version = n }
next_first d p n e = rw (eq-eqb p.at 0 e) refl

next_second : (d : Database) (p : SnapshotPhase) (n : ℕ) → p.at ≡ 1
    → next_phase d p n ≡ record p { at = 2 }
next_second d p n e = rw (ne_eqb p.at 0 (λ z. omega arith), eq-eqb p.at 1 e) refl

next_get : (d : Database) (p : SnapshotPhase) (n : ℕ) → 2 ≤ p.at → p.at < d.cells + 2 → next_phase d p n ≡ record p { at = p.at + 1; values = p.values ++ n ∷ [] }
next_get d p n ge lt = rw (ne_eqb p.at 0 (λ z. omega arith), ne_eqb p.at 1 (λ z. omega arith), lt-ltb p.at (d.cells + 2) lt) refl

next_end : (d : Database) (p : SnapshotPhase) (n : ℕ) → p.at ≡ d.cells + 2 → next_phase d p n ≡ phase_at_end p (n == p.version)
next_end d p n e =
    rw (ne_eqb p.at 0 (λ z. omega arith), ne_eqb p.at 1 (λ z. omega arith), le-ltb p.at (d.cells + 2) (omega arith), eq-eqb p.at (d.cells + 2) e) refl

next_over : (d : Database) (p : SnapshotPhase) (n : ℕ) → d.cells + 2 < p.at → next_phase d p n ≡ p
next_over d p n gt =
    rw (ne_eqb p.at 0 (λ z. omega arith), ne_eqb p.at 1 (λ z. omega arith), le-ltb p.at (d.cells + 2) (omega arith), ne_eqb p.at (d.cells + 2) (λ z. omega arith)) refl

-- a call that does not end the try
goes_on : (d : Database) (left : ℕ) (calls : List CompletedCall) → length calls ≤ d.cells + 2 → try_again d (record { left = left; calls = calls }) ≡ record { left = left; calls = calls }
goes_on d left calls le = (let no : is_whole d calls ≡ false = whole_is d calls ∙ le-ltb (d.cells + 2) (length calls) le in rw no refl)

placed_more : (d : Database) (p : SnapshotPhase) (left : ℕ) (calls : List CompletedCall) (c : CompletedCall) → IsPlaced d p (record { left = left; calls = calls }) → length calls < d.cells + 2
    → IsPlaced d (next_phase d p (reply_number c.reply)) (record { left = left; calls = calls ++ c ∷ [] })
placed_more d p left [] c h lt =
    let P : SnapshotPhase → Type 0 = λ q. IsPlaced d q (record { left = left; calls = c ∷ [] }) in
    subst P (sym (next_first d p (reply_number c.reply) h.at))
    (record { left = h.left; at = refl; few = omega arith; version = λ some. refl; values = h.values; agreed = λ e. absurd (omega arith) })
placed_more d p left (w ∷ []) c h lt =
    let P : SnapshotPhase → Type 0 =
    λ q. IsPlaced d q (record { left = left; calls = w ∷ c ∷ [] }) in
    subst P (sym (next_second d p (reply_number c.reply) h.at))
    (record { left = h.left; at = refl; few = omega arith; version = λ some. h.version (omega arith); values = h.values ∙ sym (ap (map (λ (z : CompletedCall). reply_number z.reply)) (take_all d.cells [] (omega arith))); agreed = λ e. absurd (omega arith) })
placed_more d p left (w ∷ a ∷ gets) c h lt =
    let P : SnapshotPhase → Type 0 = λ q. IsPlaced d q (record { left = left; calls = w ∷ a ∷ (gets ++ c ∷ []) }) in
    let at : p.at ≡ suc (suc (length gets)) = h.at in
    let longer : length (gets ++ c ∷ []) ≡ length gets + 1 = length-append gets (c ∷ []) in
    let few : length gets < d.cells = omega arith in
    let before : take d.cells gets ≡ gets = take_all d.cells gets (omega arith) in
    let all : take d.cells (gets ++ c ∷ []) ≡ gets ++ c ∷ [] = take_all d.cells (gets ++ c ∷ []) (omega arith) in
    subst P (sym (next_get d p (reply_number c.reply) (omega arith) (omega arith)))
    (record {
      left = h.left;
      at = omega arith;
      few = omega arith;
      version = λ some. h.version (omega arith);
      values = ap (λ vs. vs ++ reply_number c.reply ∷ []) (h.values ∙ ap (map (λ (z : CompletedCall). reply_number z.reply)) before) ∙ sym (map-append (λ (z : CompletedCall). reply_number z.reply) gets (c ∷ [])) ∙ sym (ap (map (λ (z : CompletedCall). reply_number z.reply)) all);
      agreed = λ e. absurd (omega arith);
    })

-- the last call of a try
placed_last : (d : Database) (p : SnapshotPhase) (left : ℕ) (w a : CompletedCall) (gets : List CompletedCall) (c : CompletedCall) → IsPlaced d p (record { left = left; calls = w ∷ a ∷ gets }) → length gets ≡ d.cells
    → IsPlaced d (next_phase d p (reply_number c.reply)) (try_again d (record { left = left; calls = w ∷ a ∷ (gets ++ c ∷ []) }))
placed_last d p left w a gets c h len =
    let at : p.at ≡ suc (suc (length gets)) = h.at in
    let longer : length (gets ++ c ∷ []) ≡ length gets + 1 = length-append gets (c ∷ []) in
    let whole : is_whole d (w ∷ a ∷ (gets ++ c ∷ [])) ≡ true = whole_is d (w ∷ a ∷ (gets ++ c ∷ [])) ∙ lt-ltb (d.cells + 2) (length (w ∷ a ∷ (gets ++ c ∷ []))) (omega arith) in
    let again : drop d.cells (gets ++ c ∷ []) ≡ c ∷ [] = ap (λ n. drop n (gets ++ c ∷ [])) (sym len) ∙ drop-append_seam gets (c ∷ []) in
    let prefix : take d.cells (gets ++ c ∷ []) ≡ take d.cells gets = take-append-le d.cells gets (c ∷ []) (omega arith) in
    let version : p.version ≡ reply_number w.reply = h.version (omega arith) in
    let agreed : agrees d (w ∷ a ∷ (gets ++ c ∷ [])) ≡ (reply_number c.reply == p.version) = ap (λ cs. first_number cs == reply_number w.reply) again ∙ ap (λ v. reply_number c.reply == v) (sym version) in
    let now : List CompletedCall = w ∷ a ∷ (gets ++ c ∷ []) in
    let stay : TryState = record { left = left; calls = now } in
    let next : TryState = record { left = left - 1; calls = [] } in
    let test : Bool = not (reply_number c.reply == p.version) && nat_lt 1 left in
    let trying_is : try_again d stay ≡ cond test next stay =
    ap (λ b. cond (b && not (agrees d now) && nat_lt 1 left) next stay) whole ∙ ap (λ b. cond (not b && nat_lt 1 left) next stay) agreed in
    let begun : SnapshotPhase = record p { left = p.left - 1; at = 0; values = [] } in
    let ended : SnapshotPhase =
    record p { at = p.at + 1; agreed = reply_number c.reply == p.version } in
    let place_is : next_phase d p (reply_number c.reply) ≡ cond test begun ended =
    next_end d p (reply_number c.reply) (omega arith) ∙ ap (λ n. cond (not (reply_number c.reply == p.version) && nat_lt 1 n) begun ended) h.left in
    let P : SnapshotPhase → Type 0 = λ q. IsPlaced d q (try_again d stay) in
    let Q : TryState → Type 0 = λ z. IsPlaced d (cond test begun ended) z in
    subst P (sym place_is) (subst Q (sym trying_is)
    (elim test as (λ b. IsPlaced d (cond b begun ended) (cond b next stay)) [
      | true ↦ record { left = ap (λ n. n - 1) h.left; at = refl; few = omega arith; version = λ some. absurd (omega arith); values = refl; agreed = λ e. absurd (omega arith) }
      | false ↦ record {
        left = h.left;
        at = omega arith;
        few = omega arith;
        version = λ some. version;
        values = h.values ∙ sym (ap (map (λ (z : CompletedCall). reply_number z.reply)) prefix);
        agreed = λ e. sym agreed;
      }
    ]))

no_last : (d : Database) (p : SnapshotPhase) (left : ℕ) (calls : List CompletedCall) (c : CompletedCall) → IsPlaced d p (record { left = left; calls = calls }) → length calls ≡ d.cells + 2
    → IsPlaced d (next_phase d p (reply_number c.reply)) (try_again d (record { left = left; calls = calls ++ c ∷ [] }))
no_last d p left [] c h len = absurd (omega arith)
no_last d p left (w ∷ []) c h len = absurd (omega arith)
no_last d p left (w ∷ a ∷ gets) c h len = placed_last d p left w a gets c h (omega arith)

placed_next : (d : Database) (p : SnapshotPhase) (left : ℕ) (calls : List CompletedCall) (c : CompletedCall) → IsPlaced d p (record { left = left; calls = calls })
    → IsPlaced d (next_phase d p (reply_number c.reply)) (after_call d (record { left = left; calls = calls }) c)
placed_next d p left calls c h =
    let few : length calls ≤ d.cells + 3 = h.few in
    let place : p.at ≡ length calls = h.at in
    let longer : length (calls ++ c ∷ []) ≡ length calls + 1 = length-append calls (c ∷ []) in
    let next : SnapshotPhase = next_phase d p (reply_number c.reply) in
    let stay : TryState = record { left = left; calls = calls } in
    elim (is_whole d calls) as (λ b. is_whole d calls ≡ b → IsPlaced d next (cond b stay (try_again d (record { left = left; calls = calls ++ c ∷ [] })))) [
      | true ↦ λ e.
          (let over : d.cells + 2 < length calls = ltb-true (d.cells + 2) (length calls) (sym (whole_is d calls) ∙ e) in
          let P : SnapshotPhase → Type 0 = λ q. IsPlaced d q stay in
          subst P (sym (next_over d p (reply_number c.reply) (omega arith))) h)
      | false ↦ λ e.
          (let under : length calls ≤ d.cells + 2 = ltb-false (d.cells + 2) (length calls) (sym (whole_is d calls) ∙ e) in
          elim (nat_lt (length calls) (d.cells + 2)) as (λ b. nat_lt (length calls) (d.cells + 2) ≡ b → IsPlaced d next (try_again d (record { left = left; calls = calls ++ c ∷ [] }))) [
            | true ↦ λ k.
                (let lt : length calls < d.cells + 2 = ltb-true (length calls) (d.cells + 2) k in
                let P : TryState → Type 0 = λ z. IsPlaced d next z in
                subst P (sym (goes_on d left (calls ++ c ∷ []) (omega arith))) (placed_more d p left calls c h lt))
            | false ↦ λ k. (let ge : d.cells + 2 ≤ length calls = ltb-false (length calls) (d.cells + 2) k in no_last d p left calls c h (omega arith))
          ] refl)
    ] refl

pub placed_after : (d : Database) (p : SnapshotPhase) (s : TryState) (calls : List CompletedCall) → IsPlaced d p s → IsPlaced d (phase_after d p calls) (trying_after d s calls)
placed_after d p s [] h = h
placed_after d p s (c ∷ calls) h = placed_after d (next_phase d p (reply_number c.reply)) (after_call d s c) calls (placed_next d p s.left s.calls c h)

-- FROM THE START

abbrev start_place : ℕ → List ℕ → SnapshotPhase
start_place tries values = record { left = tries; at = 0; version = 0; values = values; agreed = false }

placed_first : (d : Database) (tries : ℕ) (values : List ℕ) → values ≡ [] → IsPlaced d (start_place tries values) (record { left = tries; calls = [] })
placed_first d tries values none =
    record { left = refl; at = refl; few = omega arith; version = λ some. absurd (omega arith); values = none; agreed = λ e. absurd (omega arith) }

pub snapshot_is : (d : Database) (tries : ℕ) (values : List ℕ) (calls : List CompletedCall)
    → values ≡ []
    → snapshot_rest d (record { left = tries; at = 0; version = 0; values = values; agreed = false }) calls ≡ snapshot_call d tries calls
snapshot_is d tries values calls none =
    same_call d (phase_after d (start_place tries values) calls) (trying d tries calls).left (trying d tries calls).calls
    (placed_after d (start_place tries values) (record { left = tries; calls = [] }) calls (placed_first d tries values none))

pub snapshot_ends : (d : Database) (tries : ℕ) (values : List ℕ) (calls : List CompletedCall)
    → values ≡ []
    → end_at d (phase_after d (record { left = tries; at = 0; version = 0; values = values; agreed = false }) calls) ≡ snapshot_end d tries calls
snapshot_ends d tries values calls none =
    same_end d (phase_after d (start_place tries values) calls) (trying d tries calls)
    (placed_after d (start_place tries values) (record { left = tries; calls = [] }) calls (placed_first d tries values none))
