-- The responses of the calls of the list that a worker is in.
use Rattle.std.proofs.Common.{◌≡◌, ◌≢◌, ℕ, suc, ◌+◌, ◌<◌, Bool, true, false, List, [], ◌∷◌, ◌++◌, length, take, reverse, append_assoc, Some, refl, ap, sym, ◌∙◌, arith, subst, cond, ◌==◌, inl, inr, slice_get, get_or}
use Rattle.std.proofs.lemmas.Bool.{eqb-true, eqb-false, eq-eqb, ne_eqb}
use Rattle.std.proofs.lemmas.List.{length-append, take-append-le, reverse-append, reverse-reverse, length-reverse}
use Rattle.std.proofs.lemmas.Option.{slice_get-get_or}
use Rattle.std.proofs.Math.Seq.{take-append_seam}
use Rattle.ec_core.specs.declared.act.Act.{Act}
use Rattle.ec_core.specs.declared.act.Reply.{Reply}
use Rattle.ec_core.specs.declared.act.Reply.TheVariants.{Done, Number, Pending}
use Rattle.ec_core.specs.declared.act.Entry.{Entry}
use Rattle.ec_core.specs.Counts.{past_at}
use Rattle.ec_core.specs.Calls.{is_pending}
use Rattle.ec_core.specs.Rounds.{IsPastOf}
use Rattle.ec_core.specs.Following.{CompletedCall, Rule, extend_list, block_after, block}
use Rattle.ec_core.specs.JoinedLists.{SpeaksOf}
use Rattle.ec_core.proofs.shared.Joining.{get_back, last_get}
use Rattle.ec_core.proofs.shared.CallRounds.{past_by_length}
use Rattle.ec_core.proofs.shared.Following.{op_at, other_block, own_block}
use Rattle.ec_database.proofs.CallNumbers.{number, number_other, number_pending, number_on, number_off}

-- an entry of w ends the call, which comes after these in its list; early is the history before
-- that entry
pub record CallEnds (r : Rule) (w : ℕ) (past : List Entry) (before : List CompletedCall) (c : CompletedCall) (early : List Entry) : Type 0 where
  pub since : List Entry
  pub entry : Entry
  pub is : past ≡ since ++ entry ∷ early
  pub by : entry.worker ≡ w
  pub began : op_at entry early ≡ c.op
  pub returned : entry.reply ≡ c.reply
  pub done : is_pending entry.reply ≡ false
  pub on : r.concerns before c.op ≡ true
  pub after : block r w early ≡ before

-- each of the calls ends, one after another, and they are the last calls on the group
pub record CallsStand (r : Rule) (on : Act → Bool) (w : ℕ) (past : List Entry) (calls : List CompletedCall) : Type 0 where
  pub place : ℕ → List Entry
  pub each : (i : ℕ) (c : CompletedCall) → slice_get calls i ≡ Some c → CallEnds r w past (take i calls) c (place i)
  pub order : (i j : ℕ) → i < j → j < length calls → length (place i) < length (place j)
  pub numbers : (i : ℕ) → i < length calls → number on w (place i) + length calls ≡ number on w past + i

later_call : (r : Rule) (w : ℕ) (x : Entry) (past : List Entry) (before : List CompletedCall) (c : CompletedCall) (early : List Entry) → CallEnds r w past before c early → CallEnds r w (x ∷ past) before c early
later_call r w x past before c early h = record { since = x ∷ h.since; entry = h.entry; is = ap (λ p. x ∷ p) h.is; by = h.by; began = h.began; returned = h.returned; done = h.done; on = h.on; after = h.after }

stand_later : (r : Rule) (on : Act → Bool) (w : ℕ) (x : Entry) (past : List Entry) (calls : List CompletedCall) → number on w (x ∷ past) ≡ number on w past → CallsStand r on w past calls
    → CallsStand r on w (x ∷ past) calls
stand_later r on w x past calls same h = record {
  place = h.place;
  each = λ i c at. later_call r w x past (take i calls) c (h.place i) (h.each i c at);
  order = h.order;
  numbers = λ i lt. (let was = h.numbers i lt in omega arith);
}

none_stand : (r : Rule) (on : Act → Bool) (w : ℕ) (past : List Entry) → CallsStand r on w past []
none_stand r on w past = record { place = λ i. []; each = λ i c at. cc; order = λ i j lt small. absurd (omega arith); numbers = λ i lt. absurd (omega arith) }

-- it ended before
pub ends_before : (r : Rule) (w : ℕ) (past : List Entry) (before : List CompletedCall) (c : CompletedCall) (early : List Entry) → CallEnds r w past before c early → length early < length past
ends_before r w past before c early h = (let whole : length past ≡ length h.since + suc (length early) = ap length h.is ∙ length-append h.since (h.entry ∷ early) in omega arith)

-- the call of an entry ends after the history before that entry
call_here : (r : Rule) (x : Entry) (past : List Entry) (calls : List CompletedCall) (c : CompletedCall) → block r x.worker past ≡ calls → op_at x past ≡ c.op → x.reply ≡ c.reply → is_pending x.reply ≡ false
    → r.concerns calls c.op ≡ true → CallEnds r x.worker (x ∷ past) calls c past
call_here r x past calls c at began returned done on = record { since = []; entry = x; is = refl; by = refl; began = began; returned = returned; done = done; on = on; after = at }

stand_more : (r : Rule) (on : Act → Bool) (x : Entry) (past : List Entry) (calls : List CompletedCall) (c : CompletedCall) → number on x.worker (x ∷ past) ≡ number on x.worker past + 1
    → CallsStand r on x.worker past calls → CallEnds r x.worker (x ∷ past) calls c past → CallsStand r on x.worker (x ∷ past) (calls ++ c ∷ [])
stand_more r on x past calls c one h new =
    let place : ℕ → List Entry = λ i. cond (i == length calls) past (h.place i) in
    let earlier : (i : ℕ) → i < length calls → place i ≡ h.place i = λ i lt. ap (λ b. cond b past (h.place i)) (ne_eqb i (length calls) (λ e. omega arith)) in
    let last : (i : ℕ) → i ≡ length calls → place i ≡ past = λ i e. ap (λ b. cond b past (h.place i)) (eq-eqb i (length calls) e) in
    let P : List CompletedCall → CompletedCall → List Entry → Type 0 = λ before z early. CallEnds r x.worker (x ∷ past) before z early in
    record {
      place = place;
      each = λ i z at.
          (elim (last_get calls c z i at) [
            | inl k ↦
                (let lt : i < length calls = k.1 in
                let Q : List Entry → Type 0 = λ early. P (take i (calls ++ c ∷ [])) z early in
                let R : List CompletedCall → Type 0 = λ before. P before z (h.place i) in
                subst Q (sym (earlier i lt)) (subst R (sym (take-append-le i calls (c ∷ []) (omega arith))) (later_call r x.worker x past (take i calls) z (h.place i) (h.each i z k.0))))
            | inr k ↦
                (let Q : List Entry → Type 0 = λ early. P (take i (calls ++ c ∷ [])) z early in
                let R : List CompletedCall → Type 0 = λ before. P before z past in
                let S : CompletedCall → Type 0 = λ y. P calls y past in
                subst Q (sym (last i k.0)) (subst R (sym (ap (λ n. take n (calls ++ c ∷ [])) k.0 ∙ take-append_seam calls (c ∷ []))) (subst S k.1 new)))
          ]);
      order = λ i j lt small.
          (let longer : length (calls ++ c ∷ []) ≡ length calls + 1 = length-append calls (c ∷ []) in
          elim (j == length calls) as (λ b. (j == length calls) ≡ b → length (place i) < length (place j)) [
            | true ↦ λ e.
                (let here : j ≡ length calls = eqb-true j (length calls) e in
                let within : i < length calls = omega arith in
                let before : length (h.place i) < length past = ends_before r x.worker past (take i calls) (get_or calls i c) (h.place i) (h.each i (get_or calls i c) (slice_get-get_or calls i c within)) in
                let a : length (place i) ≡ length (h.place i) = ap length (earlier i within) in
                let b : length (place j) ≡ length past = ap length (last j here) in
                omega arith)
            | false ↦ λ e.
                (let other : j ≢ length calls = eqb-false j (length calls) e in
                let within : j < length calls = omega arith in
                let a : length (place i) ≡ length (h.place i) = ap length (earlier i (omega arith)) in
                let b : length (place j) ≡ length (h.place j) = ap length (earlier j within) in
                let was : length (h.place i) < length (h.place j) = h.order i j lt within in
                omega arith)
          ] refl);
      numbers = λ i small.
          (let longer : length (calls ++ c ∷ []) ≡ length calls + 1 = length-append calls (c ∷ []) in
          elim (i == length calls) as (λ b. (i == length calls) ≡ b → number on x.worker (place i) + length (calls ++ c ∷ []) ≡ number on x.worker (x ∷ past) + i) [
            | true ↦ λ e.
                (let here : i ≡ length calls = eqb-true i (length calls) e in
                let at : number on x.worker (place i) ≡ number on x.worker past = ap (number on x.worker) (last i here) in
                omega arith)
            | false ↦ λ e.
                (let other : i ≢ length calls = eqb-false i (length calls) e in
                let within : i < length calls = omega arith in
                let at : number on x.worker (place i) ≡ number on x.worker (h.place i) = ap (number on x.worker) (earlier i within) in
                let was = h.numbers i within in
                omega arith)
          ] refl);
    }

stand_told : (r : Rule) (on : Act → Bool) (x : Entry) (past : List Entry) (calls : List CompletedCall) (reply : Reply) → SpeaksOf r on → CallsStand r on x.worker past calls → block r x.worker past ≡ calls
    → x.reply ≡ reply → is_pending reply ≡ false → CallsStand r on x.worker (x ∷ past) (extend_list r calls (record { op = op_at x past; reply = reply }))
stand_told r on x past calls reply speaks h at returned done =
    let c : CompletedCall = record { op = op_at x past; reply = reply } in
    let done' : is_pending x.reply ≡ false = ap is_pending returned ∙ done in
    elim (r.concerns calls (op_at x past)) as (λ b. r.concerns calls (op_at x past) ≡ b → CallsStand r on x.worker (x ∷ past) (cond b (cond (r.ends (calls ++ c ∷ [])) [] (calls ++ c ∷ [])) calls)) [
      | true ↦ λ is.
          (elim (r.ends (calls ++ c ∷ [])) as (λ b. CallsStand r on x.worker (x ∷ past) (cond b [] (calls ++ c ∷ []))) [
            | true ↦ none_stand r on x.worker (x ∷ past)
            | false ↦
                stand_more r on x past calls c (number_on on x past done' (sym (speaks calls (op_at x past)) ∙ is)) h
                (call_here r x past calls c at refl returned done' is)
          ])
      | false ↦ λ off. stand_later r on x.worker x past calls (number_off on x past done' (sym (speaks calls (op_at x past)) ∙ off)) h
    ] refl

stand_after : (r : Rule) (on : Act → Bool) (x : Entry) (past : List Entry) (calls : List CompletedCall) (reply : Reply) → SpeaksOf r on → CallsStand r on x.worker past calls → block r x.worker past ≡ calls
    → x.reply ≡ reply → CallsStand r on x.worker (x ∷ past) (block_after r calls (op_at x past) reply)
stand_after r on x past calls Pending speaks h at returned = stand_later r on x.worker x past calls (number_pending on x past (ap is_pending returned)) h
stand_after r on x past calls Done speaks h at returned = stand_told r on x past calls Done speaks h at returned refl
stand_after r on x past calls (Number n) speaks h at returned = stand_told r on x past calls (Number n) speaks h at returned refl

none_first : (r : Rule) (on : Act → Bool) (w : ℕ) → CallsStand r on w [] (block r w [])
unfolding block
none_first r on w = none_stand r on w []

-- the calls of a worker's list end in its history so far
pub calls_stand : (r : Rule) (on : Act → Bool) (w : ℕ) (past : List Entry) → SpeaksOf r on → CallsStand r on w past (block r w past)
calls_stand r on w [] speaks = none_first r on w
calls_stand r on w (x ∷ past) speaks =
    elim (x.worker == w) as (λ b. (x.worker == w) ≡ b → CallsStand r on w (x ∷ past) (block r w (x ∷ past))) [
      | true ↦ λ e.
          (let same : x.worker ≡ w = eqb-true x.worker w e in
          let P : ℕ → Type 0 = λ v. CallsStand r on v (x ∷ past) (block r v (x ∷ past)) in
          let Q : ℕ → Type 0 = λ v. CallsStand r on v past (block r v past) in
          let R : List CompletedCall → Type 0 =
          λ calls. CallsStand r on x.worker (x ∷ past) calls in
          subst P same (subst R (sym (own_block r x past)) (stand_after r on x past (block r x.worker past) x.reply speaks (subst Q (sym same) (calls_stand r on w past speaks)) refl refl)))
      | false ↦ λ e.
          (let R : List CompletedCall → Type 0 = λ calls. CallsStand r on w (x ∷ past) calls in
          subst R (sym (other_block r w x past e)) (stand_later r on w x past (block r w past) (number_other on w x past e) (calls_stand r on w past speaks)))
    ] refl

-- IN ORDER OF TIME

turned : (since early : List Entry) (x : Entry) → reverse (since ++ x ∷ early) ≡ reverse early ++ x ∷ reverse since
turned since early x = reverse-append since (x ∷ early) ∙ ap (λ z. z ++ reverse since) (reverse-append (x ∷ []) early) ∙ append_assoc (reverse early) (x ∷ []) (reverse since)

-- the index of an entry is the length of the history before it
pub entry_at : (h : List Entry) (x : Entry) (early : List Entry) → IsPastOf (x ∷ early) (reverse h) → (slice_get h (length early) ≡ Some x) × (past_at (length early) h ≡ early)
entry_at h x early is =
    let whole : reverse early ++ x ∷ reverse is.since ≡ h = sym (turned is.since early x) ∙ ap reverse (sym is.is) ∙ reverse-reverse h in
    let before : IsPastOf early (reverse h) = record { since = is.since ++ x ∷ []; is = is.is ∙ sym (append_assoc is.since (x ∷ []) early) } in (
      ap (λ g. slice_get g (length early)) (sym whole) ∙ get_back (reverse early) (x ∷ reverse is.since) (length early) 0 (omega (arith, length-reverse early)),
      past_by_length h early before,
    )
