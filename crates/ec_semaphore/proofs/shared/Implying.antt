-- Workers that follow `both` follow its common semaphore as a semaphore.
use Rattle.std.proofs.Common.{◌≡◌, ℕ, Bool, true, false, not, ◌&&◌, ◌||◌, List, [], ◌∷◌, refl, ap, sym, ◌∙◌, arith, subst, cond, ◌==◌, ◌⊎◌, inl, inr}
use Rattle.std.proofs.lemmas.Bool.{eqb-true, eq-eqb, ne_eqb, and_parts, and_from, or_parts}
use Rattle.ec_count.specs.Tables.{Tables, IsDeclared}
use Rattle.ec_core.specs.declared.act.Act.{Act}
use Rattle.ec_core.specs.declared.act.Act.TheVariants.{Advance, Read, Await, Go, Ticket, Put, Get, Hand}
use Rattle.ec_core.specs.declared.act.Reply.TheVariants.{Done, Number}
use Rattle.ec_core.specs.declared.act.Entry.{Entry}
use Rattle.ec_core.specs.Counts.{issued}
use Rattle.ec_core.specs.Calls.{is_pending}
use Rattle.ec_core.specs.Acceptance.{IsAccepted}
use Rattle.ec_core.specs.Following.{CompletedCall, Rule, block, is_right, Follow}
use Rattle.ec_core.specs.CallLists.{is_act, reply_number}
use Rattle.ec_core.proofs.shared.Answering.{IsReading}
use Rattle.ec_core.proofs.shared.Following.{other_block, IsReplyTo, op_at, step_told, step_opened, step_due, is_act-true, after_told, after_pending, off_block}
use Rattle.ec_semaphore.specs.Shapes.{Semaphore}
use Rattle.ec_semaphore.specs.Uses.{threshold, is_on, use_rule, use_rules}
use Rattle.ec_semaphore.specs.Both.{sequencer_number, is_begun, both_rule, both_rules}

-- what a worker's calls of a guarded part are as calls of the common semaphore: the ticket is the beginning of a P
abbrev pub used : List CompletedCall → List CompletedCall
used (t ∷ []) = t ∷ []
used calls = []

-- RIGHT ACTS

right_off : (r : Rule) (b : List CompletedCall) (act : Act) → r.concerns b act ≡ false → is_right r b act ≡ true
right_off r b Go h = refl
right_off r b (Advance e) h = rw h refl
right_off r b (Read e) h = rw h refl
right_off r b (Await e v) h = rw h refl
right_off r b (Ticket q) h = rw h refl
right_off r b (Put x v) h = rw h refl
right_off r b (Get x) h = rw h refl
right_off r b (Hand e c) h = rw h refl

or_true : (b : Bool) → (b || true) ≡ true
or_true true = refl
or_true false = refl

pub fits_or : (b f : Bool) → f ≡ true → (b || f) ≡ true
fits_or b f h = ap (λ x. b || x) h ∙ or_true b

right_fit : (r : Rule) (b : List CompletedCall) (act : Act) → r.fits b act ≡ true
    → is_right r b act ≡ true
right_fit r b Go h = refl
right_fit r b (Advance e) h = fits_or _ _ h
right_fit r b (Read e) h = fits_or _ _ h
right_fit r b (Await e v) h = fits_or _ _ h
right_fit r b (Ticket q) h = fits_or _ _ h
right_fit r b (Put x v) h = fits_or _ _ h
right_fit r b (Get x) h = fits_or _ _ h
right_fit r b (Hand e c) h = fits_or _ _ h

-- an entry is right if the call that it is part of does not concern the list, or is next in it
entry_right : (r : Rule) (b : List CompletedCall) (t : Tables) (act op : Act) → (act ≡ op) ⊎ (IsReading t op × (act ≡ Go)) → (r.concerns b op ≡ false) ⊎ (r.fits b op ≡ true) → is_right r b act ≡ true
entry_right r b t act op (inr k) h = ap (is_right r b) k.1
entry_right r b t act op (inl same) (inl off) = right_off r b act (ap (r.concerns b) same ∙ off)
entry_right r b t act op (inl same) (inr fit) = right_fit r b act (ap (r.fits b) same ∙ fit)

-- ONE STEP

-- the entry is right for the semaphore too, and the worker's calls are still the same in both views
record IsSame (c : Semaphore) (lines : ℕ → Bool) (x : Entry) (past : List Entry) : Type 0 where
  right : is_right (use_rule c) (block (use_rule c) x.worker past) x.act ≡ true
  own : block (use_rule c) x.worker (x ∷ past) ≡ used (block (both_rule c lines) x.worker (x ∷ past))

-- a call that is not on the semaphore
aside : (c : Semaphore) (lines : ℕ → Bool) (t : Tables) (x : Entry) (past : List Entry) → IsAccepted t (x ∷ past) → is_on c (op_at x past) ≡ false
    → block (use_rule c) x.worker past ≡ used (block (both_rule c lines) x.worker (x ∷ past)) → IsSame c lines x past
aside c lines t x past acc off same = record {
  right = entry_right (use_rule c) (block (use_rule c) x.worker past) t x.act (op_at x past) (step_opened t x past acc) (inl off);
  own = off_block (use_rule c) x past off ∙ same;
}

off_line : (c : Semaphore) (q : ℕ) (op : Act) → op ≡ Ticket q → (q == c.line) ≡ false → is_on c op ≡ false
off_line c q op is h = ap (is_on c) is ∙ h

on_step : (c : Semaphore) (lines : ℕ → Bool) (t : Tables) (x : Entry) (past : List Entry) (calls : List CompletedCall) → c.initial ≡ 1 → lines c.line ≡ false → IsAccepted t (x ∷ past)
    → block (both_rule c lines) x.worker past ≡ calls → block (use_rule c) x.worker past ≡ used calls
    → (is_begun calls || is_on c (op_at x past)) ≡ true → (both_rule c lines).fits calls (op_at x past) ≡ true → IsReplyTo t past (op_at x past) x.reply → IsSame c lines x past
on_step c lines t x past [] one apart acc at held on due returned =
    let P : Act → Type 0 = λ a. IsReplyTo t past a x.reply in
    let due_op = (and_parts (is_act (Ticket c.line) (op_at x past)) true due).0 in
    let op : op_at x past ≡ Ticket c.line = sym (is_act-true (Ticket c.line) (op_at x past) due_op) in
    let reply : x.reply ≡ Number (issued c.line past) = subst P op returned in
    let done : is_pending x.reply ≡ false = ap is_pending reply in
    let on_c : is_on c (Ticket c.line) ≡ true = eq-eqb c.line c.line refl in
    let fit : (use_rule c).fits [] (Ticket c.line) ≡ true = ap (λ b. b || false) (eq-eqb c.line c.line refl) in
    let n : CompletedCall = record { op = Ticket c.line; reply = x.reply } in
    let both : block (both_rule c lines) x.worker (x ∷ past) ≡ n ∷ [] = after_told (both_rule c lines) x past [] (Ticket c.line) at op on_c done in
    let mine : block (use_rule c) x.worker (x ∷ past) ≡ n ∷ [] = after_told (use_rule c) x past [] (Ticket c.line) held op on_c done in
    record {
      right = entry_right (use_rule c) (block (use_rule c) x.worker past) t x.act (op_at x past) (step_opened t x past acc) (inr (ap (λ b. (use_rule c).fits b (op_at x past)) held ∙ ap ((use_rule c).fits []) op ∙ fit));
      own = mine ∙ sym (ap used both);
    }
on_step c lines t x past (u ∷ []) one apart acc at held on due returned =
    let P : Act → Type 0 = λ a. IsReplyTo t past a x.reply in
    let due_op = (and_parts (is_act (Await c.count (reply_number u.reply)) (op_at x past)) true due).0 in
    let op : op_at x past ≡ Await c.count (reply_number u.reply) = sym (is_act-true (Await c.count (reply_number u.reply)) (op_at x past) due_op) in
    let level : threshold c (reply_number u.reply) ≡ reply_number u.reply = omega arith in
    let on_c : is_on c (Await c.count (reply_number u.reply)) ≡ true =
    eq-eqb c.count c.count refl in
    let fit : (use_rule c).fits (u ∷ []) (Await c.count (reply_number u.reply)) ≡ true =
    ap (λ b. b || false) (and_from (c.count == c.count) (threshold c (reply_number u.reply) == reply_number u.reply) (eq-eqb c.count c.count refl) (eq-eqb (threshold c (reply_number u.reply)) (reply_number u.reply) level)) in
    let right = entry_right (use_rule c) (block (use_rule c) x.worker past) t x.act (op_at x past) (step_opened t x past acc) (inr (ap (λ b. (use_rule c).fits b (op_at x past)) held ∙ ap ((use_rule c).fits (u ∷ [])) op ∙ fit)) in
    elim (subst P op returned) [
      | inl pending ↦ record { right = right; own = after_pending (use_rule c) x past pending ∙ held ∙ sym (ap used (after_pending (both_rule c lines) x past pending ∙ at)) }
      | inr k ↦
          (let done : is_pending x.reply ≡ false = ap is_pending k.3 in
          let n : CompletedCall =
          record { op = Await c.count (reply_number u.reply); reply = x.reply } in
          let both : block (both_rule c lines) x.worker (x ∷ past) ≡ u ∷ n ∷ [] = after_told (both_rule c lines) x past (u ∷ []) (Await c.count (reply_number u.reply)) at op refl done in
          let mine : block (use_rule c) x.worker (x ∷ past) ≡ [] = after_told (use_rule c) x past (u ∷ []) (Await c.count (reply_number u.reply)) held op on_c done in
          record { right = right; own = mine ∙ sym (ap used both) })
    ]
on_step c lines t x past (u ∷ a ∷ []) one apart acc at held on due returned =
    let P : Act → Type 0 = λ z. IsReplyTo t past z x.reply in
    let q = sequencer_number (op_at x past) in
    let ok = and_parts (is_act (Ticket (sequencer_number (op_at x past))) (op_at x past)) (lines (sequencer_number (op_at x past))) due in
    let op : op_at x past ≡ Ticket (sequencer_number (op_at x past)) = sym (is_act-true (Ticket (sequencer_number (op_at x past))) (op_at x past) ok.0) in
    let reply : x.reply ≡ Number (issued (sequencer_number (op_at x past)) past) =
    subst P op returned in
    let other : (sequencer_number (op_at x past) == c.line) ≡ false = ne_eqb (sequencer_number (op_at x past)) c.line (λ e. (let no_line : lines (sequencer_number (op_at x past)) ≡ false = ap lines e ∙ apart in let yes : lines (sequencer_number (op_at x past)) ≡ true = ok.1 in cc)) in
    let both = after_told (both_rule c lines) x past (u ∷ a ∷ []) (op_at x past) at refl refl (ap is_pending reply) in
    aside c lines t x past acc (off_line c (sequencer_number (op_at x past)) (op_at x past) op other) (held ∙ sym (ap used both))
on_step c lines t x past (u ∷ a ∷ r ∷ []) one apart acc at held on due returned =
    let P : Act → Type 0 = λ z. IsReplyTo t past z x.reply in
    let due_parts = and_parts (is_act (Ticket (sequencer_number (op_at x past))) (op_at x past)) (lines (sequencer_number (op_at x past)) && not (sequencer_number r.op == sequencer_number (op_at x past))) due in
    let ok = and_parts (lines (sequencer_number (op_at x past))) (not (sequencer_number r.op == sequencer_number (op_at x past))) due_parts.1 in
    let op : op_at x past ≡ Ticket (sequencer_number (op_at x past)) = sym (is_act-true (Ticket (sequencer_number (op_at x past))) (op_at x past) due_parts.0) in
    let reply : x.reply ≡ Number (issued (sequencer_number (op_at x past)) past) =
    subst P op returned in
    let other : (sequencer_number (op_at x past) == c.line) ≡ false = ne_eqb (sequencer_number (op_at x past)) c.line (λ e. (let no_line : lines (sequencer_number (op_at x past)) ≡ false = ap lines e ∙ apart in let yes : lines (sequencer_number (op_at x past)) ≡ true = ok.0 in cc)) in
    let both = after_told (both_rule c lines) x past (u ∷ a ∷ r ∷ []) (op_at x past) at refl refl (ap is_pending reply) in
    aside c lines t x past acc (off_line c (sequencer_number (op_at x past)) (op_at x past) op other) (held ∙ sym (ap used both))
on_step c lines t x past (u ∷ a ∷ r ∷ s ∷ []) one apart acc at held on due returned =
    let P : Act → Type 0 = λ a. IsReplyTo t past a x.reply in
    let due_op = (and_parts (is_act (Advance c.count) (op_at x past)) true due).0 in
    let op : op_at x past ≡ Advance c.count = sym (is_act-true (Advance c.count) (op_at x past) due_op) in
    let reply : x.reply ≡ Done = subst P op returned in
    let done : is_pending x.reply ≡ false = ap is_pending reply in
    let on_c : is_on c (Advance c.count) ≡ true = eq-eqb c.count c.count refl in
    let fit : (use_rule c).fits [] (Advance c.count) ≡ true = eq-eqb c.count c.count refl in
    let n : CompletedCall = record { op = Advance c.count; reply = x.reply } in
    let both : block (both_rule c lines) x.worker (x ∷ past) ≡ [] = after_told (both_rule c lines) x past (u ∷ a ∷ r ∷ s ∷ []) (Advance c.count) at op refl done in
    let mine : block (use_rule c) x.worker (x ∷ past) ≡ [] =
    after_told (use_rule c) x past [] (Advance c.count) held op on_c done ∙ ap (λ b. cond b [] (n ∷ [])) (eq-eqb c.count c.count refl) in
    record {
      right = entry_right (use_rule c) (block (use_rule c) x.worker past) t x.act (op_at x past) (step_opened t x past acc) (inr (ap (λ b. (use_rule c).fits b (op_at x past)) held ∙ ap ((use_rule c).fits []) op ∙ fit));
      own = mine ∙ sym (ap used both);
    }
on_step c lines t x past (u ∷ a ∷ r ∷ s ∷ v ∷ rest) one apart acc at held on due returned = cc

pub outside : (calls : List CompletedCall) → is_begun calls ≡ false → calls ≡ []
outside [] h = refl
outside (t ∷ rest) h = cc

own_step : (c : Semaphore) (lines : ℕ → Bool) (t : Tables) (x : Entry) (past : List Entry) → c.initial ≡ 1 → lines c.line ≡ false → IsDeclared t → IsAccepted t (x ∷ past) → Follow (both_rules c lines) (x ∷ past)
    → block (use_rule c) x.worker past ≡ used (block (both_rule c lines) x.worker past) → IsSame c lines x past
own_step c lines t x past one apart dec acc f held =
    elim (step_due t (both_rules c lines) x past dec acc f) [
      | inl off ↦
          (let o = or_parts (is_begun (block (both_rule c lines) x.worker past)) (is_on c (op_at x past)) off in
          aside c lines t x past acc o.1 (held ∙ sym (ap used (off_block (both_rule c lines) x past off))))
      | inr k ↦ on_step c lines t x past (block (both_rule c lines) x.worker past) one apart acc refl held k.0 k.1 (step_told t x past dec acc)
    ]

-- THE WHOLE

record IsImplied (c : Semaphore) (lines : ℕ → Bool) (past : List Entry) : Type 0 where
  follow : Follow (use_rules c) past
  same : (w : ℕ) → block (use_rule c) w past ≡ used (block (both_rule c lines) w past)

implied : (c : Semaphore) (lines : ℕ → Bool) (t : Tables) (past : List Entry) → c.initial ≡ 1 → lines c.line ≡ false → IsDeclared t → IsAccepted t past → Follow (both_rules c lines) past → IsImplied c lines past
unfolding block
implied c lines t [] one apart dec acc f = record { follow = tt; same = λ w. refl }
implied c lines t (x ∷ past) one apart dec acc f =
    let before = implied c lines t past one apart dec acc.1 f.1 in
    let step = own_step c lines t x past one apart dec acc f (before.same x.worker) in
    record {
      follow = (step.right, before.follow);
      same = λ w.
          elim (x.worker == w) as (λ b. (x.worker == w) ≡ b → block (use_rule c) w (x ∷ past) ≡ used (block (both_rule c lines) w (x ∷ past))) [
            | true ↦ λ e. (let P : ℕ → Type 0 = λ v. block (use_rule c) v (x ∷ past) ≡ used (block (both_rule c lines) v (x ∷ past)) in subst P (eqb-true x.worker w e) step.own)
            | false ↦ λ e. other_block (use_rule c) w x past e ∙ before.same w ∙ ap used (sym (other_block (both_rule c lines) w x past e))
          ] refl;
    }

-- an accepted history that follows `both` follows its common semaphore, of initial value 1 and not
-- among the other sequencers
pub both_implies_use : (c : Semaphore) (lines : ℕ → Bool) (t : Tables) (past : List Entry) → c.initial ≡ 1 → lines c.line ≡ false → IsDeclared t → IsAccepted t past → Follow (both_rules c lines) past → Follow (use_rules c) past
both_implies_use c lines t past one apart dec acc f = (implied c lines t past one apart dec acc f).follow
