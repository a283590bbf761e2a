-- What a reader knows in its try: so many writes were done when it went on to its gets, and as long
-- as no more are started, the cells are as it got them.
use Rattle.std.proofs.Common.{◌≡◌, ℕ, zero, suc, ◌+◌, ◌<◌, ◌≤◌, Bool, true, false, not, List, [], ◌∷◌, ◌++◌, length, Some, None, is_some, nat_lt, unwrap_or, refl, ap, sym, ◌∙◌, arith, subst, cond, ◌==◌, ◌⊎◌, inl, inr, slice_get}
use Rattle.std.proofs.lemmas.Bool.{eqb-true, eq-eqb, ne_eqb, ltb-true, ltb-false, le-ltb}
use Rattle.std.proofs.lemmas.List.{length-append}
use Rattle.ec_count.specs.Tables.{Tables, IsDeclared}
use Rattle.ec_core.specs.declared.act.Act.{Act}
use Rattle.ec_core.specs.declared.act.Act.TheVariants.{Read, Await, Get}
use Rattle.ec_core.specs.declared.act.Reply.TheVariants.{Number}
use Rattle.ec_core.specs.declared.act.Entry.{Entry}
use Rattle.ec_core.specs.Counts.{total, cell_value}
use Rattle.ec_core.specs.Calls.{is_pending}
use Rattle.ec_core.specs.Acceptance.{IsAccepted}
use Rattle.ec_core.specs.Following.{CompletedCall, block, Follow}
use Rattle.ec_core.specs.CallLists.{is_due, without_value, reply_number}
use Rattle.ec_core.proofs.shared.Following.{other_block, IsReplyTo, op_at, step_told, total_step, cell_step, step_due, due_is, after_told, after_pending, off_block}
use Rattle.ec_database.specs.Shapes.{Database, IsShape}
use Rattle.ec_database.specs.Calls.{try_call}
use Rattle.ec_database.specs.Following.{is_on, write_rule, try_rule, rules}
use Rattle.ec_database.specs.Tries.{is_put_on}
use Rattle.ec_database.proofs.Steady.{on_of, lead_less, writing, no_put, off_put}
use Rattle.ec_core.proofs.shared.Joining.{last_get}

-- the first number read, and what is known once that many writes were done
pub record IsSnapshot (d : Database) (past : List Entry) (version : ℕ) (gets : List CompletedCall) : Type 0 where
  pub done : version ≤ total d.done past
  pub same : total d.start past ≡ version → (i : ℕ) (c : CompletedCall) → slice_get gets i ≡ Some c → i < d.cells → reply_number c.reply ≡ cell_value (d.first_cell + i) past

abbrev pub IsReader : Database → List Entry → List CompletedCall → Type 0
IsReader d past [] = Unit {0}
IsReader d past (r ∷ []) = reply_number r.reply ≤ total d.start past
IsReader d past (r ∷ a ∷ gets) = IsSnapshot d past (reply_number r.reply) gets

total_grows : (t : Tables) (e : ℕ) (x : Entry) (past : List Entry) → IsAccepted t (x ∷ past) → total e past ≤ total e (x ∷ past)
total_grows t e x past acc = (let k = total_step t e x past acc in omega arith)

cell_same : (d : Database) (t : Tables) (x : Entry) (past : List Entry) (j : ℕ) → IsAccepted t (x ∷ past) → is_put_on d (op_at x past) ≡ false → j < d.cells → cell_value (d.first_cell + j) (x ∷ past) ≡ cell_value (d.first_cell + j) past
cell_same d t x past j acc h lt = cell_step t (d.first_cell + j) x past acc ∙ ap (λ o. unwrap_or o (cell_value (d.first_cell + j) past)) (off_put d (op_at x past) j h lt)

-- each step keeps what a list knows
reader_later : (d : Database) (writers : ℕ → Bool) (t : Tables) (x : Entry) (past : List Entry) (calls : List CompletedCall) → IsShape d → IsDeclared t → IsAccepted t (x ∷ past) → Follow (rules d writers) (x ∷ past)
    → IsReader d past calls → IsReader d (x ∷ past) calls
reader_later d writers t x past [] shape dec acc f h = tt
reader_later d writers t x past (r ∷ []) shape dec acc f h = (let k = total_grows t d.start x past acc in omega arith)
reader_later d writers t x past (r ∷ a ∷ gets) shape dec acc f h =
    (let up = total_grows t d.start x past acc in
    let up' = total_grows t d.done x past acc in
    let le : total d.done past ≤ total d.start past = lead_less d writers t past acc.1 (writing d writers t past shape dec acc.1 f.1) in
    let low : reply_number r.reply ≤ total d.done past = h.done in
    record {
      done = omega arith;
      same = λ e i c at lt.
          (let was : total d.start past ≡ reply_number r.reply = omega arith in
          let none = no_put d writers t x past shape dec acc f (omega arith) in
          h.same was i c at lt ∙ sym (cell_same d t x past i acc none lt));
    })

chosen_some : (d : Database) (k : ℕ) → k ≤ d.cells → is_some (cond (nat_lt k d.cells) (Some (Get (d.first_cell + k))) (cond (k == d.cells) (Some (Read d.start)) None)) ≡ true
chosen_some d k le =
    elim (nat_lt k d.cells) as (λ b. nat_lt k d.cells ≡ b → is_some (cond b (Some (Get (d.first_cell + k))) (cond (k == d.cells) (Some (Read d.start)) None)) ≡ true) [
      | true ↦ λ h. refl
      | false ↦ λ h. (let ge : d.cells ≤ k = ltb-false k d.cells h in let q : (k == d.cells) ≡ true = eq-eqb k d.cells (omega arith) in rw q refl)
    ] refl

chosen_none : (d : Database) (k : ℕ) → d.cells < k → is_some (cond (nat_lt k d.cells) (Some (Get (d.first_cell + k))) (cond (k == d.cells) (Some (Read d.start)) None)) ≡ false
chosen_none d k gt = (let p : nat_lt k d.cells ≡ false = le-ltb k d.cells (omega arith) in let q : (k == d.cells) ≡ false = ne_eqb k d.cells (λ e. omega arith) in rw (p, q) refl)

-- EACH CALL OF A READER

-- what is true after the step of a reader whose calls are then these
reader_at : (d : Database) (x : Entry) (past : List Entry) (calls : List CompletedCall) → block (try_rule d) x.worker (x ∷ past) ≡ calls → IsReader d (x ∷ past) calls → IsReader d (x ∷ past) (block (try_rule d) x.worker (x ∷ past))
reader_at d x past calls is h = (let P : List CompletedCall → Type 0 = λ c. IsReader d (x ∷ past) c in subst P (sym is) h)

reader_same : (d : Database) (writers : ℕ → Bool) (t : Tables) (x : Entry) (past : List Entry) → IsShape d → IsDeclared t → IsAccepted t (x ∷ past) → Follow (rules d writers) (x ∷ past)
    → block (try_rule d) x.worker (x ∷ past) ≡ block (try_rule d) x.worker past → IsReader d past (block (try_rule d) x.worker past)
    → IsReader d (x ∷ past) (block (try_rule d) x.worker (x ∷ past))
reader_same d writers t x past shape dec acc f is h =
    reader_at d x past (block (try_rule d) x.worker past) is (reader_later d writers t x past (block (try_rule d) x.worker past) shape dec acc f h)

read_get : (d : Database) (writers : ℕ → Bool) (t : Tables) (x : Entry) (past : List Entry) (r a c : CompletedCall) (gets : List CompletedCall) → IsShape d → IsDeclared t → IsAccepted t (x ∷ past) → Follow (rules d writers) (x ∷ past)
    → op_at x past ≡ Get (d.first_cell + length gets) → reply_number c.reply ≡ cell_value (d.first_cell + length gets) past
    → IsSnapshot d past (reply_number r.reply) gets → IsSnapshot d (x ∷ past) (reply_number r.reply) (gets ++ c ∷ [])
read_get d writers t x past r a c gets shape dec acc f op returned h =
    (let up = total_grows t d.start x past acc in
    let up' = total_grows t d.done x past acc in
    let low : reply_number r.reply ≤ total d.done past = h.done in
    let le : total d.done past ≤ total d.start past = lead_less d writers t past acc.1 (writing d writers t past shape dec acc.1 f.1) in
    let none : is_put_on d (op_at x past) ≡ false = ap (is_put_on d) op in
    record {
      done = omega arith;
      same = λ e i z there lt.
          (elim (last_get gets c z i there) [
            | inl k ↦ (let was : total d.start past ≡ reply_number r.reply = omega arith in h.same was i z k.0 lt ∙ sym (cell_same d t x past i acc none lt))
            | inr k ↦ (ap (λ (y : CompletedCall). reply_number y.reply) (sym k.1) ∙ returned ∙ ap (λ n. cell_value (d.first_cell + n) past) (sym k.0) ∙ sym (cell_same d t x past i acc none lt))
          ]);
    })

reader_step : (d : Database) (writers : ℕ → Bool) (t : Tables) (x : Entry) (past : List Entry) (calls : List CompletedCall) → IsShape d → IsDeclared t → IsAccepted t (x ∷ past) → Follow (rules d writers) (x ∷ past)
    → block (try_rule d) x.worker past ≡ calls → is_on d (op_at x past) ≡ true → is_due (try_call d calls) (without_value (op_at x past)) ≡ true → IsReplyTo t past (op_at x past) x.reply
    → IsReader d past calls → IsReader d (x ∷ past) (block (try_rule d) x.worker (x ∷ past))
reader_step d writers t x past [] shape dec acc f at on due returned h =
    let op : op_at x past ≡ Read d.start = (due_is (Read d.start) (op_at x past) due).1 in
    let P : Act → Type 0 = λ a. IsReplyTo t past a x.reply in
    elim (subst P op returned) [
      | inl pending ↦ reader_at d x past [] (after_pending (try_rule d) x past pending ∙ at) tt
      | inr k ↦
          (let low : k.0 ≤ total d.start past = k.1 in
          let up = total_grows t d.start x past acc in
          let reply : reply_number x.reply ≡ k.0 = ap reply_number k.2 in
          reader_at d x past (record { op = Read d.start; reply = x.reply } ∷ []) (after_told (try_rule d) x past [] (Read d.start) at op (ap (is_on d) (sym op) ∙ on) (ap is_pending k.2)) (omega arith))
    ]
reader_step d writers t x past (r ∷ []) shape dec acc f at on due returned h =
    let op : op_at x past ≡ Await d.done (reply_number r.reply) = (due_is (Await d.done (reply_number r.reply)) (op_at x past) due).1 in
    let P : Act → Type 0 = λ a. IsReplyTo t past a x.reply in
    let c : CompletedCall = record { op = Await d.done (reply_number r.reply); reply = x.reply } in
    elim (subst P op returned) [
      | inl pending ↦ reader_at d x past (r ∷ []) (after_pending (try_rule d) x past pending ∙ at) (let up = total_grows t d.start x past acc in omega arith)
      | inr k ↦
          (let low : reply_number r.reply ≤ k.0 = k.1 in
          let high : k.0 ≤ total d.done past = k.2 in
          let up = total_grows t d.done x past acc in
          reader_at d x past (r ∷ c ∷ [])
          (after_told (try_rule d) x past (r ∷ []) (Await d.done (reply_number r.reply)) at op (ap (is_on d) (sym op) ∙ on) (ap is_pending k.3) ∙ ap (λ b. cond (not b) [] (r ∷ c ∷ [])) (chosen_some d 0 (omega arith)))
          (record { done = omega arith; same = λ e i z there lt. cc }))
    ]
reader_step d writers t x past (r ∷ a ∷ gets) shape dec acc f at on due returned h =
    let P : Act → Type 0 = λ a. IsReplyTo t past a x.reply in
    elim (nat_lt (length gets) d.cells) as (λ b. nat_lt (length gets) d.cells ≡ b
    → is_due (cond b (Some (Get (d.first_cell + length gets))) (cond (length gets == d.cells) (Some (Read d.start)) None)) (without_value (op_at x past)) ≡ true
    → IsReader d (x ∷ past) (block (try_rule d) x.worker (x ∷ past))) [
      | true ↦ λ lt due.
          (let op : op_at x past ≡ Get (d.first_cell + length gets) = (due_is (Get (d.first_cell + length gets)) (op_at x past) due).1 in
          let reply : x.reply ≡ Number (cell_value (d.first_cell + length gets) past) = subst P op returned in
          let room : length gets < d.cells = ltb-true (length gets) d.cells lt in
          let c : CompletedCall =
          record { op = Get (d.first_cell + length gets); reply = x.reply } in
          let longer : length (gets ++ c ∷ []) ≡ length gets + 1 = length-append gets (c ∷ []) in
          reader_at d x past (r ∷ a ∷ (gets ++ c ∷ []))
          (after_told (try_rule d) x past (r ∷ a ∷ gets) (Get (d.first_cell + length gets)) at op (ap (is_on d) (sym op) ∙ on) (ap is_pending reply)
          ∙ ap (λ b. cond (not b) [] (r ∷ a ∷ (gets ++ c ∷ []))) (chosen_some d (length (gets ++ c ∷ [])) (omega arith)))
          (read_get d writers t x past r a c gets shape dec acc f op (ap reply_number reply) h))
      | false ↦ λ ge due.
          (elim (length gets == d.cells) as (λ b. (length gets == d.cells) ≡ b → is_due (cond b (Some (Read d.start)) None) (without_value (op_at x past)) ≡ true → IsReader d (x ∷ past) (block (try_rule d) x.worker (x ∷ past))) [
            | true ↦ λ full due.
                (let op : op_at x past ≡ Read d.start = (due_is (Read d.start) (op_at x past) due).1 in
                let len : length gets ≡ d.cells = eqb-true (length gets) d.cells full in
                let c : CompletedCall = record { op = Read d.start; reply = x.reply } in
                let longer : length (gets ++ c ∷ []) ≡ length gets + 1 = length-append gets (c ∷ []) in
                elim (subst P op returned) [
                  | inl pending ↦ reader_at d x past (r ∷ a ∷ gets) (after_pending (try_rule d) x past pending ∙ at)
                      (reader_later d writers t x past (r ∷ a ∷ gets) shape dec acc f h)
                  | inr k ↦ reader_at d x past []
                      (after_told (try_rule d) x past (r ∷ a ∷ gets) (Read d.start) at op (ap (is_on d) (sym op) ∙ on) (ap is_pending k.2)
                      ∙ ap (λ b. cond (not b) [] (r ∷ a ∷ (gets ++ c ∷ []))) (chosen_none d (length (gets ++ c ∷ [])) (omega arith))) tt
                ])
            | false ↦ λ no due. cc
          ] refl due)
    ] refl due

empty_reader : (d : Database) (w : ℕ) → IsReader d [] (block (try_rule d) w [])
unfolding block
empty_reader d w = tt

-- what each reader knows
pub readers : (d : Database) (writers : ℕ → Bool) (t : Tables) (past : List Entry) (w : ℕ) → IsShape d → IsDeclared t → IsAccepted t past → Follow (rules d writers) past → writers w ≡ false
    → IsReader d past (block (try_rule d) w past)
readers d writers t [] w shape dec acc f role = empty_reader d w
readers d writers t (x ∷ past) w shape dec acc f role =
    elim (x.worker == w) as (λ b. (x.worker == w) ≡ b → IsReader d (x ∷ past) (block (try_rule d) w (x ∷ past))) [
      | false ↦ λ e.
          (let P : List CompletedCall → Type 0 = λ c. IsReader d (x ∷ past) c in
          subst P (sym (other_block (try_rule d) w x past e))
          (reader_later d writers t x past (block (try_rule d) w past) shape dec acc f (readers d writers t past w shape dec acc.1 f.1 role)))
      | true ↦ λ e.
          (let same : x.worker ≡ w = eqb-true x.worker w e in
          let Q : ℕ → Type 0 = λ v. IsReader d (x ∷ past) (block (try_rule d) v (x ∷ past)) in
          let R : ℕ → Type 0 = λ v. IsReader d past (block (try_rule d) v past) in
          let role' : writers x.worker ≡ false = ap writers same ∙ role in
          let before : IsReader d past (block (try_rule d) x.worker past) = subst R (sym same) (readers d writers t past w shape dec acc.1 f.1 role) in
          let returned = step_told t x past dec acc in
          subst Q same
          (elim (step_due t (rules d writers) x past dec acc f) [
            | inl off ↦
                (let no : is_on d (op_at x past) ≡ false = on_of d (writers x.worker) (block (rules d writers x.worker) x.worker past) (op_at x past) false off in
                reader_same d writers t x past shape dec acc f (off_block (try_rule d) x past no) before)
            | inr k ↦
                (let on : is_on d (op_at x past) ≡ true = on_of d (writers x.worker) (block (rules d writers x.worker) x.worker past) (op_at x past) true k.0 in
                let S : Bool → Type 0 = λ p. (cond p (write_rule d) (try_rule d)).fits (block (cond p (write_rule d) (try_rule d)) x.worker past) (op_at x past) ≡ true in
                reader_step d writers t x past (block (try_rule d) x.worker past) shape dec acc f refl on (subst S role' k.1) returned before)
          ]))
    ] refl
