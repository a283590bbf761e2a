-- What each entry of an accepted history ends.
use Rattle.std.proofs.Common.{◌≡◌, ℕ, suc, ◌+◌, ◌%◌, ◌<◌, ◌≤◌, ◌⊎◌, inl, inr, true, false, List, [], ◌∷◌, length, Option, Some, None, refl, ap, sym, ◌∙◌, arith, cond, nat_le}
use Rattle.std.proofs.lemmas.Bool.{leb-true, leb-false}
use Rattle.std.proofs.lemmas.Nat.{mod_below}
use Rattle.ec_count.specs.Tables.{Tables, IsDeclared}
use Rattle.ec_core.specs.declared.act.Act.{Act}
use Rattle.ec_core.specs.declared.act.Act.TheVariants.{Advance, Read, Await, Go, Ticket, Put, Get, Hand}
use Rattle.ec_core.specs.declared.act.Reply.{Reply}
use Rattle.ec_core.specs.declared.act.Reply.TheVariants.{Number, Pending}
use Rattle.ec_core.specs.declared.act.Entry.{Entry}
use Rattle.ec_core.specs.Counts.{total, issued, cell_value}
use Rattle.ec_core.specs.Calls.{CallSoFar, under_way, call_with_act, is_go, is_pending}
use Rattle.ec_core.specs.Rounds.{event_or, component_count, sum_read, round_reply, read_reply, go_reply}
use Rattle.ec_core.specs.Acceptance.{reply_of, IsAccepted}
use Rattle.ec_core.proofs.shared.Answering.{allowed, IsAllowed, IsReading, IsReadingCall, call_reads, reading_event, width_some}
use Rattle.ec_order.specs.Calls.{call_of_entries, ended_by, is_reading}
use Rattle.ec_core.specs.CallLists.{reply_number}
use Rattle.ec_order.specs.Sequential.{SequentialState, sequential_reply, sequential_after}
use Rattle.ec_order.specs.Walk.{is_one_entry_act}
use Rattle.ec_order.proofs.Chains.{IsChain, IsChained, call_chain}
use Rattle.ec_core.proofs.shared.Stepping.{entry}

-- the state has the numbers after a past
pub record Shows (o : SequentialState) (past : List Entry) : Type 0 where
  pub events : (e : ℕ) → o.events e ≡ total e past
  pub sequencers : (q : ℕ) → o.sequencers q ≡ issued q past
  pub cells : (x : ℕ) → o.cells x ≡ cell_value x past

-- if the number is the one returned, the sequential object gives this reply
abbrev pub IsReturned : Act → Reply → Type 0
IsReturned op reply = (o : SequentialState) → o.events (event_or op) ≡ reply_number reply → sequential_reply o op ≡ Some reply

-- what an entry that ends a read or an await returns: a round is whole, and its sum is the number
pub record EndsRound (t : Tables) (op : Act) (past : List Entry) (rest : List (List Entry)) (reply : Reply) : Type 0 where
  pub whole : suc (length rest % component_count t (event_or op)) ≡ component_count t (event_or op)
  pub number : reply_number reply
      ≡ sum_read t (event_or op) (component_count t (event_or op)) (past ∷ rest)
  pub returned : IsReturned op reply

number_told : (n : ℕ) (reply : Reply) → Number n ≡ reply → (m : ℕ) → m ≡ reply_number reply → Some (Number m) ≡ Some reply
number_told n reply h m e = ap (λ k. Some (Number k)) (e ∙ ap reply_number (sym h)) ∙ ap Some h

round_told : (op : Act) (s : ℕ) (reply : Reply) → is_reading op ≡ true → round_reply op s ≡ reply → is_pending reply ≡ false
    → (reply_number reply ≡ s) × IsReturned op reply
round_told (Read e) s reply r h p = (ap reply_number (sym h), λ o k. number_told s reply h (o.events e) k)
round_told (Await e v) s reply r h p =
    elim (nat_le v s) as (λ b. nat_le v s ≡ b → cond b (Number s) Pending ≡ reply → (reply_number reply ≡ s) × IsReturned (Await e v) reply) [
      | true ↦ λ le g. (
        ap reply_number (sym g),
        λ o k.
            (let same : o.events e ≡ s = k ∙ ap reply_number (sym g) in
            ap (λ n. cond (nat_le v n) (Some (Number (o.events e))) None) same ∙ ap (λ b. cond b (Some (Number (o.events e))) None) le ∙ number_told s reply g (o.events e) k),
      )
      | false ↦ λ le g. cc
    ] refl h
round_told act s reply r h p = cc

read_told : (t : Tables) (op : Act) (past : List Entry) (rest : List (List Entry)) (reply : Reply) → 0 < component_count t (event_or op) → is_reading op ≡ true
    → read_reply t op past rest ≡ reply → is_pending reply ≡ false → EndsRound t op past rest reply
unfolding read_reply
read_told t op past rest reply some r h p =
    let n = component_count t (event_or op) in
    let c = length rest % n in
    elim (nat_le n (c + 1)) as (λ b. nat_le n (c + 1) ≡ b → cond b (round_reply op (sum_read t (event_or op) (suc c) (past ∷ rest))) Pending ≡ reply → EndsRound t op past rest reply) [
      | true ↦ λ e g.
          (let le : n ≤ c + 1 = leb-true n (c + 1) e in
          let lt : c < n = mod_below (length rest) n some in
          let whole : suc c ≡ n = omega arith in
          let k = round_told op (sum_read t (event_or op) (suc c) (past ∷ rest)) reply r g p in
          record { whole = whole; number = k.0 ∙ ap (λ i. sum_read t (event_or op) i (past ∷ rest)) whole; returned = k.1 })
      | false ↦ λ e g. cc
    ] refl h

-- WHAT AN ENTRY ENDS, if o is the pending call of its worker

abbrev pub IsQuiet : Act → Type 0
IsQuiet act = (o : SequentialState) → sequential_after o act ≡ o

pub record EndsNothing (t : Tables) (x : Entry) (past : List Entry) (o : Option CallSoFar) : Type 0 where
  pub is : ended_by t x (call_with_act x.act past o) ≡ []
  pub quiet : IsQuiet x.act
  pub goes_on : is_one_entry_act x.act ≡ false

pub record EndsReading (t : Tables) (x : Entry) (past : List Entry) (o : Option CallSoFar) : Type 0 where
  pub op : Act
  pub rest : List (List Entry)
  pub gone : call_with_act x.act past o ≡ Some (record { op = op; moments = past ∷ rest })
  pub is : ended_by t x (call_with_act x.act past o) ≡ call_of_entries t x op (past ∷ rest) ∷ []
  pub quiet : IsQuiet x.act
  pub goes_on : is_one_entry_act x.act ≡ false
  pub reading : is_reading op ≡ true
  pub known : event_or op < 32
  pub chain : IsChain past rest
  pub final : is_pending x.reply ≡ false
  pub round : EndsRound t op past rest x.reply

pub record EndsActing (t : Tables) (x : Entry) (past : List Entry) (o : Option CallSoFar) : Type 0 where
  pub is : ended_by t x (call_with_act x.act past o) ≡ call_of_entries t x x.act (past ∷ []) ∷ []
  pub final : is_pending x.reply ≡ false
  pub begins : is_go x.act ≡ false
  pub acting : is_reading x.act ≡ false
  pub returned : (s : SequentialState) → Shows s past → sequential_reply s x.act ≡ Some x.reply

abbrev pub Ends : Tables → Entry → List Entry → Option CallSoFar → Type 0
Ends t x past o = EndsNothing t x past o ⊎ (EndsReading t x past o ⊎ EndsActing t x past o)

reading_ends : (t : Tables) (past : List Entry) (w : ℕ) (act op : Act) (reply : Reply) (rest : List (List Entry)) (o : Option CallSoFar)
    → call_with_act act past o ≡ Some (record { op = op; moments = past ∷ rest }) → IsQuiet act → is_one_entry_act act ≡ false → is_reading op ≡ true → event_or op < 32 → IsChain past rest
    → 0 < component_count t (event_or op) → read_reply t op past rest ≡ reply → Ends t (entry w act reply) past o
reading_ends t past w act op reply rest o gone quiet goes_on r known chain some h =
    elim (is_pending reply) as (λ b. is_pending reply ≡ b → Ends t (entry w act reply) past o) [
      | true ↦ λ e. inl (record { is = ap (ended_by t (entry w act reply)) gone ∙ ap (λ b. cond b [] (call_of_entries t (entry w act reply) op (past ∷ rest) ∷ [])) e; quiet = quiet; goes_on = goes_on })
      | false ↦ λ e.
          (inr (inl (record {
            op = op;
            rest = rest;
            gone = gone;
            is = ap (ended_by t (entry w act reply)) gone ∙ ap (λ b. cond b [] (call_of_entries t (entry w act reply) op (past ∷ rest) ∷ [])) e;
            quiet = quiet;
            goes_on = goes_on;
            reading = r;
            known = known;
            chain = chain;
            final = e;
            round = read_told t op past rest reply some r h e;
          })))
    ] refl

acting_ends : (t : Tables) (past : List Entry) (w : ℕ) (act : Act) (reply : Reply) (o : Option CallSoFar)
    → call_with_act act past o ≡ Some (record { op = act; moments = past ∷ [] }) → is_pending reply ≡ false → is_go act ≡ false → is_reading act ≡ false
    → ((s : SequentialState) → Shows s past → sequential_reply s act ≡ Some reply) → Ends t (entry w act reply) past o
acting_ends t past w act reply o gone p b r h =
    inr (inr (record { is = ap (ended_by t (entry w act reply)) gone ∙ ap (λ b. cond b [] (call_of_entries t (entry w act reply) act (past ∷ []) ∷ [])) p; final = p; begins = b; acting = r; returned = h }))

op_reads : (t : Tables) (op : Act) → IsReading t op → is_reading op ≡ true
op_reads t (Read e) h = refl
op_reads t (Await e v) h = refl
op_reads t op h = absurd h

go_ends : (t : Tables) (past : List Entry) (w : ℕ) (reply : Reply) (o : Option CallSoFar) → IsDeclared t → IsChained past o → IsReadingCall t o
    → go_reply t past o ≡ reply → Ends t (entry w Go reply) past o
go_ends t past w reply None d chain reads h = inl (record { is = refl; quiet = λ s. refl; goes_on = refl })
go_ends t past w reply (Some call) d chain reads h =
    reading_ends t past w Go call.op reply call.moments (Some call) refl (λ s. refl) refl (op_reads t call.op reads) (let few : length t.events ≤ 32 = d.few in let e : event_or call.op < length t.events = reading_event t call.op reads in omega arith) chain
    (width_some t (event_or call.op) d (reading_event t call.op reads)) h

-- what an accepted entry ends
pub ends_at : (t : Tables) (past : List Entry) (w : ℕ) (act : Act) (reply : Reply) → IsDeclared t → IsAccepted t past → IsAllowed t past w act → reply_of t past w act ≡ reply
    → Ends t (entry w act reply) past (under_way w past)
ends_at t past w (Advance e) reply d acc a h = acting_ends t past w (Advance e) reply (under_way w past) refl (ap is_pending (sym h)) refl refl (λ s k. ap Some h)
ends_at t past w (Read e) reply d acc a h =
    reading_ends t past w (Read e) (Read e) reply [] (under_way w past) refl (λ s. refl) refl refl (let few : length t.events ≤ 32 = d.few in let k : e < length t.events = leb-false (length t.events) e a.known in omega arith) tt (width_some t e d (leb-false (length t.events) e a.known)) h
ends_at t past w (Await e v) reply d acc a h =
    reading_ends t past w (Await e v) (Await e v) reply [] (under_way w past) refl (λ s. refl) refl refl (let few : length t.events ≤ 32 = d.few in let k : e < length t.events = leb-false (length t.events) e a.known in omega arith) tt (width_some t e d (leb-false (length t.events) e a.known)) h
ends_at t past w Go reply d acc a h = go_ends t past w reply (under_way w past) d (call_chain w past) (call_reads t past w acc) h
ends_at t past w (Ticket q) reply d acc a h =
    acting_ends t past w (Ticket q) reply (under_way w past) refl (ap is_pending (sym h)) refl refl (λ s k. ap (λ n. Some (Number n)) (k.sequencers q) ∙ ap Some h)
ends_at t past w (Put x v) reply d acc a h = acting_ends t past w (Put x v) reply (under_way w past) refl (ap is_pending (sym h)) refl refl (λ s k. ap Some h)
ends_at t past w (Get x) reply d acc a h =
    acting_ends t past w (Get x) reply (under_way w past) refl (ap is_pending (sym h)) refl refl (λ s k. ap (λ n. Some (Number n)) (k.cells x) ∙ ap Some h)
ends_at t past w (Hand e b) reply d acc a h = acting_ends t past w (Hand e b) reply (under_way w past) refl (ap is_pending (sym h)) refl refl (λ s k. ap Some h)

pub ends : (t : Tables) (x : Entry) (past : List Entry) → IsDeclared t → IsAccepted t (x ∷ past) → Ends t x past (under_way x.worker past)
ends t x past d acc =
    let k = allowed t past x.worker x.act x.reply acc.0 in
    ends_at t past x.worker x.act x.reply d acc.1 k.0 k.1
