-- What is stored of the advances, with one more entry.
use Rattle.std.proofs.Common.{◌≡◌, ℕ, suc, ◌+◌, ◌-◌, ◌^◌, ◌<◌, ◌≤◌, inl, inr, Bool, true, false, List, [], ◌∷◌, ◌++◌, length, Option, Some, None, refl, ap, sym, ◌∙◌, arith, cond, subst, ◌==◌, append-nil, append_assoc, length-append, slice_get, slice_set, get_or}
use Rattle.std.specs.List.{All}
use Rattle.std.proofs.lemmas.Bool.{cases_lt, eqb-true, eq-eqb}
use Rattle.std.proofs.lemmas.List.Elements.{All-get_or}
use Rattle.std.proofs.lemmas.Option.{get_or_from_slice_get, slice_get-get_or}
use Rattle.ec_count.specs.Tables.{Tables, IsDeclared}
use Rattle.ec_core.specs.declared.act.Act.{Act}
use Rattle.ec_core.specs.declared.act.Act.TheVariants.{Advance, Go}
use Rattle.ec_core.specs.declared.act.Entry.{Entry}
use Rattle.ec_core.specs.Acceptance.{IsAccepted}
use Rattle.ec_core.specs.Calls.{CallSoFar, under_way, call_with_act, call_with, is_pending}
use Rattle.ec_core.specs.Counts.{total, is_advance}
use Rattle.ec_core.specs.Rounds.{read_event}
use Rattle.ec_core.proofs.shared.Places.{get_set}
use Rattle.ec_core.proofs.shared.Scans.{call_own, call_other}
use Rattle.ec_order.specs.declared.call.Call.{Call}
use Rattle.ec_order.specs.Calls.{call_of_entries, ended_by, is_one_entry_call}
use Rattle.ec_order.specs.Index.{advance_moments, advanced_event}
use Rattle.ec_order.specs.AdvanceLogModel.{AdvanceLogModel, ended_event, is_reading_of, readers, opening_past, AddsAdvance, BeginsRead, EndsRead, IsAdvanceLog, AreAdvanceLogs, NotesAlone, FollowsReading}
use Rattle.ec_order.specs.Walk.{is_one_entry_act}
use Rattle.ec_order.proofs.Chains.{IsChain, IsGone, call_chain, gone_chain}
use Rattle.ec_order.proofs.Indexing.{raises, raises_none}
use Rattle.ec_order.proofs.Reaching.{length_advanced}
use Rattle.ec_order.proofs.Readers.{few_readers, left_on, no_readers, none_reads, readers_whole, readers_begun, readers_told, reads_none, reads_read, told_final}

-- WHAT IS KNOWN OF AN ACCEPTED ENTRY

pub advanced_none : (e : ℕ) (x : Entry) (past : List Entry) → is_advance e x.act ≡ false → advance_moments e (x ∷ past) ≡ advance_moments e past
unfolding advance_moments
advanced_none e x past none = ap (λ b. advance_moments e past ++ cond b ((length past + 1) ∷ []) []) none ∙ append-nil (advance_moments e past)

advanced_one : (e : ℕ) (x : Entry) (past : List Entry) → is_advance e x.act ≡ true → advance_moments e (x ∷ past) ≡ advance_moments e past ++ (length past + 1) ∷ []
unfolding advance_moments
advanced_one e x past one =
    ap (λ b. advance_moments e past ++ cond b ((length past + 1) ∷ []) []) one

pub not_advance : (act : Act) (e : ℕ) → is_one_entry_act act ≡ false → is_advance e act ≡ false
not_advance (Advance f) e other = cc
not_advance act e other = refl

total_few : (e : ℕ) (past : List Entry) → total e past ≤ length past
unfolding total
total_few e [] = omega arith
total_few e (x ∷ past) =
    elim (is_advance e x.act) as (λ b. cond b 1 0 + total e past ≤ suc (length past)) [
      | true ↦ (let rest : total e past ≤ length past = total_few e past in omega arith)
      | false ↦ (let rest : total e past ≤ length past = total_few e past in omega arith)
    ]

-- the counted and the stored advances of an eventcount are all its advances
raised_total : (e : ℕ) (past : List Entry) (k : AdvanceLogModel) → IsAdvanceLog e past k → k.before + length k.moments ≡ total e past
raised_total e past k s = omega (arith, length_advanced e past, ap length s.all, length-append s.gone k.moments, s.before)

-- THE START OF A CALL

opening_on : (e : ℕ) (k : AdvanceLogModel) (past : List Entry) (op : Act) (ms : List (List Entry)) → k.before ≤ total e (opening_past (record { op = op; moments = ms })) → k.before ≤ total e (opening_past (record { op = op; moments = past ∷ ms }))
unfolding total
opening_on e k past op [] le = (let none : k.before ≤ 0 = le in omega arith)
opening_on e k past op (p ∷ ps) le =
    let one : suc (length ps) - 1 ≡ length ps = omega arith in
    let two : suc (suc (length ps)) - 1 ≡ suc (length ps) = omega arith in
    let from : k.before ≤ total e (get_or (p ∷ ps) (length ps) []) = subst (λ j. k.before ≤ total e (get_or (p ∷ ps) j [])) one le in
    subst (λ j. k.before ≤ total e (get_or (past ∷ p ∷ ps) j [])) (sym two) from

-- the advances whose moments are dropped came before the call that the next entry is part of
opened_with : (e : ℕ) (past : List Entry) (k : AdvanceLogModel) (act : Act) (o : Option CallSoFar) (call : CallSoFar) → k.before ≤ total e past
    → ((c : CallSoFar) → o ≡ Some c → is_reading_of e c.op ≡ true → k.before ≤ total e (opening_past c))
    → call_with_act act past o ≡ Some call → is_reading_of e call.op ≡ true → k.before ≤ total e (opening_past call)
opened_with e past k Go None call now since gone reads = cc
opened_with e past k Go (Some c) call now since gone reads =
    let with : CallSoFar = record { op = c.op; moments = past ∷ c.moments } in
    let same : with ≡ call = cc in
    let reads' : is_reading_of e c.op ≡ true = ap (λ (z : CallSoFar). is_reading_of e z.op) same ∙ reads in
    subst (λ (z : CallSoFar). k.before ≤ total e (opening_past z)) same (opening_on e k past c.op c.moments (since c refl reads'))
opened_with e past k act o call now since gone reads =
    let with : CallSoFar = record { op = act; moments = past ∷ [] } in
    let same : with ≡ call = cc in
    subst (λ (z : CallSoFar). k.before ≤ total e (opening_past z)) same now

pub since_with : (e : ℕ) (x : Entry) (past : List Entry) (k : AdvanceLogModel) (call : CallSoFar) → IsAdvanceLog e past k → x.worker < 16 → call_with x past ≡ Some call → is_reading_of e call.op ≡ true → k.before ≤ total e (opening_past call)
since_with e x past k call s lt gone reads =
    opened_with e past k x.act (under_way x.worker past) call (omega (arith, raised_total e past k s)) (λ c is r. s.since x.worker c lt is r) gone reads

chosen : (b : Bool) (o : Option CallSoFar) (call : CallSoFar) → cond b o None ≡ Some call → o ≡ Some call
chosen true o call is = is
chosen false o call is = cc

since_next : (e : ℕ) (x : Entry) (past : List Entry) (k : AdvanceLogModel) → IsAdvanceLog e past k
    → (w : ℕ) (call : CallSoFar) → w < 16 → under_way w (x ∷ past) ≡ Some call → is_reading_of e call.op ≡ true → k.before ≤ total e (opening_past call)
since_next e x past k s w call lt is reads =
    elim (x.worker == w) as (λ b. (x.worker == w) ≡ b → k.before ≤ total e (opening_past call)) [
      | true ↦ λ own.
          (let same : x.worker ≡ w = eqb-true x.worker w own in
          let now : cond (is_pending x.reply) (call_with x past) None ≡ Some call = sym (call_own x past) ∙ ap (λ v. under_way v (x ∷ past)) same ∙ is in
          since_with e x past k call s (omega arith) (chosen (is_pending x.reply) (call_with x past) call now) reads)
      | false ↦ λ other. s.since w call lt (sym (call_other w x past other) ∙ is) reads
    ] refl

-- ONE EVENTCOUNT WITH ONE MORE ENTRY

-- one that is no advance of it
kept_next : (e : ℕ) (x : Entry) (past : List Entry) (k : AdvanceLogModel) (r : ℕ) → is_advance e x.act ≡ false → r ≡ readers e (x ∷ past) → (r ≡ 0 → k.moments ≡ []) → IsAdvanceLog e past k
    → IsAdvanceLog e (x ∷ past) (record k { readers = r })
kept_next e x past k r none now unread s = record {
  gone = s.gone;
  all = advanced_none e x past none ∙ s.all;
  before = s.before;
  readers = now;
  unread = unread;
  since = since_next e x past k s;
}

same_next : (e : ℕ) (x : Entry) (past : List Entry) (k : AdvanceLogModel) → is_advance e x.act ≡ false → readers e (x ∷ past) ≡ readers e past → IsAdvanceLog e past k → IsAdvanceLog e (x ∷ past) k
same_next e x past k none same s = kept_next e x past k k.readers none (s.readers ∙ sym same) s.unread s

-- an advance while no read or await of it is pending
counted_next : (e : ℕ) (x : Entry) (past : List Entry) (k : AdvanceLogModel) → is_advance e x.act ≡ true → readers e (x ∷ past) ≡ readers e past → k.readers ≡ 0 → IsAdvanceLog e past k
    → IsAdvanceLog e (x ∷ past) (record k { before = k.before + 1 })
counted_next e x past k one same none s =
    let m = length past + 1 in
    let unread : readers e (x ∷ past) ≡ 0 = same ∙ sym s.readers ∙ none in
    record {
      gone = s.gone ++ m ∷ [];
      all = advanced_one e x past one ∙ ap (λ ms. ms ++ m ∷ []) (s.all ∙ ap (λ ms. s.gone ++ ms) (s.unread none) ∙ append-nil s.gone) ∙ sym (append-nil (s.gone ++ m ∷ [])) ∙ ap (λ ms. (s.gone ++ m ∷ []) ++ ms) (sym (s.unread none));
      before = omega (arith, length-append s.gone (m ∷ []), s.before);
      readers = s.readers ∙ sym same;
      unread = s.unread;
      since = λ w call lt is reads. absurd (none_reads e (x ∷ past) w call unread lt is reads);
    }

-- an advance whose moment is stored
noted_next : (e : ℕ) (x : Entry) (past : List Entry) (k : AdvanceLogModel) (m : ℕ) → is_advance e x.act ≡ true → readers e (x ∷ past) ≡ readers e past → 0 < k.readers → m ≡ length past + 1 → IsAdvanceLog e past k
    → IsAdvanceLog e (x ∷ past) (record k { moments = k.moments ++ m ∷ [] })
noted_next e x past k m one same some here s = record {
  gone = s.gone;
  all = advanced_one e x past one ∙ ap (λ ms. ms ++ (length past + 1) ∷ []) s.all ∙ append_assoc s.gone k.moments ((length past + 1) ∷ []) ∙ ap (λ j. s.gone ++ (k.moments ++ j ∷ [])) (sym here);
  before = s.before;
  readers = s.readers ∙ sym same;
  unread = λ none. absurd (omega arith);
  since = since_next e x past k s;
}

-- the last call on it has ended
let_go_next : (e : ℕ) (x : Entry) (past : List Entry) (k : AdvanceLogModel) → is_advance e x.act ≡ false → readers e (x ∷ past) ≡ 0 → IsAdvanceLog e past k
    → IsAdvanceLog e (x ∷ past) (record { before = k.before + length k.moments; moments = []; readers = 0 })
let_go_next e x past k none free s = record {
  gone = s.gone ++ k.moments;
  all = advanced_none e x past none ∙ s.all ∙ sym (append-nil (s.gone ++ k.moments));
  before = omega (arith, length-append s.gone k.moments, s.before);
  readers = sym free;
  unread = λ z. refl;
  since = λ w call lt is reads. absurd (none_reads e (x ∷ past) w call free lt is reads);
}

-- ALL OF THEM WITH ONE MORE ENTRY

-- if each stays as it is
all_stay : (kept : List AdvanceLogModel) (past late : List Entry) → ((e : ℕ) (k : AdvanceLogModel) → IsAdvanceLog e past k → IsAdvanceLog e late k) → AreAdvanceLogs kept past → AreAdvanceLogs kept late
all_stay kept past late stays s = λ e lt. (let r = s e lt in (r.0, r.1, stays e r.0 r.2))

-- if one is changed
one_changes : (kept : List AdvanceLogModel) (past late : List Entry) (i : ℕ) (was now : AdvanceLogModel) → i < length kept → was ≡ get_or kept i was
    → (IsAdvanceLog i past was → IsAdvanceLog i late now) → ((e : ℕ) (k : AdvanceLogModel) → (i == e) ≡ false → IsAdvanceLog e past k → IsAdvanceLog e late k)
    → AreAdvanceLogs kept past → AreAdvanceLogs (slice_set kept i now) late
one_changes kept past late i was now within read changes stays s = λ e lt.
    let r = s e lt in
    elim (i == e) as (λ b. (i == e) ≡ b → (k : AdvanceLogModel) × (slice_get (slice_set kept i now) e ≡ Some k) × IsAdvanceLog e late k) [
      | true ↦ λ own.
          (let same : i ≡ e = eqb-true i e own in
          let here : r.0 ≡ was = sym (get_or_from_slice_get kept i r.0 was (ap (slice_get kept) same ∙ r.1)) ∙ sym read in
          let before : IsAdvanceLog i past was = subst (λ k. IsAdvanceLog i past k) here (subst (λ j. IsAdvanceLog j past r.0) (sym same) r.2) in
          (now, get_set kept i e now within ∙ ap (λ b. cond b (Some now) (slice_get kept e)) own, subst (λ j. IsAdvanceLog j late now) same (changes before)))
      | false ↦ λ other. (r.0, get_set kept i e now within ∙ ap (λ b. cond b (Some now) (slice_get kept e)) other ∙ r.1, stays e r.0 other r.2)
    ] refl

-- THE PATHS OF THE CODE, by the contracts of its calls

-- an entry that is a whole call

pub notes_none : (kept : List AdvanceLogModel) (act : Act) (moment : ℕ) → None ≡ advanced_event act → NotesAlone kept act moment kept
notes_none kept act moment none = record {
  after = λ t past x d acc is whole here s.
      all_stay kept past (x ∷ past) (λ e k one. same_next e x past k (ap (is_advance e) (sym is) ∙ raises_none act e (sym none)) (readers_whole t e x past d acc whole) one) s;
}

raised_one : (t : Tables) (e : ℕ) (x : Entry) (past : List Entry) (moment : ℕ) (was now : AdvanceLogModel) → IsDeclared t → IsAccepted t (x ∷ past) → is_one_entry_call x ≡ true → is_advance e x.act ≡ true
    → moment ≡ length past + 1 → moment < 2 ^ 64 → (was.readers ≡ 0 → was.before + 1 < 2 ^ 64 → now ≡ record was { before = was.before + 1 })
    → (0 < was.readers → now ≡ record was { moments = was.moments ++ moment ∷ [] }) → IsAdvanceLog e past was → IsAdvanceLog e (x ∷ past) now
raised_one t e x past moment was now d acc whole one here small unread read s =
    let same : readers e (x ∷ past) ≡ readers e past = readers_whole t e x past d acc whole in
    elim (cases_lt 0 was.readers) [
      | inl some ↦ subst (IsAdvanceLog e (x ∷ past)) (sym (read some)) (noted_next e x past was moment one same some here s)
      | inr few ↦
          (let none : was.readers ≡ 0 = omega arith in
          let fits : was.before + 1 < 2 ^ 64 = omega (arith, raised_total e past was s, total_few e past) in
          subst (IsAdvanceLog e (x ∷ past)) (sym (unread none fits)) (counted_next e x past was one same none s))
    ]

pub notes_one : (old kept : List AdvanceLogModel) (act : Act) (moment e : ℕ) (was now : AdvanceLogModel) → kept ≡ old → Some e ≡ advanced_event act → length kept ≡ 32 → e < 32 → was ≡ get_or kept e was → moment < 2 ^ 64 → AddsAdvance was moment now
    → NotesAlone old act moment (slice_set kept e now)
notes_one old kept act moment e was now view raised long low at small once = record {
  after = λ t past x d acc is whole here s.
      let advances : (f : ℕ) → is_advance f x.act ≡ (e == f) = λ f. ap (is_advance f) (sym is) ∙ raises act f e (sym raised) in
      one_changes kept past (x ∷ past) e was now (omega arith) at
      (raised_one t e x past moment was now d acc whole (advances e ∙ eq-eqb e e refl) here small once.unread once.read)
      (λ f k other one. same_next f x past k (advances f ∙ other) (readers_whole t f x past d acc whole) one) (subst (λ ks. AreAdvanceLogs ks past) (sym view) s);
}

-- an entry of a read or an await

pub begins_none : (kept : List AdvanceLogModel) (act : Act) → None ≡ read_event act → FollowsReading kept act None kept
begins_none kept act none = record {
  after = λ t past x d acc is other ended s.
      all_stay kept past (x ∷ past) (λ e k one.
      let reads : is_reading_of e x.act ≡ false = ap (is_reading_of e) (sym is) ∙ reads_none act e (sym none) in
      let same : readers e (x ∷ past) ≡ readers e past + 0 = readers_begun t e x past d acc other ended ∙ ap (λ b. readers e past + cond b 1 0) reads in
      same_next e x past k (not_advance x.act e other) (omega arith) one) s;
}

begun_one : (t : Tables) (e : ℕ) (x : Entry) (past : List Entry) (was now : AdvanceLogModel) → IsDeclared t → IsAccepted t (x ∷ past) → is_one_entry_act x.act ≡ false → ended_by t x (call_with x past) ≡ []
    → is_reading_of e x.act ≡ true → (was.readers < 255 → now ≡ record was { readers = was.readers + 1 }) → IsAdvanceLog e past was → IsAdvanceLog e (x ∷ past) now
begun_one t e x past was now d acc other ended reads more s =
    let few : was.readers < 255 = omega (arith, s.readers, few_readers e past) in
    let next : readers e (x ∷ past) ≡ readers e past + 1 = readers_begun t e x past d acc other ended ∙ ap (λ b. readers e past + cond b 1 0) reads in
    subst (IsAdvanceLog e (x ∷ past)) (sym (more few)) (kept_next e x past was (was.readers + 1) (not_advance x.act e other) (omega (arith, s.readers)) (λ none. absurd (omega arith)) s)

pub begins_one : (old kept : List AdvanceLogModel) (act : Act) (e : ℕ) (was now : AdvanceLogModel) → kept ≡ old → Some e ≡ read_event act → length kept ≡ 32 → e < 32 → was ≡ get_or kept e was
    → BeginsRead was now → FollowsReading old act None (slice_set kept e now)
begins_one old kept act e was now view read long low at begun = record {
  after = λ t past x d acc is other ended s.
      let reads : (f : ℕ) → is_reading_of f x.act ≡ (e == f) = λ f. ap (is_reading_of f) (sym is) ∙ reads_read act f e (sym read) in
      one_changes kept past (x ∷ past) e was now (omega arith) at
      (begun_one t e x past was now d acc other ended (reads e ∙ eq-eqb e e refl) begun.readers)
      (λ f k off one.
      let same : readers f (x ∷ past) ≡ readers f past + 0 = readers_begun t f x past d acc other ended ∙ ap (λ b. readers f past + cond b 1 0) (reads f ∙ off) in
      same_next f x past k (not_advance x.act f other) (omega arith) one) (subst (λ ks. AreAdvanceLogs ks past) (sym view) s);
}

left_none : (act : Act) (c : Call) (f : ℕ) → ended_event act c.op ≡ None → left_on f act c ≡ 0
left_none Go c f none = ap (λ b. cond b 1 0) (reads_none c.op f none)
left_none act c f none = refl

left_one : (act : Act) (c : Call) (f e : ℕ) → ended_event act c.op ≡ Some e → left_on f act c ≡ cond (e == f) 1 0
left_one Go c f e is = ap (λ b. cond b 1 0) (reads_read c.op f e is)
left_one act c f e is = cc

pub ends_none : (kept : List AdvanceLogModel) (act : Act) (c : Call) → None ≡ ended_event act c.op → FollowsReading kept act (Some c) kept
ends_none kept act c none = record {
  after = λ t past x d acc is other ended s.
      all_stay kept past (x ∷ past) (λ e k one.
      let left : left_on e x.act c ≡ 0 = ap (λ a. left_on e a c) (sym is) ∙ left_none act c e (sym none) in
      let returned : readers e (x ∷ past) + left_on e x.act c ≡ readers e past = readers_told t e x past c d acc other ended in
      same_next e x past k (not_advance x.act e other) (omega arith) one) s;
}

ended_one : (t : Tables) (e : ℕ) (x : Entry) (past : List Entry) (c : Call) (was now : AdvanceLogModel) → IsDeclared t → IsAccepted t (x ∷ past) → is_one_entry_act x.act ≡ false → ended_by t x (call_with x past) ≡ c ∷ []
    → left_on e x.act c ≡ 1 → length past < 2 ^ 64 → (1 < was.readers → now ≡ record was { readers = was.readers - 1 })
    → (was.readers ≡ 1 → was.before + length was.moments < 2 ^ 64 → now ≡ record { before = was.before + length was.moments; moments = []; readers = 0 })
    → IsAdvanceLog e past was → IsAdvanceLog e (x ∷ past) now
ended_one t e x past c was now d acc other ended left small others last s =
    let returned : readers e (x ∷ past) + left_on e x.act c ≡ readers e past = readers_told t e x past c d acc other ended in
    let none : is_advance e x.act ≡ false = not_advance x.act e other in
    let was_read : was.readers ≡ readers e past = s.readers in
    elim (cases_lt 1 was.readers) [
      | inl more ↦ subst (IsAdvanceLog e (x ∷ past)) (sym (others more)) (kept_next e x past was (was.readers - 1) none (omega arith) (λ no. absurd (omega arith)) s)
      | inr few ↦
          (let one : was.readers ≡ 1 = omega arith in
          let fits : was.before + length was.moments < 2 ^ 64 = omega (arith, raised_total e past was s, total_few e past) in
          subst (IsAdvanceLog e (x ∷ past)) (sym (last one fits)) (let_go_next e x past was none (omega arith) s))
    ]

-- a call that an entry ends, with its entries
pub record IsEnded (t : Tables) (x : Entry) (past : List Entry) (c : Call) : Type 0 where
  pub call : CallSoFar
  pub rest : List (List Entry)
  pub with : call_with x past ≡ Some call
  pub moments : call.moments ≡ past ∷ rest
  pub chain : IsChain past rest
  pub is : call_of_entries t x call.op call.moments ≡ c

ended_of : (t : Tables) (x : Entry) (past : List Entry) (c : Call) (o : Option CallSoFar) → call_with x past ≡ o → IsGone past o → ended_by t x o ≡ c ∷ [] → IsEnded t x past c
ended_of t x past c None with gone is = cc
ended_of t x past c (Some call) with gone is =
    let the = call_of_entries t x call.op call.moments in
    let same : the ∷ [] ≡ c ∷ [] = sym (ap (λ b. cond b [] (the ∷ [])) (told_final t x (Some call) c is)) ∙ is in
    record { call = call; rest = gone.0; with = with; moments = gone.1; chain = gone.2; is = cc }

pub ended_with : (t : Tables) (x : Entry) (past : List Entry) (c : Call) → ended_by t x (call_with x past) ≡ c ∷ [] → IsEnded t x past c
ended_with t x past c is = ended_of t x past c (call_with x past) refl (gone_chain x.act past (under_way x.worker past) (call_chain x.worker past)) is

last_of : (t : Tables) (x : Entry) (past : List Entry) (c : Call) → IsEnded t x past c → c.last ≡ length past
last_of t x past c n = sym (ap (λ (z : Call). z.last) n.is) ∙ ap (λ ms. length (get_or ms 0 [])) n.moments

pub ends_one : (old kept : List AdvanceLogModel) (act : Act) (c : Call) (e : ℕ) (was now : AdvanceLogModel) → kept ≡ old → Some e ≡ ended_event act c.op → length kept ≡ 32 → e < 32 → was ≡ get_or kept e was → c.last < 2 ^ 64 → EndsRead was now
    → FollowsReading old act (Some c) (slice_set kept e now)
ends_one old kept act c e was now view left long low at fits done = record {
  after = λ t past x d acc is other ended s.
      let on : (f : ℕ) → left_on f x.act c ≡ cond (e == f) 1 0 = λ f. ap (λ a. left_on f a c) (sym is) ∙ left_one act c f e (sym left) in
      let small : length past < 2 ^ 64 = omega (arith, last_of t x past c (ended_with t x past c ended)) in
      one_changes kept past (x ∷ past) e was now (omega arith) at
      (ended_one t e x past c was now d acc other ended (on e ∙ ap (λ b. cond b 1 0) (eq-eqb e e refl)) small done.others done.last)
      (λ f k off one.
      let returned : readers f (x ∷ past) + left_on f x.act c ≡ readers f past = readers_told t f x past c d acc other ended in
      let none : left_on f x.act c ≡ 0 = on f ∙ ap (λ b. cond b 1 0) off in
      same_next f x past k (not_advance x.act f other) (omega arith) one) (subst (λ ks. AreAdvanceLogs ks past) (sym view) s);
}

-- BEFORE THE FIRST ENTRY

raised_none : (e : ℕ) → IsAdvanceLog e [] (record { before = 0; moments = []; readers = 0 })
unfolding advance_moments under_way
raised_none e = record {
  gone = [];
  all = refl;
  before = refl;
  readers = sym (no_readers e);
  unread = λ z. refl;
  since = λ w call lt is reads. cc;
}

abbrev none_yet : AdvanceLogModel
none_yet = record { before = 0; moments = []; readers = 0 }

pub none_raised : (kept : List AdvanceLogModel) → length kept ≡ 32 → All (λ (k : AdvanceLogModel). k ≡ record { before = 0; moments = []; readers = 0 }) kept → AreAdvanceLogs kept []
none_raised kept long all = λ e lt.
    let low : e < length kept = omega arith in
    let is : get_or kept e none_yet ≡ none_yet = All-get_or (λ (k : AdvanceLogModel). k ≡ none_yet) kept e none_yet low all in
    (get_or kept e none_yet, slice_get-get_or kept e none_yet low, subst (IsAdvanceLog e []) (sym is) (raised_none e))
