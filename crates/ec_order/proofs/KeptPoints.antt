-- The point of a read or an await that ends, by what is stored of the advances.
use Rattle.std.proofs.Common.{◌≡◌, ℕ, zero, suc, ◌-◌, ◌<◌, ◌≤◌, max, true, false, List, [], ◌∷◌, ◌++◌, length, Some, None, refl, ap, sym, ◌∙◌, arith, cond, subst, nat_le, get_or}
use Rattle.std.specs.List.{All, Contains}
use Rattle.std.proofs.lemmas.Bool.{eq-eqb, leb-true, leb-false}
use Rattle.std.proofs.lemmas.List.{get_or-append_right}
use Rattle.std.proofs.lemmas.List.Elements.{All-head, All-contains}
use Rattle.std.proofs.lemmas.Option.{get_or_from_slice_get}
use Rattle.ec_count.specs.Tables.{Tables, IsDeclared}
use Rattle.ec_core.specs.declared.act.Act.{Act}
use Rattle.ec_core.specs.declared.act.Act.TheVariants.{Read, Await}
use Rattle.ec_core.specs.declared.act.Entry.{Entry}
use Rattle.ec_core.specs.Acceptance.{IsAccepted}
use Rattle.ec_core.specs.Calls.{call_with}
use Rattle.ec_core.specs.Counts.{total}
use Rattle.ec_core.specs.Rounds.{event_or, read_event, IsPastOf}
use Rattle.ec_core.proofs.shared.Pasts.{past_itself}
use Rattle.ec_order.specs.declared.call.Call.{Call}
use Rattle.ec_order.specs.Calls.{ended_by, finished_calls, is_reading}
use Rattle.ec_core.specs.CallLists.{reply_number}
use Rattle.ec_order.specs.Index.{advance_moments, moment_of_advance, point_by}
use Rattle.ec_order.specs.Points.{first_entries, point_of}
use Rattle.ec_order.specs.AdvanceLogModel.{AdvanceLogModel, moment_since, is_reading_of, opening_past, IsAdvanceLog, IsPointBy}
use Rattle.ec_order.specs.Walk.{is_one_entry_act}
use Rattle.ec_order.proofs.Chains.{chain_at, past_next}
use Rattle.ec_order.proofs.Ends.{ends}
use Rattle.ec_order.proofs.Fits.{Fits, all_fit}
use Rattle.ec_order.proofs.Gathering.{known_call, others_read}
use Rattle.ec_order.proofs.Points.{first_of_past}
use Rattle.ec_order.proofs.Reaching.{IsReached, not_later, point_is, reached, total_mono, total_upto}
use Rattle.ec_order.proofs.AdvanceLogLemmas.{IsEnded, advanced_none, ended_with, not_advance, since_with}
use Rattle.ec_order.proofs.Readers.{few_workers, reads_read}

-- the advances whose moments are dropped had been made when it began
first_since : (t : Tables) (e : ℕ) (x : Entry) (past : List Entry) (c : Call) (k : AdvanceLogModel) → IsEnded t x past c → IsAdvanceLog e past k → x.worker < 16 → is_reading_of e c.op ≡ true
    → k.before ≤ total e (first_entries c.first (x ∷ past))
first_since t e x past c k n s lt reads =
    let call = n.call in
    let one : suc (length n.rest) - 1 ≡ length n.rest = omega arith in
    let q = get_or (past ∷ n.rest) (length n.rest) [] in
    let opening : opening_past call ≡ q = ap (λ ms. get_or ms (length ms - 1) []) n.moments ∙ ap (λ j. get_or (past ∷ n.rest) j []) one in
    let op : call.op ≡ c.op = ap (λ (z : Call). z.op) n.is in
    let from : k.before ≤ total e (opening_past call) = since_with e x past k call s lt n.with (ap (is_reading_of e) op ∙ reads) in
    let in' : IsPastOf q past = chain_at past (past ∷ n.rest) (length n.rest) (past_itself past, n.chain) (omega arith) in
    let first : c.first ≡ length q = sym (ap (λ (z : Call). z.first) n.is) ∙ ap length opening in
    let same : first_entries c.first (x ∷ past) ≡ q = ap (λ j. first_entries j (x ∷ past)) first ∙ first_of_past q (x ∷ past) (past_next x q past in') in
    subst (λ z. k.before ≤ total e z) (opening ∙ sym same) from

moment_kept : (gone moments all : List ℕ) (k : AdvanceLogModel) (n : ℕ) → all ≡ gone ++ k.moments → length gone ≡ k.before → k.before < n → get_or k.moments (n - k.before - 1) 0 ≡ moment_of_advance all n
moment_kept gone moments all k zero is long lt = absurd (omega arith)
moment_kept gone moments all k (suc r) is long lt =
    let at : suc r - k.before - 1 ≡ r - k.before = omega arith in
    ap (λ j. get_or k.moments j 0) at ∙ sym (get_or-append_right gone k.moments k.before r 0 long (omega arith)) ∙ ap (λ ms. get_or ms r 0) (sym is)

event_read : (op : Act) (e : ℕ) → read_event op ≡ Some e → event_or op ≡ e
event_read (Read f) e is = cc
event_read (Await f v) e is = cc
event_read op e is = cc

pub point_kept : (t : Tables) (e : ℕ) (x : Entry) (past : List Entry) (c : Call) (k : AdvanceLogModel) → IsDeclared t → IsAccepted t (x ∷ past) → is_one_entry_act x.act ≡ false → ended_by t x (call_with x past) ≡ c ∷ []
    → read_event c.op ≡ Some e → IsAdvanceLog e past k → max c.round (moment_since k (reply_number c.reply)) ≡ point_of (x ∷ past) c
point_kept t e x past c k d acc other ended read s =
    let late = x ∷ past in
    let n = reply_number c.reply in
    let all = advance_moments e late in
    let reading : is_reading c.op ≡ true = All-head (λ (z : Call). is_reading z.op ≡ true) c [] (subst (All (λ (z : Call). is_reading z.op ≡ true)) ended (others_read t x past other (ends t x past d acc))) in
    let known : Contains (finished_calls t late) c = known_call t x past c ended in
    let f : Fits late c = All-contains (Fits late) (finished_calls t late) c (all_fit t late d acc) known in
    let event : event_or c.op ≡ e = event_read c.op e read in
    let is : point_of late c ≡ max c.round (moment_of_advance all n) = point_is late c f ∙ ap (λ j. point_by (advance_moments j late) c) event ∙ ap (λ b. cond b (max c.round (moment_of_advance all n)) c.last) reading in
    let same : all ≡ s.gone ++ k.moments = advanced_none e x past (not_advance x.act e other) ∙ s.all in
    elim (nat_le n k.before) as (λ b. nat_le n k.before ≡ b → max c.round (cond b 0 (get_or k.moments (n - k.before - 1) 0)) ≡ point_of late c) [
      | true ↦ λ h.
          (let few : n ≤ k.before = leb-true n k.before h in
          let total_at : ℕ → ℕ = λ j. total e (first_entries j late) in
          let began : k.before ≤ total_at c.first = first_since t e x past c k (ended_with t x past c ended) s (few_workers t x past d acc) (reads_read c.op e e read ∙ eq-eqb e e refl) in
          let order : c.first ≤ c.round = f.began in
          let up : total_at c.first ≤ total_at c.round = total_mono e c.first c.round late order in
          let whole : total_at c.round ≤ total e late = total_upto e c.round late in
          let m : IsReached e n late (moment_of_advance all n) = reached e n late (omega arith) in
          let early : moment_of_advance all n ≤ c.round = not_later total_at n (moment_of_advance all n) c.round m.before (omega arith) in
          let greater : max c.round 0 ≡ max c.round (moment_of_advance all n) = omega arith in
          greater ∙ sym is)
      | false ↦ λ h.
          (let more : k.before < n = leb-false n k.before h in
          ap (max c.round) (moment_kept s.gone k.moments all k n same s.before more) ∙ sym is)
    ] refl

pub point_one : (kept : List AdvanceLogModel) (c : Call) (e k : ℕ) (was : AdvanceLogModel) → Some e ≡ read_event c.op → e < 32 → was ≡ get_or kept e was → k ≡ max c.round (moment_since was (reply_number c.reply)) → IsPointBy kept c k
point_one kept c e k was read low at is = record {
  is = λ t past x d acc other ended s.
      let r = s e low in
      let here : r.0 ≡ was = sym (get_or_from_slice_get kept e r.0 was r.1) ∙ sym at in
      is ∙ point_kept t e x past c was d acc other ended (sym read) (subst (λ z. IsAdvanceLog e past z) here r.2);
}

-- a call that an entry of a read or an await ends is one
reading_read : (op : Act) → is_reading op ≡ true → read_event op ≡ None → ⊥
reading_read (Read f) r none = cc
reading_read (Await f v) r none = cc
reading_read op r none = cc

pub point_none : (kept : List AdvanceLogModel) (c : Call) (k : ℕ) → None ≡ read_event c.op
    → IsPointBy kept c k
point_none kept c k none = record {
  is = λ t past x d acc other ended s.
      let reading : is_reading c.op ≡ true = All-head (λ (z : Call). is_reading z.op ≡ true) c [] (subst (All (λ (z : Call). is_reading z.op ≡ true)) ended (others_read t x past other (ends t x past d acc))) in
      absurd (reading_read c.op reading (sym none));
}
