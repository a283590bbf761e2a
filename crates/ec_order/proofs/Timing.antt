-- What a linearizer stores, with one more entry.
use Rattle.std.proofs.Common.{◌≡◌, ℕ, zero, suc, ◌+◌, ◌-◌, ◌≤◌, Bool, true, false, not, ◌&&◌, List, [], ◌∷◌, ◌++◌, length, map, Option, Some, None, refl, ap, sym, ◌∙◌, arith, cond, subst, append-nil, reverse, slice_get}
use Rattle.std.specs.Option.{option_map}
use Rattle.std.specs.List.{All, filter, insert}
use Rattle.std.proofs.lemmas.Bool.{not-true}
use Rattle.std.proofs.lemmas.List.{map-append, length-map, reverse-append}
use Rattle.std.proofs.lemmas.List.Elements.{All-head, filter-append}
use Rattle.ec_count.specs.Tables.{Tables, IsDeclared}
use Rattle.ec_core.specs.declared.act.Entry.{Entry}
use Rattle.ec_core.specs.declared.pending_calls.PendingCall.{PendingCall}
use Rattle.ec_core.specs.Calls.{call_with, is_go, is_pending}
use Rattle.ec_core.specs.Acceptance.{IsAccepted}
use Rattle.ec_core.specs.PendingCalls.{pending_call, AreCalls}
use Rattle.ec_order.specs.declared.call.Call.{Call}
use Rattle.ec_order.specs.declared.linearized_entry.LinearizedEntry.{LinearizedEntry}
use Rattle.ec_order.specs.declared.placed.Placed.{Placed}
use Rattle.ec_order.specs.Calls.{ended_by, finished_calls, is_one_entry_call, EndsCall, Ending}
use Rattle.ec_order.specs.Points.{by_moments, with_point}
use Rattle.ec_order.specs.AdvanceLogModel.{AdvanceLogModel, AreAdvanceLogs, NotesAlone, FollowsReading}
use Rattle.ec_order.specs.Linearizer.{LinearizerModel, IsLinearizerModel, PutsByPoint, TakesIn, linearized_entry, entry_point, is_long, long_readings}
use Rattle.ec_order.specs.Walk.{alone_at, is_one_entry_act, placed_point, reads, readings, IsPlaceFor}
use Rattle.ec_order.proofs.Ends.{ends}
use Rattle.ec_order.proofs.Inserting.{map_insert}
use Rattle.ec_order.proofs.Gathering.{AddsReading, added, alone_whole, by_moments_none, put_among, readings_more, readings_none, whole_from, whole_leaves}
use Rattle.ec_order.proofs.Wholes.{IsLongReading, long_read, others_long, placed_whole, whole_short}
use Rattle.ec_core.proofs.shared.Reading.{never as neither_way}
use Rattle.ec_order.proofs.Positions.{reverse_cons as newest_last}

-- READS AND AWAITS BY THEIR POINTS

-- as they are written

told_at : (ps : List Placed) (i : ℕ) (p : Placed) → slice_get ps i ≡ Some p → slice_get (map linearized_entry ps) i ≡ Some (linearized_entry p)
told_at [] i p at = cc
told_at (q ∷ ps) zero p at = (let is : q ≡ p = cc in ap (λ r. Some (linearized_entry r)) is)
told_at (q ∷ ps) (suc i) p at = told_at ps i p at

place_told : (ps : List Placed) (k at : ℕ) → IsPlaceFor entry_point (map linearized_entry ps) k at → IsPlaceFor placed_point ps k at
place_told ps k at h = record {
  within = (let le : at ≤ length (map linearized_entry ps) =
      h.within in omega (arith, length-map ps linearized_entry));
  after = λ i p le here. h.after i (linearized_entry p) le (told_at ps i p here);
  before = λ p lt here. h.before (linearized_entry p) lt (told_at ps (at - 1) p here);
}

-- WITH ONE MORE ENTRY

abbrev pub kept : Tables → List (Option PendingCall) → List AdvanceLogModel → List Bool → List Entry → List LinearizedEntry → Bool → LinearizerModel
kept t calls ks marks one_entry_calls rs out_of_memory = record { setup = t; under_way = calls; advances = ks; marks = marks; one_entry_calls = one_entry_calls; readings = rs; out_of_memory = out_of_memory }

marked : (x : Entry) (past : List Entry) (marks : List Bool) (b : Bool) → is_one_entry_call x ≡ b → marks ≡ map is_one_entry_call (reverse past) → marks ++ b ∷ [] ≡ map is_one_entry_call (reverse (x ∷ past))
marked x past marks b is same =
    ap (λ ms. ms ++ b ∷ []) same ∙ ap (λ c. map is_one_entry_call (reverse past) ++ c ∷ []) (sym is)
    ∙ sym (ap (map is_one_entry_call) (newest_last x past) ∙ map-append is_one_entry_call (reverse past) (x ∷ []))

left_alone : (x : Entry) (past : List Entry) (one_entry_calls : List Entry) → one_entry_calls ≡ filter is_one_entry_call (reverse past) → one_entry_calls ++ cond (is_one_entry_call x) (x ∷ []) [] ≡ filter is_one_entry_call (reverse (x ∷ past))
left_alone x past one_entry_calls same =
    ap (λ xs. xs ++ cond (is_one_entry_call x) (x ∷ []) []) same ∙ sym (ap (filter is_one_entry_call) (newest_last x past) ∙ filter-append is_one_entry_call (reverse past) (x ∷ []))

pub timed_start : (t : Tables) (calls : List (Option PendingCall)) (ks : List AdvanceLogModel) (out_of_memory : Bool) → AreCalls t calls [] → AreAdvanceLogs ks [] → IsLinearizerModel (kept t calls ks [] [] [] out_of_memory) []
unfolding finished_calls
timed_start t calls ks out_of_memory empty none = record { under_way = empty; advances = none; marks = refl; one_entry_calls = refl; readings = λ n le. ap (map linearized_entry) (sym (by_moments_none n)) }

-- a whole call adds no long one
long_whole : (t : Tables) (x : Entry) (past : List Entry) → IsDeclared t → IsAccepted t (x ∷ past) → is_one_entry_call x ≡ true → long_readings t (x ∷ past) ≡ long_readings t past
long_whole t x past d acc whole =
    let p = alone_at (length past) x in
    ap (filter is_long) (added t x past d acc ∙ ap (λ ps. readings t past ++ filter reads ps) (placed_whole t x past (x ∷ past) whole))
    ∙ filter-append is_long (readings t past) (filter reads (p ∷ [])) ∙ ap (λ ps. long_readings t past ++ ps) (whole_short (length past) x) ∙ append-nil (long_readings t past)

-- a whole call
pub timed_alone : (t : Tables) (calls : List (Option PendingCall)) (ks ks' : List AdvanceLogModel) (marks marks' : List Bool) (one_entry_calls alone' : List Entry) (rs : List LinearizedEntry) (out_of_memory : Bool) (x : Entry) (past : List Entry) → IsDeclared t → IsAccepted t (x ∷ past)
    → is_one_entry_call x ≡ true → IsLinearizerModel (kept t calls ks marks one_entry_calls rs out_of_memory) past → NotesAlone ks x.act (length past + 1) ks' → marks' ≡ marks ++ true ∷ [] → alone' ≡ one_entry_calls ++ x ∷ []
    → IsLinearizerModel (kept t calls ks' marks' alone' rs out_of_memory) (x ∷ past)
timed_alone t calls ks ks' marks marks' one_entry_calls alone' rs out_of_memory x past d acc is s notes more one = record {
  under_way = λ w lt. s.under_way w lt ∙ ap (λ o. Some (option_map (pending_call t) o)) (sym (whole_leaves t x past w d acc is));
  advances = notes.after t past x d acc refl is refl s.advances;
  marks = more ∙ marked x past marks true is s.marks;
  one_entry_calls = one ∙ ap (λ b. one_entry_calls ++ cond b (x ∷ []) []) (sym is)
      ∙ left_alone x past one_entry_calls s.one_entry_calls;
  readings = λ n le. s.readings n (omega arith) ∙ ap (λ ps. map linearized_entry (by_moments ps n)) (sym (long_whole t x past d acc is));
}

others_stay : (x : Entry) (past : List Entry) (one_entry_calls : List Entry) → is_one_entry_call x ≡ false → one_entry_calls ≡ filter is_one_entry_call (reverse past) → one_entry_calls ≡ filter is_one_entry_call (reverse (x ∷ past))
others_stay x past one_entry_calls is same = sym (append-nil one_entry_calls) ∙ ap (λ b. one_entry_calls ++ cond b (x ∷ []) []) (sym is) ∙ left_alone x past one_entry_calls same

same_no : (b : Bool) → (b ≡ true → true ≡ false) → b ≡ false
same_no true h = h refl
same_no false h = refl

-- what is no whole call is one of a read or an await
part_reads : (t : Tables) (x : Entry) (past : List Entry) → IsDeclared t → IsAccepted t (x ∷ past) → is_one_entry_call x ≡ false → is_one_entry_act x.act ≡ false
part_reads t x past d acc part = same_no (is_one_entry_act x.act) (λ one_entry_calls. sym (alone_whole t x past one_entry_calls (ends t x past d acc)) ∙ part)

-- an entry of a read or an await, if it ends none
pub timed_none : (t : Tables) (calls calls' : List (Option PendingCall)) (ks ks' : List AdvanceLogModel) (marks marks' : List Bool) (one_entry_calls : List Entry) (rs : List LinearizedEntry) (out_of_memory : Bool) (x : Entry) (past : List Entry) → IsDeclared t → IsAccepted t (x ∷ past)
    → is_one_entry_call x ≡ false → IsLinearizerModel (kept t calls ks marks one_entry_calls rs out_of_memory) past → FollowsReading ks x.act None ks' → marks' ≡ marks ++ false ∷ [] → EndsCall t past x None calls'
    → IsLinearizerModel (kept t calls' ks' marks' one_entry_calls rs out_of_memory) (x ∷ past)
timed_none t calls calls' ks ks' marks marks' one_entry_calls rs out_of_memory x past d acc is s follows more ended = record {
  under_way = ended.after;
  advances = follows.after t past x d acc refl (part_reads t x past d acc is) ended.call s.advances;
  marks = more ∙ marked x past marks false is s.marks;
  one_entry_calls = others_stay x past one_entry_calls is s.one_entry_calls;
  readings = λ n le. s.readings n (omega arith) ∙ ap (λ ps. map linearized_entry (by_moments (filter is_long ps) n)) (sym (readings_none t x past d acc ended.call));
}

-- the call of more entries that an entry ends comes last of the long ones
long_more : (t : Tables) (x : Entry) (past : List Entry) (c : Call) → IsDeclared t → IsAccepted t (x ∷ past) → is_one_entry_call x ≡ false → ended_by t x (call_with x past) ≡ c ∷ []
    → AddsReading t x past (with_point (x ∷ past) c) → long_readings t (x ∷ past) ≡ long_readings t past ++ with_point (x ∷ past) c ∷ []
long_more t x past c d acc part is adds =
    let p = with_point (x ∷ past) c in
    let long : IsLongReading c = All-head IsLongReading c [] (subst (All IsLongReading) is (others_long t x past part (ends t x past d acc))) in
    ap (filter is_long) adds.is ∙ filter-append is_long (readings t past) (p ∷ []) ∙ ap (λ b. long_readings t past ++ cond b (p ∷ []) []) long.1

-- an entry of a read or an await, if it ends one
pub timed_one : (t : Tables) (calls calls' : List (Option PendingCall)) (ks ks' : List AdvanceLogModel) (marks marks' : List Bool) (one_entry_calls : List Entry) (rs rs' : List LinearizedEntry) (out_of_memory : Bool) (x : Entry) (past : List Entry) (c : Call) → IsDeclared t → IsAccepted t (x ∷ past)
    → is_one_entry_call x ≡ false → IsLinearizerModel (kept t calls ks marks one_entry_calls rs out_of_memory) past → FollowsReading ks x.act (Some c) ks' → marks' ≡ marks ++ false ∷ [] → EndsCall t past x (Some c) calls'
    → PutsByPoint ks c rs rs'
    → IsLinearizerModel (kept t calls' ks' marks' one_entry_calls rs' out_of_memory) (x ∷ past)
timed_one t calls calls' ks ks' marks marks' one_entry_calls rs rs' out_of_memory x past c d acc part s follows more ended put =
    let is : is_one_entry_act x.act ≡ false = part_reads t x past d acc part in
    let adds = readings_more t x past c d acc is ended.call in
    record {
      under_way = ended.after;
      advances = follows.after t past x d acc refl is ended.call s.advances;
      marks = more ∙ marked x past marks false part s.marks;
      one_entry_calls = others_stay x past one_entry_calls part s.one_entry_calls;
      readings = λ n le.
          let puts = put.puts in
          let p : Placed = record { call = c; point = put.point } in
          let ps = by_moments (long_readings t past) n in
          let same : rs ≡ map linearized_entry ps = s.readings n (omega arith) in
          let place : IsPlaceFor placed_point ps p.point puts.at = place_told ps p.point puts.at (subst (λ ds. IsPlaceFor entry_point ds p.point puts.at) same puts.place) in
          puts.is ∙ ap (λ ds. insert ds puts.at (linearized_entry p)) same ∙ sym (map_insert linearized_entry ps puts.at p)
          ∙ ap (map linearized_entry)
          (put_among (long_readings t past) x past c put.point n puts.at ps (long_read t past) adds.reading (put.is.is t past x d acc is ended.call s.advances) adds.low (omega arith) refl place
          ∙ ap (λ qs. by_moments qs n) (sym (long_more t x past c d acc part ended.call adds)));
    }

-- THE STATE AS ONE RECORD
-- These are the paths of `gather` and `end`, by the contracts of their calls.

-- a whole call
pub takes_alone : (t : Tables) (calls : List (Option PendingCall)) (ks ks' : List AdvanceLogModel) (marks marks' : List Bool) (one_entry_calls alone' : List Entry) (rs : List LinearizedEntry) (out_of_memory b : Bool) (old : LinearizerModel) (x : Entry) (place : ℕ)
    → kept t calls ks marks one_entry_calls rs out_of_memory ≡ old → IsDeclared t → NotesAlone ks x.act (place + 1) ks' → b ≡ not (is_pending x.reply) → b ≡ true → is_go x.act ≡ false → marks' ≡ marks ++ true ∷ [] → alone' ≡ one_entry_calls ++ x ∷ []
    → TakesIn old place x (kept t calls ks' marks' alone' rs out_of_memory)
takes_alone t calls ks ks' marks marks' one_entry_calls alone' rs out_of_memory b old x place were d notes kind is begins more one =
    subst (λ k. TakesIn k place x (kept t calls ks' marks' alone' rs out_of_memory)) were (record {
      timed = λ past here acc s.
          timed_alone t calls ks ks' marks marks' one_entry_calls alone' rs out_of_memory x past d acc (whole_from x begins (not-true (is_pending x.reply) (sym kind ∙ is))) s (subst (λ n. NotesAlone ks x.act (n + 1) ks') here notes) more one;
    })

none_taken : (t : Tables) (calls calls' : List (Option PendingCall)) (ks ks' : List AdvanceLogModel) (marks marks' : List Bool) (one_entry_calls : List Entry) (rs : List LinearizedEntry) (out_of_memory : Bool) (old : LinearizerModel) (x : Entry) (place : ℕ)
    → kept t calls ks marks one_entry_calls rs out_of_memory ≡ old → IsDeclared t → is_one_entry_call x ≡ false → marks' ≡ marks ++ false ∷ [] → Ending calls place x None calls' t
    → FollowsReading ks x.act None ks' → TakesIn old place x (kept t calls' ks' marks' one_entry_calls rs out_of_memory)
none_taken t calls calls' ks ks' marks marks' one_entry_calls rs out_of_memory old x place were d part more ends follows =
    subst (λ k. TakesIn k place x (kept t calls' ks' marks' one_entry_calls rs out_of_memory)) were (record {
      timed = λ past here acc s. timed_none t calls calls' ks ks' marks marks' one_entry_calls rs out_of_memory x past d acc part s follows more (ends.ends past acc.1 here s.under_way);
    })

go_part : (x : Entry) → is_go x.act ≡ true → is_one_entry_call x ≡ false
go_part x go = ap (λ a. not a && not (is_pending x.reply)) go

-- an entry after which its call goes on
pub takes_pending : (t : Tables) (calls calls' : List (Option PendingCall)) (ks ks' : List AdvanceLogModel) (marks marks' : List Bool) (one_entry_calls : List Entry) (rs : List LinearizedEntry) (out_of_memory b : Bool) (old : LinearizerModel) (x : Entry) (place : ℕ)
    → kept t calls ks marks one_entry_calls rs out_of_memory ≡ old → IsDeclared t → b ≡ not (is_pending x.reply) → b ≡ false → marks' ≡ marks ++ false ∷ [] → Ending calls place x None calls' t
    → FollowsReading ks x.act None ks' → TakesIn old place x (kept t calls' ks' marks' one_entry_calls rs out_of_memory)
takes_pending t calls calls' ks ks' marks marks' one_entry_calls rs out_of_memory b old x place were d kind is more ends follows =
    let part : is_one_entry_call x ≡ false = ap (λ r. not (is_go x.act) && r) (sym kind ∙ is) ∙ neither_way (not (is_go x.act)) in
    none_taken t calls calls' ks ks' marks marks' one_entry_calls rs out_of_memory old x place were d part more ends follows

-- a go that ends none
pub takes_none : (t : Tables) (calls calls' : List (Option PendingCall)) (ks ks' : List AdvanceLogModel) (marks marks' : List Bool) (one_entry_calls : List Entry) (rs : List LinearizedEntry) (out_of_memory : Bool) (old : LinearizerModel) (x : Entry) (place : ℕ) (returned : Option Call)
    → kept t calls ks marks one_entry_calls rs out_of_memory ≡ old → IsDeclared t → is_go x.act ≡ true → marks' ≡ marks ++ false ∷ [] → Ending calls place x returned calls' t → returned ≡ None
    → FollowsReading ks x.act None ks' → TakesIn old place x (kept t calls' ks' marks' one_entry_calls rs out_of_memory)
takes_none t calls calls' ks ks' marks marks' one_entry_calls rs out_of_memory old x place returned were d go more ends none follows =
    none_taken t calls calls' ks ks' marks marks' one_entry_calls rs out_of_memory old x place were d (go_part x go) more (subst (λ o. Ending calls place x o calls' t) none ends) follows

-- and one that ends one
pub takes_one : (t : Tables) (calls calls' : List (Option PendingCall)) (ks ks' : List AdvanceLogModel) (marks marks' : List Bool) (one_entry_calls : List Entry) (rs rs' : List LinearizedEntry) (out_of_memory : Bool) (old : LinearizerModel) (x : Entry) (place : ℕ) (c : Call)
    → kept t calls ks marks one_entry_calls rs out_of_memory ≡ old → IsDeclared t → is_go x.act ≡ true → marks' ≡ marks ++ false ∷ [] → Ending calls place x (Some c) calls' t
    → PutsByPoint ks c rs rs' → FollowsReading ks x.act (Some c) ks' → TakesIn old place x (kept t calls' ks' marks' one_entry_calls rs' out_of_memory)
takes_one t calls calls' ks ks' marks marks' one_entry_calls rs rs' out_of_memory old x place c were d go more ends put follows =
    subst (λ k. TakesIn k place x (kept t calls' ks' marks' one_entry_calls rs' out_of_memory)) were (record {
      timed = λ past here acc s.
          timed_one t calls calls' ks ks' marks marks' one_entry_calls rs rs' out_of_memory x past c d acc (go_part x go) s follows more (ends.ends past acc.1 here s.under_way) put;
    })
