-- Buffers with one producer and one consumer, in a history that was read: their calls are of the
-- class that is always decided, before each position.
use Rattle.std.proofs.Common.{◌≡◌, ℕ, ◌+◌, ◌<◌, ◌≤◌, ◌^◌, inr, nat_lt, nat_le, true, false, cond}
use Rattle.std.proofs.Common.{List, [], ◌∷◌, length, reverse, slice_get, Some, Ok, ap, sym, ◌∙◌}
use Rattle.std.proofs.Common.{subst, arith, length-append}
use Rattle.std.proofs.lemmas.Bool.{and_parts, ltb-true}
use Rattle.std.proofs.lemmas.Option.{same_Some}
use Rattle.ec_heading.specs.HeadingModel.{HeadingModel}
use Rattle.ec_heading.specs.Spelling.{lines_text, ended_line}
use Rattle.calls_core.specs.declared.history.Kind.{Kind}
use Rattle.calls_core.specs.declared.history.Kind.TheVariants.{Buffer}
use Rattle.calls_core.specs.declared.history.Event.{Event}
use Rattle.calls_core.specs.Histories.{clock, part, IsHistory}
use Rattle.calls_core.specs.Beginnings.{until}
use Rattle.calls_core.proofs.Beginnings.{history_until}
use Rattle.calls_local.proofs.Parts.{part_history_of}
use Rattle.calls_buffers.specs.Outcomes.{IsSimple}
use Rattle.calls_spsc.specs.Flows.{IsSpsc}
use Rattle.calls_verdict.specs.Verdicts.{IsSimpleFrom, IsSettled}
use Rattle.calls_verdict.proofs.Untils.{part_until}
use Rattle.calls_text.specs.Recordings.{AreKinds}
use Rattle.calls_text.specs.Reading.{Opening}
use Rattle.calls_text.specs.Outcomes.{OneRead, parse_from, lines_of_text}
use Rattle.calls_text.proofs.TextParts.{IsRead, is_read}
use Rattle.calls_spsc.specs.declared.monitor.TheConstants.{ROOM_MAX}
use Rattle.calls_monitor.specs.Watched.{has_fit_room}
use Rattle.calls_watch.specs.Spsc.{is_spsc}
use Rattle.calls_watch.specs.Laws.{AreRead}
use Rattle.calls_watch.proofs.Watched.{IsFit, is_fit}
use Rattle.calls_watch.proofs.Rights.{AreAllowed, whole_allowed}
use Rattle.calls_watch.proofs.Pairs.{spsc_by_allowed}
use Rattle.calls_watch.proofs.Called.{AreLeft, left_in}
use Rattle.calls_watch.proofs.Simple.{spsc_is_simple}

-- A HISTORY THAT WAS READ

-- each line has an LF
lines_length : (lines : List (List ℕ)) → length lines ≤ length (lines_text lines)
lines_length [] = omega arith
lines_length (line ∷ lines) =
    let whole : length (lines_text (line ∷ lines))
    ≡ length (ended_line line) + length (lines_text lines) =
    length-append (ended_line line) (lines_text lines) in
    let lf : length (ended_line line) ≡ length line + 1 = length-append line (10 ∷ []) in
    omega (arith, whole, lf, lines_length lines)

-- it has fewer events than the text has bytes, and they are allowed
pub was_read : (text : List ℕ) (reads : List OneRead) (m : ℕ) (qs : List (List ℕ)) (o : OneRead)
    → AreRead 1 (lines_of_text text) reads m qs → parse_from m Opening qs ≡ Ok o
    → (length o.recorded.events < length text)
    × AreAllowed o.recorded.heading (reverse o.recorded.events)
was_read text reads m qs o are is =
    let left : AreLeft qs (length text) = left_in text reads m qs are in
    let read : IsRead left.bytes m Opening o =
    is_read left.bytes m Opening o (ap (parse_from m Opening) (sym left.are) ∙ is) in
    let whole = whole_allowed read.lines o.recorded read.leads in
    let bytes : length left.bytes ≡ length (lines_text read.lines) + length read.rest =
    ap length read.text ∙ length-append (lines_text read.lines) read.rest in
    (omega (arith, whole.0, lines_length read.lines, bytes, left.within), whole.1)

-- THE CALLS OF SUCH A BUFFER

until_spsc : (m : ℕ) (past : List Event) → IsSpsc past → IsSpsc (until m past)
until_spsc m [] spsc = tt
until_spsc m (x ∷ past) spsc =
    elim (nat_lt x.at m) as (λ b. IsSpsc (cond b (x ∷ past) (until m past))) [
      | true ↦ spsc
      | false ↦ until_spsc m past spsc.2
    ]

some_room : (n : ℕ) → has_fit_room n ≡ true → 0 < n
some_room n fits = ltb-true 0 n (and_parts (nat_lt 0 n) (nat_le n ROOM_MAX) fits).0

module _ (h : HeadingModel) (from : List (ℕ × ℕ)) (ks : List Kind) (are : AreKinds h from ks)
    (past : List Event) (history : IsHistory ks past) (allowed : AreAllowed h past)
    (room : clock past + 1 < 2 ^ 64) (k : ℕ) (is : is_spsc h k ≡ true) (m : ℕ) where
  simple_from : (n : ℕ) → slice_get ks k ≡ Some (Buffer n) → 0 < n → IsSimpleFrom n past k m
  simple_from n at some = record {
    room = room;
    simple = λ later from_m. subst (IsSimple n) (sym (part_until ks k later past history))
        (spsc_is_simple n (until later (part k past)) some
        (history_until (Buffer n) later (part k past)
        (part_history_of ks k (Buffer n) past history at))
        (until_spsc later (part k past) (spsc_by_allowed h ks past allowed history k is)));
  }

  -- it is settled at each position
  pub spsc_settled : (kind : Kind) → slice_get ks k ≡ Some kind → IsSettled kind past k m
  spsc_settled kind at =
      let f : IsFit ks k = is_fit h from ks k are is in
      subst (λ (o : Kind). IsSettled o past k m) (same_Some (Buffer f.room) kind (sym f.is ∙ at))
      (inr (simple_from f.room f.is (some_room f.room f.fits)))
