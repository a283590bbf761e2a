-- The text of a history, line by line, and its verdict.
use Rattle.std.proofs.Common.{◌≡◌, ◌≢◌, ◌<◌, ℕ, ◌+◌, Bool, true, false, eqb, List, [], ◌∷◌, ◌++◌, length}
use Rattle.std.proofs.Common.{reverse, Result, Ok, Err, refl, ap, sym, ◌∙◌, subst, arith, if◌then◌else◌}
use Rattle.std.proofs.Common.{append_assoc, append-nil, length-append, ne_eqb}
use Rattle.std.specs.Prelude.{OnOk}
use Rattle.std.specs.Global.{Vec}
use Rattle.std.specs.List.{All}
use Rattle.std.proofs.lemmas.List.Concat.{flat_map-append}
use Rattle.std.proofs.lemmas.List.Elements.{All-weaker}
use Rattle.ec_heading.specs.Spelling.{lines_text, ended_line}
use Rattle.calls_core.specs.declared.history.Kind.{Kind}
use Rattle.calls_core.specs.declared.history.Placed.{Placed}
use Rattle.calls_core.specs.Histories.{clock, completed_calls, pending_calls}
use Rattle.calls_core.specs.Linearizations.{IsRun, start}
use Rattle.calls_core.specs.Points.{IsPlacedOrder, calls_of}
use Rattle.calls_core.specs.Completions.{IsLinearizable}
use Rattle.calls_local.proofs.Responding.{answers_become_responses}
use Rattle.calls_text.specs.Recordings.{RecordingModel, IsRecording}
use Rattle.calls_text.specs.Reading.{Stage, Opening, Ended, step}
use Rattle.calls_text.specs.Outcomes.{OneRead, ParseResult, parse_from, lines_of_text}
use Rattle.calls_text.specs.Following.{IsReached}
use Rattle.calls_text.specs.kept.Leading.{Leads}
use Rattle.calls_text.proofs.ReachedLines.{reached_end}
use Rattle.calls_text.proofs.TextParts.{parts_line}
use Rattle.calls_report.specs.declared.checking.TheConstants.{TEXT_MAX}
use Rattle.calls_report.specs.Checks.{HasOrder}
use Rattle.calls_watch.specs.declared.kept.Kept.{Kept}
use Rattle.calls_watch.specs.declared.kept.Kept.TheVariants.{Text, Unneeded, TooLong}
use Rattle.calls_watch.specs.declared.stop.Stop.{Stop}
use Rattle.calls_watch.specs.declared.whole.DecidedHistory.{DecidedHistory}
use Rattle.calls_watch.specs.Watches.{IsGood}
use Rattle.calls_watch.specs.kept.Texts.{ArePlain, HoldsText, Overflows, DecidesText}

-- ONE LINE MORE

pub lines_more : (lines : List (List ℕ)) (line : List ℕ)
    → lines_text (lines ++ line ∷ []) ≡ lines_text lines ++ ended_line line
lines_more lines line =
    flat_map-append ended_line lines (line ∷ [])
    ∙ ap (λ (t : List ℕ). lines_text lines ++ t) (append-nil (ended_line line))

plain_more : (lines : List (List ℕ)) (line : List ℕ) → ArePlain lines → All (λ b. b ≢ 10) line
    → ArePlain (lines ++ line ∷ [])
plain_more [] line plain one = (one, tt)
plain_more (l ∷ lines) line plain one = (plain.0, plain_more lines line plain.1 one)

pub text_more : (lines : List (List ℕ)) (line : List ℕ) (old new : Vec ℕ) → HoldsText lines (Text old)
    → new.items ≡ old.items ++ line ++ 10 ∷ [] → All (λ b. b ≢ 10) line
    → HoldsText (lines ++ line ∷ []) (Text new)
text_more lines line old new holds pushed one = (
  pushed ∙ append_assoc old.items line (10 ∷ [])
      ∙ ap (λ (t : List ℕ). t ++ ended_line line) holds.0 ∙ sym (lines_more lines line),
  plain_more lines line holds.1 one,
)

pub text_pushed : (k : Kept) (line : List ℕ) (old new : Vec ℕ) (result : Result (Unit {0}) Stop)
    → k ≡ Text old → OnOk result (new.items ≡ old.items ++ line ++ 10 ∷ [])
    → OnOk result (All (λ b. b ≢ 10) line)
    → OnOk result ((lines : List (List ℕ)) → HoldsText lines k
    → HoldsText (lines ++ line ∷ []) (Text new))
text_pushed k line old new (Ok u) is pushed plain = λ lines holds.
    text_more lines line old new (subst (HoldsText lines) is holds) pushed plain
text_pushed k line old new (Err stop) is pushed plain = tt

pub overflown : (lines : List (List ℕ)) (line : List ℕ) (k : Kept) → Overflows line k
    → HoldsText lines k → HoldsText (lines ++ line ∷ []) TooLong
overflown lines line (Text bytes) over holds =
    subst (λ (t : List ℕ). TEXT_MAX < length t)
    (append_assoc bytes.items line (10 ∷ [])
    ∙ ap (λ (t : List ℕ). t ++ ended_line line) holds.0 ∙ sym (lines_more lines line)) over
overflown lines line Unneeded over holds = absurd over
overflown lines line TooLong over holds = absurd over

pub too_long_more : (lines : List (List ℕ)) (line : List ℕ) → HoldsText lines TooLong
    → HoldsText (lines ++ line ∷ []) TooLong
too_long_more lines line holds =
    let a : length (lines_text (lines ++ line ∷ []))
    ≡ length (lines_text lines) + length (ended_line line) =
    ap length (lines_more lines line) ∙ length-append (lines_text lines) (ended_line line) in
    let b : TEXT_MAX < length (lines_text lines) = holds in
    omega (arith, a, b)

pub kept_if : (lines : List (List ℕ)) (old new : Kept) (b : Bool)
    → new ≡ (if b then old else Unneeded) → HoldsText lines old → HoldsText lines new
kept_if lines old new true is holds = subst (HoldsText lines) (sym is) holds
kept_if lines old new false is holds = subst (HoldsText lines) (sym is) tt

pub leads_more : (s t u : Stage) (lines : List (List ℕ)) (line : List ℕ) → Leads s lines t
    → step t line ≡ Ok u → Leads s (lines ++ line ∷ []) u
leads_more s t u [] line leads steps =
    (u, subst (λ (k : Stage). step k line ≡ Ok u) (sym leads) steps, refl)
leads_more s t u (l ∷ ls) line (next, is, leads) steps =
    (next, is, leads_more next t u ls line leads steps)

-- THE WHOLE TEXT

pub no_lf : (bytes : List ℕ) → All (λ b. b ≢ 10) bytes → All (λ b. eqb b 10 ≡ false) bytes
no_lf bytes none = All-weaker (λ b. b ≢ 10) (λ b. eqb b 10
    ≡ false) (λ b apart. ne_eqb b 10 apart) bytes none

-- lines, and what comes after them
pub lines_apart : (lines : List (List ℕ)) (more : List ℕ) → ArePlain lines
    → lines_of_text (lines_text lines ++ more) ≡ lines ++ lines_of_text more
lines_apart [] more plain = refl
lines_apart (line ∷ lines) more plain =
    ap lines_of_text (append_assoc (ended_line line) (lines_text lines) more
    ∙ append_assoc line (10 ∷ []) (lines_text lines ++ more))
    ∙ parts_line line (lines_text lines ++ more) (no_lf line plain.0)
    ∙ ap (λ (ls : List (List ℕ)). line ∷ ls) (lines_apart lines more plain.1)

one_read : (x y : OneRead) → ◌≡◌ {A = ParseResult} (Ok x) (Ok y) → x ≡ y
one_read x y same = cc

-- the history that was read again is that whose lines are kept
pub record IsSame (d : DecidedHistory) (r : RecordingModel) (m : ℕ) : Type 0 where
  pub recorded : d.read.recording ≡ r
  pub number : d.read.number ≡ m

pub read_again : (n : ℕ) (ps : List (List ℕ)) (r : RecordingModel) (m : ℕ) (q : List ℕ)
    (qs : List (List ℕ)) (at : IsReached n ps (Ended r) m (q ∷ qs)) (bytes : Vec ℕ)
    (d : DecidedHistory) → HoldsText at.lines (Text bytes) → DecidesText n bytes.items d
    → IsSame d r m
read_again n ps r m q qs at bytes d holds decides =
    let are : lines_of_text bytes.items ≡ at.lines ++ [] ∷ [] =
    ap lines_of_text (holds.0 ∙ sym (append-nil (lines_text at.lines)))
    ∙ lines_apart at.lines [] holds.1 in
    let known : OneRead = record { recorded = r; number = m; rest = [] ∷ [] } in
    let found : OneRead =
    record { recorded = d.read.recording; number = d.read.number; rest = decides.rest } in
    let read : parse_from n Opening (lines_of_text bytes.items) ≡ Ok known =
    reached_end n (lines_of_text bytes.items) r m [] [] (record {
      lines = at.lines;
      are = are;
      leads = at.leads;
      number = at.number;
    }) in
    let same : found ≡ known = one_read found known (sym decides.reads ∙ read) in
    record {
      recorded = ap (λ (x : OneRead). x.recorded) same;
      number = ap (λ (x : OneRead). x.number) same;
    }

-- an order of all calls is a linearization
pub ordered : (ks : List Kind) (r : RecordingModel) (order : List Placed) → IsRecording r ks
    → IsPlacedOrder (IsRun (start ks)) (completed_calls (reverse r.events))
    (pending_calls (reverse r.events)) (clock (reverse r.events)) order
    → IsLinearizable ks (reverse r.events)
ordered ks r order recording placed =
    let late = answers_become_responses ks (reverse r.events) (calls_of order) recording.history
    placed.legal in
    (late.0, late.1)

pub good_by_order : (r : RecordingModel) (order : List Placed) → HasOrder r order → IsGood r
good_by_order r order has = record {
  kinds = has.0;
  recording = has.1;
  linearizable = ordered has.0 r order has.1 has.2;
}
