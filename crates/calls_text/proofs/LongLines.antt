-- A line of more than 8192 bytes has no form.
use Rattle.std.proofs.Common.{◌≡◌, ◌<◌, ◌||◌, ◌&&◌, ℕ, true, false, cond, List, length, Ok, Err}
use Rattle.std.proofs.Common.{refl, ap, sym, ◌∙◌, arith, bytes_eq, codes, ◌==◌, lit<}
use Rattle.std.specs.Prelude.{nat_lt}
use Rattle.std.specs.List.{list_any}
use Rattle.std.proofs.lemmas.Bool.{lt-ltb}
use Rattle.std.proofs.lemmas.Slice.Eq.{bytes_eq-Decides}
use Rattle.ec_heading.specs.Heading.{head_step, is_no_line, words_step}
use Rattle.ec_heading.specs.HeadingModel.{HeadingModel}
use Rattle.ec_heading.specs.declared.heading.HeadFault.TheVariants as heads
use Rattle.ec_text.specs.Words.{words_of}
use Rattle.calls_core.specs.declared.history.Event.{Event}
use Rattle.calls_text.specs.declared.fault.FaultKind.TheVariants as kinds
use Rattle.calls_text.specs.declared.fault.Cause.TheVariants as causes
use Rattle.calls_text.specs.declared.fault.TextFault.TheVariants as faults
use Rattle.calls_text.specs.declared.stage.Stage as held
use Rattle.calls_text.specs.declared.stage.Stage.TheVariants as holds
use Rattle.calls_text.specs.Causes.{line_cause, header_cause}
use Rattle.calls_text.specs.Forms.{phrase_in}
use Rattle.calls_text.specs.Recordings.{RecordingModel}
use Rattle.calls_text.specs.Reading.{Opening, Limiting, Declaring, Running, Ended, step, is_ended}
use Rattle.calls_text.specs.Reading.{Draft, limit_step, limit_or, limit_digits, draft_step, is_from}
use Rattle.calls_text.specs.Reading.{from_step, from_or, from_words, map_heading, event_step, map_running, map_draft}
use Rattle.calls_text.specs.Reading.{after_phrase, recorded_of, with_events}
use Rattle.calls_text.specs.kept.Stages.{seen_with}
use Rattle.calls_text.specs.Following.{IsFaulty, long_kind}

module _ (line : List ℕ) (long : 8192 < length line) where
  is_long : nat_lt 8192 (length line) ≡ true
  is_long = lt-ltb 8192 (length line) long

  other : (c : List ℕ) → length c < 100 → bytes_eq line c ≡ false
  other c few =
      elim (bytes_eq line c) as (λ b. bytes_eq line c ≡ b → b ≡ false) [
        | true ↦ λ e. absurd (omega (arith, ap length ((bytes_eq-Decides line c).0 e), long, few))
        | false ↦ λ e. refl
      ] refl

  no_line : is_no_line line ≡ true
  no_line = ap (λ b. b || list_any (λ w. length w == 0) (words_of line)) is_long

  caused : line_cause line ≡ causes.Long
  caused = rw is_long refl

  header_caused : header_cause line ≡ causes.Long
  header_caused =
      let a : bytes_eq line (codes "evc-trace 1") ≡ false = other (codes "evc-trace 1") (lit< tt) in
      let b : bytes_eq line (codes "evc-trace 2") ≡ false = other (codes "evc-trace 2") (lit< tt) in
      let c : bytes_eq line (codes "evc-script 1") ≡ false = other (codes "evc-script 1") (lit< tt) in
      let d : bytes_eq line (codes "evc-script 2") ≡ false = other (codes "evc-script 2") (lit< tt) in
      rw (a, b, c, d) caused

  at_first : step Opening line ≡ Err kinds.BadHeader
  unfolding step
  at_first = ap (λ b. cond b (Ok Limiting) (Err kinds.BadHeader)) (other (codes "evc-calls 1") (lit< tt))

  limited : limit_step line ≡ Err kinds.BadLine
  unfolding limit_step
  limited = ap (λ b. cond b (Err kinds.BadLine) (limit_or (limit_digits (words_of line)))) is_long

  at_limit : step Limiting line ≡ Err kinds.BadLine
  unfolding step
  at_limit = ap map_draft limited

  from_long : (d : Draft) → from_step d line ≡ Err kinds.BadLine
  unfolding from_step
  from_long d = ap (λ b. cond b (Err kinds.BadLine) (from_or d (from_words (words_of line)))) no_line

  head_long : (h : HeadingModel) → head_step h line ≡ Err heads.BadLine
  unfolding head_step
  head_long h = ap (λ b. cond b (Err heads.BadLine) (words_step h (words_of line))) no_line

  drafted : (d : Draft) → draft_step d line ≡ Err kinds.BadLine
  drafted d =
      elim (is_from d line) as (λ b. cond b (from_step d line) (map_heading d (head_step d.heading line))
      ≡ Err kinds.BadLine) [
        | true ↦ from_long d
        | false ↦ ap (map_heading d) (head_long d.heading)
      ]

  at_heading : (d : Draft) → step (Declaring d) line ≡ Err kinds.BadLine
  unfolding step
  at_heading d =
      ap (λ b. cond (b && nat_lt 0 d.heading.setup.workers) (Ok (Running (recorded_of d)))
      (map_draft (draft_step d line))) (other (codes "run") (lit< tt))
      ∙ ap map_draft (drafted d)

  event_long : (r : RecordingModel) → event_step r line ≡ Err kinds.BadLine
  unfolding event_step
  event_long r =
      ap (λ b. cond b (Err kinds.BadLine) (after_phrase r (phrase_in (words_of line)))) no_line

  at_events : (r : RecordingModel) → step (Running r) line ≡ Err kinds.BadLine
  unfolding step
  at_events r =
      ap (λ b. cond b (Ok (Ended r)) (map_running (event_step r line))) (other (codes "end") (lit< tt))
      ∙ ap map_running (event_long r)

  pub long_faulty : (n : ℕ) (events : List Event) (s : held.Stage)
      → is_ended (seen_with events s) ≡ false
      → IsFaulty (faults.At n (long_kind s) causes.Long) n line (seen_with events s)
  unfolding is_ended
  long_faulty n events holds.Opening going = (refl, at_first, sym header_caused)
  long_faulty n events holds.Limiting going = (refl, at_limit, sym caused)
  long_faulty n events (holds.Declaring d) going = (refl, at_heading d, sym caused)
  long_faulty n events (holds.Running r) going =
      (refl, at_events (with_events r.recording events), sym caused)
  long_faulty n events (holds.Ended r) going = cc
