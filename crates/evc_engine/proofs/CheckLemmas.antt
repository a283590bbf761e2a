-- The text of a trace, and its parts.
use Rattle.std.proofs.Common.{◌≡◌, ℕ, List, [], ◌∷◌, ◌++◌, Option, Err, inl, inr, ap, sym, ◌∙◌, append_assoc, append-nil, refl, subst, map, reverse}
use Rattle.std.specs.Io.KnownBytes.{Appends, Keeps}
use Rattle.std.proofs.lemmas.List.Concat.{flat_map-append}
use Rattle.ec_count.specs.Tables.{Tables}
use Rattle.ec_core.specs.declared.act.Entry.{Entry}
use Rattle.ec_core.specs.Acceptance.{IsAccepted}
use Rattle.ec_core.specs.Standing.{State}
use Rattle.ec_text.specs.Puts.{AppendsPrefix}
use Rattle.ec_order.specs.declared.linearized_entry.LinearizedEntry.{LinearizedEntry}
use Rattle.ec_order.specs.declared.placed.Placed.{Placed}
use Rattle.ec_order.specs.Points.{ordered_by_points}
use Rattle.ec_order.specs.Linearizer.{LinearizerModel, IsLinearizer, IsGoodLinearization, linearized_entry, linearized_entries}
use Rattle.ec_order.specs.Verdicts.{IsLinearizationWithPoints}
use Rattle.ec_heading.specs.HeadingModel.{HeadingModel}
use Rattle.ec_heading.specs.Spelling.{NameTable, lines_text, ended_line}
use Rattle.ec_trace.proofs.shared.ReadTraces.{read_is_trace, trace_refuses}
use Rattle.ec_trace.specs.Outcome.{Returns}
use Rattle.ec_trace.specs.declared.fault.TraceFault.{TraceFault}
use Rattle.ec_trace.specs.declared.fault.TraceFault.TheVariants.{Read, Memory}
use Rattle.ec_trace.specs.declared.read.TheConstants.{TRACE_MAX}
use Rattle.evc_engine.specs.declared.status.Status.{Status}
use Rattle.evc_engine.specs.declared.status.Status.TheVariants as statuses
use Rattle.evc_engine.specs.kept.Halts.{IsOf, IsReadInto}
use Rattle.evc_engine.specs.Notes.{fault_note, fault_status}
use Rattle.evc_engine.specs.Texts.{linearized_line, placed_line, order_lines, check_text}
use Rattle.evc_engine.specs.Checks.{Checks, Outputs, Notes, ReadsAs, Writes, text_for, HasLinearization}

-- a text of two lists of lines between three lines
pub text_parts : (a b c : List ℕ) (ls ms : List (List ℕ))
    → lines_text (a ∷ ls ++ b ∷ ms ++ c ∷ []) ≡ ended_line a ++ lines_text ls ++ ended_line b ++ lines_text ms ++ ended_line c
text_parts a b c ls ms =
    flat_map-append ended_line (a ∷ ls ++ b ∷ ms) (c ∷ [])
    ∙ ap (λ t. t ++ (ended_line c ++ [])) (flat_map-append ended_line (a ∷ ls) (b ∷ ms))
    ∙ ap (λ t. (ended_line a ++ lines_text ls) ++ (ended_line b ++ lines_text ms) ++ t) (append-nil (ended_line c))
    ∙ ap (λ t. t ++ ended_line c) (sym (append_assoc (ended_line a ++ lines_text ls) (ended_line b) (lines_text ms)))

-- a call that is written as one entry has the line of the call
lines_are : (names : NameTable) (ps : List Placed) → map (linearized_line names) (map linearized_entry ps) ≡ map (placed_line names) ps
lines_are names [] = refl
lines_are names (p ∷ ps) = ap (λ ls. placed_line names p ∷ ls) (lines_are names ps)

module _ (h : HeadingModel) (entries : List Entry) (world : State) (linearizer : LinearizerModel) where
  -- the linearizer's declarations are those of the header
  on_heading : IsReadInto h entries world linearizer → IsAccepted linearizer.setup (reverse entries)
  on_heading g = subst (λ (t : Tables). IsAccepted t (reverse entries)) (g.world_setup ∙ sym g.setup) g.world_stands.accepted

  -- the text that is written is that of the trace
  text_is : (ds : List LinearizedEntry) → IsReadInto h entries world linearizer → (IsLinearizer linearizer (reverse entries) → IsAccepted linearizer.setup (reverse entries) → ds ≡ linearized_entries linearizer.setup (reverse entries))
      → lines_text (order_lines h entries (map (linearized_line h.words) ds)) ≡ text_for (record { heading = h; entries = entries })
  unfolding check_text
  text_is ds g is =
      ap (λ (l : List LinearizedEntry). lines_text (order_lines h entries (map (linearized_line h.words) l))) (is g.represents (on_heading g) ∙ ap (λ t. linearized_entries t (reverse entries)) g.setup)
      ∙ ap (λ ls. lines_text (order_lines h entries ls)) (lines_are h.words (ordered_by_points h.setup (reverse entries)))

  -- the text has a linearization
  pub good_told : (ds : List LinearizedEntry) → IsReadInto h entries world linearizer → (IsLinearizer linearizer (reverse entries) → IsAccepted linearizer.setup (reverse entries) → ds ≡ linearized_entries linearizer.setup (reverse entries))
      → (IsLinearizer linearizer (reverse entries) → IsAccepted linearizer.setup (reverse entries) → IsGoodLinearization linearizer.setup (reverse entries) ds) → HasLinearization (record { heading = h; entries = entries }) (text_for (record { heading = h; entries = entries }))
  good_told ds g is good =
      let t = good g.represents (on_heading g) in
      record {
        placed = t.placed;
        good = subst (λ (s : Tables). IsLinearizationWithPoints s (reverse entries) t.placed) g.setup t.good;
        is = sym (text_is ds g is) ∙ ap (λ (l : List LinearizedEntry). lines_text (order_lines h entries (map (linearized_line h.words) l))) t.returned ∙ ap (λ ls. lines_text (order_lines h entries ls)) (lines_are h.words t.placed);
      }

  pub text_written : (a b : Option (List ℕ)) (ds : List LinearizedEntry)
      → IsReadInto h entries world linearizer
      → (IsLinearizer linearizer (reverse entries) → IsAccepted linearizer.setup (reverse entries) → ds ≡ linearized_entries linearizer.setup (reverse entries))
      → Appends a b (lines_text (order_lines h entries (map (linearized_line h.words) ds))) → Appends a b (text_for (record { heading = h; entries = entries }))
  text_written a b ds g is put = subst (Appends a b) (text_is ds g is) put

  pub front_written : (a b : Option (List ℕ)) (ds : List LinearizedEntry) → IsReadInto h entries world linearizer
      → (IsLinearizer linearizer (reverse entries) → IsAccepted linearizer.setup (reverse entries) → ds ≡ linearized_entries linearizer.setup (reverse entries))
      → AppendsPrefix a b (lines_text (order_lines h entries (map (linearized_line h.words) ds))) → AppendsPrefix a b (text_for (record { heading = h; entries = entries }))
  front_written a b ds g is put = subst (AppendsPrefix a b) (text_is ds g is) put

-- the bytes are read as the trace of this history
pub reads_as : (bytes : List ℕ) (h : HeadingModel) (entries : List Entry) → IsOf bytes h entries → ReadsAs bytes (record { heading = h; entries = entries })
reads_as bytes h entries returned = record { trace = read_is_trace bytes (record { heading = h; entries = entries }) returned; returned = returned }

-- how the writing of its text ended
pub written_checked : (bytes : List ℕ) (left : Option (List ℕ)) (h : HeadingModel) (entries : List Entry) (status : Status) (old new : Outputs) → IsOf bytes h entries → Writes (record { heading = h; entries = entries }) status old new → Checks bytes left status old new
written_checked bytes left h entries statuses.Done old new returned writes = (record { heading = h; entries = entries }, reads_as bytes h entries returned, writes)
written_checked bytes left h entries statuses.InputOutput old new returned writes = inl (record { heading = h; entries = entries }, reads_as bytes h entries returned, writes)
written_checked bytes left h entries statuses.Memory old new returned writes = writes
written_checked bytes left h entries status old new returned writes = absurd writes

-- the trace was not read
pub fault_checked : (bytes : List ℕ) (left : Option (List ℕ)) (fault : TraceFault) (old new : Outputs) → Returns TRACE_MAX bytes left (Err fault) → Keeps old.out new.out → Notes old new (fault_note fault) → Checks bytes left (fault_status fault) old new
fault_checked bytes left Read old new returned out note = inr (returned, out, note)
fault_checked bytes left Memory old new returned out note = (out, note)
fault_checked bytes left fault old new returned out note = (fault, record { none = trace_refuses bytes fault returned; returned = returned }, out, note)
