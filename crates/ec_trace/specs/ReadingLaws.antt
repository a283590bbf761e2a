-- Theorems about reading: a trace is read as what it encodes, and nothing else is read.
use Rattle.std.specs.Prelude.{◌≡◌, ◌≤◌, ℕ, List, [], ◌++◌, Ok, length, reverse}
use Rattle.ec_core.specs.declared.act.Entry.{Entry}
use Rattle.ec_core.specs.Acceptance.{IsAccepted}
use Rattle.ec_heading.specs.HeaderTree.{HeaderTree, IsHeaderTree, heading_of_tree}
use Rattle.ec_heading.specs.Spelling.{trace_header, trace_text}
use Rattle.ec_heading.specs.Upgrade.{upgrade_heading, upgraded_outline}
use Rattle.ec_heading.specs.Versions.{CanSpellAll}
use Rattle.ec_heading.specs.declared.version.Version.TheVariants.{Two}
use Rattle.ec_trace.specs.Grammar.{IsTrace}
use Rattle.ec_trace.specs.TraceModel.{TraceModel}
use Rattle.ec_trace.specs.declared.fault.TraceFault.{TraceFault}
use Rattle.ec_trace.specs.declared.fault.TraceFault.TheVariants.{Read, Memory}
use Rattle.ec_trace.specs.Outcome.{parse_result}
use Rattle.ec_trace.specs.declared.read.TheConstants.{TRACE_MAX}

-- a trace is read as its header and its history
abbrev pub TraceIsRead : Type 0
TraceIsRead = (bytes : List ℕ) (o : HeaderTree) (entries : List Entry) → IsTrace bytes o entries → parse_result TRACE_MAX bytes ≡ Ok (record { heading = heading_of_tree o; entries = entries })

-- the bytes are a trace, and this is its header and its history
pub record IsTraceOf (bytes : List ℕ) (t : TraceModel) : Type 0 where
  pub outline : HeaderTree
  pub trace : IsTrace bytes outline t.entries
  pub declares : heading_of_tree outline ≡ t.heading

-- the bytes are the trace of no header and history
abbrev pub IsNoTrace : List ℕ → Type 0
IsNoTrace bytes = (o : HeaderTree) (entries : List Entry) → IsTrace bytes o entries → ⊥

-- what a fault says of the bytes of a whole input: they are no trace; out of memory and a failed
-- read say nothing of them (on what was read before a failed read, see HasNoFault)
abbrev pub Refuses : TraceFault → List ℕ → Type 0
Refuses Memory bytes = Unit {0}
Refuses Read bytes = Unit {0}
Refuses fault bytes = IsNoTrace bytes

-- what is read is a trace
abbrev pub ReadIsTrace : Type 0
ReadIsTrace = (bytes : List ℕ) (t : TraceModel) → parse_result TRACE_MAX bytes ≡ Ok t
    → IsTraceOf bytes t

-- no two triples of a version, a header and a history share a trace
abbrev pub TraceHasOneMeaning : Type 0
TraceHasOneMeaning = (bytes : List ℕ) (o p : HeaderTree) (es fs : List Entry) → IsTrace bytes o es → IsTrace bytes p fs → (o ≡ p) × (es ≡ fs)

-- no trace is a proper prefix of another
abbrev pub TracesArePrefixFree : Type 0
TracesArePrefixFree = (bytes more : List ℕ) (o p : HeaderTree) (es fs : List Entry) → IsTrace bytes o es → IsTrace (bytes ++ more) p fs → more ≡ []

-- the trace of an accepted history under a header whose version allows it is read as that header
-- and that history, if it is within the bound
abbrev pub WrittenIsReadAgain : Type 0
WrittenIsReadAgain = (o : HeaderTree) (entries : List Entry) → IsHeaderTree o → IsAccepted (heading_of_tree o).setup (reverse entries) → CanSpellAll o.version entries → length (trace_text o entries) ≤ TRACE_MAX
    → parse_result TRACE_MAX (trace_text o entries) ≡ Ok (record { heading = heading_of_tree o; entries = entries })

-- a text that is the trace of the same declarations and the same history under version 2: after the
-- first line it has the same bytes, so it is as long, and it is the same text if that has version
-- 2; and it is read so
pub record UpgradesTo (bytes text : List ℕ) (o : HeaderTree) (entries : List Entry) : Type 0 where
  pub trace : IsTrace text (upgraded_outline o) entries
  pub behind : List ℕ
  pub was : bytes ≡ trace_header o.version ++ behind
  pub is_now : text ≡ trace_header Two ++ behind
  pub as_long : length text ≡ length bytes
  pub returned : parse_result TRACE_MAX text ≡ Ok (record { heading = upgrade_heading (heading_of_tree o); entries = entries })
  pub as_it_was : o.version ≡ Two → text ≡ bytes

-- each trace has such a text, within the bound of a trace too
abbrev pub TracesAreUpgraded : Type 0
TracesAreUpgraded = (bytes : List ℕ) (o : HeaderTree) (entries : List Entry) → IsTrace bytes o entries → UpgradesTo bytes (trace_text (upgraded_outline o) entries) o entries
