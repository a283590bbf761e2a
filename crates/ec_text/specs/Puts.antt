-- What a buffered writer has after bytes were put.
use Rattle.std.specs.Prelude.{◌≡◌, ◌<◌, [], ℕ, List, ◌++◌, length, Option, Some, None, Bool, true, false, ⊤}
use Rattle.std.specs.Io.KnownBytes.{Appends}

-- a buffered writer: the writer, by the name of the reference to it; its contents, if known; the
-- bytes in the buffer; and whether a write has failed
pub record OutputModel : Type 0 where
  pub writer : ℕ
  pub contents : Option (List ℕ)
  pub waiting : List ℕ
  pub failed : Bool

-- a writer with these contents and an empty buffer
abbrev pub at_first : ℕ → Option (List ℕ) → OutputModel
at_first writer contents = record { writer = writer; contents = contents; waiting = []; failed = false }

-- the buffer is empty, and no write has failed
abbrev pub IsFresh : OutputModel → Type 0
IsFresh out = (out.waiting ≡ []) × (out.failed ≡ false)

-- the buffer is empty, or a write has failed
abbrev pub IsWrittenOut : OutputModel → Type 0
IsWrittenOut out = out.failed ≡ false → out.waiting ≡ []

abbrev pub with_bytes : OutputModel → List ℕ → OutputModel
with_bytes out bs = record out { waiting = out.waiting ++ bs }

-- known contents stay, and a proper prefix of bs follows them
abbrev pub AppendsPrefix : Option (List ℕ) → Option (List ℕ) → List ℕ → Type 0
AppendsPrefix None new bs = ⊤
AppendsPrefix (Some xs) None bs = ⊥
AppendsPrefix (Some xs) (Some ys) bs = (prefix rest : List ℕ) × (bs ≡ prefix ++ rest) × (ys ≡ xs ++ prefix) × (0 < length rest)

-- The contents of the writer were start and are now, and all of these bytes were put. If no write
-- failed, each was written or is in the buffer; after a failure a proper prefix of them was
-- written.
abbrev pub HoldsAs : Option (List ℕ) → Option (List ℕ) → Bool → List ℕ → List ℕ → Type 0
HoldsAs start now false waiting all = (written : List ℕ) × (all ≡ written ++ waiting) × Appends start now written
HoldsAs start now true waiting all = AppendsPrefix start now all

-- The same of a writer whose buffer was empty at first. It does not unfold by itself, so that
-- callers' proofs stay short: they need only the clauses.
unfoldable pub Holds : OutputModel → OutputModel → List ℕ → Type 0
Holds first out all = (out.writer ≡ first.writer) × HoldsAs first.contents out.contents out.failed out.waiting all

-- The bytes were put, whatever had been put before.
abbrev pub Puts : OutputModel → OutputModel → List ℕ → Type 0
Puts old new bs = (first : OutputModel) (all : List ℕ) → Holds first old all → Holds first new (all ++ bs)
