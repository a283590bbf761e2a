-- The objects of a buffer, and how they are declared.
use Rattle.std.specs.Prelude.{◌≡◌, ℕ, ◌+◌, ◌<◌, ◌≤◌, Bool, false, ◌==◌, ◌||◌, nat_lt, List, ◌++◌, length, Option}
use Rattle.ec_count.specs.declared.setup.SetupFault.{SetupFault}
use Rattle.ec_count.specs.Declares.{DeclaresFixedEvent, DeclaresSequencer, DeclaresCells, with_sequencer}
use Rattle.ec_count.specs.Roles.{roles_fault, shares_worker}
use Rattle.ec_count.specs.Tables.{Tables, with_fixed_event, with_cells}

-- the eventcounts of the puts and of the gets, the sequencers of the producers and of the consumers, and the cells from the first on
pub record Buffer : Type 0 where
  pub in_count : ℕ
  pub out_count : ℕ
  pub put_seq : ℕ
  pub take_seq : ℕ
  pub first_cell : ℕ
  pub cells : ℕ

-- what is true of a shape
pub record IsShape (b : Buffer) : Type 0 where
  pub counts : (b.in_count == b.out_count) ≡ false
  pub sequencers : (b.put_seq == b.take_seq) ≡ false
  pub some : 0 < b.cells
  pub room : b.first_cell + b.cells ≤ 256

-- whether some table has no room for a buffer of n cells
abbrev pub lacks_room : Tables → ℕ → Bool
lacks_room t n = nat_lt 32 (length t.events + 2) || nat_lt 32 (length t.takers + 2) || nat_lt 256 (length t.cells + n)

-- why a buffer of n cells can't be declared, if it can't
abbrev pub buffer_fault : Tables → ℕ → List ℕ → List ℕ → Option SetupFault
buffer_fault t n produce consume = roles_fault t (lacks_room t n) produce consume (n == 0)

-- the tables with one more buffer
abbrev pub with_buffer : Tables → ℕ → List ℕ → List ℕ → Tables
with_buffer t n produce consume =
    let both = produce ++ consume in
    let counted = with_fixed_event (with_fixed_event t produce both) consume both in
    let drawn = with_sequencer (with_sequencer counted produce) consume in
    with_cells drawn n produce consume

-- the objects of a buffer that is added to the tables
abbrev pub next_buffer : Tables → ℕ → Buffer
next_buffer t n = record {
  in_count = length t.events;
  out_count = length t.events + 1;
  put_seq = length t.takers;
  take_seq = length t.takers + 1;
  first_cell = length t.cells;
  cells = n;
}

-- the objects of the buffer are declared for these producers and consumers, who share no worker;
-- the components of its eventcounts are not transferable
pub record DeclaresBuffer (b : Buffer) (t : Tables) (produce consume : List ℕ) : Type 0 where
  pub in_count : DeclaresFixedEvent t b.in_count produce (produce ++ consume)
  pub out_count : DeclaresFixedEvent t b.out_count consume (produce ++ consume)
  pub put_seq : DeclaresSequencer t b.put_seq produce
  pub take_seq : DeclaresSequencer t b.take_seq consume
  pub cells : DeclaresCells t b.first_cell b.cells produce consume
  pub apart : shares_worker produce consume ≡ false

-- the objects of the buffer are declared for some producers and consumers
abbrev pub Fits : Buffer → Tables → Type 0
Fits b t = (produce : List ℕ) × (consume : List ℕ) × DeclaresBuffer b t produce consume
