use Rattle.std.proofs.Common.{◌≡◌, ◌<◌, ◌-◌, ℕ, length, take, slice_range, ap, sym, ◌∙◌, subst, arith, rules}
use Rattle.ec_trace.proofs.Ranges.{holds, empty_at, length_range, range_joined}
use Rattle.std.specs.Io.KnownBytes.{Consumes}
use Rattle.ec_trace.proofs.shared.KnownInputs.{passed_on}
use Rattle.ec_trace.proofs.lines.Lines.refill.Goals as goal

pub returns-in_err-n : goal.returns-in_err-n
returns-in_err-n g c =
    let h = holds _ _ _ _ _ _ _ _ _ c.self.invariant in
    let v = c.self.view_is in
    let low : length (slice_range c.self.inside.piece.items c.self.inside.from c.self.inside.end) ≡ 0 = ap (λ r. length r.behind) v ∙ ap length c.requires.taken in
    let high : length (slice_range c.self.inside.piece.items c.self.inside.end c.self.inside.read) ≡ 0 = ap (λ r. length r.over) v ∙ ap length c.requires.within in
    let i = c.self.invariant in
    let stays : length (slice_range c.read_piece.new.table.items c.self.inside.from c.self.inside.end) ≡ 0 = ap length (empty_at c.read_piece.new.table.items c.self.inside.from c.self.inside.end (omega (arith, h.behind, low))) in
    let ends : length (slice_range c.read_piece.new.table.items c.self.inside.end c.self.inside.read) ≡ 0 = ap length (empty_at c.read_piece.new.table.items c.self.inside.end c.self.inside.read (omega (arith, h.over, high))) in
    passed_on _ _ _ _ c.from_residual.ensures.1 (record {
      number = ap (λ r. r.number) v;
      taken = ap (λ r. r.taken) v;
      part = ap (λ r. r.part) v;
      behind = empty_at c.read_piece.new.table.items c.self.inside.from c.self.inside.end (omega (arith, h.behind, low));
      over = empty_at c.read_piece.new.table.items c.self.inside.end c.self.inside.read (omega (arith, h.over, high));
      within = record {
        bound = omega (arith, i.bound, i.taken, stays);
        full = λ some. omega (arith, some, ends);
        short = i.short;
        plain = i.plain;
      };
      kept = c.in_err-n.ensures.bytes;
    })

pub returns : goal.returns
returns g c =
    let i = c.self.invariant in
    let h = holds _ _ _ _ _ _ _ _ _ i in
    let v = c.self.view_is in
    let low : length (slice_range c.self.inside.piece.items c.self.inside.from c.self.inside.end) ≡ 0 = ap (λ r. length r.behind) v ∙ ap length c.requires.taken in
    let room : length c.read_piece.new.table.items ≡ 8192 = c.in_ok-n.ensures.len ∙ i.room in
    let whole = range_joined c.read_piece.new.table.items 0 c.min-self-inside.result c.in_ok-n.n (omega arith) (omega arith) (omega (arith, c.in_ok-n.ensures.bound, room)) in
    let all : slice_range c.read_piece.new.table.items 0 c.in_ok-n.n ≡ take c.in_ok-n.n c.read_piece.new.table.items = ap (λ (n : ℕ). take n c.read_piece.new.table.items) (omega arith) in
    let behind : length (slice_range c.read_piece.new.table.items 0 c.min-self-inside.result) ≡ c.min-self-inside.result = omega (arith, length_range c.read_piece.new.table.items 0 c.min-self-inside.result (omega arith) (omega (arith, c.in_ok-n.ensures.bound, room))) in
    let over : length (slice_range c.read_piece.new.table.items c.min-self-inside.result c.in_ok-n.n) ≡ c.in_ok-n.n - c.min-self-inside.result = length_range c.read_piece.new.table.items c.min-self-inside.result c.in_ok-n.n (omega arith) (omega (arith, c.in_ok-n.ensures.bound, room)) in
    record {
      number = ap (λ r. r.number) v;
      taken = omega (arith, low, h.behind, i.taken, ap (λ r. r.taken) v);
      part = ap (λ r. r.part) v;
      gave = subst (Consumes (g.R.Read.remaining c.args.reader.now) (g.R.Read.remaining c.read_piece.new.reader)) (sym (whole ∙ all)) c.in_ok-n.ensures.bytes.0;
      within = record {
        bound = omega (arith, behind, i.bound);
        full = λ some. omega (arith, some, over, behind, i.bound);
        short = i.short;
        plain = i.plain;
      };
      some = λ more. (let n : 0 < c.in_ok-n.n = search rules in omega (arith, behind, over, n));
      none = λ none. (let n : c.in_ok-n.n ≡ 0 = search rules in (empty_at c.read_piece.new.table.items 0 c.min-self-inside.result (omega arith), empty_at c.read_piece.new.table.items c.min-self-inside.result c.in_ok-n.n (omega arith), c.in_ok-n.ensures.bytes.1 n (omega (arith, room))));
    }
