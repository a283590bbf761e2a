use Rattle.std.proofs.Common.{◌≡◌, ◌+◌, ◌*◌, ◌<◌, ◌≤◌, ℕ, length, slice_get, slice_index, Some, take, drop, ap, sym, ◌∙◌, arith}
use Rattle.std.proofs.lemmas.List.FromFn.{length-map-range_with_len}
use Rattle.std.proofs.lemmas.Option.{slice_get_past}
use Rattle.ec_database.specs.Tries.{TryTable}
use Rattle.ec_database.specs.kept.Rows.{try_at, tries_in}
use Rattle.ec_database.proofs.Rows.{row_within, row_read, try_got}
use Rattle.ec_database.proofs.tries.AcceptedTries.get.Goals as goal

pub returns-then-place-self : goal.returns-then-place-self
returns-then-place-self c =
    let s = c.self.inside in
    let i = c.args.place in
    let long : length (tries_in s.cells s.numbers.list s.count) ≡ s.count = length-map-range_with_len (try_at s.cells s.numbers.list) 0 s.count in
    let past : s.count ≤ i = c.if-place-self.true in
    sym (slice_get_past (tries_in s.cells s.numbers.list s.count) i (omega arith)) ∙ ap (λ (t : TryTable). slice_get t.list i) c.self.view_is

pub returns : goal.returns
returns c =
    let s = c.self.inside in
    let i = c.args.place in
    let lt : i < s.count = c.if-place-self.false in
    let first : ℕ = i * (s.cells + 2) in
    let room : first + (s.cells + 2) ≤ length s.numbers.list = row_within s.cells s.numbers.list s.count i c.self.invariant lt in
    let worker : c.unwrap.result ≡ slice_index s.numbers.list first = grind arith in
    let version : c.at-2.result ≡ slice_index s.numbers.list (first + 1) = c.at-2.ensures in
    let values = take s.cells (drop (first + 2) s.numbers.list) in
    ap (λ w. Some (record { worker = w; version = c.at-2.result; values = values })) worker
    ∙ ap (λ v. Some (record { worker = slice_index s.numbers.list first; version = v; values = values })) version
    ∙ ap Some (sym (row_read s.cells s.numbers.list first (first + 1) (first + 2) (omega arith) (omega arith) (omega arith)))
    ∙ sym (try_got s.cells s.numbers.list s.count i lt) ∙ ap (λ (t : TryTable). slice_get t.list i) c.self.view_is
