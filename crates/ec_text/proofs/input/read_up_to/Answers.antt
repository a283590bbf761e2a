use Rattle.std.proofs.Common.{rules, ◌≡◌, ◌<◌, ◌+◌, ◌-◌, ◌++◌, ℕ, List, length, take, arith, ap, subst, ◌∙◌}
use Rattle.std.proofs.lemmas.List.{length-append, length-take-le}
use Rattle.std.specs.Io.KnownBytes.{Consumes}
use Rattle.ec_text.specs.Inputs.{looked_at, IsReadUp}
use Rattle.ec_text.proofs.InputLemmas.{consumes_on, consumes_none, all_read, enough_read, past_bound, at_end, both_known}
use Rattle.ec_text.proofs.input.read_up_to.Goals as goal

pub loop-n-init : goal.loop-n-init
loop-n-init g c = record {
  within = omega (arith, ap length c.new-text.ensures.items);
  table = search rules;
  represents = rw c.new-text.ensures.items (consumes_none (g.R.Read.remaining c.args.reader.now));
}

pub returns-then-n-eq0 : goal.returns-then-n-eq0
returns-then-n-eq0 g c =
    let b = c.in-Ok.ensures in
    let i = c.loop-n.invariant in
    let buf : List ℕ = c.read_piece.new.table.items in
    let some : 0 < length buf = omega (arith, b.len, i.table) in
    let none : Consumes (g.R.Read.remaining c.loop-n.reader) (g.R.Read.remaining c.read_piece.new.reader) (take 0 buf) =
    subst (λ (n : ℕ). Consumes (g.R.Read.remaining c.loop-n.reader) (g.R.Read.remaining c.read_piece.new.reader) (take n buf)) c.if-n-eq0.true b.bytes.0 in
    both_known (λ bytes. c.loop-n.text.items ≡ looked_at c.args.most bytes) (λ bytes. IsReadUp c.args.most bytes (g.R.Read.remaining c.read_piece.new.reader)) _
    (all_read c.args.most _ (g.R.Read.remaining c.loop-n.reader) (g.R.Read.remaining c.read_piece.new.reader) c.loop-n.text.items buf i.within i.represents none (b.bytes.1 c.if-n-eq0.true some))
    (at_end c.args.most _ (g.R.Read.remaining c.loop-n.reader) (g.R.Read.remaining c.read_piece.new.reader) c.loop-n.text.items buf i.within i.represents none (b.bytes.1 c.if-n-eq0.true some))

pub returns-then-n-room : goal.returns-then-n-room
returns-then-n-room g c =
    let b = c.in-Ok.ensures in
    let i = c.loop-n.invariant in
    let buf : List ℕ = c.read_piece.new.table.items in
    let room : ℕ = c.args.most + 1 - c.len.result in
    let full : length c.loop-n.text.items + room ≡ c.args.most + 1 = omega (arith, c.len.ensures, i.within) in
    let enough : c.args.most < length c.loop-n.text.items + c.in-Ok.n = omega (arith, c.if-n-room.true, c.len.ensures, i.within) in
    rw c.in_ok-keep_prefix.ensures
    (both_known (λ bytes. c.loop-n.text.items ++ take room buf ≡ looked_at c.args.most bytes) (λ bytes. IsReadUp c.args.most bytes (g.R.Read.remaining c.read_piece.new.reader)) _
    (enough_read c.args.most room c.in-Ok.n _ (g.R.Read.remaining c.loop-n.reader) (g.R.Read.remaining c.read_piece.new.reader) c.loop-n.text.items buf full c.if-n-room.true b.bound.0 i.represents b.bytes.0)
    (past_bound c.args.most c.in-Ok.n _ (g.R.Read.remaining c.loop-n.reader) (g.R.Read.remaining c.read_piece.new.reader) c.loop-n.text.items buf i.within enough b.bound.0 (b.len ∙ i.table) i.represents b.bytes.0))

pub loop-n-preserved : goal.loop-n-preserved
loop-n-preserved g c =
    let b = c.in-Ok.ensures in
    let buf : List ℕ = c.read_piece.new.table.items in
    let e = c.in_ok-keep_prefix-2.ensures in
    let small : length (take c.in-Ok.n buf) ≡ c.in-Ok.n = length-take-le c.in-Ok.n buf b.bound.0 in
    let len : length c.keep_prefix-in-loop-n.new.text.items ≡ length c.loop-n.text.items + c.in-Ok.n =
    ap length e ∙ length-append c.loop-n.text.items (take c.in-Ok.n buf) ∙ ap (λ k. length c.loop-n.text.items + k) small in record {
      within = omega (arith, len, c.if-n-room.false, c.len.ensures);
      table = search rules;
      represents = rw e (consumes_on _ (g.R.Read.remaining c.loop-n.reader) (g.R.Read.remaining c.read_piece.new.reader) c.loop-n.text.items (take c.in-Ok.n buf) c.loop-n.invariant.represents b.bytes.0);
    }
