use Rattle.std.proofs.Common.{◌≡◌, ◌+◌, ◌≤◌, length, take, true, false}
use Rattle.std.specs.List.{flat_map}
use Rattle.ec_text.specs.Puts.{Puts, with_bytes}
use Rattle.ec_text.proofs.output.Output.put_all.Given as goal

abbrev pub invariant-loop-piece : goal.invariant-loop-piece
invariant-loop-piece g l = record {
  puts : Puts l.initial.self l.self (flat_map (λ p. p.now) (take l.piece-index l.pieces));
  room : l.initial.self.failed ≡ false → length l.initial.self.waiting + length (flat_map (λ p. p.now) (take l.piece-index l.pieces)) ≤ 8192
      → l.self ≡ with_bytes l.initial.self (flat_map (λ p. p.now) (take l.piece-index l.pieces));
  stays : l.initial.self.failed ≡ true → l.self ≡ l.initial.self;
}
