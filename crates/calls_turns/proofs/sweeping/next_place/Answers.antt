use Rattle.std.proofs.Common.{◌≡◌, ◌<◌, ℕ, length, get_or, arith, subst, sym, inl, MatchOption}
use Rattle.calls_turns.specs.Sweeps.{turn_at}
use Rattle.calls_turns.specs.Swept.{IsSuited, NobodySuited}
use Rattle.calls_turns.proofs.Filling.{free_below, none_suited, closed}
use Rattle.calls_turns.proofs.sweeping.next_place.Goals as goal
use Rattle.calls_turns.proofs.sweeping.next_place.Goals.{else-k-turns-via-then-k-turns+else-turns-k}
use Rattle.calls_turns.proofs.sweeping.next_place.Goals.{else-k-turns-via-else-k-turns}

pub suited-requires : goal.suited-requires
suited-requires c =
    let s = c.args.sweep.now in
    let takers = c.args.takers.now in
    subst (λ l. (i : ℕ) → i < length l → get_or l i 0 < length takers) (sym c.deref.ensures.value)
    (λ i lt. omega (
      arith,
      c.requires.split.within,
      free_below takers s.fills.items s.next s.free.items c.requires.split i lt,
    ))

pub returns-then-turns-k-clause-none : goal.returns-then-turns-k-clause-none
returns-then-turns-k-clause-none c end filled =
    let s = c.args.sweep.now in
    let takers = c.args.takers.now in
    let turns = c.args.turns.now in
    let k = c.len-k.result in
    let e : k ≡ length s.fills.items = omega (arith, c.len-k.ensures, s.fills.ok) in
    let o = (turn_at turns k).item in
    none_suited turns takers s.fills.items s.next s.free.items c.args.at k c.suited.result
    c.requires.split c.requires.later e c.if-k-turns.true
    (subst (λ l. MatchOption c.suited.result (NobodySuited takers l c.args.at o)
    (λ place. IsSuited takers l c.args.at o place)) c.deref.ensures.value c.suited.ensures)

pub returns-else-k-turns-clause-none : goal.returns-else-k-turns-clause-none
returns-else-k-turns-clause-none c end filled =
    let s = c.args.sweep.now in
    let takers = c.args.takers.now in
    let turns = c.args.turns.now in
    let k = c.len-k.result in
    let e : k ≡ length s.fills.items = omega (arith, c.len-k.ensures, s.fills.ok) in
    elim c.else-k-turns.branch [
      | else-k-turns-via-then-k-turns+else-turns-k w ↦
          closed turns takers s.fills.items c.args.at k (length s.fills.items) e w.if-k-turns.true
          w.if-turns-k.false
      | else-k-turns-via-else-k-turns w ↦ inl (omega (arith, w.if-k-turns.false))
    ]
